-- Functions are decoded, one by one.
use Rattle.std.proofs.Common.{◌≡◌, ℕ, suc, ◌+◌, List, [], ◌∷◌, ◌++◌, length, Option, Some, None, IfSome, refl, sym, subst, ◌∙◌, arith, length-append}
use Rattle.std.proofs.lemmas.List.{length-map}
use Rattle.std.proofs.lemmas.Option.{slice_get-map, slice_get_within}
use Rattle.std.specs.List.{AllByRecursion}
use Rattle.std.specs.Option.{option_map}
use Rattle.std.specs.Prelude.{slice_get}
use Rattle.op_words.specs.Chunks.{ProtoOf, chunk_of, proto_of}
use Rattle.op_words.specs.declared.chunk.Chunk.{Chunk}
use Rattle.op_words.specs.declared.chunk.Proto.{Proto}
use Rattle.value_model.specs.declared.value.Value.{Value}
use Rattle.luau_tables.specs.Own.{HasText}
use Rattle.luau_tables.specs.Worlds.{MayUseIn}
use Rattle.luau_tables.specs.declared.globals.LibWorld.{LibWorld}
use Rattle.machine_meaning.specs.Chunks.{proto_at}
use Rattle.machine_code.specs.Code.{IsCodeOf, IsFunctionOf}
use Rattle.machine_code.specs.declared.code.Code.{Code}
use Rattle.machine_code.specs.declared.code.Function.{Function}
use Rattle.machine_code.proofs.Lists.{push_at, some_at}
use Rattle.machine_load.specs.Loaded.{IsDecoded, AreDecoded, KnowsImports}

-- what a function of a number is
abbrev IsOfNumber : LibWorld → Chunk → ℕ → Function → Type 0
IsOfNumber w chunk n f = (p : Proto) → slice_get chunk.protos.items n ≡ Some p → IsDecoded (chunk_of chunk) w p f

-- the functions of the numbers below one
pub record AreDecodedTo (w : LibWorld) (chunk : Chunk) (number : ℕ) (fs : List Function) : Type 0 where
  pub count : length fs ≡ number
  pub at : (n : ℕ) (f : Function) → slice_get fs n ≡ Some f → IsOfNumber w chunk n f

pub none_decoded : (w : LibWorld) (chunk : Chunk) → AreDecodedTo w chunk 0 []
none_decoded w chunk = record { count = refl; at = λ n f e. absurd cc }

pub one_decoded : (w : LibWorld) (chunk : Chunk) (number : ℕ) (fs : List Function) (proto : Proto) (f : Function) → AreDecodedTo w chunk number fs
    → slice_get chunk.protos.items number ≡ Some proto → IsDecoded (chunk_of chunk) w proto f → AreDecodedTo w chunk (number + 1) (fs ++ f ∷ [])
one_decoded w chunk number fs proto f so at is =
    let new : IsOfNumber w chunk number f = λ p e. let same : proto ≡ p = cc in subst (λ q. IsDecoded (chunk_of chunk) w q f) same is in
    record {
      count = omega (arith, length-append fs (f ∷ []), so.count);
      at = push_at (λ n f. IsOfNumber w chunk n f) fs f so.at (subst (λ n. IsOfNumber w chunk n f) (sym so.count) new);
    }

pub all_decoded : (w : LibWorld) (chunk : Chunk) (number : ℕ) (code : Code) → AreDecodedTo w chunk number code.functions
    → number ≡ length chunk.protos.items → code.main ≡ chunk.main → AreDecoded w chunk code
all_decoded w chunk number code so end main = record { count = so.count ∙ end; each = λ n p f at there. so.at n f there p at; main = main }

all_from : {X : Type 0} (P : X → Type 0) (xs : List X) → ((n : ℕ) (x : X) → slice_get xs n ≡ Some x → P x) → AllByRecursion P xs
all_from P [] h = tt
all_from P (x ∷ xs) h = (h 0 x refl, all_from P xs (λ n y e. h (suc n) y e))

-- ---- so it is the chunk's code

module _ (w : LibWorld) (chunk : Chunk) (code : Code) (so : AreDecoded w chunk code) where
  -- each function of the chunk has its prototype
  pub prototype : (n : ℕ) (p : ProtoOf) → proto_at (chunk_of chunk) n ≡ Some p → (q : Proto) × (slice_get chunk.protos.items n ≡ Some q) × (proto_of q ≡ p)
  prototype n p at = by (slice_get chunk.protos.items n) refl (sym (slice_get-map proto_of chunk.protos.items n) ∙ at)
    where
      by : (o : Option Proto) → slice_get chunk.protos.items n ≡ o → option_map proto_of o ≡ Some p
          → (q : Proto) × (slice_get chunk.protos.items n ≡ Some q) × (proto_of q ≡ p)
      by None e k = absurd cc
      by (Some q) e k = (q, e, cc)

  pub is_code : IsCodeOf (chunk_of chunk) w.names code
  is_code =
      record {
        count = so.count ∙ sym (length-map chunk.protos.items proto_of);
        functions = λ n p f at there.
            let q = prototype n p at in subst (λ x. IsFunctionOf (chunk_of chunk) w.names x f) q.2 (so.each n q.0 f q.1 there).code;
        main = so.main;
      }

  -- the texts of its imports have their numbers
  pub knows_imports : KnowsImports w.names code
  knows_imports = all_from (λ (f : Function). AllByRecursion (λ o. IfSome o (HasText w.names)) f.imports) code.functions (λ n f there.
      let p = some_at chunk.protos.items n (omega (arith, slice_get_within code.functions n f there, so.count)) in
      all_texts f.imports (so.each n p.0 f p.1 there).usable)
    where
      text_of : (o : Option Value) → IfSome o (MayUseIn w) → IfSome o (HasText w.names)
      text_of None h = tt
      text_of (Some v) h = h.1

      all_texts : (os : List (Option Value)) → AllByRecursion (λ o. IfSome o (MayUseIn w)) os → AllByRecursion (λ o. IfSome o (HasText w.names)) os
      all_texts [] h = tt
      all_texts (o ∷ os) h = (text_of o h.0, all_texts os h.1)
