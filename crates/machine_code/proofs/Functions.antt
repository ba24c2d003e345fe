-- Functions, one by one.
use Rattle.std.proofs.Common.{◌≡◌, refl, sym, ap, ◌∙◌, ℕ, ◌+◌, ◌<◌, ◌≤◌, List, [], ◌∷◌, ◌++◌, length, map, replicate, Option, Some, None, option_map, get_or, arith, subst, length-append}
use Rattle.std.specs.Prelude.{slice_get}
use Rattle.std.specs.List.{AllByRecursion}
use Rattle.std.proofs.lemmas.Option.{slice_get-map, slice_get-get_or}
use Rattle.std.proofs.lemmas.List.{length-map}
use Rattle.op_words.specs.declared.chunk.Chunk.{Chunk}
use Rattle.op_words.specs.declared.chunk.Const.{Const}
use Rattle.op_words.specs.declared.chunk.Proto.{Proto}
use Rattle.op_words.specs.Chunks.{ChunkOf, ProtoOf, chunk_of, proto_of}
use Rattle.value_model.specs.Values.{Bytes}
use Rattle.value_model.specs.declared.value.Value.{Value}
use Rattle.machine_meaning.specs.Chunks.{proto_at}
use Rattle.machine_code.specs.declared.code.Code.{Code}
use Rattle.machine_code.specs.declared.code.Function.{Function}
use Rattle.machine_code.specs.Code.{IsFunctionOf, IsCodeOf, HoldsNoImports, HasNoImports}
use Rattle.machine_code.proofs.Lists.{push_at, all_push}

-- what a function of a number is
abbrev pub IsNumbered : ChunkOf → (texts : List Bytes) → (n : ℕ) → Function → Type 0
IsNumbered chunk texts n f = (p : ProtoOf) → proto_at chunk n ≡ Some p → IsFunctionOf chunk texts p f

-- the functions of the numbers below one
pub record AreFunctionsTo (chunk : ChunkOf) (texts : List Bytes) (number : ℕ) (fs : List Function) : Type 0 where
  pub count : length fs ≡ number
  pub at : (n : ℕ) (f : Function) → slice_get fs n ≡ Some f → IsNumbered chunk texts n f
  pub imports : AllByRecursion HoldsNoImports fs

pub no_functions : (chunk : ChunkOf) (texts : List Bytes) → AreFunctionsTo chunk texts 0 []
no_functions chunk texts = record { count = refl; at = λ n f e. absurd cc; imports = tt }

pub one_function : (chunk : Chunk) (texts : List Bytes) (number : ℕ) (fs : List Function) (proto : Proto) (f : Function)
    → AreFunctionsTo (chunk_of chunk) texts number fs → slice_get chunk.protos.items number ≡ Some proto
    → IsFunctionOf (chunk_of chunk) texts (proto_of proto) f → HoldsNoImports f
    → AreFunctionsTo (chunk_of chunk) texts (number + 1) (fs ++ f ∷ [])
one_function chunk texts number fs proto f so at is none =
    let there : proto_at (chunk_of chunk) number ≡ Some (proto_of proto) =
    slice_get-map proto_of chunk.protos.items number ∙ ap (option_map proto_of) at in
    let new : IsNumbered (chunk_of chunk) texts number f =
    λ p e. let same : proto_of proto ≡ p = cc in subst (λ q. IsFunctionOf (chunk_of chunk) texts q f) same is in
    record {
      count = omega (arith, length-append fs (f ∷ []), so.count);
      at =
          push_at (λ n f. IsNumbered (chunk_of chunk) texts n f) fs f so.at
          (subst (λ n. IsNumbered (chunk_of chunk) texts n f) (sym so.count) new);
      imports = all_push HoldsNoImports fs f so.imports none;
    }

pub all_functions : (chunk : Chunk) (texts : List Bytes) (number : ℕ) (code : Code) → AreFunctionsTo (chunk_of chunk) texts number code.functions
    → number ≡ length chunk.protos.items → code.main ≡ chunk.main → IsCodeOf (chunk_of chunk) texts code
all_functions chunk texts number code so end main =
    record {
      count = so.count ∙ end ∙ sym (length-map chunk.protos.items proto_of);
      functions = λ n p f at there. so.at n f there p at;
      main = main;
    }
