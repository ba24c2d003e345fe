-- The values of constants, by the numbers of the chunk's strings.
use Rattle.std.proofs.Common.{◌≡◌, refl, sym, ap, ◌∙◌, ℕ, ◌<◌, List, [], ◌∷◌, length, map, Option, Some, None, option_map}
use Rattle.std.specs.Prelude.{slice_get, unwrap_or}
use Rattle.std.specs.List.{AllByRecursion}
use Rattle.std.proofs.lemmas.Option.{slice_get-map, slice_get_within, get_or_from_slice_get}
use Rattle.byte_text.specs.declared.fixed.StrId.{StrId}
use Rattle.op_words.specs.declared.chunk.Const.{Const}
use Rattle.op_words.specs.declared.chunk.Const.TheVariants as constant
use Rattle.op_words.specs.Chunks.{ChunkOf}
use Rattle.value_model.specs.Parts.{meant}
use Rattle.value_model.specs.Values as m
use Rattle.value_model.specs.Values.{Bytes, Text}
use Rattle.value_model.specs.declared.value.Value.{Value}
use Rattle.machine_code.specs.Code.{IsConstant, value_or_nil, AreConstantsOf}
use Rattle.machine_code.specs.Kept.{AreNumbersOf, text_or_nil, kept}

module _ (chunk : ChunkOf) (texts : List Bytes) (numbers : List StrId) (are : AreNumbersOf texts chunk.strings numbers) where
  string_at : (s : ℕ) → option_map (λ (x : StrId). slice_get texts x.0) (slice_get numbers s) ≡ option_map Some (slice_get chunk.strings s)
  string_at s =
      sym (slice_get-map (λ (x : StrId). slice_get texts x.0) numbers s)
      ∙ ap (λ os. slice_get os s) are
      ∙ slice_get-map Some chunk.strings s

  text_means : (o : Option StrId) (q : Option Bytes) → option_map (λ (x : StrId). slice_get texts x.0) o ≡ option_map Some q
      → meant texts (text_or_nil o) ≡ unwrap_or (option_map (λ bs. Text bs) q) m.Nil
  unfolding meant
  text_means None None e = refl
  text_means None (Some bs) e = absurd cc
  text_means (Some x) None e = absurd cc
  text_means (Some x) (Some bs) e =
      let at : slice_get texts x.0 ≡ Some bs = cc in ap Text (get_or_from_slice_get texts x.0 bs [] at)

  text_plain : (o : Option StrId) (q : Option Bytes) → option_map (λ (x : StrId). slice_get texts x.0) o ≡ option_map Some q
      → IsConstant texts (text_or_nil o)
  text_plain None q e = tt
  text_plain (Some x) None e = absurd cc
  text_plain (Some x) (Some bs) e = let at : slice_get texts x.0 ≡ Some bs = cc in slice_get_within texts x.0 bs at

  kept_means : (c : Const) → meant texts (kept numbers c) ≡ value_or_nil chunk c
  unfolding meant
  kept_means constant.Nil = refl
  kept_means constant.False = refl
  kept_means constant.True = refl
  kept_means (constant.Num z) = refl
  kept_means (constant.Str s) = text_means (slice_get numbers s) (slice_get chunk.strings s) (string_at s)
  kept_means (constant.Import word) = refl

  kept_plain : (c : Const) → IsConstant texts (kept numbers c)
  kept_plain constant.Nil = tt
  kept_plain constant.False = tt
  kept_plain constant.True = tt
  kept_plain (constant.Num z) = tt
  kept_plain (constant.Str s) = text_plain (slice_get numbers s) (slice_get chunk.strings s) (string_at s)
  kept_plain (constant.Import word) = tt

  all_mean : (cs : List Const) → map (meant texts) (map (kept numbers) cs) ≡ map (value_or_nil chunk) cs
  all_mean [] = refl
  all_mean (c ∷ cs) = ap (λ v. v ∷ map (meant texts) (map (kept numbers) cs)) (kept_means c) ∙ ap (λ vs. value_or_nil chunk c ∷ vs) (all_mean cs)

  all_plain : (cs : List Const) → AllByRecursion (IsConstant texts) (map (kept numbers) cs)
  all_plain [] = tt
  all_plain (c ∷ cs) = (kept_plain c, all_plain cs)

  pub constants_kept : (cs : List Const) → AreConstantsOf chunk texts cs (map (kept numbers) cs)
  constants_kept cs = record { values = all_mean cs; plain = all_plain cs }
