-- An argument that was found is there.
use Rattle.std.proofs.Common.{◌≡◌, ℕ, ◌<◌, List, [], length, map, Option, Some, None, Result, Ok, Err, slice_get, refl, subst, ℤ}
use Rattle.std.proofs.lemmas.List.{length-map}
use Rattle.std.proofs.lemmas.Option.{slice_get_within}
use Rattle.std.specs.Prelude.{OnOk}
use Rattle.value_model.specs.Answers.{LibAnswer, PrintsLine}
use Rattle.value_model.specs.Arguments as row
use Rattle.value_model.specs.Parts.{meant}
use Rattle.value_model.specs.Values as m
use Rattle.value_model.specs.Values.{Bytes}
use Rattle.value_model.specs.declared.builtin.Builtin.{Builtin}
use Rattle.value_model.specs.declared.error.Wanted.{Wanted}
use Rattle.value_model.specs.declared.value.Value.{Value}
use Rattle.lib_arguments.specs.Checks.{Checks}
use Rattle.lib_arguments.specs.declared.ending.Ending.{Ending}

module _ (vs : List m.Value) (f : Builtin) (i : ℕ) (w : Wanted) (rest : m.Value → LibAnswer) (line : Bytes) where
  -- the row prints no line of its own
  within : (v : Option m.Value) → slice_get vs i ≡ v → row.wanted_argument f i w v rest ≡ PrintsLine line → i < length vs
  within None h e = absurd (cc)
  within (Some v) h e = slice_get_within vs i v h

pub number_there : (texts : List Bytes) (f : Builtin) (i : ℕ) (args : List Value) (result : Result ℤ Ending) → Checks texts (λ z. z) (row.number_at f i (map (meant texts) args)) result → OnOk result (i < length args)
number_there texts f i args (Ok z) h =
    let vs = map (meant texts) args in
    subst (λ n. i < n) (length-map args (meant texts)) (within vs f i _ (λ v. row.number_from f i v (λ z. PrintsLine [])) [] (slice_get vs i) refl (h (λ z. PrintsLine [])))
number_there texts f i args (Err e) h = tt
