-- What is given, as rows know it.
use Rattle.std.proofs.Common.{◌≡◌, List, [], ◌∷◌, slice_get, Some, Result, refl, sym, ◌∙◌, ap, ℤ}
use Rattle.std.proofs.lemmas.Option.{get_or_from_slice_get, slice_get_within}
use Rattle.byte_text.specs.declared.fixed.StrId.{StrId}
use Rattle.value_model.specs.CoreRows.{gives}
use Rattle.value_model.specs.Parts.{meant}
use Rattle.value_model.specs.Values as m
use Rattle.value_model.specs.Values.{Bytes}
use Rattle.value_model.specs.declared.value.Value.{Value}
use Rattle.value_model.specs.declared.value.Value.TheVariants as value
use Rattle.luau_tables.specs.Worlds.{IsWorld, store_in}
use Rattle.luau_tables.specs.declared.globals.LibWorld.{LibWorld}
use Rattle.lib_arguments.specs.Rows.{Runs, Gives}
use Rattle.lib_arguments.specs.declared.ending.Ending.{Ending}
use Rattle.lib_arguments.proofs.RowsRun.{gives_runs}
use Rattle.lib_string.specs.Reading.{AddsTexts}
use Rattle.lib_string.proofs.AddedTexts.{adds_store}

pub number_given : (w : LibWorld) (rs rs' : List Value) (z : ℤ) (result : Result (Unit {0}) Ending) → Gives rs rs' (value.Num z ∷ []) result → Runs w w rs rs' result (gives (store_in w) (m.Number z))
unfolding meant
number_given w rs rs' z result h = gives_runs w w rs rs' (value.Num z ∷ []) result (gives (store_in w) (m.Number z)) h ((tt, tt), tt) refl

pub text_given : (a b : LibWorld) → IsWorld a → AddsTexts a b → (rs rs' : List Value) (x : StrId) (bytes : Bytes) (result : Result (Unit {0}) Ending) → slice_get b.names x.0 ≡ Some bytes → Gives rs rs' (value.Str x ∷ []) result → Runs a b rs rs' result (gives (store_in a) (m.Text bytes))
unfolding meant
text_given a b world adds rs rs' x bytes result at h =
    gives_runs a b rs rs' (value.Str x ∷ []) result (gives (store_in a) (m.Text bytes)) h
    ((tt, slice_get_within b.names x.0 bytes at), tt)
    (ap (λ s. gives s (m.Text bytes)) (sym (adds_store a b adds world)) ∙ ap (λ bs. gives (store_in b) (m.Text bs)) (sym (get_or_from_slice_get b.names x.0 bytes [] at)))
