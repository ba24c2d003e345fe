-- What the row of `tonumber` gives.
use Rattle.std.proofs.Common.{◌≡◌, ℕ, ◌≤◌, ℤ, pos, true, false, cond, List, [], ◌∷◌, slice_get, Some, None, Result, Ok, Err, refl, sym, ◌∙◌, ap, subst, arith}
use Rattle.std.proofs.lemmas.Option.{get_or_from_slice_get}
use Rattle.std.specs.Prelude.{◌&&◌, int_le, unsigned_abs}
use Rattle.std.proofs.lemmas.Bool.Decides.{nat_tests}
use Rattle.std.specs.Fmt.{signed_decimal}
use Rattle.byte_text.specs.declared.fixed.StrId.{StrId}
use Rattle.value_model.specs.Answers as answer
use Rattle.value_model.specs.Arguments as row
use Rattle.value_model.specs.CoreRows as core
use Rattle.value_model.specs.Metamethods.{as_number}
use Rattle.value_model.specs.Parts.{meant}
use Rattle.value_model.specs.Values as m
use Rattle.value_model.specs.Values.{Bytes}
use Rattle.value_model.specs.declared.builtin.Builtin.TheVariants as builtin
use Rattle.value_model.specs.declared.value.Value.{Value}
use Rattle.value_model.specs.declared.value.Value.TheVariants as value
use Rattle.whole_num.specs.NumberTexts.{ReadNumber, read_with_base}
use Rattle.luau_tables.specs.Worlds.{store_in}
use Rattle.luau_tables.specs.declared.globals.LibWorld.{LibWorld}
use Rattle.lib_arguments.specs.Checks.{Fails}
use Rattle.lib_arguments.specs.Rows.{Runs}
use Rattle.lib_arguments.specs.declared.ending.Ending.{Ending}
use Rattle.lib_arguments.specs.declared.ending.Ending.TheVariants.{Stop}
use Rattle.lib_arguments.proofs.RowsRun.{gives_runs, ends}
use Rattle.lib_core.specs.Numbers.{GivesNumber, based_number}

-- ---- what is read

pub number_based : (texts : List Bytes) (radix : ℕ) (v : Value) (z : ℤ) (digits : Bytes) (r : ReadNumber) → v ≡ value.Num z → digits ≡ signed_decimal z → r ≡ read_with_base radix digits → r ≡ based_number radix (meant texts v)
unfolding meant
number_based texts radix v z digits r e d k = k ∙ ap (read_with_base radix) d ∙ ap (λ v. based_number radix (meant texts v)) (sym e)

pub text_based : (texts : List Bytes) (radix : ℕ) (v : Value) (x : StrId) (bs : Bytes) (r : ReadNumber) → v ≡ value.Str x → slice_get texts x.0 ≡ Some bs → r ≡ read_with_base radix bs → r ≡ based_number radix (meant texts v)
unfolding meant
text_based texts radix v x bs r e at k =
    k ∙ ap (read_with_base radix) (sym (get_or_from_slice_get texts x.0 bs [] at)) ∙ ap (λ v. based_number radix (meant texts v)) (sym e)

pub none_based : (texts : List Bytes) (radix : ℕ) (v : Value) → ((z : ℤ) → v ≡ value.Num z → ⊥) → ((x : StrId) → v ≡ value.Str x → ⊥) → None ≡ based_number radix (meant texts v)
unfolding meant
none_based texts radix (value.Num z) n s = absurd (n z refl)
none_based texts radix (value.Str x) n s = absurd (s x refl)
none_based texts radix v n s = refl

-- ---- what is given

module _ (w : LibWorld) (rs rs' : List Value) (result : Result (Unit {0}) Ending) where
  number_runs : (r : ReadNumber) → GivesNumber rs rs' r result → Runs w w rs rs' result (core.number_or_nil (store_in w) r)
  unfolding meant
  number_runs None h = gives_runs w w rs rs' (value.Nil ∷ []) result _ h ((tt, tt), tt) refl
  number_runs (Some (Ok z)) h = gives_runs w w rs rs' (value.Num z ∷ []) result _ h ((tt, tt), tt) refl
  number_runs (Some (Err s)) h =
      subst (λ r. Runs w w rs rs' r (answer.HaltsWith s)) (sym h.0) (subst (λ rs'. Runs w w rs rs' (Err (Stop s)) (answer.HaltsWith s)) (sym h.1) (ends w rs (Stop s) (answer.HaltsWith s) refl))

  -- without a base
  as_number_is : (v : m.Value) → core.to_number (store_in w) v ≡ core.number_or_nil (store_in w) (as_number v)
  unfolding as_number
  as_number_is m.Nil = refl
  as_number_is (m.Number z) = refl
  as_number_is (m.Text bs) = refl
  as_number_is _ = refl

  pub tonumber_gives : (v : Value) (base : m.Value) (r : ReadNumber) → m.Nil ≡ base → r ≡ as_number (meant w.names v) → GivesNumber rs rs' r result → Runs w w rs rs' result (core.to_number_by (store_in w) (meant w.names v) base)
  tonumber_gives v base r nil k h =
      subst (λ row. Runs w w rs rs' result row)
      (ap (core.number_or_nil (store_in w)) k ∙ sym (as_number_is (meant w.names v)) ∙ ap (λ b. core.to_number_by (store_in w) (meant w.names v) b) nil)
      (number_runs r h)

  -- with a base
  to_number_in_is : (radix : ℕ) (v : m.Value) → core.to_number_in (store_in w) radix v ≡ core.number_or_nil (store_in w) (based_number radix v)
  to_number_in_is radix (m.Number z) = refl
  to_number_in_is radix (m.Text bs) = refl
  to_number_in_is radix _ = refl

  in_range : (radix : ℕ) → 2 ≤ radix → radix ≤ 36 → (int_le (pos 2) (pos radix) && int_le (pos radix) (pos 36)) ≡ true
  in_range radix low high = grind (arith, nat_tests)

  pub based_gives : (v : m.Value) (z : ℤ) (radix : ℕ) (r : ReadNumber) → z ≡ pos radix → 2 ≤ radix → radix ≤ 36 → r ≡ based_number radix v → GivesNumber rs rs' r result → Runs w w rs rs' result (core.to_number_based (store_in w) v z)
  based_gives v z radix r e low high k h =
      subst (λ row. Runs w w rs rs' result row)
      (ap (core.number_or_nil (store_in w)) k ∙ sym (to_number_in_is radix v)
      ∙ sym (ap (λ b. cond b (core.to_number_in (store_in w) radix v) (row.out_of_range builtin.Tonumber 1)) (in_range radix low high))
      ∙ ap (λ z. core.to_number_based (store_in w) v z) (sym e))
      (number_runs r h)

-- a base that is not nil
pub based_runs : (w : LibWorld) (rs rs' : List Value) (result : Result (Unit {0}) Ending) (v : m.Value) (base : Value) (given : m.Value) → meant w.names base ≡ given → (base ≡ value.Nil → ⊥) →
    Runs w w rs rs' result (row.number_from builtin.Tonumber 1 (meant w.names base) (core.to_number_based (store_in w) v)) → Runs w w rs rs' result (core.to_number_by (store_in w) v given)
unfolding meant
based_runs w rs rs' result v base given e some h = subst (λ b. Runs w w rs rs' result (core.to_number_by (store_in w) v b)) e (by base some h)
  where
    by : (base : Value) → (base ≡ value.Nil → ⊥) → Runs w w rs rs' result (row.number_from builtin.Tonumber 1 (meant w.names base) (core.to_number_based (store_in w) v)) →
        Runs w w rs rs' result (core.to_number_by (store_in w) v (meant w.names base))
    by value.Nil some h = absurd (some refl)
    by _ some h = h

pub based_ends : (w : LibWorld) (v : m.Value) (z : ℤ) (e : Ending) → (int_le (pos 2) z && int_le z (pos 36)) ≡ false → Fails w.names (row.out_of_range builtin.Tonumber 1) e → Fails w.names (core.to_number_based (store_in w) v z) e
based_ends w v z e out h = subst (λ b. Fails w.names (cond b (core.to_number_in (store_in w) (unsigned_abs z) v) (row.out_of_range builtin.Tonumber 1)) e) (sym out) h
