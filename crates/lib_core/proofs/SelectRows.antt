-- What the row of `select` gives.
use Rattle.std.proofs.Common.{◌≡◌, ℕ, zero, suc, ℤ, pos, negsuc, ◌+ℤ◌, Bool, true, false, List, [], ◌∷◌, map, length, drop, slice_get, Option, Some, None, Result, refl, sym, ◌∙◌, ap, subst}
use Rattle.std.proofs.lemmas.List.{drop-map, length-map}
use Rattle.std.proofs.lemmas.Option.{get_or_from_slice_get}
use Rattle.std.specs.List.{AllByRecursion}
use Rattle.std.specs.Str.{bytes_eq}
use Rattle.byte_text.specs.declared.fixed.StrId.{StrId}
use Rattle.value_model.specs.Answers as answer
use Rattle.value_model.specs.Arguments as row
use Rattle.value_model.specs.CoreRows as core
use Rattle.value_model.specs.Parts.{meant}
use Rattle.value_model.specs.Store.{Store}
use Rattle.value_model.specs.Tables.{same}
use Rattle.value_model.specs.Values as m
use Rattle.value_model.specs.Values.{Bytes}
use Rattle.value_model.specs.declared.builtin.Builtin.TheVariants as builtin
use Rattle.value_model.specs.declared.value.Value.{Value}
use Rattle.value_model.specs.declared.value.Value.TheVariants as value
use Rattle.luau_tables.specs.Worlds.{MayUseIn, store_in}
use Rattle.luau_tables.specs.declared.globals.LibWorld.{LibWorld}
use Rattle.lib_arguments.specs.Checks.{Fails}
use Rattle.lib_arguments.specs.Rows.{Runs, Gives}
use Rattle.lib_arguments.specs.declared.ending.Ending.{Ending}
use Rattle.lib_arguments.proofs.RowsRun.{gives_runs}
use Rattle.lib_core.specs.Places.{place_from, first_place}

-- ---- the text `#`

pub text_same : (texts : List Bytes) (v : Value) (x : StrId) (bs t : Bytes) (r : Bool) → v ≡ value.Str x → slice_get texts x.0 ≡ Some bs → r ≡ bytes_eq bs t → r ≡ same (meant texts v) (m.Text t)
unfolding meant same
text_same texts v x bs t r e at k =
    k ∙ ap (λ b. bytes_eq b t) (sym (get_or_from_slice_get texts x.0 bs [] at)) ∙ ap (λ v. same (meant texts v) (m.Text t)) (sym e)

pub no_text_same : (texts : List Bytes) (v : Value) (t : Bytes) → ((x : StrId) → v ≡ value.Str x → ⊥) → false ≡ same (meant texts v) (m.Text t)
unfolding meant same
no_text_same texts (value.Str x) t no_text = absurd (no_text x refl)
no_text_same texts v t no_text = refl

-- ---- the place

-- the values from a place on
abbrev chosen : Store → List m.Value → Option ℕ → answer.LibAnswer
chosen s vs None = row.out_of_range builtin.Select 0
chosen s vs (Some n) = answer.Answers (drop n vs) s

select_from_is : (s : Store) (vs : List m.Value) (z : ℤ) → core.select_from s vs z ≡ chosen s vs (place_from z)
select_from_is s vs (pos zero) = refl
select_from_is s vs (pos (suc n)) = refl
select_from_is s vs (negsuc n) = refl

select_at_is : (s : Store) (vs : List m.Value) (z : ℤ) → core.select_at s vs z ≡ chosen s vs (first_place z (length vs))
select_at_is s vs (pos n) = select_from_is s vs (pos n)
select_at_is s vs (negsuc n) = select_from_is s vs (negsuc n +ℤ pos (suc (length vs)))

-- ---- values that are given from a place on

dropped : {A : Type 0} (P : A → Type 0) (n : ℕ) (xs : List A) → AllByRecursion P xs → AllByRecursion P (drop n xs)
dropped P zero xs h = h
dropped P (suc n) [] h = tt
dropped P (suc n) (x ∷ xs) h = dropped P n xs h.1

module _ (w : LibWorld) (args : List Value) where
  -- `select("#", ..)` counts
  pub counts : (rs rs' : List Value) (result : Result (Unit {0}) Ending) (hash : Bool) (behind : List Value) → hash ≡ true → behind ≡ drop 1 args → Gives rs rs' (value.Num (pos (length behind)) ∷ []) result →
      Runs w w rs rs' result (core.selects (store_in w) (map (meant w.names) args) hash)
  unfolding meant
  counts rs rs' result hash behind h e given =
      gives_runs w w rs rs' (value.Num (pos (length behind)) ∷ []) result _ given ((tt, tt), tt)
      (ap (λ b. core.selects (store_in w) (map (meant w.names) args) b) h
      ∙ ap (λ n. core.gives (store_in w) (m.Number (pos n))) (ap length (drop-map (meant w.names) 1 args) ∙ length-map (drop 1 args) (meant w.names) ∙ sym (ap length e)))

  -- any other first argument is a place
  pub places : (rs rs' : List Value) (result : Result (Unit {0}) Ending) (hash : Bool) → hash ≡ false →
      Runs w w rs rs' result (row.number_at builtin.Select 0 (map (meant w.names) args) (core.select_at (store_in w) (drop 1 (map (meant w.names) args)))) → Runs w w rs rs' result (core.selects (store_in w) (map (meant w.names) args) hash)
  places rs rs' result hash h k = subst (λ b. Runs w w rs rs' result (core.selects (store_in w) (map (meant w.names) args) b)) (sym h) k

  pub place_fails : (e : Ending) (hash : Bool) → hash ≡ false →
      Fails w.names (row.number_at builtin.Select 0 (map (meant w.names) args) (core.select_at (store_in w) (drop 1 (map (meant w.names) args)))) e → Fails w.names (core.selects (store_in w) (map (meant w.names) args) hash) e
  place_fails e hash h k = subst (λ b. Fails w.names (core.selects (store_in w) (map (meant w.names) args) b) e) (sym h) k

  module _ (z : ℤ) (behind : List Value) (e : behind ≡ drop 1 args) where
    meant_behind : drop 1 (map (meant w.names) args) ≡ map (meant w.names) behind
    meant_behind = drop-map (meant w.names) 1 args ∙ ap (map (meant w.names)) (sym e)

    at_place : (o : Option ℕ) → o ≡ first_place z (length behind) → core.select_at (store_in w) (drop 1 (map (meant w.names) args)) z ≡ chosen (store_in w) (map (meant w.names) behind) o
    at_place o p =
        ap (λ vs. core.select_at (store_in w) vs z) meant_behind
        ∙ select_at_is (store_in w) (map (meant w.names) behind) z
        ∙ ap (λ n. chosen (store_in w) (map (meant w.names) behind) (first_place z n)) (length-map behind (meant w.names))
        ∙ ap (chosen (store_in w) (map (meant w.names) behind)) (sym p)

    pub selects_from : (rs rs' : List Value) (result : Result (Unit {0}) Ending) (n : ℕ) (values : List Value) → AllByRecursion (MayUseIn w) args → Some n ≡ first_place z (length behind) → values ≡ drop n behind → Gives rs rs' values result →
        Runs w w rs rs' result (core.select_at (store_in w) (drop 1 (map (meant w.names) args)) z)
    selects_from rs rs' result n values used p v given =
        gives_runs w w rs rs' values result _ given
        (subst (AllByRecursion (MayUseIn w)) (sym v) (dropped (MayUseIn w) n behind (subst (AllByRecursion (MayUseIn w)) (sym e) (dropped (MayUseIn w) 1 args used))))
        (at_place (Some n) p ∙ ap (λ vs. answer.Answers vs (store_in w)) (drop-map (meant w.names) n behind ∙ ap (map (meant w.names)) (sym v)))

    pub no_place : (en : Ending) → None ≡ first_place z (length behind) → Fails w.names (row.out_of_range builtin.Select 0) en → Fails w.names (core.select_at (store_in w) (drop 1 (map (meant w.names) args)) z) en
    no_place en p fails = subst (λ row. Fails w.names row en) (sym (at_place None p)) fails
