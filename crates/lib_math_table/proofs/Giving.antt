-- Rows that give a number.
use Rattle.std.proofs.Common.{◌≡◌, ℕ, zero, suc, ◌+◌, ◌<◌, ◌≤◌, ℤ, true, false, List, [], ◌∷◌, length, map, drop, get_or, Result, sym, ◌∙◌, ap, subst, arith, add-one}
use Rattle.std.proofs.lemmas.List.{drop_all}
use Rattle.std.specs.Int.{int_min, int_max}
use Rattle.std.specs.Prelude.{int_lt, if◌then◌else◌}
use Rattle.value_model.specs.Arguments.{number_from, out_of_range}
use Rattle.value_model.specs.CoreRows as core
use Rattle.value_model.specs.MathRows as math
use Rattle.value_model.specs.Parts.{meant}
use Rattle.value_model.specs.Store.{Store}
use Rattle.value_model.specs.Values as m
use Rattle.value_model.specs.Values.{Bytes}
use Rattle.value_model.specs.declared.builtin.Builtin.{Builtin}
use Rattle.value_model.specs.declared.builtin.Builtin.TheVariants as builtin
use Rattle.value_model.specs.declared.value.Value.{Value}
use Rattle.value_model.specs.declared.value.Value.TheVariants as value
use Rattle.luau_tables.specs.Worlds.{store_in}
use Rattle.luau_tables.specs.declared.globals.LibWorld.{LibWorld}
use Rattle.lib_arguments.specs.Checks.{Fails}
use Rattle.lib_arguments.specs.Rows.{Runs, Gives}
use Rattle.lib_arguments.specs.declared.ending.Ending.{Ending}
use Rattle.lib_arguments.proofs.RowsRun.{gives_runs}

module _ (w : LibWorld) (rs rs' : List Value) (result : Result (Unit {0}) Ending) where
  pub number_gives : (z y : ℤ) → z ≡ y → Gives rs rs' (value.Num z ∷ []) result → Runs w w rs rs' result (core.gives (store_in w) (m.Number y))
  unfolding meant
  number_gives z y e given = gives_runs w w rs rs' (value.Num z ∷ []) result _ given ((tt, tt), tt) (ap (λ z. core.gives (store_in w) (m.Number z)) (sym e))

  pub clamp_gives : (n low high z : ℤ) → int_lt high low ≡ false → z ≡ int_min (int_max n low) high → Gives rs rs' (value.Num z ∷ []) result → Runs w w rs rs' result (math.clamped (store_in w) n low high)
  clamp_gives n low high z e is given =
      subst (λ b. Runs w w rs rs' result (if b then out_of_range builtin.MathClamp 2 else core.gives (store_in w) (m.Number (int_min (int_max n low) high)))) (sym e)
      (number_gives z (int_min (int_max n low) high) is given)

pub clamp_fails : (texts : List Bytes) (s : Store) (n low high : ℤ) (e : Ending) → int_lt high low ≡ true → Fails texts (out_of_range builtin.MathClamp 2) e → Fails texts (math.clamped s n low high) e
clamp_fails texts s n low high e is h =
    subst (λ b. Fails texts (if b then out_of_range builtin.MathClamp 2 else core.gives s (m.Number (int_min (int_max n low) high))) e) (sym is) h

-- ---- the best of arguments

pub best_end : (f : Builtin) (best : ℤ → ℤ → ℤ) (s : Store) (i : ℕ) (vs : List m.Value) (z : ℤ) → length vs ≤ i → math.best_from f best s i (drop i vs) z ≡ core.gives s (m.Number z)
best_end f best s i vs z h = ap (λ vs. math.best_from f best s i vs z) (drop_all i vs h)

-- the row at the next argument
pub best_next : (f : Builtin) (best : ℤ → ℤ → ℤ) (s : Store) (i : ℕ) (texts : List Bytes) (vs : List Value) (v : Value) (z : ℤ) → i < length vs → v ≡ get_or vs i v → math.best_from f best s i (drop i (map (meant texts) vs)) z ≡ number_from f i (meant texts v) (λ y. math.best_from f best s (i + 1) (drop (i + 1) (map (meant texts) vs)) (best z y))
best_next f best s i texts vs v z l at =
    ap (λ vs. math.best_from f best s i vs z) (at_drop texts vs i v l at)
    ∙ ap (λ n. number_from f i (meant texts v) (λ y. math.best_from f best s n (drop n (map (meant texts) vs)) (best z y))) (sym (add-one i))
  where
    at_drop : (texts : List Bytes) (vs : List Value) (i : ℕ) (v : Value) → i < length vs → v ≡ get_or vs i v → drop i (map (meant texts) vs) ≡ meant texts v ∷ drop (suc i) (map (meant texts) vs)
    at_drop texts [] i v l at = absurd (omega (arith, l))
    at_drop texts (u ∷ vs) zero v l at = ap (λ u. meant texts u ∷ map (meant texts) vs) (sym at)
    at_drop texts (u ∷ vs) (suc i) v l at = at_drop texts vs i v (omega (arith, l)) at
