-- Rows that read many elements.
use Rattle.std.proofs.Common.{◌≡◌, ℕ, ◌+◌, ◌^◌, ◌<◌, ◌≤◌, ℤ, pos, negsuc, ◌+ℤ◌, ◌-ℤ◌, true, false, List, map, Result, sym, ◌∙◌, ap, subst, arith}
use Rattle.std.proofs.lemmas.Bool.Decides.{nat_tests}
use Rattle.std.proofs.lemmas.Int.{ints}
use Rattle.std.specs.List.{AllByRecursion}
use Rattle.std.specs.Prelude.{◌≤ℤ◌, nat_le}
use Rattle.value_model.specs.Answers as model
use Rattle.value_model.specs.Arguments.{table_argument, number_or}
use Rattle.value_model.specs.Parts.{meant, meant_error, table_ref}
use Rattle.value_model.specs.Store as store
use Rattle.value_model.specs.StringRows.{natural, count_between, most_values}
use Rattle.value_model.specs.TableRows as rows
use Rattle.value_model.specs.Values as m
use Rattle.value_model.specs.Values.{Bytes, TableRef}
use Rattle.value_model.specs.declared.builtin.Builtin.TheVariants as builtin
use Rattle.value_model.specs.declared.error.RunErr.TheVariants.{TooManyValues}
use Rattle.value_model.specs.declared.ids.TableId.{TableId}
use Rattle.value_model.specs.declared.value.Value.{Value}
use Rattle.value_model.specs.declared.value.Value.TheVariants as value
use Rattle.value_arena.specs.Arenas.{table_at}
use Rattle.value_arena.specs.Tables.{TableView}
use Rattle.luau_tables.specs.Part.{table_of}
use Rattle.luau_tables.specs.Rules as rule
use Rattle.luau_tables.specs.Worlds.{IsWorld, MayUseIn, store_in}
use Rattle.luau_tables.specs.declared.globals.LibWorld.{LibWorld}
use Rattle.lib_arguments.specs.Checks.{Fails}
use Rattle.lib_arguments.specs.Rows.{Runs, Gives}
use Rattle.lib_arguments.specs.declared.ending.Ending.{Ending}
use Rattle.lib_arguments.specs.declared.ending.Ending.TheVariants.{RunError}
use Rattle.lib_arguments.proofs.RowsRun.{gives_runs}
use Rattle.table_lists.specs.Lists.{items}
use Rattle.table_lists.proofs.Kept.{items_hold, items_kept, end_kept}
use Rattle.lib_math_table.proofs.Changes.{table_is, usable, scripts}

-- ---- rows that are one

pub same_fails : (texts : List Bytes) (row row' : model.LibAnswer) (e : Ending) → row ≡ row' → Fails texts row' e → Fails texts row e
same_fails texts row row' e is h = subst (λ row. Fails texts row e) (sym is) h

pub same_runs : (before after : LibWorld) (rs rs' : List Value) (result : Result (Unit {0}) Ending) (row row' : model.LibAnswer) → row ≡ row' → Runs before after rs rs' result row' → Runs before after rs rs' result row
same_runs before after rs rs' result row row' is h = subst (λ row. Runs before after rs rs' result row) (sym is) h

-- ---- numbers

pub few : (n most : ℕ) → n ≤ most → nat_le n most ≡ true
few n most h = grind (arith, nat_tests)

pub many : (n most : ℕ) → most < n → nat_le n most ≡ false
many n most h = grind (arith, nat_tests)

pub natural_within : (z : ℤ) (low : ℤ) (high : ℕ) → (low +ℤ z) ≤ℤ pos high → low ≤ℤ pos high → (low +ℤ pos (natural z)) ≤ℤ pos high
natural_within (pos n) low high h k = h
natural_within (negsuc n) low high h k = omega (arith, ints, k)

-- what stands between two whole numbers are such
pub between_within : (i j : ℤ) → i ≤ℤ pos (2 ^ 53) → j ≤ℤ pos (2 ^ 53) → (i +ℤ pos (count_between i j)) ≤ℤ pos (2 ^ 53 + 1)
between_within i j h k = natural_within ((j -ℤ i) +ℤ pos 1) i (2 ^ 53 + 1) (omega (arith, ints, k)) (omega (arith, ints, h))

pub items_at : (t u : TableView) (k l : ℤ) (m n : ℕ) (vs : List Value) → vs ≡ items t k m → t ≡ u → k ≡ l → m ≡ n → vs ≡ items u l n
items_at t u k l m n vs is e f g = is ∙ ap (λ t. items t k m) e ∙ ap (λ k. items u k m) f ∙ ap (λ n. items u l n) g

module _ (w : LibWorld) (world : IsWorld w) (t : TableId) (may : MayUseIn w (value.Table t)) where
  -- the row from the table on
  pub unpack_is : (args : List m.Value) (a e : ℤ) → ((go : TableRef → model.LibAnswer) → table_argument builtin.TableUnpack 0 args go ≡ go (table_ref t)) → a ≡ pos 1 → e ≡ pos (rule.border (table_at w.arena t)) → rows.unpack_row args (store_in w) ≡ number_or builtin.TableUnpack 1 args a (λ i. number_or builtin.TableUnpack 2 args e (λ j. rows.unpacks (store_in w) (table_of w.names (table_at w.arena t)) i (count_between i j) (nat_le (count_between i j) most_values)))
  unpack_is args a e look one end =
      let s = store_in w in
      let rest = λ (u : store.TableOf) (a e : ℤ). number_or builtin.TableUnpack 1 args a (λ i. number_or builtin.TableUnpack 2 args e (λ j. rows.unpacks s u i (count_between i j) (nat_le (count_between i j) most_values))) in
      look (λ t. rest (store.table_at s t) (pos 1) (rows.end_of (store.table_at s t)))
      ∙ ap (λ u. rest u (pos 1) (rows.end_of u)) (table_is w world t may)
      ∙ ap (λ e. rest (table_of w.names (table_at w.arena t)) (pos 1) e) (end_kept w.names w.owner world.own.interned.distinct (table_at w.arena t) (scripts w world t may) ∙ sym end)
      ∙ ap (λ a. rest (table_of w.names (table_at w.arena t)) a e) (sym one)

  pub unpack_gives : (i : ℤ) (n : ℕ) (rs rs' vs : List Value) (result : Result (Unit {0}) Ending) → n ≤ most_values → vs ≡ items (table_at w.arena t) i n → Gives rs rs' vs result → Runs w w rs rs' result (rows.unpacks (store_in w) (table_of w.names (table_at w.arena t)) i n (nat_le n most_values))
  unpack_gives i n rs rs' vs result l is given =
      gives_runs w w rs rs' vs result _ given
      (subst (AllByRecursion (MayUseIn w)) (sym is) (items_hold (MayUseIn w) (tt, tt) (λ z. (tt, tt)) (table_at w.arena t) i n (usable w world t may)))
      (ap (rows.unpacks (store_in w) (table_of w.names (table_at w.arena t)) i n) (few n most_values l)
      ∙ ap (λ vs. model.Answers vs (store_in w)) (items_kept w.names w.owner world.own.interned.distinct (table_at w.arena t) i n (scripts w world t may) ∙ ap (map (meant w.names)) (sym is)))

  pub unpack_fails : (i : ℤ) (n : ℕ) → most_values < n → Fails w.names (rows.unpacks (store_in w) (table_of w.names (table_at w.arena t)) i n (nat_le n most_values)) (RunError TooManyValues)
  unfolding meant_error
  unpack_fails i n l = (ap (rows.unpacks (store_in w) (table_of w.names (table_at w.arena t)) i n) (many n most_values l), tt)
