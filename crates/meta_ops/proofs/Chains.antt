-- Chains of tables, one table more.
use Rattle.std.proofs.Common.{◌≡◌, ℕ, suc, ◌+◌, ◌-◌, ◌<◌, Bool, true, false, cond, Option, Some, None, refl, sym, ◌∙◌, ap, arith}
use Rattle.value_model.specs.declared.error.RunErr.TheVariants as err
use Rattle.value_model.specs.declared.ids.TableId.{TableId}
use Rattle.value_model.specs.declared.value.Value.{Value}
use Rattle.value_model.specs.declared.value.Value.TheVariants as value
use Rattle.value_arena.specs.Arenas.{ArenaView, table_at}
use Rattle.luau_tables.specs.Rules as rule
use Rattle.luau_tables.specs.declared.globals.Globals.{Globals}
use Rattle.meta_ops.specs.OnIds as kept
use Rattle.meta_ops.specs.declared.outcome.Link.{Link}
use Rattle.meta_ops.specs.declared.outcome.Link.TheVariants.{Ends, To}
use Rattle.meta_ops.specs.declared.outcome.Outcome.{Outcome}
use Rattle.meta_ops.specs.declared.outcome.Outcome.TheVariants.{Done, RunError}
use Rattle.meta_ops.specs.declared.storing.StoreLink.{StoreLink}
use Rattle.meta_ops.specs.declared.storing.StoreLink.TheVariants.{Here, Calls, Onward}
use Rattle.meta_ops.specs.declared.storing.Target.TheVariants.{Into, NoTable}

less_one : (asked : ℕ) → asked < 101 → 101 - asked ≡ suc (101 - (asked + 1))
less_one asked l = omega (arith, l)

next_one : (asked : ℕ) → suc asked ≡ asked + 1
next_one asked = omega arith

-- ---- reading

module _ (a : ArenaView) (g : Globals) (key : Value) where
  abbrev index_on_from : ℕ → ℕ → Value → kept.Found
  index_on_from n = kept.index_along n a g key

  index_more : (asked : ℕ) (base : Value) → asked < 101 →
      kept.index_along (101 - asked) a g key asked base ≡ kept.index_of (index_on_from (101 - (asked + 1))) a g key asked base (kept.indexed_table a g base)
  unfolding kept.index_along
  index_more asked base l = ap (λ n. kept.index_along n a g key asked base) (less_one asked l)

  -- nothing is to be asked
  pub index_none : (asked : ℕ) (base : Value) (r : Option TableId) → asked < 101 → r ≡ kept.indexed_table a g base → r ≡ None →
      (RunError (kept.index_error base key), asked) ≡ kept.index_along (101 - asked) a g key asked base
  index_none asked base r l e f =
      sym (index_more asked base l ∙ ap (λ t. kept.index_of (index_on_from (101 - (asked + 1))) a g key asked base t) (sym e ∙ f))

  -- a table is asked
  index_some : (asked : ℕ) (base : Value) (r : Option TableId) (t : TableId) (link : Link) → asked < 101 → r ≡ kept.indexed_table a g base →
      r ≡ Some t → link ≡ kept.index_asked a g t key →
      kept.index_along (101 - asked) a g key asked base ≡ kept.after_link (index_on_from (101 - (asked + 1))) (asked + 1) link
  index_some asked base r t link l e f h =
      index_more asked base l
      ∙ ap (λ t. kept.index_of (index_on_from (101 - (asked + 1))) a g key asked base t) (sym e ∙ f)
      ∙ ap (λ x. kept.after_link (index_on_from (101 - (asked + 1))) (suc asked) x) (sym h)
      ∙ ap (λ n. kept.after_link (index_on_from (101 - (asked + 1))) n link) (next_one asked)

  pub index_ends : (asked : ℕ) (base : Value) (r : Option TableId) (t : TableId) (link : Link) (o : Outcome) → asked < 101 →
      r ≡ kept.indexed_table a g base → r ≡ Some t → link ≡ kept.index_asked a g t key → link ≡ Ends o →
      (o, asked + 1) ≡ kept.index_along (101 - asked) a g key asked base
  index_ends asked base r t link o l e f h k =
      sym (index_some asked base r t link l e f h ∙ ap (λ x. kept.after_link (index_on_from (101 - (asked + 1))) (asked + 1) x) k)

  pub index_to : (asked : ℕ) (base : Value) (r : Option TableId) (t : TableId) (link : Link) (v : Value) → asked < 101 →
      r ≡ kept.indexed_table a g base → r ≡ Some t → link ≡ kept.index_asked a g t key → link ≡ To v →
      kept.index_along (101 - asked) a g key asked base ≡ kept.index_along (101 - (asked + 1)) a g key (asked + 1) v
  index_to asked base r t link v l e f h k =
      index_some asked base r t link l e f h ∙ ap (λ x. kept.after_link (index_on_from (101 - (asked + 1))) (asked + 1) x) k

  -- no table more is asked
  pub index_end : (asked : ℕ) (base : Value) (found : kept.Found) → found ≡ kept.index_along (101 - asked) a g key asked base → asked ≡ 101 →
      (RunError err.IndexChain, 101) ≡ found
  unfolding kept.index_along
  index_end asked base found f e = sym (f ∙ ap (λ n. kept.index_along (101 - n) a g key n base) e)

  -- the first table has a value under the key,
  pub index_hit : (t : TableId) (found : Value) → found ≡ rule.get (table_at a t) key → kept.is_nil found ≡ false →
      (Done found, 1) ≡ kept.index_along 101 a g key 0 (value.Table t)
  unfolding kept.index_along
  index_hit t found e n =
      sym
      (ap (λ x. kept.after_link (index_on_from 100) 1 (kept.index_found a g t key x)) (sym e) ∙ ap (λ b. kept.after_link (index_on_from 100) 1 (cond b (kept.by_index t key (kept.said_by a (table_at a t).meta g.meta.index)) (Ends (Done found)))) n)

  -- or has none
  pub index_miss : (t : TableId) (found : Value) → found ≡ rule.get (table_at a t) key → kept.is_nil found ≡ true →
      kept.after_link (kept.index_along 100 a g key) 1 (kept.by_index t key (kept.said_by a (table_at a t).meta g.meta.index)) ≡ kept.index_along 101 a g
      key 0 (value.Table t)
  unfolding kept.index_along
  index_miss t found e n =
      sym
      (ap (λ x. kept.after_link (index_on_from 100) 1 (kept.index_found a g t key x)) (sym e) ∙ ap (λ b. kept.after_link (index_on_from 100) 1 (cond b (kept.by_index t key (kept.said_by a (table_at a t).meta g.meta.index)) (Ends (Done found)))) n)

-- ---- writing

module _ (a : ArenaView) (g : Globals) (key v : Value) where
  abbrev newindex_on_from : ℕ → ℕ → Value → kept.Sought
  newindex_on_from n = kept.newindex_along n a g key v

  newindex_more : (asked : ℕ) (base : Value) → asked < 101 →
      kept.newindex_along (101 - asked) a g key v asked base ≡ kept.newindex_of (newindex_on_from (101 - (asked + 1))) a g key v asked base (kept.as_table base)
  unfolding kept.newindex_along
  newindex_more asked base l = ap (λ n. kept.newindex_along n a g key v asked base) (less_one asked l)

  pub newindex_none : (asked : ℕ) (base : Value) (r : Option TableId) → asked < 101 → r ≡ kept.as_table base → r ≡ None →
      (NoTable (RunError (kept.index_error base key)), asked) ≡ kept.newindex_along (101 - asked) a g key v asked base
  newindex_none asked base r l e f =
      sym (newindex_more asked base l ∙ ap (λ t. kept.newindex_of (newindex_on_from (101 - (asked + 1))) a g key v asked base t) (sym e ∙ f))

  newindex_some : (asked : ℕ) (base : Value) (r : Option TableId) (t : TableId) (link : StoreLink) → asked < 101 → r ≡ kept.as_table base →
      r ≡ Some t → link ≡ kept.newindex_asked a g t key v →
      kept.newindex_along (101 - asked) a g key v asked base ≡ kept.after_store (newindex_on_from (101 - (asked + 1))) t (asked + 1) link
  newindex_some asked base r t link l e f h =
      newindex_more asked base l
      ∙ ap (λ t. kept.newindex_of (newindex_on_from (101 - (asked + 1))) a g key v asked base t) (sym e ∙ f)
      ∙ ap (λ x. kept.after_store (newindex_on_from (101 - (asked + 1))) t (suc asked) x) (sym h)
      ∙ ap (λ n. kept.after_store (newindex_on_from (101 - (asked + 1))) t n link) (next_one asked)

  pub newindex_here : (asked : ℕ) (base : Value) (r : Option TableId) (t : TableId) (link : StoreLink) → asked < 101 → r ≡ kept.as_table base →
      r ≡ Some t → link ≡ kept.newindex_asked a g t key v → link ≡ Here → (Into t, asked + 1) ≡ kept.newindex_along (101 - asked) a g key v asked base
  newindex_here asked base r t link l e f h k =
      sym (newindex_some asked base r t link l e f h ∙ ap (λ x. kept.after_store (newindex_on_from (101 - (asked + 1))) t (asked + 1) x) k)

  pub newindex_calls : (asked : ℕ) (base : Value) (r : Option TableId) (t : TableId) (link : StoreLink) (o : Outcome) → asked < 101 →
      r ≡ kept.as_table base → r ≡ Some t → link ≡ kept.newindex_asked a g t key v → link ≡ Calls o →
      (NoTable o, asked + 1) ≡ kept.newindex_along (101 - asked) a g key v asked base
  newindex_calls asked base r t link o l e f h k =
      sym (newindex_some asked base r t link l e f h ∙ ap (λ x. kept.after_store (newindex_on_from (101 - (asked + 1))) t (asked + 1) x) k)

  pub newindex_onward : (asked : ℕ) (base : Value) (r : Option TableId) (t : TableId) (link : StoreLink) (next : Value) → asked < 101 →
      r ≡ kept.as_table base → r ≡ Some t → link ≡ kept.newindex_asked a g t key v → link ≡ Onward next →
      kept.newindex_along (101 - asked) a g key v asked base ≡ kept.newindex_along (101 - (asked + 1)) a g key v (asked + 1) next
  newindex_onward asked base r t link next l e f h k =
      newindex_some asked base r t link l e f h ∙ ap (λ x. kept.after_store (newindex_on_from (101 - (asked + 1))) t (asked + 1) x) k

  pub newindex_end : (asked : ℕ) (base : Value) (found : kept.Sought) → found ≡ kept.newindex_along (101 - asked) a g key v asked base → asked ≡ 101 →
      (NoTable (RunError err.NewindexChain), 101) ≡ found
  unfolding kept.newindex_along
  newindex_end asked base found f e = sym (f ∙ ap (λ n. kept.newindex_along (101 - n) a g key v n base) e)

-- a table without a metatable is itself written
pub no_metatable : (a : ArenaView) (g : Globals) (t : TableId) (key v : Value) → (table_at a t).meta ≡ None → Here ≡ kept.newindex_asked a g t key v
no_metatable a g t key v e =
    by (kept.is_nil (rule.get (table_at a t) key))
    ∙ ap (λ meta. cond (kept.is_nil (rule.get (table_at a t) key)) (kept.by_newindex t key v (kept.said_by a meta g.meta.newindex)) Here) (sym e)
  where
    by : (b : Bool) → Here ≡ cond b Here Here
    by true = refl
    by false = refl
