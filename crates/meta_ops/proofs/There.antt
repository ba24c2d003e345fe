-- What a table leads to that is there is there, where each object refers to objects that are there.
use Rattle.std.proofs.Common.{◌≡◌, Bool, true, false, cond, [], ◌∷◌, Option, Some, None, IfSome, sym, ◌∙◌, subst}
use Rattle.std.specs.List.{AllByRecursion}
use Rattle.byte_text.specs.declared.fixed.StrId.{StrId}
use Rattle.value_model.specs.Owners.{wide}
use Rattle.value_model.specs.declared.ids.Owner.{Owner}
use Rattle.value_model.specs.declared.ids.TableId.{TableId}
use Rattle.value_model.specs.declared.value.Value.{Value}
use Rattle.value_model.specs.declared.value.Value.TheVariants as value
use Rattle.value_arena.specs.Tables.{Entries}
use Rattle.value_arena.specs.Arenas.{ArenaView, HasTable, table_at}
use Rattle.value_arena.specs.Owning.{IsOwned, MayHold}
use Rattle.luau_tables.specs.Own.{IsThere}
use Rattle.luau_tables.specs.Part.{OfPairs, OfSome, OfTable}
use Rattle.luau_tables.specs.Rules as rule
use Rattle.luau_tables.specs.declared.globals.Globals.{Globals}
use Rattle.luau_tables.proofs.TablesKept.{get_holds}
use Rattle.meta_ops.specs.OnIds as kept
use Rattle.meta_ops.specs.declared.outcome.Link.{Link}
use Rattle.meta_ops.specs.declared.outcome.Link.TheVariants.{Ends, To}
use Rattle.meta_ops.specs.declared.outcome.Outcome.TheVariants.{Done}
use Rattle.meta_ops.specs.declared.storing.StoreLink.{StoreLink}
use Rattle.meta_ops.specs.declared.storing.StoreLink.TheVariants.{Here, Calls, Onward}

-- the value that is asked in turn
abbrev pub OfNext : (Value → Type 0) → Link → Type 0
OfNext P (Ends o) = Unit {0}
OfNext P (To v) = P v

abbrev pub OfOnward : (Value → Type 0) → StoreLink → Type 0
OfOnward P Here = Unit {0}
OfOnward P (Calls o) = Unit {0}
OfOnward P (Onward v) = P v

pub held_there : (a : ArenaView) (w : Owner) (v : Value) → MayHold a w v → IsThere a v
held_there a w (value.Table t) h = h.1
held_there a w (value.Closure t) h = h.1
held_there a w (value.Wrap t) h = h.1
held_there a w (value.Thread t) h = h.1
held_there a w _ h = tt

module _ (a : ArenaView) (owned : IsOwned a) where
  pairs_there : (w : Owner) (es : Entries) → AllByRecursion (λ e. MayHold a w e.0 × MayHold a w e.1) es → OfPairs (IsThere a) es
  pairs_there w [] h = tt
  pairs_there w (e ∷ es) h = (held_there a w e.0 h.0.0, held_there a w e.1 h.0.1, pairs_there w es h.1)

  some_there : (w : Owner) (m : Option TableId) → IfSome m (λ m. MayHold a w (value.Table m)) → OfSome (λ m. HasTable a m) m
  some_there w None h = tt
  some_there w (Some m) h = h.1

  pub meta_there : (t : TableId) → OfSome (λ m. HasTable a m) (table_at a t).meta
  meta_there t = some_there (wide t.owner) (table_at a t).meta (owned.tables t).1

  pub table_there : (t : TableId) → OfTable (IsThere a) (table_at a t)
  table_there t = record { entries = pairs_there (wide t.owner) (table_at a t).entries (owned.tables t).0; meta = meta_there t }

  pub value_there : (t : TableId) (key : Value) → IsThere a (rule.get (table_at a t) key)
  value_there t key = get_holds (IsThere a) (table_at a t) key (table_there t) tt

  pub said_by_there : (meta : Option TableId) (name : StrId) → IsThere a (kept.said_by a meta name)
  said_by_there None name = tt
  said_by_there (Some m) name = value_there m (value.Str name)

  by_index_next : (t : TableId) (key h : Value) → IsThere a h → OfNext (IsThere a) (kept.by_index t key h)
  by_index_next t key h p = by (kept.is_nil h) (kept.is_function h)
    where
      by : (b c : Bool) → OfNext (IsThere a) (cond b (Ends (Done value.Nil)) (cond c (Ends (kept.call_two h (value.Table t) key)) (To h)))
      by true c = tt
      by false true = tt
      by false false = p

  -- the value that is asked next for a read,
  pub asked_next : (g : Globals) (t : TableId) (key : Value) → OfNext (IsThere a) (kept.index_asked a g t key)
  asked_next g t key = by (kept.is_nil (rule.get (table_at a t) key))
    where
      by : (b : Bool) →
          OfNext (IsThere a) (cond b (kept.by_index t key (kept.said_by a (table_at a t).meta g.meta.index)) (Ends (Done (rule.get (table_at a t) key))))
      by true = by_index_next t key (kept.said_by a (table_at a t).meta g.meta.index) (said_by_there (table_at a t).meta g.meta.index)
      by false = tt

  pub beyond_next : (g : Globals) (t : TableId) (key : Value) →
      OfNext (IsThere a) (kept.by_index t key (kept.said_by a (table_at a t).meta g.meta.index))
  beyond_next g t key = by_index_next t key (kept.said_by a (table_at a t).meta g.meta.index) (said_by_there (table_at a t).meta g.meta.index)

  by_newindex_next : (t : TableId) (key v h : Value) → IsThere a h → OfOnward (IsThere a) (kept.by_newindex t key v h)
  by_newindex_next t key v h p = by (kept.is_nil h) (kept.is_function h)
    where
      by : (b c : Bool) → OfOnward (IsThere a) (cond b Here (cond c (Calls (kept.call_three h (value.Table t) key v)) (Onward h)))
      by true c = tt
      by false true = tt
      by false false = p

  -- and for a write
  pub stored_next : (g : Globals) (t : TableId) (key v : Value) → OfOnward (IsThere a) (kept.newindex_asked a g t key v)
  stored_next g t key v = by (kept.is_nil (rule.get (table_at a t) key))
    where
      by : (b : Bool) → OfOnward (IsThere a) (cond b (kept.by_newindex t key v (kept.said_by a (table_at a t).meta g.meta.newindex)) Here)
      by true = by_newindex_next t key v (kept.said_by a (table_at a t).meta g.meta.newindex) (said_by_there (table_at a t).meta g.meta.newindex)
      by false = tt

  pub as_table_there : (v : Value) → IsThere a v → OfSome (λ t. HasTable a t) (kept.as_table v)
  as_table_there (value.Table t) h = h
  as_table_there _ h = tt

  pub indexed_there : (g : Globals) (base : Value) → IsThere a base → OfSome (λ t. HasTable a t) (kept.indexed_table a g base)
  indexed_there g (value.Table t) h = h
  indexed_there g (value.Str x) h = as_table_there (kept.said_by_table a g.string_meta g.meta.index) (value_there g.string_meta (value.Str g.meta.index))
  indexed_there g _ h = tt

  -- ---- by what was answered

  pub table_of_some : (g : Globals) (base : Value) (r : Option TableId) (t : TableId) → IsThere a base → r ≡ kept.indexed_table a g base →
      r ≡ Some t → HasTable a t
  table_of_some g base r t h e f = let P : Option TableId → Type 0 = λ r. OfSome (λ t. HasTable a t) r in subst P (sym e ∙ f) (indexed_there g base h)

  pub next_of_link : (g : Globals) (t : TableId) (key : Value) (link : Link) (v : Value) → link ≡ kept.index_asked a g t key → link ≡ To v →
      IsThere a v
  next_of_link g t key link v e f = let P : Link → Type 0 = λ l. OfNext (IsThere a) l in subst P (sym e ∙ f) (asked_next g t key)

  pub next_beyond : (g : Globals) (t : TableId) (key : Value) (link : Link) (v : Value) →
      link ≡ kept.by_index t key (kept.said_by a (table_at a t).meta g.meta.index) → link ≡ To v → IsThere a v
  next_beyond g t key link v e f = let P : Link → Type 0 = λ l. OfNext (IsThere a) l in subst P (sym e ∙ f) (beyond_next g t key)

  pub place_of_some : (base : Value) (r : Option TableId) (t : TableId) → IsThere a base → r ≡ kept.as_table base → r ≡ Some t → HasTable a t
  place_of_some base r t h e f = let P : Option TableId → Type 0 = λ r. OfSome (λ t. HasTable a t) r in subst P (sym e ∙ f) (as_table_there base h)

  pub next_of_store : (g : Globals) (t : TableId) (key v : Value) (link : StoreLink) (next : Value) → link ≡ kept.newindex_asked a g t key v →
      link ≡ Onward next → IsThere a next
  next_of_store g t key v link next e f = let P : StoreLink → Type 0 = λ l. OfOnward (IsThere a) l in subst P (sym e ∙ f) (stored_next g t key v)
