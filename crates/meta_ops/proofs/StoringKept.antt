-- Writing under a key, of values that a script may use, means writing of those that they mean.
use Rattle.std.proofs.Common.{◌≡◌, ℕ, zero, suc, Bool, true, false, cond, List, Option, Some, None, Ok, Err, codes, refl, sym, ◌∙◌, ap, subst}
use Rattle.std.specs.Prelude.{option_map, if◌then◌else◌}
use Rattle.value_model.specs.Choices as choice
use Rattle.value_model.specs.Errors as error
use Rattle.value_model.specs.Metamethods as model
use Rattle.value_model.specs.Parts.{meant, meant_error, table_ref}
use Rattle.value_model.specs.Store as store
use Rattle.value_model.specs.Tables as table
use Rattle.value_model.specs.Values as m
use Rattle.value_model.specs.Values.{Bytes}
use Rattle.value_model.specs.declared.ids.Owner.{Owner}
use Rattle.value_model.specs.declared.ids.TableId.{TableId}
use Rattle.value_model.specs.declared.value.Value.{Value}
use Rattle.value_model.specs.declared.value.Value.TheVariants as value
use Rattle.value_arena.specs.Arenas.{ArenaView, table_at}
use Rattle.luau_tables.specs.Own.{IsOwn, MayUse}
use Rattle.luau_tables.specs.Part.{OfSome, store_of}
use Rattle.luau_tables.specs.Rules as rule
use Rattle.luau_tables.specs.Worlds.{ChangesTables}
use Rattle.luau_tables.specs.declared.globals.Globals.{Globals}
use Rattle.luau_tables.proofs.OwnKept.{changes_nothing, put_own, put_changes, put_part}
use Rattle.luau_tables.proofs.OwnTables.{frozen_part, get_part}
use Rattle.luau_tables.proofs.Sameness.{nil_kept}
use Rattle.meta_ops.specs.OnIds as kept
use Rattle.meta_ops.specs.OnIds.{Sought}
use Rattle.meta_ops.specs.Outcomes.{meant_outcome, IsStored, OfOutcome}
use Rattle.meta_ops.specs.declared.outcome.Outcome.{Outcome}
use Rattle.meta_ops.specs.declared.storing.Target.{Target}
use Rattle.meta_ops.specs.declared.storing.Target.TheVariants.{Into, NoTable}
use Rattle.meta_ops.specs.declared.storing.StoreLink.TheVariants.{Here, Calls, Onward}
use Rattle.meta_ops.proofs.IndexKept.{as_table_part, as_table_usable, index_error_kept, index_error_known}
use Rattle.meta_ops.proofs.MetamethodsKept.{metamethod_part, metamethod_usable}

module _ (texts : List Bytes) (g : Globals) (a : ArenaView) (w : Owner) (own : IsOwn texts g a w) where
  abbrev part : store.Store
  part = store_of texts g a w

  abbrev May : Value → Type 0
  May v = MayUse texts a w v

  abbrev MaySome : Option TableId → Type 0
  MaySome t = OfSome (λ t. May (value.Table t)) t

  module _ (key v : Value) where
    -- a value is written into the table, or none is
    abbrev stored_by : ℕ → Target → choice.Choice
    stored_by asked (NoTable o) = model.chosen part asked (meant_outcome texts o)
    stored_by asked (Into t) = model.write_raw part asked (table_ref t) (table.set (store.table_at part (table_ref t)) (meant texts key) (meant texts v))

    abbrev stored : Sought → choice.Choice
    stored s = stored_by s.1 s.0

    -- ---- one table

    -- what follows a link is the same in both
    abbrev Follows : (ℕ → m.Value → choice.Choice) → (ℕ → Value → Sought) → Type 0
    Follows link along = (n : ℕ) (u : Value) → May u → link n (meant texts u) ≡ stored (along n u)

    by_newindex_kept : (link : ℕ → m.Value → choice.Choice) (along : ℕ → Value → Sought) → Follows link along →
        (asked : ℕ) (t : TableId) (h : Value) → May h →
        model.by_newindex part link asked (table_ref t) (meant texts key) (meant texts v) (meant texts h) ≡ stored
        (kept.after_store along t asked (kept.by_newindex t key v h))
    unfolding meant meant_outcome model.is_function
    by_newindex_kept link along f asked t value.Nil may = refl
    by_newindex_kept link along f asked t (value.Bool b) may = f asked (value.Bool b) may
    by_newindex_kept link along f asked t (value.Num z) may = f asked (value.Num z) may
    by_newindex_kept link along f asked t (value.Str x) may = f asked (value.Str x) may
    by_newindex_kept link along f asked t (value.Table u) may = f asked (value.Table u) may
    by_newindex_kept link along f asked t (value.Thread u) may = f asked (value.Thread u) may
    by_newindex_kept link along f asked t (value.Closure u) may = refl
    by_newindex_kept link along f asked t (value.Native u) may = refl
    by_newindex_kept link along f asked t (value.Host u) may = refl
    by_newindex_kept link along f asked t (value.Wrap u) may = refl

    newindex_found_kept : (link : ℕ → m.Value → choice.Choice) (along : ℕ → Value → Sought) → Follows link along →
        (asked : ℕ) (t : TableId) (found : Value) → May (value.Table t) →
        model.newindex_found part link asked (table_ref t) (meant texts key) (meant texts v) (meant texts found) ≡ stored
        (kept.after_store along t asked (kept.newindex_found a g t key v found))
    unfolding meant kept.metamethod
    newindex_found_kept link along f asked t value.Nil h =
        ap (λ h. model.by_newindex part link asked (table_ref t) (meant texts key) (meant texts v) h)
        (metamethod_part texts g a w own g.meta.newindex (codes "__newindex") own.globals.names.newindex (value.Table t) h)
        ∙ by_newindex_kept link along f asked t (kept.metamethod a g (value.Table t) g.meta.newindex)
        (metamethod_usable texts g a w own (value.Table t) g.meta.newindex h)
    newindex_found_kept link along f asked t _ h = refl

    newindex_asked_kept : (link : ℕ → m.Value → choice.Choice) (along : ℕ → Value → Sought) → Follows link along →
        (asked : ℕ) (base : Value) (t : Option TableId) → MaySome t → May key →
        model.newindex_asked part link asked (meant texts base) (meant texts key) (meant texts v) (option_map table_ref t) ≡ stored
        (kept.newindex_of along a g key v asked base t)
    unfolding meant_outcome
    newindex_asked_kept link along f asked base None h k = ap (λ e. model.chosen part asked (choice.Errs e)) (index_error_kept texts base key)
    newindex_asked_kept link along f asked base (Some t) h k =
        ap (λ x. model.newindex_found part link (suc asked) (table_ref t) (meant texts key) (meant texts v) x) (get_part texts g a w own t key h k)
        ∙ newindex_found_kept link along f (suc asked) t (rule.get (table_at a t) key) h

    one_more : (link : ℕ → m.Value → choice.Choice) (along : ℕ → Value → Sought) → Follows link along → (asked : ℕ) (base : Value) → May base →
        May key →
        model.newindex_asked part link asked (meant texts base) (meant texts key) (meant texts v) (model.as_table (meant texts base)) ≡ stored
        (kept.newindex_of along a g key v asked base (kept.as_table base))
    one_more link along f asked base h k =
        ap (λ t. model.newindex_asked part link asked (meant texts base) (meant texts key) (meant texts v) t) (as_table_part texts g a w own base)
        ∙ newindex_asked_kept link along f asked base (kept.as_table base) (as_table_usable texts g a w own base h) k

    -- ---- along the links

    along_kept : (links : ℕ) → May key →
        Follows (model.newindex_along links part (meant texts key) (meant texts v)) (kept.newindex_along (suc links) a g key v)
    unfolding kept.newindex_along meant_outcome meant_error
    along_kept zero k n u h =
        one_more (λ n u. model.chosen part n (choice.Errs error.NewindexChain)) (kept.newindex_along zero a g key v) (λ n u h. refl) n u h k
    along_kept (suc links) k n u h =
        one_more (model.newindex_along links part (meant texts key) (meant texts v)) (kept.newindex_along (suc links) a g key v) (along_kept links k) n u h k

    -- ---- and what comes of it may be used

    abbrev UsableTarget : Target → Type 0
    UsableTarget (NoTable o) = OfOutcome texts (MayUse texts a w) o
    UsableTarget (Into t) = May (value.Table t)

    abbrev Usable : (ℕ → Value → Sought) → Type 0
    Usable along = (n : ℕ) (u : Value) → May u → UsableTarget (along n u).0

    by_newindex_usable : (along : ℕ → Value → Sought) → Usable along → (asked : ℕ) (t : TableId) (h : Value) → May (value.Table t) → May key → May v →
        May h → UsableTarget (kept.after_store along t asked (kept.by_newindex t key v h)).0
    by_newindex_usable along f asked t h mt mk mv mh = by (kept.is_nil h) (kept.is_function h)
      where
        by : (b c : Bool) →
            UsableTarget (kept.after_store along t asked (cond b Here (cond c (Calls (kept.call_three h (value.Table t) key v)) (Onward h)))).0
        by true c = mt
        by false true = (mh, (mt, (mk, (mv, tt))))
        by false false = f asked h mh

    newindex_of_usable : (along : ℕ → Value → Sought) → Usable along → (asked : ℕ) (base : Value) (t : Option TableId) → MaySome t → May key → May v →
        UsableTarget (kept.newindex_of along a g key v asked base t).0
    unfolding kept.metamethod
    newindex_of_usable along f asked base None h k l = index_error_known texts base key k.1
    newindex_of_usable along f asked base (Some t) h k l = by (kept.is_nil (rule.get (table_at a t) key))
      where
        by : (b : Bool) →
            UsableTarget (kept.after_store along t (suc asked) (cond b (kept.by_newindex t key v (kept.said_by a (table_at a t).meta g.meta.newindex)) Here)).0
        by true = by_newindex_usable along f (suc asked) t (kept.metamethod a g (value.Table t) g.meta.newindex) h k l
            (metamethod_usable texts g a w own (value.Table t) g.meta.newindex h)
        by false = h

    along_usable : (tables : ℕ) → May key → May v → Usable (kept.newindex_along tables a g key v)
    unfolding kept.newindex_along
    along_usable zero k l n u h = tt
    along_usable (suc tables) k l n u h =
        newindex_of_usable (kept.newindex_along tables a g key v) (along_usable tables k l) n u (kept.as_table u) (as_table_usable texts g a w own u h) k l

    -- ---- where nothing is written

    choice_is : (base : Value) → May base → May key → (found : Sought) → found ≡ kept.newindex_along 101 a g key v 0 base → (target : Target) →
        found.0 ≡ target → stored_by found.1 target ≡ model.choose (choice.Newindex (meant texts base) (meant texts key) (meant texts v)) part
    unfolding model.choose model.newindex
    choice_is base h k found e target f = ap (stored_by found.1) (sym f) ∙ ap stored e ∙ sym (along_kept 100 k 0 base h)

    target_usable : (base : Value) → May base → May key → May v → (found : Sought) → found ≡ kept.newindex_along 101 a g key v 0 base →
        (target : Target) → found.0 ≡ target → UsableTarget target
    target_usable base h k l found e target f = subst UsableTarget f (subst (λ (s : Sought). UsableTarget s.0) (sym e) (along_usable 101 k l 0 base h))

    pub none_stored : (base : Value) → MayUse texts a w base → MayUse texts a w key → MayUse texts a w v → (found : Sought) →
        found ≡ kept.newindex_along 101 a g key v 0 base → (o : Outcome) → found.0 ≡ NoTable o → IsStored texts g a a w base key v o found.1
    none_stored base h k l found e o f =
        record {
          meant = choice_is base h k found e (NoTable o) f;
          usable = target_usable base h k l found e (NoTable o) f;
          own = own;
          changes = changes_nothing w a;
        }

    -- ---- where a table is written

    record Written (t : TableId) (asked : ℕ) (after : ArenaView) (o : Outcome) : Type 0 where
      pub meant : record { outcome = meant_outcome texts o; asked = asked; store = store_of texts g after w } ≡ stored_by asked (Into t)
      pub usable : OfOutcome texts (MayUse texts after w) o
      pub owns : IsOwn texts g after w
      pub changes : ChangesTables w a after

    -- the write, by whether the table is frozen and whether the key is nil
    abbrev set_by : ℕ → TableId → Bool → Bool → choice.Choice
    set_by asked t frozen nil =
        model.write_raw part asked (table_ref t)
        (if frozen then Err error.ReadonlyTable else if nil then Err error.NilKey else Ok (table.put (store.table_at part (table_ref t)) (meant texts key) (meant texts v)))

    set_is : (asked : ℕ) (t : TableId) (b c : Bool) → May (value.Table t) → (table_at a t).is_frozen ≡ b → kept.is_nil key ≡ c →
        set_by asked t b c ≡ stored_by asked (Into t)
    unfolding table.set
    set_is asked t b c h e f =
        sym
        (ap (λ b. set_by asked t b (table.is_nil (meant texts key))) (frozen_part texts g a w own t h ∙ e) ∙ ap (λ c. set_by asked t b c) (nil_kept texts key ∙ f))

    written_by : (t : TableId) (asked : ℕ) (b c : Bool) → May (value.Table t) → May key → May v → (table_at a t).is_frozen ≡ b → kept.is_nil key ≡ c →
        Written t asked (kept.write_arena a t key v (kept.write_outcome b c)) (kept.write_outcome b c)
    unfolding meant_outcome meant_error meant
    written_by t asked true c h k l e f = record { meant = set_is asked t true c h e f; usable = tt; owns = own; changes = changes_nothing w a }
    written_by t asked false true h k l e f = record { meant = set_is asked t false true h e f; usable = tt; owns = own; changes = changes_nothing w a }
    written_by t asked false false h k l e f =
        record {
          meant =
              ap (λ s. record { outcome = choice.Done m.Nil; asked = asked; store = s }) (put_part texts g a w own t key v h k)
              ∙ set_is asked t false false h e f;
          usable = (tt, tt);
          owns = put_own texts g a w own t key v h e k l;
          changes = put_changes texts g a w own t key v h e;
        }

    pub one_stored : (base : Value) → MayUse texts a w base → MayUse texts a w key → MayUse texts a w v → (found : Sought) →
        found ≡ kept.newindex_along 101 a g key v 0 base → (t : TableId) → found.0 ≡ Into t → (after : ArenaView) (o : Outcome) →
        o ≡ kept.write_outcome (table_at a t).is_frozen (kept.is_nil key) → after ≡ kept.write_arena a t key v o →
        IsStored texts g a after w base key v o found.1
    one_stored base h k l found e t f after o p q =
        let r = written_by t found.1 (table_at a t).is_frozen (kept.is_nil key) (target_usable base h k l found e (Into t) f) k l refl refl in
        let after_is : after ≡ kept.write_arena a t key v (kept.write_outcome (table_at a t).is_frozen (kept.is_nil key)) = q
        ∙ ap (kept.write_arena a t key v) p in
        let s : Written t found.1 after o =
        subst (λ after. Written t found.1 after o) (sym after_is)
        (subst (λ o. Written t found.1 (kept.write_arena a t key v (kept.write_outcome (table_at a t).is_frozen (kept.is_nil key))) o) (sym p) r) in
        record {
          meant = s.meant ∙ choice_is base h k found e (Into t) f;
          usable = s.usable;
          own = s.owns;
          changes = s.changes;
        }
