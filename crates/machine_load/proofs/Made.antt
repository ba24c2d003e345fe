-- The arena while what a script starts with is made.
use Rattle.std.proofs.Common.{◌≡◌, ℕ, ◌<◌, true, List, [], ◌∷◌, ◌++◌, length, get_or, set, Some, refl, sym, ◌∙◌, ap, subst, arith, set-set}
use Rattle.std.proofs.lemmas.List.{length-set}
use Rattle.value_model.specs.Owners.{wide}
use Rattle.value_model.specs.declared.ids.Owner.{Owner}
use Rattle.value_model.specs.declared.ids.TableId.{TableId}
use Rattle.value_model.specs.declared.ids.CellId.{CellId}
use Rattle.value_model.specs.declared.ids.ClosureId.{ClosureId}
use Rattle.value_model.specs.declared.value.Value.{Value}
use Rattle.value_model.specs.declared.value.Value.TheVariants as value
use Rattle.value_arena.specs.Arenas.{ArenaView, HasTable, objects_of, with_objects, slot, narrow, table_at, with_table, new_table, next_table, new_closure, next_closure, new_thread}
use Rattle.value_arena.specs.Objects.{ObjectsView, no_objects, new_coroutine}
use Rattle.value_arena.specs.Tables.{TableView, no_table}
use Rattle.value_arena.specs.declared.closure.Closure.{Closure}
use Rattle.value_arena.proofs.Laws.{is_in, objects_now, wide_narrow}
use Rattle.luau_tables.specs.Rules as rule
use Rattle.luau_tables.specs.declared.globals.Globals.{Globals}
use Rattle.machine_world.specs.Parts.{environment_id}
use Rattle.machine_load.specs.Beginning.{first_tables, first_objects, metatable_id, main_id}

-- a place among the tables of an owner
abbrev own_table : Owner → ℕ → TableId
own_table w i = record { owner = narrow w; place = i }

put_first : (key : Value) (t : TableId) → rule.put no_table key (value.Table t) ≡ record no_table { entries = (key, value.Table t) ∷ [] }
unfolding rule.put
put_first key t = refl

module _ (a : ArenaView) (w : Owner) (room : slot w < length a.owners) where
  -- the owner has these objects
  abbrev having : ObjectsView → ArenaView
  having o = with_objects a w o

  now : (o : ObjectsView) → objects_of (having o) w ≡ o
  now o = objects_now a w o room

  again : (o p : ObjectsView) → with_objects (having o) w p ≡ having p
  again o p = ap (λ os. record { owners = os; running = a.running }) (set-set a.owners (slot w) o p)

  table_more : (o : ObjectsView) → new_table (having o) w ≡ having (record o { tables = o.tables ++ no_table ∷ [] })
  unfolding new_table
  table_more o =
      ap (λ (x : ObjectsView). with_objects (having o) w (record x { tables = x.tables ++ no_table ∷ [] })) (now o)
      ∙ again o (record o { tables = o.tables ++ no_table ∷ [] })

  table_next : (o : ObjectsView) → next_table (having o) w ≡ own_table w (length o.tables)
  unfolding next_table
  table_next o = ap (λ (x : ObjectsView). own_table w (length x.tables)) (now o)

  table_set : (o : ObjectsView) (i : ℕ) (v : TableView) → with_table (having o) (own_table w i) v ≡ having (record o { tables = set o.tables i v })
  unfolding with_table
  table_set o i v =
      ap (λ u. let x = objects_of (having o) u in with_objects (having o) u (record x { tables = set x.tables i v })) (wide_narrow w)
      ∙ ap (λ (x : ObjectsView). with_objects (having o) w (record x { tables = set x.tables i v })) (now o)
      ∙ again o (record o { tables = set o.tables i v })

  table_is : (o : ObjectsView) (i : ℕ) → table_at (having o) (own_table w i) ≡ get_or o.tables i no_table
  unfolding table_at
  table_is o i =
      ap (λ u. get_or (objects_of (having o) u).tables i no_table) (wide_narrow w)
      ∙ ap (λ (x : ObjectsView). get_or x.tables i no_table) (now o)

  -- a table is changed by what it was
  table_by : (o : ObjectsView) (i : ℕ) (change : TableView → TableView) → with_table (having o) (own_table w i) (change (table_at (having o) (own_table w i)))
      ≡ having (record o { tables = set o.tables i (change (get_or o.tables i no_table)) })
  table_by o i change =
      ap (λ t. with_table (having o) (own_table w i) (change t)) (table_is o i)
      ∙ table_set o i (change (get_or o.tables i no_table))

  closure_more : (o : ObjectsView) (f : Closure) → new_closure (having o) w f ≡ having (record o { closures = o.closures ++ f ∷ [] })
  unfolding new_closure
  closure_more o f =
      ap (λ (x : ObjectsView). with_objects (having o) w (record x { closures = x.closures ++ f ∷ [] })) (now o)
      ∙ again o (record o { closures = o.closures ++ f ∷ [] })

  pub closure_next : (o : ObjectsView) → next_closure (having o) w ≡ record { owner = narrow w; place = length o.closures }
  unfolding next_closure
  closure_next o = ap (λ (x : ObjectsView). record { owner = narrow w; place = length x.closures }) (now o)

  thread_more : (o : ObjectsView) (body : Value) → new_thread (having o) w body ≡ having (record o { threads = o.threads ++ new_coroutine body ∷ [] })
  unfolding new_thread
  thread_more o body =
      ap (λ (x : ObjectsView). with_objects (having o) w (record x { threads = x.threads ++ new_coroutine body ∷ [] })) (now o)
      ∙ again o (record o { threads = o.threads ++ new_coroutine body ∷ [] })

  module _ (g : Globals) where
    -- ---- the tables

    abbrev two : ObjectsView
    two = record no_objects { tables = no_table ∷ no_table ∷ [] }

    abbrev second : TableView → ObjectsView
    second t = record no_objects { tables = no_table ∷ t ∷ [] }

    abbrev index : TableView
    index = record no_table { entries = (value.Str g.meta.index, value.Table g.table) ∷ [] }

    -- two tables, each the next one
    pub both_new : (none : objects_of a w ≡ no_objects) (a1 a2 : ArenaView) → a1 ≡ new_table a w → a2 ≡ new_table a1 w → a2 ≡ having two
    unfolding new_table
    both_new none a1 a2 e1 e2 =
        e2 ∙ ap (λ x. new_table x w) (e1 ∙ ap (λ (x : ObjectsView). having (record x { tables = x.tables ++ no_table ∷ [] })) none)
        ∙ table_more (record no_objects { tables = no_table ∷ [] })

    pub second_id : (none : objects_of a w ≡ no_objects) (a1 : ArenaView) → a1 ≡ new_table a w → next_table a1 w ≡ metatable_id w
    unfolding new_table
    second_id none a1 e1 =
        ap (λ x. next_table x w) (e1 ∙ ap (λ (x : ObjectsView). having (record x { tables = x.tables ++ no_table ∷ [] })) none)
        ∙ table_next (record no_objects { tables = no_table ∷ [] })

    pub first_id : (none : objects_of a w ≡ no_objects) → next_table a w ≡ environment_id w
    unfolding next_table
    first_id none = ap (λ (x : ObjectsView). own_table w (length x.tables)) none

    pub indexed : (a2 a3 : ArenaView) (t : TableId) → a2 ≡ having two → t ≡ metatable_id w
        → a3 ≡ with_table a2 t (rule.put (table_at a2 t) (value.Str g.meta.index) (value.Table g.table)) → a3 ≡ having (second index)
    indexed a2 a3 t e is made =
        made
        ∙ ap (λ x. with_table x t (rule.put (table_at x t) (value.Str g.meta.index) (value.Table g.table))) e
        ∙ ap (λ u. with_table (having two) u (rule.put (table_at (having two) u) (value.Str g.meta.index) (value.Table g.table))) is
        ∙ table_by two 1 (λ x. rule.put x (value.Str g.meta.index) (value.Table g.table))
        ∙ ap (λ x. having (second x)) (put_first (value.Str g.meta.index) g.table)

    pub frozen : (a3 a4 : ArenaView) (t : TableId) → a3 ≡ having (second index) → t ≡ metatable_id w
        → a4 ≡ with_table a3 t (record (table_at a3 t) { is_frozen = true }) → a4 ≡ having (second (record index { is_frozen = true }))
    frozen a3 a4 t e is made =
        made
        ∙ ap (λ x. with_table x t (record (table_at x t) { is_frozen = true })) e
        ∙ ap (λ u. with_table (having (second index)) u (record (table_at (having (second index)) u) { is_frozen = true })) is
        ∙ table_by (second index) 1 (λ x. record x { is_frozen = true })

    pub first_there : (a4 : ArenaView) (s : TableId) → a4 ≡ having (second (record index { is_frozen = true })) → s ≡ environment_id w → HasTable a4 s
    unfolding HasTable
    first_there a4 s e is =
        let o = second (record index { is_frozen = true }) in
        let there = subst (λ (x : ObjectsView). 0 < length x.tables) (sym (now o)) (omega arith) in
        let named = subst (λ u. 0 < length (objects_of (having o) u).tables) (sym (wide_narrow w)) there in
        subst (λ x. s.place < length (objects_of x (wide s.owner)).tables) (sym e)
        (subst (λ (u : TableId). u.place < length (objects_of (having o) (wide u.owner)).tables) (sym is) named)

    pub with_metatable : (a4 a5 : ArenaView) (s t : TableId) → a4 ≡ having (second (record index { is_frozen = true })) → s ≡ environment_id w → t ≡ metatable_id w
        → a5 ≡ with_table a4 s (record (table_at a4 s) { meta = Some t }) → a5 ≡ having (first_tables w g)
    with_metatable a4 a5 s t e is to made =
        let o = second (record index { is_frozen = true }) in
        made
        ∙ ap (λ x. with_table x s (record (table_at x s) { meta = Some t })) e
        ∙ ap (λ u. with_table (having o) u (record (table_at (having o) u) { meta = Some t })) is
        ∙ ap (λ u. with_table (having o) (environment_id w) (record (table_at (having o) (environment_id w)) { meta = Some u })) to
        ∙ table_by o 0 (λ x. record x { meta = Some (metatable_id w) })

    -- ---- the rest

    pub environment_there : (b : ArenaView) (t : TableId) → b ≡ having (first_tables w g) → t ≡ environment_id w → HasTable b t
    unfolding HasTable
    environment_there b t e is =
        let there = subst (λ (x : ObjectsView). 0 < length x.tables) (sym (now (first_tables w g))) (omega arith) in
        let named = subst (λ u. 0 < length (objects_of (having (first_tables w g)) u).tables) (sym (wide_narrow w)) there in
        subst (λ x. t.place < length (objects_of x (wide t.owner)).tables) (sym e)
        (subst (λ (u : TableId). u.place < length (objects_of (having (first_tables w g)) (wide u.owner)).tables) (sym is) named)

    pub all_made : (main : ℕ) (u : Owner) (cells : List CellId) (a5 a6 a7 a8 : ArenaView) (s : TableId) (f : ClosureId) → u ≡ w → cells ≡ []
        → a5 ≡ having (first_tables w g) → s ≡ environment_id w → a6 ≡ with_table a5 s (record (table_at a5 s) { is_marked = true })
        → a7 ≡ new_closure a6 u (record { proto = main; env = s; cells = cells }) → f ≡ next_closure a6 u → a8 ≡ new_thread a7 u (value.Closure f)
        → (f ≡ main_id w) × (a8 ≡ having (first_objects w g main))
    all_made main u cells a5 a6 a7 a8 s f same none e5 is e6 e7 ef e8 =
        let o6 : ObjectsView = record no_objects { tables = (first_objects w g main).tables } in
        let at6 : a6 ≡ having o6 =
        e6
        ∙ ap (λ x. with_table x s (record (table_at x s) { is_marked = true })) e5
        ∙ ap (λ v. with_table (having (first_tables w g)) v (record (table_at (having (first_tables w g)) v) { is_marked = true })) is
        ∙ table_by (first_tables w g) 0 (λ x. record x { is_marked = true }) in
        let o7 : ObjectsView = record o6 { closures = record { proto = main; env = environment_id w; cells = [] } ∷ [] } in
        let at7 : a7 ≡ having o7 =
        e7
        ∙ ap (λ v. new_closure a6 v (record { proto = main; env = s; cells = cells })) same
        ∙ ap (λ x. new_closure x w (record { proto = main; env = s; cells = cells })) at6
        ∙ ap (λ v. new_closure (having o6) w (record { proto = main; env = v; cells = cells })) is
        ∙ ap (λ v. new_closure (having o6) w (record { proto = main; env = environment_id w; cells = v })) none
        ∙ closure_more o6 (record { proto = main; env = environment_id w; cells = [] }) in
        let id : f ≡ main_id w = ef ∙ ap (λ v. next_closure a6 v) same ∙ ap (λ x. next_closure x w) at6 ∙ closure_next o6 in (
          id,
          e8
              ∙ ap (λ v. new_thread a7 v (value.Closure f)) same
              ∙ ap (λ x. new_thread x w (value.Closure f)) at7
              ∙ ap (λ v. new_thread (having o7) w (value.Closure v)) id
              ∙ thread_more o7 (value.Closure (main_id w)),
        )

-- where the owner's first table is there, the owner is
pub room_of : (a b : ArenaView) (w : Owner) (t : TableId) → b ≡ new_table a w → t ≡ next_table a w → HasTable b t → slot w < length a.owners
unfolding HasTable new_table next_table
room_of a b w t e is there =
    let within = is_in (λ (o : ObjectsView). length o.tables) refl b (wide t.owner) t.place there in
    let named = subst (λ u. slot u < length b.owners) (ap (λ (x : TableId). wide x.owner) is ∙ wide_narrow w) within in
    let o = objects_of a w in
    let same = ap (λ (x : ArenaView). length x.owners) e ∙ length-set a.owners (slot w) (record o { tables = o.tables ++ no_table ∷ [] }) in
    subst (λ n. slot w < n) same named
