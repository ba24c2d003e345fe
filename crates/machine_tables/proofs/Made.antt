-- A row that changes tables alone, and a table that is made.
use Rattle.std.proofs.Common.{◌≡◌, ℕ, List, sym, ◌∙◌, ap, subst}
use Rattle.value_model.specs.Parts.{meant, table_ref}
use Rattle.value_model.specs.Store as store
use Rattle.value_model.specs.Values as m
use Rattle.value_model.specs.declared.event.Reply.{Reply}
use Rattle.value_model.specs.declared.ids.TableId.{TableId}
use Rattle.value_model.specs.declared.value.Value.TheVariants as value
use Rattle.value_arena.specs.Arenas.{ArenaView, HasTable, new_table, next_table}
use Rattle.luau_tables.specs.Worlds.{MayUseIn, Keeps, store_in}
use Rattle.luau_tables.specs.declared.globals.LibWorld.{LibWorld}
use Rattle.luau_tables.proofs.WorldsKept.{new_table_keeps, new_table_store, new_table_use, new_table_is}
use Rattle.call_frames.specs.Stacks.{StackView}
use Rattle.machine_meaning.specs.States.{Run, Focus, State}
use Rattle.machine_meaning.specs.Moves.{Row, with_store, give}
use Rattle.machine_meaning.specs.Effects as effects
use Rattle.machine_code.specs.declared.code.Code.{Code}
use Rattle.machine_world.specs.Parts.{part}
use Rattle.machine_world.specs.Rows.{row_in, Makes}
use Rattle.machine_world.specs.Sound.{Runs, IsMachine}
use Rattle.machine_world.proofs.Here.{Here, here, row_here}
use Rattle.machine_rows.proofs.Steps.{store_here}
use Rattle.machine_rows.proofs.Stored.{restored, part_stored, machine_stored}

-- what follows is done in the world that it leaves
pub makes_stored : (w w' : LibWorld) (code : Code) (s s' : StackView) (r q : Row) → Runs s →
    ((x : Focus) (replies : List Reply) → part w' code s x replies ≡ restored (store_in w') (part w code s x replies)) →
    ((replies : List Reply) (h : Here w code s replies) → r h.frame h.others h.world ≡ q h.frame h.others (with_store (store_in w') h.world)) →
    Makes q w' code s w' s' → Makes r w code s w' s'
makes_stored w w' code s s' r q runs stored same makes = λ replies.
    let h = here w code s replies runs in
    row_here h r
    ∙ same replies h
    ∙ sym (ap (λ (t : State). row_in q t.functions t.world) (stored Run replies ∙ ap (restored (store_in w')) (h.is Run)))
    ∙ makes replies

-- ---- a new table

module _ (w : LibWorld) (code : Code) (s : StackView) (is : IsMachine w s) (b : ArenaView) (made : b ≡ new_table w.arena w.owner) where
  made_keeps : Keeps w (record w { arena = new_table w.arena w.owner })
  made_keeps = new_table_keeps w is.world

  pub new_keeps : Keeps w (record w { arena = b })
  new_keeps = subst (λ b. Keeps w (record w { arena = b })) (sym made) made_keeps

  pub new_sound : IsMachine (record w { arena = b }) s
  new_sound =
      subst (λ b. IsMachine (record w { arena = b }) s) (sym made) (machine_stored w (new_table w.arena w.owner) s made_keeps.world.own made_keeps.arena is)

  module _ (id : TableId) (e : id ≡ next_table w.arena w.owner) (there : HasTable b id) where
    is_there : HasTable (new_table w.arena w.owner) (next_table w.arena w.owner)
    is_there = subst (λ b. HasTable b (next_table w.arena w.owner)) made (subst (HasTable b) e there)

    pub new_use : MayUseIn (record w { arena = b }) (value.Table id)
    new_use =
        subst (λ b. MayUseIn (record w { arena = b }) (value.Table id)) (sym made)
        (subst (λ id. MayUseIn (record w { arena = new_table w.arena w.owner }) (value.Table id)) (sym e) (new_table_use w is.world is_there))

    pub new_makes : (s' : StackView) (to next : ℕ) → Runs s → Makes (give to (meant w.names (value.Table id)) next) (record w { arena = b }) code s (record w { arena = b }) s' → Makes (effects.new_table to next) w code s (record w { arena = b }) s'
    unfolding meant
    new_makes s' to next runs makes =
        let w' : LibWorld = record w { arena = b } in
        let stored : store_in w' ≡ store.with_new_table (store_in w) store.empty_table =
        ap (λ b. store_in (record w { arena = b })) made ∙ new_table_store w is.world is_there in
        makes_stored w w' code s s' (effects.new_table to next) (give to (m.Table (table_ref id)) next) runs
        (λ x replies. part_stored w b code s x replies new_keeps.arena)
        (λ replies h. ap (λ st. give to (m.Table (store.next_table st)) next h.frame h.others (with_store (store.with_new_table st store.empty_table) h.world)) (sym (store_here h))
        ∙ ap (λ st. give to (m.Table (store.next_table (store_in w))) next h.frame h.others (with_store st h.world)) (sym stored)
        ∙ ap (λ r. give to (m.Table r) next h.frame h.others (with_store (store_in w') h.world)) (sym (ap table_ref e ∙ new_table_is w is.world)))
        makes
