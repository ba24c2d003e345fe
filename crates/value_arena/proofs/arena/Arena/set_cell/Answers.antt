use Rattle.std.proofs.Common.{arith, subst, sym, length, refl, ◌<◌, set}
use Rattle.value_model.specs.Owners.{wide}
use Rattle.value_arena.specs.Arenas as spec
use Rattle.value_arena.proofs.Reaching.{owner_there, objects_read, changed}
use Rattle.value_arena.proofs.arena.Arena.set_cell.Goals as goal

pub index_mut-requires : goal.index_mut-requires
unfolding spec.HasCell
index_mut-requires c =
    let there = owner_there (λ o. length o.cells) refl c.self.inside.owners.items c.self.inside.running c.args.self.now (wide c.args.id.owner) c.args.id.place c.self.view_is c.requires in
    omega (arith, there, c.slot_of-slot.ensures, c.self.inside.owners.ok)

pub set_cell-requires : goal.set_cell-requires
unfolding spec.HasCell
set_cell-requires c =
    let there = owner_there (λ o. length o.cells) refl c.self.inside.owners.items c.self.inside.running c.args.self.now (wide c.args.id.owner) c.args.id.place c.self.view_is c.requires in
    subst (λ o. c.args.id.place < length o.cells)
    (sym (objects_read _ _ _ (wide c.args.id.owner) _ _ c.self.view_is c.slot_of-slot.ensures there c.index_mut.ensures.value)) c.requires

pub returns : goal.returns
unfolding spec.with_cell spec.HasCell
returns c =
    let there = owner_there (λ o. length o.cells) refl c.self.inside.owners.items c.self.inside.running c.args.self.now (wide c.args.id.owner) c.args.id.place c.self.view_is c.requires in
    changed c.self.inside.owners.items c.self.inside.owners.items c.self.inside.running c.args.self.now (wide c.args.id.owner) c.slot_of-slot.result c.index_mut.result.now c.set_cell.new.self (λ o. record o { cells = set o.cells c.args.id.place c.args.v }) c.self.view_is refl c.slot_of-slot.ensures there c.index_mut.ensures.value c.set_cell.ensures
