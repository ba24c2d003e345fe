use Rattle.std.proofs.Common.{ap, ◌∙◌, get_or, length, refl}
use Rattle.value_model.specs.Owners.{wide}
use Rattle.value_arena.specs.Objects.{no_closure}
use Rattle.value_arena.specs.Arenas as spec
use Rattle.value_arena.proofs.Reaching.{owner_there, objects_read}
use Rattle.value_arena.proofs.arena.Arena.closure.Goals as goal

pub returns : goal.returns
unfolding spec.closure_at spec.HasClosure
returns c =
    let os = c.self.inside.owners.items in
    let there = owner_there (λ o. length o.closures) refl os c.self.inside.running c.args.self.now (wide c.args.id.owner) c.args.id.place c.self.view_is c.requires in
    c.closure.ensures ∙ ap (λ o. get_or o.closures c.args.id.place no_closure)
    (objects_read os c.self.inside.running c.args.self.now (wide c.args.id.owner) _ _ c.self.view_is c.slot_of.ensures there c.index.ensures)
