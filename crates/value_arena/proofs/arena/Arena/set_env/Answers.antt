use Rattle.std.proofs.Common.{arith, subst, sym, length, refl, ◌<◌, set, get_or}
use Rattle.value_model.specs.Owners.{wide}
use Rattle.value_arena.specs.Objects.{no_closure}
use Rattle.value_arena.specs.Arenas as spec
use Rattle.value_arena.proofs.Reaching.{owner_there, objects_read, changed}
use Rattle.value_arena.proofs.arena.Arena.set_env.Goals as goal

pub index_mut-requires : goal.index_mut-requires
unfolding spec.HasClosure
index_mut-requires c =
    let there = owner_there (λ o. length o.closures) refl c.self.inside.owners.items c.self.inside.running c.args.self.now (wide c.args.id.owner) c.args.id.place c.self.view_is c.requires in
    omega (arith, there, c.slot_of-slot.ensures, c.self.inside.owners.ok)

pub set_env-requires : goal.set_env-requires
unfolding spec.HasClosure
set_env-requires c =
    let there = owner_there (λ o. length o.closures) refl c.self.inside.owners.items c.self.inside.running c.args.self.now (wide c.args.id.owner) c.args.id.place c.self.view_is c.requires in
    subst (λ o. c.args.id.place < length o.closures)
    (sym (objects_read _ _ _ (wide c.args.id.owner) _ _ c.self.view_is c.slot_of-slot.ensures there c.index_mut.ensures.value)) c.requires

pub returns : goal.returns
unfolding spec.with_closure spec.HasClosure spec.closure_at
returns c =
    let there = owner_there (λ o. length o.closures) refl c.self.inside.owners.items c.self.inside.running c.args.self.now (wide c.args.id.owner) c.args.id.place c.self.view_is c.requires in
    changed c.self.inside.owners.items c.self.inside.owners.items c.self.inside.running c.args.self.now (wide c.args.id.owner) c.slot_of-slot.result c.index_mut.result.now c.set_env.new.self (λ o. record o { closures = set o.closures c.args.id.place (record (get_or o.closures c.args.id.place no_closure) { env = c.args.env }) }) c.self.view_is refl c.slot_of-slot.ensures there c.index_mut.ensures.value c.set_env.ensures
