use Rattle.std.proofs.Common.{◌≡◌, ap, subst, sym, ◌∙◌, length, ◌<◌, ◌++◌, ◌∷◌, [], rules}
use Rattle.value_arena.specs.Arenas as spec
use Rattle.value_arena.proofs.Laws.{closure_made}
use Rattle.value_arena.proofs.Reaching.{objects_read, changed, reached, has_slot}
use Rattle.value_arena.proofs.arena.Arena.new_closure.Goals as goal

pub returns-clause-id : goal.returns-clause-id
unfolding spec.next_closure
returns-clause-id c =
    let there : spec.slot c.args.owner < length c.reach.new.owners.items = subst (λ k. k < length c.reach.new.owners.items) c.slot-slot.ensures c.in_ok-reach.ensures.there in
    let now = reached c.self.inside.owners.items c.reach.new.owners.items c.self.inside.running c.args.self.now c.reach.ensures.same c.self.view_is in
    ap (λ w. record { owner = w; place = c.in_ok-place.place }) c.narrow-owner.ensures
    ∙ ap (λ place. record { owner = spec.narrow c.args.owner; place = place })
    (c.in_ok-place.ensures.place ∙ ap (λ o. length o.closures) (objects_read c.reach.new.owners.items c.self.inside.running c.args.self.now c.args.owner c.slot-slot.result c.index_mut.result.now now c.slot-slot.ensures there c.index_mut.ensures.value))

pub returns-clause-made : goal.returns-clause-made
unfolding spec.new_closure
returns-clause-made c =
    let there : spec.slot c.args.owner < length c.reach.new.owners.items = subst (λ k. k < length c.reach.new.owners.items) c.slot-slot.ensures c.in_ok-reach.ensures.there in
    let made : c.new_closure.new.self ≡ record c.index_mut.result.now { closures = c.index_mut.result.now.closures ++ (record { proto = c.args.proto; env = c.args.env; cells = c.args.cells.items }) ∷ [] } = search rules in
    changed c.self.inside.owners.items c.reach.new.owners.items c.self.inside.running c.args.self.now c.args.owner c.slot-slot.result c.index_mut.result.now c.new_closure.new.self (λ o. record o { closures = o.closures ++ (record { proto = c.args.proto; env = c.args.env; cells = c.args.cells.items }) ∷ [] }) c.self.view_is c.reach.ensures.same c.slot-slot.ensures there c.index_mut.ensures.value made

pub returns-clause-there : goal.returns-clause-there
returns-clause-there c =
    let there : spec.slot c.args.owner < length c.reach.new.owners.items = subst (λ k. k < length c.reach.new.owners.items) c.slot-slot.ensures c.in_ok-reach.ensures.there in
    let now = reached c.self.inside.owners.items c.reach.new.owners.items c.self.inside.running c.args.self.now c.reach.ensures.same c.self.view_is in
    let long = has_slot c.reach.new.owners.items c.self.inside.running c.args.self.now c.args.owner now there in
    subst (λ a. spec.HasClosure a (record { owner = c.narrow-owner.result; place = c.in_ok-place.place })) (sym (returns-clause-made c))
    (subst (spec.HasClosure (spec.new_closure c.args.self.now c.args.owner (record { proto = c.args.proto; env = c.args.env; cells = c.args.cells.items }))) (sym (returns-clause-id c)) (closure_made c.args.self.now c.args.owner (record { proto = c.args.proto; env = c.args.env; cells = c.args.cells.items }) long))
