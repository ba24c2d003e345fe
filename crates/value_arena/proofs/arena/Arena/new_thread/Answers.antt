use Rattle.std.proofs.Common.{◌≡◌, ap, subst, sym, ◌∙◌, length, ◌<◌, ◌++◌, ◌∷◌, [], rules}
use Rattle.value_arena.specs.Objects.{new_coroutine}
use Rattle.value_arena.specs.Arenas as spec
use Rattle.value_arena.proofs.Laws.{thread_made}
use Rattle.value_arena.proofs.Reaching.{objects_read, changed, reached, has_slot}
use Rattle.value_arena.proofs.arena.Arena.new_thread.Goals as goal

pub returns-clause-id : goal.returns-clause-id
unfolding spec.next_thread
returns-clause-id c =
    let there : spec.slot c.args.owner < length c.reach.new.owners.items = subst (λ k. k < length c.reach.new.owners.items) c.slot-slot.ensures c.in_ok-reach.ensures.there in
    let now = reached c.self.inside.owners.items c.reach.new.owners.items c.self.inside.running c.args.self.now c.reach.ensures.same c.self.view_is in
    ap (λ w. record { owner = w; place = c.in_ok-place.place }) c.narrow-owner.ensures
    ∙ ap (λ place. record { owner = spec.narrow c.args.owner; place = place })
    (c.in_ok-place.ensures.place ∙ ap (λ o. length o.threads) (objects_read c.reach.new.owners.items c.self.inside.running c.args.self.now c.args.owner c.slot-slot.result c.index_mut.result.now now c.slot-slot.ensures there c.index_mut.ensures.value))

pub returns-clause-made : goal.returns-clause-made
unfolding spec.new_thread
returns-clause-made c =
    let there : spec.slot c.args.owner < length c.reach.new.owners.items = subst (λ k. k < length c.reach.new.owners.items) c.slot-slot.ensures c.in_ok-reach.ensures.there in
    let made : c.new_thread.new.self ≡ record c.index_mut.result.now { threads = c.index_mut.result.now.threads ++ (new_coroutine c.args.body) ∷ [] } = search rules in
    changed c.self.inside.owners.items c.reach.new.owners.items c.self.inside.running c.args.self.now c.args.owner c.slot-slot.result c.index_mut.result.now c.new_thread.new.self (λ o. record o { threads = o.threads ++ (new_coroutine c.args.body) ∷ [] }) c.self.view_is c.reach.ensures.same c.slot-slot.ensures there c.index_mut.ensures.value made

pub returns-clause-there : goal.returns-clause-there
returns-clause-there c =
    let there : spec.slot c.args.owner < length c.reach.new.owners.items = subst (λ k. k < length c.reach.new.owners.items) c.slot-slot.ensures c.in_ok-reach.ensures.there in
    let now = reached c.self.inside.owners.items c.reach.new.owners.items c.self.inside.running c.args.self.now c.reach.ensures.same c.self.view_is in
    let long = has_slot c.reach.new.owners.items c.self.inside.running c.args.self.now c.args.owner now there in
    subst (λ a. spec.HasThread a (record { owner = c.narrow-owner.result; place = c.in_ok-place.place })) (sym (returns-clause-made c))
    (subst (spec.HasThread (spec.new_thread c.args.self.now c.args.owner c.args.body)) (sym (returns-clause-id c)) (thread_made c.args.self.now c.args.owner c.args.body long))
