use Rattle.std.proofs.Common.{◌≡◌, ap, subst, sym, ◌∙◌, length, ◌<◌, ◌++◌, ◌∷◌, [], rules}
use Rattle.value_arena.specs.Tables.{no_table}
use Rattle.value_arena.specs.Arenas as spec
use Rattle.value_arena.proofs.Laws.{table_made}
use Rattle.value_arena.proofs.Reaching.{objects_read, changed, reached, has_slot}
use Rattle.value_arena.proofs.arena.Arena.new_table.Goals as goal

pub returns-clause-id : goal.returns-clause-id
unfolding spec.next_table
returns-clause-id c =
    let there : spec.slot c.args.owner < length c.reach.new.owners.items = subst (λ k. k < length c.reach.new.owners.items) c.slot-slot.ensures c.in_ok-reach.ensures.there in
    let now = reached c.self.inside.owners.items c.reach.new.owners.items c.self.inside.running c.args.self.now c.reach.ensures.same c.self.view_is in
    ap (λ w. record { owner = w; place = c.in_ok-place.place }) c.narrow-owner.ensures
    ∙ ap (λ place. record { owner = spec.narrow c.args.owner; place = place })
    (c.in_ok-place.ensures.place ∙ ap (λ o. length o.tables) (objects_read c.reach.new.owners.items c.self.inside.running c.args.self.now c.args.owner c.slot-slot.result c.index_mut.result.now now c.slot-slot.ensures there c.index_mut.ensures.value))

pub returns-clause-made : goal.returns-clause-made
unfolding spec.new_table
returns-clause-made c =
    let there : spec.slot c.args.owner < length c.reach.new.owners.items = subst (λ k. k < length c.reach.new.owners.items) c.slot-slot.ensures c.in_ok-reach.ensures.there in
    let made : c.new_table.new.self ≡ record c.index_mut.result.now { tables = c.index_mut.result.now.tables ++ no_table ∷ [] } = search rules in
    changed c.self.inside.owners.items c.reach.new.owners.items c.self.inside.running c.args.self.now c.args.owner c.slot-slot.result c.index_mut.result.now c.new_table.new.self (λ o. record o { tables = o.tables ++ no_table ∷ [] }) c.self.view_is c.reach.ensures.same c.slot-slot.ensures there c.index_mut.ensures.value made

pub returns-clause-there : goal.returns-clause-there
returns-clause-there c =
    let there : spec.slot c.args.owner < length c.reach.new.owners.items = subst (λ k. k < length c.reach.new.owners.items) c.slot-slot.ensures c.in_ok-reach.ensures.there in
    let now = reached c.self.inside.owners.items c.reach.new.owners.items c.self.inside.running c.args.self.now c.reach.ensures.same c.self.view_is in
    let long = has_slot c.reach.new.owners.items c.self.inside.running c.args.self.now c.args.owner now there in
    subst (λ a. spec.HasTable a (record { owner = c.narrow-owner.result; place = c.in_ok-place.place })) (sym (returns-clause-made c))
    (subst (spec.HasTable (spec.new_table c.args.self.now c.args.owner)) (sym (returns-clause-id c)) (table_made c.args.self.now c.args.owner long))
