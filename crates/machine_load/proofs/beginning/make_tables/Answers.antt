use Rattle.std.proofs.Common.{◌∙◌, ap}
use Rattle.value_arena.proofs.Growing.{table_stays}
use Rattle.machine_load.proofs.Made as made
use Rattle.machine_load.proofs.beginning.make_tables.Goals as goal

pub freeze-requires : goal.freeze-requires
freeze-requires c = table_stays _ _ c.in_ok-metatable.metatable c.in-Ok.ensures.grows c.in_ok-metatable.ensures.there

pub set_meta-requires : goal.set_meta-requires
set_meta-requires c =
    let w = c.args.world.now in
    let room = made.room_of w.arena _ w.owner c.in_ok-environment.environment c.in_ok-environment.ensures.made c.in_ok-environment.ensures.id c.in_ok-environment.ensures.there in
    let to = c.in_ok-metatable.ensures.id ∙ made.second_id w.arena w.owner room w.globals c.requires.none _ c.in_ok-environment.ensures.made in
    let two = made.both_new w.arena w.owner room w.globals c.requires.none _ _ c.in_ok-environment.ensures.made c.in_ok-metatable.ensures.made in
    let indexed = made.indexed w.arena w.owner room w.globals _ _ c.in_ok-metatable.metatable two to c.in-Ok.ensures.ok in
    let frozen = made.frozen w.arena w.owner room w.globals _ _ c.in_ok-metatable.metatable indexed to c.freeze.ensures in
    made.first_there w.arena w.owner room w.globals _ c.in_ok-environment.environment frozen
    (c.in_ok-environment.ensures.id ∙ made.first_id w.arena w.owner room w.globals c.requires.none)

pub returns-in-Ok-set_meta-clause-made : goal.returns-in-Ok-set_meta-clause-made
returns-in-Ok-set_meta-clause-made c =
    let w = c.args.world.now in
    let room = made.room_of w.arena _ w.owner c.in_ok-environment.environment c.in_ok-environment.ensures.made c.in_ok-environment.ensures.id c.in_ok-environment.ensures.there in
    let is = c.in_ok-environment.ensures.id ∙ made.first_id w.arena w.owner room w.globals c.requires.none in
    let to = c.in_ok-metatable.ensures.id ∙ made.second_id w.arena w.owner room w.globals c.requires.none _ c.in_ok-environment.ensures.made in
    let two = made.both_new w.arena w.owner room w.globals c.requires.none _ _ c.in_ok-environment.ensures.made c.in_ok-metatable.ensures.made in
    let indexed = made.indexed w.arena w.owner room w.globals _ _ c.in_ok-metatable.metatable two to c.in-Ok.ensures.ok in
    let frozen = made.frozen w.arena w.owner room w.globals _ _ c.in_ok-metatable.metatable indexed to c.freeze.ensures in
    ap (λ x. record w { arena = x })
    (made.with_metatable w.arena w.owner room w.globals _ _ c.in_ok-environment.environment c.in_ok-metatable.metatable frozen is to c.in-Ok-set_meta.ensures.ok.1)

pub returns-in-Ok-set_meta-clause-environment : goal.returns-in-Ok-set_meta-clause-environment
returns-in-Ok-set_meta-clause-environment c =
    let w = c.args.world.now in
    let room = made.room_of w.arena _ w.owner c.in_ok-environment.environment c.in_ok-environment.ensures.made c.in_ok-environment.ensures.id c.in_ok-environment.ensures.there in
    c.in_ok-environment.ensures.id ∙ made.first_id w.arena w.owner room w.globals c.requires.none

pub returns-in-Ok-set_meta-clause-room : goal.returns-in-Ok-set_meta-clause-room
returns-in-Ok-set_meta-clause-room c =
    let w = c.args.world.now in
    made.room_of w.arena _ w.owner c.in_ok-environment.environment c.in_ok-environment.ensures.made c.in_ok-environment.ensures.id c.in_ok-environment.ensures.there
