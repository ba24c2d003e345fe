use Rattle.std.proofs.Common.{◌∙◌, ap}
use Rattle.luau_tables.specs.declared.globals.LibWorld.{LibWorld}
use Rattle.machine_load.proofs.Made as made
use Rattle.machine_load.proofs.beginning.make.Goals as goal

pub set_mark-requires : goal.set_mark-requires
set_mark-requires c =
    let w = c.args.world.now in
    let h = c.in_ok-environment.ensures in
    made.environment_there w.arena w.owner h.room w.globals _ c.in_ok-environment.environment (ap (λ (x : LibWorld). x.arena) h.made) h.environment

pub returns-clause-made : goal.returns-clause-made
returns-clause-made c =
    let w = c.args.world.now in
    let h = c.in_ok-environment.ensures in
    let all = made.all_made w.arena w.owner h.room w.globals c.args.main c.make_tables.new.world.owner c.new-cells.result.items _ _ _ _ c.in_ok-environment.environment
    c.in_ok-function.function (ap (λ (x : LibWorld). x.owner) h.made) c.new-cells.ensures.items (ap (λ (x : LibWorld). x.arena) h.made) h.environment c.set_mark.ensures
    c.in_ok-function.ensures.made c.in_ok-function.ensures.id c.in_ok-new_thread.ensures.made in
    ap (λ (x : LibWorld). record x { arena = c.new_thread.new.self }) h.made ∙ ap (λ x. record w { arena = x }) all.1

pub returns-clause-main : goal.returns-clause-main
returns-clause-main c =
    let w = c.args.world.now in
    let h = c.in_ok-environment.ensures in
    (made.all_made w.arena w.owner h.room w.globals c.args.main c.make_tables.new.world.owner c.new-cells.result.items _ _ _ _ c.in_ok-environment.environment
    c.in_ok-function.function (ap (λ (x : LibWorld). x.owner) h.made) c.new-cells.ensures.items (ap (λ (x : LibWorld). x.arena) h.made) h.environment c.set_mark.ensures
    c.in_ok-function.ensures.made c.in_ok-function.ensures.id c.in_ok-new_thread.ensures.made).0
