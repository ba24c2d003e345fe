use Rattle.std.proofs.Common.{ap}
use Rattle.value_model.specs.declared.ids.ClosureId.{ClosureId}
use Rattle.machine_load.proofs.Begins.{has_started, may_use_main}
use Rattle.machine_load.proofs.beginning.begin.Goals as goal

pub returns-clause-started : goal.returns-clause-started
returns-clause-started c =
    has_started c.args.world.now c.args.main c.make.new.world c.requires c.in_ok-function.ensures.room c.in_ok-function.ensures.made

pub returns-clause-main : goal.returns-clause-main
returns-clause-main c = ap (λ (f : ClosureId). f.place) c.in_ok-function.ensures.main

pub returns-clause-usable : goal.returns-clause-usable
returns-clause-usable c =
    may_use_main c.args.world.now c.args.main c.make.new.world c.in_ok-function.function c.requires c.in_ok-function.ensures.room c.in_ok-function.ensures.made c.in_ok-function.ensures.main
