use Rattle.std.proofs.Common.{subst}
use Rattle.luau_tables.specs.Worlds.{MayUseIn}
use Rattle.value_model.specs.Parts.{meant}
use Rattle.meta_ops.specs.Outcomes.{OfOutcome}
use Rattle.machine_meaning.specs.Moves.{give}
use Rattle.machine_meaning.specs.States.{Into}
use Rattle.machine_world.proofs.Going.{runs_on}
use Rattle.machine_rows.proofs.Following.{taken_at_once, given_waiting}
use Rattle.machine_rows.proofs.settling.into_register.Goals as goal

pub give-requires-clause-usable : goal.give-requires-clause-usable
give-requires-clause-usable c =
    let w = c.args.world.now in subst (OfOutcome w.names (MayUseIn w)) c.in-Done.is c.requires.usable

pub returns-in-Done-clause-makes : goal.returns-in-Done-clause-makes
returns-in-Done-clause-makes c = λ chunk n.
    let w = c.args.world.now in
    let k = c.args.machine.now in
    let v = meant w.names c.in-Done.v in
    taken_at_once chunk w k.code k.stack c.give.new.self.stack c.args.outcome n (Into c.args.to c.args.next) (runs_on k.stack c.requires.goes) c.in-Done.v (give c.args.to v c.args.next) c.in-Done.is
    (given_waiting c.args.to c.args.next v (Into c.args.to c.args.next)) c.give.ensures.makes

pub settle-requires-clause-runs : goal.settle-requires-clause-runs
settle-requires-clause-runs c = runs_on c.args.machine.now.stack c.requires.goes
