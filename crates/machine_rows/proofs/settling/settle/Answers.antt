use Rattle.std.proofs.Common.{subst}
use Rattle.luau_tables.specs.Worlds.{MayUseIn}
use Rattle.meta_ops.specs.Outcomes.{OfOutcome}
use Rattle.machine_world.specs.Functions.{purpose_of}
use Rattle.machine_rows.proofs.Following.{settled_value, settled_call, settled_error, settled_stop}
use Rattle.machine_rows.proofs.settling.settle.Goals as goal

pub returns-in-Done-clause-makes : goal.returns-in-Done-clause-makes
returns-in-Done-clause-makes c = λ chunk n.
    let w = c.args.world.now in
    let k = c.args.machine.now in
    settled_value chunk w k.code k.stack c.expect.new.machine.stack c.args.outcome n (purpose_of w.names c.args.kind) c.requires.runs c.in-Done.v c.in-Done.is c.expect.ensures.expects

pub returns-in-Done-clause-next : goal.returns-in-Done-clause-next
returns-in-Done-clause-next c =
    let w = c.args.world.now in
    (c.expect.ensures.runs, subst (OfOutcome w.names (MayUseIn w)) c.in-Done.is c.requires.usable)

pub returns-in-CallThis-clause-makes : goal.returns-in-CallThis-clause-makes
returns-in-CallThis-clause-makes c = λ chunk n.
    let w = c.args.world.now in
    let k = c.args.machine.now in
    settled_call chunk w k.code k.stack c.wait.new.self.stack c.args.outcome n (purpose_of w.names c.args.kind) c.requires.runs c.in-CallThis.callee c.in-CallThis.args c.in-CallThis.count c.in-CallThis.is c.wait.ensures.waits

pub returns-in-CallThis-clause-next : goal.returns-in-CallThis-clause-next
returns-in-CallThis-clause-next c =
    let w = c.args.world.now in
    let u = subst (OfOutcome w.names (MayUseIn w)) c.in-CallThis.is c.requires.usable in
    (c.wait.ensures.top, u.0, u.1)

pub returns-in-RunError-clause-makes : goal.returns-in-RunError-clause-makes
returns-in-RunError-clause-makes c = λ chunk n.
    let w = c.args.world.now in
    let k = c.args.machine.now in
    settled_error chunk w k.code k.stack c.expect-in-RunError.new.machine.stack c.args.outcome n (purpose_of w.names c.args.kind) c.requires.runs c.in-RunError.e c.in-RunError.is c.expect-in-RunError.ensures.expects

pub returns-in-RunError-clause-next : goal.returns-in-RunError-clause-next
returns-in-RunError-clause-next c =
    let w = c.args.world.now in
    (c.expect-in-RunError.ensures.runs, subst (OfOutcome w.names (MayUseIn w)) c.in-RunError.is c.requires.usable)

pub returns-in-Stop-clause-makes : goal.returns-in-Stop-clause-makes
returns-in-Stop-clause-makes c = λ chunk n.
    let w = c.args.world.now in
    let k = c.args.machine.now in
    settled_stop chunk w k.code k.stack k.stack c.args.outcome n (purpose_of w.names c.args.kind) c.requires.runs c.in-Stop.stop c.in-Stop.is
