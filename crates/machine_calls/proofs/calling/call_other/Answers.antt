use Rattle.std.proofs.Common.{sym, subst}
use Rattle.std.specs.List.{AllByRecursion}
use Rattle.value_model.specs.Parts.{meant}
use Rattle.luau_tables.specs.Worlds.{MayUseIn, store_in}
use Rattle.meta_ops.specs.Outcomes.{OfOutcome, meant_outcome}
use Rattle.machine_calls.proofs.Invoked.{outcome_is, leads_done, leads_handler, leads_error, leads_stop}
use Rattle.machine_calls.proofs.calling.call_other.Goals as goal

pub returns-in-Done-clause-moves : goal.returns-in-Done-clause-moves
returns-in-Done-clause-moves c = λ chunk.
    let w = c.args.world.now in
    let k = c.args.machine.now in
    let o = c.call_target-outcome.result in
    let is = c.call_target-outcome.ensures w.names w.owner c.requires.sound.world.own c.requires.calls.1 in
    leads_done chunk w k.code k.stack c.args.by c.args.callee c.args.values.now.items c.requires.other o c.in-Done.f c.in-Done.is (outcome_is (store_in w) (meant w.names c.args.callee) (meant_outcome w.names o) is.meant)

pub returns-in-Done-clause-led : goal.returns-in-Done-clause-led
returns-in-Done-clause-led c =
    let w = c.args.world.now in
    let is = c.call_target-outcome.ensures w.names w.owner c.requires.sound.world.own c.requires.calls.1 in
    (c.requires.calls.0, subst (OfOutcome w.names (MayUseIn w)) c.in-Done.is is.usable, c.requires.calls.2)

pub returns-in_ok-put_first-in-CallThis-clause-moves : goal.returns-in_ok-put_first-in-CallThis-clause-moves
returns-in_ok-put_first-in-CallThis-clause-moves c = λ chunk.
    let w = c.args.world.now in
    let k = c.args.machine.now in
    let o = c.call_target-outcome.result in
    let is = c.call_target-outcome.ensures w.names w.owner c.requires.sound.world.own c.requires.calls.1 in
    leads_handler chunk w k.code k.stack c.args.by c.args.callee c.args.values.now.items c.requires.other o c.in-CallThis.handler c.in-CallThis.args c.in-CallThis.count c.put_first.new.values.items c.in-CallThis.is (outcome_is (store_in w) (meant w.names c.args.callee) (meant_outcome w.names o) is.meant) c.in_ok-put_first-in-CallThis.ensures

pub returns-in_ok-put_first-in-CallThis-clause-led : goal.returns-in_ok-put_first-in-CallThis-clause-led
returns-in_ok-put_first-in-CallThis-clause-led c =
    let w = c.args.world.now in
    let is = c.call_target-outcome.ensures w.names w.owner c.requires.sound.world.own c.requires.calls.1 in
    let usable = subst (OfOutcome w.names (MayUseIn w)) c.in-CallThis.is is.usable in
    (c.requires.calls.0, usable.0, subst (AllByRecursion (MayUseIn w)) (sym c.in_ok-put_first-in-CallThis.ensures) (c.requires.calls.1, c.requires.calls.2))

pub returns-in-RunError-clause-moves : goal.returns-in-RunError-clause-moves
returns-in-RunError-clause-moves c = λ chunk.
    let w = c.args.world.now in
    let k = c.args.machine.now in
    let o = c.call_target-outcome.result in
    let is = c.call_target-outcome.ensures w.names w.owner c.requires.sound.world.own c.requires.calls.1 in
    leads_error chunk w k.code k.stack c.args.by c.args.callee c.args.values.now.items c.requires.other o c.in-RunError.error c.in-RunError.is (outcome_is (store_in w) (meant w.names c.args.callee) (meant_outcome w.names o) is.meant) c.args.values.now.items

pub returns-in-RunError-clause-led : goal.returns-in-RunError-clause-led
returns-in-RunError-clause-led c =
    let w = c.args.world.now in
    let is = c.call_target-outcome.ensures w.names w.owner c.requires.sound.world.own c.requires.calls.1 in
    subst (OfOutcome w.names (MayUseIn w)) c.in-RunError.is is.usable

pub returns-in-Stop-clause-moves : goal.returns-in-Stop-clause-moves
returns-in-Stop-clause-moves c = λ chunk.
    let w = c.args.world.now in
    let k = c.args.machine.now in
    let o = c.call_target-outcome.result in
    let is = c.call_target-outcome.ensures w.names w.owner c.requires.sound.world.own c.requires.calls.1 in
    leads_stop chunk w k.code k.stack c.args.by c.args.callee c.args.values.now.items c.requires.other o c.in-Stop.stop c.in-Stop.is (outcome_is (store_in w) (meant w.names c.args.callee) (meant_outcome w.names o) is.meant) c.args.values.now.items
