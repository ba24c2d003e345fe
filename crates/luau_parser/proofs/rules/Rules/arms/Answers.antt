use Rattle.std.proofs.Common.{◌-◌, refl}
use Rattle.std.proofs.lemmas.Result.{err_from_is_err_and}
use Rattle.luau_parser.proofs.ArmTurns.{no_arms, one_more_arm, arms_refuse, arms_end_refuses, arms_found}
use Rattle.luau_parser.proofs.rules.Rules.arms.Goals as goal

pub loop-arms-init : goal.loop-arms-init
loop-arms-init g c = rw c.new-arms.ensures (no_arms c.args.self.now.grammar.tokens.now (c.args.self.now.grammar.room - 1) c.args.at)

pub returns-in_err-next : goal.returns-in_err-next
returns-in_err-next g c =
    let ts = c.args.self.now.grammar.tokens.now in
    let room = c.args.self.now.grammar.room - 1 in
    let p = err_from_is_err_and c.from_residual.result c.from_residual.ensures.1 in
    let f = c.in_err-next.field-0.0 in
    rw (p.1, p.2) (arms_refuse ts room c.args.at c.loop-arms.arms c.loop-arms.nest c.loop-arms.begin f c.loop-arms.invariant c.in_err-next.ensures)

pub returns-in_err-last : goal.returns-in_err-last
returns-in_err-last g c =
    let ts = c.args.self.now.grammar.tokens.now in
    let room = c.args.self.now.grammar.room - 1 in
    let p = err_from_is_err_and c.from_residual-in_err-last.result c.from_residual-in_err-last.ensures.1 in
    let f = c.in_err-last.field-0.0 in
    rw (p.1, p.2) (arms_end_refuses ts room c.args.at c.loop-arms.arms c.loop-arms.nest c.loop-arms.begin c.in_ok-next.next f c.loop-arms.invariant c.in_ok-next.ensures c.in_err-last.ensures)

pub returns-then-not-stands : goal.returns-then-not-stands
returns-then-not-stands g c =
    arms_found c.args.self.now.grammar.tokens.now (c.args.self.now.grammar.room - 1) c.args.at c.loop-arms.arms c.push_arm.new.list c.loop-arms.nest c.loop-arms.begin c.max-nest.result c.max.result c.in_ok-next.next c.in_ok-last.last
    c.loop-arms.invariant c.in_ok-next.ensures c.in_ok-last.ensures c.max-nest.ensures c.max.ensures c.in_ok-push_arm.ensures

pub loop-arms-preserved : goal.loop-arms-preserved
loop-arms-preserved g c =
    one_more_arm c.args.self.now.grammar.tokens.now (c.args.self.now.grammar.room - 1) c.args.at c.loop-arms.arms c.push_arm.new.list c.loop-arms.nest c.loop-arms.begin c.max-nest.result c.in_ok-next.next
    c.loop-arms.invariant c.in_ok-next.ensures (c.if-not-stands.ensures.there refl) c.max-nest.ensures c.in_ok-push_arm.ensures
