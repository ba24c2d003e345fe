use Rattle.std.proofs.Common.{max, ◌-◌, ◌∷◌, ◌∙◌}
use Rattle.std.proofs.lemmas.Result.{err_from_is_err_and}
use Rattle.parse_steps.specs.Items as item
use Rattle.expression_parser.proofs.Greatest.{the_greater}
use Rattle.expression_parser.proofs.Leading.{then_fails}
use Rattle.expression_parser.proofs.ChoiceRuns.{no_arm_yet, past_arm, one_arm, all_arms}
use Rattle.expression_parser.proofs.grammar.Grammar.choices.Goals as goal

pub loop-arms-init : goal.loop-arms-init
loop-arms-init g c = no_arm_yet c.args.self.now.tokens.now (c.args.self.now.room - 1) c.args.at c.new-arms.result c.new-arms.ensures

pub returns-in_err-part : goal.returns-in_err-part
returns-in_err-part g c =
    let p = err_from_is_err_and c.from_residual.result c.from_residual.ensures.1 in
    rw (p.1, p.2) (λ v k deep. then_fails (c.loop-arms.invariant.runs v k deep) c.in_err-part.field-0.0 (c.in_err-part.ensures (max v c.loop-arms.nest) (item.choice_more ∷ k) deep))

pub returns-in_err-other : goal.returns-in_err-other
returns-in_err-other g c =
    let past = past_arm c.args.self.now.tokens.now (c.args.self.now.room - 1) c.args.at c.loop-arms.arms c.loop-arms.nest c.loop-arms.end c.in_ok-part.part c.loop-arms.invariant c.in_ok-part.ensures in
    let p = err_from_is_err_and c.from_residual-in_err-other.result c.from_residual-in_err-other.ensures.1 in
    rw (p.1, p.2) (λ v k deep. then_fails (past v k deep) c.in_err-other.field-0.0 (c.in_err-other.ensures (max v (max c.loop-arms.nest c.in_ok-part.part.nest)) k deep))

pub returns-then-not-stands : goal.returns-then-not-stands
returns-then-not-stands g c = all_arms c.args.self.now.tokens.now (c.args.self.now.room - 1) c.args.at c.loop-arms.arms c.push_arm.new.list c.loop-arms.nest c.max-nest.result c.max.result c.loop-arms.end c.in_ok-part.part c.in_ok-other.other
    c.loop-arms.invariant c.in_ok-part.ensures c.in_ok-other.ensures c.in_ok-push_arm.ensures (c.max-nest.ensures ∙ the_greater c.loop-arms.nest c.in_ok-part.part.nest) c.max.ensures

pub loop-arms-preserved : goal.loop-arms-preserved
loop-arms-preserved g c = one_arm c.args.self.now.tokens.now (c.args.self.now.room - 1) c.args.at c.loop-arms.arms c.push_arm.new.list c.loop-arms.nest c.max-nest.result c.loop-arms.end c.in_ok-part.part
    c.loop-arms.invariant c.in_ok-part.ensures (c.stands.ensures.there c.if-not-stands.false) c.in_ok-push_arm.ensures (c.max-nest.ensures ∙ the_greater c.loop-arms.nest c.in_ok-part.part.nest)
