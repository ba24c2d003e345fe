use Rattle.std.proofs.Common.{◌∷◌, arith, sym}
use Rattle.std.proofs.lemmas.Result.{err_from_is_err_and}
use Rattle.syntax_tree.specs.Grammar.{no_operation}
use Rattle.parse_steps.specs.Items as item
use Rattle.parse_steps.specs.Levels.{rank_of}
use Rattle.expression_parser.specs.declared.fault.Fault.TheVariants.{TooDeep}
use Rattle.expression_parser.proofs.Leading.{then_leads, then_fails, staying}
use Rattle.expression_parser.proofs.OperatorRuns.{nothing_yet, no_operator_turn, to_operand, too_deep, one_operation}
use Rattle.expression_parser.proofs.grammar.Grammar.operations.Goals as goal

pub loop-op-init : goal.loop-op-init
loop-op-init g c = nothing_yet c.args.self.now.tokens.now c.args.self.now.room c.args.rank c.args.begin c.args.part c.requires.nest

pub returns-in_default : goal.returns-in_default
returns-in_default g c =
    let ts = c.args.self.now.tokens.now in
    let left = c.loop-op.left in
    let so_far = c.loop-op.invariant in
    let absent = sym c.in_default.ensures.value in (
      (so_far.whole left.expr left.end (no_operation (rank_of c.args.rank) c.args.begin left.end left.expr absent), so_far.nest, so_far.onward),
      λ v k deep. then_leads (so_far.runs k deep) (staying (no_operator_turn ts c.args.rank left.end left.nest k absent)),
    )

pub returns-in_err-within : goal.returns-in_err-within
returns-in_err-within g c =
    let ts = c.args.self.now.tokens.now in
    let left = c.loop-op.left in
    let so_far = c.loop-op.invariant in
    let p = err_from_is_err_and c.from_residual.result c.from_residual.ensures.1 in
    let e = c.in_err-within.ensures in
    rw (p.1, p.2, e.1) (λ v k deep. then_fails (so_far.runs k deep) (TooDeep left.end) (too_deep ts c.args.rank c.in-Some.op left.end left.nest c.args.self.now.room k (sym c.in-Some.ensures.value) e.0 deep))

pub returns-in_err-right : goal.returns-in_err-right
returns-in_err-right g c =
    let ts = c.args.self.now.tokens.now in
    let left = c.loop-op.left in
    let so_far = c.loop-op.invariant in
    let p = err_from_is_err_and c.from_residual-in_err-right.result c.from_residual-in_err-right.ensures.1 in
    let guard = c.in_ok-within.ensures in
    let fails = rw c.next_level.ensures at c.in_err-right.ensures in
    rw (p.1, p.2) (λ v k deep. then_fails (then_leads (so_far.runs k deep) (to_operand ts c.args.rank c.in-Some.op left.end left.nest c.args.self.now.room k (sym c.in-Some.ensures.value) guard.0 deep)) c.in_err-right.field-0.0 (fails left.nest (item.wrap ∷ item.operations c.args.rank ∷ k) (omega (arith, deep, guard.0))))

pub loop-op-preserved : goal.loop-op-preserved
loop-op-preserved g c =
    let ts = c.args.self.now.tokens.now in
    let right = rw c.next_level.ensures at c.in_ok-right.ensures in
    let made = c.in_ok-left.ensures in
    one_operation ts c.args.self.now.room c.args.rank c.args.begin c.in-Some.op c.args.part c.loop-op.left c.in_ok-right.right c.in_ok-left.left c.loop-op.invariant (sym c.in-Some.ensures.value) c.in_ok-within.ensures.0 right.0.0 right.0.1.0 right.0.1.1 right.1 made.0 made.1 made.2
