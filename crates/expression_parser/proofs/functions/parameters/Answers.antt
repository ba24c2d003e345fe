use Rattle.std.proofs.Common.{sym}
use Rattle.std.proofs.lemmas.Result.{err_from_is_err_and}
use Rattle.expression_parser.proofs.ParameterRuns.{no_parameter, no_parameter_yet, dots_with_faulty_type, dots_not_closed, dots_closed, faulty_parameter, not_closed, closed, next_parameter}
use Rattle.expression_parser.proofs.functions.parameters.Goals as goal

pub returns-then-stands : goal.returns-then-stands
returns-then-stands c = no_parameter c.args.tokens.now c.args.at c.args.added (sym c.if-stands.ensures.value)

pub loop-names-init : goal.loop-names-init
loop-names-init c = no_parameter_yet c.args.tokens.now c.args.at c.args.added (sym c.if-stands.ensures.value)

pub returns-in_err-dots : goal.returns-in_err-dots
returns-in_err-dots c =
    let p = err_from_is_err_and c.from_residual.result c.from_residual.ensures.1 in
    rw (p.1, p.2) (dots_with_faulty_type c.args.tokens.now c.args.at c.args.added c.loop-names.names c.loop-names.end
    c.in_err-dots.field-0.0 c.loop-names.invariant (sym c.if-stands-2.ensures.value) c.in_err-dots.ensures)

pub returns-in_err-behind : goal.returns-in_err-behind
returns-in_err-behind c =
    let p = err_from_is_err_and c.from_residual-in_err-behind.result c.from_residual-in_err-behind.ensures.1 in
    rw (p.1, p.2) (dots_not_closed c.args.tokens.now c.args.at c.args.added c.loop-names.names c.loop-names.end c.in_ok-dots.dots
    c.in_err-behind.field-0.0 c.loop-names.invariant (sym c.if-stands-2.ensures.value) c.in_ok-dots.ensures c.in_err-behind.ensures)

pub returns-then-stands-2 : goal.returns-then-stands-2
returns-then-stands-2 c =
    dots_closed c.args.tokens.now c.args.at c.args.added c.loop-names.names c.loop-names.end c.in_ok-dots.dots c.in_ok-behind.behind
    (sym c.if-stands.ensures.value) c.loop-names.invariant (sym c.if-stands-2.ensures.value) c.in_ok-dots.ensures c.in_ok-behind.ensures

pub returns-in_err-next : goal.returns-in_err-next
returns-in_err-next c =
    let p = err_from_is_err_and c.from_residual-in_err-next.result c.from_residual-in_err-next.ensures.1 in
    rw (p.1, p.2) (faulty_parameter c.args.tokens.now c.args.at c.args.added c.loop-names.names c.loop-names.end c.in_err-next.field-0.0
    c.loop-names.invariant (sym c.if-stands-2.ensures.value) c.in_err-next.ensures)

pub returns-in_err-behind-2 : goal.returns-in_err-behind-2
returns-in_err-behind-2 c =
    let p = err_from_is_err_and c.from_residual-in_err-behind-2.result c.from_residual-in_err-behind-2.ensures.1 in
    rw (p.1, p.2) (not_closed c.args.tokens.now c.args.at c.args.added c.loop-names.names c.loop-names.end c.in_ok-next.next
    c.in_err-behind-2.field-0.0 c.loop-names.invariant (sym c.if-stands-2.ensures.value) c.in_ok-next.ensures
    (sym c.if-not-stands.ensures.value) c.in_err-behind-2.ensures)

pub returns-then-not-stands : goal.returns-then-not-stands
returns-then-not-stands c =
    closed c.args.tokens.now c.args.at c.args.added c.loop-names.names c.push.new.self c.loop-names.end c.in_ok-next.next
    c.in_ok-behind-2.behind (sym c.if-stands.ensures.value) c.loop-names.invariant (sym c.if-stands-2.ensures.value)
    c.in_ok-next.ensures (sym c.if-not-stands.ensures.value) c.in_ok-behind-2.ensures c.in_ok-push.ensures.ok

pub loop-names-preserved : goal.loop-names-preserved
loop-names-preserved c =
    next_parameter c.args.tokens.now c.args.at c.args.added c.loop-names.names c.push.new.self c.loop-names.end c.in_ok-next.next
    c.loop-names.invariant (sym c.if-stands-2.ensures.value) c.in_ok-next.ensures (sym c.if-not-stands.ensures.value)
    c.in_ok-push.ensures.ok
