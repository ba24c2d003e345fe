use Rattle.std.proofs.Common.{sym}
use Rattle.std.proofs.lemmas.Result.{err_from_is_err_and}
use Rattle.expression_parser.proofs.GenericTurns.{no_generic_yet, next_generic, faulty_generic, closed_generics}
use Rattle.expression_parser.proofs.functions.generic_list.Goals as goal

pub loop-end-init : goal.loop-end-init
loop-end-init c = no_generic_yet c.args.tokens.now c.args.at c.requires.opens

pub returns-in_err-end : goal.returns-in_err-end
returns-in_err-end c =
    let p = err_from_is_err_and c.from_residual.result c.from_residual.ensures.1 in
    rw (p.1, p.2) (faulty_generic c.args.tokens.now c.args.at c.loop-end.end c.in_err-end.field-0.0 c.loop-end.invariant
    c.in_err-end.ensures)

pub returns-then-not-stands : goal.returns-then-not-stands
returns-then-not-stands c =
    closed_generics c.args.tokens.now c.args.at c.loop-end.end c.in_ok-end.end c.expect.result c.requires.opens c.loop-end.invariant
    c.in_ok-end.ensures (sym c.if-not-stands.ensures.value) c.expect.ensures

pub loop-end-preserved : goal.loop-end-preserved
loop-end-preserved c = next_generic c.args.tokens.now c.args.at c.loop-end.end c.in_ok-end.end c.loop-end.invariant c.in_ok-end.ensures
    (sym c.if-not-stands.ensures.value)
