use Rattle.std.proofs.Common.{sym}
use Rattle.std.proofs.lemmas.Result.{err_from_is_err_and}
use Rattle.expression_parser.proofs.BindRuns.{one_name, next_name, faulty_name, all_names}
use Rattle.expression_parser.proofs.functions.binds.Goals as goal

pub loop-names-init : goal.loop-names-init
loop-names-init c = one_name c.args.tokens.now c.args.begin c.args.first.name c.args.first.end c.push.new.self
    (rw c.new-names.ensures at c.in_ok-push.ensures.ok) c.requires.bind

pub returns-in_err-next : goal.returns-in_err-next
returns-in_err-next c =
    let p = err_from_is_err_and c.from_residual-in_err-next.result c.from_residual-in_err-next.ensures.1 in
    rw (p.1, p.2) (faulty_name c.args.tokens.now c.args.begin c.args.first.end c.loop-names.names c.loop-names.end c.in_err-next.field-0.0
    c.loop-names.invariant (sym c.loop-names-test.ensures.value) c.in_err-next.ensures)

pub loop-names-preserved : goal.loop-names-preserved
loop-names-preserved c =
    next_name c.args.tokens.now c.args.begin c.args.first.end c.loop-names.names c.push-in-loop-names.new.self c.loop-names.end
    c.in_ok-next.next c.loop-names.invariant (sym c.loop-names-test.ensures.value) c.in_ok-next.ensures c.in_ok-push-2.ensures.ok

pub returns : goal.returns
returns c = all_names c.args.tokens.now c.args.begin c.args.first.end c.loop-names.names c.loop-names.end c.loop-names.invariant
    (sym c.loop-names-test.ensures.value)
