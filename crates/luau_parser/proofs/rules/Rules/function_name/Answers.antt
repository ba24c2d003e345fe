use Rattle.std.proofs.Common.{refl, arith}
use Rattle.std.proofs.lemmas.Result.{err_from_is_err_and}
use Rattle.luau_parser.proofs.FunctionNameTurns.{no_first_name, first_name, next_name, no_next_name, no_method, whole_method, name_found}
use Rattle.luau_parser.proofs.rules.Rules.function_name.Goals as goal

pub returns-in_err-first : goal.returns-in_err-first
returns-in_err-first g c =
    let p = err_from_is_err_and c.from_residual.result c.from_residual.ensures.1 in
    rw (p.1, p.2) (no_first_name c.args.self.now.grammar.tokens.now c.args.self.now.grammar.room c.args.at c.in_err-first.field-0.0
    c.in_err-first.ensures)

pub loop-part-init : goal.loop-part-init
loop-part-init g c =
    first_name c.args.self.now.grammar.tokens.now c.args.self.now.grammar.room c.args.at c.in_ok-first.first c.in_ok-expr.expr
    c.in_ok-first.ensures c.in_ok-expr.ensures

pub returns-in_err-part : goal.returns-in_err-part
returns-in_err-part g c =
    let p = err_from_is_err_and c.from_residual-in_err-part.result c.from_residual-in_err-part.ensures.1 in
    rw (p.1, p.2) (no_next_name c.args.self.now.grammar.tokens.now c.args.self.now.grammar.room c.args.at c.loop-part.part
    c.in_err-part.field-0.0 c.loop-part.invariant (c.loop-part-test.ensures.there refl) c.in_err-part.ensures)

pub loop-part-preserved : goal.loop-part-preserved
loop-part-preserved g c =
    next_name c.args.self.now.grammar.tokens.now c.args.self.now.grammar.room c.args.at c.loop-part.part c.in_ok-part.part
    c.loop-part.invariant (c.loop-part-test.ensures.there refl) c.in_ok-part.ensures

pub loop-part-smaller : goal.loop-part-smaller
loop-part-smaller g c = omega (arith, c.in_ok-part.ensures.3, c.loop-part-test.ensures.within refl)

pub returns-in_err-method : goal.returns-in_err-method
returns-in_err-method g c =
    let p = err_from_is_err_and c.from_residual-in_err-method.result c.from_residual-in_err-method.ensures.1 in
    rw (p.1, p.2) (no_method c.args.self.now.grammar.tokens.now c.args.self.now.grammar.room c.args.at c.loop-part.part
    c.in_err-method.field-0.0 c.loop-part.invariant (c.if-stands.ensures.there refl) c.in_err-method.ensures)

pub returns-then-stands : goal.returns-then-stands
returns-then-stands g c =
    whole_method c.args.self.now.grammar.tokens.now c.args.self.now.grammar.room c.args.at c.loop-part.part c.in_ok-method.method
    c.in_ok-method_name.field-0 c.loop-part.invariant (c.loop-part-test.ensures.absent refl) (c.if-stands.ensures.there refl)
    c.in_ok-method.ensures c.in_ok-method_name.ensures

pub returns : goal.returns
returns g c =
    let part = c.loop-part.part in
    name_found c.args.self.now.grammar.tokens.now c.args.self.now.grammar.room c.args.at part.expr part.nest part.end c.new.result
    c.loop-part.invariant (c.loop-part-test.ensures.absent refl) (c.if-stands.ensures.absent refl) c.new.ensures
