use Rattle.std.proofs.Common.{◌+◌, sym, arith}
use Rattle.std.proofs.lemmas.Result.{err_from_is_err_and}
use Rattle.syntax_tree.specs.declared.token.TokenKind.TheVariants.{Name}
use Rattle.expression_parser.proofs.SameTurns.{has_within}
use Rattle.luau_parser.proofs.NamedTurns.{continue_found, continue_fails, type_found, type_fails, export_found, export_without_name, export_fails}
use Rattle.luau_parser.proofs.rules.Rules.named_step.Goals as goal

pub returns-in_err-end : goal.returns-in_err-end
returns-in_err-end g c =
    let p = err_from_is_err_and c.from_residual.result c.from_residual.ensures.1 in
    rw (p.1, p.2) (continue_fails c.args.self.now.grammar.tokens.now c.args.self.now.grammar.room c.args.at c.args.name c.in_err-end.field-0.0
    c.requires.opens (sym c.if-eq.ensures) (sym c.if-may_end.ensures) c.in_err-end.ensures)

pub returns-then-may_end : goal.returns-then-may_end
returns-then-may_end g c =
    continue_found c.args.self.now.grammar.tokens.now c.args.self.now.grammar.room c.args.at c.in_ok-end.end c.args.name c.in_ok-stat.stat c.requires.opens
    (sym c.if-eq.ensures) c.in_ok-stat.ensures c.in_ok-end.ensures

pub returns-in_err-end-2 : goal.returns-in_err-end-2
returns-in_err-end-2 g c =
    let p = err_from_is_err_and c.from_residual-in_err-end-2.result c.from_residual-in_err-end-2.ensures.1 in
    rw (p.1, p.2) (type_fails c.args.self.now.grammar.tokens.now c.args.self.now.grammar.room c.args.at c.args.name c.in_err-end-2.field-0.0
    c.requires.opens (sym c.if-eq-2.ensures) (sym c.if-has_name.ensures.value) c.in_err-end-2.ensures)

pub returns-then-has_name : goal.returns-then-has_name
returns-then-has_name g c =
    type_found c.args.self.now.grammar.tokens.now c.args.self.now.grammar.room c.args.at c.in_ok-end-2.end c.behind_semicolon.result c.args.name
    c.requires.opens (sym c.if-eq-2.ensures) (sym c.if-has_name.ensures.value) c.in_ok-end-2.ensures c.behind_semicolon.ensures

pub returns-in_err-expect_name : goal.returns-in_err-expect_name
returns-in_err-expect_name g c =
    let p = err_from_is_err_and c.from_residual-in_err-expect_name.result c.from_residual-in_err-expect_name.ensures.1 in
    rw (p.1, p.2) (export_without_name c.args.self.now.grammar.tokens.now c.args.self.now.grammar.room c.args.at c.args.name c.in_err-expect_name.field-0.0
    c.requires.opens (sym c.if-eq-3.ensures) (sym c.if-has_type_name.ensures.value) c.in_err-expect_name.ensures)

pub overflow_add-at-then-has_type_name-2 : goal.overflow_add-at-then-has_type_name-2
overflow_add-at-then-has_type_name-2 g c =
    omega (
      arith,
      c.has_type_name.ensures.few,
      has_within c.args.self.now.grammar.tokens.now (c.args.at + 2)
          (Name c.in_ok-expect_name.field-0) c.in_ok-expect_name.ensures.0,
    )

pub returns-in_err-end-3 : goal.returns-in_err-end-3
returns-in_err-end-3 g c =
    let p = err_from_is_err_and c.from_residual-in_err-end-3.result c.from_residual-in_err-end-3.ensures.1 in
    rw (p.1, p.2) (export_fails c.args.self.now.grammar.tokens.now c.args.self.now.grammar.room c.args.at c.args.name c.in_ok-expect_name.field-0
    c.in_err-end-3.field-0.0 c.requires.opens (sym c.if-eq-3.ensures)
    (sym c.if-has_type_name.ensures.value) c.in_ok-expect_name.ensures c.in_err-end-3.ensures)

pub returns-then-has_type_name : goal.returns-then-has_type_name
returns-then-has_type_name g c =
    export_found c.args.self.now.grammar.tokens.now c.args.self.now.grammar.room c.args.at c.in_ok-end-3.end c.behind_semicolon-then-has_type_name.result
    c.args.name c.in_ok-expect_name.field-0 c.requires.opens (sym c.if-eq-3.ensures)
    (sym c.if-has_type_name.ensures.value) c.in_ok-expect_name.ensures c.in_ok-end-3.ensures
    c.behind_semicolon-then-has_type_name.ensures
