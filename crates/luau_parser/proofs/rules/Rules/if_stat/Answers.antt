use Rattle.std.proofs.Common.{arith}
use Rattle.std.proofs.lemmas.Result.{err_from_is_err_and}
use Rattle.syntax_tree.specs.declared.token.TokenKind.TheVariants as token
use Rattle.expression_parser.proofs.SameTurns.{has_within}
use Rattle.luau_parser.proofs.NodeStatements.{no_room, faulty_part}
use Rattle.luau_parser.proofs.ArmTurns.{arm_parts, if_opens, if_found}
use Rattle.luau_parser.proofs.rules.Rules.if_stat.Goals as goal

pub returns-in_err-within : goal.returns-in_err-within
returns-in_err-within g c =
    let p = err_from_is_err_and c.from_residual.result c.from_residual.ensures.1 in
    let e = c.in_err-within.ensures in
    rw (p.1, p.2, e.1) (no_room c.args.self.now.grammar.tokens.now c.args.self.now.grammar.room c.args.at arm_parts (if_opens c.args.self.now.grammar.tokens.now c.args.at c.requires.opens) e.0)

pub overflow_add-at : goal.overflow_add-at
overflow_add-at g c = omega (arith, c.well_formed, has_within c.args.self.now.grammar.tokens.now c.args.at token.If c.requires.opens)

pub returns-in_err-arms : goal.returns-in_err-arms
returns-in_err-arms g c =
    let ts = c.args.self.now.grammar.tokens.now in
    let p = err_from_is_err_and c.from_residual-in_err-arms.result c.from_residual-in_err-arms.ensures.1 in
    rw (p.1, p.2) (faulty_part ts c.args.self.now.grammar.room c.args.at arm_parts c.in_err-arms.field-0.0 (if_opens ts c.args.at c.requires.opens) c.in_ok-within.ensures.0 c.in_err-arms.ensures)

pub returns : goal.returns
returns g c = if_found c.args.self.now.grammar.tokens.now c.args.self.now.grammar.room c.args.at c.in_ok-arms.arms c.in_ok-stat.stat c.requires.opens c.in_ok-within.ensures.0 c.in_ok-arms.ensures c.in_ok-stat.ensures
