use Rattle.std.proofs.Common.{◌≡◌, ◌+◌, List, [], ◌∷◌, ◌++◌, sym, ap, ◌∙◌, subst, arith}
use Rattle.std.proofs.lemmas.Result.{err_from_is_err_and}
use Rattle.syntax_tree.specs.declared.token.TokenKind.TheVariants as token
use Rattle.syntax_tree.specs.declared.tree.Expr.{Expr}
use Rattle.syntax_tree.specs.declared.tree.ExprKind as expr
use Rattle.syntax_tree.specs.Grammar.{IsArgs, table_arg, text_arg}
use Rattle.syntax_tree.specs.Nodes.{expr_at}
use Rattle.syntax_tree.specs.Places.{kind_at}
use Rattle.type_skip.proofs.GoingOn.{has_within}
use Rattle.parse_steps.specs.Items as item
use Rattle.parse_steps.specs.Steps.{most}
use Rattle.expression_parser.proofs.Leading.{nest_to}
use Rattle.expression_parser.proofs.SuffixTurns.{is_brace, is_text}
use Rattle.expression_parser.proofs.ArgumentTurns.{no_arguments, at_text, past_table, table_fails}
use Rattle.expression_parser.proofs.grammar.Grammar.arguments.Goals as goal

pub returns-in-Nothing : goal.returns-in-Nothing
returns-in-Nothing g c =
    λ v k deep. no_arguments c.args.self.now.tokens.now c.args.at c.args.left (item.wrap ∷ k) (sym c.in-Nothing.ensures.value)

pub overflow_add-result : goal.overflow_add-result
overflow_add-result g c =
    let ts = c.args.self.now.tokens.now in
    let there = has_within ts c.args.at (token.Str c.in-Text.text) (is_text (kind_at ts c.args.at) c.in-Text.text
    (sym c.in-Text.ensures.value)) in
    omega (arith, there, c.in-Text.ensures.few)

pub returns-in_err-part-in-Table : goal.returns-in_err-part-in-Table
returns-in_err-part-in-Table g c =
    let ts = c.args.self.now.tokens.now in
    let i = c.args.at in
    let p = err_from_is_err_and c.from_residual.result c.from_residual.ensures.1 in
    let brace = is_brace (kind_at ts i) (sym c.in-Table.ensures.value) in
    rw (p.1, p.2) (λ v k deep. table_fails ts i c.args.left c.args.self.now.room k brace c.requires.nest deep
    c.in_err-part-in-Table.field-0.0 c.in_err-part-in-Table.ensures)

pub returns-in_ok-push-in-Table : goal.returns-in_ok-push-in-Table
returns-in_ok-push-in-Table g c =
    let ts = c.args.self.now.tokens.now in
    let i = c.args.at in
    let part = c.in_ok-part-in-Table.part in
    let read = c.in_ok-part-in-Table.ensures in
    let brace = is_brace (kind_at ts i) (sym c.in-Table.ensures.value) in
    let pushed : c.push.new.list ≡ c.new-list.result ++ part.expr ∷ [] = c.in_ok-push-in-Table.ensures in
    let alone : c.push.new.list ≡ expr_at ts i (expr.Table read.0.0.0) ∷ [] = pushed ∙ ap (λ (es : List Expr). es ++ part.expr ∷ [])
    c.new-list.ensures ∙ ap (λ (e : Expr). e ∷ []) read.0.0.2 in (
      (
        subst (λ (es : List Expr). IsArgs ts most i es part.end) (sym alone) (table_arg i part.end read.0.0.0 read.0.0.1),
        omega
            (arith, read.0.1.0, c.requires.nest),
        read.0.1.1,
      ),
      λ v k deep. past_table ts i c.args.left c.args.self.now.room part.end part.nest k brace c.requires.nest read.1 deep read.2,
    )

pub returns-in_ok-push-in-Text : goal.returns-in_ok-push-in-Text
returns-in_ok-push-in-Text g c =
    let ts = c.args.self.now.tokens.now in
    let i = c.args.at in
    let text = c.in-Text.text in
    let stands = is_text (kind_at ts i) text (sym c.in-Text.ensures.value) in
    let pushed : c.push-in-Text.new.list ≡ c.new-list-in-Text.result ++ c.in_ok-expr-in-Text.expr ∷ [] = c.in_ok-push-in-Text.ensures in
    let alone : c.push-in-Text.new.list ≡ expr_at ts i (expr.Str text) ∷ [] = pushed ∙ ap (λ (es : List Expr). es ++ c.in_ok-expr-in-Text.expr ∷ [])
    c.new-list-in-Text.ensures ∙ ap (λ (e : Expr). e ∷ []) c.in_ok-expr-in-Text.ensures in (
      (
        subst (λ (es : List Expr). IsArgs ts most i es (i + 1)) (sym alone) (text_arg i text stands),
        omega (arith, c.requires.nest),
        omega
            arith,
      ),
      λ v k deep. nest_to (omega arith) (at_text ts text i c.args.left c.args.self.now.room k stands c.requires.nest deep),
    )
