use Rattle.std.proofs.Common.{ℕ, ◌+◌, max, List, ◌∷◌, refl, sym, subst, arith}
use Rattle.std.proofs.lemmas.Result.{err_from_is_err_and}
use Rattle.syntax_tree.specs.declared.token.TokenKind.TheVariants as token
use Rattle.syntax_tree.specs.declared.tree.Expr.{Expr}
use Rattle.syntax_tree.specs.Grammar.{IsArgs, no_args, args}
use Rattle.type_skip.proofs.GoingOn.{has_within}
use Rattle.type_skip.specs.declared.words.Word.TheVariants as word
use Rattle.parse_steps.specs.Items as item
use Rattle.parse_steps.specs.Steps.{most}
use Rattle.expression_parser.proofs.Leading.{then_leads, then_fails, nest_to, place_to}
use Rattle.expression_parser.proofs.ArgumentTurns.{late_here, at_paren, at_nothing, to_list}
use Rattle.expression_parser.proofs.grammar.Grammar.paren_arguments.Goals as goal

pub returns-then-is_late : goal.returns-then-is_late
returns-then-is_late g c = λ v k deep. late_here (c.if-is_late.ensures.late refl)

pub overflow_add-at : goal.overflow_add-at
overflow_add-at g c =
    let there = has_within c.args.self.now.tokens.now c.args.at token.OpenParen c.requires.opens in
    omega (arith, there, c.requires.few)

pub overflow_add-at-2 : goal.overflow_add-at-2
overflow_add-at-2 g c =
    let there = has_within c.args.self.now.tokens.now c.args.at token.OpenParen c.requires.opens in
    omega (arith, there, c.requires.few)

pub returns-then-stands : goal.returns-then-stands
returns-then-stands g c =
    let ts = c.args.self.now.tokens.now in
    let i = c.args.at in
    let closes = c.if-stands.ensures.there refl in (
      (
        subst (λ (es : List Expr). IsArgs ts most i es (i + 2)) (sym c.new.ensures) (no_args i c.requires.opens closes),
        omega
            (arith, c.requires.nest),
        omega arith,
      ),
      λ v k deep. nest_to (omega arith) (place_to (omega arith) (then_leads
          (at_paren ts i c.args.left c.args.self.now.room k c.requires.opens (c.if-is_late.ensures.timely refl) c.requires.nest deep)
          (at_nothing ts (i + 1) c.args.left (item.wrap ∷ k) closes))),
    )

pub returns-in_err-parts : goal.returns-in_err-parts
returns-in_err-parts g c =
    let ts = c.args.self.now.tokens.now in
    let p = err_from_is_err_and c.from_residual.result c.from_residual.ensures.1 in
    let before = to_list ts c.args.at c.args.left c.args.self.now.room in
    rw (p.1, p.2) (λ v k deep. then_fails (before k c.requires.opens (c.if-is_late.ensures.timely refl) (c.if-stands.ensures.absent refl)
    c.requires.nest deep) c.in_err-parts.field-0.0 (c.in_err-parts.ensures c.args.left (item.expects word.CloseParen ∷ item.wrap ∷ k)
    (omega (arith, deep, c.requires.nest))))

pub returns-in_err-end : goal.returns-in_err-end
returns-in_err-end g c =
    let ts = c.args.self.now.tokens.now in
    let parts = c.in_ok-parts.parts in
    let p = err_from_is_err_and c.from_residual-in_err-end.result c.from_residual-in_err-end.ensures.1 in
    let before = to_list ts c.args.at c.args.left c.args.self.now.room in
    rw (p.1, p.2) (λ v k deep.
    let list = then_leads (before k c.requires.opens (c.if-is_late.ensures.timely refl) (c.if-stands.ensures.absent refl) c.requires.nest
    deep) (c.in_ok-parts.ensures.1 c.args.left (item.expects word.CloseParen ∷ item.wrap ∷ k) (omega (arith, deep, c.requires.nest))) in
    then_fails list c.in_err-end.field-0.0 (c.in_err-end.ensures (max c.args.left parts.nest) (item.wrap ∷ k)))

pub returns : goal.returns
returns g c =
    let ts = c.args.self.now.tokens.now in
    let i = c.args.at in
    let parts = c.in_ok-parts.parts in
    let read = c.in_ok-parts.ensures in
    let close = c.in_ok-end.ensures in
    let before = to_list ts i c.args.left c.args.self.now.room in
    let whole : IsArgs ts most i parts.list (parts.end + 1) = args i parts.end parts.list c.requires.opens
    (c.if-stands.ensures.absent refl) read.0.0 close.0.0 in (
      (
        subst (λ (j : ℕ). IsArgs ts most i parts.list j) (sym close.0.1) whole,
        omega (arith, read.0.1.0, c.requires.nest),
        omega
            (arith, read.0.1.1, close.0.1),
      ),
      λ v k deep. then_leads (before k c.requires.opens (c.if-is_late.ensures.timely refl) (c.if-stands.ensures.absent refl)
          c.requires.nest deep) (then_leads (read.1 c.args.left (item.expects word.CloseParen ∷ item.wrap ∷ k)
          (omega (arith, deep, c.requires.nest))) (close.1 (max c.args.left parts.nest) (item.wrap ∷ k))),
    )
