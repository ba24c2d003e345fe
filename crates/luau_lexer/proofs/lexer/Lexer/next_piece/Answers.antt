use Rattle.std.proofs.Common.{Some, ap, sym, ◌∙◌, subst, true, false}
use Rattle.std.proofs.lemmas.Result.{err_from_is_err_and}
use Rattle.byte_text.specs.Texts.{noted}
use Rattle.luau_lexer.specs.Finding.{OpensExpression, Refuses}
use Rattle.syntax_tree.specs.declared.form.Form.TheVariants as form
use Rattle.luau_lexer.proofs.Findings.{finds_mid, finds_end, next_doubled}
use Rattle.luau_lexer.proofs.lexer.Lexer.next_piece.Goals as goal

pub returns-in_err-opens-clause-refused : goal.returns-in_err-opens-clause-refused
returns-in_err-opens-clause-refused c =
    let out = err_from_is_err_and c.from_residual-in_err-opens.result c.from_residual-in_err-opens.ensures.1 in
    let doubled = c.in_err-opens.ensures.refused in
    let refused : Refuses form.NextPiece c.args.self.now out.0 =
    subst (Refuses form.NextPiece c.args.self.now) (sym out.2) (next_doubled c.args.self.now c.in_ok-body.body.text.items c.in_ok-body.body.len c.in_err-opens.field-0.0 c.in_ok-body.ensures.closed.has_body doubled) in
    rw out.1 refused

pub returns-then-opens-clause-found : goal.returns-then-opens-clause-found
returns-then-opens-clause-found c =
    let closed = c.in_ok-body.ensures.closed in
    let opens : OpensExpression c.args.self.now c.in_ok-body.body.len true = subst (OpensExpression c.args.self.now c.in_ok-body.body.len) c.if-opens.true c.in_ok-opens.ensures.opens in
    finds_mid c.args.self.now c.take.new.self c.args.names.now c.note.new.names c.in_ok-id.id c.in_ok-body.body.text.items c.in_ok-body.body.len c.take.result c.take.ensures.token c.take.ensures.place closed.has_body opens closed.within (c.in_ok-id.ensures.there ∙ ap Some c.as_slice.ensures.value) (c.in_ok-id.ensures.grown ∙ ap (noted c.args.names.now) c.as_slice.ensures.value)

pub returns-clause-found : goal.returns-clause-found
returns-clause-found c =
    let closed = c.in_ok-body.ensures.closed in
    let opens : OpensExpression c.args.self.now c.in_ok-body.body.len false = subst (OpensExpression c.args.self.now c.in_ok-body.body.len) c.if-opens.false c.in_ok-opens.ensures.opens in
    finds_end c.args.self.now c.close.new.self c.take-else-opens.new.self c.args.names.now c.note.new.names c.in_ok-id.id c.in_ok-body.body.text.items c.in_ok-body.body.len c.take-else-opens.result c.close.ensures c.take-else-opens.ensures.token c.take-else-opens.ensures.place closed.has_body opens closed.within (c.in_ok-id.ensures.there ∙ ap Some c.as_slice.ensures.value) (c.in_ok-id.ensures.grown ∙ ap (noted c.args.names.now) c.as_slice.ensures.value)
