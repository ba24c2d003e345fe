use Rattle.std.proofs.Common.{Some, ap, ◌∙◌}
use Rattle.byte_text.specs.Texts.{noted}
use Rattle.luau_lexer.proofs.Findings.{finds_quoted}
use Rattle.luau_lexer.proofs.lexer.Lexer.quoted.Goals as goal

pub returns-clause-found : goal.returns-clause-found
returns-clause-found c =
    let closed = c.in_ok-body.ensures.closed in
    finds_quoted c.args.self.now c.take.new.self c.args.names.now c.note.new.names c.args.quote c.in_ok-id.id c.in_ok-body.body.text.items c.in_ok-body.body.len c.take.result c.take.ensures.token c.take.ensures.place closed.has_body closed.within (c.in_ok-id.ensures.there ∙ ap Some c.as_slice.ensures.value) (c.in_ok-id.ensures.grown ∙ ap (noted c.args.names.now) c.as_slice.ensures.value)
