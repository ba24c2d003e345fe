use Rattle.std.proofs.Common.{subst}
use Rattle.syntax_tree.specs.declared.form.Form.{Form}
use Rattle.luau_lexer.specs.Finding.{Finds}
use Rattle.luau_lexer.proofs.lexer.Lexer.next.Goals as goal

pub returns-in-Blanks-clause-found : goal.returns-in-Blanks-clause-found
returns-in-Blanks-clause-found c =
    let names = c.args.names.now in
    subst (λ (f : Form). Finds f c.args.self.now c.blanks.new.self names names c.blanks.result) c.in-Blanks.ensures.value (c.blanks.ensures names)

pub returns-in-LineComment-clause-found : goal.returns-in-LineComment-clause-found
returns-in-LineComment-clause-found c =
    let names = c.args.names.now in
    subst (λ (f : Form). Finds f c.args.self.now c.line_comment.new.self names names c.line_comment.result) c.in-LineComment.ensures.value (c.line_comment.ensures names)
