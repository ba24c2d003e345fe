use Rattle.std.proofs.Common.{length, take, ap, ◌∙◌, refl, arith}
use Rattle.syntax_tree.specs.declared.token.TokenKind.TheVariants.{Number}
use Rattle.whole_num.specs.declared.literal.Read.TheVariants as read
use Rattle.syntax_tree.specs.Causes.{refused}
use Rattle.syntax_tree.specs.declared.fault.Cause.TheVariants.{BadNumber, NotWholeLiteral, LiteralRange}
use Rattle.syntax_tree.specs.declared.form.Form.TheVariants as form
use Rattle.syntax_tree.specs.Plain.{Numeral, number_len}
use Rattle.syntax_tree.specs.Spellings.{Passes, Fails, Lexeme}
use Rattle.luau_lexer.proofs.Findings.{finds_token, number_stands}
use Rattle.luau_lexer.proofs.lexer.Lexer.number.Goals as goal

pub returns-in-Whole-clause-found : goal.returns-in-Whole-clause-found
returns-in-Whole-clause-found c = λ texts.
    let p = c.args.self.now in
    let rest = c.rest-bytes.ensures.value in
    let len = c.number_len-len.result in
    let e = c.number_len-len.ensures.value ∙ ap number_len rest in
    let stands = number_stands p len c.split_at.result.0.now (read.Whole c.in-Whole.n) (Passes (Lexeme (Numeral c.in-Whole.n) len p.braces)) (c.split_at.ensures.front ∙ ap (take len) rest) e c.in-Whole.ensures.reads refl in
    finds_token form.Number p c.take.new.self p.braces texts texts (Numeral c.in-Whole.n) (Number c.in-Whole.n) len c.take.result c.take.ensures.token c.take.ensures.place stands (omega (arith, e, c.requires)) (omega (arith, c.number_len-len.ensures.within, ap length rest)) refl refl

pub returns-in-NotWhole-clause-refused : goal.returns-in-NotWhole-clause-refused
returns-in-NotWhole-clause-refused c =
    let rest = c.rest-bytes.ensures.value in
    let len = c.number_len-len.result in
    number_stands c.args.self.now len c.split_at.result.0.now read.NotWhole _ (c.split_at.ensures.front ∙ ap (take len) rest) (c.number_len-len.ensures.value ∙ ap number_len rest) c.in-NotWhole.ensures.reads (ap (λ n. Fails (refused NotWholeLiteral n)) c.at.ensures)

pub returns-in-OutOfRange-clause-refused : goal.returns-in-OutOfRange-clause-refused
returns-in-OutOfRange-clause-refused c =
    let rest = c.rest-bytes.ensures.value in
    let len = c.number_len-len.result in
    number_stands c.args.self.now len c.split_at.result.0.now read.OutOfRange _ (c.split_at.ensures.front ∙ ap (take len) rest) (c.number_len-len.ensures.value ∙ ap number_len rest) c.in-OutOfRange.ensures.reads (ap (λ n. Fails (refused LiteralRange n)) c.at-in-OutOfRange.ensures)

pub returns-in-NotNumber-clause-refused : goal.returns-in-NotNumber-clause-refused
returns-in-NotNumber-clause-refused c =
    let rest = c.rest-bytes.ensures.value in
    let len = c.number_len-len.result in
    number_stands c.args.self.now len c.split_at.result.0.now read.NotNumber _ (c.split_at.ensures.front ∙ ap (take len) rest) (c.number_len-len.ensures.value ∙ ap number_len rest) c.in-NotNumber.ensures.reads (ap (λ n. Fails (refused BadNumber n)) c.at-in-NotNumber.ensures)
