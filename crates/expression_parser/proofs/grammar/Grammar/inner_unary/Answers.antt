use Rattle.std.proofs.Common.{Ok, Err}
use Rattle.std.proofs.lemmas.Result.{err_from_is_err_and}
use Rattle.expression_parser.proofs.grammar.Grammar.inner_unary.Goals as goal

pub returns-in_err-part : goal.returns-in_err-part
returns-in_err-part g c =
    let p = err_from_is_err_and c.from_residual.result c.from_residual.ensures.1 in
    rw (p.1, p.2) (c.requires.nests.finds c.requires.room c.args.self.now.alloc c.args.self.now.tokens c.args.at _ (Err c.in_err-part.field-0.0) c.in_err-part.ensures)

pub returns : goal.returns
returns g c =
    let found = c.requires.nests.finds c.requires.room c.args.self.now.alloc c.args.self.now.tokens c.args.at _ (Ok c.in_ok-part.field-0) c.in_ok-part.ensures in
    rw c.in-Part.is at found
