use Rattle.std.proofs.Common.{Err}
use Rattle.std.proofs.lemmas.Result.{err_from_is_err_and}
use Rattle.expression_parser.proofs.grammar.Grammar.inner_block.Goals as goal

pub returns-in_err-block : goal.returns-in_err-block
returns-in_err-block g c =
    let p = err_from_is_err_and c.from_residual.result c.from_residual.ensures.1 in
    rw (p.1, p.2) (c.requires.nests.finds c.requires.room c.args.self.now.alloc c.args.self.now.tokens c.args.at _ (Err c.in_err-block.field-0.0) c.in_err-block.ensures)
