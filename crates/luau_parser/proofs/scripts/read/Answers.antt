use Rattle.std.proofs.Common.{Ok}
use Rattle.std.proofs.lemmas.Result.{err_from_is_err_and}
use Rattle.expression_parser.specs.Reading.{FindsBlock}
use Rattle.luau_parser.proofs.Refusing.{left_over_block, whole_block, whole_fault}
use Rattle.luau_parser.proofs.scripts.read.Goals as goal

pub returns-in_err-block : goal.returns-in_err-block
returns-in_err-block c =
    let p = err_from_is_err_and c.from_residual.result c.from_residual.ensures.1 in
    rw (p.1, p.2) (whole_fault c.args.tokens.now c.in_err-block.field-0.0 c.in_err-block.ensures)

pub returns-then-block-tokens : goal.returns-then-block-tokens
returns-then-block-tokens c =
    let block : FindsBlock c.args.tokens.now 200 0 (Ok c.in-Block.block) = rw c.in-Block.is at c.in_ok-block.ensures in
    left_over_block c.args.tokens.now c.in-Block.block block c.if-block-tokens.true

pub returns-else-block-tokens : goal.returns-else-block-tokens
returns-else-block-tokens c =
    let block : FindsBlock c.args.tokens.now 200 0 (Ok c.in-Block.block) = rw c.in-Block.is at c.in_ok-block.ensures in
    whole_block c.args.tokens.now c.in-Block.block block c.if-block-tokens.false
