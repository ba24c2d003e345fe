use Rattle.std.proofs.Common.{map, ◌-◌, ◌^◌}
use Rattle.syntax_tree.specs.Need as spec
use Rattle.syntax_tree.proofs.Capped.{capped_sum}
use Rattle.syntax_tree.proofs.Loops.{at_end}
use Rattle.syntax_tree.proofs.width.declared_in.Goals as goal

pub returns : goal.returns
returns c =
    let loop = c.loop-stat in
    let end = at_end (λ xs. spec.declared_in (map spec.need_stat xs)) c.args.block.now loop.stat-index c.loop-stat-test.false in
    capped_sum loop.count _ _ (2 ^ 64 - 1) end loop.invariant.0 loop.invariant.1
