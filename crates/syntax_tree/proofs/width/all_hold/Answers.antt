use Rattle.std.proofs.Common.{map, ◌-◌, ◌^◌}
use Rattle.syntax_tree.specs.Need as spec
use Rattle.syntax_tree.proofs.Capped.{capped_sum}
use Rattle.syntax_tree.proofs.Loops.{at_end}
use Rattle.syntax_tree.proofs.width.all_hold.Goals as goal

pub returns : goal.returns
returns c =
    let loop = c.loop-target in
    let end = at_end (λ xs. spec.all_hold (map spec.need_expr xs)) c.args.targets.now loop.target-index c.loop-target-test.false in
    capped_sum loop.count _ _ (2 ^ 64 - 1) end loop.invariant.0 loop.invariant.1
