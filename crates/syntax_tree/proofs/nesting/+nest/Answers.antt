use Rattle.std.proofs.Common.{◌≡◌, min, map, ◌+◌, ◌-◌, ◌^◌, max}
use Rattle.syntax_tree.specs.Lists.{greatest}
use Rattle.syntax_tree.specs.Nest as spec
use Rattle.syntax_tree.proofs.Capped.{capped_four}
use Rattle.syntax_tree.proofs.NumericLoops.{nest_num_for}
use Rattle.syntax_tree.proofs.nesting.+nest.Goals as goal

pub nest_stat-returns-in-NumFor : goal.nest_stat-returns-in-NumFor
nest_stat-returns-in-NumFor t c =
    let arm = c.in-NumFor in
    let cap = 2 ^ 64 - 1 in
    let start : c.nest_expr-in-NumFor.result ≡ min (spec.nest_expr arm.start) cap = cc in
    let limit : c.nest_expr-in-NumFor-2.result ≡ min (spec.nest_expr arm.limit) cap = cc in
    let body : c.nest_block-body.result ≡ min (greatest (map spec.nest_stat arm.body)) cap = cc in
    let all : c.saturating_add-in-NumFor.result ≡ min (max (max (max c.nest_expr-in-NumFor.result c.nest_expr-in-NumFor-2.result) c.nest_step.result) c.nest_block-body.result + 1) cap = cc in
    rw (nest_num_for c.args.stat.now arm.name arm.start arm.limit arm.step arm.body arm.is)
    (capped_four _ _ _ _ _ cap _ _ _ _ start limit c.nest_step.ensures body all)
