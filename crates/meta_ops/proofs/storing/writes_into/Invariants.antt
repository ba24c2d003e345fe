use Rattle.std.proofs.Common.{◌≡◌, ◌+◌, ◌-◌}
use Rattle.luau_tables.specs.Own.{IsThere}
use Rattle.meta_ops.specs.OnIds as kept
use Rattle.meta_ops.proofs.storing.writes_into.Given as goal

abbrev pub invariant-loop-asked : goal.invariant-loop-asked
invariant-loop-asked g l =
    record {
      value : kept.newindex_along 101 l.arena l.globals l.key l.v 0 l.fn.first ≡ kept.newindex_along (101 - l.asked) l.arena l.globals l.key l.v l.asked l.base;
      ticks : l.steps ≡ l.fn.steps + l.asked;
      there : IsThere l.arena l.base;
    }
