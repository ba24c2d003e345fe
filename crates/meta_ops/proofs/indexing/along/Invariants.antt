use Rattle.std.proofs.Common.{◌≡◌, ◌+◌, ◌-◌}
use Rattle.luau_tables.specs.Own.{IsThere}
use Rattle.meta_ops.specs.OnIds as kept
use Rattle.meta_ops.proofs.indexing.along.Given as goal

abbrev pub invariant-loop-asked : goal.invariant-loop-asked
invariant-loop-asked g l =
    record {
      value : kept.index_along (101 - l.fn.from) l.arena l.globals l.key l.fn.from l.fn.first ≡ kept.index_along (101 - l.asked) l.arena l.globals l.key l.asked l.base;
      ticks : l.steps + l.fn.from ≡ l.fn.steps + l.asked;
      there : IsThere l.arena l.base;
    }
