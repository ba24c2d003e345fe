use Rattle.std.proofs.Common.{◌-◌, length}
use Rattle.value_arena.specs.Borders.{IsFilled}
use Rattle.value_arena.proofs.entries.border_from.Given as goal

abbrev pub invariant-loop-border : goal.invariant-loop-border
invariant-loop-border l = IsFilled l.fn.entries.entries l.border

abbrev pub decreases-loop-border : goal.decreases-loop-border
decreases-loop-border l = length l.fn.entries.entries - l.border
