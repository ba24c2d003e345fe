use Rattle.std.proofs.Common.{◌≡◌, ◌++◌, drop}
use Rattle.syntax_tree.specs.Leaps.{skips}
use Rattle.scopes.proofs.captured.skips.Given as goal

abbrev pub invariant-loop-leap : goal.invariant-loop-leap
invariant-loop-leap l = l.faults ++ skips l.fn.below l.fn.condition (drop l.leap-index l.leaps) ≡ l.fn.faults ++ skips l.fn.below l.fn.condition l.leaps
