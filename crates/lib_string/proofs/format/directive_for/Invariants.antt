use Rattle.std.proofs.Common.{◌≡◌, length}
use Rattle.value_model.specs.FormatRows as row
use Rattle.lib_string.proofs.format.directive_for.Given as goal

abbrev pub invariant-loop-byte : goal.invariant-loop-byte
invariant-loop-byte l = row.directive_for l.fn.at (row.pieces_of l.fn.format) ≡ row.directive_for l.at (row.pieces_of l.left)

abbrev pub decreases-loop-byte : goal.decreases-loop-byte
decreases-loop-byte l = length l.left
