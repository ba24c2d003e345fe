use Rattle.std.proofs.Common.{◌≡◌, ◌<◌, length}
use Rattle.lib_arguments.specs.Checks.{most_arguments}
use Rattle.lib_string.proofs.FormatSteps.{left_row}
use Rattle.lib_string.proofs.format.fill_pieces.Given as goal

abbrev pub invariant-loop-byte : goal.invariant-loop-byte
invariant-loop-byte l = record {
  row : left_row l.fn.world l.fn.args l.fn.format l.fn.at l.fn.out.items ≡ left_row l.fn.world l.fn.args l.left l.at l.out.items;
  small : l.at < most_arguments;
}

abbrev pub decreases-loop-byte : goal.decreases-loop-byte
decreases-loop-byte l = length l.left
