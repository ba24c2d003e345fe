use Rattle.std.proofs.Common.{take}
use Rattle.machine_code.specs.Kept.{Adds, AreNumbersOf}
use Rattle.machine_code.proofs.strings.numbers.Given as goal

abbrev pub invariant-loop-string : goal.invariant-loop-string
invariant-loop-string l = record {
  numbers : AreNumbersOf l.names (take l.string-index l.strings) l.found;
  adds : Adds l.strings l.initial.names l.names;
}
