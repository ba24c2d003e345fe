use Rattle.std.proofs.Common.{◌≡◌, map, take}
use Rattle.machine_code.specs.Kept.{kept}
use Rattle.machine_code.proofs.constants.values.Given as goal

abbrev pub invariant-loop-constant : goal.invariant-loop-constant
invariant-loop-constant l = l.found ≡ map (kept l.numbers) (take l.constant-index l.constants)
