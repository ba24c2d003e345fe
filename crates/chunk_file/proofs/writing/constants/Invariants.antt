use Rattle.std.proofs.Common.{◌≡◌, ◌++◌, take}
use Rattle.std.specs.List.{flat_map}
use Rattle.chunk_file.specs.Spelling.{constant}
use Rattle.chunk_file.proofs.writing.constants.Given as goal

abbrev pub invariant-loop-constant : goal.invariant-loop-constant
invariant-loop-constant l = l.out.items ≡ l.initial.out.items ++ flat_map constant (take l.constant-index l.constants)
