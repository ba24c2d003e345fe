use Rattle.std.proofs.Common.{◌≡◌, ◌++◌, take}
use Rattle.std.specs.List.{flat_map}
use Rattle.chunk_file.specs.Spelling.{text}
use Rattle.chunk_file.proofs.writing.strings.Given as goal

abbrev pub invariant-loop-string : goal.invariant-loop-string
invariant-loop-string l = l.out.items ≡ l.initial.out.items ++ flat_map text (take l.string-index l.strings)
