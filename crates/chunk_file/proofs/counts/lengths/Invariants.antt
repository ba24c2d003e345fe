use Rattle.std.proofs.Common.{◌≡◌, drop}
use Rattle.std.specs.List.{list_all}
use Rattle.chunk_file.specs.Counting.{is_count}
use Rattle.chunk_file.proofs.counts.lengths.Given as goal

abbrev pub invariant-loop-string : goal.invariant-loop-string
invariant-loop-string l = list_all (λ s. is_count s) (drop l.string-index l.strings) ≡ list_all (λ s. is_count s) l.strings
