use Rattle.std.proofs.Common.{◌≡◌, ◌++◌, drop}
use Rattle.scopes.specs.Used.{first_notes}
use Rattle.scopes.proofs.used.firsts_of.Given as goal

abbrev pub invariant-loop-note : goal.invariant-loop-note
invariant-loop-note l = l.firsts ++ first_notes (drop l.note-index l.notes) ≡ first_notes l.notes
