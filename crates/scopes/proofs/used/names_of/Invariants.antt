use Rattle.std.proofs.Common.{◌≡◌, ◌++◌, drop}
use Rattle.scopes.specs.Used.{bound_notes}
use Rattle.scopes.proofs.used.names_of.Given as goal

abbrev pub invariant-loop-note : goal.invariant-loop-note
invariant-loop-note l = l.names ++ bound_notes (drop l.note-index l.notes) ≡ bound_notes l.notes
