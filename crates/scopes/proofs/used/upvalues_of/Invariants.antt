use Rattle.std.proofs.Common.{◌≡◌, ◌++◌, drop}
use Rattle.scopes.specs.Used.{upvalue_notes}
use Rattle.scopes.proofs.used.upvalues_of.Given as goal

abbrev pub invariant-loop-note : goal.invariant-loop-note
invariant-loop-note l = l.lists ++ upvalue_notes (drop l.note-index l.notes) ≡ upvalue_notes l.notes
