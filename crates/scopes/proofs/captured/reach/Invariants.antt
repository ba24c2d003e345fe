use Rattle.std.proofs.Common.{◌≡◌, ◌≤◌, ℕ, nat_lt, take}
use Rattle.std.specs.List.{list_any}
use Rattle.syntax_tree.specs.Leaps.{between}
use Rattle.syntax_tree.specs.Scope.{local_of}
use Rattle.scopes.proofs.captured.reach.Given as goal

abbrev pub invariant-loop-note : goal.invariant-loop-note
invariant-loop-note l = (l.most ≤ l.fn.below) × ((before : ℕ) → list_any (λ note. between before l.fn.below (local_of note.bound)) (take l.note-index l.notes) ≡ nat_lt before l.most)
