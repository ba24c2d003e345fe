use Rattle.std.proofs.Common.{◌≡◌, ◌<◌, ◌++◌, ℕ, nat_eq, take, drop}
use Rattle.std.specs.HashSet.{contains}
use Rattle.std.specs.List.{list_any}
use Rattle.syntax_tree.specs.Captures.{captures, gains, stands_for}
use Rattle.scopes.proofs.captured.captures.Given as goal

abbrev pub invariant-loop-note : goal.invariant-loop-note
invariant-loop-note l = (l.names ++ gains l.fn.first (take l.note-index l.notes) (drop l.note-index l.notes) ≡ captures l.fn.first l.notes) × ((k : ℕ) → k < l.fn.first → contains nat_eq l.seen k ≡ list_any (stands_for k) (take l.note-index l.notes))
