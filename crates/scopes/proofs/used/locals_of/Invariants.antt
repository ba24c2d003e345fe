use Rattle.std.proofs.Common.{◌≡◌, take}
use Rattle.syntax_tree.specs.Bound.{used_from}
use Rattle.scopes.proofs.used.locals_of.Given as goal

abbrev pub invariant-loop-note : goal.invariant-loop-note
invariant-loop-note l = l.infos ≡ used_from (take l.note-index l.notes) 0 l.fn.locals
