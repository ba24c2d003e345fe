-- What notes say of nodes and locals.
use Rattle.std.specs.Prelude.{ℕ, map, slice_get, slice_set, ◌||◌, Bool, true, false, List, Option, Some, None}
use Rattle.syntax_tree.specs.declared.bindings.Bound.{Bound}
use Rattle.syntax_tree.specs.declared.bindings.Bound.TheVariants as bound
use Rattle.syntax_tree.specs.declared.bindings.LocalInfo.{LocalInfo}
use Rattle.syntax_tree.specs.declared.notes.Note.{Note}
use Rattle.syntax_tree.specs.Scope.{local_of}

abbrev pub bound_notes : List Note → List (Option Bound)
bound_notes notes = map (λ (n : Note). n.bound) notes

abbrev pub upvalue_notes : List Note → List (List ℕ)
upvalue_notes notes = map (λ (n : Note). n.upvalues) notes

abbrev pub first_notes : List Note → List ℕ
first_notes notes = map (λ (n : Note). n.first) notes

abbrev pub is_from_inside : Option Bound → Bool
is_from_inside None = false
is_from_inside (Some bound.Global) = false
is_from_inside (Some (bound.Local k)) = false
is_from_inside (Some (bound.Up k)) = true

abbrev pub marked_at : Note → List LocalInfo → Option ℕ → Option LocalInfo → List LocalInfo
marked_at note locals None info = locals
marked_at note locals (Some k) None = locals
marked_at note locals (Some k) (Some info) = slice_set locals k (record info { captured = info.captured || is_from_inside note.bound; assigned = info.assigned || note.target })

abbrev pub lookup : List LocalInfo → Option ℕ → Option LocalInfo
lookup locals None = None
lookup locals (Some k) = slice_get locals k

-- the locals after one note is taken in
abbrev pub marked : Note → List LocalInfo → List LocalInfo
marked note locals = marked_at note locals (local_of note.bound) (lookup locals (local_of note.bound))
