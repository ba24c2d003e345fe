-- What a function captures: the variables that are declared outside it and that names inside it stand for.
--
-- Where the first parameter or local of a function has the number `first`, a local that its text sees is declared
-- outside it exactly where its number is below `first`.
use Rattle.std.specs.Prelude.{ℕ, ◌==◌, ◌&&◌, not, nat_lt, if◌then◌else◌, drop, map, Bool, true, false, List, [], ◌∷◌, ◌++◌, Option, Some, None}
use Rattle.std.specs.List.{list_any}
use Rattle.syntax_tree.specs.declared.notes.Capture.{Capture}
use Rattle.syntax_tree.specs.declared.notes.Note.{Note}
use Rattle.syntax_tree.specs.declared.fault.ScopeFault.{ScopeFault}
use Rattle.syntax_tree.specs.declared.fault.ScopeRule.TheVariants as rule
use Rattle.syntax_tree.specs.Faults.{fault}
use Rattle.syntax_tree.specs.Limits.{most_variables}
use Rattle.syntax_tree.specs.Lists.{or_zero}
use Rattle.syntax_tree.specs.Scope.{local_of}

abbrev pub is_some : ℕ → Option ℕ → Bool
is_some k None = false
is_some k (Some j) = j == k

-- whether a node is a name that stands for local k
abbrev pub stands_for : ℕ → Note → Bool
stands_for k note = is_some k (local_of note.bound)

-- whether this local is declared outside, and no node of `before` stands for it
abbrev pub is_new : ℕ → List Note → Option ℕ → Bool
is_new first before None = false
is_new first before (Some k) = nat_lt k first && not (list_any (stands_for k) before)

-- a name that stands for a local
abbrev pub capture : Note → Capture
capture note = record { at = note.at; local = or_zero (local_of note.bound) }

-- the names of a function by which it gets a variable that it captures: the first that stands for it
abbrev pub gains : ℕ → List Note → List Note → List Capture
gains first before [] = []
gains first before (note ∷ notes) =
    if is_new first before (local_of note.bound) then capture note ∷ gains first (before ++ note ∷ []) notes else gains first (before ++ note ∷ []) notes

-- the names by which a function captures, of all the nodes in it
abbrev pub captures : ℕ → List Note → List Capture
captures first notes = gains first [] notes

-- the variables, in the order in which a closure takes them
abbrev pub variables : List Capture → List ℕ
variables names = map (λ (c : Capture). c.local) names

-- a fault at the first of these names
abbrev pub at_first : List Capture → List ScopeFault
at_first [] = []
at_first (name ∷ names) = fault rule.TooManyUpvalues name.at

-- the variables that a function captures: the fault is at the name by which it gets one too many
abbrev pub too_many : List Capture → List ScopeFault
too_many names = at_first (drop most_variables names)
