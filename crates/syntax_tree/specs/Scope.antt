-- What is in scope: the locals whose names are visible, the earliest first.
--
-- The locals of a script, parameters included, are numbered from 0 in the order in which its text declares them.
use Rattle.std.specs.Prelude.{ℕ, Bool, true, false, ◌==◌, if◌then◌else◌, nat_lt, List, [], ◌∷◌, Option, Some, None}
use Rattle.byte_text.specs.declared.fixed.StrId.{StrId}
use Rattle.syntax_tree.specs.declared.bindings.Bound.{Bound}
use Rattle.syntax_tree.specs.declared.bindings.Bound.TheVariants as bound
use Rattle.syntax_tree.specs.declared.notes.Visible.{Visible}

-- the local itself where it has that name and no later one has it
abbrev pub unless_later : Bool → ℕ → Option ℕ → Option ℕ
unless_later same local (Some later) = Some later
unless_later true local None = Some local
unless_later false local None = None

-- the local that a name stands for: the latest of that name
abbrev pub look : StrId → List Visible → Option ℕ
look name [] = None
look name (v ∷ vs) = unless_later (v.name.0 == name.0) v.local (look name vs)

-- What a name is bound to in a function whose first parameter or local has the number `first`: a local with a
-- number below it is one of a function around.
abbrev pub bound_in : ℕ → Option ℕ → Bound
bound_in first None = bound.Global
bound_in first (Some k) = if nat_lt k first then bound.Up k else bound.Local k

-- the local that a name is bound to
abbrev pub local_of : Option Bound → Option ℕ
local_of None = None
local_of (Some bound.Global) = None
local_of (Some (bound.Local k)) = Some k
local_of (Some (bound.Up k)) = Some k
