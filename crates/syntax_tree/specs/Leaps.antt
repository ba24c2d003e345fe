-- When a `continue` of a `repeat` skips a local that the condition uses: a name of the condition, also one in a
-- function there, stands for a local that the body declares after the `continue`.
--
-- `below` is the number of locals that the text declares before the condition, so those of the condition's own
-- functions have greater numbers.
use Rattle.std.specs.Prelude.{ℕ, ◌&&◌, nat_lt, nat_le, if◌then◌else◌, Bool, true, false, List, [], ◌∷◌, ◌++◌, Option, Some, None}
use Rattle.std.specs.List.{list_any}
use Rattle.syntax_tree.specs.declared.notes.Note.{Note}
use Rattle.syntax_tree.specs.declared.notes.Leap.{Leap}
use Rattle.syntax_tree.specs.declared.fault.ScopeFault.{ScopeFault}
use Rattle.syntax_tree.specs.declared.fault.ScopeRule.TheVariants as rule
use Rattle.syntax_tree.specs.Faults.{fault}
use Rattle.syntax_tree.specs.Scope.{local_of}

-- whether the text declares the local after the `continue` and before the condition
abbrev pub between : ℕ → ℕ → Option ℕ → Bool
between before below None = false
between before below (Some k) = nat_le before k && nat_lt k below

abbrev pub is_skipped : ℕ → Leap → Note → Bool
is_skipped below leap note = between leap.before below (local_of note.bound)

-- one fault for each such `continue`
abbrev pub skips : ℕ → List Note → List Leap → List ScopeFault
skips below condition [] = []
skips below condition (leap ∷ leaps) =
    (if list_any (is_skipped below leap) condition then fault rule.UntilSkipsLocal leap.at else []) ++ skips below condition leaps
