-- The bindings of a tree, and the first rule that it breaks.
use Rattle.std.specs.Prelude.{ℕ, ◌+◌, ◌==◌, ◌&&◌, map, Bool, true, false, List, [], ◌∷◌, ◌++◌, Option, Some, None}
use Rattle.std.specs.List.{list_any}
use Rattle.syntax_tree.specs.declared.bindings.Bindings.{Bindings}
use Rattle.syntax_tree.specs.declared.bindings.Bound.{Bound}
use Rattle.syntax_tree.specs.declared.bindings.Bound.TheVariants as variant
use Rattle.syntax_tree.specs.declared.bindings.LocalInfo.{LocalInfo}
use Rattle.syntax_tree.specs.declared.fault.ScopeFault.{ScopeFault}
use Rattle.syntax_tree.specs.declared.notes.Note.{Note}
use Rattle.syntax_tree.specs.declared.tree.Tree.{Tree}
use Rattle.syntax_tree.specs.Captures.{stands_for}
use Rattle.syntax_tree.specs.Faults.{IsFirst}
use Rattle.syntax_tree.specs.Names.{Known, names_func, start}
use Rattle.syntax_tree.specs.Rules.{rules_func}
use Rattle.syntax_tree.specs.Sizes.{all_sizes}

-- whether a name stands for local k from a function further inside
abbrev pub is_up : ℕ → Option Bound → Bool
is_up k None = false
is_up k (Some variant.Global) = false
is_up k (Some (variant.Local j)) = false
is_up k (Some (variant.Up j)) = j == k

-- whether some function further inside uses local k
abbrev pub is_captured : List Note → ℕ → Bool
is_captured notes k = list_any (λ note. is_up k note.bound) notes

-- whether some assignment sets local k
abbrev pub is_assigned : List Note → ℕ → Bool
is_assigned notes k = list_any (λ note. note.target && stands_for k note) notes

-- the locals from number k on, with what all the notes say of them
abbrev pub used_from : List Note → ℕ → List LocalInfo → List LocalInfo
used_from notes k [] = []
used_from notes k (l ∷ ls) = record l { captured = is_captured notes k; assigned = is_assigned notes k } ∷ used_from notes (k + 1) ls

abbrev pub bindings_of : Known → Bindings
bindings_of k = record { names = map (λ (n : Note). n.bound) k.notes; locals = used_from k.notes 0 k.locals; upvalues = map (λ (n : Note). n.upvalues) k.notes; firsts = map (λ (n : Note). n.first) k.notes }

-- what is known at the end of the script
abbrev pub known : Tree → Known
known tree = names_func tree.main start

-- What the names of a tree are bound to. Where the nodes are numbered in source order, the entry of a node stands
-- at the place of its number.
abbrev pub bound : Tree → Bindings
bound tree = bindings_of (known tree)

-- every broken rule
abbrev pub faults : Tree → List ScopeFault
faults tree = (known tree).faults ++ (rules_func tree.main ++ all_sizes (bound tree) tree.main)

-- the first broken rule by place, and at one place the smaller number
abbrev pub IsScopeFault : Tree → ScopeFault → Type 0
IsScopeFault tree f = IsFirst (faults tree) f
