-- What names are bound to, and what is in scope where they stand.
use Rattle.std.specs.Prelude.{◌≡◌, ℕ, List, ◌∷◌, Some, slice_get}
use Rattle.byte_text.specs.declared.fixed.StrId.{StrId}
use Rattle.syntax_tree.specs.declared.bindings.Bound.{Bound}
use Rattle.syntax_tree.specs.declared.bindings.LocalInfo.{LocalInfo}
use Rattle.syntax_tree.specs.declared.tree.Expr.{Expr}
use Rattle.syntax_tree.specs.declared.tree.ExprKind as expr_kind
use Rattle.syntax_tree.specs.declared.tree.FuncBody.{FuncBody, out-FuncBody}
use Rattle.syntax_tree.specs.declared.tree.Tree.{Tree}
use Rattle.syntax_tree.specs.Bound.{bound}
use Rattle.syntax_tree.specs.Numbers.{numbered}
use Rattle.syntax_tree.specs.Scope.{look, bound_in}
use Rattle.scope_laws.specs.Captured.{Captured}
use Rattle.scope_laws.specs.Declared.{node_of, DeclaredWithin, declarer, IsTold, HasEntry}
use Rattle.scope_laws.specs.Sight.{Sight, Part, expr, function, Sees, NameWithin, nothing}

-- In a tree whose nodes are numbered in source order, the entry at a name's number says what the name is bound to in
-- the scope where it stands.
abbrev pub NamesInScope : Type 0
NamesInScope = (main : FuncBody) (tree : Tree) (s : Sight) (e : Expr) (after : List Part) (x : StrId) → tree ≡ numbered main →
    Sees tree.main s (expr e ∷ after) → e.kind ≡ expr_kind.Name x →
    slice_get (bound tree).names e.id ≡ Some (Some (bound_in s.first (look x s.scope)))

-- and each entry that says what something is bound to is at the number of a name that is seen
abbrev pub NamesAreSeen : Type 0
NamesAreSeen = (main : FuncBody) (tree : Tree) (number : ℕ) (b : Bound) → tree ≡ numbered main →
    slice_get (bound tree).names number ≡ Some (Some b) → (n : NameWithin nothing (function tree.main)) × (n.node.id ≡ number)

-- the entry at a function's number lists the locals that the function captures
abbrev pub FunctionsCapture : Type 0
FunctionsCapture = (main : FuncBody) (tree : Tree) (s : Sight) (f : FuncBody) (after : List Part) → tree ≡ numbered main →
    Sees tree.main s (function f ∷ after) →
    (c : Captured s f) × (slice_get (bound tree).upvalues (out-FuncBody f).id ≡ Some c.locals)

-- the entry at a node's number says how many locals the text declares before the node
abbrev pub NodesHaveFirsts : Type 0
NodesHaveFirsts = (main : FuncBody) (tree : Tree) (s : Sight) (p : Part) (after : List Part) (number : ℕ) → tree ≡ numbered main →
    Sees tree.main s (p ∷ after) → node_of p ≡ Some number → slice_get (bound tree).firsts number ≡ Some s.declared

-- each entry of the locals says where the local is declared, and whether it is captured and assigned
abbrev pub LocalsAreTold : Type 0
LocalsAreTold = (main : FuncBody) (tree : Tree) (local : ℕ) (info : LocalInfo) → tree ≡ numbered main →
    slice_get (bound tree).locals local ≡ Some info → IsTold tree.main local info

-- and each local that is declared has an entry, which says that
abbrev pub DeclaredHaveEntries : Type 0
DeclaredHaveEntries = (main : FuncBody) (tree : Tree) (local : ℕ) → tree ≡ numbered main →
    (d : DeclaredWithin nothing (function tree.main) local) → HasEntry (bound tree).locals local d.name (declarer d.part d.sight)
