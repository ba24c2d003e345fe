-- Where the parts of a script stand, as its bindings tell it: which locals are in scope there.
use Rattle.std.specs.Prelude.{◌≡◌, ℕ, ◌<◌, List, [], ◌∷◌, ◌++◌, map, reverse, length, nat_eq, if◌then◌else◌, Option, Some, None, slice_get}
use Rattle.byte_text.specs.declared.fixed.StrId.{StrId}
use Rattle.syntax_tree.specs.declared.bindings.Bindings.{Bindings}
use Rattle.syntax_tree.specs.declared.bindings.Bound.{Bound}
use Rattle.syntax_tree.specs.declared.bindings.Bound.TheVariants as variant
use Rattle.syntax_tree.specs.declared.notes.Visible.{Visible}
use Rattle.syntax_tree.specs.declared.tree.FuncBody.{FuncBody, out-FuncBody}
use Rattle.syntax_tree.specs.declared.tree.Stat.{Stat}
use Rattle.syntax_tree.specs.declared.tree.StatKind.{out-StatKind}
use Rattle.syntax_tree.specs.declared.tree.Tree.{Tree}
use Rattle.syntax_tree.specs.Bound.{bound}
use Rattle.syntax_tree.specs.Lists.{or_zero}
use Rattle.syntax_tree.specs.Numbers.{numbered}
use Rattle.scope_laws.specs.Sight.{Sight, Part, Sees, stat_shows}

-- what the bindings say of the node with that number
abbrev pub entry : Option (Option Bound) → Option Bound
entry None = None
entry (Some bound) = bound

abbrev pub bound_at : Bindings → ℕ → Option Bound
bound_at b number = entry (slice_get b.names number)

-- the number of the first local that the node declares
abbrev pub first_at : Bindings → ℕ → ℕ
first_at b number = or_zero (slice_get b.firsts number)

-- the names of locals in scope
abbrev pub names_of : List Visible → List StrId
names_of vs = map (λ (v : Visible). v.name) vs

-- the locals in scope behind a statement, the newest first
abbrev pub scope_after : Bindings → List Visible → Stat → List Visible
scope_after b vs s = reverse (stat_shows (out-StatKind s.kind) (first_at b s.id)) ++ vs

-- the numbers of these locals are below n, and the newer one has the higher number
abbrev pub AreBelow : ℕ → List Visible → Type 0
AreBelow n [] = Unit {0}
AreBelow n (v ∷ vs) = (v.local < n) × AreBelow v.local vs

-- These parts follow one another in the main function of a numbered tree with these bindings. Where the first of them begins, these
-- locals are in scope, the newest first.
pub record Stand (b : Bindings) (vs : List Visible) (ps : List Part) : Type 0 where
  pub main : FuncBody
  pub is : b ≡ bound (numbered main)
  pub sight : Sight
  pub seen : Sees (numbered main).main sight ps
  pub scope : sight.scope ≡ reverse vs
  pub first : sight.first ≡ 0
  pub below : AreBelow sight.declared vs

-- a part stands somewhere
abbrev pub StandsAt : Bindings → List Visible → Part → Type 0
StandsAt b vs p = (after : List Part) × Stand b vs (p ∷ after)

-- the register of a local in scope: they have registers from 0 on, the oldest first
abbrev pub register_at : List Visible → ℕ → Option ℕ
register_at [] local = None
register_at (v ∷ vs) local = if nat_eq v.local local then Some (length (names_of vs)) else register_at vs local

-- the register of what a name is bound to
abbrev pub register_bound : List Visible → Option Bound → Option ℕ
register_bound vs (Some (variant.Local local)) = register_at vs local
register_bound vs _ = None

-- a tree whose nodes are numbered in source order, with its bindings, whose main function has no parameters
pub record IsBound (tree : Tree) (b : Bindings) : Type 0 where
  pub main : FuncBody
  pub numbers : tree ≡ numbered main
  pub is : b ≡ bound tree
  pub none : (out-FuncBody tree.main).params ≡ []
