-- Where the locals of a script are declared, used and set.
use Rattle.std.specs.Prelude.{◌≡◌, ◌↔◌, ℕ, ◌+◌, ◌<◌, true, List, [], ◌∷◌, Option, Some, None, slice_get}
use Rattle.byte_text.specs.declared.fixed.StrId.{StrId}
use Rattle.syntax_tree.specs.declared.bindings.LocalInfo.{LocalInfo}
use Rattle.syntax_tree.specs.declared.tree.Expr.{Expr}
use Rattle.syntax_tree.specs.declared.tree.ExprKind.TheOpen as level
use Rattle.syntax_tree.specs.declared.tree.FuncBody.{FuncBody, out-FuncBody}
use Rattle.syntax_tree.specs.declared.tree.Stat.{Stat}
use Rattle.syntax_tree.specs.declared.tree.StatKind.{out-StatKind}
use Rattle.syntax_tree.specs.Scope.{look}
use Rattle.scope_laws.specs.Sight.{Sight, Part, expr, stat, function, StatLevel, Within, NameWithin, nothing}

-- the number of a part that is a node
abbrev pub node_of : Part → Option ℕ
node_of (expr e) = Some e.id
node_of (stat x) = Some x.id
node_of (function f) = Some (out-FuncBody f).id
node_of _ = None

-- ---- declarations

-- the names that a statement declares, in the order of their locals' numbers
abbrev pub stat_names : StatLevel → List StrId
stat_names (level.Local names values) = names
stat_names (level.NumFor name start limit step body) = name ∷ []
stat_names (level.GenFor names values body) = names
stat_names (level.LocalFunction name func) = name ∷ []
-- no other statement declares a name
stat_names _ = []

-- the names that a part declares itself: those of a statement, or the parameters of a function
abbrev pub own_names : Part → List StrId
own_names (stat x) = stat_names (out-StatKind x.kind)
own_names (function f) = (out-FuncBody f).params
own_names _ = []

-- the number of the function that declares them, where this is seen: a function declares its own parameters
abbrev pub declarer : Part → Sight → ℕ
declarer (function f) s = (out-FuncBody f).id
declarer _ s = s.func

-- the declaration of a local: it has the number of the first local that the part declares, or one of those that follow
pub record DeclaredWithin (from : Sight) (whole : Part) (local : ℕ) : Type 0 where
  pub sight : Sight
  pub part : Part
  pub after : List Part
  pub seen : Within from whole sight (part ∷ after)
  pub place : ℕ
  pub name : StrId
  pub named : slice_get (own_names part) place ≡ Some name
  pub number : local ≡ sight.declared + place

-- ---- uses

-- a name that stands for a local
pub record UsedWithin (from : Sight) (whole : Part) (local : ℕ) : Type 0 where
  pub name : NameWithin from whole
  pub stands : look name.name name.sight.scope ≡ Some local

-- the expressions that an assignment sets
abbrev pub stat_targets : StatLevel → List Expr
stat_targets (level.Assign targets values) = targets
stat_targets (level.Compound op target value) = target ∷ []
-- no other statement is an assignment
stat_targets _ = []

-- an expression that an assignment sets
pub record SetWithin (from : Sight) (whole : Part) (e : Expr) : Type 0 where
  pub sight : Sight
  pub assignment : Stat
  pub after : List Part
  pub seen : Within from whole sight (stat assignment ∷ after)
  pub place : ℕ
  pub is : slice_get (stat_targets (out-StatKind assignment.kind)) place ≡ Some e

-- ---- the entries of locals

-- some name in a function further inside stands for the local
pub record IsCaptured (main : FuncBody) (local : ℕ) : Type 0 where
  pub used : UsedWithin nothing (function main) local
  pub inside : local < used.name.sight.first

-- an assignment sets some name that stands for the local
pub record IsAssigned (main : FuncBody) (local : ℕ) : Type 0 where
  pub used : UsedWithin nothing (function main) local
  pub set : SetWithin nothing (function main) used.name.node

-- what the entry of a local says
pub record IsTold (main : FuncBody) (local : ℕ) (info : LocalInfo) : Type 0 where
  pub declared : DeclaredWithin nothing (function main) local
  pub name : info.name ≡ declared.name
  pub func : info.func ≡ declarer declared.part declared.sight
  pub captured : (info.captured ≡ true) ↔ IsCaptured main local
  pub assigned : (info.assigned ≡ true) ↔ IsAssigned main local

-- the entry of a declared local
pub record HasEntry (locals : List LocalInfo) (local : ℕ) (name : StrId) (func : ℕ) : Type 0 where
  pub info : LocalInfo
  pub at : slice_get locals local ≡ Some info
  pub is_name : info.name ≡ name
  pub is_func : info.func ≡ func
