-- The locals that a function captures.
use Rattle.std.specs.Prelude.{◌≡◌, ◌↔◌, ℕ, ◌<◌, List, Some, slice_get}
use Rattle.std.specs.List.{Contains}
use Rattle.syntax_tree.specs.declared.tree.FuncBody.{FuncBody}
use Rattle.syntax_tree.specs.Scope.{look}
use Rattle.scope_laws.specs.Sight.{Sight, function, NameWithin}

-- A function captures a local, where it begins where this is seen: a name in the function stands for the local, which is
-- declared before the function.
pub record Captures (s : Sight) (f : FuncBody) (local : ℕ) : Type 0 where
  pub name : NameWithin s (function f)
  pub stands : look name.name name.sight.scope ≡ Some local
  pub outside : local < s.declared

-- a name in a function that stands for a local, before the node with that number
pub record UsedBefore (s : Sight) (f : FuncBody) (local number : ℕ) : Type 0 where
  pub name : NameWithin s (function f)
  pub stands : look name.name name.sight.scope ≡ Some local
  pub before : name.node.id < number

-- the locals that a function captures, each once, in the order of the first names in it that stand for them
pub record Captured (s : Sight) (f : FuncBody) : Type 0 where
  pub locals : List ℕ
  pub each : (local : ℕ) → Contains locals local ↔ Captures s f local
  pub once : (i j local : ℕ) → slice_get locals i ≡ Some local → slice_get locals j ≡ Some local → i ≡ j
  -- before a name that stands for one of them, names stand for those before it
  pub order : (i j earlier later : ℕ) → i < j → slice_get locals i ≡ Some earlier → slice_get locals j ≡ Some later →
      (n : NameWithin s (function f)) → look n.name n.sight.scope ≡ Some later → UsedBefore s f earlier n.node.id
