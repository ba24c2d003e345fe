-- The form that is compiled: no node is unbuilt, and what is declared and computed fits, where these names are in scope.
use Rattle.std.specs.Prelude.{◌≡◌, ℕ, ◌+◌, ◌-◌, ◌≤◌, List, length, None}
use Rattle.byte_text.specs.declared.fixed.StrId.{StrId}
use Rattle.syntax_tree.specs.declared.bindings.Bindings.{Bindings}
use Rattle.syntax_tree.specs.declared.tree.Expr.{Expr}
use Rattle.syntax_tree.specs.declared.tree.Stat.{Stat}
use Rattle.syntax_tree.specs.Limits.{most_registers}
use Rattle.syntax_tree.specs.Need.{need_expr}
use Rattle.built_emitter.specs.Fitting.{ExprFits, StatementFits, BlockFits}
use Rattle.built_emitter.specs.Unbuilt.{uses_of, unbuilt_in_stat, first_unbuilt}

-- so many registers are free above the locals, where `held` of them are held
abbrev pub room : List StrId → (held : ℕ) → ℕ
room names held = most_registers - (length names + held)

-- a value, in so many registers
pub record IsValue (b : Bindings) (registers : ℕ) (e : Expr) : Type 0 where
  pub built : (uses_of b e).value ≡ None
  pub few : (need_expr e).need ≤ registers

-- a condition
pub record IsCondition (b : Bindings) (names : List StrId) (e : Expr) : Type 0 where
  pub built : (uses_of b e).condition ≡ None
  pub fits : ExprFits names e

-- a call that is a statement
pub record IsCall (b : Bindings) (names : List StrId) (e : Expr) : Type 0 where
  pub built : (uses_of b e).call ≡ None
  pub fits : ExprFits names e

pub record IsStatement (b : Bindings) (names : List StrId) (s : Stat) : Type 0 where
  pub built : unbuilt_in_stat b s ≡ None
  pub fits : StatementFits names s

-- some statements of a block in order
pub record IsBlock (b : Bindings) (names : List StrId) (ss : List Stat) : Type 0 where
  pub built : first_unbuilt b ss ≡ None
  pub fits : BlockFits names ss
