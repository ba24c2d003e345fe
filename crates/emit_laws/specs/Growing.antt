-- What is emitted goes behind what was there.
use Rattle.std.specs.Prelude.{◌≡◌, ℕ, Bool, List, ◌++◌}
use Rattle.syntax_tree.specs.declared.bindings.Bindings.{Bindings}
use Rattle.syntax_tree.specs.declared.tree.Expr.{Expr}
use Rattle.syntax_tree.specs.declared.tree.Stat.{Stat}
use Rattle.syntax_tree.specs.declared.tree.FuncBody.{FuncBody}
use Rattle.emit_expr.specs.declared.draft.Emitter.{Emitter}
use Rattle.emit_expr.specs.declared.draft.Loop.{Loop}
use Rattle.node_code.specs.Code.{expr_code, stat_code, func_code}

pub record Prefix {A : Type 0} (xs ys : List A) : Type 0 where
  pub more : List A
  pub is : ys ≡ xs ++ more

-- the items, constants, variables and children of the function, the functions that are done and the strings are those from
-- before and more
pub record Grows (old new : Emitter) : Type 0 where
  pub func : new.draft.func ≡ old.draft.func
  pub items : Prefix old.draft.items new.draft.items
  pub constants : Prefix old.draft.constants new.draft.constants
  pub variables : Prefix old.draft.variables new.draft.variables
  pub children : Prefix old.draft.children new.draft.children
  pub protos : Prefix old.protos new.protos
  pub strings : Prefix old.strings new.strings

-- of an expression's value, of the jump on it, of a statement, and of a function
pub record CodeGrows : Type 0 where
  pub value : (b : Bindings) (e : Expr) (to results : ℕ) (d : Emitter) → Grows d ((expr_code b e).run to results d)
  pub jump : (b : Bindings) (e : Expr) (so : Bool) (to label : ℕ) (d : Emitter) → Grows d ((expr_code b e).jump so to label d)
  pub statement : (b : Bindings) (s : Stat) (free : ℕ) (l : Loop) (d : Emitter) → Grows d ((stat_code b s).run free l d)
  pub function : (b : Bindings) (f : FuncBody) (to : ℕ) (d : Emitter) → Grows d (func_code b f to d)
