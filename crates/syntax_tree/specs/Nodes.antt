-- Nodes of a tree that is not numbered yet. A node has the place and the line of its first token.
-- The number of a call's node is, until then, the place in the token list where its arguments begin; that of every other node is 0.
use Rattle.std.specs.Prelude.{ℕ, Bool, List, Option, Some, None, slice_get}
use Rattle.byte_text.specs.declared.StrId.{StrId}
use Rattle.syntax_tree.specs.declared.token.Token.{Token}
use Rattle.syntax_tree.specs.declared.tree.Arm.{Arm, roll-Arm}
use Rattle.syntax_tree.specs.declared.tree.Expr.{Expr}
use Rattle.syntax_tree.specs.declared.tree.ExprArm.{ExprArm}
use Rattle.syntax_tree.specs.declared.tree.ExprKind.{ExprKind}
use Rattle.syntax_tree.specs.declared.tree.Field.{Field}
use Rattle.syntax_tree.specs.declared.tree.FieldKind.{FieldKind}
use Rattle.syntax_tree.specs.declared.tree.FuncBody.{FuncBody, roll-FuncBody}
use Rattle.syntax_tree.specs.declared.tree.Stat.{Stat}
use Rattle.syntax_tree.specs.declared.tree.StatKind.{StatKind}

-- the offset of the token's first byte
abbrev pub offset_of : Option Token → ℕ
offset_of (Some t) = t.at
offset_of None = 0

-- the line of the token's first byte
abbrev pub line_of : Option Token → ℕ
line_of (Some t) = t.line
line_of None = 0

abbrev pub expr_at : List Token → ℕ → ExprKind → Expr
expr_at ts i kind = record { id = 0; at = offset_of (slice_get ts i); line = line_of (slice_get ts i); kind = kind }

-- a Call or Method that begins at i and whose arguments begin at j
abbrev pub call_at : List Token → (i j : ℕ) → ExprKind → Expr
call_at ts i j kind = record { id = j; at = offset_of (slice_get ts i); line = line_of (slice_get ts i); kind = kind }

abbrev pub field_at : List Token → ℕ → FieldKind → Field
field_at ts i kind = record { at = offset_of (slice_get ts i); kind = kind }

abbrev pub stat_at : List Token → ℕ → StatKind → Stat
stat_at ts i kind = record { id = 0; at = offset_of (slice_get ts i); line = line_of (slice_get ts i); kind = kind }

-- the function whose word `function` stands at i
abbrev pub function_at : List Token → ℕ → List StrId → Bool → List Stat → FuncBody
function_at ts i params vararg body = roll-FuncBody (record { id = 0; at = offset_of (slice_get ts i); line = line_of (slice_get ts i); params = params; vararg = vararg; body = body })

abbrev pub arm : Expr → List Stat → Arm
arm cond body = roll-Arm (record { cond = cond; body = body })

abbrev pub expr_arm : Expr → Expr → ExprArm
expr_arm cond value = record { cond = cond; value = value }
