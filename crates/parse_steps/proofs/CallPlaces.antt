-- The places where arguments open in a part of a tree that is not numbered yet.
use Rattle.std.specs.Prelude.{ℕ, List, [], map, Option, Some, None}
use Rattle.syntax_tree.specs.declared.tree.Arm.{Arm}
use Rattle.syntax_tree.specs.declared.tree.Expr.{Expr}
use Rattle.syntax_tree.specs.declared.tree.ExprArm.{ExprArm}
use Rattle.syntax_tree.specs.declared.tree.Field.{Field}
use Rattle.syntax_tree.specs.declared.tree.FuncBody.{FuncBody}
use Rattle.syntax_tree.specs.declared.tree.Stat.{Stat}
use Rattle.syntax_tree.specs.Calls.{Places, all, expr_kind_calls, field_kind_calls, stat_kind_calls, arm_calls, expr_calls, expr_arm_calls, field_calls, func_calls, stat_calls}
use Rattle.syntax_tree.specs.Fold.{Steps, at_expr, at_stat, at_func, at_arm, at_expr_arm, at_field}

abbrev pub call_steps : Steps (ℕ → Places) Places Places Places Places Places Places Places Places
call_steps =
    record {
      kind = expr_kind_calls;
      field_kind = field_kind_calls;
      stat_kind = stat_kind_calls;
      arm = arm_calls;
      expr = expr_calls;
      expr_arm = expr_arm_calls;
      field = field_calls;
      func = func_calls;
      stat = stat_calls;
    }

abbrev pub calls_expr : Expr → Places
calls_expr = at_expr call_steps

abbrev pub calls_stat : Stat → Places
calls_stat = at_stat call_steps

abbrev pub calls_func : FuncBody → Places
calls_func = at_func call_steps

abbrev pub calls_arm : Arm → Places
calls_arm = at_arm call_steps

abbrev pub calls_expr_arm : ExprArm → Places
calls_expr_arm = at_expr_arm call_steps

abbrev pub calls_field : Field → Places
calls_field = at_field call_steps

abbrev pub calls_exprs : List Expr → Places
calls_exprs es = all (map calls_expr es)

abbrev pub calls_stats : List Stat → Places
calls_stats block = all (map calls_stat block)

abbrev pub calls_arms : List Arm → Places
calls_arms arms = all (map calls_arm arms)

abbrev pub calls_expr_arms : List ExprArm → Places
calls_expr_arms arms = all (map calls_expr_arm arms)

abbrev pub calls_fields : List Field → Places
calls_fields fields = all (map calls_field fields)

-- of a step that may lack
abbrev pub calls_step : Option Expr → Places
calls_step None = []
calls_step (Some e) = calls_expr e

-- of an `else` that may lack
abbrev pub calls_other : Option (List Stat) → Places
calls_other None = []
calls_other (Some block) = calls_stats block
