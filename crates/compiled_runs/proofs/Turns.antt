-- Whether a `continue` in a statement ends the turn of a loop around the statement.
use Rattle.std.proofs.Common.{Bool, true, false, ◌||◌, List, [], ◌∷◌, Option, Some, None}
use Rattle.syntax_tree.specs.declared.tree.Stat.{Stat}
use Rattle.syntax_tree.specs.declared.tree.Arm.{Arm}
use Rattle.syntax_tree.specs.declared.tree.ExprKind.TheOpen as level
use Rattle.syntax_tree.specs.declared.tree.ExprKind.TheOpen.{StatKind-F}
use Rattle.syntax_tree.specs.Fold.{Steps, at_stat, at_arm}

abbrev pub any : List Bool → Bool
any [] = false
any (x ∷ xs) = x || any xs

abbrev pub else_ends : Option (List Bool) → Bool
else_ends None = false
else_ends (Some body) = any body

-- the loops of a statement end their own turns
abbrev pub kind_ends : StatKind-F (Unit {0}) (Unit {0}) Bool Bool (Unit {0}) (Unit {0}) (Unit {0}) (Unit {0}) Bool → Bool
kind_ends (level.Do body) = any body
kind_ends (level.StatKind::If arms other) = any arms || else_ends other
kind_ends level.Continue = true
kind_ends _ = false

abbrev pub steps : Steps (Unit {0}) (Unit {0}) Bool Bool (Unit {0}) (Unit {0}) (Unit {0}) (Unit {0}) Bool
steps = record {
  kind = λ _. tt;
  field_kind = λ _. tt;
  stat_kind = kind_ends;
  arm = λ a. any a.body;
  expr = λ _. tt;
  expr_arm = λ _. tt;
  field = λ _. tt;
  func = λ _. tt;
  stat = λ s. s.kind;
}

abbrev pub ends_turn : Stat → Bool
ends_turn = at_stat steps

abbrev pub arm_ends : Arm → Bool
arm_ends = at_arm steps
