-- What is known of the parts of a script that breaks no rule, where these names are in scope: few enough locals are live, and few
-- enough registers are needed.
use Rattle.std.specs.Prelude.{◌≡◌, ℕ, ◌+◌, ◌≤◌, List, [], map, length}
use Rattle.byte_text.specs.declared.fixed.StrId.{StrId}
use Rattle.syntax_tree.specs.declared.notes.Place.{Place}
use Rattle.syntax_tree.specs.declared.tree.Expr.{Expr}
use Rattle.syntax_tree.specs.declared.tree.Stat.{Stat}
use Rattle.syntax_tree.specs.Limits.{most_variables, most_registers}
use Rattle.syntax_tree.specs.Need.{need_expr, need_stat, block_from}
use Rattle.syntax_tree.specs.Rules.{rules_stat, block}

-- the names are those of locals that are live at a place, where no more are live than may be
pub record LocalsFit (names : List StrId) (p : Place) : Type 0 where
  pub live : length names ≤ p.live
  pub few : p.live ≤ most_variables

-- an expression needs no more registers than are free
abbrev pub ExprFits : List StrId → Expr → Type 0
ExprFits names e = length names + (need_expr e).need ≤ most_registers

-- a statement
pub record StatementFits (names : List StrId) (s : Stat) : Type 0 where
  pub place : Place
  pub locals : LocalsFit names place
  pub unbroken : (rules_stat s).faults place ≡ []
  pub registers : length names + (need_stat s).need ≤ most_registers

-- some statements of a block in order. Some of the locals were declared in the block, and the others outside
pub record BlockFits (names : List StrId) (ss : List Stat) : Type 0 where
  pub place : Place
  pub locals : LocalsFit names place
  pub unbroken : block (map rules_stat ss) place ≡ []
  pub outside : ℕ
  pub declared : ℕ
  pub known : length names ≤ outside + declared
  pub registers : outside + block_from declared (map need_stat ss) ≤ most_registers
