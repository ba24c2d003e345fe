-- Operators of a rank, one after the other.
use Rattle.std.proofs.Common.{◌≡◌, ◌≤◌, ◌<◌, ◌+◌, ◌-◌, ℕ, suc, max, List, ◌∷◌, refl, sym, ap, subst, arith, Some, None}
use Rattle.syntax_tree.specs.declared.token.Token.{Token}
use Rattle.syntax_tree.specs.declared.tree.BinOp.{BinOp}
use Rattle.syntax_tree.specs.declared.tree.Expr.{Expr}
use Rattle.syntax_tree.specs.declared.tree.ExprKind as expr
use Rattle.syntax_tree.specs.Grammar.{IsOperations, operation, IsOperand, or_operand, and_operand, comparison_operand, sum_operand, product_operand}
use Rattle.syntax_tree.specs.Nodes.{expr_at}
use Rattle.syntax_tree.specs.Operators.{operator}
use Rattle.syntax_tree.specs.Places.{kind_at}
use Rattle.parse_steps.specs.declared.levels.Rank.{Rank}
use Rattle.parse_steps.specs.declared.levels.Rank.TheVariants as rank
use Rattle.parse_steps.specs.Items as item
use Rattle.parse_steps.specs.Items.{Item, depth}
use Rattle.parse_steps.specs.Levels.{rank_of, next}
use Rattle.parse_steps.specs.Turns.{turn, stays, takes, operations_turn, next_reach}
use Rattle.parse_steps.specs.Steps.{most, Leads, here}
use Rattle.expression_parser.specs.declared.fault.Fault.TheVariants as fault
use Rattle.expression_parser.specs.declared.parts.Part.{Part}
use Rattle.expression_parser.specs.Reading.{Fails, IsAtLevel}
use Rattle.expression_parser.proofs.Leading.{then_leads, staying, taking, deep_here, nest_to}

-- what was read since the first part
pub record OperationsSoFar (ts : List Token) (room : ℕ) (r : Rank) (b : ℕ) (first left : Part) : Type 0 where
  pub whole : (e : Expr) (j : ℕ) → IsOperations ts most (rank_of r) b left.end left.expr e j → IsOperations ts most (rank_of r) b first.end first.expr e j
  pub runs : (k : List Item) → depth k + room ≡ most → Leads ts first.end first.nest (item.operations r ∷ k) left.end left.nest (item.operations r ∷ k)
  pub nest : left.nest ≤ room
  pub onward : first.end ≤ left.end

pub nothing_yet : (ts : List Token) (room : ℕ) (r : Rank) (b : ℕ) (part : Part) → part.nest ≤ room → OperationsSoFar ts room r b part part
nothing_yet ts room r b part le = record { whole = λ e j d. d; runs = λ k deep. here _ _ _; nest = le; onward = omega arith }

-- an operand is of the next level
pub as_operand : (ts : List Token) (r : Rank) (i : ℕ) (e : Expr) (j : ℕ) → IsAtLevel ts (next r) i e j → IsOperand ts most (rank_of r) i e j
as_operand ts rank.Ors i e j d = or_operand i j e d
as_operand ts rank.Ands i e j d = and_operand i j e d
as_operand ts rank.Comparisons i e j d = comparison_operand i j e d
as_operand ts rank.Sums i e j d = sum_operand i j e d
as_operand ts rank.Products i e j d = product_operand i j e d

-- the turn at an operator
pub operator_turn : (ts : List Token) (r : Rank) (op : BinOp) (i v : ℕ) (k : List Item) → operator (rank_of r) (kind_at ts i) ≡ Some op → turn (kind_at ts i) v (item.operations r) k ≡ takes (next_reach v k) v (item.level (next r) ∷ item.wrap ∷ item.operations r ∷ k)
operator_turn ts r op i v k stands = ap (λ o. operations_turn o r v k) stands

pub no_operator_turn : (ts : List Token) (r : Rank) (i v : ℕ) (k : List Item) → operator (rank_of r) (kind_at ts i) ≡ None → turn (kind_at ts i) v (item.operations r) k ≡ stays v k
no_operator_turn ts r i v k stands = ap (λ o. operations_turn o r v k) stands

-- to the right operand
pub to_operand : (ts : List Token) (r : Rank) (op : BinOp) (i v room : ℕ) (k : List Item) → operator (rank_of r) (kind_at ts i) ≡ Some op → v < room → depth k + room ≡ most → Leads ts i v (item.operations r ∷ k) (i + 1) v (item.level (next r) ∷ item.wrap ∷ item.operations r ∷ k)
to_operand ts r op i v room k stands less deep = taking (operator_turn ts r op i v k stands) (omega (arith, less, deep)) tt

pub too_deep : (ts : List Token) (r : Rank) (op : BinOp) (i v room : ℕ) (k : List Item) → operator (rank_of r) (kind_at ts i) ≡ Some op → room ≤ v → depth k + room ≡ most → Fails ts i v (item.operations r ∷ k) (fault.TooDeep i)
too_deep ts r op i v room k stands le deep = deep_here (operator_turn ts r op i v k stands) (omega (arith, le, deep))

-- one operator more
pub one_operation : (ts : List Token) (room : ℕ) (r : Rank) (b : ℕ) (op : BinOp) (first left right next_left : Part) → OperationsSoFar ts room r b first left → operator (rank_of r) (kind_at ts left.end) ≡ Some op → left.nest < room
    → IsAtLevel ts (next r) (left.end + 1) right.expr right.end → right.nest ≤ room - 1 → left.end + 1 < right.end
    → ((v : ℕ) (k : List Item) → depth k + (room - 1) ≡ most → Leads ts (left.end + 1) v (item.level (next r) ∷ k) right.end (max v right.nest) k)
    → next_left.expr ≡ expr_at ts b (expr.Binary op left.expr right.expr) → next_left.nest ≡ suc (max left.nest right.nest) → next_left.end ≡ right.end → OperationsSoFar ts room r b first next_left
one_operation ts room r b op first left right next_left so_far stands less operand small onward runs node nest end = record {
  whole = λ e j d.
      let rest : IsOperations ts most (rank_of r) b right.end (expr_at ts b (expr.Binary op left.expr right.expr)) e j = subst (λ (x : Expr). IsOperations ts most (rank_of r) b right.end x e j) node (subst (λ (x : ℕ). IsOperations ts most (rank_of r) b x next_left.expr e j) end d) in
      so_far.whole e j (operation (rank_of r) b left.end right.end j op left.expr right.expr e stands (as_operand ts r (left.end + 1) right.expr right.end operand) rest);
  runs = λ k deep.
      let operand_run = runs left.nest (item.wrap ∷ item.operations r ∷ k) (omega (arith, deep, less)) in
      let all = then_leads (so_far.runs k deep) (then_leads (to_operand ts r op left.end left.nest room k stands less deep) (then_leads operand_run (staying refl))) in
      subst (λ (x : ℕ). Leads ts first.end first.nest (item.operations r ∷ k) x next_left.nest (item.operations r ∷ k)) (sym end) (nest_to (sym nest) all);
  nest = omega (arith, nest, less, small);
  onward = omega (arith, end, onward, so_far.onward);
}
