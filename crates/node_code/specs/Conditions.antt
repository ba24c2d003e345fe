-- The code of operators and conditions.
use Rattle.std.specs.Prelude.{ℕ, ◌≤◌, ◌+◌, ◌-◌, ℤ, pos, Bool, true, false, not, if◌then◌else◌, List, [], ◌∷◌, length, Option, Some, None}
use Rattle.op_words.specs.declared.chunk.Const.TheVariants as constant
use Rattle.op_words.specs.declared.insn.Insn.{Insn}
use Rattle.op_words.specs.declared.insn.Insn.TheVariants as i
use Rattle.syntax_tree.specs.declared.tree.BinOp.{BinOp}
use Rattle.syntax_tree.specs.declared.tree.BinOp.TheVariants as op
use Rattle.syntax_tree.specs.declared.tree.UnOp.{UnOp}
use Rattle.syntax_tree.specs.declared.tree.UnOp.TheVariants as unary
use Rattle.emit_expr.specs.declared.draft.Emitter.{Emitter}
use Rattle.emit_expr.specs.Puts.{Step, insn, label, place, branch, constant_place, with_constant}
use Rattle.emit_expr.specs.Operators.{near_number, unary_insn, arithmetic, arithmetic_constant, from_constant, takes_left, is_comparison, comparison}
use Rattle.node_code.specs.Nodes.{ExprCode, ChoiceCode, operand_at, operand_run, single, decided}
use Rattle.node_code.specs.Lists.{each_run}

-- ---- arithmetic

-- the right operand is a constant, or its code comes first
abbrev pub operate_by : Option ℤ → BinOp → (to left : ℕ) → ExprCode → (at : ℕ) → Step
operate_by None op to left y at d = insn (arithmetic op to left (operand_at y at d)) (operand_run y at d)
operate_by (Some n) op to left y at d =
    insn (arithmetic_constant op to left (constant_place (constant.Num n) d)) (with_constant (constant.Num n) d)

-- a number that is the right operand
abbrev pub near_right : ExprCode → Emitter → Option ℤ
near_right y d = near_number y.number d

-- the left operand's value is in a register
abbrev pub operate_run : BinOp → (to left : ℕ) → ExprCode → (at : ℕ) → Step
operate_run op to left y at d = operate_by (near_right y d) op to left y at d

-- a number that is the left operand
abbrev pub left_number : BinOp → ExprCode → Emitter → Option ℤ
left_number op x d = if takes_left op then near_number x.number d else None

-- a number that is found is near
abbrev pub IsNear : Option ℤ → Emitter → Type 0
IsNear None d = Unit {0}
IsNear (Some n) d = constant_place (constant.Num n) d ≤ 255

abbrev pub from_number : (k : ℕ) → BinOp → ExprCode → (to : ℕ) → Step
from_number k op y to d = insn (from_constant op to k (operand_at y to d)) (operand_run y to d)

abbrev pub arithmetic_by : Option ℤ → BinOp → ExprCode → ExprCode → (to : ℕ) → Step
arithmetic_by None op x y to d = operate_run op to (operand_at x to d) y (to + 1) (operand_run x to d)
arithmetic_by (Some n) op x y to d =
    from_number (constant_place (constant.Num n) d) op y to (with_constant (constant.Num n) d)

abbrev pub arithmetic_run : BinOp → ExprCode → ExprCode → (to : ℕ) → Step
arithmetic_run op x y to d = arithmetic_by (left_number op x d) op x y to d

-- ---- comparisons

abbrev pub compare_with : BinOp → (so : Bool) → (left : ℕ) → ExprCode → (at label : ℕ) → Step
compare_with op so left y at l d = branch (comparison op so left (operand_at y at d)) l (operand_run y at d)

abbrev pub compare_jump : BinOp → ExprCode → ExprCode → (so : Bool) → (to label : ℕ) → Step
compare_jump op x y so to l d = compare_with op so (operand_at x to d) y (to + 1) l (operand_run x to d)

-- true where the jump was taken, else false
abbrev pub answer_run : (id to : ℕ) → Step
answer_run id to d = insn (i.LoadB to 1 0) (place (label id 0) (insn (i.LoadB to 0 1) d))

abbrev pub compare_run : BinOp → ExprCode → ExprCode → (id to : ℕ) → Step
compare_run op x y id to d = answer_run id to (compare_jump op x y true to (label id 0) d)

-- ---- `and` and `or`: the first operand whose value decides is the value

abbrev pub and_run : ExprCode → ExprCode → (id to : ℕ) → Step
and_run x y id to d = place (label id 0) (y.run to 2 (branch (i.JumpIfNot to (pos 0)) (label id 0) (x.run to 2 d)))

abbrev pub or_run : ExprCode → ExprCode → (id to : ℕ) → Step
or_run x y id to d = place (label id 0) (y.run to 2 (branch (i.JumpIf to (pos 0)) (label id 0) (x.run to 2 d)))

abbrev pub and_jump : ExprCode → ExprCode → (id : ℕ) → (so : Bool) → (to label : ℕ) → Step
and_jump x y id true to l d = place (label id 0) (y.jump true to l (x.jump false to (label id 0) d))
and_jump x y id false to l d = y.jump false to l (x.jump false to l d)

abbrev pub or_jump : ExprCode → ExprCode → (id : ℕ) → (so : Bool) → (to label : ℕ) → Step
or_jump x y id true to l d = y.jump true to l (x.jump true to l d)
or_jump x y id false to l d = place (label id 0) (y.jump false to l (x.jump true to (label id 0) d))

-- ---- the operators

abbrev pub binary_code : BinOp → ExprCode → ExprCode → (id : ℕ) → ExprCode
binary_code op.And x y id = decided id (and_run x y id) (and_jump x y id)
binary_code op.Or x y id = decided id (or_run x y id) (or_jump x y id)
binary_code op x y id =
    if is_comparison op then decided id (compare_run op x y id) (compare_jump op x y) else single id (arithmetic_run op x y)

abbrev pub unary_run : UnOp → ExprCode → (to : ℕ) → Step
unary_run op x to d = insn (unary_insn op to (operand_at x to d)) (operand_run x to d)

abbrev pub unary_code : UnOp → ExprCode → (id : ℕ) → ExprCode
unary_code unary.Not x id = decided id (unary_run unary.Not x) (λ so. x.jump (not so))
unary_code op x id = single id (unary_run op x)

-- the values of so many registers from one on are joined
abbrev pub concat_insn : List ExprCode → (to : ℕ) → Insn
concat_insn es to = i.Concat to to (to + length es - 1)

-- a run of `..`: all operands, which are then joined
abbrev pub concat_run : List ExprCode → (to : ℕ) → Step
concat_run es to d = insn (concat_insn es to) (each_run es to d)

-- ---- `if` expressions

-- the value of the first arm whose condition is true; each arm but the last value jumps behind them all
abbrev pub choice_end : (id next : ℕ) → Step
choice_end id next d = place (label next 1) (branch (i.Jump (pos 0)) (label id 0) d)

abbrev pub choice_run : ChoiceCode → (id to : ℕ) → Step
choice_run a id to d =
    choice_end id a.cond.id (a.value.run to 2 (a.cond.jump false to (label a.cond.id 1) d))

abbrev pub choices_run : List ChoiceCode → (id to : ℕ) → Step
choices_run [] id to d = d
choices_run (a ∷ arms) id to d = choices_run arms id to (choice_run a id to d)

abbrev pub if_run : List ChoiceCode → ExprCode → (id to : ℕ) → Step
if_run arms other id to d = place (label id 0) (other.run to 2 (choices_run arms id to d))
