-- What the code of operators and conditions adds.
use Rattle.std.proofs.Common.{◌≡◌, ℕ, ℤ, ◌+◌, ◌*◌, ◌≤◌, ◌<◌, ◌^◌, Bool, true, false, not, List, [], ◌∷◌, length, Option, Some, None, refl, ap, arith, IsTrue}
use Rattle.std.specs.Prelude.{pos}
use Rattle.byte_text.specs.declared.fixed.StrId.{StrId}
use Rattle.op_words.specs.declared.chunk.Const.TheVariants as constant
use Rattle.op_words.specs.declared.insn.Insn.{Insn}
use Rattle.op_words.specs.declared.insn.Insn.TheVariants as i
use Rattle.op_words.specs.Encoding.{encoded}
use Rattle.code_link.specs.Labels.{is_jump}
use Rattle.syntax_tree.specs.declared.bindings.Bindings.{Bindings}
use Rattle.syntax_tree.specs.declared.bindings.Bound.{Bound}
use Rattle.syntax_tree.specs.declared.tree.BinOp.{BinOp}
use Rattle.syntax_tree.specs.declared.tree.BinOp.TheVariants as op
use Rattle.syntax_tree.specs.declared.tree.UnOp.{UnOp}
use Rattle.syntax_tree.specs.declared.tree.UnOp.TheVariants as unary
use Rattle.emit_expr.specs.declared.draft.Emitter.{Emitter}
use Rattle.emit_expr.specs.Puts as puts
use Rattle.emit_expr.specs.Puts.{Step, label}
use Rattle.emit_expr.specs.Names as names
use Rattle.emit_expr.specs.Operators as operators
use Rattle.node_code.specs.Nodes as nodes
use Rattle.node_code.specs.Nodes.{ExprCode, ChoiceCode}
use Rattle.node_code.specs.Conditions as conditions
use Rattle.node_code.specs.Code as code
use Rattle.link_laws.proofs.Items.{hits}
use Rattle.link_laws.proofs.Numbers.{span, zone, zone_span, zone_next, span_join}
use Rattle.link_laws.proofs.Adds as adds
use Rattle.link_laws.proofs.Adds.{Adds, nothing, both, fit, given, sure, one, insn, branch, jump, place, placed_last}
use Rattle.link_laws.proofs.Parts.{Good, Next, ran, name_good, number_good, operand_good}

-- ---- the words of instructions

arithmetic_one : (z : BinOp) (a b c : ℕ) → length (encoded (operators.arithmetic z a b c)) ≡ 1
arithmetic_one op.Or a b c = refl
arithmetic_one op.And a b c = refl
arithmetic_one op.Lt a b c = refl
arithmetic_one op.Gt a b c = refl
arithmetic_one op.Le a b c = refl
arithmetic_one op.Ge a b c = refl
arithmetic_one op.Ne a b c = refl
arithmetic_one op.Eq a b c = refl
arithmetic_one op.Concat a b c = refl
arithmetic_one op.Add a b c = refl
arithmetic_one op.Sub a b c = refl
arithmetic_one op.Mul a b c = refl
arithmetic_one op.Div a b c = refl
arithmetic_one op.Idiv a b c = refl
arithmetic_one op.Mod a b c = refl
arithmetic_one op.Pow a b c = refl

constant_one : (z : BinOp) (a b c : ℕ) → length (encoded (operators.arithmetic_constant z a b c)) ≡ 1
constant_one op.Or a b c = refl
constant_one op.And a b c = refl
constant_one op.Lt a b c = refl
constant_one op.Gt a b c = refl
constant_one op.Le a b c = refl
constant_one op.Ge a b c = refl
constant_one op.Ne a b c = refl
constant_one op.Eq a b c = refl
constant_one op.Concat a b c = refl
constant_one op.Add a b c = refl
constant_one op.Sub a b c = refl
constant_one op.Mul a b c = refl
constant_one op.Div a b c = refl
constant_one op.Idiv a b c = refl
constant_one op.Mod a b c = refl
constant_one op.Pow a b c = refl

from_one : (z : BinOp) (a b c : ℕ) → length (encoded (operators.from_constant z a b c)) ≡ 1
from_one op.Or a b c = refl
from_one op.And a b c = refl
from_one op.Lt a b c = refl
from_one op.Gt a b c = refl
from_one op.Le a b c = refl
from_one op.Ge a b c = refl
from_one op.Ne a b c = refl
from_one op.Eq a b c = refl
from_one op.Concat a b c = refl
from_one op.Add a b c = refl
from_one op.Sub a b c = refl
from_one op.Mul a b c = refl
from_one op.Div a b c = refl
from_one op.Idiv a b c = refl
from_one op.Mod a b c = refl
from_one op.Pow a b c = refl

unary_one : (z : UnOp) (a b : ℕ) → length (encoded (operators.unary_insn z a b)) ≡ 1
unary_one unary.Not a b = refl
unary_one unary.Len a b = refl
unary_one unary.Minus a b = refl

-- a jump of two words at most
abbrev IsTest : Insn → Type 0
IsTest x = IsTrue (is_jump x) × (length (encoded x) ≤ 2)

is_equality : (so : Bool) (a b : ℕ) → IsTest (operators.equality so a b)
is_equality true a b = (refl, omega arith)
is_equality false a b = (refl, omega arith)

is_less : (so : Bool) (a b : ℕ) → IsTest (operators.less so a b)
is_less true a b = (refl, omega arith)
is_less false a b = (refl, omega arith)

is_at_most : (so : Bool) (a b : ℕ) → IsTest (operators.at_most so a b)
is_at_most true a b = (refl, omega arith)
is_at_most false a b = (refl, omega arith)

is_test : (z : BinOp) (so : Bool) (a b : ℕ) → IsTest (operators.comparison z so a b)
is_test op.Eq so a b = is_equality so a b
is_test op.Ne so a b = is_equality (not so) a b
is_test op.Lt so a b = is_less so a b
is_test op.Gt so a b = is_less so b a
is_test op.Le so a b = is_at_most so a b
is_test op.Ge so a b = is_at_most so b a
is_test op.Or so a b = (refl, omega arith)
is_test op.And so a b = (refl, omega arith)
is_test op.Concat so a b = (refl, omega arith)
is_test op.Add so a b = (refl, omega arith)
is_test op.Sub so a b = (refl, omega arith)
is_test op.Mul so a b = (refl, omega arith)
is_test op.Div so a b = (refl, omega arith)
is_test op.Idiv so a b = (refl, omega arith)
is_test op.Mod so a b = (refl, omega arith)
is_test op.Pow so a b = (refl, omega arith)

truth_one : (so : Bool) (value : ℕ) → length (encoded (operators.truth so value)) ≡ 1
truth_one true value = refl
truth_one false value = refl

truth_jumps : (so : Bool) (value : ℕ) → IsTrue (is_jump (operators.truth so value))
truth_jumps true value = refl
truth_jumps false value = refl

-- ---- kinds of expressions

pub jump_on_good : (F : ℕ → Bool) (c : ℕ → ℕ) (w : ℕ) (o : Option ℕ) (run : (to results : ℕ) → Step)
    → ((to : ℕ) (d : Emitter) → Adds F (Unit {0}) c w d (run to 2 d)) → (so : Bool) (to l : ℕ) (d : Emitter)
    → Adds F (IsTrue (F l)) c (w + 1) d (nodes.jump_on o run so to l d)
jump_on_good F c w o run h so to l d =
    fit (both (operand o) (jump F (IsTrue (F l)) (operators.truth so (nodes.operand_register o to d)) l (nodes.operand_code o (run to 2) d)
    (truth_one so _) (truth_jumps so _) (λ x. x))) (λ q. omega arith) (omega arith)
  where
    operand : (p : Option ℕ) → Adds F (IsTrue (F l)) c w d (nodes.operand_code p (run to 2) d)
    operand None = given (h to d) (λ x. tt)
    operand (Some k) = fit (nothing F (IsTrue (F l)) d) (λ q. omega arith) (omega arith)

pub single_good : (id m bulk w : ℕ) → id < m → w + 3 ≤ bulk → (run : ℕ → Step) → ((F : ℕ → Bool) (to : ℕ) (d : Emitter)
    → Adds F (Unit {0}) (zone id m) w d (run to d)) → Good id m bulk (nodes.single id run)
single_good id m bulk w lt room run h = record {
  order = lt;
  id = refl;
  words = w + 1;
  room = omega (arith, room);
  run = λ F to results d. fit (h F to d) (λ l. omega arith) (omega arith);
  jump = λ F. jump_on_good F (zone id m) w None (λ to results. run to) (h F);
}

pub decided_good : (id m bulk w : ℕ) → id < m → w + 2 ≤ bulk → (run : ℕ → Step) (go : (so : Bool) → (to label : ℕ) → Step)
    → ((F : ℕ → Bool) (to : ℕ) (d : Emitter) → Adds F (Unit {0}) (zone id m) w d (run to d))
    → ((F : ℕ → Bool) (so : Bool) (to l : ℕ) (d : Emitter) → Adds F (IsTrue (F l)) (zone id m) w d (go so to l d)) → Good id m bulk (nodes.decided id run go)
decided_good id m bulk w lt room run go h g = record {
  order = lt;
  id = refl;
  words = w;
  room = room;
  run = λ F to results d. h F to d;
  jump = g;
}

pub many_good : (id m bulk w : ℕ) → id < m → w + 3 ≤ bulk → (run : ℕ → ℕ → Step) → ((F : ℕ → Bool) (to results : ℕ) (d : Emitter)
    → Adds F (Unit {0}) (zone id m) w d (run to results d)) → Good id m bulk (nodes.many id run)
many_good id m bulk w lt room run h = record {
  order = lt;
  id = refl;
  words = w + 1;
  room = omega (arith, room);
  run = λ F to results d. fit (h F to results d) (λ l. omega arith) (omega arith);
  jump = λ F. jump_on_good F (zone id m) w None run (λ to d. h F to 2 d);
}

-- ---- two parts

pub pair_le : (n k m l : ℕ) → n < k → k < m → zone n k l + zone k m l ≤ span n m l
pair_le n k m l lt lt' =
    let a = zone_span n k l lt in
    let b = zone_span k m l lt' in
    let c = span_join n k m l (omega (arith, lt)) (omega (arith, lt')) in
    omega (arith, a, b, c)

-- ---- operators

module _ (F : ℕ → Bool) (N : Type 0) where
  pub operate_by_good : (o : Option ℤ) (z : BinOp) (to left : ℕ) (n m bulk : ℕ) (y : ExprCode) (g : Good n m bulk y) (at : ℕ) (d : Emitter)
      → Adds F N (zone n m) (g.words + 1) d (conditions.operate_by o z to left y at d)
  operate_by_good None z to left n m bulk y g at d =
      fit (both (operand_good F N n m bulk y g at d) (one F N _ (nodes.operand_run y at d) (arithmetic_one z _ _ _))) (λ l. omega arith) (omega arith)
  operate_by_good (Some x) z to left n m bulk y g at d =
      fit (both (adds.constant F N (constant.Num x) d) (one F N _ (puts.with_constant (constant.Num x) d) (constant_one z _ _ _))) (λ l. omega arith)
      (omega arith)

  pub operate_good : (z : BinOp) (to left : ℕ) (n m bulk : ℕ) (y : ExprCode) (g : Good n m bulk y) (at : ℕ) (d : Emitter)
      → Adds F N (zone n m) (g.words + 1) d (conditions.operate_run z to left y at d)
  operate_good z to left n m bulk y g at d = operate_by_good (conditions.near_right y d) z to left n m bulk y g at d

  module _ (n k m a b : ℕ) (x y : ExprCode) (gx : Good n k a x) (gy : Good k m b y) where
    pub arithmetic_by_good : (o : Option ℤ) (z : BinOp) (to : ℕ) (d : Emitter) → Adds F N (span n m) (gx.words + gy.words + 1) d
        (conditions.arithmetic_by o z x y to d)
    arithmetic_by_good None z to d =
        fit (both (operand_good F N n k a x gx to d) (operate_good z to (nodes.operand_at x to d) k m b y gy (to + 1) (nodes.operand_run x to d)))
        (λ l. pair_le n k m l gx.order gy.order) (omega arith)
    arithmetic_by_good (Some v) z to d =
        let kept = puts.with_constant (constant.Num v) d in
        fit (both (both (adds.constant F N (constant.Num v) d) (operand_good F N k m b y gy to kept))
        (one F N _ (nodes.operand_run y to kept) (from_one z _ _ _))) (λ l. let p = pair_le n k m l gx.order gy.order in omega (arith, p)) (omega arith)

    pub arithmetic_good : (z : BinOp) (to : ℕ) (d : Emitter) → Adds F N (span n m) (gx.words + gy.words + 1) d (conditions.arithmetic_run z x y to d)
    arithmetic_good z to d = arithmetic_by_good (conditions.left_number z x d) z to d

    pub compare_good : (z : BinOp) (so : Bool) (to l : ℕ) (d : Emitter) → (N → IsTrue (F l))
        → Adds F N (span n m) (gx.words + gy.words + 2) d (conditions.compare_jump z x y so to l d)
    compare_good z so to l d there =
        let first = nodes.operand_run x to d in
        let second = nodes.operand_run y (to + 1) first in
        let test = is_test z so (nodes.operand_at x to d) (nodes.operand_at y (to + 1) first) in
        fit (both (both (operand_good F N n k a x gx to d) (operand_good F N k m b y gy (to + 1) first))
        (branch F N (operators.comparison z so (nodes.operand_at x to d) (nodes.operand_at y (to + 1) first)) l second test.0 there))
        (λ q. let p = pair_le n k m q gx.order gy.order in omega (arith, p)) (let t = test.1 in omega (arith, t))

module _ (id k m a b bulk : ℕ) (x y : ExprCode) (gx : Good (id + 1) k a x) (gy : Good k m b y) (room : 6 + (a + b) ≤ bulk) (low : m ≤ 2 ^ 62) where
  order : id < m
  order = let p = gx.order in let q = gy.order in omega (arith, p, q)

  under : id < 2 ^ 62
  under = let p = order in omega (arith, p, low)

  sums : gx.words + gy.words + 4 ≤ a + b
  sums = let p = gx.room in let q = gy.room in omega (arith, p, q)

  pub comparison_good : (z : BinOp) → Good id m bulk (nodes.decided id (conditions.compare_run z x y id) (conditions.compare_jump z x y))
  comparison_good z = decided_good id m bulk (gx.words + gy.words + 4) order (let s = sums in omega (arith, s, room))
      (conditions.compare_run z x y id) (conditions.compare_jump z x y) run go
    where
      run : (F : ℕ → Bool) (to : ℕ) (d : Emitter) → Adds F (Unit {0}) (zone id m) (gx.words + gy.words + 4) d (conditions.compare_run z x y id to d)
      run F to d =
          let N = IsTrue (F (label id 0)) in
          let d1 = conditions.compare_jump z x y true to (label id 0) d in
          let d2 = puts.insn (i.LoadB to 0 1) d1 in
          let d3 = puts.place (label id 0) d2 in
          let p1 = compare_good F N (id + 1) k m a b x y gx gy z true to (label id 0) d (λ h. h) in
          let p2 = one F N (i.LoadB to 0 1) d1 refl in
          let p3 = place F N id 0 d2 under (omega arith) in
          let p4 = one F N (i.LoadB to 1 0) d3 refl in
          sure (fit (both (both (both p1 p2) p3) p4) (λ l. omega arith) (omega arith)) (λ u h. placed_last F (label id 0) d2 (p4.back h))

      go : (F : ℕ → Bool) (so : Bool) (to l : ℕ) (d : Emitter) → Adds F (IsTrue (F l)) (zone id m) (gx.words + gy.words + 4) d
          (conditions.compare_jump z x y so to l d)
      go F so to l d = fit (compare_good F (IsTrue (F l)) (id + 1) k m a b x y gx gy z so to l d (λ h. h)) (λ q. omega arith) (omega arith)

  pub arithmetic_is_good : (z : BinOp) → Good id m bulk (nodes.single id (conditions.arithmetic_run z x y))
  arithmetic_is_good z =
      single_good id m bulk (gx.words + gy.words + 1) order (let s = sums in omega (arith, s, room)) (conditions.arithmetic_run z x y)
      (λ F to d. fit (arithmetic_good F (Unit {0}) (id + 1) k m a b x y gx gy z to d) (λ l. omega arith) (omega arith))

  -- both parts with the first label of the node
  with_own : (l : ℕ) → zone (id + 1) k l + zone k m l + hits (id * 4 + 0) l ≤ zone id m l
  with_own l = let p = pair_le (id + 1) k m l gx.order gy.order in omega (arith, p)

  pub and_good : Good id m bulk (conditions.binary_code op.And x y id)
  and_good = decided_good id m bulk (gx.words + gy.words + 1) order (let s = sums in omega (arith, s, room)) (conditions.and_run x y id)
      (conditions.and_jump x y id) run go
    where
      run : (F : ℕ → Bool) (to : ℕ) (d : Emitter) → Adds F (Unit {0}) (zone id m) (gx.words + gy.words + 1) d (conditions.and_run x y id to d)
      run F to d =
          let N = IsTrue (F (label id 0)) in
          let d1 = x.run to 2 d in
          let d2 = puts.branch (i.JumpIfNot to (pos 0)) (label id 0) d1 in
          let d3 = y.run to 2 d2 in
          let p1 = ran F N (id + 1) k a x gx to 2 d in
          let p2 = jump F N (i.JumpIfNot to (pos 0)) (label id 0) d1 refl refl (λ h. h) in
          let p3 = ran F N k m b y gy to 2 d2 in
          let p4 = place F N id 0 d3 under (omega arith) in
          sure (fit (both (both (both p1 p2) p3) p4) (λ l. let p = with_own l in omega (arith, p)) (omega arith)) (λ u h. placed_last F (label id 0) d3 h)

      go : (F : ℕ → Bool) (so : Bool) (to l : ℕ) (d : Emitter) → Adds F (IsTrue (F l)) (zone id m) (gx.words + gy.words + 1) d
          (conditions.and_jump x y id so to l d)
      go F true to l d =
          let N = IsTrue (F l) × IsTrue (F (label id 0)) in
          let d1 = x.jump false to (label id 0) d in
          let d2 = y.jump true to l d1 in
          let p1 = given {M = N} (gx.jump F false to (label id 0) d) (λ h. h.1) in
          let p2 = given {M = N} (gy.jump F true to l d1) (λ h. h.0) in
          let p3 = place F N id 0 d2 under (omega arith) in
          sure (fit (both (both p1 p2) p3) (λ l. let p = with_own l in omega (arith, p)) (omega arith)) (λ u h. (u, placed_last F (label id 0) d2 h))
      go F false to l d =
          fit (both (gx.jump F false to l d) (gy.jump F false to l (x.jump false to l d))) (λ l. let p = with_own l in omega (arith, p)) (omega arith)

  pub or_good : Good id m bulk (conditions.binary_code op.Or x y id)
  or_good = decided_good id m bulk (gx.words + gy.words + 1) order (let s = sums in omega (arith, s, room)) (conditions.or_run x y id)
      (conditions.or_jump x y id) run go
    where
      run : (F : ℕ → Bool) (to : ℕ) (d : Emitter) → Adds F (Unit {0}) (zone id m) (gx.words + gy.words + 1) d (conditions.or_run x y id to d)
      run F to d =
          let N = IsTrue (F (label id 0)) in
          let d1 = x.run to 2 d in
          let d2 = puts.branch (i.JumpIf to (pos 0)) (label id 0) d1 in
          let d3 = y.run to 2 d2 in
          let p1 = ran F N (id + 1) k a x gx to 2 d in
          let p2 = jump F N (i.JumpIf to (pos 0)) (label id 0) d1 refl refl (λ h. h) in
          let p3 = ran F N k m b y gy to 2 d2 in
          let p4 = place F N id 0 d3 under (omega arith) in
          sure (fit (both (both (both p1 p2) p3) p4) (λ l. let p = with_own l in omega (arith, p)) (omega arith)) (λ u h. placed_last F (label id 0) d3 h)

      go : (F : ℕ → Bool) (so : Bool) (to l : ℕ) (d : Emitter) → Adds F (IsTrue (F l)) (zone id m) (gx.words + gy.words + 1) d
          (conditions.or_jump x y id so to l d)
      go F false to l d =
          let N = IsTrue (F l) × IsTrue (F (label id 0)) in
          let d1 = x.jump true to (label id 0) d in
          let d2 = y.jump false to l d1 in
          let p1 = given {M = N} (gx.jump F true to (label id 0) d) (λ h. h.1) in
          let p2 = given {M = N} (gy.jump F false to l d1) (λ h. h.0) in
          let p3 = place F N id 0 d2 under (omega arith) in
          sure (fit (both (both p1 p2) p3) (λ l. let p = with_own l in omega (arith, p)) (omega arith)) (λ u h. (u, placed_last F (label id 0) d2 h))
      go F true to l d =
          fit (both (gx.jump F true to l d) (gy.jump F true to l (x.jump true to l d))) (λ l. let p = with_own l in omega (arith, p)) (omega arith)

  pub binary_good : (z : BinOp) → Good id m bulk (conditions.binary_code z x y id)
  binary_good op.And = and_good
  binary_good op.Or = or_good
  binary_good op.Lt = comparison_good op.Lt
  binary_good op.Gt = comparison_good op.Gt
  binary_good op.Le = comparison_good op.Le
  binary_good op.Ge = comparison_good op.Ge
  binary_good op.Ne = comparison_good op.Ne
  binary_good op.Eq = comparison_good op.Eq
  binary_good op.Concat = arithmetic_is_good op.Concat
  binary_good op.Add = arithmetic_is_good op.Add
  binary_good op.Sub = arithmetic_is_good op.Sub
  binary_good op.Mul = arithmetic_is_good op.Mul
  binary_good op.Div = arithmetic_is_good op.Div
  binary_good op.Idiv = arithmetic_is_good op.Idiv
  binary_good op.Mod = arithmetic_is_good op.Mod
  binary_good op.Pow = arithmetic_is_good op.Pow

-- ---- one part

-- the nodes of a part of the node
inner_le : (id m l : ℕ) → id + 1 < m → zone (id + 1) m l ≤ zone id m l
inner_le id m l lt = let a = zone_span (id + 1) m l lt in omega (arith, a)

module _ (id m a bulk : ℕ) (x : ExprCode) (gx : Good (id + 1) m a x) (room : 6 + a ≤ bulk) where
  before : id < m
  before = let p = gx.order in omega (arith, p)

  run_unary : (z : UnOp) (F : ℕ → Bool) (to : ℕ) (d : Emitter) → Adds F (Unit {0}) (zone id m) (gx.words + 1) d (conditions.unary_run z x to d)
  run_unary z F to d =
      fit (both (operand_good F (Unit {0}) (id + 1) m a x gx to d) (one F (Unit {0}) _ (nodes.operand_run x to d) (unary_one z _ _)))
      (λ l. let p = inner_le id m l gx.order in omega (arith, p)) (omega arith)

  pub unary_good : (z : UnOp) → Good id m bulk (conditions.unary_code z x id)
  unary_good unary.Not =
      decided_good id m bulk (gx.words + 1) before (let p = gx.room in omega (arith, p, room)) (conditions.unary_run unary.Not x)
      (λ so. x.jump (not so)) (run_unary unary.Not)
      (λ F so to l d. fit (gx.jump F (not so) to l d) (λ q. inner_le id m q gx.order) (omega arith))
  unary_good unary.Len = single_good id m bulk (gx.words + 1) before (let p = gx.room in omega (arith, p, room)) (conditions.unary_run unary.Len x)
      (run_unary unary.Len)
  unary_good unary.Minus = single_good id m bulk (gx.words + 1) before (let p = gx.room in omega (arith, p, room))
      (conditions.unary_run unary.Minus x) (run_unary unary.Minus)

  pub paren_good : Good id m bulk (code.paren x id)
  paren_good = record {
    order = before;
    id = refl;
    words = gx.words;
    room = let p = gx.room in omega (arith, p, room);
    run = λ F to results d. fit (gx.run F to 2 d) (λ l. inner_le id m l gx.order) (omega arith);
    jump = λ F so to l d. fit (gx.jump F so to l d) (λ q. inner_le id m q gx.order) (omega arith);
  }

pub named_good : (b : Bindings) (x : Bound) (name : StrId) (id m bulk : ℕ) → id < m → 6 ≤ bulk → Good id m bulk (code.named b x name id)
named_good b x name id m bulk lt room = record {
  order = lt;
  id = refl;
  words = 3;
  room = omega (arith, room);
  run = λ F to results d. fit (name_good F (Unit {0}) b x name to d) (λ l. omega arith) (omega arith);
  jump = λ F so to l d.
      fit (jump_on_good F (zone id m) 2 (names.own_of b x) (λ to results. names.name_run b x name to)
      (λ at e. fit (name_good F (Unit {0}) b x name at e) (λ q. omega arith) (omega arith)) so to l d) (λ q. omega arith) (omega arith);
}

pub number_is_good : (v : ℤ) (id m : ℕ) → id < m → Good id m 6 (code.number_code v id)
number_is_good v id m lt = record {
  order = lt;
  id = refl;
  words = 2;
  room = omega arith;
  run = λ F to results d. fit (number_good F (Unit {0}) v to d) (λ l. omega arith) (omega arith);
  jump = λ F so to l d.
      fit (jump_on_good F (zone id m) 1 None (λ to results. operators.number_run v to) (λ at e. fit (number_good F (Unit {0}) v at e)
      (λ q. omega arith) (omega arith)) so to l d) (λ q. omega arith) (omega arith);
}

-- ---- `if` expressions

pub record GoodChoice (n m bulk : ℕ) (a : ChoiceCode) : Type 0 where
  pub k : ℕ
  pub tested : ℕ
  pub chosen : ℕ
  pub cond : Good n k tested a.cond
  pub value : Good k m chosen a.value
  pub total : tested + chosen ≤ bulk

abbrev pub GoodChoices : (n : ℕ) → List ChoiceCode → (all m : ℕ) → Type 0
GoodChoices n [] all m = n ≤ m
GoodChoices n (a ∷ l) all m = Next (λ k bulk. GoodChoice n k bulk a) (λ k bulk. GoodChoices k l bulk m) all

pub choices_le : (n : ℕ) (l : List ChoiceCode) (all m : ℕ) → GoodChoices n l all m → n ≤ m
choices_le n [] all m h = h
choices_le n (a ∷ l) all m h =
    let p = h.first.cond.order in
    let q = h.first.value.order in
    let r = choices_le h.k l h.behind m h.rest in
    omega (arith, p, q, r)

module _ (F : ℕ → Bool) (id : ℕ) where
  pub choice_good : (n m bulk : ℕ) (a : ChoiceCode) → GoodChoice n m bulk a → m ≤ 2 ^ 62 → (to : ℕ) (d : Emitter)
      → Adds F (IsTrue (F (label id 0))) (span n m) bulk d (conditions.choice_run a id to d)
  choice_good n m bulk a g low to d =
      let N = IsTrue (F (label id 0)) × IsTrue (F (label a.cond.id 1)) in
      let d1 = a.cond.jump false to (label a.cond.id 1) d in
      let d2 = a.value.run to 2 d1 in
      let d3 = puts.branch (i.Jump (pos 0)) (label id 0) d2 in
      let p1 = given {M = N} (g.cond.jump F false to (label a.cond.id 1) d) (λ h. h.1) in
      let p2 = ran F N g.k m g.chosen a.value g.value to 2 d1 in
      let p3 = jump F N (i.Jump (pos 0)) (label id 0) d2 refl refl (λ h. h.0) in
      let first = g.cond.order in
      let second = g.value.order in
      let is = g.cond.id in
      let p4 = place F N a.cond.id 1 d3 (omega (arith, first, second, is, low)) (omega arith) in
      let r = g.cond.room in
      let s = g.value.room in
      let t = g.total in
      sure (fit (both (both (both p1 p2) p3) p4) (λ l.
      let e : hits (a.cond.id * 4 + 1) l ≡ hits (n * 4 + 1) l = ap (λ x. hits (x * 4 + 1) l) is in
      let x = zone_next n g.k l first in
      let y = zone_span g.k m l second in
      let z = span_join n g.k m l (omega (arith, first)) (omega (arith, second)) in
      omega (arith, e, x, y, z)) (omega (arith, r, s, t))) (λ u h. (u, placed_last F (label a.cond.id 1) d3 h))

  pub choices_good : (n : ℕ) (l : List ChoiceCode) (all m : ℕ) → GoodChoices n l all m → m ≤ 2 ^ 62 → (to : ℕ) (d : Emitter)
      → Adds F (IsTrue (F (label id 0))) (span n m) all d (conditions.choices_run l id to d)
  choices_good n [] all m h low to d = fit (nothing F _ d) (λ l. omega arith) (omega arith)
  choices_good n (a ∷ l) all m h low to d =
      let rest = choices_le h.k l h.behind m h.rest in
      let p = h.first.cond.order in
      let q = h.first.value.order in
      let t = h.total in
      fit (both (choice_good n h.k h.here a h.first (omega (arith, rest, low)) to d) (choices_good h.k l h.behind m h.rest low to _))
      (λ x. let z = span_join n h.k m x (omega (arith, p, q)) rest in omega (arith, z)) (omega (arith, t))

pub if_good : (id k m all a bulk : ℕ) (l : List ChoiceCode) → GoodChoices (id + 1) l all k → (e : ExprCode) → Good k m a e → 6 + (all + a) ≤ bulk
    → m ≤ 2 ^ 62 → Good id m bulk (nodes.single id (conditions.if_run l e id))
if_good id k m all a bulk l h e g room low =
    let ge = g.order in
    let le = choices_le (id + 1) l all k h in
    let r = g.room in
    single_good id m bulk (all + g.words) (omega (arith, ge, le)) (omega (arith, r, room)) (conditions.if_run l e id)
    (λ F to d.
    let N = IsTrue (F (label id 0)) in
    let d1 = conditions.choices_run l id to d in
    let d2 = e.run to 2 d1 in
    let p1 = choices_good F id (id + 1) l all k h (omega (arith, ge, low)) to d in
    let p2 = ran F N k m a e g to 2 d1 in
    let p3 = place F N id 0 d2 (omega (arith, ge, le, low)) (omega arith) in
    sure (fit (both (both p1 p2) p3) (λ q.
    let x = span_join (id + 1) k m q le (omega (arith, ge)) in
    let y = zone_span k m q ge in
    omega (arith, x, y)) (omega arith)) (λ u h. placed_last F (label id 0) d2 h))
