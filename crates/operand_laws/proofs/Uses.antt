-- The code of expressions fits where there are registers for what they need.
use Rattle.std.proofs.Common.{◌≡◌, ℕ, ℤ, zero, suc, ◌+◌, ◌-◌, ◌≤◌, max, Bool, true, false, not, List, [], ◌∷◌, length, Option, Some, None, refl, subst, arith, rules, nat_eq, if◌then◌else◌}
use Rattle.std.specs.Prelude.{pos, FitsSigned}
use Rattle.std.specs.Int.{w16}
use Rattle.std.proofs.lemmas.Int.{ints}
use Rattle.std.proofs.lemmas.Bool.Decides.{nat_tests}
use Rattle.byte_text.specs.declared.fixed.StrId.{StrId}
use Rattle.op_words.specs.declared.chunk.Const.TheVariants as constant
use Rattle.op_words.specs.declared.insn.Insn.TheVariants as i
use Rattle.syntax_tree.specs.declared.bindings.Bindings.{Bindings}
use Rattle.syntax_tree.specs.declared.bindings.Bound.{Bound}
use Rattle.syntax_tree.specs.declared.tree.BinOp.{BinOp}
use Rattle.syntax_tree.specs.declared.tree.BinOp.TheVariants as op
use Rattle.syntax_tree.specs.declared.tree.UnOp.{UnOp}
use Rattle.syntax_tree.specs.declared.tree.UnOp.TheVariants as unary
use Rattle.syntax_tree.specs.Need.{ExprNeed, list_from}
use Rattle.syntax_tree.specs.Lists.{greatest}
use Rattle.emit_expr.specs.declared.draft.Emitter.{Emitter}
use Rattle.emit_expr.specs.Puts as puts
use Rattle.emit_expr.specs.Puts.{Step, label}
use Rattle.emit_expr.specs.Names as names
use Rattle.emit_expr.specs.Operators as operators
use Rattle.node_code.specs.Nodes as nodes
use Rattle.node_code.specs.Nodes.{ExprCode, ChoiceCode, Target, NoTarget, Named}
use Rattle.node_code.specs.Lists as lists
use Rattle.node_code.specs.Conditions as conditions
use Rattle.node_code.specs.Code as code
use Rattle.operand_laws.proofs.Instructions as insns
use Rattle.operand_laws.proofs.States as states
use Rattle.operand_laws.proofs.States.{Fine, insn, branch, place, name_fine, assign_fine, register_fits}

-- the code of an expression that needs so many registers: its value, and a jump on it
pub record Good (n : ℕ) (e : ExprCode) : Type 0 where
  pub some : 1 ≤ n
  pub run : (count func to results : ℕ) (d : Emitter) → count ≤ 250 → to + n ≤ count → to + (results - 1) ≤ count → Fine count func d → Fine count func (e.run to results d)
  pub jump : (count func : ℕ) (so : Bool) (to l : ℕ) (d : Emitter) → count ≤ 250 → to + n ≤ count → Fine count func d → Fine count func (e.jump so to l d)

abbrev pub Goods : List ExprCode → List ExprNeed → Type 0
Goods [] [] = Unit {0}
Goods (e ∷ es) (n ∷ ns) = Good n.need e × Goods es ns
Goods [] (n ∷ ns) = ⊥
Goods (e ∷ es) [] = ⊥

results_small : (k : ℕ) → lists.results_for k - 1 ≤ 1
results_small k = which (nat_eq k 0)
  where
    which : (z : Bool) → (if z then 0 else 2) - 1 ≤ 1
    which true = omega arith
    which false = omega arith

-- a list needs a register for each of its values
pub list_room : (es : List ExprCode) (ns : List ExprNeed) → Goods es ns → (held : ℕ) → (1 ≤ length es → held + length es ≤ list_from held ns)
list_room [] [] g held some = absurd (omega (arith, some))
list_room (e ∷ []) (n ∷ []) g held some = let a = g.0.some in omega (arith, a)
list_room (e ∷ (e' ∷ es)) (n ∷ (n' ∷ ns)) g held some =
    let rest = list_room (e' ∷ es) (n' ∷ ns) g.1 (held + 1) (omega arith) in
    omega (arith, rest)
list_room (e ∷ []) (n ∷ (n' ∷ ns)) g held some = absurd g.1
list_room (e ∷ (e' ∷ es)) (n ∷ []) g held some = absurd g.1
list_room [] (n ∷ ns) g held some = absurd g
list_room (e ∷ es) [] g held some = absurd g

module _ (count func : ℕ) (most : count ≤ 250) where
  pub list_fine : (es : List ExprCode) (ns : List ExprNeed) → Goods es ns → (to held at : ℕ) → at ≡ to + held → to + list_from held ns ≤ count → (d : Emitter) → Fine count func d → Fine count func (lists.list_run es at d)
  list_fine [] [] g to held at e le d f = f
  list_fine (c ∷ es) (n ∷ ns) g to held at e le d f =
      let a = g.0.some in
      let r = results_small (length es) in
      list_fine es ns g.1 to (held + 1) (at + 1) (omega (arith, e)) (omega (arith, le)) _
      (g.0.run count func at (lists.results_for (length es)) d most (omega (arith, e, le)) (omega (arith, e, le, a, r)) f)
  list_fine [] (n ∷ ns) g to held at e le d f = absurd g
  list_fine (c ∷ es) [] g to held at e le d f = absurd g

  pub each_fine : (es : List ExprCode) (ns : List ExprNeed) → Goods es ns → (to held at : ℕ) → at ≡ to + held → to + list_from held ns ≤ count → (d : Emitter) → Fine count func d → Fine count func (lists.each_run es at d)
  each_fine [] [] g to held at e le d f = f
  each_fine (c ∷ es) (n ∷ ns) g to held at e le d f =
      let a = g.0.some in
      each_fine es ns g.1 to (held + 1) (at + 1) (omega (arith, e)) (omega (arith, le)) _
      (g.0.run count func at 2 d most (omega (arith, e, le)) (omega (arith, e, le, a)) f)
  each_fine [] (n ∷ ns) g to held at e le d f = absurd g
  each_fine (c ∷ es) [] g to held at e le d f = absurd g

  pub nils_fine : (at n : ℕ) (d : Emitter) → at + n ≤ count → Fine count func d → Fine count func (lists.nils at n d)
  nils_fine at zero d le f = f
  nils_fine at (suc n) d le f =
      nils_fine (at + 1) n _ (omega (arith, le)) (insn count func (i.LoadNil at) d (insns.load_nil count most at (omega (arith, le))) f)

  last_fine : (n : ℕ) (e : ExprCode) → Good n e → (at wanted : ℕ) (d : Emitter) → at + n ≤ count → at + wanted ≤ count → Fine count func d → Fine count func (lists.last_run e at wanted d)
  last_fine n e g at wanted d le le' f = which e.many
    where
      which : (z : Bool) → Fine count func (if z then e.run at (wanted + 1) d else lists.nils (at + 1) (wanted - 1) (e.run at 2 d))
      which true = g.run count func at (wanted + 1) d most le (omega (arith, le')) f
      which false =
          let a = g.some in
          nils_fine (at + 1) (wanted - 1) _ (omega (arith, a, le, le')) (g.run count func at 2 d most le (omega (arith, a, le)) f)

  behind_le : (at n to held : ℕ) → at ≤ to + held → at + n ≤ count → (lists.behind at n ≤ to + (held + 1)) × (lists.behind at n + (n - 1) ≤ count)
  behind_le at n to held le le' = which (nat_eq n 0) refl
    where
      which : (z : Bool) → nat_eq n 0 ≡ z → ((if z then at else at + 1) ≤ to + (held + 1)) × ((if z then at else at + 1) + (n - 1) ≤ count)
      which true e = (omega (arith, le), omega (arith, le'))
      which false e =
          let s : 1 ≤ n = grind (arith, nat_tests, e) in
          (omega (arith, le), omega (arith, le', s))

  pub exact_fine : (es : List ExprCode) (ns : List ExprNeed) → Goods es ns → (to held at wanted : ℕ) → at ≤ to + held → to + list_from held ns ≤ count → at + wanted ≤ count → (d : Emitter) → Fine count func d → Fine count func (lists.exact_run es at wanted d)
  exact_fine [] [] g to held at wanted le room le' d f = nils_fine at wanted d le' f
  exact_fine (e ∷ []) (n ∷ []) g to held at wanted le room le' d f = last_fine n.need e g.0 at wanted d (omega (arith, le, room)) le' f
  exact_fine (e ∷ (e' ∷ es)) (n ∷ (n' ∷ ns)) g to held at wanted le room le' d f =
      let a = g.0.some in
      let b = behind_le at wanted to held le le' in
      exact_fine (e' ∷ es) (n' ∷ ns) g.1 to (held + 1) (lists.behind at wanted) (wanted - 1) b.0 (omega (arith, room)) b.1 _
      (g.0.run count func at 2 d most (omega (arith, le, room)) (omega (arith, le, room, a)) f)
  exact_fine (e ∷ []) (n ∷ (n' ∷ ns)) g to held at wanted le room le' d f = absurd g.1
  exact_fine (e ∷ (e' ∷ es)) (n ∷ []) g to held at wanted le room le' d f = absurd g.1
  exact_fine [] (n ∷ ns) g to held at wanted le room le' d f = absurd g
  exact_fine (e ∷ es) [] g to held at wanted le room le' d f = absurd g

  pub assign_to_fine : (b : Bindings) (t : Target) (from : ℕ) (d : Emitter) → from + 1 ≤ count → Fine count func d → Fine count func (lists.assign_to b t from d)
  assign_to_fine b NoTarget from d le f = f
  assign_to_fine b (Named x name) from d le f = assign_fine count func most b x name from d le f

  pub assigns_fine : (b : Bindings) (ts : List ExprCode) (from : ℕ) (d : Emitter) → from + length ts ≤ count → Fine count func d → Fine count func (lists.assign_all b ts from d)
  assigns_fine b [] from d le f = f
  assigns_fine b (t ∷ ts) from d le f =
      assigns_fine b ts (from + 1) _ (omega (arith, le)) (assign_to_fine b t.target from d (omega (arith, le)) f)

  -- ---- how many values a list has

  last_some : (many : Bool) (es : List ExprCode) → lists.last_from many es ≡ true → many ≡ false → 1 ≤ length es
  last_some many [] e single = cc
  last_some many (x ∷ es) e single = omega arith

  pub count_fits : (es : List ExprCode) (from : ℕ) → from ≤ count → (1 ≤ length es → from + length es ≤ count) → (lists.count_of es ≡ 0 → from + 1 ≤ count) × (from + (lists.count_of es - 1) ≤ count)
  count_fits es from le room = which (lists.last_from false es) refl
    where
      length_fits : from + length es ≤ count
      length_fits = by_length es room
        where
          by_length : (l : List ExprCode) → (1 ≤ length l → from + length l ≤ count) → from + length l ≤ count
          by_length [] h = omega (arith, le)
          by_length (x ∷ l) h = h (omega arith)

      which : (z : Bool) → lists.last_from false es ≡ z → ((if z then 0 else length es + 1) ≡ 0 → from + 1 ≤ count) × (from + ((if z then 0 else length es + 1) - 1) ≤ count)
      which true e =
          let s = last_some false es e refl in
          let r = room s in
          ((λ z. omega (arith, s, r)), omega (arith, le))
      which false e = ((λ z. absurd (omega (arith, z))), let r = length_fits in omega (arith, r))

  -- ---- operands

  pub operand_fine : (n : ℕ) (e : ExprCode) → Good n e → (to : ℕ) (d : Emitter) → to + n ≤ count → Fine count func d → Fine count func (nodes.operand_run e to d)
  operand_fine n e g to d le f = which e.own
    where
      which : (o : Option ℕ) → Fine count func (nodes.operand_code o (e.run to 2) d)
      which None = let a = g.some in g.run count func to 2 d most le (omega (arith, a, le)) f
      which (Some k) = f

  pub operand_below : (n : ℕ) (e : ExprCode) → Good n e → (to : ℕ) (d : Emitter) → to + n ≤ count → Fine count func d → nodes.operand_at e to d + 1 ≤ count
  operand_below n e g to d le f = which e.own
    where
      which : (o : Option ℕ) → nodes.operand_register o to d + 1 ≤ count
      which None = let a = g.some in omega (arith, a, le)
      which (Some k) = let a = g.some in register_fits count func k d (omega (arith, a, le)) f

  -- ---- constants

  small_fits : (n : ℤ) → operators.is_small n ≡ true → FitsSigned w16 n
  small_fits n e = search (rules, arith, ints, e)

  pub number_fine : (n : ℤ) (to : ℕ) (d : Emitter) → to + 1 ≤ count → Fine count func d → Fine count func (operators.number_run n to d)
  number_fine n to d le f = which (operators.is_small n) refl
    where
      which : (z : Bool) → operators.is_small n ≡ z → Fine count func (if z then puts.insn (i.LoadN to n) d else puts.insn (i.LoadK to (puts.short (puts.constant_place (constant.Num n) d))) (puts.with_constant (constant.Num n) d))
      which true e = insn count func (i.LoadN to n) d (insns.load_number count most to n le (small_fits n e)) f
      which false e =
          insn count func _ (puts.with_constant (constant.Num n) d) (insns.load_constant count most to _ le) (states.constant count func (constant.Num n) d f)

  pub text_fine : (t : StrId) (to : ℕ) (d : Emitter) → to + 1 ≤ count → Fine count func d → Fine count func (operators.text_run t to d)
  text_fine t to d le f = insn count func _ (puts.with_text t d) (insns.load_constant count most to _ le) (states.text count func t d f)

  -- ---- operators

  near_is : (o : Option ℤ) (d : Emitter) (v : ℤ) → operators.near_number o d ≡ Some v → puts.constant_place (constant.Num v) d ≤ 255
  near_is None d v e = cc
  near_is (Some n) d v e = which (operators.is_near n d) refl e
    where
      which : (z : Bool) → operators.is_near n d ≡ z → (if z then Some n else None) ≡ Some v → puts.constant_place (constant.Num v) d ≤ 255
      which true t p =
          let same : n ≡ v = cc in
          let le : puts.constant_place (constant.Num n) d ≤ 255 = grind (arith, nat_tests, t) in
          subst (λ x. puts.constant_place (constant.Num x) d ≤ 255) same le
      which false t p = cc

  operate_by_fine : (o : Option ℤ) (z : BinOp) (to left n : ℕ) (y : ExprCode) → Good n y → (at : ℕ) (d : Emitter) → ((v : ℤ) → o ≡ Some v → puts.constant_place (constant.Num v) d ≤ 255) → to + 1 ≤ count → left + 1 ≤ count → at + n ≤ count → Fine count func d → Fine count func (conditions.operate_by o z to left y at d)
  operate_by_fine None z to left n y g at d near p q le f =
      insn count func _ (nodes.operand_run y at d) (insns.arithmetic count most to left (nodes.operand_at y at d) p q (operand_below n y g at d le f) z) (operand_fine n y g at d le f)
  operate_by_fine (Some v) z to left n y g at d near p q le f =
      insn count func _ (puts.with_constant (constant.Num v) d) (insns.arithmetic_constant count most to left (puts.constant_place (constant.Num v) d) p q (near v refl) z) (states.constant count func (constant.Num v) d f)

  pub operate_fine : (z : BinOp) (to left n : ℕ) (y : ExprCode) → Good n y → (at : ℕ) (d : Emitter) → to + 1 ≤ count → left + 1 ≤ count → at + n ≤ count → Fine count func d → Fine count func (conditions.operate_run z to left y at d)
  operate_fine z to left n y g at d p q le f = operate_by_fine (conditions.near_right y d) z to left n y g at d (near_is y.number d) p q le f

  left_near : (z : BinOp) (x : ExprCode) (d : Emitter) (v : ℤ) → conditions.left_number z x d ≡ Some v → puts.constant_place (constant.Num v) d ≤ 255
  left_near z x d v e = which (operators.takes_left z) e
    where
      which : (t : Bool) → (if t then operators.near_number x.number d else None) ≡ Some v → puts.constant_place (constant.Num v) d ≤ 255
      which true p = near_is x.number d v p
      which false p = cc

  module _ (n m : ℕ) (x y : ExprCode) (gx : Good n x) (gy : Good m y) (to : ℕ) (d : Emitter) (lx : to + n ≤ count) (ly : to + 1 + m ≤ count) (f : Fine count func d) where
    own : to + 1 ≤ count
    own = let a = gx.some in omega (arith, a, lx)

    arithmetic_by_fine : (o : Option ℤ) (z : BinOp) → ((v : ℤ) → o ≡ Some v → puts.constant_place (constant.Num v) d ≤ 255) → Fine count func (conditions.arithmetic_by o z x y to d)
    arithmetic_by_fine None z near =
        operate_fine z to (nodes.operand_at x to d) m y gy (to + 1) (nodes.operand_run x to d) own (operand_below n x gx to d lx f) ly (operand_fine n x gx to d lx f)
    arithmetic_by_fine (Some v) z near =
        let kept = puts.with_constant (constant.Num v) d in
        let g = states.constant count func (constant.Num v) d f in
        let lr : to + m ≤ count = omega (arith, ly) in
        insn count func _ (nodes.operand_run y to kept) (insns.from_constant count most to (puts.constant_place (constant.Num v) d) (nodes.operand_at y to kept) own (near v refl) (operand_below m y gy to kept lr g) z) (operand_fine m y gy to kept lr g)

    pub arithmetic_fine : (z : BinOp) → Fine count func (conditions.arithmetic_run z x y to d)
    arithmetic_fine z = arithmetic_by_fine (conditions.left_number z x d) z (left_near z x d)

    pub compare_fine : (z : BinOp) (so : Bool) (l : ℕ) → Fine count func (conditions.compare_jump z x y so to l d)
    compare_fine z so l =
        let first = nodes.operand_run x to d in
        let g = operand_fine n x gx to d lx f in
        branch count func _ l (nodes.operand_run y (to + 1) first) (insns.comparison count most z so (nodes.operand_at x to d) (nodes.operand_at y (to + 1) first) (operand_below n x gx to d lx f) (operand_below m y gy (to + 1) first ly g)) (operand_fine m y gy (to + 1) first ly g)

-- ---- kinds of expressions

jump_on_fine : (n : ℕ) (o : Option ℕ) (run : (to results : ℕ) → Step) → 1 ≤ n → ((count func to : ℕ) (d : Emitter) → count ≤ 250 → to + n ≤ count → Fine count func d → Fine count func (run to 2 d)) → (count func : ℕ) (so : Bool) (to l : ℕ) (d : Emitter) → count ≤ 250 → to + n ≤ count → Fine count func d → Fine count func (nodes.jump_on o run so to l d)
jump_on_fine n None run some h count func so to l d most le f =
    branch count func _ l (run to 2 d) (insns.truth count most so to (omega (arith, some, le))) (h count func to d most le f)
jump_on_fine n (Some k) run some h count func so to l d most le f =
    branch count func _ l d (insns.truth count most so (names.register_of k d) (register_fits count func k d (omega (arith, some, le)) f)) f

pub single_good : (n id : ℕ) (run : ℕ → Step) → 1 ≤ n → ((count func to : ℕ) (d : Emitter) → count ≤ 250 → to + n ≤ count → Fine count func d → Fine count func (run to d)) → Good n (nodes.single id run)
single_good n id run some h = record {
  some = some;
  run = λ count func to results d most le le' f. h count func to d most le f;
  jump = jump_on_fine n None (λ to results. run to) some h;
}

pub decided_good : (n id : ℕ) (run : ℕ → Step) (go : (so : Bool) → (to label : ℕ) → Step) → 1 ≤ n → ((count func to : ℕ) (d : Emitter) → count ≤ 250 → to + n ≤ count → Fine count func d → Fine count func (run to d)) → ((count func : ℕ) (so : Bool) (to l : ℕ) (d : Emitter) → count ≤ 250 → to + n ≤ count → Fine count func d → Fine count func (go so to l d)) → Good n (nodes.decided id run go)
decided_good n id run go some h g = record {
  some = some;
  run = λ count func to results d most le le' f. h count func to d most le f;
  jump = g;
}

pub many_good : (n id : ℕ) (run : ℕ → ℕ → Step) → 1 ≤ n → ((count func to results : ℕ) (d : Emitter) → count ≤ 250 → to + n ≤ count → to + (results - 1) ≤ count → Fine count func d → Fine count func (run to results d)) → Good n (nodes.many id run)
many_good n id run some h = record {
  some = some;
  run = h;
  jump = jump_on_fine n None run some (λ count func to d most le f. h count func to 2 d most le (omega (arith, some, le)) f);
}

pub named_good : (b : Bindings) (x : Bound) (name : StrId) (id : ℕ) → Good 1 (code.named b x name id)
named_good b x name id = record {
  some = omega arith;
  run = λ count func to results d most le le' f. name_fine count func most b x name to d le f;
  jump = jump_on_fine 1 (names.own_of b x) (λ to results. names.name_run b x name to) (omega arith) (λ count func to d most le f. name_fine count func most b x name to d le f);
}

pub number_good : (v : ℤ) (id : ℕ) → Good 1 (code.number_code v id)
number_good v id = record {
  some = omega arith;
  run = λ count func to results d most le le' f. number_fine count func most v to d le f;
  jump = jump_on_fine 1 None (λ to results. operators.number_run v to) (omega arith) (λ count func to d most le f. number_fine count func most v to d le f);
}

module _ (n : ℕ) (x : ExprCode) (g : Good n x) (id : ℕ) where
  unary_fine : (z : UnOp) (count func to : ℕ) (d : Emitter) → count ≤ 250 → to + n ≤ count → Fine count func d → Fine count func (conditions.unary_run z x to d)
  unary_fine z count func to d most le f =
      let a = g.some in
      insn count func _ (nodes.operand_run x to d) (insns.unary_insn count most to (nodes.operand_at x to d) (omega (arith, a, le)) (operand_below count func most n x g to d le f) z) (operand_fine count func most n x g to d le f)

  pub unary_good : (z : UnOp) → Good n (conditions.unary_code z x id)
  unary_good unary.Not = decided_good n id (conditions.unary_run unary.Not x) (λ so. x.jump (not so)) g.some (unary_fine unary.Not) (λ count func so. g.jump count func (not so))
  unary_good unary.Len = single_good n id (conditions.unary_run unary.Len x) g.some (unary_fine unary.Len)
  unary_good unary.Minus = single_good n id (conditions.unary_run unary.Minus x) g.some (unary_fine unary.Minus)

  pub paren_good : Good n (code.paren x id)
  paren_good = record {
    some = g.some;
    run = λ count func to results d most le le' f. let a = g.some in g.run count func to 2 d most le (omega (arith, a, le)) f;
    jump = g.jump;
  }

module _ (n m : ℕ) (x y : ExprCode) (gx : Good n x) (gy : Good m y) (id : ℕ) where
  some_of : 1 ≤ max n (1 + m)
  some_of = omega arith

  comparison_good : (z : BinOp) → Good (max n (1 + m)) (nodes.decided id (conditions.compare_run z x y id) (conditions.compare_jump z x y))
  comparison_good z = decided_good (max n (1 + m)) id (conditions.compare_run z x y id) (conditions.compare_jump z x y) some_of
      (λ count func to d most le f.
      let lx : to + n ≤ count = omega (arith, le) in
      let ly : to + 1 + m ≤ count = omega (arith, le) in
      let own : to + 1 ≤ count = omega (arith, le) in
      insn count func (i.LoadB to 1 0) _ (insns.load_bool count most to 1 0 own (omega arith) (omega arith))
      (place count func (label id 0) _ (insn count func (i.LoadB to 0 1) _ (insns.load_bool count most to 0 1 own (omega arith) (omega arith)) (compare_fine count func most n m x y gx gy to d lx ly f z true (label id 0)))))
      (λ count func so to l d most le f. compare_fine count func most n m x y gx gy to d (omega (arith, le)) (omega (arith, le)) f z so l)

  arithmetic_good : (z : BinOp) → Good (max n (1 + m)) (nodes.single id (conditions.arithmetic_run z x y))
  arithmetic_good z = single_good (max n (1 + m)) id (conditions.arithmetic_run z x y) some_of
      (λ count func to d most le f. arithmetic_fine count func most n m x y gx gy to d (omega (arith, le)) (omega (arith, le)) f z)

  and_good : Good (max n (1 + m)) (conditions.binary_code op.And x y id)
  and_good = decided_good (max n (1 + m)) id (conditions.and_run x y id) (conditions.and_jump x y id) some_of
      (λ count func to d most le f.
      place count func (label id 0) _ (gy.run count func to 2 _ most (omega (arith, le)) (omega (arith, le))
      (branch count func (i.JumpIfNot to (pos 0)) (label id 0) _ (insns.jump_if_not count most to (omega (arith, le))) (gx.run count func to 2 d most (omega (arith, le)) (omega (arith, le)) f))))
      go
    where
      go : (count func : ℕ) (so : Bool) (to l : ℕ) (d : Emitter) → count ≤ 250 → to + max n (1 + m) ≤ count → Fine count func d → Fine count func (conditions.and_jump x y id so to l d)
      go count func true to l d most le f =
          place count func (label id 0) _ (gy.jump count func true to l _ most (omega (arith, le)) (gx.jump count func false to (label id 0) d most (omega (arith, le)) f))
      go count func false to l d most le f =
          gy.jump count func false to l _ most (omega (arith, le)) (gx.jump count func false to l d most (omega (arith, le)) f)

  or_good : Good (max n (1 + m)) (conditions.binary_code op.Or x y id)
  or_good = decided_good (max n (1 + m)) id (conditions.or_run x y id) (conditions.or_jump x y id) some_of
      (λ count func to d most le f.
      place count func (label id 0) _ (gy.run count func to 2 _ most (omega (arith, le)) (omega (arith, le))
      (branch count func (i.JumpIf to (pos 0)) (label id 0) _ (insns.jump_if count most to (omega (arith, le))) (gx.run count func to 2 d most (omega (arith, le)) (omega (arith, le)) f))))
      go
    where
      go : (count func : ℕ) (so : Bool) (to l : ℕ) (d : Emitter) → count ≤ 250 → to + max n (1 + m) ≤ count → Fine count func d → Fine count func (conditions.or_jump x y id so to l d)
      go count func false to l d most le f =
          place count func (label id 0) _ (gy.jump count func false to l _ most (omega (arith, le)) (gx.jump count func true to (label id 0) d most (omega (arith, le)) f))
      go count func true to l d most le f =
          gy.jump count func true to l _ most (omega (arith, le)) (gx.jump count func true to l d most (omega (arith, le)) f)

  pub binary_good : (z : BinOp) → Good (max n (1 + m)) (conditions.binary_code z x y id)
  binary_good op.And = and_good
  binary_good op.Or = or_good
  binary_good op.Lt = comparison_good op.Lt
  binary_good op.Gt = comparison_good op.Gt
  binary_good op.Le = comparison_good op.Le
  binary_good op.Ge = comparison_good op.Ge
  binary_good op.Ne = comparison_good op.Ne
  binary_good op.Eq = comparison_good op.Eq
  binary_good op.Concat = arithmetic_good op.Concat
  binary_good op.Add = arithmetic_good op.Add
  binary_good op.Sub = arithmetic_good op.Sub
  binary_good op.Mul = arithmetic_good op.Mul
  binary_good op.Div = arithmetic_good op.Div
  binary_good op.Idiv = arithmetic_good op.Idiv
  binary_good op.Mod = arithmetic_good op.Mod
  binary_good op.Pow = arithmetic_good op.Pow

-- ---- `if` expressions

pub record GoodChoice (n : ℕ) (a : ChoiceCode) : Type 0 where
  pub tested : ℕ
  pub chosen : ℕ
  pub cond : Good tested a.cond
  pub value : Good chosen a.value
  pub most : max tested chosen ≤ n

abbrev pub GoodChoices : List ChoiceCode → List ℕ → Type 0
GoodChoices [] [] = Unit {0}
GoodChoices (a ∷ l) (n ∷ ns) = GoodChoice n a × GoodChoices l ns
GoodChoices [] (n ∷ ns) = ⊥
GoodChoices (a ∷ l) [] = ⊥

module _ (count func : ℕ) (most : count ≤ 250) (id to : ℕ) where
  choices_fine : (l : List ChoiceCode) (ns : List ℕ) → GoodChoices l ns → to + greatest ns ≤ count → (d : Emitter) → Fine count func d → Fine count func (conditions.choices_run l id to d)
  choices_fine [] [] g le d f = f
  choices_fine (a ∷ l) (n ∷ ns) g le d f =
      let m = g.0.most in
      let s = g.0.value.some in
      choices_fine l ns g.1 (omega (arith, le)) _
      (place count func (label a.cond.id 1) _ (branch count func (i.Jump (pos 0)) (label id 0) _ (insns.jump count most) (g.0.value.run count func to 2 _ most (omega (arith, le, m)) (omega (arith, le, m, s)) (g.0.cond.jump count func false to (label a.cond.id 1) d most (omega (arith, le, m)) f))))
  choices_fine [] (n ∷ ns) g le d f = absurd g
  choices_fine (a ∷ l) [] g le d f = absurd g

pub if_good : (l : List ChoiceCode) (ns : List ℕ) → GoodChoices l ns → (n : ℕ) (e : ExprCode) → Good n e → (id : ℕ) → Good (max (greatest ns) n) (nodes.single id (conditions.if_run l e id))
if_good l ns h n e g id =
    let s = g.some in
    single_good (max (greatest ns) n) id (conditions.if_run l e id) (omega (arith, s))
    (λ count func to d most le f.
    place count func (label id 0) _ (g.run count func to 2 _ most (omega (arith, le)) (omega (arith, le, s)) (choices_fine count func most id to l ns h (omega (arith, le)) d f)))
