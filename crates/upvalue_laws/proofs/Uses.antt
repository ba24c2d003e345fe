-- The code of expressions names upvalues that are the function's own.
use Rattle.std.proofs.Common.{◌≡◌, ℕ, ℤ, zero, suc, ◌+◌, ◌-◌, ◌<◌, Bool, true, false, not, List, [], ◌∷◌, length, Option, Some, None, if◌then◌else◌, refl, sym, ap, arith, min}
use Rattle.byte_text.specs.declared.fixed.StrId.{StrId}
use Rattle.op_words.specs.declared.chunk.Const.TheVariants as constant
use Rattle.op_words.specs.declared.insn.Insn.TheVariants as i
use Rattle.syntax_tree.specs.declared.bindings.Bindings.{Bindings}
use Rattle.syntax_tree.specs.declared.bindings.Bound.{Bound}
use Rattle.syntax_tree.specs.declared.bindings.Bound.TheVariants as bound
use Rattle.syntax_tree.specs.declared.tree.BinOp.{BinOp}
use Rattle.syntax_tree.specs.declared.tree.BinOp.TheVariants as op
use Rattle.syntax_tree.specs.declared.tree.UnOp.{UnOp}
use Rattle.syntax_tree.specs.declared.tree.UnOp.TheVariants as unary
use Rattle.emit_expr.specs.declared.draft.Emitter.{Emitter}
use Rattle.emit_expr.specs.declared.draft.Variable.{Variable}
use Rattle.emit_expr.specs.Puts as puts
use Rattle.emit_expr.specs.Puts.{Step, label}
use Rattle.emit_expr.specs.Names as names
use Rattle.emit_expr.specs.Names.{upvalues_at}
use Rattle.emit_expr.specs.Operators as operators
use Rattle.node_code.specs.Nodes as nodes
use Rattle.node_code.specs.Nodes.{ExprCode, ChoiceCode, Target, NoTarget, Named}
use Rattle.node_code.specs.Lists as lists
use Rattle.node_code.specs.Conditions as conditions
use Rattle.node_code.specs.Code as code
use Rattle.upvalue_laws.proofs.States as states
use Rattle.upvalue_laws.proofs.States.{State, insn, naming, branch, place, new_constant, text}

-- a local is among the upvalues of a function
abbrev pub IsUp : Bindings → (func local : ℕ) → Type 0
IsUp b func k = names.place_in k (upvalues_at b func) < length (upvalues_at b func)

abbrev pub FitBound : Bindings → (func : ℕ) → Bound → Type 0
FitBound b func (bound.Up k) = IsUp b func k
FitBound b func (bound.Local k) = Unit {0}
FitBound b func bound.Global = Unit {0}

abbrev pub FitTarget : Bindings → (func : ℕ) → Target → Type 0
FitTarget b func NoTarget = Unit {0}
FitTarget b func (Named x name) = FitBound b func x

module _ (b : Bindings) (func : ℕ) (vs : List Variable) where
  abbrev pub Go : Step → Type 0
  Go run = (d : Emitter) → State b func vs d → State b func vs (run d)

  -- the code of an expression: its value, and a jump on it
  pub record Good (e : ExprCode) : Type 0 where
    pub run : (to results : ℕ) → Go (e.run to results)
    pub jump : (so : Bool) (to l : ℕ) → Go (e.jump so to l)
    pub target : FitTarget b func e.target

  abbrev pub Goods : List ExprCode → Type 0
  Goods [] = Unit {0}
  Goods (e ∷ es) = Good e × Goods es

  -- ---- lists

  pub list_good : (es : List ExprCode) → Goods es → (at : ℕ) → Go (lists.list_run es at)
  list_good [] g at d f = f
  list_good (e ∷ es) g at d f = list_good es g.1 (at + 1) _ (g.0.run at (lists.results_for (length es)) d f)

  pub each_good : (es : List ExprCode) → Goods es → (at : ℕ) → Go (lists.each_run es at)
  each_good [] g at d f = f
  each_good (e ∷ es) g at d f = each_good es g.1 (at + 1) _ (g.0.run at 2 d f)

  nils_good : (at n : ℕ) → Go (lists.nils at n)
  nils_good at zero d f = f
  nils_good at (suc n) d f = nils_good (at + 1) n _ (insn b func vs (i.LoadNil at) d refl f)

  last_good : (e : ExprCode) → Good e → (at n : ℕ) → Go (lists.last_run e at n)
  last_good e g at n d f = which e.many
    where
      which : (z : Bool) → State b func vs (if z then e.run at (n + 1) d else lists.nils (at + 1) (n - 1) (e.run at 2 d))
      which true = g.run at (n + 1) d f
      which false = nils_good (at + 1) (n - 1) _ (g.run at 2 d f)

  pub exact_good : (es : List ExprCode) → Goods es → (at n : ℕ) → Go (lists.exact_run es at n)
  exact_good [] g at n d f = nils_good at n d f
  exact_good (e ∷ []) g at n d f = last_good e g.0 at n d f
  exact_good (e ∷ (e' ∷ es)) g at n d f = exact_good (e' ∷ es) g.1 (lists.behind at n) (n - 1) _ (g.0.run at 2 d f)

  -- ---- names

  -- the number of an upvalue, as the state has it
  numbered_up : (k : ℕ) (d : Emitter) → State b func vs d → IsUp b func k → names.upvalue_of b k d < length (upvalues_at b func)
  numbered_up k d f up =
      let here : names.upvalue_of b k d ≡ min (names.place_in k (upvalues_at b func)) 255 = ap (λ n. names.upvalue_in b n k) f.named in
      omega (arith, here, up)

  pub name_good : (x : Bound) → FitBound b func x → (name : StrId) (to : ℕ) → Go (names.name_run b x name to)
  name_good (bound.Local k) u name to d f = insn b func vs _ d refl f
  name_good (bound.Up k) u name to d f = naming b func vs _ d (numbered_up k d f u) f
  name_good bound.Global u name to d f = insn b func vs _ _ refl (text b func vs name d f)

  pub assign_good : (x : Bound) → FitBound b func x → (name : StrId) (from : ℕ) → Go (names.assign_run b x name from)
  assign_good (bound.Local k) u name from d f = insn b func vs _ d refl f
  assign_good (bound.Up k) u name from d f = naming b func vs _ d (numbered_up k d f u) f
  assign_good bound.Global u name from d f = insn b func vs _ _ refl (text b func vs name d f)

  pub assign_to_good : (t : Target) → FitTarget b func t → (from : ℕ) → Go (lists.assign_to b t from)
  assign_to_good NoTarget u from d f = f
  assign_to_good (Named x name) u from d f = assign_good x u name from d f

  pub assigns_good : (ts : List ExprCode) → Goods ts → (from : ℕ) → Go (lists.assign_all b ts from)
  assigns_good [] g from d f = f
  assigns_good (t ∷ ts) g from d f = assigns_good ts g.1 (from + 1) _ (assign_to_good t.target g.0.target from d f)

  -- a variable is captured from its register, or from the function around
  capture_good : (k : ℕ) → (names.register_in k vs ≡ None → IsUp b func k) → Go (names.capture b k)
  capture_good k up d f = which (names.register_in k d.draft.variables) (sym (ap (names.register_in k) f.variables))
    where
      which : (o : Option ℕ) → names.register_in k vs ≡ o → State b func vs (names.capture_of b k o d)
      which (Some r) e = insn b func vs _ d refl f
      which None e = naming b func vs _ d (numbered_up k d f (up e)) f

  abbrev pub AllUp : List ℕ → Type 0
  AllUp [] = Unit {0}
  AllUp (k ∷ ks) = (names.register_in k vs ≡ None → IsUp b func k) × AllUp ks

  pub captures_good : (ks : List ℕ) → AllUp ks → Go (names.captures b ks)
  captures_good [] u d f = f
  captures_good (k ∷ ks) u d f = captures_good ks u.1 _ (capture_good k u.0 d f)

  -- ---- constants

  number_run_good : (n : ℤ) (to : ℕ) → Go (operators.number_run n to)
  number_run_good n to d f = which (operators.is_small n)
    where
      which : (z : Bool) → State b func vs (if z then puts.insn (i.LoadN to n) d else puts.insn (i.LoadK to (puts.short (puts.constant_place
          (constant.Num n) d))) (puts.with_constant (constant.Num n) d))
      which true = insn b func vs _ d refl f
      which false = insn b func vs _ _ refl (new_constant b func vs (constant.Num n) d f)

  pub text_run_good : (t : StrId) (to : ℕ) → Go (operators.text_run t to)
  text_run_good t to d f = insn b func vs _ _ refl (text b func vs t d f)

  -- ---- operands and jumps

  pub operand_good : (e : ExprCode) → Good e → (to : ℕ) → Go (nodes.operand_run e to)
  operand_good e g to d f = which e.own
    where
      which : (o : Option ℕ) → State b func vs (nodes.operand_code o (e.run to 2) d)
      which None = g.run to 2 d f
      which (Some n) = f

  jump_on_good : (o : Option ℕ) (run : (to results : ℕ) → Step) → ((to : ℕ) → Go (run to 2)) → (so : Bool) (to l : ℕ) → Go (nodes.jump_on o run so to l)
  jump_on_good None run h so to l d f = branch b func vs _ l _ (states.truth so to) (h to d f)
  jump_on_good (Some n) run h so to l d f = branch b func vs _ l d (states.truth so (names.register_of n d)) f

  pub single_good : (id : ℕ) (run : ℕ → Step) → ((to : ℕ) → Go (run to)) → Good (nodes.single id run)
  single_good id run h = record { run = λ to results. h to; jump = jump_on_good None (λ to results. run to) h; target = tt }

  decided_good : (id : ℕ) (run : ℕ → Step) (go : (so : Bool) → (to label : ℕ) → Step) → ((to : ℕ) → Go (run to)) → ((so : Bool) (to l : ℕ) → Go (go so to l))
      → Good (nodes.decided id run go)
  decided_good id run go h g = record { run = λ to results. h to; jump = g; target = tt }

  pub many_good : (id : ℕ) (run : ℕ → ℕ → Step) → ((to results : ℕ) → Go (run to results)) → Good (nodes.many id run)
  many_good id run h = record { run = h; jump = jump_on_good None run (λ to. h to 2); target = tt }

  pub named_good : (x : Bound) → FitBound b func x → (name : StrId) (id : ℕ) → Good (code.named b x name id)
  named_good x u name id =
      record {
        run = λ to results. name_good x u name to;
        jump = jump_on_good (names.own_of b x) (λ to results. names.name_run b x name to)
            (name_good x u name);
        target = u;
      }

  pub number_good : (v : ℤ) (id : ℕ) → Good (code.number_code v id)
  number_good v id = record {
    run = λ to results. number_run_good v to;
    jump = jump_on_good None (λ to results. operators.number_run v to)
        (number_run_good v);
    target = tt;
  }

  pub paren_good : (x : ExprCode) → Good x → (id : ℕ) → Good (code.paren x id)
  paren_good x g id = record { run = λ to results. g.run to 2; jump = g.jump; target = tt }

  -- ---- operators

  pub unary_good : (x : ExprCode) → Good x → (id : ℕ) (z : UnOp) → Good (conditions.unary_code z x id)
  unary_good x g id z = by z
    where
      run : (z : UnOp) (to : ℕ) → Go (conditions.unary_run z x to)
      run z to d f = insn b func vs _ _ (states.unary_insn z to (nodes.operand_at x to d)) (operand_good x g to d f)

      by : (z : UnOp) → Good (conditions.unary_code z x id)
      by unary.Not = decided_good id (conditions.unary_run unary.Not x) (λ so. x.jump (not so)) (run unary.Not) (λ so. g.jump (not so))
      by unary.Len = single_good id (conditions.unary_run unary.Len x) (run unary.Len)
      by unary.Minus = single_good id (conditions.unary_run unary.Minus x) (run unary.Minus)

  operate_by_good : (o : Option ℤ) (z : BinOp) (to left : ℕ) (y : ExprCode) → Good y → (at : ℕ) → Go (conditions.operate_by o z to left y at)
  operate_by_good None z to left y g at d f = insn b func vs _ _ (states.arithmetic z to left (nodes.operand_at y at d)) (operand_good y g at d f)
  operate_by_good (Some v) z to left y g at d f =
      insn b func vs _ _ (states.arithmetic_constant z to left (puts.constant_place (constant.Num v) d)) (new_constant b func vs (constant.Num v) d f)

  pub operate_good : (z : BinOp) (to left : ℕ) (y : ExprCode) → Good y → (at : ℕ) → Go (conditions.operate_run z to left y at)
  operate_good z to left y g at d f = operate_by_good (conditions.near_right y d) z to left y g at d f

  module _ (x y : ExprCode) (gx : Good x) (gy : Good y) where
    arithmetic_by_good : (o : Option ℤ) (z : BinOp) (to : ℕ) → Go (conditions.arithmetic_by o z x y to)
    arithmetic_by_good None z to d f = operate_good z to (nodes.operand_at x to d) y gy (to + 1) _ (operand_good x gx to d f)
    arithmetic_by_good (Some v) z to d f =
        let kept = puts.with_constant (constant.Num v) d in
        insn b func vs _ _ (states.from_constant z to (puts.constant_place (constant.Num v) d) (nodes.operand_at y to kept)) (operand_good y gy to kept
        (new_constant b func vs (constant.Num v) d f))

    arithmetic_good : (z : BinOp) (to : ℕ) → Go (conditions.arithmetic_run z x y to)
    arithmetic_good z to d f = arithmetic_by_good (conditions.left_number z x d) z to d f

    compare_good : (z : BinOp) (so : Bool) (to l : ℕ) → Go (conditions.compare_jump z x y so to l)
    compare_good z so to l d f =
        let first = nodes.operand_run x to d in
        branch b func vs _ l _ (states.comparison z so (nodes.operand_at x to d) (nodes.operand_at y (to + 1) first)) (operand_good y gy (to + 1) first
        (operand_good x gx to d f))

    module _ (id : ℕ) where
      comparison_good : (z : BinOp) → Good (nodes.decided id (conditions.compare_run z x y id) (conditions.compare_jump z x y))
      comparison_good z = decided_good id _ _
          (λ to d f. insn b func vs _ _ refl (place b func vs _ _ (insn b func vs _ _ refl (compare_good z true to (label id 0) d f)))) (compare_good z)

      and_good : Good (conditions.binary_code op.And x y id)
      and_good = decided_good id _ _ (λ to d f. place b func vs _ _ (gy.run to 2 _ (branch b func vs _ _ _ refl (gx.run to 2 d f)))) go
        where
          go : (so : Bool) (to l : ℕ) → Go (conditions.and_jump x y id so to l)
          go true to l d f = place b func vs _ _ (gy.jump true to l _ (gx.jump false to (label id 0) d f))
          go false to l d f = gy.jump false to l _ (gx.jump false to l d f)

      or_good : Good (conditions.binary_code op.Or x y id)
      or_good = decided_good id _ _ (λ to d f. place b func vs _ _ (gy.run to 2 _ (branch b func vs _ _ _ refl (gx.run to 2 d f)))) go
        where
          go : (so : Bool) (to l : ℕ) → Go (conditions.or_jump x y id so to l)
          go true to l d f = gy.jump true to l _ (gx.jump true to l d f)
          go false to l d f = place b func vs _ _ (gy.jump false to l _ (gx.jump true to (label id 0) d f))

      pub binary_good : (z : BinOp) → Good (conditions.binary_code z x y id)
      binary_good op.And = and_good
      binary_good op.Or = or_good
      binary_good op.Lt = comparison_good op.Lt
      binary_good op.Gt = comparison_good op.Gt
      binary_good op.Le = comparison_good op.Le
      binary_good op.Ge = comparison_good op.Ge
      binary_good op.Ne = comparison_good op.Ne
      binary_good op.Eq = comparison_good op.Eq
      binary_good op.Concat = single_good id (conditions.arithmetic_run op.Concat x y) (arithmetic_good op.Concat)
      binary_good op.Add = single_good id (conditions.arithmetic_run op.Add x y) (arithmetic_good op.Add)
      binary_good op.Sub = single_good id (conditions.arithmetic_run op.Sub x y) (arithmetic_good op.Sub)
      binary_good op.Mul = single_good id (conditions.arithmetic_run op.Mul x y) (arithmetic_good op.Mul)
      binary_good op.Div = single_good id (conditions.arithmetic_run op.Div x y) (arithmetic_good op.Div)
      binary_good op.Idiv = single_good id (conditions.arithmetic_run op.Idiv x y) (arithmetic_good op.Idiv)
      binary_good op.Mod = single_good id (conditions.arithmetic_run op.Mod x y) (arithmetic_good op.Mod)
      binary_good op.Pow = single_good id (conditions.arithmetic_run op.Pow x y) (arithmetic_good op.Pow)

  -- ---- `if` expressions

  abbrev pub GoodChoices : List ChoiceCode → Type 0
  GoodChoices [] = Unit {0}
  GoodChoices (a ∷ l) = (Good a.cond × Good a.value) × GoodChoices l

  pub choices_good : (l : List ChoiceCode) → GoodChoices l → (id to : ℕ) → Go (conditions.choices_run l id to)
  choices_good [] g id to d f = f
  choices_good (a ∷ l) g id to d f =
      choices_good l g.1 id to _ (place b func vs _ _ (branch b func vs _ _ _ refl (g.0.1.run to 2 _ (g.0.0.jump false to (label a.cond.id 1) d f))))
