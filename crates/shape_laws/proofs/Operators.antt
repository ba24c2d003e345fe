-- The code of operators and conditions keeps the shape.
use Rattle.std.proofs.Common.{◌≡◌, ℕ, ℤ, ◌+◌, ◌<◌, ◌≤◌, ◌^◌, Bool, true, false, not, List, [], ◌∷◌, length, Option, Some, None, refl, ap, arith, inl, inr}
use Rattle.std.specs.Prelude.{pos, slice_get}
use Rattle.byte_text.specs.declared.fixed.StrId.{StrId}
use Rattle.op_words.specs.declared.chunk.Const.TheVariants as constant
use Rattle.op_words.specs.declared.insn.Insn.{Insn}
use Rattle.op_words.specs.declared.insn.Insn.TheVariants as i
use Rattle.syntax_tree.specs.declared.bindings.Bindings.{Bindings}
use Rattle.syntax_tree.specs.declared.bindings.Bound.{Bound}
use Rattle.syntax_tree.specs.declared.tree.BinOp.{BinOp}
use Rattle.syntax_tree.specs.declared.tree.BinOp.TheVariants as op
use Rattle.syntax_tree.specs.declared.tree.UnOp.{UnOp}
use Rattle.syntax_tree.specs.declared.tree.UnOp.TheVariants as unary
use Rattle.machine_meaning.specs.Needs as needs
use Rattle.machine_meaning.specs.Needs.{is_wanted}
use Rattle.emit_expr.specs.declared.draft.Emitter.{Emitter}
use Rattle.emit_expr.specs.Puts as puts
use Rattle.emit_expr.specs.Puts.{Step, label}
use Rattle.emit_expr.specs.Names as names
use Rattle.emit_expr.specs.Operators as operators
use Rattle.node_code.specs.Nodes as nodes
use Rattle.node_code.specs.Nodes.{ExprCode, ChoiceCode}
use Rattle.node_code.specs.Conditions as conditions
use Rattle.node_code.specs.Code as code
use Rattle.shape_laws.specs.Order.{Nothing, AWord}
use Rattle.shape_laws.specs.Jumps.{Among, Ahead}
use Rattle.shape_laws.proofs.Simple as insns
use Rattle.shape_laws.proofs.Simple.{simple_by, insn_by, Simple, Onward, free_step}
use Rattle.shape_laws.proofs.States.{Frame, awaiting, owing, State, insn, spend, simple, onward, place, await, new_constant, found, keep, unkeep, keeping, constant_there}
use Rattle.shape_laws.proofs.Uses.{Good, ends, operand_good, name_good, number_run_good}

module _ (b : Bindings) where
  -- ---- kinds of expressions

  jump_on_good : (o : Option ℕ) (run : (to results : ℕ) → Step) → ((k : Frame) (to : ℕ) (d : Emitter) → State b k Nothing d → State b k Nothing (run to 2 d))
      → (k : Frame) (so : Bool) (to l : ℕ) (d : Emitter) → Among (Ahead l) k.pending → State b k Nothing d → State b k Nothing (nodes.jump_on o run so to l d)
  jump_on_good None run h k so to l d p f = onward b k _ l (run to 2 d) (insns.truth so to) p (h k to d f)
  jump_on_good (Some n) run h k so to l d p f = onward b k _ l d (insns.truth so (names.register_of n d)) p f

  pub single_good : (id : ℕ) (run : ℕ → Step) → ((k : Frame) (to : ℕ) (d : Emitter) → State b k Nothing d → State b k Nothing (run to d))
      → Good b (nodes.single id run)
  single_good id run h = record {
    run = λ k to results d some f. h k to d f;
    all = λ k to d f. h k to d f;
    jump = jump_on_good None (λ to results. run to) h;
  }

  pub decided_good : (id : ℕ) (run : ℕ → Step) (go : (so : Bool) → (to label : ℕ) → Step) → ((k : Frame) (to : ℕ) (d : Emitter) → State b k Nothing d
      → State b k Nothing (run to d))
      → ((k : Frame) (so : Bool) (to l : ℕ) (d : Emitter) → Among (Ahead l) k.pending → State b k Nothing d → State b k Nothing (go so to l d))
      → Good b (nodes.decided id run go)
  decided_good id run go h g = record {
    run = λ k to results d some f. h k to d f;
    all = λ k to d f. h k to d f;
    jump = g;
  }

  pub many_good : (id : ℕ) (run : ℕ → ℕ → Step) → ((k : Frame) (to results : ℕ) (d : Emitter) → 1 ≤ results → State b k Nothing d
      → State b k Nothing (run to results d))
      → ((k : Frame) (to : ℕ) (d : Emitter) → State b k Nothing d → State b k (ends true to) (run to 0 d)) → Good b (nodes.many id run)
  many_good id run h g = record {
    run = h;
    all = g;
    jump = jump_on_good None run (λ k to d f. h k to 2 d (omega arith) f);
  }

  pub named_good : (x : Bound) (name : StrId) (id : ℕ) → Good b (code.named b x name id)
  named_good x name id = record {
    run = λ k to results d some f. name_good b k x name to d f;
    all = λ k to d f. name_good b k x name to d f;
    jump = jump_on_good (names.own_of b x) (λ to results. names.name_run b x name to) (λ k to d f. name_good b k x name to d f);
  }

  pub number_good : (v : ℤ) (id : ℕ) → Good b (code.number_code v id)
  number_good v id = record {
    run = λ k to results d some f. number_run_good b k v to d f;
    all = λ k to d f. number_run_good b k v to d f;
    jump = jump_on_good None (λ to results. operators.number_run v to) (λ k to d f. number_run_good b k v to d f);
  }

  pub paren_good : (x : ExprCode) → Good b x → (id : ℕ) → Good b (code.paren x id)
  paren_good x g id = record {
    run = λ k to results d some f. g.run k to 2 d (omega arith) f;
    all = λ k to d f. g.run k to 2 d (omega arith) f;
    jump = g.jump;
  }

  -- ---- operators

  module _ (x : ExprCode) (g : Good b x) (id : ℕ) where
    unary_run_good : (z : UnOp) (k : Frame) (to : ℕ) (d : Emitter) → State b k Nothing d → State b k Nothing (conditions.unary_run z x to d)
    unary_run_good z k to d f = simple b k _ (nodes.operand_run x to d) (insns.unary_insn z to (nodes.operand_at x to d)) (operand_good b x g k to d f)

    pub unary_good : (z : UnOp) → Good b (conditions.unary_code z x id)
    unary_good unary.Not = decided_good id (conditions.unary_run unary.Not x) (λ so. x.jump (not so)) (unary_run_good unary.Not) (λ k so. g.jump k (not so))
    unary_good unary.Len = single_good id (conditions.unary_run unary.Len x) (unary_run_good unary.Len)
    unary_good unary.Minus = single_good id (conditions.unary_run unary.Minus x) (unary_run_good unary.Minus)

  module _ (k : Frame) where
    number_there : (v : ℤ) (d : Emitter) → length (puts.with_constant (constant.Num v) d).draft.constants < 2 ^ 15
        → is_wanted needs.AValue (slice_get (puts.with_constant (constant.Num v) d).draft.constants (puts.constant_place (constant.Num v) d)) ≡ true
    number_there v d low = ap (is_wanted needs.AValue) (found b (constant.Num v) d low).at

    operate_by_good : (o : Option ℤ) (z : BinOp) (to left : ℕ) (y : ExprCode) → Good b y → (at : ℕ) (d : Emitter) → State b k Nothing d
        → State b k Nothing (conditions.operate_by o z to left y at d)
    operate_by_good None z to left y g at d f =
        simple b k _ (nodes.operand_run y at d) (insns.arithmetic z to left (nodes.operand_at y at d)) (operand_good b y g k at d f)
    operate_by_good (Some v) z to left y g at d f =
        spend b k Nothing Nothing _ (puts.with_constant (constant.Num v) d) (free_step _ (insns.constant_free z to left (puts.constant_place
        (constant.Num v) d)))
        (λ low. insns.constant_plain (puts.with_constant (constant.Num v) d).draft.constants z to left (puts.constant_place (constant.Num v) d)
        (number_there v d low))
        (new_constant b k Nothing (constant.Num v) d tt f)

    pub operate_good : (z : BinOp) (to left : ℕ) (y : ExprCode) → Good b y → (at : ℕ) (d : Emitter) → State b k Nothing d
        → State b k Nothing (conditions.operate_run z to left y at d)
    operate_good z to left y g at d f = operate_by_good (conditions.near_right y d) z to left y g at d f

  module _ (x y : ExprCode) (gx : Good b x) (gy : Good b y) where
    arithmetic_by_good : (o : Option ℤ) (z : BinOp) (k : Frame) (to : ℕ) (d : Emitter) → State b k Nothing d
        → State b k Nothing (conditions.arithmetic_by o z x y to d)
    arithmetic_by_good None z k to d f = operate_good k z to (nodes.operand_at x to d) y gy (to + 1) (nodes.operand_run x to d) (operand_good b x gx k to d f)
    arithmetic_by_good (Some v) z k to d f =
        let n = puts.constant_place (constant.Num v) d in
        let kept = puts.with_constant (constant.Num v) d in
        let last = nodes.operand_run y to kept in
        let f1 = keep b (owing k) Nothing (n, constant.Num v) kept (constant_there b (constant.Num v) d) (new_constant b k Nothing (constant.Num v) d tt f) in
        let f2 = operand_good b y gy (keeping (n, constant.Num v) (owing k)) to kept f1 in
        let at : is_wanted needs.AValue (slice_get last.draft.constants n) ≡ true = ap (is_wanted needs.AValue) (f2.kept (n, constant.Num v) (inl refl)) in
        spend b k Nothing Nothing _ last (free_step _ (insns.from_free z to n (nodes.operand_at y to kept)))
        (λ low. insns.from_plain last.draft.constants z to n (nodes.operand_at y to kept) at) (unkeep b (owing k) Nothing (n, constant.Num v) last f2)

    arithmetic_good : (z : BinOp) (k : Frame) (to : ℕ) (d : Emitter) → State b k Nothing d → State b k Nothing (conditions.arithmetic_run z x y to d)
    arithmetic_good z k to d f = arithmetic_by_good (conditions.left_number z x d) z k to d f

    compare_good : (z : BinOp) (k : Frame) (so : Bool) (to l : ℕ) (d : Emitter) → Among (Ahead l) k.pending → State b k Nothing d
        → State b k Nothing (conditions.compare_jump z x y so to l d)
    compare_good z k so to l d p f =
        let first = nodes.operand_run x to d in
        onward b k _ l (nodes.operand_run y (to + 1) first) (insns.comparison z so (nodes.operand_at x to d) (nodes.operand_at y (to + 1) first)) p
        (operand_good b y gy k (to + 1) first (operand_good b x gx k to d f))

    module _ (id : ℕ) where
      compare_run_good : (z : BinOp) (k : Frame) (to : ℕ) (d : Emitter) → State b k Nothing d → State b k Nothing (conditions.compare_run z x y id to d)
      compare_run_good z k to d f =
          let l = label id 0 in
          let d1 = conditions.compare_jump z x y true to l d in
          let f1 = compare_good z (awaiting (Ahead l) k) true to l d (inl refl) (await b k (Ahead l) Nothing d f) in
          let d2 = puts.insn (i.LoadB to 0 1) d1 in
          let f2 = insn b [] (awaiting (Ahead l) k) Nothing AWord (i.LoadB to 0 1) d1 (λ cs. refl) (λ low. insn_by _ _ refl refl refl refl refl refl) f1 in
          let f3 = place b k l AWord d2 refl f2 in
          insn b [] k AWord Nothing (i.LoadB to 1 0) (puts.place l d2) (λ cs. refl) (λ low. insn_by _ _ refl refl refl refl refl refl) f3

      comparison_good : (z : BinOp) → Good b (nodes.decided id (conditions.compare_run z x y id) (conditions.compare_jump z x y))
      comparison_good z = decided_good id (conditions.compare_run z x y id) (conditions.compare_jump z x y) (compare_run_good z) (compare_good z)

      -- the first operand, a jump on its value, and the second
      either_good : (jump_insn : ℕ → Insn) → ((to : ℕ) → Onward (jump_insn to)) → (k : Frame) (to : ℕ) (d : Emitter) → State b k Nothing d
          → State b k Nothing (puts.place (label id 0) (y.run to 2 (puts.branch (jump_insn to) (label id 0) (x.run to 2 d))))
      either_good x_jump on k to d f =
          let l = label id 0 in
          let k1 = awaiting (Ahead l) k in
          let f1 = gx.run k1 to 2 d (omega arith) (await b k (Ahead l) Nothing d f) in
          let f2 = onward b k1 (x_jump to) l _ (on to) (inl refl) f1 in
          place b k l Nothing _ refl (gy.run k1 to 2 _ (omega arith) f2)

      -- both conditions jump to a label, or the first one past the second
      through_good : (so : Bool) (k : Frame) (to l : ℕ) (d : Emitter) → Among (Ahead l) k.pending → State b k Nothing d
          → State b k Nothing (y.jump so to l (x.jump so to l d))
      through_good so k to l d p f = gy.jump k so to l _ p (gx.jump k so to l d p f)

      past_good : (so : Bool) (k : Frame) (to l : ℕ) (d : Emitter) → Among (Ahead l) k.pending → State b k Nothing d
          → State b k Nothing (puts.place (label id 0) (y.jump so to l (x.jump (not so) to (label id 0) d)))
      past_good so k to l d p f =
          let m = label id 0 in
          let k1 = awaiting (Ahead m) k in
          let f1 = gx.jump k1 (not so) to m d (inl refl) (await b k (Ahead m) Nothing d f) in
          place b k m Nothing _ refl (gy.jump k1 so to l _ (inr p) f1)

      and_good : Good b (conditions.binary_code op.And x y id)
      and_good = decided_good id (conditions.and_run x y id) (conditions.and_jump x y id) (either_good (λ to. i.JumpIfNot to (pos 0)) (insns.truth false)) go
        where
          go : (k : Frame) (so : Bool) (to l : ℕ) (d : Emitter) → Among (Ahead l) k.pending → State b k Nothing d
              → State b k Nothing (conditions.and_jump x y id so to l d)
          go k true to l d p f = past_good true k to l d p f
          go k false to l d p f = through_good false k to l d p f

      or_good : Good b (conditions.binary_code op.Or x y id)
      or_good = decided_good id (conditions.or_run x y id) (conditions.or_jump x y id) (either_good (λ to. i.JumpIf to (pos 0)) (insns.truth true)) go
        where
          go : (k : Frame) (so : Bool) (to l : ℕ) (d : Emitter) → Among (Ahead l) k.pending → State b k Nothing d
              → State b k Nothing (conditions.or_jump x y id so to l d)
          go k true to l d p f = through_good true k to l d p f
          go k false to l d p f = past_good false k to l d p f

      pub binary_good : (z : BinOp) → Good b (conditions.binary_code z x y id)
      binary_good op.And = and_good
      binary_good op.Or = or_good
      binary_good op.Lt = comparison_good op.Lt
      binary_good op.Gt = comparison_good op.Gt
      binary_good op.Le = comparison_good op.Le
      binary_good op.Ge = comparison_good op.Ge
      binary_good op.Ne = comparison_good op.Ne
      binary_good op.Eq = comparison_good op.Eq
      binary_good op.Concat = single_good id (conditions.arithmetic_run op.Concat x y) (arithmetic_good op.Concat)
      binary_good op.Add = single_good id (conditions.arithmetic_run op.Add x y) (arithmetic_good op.Add)
      binary_good op.Sub = single_good id (conditions.arithmetic_run op.Sub x y) (arithmetic_good op.Sub)
      binary_good op.Mul = single_good id (conditions.arithmetic_run op.Mul x y) (arithmetic_good op.Mul)
      binary_good op.Div = single_good id (conditions.arithmetic_run op.Div x y) (arithmetic_good op.Div)
      binary_good op.Idiv = single_good id (conditions.arithmetic_run op.Idiv x y) (arithmetic_good op.Idiv)
      binary_good op.Mod = single_good id (conditions.arithmetic_run op.Mod x y) (arithmetic_good op.Mod)
      binary_good op.Pow = single_good id (conditions.arithmetic_run op.Pow x y) (arithmetic_good op.Pow)

  -- ---- `if` expressions

  pub record GoodChoice (a : ChoiceCode) : Type 0 where
    pub cond : Good b a.cond
    pub value : Good b a.value

  abbrev pub GoodChoices : List ChoiceCode → Type 0
  GoodChoices [] = Unit {0}
  GoodChoices (a ∷ l) = GoodChoice a × GoodChoices l

  choices_good : (l : List ChoiceCode) → GoodChoices l → (k : Frame) (id to : ℕ) (d : Emitter) → Among (Ahead (label id 0)) k.pending → State b k Nothing d
      → State b k Nothing (conditions.choices_run l id to d)
  choices_good [] g k id to d p f = f
  choices_good (a ∷ l) g k id to d p f =
      let next = label a.cond.id 1 in
      let k1 = awaiting (Ahead next) k in
      let f1 = g.0.cond.jump k1 false to next d (inl refl) (await b k (Ahead next) Nothing d f) in
      let f2 = g.0.value.run k1 to 2 _ (omega arith) f1 in
      let f3 = onward b k1 (i.Jump (pos 0)) (label id 0) _ (insns.jump (pos 0)) (inr p) f2 in
      choices_good l g.1 k id to _ p (place b k next Nothing _ refl f3)

  pub if_good : (l : List ChoiceCode) → GoodChoices l → (e : ExprCode) → Good b e → (id : ℕ) → Good b (nodes.single id (conditions.if_run l e id))
  if_good l h e g id = single_good id (conditions.if_run l e id)
      (λ k to d f.
      let m = label id 0 in
      let k1 = awaiting (Ahead m) k in
      place b k m Nothing _ refl (g.run k1 to 2 _ (omega arith) (choices_good l h k1 id to d (inl refl) (await b k (Ahead m) Nothing d f))))
