-- What the code of expressions, of their lists, and of names adds.
use Rattle.std.proofs.Common.{◌≡◌, ℕ, ℤ, zero, suc, ◌+◌, ◌*◌, ◌-◌, ◌≤◌, ◌<◌, Bool, true, false, List, [], ◌∷◌, length, drop, Option, Some, None, refl, arith, if◌then◌else◌, IsTrue}
use Rattle.byte_text.specs.declared.fixed.StrId.{StrId}
use Rattle.op_words.specs.declared.chunk.Const.TheVariants as constant
use Rattle.op_words.specs.declared.insn.Insn.TheVariants as i
use Rattle.syntax_tree.specs.declared.bindings.Bindings.{Bindings}
use Rattle.syntax_tree.specs.declared.bindings.Bound.{Bound}
use Rattle.syntax_tree.specs.declared.bindings.Bound.TheVariants as bound
use Rattle.emit_expr.specs.declared.draft.Emitter.{Emitter}
use Rattle.emit_expr.specs.declared.draft.Mark.{Mark}
use Rattle.emit_expr.specs.Puts as puts
use Rattle.emit_expr.specs.Puts.{Step}
use Rattle.emit_expr.specs.Names as names
use Rattle.emit_expr.specs.Operators as operators
use Rattle.node_code.specs.Nodes as nodes
use Rattle.node_code.specs.Nodes.{ExprCode, Target, NoTarget, Named}
use Rattle.node_code.specs.Lists as lists
use Rattle.link_laws.proofs.Numbers.{none, span, zone, zone_span, span_join}
use Rattle.link_laws.proofs.Adds as adds
use Rattle.link_laws.proofs.Adds.{Adds, nothing, both, fit, given, one, insn, jump}

-- The code of an expression, whose nodes have the numbers from n up to below m, and whose bulk is so great: its value, and a jump
-- on it.
pub record Good (n m bulk : ℕ) (e : ExprCode) : Type 0 where
  pub order : n < m
  pub id : e.id ≡ n
  pub words : ℕ
  pub room : words + 2 ≤ bulk
  pub run : (F : ℕ → Bool) (to results : ℕ) (d : Emitter) → Adds F (Unit {0}) (zone n m) words d (e.run to results d)
  pub jump : (F : ℕ → Bool) (so : Bool) (to l : ℕ) (d : Emitter) → Adds F (IsTrue (F l)) (zone n m) words d (e.jump so to l d)

-- a first part up to number k, and a rest from there on; together they have this bulk at most
pub record Next (First Rest : (k bulk : ℕ) → Type 0) (all : ℕ) : Type 0 where
  pub k : ℕ
  pub here : ℕ
  pub behind : ℕ
  pub first : First k here
  pub rest : Rest k behind
  pub total : here + behind ≤ all

abbrev pub Goods : (n : ℕ) → List ExprCode → (all m : ℕ) → Type 0
Goods n [] all m = n ≤ m
Goods n (e ∷ es) all m = Next (λ k bulk. Good n k bulk e) (λ k bulk. Goods k es bulk m) all

pub goods_le : (n : ℕ) (es : List ExprCode) (all m : ℕ) → Goods n es all m → n ≤ m
goods_le n [] all m h = h
goods_le n (e ∷ es) all m h =
    let a = h.first.order in
    let b = goods_le h.k es h.behind m h.rest in
    omega (arith, a, b)

-- ---- lists

module _ (F : ℕ → Bool) (N : Type 0) where
  pub ran : (n m bulk : ℕ) (e : ExprCode) (g : Good n m bulk e) (to results : ℕ) (d : Emitter) → Adds F N (zone n m) g.words d (e.run to results d)
  ran n m bulk e g to results d = given (g.run F to results d) (λ x. tt)

  -- nodes up to k, and those from there on
  pub after : (n k m : ℕ) → n < k → k ≤ m → (w1 w2 w : ℕ) → w1 + w2 ≤ w → (d1 d2 d3 : Emitter) → Adds F N (zone n k) w1 d1 d2
      → Adds F N (span k m) w2 d2 d3 → Adds F N (span n m) w d1 d3
  after n k m lt le w1 w2 w room d1 d2 d3 p q =
      fit (both p q) (λ l. let a = zone_span n k l lt in let b = span_join n k m l (omega (arith, lt)) le in omega (arith, a, b)) room

  pub list_good : (n : ℕ) (es : List ExprCode) (all m : ℕ) → Goods n es all m → (at : ℕ) (d : Emitter) → Adds F N (span n m) all d (lists.list_run es at d)
  list_good n [] all m h at d = fit (nothing F N d) (λ l. omega arith) (omega arith)
  list_good n (e ∷ es) all m h at d =
      let r = h.first.room in
      let t = h.total in
      after n h.k m h.first.order (goods_le h.k es h.behind m h.rest) h.first.words h.behind all (omega (arith, r, t)) d _ _
      (ran n h.k h.here e h.first at (lists.results_for (length es)) d) (list_good h.k es h.behind m h.rest (at + 1) _)

  pub each_good : (n : ℕ) (es : List ExprCode) (all m : ℕ) → Goods n es all m → (at : ℕ) (d : Emitter) → Adds F N (span n m) all d (lists.each_run es at d)
  each_good n [] all m h at d = fit (nothing F N d) (λ l. omega arith) (omega arith)
  each_good n (e ∷ es) all m h at d =
      let r = h.first.room in
      let t = h.total in
      after n h.k m h.first.order (goods_le h.k es h.behind m h.rest) h.first.words h.behind all (omega (arith, r, t)) d _ _
      (ran n h.k h.here e h.first at 2 d) (each_good h.k es h.behind m h.rest (at + 1) _)

  pub nils_good : (at count : ℕ) (d : Emitter) → Adds F N none count d (lists.nils at count d)
  nils_good at zero d = nothing F N d
  nils_good at (suc n) d =
      fit (both (one F N (i.LoadNil at) d refl) (nils_good (at + 1) n _)) (λ l. omega arith) (omega arith)

  pub last_good : (n m bulk : ℕ) (e : ExprCode) (g : Good n m bulk e) (at count : ℕ) (d : Emitter)
      → Adds F N (zone n m) (g.words + count) d (lists.last_run e at count d)
  last_good n m bulk e g at count d = which e.many
    where
      which : (z : Bool) → Adds F N (zone n m) (g.words + count) d (if z then e.run at (count + 1) d else lists.nils (at + 1) (count - 1) (e.run at 2 d))
      which true = fit (ran n m bulk e g at (count + 1) d) (λ l. omega arith) (omega arith)
      which false =
          fit (both (ran n m bulk e g at 2 d) (nils_good (at + 1) (count - 1) (e.run at 2 d))) (λ l. omega arith) (omega arith)

  pub exact_good : (n : ℕ) (es : List ExprCode) (all m : ℕ) → Goods n es all m → (at count : ℕ) (d : Emitter)
      → Adds F N (span n m) (all + count) d (lists.exact_run es at count d)
  exact_good n [] all m h at count d = fit (nils_good at count d) (λ l. omega arith) (omega arith)
  exact_good n (e ∷ []) all m h at count d =
      let r = h.first.room in
      let t = h.total in
      after n h.k m h.first.order h.rest (h.first.words + count) 0 (all + count) (omega (arith, r, t)) d _ _
      (last_good n h.k h.here e h.first at count d) (fit (nothing F N _) (λ l. omega arith) (omega arith))
  exact_good n (e ∷ (e' ∷ es)) all m h at count d =
      let r = h.first.room in
      let t = h.total in
      after n h.k m h.first.order (goods_le h.k (e' ∷ es) h.behind m h.rest) h.first.words (h.behind + (count - 1)) (all + count) (omega (arith, r, t)) d _ _
      (ran n h.k h.here e h.first at 2 d) (exact_good h.k (e' ∷ es) h.behind m h.rest (lists.behind at count) (count - 1) _)

  -- ---- names

  module _ (b : Bindings) where
    pub name_good : (x : Bound) (name : StrId) (to : ℕ) (d : Emitter) → Adds F N none 2 d (names.name_run b x name to d)
    name_good (bound.Local k) name to d = fit (one F N _ d refl) (λ l. omega arith) (omega arith)
    name_good (bound.Up k) name to d = fit (one F N _ d refl) (λ l. omega arith) (omega arith)
    name_good bound.Global name to d =
        fit (both (adds.text F N name d) (insn F N (i.GetGlobal to (puts.long (puts.text_place name d))) (puts.with_text name d))) (λ l. omega arith)
        (omega arith)

    pub assign_good : (x : Bound) (name : StrId) (from : ℕ) (d : Emitter) → Adds F N none 2 d (names.assign_run b x name from d)
    assign_good (bound.Local k) name from d = fit (one F N _ d refl) (λ l. omega arith) (omega arith)
    assign_good (bound.Up k) name from d = fit (one F N _ d refl) (λ l. omega arith) (omega arith)
    assign_good bound.Global name from d =
        fit (both (adds.text F N name d) (insn F N (i.SetGlobal from (puts.long (puts.text_place name d))) (puts.with_text name d)))
        (λ l. omega arith) (omega arith)

    pub assign_to_good : (t : Target) (from : ℕ) (d : Emitter) → Adds F N none 2 d (lists.assign_to b t from d)
    assign_to_good NoTarget from d = fit (nothing F N d) (λ l. omega arith) (omega arith)
    assign_to_good (Named x name) from d = assign_good x name from d

    pub assigns_good : (ts : List ExprCode) (from : ℕ) (d : Emitter) → Adds F N none (2 * length ts) d (lists.assign_all b ts from d)
    assigns_good [] from d = fit (nothing F N d) (λ l. omega arith) (omega arith)
    assigns_good (t ∷ ts) from d =
        fit (both (assign_to_good t.target from d) (assigns_good ts (from + 1) _)) (λ l. omega arith) (omega arith)

    pub close_good : (m : Mark) (d : Emitter) → Adds F N none 1 d (names.close_run b m d)
    close_good m d = which (names.any_captured b (drop m.variables d.draft.variables))
      where
        which : (z : Bool) → Adds F N none 1 d (if z then puts.insn (i.CloseUpvalues m.free) d else d)
        which true = one F N (i.CloseUpvalues m.free) d refl
        which false = fit (nothing F N d) (λ l. omega arith) (omega arith)

    pub ended_good : (m : Mark) (d : Emitter) → Adds F N none 1 d (names.ended b m d)
    ended_good m d = fit (both (close_good m d) (adds.forgotten F N m.variables (names.close_run b m d))) (λ l. omega arith) (omega arith)

    pub capture_good : (k : ℕ) (d : Emitter) → Adds F N none 1 d (names.capture b k d)
    capture_good k d = which (names.register_in k d.draft.variables)
      where
        which : (o : Option ℕ) → Adds F N none 1 d (names.capture_of b k o d)
        which (Some r) = one F N _ d refl
        which None = one F N _ d refl

    pub captures_good : (ks : List ℕ) (d : Emitter) → Adds F N none (length ks) d (names.captures b ks d)
    captures_good [] d = nothing F N d
    captures_good (k ∷ ks) d = fit (both (capture_good k d) (captures_good ks _)) (λ l. omega arith) (omega arith)

  pub declared_good : (number register count : ℕ) (d : Emitter) → Adds F N none 0 d (names.declare_all number register count d)
  declared_good number register zero d = nothing F N d
  declared_good number register (suc n) d =
      fit (both (adds.variable F N number register d) (declared_good (names.next_number number) (register + 1) n _)) (λ l. omega arith) (omega arith)

  -- ---- constants

  pub number_good : (n : ℤ) (to : ℕ) (d : Emitter) → Adds F N none 1 d (operators.number_run n to d)
  number_good n to d = which (operators.is_small n)
    where
      which : (z : Bool) → Adds F N none 1 d (if z then puts.insn (i.LoadN to n) d else puts.insn
          (i.LoadK to (puts.short (puts.constant_place (constant.Num n) d))) (puts.with_constant (constant.Num n) d))
      which true = one F N (i.LoadN to n) d refl
      which false =
          fit (both (adds.constant F N (constant.Num n) d) (one F N (i.LoadK to (puts.short (puts.constant_place (constant.Num n) d)))
          (puts.with_constant (constant.Num n) d) refl)) (λ l. omega arith) (omega arith)

  pub text_good : (t : StrId) (to : ℕ) (d : Emitter) → Adds F N none 1 d (operators.text_run t to d)
  text_good t to d =
      fit (both (adds.text F N t d) (one F N (i.LoadK to (puts.short (puts.text_place t d))) (puts.with_text t d) refl)) (λ l. omega arith) (omega arith)

  -- ---- operands

  pub operand_good : (n m bulk : ℕ) (e : ExprCode) (g : Good n m bulk e) (to : ℕ) (d : Emitter) → Adds F N (zone n m) g.words d (nodes.operand_run e to d)
  operand_good n m bulk e g to d = which e.own
    where
      which : (o : Option ℕ) → Adds F N (zone n m) g.words d (nodes.operand_code o (e.run to 2) d)
      which None = ran n m bulk e g to 2 d
      which (Some k) = fit (nothing F N d) (λ l. omega arith) (omega arith)
