-- The code of statements and functions fits where there are registers for what they need.
use Rattle.std.proofs.Common.{◌≡◌, ℕ, ◌+◌, ◌≤◌, max, Bool, true, false, List, [], ◌∷◌, ◌++◌, length, Option, Some, None, refl, sym, ◌∙◌, arith}
use Rattle.std.specs.Prelude.{pos}
use Rattle.op_words.specs.declared.insn.Insn.TheVariants as i
use Rattle.syntax_tree.specs.declared.bindings.Bindings.{Bindings}
use Rattle.syntax_tree.specs.declared.bindings.Bound.TheVariants as bound
use Rattle.syntax_tree.specs.declared.tree.BinOp.{BinOp}
use Rattle.syntax_tree.specs.declared.tree.BinOp.TheVariants as op
use Rattle.syntax_tree.specs.declared.tree.FuncBody.{FuncBody, out-FuncBody}
use Rattle.syntax_tree.specs.Need.{StatNeed, block_from, block_need, declared_in, step_need, ExprNeed, need}
use Rattle.syntax_tree.specs.Lists.{greatest}
use Rattle.emit_expr.specs.declared.draft.Emitter.{Emitter}
use Rattle.emit_expr.specs.declared.draft.Loop.{Loop}
use Rattle.emit_expr.specs.declared.draft.Prototype.{Prototype}
use Rattle.emit_expr.specs.Puts as puts
use Rattle.emit_expr.specs.Puts.{label, mark_at, with_draft, with_child, with_prototype}
use Rattle.emit_expr.specs.Names as names
use Rattle.node_code.specs.Nodes as nodes
use Rattle.node_code.specs.Nodes.{ExprCode, StatCode, ArmCode, FuncCode, Target, NoTarget, Named}
use Rattle.node_code.specs.Code as code
use Rattle.operand_laws.specs.Laws.{IsFitting, AreFitting}
use Rattle.operand_laws.proofs.Instructions as insns
use Rattle.operand_laws.proofs.States.{Fine, insn, branch, place, variable, name_fine, register_fits, close_fine, ended_fine, captures_fine, declared_fine}
use Rattle.operand_laws.proofs.Uses.{Good, operand_fine, operand_below, operate_fine, assign_to_fine}

-- the marks of a loop are registers
abbrev pub IsLoop : Loop → Type 0
IsLoop l = (l.start.free ≤ 250) × (l.turn.free ≤ 250)

-- the code of a statement
pub record GoodStat (n : StatNeed) (s : StatCode) : Type 0 where
  pub declares : s.declares ≡ n.declares
  pub run : (count func free : ℕ) (l : Loop) (d : Emitter) → count ≤ 250 → free + n.need ≤ count → IsLoop l → Fine count func d → Fine count func (s.run free l d)

abbrev pub Stats : List StatCode → List StatNeed → Type 0
Stats [] [] = Unit {0}
Stats (s ∷ ss) (n ∷ ns) = GoodStat n s × Stats ss ns
Stats [] (n ∷ ns) = ⊥
Stats (s ∷ ss) [] = ⊥

pub declared_is : (ss : List StatCode) (ns : List StatNeed) → Stats ss ns → code.declared ss ≡ declared_in ns
declared_is [] [] g = refl
declared_is (s ∷ ss) (n ∷ ns) g =
    let a = g.0.declares in
    let r = declared_is ss ns g.1 in
    omega (arith, a, r)
declared_is [] (n ∷ ns) g = absurd g
declared_is (s ∷ ss) [] g = absurd g

module _ (count func : ℕ) (most : count ≤ 250) where
  pub stats_fine : (ss : List StatCode) (ns : List StatNeed) → Stats ss ns → (free declared at : ℕ) → at ≡ free + declared → free + block_from declared ns ≤ count → (l : Loop) → IsLoop l → (d : Emitter) → Fine count func d → Fine count func (code.stats_run ss at l d)
  stats_fine [] [] g free declared at e le l loop d f = f
  stats_fine (s ∷ ss) (n ∷ ns) g free declared at e le l loop d f =
      let a = g.0.declares in
      stats_fine ss ns g.1 free (declared + n.declares) (at + s.declares) (omega (arith, e, a)) (omega (arith, le)) l loop _
      (g.0.run count func at l d most (omega (arith, e, le)) loop f)
  stats_fine [] (n ∷ ns) g free declared at e le l loop d f = absurd g
  stats_fine (s ∷ ss) [] g free declared at e le l loop d f = absurd g

  pub body_fine : (ss : List StatCode) (ns : List StatNeed) → Stats ss ns → (free declared at : ℕ) → at ≡ free + declared → free + block_from declared ns ≤ count → (l : Loop) → IsLoop l → (d : Emitter) → Fine count func d → Fine count func (code.body_run ss at l d)
  body_fine [] [] g free declared at e le l loop d f = f
  body_fine (s ∷ ss) (n ∷ ns) g free declared at e le l loop d f =
      let a = g.0.declares in
      body_fine ss ns g.1 free (declared + n.declares) (at + s.declares) (omega (arith, e, a)) (omega (arith, le)) l loop _
      (g.0.run count func at (code.in_turn (mark_at at d) l) d most (omega (arith, e, le)) (loop.0, omega (arith, e, le, most)) f)
  body_fine [] (n ∷ ns) g free declared at e le l loop d f = absurd g
  body_fine (s ∷ ss) [] g free declared at e le l loop d f = absurd g

  module _ (b : Bindings) (ss : List StatCode) (ns : List StatNeed) (g : Stats ss ns) where
    pub block_fine : (free : ℕ) → free + block_need ns ≤ count → (l : Loop) → IsLoop l → (d : Emitter) → Fine count func d → Fine count func (code.block_run b ss free l d)
    block_fine free le l loop d f =
        ended_fine count func most b (mark_at free d) _ (omega (arith, le, most)) (stats_fine ss ns g free 0 free (omega arith) le l loop d f)

    pub turn_fine : (m : ℕ) (mark : m ≤ 250) (free id : ℕ) → free + block_need ns ≤ count → (before d : Emitter) → Fine count func d → Fine count func (code.turn_run b (mark_at m before) ss free id d)
    turn_fine m mark free id le before d f =
        ended_fine count func most b (mark_at m before) _ mark
        (place count func (label id 2) _ (body_fine ss ns g free 0 free (omega arith) le (code.loop_at id (mark_at m before)) (mark, mark) d f))

    pub while_fine : (n : ℕ) (cond : ExprCode) → Good n cond → (id free : ℕ) → free + max n (block_need ns) ≤ count → (d : Emitter) → Fine count func d → Fine count func (code.while_run b cond ss id free d)
    while_fine n cond c id free le d f =
        place count func (label id 1) _ (branch count func (i.JumpBack (pos 0)) (label id 0) _ (insns.jump_back count most)
        (turn_fine free (omega (arith, le, most)) free id (omega (arith, le)) d _ (c.jump count func false free (label id 1) _ most (omega (arith, le)) (place count func (label id 0) d f))))

    pub repeat_fine : (n : ℕ) (cond : ExprCode) → Good n cond → (id free : ℕ) → free + max (block_need ns) (declared_in ns + n) ≤ count → (d : Emitter) → Fine count func d → Fine count func (code.repeat_run b ss cond id free d)
    repeat_fine n cond c id free le d f =
        let mark = mark_at free d in
        let low : free ≤ 250 = omega (arith, le, most) in
        let same = declared_is ss ns g in
        let passed = place count func (label id 2) _ (body_fine ss ns g free 0 free (omega arith) (omega (arith, le)) (code.loop_at id mark) (low, low) _ (place count func (label id 0) d f)) in
        let tested = c.jump count func true (free + code.declared ss) (label id 3) _ most (omega (arith, le, same)) passed in
        place count func (label id 1) _ (ended_fine count func most b mark _ low
        (place count func (label id 3) _ (branch count func (i.JumpBack (pos 0)) (label id 0) _ (insns.jump_back count most) (close_fine count func most b mark _ low tested))))

  pub copied_fine : (n : ℕ) (e : ExprCode) → Good n e → (to at : ℕ) (d : Emitter) → to + 1 ≤ count → at + n ≤ count → Fine count func d → Fine count func (code.copied e to at d)
  copied_fine n e g to at d lt le f =
      insn count func _ (nodes.operand_run e at d) (insns.move count most to (nodes.operand_at e at d) lt (operand_below count func most n e g at d le f)) (operand_fine count func most n e g at d le f)

-- the step of a numeric loop, if there is one
abbrev pub GoodStep : Option ExprCode → Option ExprNeed → Type 0
GoodStep None None = Unit {0}
GoodStep (Some e) (Some n) = Good n.need e
GoodStep None (Some n) = ⊥
GoodStep (Some e) None = ⊥

module _ (count func : ℕ) (most : count ≤ 250) where
  step_fine : (o : Option ExprCode) (n : Option ExprNeed) → GoodStep o n → (free : ℕ) (d : Emitter) → free + 2 ≤ count → free + step_need n ≤ count → Fine count func d → Fine count func (code.step_run o free d)
  step_fine None None g free d lt le f =
      insn count func (i.LoadN (free + 1) (pos 1)) d (insns.load_number count most (free + 1) (pos 1) (omega (arith, lt)) (insns.short_fits 1 (omega arith))) f
  step_fine (Some e) (Some n) g free d lt le f = copied_fine count func most n.need e g (free + 1) (free + 3) d (omega (arith, lt)) (omega (arith, le)) f
  step_fine None (Some n) g free d lt le f = absurd g
  step_fine (Some e) None g free d lt le f = absurd g

  pub num_for_fine : (b : Bindings) (n m : ℕ) (start limit : ExprCode) → Good n start → Good m limit → (o : Option ExprCode) (on : Option ExprNeed) → GoodStep o on → (ss : List StatCode) (ns : List StatNeed) → Stats ss ns → (id free : ℕ) → free + max (max (3 + n) (3 + m)) (max (step_need on) (4 + block_need ns)) ≤ count → (d : Emitter) → Fine count func d → Fine count func (code.num_for_run b start limit o ss id free d)
  num_for_fine b n m start limit gs gl o on go ss ns g id free le d f =
      let s = gs.some in
      let f1 = gs.run count func (free + 2) 2 d most (omega (arith, le)) (omega (arith, le, s)) f in
      let f2 = copied_fine count func most m limit gl free (free + 3) _ (omega (arith, le)) (omega (arith, le)) f1 in
      let f3 = step_fine o on go free _ (omega (arith, le)) (omega (arith, le)) f2 in
      let f4 = branch count func (i.ForNPrep free (pos 0)) (label id 1) _ (insns.prepare_loop count most free (omega (arith, le))) f3 in
      let f5 = place count func (label id 0) _ f4 in
      let before = puts.place (label id 0) (puts.branch (i.ForNPrep free (pos 0)) (label id 1) (code.bounds_run start limit o free d)) in
      let f6 = insn count func (i.Move (free + 3) (free + 2)) before (insns.move count most (free + 3) (free + 2) (omega (arith, le, s)) (omega (arith, le, s))) f5 in
      let f7 = variable count func (names.first_at b id) (free + 3) _ (omega (arith, le, s)) f6 in
      let f8 = turn_fine count func most b ss ns g (free + 3) (omega (arith, le, most)) (free + 4) id (omega (arith, le)) before _ f7 in
      place count func (label id 1) _ (branch count func (i.ForNLoop free (pos 0)) (label id 0) _ (insns.turn_loop count most free (omega (arith, le))) f8)

  -- ---- compound assignments

  module _ (n : ℕ) (y : ExprCode) (g : Good n y) where
    joined_fine : (to left : ℕ) (d : Emitter) → to + 1 ≤ count → left + 1 + n ≤ count → Fine count func d → Fine count func (code.joined y to left d)
    joined_fine to left d lt le f =
        let s = g.some in
        insn count func (i.Concat to left (left + 1)) _ (insns.concat count most to left (left + 1) lt (omega (arith, le)) (omega (arith, le, s))) (g.run count func (left + 1) 2 d most le (omega (arith, le, s)) f)

    operated_fine : (z : BinOp) (to free : ℕ) (d : Emitter) → to + 1 ≤ count → free + 1 + n ≤ count → Fine count func d → Fine count func (code.operated z y to free d)
    operated_fine op.Concat to free d lt le f = joined_fine to free d lt le f
    operated_fine op.Or to free d lt le f = operate_fine count func most op.Or to free n y g (free + 1) d lt (omega (arith, le)) le f
    operated_fine op.And to free d lt le f = operate_fine count func most op.And to free n y g (free + 1) d lt (omega (arith, le)) le f
    operated_fine op.Lt to free d lt le f = operate_fine count func most op.Lt to free n y g (free + 1) d lt (omega (arith, le)) le f
    operated_fine op.Gt to free d lt le f = operate_fine count func most op.Gt to free n y g (free + 1) d lt (omega (arith, le)) le f
    operated_fine op.Le to free d lt le f = operate_fine count func most op.Le to free n y g (free + 1) d lt (omega (arith, le)) le f
    operated_fine op.Ge to free d lt le f = operate_fine count func most op.Ge to free n y g (free + 1) d lt (omega (arith, le)) le f
    operated_fine op.Ne to free d lt le f = operate_fine count func most op.Ne to free n y g (free + 1) d lt (omega (arith, le)) le f
    operated_fine op.Eq to free d lt le f = operate_fine count func most op.Eq to free n y g (free + 1) d lt (omega (arith, le)) le f
    operated_fine op.Add to free d lt le f = operate_fine count func most op.Add to free n y g (free + 1) d lt (omega (arith, le)) le f
    operated_fine op.Sub to free d lt le f = operate_fine count func most op.Sub to free n y g (free + 1) d lt (omega (arith, le)) le f
    operated_fine op.Mul to free d lt le f = operate_fine count func most op.Mul to free n y g (free + 1) d lt (omega (arith, le)) le f
    operated_fine op.Div to free d lt le f = operate_fine count func most op.Div to free n y g (free + 1) d lt (omega (arith, le)) le f
    operated_fine op.Idiv to free d lt le f = operate_fine count func most op.Idiv to free n y g (free + 1) d lt (omega (arith, le)) le f
    operated_fine op.Mod to free d lt le f = operate_fine count func most op.Mod to free n y g (free + 1) d lt (omega (arith, le)) le f
    operated_fine op.Pow to free d lt le f = operate_fine count func most op.Pow to free n y g (free + 1) d lt (omega (arith, le)) le f

    own_fine : (z : BinOp) (register free : ℕ) (d : Emitter) → register + 1 ≤ count → free + 1 + n ≤ count → Fine count func d → Fine count func (code.update_own z y register free d)
    own_fine op.Concat register free d lt le f =
        joined_fine register free _ lt le (insn count func (i.Move free register) d (insns.move count most free register (omega (arith, le)) lt) f)
    own_fine op.Or register free d lt le f = operate_fine count func most op.Or register register n y g free d lt lt (omega (arith, le)) f
    own_fine op.And register free d lt le f = operate_fine count func most op.And register register n y g free d lt lt (omega (arith, le)) f
    own_fine op.Lt register free d lt le f = operate_fine count func most op.Lt register register n y g free d lt lt (omega (arith, le)) f
    own_fine op.Gt register free d lt le f = operate_fine count func most op.Gt register register n y g free d lt lt (omega (arith, le)) f
    own_fine op.Le register free d lt le f = operate_fine count func most op.Le register register n y g free d lt lt (omega (arith, le)) f
    own_fine op.Ge register free d lt le f = operate_fine count func most op.Ge register register n y g free d lt lt (omega (arith, le)) f
    own_fine op.Ne register free d lt le f = operate_fine count func most op.Ne register register n y g free d lt lt (omega (arith, le)) f
    own_fine op.Eq register free d lt le f = operate_fine count func most op.Eq register register n y g free d lt lt (omega (arith, le)) f
    own_fine op.Add register free d lt le f = operate_fine count func most op.Add register register n y g free d lt lt (omega (arith, le)) f
    own_fine op.Sub register free d lt le f = operate_fine count func most op.Sub register register n y g free d lt lt (omega (arith, le)) f
    own_fine op.Mul register free d lt le f = operate_fine count func most op.Mul register register n y g free d lt lt (omega (arith, le)) f
    own_fine op.Div register free d lt le f = operate_fine count func most op.Div register register n y g free d lt lt (omega (arith, le)) f
    own_fine op.Idiv register free d lt le f = operate_fine count func most op.Idiv register register n y g free d lt lt (omega (arith, le)) f
    own_fine op.Mod register free d lt le f = operate_fine count func most op.Mod register register n y g free d lt lt (omega (arith, le)) f
    own_fine op.Pow register free d lt le f = operate_fine count func most op.Pow register register n y g free d lt lt (omega (arith, le)) f

    pub update_fine : (b : Bindings) (t : Target) (z : BinOp) (free : ℕ) (d : Emitter) → free + 1 + n ≤ count → Fine count func d → Fine count func (code.update_run b t z y free d)
    update_fine b NoTarget z free d le f = f
    update_fine b (Named (bound.Local k) name) z free d le f = which (names.is_captured b k)
      where
        register : names.register_of k d + 1 ≤ count
        register = register_fits count func k d (omega (arith, le)) f

        which : (t : Bool) → Fine count func (code.update_local t z y (names.register_of k d) free d)
        which true =
            operated_fine z (names.register_of k d) free _ register le (insn count func (i.Move free (names.register_of k d)) d (insns.move count most free (names.register_of k d) (omega (arith, le)) register) f)
        which false = own_fine z (names.register_of k d) free d register le f
    update_fine b (Named (bound.Up k) name) z free d le f =
        assign_to_fine count func most b (Named (bound.Up k) name) free _ (omega (arith, le)) (operated_fine z free free _ (omega (arith, le)) le (name_fine count func most b (bound.Up k) name free d (omega (arith, le)) f))
    update_fine b (Named bound.Global name) z free d le f =
        assign_to_fine count func most b (Named bound.Global name) free _ (omega (arith, le)) (operated_fine z free free _ (omega (arith, le)) le (name_fine count func most b bound.Global name free d (omega (arith, le)) f))

-- ---- branches

pub record GoodArm (n : ℕ) (a : ArmCode) : Type 0 where
  pub tested : ℕ
  pub needs : List StatNeed
  pub cond : Good tested a.cond
  pub body : Stats a.body needs
  pub most : max tested (block_need needs) ≤ n

abbrev pub GoodArms : List ArmCode → List ℕ → Type 0
GoodArms [] [] = Unit {0}
GoodArms (a ∷ l) (n ∷ ns) = GoodArm n a × GoodArms l ns
GoodArms [] (n ∷ ns) = ⊥
GoodArms (a ∷ l) [] = ⊥

module _ (count func : ℕ) (most : count ≤ 250) (b : Bindings) (id free : ℕ) (around : Loop) (loop : IsLoop around) where
  skip_fine : (more : Bool) (d : Emitter) → Fine count func d → Fine count func (code.skip_rest more id d)
  skip_fine true d f = branch count func (i.Jump (pos 0)) (label id 0) d (insns.jump count most) f
  skip_fine false d f = f

  pub arms_fine : (other : Bool) (l : List ArmCode) (ns : List ℕ) → GoodArms l ns → free + greatest ns ≤ count → (d : Emitter) → Fine count func d → Fine count func (code.arms_run b other l id free around d)
  arms_fine other [] [] g le d f = f
  arms_fine other (a ∷ l) (n ∷ ns) g le d f =
      let m = g.0.most in
      arms_fine other l ns g.1 (omega (arith, le)) _
      (place count func (label a.cond.id 1) _ (skip_fine (code.has_more other (length l)) _ (block_fine count func most b a.body g.0.needs g.0.body free (omega (arith, le, m)) around loop _ (g.0.cond.jump count func false free (label a.cond.id 1) d most (omega (arith, le, m)) f))))
  arms_fine other [] (n ∷ ns) g le d f = absurd g
  arms_fine other (a ∷ l) [] g le d f = absurd g

-- ---- functions

-- the code of a function, whose closure is made in a register
abbrev pub GoodFunc : FuncCode → Type 0
GoodFunc c = (count func to : ℕ) (d : Emitter) → count ≤ 250 → to + 1 ≤ count → Fine count func d → Fine count func (c to d)

all_fitting : (ps : List Prototype) (p : Prototype) → AreFitting ps → IsFitting p → AreFitting (ps ++ p ∷ [])
all_fitting [] p h is = (is, tt)
all_fitting (q ∷ ps) p h is = (h.0, all_fitting ps p h.1 is)

begun_fine : (count id : ℕ) (d : Emitter) → AreFitting d.protos → Fine count id (puts.with_draft (puts.blank id) d)
unfolding with_draft
begun_fine count id d h = record { items = tt; variables = tt; named = refl; protos = h }

restored_fine : (count func : ℕ) (d inside : Emitter) → Fine count func d → AreFitting inside.protos → Fine count func (puts.with_draft d.draft inside)
unfolding with_draft
restored_fine count func d inside f h = record { items = f.items; variables = f.variables; named = f.named; protos = h }

child_fine : (count func number : ℕ) (d : Emitter) → Fine count func d → Fine count func (puts.with_child number d)
unfolding with_child
child_fine count func number d f = record { items = f.items; variables = f.variables; named = f.named; protos = f.protos }

prototype_fine : (count func : ℕ) (p : Prototype) (d : Emitter) → IsFitting p → Fine count func d → Fine count func (puts.with_prototype p d)
unfolding with_prototype
prototype_fine count func p d is f = record { items = f.items; variables = f.variables; named = f.named; protos = all_fitting d.protos p f.protos is }

prepared_fine : (count func : ℕ) (most : count ≤ 250) (vararg : Bool) (params : ℕ) (d : Emitter) → params ≤ 250 → Fine count func d → Fine count func (code.prepared vararg params d)
prepared_fine count func most true params d le f = insn count func (i.PrepVarargs params) d (insns.prep count most params le) f
prepared_fine count func most false params d le f = f

pub func_fine : (b : Bindings) (body_of : FuncBody) (id params : ℕ) (vararg : Bool) (ss : List StatCode) (ns : List StatNeed) → Stats ss ns → (out-FuncBody body_of).id ≡ id → need body_of ≡ params + block_need ns → need body_of ≤ 250 → GoodFunc (code.func_run b id params vararg ss)
func_fine b body_of id params vararg ss ns g number sum few count func to d most lt f =
    let size = max (need body_of) 1 in
    let most' : size ≤ 250 = omega (arith, few) in
    let d1 = code.prepared vararg params (puts.with_draft (puts.blank id) d) in
    let d2 = names.declare_all (names.first_at b id) 0 params d1 in
    let d3 = code.stats_run ss params code.no_loop d2 in
    let d4 = puts.insn (i.Return 0 1) d3 in
    let f1 = prepared_fine size id most' vararg params _ (omega (arith, sum, few)) (begun_fine size id d f.protos) in
    let f2 = declared_fine size id most' b (names.first_at b id) 0 params d1 (omega (arith, sum)) f1 in
    let f3 = stats_fine size id most' ss ns g params 0 params (omega arith) (omega (arith, sum)) code.no_loop (omega arith, omega arith) d2 f2 in
    let f4 : Fine size id d4 = insn size id (i.Return 0 1) d3 (insns.return_list size most' 0 1 (λ e. cc) (omega arith)) f3 in
    let o0 = restored_fine count func d d4 f f4.protos in
    let o1 = insn count func (i.NewClosure to (puts.short (length d.draft.children))) (puts.with_draft d.draft d4) (insns.new_closure count most to (length d.draft.children) lt) o0 in
    let o2 = child_fine count func (length d4.protos) _ o1 in
    let o3 = captures_fine count func most b (names.upvalues_at b d4.draft.func) _ o2 in
    prototype_fine count func (puts.done params vararg d4.draft) _ (record { func = body_of; number = number ∙ sym f4.named; few = few; few_params = omega (arith, sum, few); fits = f4.items }) o3
