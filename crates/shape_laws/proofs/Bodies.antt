-- The code of statements keeps the shape.
use Rattle.std.proofs.Common.{◌≡◌, ℕ, ◌+◌, Bool, true, false, List, [], ◌∷◌, length, Option, Some, None, refl, arith, inl, inr}
use Rattle.std.specs.Prelude.{pos}
use Rattle.op_words.specs.declared.insn.Insn.TheVariants as i
use Rattle.syntax_tree.specs.declared.bindings.Bindings.{Bindings}
use Rattle.syntax_tree.specs.declared.bindings.Bound.TheVariants as bound
use Rattle.syntax_tree.specs.declared.tree.BinOp.{BinOp}
use Rattle.syntax_tree.specs.declared.tree.BinOp.TheVariants as op
use Rattle.emit_expr.specs.declared.draft.Emitter.{Emitter}
use Rattle.emit_expr.specs.declared.draft.Loop.{Loop}
use Rattle.emit_expr.specs.declared.draft.Mark.{Mark}
use Rattle.emit_expr.specs.Puts.{label, mark_at}
use Rattle.emit_expr.specs.Names as names
use Rattle.node_code.specs.Nodes as nodes
use Rattle.node_code.specs.Nodes.{ExprCode, StatCode, ArmCode, Target, NoTarget, Named}
use Rattle.node_code.specs.Code as code
use Rattle.shape_laws.specs.Order.{Nothing}
use Rattle.shape_laws.specs.Jumps.{Among, Await, Ahead, Around}
use Rattle.shape_laws.proofs.Simple as insns
use Rattle.shape_laws.proofs.Simple.{simple_by, insn_by, Simple}
use Rattle.shape_laws.proofs.States.{Frame, awaiting, placing, State, simple, onward, ahead, back, place, await, mark, unmark, loop_end, variable}
use Rattle.shape_laws.proofs.Uses.{Good, moves, joins, loads_number, operand_good, name_good, assign_to_good, close_good, ended_good}
use Rattle.shape_laws.proofs.Operators.{operate_good}

jumps_back_insn : Simple (i.JumpBack (pos 0))
jumps_back_insn = simple_by _ refl refl refl refl refl refl refl refl refl refl

prepares : (a : ℕ) → Simple (i.ForNPrep a (pos 0))
prepares a = simple_by _ refl refl refl refl refl refl refl refl refl refl

turns : (a : ℕ) → Simple (i.ForNLoop a (pos 0))
turns a = simple_by _ refl refl refl refl refl refl refl refl refl refl

-- where a statement stands in a loop, the loop's ends are awaited
abbrev pub Exits : Frame → Bool → Loop → Type 0
Exits k looped l = looped ≡ true → Among (Ahead (label l.node 1)) k.pending × Among (Ahead (label l.node 2)) k.pending

-- those of a loop itself
abbrev pub in_loop : (id : ℕ) → Frame → Frame
in_loop id k = awaiting (Ahead (label id 2)) (awaiting (Ahead (label id 1)) k)

module _ (b : Bindings) where
  -- the code of a statement, in a loop or not
  abbrev pub GoodStat : Bool → StatCode → Type 0
  GoodStat looped s = (k : Frame) (free : ℕ) (l : Loop) (d : Emitter) → Exits k looped l → State b k Nothing d → State b k Nothing (s.run free l d)

  abbrev pub Stats : Bool → List StatCode → Type 0
  Stats looped [] = Unit {0}
  Stats looped (s ∷ ss) = GoodStat looped s × Stats looped ss

  pub stats_good : (looped : Bool) (ss : List StatCode) → Stats looped ss → (k : Frame) (free : ℕ) (l : Loop) (d : Emitter) → Exits k looped l
      → State b k Nothing d
      → State b k Nothing (code.stats_run ss free l d)
  stats_good looped [] g k free l d out f = f
  stats_good looped (s ∷ ss) g k free l d out f = stats_good looped ss g.1 k (free + s.declares) l _ out (g.0 k free l d out f)

  body_good : (looped : Bool) (ss : List StatCode) → Stats looped ss → (k : Frame) (free : ℕ) (l : Loop) (d : Emitter) → Exits k looped l → State b k Nothing d
      → State b k Nothing (code.body_run ss free l d)
  body_good looped [] g k free l d out f = f
  body_good looped (s ∷ ss) g k free l d out f =
      body_good looped ss g.1 k (free + s.declares) l _ out (g.0 k free (code.in_turn (mark_at free d) l) d out f)

  pub block_good : (looped : Bool) (ss : List StatCode) → Stats looped ss → (k : Frame) (free : ℕ) (l : Loop) (d : Emitter) → Exits k looped l
      → State b k Nothing d
      → State b k Nothing (code.block_run b ss free l d)
  block_good looped ss g k free l d out f = ended_good b k (mark_at free d) _ (stats_good looped ss g k free l d out f)

  -- ---- loops

  module _ (ss : List StatCode) (g : Stats true ss) where
    pass_good : (k : Frame) (m : Mark) (free id : ℕ) (d : Emitter) → State b (in_loop id k) Nothing d
        → State b (awaiting (Ahead (label id 1)) k) Nothing (code.pass_run m ss free id d)
    pass_good k m free id d f =
        place b (awaiting (Ahead (label id 1)) k) (label id 2) Nothing _ refl
        (body_good true ss g (in_loop id k) free (code.loop_at id m) d (λ e. (inr (inl refl), inl refl)) f)

    turn_good : (k : Frame) (m : Mark) (free id : ℕ) (d : Emitter) → State b (in_loop id k) Nothing d
        → State b (awaiting (Ahead (label id 1)) k) Nothing (code.turn_run b m ss free id d)
    turn_good k m free id d f = ended_good b (awaiting (Ahead (label id 1)) k) m _ (pass_good k m free id d f)

    pub while_good : (cond : ExprCode) → Good b cond → (id : ℕ) (k : Frame) (free : ℕ) (d : Emitter) → State b k Nothing d
        → State b k Nothing (code.while_run b cond ss id free d)
    while_good cond c id k free d f =
        let k1 = placing (label id 0) k in
        let f1 = mark b k (label id 0) d f in
        let f2 = await b _ (Ahead (label id 2)) Nothing _ (await b k1 (Ahead (label id 1)) Nothing _ f1) in
        let f3 = c.jump (in_loop id k1) false free (label id 1) _ (inr (inl refl)) f2 in
        let f4 = turn_good k1 (mark_at free d) free id _ f3 in
        let f5 = back b (awaiting (Ahead (label id 1)) k1) (i.JumpBack (pos 0)) (label id 0) _ jumps_back_insn refl (inl refl) f4 in
        unmark b k (label id 0) Nothing _ (place b k1 (label id 1) Nothing _ refl f5)

    pub repeat_good : (cond : ExprCode) → Good b cond → (id : ℕ) (k : Frame) (free : ℕ) (d : Emitter) → State b k Nothing d
        → State b k Nothing (code.repeat_run b ss cond id free d)
    repeat_good cond c id k free d f =
        let m = mark_at free d in
        let k1 = placing (label id 0) k in
        let k2 = awaiting (Ahead (label id 1)) k1 in
        let k3 = awaiting (Ahead (label id 3)) k2 in
        let f1 = mark b k (label id 0) d f in
        let f2 = await b _ (Ahead (label id 2)) Nothing _ (await b k1 (Ahead (label id 1)) Nothing _ f1) in
        let f3 = pass_good k1 m free id _ f2 in
        let f4 = c.jump k3 true (free + code.declared ss) (label id 3) _ (inl refl) (await b k2 (Ahead (label id 3)) Nothing _ f3) in
        let f5 = back b k3 (i.JumpBack (pos 0)) (label id 0) _ jumps_back_insn refl (inl refl) (close_good b k3 m _ f4) in
        let f6 = ended_good b k2 m _ (place b k2 (label id 3) Nothing _ refl f5) in
        unmark b k (label id 0) Nothing _ (place b k1 (label id 1) Nothing _ refl f6)

  copied_good : (e : ExprCode) → Good b e → (k : Frame) (to at : ℕ) (d : Emitter) → State b k Nothing d → State b k Nothing (code.copied e to at d)
  copied_good e g k to at d f = simple b k _ (nodes.operand_run e at d) (moves to (nodes.operand_at e at d)) (operand_good b e g k at d f)

  -- the step of a numeric loop, if there is one
  abbrev pub GoodStep : Option ExprCode → Type 0
  GoodStep None = Unit {0}
  GoodStep (Some e) = Good b e

  step_good : (o : Option ExprCode) → GoodStep o → (k : Frame) (free : ℕ) (d : Emitter) → State b k Nothing d → State b k Nothing (code.step_run o free d)
  step_good None g k free d f = simple b k _ d (loads_number (free + 1) (pos 1)) f
  step_good (Some e) g k free d f = copied_good e g k (free + 1) (free + 3) d f

  pub num_for_good : (start limit : ExprCode) → Good b start → Good b limit → (o : Option ExprCode) → GoodStep o → (ss : List StatCode) → Stats true ss
      → (id : ℕ) (k : Frame) (free : ℕ) (d : Emitter)
      → State b k Nothing d → State b k Nothing (code.num_for_run b start limit o ss id free d)
  num_for_good start limit gs gl o go ss g id k free d f =
      let first = label id 0 in
      let last = label id 1 in
      let k1 = awaiting (Around free last) (awaiting (Ahead last) k) in
      let k2 = placing first k1 in
      let f1 = step_good o go k free _ (copied_good limit gl k free (free + 3) _ (gs.run k (free + 2) 2 d (omega arith) f)) in
      let f2 = await b _ (Around free last) Nothing _ (await b k (Ahead last) Nothing _ f1) in
      let f3 = ahead b k1 (i.ForNPrep free (pos 0)) last _ (prepares free) refl (inl refl) f2 in
      let d4 = code.for_begin id free (code.bounds_run start limit o free d) in
      let f4 = mark b k1 first _ f3 in
      let f5 = variable b k2 Nothing (names.first_at b id) (free + 3) _ (simple b k2 (i.Move (free + 3) (free + 2)) d4 (moves (free + 3) (free + 2)) f4) in
      let k3 = awaiting (Ahead (label id 2)) k2 in
      let m = mark_at (free + 3) d4 in
      let f6 = body_good true ss g k3 (free + 4) (code.loop_at id m) _ (λ e. (inr (inr (inl refl)), inl refl)) (await b k2 (Ahead (label id 2)) Nothing _ f5) in
      let f7 = ended_good b k2 m _ (place b k2 (label id 2) Nothing _ refl f6) in
      unmark b k first Nothing _ (loop_end b (placing first k) free last first (pos 0) _ (turns free) (inl refl) f7)

  -- ---- compound assignments

  module _ (y : ExprCode) (g : Good b y) (k : Frame) where
    joined_good : (to left : ℕ) (d : Emitter) → State b k Nothing d → State b k Nothing (code.joined y to left d)
    joined_good to left d f = simple b k _ _ (joins to left (left + 1) (omega arith)) (g.run k (left + 1) 2 d (omega arith) f)

    operated_good : (z : BinOp) (to free : ℕ) (d : Emitter) → State b k Nothing d → State b k Nothing (code.operated z y to free d)
    operated_good op.Concat to free d f = joined_good to free d f
    operated_good z to free d f = operate_good b k z to free y g (free + 1) d f

    own_good : (z : BinOp) (register free : ℕ) (d : Emitter) → State b k Nothing d → State b k Nothing (code.update_own z y register free d)
    own_good op.Concat register free d f = joined_good register free _ (simple b k (i.Move free register) d (moves free register) f)
    own_good z register free d f = operate_good b k z register register y g free d f

    pub update_good : (t : Target) (z : BinOp) (free : ℕ) (d : Emitter) → State b k Nothing d → State b k Nothing (code.update_run b t z y free d)
    update_good NoTarget z free d f = f
    update_good (Named (bound.Local n) name) z free d f = which (names.is_captured b n)
      where
        which : (t : Bool) → State b k Nothing (code.update_local t z y (names.register_of n d) free d)
        which true = operated_good z (names.register_of n d) free _ (simple b k _ d (moves free (names.register_of n d)) f)
        which false = own_good z (names.register_of n d) free d f
    update_good (Named (bound.Up n) name) z free d f =
        assign_to_good b k (Named (bound.Up n) name) free _ (operated_good z free free _ (name_good b k (bound.Up n) name free d f))
    update_good (Named bound.Global name) z free d f =
        assign_to_good b k (Named bound.Global name) free _ (operated_good z free free _ (name_good b k bound.Global name free d f))

  -- ---- branches

  pub record GoodArm (looped : Bool) (a : ArmCode) : Type 0 where
    pub cond : Good b a.cond
    pub body : Stats looped a.body

  abbrev pub GoodArms : Bool → List ArmCode → Type 0
  GoodArms looped [] = Unit {0}
  GoodArms looped (a ∷ l) = GoodArm looped a × GoodArms looped l

  more_out : (k : Frame) (w : Await) (looped : Bool) (l : Loop) → Exits k looped l → Exits (awaiting w k) looped l
  more_out k w looped l out e = let o = out e in (inr o.0, inr o.1)

  module _ (looped : Bool) (id free : ℕ) (around : Loop) where
    skip_good : (k : Frame) (more : Bool) (d : Emitter) → Among (Ahead (label id 0)) k.pending → State b k Nothing d
        → State b k Nothing (code.skip_rest more id d)
    skip_good k true d p f = onward b k (i.Jump (pos 0)) (label id 0) d (insns.jump (pos 0)) p f
    skip_good k false d p f = f

    arms_good : (other : Bool) (l : List ArmCode) → GoodArms looped l → (k : Frame) (d : Emitter) → Exits k looped around
        → Among (Ahead (label id 0)) k.pending → State b k Nothing d
        → State b k Nothing (code.arms_run b other l id free around d)
    arms_good other [] g k d out p f = f
    arms_good other (a ∷ l) g k d out p f =
        let next = label a.cond.id 1 in
        let k1 = awaiting (Ahead next) k in
        let f1 = g.0.cond.jump k1 false free next d (inl refl) (await b k (Ahead next) Nothing d f) in
        let f2 = block_good looped a.body g.0.body k1 free around _ (more_out k (Ahead next) looped around out) f1 in
        let f3 = skip_good k1 (code.has_more other (length l)) _ (inr p) f2 in
        arms_good other l g.1 k _ out p (place b k next Nothing _ refl f3)

    pub branches_good : (l : List ArmCode) → GoodArms looped l → (k : Frame) (d : Emitter) → Exits k looped around → State b k Nothing d
        → State b k Nothing (code.branches_run b l None id free around d)
    branches_good l g k d out f =
        let k1 = awaiting (Ahead (label id 0)) k in
        place b k (label id 0) Nothing _ refl
        (arms_good false l g k1 d (more_out k (Ahead (label id 0)) looped around out) (inl refl) (await b k (Ahead (label id 0)) Nothing d f))

    pub else_good : (l : List ArmCode) → GoodArms looped l → (ss : List StatCode) → Stats looped ss → (k : Frame) (d : Emitter) → Exits k looped around
        → State b k Nothing d
        → State b k Nothing (code.branches_run b l (Some ss) id free around d)
    else_good l g ss h k d out f =
        let k1 = awaiting (Ahead (label id 0)) k in
        let out1 = more_out k (Ahead (label id 0)) looped around out in
        place b k (label id 0) Nothing _ refl (block_good looped ss h k1 free around _ out1
        (arms_good true l g k1 d out1 (inl refl) (await b k (Ahead (label id 0)) Nothing d f)))
