-- The code of statements names upvalues that are the function's own, and gives the names that it shows their variables.
use Rattle.std.proofs.Common.{◌≡◌, ℕ, ◌+◌, ◌-◌, ◌<◌, ◌^◌, Bool, true, false, List, [], ◌∷◌, ◌++◌, length, map, Option, Some, None, refl, sym, ap, subst, arith}
use Rattle.std.specs.Prelude.{pos}
use Rattle.byte_text.specs.declared.fixed.StrId.{StrId}
use Rattle.op_words.specs.declared.insn.Insn.TheVariants as i
use Rattle.syntax_tree.specs.declared.bindings.Bindings.{Bindings}
use Rattle.syntax_tree.specs.declared.bindings.Bound.TheVariants as bound
use Rattle.syntax_tree.specs.declared.notes.Visible.{Visible}
use Rattle.syntax_tree.specs.declared.tree.BinOp.{BinOp}
use Rattle.syntax_tree.specs.declared.tree.BinOp.TheVariants as op
use Rattle.syntax_tree.specs.declared.tree.Stat.{Stat}
use Rattle.emit_expr.specs.declared.draft.Emitter.{Emitter}
use Rattle.emit_expr.specs.declared.draft.Loop.{Loop}
use Rattle.emit_expr.specs.declared.draft.Mark.{Mark}
use Rattle.emit_expr.specs.declared.draft.Variable.{Variable}
use Rattle.emit_expr.specs.Puts as puts
use Rattle.emit_expr.specs.Puts.{label, mark_at}
use Rattle.emit_expr.specs.Names as names
use Rattle.emit_laws.specs.Growing.{Prefix}
use Rattle.emit_laws.proofs.Grows as grows
use Rattle.node_code.specs.Nodes.{ExprCode, StatCode, ArmCode, Target, NoTarget, Named}
use Rattle.node_code.specs.Code as code
use Rattle.node_code.specs.Code.{stat_code}
use Rattle.scope_laws.specs.Sight.{Sight, stat, visible, shows, behind}
use Rattle.upvalue_laws.proofs.States.{State, HasVar, Covered, covered_front, covered_prefix, covered_both, var_last, Declared, insn, branch, place, variable, close_good, ended_good}
use Rattle.upvalue_laws.proofs.Uses.{Good, FitTarget, operand_good, operate_good, name_good, assign_to_good}

same : (vs : List Variable) → Prefix vs vs
same vs = grows.same vs

pub behind_of : (vs : List Variable) (v : Variable) → Prefix vs (vs ++ v ∷ [])
behind_of vs v = grows.behind vs (v ∷ [])

module _ (b : Bindings) (func first : ℕ) where
  -- the code of a statement that shows these names
  abbrev pub GoodStat : List Variable → List Visible → StatCode → Type 0
  GoodStat vs us s = (free : ℕ) (l : Loop) (d : Emitter) → State b func vs d → Declared b func first vs us (s.run free l d)

  -- which shows none
  pub quiet : (vs : List Variable) (d : Emitter) → State b func vs d → Declared b func first vs [] d
  quiet vs d f = record { new = vs; front = same vs; covers = tt; state = f }

  pub all_declared : (xs : List StrId) (number register : ℕ) (vs : List Variable) (d : Emitter) → ((j : ℕ) → j < length xs → number + j < 2 ^ 64 - 1)
      → State b func vs d
      → Declared b func first vs (visible number xs) (names.declare_all number register (length xs) d)
  all_declared [] number register vs d few f = quiet vs d f
  all_declared (x ∷ xs) number register vs d few f =
      let one = few 0 (omega arith) in
      let next : number + 1 ≡ names.next_number number = omega (arith, one) in
      let v : Variable = record { number = number; register = register } in
      let with_it = vs ++ v ∷ [] in
      let rest = all_declared xs (number + 1) (register + 1) with_it (puts.declare number register d) (λ j lt. let g = few (j + 1) (omega
      (arith, lt)) in omega (arith, g)) (variable b func vs number register d f) in
      let done : Declared b func first with_it (visible (number + 1) xs) (names.declare_all (names.next_number number) (register + 1) (length xs)
      (puts.declare number register d)) =
      subst (λ n. Declared b func first with_it (visible (number + 1) xs) (names.declare_all n (register + 1) (length xs)
      (puts.declare number register d))) next rest in
      let here : Covered first with_it (record { name = x; local = number } ∷ []) = ((λ le. var_last vs v), tt) in
      let kept : Covered first done.new (record { name = x; local = number } ∷ []) = covered_prefix first with_it done.new
      (record { name = x; local = number } ∷ []) done.front here in
      record {
        new = done.new;
        front = grows.longer vs with_it done.new (grows.behind vs (v ∷ [])) done.front;
        covers = (kept.0, done.covers);
        state = done.state;
      }

module _ (b : Bindings) where
  -- ---- blocks

  abbrev pub StatOf : Sight → Stat → Type 0
  StatOf s x = (vs : List Variable) → Covered s.first vs s.scope → GoodStat b s.func s.first vs (shows (stat x) s.declared) (stat_code b x)

  -- each statement, where the ones before it are seen
  abbrev pub Stats : Sight → List Stat → Type 0
  Stats s [] = Unit {0}
  Stats s (x ∷ xs) = StatOf s x × Stats (behind (stat x) s) xs

  abbrev pub stats_behind : List Stat → Sight → Sight
  stats_behind [] s = s
  stats_behind (x ∷ xs) s = stats_behind xs (behind (stat x) s)

  -- behind statements
  pub record Ran (s : Sight) (xs : List Stat) (vs : List Variable) (d : Emitter) : Type 0 where
    pub new : List Variable
    pub front : Prefix vs new
    pub covers : Covered s.first new (stats_behind xs s).scope
    pub state : State b s.func new d

  pub stats_good : (xs : List Stat) (s : Sight) → Stats s xs → (vs : List Variable) → Covered s.first vs s.scope → (free : ℕ) (l : Loop) (d : Emitter)
      → State b s.func vs d
      → Ran s xs vs (code.stats_run (map (stat_code b) xs) free l d)
  stats_good [] s g vs c free l d f = record { new = vs; front = same vs; covers = c; state = f }
  stats_good (x ∷ xs) s g vs c free l d f =
      let h = g.0 vs c free l d f in
      let c' : Covered s.first h.new (s.scope ++ shows (stat x) s.declared) = covered_both s.first h.new s.scope (shows (stat x) s.declared)
      (covered_prefix s.first vs h.new s.scope h.front c) h.covers in
      let r = stats_good xs (behind (stat x) s) g.1 h.new c' (free + (stat_code b x).declares) l _ h.state in
      record { new = r.new; front = grows.longer vs h.new r.new h.front r.front; covers = r.covers; state = r.state }

  body_good : (xs : List Stat) (s : Sight) → Stats s xs → (vs : List Variable) → Covered s.first vs s.scope → (free : ℕ) (l : Loop) (d : Emitter)
      → State b s.func vs d
      → Ran s xs vs (code.body_run (map (stat_code b) xs) free l d)
  body_good [] s g vs c free l d f = record { new = vs; front = same vs; covers = c; state = f }
  body_good (x ∷ xs) s g vs c free l d f =
      let h = g.0 vs c free (code.in_turn (mark_at free d) l) d f in
      let c' : Covered s.first h.new (s.scope ++ shows (stat x) s.declared) = covered_both s.first h.new s.scope (shows (stat x) s.declared)
      (covered_prefix s.first vs h.new s.scope h.front c) h.covers in
      let r = body_good xs (behind (stat x) s) g.1 h.new c' (free + (stat_code b x).declares) l _ h.state in
      record { new = r.new; front = grows.longer vs h.new r.new h.front r.front; covers = r.covers; state = r.state }

  marked : (func free : ℕ) (vs : List Variable) (d : Emitter) → State b func vs d → (mark_at free d).variables ≡ length vs
  marked func free vs d f = ap length f.variables

  pub block_good : (xs : List Stat) (s : Sight) → Stats s xs → (vs : List Variable) → Covered s.first vs s.scope → (free : ℕ) (l : Loop) (d : Emitter)
      → State b s.func vs d
      → State b s.func vs (code.block_run b (map (stat_code b) xs) free l d)
  block_good xs s g vs c free l d f =
      let r = stats_good xs s g vs c free l d f in
      ended_good b s.func vs r.new (mark_at free d) _ (marked s.func free vs d f) r.front r.state

  -- ---- loops

  module _ (xs : List Stat) (s : Sight) (g : Stats s xs) where
    -- the body, where more variables may be in scope than when the loop began
    turn_good : (before vs : List Variable) → Prefix before vs → Covered s.first vs s.scope → (m : Mark) → m.variables ≡ length before
        → (free id : ℕ) (d : Emitter) → State b s.func vs d
        → State b s.func before (code.turn_run b m (map (stat_code b) xs) free id d)
    turn_good before vs p c m e free id d f =
        let r = body_good xs s g vs c free (code.loop_at id m) d f in
        ended_good b s.func before r.new m _ e (grows.longer before vs r.new p r.front) (place b s.func r.new (label id 2) _ r.state)

    pub while_good : (vs : List Variable) → Covered s.first vs s.scope → (cond : ExprCode) → Good b s.func vs cond → (id free : ℕ) (d : Emitter)
        → State b s.func vs d
        → State b s.func vs (code.while_run b cond (map (stat_code b) xs) id free d)
    while_good vs c cond h id free d f =
        place b s.func vs (label id 1) _ (branch b s.func vs (i.JumpBack (pos 0)) (label id 0) _ refl
        (turn_good vs vs (same vs) c (mark_at free d) (marked s.func free vs d f) free id _ (h.jump false free (label id 1) _ (place b s.func vs
        (label id 0) d f))))

    pub repeat_good : (vs : List Variable) → Covered s.first vs s.scope → (cond : ExprCode) → ((ws : List Variable)
        → Covered s.first ws (stats_behind xs s).scope → Good b s.func ws cond)
        → (id free : ℕ) (d : Emitter) → State b s.func vs d → State b s.func vs (code.repeat_run b (map (stat_code b) xs) cond id free d)
    repeat_good vs c cond h id free d f =
        let m = mark_at free d in
        let e = marked s.func free vs d f in
        let r = body_good xs s g vs c free (code.loop_at id m) _ (place b s.func vs (label id 0) d f) in
        let tested = (h r.new r.covers).jump true (free + code.declared (map (stat_code b) xs)) (label id 3) _ (place b s.func r.new (label id 2) _ r.state) in
        let closed = place b s.func r.new (label id 3) _ (branch b s.func r.new (i.JumpBack (pos 0)) (label id 0) _ refl
        (close_good b s.func r.new m _ tested)) in
        place b s.func vs (label id 1) _ (ended_good b s.func vs r.new m _ e r.front closed)

  module _ (func : ℕ) (vs : List Variable) where
    copied_good : (e : ExprCode) → Good b func vs e → (to at : ℕ) (d : Emitter) → State b func vs d → State b func vs (code.copied e to at d)
    copied_good e g to at d f = insn b func vs _ _ refl (operand_good b func vs e g at d f)

    -- the step of a numeric loop, if there is one
    abbrev pub GoodStep : Option ExprCode → Type 0
    GoodStep None = Unit {0}
    GoodStep (Some e) = Good b func vs e

    step_good : (o : Option ExprCode) → GoodStep o → (free : ℕ) (d : Emitter) → State b func vs d → State b func vs (code.step_run o free d)
    step_good None g free d f = insn b func vs _ d refl f
    step_good (Some e) g free d f = copied_good e g (free + 1) (free + 3) d f

    bounds_good : (start limit : ExprCode) → Good b func vs start → Good b func vs limit → (o : Option ExprCode) → GoodStep o → (free : ℕ) (d : Emitter)
        → State b func vs d
        → State b func vs (code.bounds_run start limit o free d)
    bounds_good start limit gs gl o go free d f = step_good o go free _ (copied_good limit gl free (free + 3) _ (gs.run (free + 2) 2 d f))

  pub num_for_good : (xs : List Stat) (s : Sight) → Stats s xs → (vs : List Variable) (x : StrId) (number : ℕ) (around : List Visible)
      → Covered s.first vs around
      → s.scope ≡ around ++ visible number (x ∷ []) → (start limit : ExprCode) → Good b s.func vs start → Good b s.func vs limit → (o : Option ExprCode)
      → GoodStep s.func vs o
      → (id free : ℕ) → names.first_at b id ≡ number → (d : Emitter) → State b s.func vs d
      → State b s.func vs (code.num_for_run b start limit o (map (stat_code b) xs) id free d)
  num_for_good xs s g vs x number around c is start limit gs gl o go id free at d f =
      let func = s.func in
      let v : Variable = record { number = names.first_at b id; register = free + 3 } in
      let with_it = vs ++ v ∷ [] in
      let d4 = code.for_begin id free (code.bounds_run start limit o free d) in
      let f4 : State b func vs d4 = place b func vs (label id 0) _ (branch b func vs (i.ForNPrep free (pos 0)) (label id 1) _ refl
      (bounds_good func vs start limit gs gl o go free d f)) in
      let f5 = variable b func vs (names.first_at b id) (free + 3) _ (insn b func vs (i.Move (free + 3) (free + 2)) d4 refl f4) in
      let named : Covered s.first with_it (visible number (x ∷ [])) = ((λ le. subst (λ n. HasVar n with_it) at (var_last vs v)), tt) in
      let c' : Covered s.first with_it s.scope = subst (λ us. Covered s.first with_it us) (sym is) (covered_both s.first with_it around (visible number
      (x ∷ [])) (covered_front s.first vs (v ∷ []) around c) named) in
      let f6 = turn_good xs s g vs with_it (grows.behind vs (v ∷ [])) c' (mark_at (free + 3) d4) (marked func (free + 3) vs d4 f4) (free + 4) id _ f5 in
      place b func vs (label id 1) _ (branch b func vs (i.ForNLoop free (pos 0)) (label id 0) _ refl f6)

  -- ---- compound assignments

  module _ (func : ℕ) (vs : List Variable) (y : ExprCode) (g : Good b func vs y) where
    joined_good : (to left : ℕ) (d : Emitter) → State b func vs d → State b func vs (code.joined y to left d)
    joined_good to left d f = insn b func vs _ _ refl (g.run (left + 1) 2 d f)

    operated_good : (z : BinOp) (to free : ℕ) (d : Emitter) → State b func vs d → State b func vs (code.operated z y to free d)
    operated_good op.Concat to free d f = joined_good to free d f
    operated_good z to free d f = operate_good b func vs z to free y g (free + 1) d f

    own_good : (z : BinOp) (register free : ℕ) (d : Emitter) → State b func vs d → State b func vs (code.update_own z y register free d)
    own_good op.Concat register free d f = joined_good register free _ (insn b func vs _ d refl f)
    own_good z register free d f = operate_good b func vs z register register y g free d f

    pub update_good : (t : Target) → FitTarget b func t → (z : BinOp) (free : ℕ) (d : Emitter) → State b func vs d
        → State b func vs (code.update_run b t z y free d)
    update_good NoTarget u z free d f = f
    update_good (Named (bound.Local n) name) u z free d f = which (names.is_captured b n)
      where
        which : (t : Bool) → State b func vs (code.update_local t z y (names.register_of n d) free d)
        which true = operated_good z (names.register_of n d) free _ (insn b func vs _ d refl f)
        which false = own_good z (names.register_of n d) free d f
    update_good (Named (bound.Up n) name) u z free d f =
        assign_to_good b func vs (Named (bound.Up n) name) u free _ (operated_good z free free _ (name_good b func vs (bound.Up n) u name free d f))
    update_good (Named bound.Global name) u z free d f =
        assign_to_good b func vs (Named bound.Global name) u free _ (operated_good z free free _ (name_good b func vs bound.Global u name free d f))

  -- ---- branches

  module _ (func : ℕ) (vs : List Variable) where
    -- a block that leaves the variables as they are
    abbrev pub GoodBlock : List StatCode → Type 0
    GoodBlock ss = (free : ℕ) (l : Loop) (d : Emitter) → State b func vs d → State b func vs (code.block_run b ss free l d)

    pub record GoodArm (a : ArmCode) : Type 0 where
      pub cond : Good b func vs a.cond
      pub body : GoodBlock a.body

    abbrev pub GoodArms : List ArmCode → Type 0
    GoodArms [] = Unit {0}
    GoodArms (a ∷ l) = GoodArm a × GoodArms l

    skip_good : (more : Bool) (id : ℕ) (d : Emitter) → State b func vs d → State b func vs (code.skip_rest more id d)
    skip_good true id d f = branch b func vs _ _ d refl f
    skip_good false id d f = f

    pub arms_good : (other : Bool) (l : List ArmCode) → GoodArms l → (id free : ℕ) (around : Loop) (d : Emitter) → State b func vs d
        → State b func vs (code.arms_run b other l id free around d)
    arms_good other [] g id free around d f = f
    arms_good other (a ∷ l) g id free around d f =
        arms_good other l g.1 id free around _
        (place b func vs _ _ (skip_good (code.has_more other (length l)) id _ (g.0.body free around _ (g.0.cond.jump false free (label a.cond.id 1) d f))))
