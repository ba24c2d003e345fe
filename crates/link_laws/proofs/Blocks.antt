-- What the code of statements and blocks adds.
use Rattle.std.proofs.Common.{◌≡◌, ℕ, ◌+◌, ◌*◌, ◌≤◌, ◌<◌, ◌^◌, Bool, true, false, List, [], ◌∷◌, length, Option, Some, None, refl, ap, arith, IsTrue}
use Rattle.std.specs.Prelude.{pos}
use Rattle.op_words.specs.declared.insn.Insn.TheVariants as i
use Rattle.syntax_tree.specs.declared.bindings.Bindings.{Bindings}
use Rattle.syntax_tree.specs.declared.bindings.Bound.TheVariants as bound
use Rattle.syntax_tree.specs.declared.tree.BinOp.{BinOp}
use Rattle.syntax_tree.specs.declared.tree.BinOp.TheVariants as op
use Rattle.emit_expr.specs.declared.draft.Emitter.{Emitter}
use Rattle.emit_expr.specs.declared.draft.Loop.{Loop}
use Rattle.emit_expr.specs.Puts as puts
use Rattle.emit_expr.specs.Puts.{label, mark_at}
use Rattle.emit_expr.specs.Names as names
use Rattle.node_code.specs.Nodes as nodes
use Rattle.node_code.specs.Nodes.{ExprCode, StatCode, ArmCode, Target, NoTarget, Named}
use Rattle.node_code.specs.Conditions as conditions
use Rattle.node_code.specs.Code as code
use Rattle.link_laws.proofs.Items.{hits}
use Rattle.link_laws.proofs.Numbers.{none, span, zone, zone_span, zone_next, span_join, own_all}
use Rattle.link_laws.proofs.Adds as adds
use Rattle.link_laws.proofs.Adds.{Adds, nothing, both, fit, given, sure, one, jump, place, placed_last}
use Rattle.link_laws.proofs.Parts.{Good, Next, ran, name_good, assign_to_good, close_good, ended_good, operand_good}
use Rattle.link_laws.proofs.Conditions.{operate_good}

-- where a statement stands in a loop, the loop's ends are among the labels that are placed
abbrev pub Exits : (ℕ → Bool) → Bool → Loop → Type 0
Exits F looped l = looped ≡ true → IsTrue (F (label l.node 1)) × IsTrue (F (label l.node 2))

-- The code of a statement, whose nodes have the numbers from n up to below m, and whose bulk is so great; it may stand in a loop
-- or not.
pub record GoodStat (n m bulk : ℕ) (looped : Bool) (s : StatCode) : Type 0 where
  pub order : n < m
  pub run : (F : ℕ → Bool) (free : ℕ) (l : Loop) (d : Emitter) → Adds F (Exits F looped l) (span n m) bulk d (s.run free l d)

abbrev pub Stats : (n : ℕ) → List StatCode → (all m : ℕ) → Bool → Type 0
Stats n [] all m looped = n ≤ m
Stats n (s ∷ ss) all m looped = Next (λ k bulk. GoodStat n k bulk looped s) (λ k bulk. Stats k ss bulk m looped) all

pub stats_le : (n : ℕ) (ss : List StatCode) (all m : ℕ) (looped : Bool) → Stats n ss all m looped → n ≤ m
stats_le n [] all m looped h = h
stats_le n (s ∷ ss) all m looped h =
    let a = h.first.order in
    let b = stats_le h.k ss h.behind m looped h.rest in
    omega (arith, a, b)

-- the step of a numeric loop, if there is one
abbrev pub GoodStep : (n : ℕ) → Option ExprCode → (all m : ℕ) → Type 0
GoodStep n None all m = n ≤ m
GoodStep n (Some e) all m = Good n m all e

pub step_le : (n : ℕ) (o : Option ExprCode) (all m : ℕ) → GoodStep n o all m → n ≤ m
step_le n None all m h = h
step_le n (Some e) all m h = let o = h.order in omega (arith, o)

module _ (F : ℕ → Bool) (N : Type 0) where
  -- statements up to k, and those from there on
  pub following : (n k m : ℕ) → n ≤ k → k ≤ m → (w1 w2 w : ℕ) → w1 + w2 ≤ w → (d1 d2 d3 : Emitter) → Adds F N (span n k) w1 d1 d2
      → Adds F N (span k m) w2 d2 d3 → Adds F N (span n m) w d1 d3
  following n k m le le' w1 w2 w room d1 d2 d3 p q =
      fit (both p q) (λ l. let b = span_join n k m l le le' in omega (arith, b)) room

  pub stats_good : (n : ℕ) (ss : List StatCode) (all m : ℕ) (looped : Bool) → Stats n ss all m looped → (free : ℕ) (l : Loop) (d : Emitter)
      → (N → Exits F looped l) → Adds F N (span n m) all d (code.stats_run ss free l d)
  stats_good n [] all m looped h free l d out = fit (nothing F N d) (λ q. omega arith) (omega arith)
  stats_good n (s ∷ ss) all m looped h free l d out =
      let o = h.first.order in
      following n h.k m (omega (arith, o)) (stats_le h.k ss h.behind m looped h.rest) h.here h.behind all h.total d _ _
      (given (h.first.run F free l d) out) (stats_good h.k ss h.behind m looped h.rest (free + s.declares) l _ out)

  pub body_good : (n : ℕ) (ss : List StatCode) (all m : ℕ) (looped : Bool) → Stats n ss all m looped → (free : ℕ) (l : Loop) (d : Emitter)
      → (N → Exits F looped l) → Adds F N (span n m) all d (code.body_run ss free l d)
  body_good n [] all m looped h free l d out = fit (nothing F N d) (λ q. omega arith) (omega arith)
  body_good n (s ∷ ss) all m looped h free l d out =
      let o = h.first.order in
      following n h.k m (omega (arith, o)) (stats_le h.k ss h.behind m looped h.rest) h.here h.behind all h.total d _ _
      (given (h.first.run F free (code.in_turn (mark_at free d) l) d) out) (body_good h.k ss h.behind m looped h.rest (free + s.declares) l _ out)

  module _ (b : Bindings) where
    pub block_good : (n : ℕ) (ss : List StatCode) (all m : ℕ) (looped : Bool) → Stats n ss all m looped → (free : ℕ) (l : Loop) (d : Emitter)
        → (N → Exits F looped l) → Adds F N (span n m) (all + 1) d (code.block_run b ss free l d)
    block_good n ss all m looped h free l d out =
        fit (both (stats_good n ss all m looped h free l d out) (ended_good F N b (mark_at free d) (code.stats_run ss free l d))) (λ q. omega arith)
        (omega arith)

  -- ---- the bounds of a numeric loop

  pub copied_good : (n m bulk : ℕ) (e : ExprCode) (g : Good n m bulk e) (to at : ℕ) (d : Emitter)
      → Adds F N (zone n m) (g.words + 1) d (code.copied e to at d)
  copied_good n m bulk e g to at d =
      fit (both (operand_good F N n m bulk e g at d) (one F N (i.Move to (nodes.operand_at e at d)) (nodes.operand_run e at d) refl))
      (λ l. omega arith) (omega arith)

  pub step_good : (n : ℕ) (o : Option ExprCode) (all m : ℕ) → GoodStep n o all m → (free : ℕ) (d : Emitter)
      → Adds F N (span n m) (all + 1) d (code.step_run o free d)
  step_good n None all m h free d = fit (one F N (i.LoadN (free + 1) (pos 1)) d refl) (λ l. omega arith) (omega arith)
  step_good n (Some e) all m h free d =
      let r = h.room in
      fit (copied_good n m all e h (free + 1) (free + 3) d) (λ l. zone_span n m l h.order) (omega (arith, r))

  -- ---- compound assignments

  module _ (n m bulk : ℕ) (y : ExprCode) (g : Good n m bulk y) where
    pub joined_good : (to left : ℕ) (d : Emitter) → Adds F N (zone n m) (g.words + 1) d (code.joined y to left d)
    joined_good to left d =
        fit (both (ran F N n m bulk y g (left + 1) 2 d) (one F N (i.Concat to left (left + 1)) _ refl)) (λ l. omega arith) (omega arith)

    pub operated_good : (z : BinOp) (to free : ℕ) (d : Emitter) → Adds F N (zone n m) (g.words + 1) d (code.operated z y to free d)
    operated_good op.Concat to free d = joined_good to free d
    operated_good op.Or to free d = operate_good F N op.Or to free n m bulk y g (free + 1) d
    operated_good op.And to free d = operate_good F N op.And to free n m bulk y g (free + 1) d
    operated_good op.Lt to free d = operate_good F N op.Lt to free n m bulk y g (free + 1) d
    operated_good op.Gt to free d = operate_good F N op.Gt to free n m bulk y g (free + 1) d
    operated_good op.Le to free d = operate_good F N op.Le to free n m bulk y g (free + 1) d
    operated_good op.Ge to free d = operate_good F N op.Ge to free n m bulk y g (free + 1) d
    operated_good op.Ne to free d = operate_good F N op.Ne to free n m bulk y g (free + 1) d
    operated_good op.Eq to free d = operate_good F N op.Eq to free n m bulk y g (free + 1) d
    operated_good op.Add to free d = operate_good F N op.Add to free n m bulk y g (free + 1) d
    operated_good op.Sub to free d = operate_good F N op.Sub to free n m bulk y g (free + 1) d
    operated_good op.Mul to free d = operate_good F N op.Mul to free n m bulk y g (free + 1) d
    operated_good op.Div to free d = operate_good F N op.Div to free n m bulk y g (free + 1) d
    operated_good op.Idiv to free d = operate_good F N op.Idiv to free n m bulk y g (free + 1) d
    operated_good op.Mod to free d = operate_good F N op.Mod to free n m bulk y g (free + 1) d
    operated_good op.Pow to free d = operate_good F N op.Pow to free n m bulk y g (free + 1) d

    moved : (free register : ℕ) (d : Emitter) → Adds F N none 1 d (puts.insn (i.Move free register) d)
    moved free register d = one F N (i.Move free register) d refl

    own_by : (z : BinOp) (register free : ℕ) (d : Emitter) → Adds F N (zone n m) (g.words + 2) d (conditions.operate_run z register register y free d)
    own_by z register free d = fit (operate_good F N z register register n m bulk y g free d) (λ l. omega arith) (omega arith)

    pub update_own_good : (z : BinOp) (register free : ℕ) (d : Emitter) → Adds F N (zone n m) (g.words + 2) d (code.update_own z y register free d)
    update_own_good op.Concat register free d = fit (both (moved free register d) (joined_good register free _)) (λ l. omega arith) (omega arith)
    update_own_good op.Or register free d = own_by op.Or register free d
    update_own_good op.And register free d = own_by op.And register free d
    update_own_good op.Lt register free d = own_by op.Lt register free d
    update_own_good op.Gt register free d = own_by op.Gt register free d
    update_own_good op.Le register free d = own_by op.Le register free d
    update_own_good op.Ge register free d = own_by op.Ge register free d
    update_own_good op.Ne register free d = own_by op.Ne register free d
    update_own_good op.Eq register free d = own_by op.Eq register free d
    update_own_good op.Add register free d = own_by op.Add register free d
    update_own_good op.Sub register free d = own_by op.Sub register free d
    update_own_good op.Mul register free d = own_by op.Mul register free d
    update_own_good op.Div register free d = own_by op.Div register free d
    update_own_good op.Idiv register free d = own_by op.Idiv register free d
    update_own_good op.Mod register free d = own_by op.Mod register free d
    update_own_good op.Pow register free d = own_by op.Pow register free d

    pub update_local_good : (captured : Bool) (z : BinOp) (register free : ℕ) (d : Emitter)
        → Adds F N (zone n m) (g.words + 2) d (code.update_local captured z y register free d)
    update_local_good true z register free d = fit (both (moved free register d) (operated_good z register free _)) (λ l. omega arith) (omega arith)
    update_local_good false z register free d = update_own_good z register free d

    pub update_good : (b : Bindings) (t : Target) (z : BinOp) (free : ℕ) (d : Emitter) → Adds F N (zone n m) (g.words + 5) d (code.update_run b t z y free d)
    update_good b NoTarget z free d = fit (nothing F N d) (λ l. omega arith) (omega arith)
    update_good b (Named (bound.Local k) name) z free d =
        fit (update_local_good (names.is_captured b k) z (names.register_of k d) free d) (λ l. omega arith) (omega arith)
    update_good b (Named (bound.Up k) name) z free d =
        fit (both (both (name_good F N b (bound.Up k) name free d) (operated_good z free free _))
        (assign_to_good F N b (Named (bound.Up k) name) free _)) (λ l. omega arith) (omega arith)
    update_good b (Named bound.Global name) z free d =
        fit (both (both (name_good F N b bound.Global name free d) (operated_good z free free _))
        (assign_to_good F N b (Named bound.Global name) free _)) (λ l. omega arith) (omega arith)

-- ---- loops

module _ (b : Bindings) (id m : ℕ) (low : m ≤ 2 ^ 62) where
  pub while_good : (k tested all : ℕ) (cond : ExprCode) (g : Good (id + 1) k tested cond) (body : List StatCode) → Stats k body all m true
      → (F : ℕ → Bool) (free : ℕ) (d : Emitter) → Adds F (Unit {0}) (span id m) (8 + (tested + all)) d (code.while_run b cond body id free d)
  while_good k tested all cond g body h F free d =
      let N = IsTrue (F (label id 0)) × IsTrue (F (label id 1)) × IsTrue (F (label id 2)) in
      let mark = mark_at free d in
      let d1 = puts.place (label id 0) d in
      let d2 = cond.jump false free (label id 1) d1 in
      let d3 = code.body_run body free (code.loop_at id mark) d2 in
      let d4 = puts.place (label id 2) d3 in
      let d5 = names.ended b mark d4 in
      let d6 = puts.branch (i.JumpBack (pos 0)) (label id 0) d5 in
      let o = g.order in
      let s = stats_le k body all m true h in
      let r = g.room in
      let under : id < 2 ^ 62 = omega (arith, o, s, low) in
      let p0 = place F N id 0 d under (omega arith) in
      let p1 = given {M = N} (g.jump F false free (label id 1) d1) (λ n. n.1) in
      let p2 = body_good F N k body all m true h free (code.loop_at id mark) d2 (λ n e. (n.1, n.2)) in
      let p3 = place F N id 2 d3 under (omega arith) in
      let p4 = ended_good F N b mark d4 in
      let p5 = jump F N (i.JumpBack (pos 0)) (label id 0) d5 refl refl (λ n. n.0) in
      let p6 = place F N id 1 d6 under (omega arith) in
      sure (fit (both (both (both (both (both (both p0 p1) p2) p3) p4) p5) p6) (λ l.
      let x = own_all id m l (omega (arith, o, s)) in
      let y = zone_span (id + 1) k l o in
      let z = span_join (id + 1) k m l (omega (arith, o)) s in
      omega (arith, x, y, z)) (omega (arith, r)))
      (λ u c.
      let at5 = p5.back (p6.back c) in
      let at4 = p4.back at5 in
      let at1 = p1.back (p2.back (p3.back at4)) in
      (placed_last F (label id 0) d at1, placed_last F (label id 1) d6 c, placed_last F (label id 2) d3 at4))

  pub repeat_good : (k tested all : ℕ) (body : List StatCode) → Stats (id + 1) body all k true → (cond : ExprCode) (g : Good k m tested cond)
      → (F : ℕ → Bool) (free : ℕ) (d : Emitter) → Adds F (Unit {0}) (span id m) (8 + (all + tested)) d (code.repeat_run b body cond id free d)
  repeat_good k tested all body h cond g F free d =
      let N = IsTrue (F (label id 0)) × IsTrue (F (label id 1)) × IsTrue (F (label id 2)) × IsTrue (F (label id 3)) in
      let mark = mark_at free d in
      let d1 = puts.place (label id 0) d in
      let d2 = code.body_run body free (code.loop_at id mark) d1 in
      let d3 = puts.place (label id 2) d2 in
      let d4 = cond.jump true (free + code.declared body) (label id 3) d3 in
      let d5 = names.close_run b mark d4 in
      let d6 = puts.branch (i.JumpBack (pos 0)) (label id 0) d5 in
      let d7 = puts.place (label id 3) d6 in
      let d8 = names.ended b mark d7 in
      let o = g.order in
      let s = stats_le (id + 1) body all k true h in
      let r = g.room in
      let under : id < 2 ^ 62 = omega (arith, o, s, low) in
      let p0 = place F N id 0 d under (omega arith) in
      let p1 = body_good F N (id + 1) body all k true h free (code.loop_at id mark) d1 (λ n e. (n.1, n.2)) in
      let p2 = place F N id 2 d2 under (omega arith) in
      let p3 = given {M = N} (g.jump F true (free + code.declared body) (label id 3) d3) (λ n. n.3) in
      let p4 = close_good F N b mark d4 in
      let p5 = jump F N (i.JumpBack (pos 0)) (label id 0) d5 refl refl (λ n. n.0) in
      let p6 = place F N id 3 d6 under (omega arith) in
      let p7 = ended_good F N b mark d7 in
      let p8 = place F N id 1 d8 under (omega arith) in
      sure (fit (both (both (both (both (both (both (both (both p0 p1) p2) p3) p4) p5) p6) p7) p8) (λ l.
      let x = own_all id m l (omega (arith, o, s)) in
      let y = zone_span k m l o in
      let z = span_join (id + 1) k m l s (omega (arith, o)) in
      omega (arith, x, y, z)) (omega (arith, r)))
      (λ u c.
      let at7 = p7.back (p8.back c) in
      let at3 = p3.back (p4.back (p5.back (p6.back at7))) in
      let at1 = p1.back (p2.back at3) in
      (placed_last F (label id 0) d at1, placed_last F (label id 1) d8 c, placed_last F (label id 2) d2 at3, placed_last F (label id 3) d6 at7))

  pub num_for_good : (k1 k2 k3 a1 a2 a3 all : ℕ) (start : ExprCode) (g1 : Good (id + 1) k1 a1 start) (limit : ExprCode) (g2 : Good k1 k2 a2 limit)
      (step : Option ExprCode) → GoodStep k2 step a3 k3 → (body : List StatCode) → Stats k3 body all m true → (F : ℕ → Bool) (free : ℕ) (d : Emitter)
      → Adds F (Unit {0}) (span id m) (8 + (2 + (a1 + a2) + a3 + all)) d (code.num_for_run b start limit step body id free d)
  num_for_good k1 k2 k3 a1 a2 a3 all start g1 limit g2 step g3 body h F free d =
      let N = IsTrue (F (label id 0)) × IsTrue (F (label id 1)) × IsTrue (F (label id 2)) in
      let d1 = start.run (free + 2) 2 d in
      let d2 = code.copied limit free (free + 3) d1 in
      let d3 = code.step_run step free d2 in
      let d4 = puts.branch (i.ForNPrep free (pos 0)) (label id 1) d3 in
      let d5 = puts.place (label id 0) d4 in
      let mark = mark_at (free + 3) d5 in
      let d6 = puts.insn (i.Move (free + 3) (free + 2)) d5 in
      let d7 = puts.declare (names.first_at b id) (free + 3) d6 in
      let d8 = code.body_run body (free + 4) (code.loop_at id mark) d7 in
      let d9 = puts.place (label id 2) d8 in
      let e1 = names.ended b mark d9 in
      let e2 = puts.branch (i.ForNLoop free (pos 0)) (label id 0) e1 in
      let o1 = g1.order in
      let o2 = g2.order in
      let o3 = step_le k2 step a3 k3 g3 in
      let s = stats_le k3 body all m true h in
      let r1 = g1.room in
      let r2 = g2.room in
      let under : id < 2 ^ 62 = omega (arith, o1, o2, o3, s, low) in
      let p1 = ran F N (id + 1) k1 a1 start g1 (free + 2) 2 d in
      let p2 = copied_good F N k1 k2 a2 limit g2 free (free + 3) d1 in
      let p3 = given {M = N} (step_good F (Unit {0}) k2 step a3 k3 g3 free d2) (λ n. tt) in
      let p4 = jump F N (i.ForNPrep free (pos 0)) (label id 1) d3 refl refl (λ n. n.1) in
      let p5 = place F N id 0 d4 under (omega arith) in
      let p6 = one F N (i.Move (free + 3) (free + 2)) d5 refl in
      let p7 = adds.variable F N (names.first_at b id) (free + 3) d6 in
      let p8 = body_good F N k3 body all m true h (free + 4) (code.loop_at id mark) d7 (λ n e. (n.1, n.2)) in
      let p9 = place F N id 2 d8 under (omega arith) in
      let q1 = ended_good F N b mark d9 in
      let q2 = jump F N (i.ForNLoop free (pos 0)) (label id 0) e1 refl refl (λ n. n.0) in
      let q3 = place F N id 1 e2 under (omega arith) in
      sure (fit (both (both (both (both (both (both (both (both (both (both (both p1 p2) p3) p4) p5) p6) p7) p8) p9) q1) q2) q3) (λ l.
      let x = own_all id m l (omega (arith, o1, o2, o3, s)) in
      let y1 = zone_span (id + 1) k1 l o1 in
      let y2 = zone_span k1 k2 l o2 in
      let z1 = span_join (id + 1) k1 k2 l (omega (arith, o1)) (omega (arith, o2)) in
      let z2 = span_join (id + 1) k2 k3 l (omega (arith, o1, o2)) o3 in
      let z3 = span_join (id + 1) k3 m l (omega (arith, o1, o2, o3)) s in
      omega (arith, x, y1, y2, z1, z2, z3)) (omega (arith, r1, r2)))
      (λ u c.
      let at9 = q1.back (q2.back (q3.back c)) in
      let at5 = p6.back (p7.back (p8.back (p9.back at9))) in
      (placed_last F (label id 0) d4 at5, placed_last F (label id 1) e2 c, placed_last F (label id 2) d8 at9))

-- ---- branches

pub record GoodArm (n m bulk : ℕ) (looped : Bool) (a : ArmCode) : Type 0 where
  pub k : ℕ
  pub tested : ℕ
  pub all : ℕ
  pub cond : Good n k tested a.cond
  pub body : Stats k a.body all m looped
  pub total : tested + all ≤ bulk

abbrev pub GoodArms : (n : ℕ) → List ArmCode → (all m : ℕ) → Bool → Type 0
GoodArms n [] all m looped = n ≤ m
GoodArms n (a ∷ l) all m looped = Next (λ k bulk. GoodArm n k bulk looped a) (λ k bulk. GoodArms k l bulk m looped) all

pub arms_le : (n : ℕ) (l : List ArmCode) (all m : ℕ) (looped : Bool) → GoodArms n l all m looped → n ≤ m
arms_le n [] all m looped h = h
arms_le n (a ∷ l) all m looped h =
    let p = h.first.cond.order in
    let q = stats_le h.first.k a.body h.first.all h.k looped h.first.body in
    let r = arms_le h.k l h.behind m looped h.rest in
    omega (arith, p, q, r)

module _ (F : ℕ → Bool) (b : Bindings) (id : ℕ) (looped : Bool) (around : Loop) where
  skip_good : (N : Type 0) (more : Bool) (d : Emitter) → (N → IsTrue (F (label id 0))) → Adds F N none 1 d (code.skip_rest more id d)
  skip_good N true d out = jump F N (i.Jump (pos 0)) (label id 0) d refl refl out
  skip_good N false d out = fit (nothing F N d) (λ l. omega arith) (omega arith)

  pub arm_good : (n m bulk : ℕ) (a : ArmCode) (more : Bool) → GoodArm n m bulk looped a → m ≤ 2 ^ 62 → (free : ℕ) (d : Emitter)
      → Adds F (IsTrue (F (label id 0)) × Exits F looped around) (span n m) bulk d (code.arm_run b more a id free around d)
  arm_good n m bulk a more g low free d =
      let N = (IsTrue (F (label id 0)) × Exits F looped around) × IsTrue (F (label a.cond.id 1)) in
      let d1 = a.cond.jump false free (label a.cond.id 1) d in
      let d2 = code.block_run b a.body free around d1 in
      let d3 = code.skip_rest more id d2 in
      let first = g.cond.order in
      let second = stats_le g.k a.body g.all m looped g.body in
      let is = g.cond.id in
      let p1 = given {M = N} (g.cond.jump F false free (label a.cond.id 1) d) (λ h. h.1) in
      let p2 = block_good F N b g.k a.body g.all m looped g.body free around d1 (λ h. h.0.1) in
      let p3 = skip_good N more d2 (λ h. h.0.0) in
      let p4 = place F N a.cond.id 1 d3 (omega (arith, first, second, is, low)) (omega arith) in
      let r = g.cond.room in
      let t = g.total in
      sure (fit (both (both (both p1 p2) p3) p4) (λ l.
      let e : hits (a.cond.id * 4 + 1) l ≡ hits (n * 4 + 1) l = ap (λ x. hits (x * 4 + 1) l) is in
      let x = zone_next n g.k l first in
      let z = span_join n g.k m l (omega (arith, first)) second in
      omega (arith, e, x, z)) (omega (arith, r, t))) (λ u h. (u, placed_last F (label a.cond.id 1) d3 h))

  pub arms_good : (n : ℕ) (l : List ArmCode) (all m : ℕ) (other : Bool) → GoodArms n l all m looped → m ≤ 2 ^ 62 → (free : ℕ) (d : Emitter)
      → Adds F (IsTrue (F (label id 0)) × Exits F looped around) (span n m) all d (code.arms_run b other l id free around d)
  arms_good n [] all m other h low free d = fit (nothing F _ d) (λ l. omega arith) (omega arith)
  arms_good n (a ∷ l) all m other h low free d =
      let rest = arms_le h.k l h.behind m looped h.rest in
      let p = h.first.cond.order in
      let q = stats_le h.first.k a.body h.first.all h.k looped h.first.body in
      let t = h.total in
      fit (both (arm_good n h.k h.here a (code.has_more other (length l)) h.first (omega (arith, rest, low)) free d)
      (arms_good h.k l h.behind m other h.rest low free _)) (λ x. let z = span_join n h.k m x (omega (arith, p, q)) rest in omega (arith, z))
      (omega (arith, t))

  pub no_else_good : (l : List ArmCode) (all m : ℕ) → GoodArms (id + 1) l all m looped → m ≤ 2 ^ 62 → (free : ℕ) (d : Emitter)
      → Adds F (Exits F looped around) (span id m) (8 + (all + 0)) d (code.branches_run b l None id free around d)
  no_else_good l all m h low free d =
      let N = IsTrue (F (label id 0)) × Exits F looped around in
      let le = arms_le (id + 1) l all m looped h in
      let d1 = code.arms_run b false l id free around d in
      let p1 = arms_good (id + 1) l all m false h low free d in
      let p2 = place F N id 0 d1 (omega (arith, le, low)) (omega arith) in
      sure (fit (both p1 p2) (λ q. let x = own_all id m q (omega (arith, le)) in omega (arith, x)) (omega arith))
      (λ u h. (placed_last F (label id 0) d1 h, u))

  pub else_good : (l : List ArmCode) (all k : ℕ) → GoodArms (id + 1) l all k looped → (body : List StatCode) (last m : ℕ)
      → Stats k body last m looped → m ≤ 2 ^ 62 → (free : ℕ) (d : Emitter) → Adds F (Exits F looped around) (span id m) (8 + (all + last)) d
      (code.branches_run b l (Some body) id free around d)
  else_good l all k h body last m g low free d =
      let N = IsTrue (F (label id 0)) × Exits F looped around in
      let le = arms_le (id + 1) l all k looped h in
      let le' = stats_le k body last m looped g in
      let d1 = code.arms_run b true l id free around d in
      let d2 = code.block_run b body free around d1 in
      let p1 = arms_good (id + 1) l all k true h (omega (arith, le', low)) free d in
      let p2 = block_good F N b k body last m looped g free around d1 (λ n. n.1) in
      let p3 = place F N id 0 d2 (omega (arith, le, le', low)) (omega arith) in
      sure (fit (both (both p1 p2) p3) (λ q.
      let x = own_all id m q (omega (arith, le, le')) in
      let z = span_join (id + 1) k m q le le' in
      omega (arith, x, z)) (omega arith)) (λ u h. (placed_last F (label id 0) d2 h, u))
