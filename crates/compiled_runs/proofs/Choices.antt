-- `if` expressions.
use Rattle.std.proofs.Common.{◌≡◌, ℕ, ◌≤◌, pos, false, max, List, [], ◌∷◌, ◌++◌, length, map, Some, refl, sym, ap, ap₂, ◌∙◌, arith, subst}
use Rattle.syntax_tree.specs.declared.bindings.Bindings.{Bindings}
use Rattle.syntax_tree.specs.declared.tree.Expr.{Expr}
use Rattle.syntax_tree.specs.declared.tree.ExprArm.{ExprArm}
use Rattle.syntax_tree.specs.declared.tree.ExprKind.{out-ExprKind}
use Rattle.syntax_tree.specs.declared.tree.ExprKind.TheOpen as level
use Rattle.syntax_tree.specs.Lists.{greatest}
use Rattle.syntax_tree.specs.Need as need
use Rattle.syntax_tree.specs.Need.{need_expr, need_expr_arm}
use Rattle.op_words.specs.declared.insn.Insn.TheVariants as i
use Rattle.code_link.specs.Labels.{place_in}
use Rattle.emit_expr.specs.declared.draft.Emitter.{Emitter}
use Rattle.emit_expr.specs.Puts.{label, branch, place}
use Rattle.emit_laws.specs.Growing.{Grows}
use Rattle.emit_laws.proofs.Grows as grows
use Rattle.emit_laws.proofs.Keeps as keeps
use Rattle.emit_laws.proofs.Keeps.{Keeps}
use Rattle.node_code.specs.Nodes.{ChoiceCode, single}
use Rattle.node_code.specs.Conditions.{choice_run, choices_run, if_run}
use Rattle.node_code.specs.Code as code
use Rattle.node_code.specs.Code.{expr_code, choice_code}
use Rattle.scope_laws.specs.Sight.{Part, expr, expr_arm}
use Rattle.scope_laws.proofs.Levels as levels
use Rattle.code_simulation.specs.Slots.{Slot}
use Rattle.code_simulation.specs.Relation.{Setting}
use Rattle.code_simulation.proofs.Along.{CallsGo, Here}
use Rattle.code_simulation.proofs.Parts.{ExprRuns, PickRuns}
use Rattle.code_simulation.proofs.Conditions.{pick_other, pick_arm, if_same}
use Rattle.compiled_runs.proofs.Places.{here, before, here_place, rises, label_read}
use Rattle.compiled_runs.proofs.Standing.{Script, AtSome, in_quiet, next_part, kept}
use Rattle.compiled_runs.proofs.NodeLevels.{code_of}
use Rattle.compiled_runs.proofs.Nodes.{Runs, Stand, As, jump_at}
use Rattle.compiled_runs.proofs.Following.{front, next, parts, value_grows, jump_grows, jump_keeps}
use Rattle.compiled_runs.proofs.Leaves.{Holds, single_as}

-- ---- an arm by its parts

abbrev pub arm_code : Bindings → ExprArm → ChoiceCode
arm_code b a = record { cond = expr_code b a.cond; value = expr_code b a.value }

abbrev pub arm_codes : Bindings → List ExprArm → List ChoiceCode
arm_codes b arms = map (arm_code b) arms

arms_coded : (b : Bindings) (arms : List ExprArm) → map (choice_code b) arms ≡ arm_codes b arms
arms_coded b [] = refl
arms_coded b (a ∷ arms) = ap₂ (λ x xs. x ∷ xs) (levels.expr_arm_is (code.steps b) a) (arms_coded b arms)

abbrev arm_need : ExprArm → ℕ
arm_need a = max (need_expr a.cond).need (need_expr a.value).need

arms_needed : (arms : List ExprArm) → map need_expr_arm arms ≡ map arm_need arms
arms_needed [] = refl
arms_needed (a ∷ arms) = ap₂ (λ x xs. x ∷ xs) (levels.expr_arm_is need.steps a) (arms_needed arms)

-- ---- what is emitted for arms goes behind what was there

arms_good : (b : Bindings) (arms : List ExprArm) → grows.AllGoodChoices (arm_codes b arms)
arms_good b [] = tt
arms_good b (a ∷ arms) = ((grows.expr_is_good b a.cond, grows.expr_is_good b a.value), arms_good b arms)

choices_grow : (b : Bindings) (arms : List ExprArm) (id to : ℕ) (d : Emitter) → Grows d (choices_run (arm_codes b arms) id to d)
choices_grow b arms id to d = grows.choices_good (arm_codes b arms) (arms_good b arms) id to d d (grows.none d)

arm_grows : (b : Bindings) (a : ExprArm) (id to : ℕ) (d : Emitter) → Grows d (choice_run (arm_code b a) id to d)
arm_grows b a id to d = choices_grow b (a ∷ []) id to d

arm_keeps : (b : Bindings) (a : ExprArm) (id to : ℕ) (d : Emitter) → Keeps d (choice_run (arm_code b a) id to d)
arm_keeps b a id to d =
    keeps.choices_good (arm_code b a ∷ []) ((keeps.expr_is_good b a.cond, keeps.expr_is_good b a.value), tt) id to d d (keeps.none d)

module _ (p : Setting) (most : ℕ) (calls : (i : ℕ) → i ≤ most → CallsGo p i) (b : Bindings) (whole : Emitter) (script : Script p b whole) where
  abbrev pub ArmsHold : List ExprArm → Type 0
  ArmsHold [] = Unit {0}
  ArmsHold (a ∷ arms) = (Holds p most calls b whole script a.cond × Holds p most calls b whole script a.value) × ArmsHold arms

  module _ (h : Here p most) (r : Runs p most b whole script h) where
    abbrev Stands : List Part → List Slot → (d d' : Emitter) → ℕ → Type 0
    Stands ps l d d' n = Stand p most b whole script h r ps l d d' n

    -- ---- where its parts stand, and what stands behind it

    in_arm : (a : ExprArm) (ps : List Part) (l : List Slot) (d : Emitter) → AtSome p most b whole script h r (expr_arm a ∷ ps) l d
        → AtSome p most b whole script h r (expr a.cond ∷ expr a.value ∷ []) l d
    in_arm a ps l d t = in_quiet p most b whole script h r (expr_arm a) ps l d (λ s. refl) t

    next_arm : (a : ExprArm) (ps : List Part) (l : List Slot) (d : Emitter) → AtSome p most b whole script h r (expr_arm a ∷ ps) l d
        → AtSome p most b whole script h r ps l d
    next_arm a ps l d t = next_part p most b whole script h r (expr_arm a) ps l d (λ n. refl) t

    arm_stands : (a : ExprArm) (ps : List Part) (l : List Slot) (d d1 d2 : Emitter) (n : ℕ) → Stands (expr_arm a ∷ ps) l d d2 n → Grows d1 d2
        → arm_need a ≤ n → Stands (expr a.cond ∷ expr a.value ∷ []) l d d1 (arm_need a)
    arm_stands a ps l d d1 d2 n s g le =
        record { at = in_arm a ps l d s.at; inside = before r.final whole d1 d2 g s.inside; func = s.func; room = omega (arith, s.room, le) }

    behind_arm : (a : ExprArm) (ps : List Part) (l : List Slot) (d d1 d2 : Emitter) (n m : ℕ) → Stands (expr_arm a ∷ ps) l d d2 n → Grows d d1
        → Keeps d d1 → m ≤ n → Stands ps l d1 d2 m
    behind_arm a ps l d d1 d2 n m s g k le = record {
      at = kept p most b whole script h r ps l d d1 k (next_arm a ps l d s.at);
      inside = s.inside;
      func = g.func ∙ s.func;
      room = omega (arith, s.room, le);
    }

    -- ---- the arms, one after the other

    -- behind the value of each arm its code jumps to the end of all
    picks : (arms : List ExprArm) → ArmsHold arms → (other : Expr) → Holds p most calls b whole script other → (id : ℕ) (l : List Slot) (d : Emitter)
        → Stands (map expr_arm arms ++ expr other ∷ []) l d ((expr_code b other).run (length l) 2 (choices_run (arm_codes b arms) id (length l) d))
        (max (greatest (map arm_need arms)) (need_expr other).need)
        → place_in r.final.items 0 (label id 0) ≡ Some (here ((expr_code b other).run (length l) 2 (choices_run (arm_codes b arms) id (length l) d)))
        → PickRuns p most arms other h l (here d) (here ((expr_code b other).run (length l) 2 (choices_run (arm_codes b arms) id (length l) d)))
    picks [] a other ho id l d s placed =
        let d1 = (expr_code b other).run (length l) 2 d in
        pick_other p most other h l (here d) (here d1)
        (ho.value h r [] l d (front p most b whole script h r (expr other ∷ []) l d d1 d1 _ (need_expr other).need s (grows.none d1) (omega arith)))
    picks (arm ∷ arms) a other ho id l d s placed =
        let to = length l in
        let cond = expr_code b arm.cond in
        let value = expr_code b arm.value in
        let own = label cond.id 1 in
        let d1 = cond.jump false to own d in
        let d2 = value.run to 2 d1 in
        let d3 = branch (i.Jump (pos 0)) (label id 0) d2 in
        let d4 = place own d3 in
        let d5 = choices_run (arm_codes b arms) id to d4 in
        let last = (expr_code b other).run to 2 d5 in
        let g2 = value_grows b arm.value to 2 d1 in
        let g3 = grows.put _ d2 d2 (grows.none d2) in
        let g4 = grows.put _ d3 d3 (grows.none d3) in
        let g5 = grows.after d4 d5 last (choices_grow b arms id to d4) (value_grows b other to 2 d5) in
        let g35 = grows.after d3 d4 last g4 g5 in
        let s1 = arm_stands arm (map expr_arm arms ++ expr other ∷ []) l d d2 last _ s (grows.after d2 d3 last g3 g35) (omega arith) in
        let j = jump_at p most b whole script h r (i.Jump (pos 0)) (label id 0) d2 (before r.final whole d3 last g35 s.inside) in
        pick_arm p most arm arms other j.by h l (here d) (here d1) (here d2) (here d3) (here d3) (here last)
        (a.0.0.cond false h r (expr arm.value ∷ []) l d own (here d3)
        (front p most b whole script h r (expr arm.cond ∷ expr arm.value ∷ []) l d d1 d2 _ (need_expr arm.cond).need s1 g2 (omega arith))
        (label_read r.final whole h.proto.code r.read own d3 (before r.final whole d4 last g5 s.inside))
        (rises d1 d3 (grows.after d1 d2 d3 g2 g3)))
        (a.0.1.value h r [] l d1
        (next p most b whole script h r arm.cond (expr arm.value ∷ []) l d d1 d2 d2 _ (need_expr arm.value).need s1
        (jump_grows b arm.cond false to own d) (jump_keeps b arm.cond false to own d) (grows.none d2) (omega arith)))
        j.reads (j.on (here last) placed (rises d3 last g35))
        (subst (λ n. PickRuns p most arms other h l n (here last)) (here_place own d3)
        (picks arms a.1 other ho id l d4
        (behind_arm arm (map expr_arm arms ++ expr other ∷ []) l d d4 last _ (max (greatest (map arm_need arms)) (need_expr other).need) s
        (arm_grows b arm id to d) (arm_keeps b arm id to d) (omega arith))
        placed))

  pub if_holds : (e : Expr) (arms : List ExprArm) (other : Expr) → out-ExprKind e.kind ≡ level.ExprKind::If arms other → ArmsHold arms
      → Holds p most calls b whole script other → Holds p most calls b whole script e
  if_holds e arms other is a ho = subst (As p most b whole script e) (sym (code_of b e (level.ExprKind::If arms other) is
      ∙ ap (λ (cs : List ChoiceCode). record (single e.id (if_run cs (expr_code b other) e.id)) { id = e.id }) (arms_coded b arms)))
      (single_as p most calls b whole script e (level.ExprKind::If arms other) (if_run (arm_codes b arms) (expr_code b other) e.id) is refl
      (λ h r ps l d s.
      let end = label e.id 0 in
      let d1 = (expr_code b other).run (length l) 2 (choices_run (arm_codes b arms) e.id (length l) d) in
      let d2 = place end d1 in
      let s1 = parts p most b whole script h r e (level.ExprKind::If arms other) ps l d d2 is s in
      let needed = ap greatest (arms_needed arms) in
      subst (λ n. ExprRuns p most e h l (here d) n) (sym (here_place end d1))
      (if_same p most e arms other h l (here d) (here d1) is
      (picks h r arms a other ho e.id l d
      (front p most b whole script h r (map expr_arm arms ++ expr other ∷ []) l d d1 d2 _ (max (greatest (map arm_need arms)) (need_expr other).need) s1
      (grows.put _ d1 d1 (grows.none d1)) (omega (arith, needed)))
      (label_read r.final whole h.proto.code r.read end d1 s.inside)))))
