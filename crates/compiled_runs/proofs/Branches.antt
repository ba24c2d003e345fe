-- `if`: the block of the first arm whose condition is true, or that of `else`.
use Rattle.std.proofs.Common.{◌≡◌, ℕ, ◌+◌, ◌≤◌, pos, max, Bool, true, false, ◌||◌, List, [], ◌∷◌, ◌++◌, length, map, Option, Some, None, refl, sym, ap, ◌∙◌, arith, subst, if◌then◌else◌}
use Rattle.std.proofs.lemmas.Bool.{ne_eqb}
use Rattle.syntax_tree.specs.declared.bindings.Bindings.{Bindings}
use Rattle.syntax_tree.specs.declared.notes.Place.{Place}
use Rattle.syntax_tree.specs.declared.tree.Arm.{Arm, out-Arm}
use Rattle.syntax_tree.specs.declared.tree.Stat.{Stat}
use Rattle.syntax_tree.specs.declared.tree.StatKind.{out-StatKind}
use Rattle.syntax_tree.specs.declared.tree.ExprKind.TheOpen as level
use Rattle.syntax_tree.specs.Lists.{greatest}
use Rattle.syntax_tree.specs.Need.{StatNeed, need_stat, need_arm, block_from}
use Rattle.syntax_tree.specs.Rules as rules
use Rattle.syntax_tree.specs.Rules.{StatRules, rules_expr, rules_stat, rules_arm}
use Rattle.op_words.specs.declared.insn.Insn.TheVariants as i
use Rattle.code_link.specs.Labels.{place_in}
use Rattle.emit_expr.specs.declared.draft.Emitter.{Emitter}
use Rattle.emit_expr.specs.declared.draft.Loop.{Loop}
use Rattle.emit_expr.specs.Puts.{label, place}
use Rattle.emit_laws.specs.Growing.{Grows}
use Rattle.emit_laws.proofs.Grows as grows
use Rattle.emit_laws.proofs.Keeps as keeps
use Rattle.node_code.specs.Code.{expr_code, stat_code, block_run, skip_rest, arm_run, has_more, arms_run, branches_run, plain}
use Rattle.scope_laws.specs.Sight.{Part, expr, arm, block, enter}
use Rattle.code_simulation.specs.Slots.{Slot, same}
use Rattle.code_simulation.specs.Relation.{Setting}
use Rattle.code_simulation.proofs.Along.{Here}
use Rattle.code_simulation.proofs.Blocks.{Jumps, StatRuns}
use Rattle.code_simulation.proofs.Statements.{ChooseRuns, choose_none, choose_other, choose_arm, if_stat_same, Skips, skips, skips_nothing}
use Rattle.compiled_runs.proofs.Places.{here, before, before_put, here_place, label_read, rises}
use Rattle.compiled_runs.proofs.Standing.{Script, weak, At, kept, next_expr}
use Rattle.compiled_runs.proofs.NodeLevels.{stat_code_of, stat_need_of, stat_rules_of, ends_turn_of, arm_parts, arms_are, need_arm_of, rules_arm_of, arm_ends_of}
use Rattle.compiled_runs.proofs.Nodes.{Runs, In, As, jump_at}
use Rattle.compiled_runs.proofs.Turns.{any, ends_turn, arm_ends}
use Rattle.compiled_runs.proofs.Statements.{may_break, may_continue, Allowed, InLoop, Does, Performs, AllPerform, next_quiet, in_statement, plain_goes}
use Rattle.compiled_runs.proofs.Blocks.{left_none, right_none, or_left, or_right, loop_later, AllAllowed, enclosed, block_keeps}

true_false : true ≡ false → ⊥
true_false e = cc

module _ (p : Setting) (most : ℕ) (b : Bindings) (whole : Emitter) (script : Script p b whole) where
  -- each condition and each block of the arms does what it does
  abbrev pub ArmsPerform : List Arm → Type 0
  ArmsPerform [] = Unit {0}
  ArmsPerform (a ∷ arms) =
      (As p most b whole script (out-Arm a).cond (expr_code b (out-Arm a).cond) × AllPerform p most b whole script (out-Arm a).body) × ArmsPerform arms

  -- and none of them breaks a rule on loops
  record ArmsAllowed (arms : List Arm) (j : Jumps) (at : Place) : Type 0 where
    pub rules : rules.all (map rules_arm arms) at ≡ []
    pub breaks : at.in_loop ≡ true → may_break j ≡ true
    pub continues : any (map arm_ends arms) ≡ true → may_continue j ≡ true

  arm_allowed : (a : Arm) (arms : List Arm) (j : Jumps) (at : Place) → ArmsAllowed (a ∷ arms) j at
      → AllAllowed p most b whole script (out-Arm a).body j at
  arm_allowed a arms j at x =
      let both = ap (λ (f : rules.Part). f at) (sym (rules_arm_of a)) ∙ left_none (rules_arm a at) (rules.all (map rules_arm arms) at) x.rules in
      record {
        rules = right_none (rules_expr (out-Arm a).cond at) (rules.block (map rules_stat (out-Arm a).body) at) both;
        breaks = x.breaks;
        continues = λ e. x.continues (or_left (arm_ends a) (any (map arm_ends arms)) (arm_ends_of a ∙ e));
      }

  arms_allowed : (a : Arm) (arms : List Arm) (j : Jumps) (at : Place) → ArmsAllowed (a ∷ arms) j at → ArmsAllowed arms j at
  arms_allowed a arms j at x = record {
    rules = right_none (rules_arm a at) (rules.all (map rules_arm arms) at) x.rules;
    breaks = x.breaks;
    continues = λ e. x.continues (or_right (arm_ends a) (any (map arm_ends arms)) e);
  }

  module _ (h : Here p most) (r : Runs p most b whole script h) (l : List Slot) (lp : Loop) (j : Jumps) (at : Place) (id to : ℕ)
      (placed : place_in r.final.items 0 (label id 0) ≡ Some to) where
    in_arm : (a : Arm) (ps : List Part) (d : Emitter) → At p most b whole script h r (arm a ∷ ps) l d
        → At p most b whole script h r (expr (out-Arm a).cond ∷ block [] (out-Arm a).body ∷ []) l d
    in_arm a ps d x = record { sight = x.sight; seen = enter x.sight (arm a) ps x.seen; aligned = x.aligned; first = x.first; below = x.below }

    -- behind an arm's block the code jumps behind them all, or nothing follows
    skips_at : (more : Bool) (d : Emitter) → In p most b whole script h r (skip_rest more id d) → here (skip_rest more id d) ≤ to
        → (more ≡ false → here d ≡ to) → Skips p most h (here d) to
    skips_at true d s le nothing =
        let x = jump_at p most b whole script h r (i.Jump (pos 0)) (label id 0) d s in
        skips x.by (here (skip_rest true id d)) x.reads (x.on to placed le)
    skips_at false d s le nothing = skips_nothing (nothing refl)

    -- the states of the emitter in an arm
    abbrev jumped : Arm → Emitter → Emitter
    jumped a d = (expr_code b (out-Arm a).cond).jump false (length l) (label (expr_code b (out-Arm a).cond).id 1) d

    abbrev closed : Arm → Emitter → Emitter
    closed a d = block_run b (map (stat_code b) (out-Arm a).body) (length l) lp (jumped a d)

    block_grows : (a : Arm) (d : Emitter) → Grows (jumped a d) (closed a d)
    block_grows a d =
        grows.block_good b (map (stat_code b) (out-Arm a).body) (grows.stats_are_good b (out-Arm a).body) (length l) lp (jumped a d) (jumped a d)
        (grows.none (jumped a d))

    skip_grows : (more : Bool) (d : Emitter) → Grows d (skip_rest more id d)
    skip_grows more d = grows.skip_good b more id d d (grows.none d)

    skip_keeps : (more : Bool) (d : Emitter) → keeps.Keeps d (skip_rest more id d)
    skip_keeps true d = keeps.put _ d d (keeps.none d)
    skip_keeps false d = keeps.none d

    arm_keeps : (more : Bool) (a : Arm) (d : Emitter) → keeps.Keeps d (arm_run b more (arm_parts b a) id (length l) lp d)
    arm_keeps more a d =
        let c = expr_code b (out-Arm a).cond in
        let d1 = jumped a d in
        let d2 = closed a d in
        let d3 = skip_rest more id d2 in
        let k1 : keeps.Keeps d d1 = (keeps.expr_is_good b (out-Arm a).cond).jump false (length l) (label c.id 1) d d (keeps.none d) in
        let k2 : keeps.Keeps d1 d2 = block_keeps p most b whole script (out-Arm a).body (length l) lp d1 in
        keeps.put _ d d3 (keeps.after d d2 d3 (keeps.after d d1 d2 k1 k2) (skip_keeps more d2))

    arms_keep : (other : Bool) (arms : List Arm) (d : Emitter) → keeps.Keeps d (arms_run b other (map (arm_parts b) arms) id (length l) lp d)
    arms_keep other [] d = keeps.none d
    arms_keep other (a ∷ arms) d =
        let again = has_more other (length (map (arm_parts b) arms)) in
        let d1 = arm_run b again (arm_parts b a) id (length l) lp d in
        keeps.after d d1 (arms_run b other (map (arm_parts b) arms) id (length l) lp d1) (arm_keeps again a d) (arms_keep other arms d1)

    behind_arms : (arms : List Arm) (ps : List Part) (d : Emitter) → At p most b whole script h r (map arm arms ++ ps) l d
        → At p most b whole script h r ps l d
    behind_arms [] ps d x = x
    behind_arms (a ∷ arms) ps d x = behind_arms arms ps d (next_quiet p most b whole script h r (arm a) (map arm arms ++ ps) l d (λ n. refl) x)

    rest_grows : (other : Bool) (arms : List Arm) (d : Emitter) → Grows d (arms_run b other (map (arm_parts b) arms) id (length l) lp d)
    rest_grows other arms d = grows.arms_good b other (map (arm_parts b) arms) (all_good arms) id (length l) lp d d (grows.none d)
      where
        all_good : (arms : List Arm) → grows.AllGoodArms (map (arm_parts b) arms)
        all_good [] = tt
        all_good (a ∷ arms) = ((grows.expr_is_good b (out-Arm a).cond, grows.stats_are_good b (out-Arm a).body), all_good arms)

    more_arms : (other : Bool) (arms : List Arm) → has_more other (length (map (arm_parts b) arms)) ≡ false → (arms ≡ []) × (other ≡ false)
    more_arms other [] e = (refl, e)
    more_arms other (a ∷ arms) e =
        absurd (true_false (sym (ap (λ t. if t then other else true) (ne_eqb (length (map (arm_parts b) (a ∷ arms))) 0 (λ z. omega (arith, z)))) ∙ e))

    arms_go : (arms : List Arm) (other : Option (List Stat)) (more : Bool) (ps : List Part) (d : Emitter) → ArmsPerform arms
        → At p most b whole script h r (map arm arms ++ ps) l d → d.draft.func ≡ r.final.func
        → In p most b whole script h r (arms_run b more (map (arm_parts b) arms) id (length l) lp d)
        → length l + greatest (map need_arm arms) ≤ h.proto.registers
        → InLoop p most b whole script h r lp j l (here (arms_run b more (map (arm_parts b) arms) id (length l) lp d)) → ArmsAllowed arms j at
        → here (arms_run b more (map (arm_parts b) arms) id (length l) lp d) ≤ to
        → (more ≡ false → here (arms_run b more (map (arm_parts b) arms) id (length l) lp d) ≡ to)
        → ChooseRuns p most [] other h l j (here (arms_run b more (map (arm_parts b) arms) id (length l) lp d)) to
        → ChooseRuns p most arms other h l j (here d) to
    arms_go [] other more ps d performs x func s room around allowed le nothing rest = rest
    arms_go (a ∷ arms) other more ps d performs x func s room around allowed le nothing rest =
        let c = expr_code b (out-Arm a).cond in
        let next = label c.id 1 in
        let again = has_more more (length (map (arm_parts b) arms)) in
        let d1 = jumped a d in
        let d2 = closed a d in
        let d3 = skip_rest again id d2 in
        let d4 = place next d3 in
        let d5 = arms_run b more (map (arm_parts b) arms) id (length l) lp d4 in
        let g5 = rest_grows more arms d4 in
        let s4 : In p most b whole script h r d4 = before r.final whole d4 d5 g5 s in
        let s3 : In p most b whole script h r d3 = before_put r.final whole _ d3 s4 in
        let g3 = skip_grows again d2 in
        let s2 : In p most b whole script h r d2 = before r.final whole d2 d3 g3 s3 in
        let s1 : In p most b whole script h r d1 = before r.final whole d1 d2 (block_grows a d) s2 in
        let e4 : here d4 ≡ here d3 = here_place next d3 in
        let le5 = rises d4 d5 g5 in
        let le3 = rises d2 d3 g3 in
        let le2 = rises d1 d2 (block_grows a d) in
        let needed = need_arm_of a in
        let g1 = (grows.expr_is_good b (out-Arm a).cond).jump false (length l) next d d (grows.none d) in
        let inner = in_arm a (map arm arms ++ ps) d x in
        let body = enclosed p most b whole script (out-Arm a).body h r [] l d1 lp j at performs.0.1
        (kept p most b whole script h r _ l d d1 ((keeps.expr_is_good b (out-Arm a).cond).jump false (length l) next d d (keeps.none d))
        (next_expr p most b whole script h r (out-Arm a).cond _ l d inner))
        (g1.func ∙ func) s2 (omega (arith, room, needed)) (loop_later p most b whole script h r lp j l l (here d5) (here d2) same
        (omega (arith, e4, le5, le3)) around) (arm_allowed a arms j at allowed) in
        let g4 : Grows d d4 = grows.put _ d _ (grows.after d d2 d3 (grows.after d d1 d2 g1 (block_grows a d)) g3) in
        choose_arm p most a arms other h l j (here d) (here d1) body.middle (here d2) (here d3) to body.End
        (performs.0.0.cond false h r _ l d next (here d3)
        (record { at = weak p most b whole script h r _ l d inner; inside = s1; func = func; room = omega (arith, room, needed) })
        (label_read r.final whole h.proto.code r.read next d3 s4) (omega (arith, le2, le3)))
        body.runs body.closes
        (skips_at again d2 s3 (omega (arith, e4, le5, le))
        (λ e. let m = more_arms more arms e in
        ap (λ t. here (skip_rest t id d2)) (sym e) ∙ sym e4
        ∙ ap (λ xs. here (arms_run b more (map (arm_parts b) xs) id (length l) lp d4)) (sym m.0) ∙ nothing m.1))
        (subst (λ n. ChooseRuns p most arms other h l j n to) e4
        (arms_go arms other more ps d4 performs.1
        (kept p most b whole script h r _ l d d4 (arm_keeps again a d) (next_quiet p most b whole script h r (arm a) (map arm arms ++ ps) l d (λ n. refl) x))
        (g4.func ∙ func) s (omega (arith, room)) around (arms_allowed a arms j at allowed) le nothing rest))

  abbrev pub ElsePerforms : Option (List Stat) → Type 0
  ElsePerforms None = Unit {0}
  ElsePerforms (Some body) = AllPerform p most b whole script body

  none_allowed : (s : Stat) (arms : List Arm) (j : Jumps) (at : Place) → out-StatKind s.kind ≡ level.StatKind::If arms None → Allowed s j at
      → ArmsAllowed arms j at
  none_allowed s arms j at is x = record {
    rules = left_none (rules.all (map rules_arm arms) at) []
        (ap (λ (z : StatRules). z.faults at) (sym (stat_rules_of s (level.StatKind::If arms None) is)) ∙ x.rules);
    breaks = x.breaks;
    continues = λ e. x.continues (ends_turn_of s (level.StatKind::If arms None) is ∙ or_left (any (map arm_ends arms)) false e);
  }

  some_allowed : (s : Stat) (arms : List Arm) (body : List Stat) (j : Jumps) (at : Place) → out-StatKind s.kind ≡ level.StatKind::If arms (Some body)
      → Allowed s j at → ArmsAllowed arms j at × AllAllowed p most b whole script body j at
  some_allowed s arms body j at is x =
      let both : rules.all (map rules_arm arms) at ++ rules.block (map rules_stat body) at ≡ [] =
      ap (λ (z : StatRules). z.faults at) (sym (stat_rules_of s (level.StatKind::If arms (Some body)) is)) ∙ x.rules in
      let ends : ends_turn s ≡ (any (map arm_ends arms) || any (map ends_turn body)) = ends_turn_of s (level.StatKind::If arms (Some body)) is in (
        record {
          rules = left_none (rules.all (map rules_arm arms) at) (rules.block (map rules_stat body) at) both;
          breaks = x.breaks;
          continues = λ e. x.continues (ends ∙ or_left (any (map arm_ends arms)) (any (map ends_turn body)) e);
        },
        record {
          rules = right_none (rules.all (map rules_arm arms) at) (rules.block (map rules_stat body) at) both;
          breaks = x.breaks;
          continues = λ e. x.continues (ends ∙ or_right (any (map arm_ends arms)) (any (map ends_turn body)) e);
        },
      )

  none_performs : (s : Stat) (arms : List Arm) → out-StatKind s.kind ≡ level.StatKind::If arms None → ArmsPerform arms
      → Does p most b whole script s (plain (branches_run b (map (arm_parts b) arms) None s.id))
  none_performs s arms is performs = record {
    declares = sym (ap (λ (n : StatNeed). n.declares) (stat_need_of s (level.StatKind::If arms None) is));
    goes = λ h r ps l d lp j at st around allowed.
        let d1 = arms_run b false (map (arm_parts b) arms) s.id (length l) lp d in
        let d2 = place (label s.id 0) d1 in
        let needed : (need_stat s).need ≡ max (greatest (map need_arm arms)) 0 =
        ap (λ (n : StatNeed). n.need) (stat_need_of s (level.StatKind::If arms None) is) in
        let room = st.room in
        let last : here d2 ≡ here d1 = here_place (label s.id 0) d1 in
        let placed = label_read r.final whole h.proto.code r.read (label s.id 0) d1 st.inside in
        let first : In p most b whole script h r d1 = before_put r.final whole _ d1 st.inside in
        let inner = in_statement p most b whole script h r s (level.StatKind::If arms None) ps l d is st.at refl (omega arith) refl in
        let runs = arms_go h r l lp j at s.id (here d1) placed arms None false [] d performs inner st.func first
        (omega (arith, room, needed)) (loop_later p most b whole script h r lp j l l (here d2) (here d1) same (omega (arith, last)) around)
        (none_allowed s arms j at is allowed) (omega arith) (λ e. refl) (choose_none p most h l j (here d1)) in
        plain_goes p most b whole script s (level.StatKind::If arms None) h r ps l j d d2 is (λ n. refl)
        (keeps.put _ d d1 (arms_keep h r l lp j at s.id (here d1) placed false arms d)) st.at
        (subst (λ n. StatRuns p most s h l j (here d) n (λ c. l)) (sym last) (if_stat_same p most s arms None h l j (here d) (here d1) is runs));
  }

  some_performs : (s : Stat) (arms : List Arm) (body : List Stat) → out-StatKind s.kind ≡ level.StatKind::If arms (Some body) → ArmsPerform arms
      → AllPerform p most b whole script body → Does p most b whole script s (plain (branches_run b (map (arm_parts b) arms) (Some (map (stat_code b) body)) s.id))
  some_performs s arms body is performs others = record {
    declares = sym (ap (λ (n : StatNeed). n.declares) (stat_need_of s (level.StatKind::If arms (Some body)) is));
    goes = λ h r ps l d lp j at st around allowed.
        let codes = map (stat_code b) body in
        let d1 = arms_run b true (map (arm_parts b) arms) s.id (length l) lp d in
        let d2 = block_run b codes (length l) lp d1 in
        let d3 = place (label s.id 0) d2 in
        let needed : (need_stat s).need ≡ max (greatest (map need_arm arms)) (block_from 0 (map need_stat body)) =
        ap (λ (n : StatNeed). n.need) (stat_need_of s (level.StatKind::If arms (Some body)) is) in
        let room = st.room in
        let last : here d3 ≡ here d2 = here_place (label s.id 0) d2 in
        let placed = label_read r.final whole h.proto.code r.read (label s.id 0) d2 st.inside in
        let second : In p most b whole script h r d2 = before_put r.final whole _ d2 st.inside in
        let g2 : Grows d1 d2 = grows.block_good b codes (grows.stats_are_good b body) (length l) lp d1 d1 (grows.none d1) in
        let first : In p most b whole script h r d1 = before r.final whole d1 d2 g2 second in
        let g1 : Grows d d1 = rest_grows h r l lp j at s.id (here d2) placed true arms d in
        let k1 = arms_keep h r l lp j at s.id (here d2) placed true arms d in
        let le = rises d1 d2 g2 in
        let inner = in_statement p most b whole script h r s (level.StatKind::If arms (Some body)) ps l d is st.at refl (omega arith) refl in
        let both = some_allowed s arms body j at is allowed in
        let around2 = loop_later p most b whole script h r lp j l l (here d3) (here d2) same (omega (arith, last)) around in
        let other = enclosed p most b whole script body h r [] l d1 lp j at others
        (kept p most b whole script h r _ l d d1 k1 (behind_arms h r l lp j at s.id (here d2) placed arms _ d inner)) (g1.func ∙ st.func) second
        (omega (arith, room, needed)) around2 both.1 in
        let runs = arms_go h r l lp j at s.id (here d2) placed arms (Some body) true (block [] body ∷ []) d performs inner st.func first
        (omega (arith, room, needed)) (loop_later p most b whole script h r lp j l l (here d3) (here d1) same (omega (arith, last, le)) around)
        both.0 le (λ e. absurd (true_false e)) (choose_other p most body h l j (here d1) other.middle (here d2) other.End other.runs other.closes) in
        plain_goes p most b whole script s (level.StatKind::If arms (Some body)) h r ps l j d d3 is (λ n. refl)
        (keeps.put _ d d2 (keeps.after d d1 d2 k1 (block_keeps p most b whole script body (length l) lp d1))) st.at
        (subst (λ n. StatRuns p most s h l j (here d) n (λ c. l)) (sym last)
        (if_stat_same p most s arms (Some body) h l j (here d) (here d2) is runs));
  }

  pub if_performs : (s : Stat) (arms : List Arm) (other : Option (List Stat)) → out-StatKind s.kind ≡ level.StatKind::If arms other → ArmsPerform arms
      → ElsePerforms other → Performs p most b whole script s
  if_performs s arms None is performs others =
      subst (Does p most b whole script s) (sym (stat_code_of b s (level.StatKind::If arms None) is))
      (subst (λ xs. Does p most b whole script s (plain (branches_run b xs None s.id))) (sym (arms_are b arms)) (none_performs s arms is performs))
  if_performs s arms (Some body) is performs others =
      subst (Does p most b whole script s) (sym (stat_code_of b s (level.StatKind::If arms (Some body)) is))
      (subst (λ xs. Does p most b whole script s (plain (branches_run b xs (Some (map (stat_code b) body)) s.id))) (sym (arms_are b arms))
      (some_performs s arms body is performs others))
