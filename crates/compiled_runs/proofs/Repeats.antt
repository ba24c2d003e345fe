-- `repeat`: its condition sees the variables of its body, of which an early end of the turn has only the first.
use Rattle.std.proofs.Common.{◌≡◌, ℕ, ◌+◌, ◌-◌, ◌≤◌, pos, max, true, List, [], ◌∷◌, ◌++◌, length, map, Some, refl, sym, ap, ◌∙◌, arith, subst, drop}
use Rattle.syntax_tree.specs.declared.bindings.Bindings.{Bindings}
use Rattle.syntax_tree.specs.declared.notes.Place.{Place}
use Rattle.syntax_tree.specs.declared.tree.Expr.{Expr}
use Rattle.syntax_tree.specs.declared.tree.Stat.{Stat}
use Rattle.syntax_tree.specs.declared.tree.StatKind.{out-StatKind}
use Rattle.syntax_tree.specs.declared.tree.ExprKind.TheOpen as level
use Rattle.syntax_tree.specs.Need.{StatNeed, need_expr, need_stat, block_from, declared_in}
use Rattle.syntax_tree.specs.Rules as rules
use Rattle.syntax_tree.specs.Rules.{StatRules, rules_expr, rules_stat, in_loop_of}
use Rattle.value_model.specs.Values.{Value}
use Rattle.op_words.specs.declared.insn.Insn.TheVariants as i
use Rattle.code_link.specs.Labels.{place_in}
use Rattle.emit_expr.specs.declared.draft.Emitter.{Emitter}
use Rattle.emit_expr.specs.Puts.{label, place, branch, forget, mark_at}
use Rattle.emit_expr.specs.Names.{close_run, any_captured}
use Rattle.emit_laws.specs.Growing.{Grows}
use Rattle.emit_laws.proofs.Grows as grows
use Rattle.emit_laws.proofs.Keeps as keeps
use Rattle.node_code.specs.Code.{expr_code, stat_code, body_run, declared, loop_at, repeat_run}
use Rattle.scope_laws.specs.Sight.{Part, expr, stat}
use Rattle.code_simulation.specs.Slots.{Slot, temps, Above, same, up, Plainly, plain_temp}
use Rattle.code_simulation.specs.Relation.{Setting}
use Rattle.code_simulation.proofs.Along.{CallsGo, Here}
use Rattle.code_simulation.proofs.Parts.{CondRuns}
use Rattle.code_simulation.proofs.Statements.{skips_nothing}
use Rattle.code_simulation.proofs.Blocks.{Jumps, StatRuns, Closes}
use Rattle.code_simulation.proofs.Repeats.{UntilRuns, repeat_same}
use Rattle.compiled_runs.proofs.Places.{here, before, before_put, here_place, label_read, rises}
use Rattle.compiled_runs.proofs.Scopes.{AllFrom}
use Rattle.compiled_runs.proofs.Standing.{Script, weak, At, kept, kept_sight}
use Rattle.compiled_runs.proofs.NodeLevels.{stat_code_of, stat_need_of, stat_rules_of}
use Rattle.compiled_runs.proofs.Nodes.{Runs, In, jump_at}
use Rattle.compiled_runs.proofs.Leaves.{Holds}
use Rattle.compiled_runs.proofs.Statements.{Begins, variables_in, Allowed, Goes, Does, Performs, AllPerform, in_statement, statement_sight, plain_goes}
use Rattle.compiled_runs.proofs.Blocks.{left_none, here_forget, inside_forget, ended_keeps, Ending, variables_at, ending, closes_at}
use Rattle.compiled_runs.proofs.RepeatBodies.{Passed, Leaves, Turned, until_goes, declared_is}

-- values above, of which none may be captured
temps_above : (vs : List Value) {l l0 : List Slot} → Above l l0 → Above (temps vs l) l0
temps_above [] m = m
temps_above (v ∷ vs) m = temps_above vs (up m)

temps_plain : (vs : List Value) {l l0 : List Slot} → Plainly l l0 → Plainly (temps vs l) l0
temps_plain [] m = m
temps_plain (v ∷ vs) m = temps_plain vs (plain_temp m)

module _ (b : Bindings) where
  ending_kept : (d d2 : Emitter) (l0 l : List Slot) → keeps.Keeps d d2 → Ending b d l0 l → Ending b d2 l0 l
  ending_kept d d2 l0 l k e = record {
    above = e.above;
    plain = λ none. e.plain (ap (λ ws. any_captured b (drop (variables_in l0) ws)) (sym k) ∙ none);
  }

  ending_temps : (vs : List Value) (d : Emitter) (l0 l : List Slot) → Ending b d l0 l → Ending b d l0 (temps vs l)
  ending_temps vs d l0 l e = record { above = temps_above vs e.above; plain = λ none. temps_plain vs (e.plain none) }

module _ (p : Setting) (most : ℕ) (b : Bindings) (whole : Emitter) (script : Script p b whole) where
  -- Where a turn has ended early, the condition's run goes along with its code, with values in place of the variables that are not there
  abbrev pub EarlyTries : List Stat → Expr → Type 0
  EarlyTries body cond =
      (s : Stat) → out-StatKind s.kind ≡ level.Repeat body cond → (h : Here p most) (r : Runs p most b whole script h) (ps : List Part)
      (l0 lc : List Slot) (d0 d d2 : Emitter) (count label target : ℕ) → (a : At p most b whole script h r (stat s ∷ ps) l0 d0)
      → Leaves p most b whole script body h r (expr cond ∷ []) l0 count d a.sight lc → AllFrom r.from.declared d.draft.variables → keeps.Keeps d d2
      → In p most b whole script h r ((expr_code b cond).jump true count label d2) → d2.draft.func ≡ r.final.func
      → count + (need_expr cond).need ≤ h.proto.registers → place_in r.final.items 0 label ≡ Some target
      → here ((expr_code b cond).jump true count label d2) ≤ target → (vs : List Value) → length vs ≡ count - length lc
      → CondRuns p most cond h (temps vs lc) (here d2) target (here ((expr_code b cond).jump true count label d2))

  -- where the condition begins, in the first of some turns
  record Tries (cond : Expr) (h : Here p most) (l0 : List Slot) (turn on_true on_false : ℕ) (d : Emitter) (l : List Slot) : Type 0 where
    runs : CondRuns p most cond h l turn on_true on_false
    ending_is : Ending b d l0 l

  module _ (calls : (i : ℕ) → i ≤ most → CallsGo p i) where
    repeat_stands : (s : Stat) (body : List Stat) (cond : Expr) → out-StatKind s.kind ≡ level.Repeat body cond → AllPerform p most b whole script body
        → Holds p most calls b whole script cond → EarlyTries body cond
        → (h : Here p most) (r : Runs p most b whole script h) (ps : List Part) (l : List Slot) (d : Emitter) (j : Jumps) (at : Place)
        → (st : Begins p most b whole script h r (stat s ∷ ps) l d (repeat_run b (map (stat_code b) body) (expr_code b cond) s.id (length l) d)
        (need_stat s).need) → Allowed s j at
        → Goes p most b whole script s 0 h r ps l j d (repeat_run b (map (stat_code b) body) (expr_code b cond) s.id (length l) d) st.at.sight
    repeat_stands s body cond is performs holds early h r ps l d j at st allowed =
        let c = expr_code b cond in
        let codes = map (stat_code b) body in
        let m = mark_at (length l) d in
        let lp = loop_at s.id m in
        let count = length l + declared codes in
        let d0 = place (label s.id 0) d in
        let d1 = body_run codes (length l) lp d0 in
        let d2 = place (label s.id 2) d1 in
        let d3 = c.jump true count (label s.id 3) d2 in
        let d4 = close_run b m d3 in
        let d5 = branch (i.JumpBack (pos 0)) (label s.id 0) d4 in
        let d6 = place (label s.id 3) d5 in
        let d7 = close_run b m d6 in
        let d8 = forget m.variables d7 in
        let d9 = place (label s.id 1) d8 in
        let g0 : Grows d d0 = grows.put _ d d (grows.none d) in
        let g1 : Grows d0 d1 = grows.body_good codes (grows.stats_are_good b body) (length l) lp d0 d0 (grows.none d0) in
        let g2 : Grows d1 d2 = grows.put _ d1 d1 (grows.none d1) in
        let g3 : Grows d2 d3 = (grows.expr_is_good b cond).jump true count (label s.id 3) d2 d2 (grows.none d2) in
        let g4 : Grows d3 d4 = grows.close_good b m d3 d3 (grows.none d3) in
        let g5 : Grows d4 d5 = grows.put _ d4 d4 (grows.none d4) in
        let g6 : Grows d5 d6 = grows.put _ d5 d5 (grows.none d5) in
        let g7 : Grows d6 d7 = grows.close_good b m d6 d6 (grows.none d6) in
        let s8 : In p most b whole script h r d8 = before_put r.final whole _ d8 st.inside in
        let s7 : In p most b whole script h r d7 = inside_forget r.final whole m.variables d7 s8 in
        let s6 : In p most b whole script h r d6 = before r.final whole d6 d7 g7 s7 in
        let s5 : In p most b whole script h r d5 = before_put r.final whole _ d5 s6 in
        let s4 : In p most b whole script h r d4 = before_put r.final whole _ d4 s5 in
        let s3 : In p most b whole script h r d3 = before r.final whole d3 d4 g4 s4 in
        let s2 : In p most b whole script h r d2 = before r.final whole d2 d3 g3 s3 in
        let s1 : In p most b whole script h r d1 = before_put r.final whole _ d1 s2 in
        let s0 : In p most b whole script h r d0 = before r.final whole d0 d1 g1 s1 in
        let exits = label_read r.final whole h.proto.code r.read (label s.id 1) d8 st.inside in
        let turns = label_read r.final whole h.proto.code r.read (label s.id 2) d1 s2 in
        let leaves = label_read r.final whole h.proto.code r.read (label s.id 3) d5 s6 in
        let starts = label_read r.final whole h.proto.code r.read (label s.id 0) d s0 in
        let e0 : here d0 ≡ here d = here_place (label s.id 0) d in
        let e2 : here d2 ≡ here d1 = here_place (label s.id 2) d1 in
        let e6 : here d6 ≡ here d5 = here_place (label s.id 3) d5 in
        let e8 : here d8 ≡ here d7 = here_forget m.variables d7 in
        let e9 : here d9 ≡ here d8 = here_place (label s.id 1) d8 in
        let r3 = rises d2 d3 g3 in
        let r4 = rises d3 d4 g4 in
        let r5 = rises d4 d5 g5 in
        let r7 = rises d6 d7 g7 in
        let sum : declared codes ≡ declared_in (map need_stat body) = declared_is p most b whole script body performs in
        let needed : (need_stat s).need ≡ max (block_from 0 (map need_stat body)) (declared_in (map need_stat body) + (need_expr cond).need) =
        ap (λ (n : StatNeed). n.need) (stat_need_of s (level.Repeat body cond) is) in
        let room = st.room in
        let k0 : keeps.Keeps d d0 = keeps.put _ d d (keeps.none d) in
        let enough : st.at.sight.declared ≤ st.at.sight.declared = omega arith in
        let inner : At p most b whole script h r (map stat body ++ expr cond ∷ []) l d =
        in_statement p most b whole script h r s (level.Repeat body cond) ps l d is st.at refl enough refl in
        let inner0 : At p most b whole script h r (map stat body ++ expr cond ∷ []) l d0 =
        kept p most b whole script h r (map stat body ++ expr cond ∷ []) l d d0 k0 inner in
        let sight : inner0.sight ≡ st.at.sight =
        kept_sight p most b whole script h r (map stat body ++ expr cond ∷ []) l d d0 k0 inner
        ∙ statement_sight p most b whole script h r s (level.Repeat body cond) ps l d is st.at refl enough refl in
        let variables : length d.draft.variables ≡ variables_in l = variables_at p most b whole script h r _ l d st.at in
        let good = left_none (rules.block (map rules_stat body) (in_loop_of 0 at)) (rules_expr cond at)
        (ap (λ (z : StatRules). z.faults at) (sym (stat_rules_of s (level.Repeat body cond) is)) ∙ allowed.rules) in
        let jump = jump_at p most b whole script h r (i.JumpBack (pos 0)) (label s.id 0) d4 s5 in
        let func1 : d1.draft.func ≡ r.final.func = g1.func ∙ g0.func ∙ st.func in
        let func2 : d2.draft.func ≡ r.final.func = g2.func ∙ func1 in
        let k2 : keeps.Keeps d1 d2 = keeps.put _ d1 d1 (keeps.none d1) in
        let k3 : keeps.Keeps d2 d3 = (keeps.expr_is_good b cond).jump true count (label s.id 3) d2 d2 (keeps.none d2) in
        let k6 : keeps.Keeps d3 d6 =
        keeps.put _ d3 d5 (keeps.put _ d3 d4 (keeps.close_good b m d3 d3 (keeps.none d3))) in
        let g13 : Grows d1 d3 = grows.after d1 d2 d3 g2 g3 in
        let g06 : Grows d d6 = grows.after d d5 d6 (grows.after d d4 d5 (grows.after d d3 d4 (grows.after d d1 d3 (grows.after d d0 d1 g0 g1) g13) g4) g5) g6 in
        let AtCond : List Slot → Type 0 = Tries cond h l (here d1) (here d5) (here d3) d3 in
        let turned : Turned p most b whole script body body h r (expr cond ∷ []) l l d0 d1 d1 st.at.sight (here d8) (here d1) count =
        until_goes p most b whole script body [] body h r (expr cond ∷ []) l l d0 d1 lp st.at.sight (here d8) (here d1) (in_loop_of 0 at) (length l) 0 count
        refl performs inner0 sight (g0.func ∙ st.func) same s1 (omega arith) (omega (arith, room, needed)) good
        (record {
          variables = variables;
          free = refl;
          breaks = exits;
          continues = turns;
          break_ahead = omega (arith, e2, e6, e8, r3, r4, r5, r7);
          turn_ahead = omega arith;
        })
        (grows.same d1.draft.variables) (omega (arith, sum)) in
        let runs : UntilRuns p most body h l l (here d8) (here d1) (here d) (here d1) (Passed p most b whole script h r (expr cond ∷ []) l count d1)
        (Leaves p most b whole script body h r (expr cond ∷ []) l count d1 st.at.sight) =
        subst (λ n. UntilRuns p most body h l l (here d8) (here d1) n (here d1) (Passed p most b whole script h r (expr cond ∷ []) l count d1)
        (Leaves p most b whole script body h r (expr cond ∷ []) l count d1 st.at.sight)) e0 turned.runs in
        let ends : (l2 : List Slot) → Passed p most b whole script h r (expr cond ∷ []) l count d1 l2 → AtCond l2 = λ l2 x. record {
          runs = subst (λ n. CondRuns p most cond h l2 n (here d5) (here d3)) e2
              (subst (λ n. In p most b whole script h r (c.jump true n (label s.id 3) d2)
              → CondRuns p most cond h l2 (here d2) (here d5) (here (c.jump true n (label s.id 3) d2))) x.count_is
              (λ s3. holds.cond true h r [] l2 d2 (label s.id 3) (here d5)
              (record {
                at = weak p most b whole script h r (expr cond ∷ []) l2 d2 (kept p most b whole script h r (expr cond ∷ []) l2 d1 d2 k2 x.at);
                inside = s3;
                func = func2;
                room = let size = x.count_is in omega (arith, room, needed, sum, size);
              }) leaves
              (subst (λ n. here (c.jump true n (label s.id 3) d2) ≤ here d5) (sym x.count_is) (omega (arith, r4, r5)))) s3);
          ending_is = ending p most b whole script h r (expr cond ∷ []) l l2 d1 d3 x.at x.above g13.variables;
        } in
        let earlies : (lc : List Slot) → Leaves p most b whole script body h r (expr cond ∷ []) l count d1 st.at.sight lc
        → (vs : List Value) → length vs ≡ count - length lc → AtCond (temps vs lc) = λ lc x vs size. record {
          runs = subst (λ n. CondRuns p most cond h (temps vs lc) n (here d5) (here d3)) e2
              (early s is h r ps l lc d d1 d2 count (label s.id 3) (here d5) st.at x turned.own k2 s3 func2 (omega (arith, room, needed, sum)) leaves
              (omega (arith, r4, r5)) vs size);
          ending_is = ending_temps b vs d3 l lc (ending p most b whole script h r _ l lc x.emitter d3 x.at x.above
              (grows.longer x.emitter.draft.variables d1.draft.variables d3.draft.variables x.more g13.variables));
        } in
        let closes1 : Closes p most h l AtCond (here d5) (here d7) =
        subst (λ n. Closes p most h l AtCond n (here d7)) e6
        (closes_at p most b whole script h r m l d6 AtCond variables refl s7 (λ l2 x. ending_kept b d3 d6 l l2 k6 x.ending_is)) in
        let closes2 : Closes p most h l AtCond (here d3) (here d4) =
        closes_at p most b whole script h r m l d3 AtCond variables refl s4 (λ l2 x. x.ending_is) in
        plain_goes p most b whole script s (level.Repeat body cond) h r ps l j d d9 is (λ n. refl)
        (keeps.put _ d d8 (ended_keeps b m d d6 refl g06.variables)) st.at
        (subst (λ n. StatRuns p most s h l j (here d) n (λ c. l)) (sym e9)
        (repeat_same p most s body cond jump.by h l j (here d) (here d1) (here d5) (here d7) (here d3) (here d4) (here d5) (here d8) count
        (Passed p most b whole script h r (expr cond ∷ []) l count d1)
        (Leaves p most b whole script body h r (expr cond ∷ []) l count d1 st.at.sight) AtCond is runs
        (λ lx x. x.runs) ends earlies closes1 (skips_nothing (sym e8)) closes2 jump.reads (jump.back (here d) starts)))

    pub repeat_performs : (s : Stat) (body : List Stat) (cond : Expr) → out-StatKind s.kind ≡ level.Repeat body cond
        → AllPerform p most b whole script body → Holds p most calls b whole script cond → EarlyTries body cond → Performs p most b whole script s
    repeat_performs s body cond is performs holds early =
        subst (Does p most b whole script s) (sym (stat_code_of b s (level.Repeat body cond) is)) (record {
          declares = sym (ap (λ (n : StatNeed). n.declares) (stat_need_of s (level.Repeat body cond) is));
          goes = λ h r ps l d lp j at st around allowed. repeat_stands s body cond is performs holds early h r ps l d j at st allowed;
        })
