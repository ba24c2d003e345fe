-- `while`, `break` and `continue`.
use Rattle.std.proofs.Common.{◌≡◌, ℕ, zero, suc, ◌+◌, ◌<◌, ◌≤◌, ℤ, pos, max, Bool, true, false, List, [], ◌∷◌, ◌++◌, length, map, Some, refl, sym, ap, ◌∙◌, arith, subst, if◌then◌else◌}
use Rattle.syntax_tree.specs.declared.bindings.Bindings.{Bindings}
use Rattle.syntax_tree.specs.declared.notes.Place.{Place}
use Rattle.syntax_tree.specs.declared.tree.Expr.{Expr}
use Rattle.syntax_tree.specs.declared.tree.Stat.{Stat}
use Rattle.syntax_tree.specs.declared.tree.StatKind.{out-StatKind}
use Rattle.syntax_tree.specs.declared.tree.ExprKind.TheOpen as level
use Rattle.syntax_tree.specs.declared.fault.ScopeRule.TheVariants as rule
use Rattle.syntax_tree.specs.Faults.{fault}
use Rattle.syntax_tree.specs.Need.{StatNeed, need_expr, need_stat, block_from}
use Rattle.syntax_tree.specs.Rules as rules
use Rattle.syntax_tree.specs.Rules.{StatRules, rules_expr, rules_stat, in_loop_of}
use Rattle.value_model.specs.Values.{Value, is_true}
use Rattle.bounded_runs.specs.Runs.{Charges}
use Rattle.source_meaning.specs.States as source
use Rattle.source_meaning.specs.Statements as statements
use Rattle.source_meaning.specs.Steps as source_steps
use Rattle.op_words.specs.declared.insn.Insn.TheVariants as i
use Rattle.code_link.specs.Labels.{place_in}
use Rattle.emit_expr.specs.declared.draft.Emitter.{Emitter}
use Rattle.emit_expr.specs.declared.draft.Loop.{Loop}
use Rattle.emit_expr.specs.declared.draft.Mark.{Mark}
use Rattle.emit_expr.specs.Puts.{label, place, branch, forget, mark_at}
use Rattle.emit_expr.specs.Names.{close_run}
use Rattle.emit_laws.specs.Growing.{Prefix, Grows}
use Rattle.emit_laws.proofs.Grows as grows
use Rattle.emit_laws.proofs.Keeps as keeps
use Rattle.node_code.specs.Code.{expr_code, stat_code, body_run, in_turn, loop_at, while_run}
use Rattle.scope_laws.specs.Sight.{Part, expr, stat, block}
use Rattle.code_simulation.specs.Slots.{Slot, Above, same}
use Rattle.code_simulation.specs.Relation.{Dyn, Setting}
use Rattle.code_simulation.proofs.Along.{File, Here, inside, env_of, waits_here, Reads, source_at, Has, Same, SameIn}
use Rattle.code_simulation.proofs.Parts.{chosen, CondRuns}
use Rattle.code_simulation.proofs.Names.{above_all}
use Rattle.code_simulation.proofs.World.{holds_later}
use Rattle.code_simulation.proofs.Moving.{source_goes}
use Rattle.code_simulation.proofs.Blocks.{Jumps, outside, breaking, looping, Backward, StatRuns, Closes, closes_same, stat_row, break_same, break_alone_same, continue_same}
use Rattle.code_simulation.proofs.Loops.{turn_back}
use Rattle.code_simulation.proofs.Repeats.{UntilRuns, until_none, until_early}
use Rattle.compiled_runs.proofs.Places.{here, before, before_put, here_place, label_read, rises}
use Rattle.compiled_runs.proofs.Standing.{Script, weak, At, kept, next_expr}
use Rattle.compiled_runs.proofs.NodeLevels.{stat_code_of, stat_need_of, stat_rules_of, ends_turn_of}
use Rattle.compiled_runs.proofs.Nodes.{Runs, In, As, jump_at}
use Rattle.compiled_runs.proofs.Statements.{Begins, variables_in, may_break, may_continue, Allowed, Leads, InLoop, Goes, Does, Performs, AllPerform, in_statement, plain_goes}
use Rattle.compiled_runs.proofs.Blocks.{left_none, right_none, here_forget, inside_forget, ended_keeps, Ending, variables_at, ending, closes_at, with_live, Last, in_block}

module _ (p : Setting) (most : ℕ) (b : Bindings) (whole : Emitter) (script : Script p b whole) where
  false_true : false ≡ true → ⊥
  false_true e = cc

  -- ---- the ways out of a loop

  module _ (h : Here p most) (r : Runs p most b whole script h) where
    -- what a way out of a loop closes
    way_closes : (m : Mark) (to : ℕ) (kept l : List Slot) (target behind : ℕ) (ps : List Part) (d : Emitter)
        → Leads p most b whole script h r m to kept l target behind → At p most b whole script h r ps l d → In p most b whole script h r (close_run b m d)
        → Closes p most h kept (λ l2. l2 ≡ l) (here d) (here (close_run b m d))
    way_closes m to kept l target behind ps d leads a s =
        closes_at p most b whole script h r m kept d (λ l2. l2 ≡ l) leads.variables leads.free s
        (λ l2 e. subst (Ending b d kept) (sym e)
        (ending p most b whole script h r ps kept l d d a leads.above (grows.same d.draft.variables)))

  loop_word_is : (in_loop : Bool) (at : ℕ) → (if in_loop then [] else fault rule.LoopWordOutside at) ≡ [] → in_loop ≡ true
  loop_word_is true at e = refl
  loop_word_is false at e = cc

  breaks : (s : Stat) → out-StatKind s.kind ≡ level.Break → (h : Here p most) (r : Runs p most b whole script h) (ps : List Part) (l : List Slot)
      (d : Emitter) (lp : Loop) → At p most b whole script h r (stat s ∷ ps) l d
      → In p most b whole script h r (branch (i.Jump (pos 0)) (label lp.node 1) (close_run b lp.start d)) → (j : Jumps) → may_break j ≡ true
      → InLoop p most b whole script h r lp j l (here (branch (i.Jump (pos 0)) (label lp.node 1) (close_run b lp.start d)))
      → StatRuns p most s h l j (here d) (here (branch (i.Jump (pos 0)) (label lp.node 1) (close_run b lp.start d))) (λ c. l)
  breaks s is h r ps l d lp a stands outside may around = absurd (false_true may)
  breaks s is h r ps l d lp a stands (breaking lb brk) may around =
      let d1 = close_run b lp.start d in
      let x = jump_at p most b whole script h r (i.Jump (pos 0)) (label lp.node 1) d1 stands in
      break_alone_same p most s x.by h l lb brk (here d) (here d1) _ (λ c. l) is
      (way_closes h r lp.start (label lp.node 1) lb l brk _ (stat s ∷ ps) d around a (before_put r.final whole _ d1 stands))
      x.reads (x.on brk around.placed around.ahead)
  breaks s is h r ps l d lp a stands (looping lb brk lc turn) may around =
      let d1 = close_run b lp.start d in
      let x = jump_at p most b whole script h r (i.Jump (pos 0)) (label lp.node 1) d1 stands in
      let out = around.0 in
      break_same p most s x.by h l lb lc brk turn (here d) (here d1) _ (λ c. l) is
      (way_closes h r lp.start (label lp.node 1) lb l brk _ (stat s ∷ ps) d out a (before_put r.final whole _ d1 stands))
      x.reads (x.on brk out.placed out.ahead)

  pub break_performs : (s : Stat) → out-StatKind s.kind ≡ level.Break → Performs p most b whole script s
  break_performs s is = subst (Does p most b whole script s) (sym (stat_code_of b s level.Break is)) (record {
    declares = sym (ap (λ (n : StatNeed). n.declares) (stat_need_of s level.Break is));
    goes = λ h r ps l d lp j at st around allowed.
        let d1 = close_run b lp.start d in
        plain_goes p most b whole script s level.Break h r ps l j d _ is (λ n. refl)
        (keeps.put _ d d1 (keeps.close_good b lp.start d d (keeps.none d))) st.at
        (breaks s is h r ps l d lp st.at st.inside j
        (allowed.breaks (loop_word_is at.in_loop s.at (ap (λ (z : StatRules). z.faults at) (sym (stat_rules_of s level.Break is)) ∙ allowed.rules))) around);
  })

  continues : (s : Stat) → out-StatKind s.kind ≡ level.Continue → (h : Here p most) (r : Runs p most b whole script h) (ps : List Part)
      (l : List Slot) (d : Emitter) (lp : Loop) → At p most b whole script h r (stat s ∷ ps) l d
      → In p most b whole script h r (branch (i.Jump (pos 0)) (label lp.node 2) (close_run b lp.turn d)) → (j : Jumps) → may_continue j ≡ true
      → InLoop p most b whole script h r lp j l (here (branch (i.Jump (pos 0)) (label lp.node 2) (close_run b lp.turn d)))
      → StatRuns p most s h l j (here d) (here (branch (i.Jump (pos 0)) (label lp.node 2) (close_run b lp.turn d))) (λ c. l)
  continues s is h r ps l d lp a stands outside may around = absurd (false_true may)
  continues s is h r ps l d lp a stands (breaking lb brk) may around = absurd (false_true may)
  continues s is h r ps l d lp a stands (looping lb brk lc turn) may around =
      let d1 = close_run b lp.turn d in
      let x = jump_at p most b whole script h r (i.Jump (pos 0)) (label lp.node 2) d1 stands in
      let out = around.1 in
      continue_same p most s x.by h l lb lc brk turn (here d) (here d1) _ (λ c. l) is
      (way_closes h r lp.turn (label lp.node 2) lc l turn _ (stat s ∷ ps) d out a (before_put r.final whole _ d1 stands))
      x.reads (x.on turn out.placed out.ahead)

  pub continue_performs : (s : Stat) → out-StatKind s.kind ≡ level.Continue → Performs p most b whole script s
  continue_performs s is = subst (Does p most b whole script s) (sym (stat_code_of b s level.Continue is)) (record {
    declares = sym (ap (λ (n : StatNeed). n.declares) (stat_need_of s level.Continue is));
    goes = λ h r ps l d lp j at st around allowed.
        let d1 = close_run b lp.turn d in
        plain_goes p most b whole script s level.Continue h r ps l j d _ is (λ n. refl)
        (keeps.put _ d d1 (keeps.close_good b lp.turn d d (keeps.none d))) st.at
        (continues s is h r ps l d lp st.at st.inside j (allowed.continues (ends_turn_of s level.Continue is)) around);
  })

  -- ---- the body of a loop

  -- the ways out of a loop's body that ends before a place
  pub record Turning (h : Here p most) (r : Runs p most b whole script h) (lp : Loop) (l0 : List Slot) (brk turn behind : ℕ) : Type 0 where
    pub variables : lp.start.variables ≡ variables_in l0
    pub free : lp.start.free ≡ length l0
    pub breaks : place_in r.final.items 0 (label lp.node 1) ≡ Some brk
    pub continues : place_in r.final.items 0 (label lp.node 2) ≡ Some turn
    pub break_ahead : behind ≤ brk
    pub turn_ahead : behind ≤ turn

  pub body_goes : (ss : List Stat) (h : Here p most) (r : Runs p most b whole script h) (ps : List Part) (l0 l : List Slot) (d closing : Emitter)
      (lp : Loop) (brk turn : ℕ) (at : Place) (base held : ℕ) → AllPerform p most b whole script ss
      → At p most b whole script h r (map stat ss ++ ps) l d → d.draft.func ≡ r.final.func → Above l l0
      → In p most b whole script h r (body_run (map (stat_code b) ss) (length l) lp d) → length l ≡ base + held
      → base + block_from held (map need_stat ss) ≤ h.proto.registers → rules.block (map rules_stat ss) at ≡ []
      → Turning h r lp l0 brk turn (here (body_run (map (stat_code b) ss) (length l) lp d))
      → Prefix (body_run (map (stat_code b) ss) (length l) lp d).draft.variables closing.draft.variables
      → UntilRuns p most ss h l0 l brk turn (here d) (here (body_run (map (stat_code b) ss) (length l) lp d))
      (Last p most b whole script h r ps l0 (body_run (map (stat_code b) ss) (length l) lp d)) (Ending b closing l0)
  body_goes [] h r ps l0 l d closing lp brk turn at base held performs a func above s count room good turning more =
      until_none p most h l0 l brk turn (here d) (Last p most b whole script h r ps l0 d) (Ending b closing l0) (record { at = a; above = above })
  body_goes (s ∷ ss) h r ps l0 l d closing lp brk turn at base held performs a func above inside count room good turning more =
      let codes = map (stat_code b) ss in
      let c = stat_code b s in
      let lp1 = in_turn (mark_at (length l) d) lp in
      let d1 = c.run (length l) lp1 d in
      let d2 = body_run codes (length l + c.declares) lp d1 in
      let grown : Grows d1 d2 = grows.body_good codes (grows.stats_are_good b ss) (length l + c.declares) lp d1 d1 (grows.none d1) in
      let started : Grows d d1 = grows.stat_is_good b s (length l) lp1 d d (grows.none d) in
      let first : In p most b whole script h r d1 = before r.final whole d1 d2 grown inside in
      let le = rises d1 d2 grown in
      let far1 = turning.break_ahead in
      let far2 = turning.turn_ahead in
      let rest = with_live p most b whole script (rules_stat s).declares at in
      let g = performs.0.goes h r (map stat ss ++ ps) l d lp1 (looping l0 brk l turn) at
      (record { at = a; inside = first; func = func; room = omega (arith, count, room) }) (
        record { variables = turning.variables; free = turning.free; above = above; placed = turning.breaks; ahead = omega (arith, le, far1) },
        record {
          variables = variables_at p most b whole script h r _ l d a;
          free = refl;
          above = same;
          placed = turning.continues;
          ahead = omega (arith, le, far2);
        },
      )
      (record {
        rules = left_none ((rules_stat s).faults at) (rules.block (map rules_stat ss) rest) good;
        breaks = λ e. refl;
        continues = λ e. refl;
      }) in
      let declares = performs.0.declares in
      until_early p most s ss h l0 l brk turn (here d) (here d1) (here d2) g.after (Last p most b whole script h r ps l0 d2) (Ending b closing l0) g.runs
      (ending p most b whole script h r (map stat (s ∷ ss) ++ ps) l0 l d closing a above
      (grows.longer d.draft.variables d2.draft.variables closing.draft.variables (grows.after d d1 d2 started grown).variables more))
      (λ n. let longer = g.count n in
      subst (λ m. UntilRuns p most ss h l0 (g.after n) brk turn (here d1) (here (body_run codes m lp d1))
      (Last p most b whole script h r ps l0 (body_run codes m lp d1)) (Ending b closing l0)) longer
      (body_goes ss h r ps l0 (g.after n) d1 closing lp brk turn rest base (held + (need_stat s).declares)
      performs.1 (g.at n) (started.func ∙ func) (above_all (g.above n) above)
      (subst (λ m. In p most b whole script h r (body_run codes m lp d1)) (sym longer) inside)
      (omega (arith, count, longer, declares)) (omega (arith, room))
      (right_none ((rules_stat s).faults at) (rules.block (map rules_stat ss) rest) good)
      (subst (λ m. Turning h r lp l0 brk turn (here (body_run codes m lp d1))) (sym longer) turning)
      (subst (λ m. Prefix (body_run codes m lp d1).draft.variables closing.draft.variables) (sym longer) more)))

  -- with a weaker claim about what is in use at the end
  pub until_weaker : (ss : List Stat) (h : Here p most) (l0 l : List Slot) (brk turn from to : ℕ) (End End2 Early : List Slot → Type 0)
      → ((l2 : List Slot) → End l2 → End2 l2) → UntilRuns p most ss h l0 l brk turn from to End Early
      → UntilRuns p most ss h l0 l brk turn from to End2 Early
  until_weaker ss h l0 l brk turn from to End End2 Early weaker runs left le k d file w breaks continues go =
      runs left le k d file w breaks continues (λ i lt l2 d2 file2 e w2. go i lt l2 d2 file2 (weaker l2 e) w2)

  -- ---- `while`

  looped_same : (cond : Expr) (body : List Stat) (h : Here p most) (l : List Slot) (left : ℕ) (k : List source.Frame) (v : Value) (d : Dyn)
      (file : File) (on_true on_false : ℕ) (t : Bool) → is_true v ≡ t
      → (t ≡ true → Same p most h left (source.ExecuteAll body) (source.Restores (env_of p most h l) ∷ source.Repeats cond body ∷ k) l d on_true file)
      → (t ≡ false → Same p most h left source.Done k l d on_false file)
      → Same p most h left (source.Give v) (source.Loops cond body ∷ k) l d (chosen t on_true on_false) file
  looped_same cond body h l left k v d file on_true on_false true t on off =
      source_goes p (ap (λ x. statements.looped x cond body (inside p most h) k (env_of p most h l) d.script) t) (on refl)
  looped_same cond body h l left k v d file on_true on_false false t on off =
      source_goes p (ap (λ x. statements.looped x cond body (inside p most h) k (env_of p most h l) d.script) t) (off refl)

  -- the script charges a turn, and evaluates the condition again
  abbrev EndsTurn : Here p most → List Slot → List source.Frame → Expr → List Stat → source.Focus → Dyn → Type 0
  EndsTurn h l k cond body x d =
      source_steps.step p.texts (source_at p most h x (source.Repeats cond body ∷ k) (env_of p most h l) d) ≡ Charges
      (source_at p most h (source.Evaluate cond) (source.Loops cond body ∷ k) (env_of p most h l) d)

  -- a loop goes along for as many turns as are left, where a turn's early end may leave more in use
  while_goes : (cond : Expr) (body : List Stat) (by : ℤ) (h : Here p most) (l : List Slot) (from on_true turn last next to : ℕ)
      (End : List Slot → Type 0) → CondRuns p most cond h l from on_true to → UntilRuns p most body h l l to turn on_true turn End End
      → Closes p most h l End turn last → Reads p most h last (i.JumpBack by) next → Backward last by from → (turns left : ℕ) → left < turns
      → left ≤ most → (k : List source.Frame) (d : Dyn) (file : File) → Has p most h left l d file
      → ((i : ℕ) → i ≤ left → (d2 : Dyn) (file2 : File) → Has p most h i l d2 file2 → Same p most h i source.Done k l d2 to file2)
      → Same p most h left (source.Evaluate cond) (source.Loops cond body ∷ k) l d from file
  while_goes cond body by h l from on_true turn last next to End cond_runs body_runs c reads j zero left lt le k d file w go = absurd (omega (arith, lt))
  while_goes cond body by h l from on_true turn last next to End cond_runs body_runs c reads j (suc turns) left lt le k d file w go =
      let ends : (x : source.Focus) (i : ℕ) → i ≤ left → (l2 : List Slot) (d2 : Dyn) (file2 : File) → EndsTurn h l k cond body x d2 → End l2
      → Has p most h i l2 d2 file2 → SameIn p most h i x (source.Repeats cond body ∷ k)
      (env_of p most h l) d2 turn file2 = λ x i lt2 l2 d2 file2 row end2 w2.
      closes_same p most h l End turn last i l2 _ d2 file2 c end2 w2
      (λ file3 w3. turn_back p most h last next from i by _ _ d2 file3 reads j row
      (λ fewer e. while_goes cond body by h l from on_true turn last next to End cond_runs body_runs c reads j turns fewer
      (omega (arith, lt, lt2, e)) (omega (arith, le, lt2, e)) k d2 file3
      (holds_later p fewer i h.co (waits_here p most h) h.roots h.act l d2 file3.registers (omega (arith, e)) w3)
      (λ n lt3. go n (omega (arith, lt2, e, lt3))))) in
      cond_runs left le (source.Loops cond body ∷ k) d file w
      (λ i lt2 v d2 file2 w2 steady t is.
      looped_same cond body h l i k v d2 file2 on_true to t is
      (λ on. body_runs i (omega (arith, le, lt2)) (source.Restores (env_of p most h l) ∷ source.Repeats cond body ∷ k) d2 file2 w2
      (λ env n lt3 d3 file3 w3. source_goes p refl (source_goes p refl (go n (omega (arith, lt2, lt3)) d3 file3 w3)))
      (λ lc early n lt3 d3 file3 w3. source_goes p refl (ends source.Continue n (omega (arith, lt2, lt3)) lc d3 file3 refl early w3))
      (λ n lt3 l3 d3 file3 end3 w3. source_goes p refl (ends source.Done n (omega (arith, lt2, lt3)) l3 d3 file3 refl end3 w3)))
      (λ off. go i lt2 d2 file2 w2))

  while_runs : (s : Stat) (cond : Expr) (body : List Stat) (by : ℤ) (h : Here p most) (l : List Slot) (j : Jumps) (from on_true turn last next to : ℕ)
      (End : List Slot → Type 0) → out-StatKind s.kind ≡ level.While cond body → CondRuns p most cond h l from on_true to
      → UntilRuns p most body h l l to turn on_true turn End End → Closes p most h l End turn last → Reads p most h last (i.JumpBack by) next
      → Backward last by from → StatRuns p most s h l j from to (λ c. l)
  while_runs s cond body by h l j from on_true turn last next to End is cond_runs body_runs c reads back left le k d file w ways go =
      source_goes p (stat_row p most s _ h l k d is)
      (while_goes cond body by h l from on_true turn last next to End cond_runs body_runs c reads back (suc left) left (omega arith) le k d file w
      (λ i lt. go i lt 0))

  while_stands : (s : Stat) (cond : Expr) (body : List Stat) → out-StatKind s.kind ≡ level.While cond body
      → As p most b whole script cond (expr_code b cond) → AllPerform p most b whole script body
      → (h : Here p most) (r : Runs p most b whole script h) (ps : List Part) (l : List Slot) (d : Emitter) (j : Jumps) (at : Place)
      → (st : Begins p most b whole script h r (stat s ∷ ps) l d (while_run b (expr_code b cond) (map (stat_code b) body) s.id (length l) d)
      (need_stat s).need) → Allowed s j at
      → Goes p most b whole script s 0 h r ps l j d (while_run b (expr_code b cond) (map (stat_code b) body) s.id (length l) d) st.at.sight
  while_stands s cond body is holds performs h r ps l d j at st allowed =
      let c = expr_code b cond in
      let codes = map (stat_code b) body in
      let m = mark_at (length l) d in
      let lp = loop_at s.id m in
      let d0 = place (label s.id 0) d in
      let d1 = c.jump false (length l) (label s.id 1) d0 in
      let d2 = body_run codes (length l) lp d1 in
      let d3 = place (label s.id 2) d2 in
      let d4 = close_run b m d3 in
      let d5 = forget m.variables d4 in
      let d6 = branch (i.JumpBack (pos 0)) (label s.id 0) d5 in
      let d7 = place (label s.id 1) d6 in
      let g0 : Grows d d0 = grows.put _ d d (grows.none d) in
      let g1 : Grows d0 d1 = (grows.expr_is_good b cond).jump false (length l) (label s.id 1) d0 d0 (grows.none d0) in
      let g2 : Grows d1 d2 = grows.body_good codes (grows.stats_are_good b body) (length l) lp d1 d1 (grows.none d1) in
      let g3 : Grows d2 d3 = grows.put _ d2 d2 (grows.none d2) in
      let g4 : Grows d3 d4 = grows.close_good b m d3 d3 (grows.none d3) in
      let g6 : Grows d5 d6 = grows.put _ d5 d5 (grows.none d5) in
      let s6 : In p most b whole script h r d6 = before_put r.final whole _ d6 st.inside in
      let s5 : In p most b whole script h r d5 = before_put r.final whole _ d5 s6 in
      let s4 : In p most b whole script h r d4 = inside_forget r.final whole m.variables d4 s5 in
      let s3 : In p most b whole script h r d3 = before r.final whole d3 d4 g4 s4 in
      let s2 : In p most b whole script h r d2 = before_put r.final whole _ d2 s3 in
      let s1 : In p most b whole script h r d1 = before r.final whole d1 d2 g2 s2 in
      let s0 : In p most b whole script h r d0 = before r.final whole d0 d1 g1 s1 in
      let exits = label_read r.final whole h.proto.code r.read (label s.id 1) d6 st.inside in
      let turns = label_read r.final whole h.proto.code r.read (label s.id 2) d2 s3 in
      let starts = label_read r.final whole h.proto.code r.read (label s.id 0) d s0 in
      let e0 : here d0 ≡ here d = here_place (label s.id 0) d in
      let e3 : here d3 ≡ here d2 = here_place (label s.id 2) d2 in
      let e5 : here d5 ≡ here d4 = here_forget m.variables d4 in
      let e7 : here d7 ≡ here d6 = here_place (label s.id 1) d6 in
      let r2 = rises d1 d2 g2 in
      let r4 = rises d3 d4 g4 in
      let r6 = rises d5 d6 g6 in
      let needed : (need_stat s).need ≡ max (need_expr cond).need (block_from 0 (map need_stat body)) =
      ap (λ (n : StatNeed). n.need) (stat_need_of s (level.While cond body) is) in
      let room = st.room in
      let inner : At p most b whole script h r (expr cond ∷ block [] body ∷ []) l d =
      in_statement p most b whole script h r s (level.While cond body) ps l d is st.at refl (omega arith) refl in
      let inner0 : At p most b whole script h r (expr cond ∷ block [] body ∷ []) l d0 =
      kept p most b whole script h r _ l d d0 (keeps.put _ d d (keeps.none d)) inner in
      let inner1 : At p most b whole script h r (map stat body ++ []) l d1 =
      in_block p most b whole script h r body [] l d1
      (kept p most b whole script h r _ l d0 d1 ((keeps.expr_is_good b cond).jump false (length l) (label s.id 1) d0 d0 (keeps.none d0))
      (next_expr p most b whole script h r cond _ l d0 inner0)) in
      let count : length d.draft.variables ≡ variables_in l = variables_at p most b whole script h r _ l d st.at in
      let good = right_none (rules_expr cond at) (rules.block (map rules_stat body) (in_loop_of 0 at))
      (ap (λ (z : StatRules). z.faults at) (sym (stat_rules_of s (level.While cond body) is)) ∙ allowed.rules) in
      let jump = jump_at p most b whole script h r (i.JumpBack (pos 0)) (label s.id 0) d5 s6 in
      let runs : UntilRuns p most body h l l (here d6) (here d2) (here d1) (here d2) (Ending b d3 l) (Ending b d3 l) =
      until_weaker body h l l (here d6) (here d2) (here d1) (here d2) (Last p most b whole script h r [] l d2) (Ending b d3 l) (Ending b d3 l)
      (λ l2 e. ending p most b whole script h r [] l l2 d2 d3 e.at e.above g3.variables)
      (body_goes body h r [] l l d1 d3 lp (here d6) (here d2) (in_loop_of 0 at) (length l) 0 performs inner1 (g1.func ∙ g0.func ∙ st.func) same s2
      (omega arith) (omega (arith, room, needed)) good
      (record { variables = count; free = refl; breaks = exits; continues = turns; break_ahead = omega (arith, e3, e5, r4, r6); turn_ahead = omega arith })
      g3.variables) in
      let closing : Closes p most h l (Ending b d3 l) (here d2) (here d5) =
      subst (λ n. Closes p most h l (Ending b d3 l) n (here d5)) e3
      (subst (λ n. Closes p most h l (Ending b d3 l) (here d3) n) (sym e5)
      (closes_at p most b whole script h r m l d3 (Ending b d3 l) count refl s4 (λ l2 e. e))) in
      let cond_runs : CondRuns p most cond h l (here d) (here d1) (here d6) =
      subst (λ n. CondRuns p most cond h l n (here d1) (here d6)) e0
      (holds.cond false h r _ l d0 (label s.id 1) (here d6)
      (record {
        at = weak p most b whole script h r _ l d0 inner0;
        inside = s1;
        func = g0.func ∙ st.func;
        room = omega (arith, room, needed);
      }) exits (omega (arith, r2, e3, e5, r4, r6))) in
      let g03 : Grows d d3 = grows.after d d2 d3 (grows.after d d1 d2 (grows.after d d0 d1 g0 g1) g2) g3 in
      plain_goes p most b whole script s (level.While cond body) h r ps l j d d7 is (λ n. refl)
      (keeps.put _ d d6 (keeps.put _ d d5 (ended_keeps b m d d3 refl g03.variables))) st.at
      (subst (λ n. StatRuns p most s h l j (here d) n (λ c. l)) (sym e7)
      (while_runs s cond body jump.by h l j (here d) (here d1) (here d2) (here d5) (here d6) (here d6) (Ending b d3 l) is cond_runs runs closing
      jump.reads (jump.back (here d) starts)))

  pub while_performs : (s : Stat) (cond : Expr) (body : List Stat) → out-StatKind s.kind ≡ level.While cond body
      → As p most b whole script cond (expr_code b cond) → AllPerform p most b whole script body → Performs p most b whole script s
  while_performs s cond body is holds performs = subst (Does p most b whole script s) (sym (stat_code_of b s (level.While cond body) is)) (record {
    declares = sym (ap (λ (n : StatNeed). n.declares) (stat_need_of s (level.While cond body) is));
    goes = λ h r ps l d lp j at st around allowed. while_stands s cond body is holds performs h r ps l d j at st allowed;
  })
