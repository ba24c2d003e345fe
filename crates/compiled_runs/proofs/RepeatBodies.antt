-- The body of a `repeat`, from any of its statements on, of which some may end the turn early.
use Rattle.std.proofs.Common.{◌≡◌, ℕ, ◌+◌, ◌≤◌, Bool, true, false, List, [], ◌∷◌, ◌++◌, length, map, refl, sym, ap, ◌∙◌, arith, subst, append_assoc}
use Rattle.syntax_tree.specs.declared.bindings.Bindings.{Bindings}
use Rattle.syntax_tree.specs.declared.notes.Place.{Place}
use Rattle.syntax_tree.specs.declared.tree.Stat.{Stat}
use Rattle.syntax_tree.specs.Need.{need_stat, block_from, declared_in}
use Rattle.syntax_tree.specs.Rules as rules
use Rattle.syntax_tree.specs.Rules.{StatRules, rules_expr, rules_stat, in_loop_of}
use Rattle.emit_expr.specs.declared.draft.Emitter.{Emitter}
use Rattle.emit_expr.specs.declared.draft.Loop.{Loop}
use Rattle.emit_expr.specs.Puts.{mark_at}
use Rattle.emit_laws.specs.Growing.{Prefix, Grows}
use Rattle.emit_laws.proofs.Grows as grows
use Rattle.node_code.specs.Code.{stat_code, body_run, declared, in_turn}
use Rattle.scope_laws.specs.Sight.{Sight, Part, stat, behind}
use Rattle.scope_laws.proofs.Behind.{all_behind}
use Rattle.code_simulation.specs.Slots.{Slot, Above, same}
use Rattle.code_simulation.specs.Relation.{Setting}
use Rattle.code_simulation.proofs.Along.{Here}
use Rattle.code_simulation.proofs.Names.{above_all}
use Rattle.code_simulation.proofs.Blocks.{Jumps, breaking, looping}
use Rattle.code_simulation.proofs.Repeats.{UntilRuns, until_none, until_early, until_more}
use Rattle.compiled_runs.proofs.Places.{here, before, rises}
use Rattle.compiled_runs.proofs.Scopes.{AllFrom, own_numbers}
use Rattle.compiled_runs.proofs.Standing.{Script, At}
use Rattle.compiled_runs.proofs.Nodes.{Runs, In}
use Rattle.compiled_runs.proofs.Turns.{ends_turn}
use Rattle.compiled_runs.proofs.Statements.{may_break, may_continue, InLoop, Goes, AllPerform}
use Rattle.compiled_runs.proofs.Blocks.{left_none, right_none, variables_at, with_live}
use Rattle.compiled_runs.proofs.Loops.{Turning}

false_true : false ≡ true → ⊥
false_true e = cc

-- what is seen behind one more statement
behind_more : (gone : List Stat) (s : Stat) (start : Sight) → all_behind (map stat (gone ++ s ∷ [])) start ≡ behind (stat s) (all_behind (map stat gone) start)
behind_more [] s start = refl
behind_more (x ∷ gone) s start = behind_more gone s (behind (stat x) start)

module _ (p : Setting) (most : ℕ) (b : Bindings) (whole : Emitter) (script : Script p b whole) where
  -- behind a body
  pub record Passed (h : Here p most) (r : Runs p most b whole script h) (ps : List Part) (l0 : List Slot) (count : ℕ) (d : Emitter)
      (l : List Slot) : Type 0 where
    pub at : At p most b whole script h r ps l d
    pub above : Above l l0
    pub count_is : length l ≡ count

  -- where a statement of a body begins that may end the turn
  pub record Leaves (body : List Stat) (h : Here p most) (r : Runs p most b whole script h) (ps : List Part) (l0 : List Slot) (count : ℕ)
      (closing : Emitter) (start : Sight) (l : List Slot) : Type 0 where
    pub gone : List Stat
    pub leaving : Stat
    pub rest : List Stat
    pub is : body ≡ gone ++ leaving ∷ rest
    pub ends : ends_turn leaving ≡ true
    pub emitter : Emitter
    pub at : At p most b whole script h r (stat leaving ∷ map stat rest ++ ps) l emitter
    pub above : Above l l0
    pub more : Prefix emitter.draft.variables closing.draft.variables
    pub count_is : length l + declared_in (map need_stat (leaving ∷ rest)) ≡ count
    pub sight_is : at.sight ≡ all_behind (map stat gone) start

  -- a body from one of its statements on, which declares variables of the function alone
  pub record Turned (body ss : List Stat) (h : Here p most) (r : Runs p most b whole script h) (ps : List Part) (l0 l : List Slot) (d d2 closing : Emitter)
      (start : Sight) (brk turn count : ℕ) : Type 0 where
    pub runs : UntilRuns p most ss h l0 l brk turn (here d) (here d2) (Passed h r ps l0 count d2) (Leaves body h r ps l0 count closing start)
    pub own : AllFrom r.from.declared d2.draft.variables

  -- one statement of a body, and those behind it
  one_turn : (s : Stat) (ss : List Stat) (h : Here p most) (r : Runs p most b whole script h) (ps : List Part) (l0 l : List Slot) (d d1 : Emitter)
      (lp : Loop) (from : Sight) (brk turn to declares : ℕ) (End Early : List Slot → Type 0)
      → ((j : Jumps) → InLoop p most b whole script h r lp j l (here d1) → may_break j ≡ true → (ends_turn s ≡ true → may_continue j ≡ true)
      → Goes p most b whole script s declares h r ps l j d d1 from) → InLoop p most b whole script h r lp (looping l0 brk l turn) l (here d1)
      → (ends_turn s ≡ true → Early l) → ((j : Jumps) → (g : Goes p most b whole script s declares h r ps l j d d1 from) → (n : ℕ)
      → UntilRuns p most ss h l0 (g.after n) brk turn (here d1) to End Early) → (t : Bool) → ends_turn s ≡ t
      → UntilRuns p most (s ∷ ss) h l0 l brk turn (here d) to End Early
  one_turn s ss h r ps l0 l d d1 lp from brk turn to declares End Early goes around early rest true e =
      let j = looping l0 brk l turn in
      let g = goes j around refl (λ e. refl) in
      until_early p most s ss h l0 l brk turn (here d) (here d1) to g.after End Early g.runs (early e) (rest j g)
  one_turn s ss h r ps l0 l d d1 lp from brk turn to declares End Early goes around early rest false e =
      let j = breaking l0 brk in
      let g = goes j around.0 refl (λ e2. absurd (false_true (sym e ∙ e2))) in
      until_more p most s ss h l0 l brk turn (here d) (here d1) to g.after End Early g.runs (rest j g)

  -- the body of a `repeat`
  pub until_goes : (body gone ss : List Stat) (h : Here p most) (r : Runs p most b whole script h) (ps : List Part) (l0 l : List Slot)
      (d closing : Emitter) (lp : Loop) (start : Sight) (brk turn : ℕ) (at : Place) (base held count : ℕ) → body ≡ gone ++ ss
      → AllPerform p most b whole script ss → (a : At p most b whole script h r (map stat ss ++ ps) l d)
      → a.sight ≡ all_behind (map stat gone) start → d.draft.func ≡ r.final.func → Above l l0
      → In p most b whole script h r (body_run (map (stat_code b) ss) (length l) lp d) → length l ≡ base + held
      → base + block_from held (map need_stat ss) ≤ h.proto.registers → rules.block (map rules_stat ss) at ≡ []
      → Turning p most b whole script h r lp l0 brk turn (here (body_run (map (stat_code b) ss) (length l) lp d))
      → Prefix (body_run (map (stat_code b) ss) (length l) lp d).draft.variables closing.draft.variables
      → length l + declared_in (map need_stat ss) ≡ count
      → Turned body ss h r ps l0 l d (body_run (map (stat_code b) ss) (length l) lp d) closing start brk turn count
  until_goes body gone [] h r ps l0 l d closing lp start brk turn at base held count is performs a sight func above s size room good turning more all =
      record {
        runs = until_none p most h l0 l brk turn (here d) (Passed h r ps l0 count d) (Leaves body h r ps l0 count closing start)
            (record { at = a; above = above; count_is = omega (arith, all) });
        own = own_numbers b r.from.scope r.from.declared l a.sight.scope d.draft.variables a.aligned;
      }
  until_goes body gone (s ∷ ss) h r ps l0 l d closing lp start brk turn at base held count is performs a sight func above inside size room good turning more
      all =
      let codes = map (stat_code b) ss in
      let c = stat_code b s in
      let lp1 = in_turn (mark_at (length l) d) lp in
      let d1 = c.run (length l) lp1 d in
      let d2 = body_run codes (length l + c.declares) lp d1 in
      let grown : Grows d1 d2 = grows.body_good codes (grows.stats_are_good b ss) (length l + c.declares) lp d1 d1 (grows.none d1) in
      let started : Grows d d1 = grows.stat_is_good b s (length l) lp1 d d (grows.none d) in
      let first : In p most b whole script h r d1 = before r.final whole d1 d2 grown inside in
      let le = rises d1 d2 grown in
      let far1 = turning.break_ahead in
      let far2 = turning.turn_ahead in
      let behind_it = with_live p most b whole script (rules_stat s).declares at in
      let declares = performs.0.declares in
      let around : InLoop p most b whole script h r lp1 (looping l0 brk l turn) l (here d1) = (
        record { variables = turning.variables; free = turning.free; above = above; placed = turning.breaks; ahead = omega (arith, le, far1) },
        record {
          variables = variables_at p most b whole script h r _ l d a;
          free = refl;
          above = same;
          placed = turning.continues;
          ahead = omega (arith, le, far2);
        },
      ) in
      let goes : (j : Jumps) → InLoop p most b whole script h r lp1 j l (here d1) → may_break j ≡ true → (ends_turn s ≡ true → may_continue j ≡ true)
      → Goes p most b whole script s c.declares h r (map stat ss ++ ps) l j d d1 a.sight =
      λ j around may_b may_c. performs.0.goes h r (map stat ss ++ ps) l d lp1 j at
      (record { at = a; inside = first; func = func; room = omega (arith, size, room) }) around
      (record {
        rules = left_none ((rules_stat s).faults at) (rules.block (map rules_stat ss) behind_it) good;
        breaks = λ e. may_b;
        continues = may_c;
      }) in
      let others : (j : Jumps) → (g : Goes p most b whole script s c.declares h r (map stat ss ++ ps) l j d d1 a.sight) → (n : ℕ)
      → Turned body ss h r ps l0 (g.after n) d1 d2 closing start brk turn count =
      λ j g n. let longer = g.count n in
      subst (λ m. Turned body ss h r ps l0 (g.after n) d1 (body_run codes m lp d1) closing start brk turn count) longer
      (until_goes body (gone ++ s ∷ []) ss h r ps l0 (g.after n) d1 closing lp start brk turn behind_it base (held + (need_stat s).declares) count
      (is ∙ sym (append_assoc gone (s ∷ []) ss)) performs.1 (g.at n)
      (g.sight_is n ∙ ap (behind (stat s)) sight ∙ sym (behind_more gone s start)) (started.func ∙ func) (above_all (g.above n) above)
      (subst (λ m. In p most b whole script h r (body_run codes m lp d1)) (sym longer) inside)
      (omega (arith, size, longer, declares)) (omega (arith, room))
      (right_none ((rules_stat s).faults at) (rules.block (map rules_stat ss) behind_it) good)
      (subst (λ m. Turning p most b whole script h r lp l0 brk turn (here (body_run codes m lp d1))) (sym longer) turning)
      (subst (λ m. Prefix (body_run codes m lp d1).draft.variables closing.draft.variables) (sym longer) more)
      (omega (arith, all, longer, declares))) in
      record {
        runs = one_turn s ss h r (map stat ss ++ ps) l0 l d d1 lp1 a.sight brk turn (here d2) c.declares (Passed h r ps l0 count d2)
            (Leaves body h r ps l0 count closing start) goes around
            (λ e. record {
              gone = gone;
              leaving = s;
              rest = ss;
              is = is;
              ends = e;
              emitter = d;
              at = a;
              above = above;
              more = grows.longer d.draft.variables d2.draft.variables closing.draft.variables (grows.after d d1 d2 started grown).variables more;
              count_is = all;
              sight_is = sight;
            })
            (λ j g n. (others j g n).runs) (ends_turn s) refl;
        own = (others (looping l0 brk l turn) (goes (looping l0 brk l turn) around refl (λ e. refl)) 0).own;
      }

  pub declared_is : (ss : List Stat) → AllPerform p most b whole script ss → declared (map (stat_code b) ss) ≡ declared_in (map need_stat ss)
  declared_is [] performs = refl
  declared_is (s ∷ ss) performs = let first = performs.0.declares in let rest = declared_is ss performs.1 in omega (arith, first, rest)
