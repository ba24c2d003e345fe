-- Blocks: statements in order, and what their end closes and forgets.
use Rattle.std.proofs.Common.{◌≡◌, ℕ, zero, suc, ◌+◌, ◌≤◌, Bool, true, false, ◌||◌, List, [], ◌∷◌, ◌++◌, length, map, take, drop, refl, sym, ap, ◌∙◌, arith, subst, append-nil, length-append, if◌then◌else◌}
use Rattle.syntax_tree.specs.declared.bindings.Bindings.{Bindings}
use Rattle.syntax_tree.specs.declared.notes.Place.{Place}
use Rattle.syntax_tree.specs.declared.notes.Visible.{Visible}
use Rattle.syntax_tree.specs.declared.tree.Stat.{Stat}
use Rattle.syntax_tree.specs.declared.tree.StatKind.{out-StatKind}
use Rattle.syntax_tree.specs.declared.tree.ExprKind.TheOpen as level
use Rattle.syntax_tree.specs.Need.{StatNeed, need_stat, block_from}
use Rattle.syntax_tree.specs.Rules as rules
use Rattle.syntax_tree.specs.Rules.{rules_stat}
use Rattle.op_words.specs.declared.insn.Insn.TheVariants as i
use Rattle.emit_expr.specs.declared.draft.Draft.{Draft}
use Rattle.emit_expr.specs.declared.draft.Emitter.{Emitter}
use Rattle.emit_expr.specs.declared.draft.Loop.{Loop}
use Rattle.emit_expr.specs.declared.draft.Mark.{Mark}
use Rattle.emit_expr.specs.declared.draft.Variable.{Variable}
use Rattle.emit_expr.specs.Puts.{insn, label, forget, mark_at}
use Rattle.emit_expr.specs.Names.{is_captured, any_captured, close_run, ended}
use Rattle.emit_laws.specs.Growing.{Prefix, Grows}
use Rattle.emit_laws.proofs.Grows as grows
use Rattle.emit_laws.proofs.Keeps as keeps
use Rattle.node_code.specs.Code.{stat_code, stats_run, block_run}
use Rattle.scope_laws.specs.Sight.{Part, stat, block, enter}
use Rattle.code_simulation.specs.Slots.{Slot, Var, Temp, Above, same, up, Plainly, plain_same, plain_temp, plain_var}
use Rattle.code_simulation.specs.Relation.{Setting}
use Rattle.code_simulation.proofs.Along.{Here, Reads}
use Rattle.code_simulation.proofs.Names.{above_all}
use Rattle.code_simulation.proofs.Blocks.{Jumps, outside, breaking, looping, BlockRuns, block_none, block_more, Closes, closes, closes_nothing}
use Rattle.code_simulation.proofs.Blocks as simulated
use Rattle.compiled_runs.proofs.Places.{here, Inside, before, rises}
use Rattle.compiled_runs.proofs.Scopes.{Aligned}
use Rattle.compiled_runs.proofs.Standing.{Script, At}
use Rattle.compiled_runs.proofs.NodeLevels.{stat_code_of, stat_need_of, stat_rules_of, ends_turn_of}
use Rattle.compiled_runs.proofs.Nodes.{Runs, In, reads}
use Rattle.compiled_runs.proofs.Turns.{any, ends_turn}
use Rattle.compiled_runs.proofs.Statements.{variables_in, may_break, may_continue, Allowed, Leads, InLoop, Does, Performs, AllPerform, in_statement, plain_goes}

-- ---- lists

drop_more : {A : Type 0} (n : ℕ) (xs ys : List A) → n ≤ length xs → drop n (xs ++ ys) ≡ drop n xs ++ ys
drop_more zero xs ys le = refl
drop_more (suc n) [] ys le = absurd (omega (arith, le))
drop_more (suc n) (x ∷ xs) ys le = drop_more n xs ys (omega (arith, le))

pub left_none : {A : Type 0} (xs ys : List A) → xs ++ ys ≡ [] → xs ≡ []
left_none [] ys e = refl
left_none (x ∷ xs) ys e = cc

pub right_none : {A : Type 0} (xs ys : List A) → xs ++ ys ≡ [] → ys ≡ []
right_none [] ys e = e
right_none (x ∷ xs) ys e = cc

pub or_left : (x y : Bool) → x ≡ true → (x || y) ≡ true
or_left true y e = refl
or_left false y e = cc

pub or_right : (x y : Bool) → y ≡ true → (x || y) ≡ true
or_right true y e = refl
or_right false y e = e

-- ---- what is forgotten

forgotten : (n : ℕ) (d : Emitter) → (forget n d).draft.variables ≡ take n d.draft.variables
unfolding forget
forgotten n d = refl

pub here_forget : (n : ℕ) (d : Emitter) → here (forget n d) ≡ here d
unfolding forget
here_forget n d = refl

pub inside_forget : (final : Draft) (whole : Emitter) (n : ℕ) (d : Emitter) → Inside final whole (forget n d) → Inside final whole d
unfolding forget
inside_forget final whole n d i =
    record { func = i.func; items = i.items; constants = i.constants; children = i.children; protos = i.protos; strings = i.strings }

-- ---- which variables may be captured

above_variables : {l l0 : List Slot} → Above l l0 → variables_in l0 ≤ variables_in l
above_variables same = omega arith
above_variables (up {s = Temp v} m) = above_variables m
above_variables (up {s = Var x c cap} m) = let le = above_variables m in omega (arith, le)

module _ (b : Bindings) where
  none_captured : (us ws : List Variable) → any_captured b (us ++ ws) ≡ false → (any_captured b us ≡ false) × (any_captured b ws ≡ false)
  none_captured [] ws e = (refl, e)
  none_captured (u ∷ us) ws e = by (is_captured b u.number) e (none_captured us ws)
    where
      by : (t : Bool) → (if t then true else any_captured b (us ++ ws)) ≡ false
          → (any_captured b (us ++ ws) ≡ false → (any_captured b us ≡ false) × (any_captured b ws ≡ false))
          → ((if t then true else any_captured b us) ≡ false) × (any_captured b ws ≡ false)
      by true e rest = cc
      by false e rest = rest e

  one_captured : (v : Variable) → any_captured b (v ∷ []) ≡ false → is_captured b v.number ≡ false
  one_captured v e = by (is_captured b v.number) e
    where
      by : (t : Bool) → (if t then true else false) ≡ false → t ≡ false
      by true e = e
      by false e = refl

  -- the block's variables are forgotten again
  pub ended_keeps : (m : Mark) (d0 d1 : Emitter) → m.variables ≡ length d0.draft.variables → Prefix d0.draft.variables d1.draft.variables
      → keeps.Keeps d0 (ended b m d1)
  ended_keeps m d0 d1 e more =
      forgotten m.variables (close_run b m d1)
      ∙ ap (take m.variables) (keeps.close_good b m d1 d1 (keeps.none d1) ∙ more.is)
      ∙ ap (λ n. take n (d0.draft.variables ++ more.more)) e
      ∙ grows.take_front d0.draft.variables more.more

  module _ (outer : List Visible) (first : ℕ) where
    pub counted : (l : List Slot) (vs : List Visible) (ws : List Variable) → Aligned b outer first l vs ws → length ws ≡ variables_in l
    counted [] vs ws a = ap length a.1
    counted (Temp v ∷ l) vs ws a = counted l vs ws a
    counted (Var x c cap ∷ l) vs ws a =
        let rest = counted l a.older a.variables a.others in
        let one : length ws ≡ length a.variables + 1 =
        ap length a.declared ∙ length-append a.variables (record { number = a.local; register = length l } ∷ []) in
        omega (arith, one, rest)

    -- slots above, none of whose variables may be captured
    plain_above : {l l0 : List Slot} → (vs : List Visible) (ws : List Variable) → Above l l0 → Aligned b outer first l vs ws
        → any_captured b (drop (variables_in l0) ws) ≡ false → Plainly l l0
    plain_above vs ws same a e = plain_same
    plain_above vs ws (up {s = Temp v} m) a e = plain_temp (plain_above vs ws m a e)
    plain_above {l0 = l0} vs ws (up {s = Var x c cap} {l = l} m) a e =
        let v : Variable = record { number = a.local; register = length l } in
        let count = counted l a.older a.variables a.others in
        let fewer = above_variables m in
        let cut : drop (variables_in l0) (a.variables ++ v ∷ []) ≡ drop (variables_in l0) a.variables ++ v ∷ [] =
        drop_more (variables_in l0) a.variables (v ∷ []) (omega (arith, count, fewer)) in
        let none = none_captured (drop (variables_in l0) a.variables) (v ∷ [])
        (ap (any_captured b) (sym cut) ∙ ap (λ us. any_captured b (drop (variables_in l0) us)) (sym a.declared) ∙ e) in
        subst (λ t. Plainly (Var x c t ∷ l) l0) (sym (a.flag ∙ one_captured v none.1))
        (plain_var (plain_above a.older a.variables m a.others none.0))

  -- what may be in use where the end of a block closes what is above its slots
  pub record Ending (d : Emitter) (l0 l : List Slot) : Type 0 where
    pub above : Above l l0
    pub plain : any_captured b (drop (variables_in l0) d.draft.variables) ≡ false → Plainly l l0

module _ (p : Setting) (most : ℕ) (b : Bindings) (whole : Emitter) (script : Script p b whole) where
  module _ (h : Here p most) (r : Runs p most b whole script h) where
    pub variables_at : (ps : List Part) (l : List Slot) (d : Emitter) → At p most b whole script h r ps l d → length d.draft.variables ≡ variables_in l
    variables_at ps l d a = counted b r.from.scope r.from.declared l a.sight.scope d.draft.variables a.aligned

    -- at a place of the block
    pub ending : (ps : List Part) (l0 l : List Slot) (d d' : Emitter) → At p most b whole script h r ps l d → Above l l0
        → Prefix d.draft.variables d'.draft.variables → Ending b d' l0 l
    ending ps l0 l d d' a m more =
        let count = variables_at ps l d a in
        let fewer = above_variables m in
        let cut : drop (variables_in l0) d'.draft.variables ≡ drop (variables_in l0) d.draft.variables ++ more.more =
        ap (drop (variables_in l0)) more.is ∙ drop_more (variables_in l0) d.draft.variables more.more (omega (arith, count, fewer)) in
        record {
          above = m;
          plain = λ e. plain_above b r.from.scope r.from.declared a.sight.scope d.draft.variables m a.aligned
              (none_captured b (drop (variables_in l0) d.draft.variables) more.more (ap (any_captured b) (sym cut) ∙ e)).0;
        }

    -- the code of a block's end closes what is above its slots
    pub closes_at : (m : Mark) (l0 : List Slot) (d : Emitter) (End : List Slot → Type 0) → m.variables ≡ variables_in l0 → m.free ≡ length l0
        → In p most b whole script h r (close_run b m d) → ((l2 : List Slot) → End l2 → Ending b d l0 l2)
        → Closes p most h l0 End (here d) (here (close_run b m d))
    closes_at m l0 d End variables free s ends = by (any_captured b (drop m.variables d.draft.variables)) refl s
      where
        closed : Emitter
        closed = insn (i.CloseUpvalues m.free) d

        by : (t : Bool) → any_captured b (drop m.variables d.draft.variables) ≡ t → In p most b whole script h r (if t then closed else d)
            → Closes p most h l0 End (here d) (here (if t then closed else d))
        by true is s =
            closes
            (subst (λ n. Reads p most h (here d) (i.CloseUpvalues n) (here closed)) free (reads p most b whole script h r (i.CloseUpvalues m.free) d s))
            (λ l2 e. (ends l2 e).above)
        by false is s =
            closes_nothing refl (λ l2 e. (ends l2 e).plain (ap (λ n. any_captured b (drop n d.draft.variables)) (sym variables) ∙ is))

    -- ---- the loop around

    leads_later : (m : Mark) (to : ℕ) (lb l l2 : List Slot) (target behind behind2 : ℕ) → Above l2 l → behind2 ≤ behind
        → Leads p most b whole script h r m to lb l target behind → Leads p most b whole script h r m to lb l2 target behind2
    leads_later m to lb l l2 target behind behind2 above le x =
        let far = x.ahead in
        record { variables = x.variables; free = x.free; above = above_all above x.above; placed = x.placed; ahead = omega (arith, far, le) }

    pub loop_later : (lp : Loop) (j : Jumps) (l l2 : List Slot) (behind behind2 : ℕ) → Above l2 l → behind2 ≤ behind
        → InLoop p most b whole script h r lp j l behind → InLoop p most b whole script h r lp j l2 behind2
    loop_later lp outside l l2 behind behind2 above le x = tt
    loop_later lp (breaking lb brk) l l2 behind behind2 above le x = leads_later lp.start (label lp.node 1) lb l l2 brk behind behind2 above le x
    loop_later lp (looping lb brk lc turn) l l2 behind behind2 above le x = (
      leads_later lp.start (label lp.node 1) lb l l2 brk behind behind2 above le x.0,
      leads_later lp.turn (label lp.node 2) lc l l2 turn behind behind2 above le x.1,
    )

  -- ---- statements in order

  -- none of them breaks a rule on loops
  pub record AllAllowed (ss : List Stat) (j : Jumps) (place : Place) : Type 0 where
    pub rules : rules.block (map rules_stat ss) place ≡ []
    pub breaks : place.in_loop ≡ true → may_break j ≡ true
    pub continues : any (map ends_turn ss) ≡ true → may_continue j ≡ true

  -- behind so many more locals
  abbrev pub with_live : ℕ → Place → Place
  with_live n place = record place { live = place.live + n }

  allowed_first : (s : Stat) (ss : List Stat) (j : Jumps) (place : Place) → AllAllowed (s ∷ ss) j place → Allowed s j place
  allowed_first s ss j place a = record {
    rules = left_none ((rules_stat s).faults place) (rules.block (map rules_stat ss) (with_live (rules_stat s).declares place)) a.rules;
    breaks = a.breaks;
    continues = λ e. a.continues (or_left (ends_turn s) (any (map ends_turn ss)) e);
  }

  allowed_rest : (s : Stat) (ss : List Stat) (j : Jumps) (place : Place) → AllAllowed (s ∷ ss) j place
      → AllAllowed ss j (with_live (rules_stat s).declares place)
  allowed_rest s ss j place a = record {
    rules = right_none ((rules_stat s).faults place) (rules.block (map rules_stat ss) (with_live (rules_stat s).declares place)) a.rules;
    breaks = a.breaks;
    continues = λ e. a.continues (or_right (ends_turn s) (any (map ends_turn ss)) e);
  }

  -- behind the last of some statements
  pub record Last (h : Here p most) (r : Runs p most b whole script h) (ps : List Part) (l0 : List Slot) (d : Emitter) (l : List Slot) : Type 0 where
    pub at : At p most b whole script h r ps l d
    pub above : Above l l0

  pub block_goes : (ss : List Stat) (h : Here p most) (r : Runs p most b whole script h) (ps : List Part) (l0 l : List Slot) (d : Emitter) (lp : Loop)
      (j : Jumps) (place : Place) (base held : ℕ) → AllPerform p most b whole script ss → At p most b whole script h r (map stat ss ++ ps) l d
      → d.draft.func ≡ r.final.func → Above l l0
      → In p most b whole script h r (stats_run (map (stat_code b) ss) (length l) lp d) → length l ≡ base + held
      → base + block_from held (map need_stat ss) ≤ h.proto.registers
      → InLoop p most b whole script h r lp j l (here (stats_run (map (stat_code b) ss) (length l) lp d)) → AllAllowed ss j place
      → BlockRuns p most ss h l j (here d) (here (stats_run (map (stat_code b) ss) (length l) lp d))
      (Last h r ps l0 (stats_run (map (stat_code b) ss) (length l) lp d))
  block_goes [] h r ps l0 l d lp j place base held performs a func above s count room around allowed =
      block_none p most h l j (here d) (Last h r ps l0 d) (record { at = a; above = above })
  block_goes (s ∷ ss) h r ps l0 l d lp j place base held performs a func above inside count room around allowed =
      let codes = map (stat_code b) ss in
      let c = stat_code b s in
      let d1 = c.run (length l) lp d in
      let d2 = stats_run codes (length l + c.declares) lp d1 in
      let grown : Grows d1 d2 = grows.stats_good codes (grows.stats_are_good b ss) (length l + c.declares) lp d1 d1 (grows.none d1) in
      let first : In p most b whole script h r d1 = before r.final whole d1 d2 grown inside in
      let g = performs.0.goes h r (map stat ss ++ ps) l d lp j place
      (record { at = a; inside = first; func = func; room = omega (arith, count, room) })
      (loop_later h r lp j l l (here d2) (here d1) same (rises d1 d2 grown) around) (allowed_first s ss j place allowed) in
      let started : Grows d d1 = grows.stat_is_good b s (length l) lp d d (grows.none d) in
      let declares = performs.0.declares in
      block_more p most s ss h l j (here d) (here d1) (here d2) g.after (Last h r ps l0 d2) g.runs
      (λ n. let longer = g.count n in
      subst (λ m. BlockRuns p most ss h (g.after n) j (here d1) (here (stats_run codes m lp d1)) (Last h r ps l0 (stats_run codes m lp d1))) longer
      (block_goes ss h r ps l0 (g.after n) d1 lp j (with_live (rules_stat s).declares place) base (held + (need_stat s).declares)
      performs.1 (g.at n) (started.func ∙ func) (above_all (g.above n) above)
      (subst (λ m. In p most b whole script h r (stats_run codes m lp d1)) (sym longer) inside)
      (omega (arith, count, longer, declares)) (omega (arith, room))
      (subst (λ m. InLoop p most b whole script h r lp j (g.after n) (here (stats_run codes m lp d1))) (sym longer)
      (loop_later h r lp j l (g.after n) (here d2) (here d2) (g.above n) (omega arith) around)) (allowed_rest s ss j place allowed)))

  -- ---- a block

  -- in a block without names of its own
  pub in_block : (h : Here p most) (r : Runs p most b whole script h) (body : List Stat) (ps : List Part) (l : List Slot) (d : Emitter)
      → At p most b whole script h r (block [] body ∷ ps) l d → At p most b whole script h r (map stat body ++ []) l d
  in_block h r body ps l d a = subst (λ qs. At p most b whole script h r qs l d) (sym (append-nil (map stat body))) (record {
    sight = record a.sight { scope = a.sight.scope ++ [] };
    seen = enter a.sight (block [] body) ps a.seen;
    aligned = subst (λ vs. Aligned b r.from.scope r.from.declared l vs d.draft.variables) (sym (append-nil a.sight.scope)) a.aligned;
    first = a.first;
    below = a.below;
  })

  -- a block goes along with its code from one place to another, behind which the slots are those from before
  pub record Enclosed (body : List Stat) (h : Here p most) (l : List Slot) (j : Jumps) (from to : ℕ) : Type 1 where
    pub middle : ℕ
    pub End : List Slot → Type 0
    pub runs : BlockRuns p most body h l j from middle End
    pub closes : Closes p most h l End middle to

  pub enclosed : (body : List Stat) (h : Here p most) (r : Runs p most b whole script h) (ps : List Part) (l : List Slot) (d : Emitter) (lp : Loop)
      (j : Jumps) (place : Place) → AllPerform p most b whole script body → At p most b whole script h r (block [] body ∷ ps) l d
      → d.draft.func ≡ r.final.func → In p most b whole script h r (block_run b (map (stat_code b) body) (length l) lp d)
      → length l + block_from 0 (map need_stat body) ≤ h.proto.registers
      → InLoop p most b whole script h r lp j l (here (block_run b (map (stat_code b) body) (length l) lp d)) → AllAllowed body j place
      → Enclosed body h l j (here d) (here (block_run b (map (stat_code b) body) (length l) lp d))
  enclosed body h r ps l d lp j place performs a func s room around allowed =
      let codes = map (stat_code b) body in
      let m = mark_at (length l) d in
      let d1 = stats_run codes (length l) lp d in
      let d2 = close_run b m d1 in
      let grown : Grows d1 d2 = grows.close_good b m d1 d1 (grows.none d1) in
      let second : In p most b whole script h r d2 = inside_forget r.final whole m.variables d2 s in
      let first : In p most b whole script h r d1 = before r.final whole d1 d2 grown second in
      let last : here (forget m.variables d2) ≡ here d2 = here_forget m.variables d2 in
      let le = rises d1 d2 grown in
      record {
        middle = here d1;
        End = Last h r [] l d1;
        runs = block_goes body h r [] l l d lp j place (length l) 0 performs (in_block h r body ps l d a) func same first
            (omega arith) room (loop_later h r lp j l l _ (here d1) same (omega (arith, last, le)) around) allowed;
        closes = subst (λ n. Closes p most h l (Last h r [] l d1) (here d1) n) (sym last)
            (closes_at h r m l d1 (Last h r [] l d1) (variables_at h r _ l d a) refl second
            (λ l2 e. ending h r [] l l2 d1 d1 e.at e.above (grows.same d1.draft.variables)));
      }

  -- behind a block the variables are those from before it
  pub block_keeps : (body : List Stat) (free : ℕ) (lp : Loop) (d : Emitter) → keeps.Keeps d (block_run b (map (stat_code b) body) free lp d)
  block_keeps body free lp d =
      let codes = map (stat_code b) body in
      ended_keeps b (mark_at free d) d (stats_run codes free lp d) refl
      (grows.stats_good codes (grows.stats_are_good b body) free lp d d (grows.none d)).variables

  -- ---- `do`

  do_rules : (s : Stat) (body : List Stat) (j : Jumps) (place : Place) → out-StatKind s.kind ≡ level.Do body → Allowed s j place → AllAllowed body j place
  do_rules s body j place is a = record {
    rules = ap (λ (z : rules.StatRules). z.faults place) (sym (stat_rules_of s (level.Do body) is)) ∙ a.rules;
    breaks = a.breaks;
    continues = λ e. a.continues (ends_turn_of s (level.Do body) is ∙ e);
  }

  pub do_performs : (s : Stat) (body : List Stat) → out-StatKind s.kind ≡ level.Do body → AllPerform p most b whole script body
      → Performs p most b whole script s
  do_performs s body is performs = subst (Does p most b whole script s) (sym (stat_code_of b s (level.Do body) is)) (record {
    declares = sym (ap (λ (n : StatNeed). n.declares) (stat_need_of s (level.Do body) is));
    goes = λ h r ps l d lp j place st around allowed.
        let needed : (need_stat s).need ≡ block_from 0 (map need_stat body) = ap (λ (n : StatNeed). n.need) (stat_need_of s (level.Do body) is) in
        let room = st.room in
        let c = enclosed body h r [] l d lp j place performs
        (in_statement p most b whole script h r s (level.Do body) ps l d is st.at refl (omega arith) refl) st.func st.inside
        (omega (arith, room, needed)) around (do_rules s body j place is allowed) in
        plain_goes p most b whole script s (level.Do body) h r ps l j d _ is (λ n. refl) (block_keeps body (length l) lp d) st.at
        (simulated.do_same p most s body h l j (here d) c.middle _ c.End is c.runs c.closes);
  })
