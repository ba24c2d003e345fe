-- A numeric `for`: its limit, step and index stand in three registers, and its variable in the next.
use Rattle.std.proofs.Common.{◌≡◌, ℕ, suc, ◌+◌, ◌≤◌, ℤ, pos, max, Bool, List, [], ◌∷◌, ◌++◌, length, map, Option, Some, None, refl, sym, ap, ◌∙◌, arith, subst, append-nil}
use Rattle.byte_text.specs.declared.fixed.StrId.{StrId}
use Rattle.syntax_tree.specs.declared.bindings.Bindings.{Bindings}
use Rattle.syntax_tree.specs.declared.notes.Place.{Place}
use Rattle.syntax_tree.specs.declared.notes.Visible.{Visible}
use Rattle.syntax_tree.specs.declared.tree.Expr.{Expr}
use Rattle.syntax_tree.specs.declared.tree.Stat.{Stat}
use Rattle.syntax_tree.specs.declared.tree.StatKind.{out-StatKind}
use Rattle.syntax_tree.specs.declared.tree.ExprKind.TheOpen as level
use Rattle.syntax_tree.specs.Need.{StatNeed, need_expr, need_stat, block_from}
use Rattle.syntax_tree.specs.Rules as rules
use Rattle.syntax_tree.specs.Rules.{StatRules, rules_expr, rules_stat, in_loop_of, too_many}
use Rattle.value_model.specs.Values.{Value, Number}
use Rattle.source_meaning.specs.States.{of_stat}
use Rattle.op_words.specs.declared.insn.Insn.TheVariants as i
use Rattle.emit_expr.specs.declared.draft.Emitter.{Emitter}
use Rattle.emit_expr.specs.Puts.{insn, label, place, branch, declare, forget, mark_at}
use Rattle.emit_expr.specs.Names.{first_at, close_run}
use Rattle.emit_laws.specs.Growing.{Prefix, Grows}
use Rattle.emit_laws.proofs.Grows as grows
use Rattle.emit_laws.proofs.Keeps as keeps
use Rattle.node_code.specs.Nodes.{operand_at, operand_run}
use Rattle.node_code.specs.Code.{expr_code, stat_code, body_run, loop_at, num_for_run}
use Rattle.scope_laws.specs.Declared.{stat_names}
use Rattle.scope_laws.specs.Sight.{Sight, Part, expr, stat, function, block, visible, StatLevel, behind, in_stat, in_part, Within, next, enter}
use Rattle.code_simulation.specs.Slots.{Slot, Var, Temp, up, same}
use Rattle.code_simulation.specs.Relation.{Setting}
use Rattle.code_simulation.proofs.Along.{CallsGo, Here, Reads}
use Rattle.code_simulation.proofs.Parts.{in_register, ExprRuns, OperandRuns}
use Rattle.code_simulation.proofs.Values.{Loads, loads_number}
use Rattle.code_simulation.proofs.Blocks.{Jumps, Closes}
use Rattle.code_simulation.proofs.Repeats.{UntilRuns}
use Rattle.code_simulation.proofs.Numeric.{three}
use Rattle.code_simulation.proofs.Bounds.{LoopRuns}
use Rattle.compiled_runs.proofs.Places.{here, before, before_put, here_place, label_read, rises}
use Rattle.compiled_runs.proofs.Scopes.{AllBelow, below_later, Aligned}
use Rattle.compiled_runs.proofs.Standing.{Script, weak, At, pushed, kept, next_expr}
use Rattle.compiled_runs.proofs.NodeLevels.{stat_code_of, stat_need_of, stat_rules_of}
use Rattle.compiled_runs.proofs.Nodes.{Runs, In, has_temp, reads, jump_at}
use Rattle.compiled_runs.proofs.Leaves.{Holds}
use Rattle.compiled_runs.proofs.Following.{value_grows, value_keeps, operand_grows, operand_keeps}
use Rattle.compiled_runs.proofs.Statements.{Begins, variables_in, Allowed, Goes, Does, Performs, AllPerform, in_statement, plain_goes}
use Rattle.compiled_runs.proofs.Locals.{here_declare, flags, names_declared}
use Rattle.compiled_runs.proofs.Blocks.{right_none, here_forget, inside_forget, ended_keeps, Ending, variables_at, ending, closes_at, Last}
use Rattle.compiled_runs.proofs.Loops.{Turning, body_goes, until_weaker}
use Rattle.compiled_runs.proofs.NumericRuns.{numbers, loop_runs, for_by_runs, for_runs}

module _ (p : Setting) (most : ℕ) (calls : (i : ℕ) → i ≤ most → CallsGo p i) (b : Bindings) (whole : Emitter) (script : Script p b whole) where
  module _ (h : Here p most) (r : Runs p most b whole script h) where
    -- what is seen in the loop's body
    record BodySeen (scope : List Visible) (n : ℕ) (x : StrId) (body : List Stat) : Type 0 where
      pub sight : Sight
      pub seen : Within r.from (function r.func) sight (map stat body)
      pub scoped : sight.scope ≡ scope ++ visible n (x ∷ [])
      pub later : n + 1 ≤ sight.declared
      pub first : sight.first ≡ r.from.declared

    body_seen : (s : Stat) (x : StrId) (start limit : Expr) (by : Option Expr) (body : List Stat) (ps : List Part) (l : List Slot) (d : Emitter)
        → out-StatKind s.kind ≡ level.NumFor x start limit by body → (a : At p most b whole script h r (stat s ∷ ps) l d)
        → BodySeen a.sight.scope a.sight.declared x body
    body_seen s x start limit None body ps l d is a =
        let loop : Part = block (visible a.sight.declared (x ∷ [])) body in
        let s0 = (in_stat (level.NumFor x start limit None body) a.sight).sight in
        let s1 = behind (expr start) s0 in
        let s2 = behind (expr limit) s1 in
        let seen0 = subst (λ (y : StatLevel). Within r.from (function r.func) (in_stat y a.sight).sight (in_stat y a.sight).parts) is
        (enter a.sight (stat s) ps a.seen) in
        record {
          sight = (in_part loop s2).sight;
          seen = enter s2 loop [] (next s1 (expr limit) (loop ∷ []) (next s0 (expr start) (expr limit ∷ loop ∷ []) seen0));
          scoped = ap (λ vs. vs ++ visible a.sight.declared (x ∷ [])) (append-nil (a.sight.scope ++ []) ∙ append-nil a.sight.scope);
          later = omega arith;
          first = a.first;
        }
    body_seen s x start limit (Some e) body ps l d is a =
        let loop : Part = block (visible a.sight.declared (x ∷ [])) body in
        let s0 = (in_stat (level.NumFor x start limit (Some e) body) a.sight).sight in
        let s1 = behind (expr start) s0 in
        let s2 = behind (expr limit) s1 in
        let s3 = behind (expr e) s2 in
        let seen0 = subst (λ (y : StatLevel). Within r.from (function r.func) (in_stat y a.sight).sight (in_stat y a.sight).parts) is
        (enter a.sight (stat s) ps a.seen) in
        record {
          sight = (in_part loop s3).sight;
          seen = enter s3 loop [] (next s2 (expr e) (loop ∷ []) (next s1 (expr limit) (expr e ∷ loop ∷ [])
              (next s0 (expr start) (expr limit ∷ expr e ∷ loop ∷ []) seen0)));
          scoped = ap (λ vs. vs ++ visible a.sight.declared (x ∷ []))
              (append-nil ((a.sight.scope ++ []) ++ []) ∙ append-nil (a.sight.scope ++ []) ∙ append-nil a.sight.scope);
          later = omega arith;
          first = a.first;
        }

    -- the start is made behind two registers
    start_runs : (e : Expr) (ps : List Part) (l : List Slot) (d : Emitter) → Holds p most calls b whole script e
        → At p most b whole script h r (expr e ∷ ps) l d → d.draft.func ≡ r.final.func
        → length l + (3 + (need_expr e).need) ≤ h.proto.registers → In p most b whole script h r ((expr_code b e).run (length l + 2) 2 d)
        → (v u : Value) → ExprRuns p most e h (Temp u ∷ Temp v ∷ l) (here d) (here ((expr_code b e).run (length l + 2) 2 d))
    start_runs e ps l d holds a func room s v u =
        let two : suc (suc (length l)) ≡ length l + 2 = omega arith in
        subst (λ m. In p most b whole script h r ((expr_code b e).run m 2 d)
        → ExprRuns p most e h (Temp u ∷ Temp v ∷ l) (here d) (here ((expr_code b e).run m 2 d))) two
        (λ s. holds.value h r ps (Temp u ∷ Temp v ∷ l) d (record {
          at = weak p most b whole script h r (expr e ∷ ps) (Temp u ∷ Temp v ∷ l) d
              (pushed p most b whole script h r (expr e ∷ ps) (Temp v ∷ l) d (pushed p most b whole script h r (expr e ∷ ps) l d a v) u);
          inside = s;
          func = func;
          room = omega (arith, room);
        })) s

    -- the other bounds behind three
    bound_runs : (e : Expr) (ps : List Part) (l : List Slot) (d : Emitter) → Holds p most calls b whole script e
        → At p most b whole script h r (expr e ∷ ps) l d → d.draft.func ≡ r.final.func
        → length l + (3 + (need_expr e).need) ≤ h.proto.registers → In p most b whole script h r (operand_run (expr_code b e) (length l + 3) d)
        → (v u w : Value) → OperandRuns p most e h (three v u w l) (here d) (here (operand_run (expr_code b e) (length l + 3) d))
        (has_temp (expr_code b e).own) (in_register (operand_at (expr_code b e) (length l + 3) d))
    bound_runs e ps l d holds a func room s v u w =
        let up3 : suc (suc (suc (length l))) ≡ length l + 3 = omega arith in
        let a1 = pushed p most b whole script h r (expr e ∷ ps) l d a v in
        let a2 = pushed p most b whole script h r (expr e ∷ ps) (Temp v ∷ l) d a1 u in
        subst (λ m. In p most b whole script h r (operand_run (expr_code b e) m d)
        → OperandRuns p most e h (three v u w l) (here d) (here (operand_run (expr_code b e) m d)) (has_temp (expr_code b e).own)
        (in_register (operand_at (expr_code b e) m d))) up3
        (λ s. (holds.operand h r ps (three v u w l) d (record {
          at = weak p most b whole script h r (expr e ∷ ps) (three v u w l) d
              (pushed p most b whole script h r (expr e ∷ ps) (Temp u ∷ Temp v ∷ l) d a2 w);
          inside = s;
          func = func;
          room = omega (arith, room);
        })).0) s

    -- ---- the turns

    module _ (s : Stat) (x : StrId) (start limit : Expr) (by : Option Expr) (body : List Stat)
        (is : out-StatKind s.kind ≡ level.NumFor x start limit by body) (performs : AllPerform p most b whole script body) (ps : List Part) (l : List Slot)
        (d : Emitter) (a : At p most b whole script h r (stat s ∷ ps) l d) (d5 : Emitter) (keeps5 : keeps.Keeps d d5)
        (func5 : d5.draft.func ≡ r.final.func) (at : Place) (good : rules.block (map rules_stat body) (in_loop_of 1 at) ≡ [])
        (room : length l + (4 + block_from 0 (map need_stat body)) ≤ h.proto.registers) where
      abbrev d6 : Emitter
      d6 = branch (i.ForNPrep (length l) (pos 0)) (label s.id 1) d5

      abbrev d7 : Emitter
      d7 = place (label s.id 0) d6

      abbrev d8 : Emitter
      d8 = insn (i.Move (length l + 3) (length l + 2)) d7

      abbrev d9 : Emitter
      d9 = declare (first_at b s.id) (length l + 3) d8

      abbrev d10 : Emitter
      d10 = body_run (map (stat_code b) body) (length l + 4) (loop_at s.id (mark_at (length l + 3) d7)) d9

      abbrev d11 : Emitter
      d11 = place (label s.id 2) d10

      abbrev d12 : Emitter
      d12 = close_run b (mark_at (length l + 3) d7) d11

      abbrev d13 : Emitter
      d13 = forget (length d7.draft.variables) d12

      abbrev d14 : Emitter
      d14 = branch (i.ForNLoop (length l) (pos 0)) (label s.id 0) d13

      abbrev d15 : Emitter
      d15 = place (label s.id 1) d14

      abbrev flag : Bool
      flag = flags p most b whole script h r a.sight.declared (Temp (Number (pos 0)) ∷ Temp (Number (pos 0)) ∷ Temp (Number (pos 0)) ∷ l)
          (suc (suc (suc (length l))))

      keeps8 : keeps.Keeps d d8
      keeps8 = keeps.put _ d d7 (keeps.put _ d d6 (keeps.put _ d d5 keeps5))

      grows9 : Grows d9 d10
      grows9 =
          let codes = map (stat_code b) body in
          grows.body_good codes (grows.stats_are_good b body) (length l + 4) (loop_at s.id (mark_at (length l + 3) d7)) d9 d9 (grows.none d9)

      grows11 : Grows d11 d12
      grows11 = grows.close_good b (mark_at (length l + 3) d7) d11 d11 (grows.none d11)

      grows7 : Grows d7 d9
      grows7 = grows.declared (first_at b s.id) (length l + 3) d7 d8 (grows.put _ d7 d7 (grows.none d7))

      -- behind the loop the variables are those from before it
      loop_keeps : keeps.Keeps d d15
      loop_keeps =
          let g : Grows d7 d11 = grows.put _ d7 d10 (grows.after d7 d9 d10 grows7 grows9) in
          let k7 : keeps.Keeps d d7 = keeps.put _ d d6 (keeps.put _ d d5 keeps5) in
          keeps.put _ d d14 (keeps.put _ d d13
          (keeps.after d d7 d13 k7 (ended_keeps b (mark_at (length l + 3) d7) d7 d11 refl g.variables)))

      -- the variable of the loop is above the three registers
      body_at : (m st n : ℤ) (c : ℕ) → At p most b whole script h r (map stat body ++ []) (Var x c flag ∷ numbers p most m st n l) d9
      body_at m st n c =
          let k = a.sight.declared in
          let up3 : suc (suc (suc (length l))) ≡ length l + 3 = omega arith in
          let t = body_seen s x start limit by body ps l d is a in
          let made = names_declared p most b whole script h r s (x ∷ []) ps l d (ap (λ (y : StatLevel). stat_names y) is) a (numbers p most m st n l) d8 c
          (subst (Aligned b r.from.scope r.from.declared l a.sight.scope) (sym keeps8) a.aligned)
          (subst (AllBelow k) (sym keeps8) a.below) in
          subst (λ qs. At p most b whole script h r qs (Var x c flag ∷ numbers p most m st n l) d9) (sym (append-nil (map stat body)))
          (subst (λ z. At p most b whole script h r (map stat body) (Var x c flag ∷ numbers p most m st n l) (declare (first_at b s.id) z d8)) up3
          (record {
            sight = t.sight;
            seen = t.seen;
            aligned = subst (λ vs. Aligned b r.from.scope r.from.declared (Var x c flag ∷ numbers p most m st n l) vs
                (declare (first_at b s.id) (suc (suc (suc (length l)))) d8).draft.variables) (sym t.scoped) made.aligned;
            first = t.first;
            below = below_later (k + 1) t.sight.declared (declare (first_at b s.id) (suc (suc (suc (length l)))) d8).draft.variables t.later made.below;
          }))

      module _ (inside : In p most b whole script h r d15) where
        in14 : In p most b whole script h r d14
        in14 = before_put r.final whole _ d14 inside

        in13 : In p most b whole script h r d13
        in13 = before_put r.final whole _ d13 in14

        in12 : In p most b whole script h r d12
        in12 = inside_forget r.final whole (length d7.draft.variables) d12 in13

        in11 : In p most b whole script h r d11
        in11 = before r.final whole d11 d12 grows11 in12

        in10 : In p most b whole script h r d10
        in10 = before_put r.final whole _ d10 in11

        in9 : In p most b whole script h r d9
        in9 = before r.final whole d9 d10 grows9 in10

        in8 : In p most b whole script h r d8
        in8 = before r.final whole d8 d9 (grows.declared (first_at b s.id) (length l + 3) d8 d8 (grows.none d8)) in9

        in7 : In p most b whole script h r d7
        in7 = before_put r.final whole _ d7 in8

        pub in6 : In p most b whole script h r d6
        in6 = before_put r.final whole _ d6 in7

        variables7 : (m st n : ℤ) → length d7.draft.variables ≡ variables_in (numbers p most m st n l)
        variables7 m st n =
            let k7 : keeps.Keeps d d7 = keeps.put _ d d6 (keeps.put _ d d5 keeps5) in
            ap length k7 ∙ variables_at p most b whole script h r (stat s ∷ ps) l d a

        e13 : here d13 ≡ here d12
        e13 = here_forget (length d7.draft.variables) d12

        e11 : here d11 ≡ here d10
        e11 = here_place (label s.id 2) d10

        ahead : here d10 ≤ here d14
        ahead =
            let r12 = rises d11 d12 grows11 in
            let r14 = rises d13 d14 (grows.put _ d13 d13 (grows.none d13)) in
            omega (arith, e11, e13, r12, r14)

        body_runs : (m st n : ℤ) (c : ℕ) → UntilRuns p most body h (numbers p most m st n l) (Var x c flag ∷ numbers p most m st n l) (here d14)
            (here d10) (here d9) (here d10) (Ending b d11 (numbers p most m st n l)) (Ending b d11 (numbers p most m st n l))
        body_runs m st n c =
            let l3 = numbers p most m st n l in
            let l4 = Var x c flag ∷ l3 in
            let lp = loop_at s.id (mark_at (length l + 3) d7) in
            let codes = map (stat_code b) body in
            let four : suc (suc (suc (suc (length l)))) ≡ length l + 4 = omega arith in
            let g10 : Grows d10 d11 = grows.put _ d10 d10 (grows.none d10) in
            let g59 : Grows d5 d9 = grows.after d5 d7 d9 (grows.put _ d5 d6 (grows.put _ d5 d5 (grows.none d5))) grows7 in
            let turning : Turning p most b whole script h r lp l3 (here d14) (here d10) (here d10) = record {
              variables = variables7 m st n;
              free = omega arith;
              breaks = label_read r.final whole h.proto.code r.read (label s.id 1) d14 inside;
              continues = label_read r.final whole h.proto.code r.read (label s.id 2) d10 in11;
              break_ahead = ahead;
              turn_ahead = omega arith;
            } in
            until_weaker p most b whole script body h l3 l4 (here d14) (here d10) (here d9) (here d10) (Last p most b whole script h r [] l3 d10)
            (Ending b d11 l3) (Ending b d11 l3)
            (λ l2 e. ending p most b whole script h r [] l3 l2 d10 d11 e.at e.above g10.variables)
            (subst (λ z. In p most b whole script h r (body_run codes z lp d9)
            → Turning p most b whole script h r lp l3 (here d14) (here d10) (here (body_run codes z lp d9))
            → Prefix (body_run codes z lp d9).draft.variables d11.draft.variables
            → UntilRuns p most body h l3 l4 (here d14) (here d10) (here d9) (here (body_run codes z lp d9))
            (Last p most b whole script h r [] l3 (body_run codes z lp d9)) (Ending b d11 l3)) four
            (λ s10 t more. body_goes p most b whole script body h r [] l3 l4 d9 d11 lp (here d14) (here d10) (in_loop_of 1 at) (length l + 4) 0 performs
            (body_at m st n c) (g59.func ∙ func5) (up same) s10 (omega arith) (omega (arith, room)) good t more) in10 turning g10.variables)

        closing : (m st n : ℤ) → Closes p most h (numbers p most m st n l) (Ending b d11 (numbers p most m st n l)) (here d10) (here d13)
        closing m st n =
            let l3 = numbers p most m st n l in
            subst (λ z. Closes p most h l3 (Ending b d11 l3) z (here d13)) e11
            (subst (λ z. Closes p most h l3 (Ending b d11 l3) (here d11) z) (sym e13)
            (closes_at p most b whole script h r (mark_at (length l + 3) d7) l3 d11 (Ending b d11 l3) (variables7 m st n) (omega arith) in12 (λ l2 e. e)))

        pub loop_stands : LoopRuns p most (of_stat s) x body h l (here d5) (here d15)
        loop_stands =
            let e7 : here d7 ≡ here d6 = here_place (label s.id 0) d6 in
            let e9 : here d9 ≡ here d8 = here_declare (first_at b s.id) (length l + 3) d8 in
            let e15 : here d15 ≡ here d14 = here_place (label s.id 1) d14 in
            let prep = jump_at p most b whole script h r (i.ForNPrep (length l) (pos 0)) (label s.id 1) d5 in6 in
            let loop = jump_at p most b whole script h r (i.ForNLoop (length l) (pos 0)) (label s.id 0) d13 in14 in
            let r9 = rises d9 d10 grows9 in
            let r8 = rises d7 d9 grows7 in
            let far = ahead in
            let up3 : length l + 3 ≡ suc (suc (suc (length l))) = omega arith in
            let up2 : length l + 2 ≡ suc (suc (length l)) = omega arith in
            let copy : Reads p most h (here d6) (i.Move (suc (suc (suc (length l)))) (suc (suc (length l)))) (here d8) =
            subst (λ z. Reads p most h z (i.Move (suc (suc (suc (length l)))) (suc (suc (length l)))) (here d8)) e7
            (subst (λ z. Reads p most h (here d7) (i.Move z (suc (suc (length l)))) (here d8)) up3
            (subst (λ z. Reads p most h (here d7) (i.Move (length l + 3) z) (here d8)) up2
            (reads p most b whole script h r (i.Move (length l + 3) (length l + 2)) d7 in8))) in
            subst (λ z. LoopRuns p most (of_stat s) x body h l (here d5) z) (sym e15)
            (loop_runs p most (of_stat s) x flag body prep.by loop.by calls h l (here d5) (here d6) (here d8) (here d10) (here d13) (here d14)
            (Ending b d11) prep.reads
            (prep.on (here d14) (label_read r.final whole h.proto.code r.read (label s.id 1) d14 inside) (omega (arith, e7, r8, r9, far))) copy
            (λ m st c n. subst (λ z. UntilRuns p most body h (numbers p most m st n l) (Var x c flag ∷ numbers p most m st n l) (here d14) (here d10) z
            (here d10) (Ending b d11 (numbers p most m st n l)) (Ending b d11 (numbers p most m st n l))) e9 (body_runs m st n c))
            closing loop.reads (loop.back (here d6) (label_read r.final whole h.proto.code r.read (label s.id 0) d6 in7)))

    -- ---- the whole loop

    from_one : (from to n : ℕ) → Reads p most h from (i.LoadN (n + 1) (pos 1)) to → Loads p most h from (suc n) (Number (pos 1)) to
    from_one from to n loads =
        let one : n + 1 ≡ suc n = omega arith in
        loads_number (subst (λ m. Reads p most h from (i.LoadN m (pos 1)) to) one loads)

    none_stands : (s : Stat) (x : StrId) (start limit : Expr) (body : List Stat) → out-StatKind s.kind ≡ level.NumFor x start limit None body
        → Holds p most calls b whole script start → Holds p most calls b whole script limit → AllPerform p most b whole script body
        → (ps : List Part) (l : List Slot) (d : Emitter) (j : Jumps) (at : Place) → (st : Begins p most b whole script h r (stat s ∷ ps) l d
        (num_for_run b (expr_code b start) (expr_code b limit) None (map (stat_code b) body) s.id (length l) d) (need_stat s).need)
        → Allowed s j at → Goes p most b whole script s 0 h r ps l j d
        (num_for_run b (expr_code b start) (expr_code b limit) None (map (stat_code b) body) s.id (length l) d) st.at.sight
    none_stands s x start limit body is holds1 holds2 performs ps l d j at st allowed =
        let f = length l in
        let c1 = expr_code b start in
        let c2 = expr_code b limit in
        let d1 = c1.run (f + 2) 2 d in
        let d2 = operand_run c2 (f + 3) d1 in
        let r2 = operand_at c2 (f + 3) d1 in
        let d3 = insn (i.Move f r2) d2 in
        let d5 = insn (i.LoadN (f + 1) (pos 1)) d3 in
        let g1 : Grows d d1 = value_grows b start (f + 2) 2 d in
        let g2 : Grows d1 d2 = operand_grows b limit (f + 3) d1 in
        let k1 : keeps.Keeps d d1 = value_keeps b start (f + 2) 2 d in
        let k2 : keeps.Keeps d1 d2 = operand_keeps b limit (f + 3) d1 in
        let k5 : keeps.Keeps d d5 = keeps.put _ d d3 (keeps.put _ d d2 (keeps.after d d1 d2 k1 k2)) in
        let g5 : Grows d d5 = grows.put _ d d3 (grows.put _ d d2 (grows.after d d1 d2 g1 g2)) in
        let needed : (need_stat s).need ≡ max (max (3 + (need_expr start).need) (3 + (need_expr limit).need))
        (max 0 (4 + block_from 0 (map need_stat body))) =
        ap (λ (n : StatNeed). n.need) (stat_need_of s (level.NumFor x start limit None body) is) in
        let room = st.room in
        let enough : length l + (4 + block_from 0 (map need_stat body)) ≤ h.proto.registers = omega (arith, room, needed) in
        let rest = too_many s.at at.live 1 in
        let good = right_none rest (rules.block (map rules_stat body) (in_loop_of 1 at))
        (right_none ((rules_expr start at ++ rules_expr limit at) ++ []) (rest ++ rules.block (map rules_stat body) (in_loop_of 1 at))
        (ap (λ (z : StatRules). z.faults at) (sym (stat_rules_of s (level.NumFor x start limit None body) is)) ∙ allowed.rules)) in
        let in5 : In p most b whole script h r d5 =
        before_put r.final whole _ d5 (in6 s x start limit None body is performs ps l d st.at d5 k5 (g5.func ∙ st.func) at good enough st.inside) in
        let in3 : In p most b whole script h r d3 = before_put r.final whole _ d3 in5 in
        let in2 : In p most b whole script h r d2 = before_put r.final whole _ d2 in3 in
        let in1 : In p most b whole script h r d1 = before r.final whole d1 d2 g2 in2 in
        let loop : Part = block (visible st.at.sight.declared (x ∷ [])) body in
        let inner : At p most b whole script h r (expr start ∷ expr limit ∷ loop ∷ []) l d =
        in_statement p most b whole script h r s (level.NumFor x start limit None body) ps l d is st.at refl (omega arith) refl in
        let inner1 : At p most b whole script h r (expr limit ∷ loop ∷ []) l d1 =
        kept p most b whole script h r _ l d d1 k1 (next_expr p most b whole script h r start _ l d inner) in
        plain_goes p most b whole script s (level.NumFor x start limit None body) h r ps l j d _ is (λ n. refl)
        (loop_keeps s x start limit None body is performs ps l d st.at d5 k5 (g5.func ∙ st.func) at good enough) st.at
        (for_runs p most s x start limit body h l j (here d) (here d1) (here d2) (here d3) (here d5) _ r2 (has_temp c2.own) is
        (start_runs start _ l d holds1 inner st.func (omega (arith, room, needed)) in1)
        (bound_runs limit _ l d1 holds2 inner1 (g1.func ∙ st.func) (omega (arith, room, needed)) in2)
        (reads p most b whole script h r (i.Move f r2) d2 in3)
        (from_one (here d3) (here d5) f (reads p most b whole script h r (i.LoadN (f + 1) (pos 1)) d3 in5))
        (loop_stands s x start limit None body is performs ps l d st.at d5 k5 (g5.func ∙ st.func) at good enough st.inside))

    some_stands : (s : Stat) (x : StrId) (start limit by : Expr) (body : List Stat) → out-StatKind s.kind ≡ level.NumFor x start limit (Some by) body
        → Holds p most calls b whole script start → Holds p most calls b whole script limit → Holds p most calls b whole script by
        → AllPerform p most b whole script body
        → (ps : List Part) (l : List Slot) (d : Emitter) (j : Jumps) (at : Place) → (st : Begins p most b whole script h r (stat s ∷ ps) l d
        (num_for_run b (expr_code b start) (expr_code b limit) (Some (expr_code b by)) (map (stat_code b) body) s.id (length l) d) (need_stat s).need)
        → Allowed s j at → Goes p most b whole script s 0 h r ps l j d
        (num_for_run b (expr_code b start) (expr_code b limit) (Some (expr_code b by)) (map (stat_code b) body) s.id (length l) d) st.at.sight
    some_stands s x start limit by body is holds1 holds2 holds3 performs ps l d j at st allowed =
        let f = length l in
        let c1 = expr_code b start in
        let c2 = expr_code b limit in
        let c3 = expr_code b by in
        let d1 = c1.run (f + 2) 2 d in
        let d2 = operand_run c2 (f + 3) d1 in
        let r2 = operand_at c2 (f + 3) d1 in
        let d3 = insn (i.Move f r2) d2 in
        let d4 = operand_run c3 (f + 3) d3 in
        let r3 = operand_at c3 (f + 3) d3 in
        let d5 = insn (i.Move (f + 1) r3) d4 in
        let g1 : Grows d d1 = value_grows b start (f + 2) 2 d in
        let g2 : Grows d1 d2 = operand_grows b limit (f + 3) d1 in
        let g4 : Grows d3 d4 = operand_grows b by (f + 3) d3 in
        let k1 : keeps.Keeps d d1 = value_keeps b start (f + 2) 2 d in
        let k2 : keeps.Keeps d1 d2 = operand_keeps b limit (f + 3) d1 in
        let k13 : keeps.Keeps d1 d3 = keeps.put _ d1 d2 k2 in
        let k4 : keeps.Keeps d3 d4 = operand_keeps b by (f + 3) d3 in
        let k5 : keeps.Keeps d d5 = keeps.put _ d d4 (keeps.after d d3 d4 (keeps.after d d1 d3 k1 k13) k4) in
        let g3 : Grows d d3 = grows.put _ d d2 (grows.after d d1 d2 g1 g2) in
        let g5 : Grows d d5 = grows.put _ d d4 (grows.after d d3 d4 g3 g4) in
        let needed : (need_stat s).need ≡ max (max (3 + (need_expr start).need) (3 + (need_expr limit).need))
        (max (3 + (need_expr by).need) (4 + block_from 0 (map need_stat body))) =
        ap (λ (n : StatNeed). n.need) (stat_need_of s (level.NumFor x start limit (Some by) body) is) in
        let room = st.room in
        let enough : length l + (4 + block_from 0 (map need_stat body)) ≤ h.proto.registers = omega (arith, room, needed) in
        let rest = too_many s.at at.live 1 in
        let good = right_none rest (rules.block (map rules_stat body) (in_loop_of 1 at))
        (right_none ((rules_expr start at ++ rules_expr limit at) ++ rules_expr by at) (rest ++ rules.block (map rules_stat body) (in_loop_of 1 at))
        (ap (λ (z : StatRules). z.faults at) (sym (stat_rules_of s (level.NumFor x start limit (Some by) body) is)) ∙ allowed.rules)) in
        let in5 : In p most b whole script h r d5 =
        before_put r.final whole _ d5 (in6 s x start limit (Some by) body is performs ps l d st.at d5 k5 (g5.func ∙ st.func) at good enough st.inside) in
        let in4 : In p most b whole script h r d4 = before_put r.final whole _ d4 in5 in
        let in3 : In p most b whole script h r d3 = before r.final whole d3 d4 g4 in4 in
        let in2 : In p most b whole script h r d2 = before_put r.final whole _ d2 in3 in
        let in1 : In p most b whole script h r d1 = before r.final whole d1 d2 g2 in2 in
        let loop : Part = block (visible st.at.sight.declared (x ∷ [])) body in
        let inner : At p most b whole script h r (expr start ∷ expr limit ∷ expr by ∷ loop ∷ []) l d =
        in_statement p most b whole script h r s (level.NumFor x start limit (Some by) body) ps l d is st.at refl (omega arith) refl in
        let inner1 : At p most b whole script h r (expr limit ∷ expr by ∷ loop ∷ []) l d1 =
        kept p most b whole script h r _ l d d1 k1 (next_expr p most b whole script h r start _ l d inner) in
        let inner3 : At p most b whole script h r (expr by ∷ loop ∷ []) l d3 =
        kept p most b whole script h r _ l d1 d3 k13 (next_expr p most b whole script h r limit _ l d1 inner1) in
        let one : f + 1 ≡ suc f = omega arith in
        plain_goes p most b whole script s (level.NumFor x start limit (Some by) body) h r ps l j d _ is (λ n. refl)
        (loop_keeps s x start limit (Some by) body is performs ps l d st.at d5 k5 (g5.func ∙ st.func) at good enough) st.at
        (for_by_runs p most s x start limit by body h l j (here d) (here d1) (here d2) (here d3) (here d4) (here d5) _ r2 r3 (has_temp c2.own)
        (has_temp c3.own) is
        (start_runs start _ l d holds1 inner st.func (omega (arith, room, needed)) in1)
        (bound_runs limit _ l d1 holds2 inner1 (g1.func ∙ st.func) (omega (arith, room, needed)) in2)
        (reads p most b whole script h r (i.Move f r2) d2 in3)
        (bound_runs by _ l d3 holds3 inner3 (g3.func ∙ st.func) (omega (arith, room, needed)) in4)
        (subst (λ m. Reads p most h (here d4) (i.Move m r3) (here d5)) one (reads p most b whole script h r (i.Move (f + 1) r3) d4 in5))
        (loop_stands s x start limit (Some by) body is performs ps l d st.at d5 k5 (g5.func ∙ st.func) at good enough st.inside))

  -- a step that is written does what it does
  abbrev pub StepHolds : Option Expr → Type 0
  StepHolds None = Unit {0}
  StepHolds (Some e) = Holds p most calls b whole script e

  pub num_for_performs : (s : Stat) (x : StrId) (start limit : Expr) (by : Option Expr) (body : List Stat)
      → out-StatKind s.kind ≡ level.NumFor x start limit by body → Holds p most calls b whole script start → Holds p most calls b whole script limit
      → StepHolds by → AllPerform p most b whole script body → Performs p most b whole script s
  num_for_performs s x start limit None body is holds1 holds2 holds3 performs =
      subst (Does p most b whole script s) (sym (stat_code_of b s (level.NumFor x start limit None body) is)) (record {
        declares = sym (ap (λ (n : StatNeed). n.declares) (stat_need_of s (level.NumFor x start limit None body) is));
        goes = λ h r ps l d lp j at st around allowed. none_stands h r s x start limit body is holds1 holds2 performs ps l d j at st allowed;
      })
  num_for_performs s x start limit (Some by) body is holds1 holds2 holds3 performs =
      subst (Does p most b whole script s) (sym (stat_code_of b s (level.NumFor x start limit (Some by) body) is)) (record {
        declares = sym (ap (λ (n : StatNeed). n.declares) (stat_need_of s (level.NumFor x start limit (Some by) body) is));
        goes = λ h r ps l d lp j at st around allowed. some_stands h r s x start limit by body is holds1 holds2 holds3 performs ps l d j at st allowed;
      })
