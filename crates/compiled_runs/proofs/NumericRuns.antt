-- A numeric `for`, where a turn's early end may leave more in use, and where each bound stands in a register of its own or of a local's.
use Rattle.std.proofs.Common.{Bool, true, false, ◌≡◌, ℕ, zero, suc, ◌<◌, ◌≤◌, ℤ, pos, ◌+ℤ◌, List, [], ◌∷◌, length, Option, Some, None, refl, ap, ◌∙◌, arith}
use Rattle.std.specs.Prelude.{if◌then◌else◌}
use Rattle.byte_text.specs.declared.fixed.StrId.{StrId}
use Rattle.syntax_tree.specs.declared.tree.Expr.{Expr}
use Rattle.syntax_tree.specs.declared.tree.Stat.{Stat}
use Rattle.syntax_tree.specs.declared.tree.StatKind.{out-StatKind}
use Rattle.syntax_tree.specs.declared.tree.ExprKind.TheOpen as level
use Rattle.value_model.specs.Values.{Value, Number}
use Rattle.value_model.specs.Loops.{Bounds, Range, Refused, Halted, bounds, goes_on}
use Rattle.bounded_runs.specs.Runs.{Goes}
use Rattle.source_meaning.specs.States.{Node, of_stat}
use Rattle.source_meaning.specs.States as source
use Rattle.source_meaning.specs.Statements as statements
use Rattle.source_meaning.specs.Steps as source_steps
use Rattle.op_words.specs.declared.insn.Insn.TheVariants as insn
use Rattle.machine_meaning.specs.States.{Val, held}
use Rattle.machine_meaning.specs.States as machine
use Rattle.machine_meaning.specs.Moves as machine_moves
use Rattle.machine_meaning.specs.Effects as effects
use Rattle.code_simulation.specs.Slots.{Slot, Var, Temp, temps}
use Rattle.code_simulation.specs.Relation.{Dyn, cells_s, cells_m, Setting}
use Rattle.code_simulation.proofs.Along.{Alike, CallsGo, File, Here, inside, frame, env_of, waits_here, Reads, machine_at, Has, Same, SameIn}
use Rattle.code_simulation.proofs.Parts.{Forward, over, in_register, ExprRuns, OperandRuns}
use Rattle.code_simulation.proofs.World.{claim, push, pop, temp_reg, drop_slot, holds_later}
use Rattle.code_simulation.proofs.Changes.{source_more, declare}
use Rattle.code_simulation.proofs.Moving.{source_goes, target_goes, both_charge, both_stop}
use Rattle.code_simulation.proofs.Waiting.{fault_here}
use Rattle.code_simulation.proofs.Registers.{row_here, with_register, give_is}
use Rattle.code_simulation.proofs.Operations.{jump_is}
use Rattle.code_simulation.proofs.Operators.{under}
use Rattle.code_simulation.proofs.Values.{Loads, loads_row}
use Rattle.code_simulation.proofs.Indexing.{set_temp, move_down}
use Rattle.code_simulation.proofs.Blocks.{Jumps, Backward, StatRuns, Closes, closes_same, stat_row}
use Rattle.code_simulation.proofs.Repeats.{UntilRuns}
use Rattle.code_simulation.proofs.Numeric.{three, EndsCount, reset_file, reset, bounds_set, bounds_read, another}
use Rattle.code_simulation.proofs.Bounds.{LoopRuns}

module _ (p : Setting) (most : ℕ) where
  -- the limit, the step and the index, as numbers
  abbrev pub numbers : (limit step index : ℤ) → List Slot → List Slot
  numbers m s n l = three (Number m) (Number s) (Number n) l

  -- the turns of a loop, from one that is begun on
  turns_go : (x : StrId) (cap : Bool) (m s : ℤ) (body : List Stat) (by : ℤ) (h : Here p most) (l : List Slot) (on behind turn last to : ℕ)
      (End : List Slot → List Slot → Type 0) → Reads p most h on (insn.Move (suc (suc (suc (length l)))) (suc (suc (length l)))) behind
      → ((c : ℕ) (n : ℤ) → UntilRuns p most body h (numbers m s n l) (Var x c cap ∷ numbers m s n l) to turn behind turn (End (numbers m s n l))
      (End (numbers m s n l)))
      → ((n : ℤ) → Closes p most h (numbers m s n l) (End (numbers m s n l)) turn last) → Reads p most h last (insn.ForNLoop (length l) by) to
      → Backward last by on → (turns left : ℕ) → left < turns → left ≤ most → (k : List source.Frame)
      → ((i : ℕ) → i ≤ left → (n : ℤ) (d2 : Dyn) (file2 : File) → Has p most h i (numbers m s n l) d2 file2
      → Same p most h i source.Done k l d2 to file2) → (n : ℤ) (d : Dyn) (file : File)
      → Has p most h left (numbers m s n l) d file → goes_on n m s ≡ true
      → Same p most h left (source.Count x n m s body) k l d on file
  turns_go x cap m s body by h l on behind turn last to End copy body_runs c loop j zero left lt le k go n d file w more = absurd (omega (arith, lt))
  turns_go x cap m s body by h l on behind turn last to End copy body_runs c loop j (suc turns) left lt le k go n d file w more =
      let l3 = numbers m s n l in
      let a = length l in
      let free = w.clear (length l3) (omega arith) in
      let w1 = push (Number n) w in
      let ends : (f : source.Focus) (i : ℕ) → i ≤ left → (l2 : List Slot) (d2 : Dyn) (file2 : File) → EndsCount p most h l k x n m s body f d2
      → End l3 l2 → Has p most h i l2 d2 file2 → SameIn p most h i f (source.Counts x n m s body ∷ k)
      (env_of p most h l) d2 turn file2 = λ f i lt2 l2 d2 file2 row end2 w2.
      closes_same p most h l3 (End l3) turn last i l2 _ d2 file2 (c n) end2 w2
      (λ file3 w3. both_charge p i row (row_here p most h last to file3 d2 (insn.ForNLoop a by) loop)
      (λ fewer e.
      let w4 = holds_later p fewer i h.co (waits_here p most h) h.roots h.act l3 d2 file3.registers (omega (arith, e)) w3 in
      another p most x m s n body by h l on last to fewer loop j k d2 file3 w4 (goes_on (n +ℤ s) m s) refl
      (λ file4 more2 w5. turns_go x cap m s body by h l on behind turn last to End copy body_runs c loop j turns fewer (omega (arith, lt, lt2, e))
      (omega (arith, le, lt2, e)) k (λ q lt4. go q (omega (arith, lt2, e, lt4))) (n +ℤ s) d2 file4 w5 more2)
      (go fewer (omega (arith, lt2, e)) n d2 file3 w4))) in
      source_goes p (ap (λ b. statements.count b x n m s body (inside p most h) k (env_of p most h l) d.script) more)
      (target_goes p
      (row_here p most h on behind file d (insn.Move (suc (suc (suc a))) (suc (suc a))) copy
      ∙ ap (λ y. machine_moves.give (suc (suc (suc a))) (held (cells_m d) y) behind (frame p most h on file) h.below_m d.code) (temp_reg w.fits)
      ∙ give_is p most h machine.Idle (suc (suc (suc a))) behind on (Number n) free.0 file d.code free.1)
      (body_runs (length (cells_s d)) n left le (source.Restores (env_of p most h l) ∷ source.Counts x n m s body ∷ k)
      (source_more d h.co (length h.roots) (Number n)) (with_register p most file (suc (suc (suc a))) (Number n))
      (declare l3 x cap (Number n) [] w1)
      (λ env q lt3 d3 file3 w3. source_goes p refl (source_goes p refl (go q lt3 n d3 file3 w3)))
      (λ lc early q lt3 d3 file3 w3. source_goes p refl (ends source.Continue q lt3 lc d3 file3 refl early w3))
      (λ q lt3 l4 d3 file3 end3 w3. source_goes p refl (ends source.Done q lt3 l4 d3 file3 refl end3 w3))))

  -- the loop from its beginning on: the bounds are numbers, or it is refused, or the script is stopped
  for_goes : (node : Node) (x : StrId) (cap : Bool) (body : List Stat) (by back : ℤ) (calls : (i : ℕ) → i ≤ most → CallsGo p i) (h : Here p most)
      (l : List Slot) (from on behind turn last to : ℕ) (End : List Slot → List Slot → Type 0) → Reads p most h from (insn.ForNPrep (length l) by) on
      → Forward from by to → Reads p most h on (insn.Move (suc (suc (suc (length l)))) (suc (suc (length l)))) behind
      → ((m s : ℤ) (c : ℕ) (n : ℤ) → UntilRuns p most body h (numbers m s n l) (Var x c cap ∷ numbers m s n l) to turn behind turn
      (End (numbers m s n l)) (End (numbers m s n l)))
      → ((m s n : ℤ) → Closes p most h (numbers m s n l) (End (numbers m s n l)) turn last)
      → Reads p most h last (insn.ForNLoop (length l) back) to → Backward last back on → (left : ℕ) → left ≤ most → (k : List source.Frame)
      → ((i : ℕ) → i ≤ left → (d2 : Dyn) (file2 : File) → Has p most h i l d2 file2 → Same p most h i source.Done k l d2 to file2)
      → (u q z : Value) (d : Dyn) (file : File) → Has p most h left (three u q z l) d file → (b : Bounds) → bounds z u q ≡ b → (s : source.State)
      → source_steps.step p.texts s ≡ statements.bounded (bounds z u q) node x body (inside p most h) k (env_of p most h l) d.script
      → Alike p left s (machine_at p most h from file d)
  for_goes node x cap body by back calls h l from on behind turn last to End prep forward copy body_runs c loop j left le k go u q z d file w
      (Refused e) is s row =
      source_goes p (row ∙ ap (λ b. statements.bounded b node x body (inside p most h) k (env_of p most h l) d.script) is)
      (target_goes p
      (row_here p most h from on file d (insn.ForNPrep (length l) by) prep
      ∙ ap (λ b. effects.prepared b (length l) by on (frame p most h from file) h.below_m d.code) (bounds_read p most h u q z l d from file w ∙ is))
      (fault_here p most calls e h l left le (source.Awaits node (source.Wants source.Nothing) ∷ k) machine.Idle from file d (pop (pop (pop w)))))
  for_goes node x cap body by back calls h l from on behind turn last to End prep forward copy body_runs c loop j left le k go u q z d file w
      (Halted e) is s row =
      both_stop p (row ∙ ap (λ b. statements.bounded b node x body (inside p most h) k (env_of p most h l) d.script) is)
      (row_here p most h from on file d (insn.ForNPrep (length l) by) prep
      ∙ ap (λ b. effects.prepared b (length l) by on (frame p most h from file) h.below_m d.code) (bounds_read p most h u q z l d from file w ∙ is))
  for_goes node x cap body by back calls h l from on behind turn last to End prep forward copy body_runs c loop j left le k go u q z d file w
      (Range n m st) is s row =
      source_goes p (row ∙ ap (λ b. statements.bounded b node x body (inside p most h) k (env_of p most h l) d.script) is)
      (begun (goes_on n m st) refl)
    where
      begun : (b : Bool) → goes_on n m st ≡ b → Same p most h left (source.Count x n m st body) k l d from file
      begun b more =
          let file2 = reset_file p most file (length l) (Number m) (Number st) (Number n) in
          let w2 = reset p most h u q z (Number m) (Number st) (Number n) l d file w in
          target_goes p
          (row_here p most h from on file d (insn.ForNPrep (length l) by) prep
          ∙ ap (λ b. effects.prepared b (length l) by on (frame p most h from file) h.below_m d.code) (bounds_read p most h u q z l d from file w ∙ is)
          ∙ ap (λ y. machine_moves.on (effects.begun (goes_on n m st) by on) y h.below_m) (bounds_set p most h u q z n m st l d from file w)
          ∙ ap (λ b. effects.begun b by on (frame p most h from file2) h.below_m d.code) more
          ∙ goes_where b file2)
          (first_turn b more file2 w2)
        where
          goes_where : (b : Bool) (file2 : File) → effects.begun b by on (frame p most h from file2) h.below_m d.code ≡ Goes []
              (machine_at p most h (if b then on else to) file2 d)
          goes_where true file2 = refl
          goes_where false file2 = jump_is forward (frame p most h from file2) h.below_m d.code

          first_turn : (b : Bool) → goes_on n m st ≡ b → (file2 : File) → Has p most h left (numbers m st n l) d file2
              → Same p most h left (source.Count x n m st body) k l d (if b then on else to) file2
          first_turn true more file2 w2 =
              turns_go x cap m st body back h l on behind turn last to End copy (body_runs m st) (c m st) loop j (suc left) left
              (omega arith) le k (λ i lt n d3 file3 w3. go i lt d3 file3 (pop (pop (pop w3)))) n d file2 w2 more
          first_turn false more file2 w2 =
              source_goes p (ap (λ b. statements.count b x n m st body (inside p most h) k (env_of p most h l) d.script) more)
              (go left (omega arith) d file2 (pop (pop (pop w2))))

  -- what remains of a loop whose bounds stand in their registers
  pub loop_runs : (node : Node) (x : StrId) (cap : Bool) (body : List Stat) (by back : ℤ) (calls : (i : ℕ) → i ≤ most → CallsGo p i) (h : Here p most)
      (l : List Slot) (from on behind turn last to : ℕ) (End : List Slot → List Slot → Type 0) → Reads p most h from (insn.ForNPrep (length l) by) on
      → Forward from by to → Reads p most h on (insn.Move (suc (suc (suc (length l)))) (suc (suc (length l)))) behind
      → ((m s : ℤ) (c : ℕ) (n : ℤ) → UntilRuns p most body h (numbers m s n l) (Var x c cap ∷ numbers m s n l) to turn behind turn
      (End (numbers m s n l)) (End (numbers m s n l)))
      → ((m s n : ℤ) → Closes p most h (numbers m s n l) (End (numbers m s n l)) turn last)
      → Reads p most h last (insn.ForNLoop (length l) back) to → Backward last back on → LoopRuns p most node x body h l from to
  loop_runs node x cap body by back calls h l from on behind turn last to End prep forward copy body_runs c loop j left le k go u q z d file w s row =
      for_goes node x cap body by back calls h l from on behind turn last to End prep forward copy body_runs c loop j left le k go u q z d file w
      (bounds z u q) refl s row

  -- ---- the bounds

  -- a value in a register is moved to a register below, where another value was
  moved : (own : Bool) (r : ℕ) (vs : List Value) (h : Here p most) (l : List Slot) (old v : Value) (place next left : ℕ) (s : source.State) (d : Dyn)
      (file : File) → Reads p most h place (insn.Move (length l) r) next → file.registers r ≡ Val v
      → Has p most h left (over own v (temps vs (Temp old ∷ l))) d file
      → ((file2 : File) → Has p most h left (temps vs (Temp v ∷ l)) d file2 → Alike p left s (machine_at p most h next file2 d))
      → Alike p left s (machine_at p most h place file d)
  moved own r vs h l old v place next left s d file reads see w go =
      move_down p most vs h l old v place next left r s d file reads see (under p most own v h (temps vs (Temp old ∷ l)) d file w)
      (λ w2. go (with_register p most file (length l) v) w2)

  -- the start and the limit
  start_and_limit : (s : Stat) (x : StrId) (start limit : Expr) (step : Option Expr) (body : List Stat) (h : Here p most) (l : List Slot)
      (from m1 m2 m3 r : ℕ) (own : Bool) → out-StatKind s.kind ≡ level.NumFor x start limit step body
      → ((a b : Value) → ExprRuns p most start h (Temp b ∷ Temp a ∷ l) from m1)
      → ((a b v : Value) → OperandRuns p most limit h (three a b v l) m1 m2 own (in_register r))
      → Reads p most h m2 (insn.Move (length l) r) m3
      → (left : ℕ) → left ≤ most → (k : List source.Frame) (d : Dyn) (file : File) → Has p most h left l d file
      → ((i : ℕ) → i ≤ left → (v1 v2 old : Value) (d2 : Dyn) (file2 : File) → Has p most h i (three v2 old v1 l) d2 file2
      → Same p most h i (source.Give v2) (source.Limit (of_stat s) x v1 step body ∷ k) l d2 m3 file2)
      → Same p most h left (source.Execute s) k l d from file
  start_and_limit s x start limit step body h l from m1 m2 m3 r own kind start_runs limit_runs move left le k d file w go =
      let c0 = w.clear (length l) (omega arith) in
      let w0 = claim c0.0 c0.1 w in
      let c1 = w0.clear (suc (length l)) (omega arith) in
      let w1 = claim c1.0 c1.1 w0 in
      source_goes p (stat_row p most s _ h l k d kind)
      (start_runs c0.0 c1.0 left le (source.Start (of_stat s) x limit step body ∷ k) d file w1
      (λ i lt v1 d2 file2 w2 steady. source_goes p refl
      (limit_runs c0.0 c1.0 v1 i (omega (arith, le, lt)) (source.Limit (of_stat s) x v1 step body ∷ k) d2 file2 w2
      (λ j lt2 v2 d3 file3 w3 see steady2.
      moved own r (c1.0 ∷ v1 ∷ []) h l c0.0 v2 m2 m3 j _ d3 file3 move see w3
      (λ file4 w4. go j (omega (arith, lt, lt2)) v1 v2 c1.0 d3 file4 w4)))))

  -- a loop whose step is written
  pub for_by_runs : (s : Stat) (x : StrId) (start limit step : Expr) (body : List Stat) (h : Here p most) (l : List Slot) (j0 : Jumps)
      (from m1 m2 m3 m4 m5 to r r2 : ℕ) (own own2 : Bool) → out-StatKind s.kind ≡ level.NumFor x start limit (Some step) body
      → ((a b : Value) → ExprRuns p most start h (Temp b ∷ Temp a ∷ l) from m1)
      → ((a b v : Value) → OperandRuns p most limit h (three a b v l) m1 m2 own (in_register r))
      → Reads p most h m2 (insn.Move (length l) r) m3
      → ((a b v : Value) → OperandRuns p most step h (three a b v l) m3 m4 own2 (in_register r2))
      → Reads p most h m4 (insn.Move (suc (length l)) r2) m5
      → LoopRuns p most (of_stat s) x body h l m5 to → StatRuns p most s h l j0 from to (λ c. l)
  for_by_runs s x start limit step body h l j0 from m1 m2 m3 m4 m5 to r r2 own own2 kind start_runs limit_runs move step_runs move2 loop left le k d
      file w ways go =
      start_and_limit s x start limit (Some step) body h l from m1 m2 m3 r own kind start_runs limit_runs move left le k d file w
      (λ i lt v1 v2 old d2 file2 w2. source_goes p refl
      (step_runs v2 old v1 i (omega (arith, le, lt)) (source.Stride (of_stat s) x v1 v2 body ∷ k) d2 file2 w2
      (λ j lt2 v3 d3 file3 w3 see steady.
      moved own2 r2 (v1 ∷ []) h (Temp v2 ∷ l) old v3 m4 m5 j _ d3 file3 move2 see w3
      (λ file4 w4. loop j (omega (arith, le, lt, lt2)) k (λ n lt3. go n (omega (arith, lt, lt2, lt3)) 0) v2 v3 v1 d3 file4 w4 _ refl))))

  -- one whose step is 1
  pub for_runs : (s : Stat) (x : StrId) (start limit : Expr) (body : List Stat) (h : Here p most) (l : List Slot) (j0 : Jumps)
      (from m1 m2 m3 m4 to r : ℕ) (own : Bool) → out-StatKind s.kind ≡ level.NumFor x start limit None body
      → ((a b : Value) → ExprRuns p most start h (Temp b ∷ Temp a ∷ l) from m1)
      → ((a b v : Value) → OperandRuns p most limit h (three a b v l) m1 m2 own (in_register r))
      → Reads p most h m2 (insn.Move (length l) r) m3
      → Loads p most h m3 (suc (length l)) (Number (pos 1)) m4
      → LoopRuns p most (of_stat s) x body h l m4 to → StatRuns p most s h l j0 from to (λ c. l)
  for_runs s x start limit body h l j0 from m1 m2 m3 m4 to r own kind start_runs limit_runs move loads loop left le k d file w ways go =
      start_and_limit s x start limit None body h l from m1 m2 m3 r own kind start_runs limit_runs move left le k d file w
      (λ i lt v1 v2 old d2 file2 w2. source_goes p refl
      (target_goes p
      (loads_row p most h m3 (suc (length l)) m4 (Number (pos 1)) file2 d2 loads
      ∙ give_is p most h machine.Idle (suc (length l)) m4 m3 (Number (pos 1)) old file2 d2.code (temp_reg (drop_slot w2.fits)))
      (loop i (omega (arith, le, lt)) k (λ n lt2. go n (omega (arith, lt, lt2)) 0) v2 (Number (pos 1)) v1 d2
      (with_register p most file2 (suc (length l)) (Number (pos 1)))
      (set_temp (v1 ∷ []) (Temp v2 ∷ l) old (Number (pos 1)) w2) _ refl)))
