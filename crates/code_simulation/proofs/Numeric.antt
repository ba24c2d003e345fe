-- A numeric `for`, whose limit, step and index stand in three registers.
use Rattle.std.proofs.Common.{Bool, true, false, ◌≡◌, ℕ, zero, suc, ◌+◌, ◌<◌, ◌≤◌, ℤ, ◌+ℤ◌, List, [], ◌∷◌, length, refl, ap, ◌∙◌, arith}
use Rattle.std.specs.Prelude.{if◌then◌else◌}
use Rattle.byte_text.specs.declared.fixed.StrId.{StrId}
use Rattle.syntax_tree.specs.declared.tree.Stat.{Stat}
use Rattle.value_model.specs.Values.{Value, Number}
use Rattle.value_model.specs.Metamethods.{as_number}
use Rattle.value_model.specs.Loops.{Bounds, Range, Refused, Halted, bounds, goes_on}
use Rattle.bounded_runs.specs.Runs.{Goes, Charges}
use Rattle.source_meaning.specs.States.{Node}
use Rattle.source_meaning.specs.States as source
use Rattle.source_meaning.specs.Statements as statements
use Rattle.source_meaning.specs.Steps as source_steps
use Rattle.op_words.specs.declared.insn.Insn.TheVariants as insn
use Rattle.op_words.specs.Decoding.{insn_at}
use Rattle.machine_meaning.specs.States.{Val, Registers, put, held}
use Rattle.machine_meaning.specs.States as machine
use Rattle.machine_meaning.specs.Moves as machine_moves
use Rattle.machine_meaning.specs.Effects as effects
use Rattle.machine_meaning.specs.Steps as machine_steps
use Rattle.code_simulation.specs.Slots.{Slot, Var, Temp}
use Rattle.code_simulation.specs.Relation.{Dyn, cells_s, cells_m, Setting}
use Rattle.code_simulation.proofs.Along.{Alike, CallsGo, File, Here, inside, frame, env_of, waits_here, Reads, source_at, machine_at, Has, Same, SameIn}
use Rattle.code_simulation.proofs.Parts.{Forward}
use Rattle.code_simulation.proofs.Names.{put_other}
use Rattle.code_simulation.proofs.World.{push, pop, temp_reg, drop_slot, holds_later}
use Rattle.code_simulation.proofs.Changes.{source_more, declare}
use Rattle.code_simulation.proofs.Moving.{source_goes, target_goes, both_charge, both_stop}
use Rattle.code_simulation.proofs.Waiting.{fault_here}
use Rattle.code_simulation.proofs.Registers.{row_here, with_register, give_is}
use Rattle.code_simulation.proofs.Operations.{jump_is}
use Rattle.code_simulation.proofs.Blocks.{looping, Backward, BlockRuns, Closes, closes_same}

-- numbers are their own bounds
pub bounds_are : (i l s : ℤ) → bounds (Number i) (Number l) (Number s) ≡ Range i l s
unfolding bounds as_number
bounds_are i l s = refl

-- the limit, the step and the index, from below
abbrev pub three : (limit step index : Value) → List Slot → List Slot
three u q z l = Temp z ∷ Temp q ∷ Temp u ∷ l

module _ (p : Setting) (most : ℕ) where
  -- the three registers, with other numbers in them
  abbrev pub reset_file : File → ℕ → (limit step index : Value) → File
  reset_file file a u q z =
      record { registers = put (put (put file.registers a (Val u)) (suc a) (Val q)) (suc (suc a)) (Val z); top = file.top }

  pub reset : {i : ℕ} (h : Here p most) (u q z u' q' z' : Value) (l : List Slot) (d : Dyn) (file : File) → Has p most h i (three u q z l) d file
      → Has p most h i (three u' q' z' l) d (reset_file file (length l) u' q' z')
  reset h u q z u' q' z' l d file w =
      let w0 = pop (pop (pop w)) in
      let a = push u' w0 in
      let b = push q' a in
      push z' b

  -- a write to the three is plain
  pub bounds_set : {i : ℕ} (h : Here p most) (u q z : Value) (n m s : ℤ) (l : List Slot) (d : Dyn) (place : ℕ) (file : File)
      → Has p most h i (three u q z l) d file → effects.with_bounds (length l) n m s
      (machine_moves.inside (frame p most h place file) d.code) ≡ machine_moves.inside
      (frame p most h place (reset_file file (length l) (Number m) (Number s) (Number n))) d.code
  bounds_set h u q z n m s l d place file w =
      let a = length l in
      let r0 = temp_reg (drop_slot (drop_slot w.fits)) in
      let r1 = temp_reg (drop_slot w.fits) in
      let r2 = temp_reg w.fits in
      let f1 = put file.registers a (Val (Number m)) in
      let f2 = put f1 (suc a) (Val (Number s)) in
      let e1 : f1 (suc a) ≡ Val q = put_other file.registers a (Val (Number m)) (suc a) (λ e. omega (arith, e)) ∙ r1 in
      let e2 : f2 (suc (suc a)) ≡ Val z = put_other f1 (suc a) (Val (Number s)) (suc (suc a)) (λ e. omega (arith, e))
      ∙ put_other file.registers a (Val (Number m)) (suc (suc a)) (λ e. omega (arith, e)) ∙ r2 in
      ap (λ x. machine.set (a + 2) (Number n) (machine.set (a + 1) (Number s)
      (machine.write x a (Number m) (machine_moves.inside (frame p most h place file) d.code)))) r0
      ∙ ap (λ k. machine.set (a + 2) (Number n) (machine.set k (Number s)
      (machine_moves.inside (frame p most h place (record { registers = f1; top = file.top })) d.code))) (omega arith)
      ∙ ap (λ x. machine.set (a + 2) (Number n) (machine.write x (suc a) (Number s)
      (machine_moves.inside (frame p most h place (record { registers = f1; top = file.top })) d.code))) e1
      ∙ ap (λ k. machine.set k (Number n) (machine_moves.inside (frame p most h place (record { registers = f2; top = file.top })) d.code)) (omega arith)
      ∙ ap (λ x. machine.write x (suc (suc a)) (Number n) (machine_moves.inside (frame p most h place (record { registers = f2; top = file.top })) d.code)) e2

  -- what the three registers say
  pub bounds_read : {i : ℕ} (h : Here p most) (u q z : Value) (l : List Slot) (d : Dyn) (place : ℕ) (file : File) → Has p most h i (three u q z l) d file
      → effects.bounds_in (frame p most h place file) d.code (length l) ≡ bounds z u q
  bounds_read h u q z l d place file w =
      let a = length l in
      ap (λ k. bounds (held (cells_m d) (file.registers k)) (held (cells_m d) (file.registers a)) (held (cells_m d) (file.registers (a + 1)))) (omega arith)
      ∙ ap (λ k. bounds (held (cells_m d) (file.registers (suc (suc a)))) (held (cells_m d) (file.registers a)) (held (cells_m d) (file.registers k)))
      (omega arith)
      ∙ ap (λ x. bounds (held (cells_m d) x) (held (cells_m d) (file.registers a)) (held (cells_m d) (file.registers (suc a)))) (temp_reg w.fits)
      ∙ ap (λ x. bounds z (held (cells_m d) x) (held (cells_m d) (file.registers (suc a)))) (temp_reg (drop_slot (drop_slot w.fits)))
      ∙ ap (λ x. bounds z u (held (cells_m d) x)) (temp_reg (drop_slot w.fits))

  -- both charge a turn at its end, and look whether there is another one
  abbrev pub EndsCount : Here p most → List Slot → List source.Frame → StrId → (index limit step : ℤ) → List Stat → source.Focus → Dyn → Type 0
  EndsCount h l k x i m s body f d =
      source_steps.step p.texts (source_at p most h f (source.Counts x i m s body ∷ k) (env_of p most h l) d) ≡ Charges
      (source_at p most h (source.Count x (i +ℤ s) m s body) k (env_of p most h l) d)

  -- the row of what is left of an instruction that has charged a turn
  charged_row : (h : Here p most) (place next : ℕ) (a : ℕ) (by : ℤ) (file : File) (d : Dyn) → Reads p most h place (insn.ForNLoop a by) next
      → machine_steps.step p.chunk (machine_moves.state machine.Charged (frame p most h place file) h.below_m d.code) ≡ effects.added
      (effects.bounds_in (frame p most h place file) d.code a) a by next (frame p most h place file) h.below_m d.code
  charged_row h place next a by file d reads =
      ap (λ o. machine_steps.act_charged (insn_at (machine_steps.code_of o) place) (frame p most h place file) h.below_m d.code) h.found
      ∙ ap (λ o. machine_steps.act_charged o (frame p most h place file) h.below_m d.code) reads

  -- behind the turn's charge the index moves on, and there is another turn, or none
  pub another : (x : StrId) (m s n : ℤ) (body : List Stat) (by : ℤ) (h : Here p most) (l : List Slot) (on last to left : ℕ)
      → Reads p most h last (insn.ForNLoop (length l) by) to → Backward last by on → (k : List source.Frame) (d : Dyn) (file : File)
      → Has p most h left (three (Number m) (Number s) (Number n) l) d file → (b : Bool) → goes_on (n +ℤ s) m s ≡ b
      → ((file2 : File) → b ≡ true → Has p most h left (three (Number m) (Number s) (Number (n +ℤ s)) l) d file2
      → Same p most h left (source.Count x (n +ℤ s) m s body) k l d on file2) → Same p most h left source.Done k l d to file
      → Alike p left (source_at p most h (source.Count x (n +ℤ s) m s body) k (env_of p most h l) d)
      (machine_moves.state machine.Charged (frame p most h last file) h.below_m d.code)
  another x m s n body by h l on last to left loop j k d file w true more again stop =
      let fr = frame p most h last file in
      target_goes p
      (charged_row h last to (length l) by file d loop
      ∙ ap (λ b. effects.added b (length l) by to fr h.below_m d.code) (bounds_read h (Number m) (Number s) (Number n) l d last file w ∙ bounds_are n m s)
      ∙ ap (λ b. effects.again b (length l) (n +ℤ s) m s by to fr h.below_m d.code) more
      ∙ ap (λ y. machine_moves.on (effects.back by) y h.below_m) (bounds_set h (Number m) (Number s) (Number n) (n +ℤ s) m s l d last file w)
      ∙ ap (λ z. machine_moves.return_to z (frame p most h last (reset_file file (length l) (Number m) (Number s) (Number (n +ℤ s)))) h.below_m d.code) j)
      (again (reset_file file (length l) (Number m) (Number s) (Number (n +ℤ s))) refl
      (reset h (Number m) (Number s) (Number n) (Number m) (Number s) (Number (n +ℤ s)) l d file w))
  another x m s n body by h l on last to left loop j k d file w false more again stop =
      let fr = frame p most h last file in
      source_goes p (ap (λ b. statements.count b x (n +ℤ s) m s body (inside p most h) k (env_of p most h l) d.script) more)
      (target_goes p
      (charged_row h last to (length l) by file d loop
      ∙ ap (λ b. effects.added b (length l) by to fr h.below_m d.code) (bounds_read h (Number m) (Number s) (Number n) l d last file w ∙ bounds_are n m s)
      ∙ ap (λ b. effects.again b (length l) (n +ℤ s) m s by to fr h.below_m d.code) more)
      stop)

  -- the turns of a loop, from one that is begun on
  pub turns_go : (x : StrId) (cap : Bool) (m s : ℤ) (body : List Stat) (by : ℤ) (h : Here p most) (l : List Slot) (on behind turn last to : ℕ)
      (End : List Slot → Type 0) → Reads p most h on (insn.Move (suc (suc (suc (length l)))) (suc (suc (length l)))) behind
      → ((c : ℕ) (n : ℤ) → BlockRuns p most body h (Var x c cap ∷ three (Number m) (Number s) (Number n) l)
      (looping (three (Number m) (Number s) (Number n) l) to (three (Number m) (Number s) (Number n) l) turn) behind turn End)
      → ((n : ℤ) → End (three (Number m) (Number s) (Number n) l)) →
      ((n : ℤ) → Closes p most h (three (Number m) (Number s) (Number n) l) End turn last) → Reads p most h last (insn.ForNLoop (length l) by) to
      → Backward last by on → (turns left : ℕ) → left < turns → left ≤ most → (k : List source.Frame)
      → ((i : ℕ) → i ≤ left → (n : ℤ) (d2 : Dyn) (file2 : File) → Has p most h i (three (Number m) (Number s) (Number n) l) d2 file2
      → Same p most h i source.Done k l d2 to file2) → (n : ℤ) (d : Dyn) (file : File)
      → Has p most h left (three (Number m) (Number s) (Number n) l) d file → goes_on n m s ≡ true
      → Same p most h left (source.Count x n m s body) k l d on file
  turns_go x cap m s body by h l on behind turn last to End copy body_runs end c loop j zero left lt le k go n d file w more = absurd (omega (arith, lt))
  turns_go x cap m s body by h l on behind turn last to End copy body_runs end c loop j (suc turns) left lt le k go n d file w more =
      let l3 = three (Number m) (Number s) (Number n) l in
      let a = length l in
      let free = w.clear (length l3) (omega arith) in
      let w1 = push (Number n) w in
      let ends : (f : source.Focus) (i : ℕ) → i ≤ left → (l2 : List Slot) (d2 : Dyn) (file2 : File) → EndsCount h l k x n m s body f d2 → End l2
      → Has p most h i l2 d2 file2 → SameIn p most h i f (source.Counts x n m s body ∷ k)
      (env_of p most h l) d2 turn file2 = λ f i lt2 l2 d2 file2 row end2 w2.
      closes_same p most h l3 End turn last i l2 _ d2 file2 (c n) end2 w2
      (λ file3 w3. both_charge p i row (row_here p most h last to file3 d2 (insn.ForNLoop a by) loop)
      (λ fewer e.
      let w4 = holds_later p fewer i h.co (waits_here p most h) h.roots h.act l3 d2 file3.registers (omega (arith, e)) w3 in
      another x m s n body by h l on last to fewer loop j k d2 file3 w4 (goes_on (n +ℤ s) m s) refl
      (λ file4 more2 w5. turns_go x cap m s body by h l on behind turn last to End copy body_runs end c loop j turns fewer (omega (arith, lt, lt2, e))
      (omega (arith, le, lt2, e)) k (λ q lt4. go q (omega (arith, lt2, e, lt4))) (n +ℤ s) d2 file4 w5 more2)
      (go fewer (omega (arith, lt2, e)) n d2 file3 w4))) in
      source_goes p (ap (λ b. statements.count b x n m s body (inside p most h) k (env_of p most h l) d.script) more)
      (target_goes p
      (row_here p most h on behind file d (insn.Move (suc (suc (suc a))) (suc (suc a))) copy
      ∙ ap (λ y. machine_moves.give (suc (suc (suc a))) (held (cells_m d) y) behind (frame p most h on file) h.below_m d.code) (temp_reg w.fits)
      ∙ give_is p most h machine.Idle (suc (suc (suc a))) behind on (Number n) free.0 file d.code free.1)
      (body_runs (length (cells_s d)) n left le (source.Restores (env_of p most h l) ∷ source.Counts x n m s body ∷ k)
      (source_more d h.co (length h.roots) (Number n)) (with_register p most file (suc (suc (suc a))) (Number n))
      (declare l3 x cap (Number n) [] w1)
      (λ env. record {
        breaks = λ q lt3 d3 file3 w3. source_goes p refl (source_goes p refl (go q lt3 n d3 file3 w3));
        continues = λ q lt3 d3 file3 w3. source_goes p refl (ends source.Continue q lt3 l3 d3 file3 refl (end n) w3);
      })
      (λ q lt3 l4 d3 file3 end3 w3. source_goes p refl (ends source.Done q lt3 l4 d3 file3 refl end3 w3))))

  -- ---- the loop is begun

  -- the bounds are numbers, or it is refused, or the script is stopped
  pub for_goes : (node : Node) (x : StrId) (cap : Bool) (body : List Stat) (by back : ℤ) (calls : (i : ℕ) → i ≤ most → CallsGo p i) (h : Here p most)
      (l : List Slot) (from on behind turn last to : ℕ) (End : List Slot → Type 0) → Reads p most h from (insn.ForNPrep (length l) by) on
      → Forward from by to → Reads p most h on (insn.Move (suc (suc (suc (length l)))) (suc (suc (length l)))) behind
      → ((m s : ℤ) (c : ℕ) (n : ℤ) → BlockRuns p most body h (Var x c cap ∷ three (Number m) (Number s) (Number n) l)
      (looping (three (Number m) (Number s) (Number n) l) to (three (Number m) (Number s) (Number n) l) turn) behind turn End)
      → ((m s n : ℤ) → End (three (Number m) (Number s) (Number n) l))
      → ((m s n : ℤ) → Closes p most h (three (Number m) (Number s) (Number n) l) End turn last)
      → Reads p most h last (insn.ForNLoop (length l) back) to → Backward last back on → (left : ℕ) → left ≤ most → (k : List source.Frame)
      → ((i : ℕ) → i ≤ left → (d2 : Dyn) (file2 : File) → Has p most h i l d2 file2 → Same p most h i source.Done k l d2 to file2)
      → (u q z : Value) (d : Dyn) (file : File) → Has p most h left (three u q z l) d file → (b : Bounds) → bounds z u q ≡ b → (s : source.State)
      → source_steps.step p.texts s ≡ statements.bounded (bounds z u q) node x body (inside p most h) k (env_of p most h l) d.script
      → Alike p left s (machine_at p most h from file d)
  for_goes node x cap body by back calls h l from on behind turn last to End prep forward copy body_runs end c loop j left le k go u q z d file w
      (Refused e) is s row =
      source_goes p (row ∙ ap (λ b. statements.bounded b node x body (inside p most h) k (env_of p most h l) d.script) is)
      (target_goes p
      (row_here p most h from on file d (insn.ForNPrep (length l) by) prep
      ∙ ap (λ b. effects.prepared b (length l) by on (frame p most h from file) h.below_m d.code) (bounds_read h u q z l d from file w ∙ is))
      (fault_here p most calls e h l left le (source.Awaits node (source.Wants source.Nothing) ∷ k) machine.Idle from file d (pop (pop (pop w)))))
  for_goes node x cap body by back calls h l from on behind turn last to End prep forward copy body_runs end c loop j left le k go u q z d file w
      (Halted e) is s row =
      both_stop p (row ∙ ap (λ b. statements.bounded b node x body (inside p most h) k (env_of p most h l) d.script) is)
      (row_here p most h from on file d (insn.ForNPrep (length l) by) prep
      ∙ ap (λ b. effects.prepared b (length l) by on (frame p most h from file) h.below_m d.code) (bounds_read h u q z l d from file w ∙ is))
  for_goes node x cap body by back calls h l from on behind turn last to End prep forward copy body_runs end c loop j left le k go u q z d file w
      (Range n m st) is s row =
      source_goes p (row ∙ ap (λ b. statements.bounded b node x body (inside p most h) k (env_of p most h l) d.script) is)
      (begun (goes_on n m st) refl)
    where
      begun : (b : Bool) → goes_on n m st ≡ b → Same p most h left (source.Count x n m st body) k l d from file
      begun b more =
          let file2 = reset_file file (length l) (Number m) (Number st) (Number n) in
          let w2 = reset h u q z (Number m) (Number st) (Number n) l d file w in
          target_goes p
          (row_here p most h from on file d (insn.ForNPrep (length l) by) prep
          ∙ ap (λ b. effects.prepared b (length l) by on (frame p most h from file) h.below_m d.code) (bounds_read h u q z l d from file w ∙ is)
          ∙ ap (λ y. machine_moves.on (effects.begun (goes_on n m st) by on) y h.below_m) (bounds_set h u q z n m st l d from file w)
          ∙ ap (λ b. effects.begun b by on (frame p most h from file2) h.below_m d.code) more
          ∙ goes_where b file2)
          (first_turn b more file2 w2)
        where
          goes_where : (b : Bool) (file2 : File) → effects.begun b by on (frame p most h from file2) h.below_m d.code ≡ Goes []
              (machine_at p most h (if b then on else to) file2 d)
          goes_where true file2 = refl
          goes_where false file2 = jump_is forward (frame p most h from file2) h.below_m d.code

          first_turn : (b : Bool) → goes_on n m st ≡ b → (file2 : File) → Has p most h left (three (Number m) (Number st) (Number n) l) d file2
              → Same p most h left (source.Count x n m st body) k l d (if b then on else to) file2
          first_turn true more file2 w2 =
              turns_go x cap m st body back h l on behind turn last to End copy (body_runs m st) (end m st) (c m st) loop j (suc left) left
              (omega arith) le k (λ i lt n d3 file3 w3. go i lt d3 file3 (pop (pop (pop w3)))) n d file2 w2 more
          first_turn false more file2 w2 =
              source_goes p (ap (λ b. statements.count b x n m st body (inside p most h) k (env_of p most h l) d.script) more)
              (go left (omega arith) d file2 (pop (pop (pop w2))))
