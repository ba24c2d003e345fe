-- A generic `for`, whose generator, state and control value stand in three registers.
use Rattle.std.proofs.Common.{Bool, ◌≡◌, ℕ, zero, suc, ◌+◌, ◌<◌, ◌≤◌, ℤ, List, [], ◌∷◌, ◌++◌, length, refl, sym, ap, ◌∙◌, subst, arith, ◌⊎◌, ⊎_elim, inl, inr}
use Rattle.byte_text.specs.declared.fixed.StrId.{StrId}
use Rattle.syntax_tree.specs.declared.tree.Expr.{Expr}
use Rattle.syntax_tree.specs.declared.tree.ExprKind.TheOpen as level
use Rattle.syntax_tree.specs.declared.tree.Stat.{Stat}
use Rattle.syntax_tree.specs.declared.tree.StatKind.{out-StatKind}
use Rattle.value_model.specs.Values.{Value, Nil, Boolean, Number, Text, Table, Closure, Native, Host, Wrap, Thread}
use Rattle.value_model.specs.Waits.{ByScript, ByLibrary}
use Rattle.value_model.specs.Loops.{Iteration, Generates, CallsIter, NotIterable, iteration}
use Rattle.bounded_runs.specs.Runs.{Charges}
use Rattle.source_meaning.specs.States.{Node, of_stat}
use Rattle.source_meaning.specs.States as source
use Rattle.source_meaning.specs.Moves as source_moves
use Rattle.source_meaning.specs.Statements as statements
use Rattle.source_meaning.specs.Steps as source_steps
use Rattle.op_words.specs.declared.insn.Insn.TheVariants as insn
use Rattle.op_words.specs.Decoding.{insn_at}
use Rattle.machine_meaning.specs.States.{Val, put, held}
use Rattle.machine_meaning.specs.States as machine
use Rattle.machine_meaning.specs.Moves as machine_moves
use Rattle.machine_meaning.specs.Effects as effects
use Rattle.machine_meaning.specs.Steps as machine_steps
use Rattle.code_simulation.specs.Slots.{Slot, temps, vars}
use Rattle.code_simulation.specs.Relation.{Dyn, cells_s, cells_m, changed, store_s, store_m, Setting}
use Rattle.code_simulation.proofs.Along.{Alike, CallsGo, File, Here, inside, frame, env_of, waits_here, Reads, source_at, machine_at, Has, Same, SameIn}
use Rattle.code_simulation.proofs.Parts.{Forward, ListRuns}
use Rattle.code_simulation.proofs.Names.{put_other, binds_vars, steady_all}
use Rattle.code_simulation.proofs.World.{push, pop, temp_reg, drop_slot, holds_later}
use Rattle.code_simulation.proofs.Changes.{declare_all}
use Rattle.code_simulation.proofs.Moving.{source_goes, target_goes, both_charge}
use Rattle.code_simulation.proofs.Waiting.{call_here, fault_here}
use Rattle.code_simulation.proofs.Registers.{row_here, with_register, puts, push_all, set_all_clear}
use Rattle.code_simulation.proofs.Operations.{jump_is}
use Rattle.code_simulation.proofs.Lists.{length_adjusted}
use Rattle.code_simulation.proofs.Statements.{adjusted_is}
use Rattle.code_simulation.proofs.Blocks.{Jumps, looping, Backward, StatRuns, BlockRuns, Closes, closes_same, stat_row}
use Rattle.code_simulation.proofs.Numeric.{three, reset_file, reset}

-- ---- whether there is another turn

-- a value is there: both begin a turn with it
record There (v : Value) : Type 0 where
  script : (vs : List Value) (at : Node) (xs : List StrId) (g s : Value) (body : List Stat) (h : source_moves.Here) (k : List source.Frame)
      (env : source.Environment) (w : source.World) → statements.turn (v ∷ vs) at xs g s body h k env w
      ≡ statements.declare xs (v ∷ vs) (source.ExecuteAll body) h (source.Restores env ∷ source.Asks at xs g s v body ∷ k) env w
  code : (vs : List Value) (a n : ℕ) (by : ℤ) (next : ℕ) (f : machine.Frame) (fs : List machine.Frame) (w : machine.World)
      → effects.turned (v ∷ vs) a n by next f fs w ≡ machine_moves.on (effects.back by)
      (machine.set_all (a + 3) (machine.adjusted n (v ∷ vs)) (machine.set (a + 2) v (machine_moves.inside f w))) fs

there_or : (v : Value) → (v ≡ Nil) ⊎ There v
there_or Nil = inl refl
there_or (Boolean b) = inr (record { script = λ vs at xs g s body h k env w. refl; code = λ vs a n by next f fs w. refl })
there_or (Number z) = inr (record { script = λ vs at xs g s body h k env w. refl; code = λ vs a n by next f fs w. refl })
there_or (Text bs) = inr (record { script = λ vs at xs g s body h k env w. refl; code = λ vs a n by next f fs w. refl })
there_or (Table t) = inr (record { script = λ vs at xs g s body h k env w. refl; code = λ vs a n by next f fs w. refl })
there_or (Closure i) = inr (record { script = λ vs at xs g s body h k env w. refl; code = λ vs a n by next f fs w. refl })
there_or (Native b) = inr (record { script = λ vs at xs g s body h k env w. refl; code = λ vs a n by next f fs w. refl })
there_or (Host i) = inr (record { script = λ vs at xs g s body h k env w. refl; code = λ vs a n by next f fs w. refl })
there_or (Wrap i) = inr (record { script = λ vs at xs g s body h k env w. refl; code = λ vs a n by next f fs w. refl })
there_or (Thread i) = inr (record { script = λ vs at xs g s body h k env w. refl; code = λ vs a n by next f fs w. refl })

-- both take the same values from a list
rest_is : (vs : List Value) → source_moves.rest vs ≡ machine_moves.rest vs
rest_is [] = refl
rest_is (v ∷ vs) = refl

three_are : (vs : List Value) → machine.adjusted 3 vs
    ≡ source_moves.first vs ∷ source_moves.first (source_moves.rest vs) ∷ source_moves.first (source_moves.rest (source_moves.rest vs)) ∷ []
three_are [] = refl
three_are (v ∷ []) = refl
three_are (v ∷ u ∷ []) = refl
three_are (v ∷ u ∷ z ∷ vs) = refl

module _ (p : Setting) (most : ℕ) where
  -- writes to the three are plain
  generator_set : {i : ℕ} (h : Here p most) (g s c g' s' c' : Value) (l : List Slot) (d : Dyn) (q : machine.Purpose) (place : ℕ) (file : File)
      → Has p most h i (three g s c l) d file
      → effects.with_generator (length l) g' s' c' (machine_moves.inside (machine_moves.waits_for q (frame p most h place file)) d.code)
      ≡ machine_moves.inside (machine_moves.waits_for q (frame p most h place (reset_file p most file (length l) g' s' c'))) d.code
  generator_set h g s c g' s' c' l d q place file w =
      let a = length l in
      let f1 = put file.registers a (Val g') in
      let f2 = put f1 (suc a) (Val s') in
      let e1 : f1 (suc a) ≡ Val s = put_other file.registers a (Val g') (suc a) (λ e. omega (arith, e)) ∙ temp_reg (drop_slot w.fits) in
      let e2 : f2 (suc (suc a)) ≡ Val c = put_other f1 (suc a) (Val s') (suc (suc a)) (λ e. omega (arith, e))
      ∙ put_other file.registers a (Val g') (suc (suc a)) (λ e. omega (arith, e)) ∙ temp_reg w.fits in
      ap (λ x. machine.set (a + 2) c' (machine.set (a + 1) s'
      (machine.write x a g' (machine_moves.inside (machine_moves.waits_for q (frame p most h place file)) d.code)))) (temp_reg (drop_slot (drop_slot w.fits)))
      ∙ ap (λ k. machine.set (a + 2) c' (machine.set k s'
      (machine_moves.inside (machine_moves.waits_for q (frame p most h place (record { registers = f1; top = file.top }))) d.code))) (omega arith)
      ∙ ap (λ x. machine.set (a + 2) c' (machine.write x (suc a) s'
      (machine_moves.inside (machine_moves.waits_for q (frame p most h place (record { registers = f1; top = file.top }))) d.code))) e1
      ∙ ap (λ k. machine.set k c'
      (machine_moves.inside (machine_moves.waits_for q (frame p most h place (record { registers = f2; top = file.top }))) d.code)) (omega arith)
      ∙ ap (λ x. machine.write x (suc (suc a)) c'
      (machine_moves.inside (machine_moves.waits_for q (frame p most h place (record { registers = f2; top = file.top }))) d.code)) e2

  -- what the instruction asks, behind the turn that it has charged
  ask_row : {i : ℕ} (h : Here p most) (g s c : Value) (l : List Slot) (place next n : ℕ) (by : ℤ) (d : Dyn) (file : File)
      → Reads p most h place (insn.ForGLoop (length l) by n) next → Has p most h i (three g s c l) d file
      → machine_steps.step p.chunk (machine_moves.state machine.Charged (frame p most h place file) h.below_m d.code)
      ≡ machine_moves.now (machine.Invoke ByScript g (s ∷ c ∷ [])) (machine_moves.saved (machine.Turns (length l) n by next) (frame p most h place file))
      h.below_m d.code
  ask_row h g s c l place next n by d file reads w =
      let a = length l in
      let fr = frame p most h place file in
      let waits = machine_moves.saved (machine.Turns (length l) n by next) fr in
      ap (λ o. machine_steps.act_charged (insn_at (machine_steps.code_of o) place) fr h.below_m d.code) h.found
      ∙ ap (λ o. machine_steps.act_charged o fr h.below_m d.code) reads
      ∙ ap (λ x. machine_moves.now (machine.Invoke ByScript (held (cells_m d) x)
      (held (cells_m d) (file.registers (a + 1)) ∷ held (cells_m d) (file.registers (a + 2)) ∷ [])) waits h.below_m d.code)
      (temp_reg (drop_slot (drop_slot w.fits)))
      ∙ ap (λ k. machine_moves.now (machine.Invoke ByScript g
      (held (cells_m d) (file.registers k) ∷ held (cells_m d) (file.registers (a + 2)) ∷ [])) waits h.below_m d.code) (omega arith)
      ∙ ap (λ x. machine_moves.now (machine.Invoke ByScript g
      (held (cells_m d) x ∷ held (cells_m d) (file.registers (a + 2)) ∷ [])) waits h.below_m d.code) (temp_reg (drop_slot w.fits))
      ∙ ap (λ k. machine_moves.now (machine.Invoke ByScript g (s ∷ held (cells_m d) (file.registers k) ∷ [])) waits h.below_m d.code) (omega arith)
      ∙ ap (λ x. machine_moves.now (machine.Invoke ByScript g (s ∷ held (cells_m d) x ∷ [])) waits h.below_m d.code) (temp_reg w.fits)

  -- the file where the variables of a turn are in their registers
  abbrev turn_file : File → ℕ → Value → List Value → File
  turn_file file a v us =
      record { registers = puts (put file.registers (suc (suc a)) (Val v)) (suc (suc (suc a))) us; top = file.top }

  -- the code's row of a turn's values, of which the first is the next control value
  turned_row : {i : ℕ} (h : Here p most) (g s c v : Value) (vs : List Value) (l : List Slot) (place next n on : ℕ) (by : ℤ) (q : machine.Purpose) (d : Dyn)
      (file : File) → Backward place by on → There v → Has p most h i (three g s c l) d file
      → effects.turned (v ∷ vs) (length l) n by next (machine_moves.waits_for q (frame p most h place file)) h.below_m d.code
      ≡ machine_moves.now machine.Run (frame p most h on (turn_file file (length l) v (machine.adjusted n (v ∷ vs)))) h.below_m d.code
  turned_row h g s c v vs l place next n on by q d file j there w =
      let a = length l in
      let us = machine.adjusted n (v ∷ vs) in
      let file2 = with_register p most file (suc (suc a)) v in
      let w2 = push v (pop w) in
      there.code vs a n by next (machine_moves.waits_for q (frame p most h place file)) h.below_m d.code
      ∙ ap (λ k. machine_moves.on (effects.back by) (machine.set_all (a + 3) us (machine.set k v
      (machine_moves.inside (machine_moves.waits_for q (frame p most h place file)) d.code))) h.below_m) (omega arith)
      ∙ ap (λ x. machine_moves.on (effects.back by) (machine.set_all (a + 3) us (machine.write x (suc (suc a)) v
      (machine_moves.inside (machine_moves.waits_for q (frame p most h place file)) d.code))) h.below_m) (temp_reg w.fits)
      ∙ ap (λ k. machine_moves.on (effects.back by) (machine.set_all k us
      (machine_moves.inside (machine_moves.waits_for q (frame p most h place file2)) d.code)) h.below_m) (omega arith)
      ∙ ap (λ y. machine_moves.on (effects.back by) y h.below_m)
      (set_all_clear (suc (suc (suc a))) us (machine_moves.waits_for q (frame p most h place file2)) d.code w2.clear)
      ∙ ap (λ z. machine_moves.return_to z (machine_moves.waits_for q (frame p most h place (turn_file file a v us))) h.below_m d.code) j

  -- ---- one turn

  -- both ask the generator
  abbrev Asked : Here p most → ℕ → List Slot → List source.Frame → Node → List StrId → (g s c : Value) → List Stat → (last : ℕ) → Dyn → File → Type 0
  Asked h left l k node xs g s c body last d file =
      Alike p left (source_at p most h (source.Ask node xs g s c body) k (env_of p most h l) d)
      (machine_moves.state machine.Charged (frame p most h last file) h.below_m d.code)

  -- at the end of a turn both charge another one
  abbrev EndsAsk : Here p most → List Slot → List source.Frame → Node → List StrId → (g s v : Value) → List Stat → source.Focus → Dyn → Type 0
  EndsAsk h l k node xs g s v body f d =
      source_steps.step p.texts (source_at p most h f (source.Asks node xs g s v body ∷ k) (env_of p most h l) d) ≡ Charges
      (source_at p most h (source.Ask node xs g s v body) k (env_of p most h l) d)

  module _ (node : Node) (xs : List StrId) (captured : ℕ → Bool) (g s : Value) (body : List Stat) (by : ℤ) (h : Here p most) (l : List Slot)
      (on turn last to : ℕ) (End : List Slot → Type 0)
      (body_runs : (v : Value) (c : ℕ) → BlockRuns p most body h (vars captured xs c (three g s v l))
      (looping (three g s v l) to (three g s v l) turn) on turn End) (end : (v : Value) → End (three g s v l))
      (closes : (v : Value) → Closes p most h (three g s v l) End turn last)
      (loop : Reads p most h last (insn.ForGLoop (length l) by (length xs)) to) (j : Backward last by on) where
    -- what the generator gave is taken: the loop is done, or there is a turn, at whose end it is asked again
    turn_goes : (left i : ℕ) → left ≤ most → i ≤ left → (k : List source.Frame) → ((i : ℕ) → i ≤ left → (d2 : Dyn) (file2 : File)
        → Has p most h i l d2 file2 → Same p most h i source.Done k l d2 to file2)
        → ((fewer : ℕ) → fewer < left → (v : Value) (d : Dyn) (file : File) → Has p most h fewer (three g s v l) d file
        → Asked h fewer l k node xs g s v body last d file) → (vs : List Value) (c : Value) (d : Dyn) (file : File)
        → Has p most h i (three g s c l) d file
        → Alike p i (source_at p most h (source.GiveAll vs) (source.Awaits node (source.Turns xs g s body) ∷ k) (env_of p most h l) d)
        (machine_moves.state (machine.GiveAll vs) (machine_moves.waits_for (machine.Turns (length l) (length xs) by to) (frame p most h last file))
        h.below_m d.code)
    turn_goes left i le lt k go again [] c d file w =
        source_goes p refl (target_goes p refl (go i lt d file (pop (pop (pop w)))))
    turn_goes left i le lt k go again (v ∷ vs) c d file w = ⊎_elim over another (there_or v)
      where
        over : v ≡ Nil → Alike p i (source_at p most h (source.GiveAll (v ∷ vs)) (source.Awaits node (source.Turns xs g s body) ∷ k) (env_of p most h l) d)
            (machine_moves.state (machine.GiveAll (v ∷ vs)) (machine_moves.waits_for (machine.Turns (length l) (length xs) by to) (frame p most h last file))
            h.below_m d.code)
        over e =
            source_goes p (ap (λ v. statements.turn (v ∷ vs) node xs g s body (inside p most h) k (env_of p most h l) d.script) e)
            (target_goes p (ap (λ v. effects.turned (v ∷ vs) (length l) (length xs) by to
            (machine_moves.waits_for (machine.Turns (length l) (length xs) by to) (frame p most h last file)) h.below_m d.code) e)
            (go i lt d file (pop (pop (pop w)))))

        another : There v → Alike p i
            (source_at p most h (source.GiveAll (v ∷ vs)) (source.Awaits node (source.Turns xs g s body) ∷ k) (env_of p most h l) d)
            (machine_moves.state (machine.GiveAll (v ∷ vs)) (machine_moves.waits_for (machine.Turns (length l) (length xs) by to) (frame p most h last file))
            h.below_m d.code)
        another there =
            let l3 = three g s v l in
            let us = machine.adjusted (length xs) (v ∷ vs) in
            let file3 = turn_file file (length l) v us in
            let w2 = push v (pop w) in
            let w3 = push_all us l3 (put file.registers (suc (suc (length l))) (Val v)) w2 in
            let r = declare_all p i h.co (waits_here p most h) h.roots h.act captured file3.registers xs us (length_adjusted (length xs) (v ∷ vs)) l3 d w3 in
            let d3 : Dyn = changed d r.tag (cells_s d ++ us) (cells_m d) in
            let ends : (f : source.Focus) (m : ℕ) → m ≤ i → (l2 : List Slot) (d2 : Dyn) (file2 : File) → EndsAsk h l k node xs g s v body f d2 → End l2
            → Has p most h m l2 d2 file2 → SameIn p most h m f (source.Asks node xs g s v body ∷ k)
            (env_of p most h l) d2 turn file2 = λ f m lt2 l2 d2 file2 row end2 w4.
            closes_same p most h l3 End turn last m l2 _ d2 file2 (closes v) end2 w4
            (λ file4 w5. both_charge p m row (row_here p most h last to file4 d2 (insn.ForGLoop (length l) by (length xs)) loop)
            (λ fewer e. again fewer (omega (arith, lt, lt2, e)) v d2 file4
            (holds_later p fewer m h.co (waits_here p most h) h.roots h.act l3 d2 file4.registers (omega (arith, e)) w5))) in
            source_goes p
            (there.script vs node xs g s body (inside p most h) k (env_of p most h l) d.script
            ∙ ap (λ us. source_moves.now (source.ExecuteAll body) (inside p most h)
            (source.Restores (env_of p most h l) ∷ source.Asks node xs g s v body ∷ k) (source_moves.bound xs (length (cells_s d)) (env_of p most h l))
            (source_moves.with_cells (cells_s d ++ us) d.script)) (adjusted_is xs (v ∷ vs))
            ∙ ap (λ env. source_moves.now (source.ExecuteAll body) (inside p most h)
            (source.Restores (env_of p most h l) ∷ source.Asks node xs g s v body ∷ k) env d3.script)
            (binds_vars captured xs (length (cells_s d)) l3 h.act.outer))
            (target_goes p
            (turned_row h g s c v vs l last to (length xs) on by (machine.Turns (length l) (length xs) by to) d file j there w)
            (body_runs v (length (cells_s d)) i (omega (arith, le, lt))
            (source.Restores (env_of p most h l) ∷ source.Asks node xs g s v body ∷ k) d3 file3 r.holds
            (λ env. record {
              breaks = λ m lt3 d4 file4 w4. source_goes p refl (source_goes p refl (go m (omega (arith, lt, lt3)) d4 file4 (pop (pop (pop w4)))));
              continues = λ m lt3 d4 file4 w4. source_goes p refl (ends source.Continue m lt3 l3 d4 file4 refl (end v) w4);
            })
            (λ m lt3 l4 d4 file4 end4 w4. source_goes p refl (ends source.Done m lt3 l4 d4 file4 refl end4 w4))))

    -- the loop goes along for as many turns as are left
    asks_go : (calls : (i : ℕ) → i ≤ most → CallsGo p i) → suc (suc (suc (length l))) ≤ h.proto.registers → (turns left : ℕ) → left < turns → left ≤ most
        → (k : List source.Frame) → ((i : ℕ) → i ≤ left → (d2 : Dyn) (file2 : File) → Has p most h i l d2 file2
        → Same p most h i source.Done k l d2 to file2) → (c : Value) (d : Dyn) (file : File) → Has p most h left (three g s c l) d file
        → Asked h left l k node xs g s c body last d file
    asks_go calls room zero left lt le k go c d file w = absurd (omega (arith, lt))
    asks_go calls room (suc turns) left lt le k go c d file w =
        source_goes p refl
        (target_goes p (ask_row h g s c l last to (length xs) by d file loop w)
        (call_here p most calls ByScript g (s ∷ c ∷ []) h (three g s c l) left le node (source.Turns xs g s body) k
        (machine.Turns (length l) (length xs) by to) last file file d room w (steady_all (three g s c l) file.registers)
        (λ i lt2 vs d2 file2 w2 steady.
        turn_goes left i le lt2 k go
        (λ fewer lt3 v d3 file3 w3. asks_go calls room turns fewer (omega (arith, lt, lt3)) (omega (arith, le, lt3)) k
        (λ n lt4. go n (omega (arith, lt3, lt4))) v d3 file3 w3) vs c d2 file2 w2)))

module _ (p : Setting) (most : ℕ) (calls : (i : ℕ) → i ≤ most → CallsGo p i) where
  -- ---- the loop is begun

  module _ (node : Node) (xs : List StrId) (captured : ℕ → Bool) (body : List Stat) (by back : ℤ) (h : Here p most) (l : List Slot)
      (from next on turn last to : ℕ) (End : List Slot → Type 0) (prep : Reads p most h from (insn.ForGPrep (length l) by) next)
      (forward : Forward from by last)
      (body_runs : (g s v : Value) (c : ℕ) → BlockRuns p most body h (vars captured xs c (three g s v l))
      (looping (three g s v l) to (three g s v l) turn) on turn End) (end : (g s v : Value) → End (three g s v l))
      (closes : (g s v : Value) → Closes p most h (three g s v l) End turn last)
      (loop : Reads p most h last (insn.ForGLoop (length l) back (length xs)) to) (j : Backward last back on)
      (room : suc (suc (suc (length l))) ≤ h.proto.registers) where
    -- there is a generator: both charge the first asking
    generates : (g s c g' s' c' : Value) (q : machine.Purpose) (left : ℕ) → left ≤ most → (k : List source.Frame)
        → ((i : ℕ) → i ≤ left → (d2 : Dyn) (file2 : File) → Has p most h i l d2 file2 → Same p most h i source.Done k l d2 to file2)
        → (d : Dyn) (file : File) → Has p most h left (three g s c l) d file → (st : source.State) (m : machine.State)
        → source_steps.step p.texts st ≡ Charges (source_at p most h (source.Ask node xs g' s' c' body) k (env_of p most h l) d)
        → machine_steps.step p.chunk m ≡ effects.iterated (Generates g' s' c') (length l) by (machine_moves.waits_for q (frame p most h from file))
        h.below_m d.code → Alike p left st m
    generates g s c g' s' c' q left le k go d file w st m row code_row =
        let file2 = reset_file p most file (length l) g' s' c' in
        let w2 = reset p most h g s c g' s' c' l d file w in
        target_goes p
        (code_row
        ∙ ap (λ y. machine_moves.on (machine_moves.jump by from) y h.below_m) (generator_set p most h g s c g' s' c' l d q from file w)
        ∙ jump_is forward (machine_moves.waits_for q (frame p most h from file2)) h.below_m d.code)
        (both_charge p left row (row_here p most h last to file2 d (insn.ForGLoop (length l) back (length xs)) loop)
        (λ fewer e.
        asks_go p most node xs captured g' s' body back h l on turn last to End (body_runs g' s') (end g' s') (closes g' s') loop j calls room (suc fewer) fewer
        (omega arith) (omega (arith, le, e)) k (λ i lt. go i (omega (arith, lt, e))) c' d file2
        (holds_later p fewer left h.co (waits_here p most h) h.roots h.act (three g' s' c' l) d file2.registers (omega (arith, e)) w2)))

    -- what the three values say: a generator, a call that gives it, or a run error
    begins : (g s c : Value) (left : ℕ) → left ≤ most → (k : List source.Frame)
        → ((i : ℕ) → i ≤ left → (d2 : Dyn) (file2 : File) → Has p most h i l d2 file2 → Same p most h i source.Done k l d2 to file2)
        → (d : Dyn) (file : File) → Has p most h left (three g s c l) d file → (o : Iteration) → iteration (store_s d) g s c ≡ o → (st : source.State)
        → source_steps.step p.texts st ≡ statements.begin_asking (iteration (store_s d) g s c) node xs body (inside p most h) k (env_of p most h l) d.script
        → machine_steps.step p.chunk (machine_at p most h from file d)
        ≡ effects.iterated (iteration (store_s d) g s c) (length l) by (frame p most h from file) h.below_m d.code
        → Alike p left st (machine_at p most h from file d)
    begins g s c left le k go d file w (Generates g' s' c') is st row code_row =
        generates g s c g' s' c' machine.Idle left le k go d file w st _
        (row ∙ ap (λ o. statements.begin_asking o node xs body (inside p most h) k (env_of p most h l) d.script) is)
        (code_row ∙ ap (λ o. effects.iterated o (length l) by (frame p most h from file) h.below_m d.code) is)
    begins g s c left le k go d file w (CallsIter f vs) is st row code_row =
        source_goes p (row ∙ ap (λ o. statements.begin_asking o node xs body (inside p most h) k (env_of p most h l) d.script) is)
        (target_goes p (code_row ∙ ap (λ o. effects.iterated o (length l) by (frame p most h from file) h.below_m d.code) is)
        (call_here p most calls ByLibrary f vs h (three g s c l) left le node (source.Begins xs body) k (machine.Begins (length l) by) from file file d room w
        (steady_all (three g s c l) file.registers)
        (λ i lt us d2 file2 w2 steady.
        generates g s c (source_moves.first us) (source_moves.first (source_moves.rest us)) (source_moves.first (source_moves.rest (source_moves.rest us)))
        (machine.Begins (length l) by) i (omega (arith, le, lt)) k (λ n lt2. go n (omega (arith, lt, lt2))) d2 file2 w2 _ _ refl
        (same_generator us (machine_moves.waits_for (machine.Begins (length l) by) (frame p most h from file2)) d2))))
      where
        same_generator : (us : List Value) (f : machine.Frame) (d : Dyn)
            → effects.iterated (Generates (machine_moves.first us) (machine_moves.first (machine_moves.rest us))
            (machine_moves.first (machine_moves.rest (machine_moves.rest us)))) (length l) by f h.below_m d.code
            ≡ effects.iterated (Generates (source_moves.first us) (source_moves.first (source_moves.rest us))
            (source_moves.first (source_moves.rest (source_moves.rest us)))) (length l) by f h.below_m d.code
        same_generator [] f d = refl
        same_generator (u ∷ []) f d = refl
        same_generator (u ∷ v ∷ []) f d = refl
        same_generator (u ∷ v ∷ z ∷ us) f d = refl
    begins g s c left le k go d file w (NotIterable e) is st row code_row =
        source_goes p (row ∙ ap (λ o. statements.begin_asking o node xs body (inside p most h) k (env_of p most h l) d.script) is)
        (target_goes p (code_row ∙ ap (λ o. effects.iterated o (length l) by (frame p most h from file) h.below_m d.code) is)
        (fault_here p most calls e h l left le (source.Awaits node (source.Wants source.Nothing) ∷ k) machine.Idle from file d (pop (pop (pop w)))))

    prep_row : {i : ℕ} (g s c : Value) (d : Dyn) (file : File) → Has p most h i (three g s c l) d file
        → machine_steps.step p.chunk (machine_at p most h from file d)
        ≡ effects.iterated (iteration (store_s d) g s c) (length l) by (frame p most h from file) h.below_m d.code
    prep_row g s c d file w =
        let a = length l in
        let fr = frame p most h from file in
        row_here p most h from next file d (insn.ForGPrep a by) prep
        ∙ ap (λ x. effects.iterated (iteration (store_m d) (held (cells_m d) x) (held (cells_m d) (file.registers (a + 1)))
        (held (cells_m d) (file.registers (a + 2)))) a by fr h.below_m d.code) (temp_reg (drop_slot (drop_slot w.fits)))
        ∙ ap (λ k. effects.iterated (iteration (store_m d) g (held (cells_m d) (file.registers k))
        (held (cells_m d) (file.registers (a + 2)))) a by fr h.below_m d.code) (omega arith)
        ∙ ap (λ x. effects.iterated (iteration (store_m d) g (held (cells_m d) x) (held (cells_m d) (file.registers (a + 2)))) a by fr h.below_m d.code)
        (temp_reg (drop_slot w.fits))
        ∙ ap (λ k. effects.iterated (iteration (store_m d) g s (held (cells_m d) (file.registers k))) a by fr h.below_m d.code) (omega arith)
        ∙ ap (λ x. effects.iterated (iteration (store_m d) g s (held (cells_m d) x)) a by fr h.below_m d.code) (temp_reg w.fits)
        ∙ ap (λ st. effects.iterated (iteration st g s c) a by fr h.below_m d.code) (sym w.ok.base.store)

    -- from three values in registers on
    pub generic_goes : (vs : List Value) (left : ℕ) → left ≤ most → (k : List source.Frame)
        → ((i : ℕ) → i ≤ left → (d2 : Dyn) (file2 : File) → Has p most h i l d2 file2 → Same p most h i source.Done k l d2 to file2)
        → (d : Dyn) (file : File) → Has p most h left (temps (machine.adjusted 3 vs) l) d file
        → Same p most h left (source.GiveAll vs) (source.Generator node xs body ∷ k) l d from file
    generic_goes vs left le k go d file w =
        let g = source_moves.first vs in
        let s = source_moves.first (source_moves.rest vs) in
        let c = source_moves.first (source_moves.rest (source_moves.rest vs)) in
        let w2 = subst (λ us. Has p most h left (temps us l) d file) (three_are vs) w in
        begins g s c left le k go d file w2 (iteration (store_s d) g s c) refl _ refl (prep_row g s c d file w2)

  -- a generic `for`
  pub generic_for_same : (s : Stat) (xs : List StrId) (es : List Expr) (body : List Stat) (captured : ℕ → Bool) (by back : ℤ) (h : Here p most)
      (l : List Slot) (j0 : Jumps) (start from next on turn last to : ℕ) (End : List Slot → Type 0) → out-StatKind s.kind ≡ level.GenFor xs es body
      → ListRuns p most es h l start from 4 (machine.adjusted 3) → Reads p most h from (insn.ForGPrep (length l) by) next → Forward from by last
      → ((g s v : Value) (c : ℕ) → BlockRuns p most body h (vars captured xs c (three g s v l))
      (looping (three g s v l) to (three g s v l) turn) on turn End) → ((g s v : Value) → End (three g s v l))
      → ((g s v : Value) → Closes p most h (three g s v l) End turn last) → Reads p most h last (insn.ForGLoop (length l) back (length xs)) to
      → Backward last back on → suc (suc (suc (length l))) ≤ h.proto.registers → StatRuns p most s h l j0 start to (λ c. l)
  generic_for_same s xs es body captured by back h l j0 start from next on turn last to End kind runs prep forward body_runs end closes loop j room
      left le k d file w ways go =
      source_goes p (stat_row p most s _ h l k d kind)
      (runs left le [] (source.Generator (of_stat s) xs body ∷ k) d file _ refl w
      (λ i lt vs d2 file2 w2 c steady.
      generic_goes (of_stat s) xs captured body by back h l from next on turn last to End prep forward body_runs end closes loop j room vs i
      (omega (arith, le, lt)) k (λ n lt2. go n (omega (arith, lt, lt2)) 0) d2 file2 w2))
