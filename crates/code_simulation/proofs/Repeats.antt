-- `repeat`: its condition sees the variables of its body, also where `continue` has left it early.
use Rattle.std.proofs.Common.{Bool, true, false, ◌≡◌, ℕ, zero, suc, ◌-◌, ◌<◌, ◌≤◌, ℤ, List, [], ◌∷◌, ◌++◌, length, refl, ap, subst, arith}
use Rattle.syntax_tree.specs.declared.tree.Expr.{Expr}
use Rattle.syntax_tree.specs.declared.tree.Stat.{Stat}
use Rattle.syntax_tree.specs.declared.tree.StatKind.{out-StatKind}
use Rattle.syntax_tree.specs.declared.tree.ExprKind.TheOpen as level
use Rattle.value_model.specs.Values.{Value, is_true}
use Rattle.bounded_runs.specs.Runs.{Charges}
use Rattle.source_meaning.specs.States as source
use Rattle.source_meaning.specs.Statements as statements
use Rattle.source_meaning.specs.Steps as source_steps
use Rattle.op_words.specs.declared.insn.Insn.TheVariants as insn
use Rattle.code_simulation.specs.Slots.{Slot, Temp, temps}
use Rattle.code_simulation.specs.Relation.{Dyn, Setting}
use Rattle.code_simulation.proofs.Along.{File, Here, inside, env_of, waits_here, Reads, source_at, Has, Same, SameIn}
use Rattle.code_simulation.proofs.Parts.{chosen, CondRuns}
use Rattle.code_simulation.proofs.Names.{binds_temps}
use Rattle.code_simulation.proofs.World.{claim, holds_later}
use Rattle.code_simulation.proofs.Moving.{source_goes}
use Rattle.code_simulation.proofs.Statements.{Skips, skips_same}
use Rattle.code_simulation.proofs.Blocks.{Jumps, breaking, looping, Backward, JumpsTo, StatRuns, Closes, closes_same, stat_row, ways_rest}
use Rattle.code_simulation.proofs.Loops.{turn_back}

module _ (p : Setting) (most : ℕ) where
  -- registers that nothing uses count as in use
  pub pad : (n left : ℕ) (h : Here p most) (l : List Slot) (d : Dyn) (file : File) (P : Type 0) → Has p most h left l d file
      → ((vs : List Value) → length vs ≡ n → Has p most h left (temps vs l) d file → P) → P
  pad zero left h l d file P w go = go [] refl w
  pad (suc n) left h l d file P w go =
      let c = w.clear (length l) (omega arith) in
      pad n left h (Temp c.0 ∷ l) d file P (claim c.0 c.1 w) (λ vs e w2. go (c.0 ∷ vs) (ap suc e) w2)

  -- the body of a `repeat` from some slots on: `continue` keeps those that are there
  abbrev pub UntilRuns : List Stat → Here p most → (l0 l : List Slot) → (brk turn from to : ℕ) → (End Early : List Slot → Type 0) → Type 0
  UntilRuns ss h l0 l brk turn from to End Early =
      (left : ℕ) → left ≤ most → (k : List source.Frame) (d : Dyn) (file : File) → Has p most h left l d file
      → ((env : source.Environment) → JumpsTo p most h left source.Break env l0 brk k)
      → ((lc : List Slot) → Early lc → JumpsTo p most h left source.Continue (env_of p most h lc) lc turn k)
      → ((i : ℕ) → i ≤ left → (l2 : List Slot) (d2 : Dyn) (file2 : File) → End l2 → Has p most h i l2 d2 file2
      → Same p most h i source.Done k l2 d2 to file2) → Same p most h left (source.ExecuteAll ss) k l d from file

  pub until_none : (h : Here p most) (l0 l : List Slot) (brk turn from : ℕ) (End Early : List Slot → Type 0) → End l
      → UntilRuns [] h l0 l brk turn from from End Early
  until_none h l0 l brk turn from End Early end left le k d file w breaks continues go = source_goes p refl (go left (omega arith) l d file end w)

  -- a statement that may end the turn
  pub until_early : (s : Stat) (ss : List Stat) (h : Here p most) (l0 l : List Slot) (brk turn from mid to : ℕ) (after : ℕ → List Slot)
      (End Early : List Slot → Type 0) → StatRuns p most s h l (looping l0 brk l turn) from mid after → Early l
      → ((c : ℕ) → UntilRuns ss h l0 (after c) brk turn mid to End Early) → UntilRuns (s ∷ ss) h l0 l brk turn from to End Early
  until_early s ss h l0 l brk turn from mid to after End Early stat_runs early rest_runs left le k d file w breaks continues go =
      source_goes p refl
      (stat_runs left le (source.Continues ss ∷ k) d file w (ways_rest p most h left (looping l0 brk l turn) (env_of p most h l) ss k
      (record { breaks = breaks (env_of p most h l); continues = continues l early }))
      (λ i lt c d2 file2 w2. source_goes p refl
      (rest_runs c i (omega (arith, le, lt)) k d2 file2 w2 (λ env n lt2. breaks env n (omega (arith, lt, lt2)))
      (λ lc e n lt2. continues lc e n (omega (arith, lt, lt2)))
      (λ n lt2 l3 d3 file3 end w3. go n (omega (arith, lt, lt2)) l3 d3 file3 end w3))))

  -- one that does not
  pub until_more : (s : Stat) (ss : List Stat) (h : Here p most) (l0 l : List Slot) (brk turn from mid to : ℕ) (after : ℕ → List Slot)
      (End Early : List Slot → Type 0) → StatRuns p most s h l (breaking l0 brk) from mid after
      → ((c : ℕ) → UntilRuns ss h l0 (after c) brk turn mid to End Early) → UntilRuns (s ∷ ss) h l0 l brk turn from to End Early
  until_more s ss h l0 l brk turn from mid to after End Early stat_runs rest_runs left le k d file w breaks continues go =
      source_goes p refl
      (stat_runs left le (source.Continues ss ∷ k) d file w (ways_rest p most h left (breaking l0 brk) (env_of p most h l) ss k
      (record { breaks = breaks (env_of p most h l); continues = tt }))
      (λ i lt c d2 file2 w2. source_goes p refl
      (rest_runs c i (omega (arith, le, lt)) k d2 file2 w2 (λ env n lt2. breaks env n (omega (arith, lt, lt2)))
      (λ lc e n lt2. continues lc e n (omega (arith, lt, lt2)))
      (λ n lt2 l3 d3 file3 end w3. go n (omega (arith, lt, lt2)) l3 d3 file3 end w3))))

  -- what follows the condition's value
  tried : (body : List Stat) (cond : Expr) (h : Here p most) (l0 lx : List Slot) (left : ℕ) (k : List source.Frame) (v : Value) (d : Dyn)
      (file : File) (on_true on_false : ℕ) (t : Bool) → is_true v ≡ t → (t ≡ true → Same p most h left source.Done k l0 d on_true file)
      → (t ≡ false → source_steps.step p.texts (source_at p most h (source.Give v) (source.Until body cond (env_of p most h l0) ∷ k)
      (env_of p most h lx) d) ≡ Charges (source_at p most h (source.ExecuteAll body) (source.Tries body cond (env_of p most h l0) ∷ k)
      (env_of p most h l0) d) → SameIn p most h left (source.Give v) (source.Until body cond (env_of p most h l0) ∷ k)
      (env_of p most h lx) d on_false file) → SameIn p most h left (source.Give v) (source.Until body cond (env_of p most h l0) ∷ k)
      (env_of p most h lx) d (chosen t on_true on_false) file
  tried body cond h l0 lx left k v d file on_true on_false true t on again =
      source_goes p (ap (λ x. statements.tried x body cond (env_of p most h l0) (inside p most h) k (env_of p most h lx) d.script) t) (on refl)
  tried body cond h l0 lx left k v d file on_true on_false false t on again =
      again refl (ap (λ x. statements.tried x body cond (env_of p most h l0) (inside p most h) k (env_of p most h lx) d.script) t)

  -- the turns of a `repeat`. The condition's code is for so many registers: those that an early turn's end lacks count as in use
  repeat_goes : (body : List Stat) (cond : Expr) (by : ℤ) (h : Here p most) (l0 : List Slot)
      (from turn on_true out on_false last next brk registers : ℕ) (End Early AtCond : List Slot → Type 0)
      → UntilRuns body h l0 l0 brk turn from turn End Early → ((lx : List Slot) → AtCond lx → CondRuns p most cond h lx turn on_true on_false)
      → ((l2 : List Slot) → End l2 → AtCond l2) → ((lc : List Slot) → Early lc → (vs : List Value) → length vs ≡ registers - length lc
      → AtCond (temps vs lc)) → Closes p most h l0 AtCond on_true out → Skips p most h out brk → Closes p most h l0 AtCond on_false last
      → Reads p most h last (insn.JumpBack by) next → Backward last by from → (turns left : ℕ) → left < turns → left ≤ most
      → (k : List source.Frame) (d : Dyn) (file : File) → Has p most h left l0 d file
      → ((i : ℕ) → i ≤ left → (d2 : Dyn) (file2 : File) → Has p most h i l0 d2 file2 → Same p most h i source.Done k l0 d2 brk file2)
      → Same p most h left (source.ExecuteAll body) (source.Tries body cond (env_of p most h l0) ∷ k) l0 d from file
  repeat_goes body cond by h l0 from turn on_true out on_false last next brk registers End Early AtCond body_runs cond_runs ends early closes1 skip
      closes2 reads j zero left lt le k d file w go = absurd (omega (arith, lt))
  repeat_goes body cond by h l0 from turn on_true out on_false last next brk registers End Early AtCond body_runs cond_runs ends early closes1 skip
      closes2 reads j (suc turns) left lt le k d file w go =
      let before = env_of p most h l0 in
      let finish : (i : ℕ) → i ≤ left → (lx : List Slot) (d2 : Dyn) (file2 : File) → AtCond lx → Has p most h i lx d2 file2
      → SameIn p most h i (source.Evaluate cond) (source.Until body cond before ∷ k)
      (env_of p most h lx) d2 turn file2 = λ i lt2 lx d2 file2 good w2.
      cond_runs lx good i (omega (arith, le, lt2)) (source.Until body cond before ∷ k) d2 file2 w2
      (λ n lt3 v d3 file3 w3 steady t is.
      tried body cond h l0 lx n k v d3 file3 on_true on_false t is
      (λ on. closes_same p most h l0 AtCond on_true out n lx _ d3 file3 closes1 good w3
      (λ file4 w4. skips_same p most h out brk n _ d3 file4 skip (go n (omega (arith, lt2, lt3)) d3 file4 w4)))
      (λ off row. closes_same p most h l0 AtCond on_false last n lx _ d3 file3 closes2 good w3
      (λ file4 w4. turn_back p most h last next from n by _ _ d3 file4 reads j row
      (λ fewer e. repeat_goes body cond by h l0 from turn on_true out on_false last next brk registers End Early AtCond body_runs cond_runs ends early
      closes1 skip closes2 reads j turns fewer (omega (arith, lt, lt2, lt3, e)) (omega (arith, le, lt2, lt3, e)) k d3 file4
      (holds_later p fewer n h.co (waits_here p most h) h.roots h.act l0 d3 file4.registers (omega (arith, e)) w4)
      (λ q lt4. go q (omega (arith, lt2, lt3, e, lt4))))))) in
      body_runs left le (source.Tries body cond before ∷ k) d file w
      (λ env n lt3 d3 file3 w3. source_goes p refl (go n lt3 d3 file3 w3))
      (λ lc e n lt3 d3 file3 w3. source_goes p refl
      (pad (registers - length lc) n h lc d3 file3 (SameIn p most h n (source.Evaluate cond) (source.Until body cond before ∷ k)
      (env_of p most h lc) d3 turn file3) w3
      (λ vs len w4.
      subst (λ env. SameIn p most h n (source.Evaluate cond) (source.Until body cond before ∷ k) (env ++ h.act.outer) d3 turn file3) (binds_temps vs lc)
      (finish n lt3 (temps vs lc) d3 file3 (early lc e vs len) w4))))
      (λ n lt3 l2 d3 file3 end w3. source_goes p refl (finish n lt3 l2 d3 file3 (ends l2 end) w3))

  pub repeat_same : (s : Stat) (body : List Stat) (cond : Expr) (by : ℤ) (h : Here p most) (l0 : List Slot) (j0 : Jumps)
      (from turn on_true out on_false last next to registers : ℕ) (End Early AtCond : List Slot → Type 0)
      → out-StatKind s.kind ≡ level.Repeat body cond → UntilRuns body h l0 l0 to turn from turn End Early
      → ((lx : List Slot) → AtCond lx → CondRuns p most cond h lx turn on_true on_false) → ((l2 : List Slot) → End l2 → AtCond l2)
      → ((lc : List Slot) → Early lc → (vs : List Value) → length vs ≡ registers - length lc → AtCond (temps vs lc))
      → Closes p most h l0 AtCond on_true out → Skips p most h out to → Closes p most h l0 AtCond on_false last
      → Reads p most h last (insn.JumpBack by) next → Backward last by from → StatRuns p most s h l0 j0 from to (λ c. l0)
  repeat_same s body cond by h l0 j0 from turn on_true out on_false last next to registers End Early AtCond kind body_runs cond_runs ends early
      closes1 skip closes2 reads j left le k d file w ways go =
      source_goes p (stat_row p most s _ h l0 k d kind)
      (repeat_goes body cond by h l0 from turn on_true out on_false last next to registers End Early AtCond body_runs cond_runs ends early closes1
      skip closes2 reads j (suc left) left (omega arith) le k d file w (λ i lt. go i lt 0))
