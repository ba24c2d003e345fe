-- Loops: by the turns that are left.
use Rattle.std.proofs.Common.{Bool, true, false, ◌≡◌, ℕ, zero, suc, ◌<◌, ◌≤◌, ℤ, List, ◌∷◌, refl, ap, ◌∙◌, arith}
use Rattle.syntax_tree.specs.declared.tree.Expr.{Expr}
use Rattle.syntax_tree.specs.declared.tree.Stat.{Stat}
use Rattle.syntax_tree.specs.declared.tree.StatKind.{out-StatKind}
use Rattle.syntax_tree.specs.declared.tree.ExprKind.TheOpen as level
use Rattle.value_model.specs.Values.{Value, is_true}
use Rattle.bounded_runs.specs.Runs.{Charges}
use Rattle.source_meaning.specs.States as source
use Rattle.source_meaning.specs.Statements as statements
use Rattle.source_meaning.specs.Steps as source_steps
use Rattle.op_words.specs.declared.insn.Insn.TheVariants as insn
use Rattle.machine_meaning.specs.Moves as machine_moves
use Rattle.code_simulation.specs.Slots.{Slot}
use Rattle.code_simulation.specs.Relation.{Dyn, Setting}
use Rattle.code_simulation.proofs.Along.{Alike, File, Here, inside, frame, env_of, waits_here, Reads, source_at, machine_at, Has, Same, SameIn}
use Rattle.code_simulation.proofs.Parts.{chosen, CondRuns}
use Rattle.code_simulation.proofs.World.{holds_later}
use Rattle.code_simulation.proofs.Moving.{source_goes, both_charge}
use Rattle.code_simulation.proofs.Registers.{row_here}
use Rattle.code_simulation.proofs.Blocks.{Jumps, looping, Backward, StatRuns, BlockRuns, Closes, closes_same, stat_row}

module _ (p : Setting) (most : ℕ) where
  -- the jump that charges a turn, beside a charge of the script
  pub turn_back : (h : Here p most) (place next to left : ℕ) (by : ℤ) (s s' : source.State) (d : Dyn) (file : File)
      → Reads p most h place (insn.JumpBack by) next → Backward place by to → source_steps.step p.texts s ≡ Charges s'
      → ((fewer : ℕ) → left ≡ suc fewer → Alike p fewer s' (machine_at p most h to file d)) → Alike p left s (machine_at p most h place file d)
  turn_back h place next to left by s s' d file reads j row go =
      both_charge p left row
      (row_here p most h place next file d (insn.JumpBack by) reads ∙ ap (λ z. machine_moves.jump_back z (frame p most h place file) h.below_m d.code) j)
      go

  -- ---- while

  looped_same : (cond : Expr) (body : List Stat) (h : Here p most) (l : List Slot) (left : ℕ) (k : List source.Frame) (v : Value) (d : Dyn)
      (file : File) (on_true on_false : ℕ) (t : Bool) → is_true v ≡ t
      → (t ≡ true → Same p most h left (source.ExecuteAll body) (source.Restores (env_of p most h l) ∷ source.Repeats cond body ∷ k) l d on_true file)
      → (t ≡ false → Same p most h left source.Done k l d on_false file)
      → Same p most h left (source.Give v) (source.Loops cond body ∷ k) l d (chosen t on_true on_false) file
  looped_same cond body h l left k v d file on_true on_false true t on off =
      source_goes p (ap (λ x. statements.looped x cond body (inside p most h) k (env_of p most h l) d.script) t) (on refl)
  looped_same cond body h l left k v d file on_true on_false false t on off =
      source_goes p (ap (λ x. statements.looped x cond body (inside p most h) k (env_of p most h l) d.script) t) (off refl)

  -- the script charges a turn, and evaluates the condition again
  abbrev EndsTurn : Here p most → List Slot → List source.Frame → Expr → List Stat → source.Focus → Dyn → Type 0
  EndsTurn h l k cond body x d =
      source_steps.step p.texts (source_at p most h x (source.Repeats cond body ∷ k) (env_of p most h l) d) ≡ Charges
      (source_at p most h (source.Evaluate cond) (source.Loops cond body ∷ k) (env_of p most h l) d)

  -- a loop goes along for as many turns as are left
  while_goes : (cond : Expr) (body : List Stat) (by : ℤ) (h : Here p most) (l : List Slot) (from on_true turn last next to : ℕ)
      (End : List Slot → Type 0) → CondRuns p most cond h l from on_true to → BlockRuns p most body h l (looping l to l turn) on_true turn End → End l
      → Closes p most h l End turn last → Reads p most h last (insn.JumpBack by) next → Backward last by from → (turns left : ℕ) → left < turns
      → left ≤ most → (k : List source.Frame) (d : Dyn) (file : File) → Has p most h left l d file
      → ((i : ℕ) → i ≤ left → (d2 : Dyn) (file2 : File) → Has p most h i l d2 file2 → Same p most h i source.Done k l d2 to file2)
      → Same p most h left (source.Evaluate cond) (source.Loops cond body ∷ k) l d from file
  while_goes cond body by h l from on_true turn last next to End cond_runs body_runs end c reads j zero left lt le k d file w go = absurd (omega (arith, lt))
  while_goes cond body by h l from on_true turn last next to End cond_runs body_runs end c reads j (suc turns) left lt le k d file w go =
      let ends : (x : source.Focus) (i : ℕ) → i ≤ left → (l2 : List Slot) (d2 : Dyn) (file2 : File) → EndsTurn h l k cond body x d2 → End l2
      → Has p most h i l2 d2 file2 → SameIn p most h i x (source.Repeats cond body ∷ k)
      (env_of p most h l) d2 turn file2 = λ x i lt2 l2 d2 file2 row end2 w2.
      closes_same p most h l End turn last i l2 _ d2 file2 c end2 w2
      (λ file3 w3. turn_back h last next from i by _ _ d2 file3 reads j row
      (λ fewer e. while_goes cond body by h l from on_true turn last next to End cond_runs body_runs end c reads j turns fewer
      (omega (arith, lt, lt2, e)) (omega (arith, le, lt2, e)) k d2 file3
      (holds_later p fewer i h.co (waits_here p most h) h.roots h.act l d2 file3.registers (omega (arith, e)) w3)
      (λ n lt3. go n (omega (arith, lt2, e, lt3))))) in
      cond_runs left le (source.Loops cond body ∷ k) d file w
      (λ i lt2 v d2 file2 w2 steady t is.
      looped_same cond body h l i k v d2 file2 on_true to t is
      (λ on. body_runs i (omega (arith, le, lt2)) (source.Restores (env_of p most h l) ∷ source.Repeats cond body ∷ k) d2 file2 w2
      (λ env. record {
        breaks = λ n lt3 d3 file3 w3. source_goes p refl (source_goes p refl (go n (omega (arith, lt2, lt3)) d3 file3 w3));
        continues = λ n lt3 d3 file3 w3. source_goes p refl (ends source.Continue n (omega (arith, lt2, lt3)) l d3 file3 refl end w3);
      })
      (λ n lt3 l3 d3 file3 end3 w3. source_goes p refl (ends source.Done n (omega (arith, lt2, lt3)) l3 d3 file3 refl end3 w3)))
      (λ off. go i lt2 d2 file2 w2))

  pub while_same : (s : Stat) (cond : Expr) (body : List Stat) (by : ℤ) (h : Here p most) (l : List Slot) (j0 : Jumps)
      (from on_true turn last next to : ℕ) (End : List Slot → Type 0) → out-StatKind s.kind ≡ level.While cond body
      → CondRuns p most cond h l from on_true to → BlockRuns p most body h l (looping l to l turn) on_true turn End → End l
      → Closes p most h l End turn last → Reads p most h last (insn.JumpBack by) next → Backward last by from
      → StatRuns p most s h l j0 from to (λ c. l)
  while_same s cond body by h l j0 from on_true turn last next to End kind cond_runs body_runs end c reads j left le k d file w ways go =
      source_goes p (stat_row p most s _ h l k d kind)
      (while_goes cond body by h l from on_true turn last next to End cond_runs body_runs end c reads j (suc left) left (omega arith) le k d file w
      (λ i lt. go i lt 0))
