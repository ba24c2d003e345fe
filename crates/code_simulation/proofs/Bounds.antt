-- The bounds of a numeric `for`: the start is evaluated where the index stands, the limit and the step above it, and these are moved down.
use Rattle.std.proofs.Common.{◌≡◌, ℕ, suc, ◌≤◌, pos, List, [], ◌∷◌, length, Option, Some, None, refl, ◌∙◌, arith}
use Rattle.byte_text.specs.declared.fixed.StrId.{StrId}
use Rattle.syntax_tree.specs.declared.tree.Expr.{Expr}
use Rattle.syntax_tree.specs.declared.tree.Stat.{Stat}
use Rattle.syntax_tree.specs.declared.tree.StatKind.{out-StatKind}
use Rattle.syntax_tree.specs.declared.tree.ExprKind.TheOpen as level
use Rattle.value_model.specs.Values.{Value, Number}
use Rattle.value_model.specs.Loops.{bounds}
use Rattle.source_meaning.specs.States.{Node, of_stat}
use Rattle.source_meaning.specs.States as source
use Rattle.source_meaning.specs.Statements as statements
use Rattle.source_meaning.specs.Steps as source_steps
use Rattle.op_words.specs.declared.insn.Insn.TheVariants as insn
use Rattle.machine_meaning.specs.States.{Val}
use Rattle.machine_meaning.specs.States as machine
use Rattle.code_simulation.specs.Slots.{Slot, Temp}
use Rattle.code_simulation.specs.Relation.{Dyn, Setting}
use Rattle.code_simulation.proofs.Along.{Alike, File, Here, inside, env_of, Reads, machine_at, Has, Same}
use Rattle.code_simulation.proofs.Parts.{ExprRuns}
use Rattle.code_simulation.proofs.World.{claim, pop, top_is, temp_reg, drop_slot}
use Rattle.code_simulation.proofs.Moving.{source_goes, target_goes}
use Rattle.code_simulation.proofs.Registers.{with_register, give_is}
use Rattle.code_simulation.proofs.Values.{Loads, loads_row}
use Rattle.code_simulation.proofs.Indexing.{set_temp, move_down}
use Rattle.code_simulation.proofs.Blocks.{Jumps, StatRuns, stat_row}
use Rattle.code_simulation.proofs.Numeric.{three}

module _ (p : Setting) (most : ℕ) where
  -- what remains of the loop, where the three values stand in their registers
  abbrev pub LoopRuns : Node → StrId → List Stat → Here p most → List Slot → (from to : ℕ) → Type 0
  LoopRuns node x body h l from to =
      (left : ℕ) → left ≤ most → (k : List source.Frame)
      → ((i : ℕ) → i ≤ left → (d2 : Dyn) (file2 : File) → Has p most h i l d2 file2 → Same p most h i source.Done k l d2 to file2)
      → (limit step index : Value) (d : Dyn) (file : File) → Has p most h left (three limit step index l) d file → (s : source.State)
      → source_steps.step p.texts s ≡ statements.bounded (bounds index limit step) node x body (inside p most h) k (env_of p most h l) d.script
      → Alike p left s (machine_at p most h from file d)

  -- the start and the limit
  start_and_limit : (s : Stat) (x : StrId) (start limit : Expr) (step : Option Expr) (body : List Stat) (h : Here p most) (l : List Slot)
      (from m1 m2 m3 : ℕ) → out-StatKind s.kind ≡ level.NumFor x start limit step body
      → ((a b : Value) → ExprRuns p most start h (Temp b ∷ Temp a ∷ l) from m1)
      → ((a b v : Value) → ExprRuns p most limit h (three a b v l) m1 m2)
      → Reads p most h m2 (insn.Move (length l) (suc (suc (suc (length l))))) m3
      → (left : ℕ) → left ≤ most → (k : List source.Frame) (d : Dyn) (file : File) → Has p most h left l d file
      → ((i : ℕ) → i ≤ left → (v1 v2 old : Value) (d2 : Dyn) (file2 : File) → Has p most h i (three v2 old v1 l) d2 file2
      → Same p most h i (source.Give v2) (source.Limit (of_stat s) x v1 step body ∷ k) l d2 m3 file2)
      → Same p most h left (source.Execute s) k l d from file
  start_and_limit s x start limit step body h l from m1 m2 m3 kind start_runs limit_runs move left le k d file w go =
      let c0 = w.clear (length l) (omega arith) in
      let w0 = claim c0.0 c0.1 w in
      let c1 = w0.clear (suc (length l)) (omega arith) in
      let w1 = claim c1.0 c1.1 w0 in
      source_goes p (stat_row p most s _ h l k d kind)
      (start_runs c0.0 c1.0 left le (source.Start (of_stat s) x limit step body ∷ k) d file w1
      (λ i lt v1 d2 file2 w2 steady. source_goes p refl
      (limit_runs c0.0 c1.0 v1 i (omega (arith, le, lt)) (source.Limit (of_stat s) x v1 step body ∷ k) d2 file2 w2
      (λ j lt2 v2 d3 file3 w3 steady2.
      move_down p most (c1.0 ∷ v1 ∷ v2 ∷ []) h l c0.0 v2 m2 m3 j (suc (suc (suc (length l)))) _ d3 file3 move (top_is w3) w3
      (λ w4. go j (omega (arith, lt, lt2)) v1 v2 c1.0 d3 (with_register p most file3 (length l) v2) (pop w4))))))

  -- a loop whose step is written
  pub for_by_same : (s : Stat) (x : StrId) (start limit step : Expr) (body : List Stat) (h : Here p most) (l : List Slot) (j0 : Jumps)
      (from m1 m2 m3 m4 m5 to : ℕ) → out-StatKind s.kind ≡ level.NumFor x start limit (Some step) body
      → ((a b : Value) → ExprRuns p most start h (Temp b ∷ Temp a ∷ l) from m1)
      → ((a b v : Value) → ExprRuns p most limit h (three a b v l) m1 m2)
      → Reads p most h m2 (insn.Move (length l) (suc (suc (suc (length l))))) m3
      → ((a b v : Value) → ExprRuns p most step h (three a b v l) m3 m4)
      → Reads p most h m4 (insn.Move (suc (length l)) (suc (suc (suc (length l))))) m5
      → LoopRuns (of_stat s) x body h l m5 to → StatRuns p most s h l j0 from to (λ c. l)
  for_by_same s x start limit step body h l j0 from m1 m2 m3 m4 m5 to kind start_runs limit_runs move step_runs move2 loop left le k d file w ways go =
      start_and_limit s x start limit (Some step) body h l from m1 m2 m3 kind start_runs limit_runs move left le k d file w
      (λ i lt v1 v2 old d2 file2 w2. source_goes p refl
      (step_runs v2 old v1 i (omega (arith, le, lt)) (source.Stride (of_stat s) x v1 v2 body ∷ k) d2 file2 w2
      (λ j lt2 v3 d3 file3 w3 steady.
      move_down p most (v1 ∷ v3 ∷ []) h (Temp v2 ∷ l) old v3 m4 m5 j (suc (suc (suc (length l)))) _ d3 file3 move2 (top_is w3) w3
      (λ w4. loop j (omega (arith, le, lt, lt2)) k (λ n lt3. go n (omega (arith, lt, lt2, lt3)) 0) v2 v3 v1 d3
      (with_register p most file3 (suc (length l)) v3) (pop w4) _ refl))))

  -- one whose step is 1
  pub for_same : (s : Stat) (x : StrId) (start limit : Expr) (body : List Stat) (h : Here p most) (l : List Slot) (j0 : Jumps)
      (from m1 m2 m3 m4 to : ℕ) → out-StatKind s.kind ≡ level.NumFor x start limit None body
      → ((a b : Value) → ExprRuns p most start h (Temp b ∷ Temp a ∷ l) from m1)
      → ((a b v : Value) → ExprRuns p most limit h (three a b v l) m1 m2)
      → Reads p most h m2 (insn.Move (length l) (suc (suc (suc (length l))))) m3
      → Loads p most h m3 (suc (length l)) (Number (pos 1)) m4
      → LoopRuns (of_stat s) x body h l m4 to → StatRuns p most s h l j0 from to (λ c. l)
  for_same s x start limit body h l j0 from m1 m2 m3 m4 to kind start_runs limit_runs move loads loop left le k d file w ways go =
      start_and_limit s x start limit None body h l from m1 m2 m3 kind start_runs limit_runs move left le k d file w
      (λ i lt v1 v2 old d2 file2 w2. source_goes p refl
      (target_goes p
      (loads_row p most h m3 (suc (length l)) m4 (Number (pos 1)) file2 d2 loads
      ∙ give_is p most h machine.Idle (suc (length l)) m4 m3 (Number (pos 1)) old file2 d2.code (temp_reg (drop_slot w2.fits)))
      (loop i (omega (arith, le, lt)) k (λ n lt2. go n (omega (arith, lt, lt2)) 0) v2 (Number (pos 1)) v1 d2
      (with_register p most file2 (suc (length l)) (Number (pos 1)))
      (set_temp (v1 ∷ []) (Temp v2 ∷ l) old (Number (pos 1)) w2) _ refl)))
