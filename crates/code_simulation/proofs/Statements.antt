-- Declarations, assignments, calls, branches and returns.
use Rattle.std.proofs.Common.{Bool, true, false, ◌≡◌, ℕ, suc, ◌≤◌, ℤ, List, [], ◌∷◌, ◌++◌, length, Option, Some, None, refl, sym, ap, ◌∙◌, subst, arith}
use Rattle.byte_text.specs.declared.fixed.StrId.{StrId}
use Rattle.syntax_tree.specs.declared.tree.Arm.{Arm, out-Arm}
use Rattle.syntax_tree.specs.declared.tree.Expr.{Expr}
use Rattle.syntax_tree.specs.declared.tree.ExprKind.{out-ExprKind}
use Rattle.syntax_tree.specs.declared.tree.ExprKind.TheOpen as level
use Rattle.syntax_tree.specs.declared.tree.Stat.{Stat}
use Rattle.syntax_tree.specs.declared.tree.StatKind.{out-StatKind}
use Rattle.value_model.specs.Values.{Value, Nil, is_true}
use Rattle.source_meaning.specs.States.{of_stat}
use Rattle.source_meaning.specs.States as source
use Rattle.source_meaning.specs.Moves as source_moves
use Rattle.source_meaning.specs.Statements as statements
use Rattle.op_words.specs.declared.insn.Insn.TheVariants as insn
use Rattle.machine_meaning.specs.States as machine
use Rattle.machine_meaning.specs.Calls as machine_calls
use Rattle.code_simulation.specs.Slots.{Slot, Temp, vars}
use Rattle.code_simulation.specs.Relation.{Dyn, cells_s, changed, Setting}
use Rattle.code_simulation.proofs.Along.{Alike, CallsGo, File, Here, inside, frame, env_of, waits_here, Reads, machine_at, Has, Same}
use Rattle.code_simulation.proofs.Parts.{Forward, chosen, ExprRuns, CondRuns, ListRuns}
use Rattle.code_simulation.proofs.Names.{binds_vars}
use Rattle.code_simulation.proofs.World.{pop_all}
use Rattle.code_simulation.proofs.Changes.{declare_all}
use Rattle.code_simulation.proofs.Moving.{source_goes, target_goes}
use Rattle.code_simulation.proofs.Waiting.{return_here}
use Rattle.code_simulation.proofs.Registers.{listed, row_here}
use Rattle.code_simulation.proofs.Operations.{jump_is}
use Rattle.code_simulation.proofs.Lists.{length_adjusted}
use Rattle.code_simulation.proofs.Calls.{call_done}
use Rattle.code_simulation.proofs.Blocks.{Jumps, Ways, ways_later, ways_restored, StatRuns, BlockRuns, Closes, block_ends, stat_row}

-- both take as many values as there are names
pub adjusted_is : (xs : List StrId) (vs : List Value) → source_moves.adjusted xs vs ≡ machine.adjusted (length xs) vs
adjusted_is [] vs = refl
adjusted_is (x ∷ xs) [] = ap (λ us. Nil ∷ us) (adjusted_is xs [])
adjusted_is (x ∷ xs) (v ∷ vs) = ap (λ us. v ∷ us) (adjusted_is xs vs)

module _ (p : Setting) (most : ℕ) where
  -- `local`: the values become variables where they stand
  pub local_same : (s : Stat) (xs : List StrId) (es : List Expr) (captured : ℕ → Bool) (h : Here p most) (l : List Slot) (j : Jumps) (from to : ℕ)
      → out-StatKind s.kind ≡ level.Local xs es → ListRuns p most es h l from to (suc (length xs)) (machine.adjusted (length xs))
      → StatRuns p most s h l j from to (λ c. vars captured xs c l)
  local_same s xs es captured h l j from to kind runs left le k d file w ways go =
      source_goes p (stat_row p most s _ h l k d kind)
      (runs left le [] (source.Declares xs ∷ k) d file _ refl w
      (λ i lt vs d2 file2 w2 c steady.
      let r = declare_all p i h.co (waits_here p most h) h.roots h.act captured file2.registers xs (machine.adjusted (length xs) vs)
      (length_adjusted (length xs) vs) l d2 w2 in
      let d3 = changed d2 r.tag (cells_s d2 ++ machine.adjusted (length xs) vs) d2.code.objects.cells in
      source_goes p
      (ap (λ us. source_moves.now source.Done (inside p most h) k (source_moves.bound xs (length (cells_s d2)) (env_of p most h l))
      (source_moves.with_cells (cells_s d2 ++ us) d2.script)) (adjusted_is xs vs)
      ∙ ap (λ env. source_moves.now source.Done (inside p most h) k env d3.script) (binds_vars captured xs (length (cells_s d2)) l h.act.outer))
      (go i lt (length (cells_s d2)) d3 file2 r.holds)))

  -- ---- branches

  -- an `if` from its arms on
  abbrev pub ChooseRuns : List Arm → Option (List Stat) → Here p most → List Slot → Jumps → (from to : ℕ) → Type 0
  ChooseRuns arms other h l j from to =
      (left : ℕ) → left ≤ most → (k : List source.Frame) (d : Dyn) (file : File) → Has p most h left l d file
      → Ways p most h left j (env_of p most h l) k → ((i : ℕ) → i ≤ left → (d2 : Dyn) (file2 : File) → Has p most h i l d2 file2
      → Same p most h i source.Done k l d2 to file2) → Same p most h left (source.Choose arms other) k l d from file

  pub choose_none : (h : Here p most) (l : List Slot) (j : Jumps) (from : ℕ) → ChooseRuns [] None h l j from from
  choose_none h l j from left le k d file w ways go = source_goes p refl (go left (omega arith) d file w)

  pub choose_other : (body : List Stat) (h : Here p most) (l : List Slot) (j : Jumps) (from mid to : ℕ) (End : List Slot → Type 0)
      → BlockRuns p most body h l j from mid End → Closes p most h l End mid to → ChooseRuns [] (Some body) h l j from to
  choose_other body h l j from mid to End runs c left le k d file w ways go =
      source_goes p refl
      (runs left le (source.Restores (env_of p most h l) ∷ k) d file w (ways_restored p most h left j (env_of p most h l) k ways)
      (λ i lt l2 d2 file2 end w2. block_ends p most h l End mid to i k l2 d2 file2 c end w2 (λ file3 w3. go i lt d2 file3 w3)))

  chosen_arm : (body : List Stat) (arms : List Arm) (other : Option (List Stat)) (h : Here p most) (l : List Slot) (left : ℕ) (k : List source.Frame)
      (v : Value) (d : Dyn) (file : File) (on_true on_false : ℕ) (t : Bool) → is_true v ≡ t
      → (t ≡ true → Same p most h left (source.ExecuteAll body) (source.Restores (env_of p most h l) ∷ k) l d on_true file)
      → (t ≡ false → Same p most h left (source.Choose arms other) k l d on_false file)
      → Same p most h left (source.Give v) (source.Chooses body arms other ∷ k) l d (chosen t on_true on_false) file
  chosen_arm body arms other h l left k v d file on_true on_false true t on off =
      source_goes p (ap (λ x. statements.chosen x body arms other (inside p most h) k (env_of p most h l) d.script) t) (on refl)
  chosen_arm body arms other h l left k v d file on_true on_false false t on off =
      source_goes p (ap (λ x. statements.chosen x body arms other (inside p most h) k (env_of p most h l) d.script) t) (off refl)

  -- behind an arm's block the code jumps over what follows, or nothing follows
  pub data Skips (h : Here p most) (from to : ℕ) : Type 0 where
    skips : (by : ℤ) (next : ℕ) → Reads p most h from (insn.Jump by) next → Forward from by to → Skips h from to
    skips_nothing : from ≡ to → Skips h from to

  pub skips_same : (h : Here p most) (from to i : ℕ) (s : source.State) (d : Dyn) (file : File) → Skips h from to
      → Alike p i s (machine_at p most h to file d) → Alike p i s (machine_at p most h from file d)
  skips_same h from to i s d file (skips by next reads j) a =
      target_goes p (row_here p most h from next file d (insn.Jump by) reads ∙ jump_is j (frame p most h from file) h.below_m d.code) a
  skips_same h from to i s d file (skips_nothing e) a = subst (λ n. Alike p i s (machine_at p most h n file d)) (sym e) a

  pub choose_arm : (arm : Arm) (arms : List Arm) (other : Option (List Stat)) (h : Here p most) (l : List Slot) (j : Jumps)
      (from on_true mid last on_false to : ℕ) (End : List Slot → Type 0) → CondRuns p most (out-Arm arm).cond h l from on_true on_false
      → BlockRuns p most (out-Arm arm).body h l j on_true mid End → Closes p most h l End mid last → Skips h last to
      → ChooseRuns arms other h l j on_false to → ChooseRuns (arm ∷ arms) other h l j from to
  choose_arm arm arms other h l j from on_true mid last on_false to End cond_runs body_runs c skip rest_runs left le k d file w ways go =
      source_goes p refl
      (cond_runs left le (source.Chooses (out-Arm arm).body arms other ∷ k) d file w
      (λ i lt v d2 file2 w2 steady t is.
      chosen_arm (out-Arm arm).body arms other h l i k v d2 file2 on_true on_false t is
      (λ on. body_runs i (omega (arith, le, lt)) (source.Restores (env_of p most h l) ∷ k) d2 file2 w2
      (ways_restored p most h i j (env_of p most h l) k (ways_later p most h left i j (env_of p most h l) k lt ways))
      (λ n lt2 l3 d3 file3 end w3.
      block_ends p most h l End mid last n k l3 d3 file3 c end w3
      (λ file4 w4. skips_same h last to n _ d3 file4 skip (go n (omega (arith, lt, lt2)) d3 file4 w4))))
      (λ off. rest_runs i (omega (arith, le, lt)) k d2 file2 w2 (ways_later p most h left i j (env_of p most h l) k lt ways)
      (λ n lt2. go n (omega (arith, lt, lt2))))))

  pub if_stat_same : (s : Stat) (arms : List Arm) (other : Option (List Stat)) (h : Here p most) (l : List Slot) (j : Jumps) (from to : ℕ)
      → out-StatKind s.kind ≡ level.StatKind::If arms other → ChooseRuns arms other h l j from to → StatRuns p most s h l j from to (λ c. l)
  if_stat_same s arms other h l j from to kind runs left le k d file w ways go =
      source_goes p (stat_row p most s _ h l k d kind) (runs left le k d file w ways (λ i lt. go i lt 0))

module _ (p : Setting) (most : ℕ) (calls : (i : ℕ) → i ≤ most → CallsGo p i) where
  -- a call as a statement
  pub call_stat_same : (s : Stat) (e f : Expr) (args : List Expr) (arguments : ℕ) (h : Here p most) (l : List Slot) (j : Jumps) (from mid last to : ℕ)
      → out-StatKind s.kind ≡ level.StatKind::Call e → out-ExprKind e.kind ≡ level.ExprKind::Call f args → ExprRuns p most f h l from mid
      → ((v : Value) → ListRuns p most args h (Temp v ∷ l) mid last arguments (λ vs. vs)) → Reads p most h last (insn.Call (length l) arguments 1) to
      → length l ≤ h.proto.registers → StatRuns p most s h l j from to (λ c. l)
  call_stat_same s e f args arguments h l j from mid last to kind call_kind f_runs args_run reads room left le k d file w ways go =
      call_done p most calls (source.of_expr e) e f args arguments h l from mid last to call_kind f_runs args_run reads room left le k d file w
      (λ i lt d2 file2 w2. go i lt 0 d2 file2 w2) _ (stat_row p most s _ h l k d kind)

  -- `return`: the function is left with the values of the list
  pub return_same : (s : Stat) (es : List Expr) (count : ℕ) (h : Here p most) (l : List Slot) (j : Jumps) (from last to : ℕ) (after : ℕ → List Slot)
      → out-StatKind s.kind ≡ level.Return es → ListRuns p most es h l from last count (λ vs. vs)
      → Reads p most h last (insn.Return (length l) count) to → StatRuns p most s h l j from to after
  return_same s es count h l j from last to after kind runs reads left le k d file w ways go =
      source_goes p (stat_row p most s _ h l k d kind)
      (runs left le [] (source.Returns ∷ k) d file _ refl w
      (λ i lt vs d2 file2 w2 c steady.
      return_here p most calls vs h l i (omega (arith, le, lt)) file2 d2 (pop_all vs l w2) _ _ refl
      (row_here p most h last to file2 d2 (insn.Return (length l) count) reads
      ∙ ap (λ us. machine_calls.hand_back us h.below_m d2.code) (listed (frame p most h last file2) d2.code count vs l w2.fits c))))

  -- the end of a function's body gives no values
  pub falls_off : (h : Here p most) (l : List Slot) (place next left : ℕ) (d : Dyn) (file : File) → Reads p most h place (insn.Return 0 1) next
      → left ≤ most → Has p most h left l d file → Same p most h left source.Done [] l d place file
  falls_off h l place next left d file reads le w =
      return_here p most calls [] h l left le file d w _ _ refl (row_here p most h place next file d (insn.Return 0 1) reads)
