-- Calls: the callee, the arguments, and as many results as are wanted.
use Rattle.std.proofs.Common.{◌≡◌, ℕ, suc, ◌+◌, ◌≤◌, List, [], ◌∷◌, length, refl, ap, ◌∙◌, subst, arith}
use Rattle.syntax_tree.specs.declared.tree.Expr.{Expr}
use Rattle.syntax_tree.specs.declared.tree.ExprKind.{out-ExprKind}
use Rattle.syntax_tree.specs.declared.tree.ExprKind.TheOpen as level
use Rattle.value_model.specs.Values.{Value}
use Rattle.value_model.specs.Waits.{ByScript}
use Rattle.source_meaning.specs.Levels.{ExprLevel}
use Rattle.source_meaning.specs.States.{of_expr}
use Rattle.source_meaning.specs.States as source
use Rattle.source_meaning.specs.Moves as source_moves
use Rattle.source_meaning.specs.Expressions as expressions
use Rattle.source_meaning.specs.Steps as source_steps
use Rattle.op_words.specs.declared.insn.Insn.TheVariants as insn
use Rattle.machine_meaning.specs.States.{held, value_in}
use Rattle.machine_meaning.specs.States as machine
use Rattle.machine_meaning.specs.Moves as machine_moves
use Rattle.machine_meaning.specs.Effects as effects
use Rattle.machine_meaning.specs.Steps as machine_steps
use Rattle.code_simulation.specs.Slots.{Slot, Temp, temps, Steady}
use Rattle.code_simulation.specs.Relation.{Dyn, cells_m, Setting}
use Rattle.code_simulation.proofs.Along.{Alike, CallsGo, Counts, File, Here, inside, frame, env_of, Reads, machine_at, Has, Same, Receives}
use Rattle.code_simulation.proofs.Parts.{ExprRuns, AllRuns, ListRuns}
use Rattle.code_simulation.proofs.Names.{steady_on}
use Rattle.code_simulation.proofs.World.{fits_temps, temp_reg, pop, pop_all}
use Rattle.code_simulation.proofs.Moving.{source_goes, target_goes}
use Rattle.code_simulation.proofs.Waiting.{call_here}
use Rattle.code_simulation.proofs.Registers.{listed, row_here, wanted, deliver_is, delivered, delivered_file, delivered_steady, results_is}

pub adjusted_one : (vs : List Value) → machine.adjusted 1 vs ≡ source_moves.first vs ∷ []
adjusted_one [] = refl
adjusted_one (v ∷ vs) = refl

module _ (p : Setting) (most : ℕ) where
  -- what the code does with the values of a call: as many as are wanted go into the registers from the first free one on
  pub results_arrive : (h : Here p most) (l : List Slot) (left : ℕ) (count next place : ℕ) (vs : List Value) (d : Dyn) (file : File)
      → Has p most h left l d file → (s : source.State) → ((file' : File) → Has p most h left (temps (wanted count vs) l) d file'
      → Counts 0 (length (wanted count vs)) (length l) file'.top → Steady l file.registers file'.registers
      → Alike p left s (machine_at p most h next file' d)) → Alike p left s
      (machine_moves.state (machine.GiveAll vs) (machine_moves.waits_for (machine.Results (length l) count next) (frame p most h place file))
      h.below_m d.code)
  results_arrive h l left count next place vs d file w s go =
      let q = machine.Results (length l) count next in
      target_goes p
      (results_is p most h q (length l) count next place vs file d ∙ deliver_is p most h q l next place (wanted count vs) file d w)
      (go (delivered_file p most h l (wanted count vs) file) (delivered p most h l (wanted count vs) file d w) refl
      (delivered_steady p most h l (wanted count vs) file))

  -- the code's row of a call
  pub call_row : {n : ℕ} (h : Here p most) (l : List Slot) (place next arguments count : ℕ) (f : Value) (vs : List Value) (d : Dyn) (file : File)
      → Reads p most h place (insn.Call (length l) arguments count) next → Has p most h n (temps vs (Temp f ∷ l)) d file
      → Counts arguments (length vs) (suc (length l)) file.top → machine_steps.step p.chunk (machine_at p most h place file d) ≡ machine_moves.now
      (machine.Invoke ByScript f vs) (machine_moves.saved (machine.Results (length l) count next) (frame p most h place file)) h.below_m d.code
  call_row h l place next arguments count f vs d file reads w c =
      let fr = frame p most h place file in
      let waits = machine_moves.saved (machine.Results (length l) count next) fr in
      row_here p most h place next file d (insn.Call (length l) arguments count) reads
      ∙ ap (λ r. machine_moves.now (machine.Invoke ByScript (held (cells_m d) r) (effects.list_from arguments (length l + 1) fr d.code)) waits
      h.below_m d.code) (temp_reg (fits_temps vs (Temp f ∷ l) w.fits))
      ∙ ap (λ n. machine_moves.now (machine.Invoke ByScript f (effects.list_from arguments n fr d.code)) waits h.below_m d.code) (omega arith)
      ∙ ap (λ us. machine_moves.now (machine.Invoke ByScript f us) waits h.below_m d.code) (listed fr d.code arguments vs (Temp f ∷ l) w.fits c)

module _ (p : Setting) (most : ℕ) (calls : (i : ℕ) → i ≤ most → CallsGo p i) where
  -- a call whose callee and arguments are in registers: whatever comes of it
  pub invoke_same : (node : source.Node) (purpose : source.Purpose) (arguments count : ℕ) (h : Here p most) (l : List Slot) (place next left : ℕ)
      → left ≤ most → (k : List source.Frame) (f : Value) (vs : List Value) (d : Dyn) (file0 file : File)
      → Reads p most h place (insn.Call (length l) arguments count) next → length l ≤ h.proto.registers
      → Has p most h left (temps vs (Temp f ∷ l)) d file → Counts arguments (length vs) (suc (length l)) file.top
      → Steady l file0.registers file.registers → Receives p most h left l file0.registers node purpose k
      (machine.Results (length l) count next) place → (s : source.State)
      → source_steps.step p.texts s ≡ source_moves.now (source.Invoke ByScript f vs) (inside p most h) (source.Awaits node purpose ∷ k)
      (env_of p most h l) d.script → Alike p left s (machine_at p most h place file d)
  invoke_same node purpose arguments count h l place next left le k f vs d file0 file reads room w c steady go s row =
      source_goes p row
      (target_goes p (call_row p most h l place next arguments count f vs d file reads w c)
      (call_here p most calls ByScript f vs h l left le node purpose k (machine.Results (length l) count next) place file0 file d room
      (pop (pop_all vs (Temp f ∷ l) w)) steady go))

  -- a call's callee and arguments are evaluated
  called_same : (node : source.Node) (n : source.Wanted) (f : Expr) (args : List Expr) (arguments count : ℕ) (h : Here p most) (l : List Slot)
      (from mid last to : ℕ) → ExprRuns p most f h l from mid → ((v : Value) → ListRuns p most args h (Temp v ∷ l) mid last arguments (λ vs. vs))
      → Reads p most h last (insn.Call (length l) arguments count) to → length l ≤ h.proto.registers → (left : ℕ) → left ≤ most
      → (k : List source.Frame) (d : Dyn) (file : File) → Has p most h left l d file
      → Receives p most h left l file.registers node (source.Wants n) k (machine.Results (length l) count to) last
      → Same p most h left (source.Evaluate f) (source.Callee node args n ∷ k) l d from file
  called_same node n f args arguments count h l from mid last to f_runs args_run reads room left le k d file w go =
      f_runs left le (source.Callee node args n ∷ k) d file w
      (λ i lt v d2 file2 w2 steady. source_goes p refl
      (args_run v i (omega (arith, le, lt)) [] (source.Arguments node v [] n ∷ k) d2 file2 _ refl w2
      (λ j lt2 vs d3 file3 w3 c steady2.
      invoke_same node (source.Wants n) arguments count h l last to j (omega (arith, le, lt, lt2)) k v vs d3 file file3 reads room w3 c
      (steady_on l _ _ _ steady steady2)
      (λ n lt3. go n (omega (arith, lt, lt2, lt3))) _ refl)))

  -- all values of a call, of which so many come to stand in registers
  pub call_all : (e f : Expr) (args : List Expr) (arguments count : ℕ) (h : Here p most) (l : List Slot) (from mid last to : ℕ)
      → out-ExprKind e.kind ≡ level.ExprKind::Call f args → ExprRuns p most f h l from mid
      → ((v : Value) → ListRuns p most args h (Temp v ∷ l) mid last arguments (λ vs. vs))
      → Reads p most h last (insn.Call (length l) arguments count) to → length l ≤ h.proto.registers → AllRuns p most e h l from to 0 (wanted count)
  call_all e f args arguments count h l from mid last to kind f_runs args_run reads room left le k d file w go =
      source_goes p (ap (λ (y : ExprLevel). expressions.begin_all y e (inside p most h) k (env_of p most h l) d.script) kind)
      (called_same (of_expr e) source.All f args arguments count h l from mid last to f_runs args_run reads room left le k d file w
      (λ i lt vs d2 file2 w2 steady. source_goes p refl
      (results_arrive p most h l i count to last vs d2 file2 w2 _
      (λ file3 w3 c steady2. go i lt vs d2 file3 w3 c (steady_on l _ _ _ steady steady2)))))

  -- a call as one value
  pub call_same : (e f : Expr) (args : List Expr) (arguments : ℕ) (h : Here p most) (l : List Slot) (from mid last to : ℕ)
      → out-ExprKind e.kind ≡ level.ExprKind::Call f args → ExprRuns p most f h l from mid
      → ((v : Value) → ListRuns p most args h (Temp v ∷ l) mid last arguments (λ vs. vs)) → Reads p most h last (insn.Call (length l) arguments 2) to
      → length l ≤ h.proto.registers → ExprRuns p most e h l from to
  call_same e f args arguments h l from mid last to kind f_runs args_run reads room left le k d file w go =
      source_goes p (ap (λ (y : ExprLevel). expressions.begin p.texts y (of_expr e) (inside p most h) k (env_of p most h l) d.script) kind)
      (called_same (of_expr e) source.One f args arguments 2 h l from mid last to f_runs args_run reads room left le k d file w
      (λ i lt vs d2 file2 w2 steady. source_goes p refl
      (results_arrive p most h l i 2 to last vs d2 file2 w2 _
      (λ file3 w3 c steady2. go i lt (source_moves.first vs) d2 file3 (subst (λ us. Has p most h i (temps us l) d2 file3) (adjusted_one vs) w3)
      (steady_on l _ _ _ steady steady2)))))

  -- a call as a statement: its values are dropped
  pub call_done : (node : source.Node) (e f : Expr) (args : List Expr) (arguments : ℕ) (h : Here p most) (l : List Slot) (from mid last to : ℕ)
      → out-ExprKind e.kind ≡ level.ExprKind::Call f args → ExprRuns p most f h l from mid
      → ((v : Value) → ListRuns p most args h (Temp v ∷ l) mid last arguments (λ vs. vs)) → Reads p most h last (insn.Call (length l) arguments 1) to
      → length l ≤ h.proto.registers → (left : ℕ) → left ≤ most → (k : List source.Frame) (d : Dyn) (file : File) → Has p most h left l d file
      → ((i : ℕ) → i ≤ left → (d2 : Dyn) (file2 : File) → Has p most h i l d2 file2 → Same p most h i source.Done k l d2 to file2)
      → (s : source.State) → source_steps.step p.texts s ≡ expressions.begin_call (out-ExprKind e.kind) source.Nothing node (inside p most h) k
      (env_of p most h l) d.script → Alike p left s (machine_at p most h from file d)
  call_done node e f args arguments h l from mid last to kind f_runs args_run reads room left le k d file w go s row =
      source_goes p (row ∙ ap (λ (y : ExprLevel). expressions.begin_call y source.Nothing node (inside p most h) k (env_of p most h l) d.script) kind)
      (called_same node source.Nothing f args arguments 1 h l from mid last to f_runs args_run reads room left le k d file w
      (λ i lt vs d2 file2 w2 steady. source_goes p refl
      (results_arrive p most h l i 1 to last vs d2 file2 w2 _
      (λ file3 w3 c steady2. go i lt d2 file3 w3))))
