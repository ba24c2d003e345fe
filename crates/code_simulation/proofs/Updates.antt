-- Local functions, and compound assignments to names, by what is done where both operands are given.
use Rattle.std.proofs.Common.{Bool, true, false, ◌≡◌, ℕ, suc, ◌≤◌, pos, List, [], ◌∷◌, ◌++◌, length, Option, Some, None, refl, sym, ap, ◌∙◌, subst, arith, cond}
use Rattle.std.specs.Prelude.{slice_get, slice_set, slice_index_or}
use Rattle.std.proofs.lemmas.Bool.{eq-eqb}
use Rattle.byte_text.specs.declared.fixed.StrId.{StrId}
use Rattle.syntax_tree.specs.declared.tree.BinOp.{BinOp}
use Rattle.syntax_tree.specs.declared.tree.Expr.{Expr}
use Rattle.syntax_tree.specs.declared.tree.ExprKind.{out-ExprKind}
use Rattle.syntax_tree.specs.declared.tree.ExprKind.TheOpen as level
use Rattle.syntax_tree.specs.declared.tree.FuncBody.{FuncBody}
use Rattle.syntax_tree.specs.declared.tree.Stat.{Stat}
use Rattle.syntax_tree.specs.declared.tree.StatKind.{out-StatKind}
use Rattle.value_model.specs.Values.{Value, Text, Table, Closure}
use Rattle.value_model.specs.Store.{environment_of}
use Rattle.value_model.specs.Choices.{Operation, Index}
use Rattle.value_model.specs.Metamethods.{choose}
use Rattle.source_meaning.specs.Levels.{ExprLevel}
use Rattle.source_meaning.specs.States.{Node, Target, ToCell, of_expr, of_stat, cell_of}
use Rattle.source_meaning.specs.States as source
use Rattle.source_meaning.specs.Moves as source_moves
use Rattle.source_meaning.specs.Expressions.{text_of}
use Rattle.source_meaning.specs.Statements as statements
use Rattle.source_meaning.specs.Steps as source_steps
use Rattle.op_words.specs.declared.insn.Insn.TheVariants as insn
use Rattle.op_words.specs.Chunks.{ProtoOf}
use Rattle.machine_meaning.specs.Constants.{name_at}
use Rattle.machine_meaning.specs.States.{Val, held}
use Rattle.machine_meaning.specs.States as machine
use Rattle.machine_meaning.specs.Moves as machine_moves
use Rattle.machine_meaning.specs.Effects as effects
use Rattle.code_simulation.specs.Slots.{Slot, Var, Temp, Local, local_at}
use Rattle.code_simulation.specs.Relation.{at, Dyn, cells_s, cells_m, store_s, store_m, Setting}
use Rattle.code_simulation.proofs.Along.{Alike, CallsGo, File, Here, inside, frame, env_of, Reads, source_at, machine_at, Has, Same}
use Rattle.code_simulation.proofs.Parts.{Sight, over, in_register, OperandRuns, Stays, Operates}
use Rattle.code_simulation.proofs.Names.{look_in, look_out, steady_all}
use Rattle.code_simulation.proofs.World.{claim, pop, top_is, read, read_plain, read_up}
use Rattle.code_simulation.proofs.Changes.{source_more, declare}
use Rattle.code_simulation.proofs.Moving.{source_goes, target_goes}
use Rattle.code_simulation.proofs.Registers.{row_here, given}
use Rattle.code_simulation.proofs.Operations.{value_here}
use Rattle.code_simulation.proofs.Values.{own_stays, local_stays}
use Rattle.code_simulation.proofs.Operators.{IsOperation, operate_row, under}
use Rattle.code_simulation.proofs.Functions.{Captures, Child, take_same, made, made_holds, closure_row, with_registers, written}
use Rattle.code_simulation.proofs.Blocks.{Jumps, StatRuns, stat_row}
use Rattle.code_simulation.proofs.Assigns.{Writes, write_same}

set_last : (xs : List Value) (v u : Value) → slice_set (xs ++ v ∷ []) (length xs) u ≡ xs ++ u ∷ []
set_last [] v u = refl
set_last (x ∷ xs) v u = ap (λ ys. x ∷ ys) (set_last xs v u)

module _ (p : Setting) (most : ℕ) where
  -- the variable of a local function is the newest
  newest : (x : StrId) (c : ℕ) (cap : Bool) (l : List Slot) → local_at (Var x c cap ∷ l) x ≡ Some (record { register = length l; cell = c; captured = cap })
  newest x c cap l =
      ap (λ b. cond b (Some (record { register = length l; cell = c; captured = cap })) (local_at l x)) (eq-eqb x.0 x.0 refl)

  -- `local function`: the closure may capture its own variable, into whose register or cell it is then put
  pub local_function_same : (s : Stat) (x : StrId) (func : FuncBody) (cap : Bool) (c number : ℕ) (ups : List StrId) (proto : ProtoOf)
      (h : Here p most) (l : List Slot) (j : Jumps) (from mid to : ℕ) → out-StatKind s.kind ≡ level.LocalFunction x func
      → Reads p most h from (insn.NewClosure (length l) (pos c)) mid → ((n : ℕ) → Captures p most h (Var x n cap ∷ l) ups mid to)
      → ((n : ℕ) → Child p most h (Var x n cap ∷ l) func c number ups proto) → StatRuns p most s h l j from to (λ n. Var x n cap ∷ l)
  local_function_same s x func cap c number ups proto h l j from mid to kind reads captures child left le k d file w ways go =
      let free = w.clear (length l) (omega arith) in
      let n = length (cells_s d) in
      let l1 : List Slot = Var x n cap ∷ l in
      let d1 = source_more d h.co (length h.roots) free.0 in
      let w1 = declare l x cap free.0 [] (claim free.0 free.1 w) in
      let t = take_same p most ups left h l1 from mid to [] d1 file (captures n) w1 in
      let d2 = made p most h l1 d1 func number t.tag t.cells t.taken in
      let w2 = made_holds p most left h l1 d1 from file mid to func number ups proto (child n).code t in
      let file2 = with_registers p most file t.registers in
      let v = Closure (length (store_s d).closures) in
      written p most h l1 d2 file2 x (record { register = length l; cell = n; captured = cap }) v (newest x n cap l) w2
      (Alike p left (source_at p most h (source.Execute s) k (env_of p most h l) d) (machine_at p most h from file d))
      (λ d3 file3 source_is set_is top_is w3.
      source_goes p
      (stat_row p most s _ h l k d kind
      ∙ ap (λ cs. source_moves.now source.Done (inside p most h) k (env_of p most h l1) (source_moves.with_cells cs d2.script))
      (sym (set_last (cells_s d) free.0 v))
      ∙ ap (λ y. source_moves.now source.Done (inside p most h) k (env_of p most h l1) y) source_is)
      (target_goes p
      (closure_row p most left h l1 d1 file from mid to (length l) c func number ups proto reads (child n) w1.ok.base.store t
      ∙ ap (λ y. machine_moves.on (machine_moves.go to) y h.below_m) (set_is machine.Idle from))
      (go left (omega arith) n d3 file3 w3)))

module _ (p : Setting) (most : ℕ) (calls : (i : ℕ) → i ≤ most → CallsGo p i) where
  -- what follows where the value is in the first free register, and is to be stored
  abbrev pub StoreRuns : Node → Target → Here p most → List Slot → (place next : ℕ) → Type 0
  StoreRuns node target h l place next =
      (left : ℕ) → left ≤ most → (k : List source.Frame) (v : Value) (d : Dyn) (file : File) → Has p most h left (Temp v ∷ l) d file
      → ((i : ℕ) → i ≤ left → (d2 : Dyn) (file2 : File) → Has p most h i (Temp v ∷ l) d2 file2 → Same p most h i (source.Store [] []) k l d2 next file2)
      → Same p most h left (source.Store ((node, target) ∷ []) (v ∷ [])) k l d place file

  pub store_name : (x : StrId) (node : Node) (h : Here p most) (l : List Slot) (place next : ℕ) → Writes p most h l x (length l) place next
      → suc (length l) ≤ h.proto.registers → StoreRuns node (statements.target_of (cell_of (env_of p most h l) x) x) h l place next
  store_name x node h l place next writes room left le k v d file w go =
      write_same p most calls x node (length l) h l (Temp v ∷ l) place next left le k [] [] v d file writes refl refl room (top_is w) w go _ refl

  -- both operands are given, and what comes of the operator is stored
  abbrev pub Finishes : Node → BinOp → Target → Here p most → List Slot → (left_sees right_sees : Sight) → (last to : ℕ) → Type 0
  Finishes node o target h l sees1 sees2 last to =
      (left : ℕ) → left ≤ most → (k : List source.Frame) (v u : Value) (d : Dyn) (file : File) → Has p most h left l d file → sees1 file.registers v
      → sees2 file.registers u
      → ((i : ℕ) → i ≤ left → (d2 : Dyn) (file2 : File) → Has p most h i l d2 file2 → Same p most h i source.Done k l d2 to file2)
      → Same p most h left (source.Give u) (source.RightOperand node o v ∷ source.StoresIn node target ∷ k) l d last file

  -- by way of the first free register
  pub finish_stored : (node : Node) (o : BinOp) (operation : Value → Value → Operation) (target : Target) (h : Here p most) (l : List Slot)
      (sees1 sees2 : Sight) (last next to : ℕ) → IsOperation o operation (source.Wants source.One)
      → Operates p most h last operation sees1 sees2 (length l) next → StoreRuns node target h l next to → suc (length l) ≤ h.proto.registers
      → Finishes node o target h l sees1 sees2 last to
  finish_stored node o operation target h l sees1 sees2 last next to is operates stores room left le k v u d file w see1 see2 go =
      value_here p most calls (operation v u) h l left le node (source.StoresIn node target ∷ k) last next file file d
      (omega (arith, room)) w (steady_all l file.registers)
      (λ n lt z d2 file2 w2 steady.
      source_goes p refl
      (stores n (omega (arith, le, lt)) k z d2 file2 w2
      (λ m lt2 d3 file3 w3. source_goes p refl (go m (omega (arith, lt, lt2)) d3 file3 (pop w3)))))
      _ _
      (operate_row p most o operation (source.Wants source.One) node v u h l (source.StoresIn node target ∷ k) d is)
      (operates v u d file see1 see2)

  -- the rest of a compound assignment, where the value that was there is given
  pub updates : (node : Node) (o : BinOp) (b : Expr) (target : Target) (own1 : Bool) (sees1 : Sight) (own2 : Bool) (sees2 : Sight) (h : Here p most)
      (l : List Slot) (mid last to left : ℕ) → left ≤ most → (k : List source.Frame) (v : Value) (d : Dyn) (file : File)
      → Has p most h left (over own1 v l) d file → sees1 file.registers v → Stays p most h l own1 sees1
      → ((v : Value) → OperandRuns p most b h (over own1 v l) mid last own2 sees2) → Finishes node o target h l sees1 sees2 last to
      → ((i : ℕ) → i ≤ left → (d2 : Dyn) (file2 : File) → Has p most h i l d2 file2 → Same p most h i source.Done k l d2 to file2)
      → Same p most h left (source.Give v) (source.Reads node o target b ∷ k) l d mid file
  updates node o b target true sees1 own2 sees2 h l mid last to left le k v d file w see stays b_runs finishes go =
      source_goes p refl
      (b_runs v left le (source.RightOperand node o v ∷ source.StoresIn node target ∷ k) d file w
      (λ i lt u d2 file2 w2 see2 steady.
      let w3 = under p most own2 u h (Temp v ∷ l) d2 file2 w2 in
      finishes i (omega (arith, le, lt)) k v u d2 file2 (pop w3) (stays i v d2 file.registers file2 see w3 steady) see2
      (λ n lt2. go n (omega (arith, lt, lt2)))))
  updates node o b target false sees1 own2 sees2 h l mid last to left le k v d file w see stays b_runs finishes go =
      source_goes p refl
      (b_runs v left le (source.RightOperand node o v ∷ source.StoresIn node target ∷ k) d file w
      (λ i lt u d2 file2 w2 see2 steady.
      let w3 = under p most own2 u h l d2 file2 w2 in
      finishes i (omega (arith, le, lt)) k v u d2 file2 w3 (stays i v d2 file.registers file2 see w3 steady) see2
      (λ n lt2. go n (omega (arith, lt, lt2)))))

  -- the script reads a local variable that is to be assigned
  pub reads_local : (s : Stat) (o : BinOp) (t b : Expr) (x : StrId) (v : Local) (h : Here p most) (l : List Slot) (left : ℕ) (k : List source.Frame)
      (d : Dyn) (m : machine.State) → out-StatKind s.kind ≡ level.Compound o t b → out-ExprKind t.kind ≡ level.Name x → local_at l x ≡ Some v
      → Alike p left (source_at p most h (source.Give (at (cells_s d) v.cell))
      (source.Reads (of_stat s) o (statements.target_of (cell_of (env_of p most h l) x) x) b ∷ k) (env_of p most h l) d) m
      → Alike p left (source_at p most h (source.Execute s) k (env_of p most h l) d) m
  reads_local s o t b x v h l left k d m kind name found go =
      source_goes p (stat_row p most s _ h l k d kind)
      (source_goes p (ap (λ (y : ExprLevel). statements.aim y (of_expr t) (inside p most h) (source.Updates (of_stat s) o b ∷ k)
      (env_of p most h l) d.script) name)
      (source_goes p (ap (λ c. statements.read p.texts (statements.target_of c x) (of_stat s) (inside p most h)
      (source.Reads (of_stat s) o (statements.target_of (cell_of (env_of p most h l) x) x) b ∷ k) (env_of p most h l) d.script)
      (look_in l h.act.outer x v found)) go))

  -- a compound assignment to a local that no closure may capture: it is read where it stands
  pub compound_in_place : (s : Stat) (o : BinOp) (t b : Expr) (x : StrId) (v : Local) (own2 : Bool) (sees2 : Sight) (h : Here p most) (l : List Slot)
      (j : Jumps) (from last to : ℕ) → out-StatKind s.kind ≡ level.Compound o t b → out-ExprKind t.kind ≡ level.Name x → local_at l x ≡ Some v
      → v.captured ≡ false → OperandRuns p most b h l from last own2 sees2
      → Finishes (of_stat s) o (statements.target_of (cell_of (env_of p most h l) x) x) h l (in_register v.register) sees2 last to
      → StatRuns p most s h l j from to (λ c. l)
  compound_in_place s o t b x v own2 sees2 h l j from last to kind name found plain b_runs finishes left le k d file w ways go =
      reads_local s o t b x v h l left k d _ kind name found
      (updates (of_stat s) o b (statements.target_of (cell_of (env_of p most h l) x) x) false (in_register v.register) own2 sees2 h l from last to left le k
      (at (cells_s d) v.cell) d file w (read_plain x v found plain w) (local_stays p most x v h l found plain) (λ u. b_runs) finishes
      (λ i lt. go i lt 0))

  -- and to any local, whose value is copied first
  pub compound_copied : (s : Stat) (o : BinOp) (t b : Expr) (x : StrId) (v : Local) (own2 : Bool) (sees2 : Sight) (h : Here p most) (l : List Slot)
      (j : Jumps) (from mid last to : ℕ) → out-StatKind s.kind ≡ level.Compound o t b → out-ExprKind t.kind ≡ level.Name x → local_at l x ≡ Some v
      → Reads p most h from (insn.Move (length l) v.register) mid → ((u : Value) → OperandRuns p most b h (Temp u ∷ l) mid last own2 sees2)
      → Finishes (of_stat s) o (statements.target_of (cell_of (env_of p most h l) x) x) h l (in_register (length l)) sees2 last to
      → StatRuns p most s h l j from to (λ c. l)
  compound_copied s o t b x v own2 sees2 h l j from mid last to kind name found reads b_runs finishes left le k d file w ways go =
      let target = statements.target_of (cell_of (env_of p most h l) x) x in
      reads_local s o t b x v h l left k d _ kind name found
      (subst (λ u. Alike p left (source_at p most h (source.Give u) (source.Reads (of_stat s) o target b ∷ k) (env_of p most h l) d)
      (machine_at p most h from file d)) (sym (read x v found w))
      (given p most h machine.Idle l mid from left (source.Reads (of_stat s) o target b ∷ k)
      (held (cells_m d) (file.registers v.register)) d file file _ w (steady_all l file.registers)
      (row_here p most h from mid file d (insn.Move (length l) v.register) reads)
      (λ i lt u d2 file2 w2 steady.
      updates (of_stat s) o b target true (in_register (length l)) own2 sees2 h l mid last to i (omega (arith, le, lt)) k u d2 file2 w2 (top_is w2)
      (own_stays p most h l) b_runs finishes (λ n lt2. go n (omega (arith, lt, lt2)) 0))))

  -- the script aims at a name that is to be assigned, and reads what it means
  reads_name : (s : Stat) (o : BinOp) (t b : Expr) (x : StrId) (c : Option ℕ) (h : Here p most) (l : List Slot) (left : ℕ) (k : List source.Frame)
      (d : Dyn) (m : machine.State) → out-StatKind s.kind ≡ level.Compound o t b → out-ExprKind t.kind ≡ level.Name x
      → cell_of (env_of p most h l) x ≡ c
      → ((s2 : source.State) → source_steps.step p.texts s2 ≡ statements.read p.texts (statements.target_of c x) (of_stat s) (inside p most h)
      (source.Reads (of_stat s) o (statements.target_of (cell_of (env_of p most h l) x) x) b ∷ k) (env_of p most h l) d.script → Alike p left s2 m)
      → Alike p left (source_at p most h (source.Execute s) k (env_of p most h l) d) m
  reads_name s o t b x c h l left k d m kind name found go =
      source_goes p (stat_row p most s _ h l k d kind)
      (source_goes p (ap (λ (y : ExprLevel). statements.aim y (of_expr t) (inside p most h) (source.Updates (of_stat s) o b ∷ k)
      (env_of p most h l) d.script) name)
      (go _ (ap (λ c. statements.read p.texts (statements.target_of c x) (of_stat s) (inside p most h)
      (source.Reads (of_stat s) o (statements.target_of (cell_of (env_of p most h l) x) x) b ∷ k) (env_of p most h l) d.script) found)))

  -- a compound assignment to an upvalue
  pub compound_upvalue : (s : Stat) (o : BinOp) (t b : Expr) (x : StrId) (u : ℕ) (own2 : Bool) (sees2 : Sight) (h : Here p most) (l : List Slot)
      (j : Jumps) (from mid last to : ℕ) → out-StatKind s.kind ≡ level.Compound o t b → out-ExprKind t.kind ≡ level.Name x → local_at l x ≡ None
      → slice_get h.act.ups u ≡ Some x → Reads p most h from (insn.GetUpvalue (length l) u) mid
      → ((v : Value) → OperandRuns p most b h (Temp v ∷ l) mid last own2 sees2)
      → Finishes (of_stat s) o (statements.target_of (cell_of (env_of p most h l) x) x) h l (in_register (length l)) sees2 last to
      → StatRuns p most s h l j from to (λ c. l)
  compound_upvalue s o t b x u own2 sees2 h l j from mid last to kind name out up reads b_runs finishes left le k d file w ways go =
      let c = read_up x u up w in
      let target = statements.target_of (cell_of (env_of p most h l) x) x in
      let after = source.Reads (of_stat s) o target b ∷ k in
      reads_name s o t b x (Some c.0) h l left k d _ kind name (look_out l h.act.outer x out ∙ c.1)
      (λ s2 row. source_goes p (row ∙ ap (λ v. source_moves.now (source.Give v) (inside p most h) after (env_of p most h l) d.script) c.2)
      (given p most h machine.Idle l mid from left after (at (cells_m d) (slice_index_or h.act.cells u 0)) d file file _ w (steady_all l file.registers)
      (row_here p most h from mid file d (insn.GetUpvalue (length l) u) reads)
      (λ i lt v d2 file2 w2 steady.
      updates (of_stat s) o b target true (in_register (length l)) own2 sees2 h l mid last to i (omega (arith, le, lt)) k v d2 file2 w2 (top_is w2)
      (own_stays p most h l) b_runs finishes (λ n lt2. go n (omega (arith, lt, lt2)) 0))))

  -- and to a global
  pub compound_global : (s : Stat) (o : BinOp) (t b : Expr) (x : StrId) (c : ℕ) (own2 : Bool) (sees2 : Sight) (h : Here p most) (l : List Slot)
      (j : Jumps) (from mid last to : ℕ) → out-StatKind s.kind ≡ level.Compound o t b → out-ExprKind t.kind ≡ level.Name x → local_at l x ≡ None
      → cell_of h.act.outer x ≡ None → name_at p.chunk h.number c ≡ Some (text_of p.texts x)
      → Reads p most h from (insn.GetGlobal (length l) c) mid → ((v : Value) → OperandRuns p most b h (Temp v ∷ l) mid last own2 sees2)
      → Finishes (of_stat s) o (statements.target_of (cell_of (env_of p most h l) x) x) h l (in_register (length l)) sees2 last to
      → length l ≤ h.proto.registers → StatRuns p most s h l j from to (λ c. l)
  compound_global s o t b x c own2 sees2 h l j from mid last to kind name out none text reads b_runs finishes room left le k d file w ways go =
      let target = statements.target_of (cell_of (env_of p most h l) x) x in
      let after = source.Reads (of_stat s) o target b ∷ k in
      reads_name s o t b x None h l left k d _ kind name (look_out l h.act.outer x out ∙ none)
      (λ s2 row. value_here p most calls (Index (Table (environment_of (store_s d) h.closure)) (Text (text_of p.texts x))) h l left le (of_stat s) after
      from mid file file d room w (steady_all l file.registers)
      (λ i lt v d2 file2 w2 steady.
      updates (of_stat s) o b target true (in_register (length l)) own2 sees2 h l mid last to i (omega (arith, le, lt)) k v d2 file2 w2 (top_is w2)
      (own_stays p most h l) b_runs finishes (λ n lt2. go n (omega (arith, lt, lt2)) 0)) s2 _ row
      (row_here p most h from mid file d (insn.GetGlobal (length l) c) reads
      ∙ ap (λ o. effects.with_name o (λ y. effects.index (Table (environment_of (store_m d) h.closure)) (Text y) (length l) mid)
      (frame p most h from file) h.below_m d.code) text
      ∙ ap (λ s. machine_moves.settle (choose (Index (Table (environment_of s h.closure)) (Text (text_of p.texts x))) (store_m d))
      (machine.Into (length l) mid) (frame p most h from file) h.below_m d.code) (sym w.ok.base.store)))
