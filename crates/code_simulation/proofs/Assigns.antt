-- Assignments to names: to a variable in its register or in a cell, to an upvalue, to a global; and local functions.
use Rattle.std.proofs.Common.{◌≡◌, ℕ, suc, ◌+◌, ◌≤◌, List, [], ◌∷◌, ◌++◌, length, Some, None, refl, sym, ap, ◌∙◌, subst, arith}
use Rattle.std.specs.Prelude.{slice_get, slice_set, slice_index_or}
use Rattle.byte_text.specs.declared.fixed.StrId.{StrId}
use Rattle.syntax_tree.specs.declared.tree.Expr.{Expr}
use Rattle.syntax_tree.specs.declared.tree.ExprKind.{out-ExprKind}
use Rattle.syntax_tree.specs.declared.tree.ExprKind.TheOpen as level
use Rattle.syntax_tree.specs.declared.tree.Stat.{Stat}
use Rattle.syntax_tree.specs.declared.tree.StatKind.{out-StatKind}
use Rattle.value_model.specs.Values.{Value, Text, Table}
use Rattle.value_model.specs.Store.{environment_of}
use Rattle.value_model.specs.Choices.{Newindex}
use Rattle.value_model.specs.Metamethods.{choose}
use Rattle.source_meaning.specs.Levels.{ExprLevel}
use Rattle.source_meaning.specs.States.{Node, Target, ToCell, ToGlobal, of_expr, of_stat, cell_of}
use Rattle.source_meaning.specs.States as source
use Rattle.source_meaning.specs.Moves as source_moves
use Rattle.source_meaning.specs.Expressions.{text_of}
use Rattle.source_meaning.specs.Statements as statements
use Rattle.source_meaning.specs.Steps as source_steps
use Rattle.op_words.specs.declared.insn.Insn.TheVariants as insn
use Rattle.machine_meaning.specs.Constants.{name_at}
use Rattle.machine_meaning.specs.States.{Val, held}
use Rattle.machine_meaning.specs.States as machine
use Rattle.machine_meaning.specs.Moves as machine_moves
use Rattle.machine_meaning.specs.Effects as effects
use Rattle.code_simulation.specs.Slots.{Slot, Temp, Local, local_at, temps}
use Rattle.code_simulation.specs.Relation.{Dyn, cells_m, store_s, store_m, Setting}
use Rattle.code_simulation.proofs.Along.{Alike, CallsGo, File, Here, inside, frame, env_of, Reads, source_at, machine_at, Has, Same}
use Rattle.code_simulation.proofs.Parts.{ListRuns}
use Rattle.code_simulation.proofs.Names.{look_in, look_out, binds_temps, local_temps, length_temps, steady_all}
use Rattle.code_simulation.proofs.World.{ups_at, fits_temps, temp_reg, pop_all}
use Rattle.code_simulation.proofs.Changes.{both_set, assign_shared}
use Rattle.code_simulation.proofs.Moving.{source_goes, target_goes}
use Rattle.code_simulation.proofs.Registers.{row_here}
use Rattle.code_simulation.proofs.Operations.{operation_here}
use Rattle.code_simulation.proofs.Lists.{length_adjusted}
use Rattle.code_simulation.proofs.Functions.{written}
use Rattle.code_simulation.proofs.Blocks.{Jumps, StatRuns, stat_row}
use Rattle.code_simulation.proofs.Statements.{adjusted_is}

-- where a name is stored
abbrev pub aimed : source.Environment → Expr → StrId → Node × Target
aimed env t x = (of_expr t, statements.target_of (cell_of env x) x)

-- the targets of an assignment are names
abbrev pub AreNames : List Expr → List StrId → Type 0
AreNames [] [] = Unit {0}
AreNames (t ∷ ts) (x ∷ xs) = (out-ExprKind t.kind ≡ level.Name x) × AreNames ts xs
AreNames [] (x ∷ xs) = ⊥
AreNames (t ∷ ts) [] = ⊥

abbrev pub all_aimed : source.Environment → List Expr → List StrId → List (Node × Target)
all_aimed env [] xs = []
all_aimed env (t ∷ ts) [] = []
all_aimed env (t ∷ ts) (x ∷ xs) = aimed env t x ∷ all_aimed env ts xs

append_all : {A : Type 0} (xs : List A) (y : A) (zs : List A) → (xs ++ y ∷ []) ++ zs ≡ xs ++ (y ∷ zs)
append_all [] y zs = refl
append_all (x ∷ xs) y zs = ap (λ ys. x ∷ ys) (append_all xs y zs)

nothing_more : {A : Type 0} (xs : List A) → xs ++ [] ≡ xs
nothing_more [] = refl
nothing_more (x ∷ xs) = ap (λ ys. x ∷ ys) (nothing_more xs)

module _ (p : Setting) (most : ℕ) where
  -- an instruction stores a register's value under a name
  pub data Writes (h : Here p most) (l : List Slot) (x : StrId) (r place next : ℕ) : Type 0 where
    to_local : (o : Local) → local_at l x ≡ Some o → Reads p most h place (insn.Move o.register r) next → Writes h l x r place next
    to_upvalue : (u : ℕ) → local_at l x ≡ None → slice_get h.act.ups u ≡ Some x → Reads p most h place (insn.SetUpvalue r u) next → Writes h l x r place next
    to_global : (c : ℕ) → local_at l x ≡ None → cell_of h.act.outer x ≡ None → name_at p.chunk h.number c ≡ Some (text_of p.texts x)
        → Reads p most h place (insn.SetGlobal r c) next → Writes h l x r place next

  -- the tables and keys of the targets are none, where all are names: then come the values
  pub aim_names : (ts : List Expr) (xs : List StrId) (done : List (Node × Target)) (es : List Expr) (h : Here p most) (left : ℕ) (l : List Slot)
      (k : List source.Frame) (d : Dyn) (m : machine.State) (s : source.State) → AreNames ts xs
      → source_steps.step p.texts s ≡ statements.aim_all done ts es (inside p most h) k (env_of p most h l) d.script
      → Alike p left (source_at p most h (source.EvaluateList [] es) (source.Assigns (done ++ all_aimed (env_of p most h l) ts xs) ∷ k)
      (env_of p most h l) d) m → Alike p left s m
  aim_names [] [] done es h left l k d m s names row go =
      source_goes p row (subst (λ ts. Alike p left (source_at p most h (source.EvaluateList [] es) (source.Assigns ts ∷ k) (env_of p most h l) d) m)
      (nothing_more done) go)
  aim_names [] (x ∷ xs) done es h left l k d m s names row go = absurd names
  aim_names (t ∷ ts) [] done es h left l k d m s names row go = absurd names
  aim_names (t ∷ ts) (x ∷ xs) done es h left l k d m s names row go =
      source_goes p row
      (source_goes p (ap (λ (y : ExprLevel). statements.aim y (of_expr t) (inside p most h) (source.Aims done ts es ∷ k) (env_of p most h l) d.script) names.0)
      (aim_names ts xs (done ++ aimed (env_of p most h l) t x ∷ []) es h left l k d m _ names.1 refl
      (subst (λ ts. Alike p left (source_at p most h (source.EvaluateList [] es) (source.Assigns ts ∷ k) (env_of p most h l) d) m)
      (sym (append_all done (aimed (env_of p most h l) t x) (all_aimed (env_of p most h l) ts xs))) go)))

module _ (p : Setting) (most : ℕ) (calls : (i : ℕ) → i ≤ most → CallsGo p i) where
  -- a value is stored under a name, and the others are
  pub write_same : (x : StrId) (node : Node) (r : ℕ) (h : Here p most) (l l1 : List Slot) (place next left : ℕ) → left ≤ most
      → (k : List source.Frame) (ts : List (Node × Target)) (vs : List Value) (v : Value) (d : Dyn) (file : File) → Writes p most h l x r place next
      → local_at l1 x ≡ local_at l x → env_of p most h l1 ≡ env_of p most h l → length l1 ≤ h.proto.registers → file.registers r ≡ Val v
      → Has p most h left l1 d file → ((i : ℕ) → i ≤ left → (d2 : Dyn) (file2 : File) → Has p most h i l1 d2 file2
      → Same p most h i (source.Store ts vs) k l1 d2 next file2) → (s : source.State)
      → source_steps.step p.texts s ≡ statements.store_one p.texts (statements.target_of (cell_of (env_of p most h l1) x) x) v node ts vs
      (inside p most h) k (env_of p most h l1) d.script → Alike p left s (machine_at p most h place file d)
  write_same x node r h l l1 place next left le k ts vs v d file (to_local o found reads) locals envs room see w go s row =
      let found1 = locals ∙ found in
      written p most h l1 d file x o v found1 w (Alike p left s (machine_at p most h place file d))
      (λ d2 file2 source_is set_is top_is w2.
      source_goes p
      (row ∙ ap (λ c. statements.store_one p.texts (statements.target_of c x) v node ts vs (inside p most h) k (env_of p most h l1) d.script)
      (look_in l1 h.act.outer x o found1)
      ∙ ap (λ y. source_moves.now (source.Store ts vs) (inside p most h) k (env_of p most h l1) y) source_is)
      (target_goes p
      (row_here p most h place next file d (insn.Move o.register r) reads
      ∙ ap (λ y. machine_moves.give o.register (held (cells_m d) y) next (frame p most h place file) h.below_m d.code) see
      ∙ ap (λ y. machine_moves.on (machine_moves.go next) y h.below_m) (set_is machine.Idle place))
      (go left (omega arith) d2 file2 w2)))
  write_same x node r h l l1 place next left le k ts vs v d file (to_upvalue u out up reads) locals envs room see w go s row =
      let c = ups_at d.tag h.act.outer h.act.ups h.act.cells u x w.alike up in
      let n = slice_index_or h.act.cells u 0 in
      source_goes p
      (row ∙ ap (λ c. statements.store_one p.texts (statements.target_of c x) v node ts vs (inside p most h) k (env_of p most h l1) d.script)
      (look_out l1 h.act.outer x (locals ∙ out) ∙ c.1))
      (target_goes p
      (row_here p most h place next file d (insn.SetUpvalue r u) reads
      ∙ ap (λ y. machine_moves.go next (frame p most h place file) h.below_m (machine.with_cells (slice_set (cells_m d) n (held (cells_m d) y)) d.code)) see)
      (go left (omega arith) (both_set d c.0 n v) file (assign_shared c.0 n v c.2 w)))
  write_same x node r h l l1 place next left le k ts vs v d file (to_global c out none name reads) locals envs room see w go s row =
      let env = environment_of (store_s d) h.closure in
      operation_here p most calls (Newindex (Table env) (Text (text_of p.texts x)) v) h l1 left le node (source.Stores ts vs) k
      (machine.Stores next) place file file d room w (steady_all l1 file.registers)
      (λ i lt us d2 file2 w2 steady. source_goes p refl (target_goes p refl (go i lt d2 file2 w2))) _ _
      (row ∙ ap (λ c. statements.store_one p.texts (statements.target_of c x) v node ts vs (inside p most h) k (env_of p most h l1) d.script)
      (look_out l1 h.act.outer x (locals ∙ out) ∙ none))
      (row_here p most h place next file d (insn.SetGlobal r c) reads
      ∙ ap (λ o. effects.with_name o (λ y. effects.newindex (Table (environment_of (store_m d) h.closure)) (Text y)
      (held (cells_m d) (file.registers r)) next) (frame p most h place file) h.below_m d.code) name
      ∙ ap (λ y. effects.newindex (Table (environment_of (store_m d) h.closure)) (Text (text_of p.texts x)) (held (cells_m d) y) next
      (frame p most h place file) h.below_m d.code) see
      ∙ ap (λ s. machine_moves.settle (choose (Newindex (Table (environment_of s h.closure)) (Text (text_of p.texts x)) v) (store_m d))
      (machine.Stores next) (frame p most h place file) h.below_m d.code) (sym w.ok.base.store))

  -- the values of registers from one on are stored under names, from left to right
  abbrev pub AllWrite : Here p most → List Slot → List StrId → (r place next : ℕ) → Type 0
  AllWrite h l [] r place next = place ≡ next
  AllWrite h l (x ∷ xs) r place next = (mid : ℕ) × Writes p most h l x r place mid × AllWrite h l xs (suc r) mid next

  pub writes_same : (ts : List Expr) (xs : List StrId) (vs : List Value) (h : Here p most) (l l0 : List Slot) (place next left : ℕ) → left ≤ most
      → (k : List source.Frame) (d : Dyn) (file : File) → AreNames ts xs → AllWrite h l xs (length l0) place next
      → ((x : StrId) → local_at l0 x ≡ local_at l x) → env_of p most h l0 ≡ env_of p most h l → length l0 + length xs ≤ h.proto.registers
      → Has p most h left (temps (source_moves.adjusted xs vs) l0) d file
      → ((i : ℕ) → i ≤ left → (l2 : List Slot) (us : List Value) (d2 : Dyn) (file2 : File) → Has p most h i (temps us l0) d2 file2
      → Same p most h i source.Done k l d2 next file2) → Same p most h left (source.Store (all_aimed (env_of p most h l) ts xs) vs) k l d place file
  writes_same [] [] vs h l l0 place next left le k d file names writes locals envs room w go =
      source_goes p refl (subst (λ n. Same p most h left source.Done k l d n file) (sym writes) (go left (omega arith) l0 [] d file w))
  writes_same [] (x ∷ xs) vs h l l0 place next left le k d file names writes locals envs room w go = absurd names
  writes_same (t ∷ ts) [] vs h l l0 place next left le k d file names writes locals envs room w go = absurd names
  writes_same (t ∷ ts) (x ∷ xs) vs h l l0 place next left le k d file names writes locals envs room w go =
      let us = source_moves.adjusted xs (source_moves.rest vs) in
      let v = source_moves.first vs in
      let l1 = temps us (Temp v ∷ l0) in
      let same_env : env_of p most h l1 ≡ env_of p most h l = ap (λ b. b ++ h.act.outer) (binds_temps us (Temp v ∷ l0)) ∙ envs in
      subst (λ env. Alike p left (source_at p most h (source.Store (all_aimed (env_of p most h l) (t ∷ ts) (x ∷ xs)) vs) k env d)
      (machine_at p most h place file d)) same_env
      (write_same x (of_expr t) (length l0) h l l1 place writes.0 left le k (all_aimed (env_of p most h l) ts xs) (source_moves.rest vs) v d file writes.1
      (local_temps us (Temp v ∷ l0) x ∙ locals x) same_env
      (room_for us (ap length (adjusted_is xs (source_moves.rest vs)) ∙ length_adjusted (length xs) (source_moves.rest vs)))
      (temp_reg (fits_temps us (Temp v ∷ l0) w.fits)) w
      (λ i lt d2 file2 w2.
      subst (λ env. Alike p i (source_at p most h (source.Store (all_aimed (env_of p most h l) ts xs) (source_moves.rest vs)) k env d2)
      (machine_at p most h writes.0 file2 d2)) (sym same_env)
      (writes_same ts xs (source_moves.rest vs) h l (Temp v ∷ l0) writes.0 next i (omega (arith, le, lt)) k d2 file2 names.1 writes.2
      (λ y. locals y) envs (omega (arith, room)) w2
      (λ n lt2 l3 ws d3 file3 w3. go n (omega (arith, lt, lt2)) l0 (v ∷ ws) d3 file3 w3)))
      _
      (ap (λ e. statements.store_one p.texts (statements.target_of (cell_of e x) x) v (of_expr t) (all_aimed (env_of p most h l) ts xs)
      (source_moves.rest vs) (inside p most h) k (env_of p most h l1) d.script) (sym same_env)))
    where
      room_for : (us : List Value) → length us ≡ length xs → length (temps us (Temp (source_moves.first vs) ∷ l0)) ≤ h.proto.registers
      room_for us e = let n = length_temps us (Temp (source_moves.first vs) ∷ l0) in omega (arith, n, e, room)

  -- an assignment to names
  pub assign_same : (s : Stat) (ts es : List Expr) (xs : List StrId) (h : Here p most) (l : List Slot) (j : Jumps) (from mid to : ℕ)
      → out-StatKind s.kind ≡ level.Assign ts es → AreNames ts xs → ListRuns p most es h l from mid (suc (length xs)) (machine.adjusted (length xs))
      → AllWrite h l xs (length l) mid to → length l + length xs ≤ h.proto.registers → StatRuns p most s h l j from to (λ c. l)
  assign_same s ts es xs h l j from mid to kind names runs writes room left le k d file w ways go =
      aim_names p most ts xs [] es h left l k d _ _ names (stat_row p most s _ h l k d kind)
      (runs left le [] (source.Assigns (all_aimed (env_of p most h l) ts xs) ∷ k) d file _ refl w
      (λ i lt vs d2 file2 w2 c steady. source_goes p refl
      (writes_same ts xs vs h l l mid to i (omega (arith, le, lt)) k d2 file2 names writes (λ x. refl) refl room
      (subst (λ us. Has p most h i (temps us l) d2 file2) (sym (adjusted_is xs vs)) w2)
      (λ n lt2 l3 us d3 file3 w3. go n (omega (arith, lt, lt2)) 0 d3 file3 (pop_all us l w3)))))
