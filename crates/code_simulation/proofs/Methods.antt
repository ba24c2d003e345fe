-- Calls of methods: the function is looked up in the object, which is its first argument.
use Rattle.std.proofs.Common.{Bool, ◌≡◌, ℕ, suc, ◌+◌, ◌≤◌, List, [], ◌∷◌, length, Some, refl, sym, ap, ◌∙◌, subst, arith}
use Rattle.std.specs.Prelude.{codes}
use Rattle.byte_text.specs.declared.fixed.StrId.{StrId}
use Rattle.syntax_tree.specs.declared.tree.Expr.{Expr}
use Rattle.syntax_tree.specs.declared.tree.ExprKind.{out-ExprKind}
use Rattle.syntax_tree.specs.declared.tree.ExprKind.TheOpen as level
use Rattle.syntax_tree.specs.declared.tree.Stat.{Stat}
use Rattle.syntax_tree.specs.declared.tree.StatKind.{out-StatKind}
use Rattle.value_model.specs.Values.{Value, Text}
use Rattle.value_model.specs.Choices.{Index}
use Rattle.value_model.specs.Metamethods.{choose}
use Rattle.source_meaning.specs.Levels.{ExprLevel}
use Rattle.source_meaning.specs.States.{of_expr}
use Rattle.source_meaning.specs.States as source
use Rattle.source_meaning.specs.Moves as source_moves
use Rattle.source_meaning.specs.Expressions as expressions
use Rattle.source_meaning.specs.Expressions.{text_of}
use Rattle.source_meaning.specs.Steps as source_steps
use Rattle.op_words.specs.declared.insn.Insn.TheVariants as insn
use Rattle.machine_meaning.specs.Constants.{name_at}
use Rattle.machine_meaning.specs.States.{Val, put, held}
use Rattle.machine_meaning.specs.States as machine
use Rattle.machine_meaning.specs.Moves as machine_moves
use Rattle.machine_meaning.specs.Effects as effects
use Rattle.machine_meaning.specs.Steps as machine_steps
use Rattle.code_simulation.specs.Slots.{Slot, Temp, temps, Steady}
use Rattle.code_simulation.specs.Relation.{Dyn, cells_m, store_m, Setting}
use Rattle.code_simulation.proofs.Along.{Alike, CallsGo, File, Here, inside, frame, env_of, Reads, machine_at, Has, Same, Receives}
use Rattle.code_simulation.proofs.Parts.{ExprRuns, AllRuns, OperandRuns, ListRuns, in_register}
use Rattle.code_simulation.proofs.Names.{steady_all, steady_on, steady_put}
use Rattle.code_simulation.proofs.World.{claim, push, pop, top_is, temp_reg, drop_slot}
use Rattle.code_simulation.proofs.Moving.{source_goes, target_goes}
use Rattle.code_simulation.proofs.Registers.{row_here, wanted, with_register, give_is}
use Rattle.code_simulation.proofs.Operations.{first_is, operation_here}
use Rattle.code_simulation.proofs.Lists.{one_more, counts_more}
use Rattle.code_simulation.proofs.Calls.{invoke_same, results_arrive, adjusted_one}
use Rattle.code_simulation.proofs.Operators.{under}
use Rattle.code_simulation.proofs.Indexing.{set_temp}
use Rattle.code_simulation.proofs.Values.{Loads, loads_row}
use Rattle.code_simulation.proofs.Conditions.{begin_row}
use Rattle.code_simulation.proofs.Blocks.{Jumps, StatRuns, stat_row}

module _ (p : Setting) (most : ℕ) (calls : (i : ℕ) → i ≤ most → CallsGo p i) where
  -- the code looks up the function, and puts the object behind it
  look_up_row : (h : Here p most) (place next a r c : ℕ) (v u : Value) (bs : List ℕ) (d : Dyn) (file : File)
      → Reads p most h place (insn.NameCall a r c) next → name_at p.chunk h.number c ≡ Some bs
      → file.registers r ≡ Val v → file.registers (suc a) ≡ Val u
      → machine_steps.step p.chunk (machine_at p most h place file d)
      ≡ machine_moves.settle (choose (Index v (Text bs)) (store_m d)) (machine.Into a next)
      (frame p most h place (with_register p most file (suc a) v)) h.below_m d.code
  look_up_row h place next a r c v u bs d file reads name see free =
      let fr = frame p most h place file in
      row_here p most h place next file d (insn.NameCall a r c) reads
      ∙ ap (λ o. effects.with_name o (λ x f fs w. machine_moves.on (effects.index (machine.value_in f w r) (Text x) a next)
      (machine.set (a + 1) (machine.value_in f w r) (machine_moves.inside f w)) fs) fr h.below_m d.code) name
      ∙ ap (λ y. machine_moves.on (effects.index (held (cells_m d) y) (Text bs) a next)
      (machine.set (a + 1) (held (cells_m d) y) (machine_moves.inside fr d.code)) h.below_m) see
      ∙ ap (λ n. machine_moves.on (effects.index v (Text bs) a next) (machine.set n v (machine_moves.inside fr d.code)) h.below_m) (omega arith)
      ∙ ap (λ y. machine_moves.on (effects.index v (Text bs) a next) (machine.write y (suc a) v (machine_moves.inside fr d.code)) h.below_m) free

  -- an object in a register: its function is looked up, the arguments are evaluated, and it is called, whatever comes of it
  found_goes : (node : source.Node) (n : source.Wanted) (bs : List ℕ) (args : List Expr) (r c arguments count : ℕ) (h : Here p most)
      (l : List Slot) (mid next last to : ℕ)
      → Reads p most h mid (insn.NameCall (length l) r c) next → name_at p.chunk h.number c ≡ Some bs
      → ((f v : Value) → ListRuns p most args h (Temp v ∷ Temp f ∷ l) next last arguments (λ vs. vs))
      → Reads p most h last (insn.Call (length l) (one_more arguments) count) to → suc (suc (length l)) ≤ h.proto.registers
      → (left : ℕ) → left ≤ most → (k : List source.Frame) (v : Value) (d : Dyn) (file0 file : File) → Has p most h left l d file
      → Steady l file0.registers file.registers → file.registers r ≡ Val v
      → Receives p most h left l file0.registers node (source.Wants n) k (machine.Results (length l) count to) last
      → (s : source.State)
      → source_steps.step p.texts s ≡ expressions.find node v bs args n (inside p most h) k (env_of p most h l) d.script
      → Alike p left s (machine_at p most h mid file d)
  found_goes node n bs args r c arguments count h l mid next last to look name args_run reads room left le k v d file0 file w steady see go s row =
      let free = w.clear (length l) (omega arith) in
      let w4 = claim free.0 free.1 w in
      let above = w4.clear (suc (length l)) (omega arith) in
      let file4 = with_register p most file (suc (length l)) v in
      let w5 = push v w4 in
      let q = machine.Into (length l) next in
      operation_here p most calls (Index v (Text bs)) h (Temp v ∷ Temp free.0 ∷ l) left le node
      (source.Finds v args n) k q mid file4 file4 d room w5 (steady_all l file4.registers)
      (λ j lt2 us d3 file3 w6 steady2.
      let f = source_moves.first us in
      let file5 = with_register p most file3 (length l) f in
      source_goes p refl
      (target_goes p
      (ap (λ y. machine_moves.give (length l) y next (machine_moves.waits_for q (frame p most h mid file3)) h.below_m d3.code) (sym (first_is us))
      ∙ give_is p most h q (length l) next mid f free.0 file3 d3.code (temp_reg (drop_slot w6.fits)))
      (args_run f v j (omega (arith, le, lt2)) [] (source.Arguments node f (v ∷ []) n ∷ k) d3 file5 _ refl (set_temp (v ∷ []) l free.0 f w6)
      (λ m lt3 vs d6 file6 w7 counts steady3.
      let steady_object = steady_put l file.registers (suc (length l)) (Val v) (omega arith) in
      let steady_function = steady_put l file3.registers (length l) (Val f) (omega arith) in
      invoke_same p most calls node (source.Wants n) (one_more arguments) count h l last to m (omega (arith, le, lt2, lt3)) k f
      (v ∷ vs) d6 file0 file6 reads (omega (arith, room)) w7
      (counts_more arguments (length vs) (suc (length l)) file6.top counts)
      (steady_on l _ _ _ steady (steady_on l _ _ _ steady_object (steady_on l _ _ _ steady2 (steady_on l _ _ _ steady_function steady3))))
      (λ q2 lt4. go q2 (omega (arith, lt2, lt3, lt4))) _ refl))))
      _ _ row
      (look_up_row h mid next (length l) r c v above.0 bs d file look name see above.1)

  -- the object is evaluated first
  method_goes : (node : source.Node) (n : source.Wanted) (object : Expr) (x : StrId) (args : List Expr) (own : Bool)
      (r c arguments count : ℕ) (h : Here p most) (l : List Slot) (from mid next last to : ℕ)
      → OperandRuns p most object h l from mid own (in_register r)
      → Reads p most h mid (insn.NameCall (length l) r c) next → name_at p.chunk h.number c ≡ Some (text_of p.texts x)
      → ((f v : Value) → ListRuns p most args h (Temp v ∷ Temp f ∷ l) next last arguments (λ vs. vs))
      → Reads p most h last (insn.Call (length l) (one_more arguments) count) to → suc (suc (length l)) ≤ h.proto.registers
      → (left : ℕ) → left ≤ most → (k : List source.Frame) (d : Dyn) (file : File) → Has p most h left l d file
      → Receives p most h left l file.registers node (source.Wants n) k (machine.Results (length l) count to) last
      → Same p most h left (source.Evaluate object) (source.Object node x args n ∷ k) l d from file
  method_goes node n object x args own r c arguments count h l from mid next last to runs look name args_run reads room left le k d file w go =
      runs left le (source.Object node x args n ∷ k) d file w
      (λ i lt v d2 file2 w2 see steady.
      found_goes node n (text_of p.texts x) args r c arguments count h l mid next last to look name args_run reads room i
      (omega (arith, le, lt)) k v d2 file file2
      (under p most own v h l d2 file2 w2) steady see (λ j lt2. go j (omega (arith, lt, lt2))) _ refl)

  -- a method call as one value
  pub method_same : (e object : Expr) (x : StrId) (args : List Expr) (own : Bool) (r c arguments : ℕ) (h : Here p most) (l : List Slot)
      (from mid next last to : ℕ) → out-ExprKind e.kind ≡ level.Method object x args
      → OperandRuns p most object h l from mid own (in_register r)
      → Reads p most h mid (insn.NameCall (length l) r c) next → name_at p.chunk h.number c ≡ Some (text_of p.texts x)
      → ((f v : Value) → ListRuns p most args h (Temp v ∷ Temp f ∷ l) next last arguments (λ vs. vs))
      → Reads p most h last (insn.Call (length l) (one_more arguments) 2) to → suc (suc (length l)) ≤ h.proto.registers
      → ExprRuns p most e h l from to
  method_same e object x args own r c arguments h l from mid next last to kind runs look name args_run reads room left le k d file w go =
      source_goes p (ap (λ (y : ExprLevel). expressions.begin p.texts y (of_expr e) (inside p most h) k (env_of p most h l) d.script) kind)
      (method_goes (of_expr e) source.One object x args own r c arguments 2 h l from mid next last to runs look name args_run reads room left le k d file w
      (λ i lt vs d2 file2 w2 steady. source_goes p refl
      (results_arrive p most h l i 2 to last vs d2 file2 w2 _
      (λ file3 w3 counts steady2. go i lt (source_moves.first vs) d2 file3 (subst (λ us. Has p most h i (temps us l) d2 file3) (adjusted_one vs) w3)
      (steady_on l _ _ _ steady steady2)))))

  -- and all its values, of which so many come to stand in registers
  pub method_all : (e object : Expr) (x : StrId) (args : List Expr) (own : Bool) (r c arguments count : ℕ) (h : Here p most) (l : List Slot)
      (from mid next last to : ℕ) → out-ExprKind e.kind ≡ level.Method object x args
      → OperandRuns p most object h l from mid own (in_register r)
      → Reads p most h mid (insn.NameCall (length l) r c) next → name_at p.chunk h.number c ≡ Some (text_of p.texts x)
      → ((f v : Value) → ListRuns p most args h (Temp v ∷ Temp f ∷ l) next last arguments (λ vs. vs))
      → Reads p most h last (insn.Call (length l) (one_more arguments) count) to → suc (suc (length l)) ≤ h.proto.registers
      → AllRuns p most e h l from to 0 (wanted count)
  method_all e object x args own r c arguments count h l from mid next last to kind runs look name args_run reads room left le k d file w go =
      source_goes p (ap (λ (y : ExprLevel). expressions.begin_all y e (inside p most h) k (env_of p most h l) d.script) kind)
      (method_goes (of_expr e) source.All object x args own r c arguments count h l from mid next last to runs look name args_run reads room left le k d file w
      (λ i lt vs d2 file2 w2 steady. source_goes p refl
      (results_arrive p most h l i count to last vs d2 file2 w2 _
      (λ file3 w3 counts steady2. go i lt vs d2 file3 w3 counts (steady_on l _ _ _ steady steady2)))))

  -- a method call as a statement: its values are dropped
  pub method_stat_same : (s : Stat) (e object : Expr) (x : StrId) (args : List Expr) (own : Bool) (r c arguments : ℕ) (h : Here p most)
      (l : List Slot) (j : Jumps) (from mid next last to : ℕ) → out-StatKind s.kind ≡ level.StatKind::Call e
      → out-ExprKind e.kind ≡ level.Method object x args → OperandRuns p most object h l from mid own (in_register r)
      → Reads p most h mid (insn.NameCall (length l) r c) next → name_at p.chunk h.number c ≡ Some (text_of p.texts x)
      → ((f v : Value) → ListRuns p most args h (Temp v ∷ Temp f ∷ l) next last arguments (λ vs. vs))
      → Reads p most h last (insn.Call (length l) (one_more arguments) 1) to → suc (suc (length l)) ≤ h.proto.registers
      → StatRuns p most s h l j from to (λ n. l)
  method_stat_same s e object x args own r c arguments h l j from mid next last to kind call_kind runs look name args_run reads room left le k d file
      w ways go =
      source_goes p
      (stat_row p most s _ h l k d kind
      ∙ ap (λ (y : ExprLevel). expressions.begin_call y source.Nothing (of_expr e) (inside p most h) k (env_of p most h l) d.script) call_kind)
      (method_goes (of_expr e) source.Nothing object x args own r c arguments 1 h l from mid next last to runs look name args_run reads room left le k d file w
      (λ i lt vs d2 file2 w2 steady. source_goes p refl
      (results_arrive p most h l i 1 to last vs d2 file2 w2 _ (λ file3 w3 counts steady2. go i lt 0 d2 file3 w3))))

  -- an interpolated string: `format` of its pieces, which are loaded first, is called with its values
  pub interp_same : (e : Expr) (xs : List StrId) (args : List Expr) (c arguments : ℕ) (h : Here p most) (l : List Slot)
      (from mid next last to : ℕ) → out-ExprKind e.kind ≡ level.Interp xs args
      → Loads p most h from (length l) (Text (expressions.pieces p.texts xs)) mid
      → Reads p most h mid (insn.NameCall (length l) (length l) c) next → name_at p.chunk h.number c ≡ Some (codes "format")
      → ((f v : Value) → ListRuns p most args h (Temp v ∷ Temp f ∷ l) next last arguments (λ vs. vs))
      → Reads p most h last (insn.Call (length l) (one_more arguments) 2) to → suc (suc (length l)) ≤ h.proto.registers
      → ExprRuns p most e h l from to
  interp_same e xs args c arguments h l from mid next last to kind loads look name args_run reads room left le k d file w go =
      let free = w.clear (length l) (omega arith) in
      let v = Text (expressions.pieces p.texts xs) in
      let file1 = with_register p most file (length l) v in
      let w1 = push v w in
      target_goes p
      (loads_row p most h from (length l) mid v file d loads ∙ give_is p most h machine.Idle (length l) mid from v free.0 file d.code free.1)
      (found_goes (of_expr e) source.One (codes "format") args (length l) c arguments 2 h l mid next last to look name args_run reads room left le k v
      d file file1
      (pop w1) (steady_put l file.registers (length l) (Val v) (omega arith)) (top_is w1)
      (λ i lt vs d2 file2 w2 steady. source_goes p refl
      (results_arrive p most h l i 2 to last vs d2 file2 w2 _
      (λ file3 w3 counts steady2. go i lt (source_moves.first vs) d2 file3 (subst (λ us. Has p most h i (temps us l) d2 file3) (adjusted_one vs) w3)
      (steady_on l _ _ _ steady steady2))))
      _ (begin_row p most e _ h l k d kind))
