-- What comes of the operator of a compound assignment, put into the variable itself; and operands that are joined.
use Rattle.std.proofs.Common.{◌≡◌, ℕ, suc, ◌+◌, ◌≤◌, List, [], ◌∷◌, length, Some, refl, sym, ap, ◌∙◌, arith}
use Rattle.std.specs.Prelude.{◌-◌, reverse}
use Rattle.byte_text.specs.declared.fixed.StrId.{StrId}
use Rattle.syntax_tree.specs.declared.tree.BinOp.{BinOp}
use Rattle.syntax_tree.specs.declared.tree.BinOp.TheVariants as op
use Rattle.value_model.specs.Values.{Value}
use Rattle.value_model.specs.Choices.{Operation, Concat}
use Rattle.source_meaning.specs.States.{Node, Target, cell_of}
use Rattle.source_meaning.specs.States as source
use Rattle.source_meaning.specs.Moves as source_moves
use Rattle.source_meaning.specs.Statements as statements
use Rattle.op_words.specs.declared.insn.Insn.TheVariants as insn
use Rattle.machine_meaning.specs.States.{held, values_in}
use Rattle.machine_meaning.specs.States as machine
use Rattle.machine_meaning.specs.Moves as machine_moves
use Rattle.machine_meaning.specs.Steps as machine_steps
use Rattle.code_simulation.specs.Slots.{Slot, Local, local_at}
use Rattle.code_simulation.specs.Relation.{Dyn, cells_m, Setting}
use Rattle.code_simulation.proofs.Along.{Alike, CallsGo, File, Here, inside, frame, env_of, Reads, source_at, Has, Same}
use Rattle.code_simulation.proofs.Parts.{Sight, in_register, Operates}
use Rattle.code_simulation.proofs.Names.{look_in, steady_all}
use Rattle.code_simulation.proofs.World.{pop}
use Rattle.code_simulation.proofs.Moving.{source_goes, target_goes}
use Rattle.code_simulation.proofs.Registers.{row_here, given}
use Rattle.code_simulation.proofs.Operations.{first_is, operation_here}
use Rattle.code_simulation.proofs.Operators.{IsOperation, operate_row}
use Rattle.code_simulation.proofs.Functions.{written}
use Rattle.code_simulation.proofs.Updates.{StoreRuns, Finishes}

pub concat_is : IsOperation op.Concat Concat (source.Wants source.One)
concat_is = record { begins = λ a b node h k env w. refl; operates = λ v u. refl; wants = refl }

module _ (p : Setting) (most : ℕ) (calls : (i : ℕ) → i ≤ most → CallsGo p i) where
  -- a value is stored in a local variable, and put into its register or cell
  stored_local : (node : Node) (x : StrId) (o : Local) (z : Value) (h : Here p most) (l : List Slot) (to place left : ℕ) (q : machine.Purpose)
      (k : List source.Frame) (d : Dyn) (file : File) (m : machine.State) → local_at l x ≡ Some o → Has p most h left l d file
      → machine_steps.step p.chunk m ≡ machine_moves.give o.register z to (machine_moves.waits_for q (frame p most h place file)) h.below_m d.code
      → ((i : ℕ) → i ≤ left → (d2 : Dyn) (file2 : File) → Has p most h i l d2 file2 → Same p most h i source.Done k l d2 to file2)
      → Alike p left (source_at p most h (source.Give z)
      (source.StoresIn node (statements.target_of (cell_of (env_of p most h l) x) x) ∷ k) (env_of p most h l) d) m
  stored_local node x o z h l to place left q k d file m found w row go =
      source_goes p refl
      (written p most h l d file x o z found w (Alike p left (source_at p most h
      (source.Store ((node, statements.target_of (cell_of (env_of p most h l) x) x) ∷ []) (z ∷ [])) k (env_of p most h l) d) m)
      (λ d2 file2 source_is set_is top_is w2.
      source_goes p
      (ap (λ c. statements.store_one p.texts (statements.target_of c x) z node [] [] (inside p most h) k (env_of p most h l) d.script)
      (look_in l h.act.outer x o found)
      ∙ ap (λ y. source_moves.now (source.Store [] []) (inside p most h) k (env_of p most h l) y) source_is)
      (target_goes p (row ∙ ap (λ y. machine_moves.on (machine_moves.go to) y h.below_m) (set_is q place))
      (source_goes p refl (go left (omega arith) d2 file2 w2)))))

  -- an operation whose value is put into the variable itself
  pub finish_local : (node : Node) (o : BinOp) (operation : Value → Value → Operation) (x : StrId) (v : Local) (h : Here p most) (l : List Slot)
      (sees1 sees2 : Sight) (last to : ℕ) → IsOperation o operation (source.Wants source.One) → local_at l x ≡ Some v
      → Operates p most h last operation sees1 sees2 v.register to → length l ≤ h.proto.registers
      → Finishes p most calls node o (statements.target_of (cell_of (env_of p most h l) x) x) h l sees1 sees2 last to
  finish_local node o operation x v h l sees1 sees2 last to is found operates room left le k a b d file w see1 see2 go =
      let target = statements.target_of (cell_of (env_of p most h l) x) x in
      let q = machine.Into v.register to in
      operation_here p most calls (operation a b) h l left le node (source.Wants source.One) (source.StoresIn node target ∷ k) q last file file d room w
      (steady_all l file.registers)
      (λ i lt vs d2 file2 w2 steady. source_goes p refl
      (stored_local node x v (source_moves.first vs) h l to last i q k d2 file2 _ found w2
      (ap (λ z. machine_moves.give v.register z to (machine_moves.waits_for q (frame p most h last file2)) h.below_m d2.code) (sym (first_is vs)))
      (λ n lt2. go n (omega (arith, lt, lt2)))))
      _ _
      (operate_row p most o operation (source.Wants source.One) node a b h l (source.StoresIn node target ∷ k) d is)
      (operates a b d file see1 see2)

  -- ---- operands that stand in registers one behind the other are joined

  -- both join them: whatever is done with what comes of it
  joins : (node : Node) (k : List source.Frame) (target : Target) (a b : Value) (r to next : ℕ) (h : Here p most) (l : List Slot) (last left : ℕ)
      → left ≤ most → (d : Dyn) (file : File) → Reads p most h last (insn.Concat to r (suc r)) next → length l ≤ h.proto.registers
      → Has p most h left l d file → in_register r file.registers a → in_register (suc r) file.registers b
      → ((i : ℕ) → i ≤ left → (z : Value) (d2 : Dyn) (file2 : File) (q : machine.Purpose) (m : machine.State) → Has p most h i l d2 file2
      → machine_steps.step p.chunk m ≡ machine_moves.give to z next (machine_moves.waits_for q (frame p most h last file2)) h.below_m d2.code
      → Alike p i (source_at p most h (source.Give z) (source.StoresIn node target ∷ k) (env_of p most h l) d2) m)
      → Same p most h left (source.Give b) (source.RightOperand node op.Concat a ∷ source.StoresIn node target ∷ k) l d last file
  joins node k target a b r to next h l last left le d file reads room w see1 see2 go =
      let fr = frame p most h last file in
      let q = machine.Joins [] to next in
      target_goes p
      (row_here p most h last next file d (insn.Concat to r (suc r)) reads
      ∙ ap (λ n. machine_moves.now (machine.Join (reverse (values_in fr d.code r n)) to next) fr h.below_m d.code) two
      ∙ ap (λ x. machine_moves.now (machine.Join (held (cells_m d) (file.registers (suc r)) ∷ held (cells_m d) x ∷ []) to next) fr h.below_m d.code) see1
      ∙ ap (λ x. machine_moves.now (machine.Join (held (cells_m d) x ∷ a ∷ []) to next) fr h.below_m d.code) see2)
      (operation_here p most calls (Concat a b) h l left le node (source.Wants source.One) (source.StoresIn node target ∷ k) q last file file d room w
      (steady_all l file.registers)
      (λ i lt vs d2 file2 w2 steady. source_goes p refl
      (target_goes p (ap (λ z. machine_moves.now (machine.Join (z ∷ []) to next)
      (machine_moves.waits_for q (frame p most h last file2)) h.below_m d2.code) (sym (first_is vs)))
      (go i lt (source_moves.first vs) d2 file2 q _ w2 refl)))
      _ _
      (operate_row p most op.Concat Concat (source.Wants source.One) node a b h l (source.StoresIn node target ∷ k) d concat_is)
      refl)
    where
      two : suc r + 1 - r ≡ 2
      two = omega arith

  -- into the variable itself
  pub finish_joined_local : (node : Node) (x : StrId) (v : Local) (h : Here p most) (l : List Slot) (r last to : ℕ) → local_at l x ≡ Some v
      → Reads p most h last (insn.Concat v.register r (suc r)) to → length l ≤ h.proto.registers
      → Finishes p most calls node op.Concat (statements.target_of (cell_of (env_of p most h l) x) x) h l (in_register r) (in_register (suc r)) last to
  finish_joined_local node x v h l r last to found reads room left le k a b d file w see1 see2 go =
      joins node k (statements.target_of (cell_of (env_of p most h l) x) x) a b r v.register to h l last left le d file reads room w see1 see2
      (λ i lt z d2 file2 q m w2 row.
      stored_local node x v z h l to last i q k d2 file2 m found w2 row (λ n lt2. go n (omega (arith, lt, lt2))))

  -- and by way of the first free register
  pub finish_joined : (node : Node) (target : Target) (h : Here p most) (l : List Slot) (r last next to : ℕ)
      → Reads p most h last (insn.Concat (length l) r (suc r)) next → StoreRuns p most calls node target h l next to → length l ≤ h.proto.registers
      → Finishes p most calls node op.Concat target h l (in_register r) (in_register (suc r)) last to
  finish_joined node target h l r last next to reads stores room left le k a b d file w see1 see2 go =
      joins node k target a b r (length l) next h l last left le d file reads room w see1 see2
      (λ i lt z d2 file2 q m w2 row.
      given p most h q l next last i (source.StoresIn node target ∷ k) z d2 file2 file2 m w2 (steady_all l file2.registers) row
      (λ n lt2 y d3 file3 w3 steady. source_goes p refl
      (stores n (omega (arith, le, lt, lt2)) k y d3 file3 w3
      (λ n2 lt3 d4 file4 w4. source_goes p refl (go n2 (omega (arith, lt, lt2, lt3)) d4 file4 (pop w4))))))
