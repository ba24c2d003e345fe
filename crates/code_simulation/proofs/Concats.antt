-- Runs of `..`: the operands stand in registers, and are joined from the right.
use Rattle.std.proofs.Common.{◌≡◌, ℕ, suc, ◌+◌, ◌-◌, ◌≤◌, List, [], ◌∷◌, ◌++◌, length, refl, sym, ap, ◌∙◌, subst, arith, length-append}
use Rattle.std.specs.Prelude.{reverse, replicate}
use Rattle.std.proofs.lemmas.List.{reverse-append, length-reverse}
use Rattle.syntax_tree.specs.declared.tree.Expr.{Expr}
use Rattle.syntax_tree.specs.declared.tree.ExprKind.{out-ExprKind}
use Rattle.syntax_tree.specs.declared.tree.ExprKind.TheOpen as level
use Rattle.value_model.specs.Values.{Value}
use Rattle.value_model.specs.Choices.{Outcome, Done, CallThis, Errs, Halts, Concat}
use Rattle.value_model.specs.Metamethods.{choose}
use Rattle.source_meaning.specs.States.{of_expr}
use Rattle.source_meaning.specs.States as source
use Rattle.source_meaning.specs.Moves as source_moves
use Rattle.source_meaning.specs.Expressions as expressions
use Rattle.source_meaning.specs.Steps as source_steps
use Rattle.op_words.specs.declared.insn.Insn.TheVariants as insn
use Rattle.machine_meaning.specs.States.{values_in}
use Rattle.machine_meaning.specs.States as machine
use Rattle.machine_meaning.specs.Moves as machine_moves
use Rattle.code_simulation.specs.Slots.{Slot, temps, Steady}
use Rattle.code_simulation.specs.Relation.{Dyn, store_m, Setting}
use Rattle.code_simulation.proofs.Along.{Alike, CallsGo, File, Here, inside, frame, env_of, Reads, source_at, machine_at, Has, WithValue}
use Rattle.code_simulation.proofs.Parts.{ExprRuns}
use Rattle.code_simulation.proofs.Names.{steady_all, steady_on, steady_temps, binds_temps}
use Rattle.code_simulation.proofs.World.{pop_all}
use Rattle.code_simulation.proofs.Moving.{source_goes, target_goes}
use Rattle.code_simulation.proofs.Registers.{row_here, given, read_temps, temps_append}
use Rattle.code_simulation.proofs.Operations.{first_is, operation_here}
use Rattle.code_simulation.proofs.Conditions.{begin_row}

-- an operation does not look at what its frame waited for
comes_any : (o : Outcome) (ns : List machine_moves.Look) (purpose q : machine.Purpose) (f : machine.Frame) (fs : List machine.Frame)
    (w : machine.World) → machine_moves.comes o ns purpose (machine_moves.waits_for q f) fs w ≡ machine_moves.comes o ns purpose f fs w
comes_any (Done v) ns purpose q f fs w = refl
comes_any (CallThis g vs) ns purpose q f fs w = refl
comes_any (Errs e) ns purpose q f fs w = refl
comes_any (Halts x) ns purpose q f fs w = refl

module _ (p : Setting) (most : ℕ) (calls : (i : ℕ) → i ≤ most → CallsGo p i) where
  -- operands are joined, the last two of them first
  join_same : (vs : List Value) (v : Value) (node : source.Node) (h : Here p most) (l : List Slot) (place next left : ℕ) → left ≤ most
      → (k : List source.Frame) (d : Dyn) (file0 file : File) → length l ≤ h.proto.registers → Has p most h left l d file
      → Steady l file0.registers file.registers → WithValue p most h left l file0.registers k next → (q : machine.Purpose)
      → Alike p left (source_at p most h (source.Join node (v ∷ vs)) k (env_of p most h l) d)
      (machine_moves.state (machine.Join (v ∷ vs) (length l) next) (machine_moves.waits_for q (frame p most h place file)) h.below_m d.code)
  join_same [] v node h l place next left le k d file0 file room w steady go q =
      source_goes p refl (given p most h q l next place left k v d file0 file _ w steady refl go)
  join_same (u ∷ vs) v node h l place next left le k d file0 file room w steady go q =
      operation_here p most calls (Concat u v) h l left le node (source.Joins vs) k (machine.Joins vs (length l) next) place file0 file d room w steady
      (λ i lt us d2 file2 w2 steady2.
      source_goes p refl
      (target_goes p (ap (λ x. machine_moves.now (machine.Join (x ∷ vs) (length l) next)
      (machine_moves.waits_for (machine.Joins vs (length l) next) (frame p most h place file2)) h.below_m d2.code) (sym (first_is us)))
      (join_same vs (source_moves.first us) node h l place next i (omega (arith, le, lt)) k d2 file0 file2 room w2 steady2
      (λ n lt2. go n (omega (arith, lt, lt2))) (machine.Joins vs (length l) next))))
      _ _ refl
      (let c = choose (Concat u v) (store_m d) in
      comes_any c.outcome (replicate c.asked machine_moves.asked) (machine.Joins vs (length l) next) q (frame p most h place file) h.below_m
      (machine_moves.with_store c.store d.code))

  -- the rest of the operands, behind those whose values stand on top
  abbrev pub OperandsRun : List Expr → Here p most → List Slot → (us : List Value) → (from to : ℕ) → Type 0
  OperandsRun es h l us from to =
      (left : ℕ) → left ≤ most → (node : source.Node) (k : List source.Frame) (d : Dyn) (file0 file : File) (s : source.State)
      → source_steps.step p.texts s ≡ expressions.operands node (reverse us) es (inside p most h) k (env_of p most h l) d.script
      → Has p most h left (temps us l) d file → Steady l file0.registers file.registers
      → ((i : ℕ) → i ≤ left → (vs : List Value) (d2 : Dyn) (file2 : File) → length vs ≡ length us + length es
      → Has p most h i (temps vs l) d2 file2 → Steady l file0.registers file2.registers
      → Alike p i (source_at p most h (source.Join node (reverse vs)) k (env_of p most h l) d2) (machine_at p most h to file2 d2))
      → Alike p left s (machine_at p most h from file d)

  pub operands_none : (h : Here p most) (l : List Slot) (us : List Value) (from : ℕ) → OperandsRun [] h l us from from
  operands_none h l us from left le node k d file0 file s row w steady go =
      source_goes p row (go left (omega arith) us d file (omega arith) w steady)

  -- one more operand, whose value comes to stand on top
  pub operands_more : (e : Expr) (es : List Expr) (h : Here p most) (l : List Slot) (us : List Value) (from mid to : ℕ)
      → ExprRuns p most e h (temps us l) from mid → ((v : Value) → OperandsRun es h l (us ++ v ∷ []) mid to) → OperandsRun (e ∷ es) h l us from to
  operands_more e es h l us from mid to runs rest_runs left le node k d file0 file s row w steady go =
      source_goes p row
      (subst (λ env. Alike p left (source_at p most h (source.Evaluate e) (source.Operands node (reverse us) es ∷ k) (env ++ h.act.outer) d)
      (machine_at p most h from file d)) (binds_temps us l)
      (runs left le (source.Operands node (reverse us) es ∷ k) d file w
      (λ i lt v d2 file2 w2 steady2.
      rest_runs v i (omega (arith, le, lt)) node k d2 file0 file2 _
      (ap (λ got. expressions.operands node got es (inside p most h) k (env_of p most h (temps us l)) d2.script) (sym (reverse-append us (v ∷ [])))
      ∙ ap (λ env. expressions.operands node (reverse (us ++ v ∷ [])) es (inside p most h) k (env ++ h.act.outer) d2.script) (binds_temps us l))
      (subst (λ sl. Has p most h i sl d2 file2) (sym (temps_append us (v ∷ []) l)) w2)
      (steady_on l _ _ _ steady (steady_temps us l file.registers file2.registers steady2))
      (λ n lt2 vs d3 file3 len w3 steady3. go n (omega (arith, lt, lt2)) vs d3 file3 (omega (arith, len, length-append us (v ∷ []))) w3 steady3))))

  -- operands in any order of which there is one
  join_any : (rs : List Value) (n : ℕ) → length rs ≡ suc n → (node : source.Node) (h : Here p most) (l : List Slot) (place next left : ℕ)
      → left ≤ most → (k : List source.Frame) (d : Dyn) (file0 file : File) → length l ≤ h.proto.registers → Has p most h left l d file
      → Steady l file0.registers file.registers → WithValue p most h left l file0.registers k next
      → Alike p left (source_at p most h (source.Join node rs) k (env_of p most h l) d)
      (machine_moves.state (machine.Join rs (length l) next) (frame p most h place file) h.below_m d.code)
  join_any [] n e node h l place next left le k d file0 file room w steady go = absurd (omega (arith, e))
  join_any (v ∷ vs) n e node h l place next left le k d file0 file room w steady go =
      join_same vs v node h l place next left le k d file0 file room w steady go machine.Idle

  -- a run of `..`
  pub concat_same : (e : Expr) (es : List Expr) (n last_register : ℕ) (h : Here p most) (l : List Slot) (from last to : ℕ)
      → out-ExprKind e.kind ≡ level.Concat es → length es ≡ suc n → last_register ≡ length l + n → OperandsRun es h l [] from last
      → Reads p most h last (insn.Concat (length l) (length l) last_register) to → length l ≤ h.proto.registers → ExprRuns p most e h l from to
  concat_same e es n last_register h l from last to kind many register runs reads room left le k d file w go =
      runs left le (of_expr e) k d file file _ (begin_row p most e _ h l k d kind) w (steady_all l file.registers)
      (λ i lt vs d2 file2 len w2 steady.
      let fr = frame p most h last file2 in
      target_goes p
      (row_here p most h last to file2 d2 (insn.Concat (length l) (length l) last_register) reads
      ∙ ap (λ m. machine_moves.now (machine.Join (reverse (values_in fr d2.code (length l) m)) (length l) to) fr h.below_m d2.code)
      (count_is (length vs) (len ∙ ap (λ m. length {A = Value} [] + m) many))
      ∙ ap (λ us. machine_moves.now (machine.Join (reverse us) (length l) to) fr h.below_m d2.code) (read_temps fr d2.code vs l w2.fits))
      (join_any (reverse vs) n (length-reverse vs ∙ len ∙ plain_sum) (of_expr e) h l last to i (omega (arith, le, lt)) k d2 file file2 room
      (pop_all vs l w2) steady (λ q lt2. go q (omega (arith, lt, lt2)))))
    where
      count_is : (m : ℕ) → m ≡ length {A = Value} [] + suc n → last_register + 1 - length l ≡ m
      count_is m e = omega (arith, register, e)

      plain_sum : length {A = Value} [] + length es ≡ suc n
      plain_sum = omega (arith, many)
