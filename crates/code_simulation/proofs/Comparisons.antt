-- Comparisons: of two registers, and with a constant, for which no metamethod is asked.
use Rattle.std.proofs.Common.{Bool, false, ◌≡◌, ℕ, ℤ, pos, List, [], ◌∷◌, Some, refl, ap, ◌∙◌, subst}
use Rattle.std.specs.Prelude.{nat_eq, ◌^◌, ◌/◌, ◌%◌, codes, if◌then◌else◌}
use Rattle.syntax_tree.specs.declared.tree.BinOp.{BinOp}
use Rattle.syntax_tree.specs.declared.tree.Expr.{Expr}
use Rattle.syntax_tree.specs.declared.tree.ExprKind.{out-ExprKind}
use Rattle.syntax_tree.specs.declared.tree.ExprKind.TheOpen as level
use Rattle.value_model.specs.declared.operator.CompareOp.{CompareOp}
use Rattle.value_model.specs.declared.operator.CompareOp.TheVariants as compare_op
use Rattle.value_model.specs.Values.{Value, Nil, Boolean, Number, Text, Table}
use Rattle.value_model.specs.Store.{Store}
use Rattle.value_model.specs.Tables.{same}
use Rattle.value_model.specs.Choices.{Compare, Done}
use Rattle.value_model.specs.Metamethods.{choose, compare, call_or_else, metamethod_of_two, is_different_table}
use Rattle.source_meaning.specs.States.{of_expr}
use Rattle.source_meaning.specs.States as source
use Rattle.source_meaning.specs.Moves as source_moves
use Rattle.source_meaning.specs.Frames as frames
use Rattle.op_words.specs.declared.insn.Insn.{Insn}
use Rattle.op_words.specs.declared.insn.Insn.TheVariants as insn
use Rattle.machine_meaning.specs.Instructions.{row}
use Rattle.machine_meaning.specs.Constants.{known}
use Rattle.machine_meaning.specs.States.{held}
use Rattle.machine_meaning.specs.States as machine
use Rattle.machine_meaning.specs.Moves as machine_moves
use Rattle.machine_meaning.specs.Effects as effects
use Rattle.machine_meaning.specs.Steps as machine_steps
use Rattle.code_simulation.specs.Slots.{Slot}
use Rattle.code_simulation.specs.Relation.{Dyn, cells_m, store_s, store_m, Setting}
use Rattle.code_simulation.proofs.Along.{File, Here, inside, frame, env_of, Reads, machine_at, Same}
use Rattle.code_simulation.proofs.Parts.{Forward, chosen, in_register, constant, over, OperandRuns, Stays, AnswerRuns}
use Rattle.code_simulation.proofs.Moving.{source_goes, target_goes}
use Rattle.code_simulation.proofs.Registers.{row_here}
use Rattle.code_simulation.proofs.Conditions.{boolean_is}
use Rattle.code_simulation.proofs.Operators.{IsOperation, operate_row, both_operands, jumps_on, places_agree, branch_is}

-- constants that stand in instructions are no tables
pub data IsPlain : Value → Type 0 where
  plain_nil : IsPlain Nil
  plain_boolean : {b : Bool} → IsPlain (Boolean b)
  plain_number : {n : ℤ} → IsPlain (Number n)
  plain_text : {bs : List ℕ} → IsPlain (Text bs)

never_tables : (v c : Value) → IsPlain c → is_different_table v c ≡ false
never_tables (Table t) _ plain_nil = refl
never_tables (Table t) _ plain_boolean = refl
never_tables (Table t) _ plain_number = refl
never_tables (Table t) _ plain_text = refl
never_tables v c plain = refl

-- such a comparison is decided by the values alone
choose_plain : (v c : Value) (s : Store) → IsPlain c → choose (Compare compare_op.Eq v c) s
    ≡ record { outcome = Done (Boolean (same v c)); asked = 0; store = s }
unfolding choose compare
choose_plain v c s plain =
    ap (λ (b : Bool). record {
      outcome = if b then call_or_else (metamethod_of_two s v c (codes "__eq")) (v ∷ c ∷ []) (Done (Boolean false)) else Done
          (Boolean (same v c));
      asked = 0;
      store = s;
    }) (never_tables v c plain)

module _ (p : Setting) (most : ℕ) where
  -- the code jumps by a comparison with a constant
  abbrev pub TestsConstant : Here p most → (place r : ℕ) → Value → (jumps : Bool) → (by : ℤ) → (next : ℕ) → Type 0
  TestsConstant h place r c jumps by next =
      (v : Value) (d : Dyn) (file : File) → in_register r file.registers v
      → machine_steps.step p.chunk (machine_at p most h place file d) ≡ machine_moves.branch (effects.agrees jumps (same v c)) by next
      (frame p most h place file) h.below_m d.code

  -- with nil and with truth values, and with constants of the function
  pub tests_nil : (h : Here p most) (place r x : ℕ) (by : ℤ) (next : ℕ) → Reads p most h place (insn.JumpXEqKNil r by x) next
      → TestsConstant h place r Nil (nat_eq (x / 2 ^ 31) 0) by next
  tests_nil h place r x by next reads v d file see =
      row_here p most h place next file d (insn.JumpXEqKNil r by x) reads
      ∙ ap (λ y. effects.jumps_with (x / 2 ^ 31) (held (cells_m d) y) Nil by next (frame p most h place file) h.below_m d.code) see

  pub tests_boolean : (h : Here p most) (place r x : ℕ) (by : ℤ) (next : ℕ) → Reads p most h place (insn.JumpXEqKB r by x) next
      → TestsConstant h place r (Boolean (nat_eq (x % 2) 1)) (nat_eq (x / 2 ^ 31) 0) by next
  tests_boolean h place r x by next reads v d file see =
      row_here p most h place next file d (insn.JumpXEqKB r by x) reads
      ∙ ap (λ y. effects.jumps_with (x / 2 ^ 31) (held (cells_m d) y) (Boolean (nat_eq (x % 2) 1)) by next (frame p most h place file) h.below_m d.code) see

  pub tests_number : (h : Here p most) (place r x : ℕ) (by : ℤ) (next : ℕ) (c : Value) → Reads p most h place (insn.JumpXEqKN r by x) next
      → known p.chunk h.number (pos (x % 2 ^ 24)) ≡ Some c → TestsConstant h place r c (nat_eq (x / 2 ^ 31) 0) by next
  tests_number h place r x by next c reads is v d file see =
      row_here p most h place next file d (insn.JumpXEqKN r by x) reads
      ∙ ap (λ o. effects.with_constant o (λ c. effects.jumps_with (x / 2 ^ 31) (held (cells_m d) (file.registers r)) c by next)
      (frame p most h place file) h.below_m d.code) is
      ∙ ap (λ y. effects.jumps_with (x / 2 ^ 31) (held (cells_m d) y) c by next (frame p most h place file) h.below_m d.code) see

  pub tests_text : (h : Here p most) (place r x : ℕ) (by : ℤ) (next : ℕ) (c : Value) → Reads p most h place (insn.JumpXEqKS r by x) next
      → known p.chunk h.number (pos (x % 2 ^ 24)) ≡ Some c → TestsConstant h place r c (nat_eq (x / 2 ^ 31) 0) by next
  tests_text h place r x by next c reads is v d file see =
      row_here p most h place next file d (insn.JumpXEqKS r by x) reads
      ∙ ap (λ o. effects.with_constant o (λ c. effects.jumps_with (x / 2 ^ 31) (held (cells_m d) (file.registers r)) c by next)
      (frame p most h place file) h.below_m d.code) is
      ∙ ap (λ y. effects.jumps_with (x / 2 ^ 31) (held (cells_m d) y) c by next (frame p most h place file) h.below_m d.code) see

  -- `==` and `~=` with a constant on the right
  pub constant_test_same : (o : BinOp) (opposite jumps : Bool) (by : ℤ) (e a b : Expr) (c : Value) (own1 : Bool) (r : ℕ) (h : Here p most)
      (l : List Slot) (from last target next : ℕ) → IsOperation o (Compare compare_op.Eq) (source.Compares opposite) → IsPlain c
      → out-ExprKind e.kind ≡ level.Binary o a b → OperandRuns p most a h l from last own1 (in_register r) → Stays p most h l own1 (in_register r)
      → ((v : Value) → OperandRuns p most b h (over own1 v l) last last false (constant c)) → TestsConstant h last r c jumps by next
      → Forward last by target → AnswerRuns p most e h l from (chosen (jumps_on p most opposite jumps) target next)
      (chosen (jumps_on p most opposite jumps) next target)
  constant_test_same o opposite jumps by e a b c own1 r h l from last target next is plain kind a_runs stays b_runs tests forward left le k d file w go =
      both_operands p most o (Compare compare_op.Eq) (source.Compares opposite) e a b own1 (in_register r) false
      (constant c) h l from last last is kind a_runs stays b_runs left le k d file w
      (λ i lt v u d2 file2 w2 see1 see2 steady.
      let t = same v c in
      source_goes p
      (operate_row p most o (Compare compare_op.Eq) (source.Compares opposite) (of_expr e) v u h l k d2 is
      ∙ ap (λ x. source_moves.settle (choose (Compare compare_op.Eq v x) (store_s d2)) (of_expr e) (source.Compares opposite) (inside p most h) k
      (env_of p most h l) d2.script) see2
      ∙ ap (λ x. source_moves.settle x (of_expr e) (source.Compares opposite) (inside p most h) k (env_of p most h l) d2.script)
      (choose_plain v c (store_s d2) plain))
      (source_goes p
      (ap (λ x. source_moves.now (source.Give (Boolean (frames.answer opposite x))) (inside p most h) k (env_of p most h l) d2.script) (boolean_is t))
      (target_goes p
      (tests v d2 file2 see1 ∙ branch_is p most h machine.Idle (effects.agrees jumps t) last target next by file2 d2.code forward)
      (subst (λ n. Same p most h i (source.Give (Boolean (frames.answer opposite t))) k l d2 n file2) (places_agree p most opposite jumps t target next)
      (go i lt (frames.answer opposite t) d2 file2 w2 steady)))))

  -- ---- comparisons of two registers

  -- in their order
  pub registers_compare : (o : CompareOp) (jumps : Bool) (h : Here p most) (i : Insn) (place a b next : ℕ) (by : ℤ) → Reads p most h place i next
      → ((f : machine.Frame) (fs : List machine.Frame) (w : machine.World)
      → row p.chunk h.proto.code i next f fs w ≡ effects.compare o (machine.value_in f w a) (machine.value_in f w b) jumps by next f fs w)
      → (v u : Value) (d : Dyn) (file : File) → in_register a file.registers v → in_register b file.registers u
      → machine_steps.step p.chunk (machine_at p most h place file d)
      ≡ machine_moves.settle (choose (Compare o v u) (store_m d)) (machine.Compares jumps by next) (frame p most h place file) h.below_m d.code
  registers_compare o jumps h i place a b next by reads is v u d file x y =
      row_here p most h place next file d i reads ∙ is (frame p most h place file) h.below_m d.code
      ∙ ap (λ z. effects.compare o (held (cells_m d) z) (held (cells_m d) (file.registers b)) jumps by next (frame p most h place file) h.below_m d.code) x
      ∙ ap (λ z. effects.compare o v (held (cells_m d) z) jumps by next (frame p most h place file) h.below_m d.code) y

  -- and turned round, as the greater of two is told by what is less
  pub registers_compare_turned : (o : CompareOp) (jumps : Bool) (h : Here p most) (i : Insn) (place a b next : ℕ) (by : ℤ) → Reads p most h place i next
      → ((f : machine.Frame) (fs : List machine.Frame) (w : machine.World)
      → row p.chunk h.proto.code i next f fs w ≡ effects.compare o (machine.value_in f w b) (machine.value_in f w a) jumps by next f fs w)
      → (v u : Value) (d : Dyn) (file : File) → in_register a file.registers v → in_register b file.registers u
      → machine_steps.step p.chunk (machine_at p most h place file d)
      ≡ machine_moves.settle (choose (Compare o u v) (store_m d)) (machine.Compares jumps by next) (frame p most h place file) h.below_m d.code
  registers_compare_turned o jumps h i place a b next by reads is v u d file x y =
      row_here p most h place next file d i reads ∙ is (frame p most h place file) h.below_m d.code
      ∙ ap (λ z. effects.compare o (held (cells_m d) (file.registers b)) (held (cells_m d) z) jumps by next (frame p most h place file) h.below_m d.code) x
      ∙ ap (λ z. effects.compare o (held (cells_m d) z) v jumps by next (frame p most h place file) h.below_m d.code) y
