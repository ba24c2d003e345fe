-- Operators before one operand and between two.
use Rattle.std.proofs.Common.{Bool, true, false, not, ◌≡◌, ℕ, ◌≤◌, ℤ, pos, List, ◌∷◌, length, Some, refl, sym, ap, ◌∙◌, subst, arith}
use Rattle.syntax_tree.specs.declared.tree.BinOp.{BinOp}
use Rattle.syntax_tree.specs.declared.tree.BinOp.TheVariants as op
use Rattle.syntax_tree.specs.declared.tree.Expr.{Expr}
use Rattle.syntax_tree.specs.declared.tree.ExprKind.{out-ExprKind}
use Rattle.syntax_tree.specs.declared.tree.ExprKind.TheOpen as level
use Rattle.syntax_tree.specs.declared.tree.UnOp.{UnOp}
use Rattle.syntax_tree.specs.declared.tree.UnOp.TheVariants as unary
use Rattle.value_model.specs.declared.operator.ArithOp.{ArithOp}
use Rattle.value_model.specs.declared.operator.ArithOp.TheVariants as arith_op
use Rattle.value_model.specs.declared.operator.CompareOp.TheVariants as compare_op
use Rattle.value_model.specs.Values.{Value, Boolean, is_true}
use Rattle.value_model.specs.Choices.{Operation, Arith, Compare, Length}
use Rattle.value_model.specs.Metamethods.{choose}
use Rattle.source_meaning.specs.Levels.{ExprLevel}
use Rattle.source_meaning.specs.States.{of_expr}
use Rattle.source_meaning.specs.States as source
use Rattle.source_meaning.specs.Moves as source_moves
use Rattle.source_meaning.specs.Expressions as expressions
use Rattle.source_meaning.specs.Frames as frames
use Rattle.source_meaning.specs.Steps as source_steps
use Rattle.op_words.specs.declared.insn.Insn.{Insn}
use Rattle.op_words.specs.declared.insn.Insn.TheVariants as insn
use Rattle.machine_meaning.specs.Constants.{known}
use Rattle.machine_meaning.specs.States.{Val, held, value_in}
use Rattle.machine_meaning.specs.States as machine
use Rattle.machine_meaning.specs.Moves as machine_moves
use Rattle.machine_meaning.specs.Effects as effects
use Rattle.machine_meaning.specs.Instructions.{row}
use Rattle.machine_meaning.specs.Steps as machine_steps
use Rattle.code_simulation.specs.Slots.{Slot, Steady}
use Rattle.code_simulation.specs.Relation.{Dyn, cells_m, store_s, store_m, Setting}
use Rattle.code_simulation.proofs.Along.{CallsGo, File, Here, inside, frame, env_of, Reads, source_at, machine_at, Has, Same, Receives}
use Rattle.code_simulation.proofs.Parts.{Forward, chosen, Sight, in_register, constant, over, ExprRuns, OperandRuns, Stays, Operates, AnswerRuns, WithAnswer}
use Rattle.code_simulation.proofs.Names.{steady_on}
use Rattle.code_simulation.proofs.World.{pop}
use Rattle.code_simulation.proofs.Moving.{source_goes, target_goes}
use Rattle.code_simulation.proofs.Registers.{row_here, given}
use Rattle.code_simulation.proofs.Operations.{first_is, jump_is, operation_here, value_here}

-- an operator between two operands, with its operation, and what its outcome is for
pub record IsOperation (o : BinOp) (operation : Value → Value → Operation) (purpose : source.Purpose) : Type 0 where
  pub begins : (a b : Expr) (node : source.Node) (h : source_moves.Here) (k : List source.Frame) (env : source.Environment) (w : source.World)
      → expressions.binary o a b node h k env w ≡ source_moves.now (source.Evaluate a) h (source.LeftOperand node o b ∷ k) env w
  pub operates : (v u : Value) → expressions.operation o v u ≡ Some (operation v u)
  pub wants : expressions.purpose o ≡ purpose

pub add_is : IsOperation op.Add (Arith arith_op.Add) (source.Wants source.One)
add_is = record { begins = λ a b node h k env w. refl; operates = λ v u. refl; wants = refl }

pub sub_is : IsOperation op.Sub (Arith arith_op.Sub) (source.Wants source.One)
sub_is = record { begins = λ a b node h k env w. refl; operates = λ v u. refl; wants = refl }

pub mul_is : IsOperation op.Mul (Arith arith_op.Mul) (source.Wants source.One)
mul_is = record { begins = λ a b node h k env w. refl; operates = λ v u. refl; wants = refl }

pub div_is : IsOperation op.Div (Arith arith_op.Div) (source.Wants source.One)
div_is = record { begins = λ a b node h k env w. refl; operates = λ v u. refl; wants = refl }

pub idiv_is : IsOperation op.Idiv (Arith arith_op.Idiv) (source.Wants source.One)
idiv_is = record { begins = λ a b node h k env w. refl; operates = λ v u. refl; wants = refl }

pub mod_is : IsOperation op.Mod (Arith arith_op.Mod) (source.Wants source.One)
mod_is = record { begins = λ a b node h k env w. refl; operates = λ v u. refl; wants = refl }

pub pow_is : IsOperation op.Pow (Arith arith_op.Pow) (source.Wants source.One)
pow_is = record { begins = λ a b node h k env w. refl; operates = λ v u. refl; wants = refl }

pub eq_is : IsOperation op.Eq (Compare compare_op.Eq) (source.Compares false)
eq_is = record { begins = λ a b node h k env w. refl; operates = λ v u. refl; wants = refl }

pub ne_is : IsOperation op.Ne (Compare compare_op.Eq) (source.Compares true)
ne_is = record { begins = λ a b node h k env w. refl; operates = λ v u. refl; wants = refl }

pub lt_is : IsOperation op.Lt (Compare compare_op.Lt) (source.Compares false)
lt_is = record { begins = λ a b node h k env w. refl; operates = λ v u. refl; wants = refl }

pub le_is : IsOperation op.Le (Compare compare_op.Le) (source.Compares false)
le_is = record { begins = λ a b node h k env w. refl; operates = λ v u. refl; wants = refl }

-- the greater is that than which the other is less
pub gt_is : IsOperation op.Gt (λ v u. Compare compare_op.Lt u v) (source.Compares false)
gt_is = record { begins = λ a b node h k env w. refl; operates = λ v u. refl; wants = refl }

pub ge_is : IsOperation op.Ge (λ v u. Compare compare_op.Le u v) (source.Compares false)
ge_is = record { begins = λ a b node h k env w. refl; operates = λ v u. refl; wants = refl }

module _ (p : Setting) (most : ℕ) where
  -- ---- instructions that operate

  -- on two registers
  pub registers_operate : (o : ArithOp) (h : Here p most) (i : Insn) (place a b to next : ℕ) → Reads p most h place i next
      → ((f : machine.Frame) (fs : List machine.Frame) (w : machine.World)
      → row p.chunk h.proto.code i next f fs w ≡ effects.calculate o (value_in f w a) (value_in f w b) to next f fs w)
      → Operates p most h place (Arith o) (in_register a) (in_register b) to next
  registers_operate o h i place a b to next r is v u d file x y =
      row_here p most h place next file d i r ∙ is (frame p most h place file) h.below_m d.code
      ∙ ap (λ z. effects.calculate o (held (cells_m d) z) (held (cells_m d) (file.registers b)) to next (frame p most h place file) h.below_m d.code) x
      ∙ ap (λ z. effects.calculate o v (held (cells_m d) z) to next (frame p most h place file) h.below_m d.code) y

  -- on a register and a constant
  pub right_constant_operates : (o : ArithOp) (h : Here p most) (i : Insn) (place a c to next : ℕ) (known_value : Value) → Reads p most h place i next
      → ((f : machine.Frame) (fs : List machine.Frame) (w : machine.World)
      → row p.chunk h.proto.code i next f fs w ≡ effects.with_constant (known p.chunk f.proto (pos c))
      (λ v. effects.calculate o (value_in f w a) v to next) f fs w) → known p.chunk h.number (pos c) ≡ Some known_value
      → Operates p most h place (Arith o) (in_register a) (constant known_value) to next
  right_constant_operates o h i place a c to next known_value r is e v u d file x y =
      row_here p most h place next file d i r ∙ is (frame p most h place file) h.below_m d.code
      ∙ ap (λ z. effects.with_constant z (λ v. effects.calculate o (held (cells_m d) (file.registers a)) v to next)
      (frame p most h place file) h.below_m d.code) (e ∙ ap Some (sym y))
      ∙ ap (λ z. effects.calculate o (held (cells_m d) z) u to next (frame p most h place file) h.below_m d.code) x

  -- on a constant and a register
  pub left_constant_operates : (o : ArithOp) (h : Here p most) (i : Insn) (place c b to next : ℕ) (known_value : Value) → Reads p most h place i next
      → ((f : machine.Frame) (fs : List machine.Frame) (w : machine.World)
      → row p.chunk h.proto.code i next f fs w ≡ effects.with_constant (known p.chunk f.proto (pos c))
      (λ v. effects.calculate o v (value_in f w b) to next) f fs w) → known p.chunk h.number (pos c) ≡ Some known_value
      → Operates p most h place (Arith o) (constant known_value) (in_register b) to next
  left_constant_operates o h i place c b to next known_value r is e v u d file x y =
      row_here p most h place next file d i r ∙ is (frame p most h place file) h.below_m d.code
      ∙ ap (λ z. effects.with_constant z (λ v. effects.calculate o v (held (cells_m d) (file.registers b)) to next)
      (frame p most h place file) h.below_m d.code) (e ∙ ap Some (sym x))
      ∙ ap (λ z. effects.calculate o v (held (cells_m d) z) to next (frame p most h place file) h.below_m d.code) y

  -- ---- operands

  -- without the operand's own register
  pub under : {i : ℕ} (own : Bool) (v : Value) (h : Here p most) (l : List Slot) (d : Dyn) (file : File) → Has p most h i (over own v l) d file
      → Has p most h i l d file
  under true v h l d file w = pop w
  under false v h l d file w = w

  -- what follows where both operands are given, and the instruction sees them
  abbrev pub WithBoth : Here p most → ℕ → source.Node → BinOp → List Slot → machine.Registers → List source.Frame → (to : ℕ)
      → (left_sees right_sees : Sight) → Type 0
  WithBoth h left node o l regs k to left_sees right_sees =
      (i : ℕ) → i ≤ left → (v u : Value) (d : Dyn) (file : File) → Has p most h i l d file → left_sees file.registers v → right_sees file.registers u
      → Steady l regs file.registers → Same p most h i (source.Give u) (source.RightOperand node o v ∷ k) l d to file

  -- both operands are evaluated, from the left
  pub both_operands : (o : BinOp) (operation : Value → Value → Operation) (purpose : source.Purpose) (e a b : Expr) (own1 : Bool) (sees1 : Sight)
      (own2 : Bool) (sees2 : Sight) (h : Here p most) (l : List Slot) (from mid to : ℕ) → IsOperation o operation purpose
      → out-ExprKind e.kind ≡ level.Binary o a b → OperandRuns p most a h l from mid own1 sees1 → Stays p most h l own1 sees1
      → ((v : Value) → OperandRuns p most b h (over own1 v l) mid to own2 sees2) → (left : ℕ) → left ≤ most
      → (k : List source.Frame) (d : Dyn) (file : File) → Has p most h left l d file → WithBoth h left (of_expr e) o l file.registers k to sees1 sees2
      → Same p most h left (source.Evaluate e) k l d from file
  both_operands o operation purpose e a b true sees1 own2 sees2 h l from mid to is kind a_runs stays b_runs left le k d file w go =
      source_goes p (ap (λ (y : ExprLevel). expressions.begin p.texts y (of_expr e) (inside p most h) k (env_of p most h l) d.script) kind
      ∙ is.begins a b (of_expr e) (inside p most h) k (env_of p most h l) d.script)
      (a_runs left le (source.LeftOperand (of_expr e) o b ∷ k) d file w
      (λ i lt v d1 file1 w1 see1 steady1. source_goes p refl
      (b_runs v i (omega (arith, le, lt)) (source.RightOperand (of_expr e) o v ∷ k) d1 file1 w1
      (λ j lt2 u d2 file2 w2 see2 steady2.
      let w3 = under own2 u h (over true v l) d2 file2 w2 in
      go j (omega (arith, lt, lt2)) v u d2 file2 (under true v h l d2 file2 w3) (stays j v d2 file1.registers file2 see1 w3 steady2) see2
      (steady_on l _ _ _ steady1 steady2)))))
  both_operands o operation purpose e a b false sees1 own2 sees2 h l from mid to is kind a_runs stays b_runs left le k d file w go =
      source_goes p (ap (λ (y : ExprLevel). expressions.begin p.texts y (of_expr e) (inside p most h) k (env_of p most h l) d.script) kind
      ∙ is.begins a b (of_expr e) (inside p most h) k (env_of p most h l) d.script)
      (a_runs left le (source.LeftOperand (of_expr e) o b ∷ k) d file w
      (λ i lt v d1 file1 w1 see1 steady1. source_goes p refl
      (b_runs v i (omega (arith, le, lt)) (source.RightOperand (of_expr e) o v ∷ k) d1 file1 w1
      (λ j lt2 u d2 file2 w2 see2 steady2.
      let w3 = under own2 u h (over false v l) d2 file2 w2 in
      go j (omega (arith, lt, lt2)) v u d2 file2 (under false v h l d2 file2 w3) (stays j v d2 file1.registers file2 see1 w3 steady2) see2
      (steady_on l _ _ _ steady1 steady2)))))

  -- the script's row where both operands are given
  pub operate_row : (o : BinOp) (operation : Value → Value → Operation) (purpose : source.Purpose) (node : source.Node) (v u : Value)
      (h : Here p most) (l : List Slot) (k : List source.Frame) (d : Dyn) → IsOperation o operation purpose
      → source_steps.step p.texts (source_at p most h (source.Give u) (source.RightOperand node o v ∷ k) (env_of p most h l) d) ≡ source_moves.settle
      (choose (operation v u) (store_s d)) node purpose (inside p most h) k (env_of p most h l) d.script
  operate_row o operation purpose node v u h l k d is =
      ap (λ x. expressions.operate x (expressions.purpose o) node (inside p most h) k (env_of p most h l) d.script) (is.operates v u)
      ∙ ap (λ q. expressions.operate (Some (operation v u)) q node (inside p most h) k (env_of p most h l) d.script) is.wants

  -- ---- comparisons as jumps

  -- where a comparison jumps, by what is wanted
  abbrev pub jumps_on : (opposite jumps : Bool) → Bool
  jumps_on false jumps = jumps
  jumps_on true jumps = not jumps

  pub places_agree : (opposite jumps t : Bool) (target next : ℕ) → chosen (frames.answer opposite t) (chosen (jumps_on opposite jumps) target next)
      (chosen (jumps_on opposite jumps) next target) ≡ chosen (effects.agrees jumps t) target next
  places_agree false true true target next = refl
  places_agree false true false target next = refl
  places_agree false false true target next = refl
  places_agree false false false target next = refl
  places_agree true true true target next = refl
  places_agree true true false target next = refl
  places_agree true false true target next = refl
  places_agree true false false target next = refl

  -- the machine goes on by a test
  pub branch_is : (h : Here p most) (q : machine.Purpose) (t : Bool) (place target next : ℕ) (by : ℤ) (file : File) (w : machine.World)
      → Forward place by target → machine_moves.branch t by next (machine_moves.waits_for q (frame p most h place file)) h.below_m w
      ≡ machine_moves.now machine.Run (frame p most h (chosen t target next) file) h.below_m w
  branch_is h q true place target next by file w j = jump_is j (machine_moves.waits_for q (frame p most h place file)) h.below_m w
  branch_is h q false place target next by file w j = refl

  -- what a comparison's answer leads to
  pub receives_answer : (opposite jumps : Bool) (h : Here p most) (l : List Slot) (left : ℕ) (node : source.Node) (k : List source.Frame)
      (place target next : ℕ) (by : ℤ) (file0 : File) → Forward place by target
      → WithAnswer p most h left l file0.registers k (chosen (jumps_on opposite jumps) target next) (chosen (jumps_on opposite jumps) next target)
      → Receives p most h left l file0.registers node (source.Compares opposite) k (machine.Compares jumps by next) place
  receives_answer opposite jumps h l left node k place target next by file0 j go i lt vs d file w steady =
      let t = is_true (source_moves.first vs) in
      source_goes p refl
      (target_goes p
      (ap (λ v. machine_moves.branch (effects.agrees jumps (is_true v)) by next
      (machine_moves.waits_for (machine.Compares jumps by next) (frame p most h place file)) h.below_m d.code) (sym (first_is vs))
      ∙ branch_is h (machine.Compares jumps by next) (effects.agrees jumps t) place target next by file d.code j)
      (subst (λ n. Same p most h i (source.Give (Boolean (frames.answer opposite t))) k l d n file) (places_agree opposite jumps t target next)
      (go i lt (frames.answer opposite t) d file w steady)))

module _ (p : Setting) (most : ℕ) (calls : (i : ℕ) → i ≤ most → CallsGo p i) where
  -- an operator between two operands, whose value is put into the first free register
  pub binary_same : (o : BinOp) (operation : Value → Value → Operation) (e a b : Expr) (own1 : Bool) (sees1 : Sight) (own2 : Bool) (sees2 : Sight)
      (h : Here p most) (l : List Slot) (from mid last to : ℕ) → IsOperation o operation (source.Wants source.One)
      → out-ExprKind e.kind ≡ level.Binary o a b → OperandRuns p most a h l from mid own1 sees1 → Stays p most h l own1 sees1
      → ((v : Value) → OperandRuns p most b h (over own1 v l) mid last own2 sees2) → Operates p most h last operation sees1 sees2 (length l) to
      → length l ≤ h.proto.registers → ExprRuns p most e h l from to
  binary_same o operation e a b own1 sees1 own2 sees2 h l from mid last to is kind a_runs stays b_runs operates room left le k d file w go =
      both_operands p most o operation (source.Wants source.One) e a b own1 sees1 own2 sees2 h l from mid last is kind a_runs stays b_runs left le k d file w
      (λ i lt v u d2 file2 w2 see1 see2 steady.
      value_here p most calls (operation v u) h l i (omega (arith, le, lt)) (of_expr e) k last to file file2 d2 room w2 steady
      (λ j lt2. go j (omega (arith, lt, lt2))) _ _
      (operate_row p most o operation (source.Wants source.One) (of_expr e) v u h l k d2 is)
      (operates v u d2 file2 see1 see2))

  -- a comparison, as jumps by its answer
  pub compare_same : (o : BinOp) (operation : Value → Value → Operation) (opposite jumps : Bool) (by : ℤ) (e a b : Expr) (own1 : Bool) (sees1 : Sight)
      (own2 : Bool) (sees2 : Sight) (h : Here p most) (l : List Slot) (from mid last target next : ℕ)
      → IsOperation o operation (source.Compares opposite) → out-ExprKind e.kind ≡ level.Binary o a b → OperandRuns p most a h l from mid own1 sees1
      → Stays p most h l own1 sees1 → ((v : Value) → OperandRuns p most b h (over own1 v l) mid last own2 sees2)
      → ((v u : Value) (d : Dyn) (file : File) → sees1 file.registers v → sees2 file.registers u
      → machine_steps.step p.chunk (machine_at p most h last file d) ≡ machine_moves.settle (choose (operation v u) (store_m d))
      (machine.Compares jumps by next) (frame p most h last file) h.below_m d.code) → Forward last by target → length l ≤ h.proto.registers
      → AnswerRuns p most e h l from (chosen (jumps_on p most opposite jumps) target next) (chosen (jumps_on p most opposite jumps) next target)
  compare_same o operation opposite jumps by e a b own1 sees1 own2 sees2 h l from mid last target next is kind a_runs stays b_runs compares forward
      room left le k d file w go =
      both_operands p most o operation (source.Compares opposite) e a b own1 sees1 own2 sees2 h l from mid last is kind a_runs stays b_runs left le k d file w
      (λ i lt v u d2 file2 w2 see1 see2 steady.
      operation_here p most calls (operation v u) h l i (omega (arith, le, lt)) (of_expr e) (source.Compares opposite) k
      (machine.Compares jumps by next) last file file2 d2 room w2 steady
      (receives_answer p most opposite jumps h l i (of_expr e) k last target next by file forward (λ j lt2. go j (omega (arith, lt, lt2)))) _ _
      (operate_row p most o operation (source.Compares opposite) (of_expr e) v u h l k d2 is)
      (compares v u d2 file2 see1 see2))

  -- ---- one operand

  -- the operand is evaluated, and seen in a register
  pub one_operand : (o : UnOp) (e inner : Expr) (own : Bool) (r : ℕ) (h : Here p most) (l : List Slot) (from to : ℕ)
      → out-ExprKind e.kind ≡ level.Unary o inner → OperandRuns p most inner h l from to own (in_register r) → (left : ℕ) → left ≤ most
      → (k : List source.Frame) (d : Dyn) (file : File) → Has p most h left l d file
      → ((i : ℕ) → i ≤ left → (v : Value) (d2 : Dyn) (file2 : File) → Has p most h i l d2 file2 → file2.registers r ≡ Val v
      → Steady l file.registers file2.registers → Same p most h i (source.Give v) (source.Operand (of_expr e) o ∷ k) l d2 to file2)
      → Same p most h left (source.Evaluate e) k l d from file
  one_operand o e inner own r h l from to kind runs left le k d file w go =
      source_goes p (ap (λ (y : ExprLevel). expressions.begin p.texts y (of_expr e) (inside p most h) k (env_of p most h l) d.script) kind)
      (runs left le (source.Operand (of_expr e) o ∷ k) d file w
      (λ i lt v d2 file2 w2 see steady. go i lt v d2 file2 (under p most own v h l d2 file2 w2) see steady))

  -- `-` before an operand
  pub minus_same : (e inner : Expr) (own : Bool) (r : ℕ) (h : Here p most) (l : List Slot) (from last to : ℕ)
      → out-ExprKind e.kind ≡ level.Unary unary.Minus inner → OperandRuns p most inner h l from last own (in_register r)
      → Reads p most h last (insn.Minus (length l) r) to → length l ≤ h.proto.registers → ExprRuns p most e h l from to
  minus_same e inner own r h l from last to kind runs reads room left le k d file w go =
      one_operand unary.Minus e inner own r h l from last kind runs left le k d file w
      (λ i lt v d2 file2 w2 see steady.
      value_here p most calls (Arith arith_op.Unm v v) h l i (omega (arith, le, lt)) (of_expr e) k last to file file2 d2 room w2 steady
      (λ j lt2. go j (omega (arith, lt, lt2))) _ _ refl
      (row_here p most h last to file2 d2 (insn.Minus (length l) r) reads
      ∙ ap (λ x. effects.calculate arith_op.Unm (held (cells_m d2) x) (held (cells_m d2) x) (length l) to (frame p most h last file2) h.below_m d2.code) see))

  -- `#` before an operand
  pub length_same : (e inner : Expr) (own : Bool) (r : ℕ) (h : Here p most) (l : List Slot) (from last to : ℕ)
      → out-ExprKind e.kind ≡ level.Unary unary.Len inner → OperandRuns p most inner h l from last own (in_register r)
      → Reads p most h last (insn.Length (length l) r) to → length l ≤ h.proto.registers → ExprRuns p most e h l from to
  length_same e inner own r h l from last to kind runs reads room left le k d file w go =
      one_operand unary.Len e inner own r h l from last kind runs left le k d file w
      (λ i lt v d2 file2 w2 see steady.
      value_here p most calls (Length v) h l i (omega (arith, le, lt)) (of_expr e) k last to file file2 d2 room w2 steady
      (λ j lt2. go j (omega (arith, lt, lt2))) _ _ refl
      (row_here p most h last to file2 d2 (insn.Length (length l) r) reads
      ∙ ap (λ x. machine_moves.settle (choose (Length (held (cells_m d2) x)) (store_m d2)) (machine.Into (length l) to)
      (frame p most h last file2) h.below_m d2.code) see))

  -- `not` before an operand
  pub not_same : (e inner : Expr) (own : Bool) (r : ℕ) (h : Here p most) (l : List Slot) (from last to : ℕ)
      → out-ExprKind e.kind ≡ level.Unary unary.Not inner → OperandRuns p most inner h l from last own (in_register r)
      → Reads p most h last (insn.Not (length l) r) to → ExprRuns p most e h l from to
  not_same e inner own r h l from last to kind runs reads left le k d file w go =
      one_operand unary.Not e inner own r h l from last kind runs left le k d file w
      (λ i lt v d2 file2 w2 see steady.
      source_goes p refl
      (given p most h machine.Idle l to last i k (Boolean (not (is_true v))) d2 file file2 _ w2 steady
      (row_here p most h last to file2 d2 (insn.Not (length l) r) reads
      ∙ ap (λ x. machine_moves.give (length l) (Boolean (not (is_true (held (cells_m d2) x)))) to (frame p most h last file2) h.below_m d2.code) see)
      (λ j lt2. go j (omega (arith, lt, lt2)))))
