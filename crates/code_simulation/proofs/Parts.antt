-- What is shown of each part of a script: where its code stands from one place to another, the run of the part and that of the code go
-- along together, whatever follows.
use Rattle.std.specs.Prelude.{◌≡◌, ◌≤◌, ◌+◌, ℕ, ℤ, pos, Bool, true, false, List, ◌∷◌, ◌++◌, length, if◌then◌else◌}
use Rattle.syntax_tree.specs.declared.tree.Expr.{Expr}
use Rattle.syntax_tree.specs.declared.tree.ExprArm.{ExprArm}
use Rattle.value_model.specs.Values.{Value, Boolean, is_true}
use Rattle.value_model.specs.Choices.{Operation}
use Rattle.value_model.specs.Metamethods.{choose}
use Rattle.source_meaning.specs.States as source
use Rattle.source_meaning.specs.Expressions as expressions
use Rattle.source_meaning.specs.Steps as source_steps
use Rattle.machine_meaning.specs.States.{Registers, Val}
use Rattle.machine_meaning.specs.States as machine
use Rattle.machine_meaning.specs.Moves as machine_moves
use Rattle.machine_meaning.specs.Steps as machine_steps
use Rattle.code_simulation.specs.Slots.{Slot, Temp, temps, Steady}
use Rattle.code_simulation.specs.Relation.{Dyn, Setting, store_m}
use Rattle.code_simulation.proofs.Along.{Alike, Counts, File, Here, inside, frame, env_of, machine_at, Has, Same, WithValue, WithAll}

-- a jump that charges nothing leads on to a place
pub record Forward (place : ℕ) (by : ℤ) (to : ℕ) : Type 0 where
  pub words : ℕ
  pub by_words : by ≡ pos words
  pub reaches : place + 1 + words ≡ to

-- the place to go on at
abbrev pub chosen : Bool → (on_true on_false : ℕ) → ℕ
chosen b on_true on_false = if b then on_true else on_false

-- How an instruction sees a value: in a register, or as a constant
abbrev pub Sight : Type 1
Sight = Registers → Value → Type 0

abbrev pub in_register : ℕ → Sight
in_register r regs v = regs r ≡ Val v

abbrev pub constant : Value → Sight
constant c regs v = v ≡ c

-- a value that has a register of its own stands above
abbrev pub over : Bool → Value → List Slot → List Slot
over true v l = Temp v ∷ l
over false v l = l

module _ (p : Setting) (most : ℕ) where
  -- ---- one value

  -- the value of an expression comes to stand in the first free register
  abbrev pub ExprRuns : Expr → Here p most → List Slot → (from to : ℕ) → Type 0
  ExprRuns e h l from to =
      (left : ℕ) → left ≤ most → (k : List source.Frame) (d : Dyn) (file : File) → Has p most h left l d file
      → WithValue p most h left l file.registers k to → Same p most h left (source.Evaluate e) k l d from file

  -- an operand's value is given, which the instruction sees so
  abbrev pub WithOperand : Here p most → ℕ → List Slot → Registers → List source.Frame → (to : ℕ) → (own : Bool) → Sight → Type 0
  WithOperand h left l regs k to own sees =
      (i : ℕ) → i ≤ left → (v : Value) (d : Dyn) (file : File) → Has p most h i (over own v l) d file → sees file.registers v
      → Steady l regs file.registers → Same p most h i (source.Give v) k l d to file

  abbrev pub OperandRuns : Expr → Here p most → List Slot → (from to : ℕ) → (own : Bool) → Sight → Type 0
  OperandRuns e h l from to own sees =
      (left : ℕ) → left ≤ most → (k : List source.Frame) (d : Dyn) (file : File) → Has p most h left l d file
      → WithOperand h left l file.registers k to own sees → Same p most h left (source.Evaluate e) k l d from file

  -- it is still seen where another operand was evaluated
  abbrev pub Stays : Here p most → List Slot → (own : Bool) → Sight → Type 0
  Stays h l own sees =
      (i : ℕ) (v : Value) (d : Dyn) (regs : Registers) (file : File) → sees regs v → Has p most h i (over own v l) d file
      → Steady l regs file.registers → sees file.registers v

  -- the instruction at a place operates on two operands, and puts what comes of it into a register
  abbrev pub Operates : Here p most → (place : ℕ) → (Value → Value → Operation) → (left_sees right_sees : Sight) → (to next : ℕ) → Type 0
  Operates h place o left_sees right_sees to next =
      (v u : Value) (d : Dyn) (file : File) → left_sees file.registers v → right_sees file.registers u
      → machine_steps.step p.chunk (machine_at p most h place file d) ≡ machine_moves.settle (choose (o v u) (store_m d)) (machine.Into to next)
      (frame p most h place file) h.below_m d.code

  -- ---- a condition

  -- a value is given, and the code goes on by its truth
  abbrev pub WithTruth : Here p most → ℕ → List Slot → Registers → List source.Frame → (on_true on_false : ℕ) → Type 0
  WithTruth h left l regs k on_true on_false =
      (i : ℕ) → i ≤ left → (v : Value) (d : Dyn) (file : File) → Has p most h i l d file → Steady l regs file.registers → (b : Bool) → is_true v ≡ b
      → Same p most h i (source.Give v) k l d (chosen b on_true on_false) file

  abbrev pub CondRuns : Expr → Here p most → List Slot → (from on_true on_false : ℕ) → Type 0
  CondRuns e h l from on_true on_false =
      (left : ℕ) → left ≤ most → (k : List source.Frame) (d : Dyn) (file : File) → Has p most h left l d file
      → WithTruth h left l file.registers k on_true on_false → Same p most h left (source.Evaluate e) k l d from file

  -- the answer of a comparison is given
  abbrev pub WithAnswer : Here p most → ℕ → List Slot → Registers → List source.Frame → (on_true on_false : ℕ) → Type 0
  WithAnswer h left l regs k on_true on_false =
      (i : ℕ) → i ≤ left → (b : Bool) (d : Dyn) (file : File) → Has p most h i l d file → Steady l regs file.registers
      → Same p most h i (source.Give (Boolean b)) k l d (chosen b on_true on_false) file

  abbrev pub AnswerRuns : Expr → Here p most → List Slot → (from on_true on_false : ℕ) → Type 0
  AnswerRuns e h l from on_true on_false =
      (left : ℕ) → left ≤ most → (k : List source.Frame) (d : Dyn) (file : File) → Has p most h left l d file
      → WithAnswer h left l file.registers k on_true on_false → Same p most h left (source.Evaluate e) k l d from file

  -- the arms of an `if` expression
  abbrev pub PickRuns : List ExprArm → Expr → Here p most → List Slot → (from to : ℕ) → Type 0
  PickRuns arms other h l from to =
      (left : ℕ) → left ≤ most → (k : List source.Frame) (d : Dyn) (file : File) → Has p most h left l d file
      → WithValue p most h left l file.registers k to → Same p most h left (source.Pick arms other) k l d from file

  -- ---- lists

  -- all values of an expression, of which some come to stand in registers, counted so
  abbrev pub AllRuns : Expr → Here p most → List Slot → (from to count : ℕ) → (List Value → List Value) → Type 0
  AllRuns e h l from to count take =
      (left : ℕ) → left ≤ most → (k : List source.Frame) (d : Dyn) (file : File) → Has p most h left l d file
      → WithAll p most h left l file.registers k to count take → Same p most h left (source.EvaluateAll e) k l d from file

  -- the values of the rest of a list are given behind those that are there
  abbrev pub WithRest : Here p most → ℕ → List Value → List Slot → Registers → List source.Frame → (to count : ℕ) → (List Value → List Value) → Type 0
  WithRest h left got l regs k to count take =
      (i : ℕ) → i ≤ left → (vs : List Value) (d : Dyn) (file : File) → Has p most h i (temps (take vs) l) d file
      → Counts count (length (take vs)) (length l) file.top → Steady l regs file.registers
      → Same p most h i (source.GiveAll (got ++ vs)) k l d to file

  -- the rest of a list, from any state of the script in which it is begun
  abbrev pub ListRuns : List Expr → Here p most → List Slot → (from to count : ℕ) → (List Value → List Value) → Type 0
  ListRuns es h l from to count take =
      (left : ℕ) → left ≤ most → (got : List Value) (k : List source.Frame) (d : Dyn) (file : File) (s : source.State)
      → source_steps.step p.texts s ≡ expressions.list got es (inside p most h) k (env_of p most h l) d.script → Has p most h left l d file
      → WithRest h left got l file.registers k to count take → Alike p left s (machine_at p most h from file d)
