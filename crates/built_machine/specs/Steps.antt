-- What the machine does, one instruction at a time: a row for each instruction.
use Rattle.std.specs.Prelude.{ℕ, ◌+◌, ℤ, pos, negsuc, ◌+ℤ◌, Bool, true, false, not, List, [], Option, Some, None, Ok, Err, option_map, slice_get, nat_eq}
use Rattle.op_words.specs.declared.insn.Insn.{Insn}
use Rattle.op_words.specs.declared.insn.Insn.TheVariants.{PrepVarargs, LoadN, LoadK, Move as MoveInsn, GetGlobal, Call, Return, Jump, JumpBack, JumpIfEq, JumpIfLe, JumpIfLt, JumpIfNotEq, JumpIfNotLe, JumpIfNotLt, Add, Sub, Mul}
use Rattle.op_words.specs.Decoding.{insn_at}
use Rattle.built_values.specs.declared.value.Value.{Value}
use Rattle.built_values.specs.declared.value.Value.TheVariants as value
use Rattle.built_values.specs.declared.end.End.TheVariants.{Ended, Stopped, Stuck}
use Rattle.built_values.specs.Runs.{Move, Goes, Shows, Charges, Ends}
use Rattle.built_values.specs.Operations.{Outcome, sum, difference, product, equal, less, less_or_equal, printed}
use Rattle.built_values.specs.Globals.{global}
use Rattle.built_machine.specs.declared.code.Constant.{Constant}
use Rattle.built_machine.specs.declared.code.Constant.TheVariants as constant
use Rattle.built_machine.specs.States.{Registers, put, State}

-- a table that is asked. No instruction of these asks one
pub data Look : Type 0 where
  asked : Look

-- an event is a line that is printed, without its end
abbrev pub Step : Type 0
Step = Move (List ℕ) Look State

-- the machine goes on at a place
abbrev pub at : ℕ → Registers → Step
at place regs = Goes [] (record { place = place; registers = regs })

abbrev pub stuck : Step
stuck = Ends [] Stuck

-- ---- loads and results

abbrev pub constant_at : List Constant → ℤ → Option Constant
constant_at ks (pos k) = slice_get ks k
constant_at ks (negsuc k) = None

-- a number is loaded
abbrev pub load : Option Constant → (to next : ℕ) → Registers → Step
load (Some (constant.Number v)) to next regs = at next (put regs to (value.Number v))
load _ to next regs = stuck

-- the global of the name is loaded
abbrev pub fetch : Option Constant → (to next : ℕ) → Registers → Step
fetch (Some (constant.Text x)) to next regs = at next (put regs to (global x))
fetch _ to next regs = stuck

-- a result is written, or stops the code
abbrev pub give : Outcome → (to next : ℕ) → Registers → Step
give None to next regs = stuck
give (Some (Ok v)) to next regs = at next (put regs to v)
give (Some (Err s)) to next regs = Ends [] (Stopped s)

-- ---- calls

-- `print` shows its argument, and gives nothing
abbrev pub shows : Option (List ℕ) → (next : ℕ) → Registers → Step
shows None next regs = stuck
shows (Some text) next regs = Shows [] text (record { place = next; registers = regs })

-- a call of `print` with one argument, for no result
abbrev pub call : Value → Value → (one_argument no_result : Bool) → (next : ℕ) → Registers → Step
call value.Print v true true next regs = shows (printed v) next regs
call _ v _ _ next regs = stuck

abbrev pub leave : (no_value : Bool) → Step
leave true = Ends [] Ended
leave false = stuck

-- ---- jumps

-- A jump that charges nothing leads on, by so many words from the word behind its first. Back it has no row, so that code
-- comes to its end or to a charge
abbrev pub jump : ℤ → (place : ℕ) → Registers → Step
jump (pos k) place regs = at (place + 1 + k) regs
jump (negsuc k) place regs = stuck

-- the jump that charges a turn leads anywhere
abbrev pub charge : ℤ → Registers → Step
charge (pos to) regs = Charges (record { place = to; registers = regs })
charge (negsuc k) regs = stuck

abbrev pub chosen : Bool → (by : ℤ) → (place next : ℕ) → Registers → Step
chosen true by place next regs = jump by place regs
chosen false by place next regs = at next regs

-- a jump that is taken where the answer is true
abbrev pub branch : Option Bool → (by : ℤ) → (place next : ℕ) → Registers → Step
branch None by place next regs = stuck
branch (Some answer) by place next regs = chosen answer by place next regs

-- ---- the row of each instruction, at a place, with the place behind its words

abbrev pub row : List Constant → Insn → (place next : ℕ) → Registers → Step
row ks (PrepVarargs parameters) place next regs = at next regs
row ks (LoadN to n) place next regs = at next (put regs to (value.Number n))
row ks (LoadK to k) place next regs = load (constant_at ks k) to next regs
row ks (MoveInsn to from) place next regs = at next (put regs to (regs from))
row ks (GetGlobal to k) place next regs = fetch (slice_get ks k) to next regs
row ks (Call base arguments results) place next regs =
    call (regs base) (regs (base + 1)) (nat_eq arguments 2) (nat_eq results 1) next regs
row ks (Return base values) place next regs = leave (nat_eq values 1)
row ks (Jump by) place next regs = jump by place regs
row ks (JumpBack by) place next regs = charge (pos (place + 1) +ℤ by) regs
row ks (JumpIfEq left by right) place next regs = branch (equal (regs left) (regs right)) by place next regs
row ks (JumpIfLe left by right) place next regs = branch (less_or_equal (regs left) (regs right)) by place next regs
row ks (JumpIfLt left by right) place next regs = branch (less (regs left) (regs right)) by place next regs
row ks (JumpIfNotEq left by right) place next regs =
    branch (option_map not (equal (regs left) (regs right))) by place next regs
row ks (JumpIfNotLe left by right) place next regs =
    branch (option_map not (less_or_equal (regs left) (regs right))) by place next regs
row ks (JumpIfNotLt left by right) place next regs =
    branch (option_map not (less (regs left) (regs right))) by place next regs
row ks (Add to left right) place next regs = give (sum (regs left) (regs right)) to next regs
row ks (Sub to left right) place next regs = give (difference (regs left) (regs right)) to next regs
row ks (Mul to left right) place next regs = give (product (regs left) (regs right)) to next regs
-- the others have no rule yet, and no script that runs today has one in its code
row ks _ place next regs = stuck

-- the instruction that was read is done, where one was
abbrev pub act : List Constant → Option (Insn × ℕ) → (place : ℕ) → Registers → Step
act ks None place regs = stuck
act ks (Some read) place regs = row ks read.0 place read.1 regs

abbrev pub step : (words : List ℕ) → List Constant → State → Step
step words ks s = act ks (insn_at words s.place) s.place s.registers
