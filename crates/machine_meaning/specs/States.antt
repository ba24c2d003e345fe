-- The states of a machine that runs code.
use Rattle.std.specs.Prelude.{ℕ, zero, suc, ℤ, List, [], ◌∷◌, ◌++◌, length, Bool, Option, nat_eq, nat_lt, slice_index_or, slice_set, if◌then◌else◌}
use Rattle.value_model.specs.Values.{Value, Nil, TableRef, Bytes}
use Rattle.value_model.specs.Errors.{RunError}
use Rattle.value_model.specs.Store.{Objects}
use Rattle.value_model.specs.Waits.{Waits, Caller}
use Rattle.value_model.specs.declared.event.Reply.{Reply}

-- what a register is: a value, or an open cell, which holds the register's value as long as it is open
pub data Register : Type 0 where
  Val : (v : Value) → Register
  Open : (cell : ℕ) → Register

abbrev pub Registers : Type 0
Registers = ℕ → Register

-- what the values of a call are for. The code goes on at `next`
pub data Purpose : Type 0 where
  -- no call is waited for
  Idle : Purpose
  -- so many results less one, or all, which set the top
  Results : (to count next : ℕ) → Purpose
  -- the first value
  Into : (to next : ℕ) → Purpose
  -- a comparison, whose jump is taken where the answer is so
  Compares : (jumps : Bool) → (by : ℤ) → (next : ℕ) → Purpose
  -- the last operand of a run of `..`, whose other ones are still to be joined, the last of them first
  Joins : (before : List Value) → (to next : ℕ) → Purpose
  -- a value that the next names of an import are looked up in
  Follows : (names : List Bytes) → (to next : ℕ) → Purpose
  -- nothing
  Stores : (next : ℕ) → Purpose
  -- the generator, the state and the control value of a loop, which begins with a jump
  Begins : (base : ℕ) → (by : ℤ) → Purpose
  -- a loop's variables. It goes back unless the first is nil
  Turns : (base variables : ℕ) → (by : ℤ) → (next : ℕ) → Purpose

-- a function that was entered: its closure with its code, the number of its own registers and its cells, its arguments behind the
-- parameters, the place of the instruction that it stands at, its registers, where its list of values ends, and what it waits for.
-- Beyond its own registers all are nil from that end on
pub record Frame : Type 0 where
  pub closure : ℕ
  pub proto : ℕ
  pub size : ℕ
  pub upvalues : List ℕ
  pub varargs : List Value
  pub place : ℕ
  pub registers : Registers
  pub top : ℕ
  pub purpose : Purpose

-- what is done now
pub data Focus : Type 0 where
  -- the instruction at the place, and what is left of it where it charged a turn
  Run : Focus
  Charged : Focus
  GiveAll : (vs : List Value) → Focus
  -- operands of a run of `..`, the last one first, which are joined from the right
  Join : (vs : List Value) → (to next : ℕ) → Focus
  -- names that are looked up, each in what the one before it led to
  Follow : (base : Value) → (names : List Bytes) → (to next : ℕ) → Focus
  -- a function is called
  Invoke : (by : Caller) → (callee : Value) → (args : List Value) → Focus
  -- values of the function that ran, a run error, and a raised value on its way to who catches it
  Hand : (vs : List Value) → Focus
  Fault : (e : RunError) → Focus
  Raise : (v : Value) → Focus

-- what a closure is made of: its function's number, and the cells of the variables that it captures
pub record Body : Type 0 where
  pub proto : ℕ
  pub cells : List ℕ

-- what all functions share
pub record World : Type 0 where
  -- the objects; a cell holds a captured variable's value, and is never used again
  pub objects : Objects Body
  pub waits : Waits
  -- the functions of each coroutine that does not run, the innermost first
  pub elsewhere : ℕ → List Frame
  -- the environments that are marked as safe
  pub marked : List TableRef
  -- what the import constants hold, by function and constant
  pub imports : (proto constant : ℕ) → Option Value
  -- what the outside still answers
  pub replies : List Reply

-- the functions of the coroutine that runs, the innermost first
pub record State : Type 0 where
  pub focus : Focus
  pub functions : List Frame
  pub world : World

-- ---- registers

abbrev pub put : Registers → ℕ → Register → Registers
put regs r v q = if nat_eq q r then v else regs q

-- a list of values in the registers from one on, and nil in all others
abbrev pub filled : ℕ → List Value → Registers
filled r [] q = Val Nil
filled r (v ∷ vs) q = if nat_eq q r then Val v else filled (suc r) vs q

-- beyond a frame's own registers there is nothing from the top on
abbrev pub trimmed : (size top : ℕ) → Registers → Registers
trimmed size top regs q = if nat_lt q size then regs q else if nat_lt q top then regs q else Val Nil

-- its list of values ends there
abbrev pub ended : (top : ℕ) → Frame → Frame
ended top f = record f { registers = trimmed f.size top f.registers; top = top }

-- the value of a register
abbrev pub held : List Value → Register → Value
held cells (Val v) = v
held cells (Open c) = slice_index_or cells c Nil

abbrev pub value_in : Frame → World → ℕ → Value
value_in f w r = held w.objects.cells (f.registers r)

-- so many registers from one on
abbrev pub values_in : Frame → World → (from count : ℕ) → List Value
values_in f w from zero = []
values_in f w from (suc n) = value_in f w from ∷ values_in f w (suc from) n

-- the function that runs, with what all functions share
pub record Inside : Type 0 where
  pub frame : Frame
  pub world : World

abbrev pub with_cells : List Value → World → World
with_cells cs w = record w { objects = record w.objects { cells = cs } }

-- a write to a register whose cell is open goes into the cell
abbrev pub write : Register → ℕ → Value → Inside → Inside
write (Val u) r v i = record i { frame = record i.frame { registers = put i.frame.registers r (Val v) } }
write (Open c) r v i = record i { world = with_cells (slice_set i.world.objects.cells c v) i.world }

abbrev pub set : ℕ → Value → Inside → Inside
set r v i = write (i.frame.registers r) r v i

-- values into the registers from one on
abbrev pub set_all : ℕ → List Value → Inside → Inside
set_all r [] i = i
set_all r (v ∷ vs) i = set_all (suc r) vs (set r v i)

-- as many values: nil where one is missing
abbrev pub adjusted : ℕ → List Value → List Value
adjusted zero vs = []
adjusted (suc n) [] = Nil ∷ adjusted n []
adjusted (suc n) (v ∷ vs) = v ∷ adjusted n vs

-- the open cells of the registers from one on are closed
abbrev pub closed : List Value → Registers → ℕ → Registers
closed cells regs from q = if nat_lt q from then regs q else Val (held cells (regs q))

-- ---- captured variables

-- cells that were taken, with the registers and the cells afterwards
pub record Taken : Type 0 where
  pub taken : List ℕ
  pub inside : Inside

abbrev pub also : ℕ → Taken → Taken
also c t = record t { taken = t.taken ++ c ∷ [] }

-- a register's cell, which is opened if need be
abbrev pub opened : Register → ℕ → Taken → Taken
opened (Open c) r t = also c t
opened (Val v) r t =
    let i = t.inside in
    let cells = i.world.objects.cells in
    also (length cells) (record t { inside = record { frame = record i.frame { registers = put i.frame.registers r (Open (length cells)) }; world = with_cells (cells ++ v ∷ []) i.world } })

-- a cell of its own with the register's value
abbrev pub copied : ℕ → Taken → Taken
copied r t =
    let i = t.inside in
    let cells = i.world.objects.cells in
    also (length cells) (record t { inside = record i { world = with_cells (cells ++ value_in i.frame i.world r ∷ []) i.world } })

abbrev pub cell_up : Frame → ℕ → ℕ
cell_up f u = slice_index_or f.upvalues u 0

-- a value, a register's cell, or an upvalue
abbrev pub capture : (kind from : ℕ) → Taken → Taken
capture zero r t = copied r t
capture (suc zero) r t = opened (t.inside.frame.registers r) r t
capture (suc (suc k)) u t = also (cell_up t.inside.frame u) t
