-- What the stack of a script shows of the functions that were entered, and of what waits.
use Rattle.std.specs.Prelude.{ℕ, ◌+◌, ◌-◌, max, nat_lt, if◌then◌else◌, List, [], ◌∷◌, map, reverse, take, drop, Option, Some, None, slice_index_or, slice_set}
use Rattle.std.specs.Option.{option_map_or}
use Rattle.byte_text.specs.declared.fixed.StrId.{StrId}
use Rattle.value_model.specs.Parts.{meant, bytes_at}
use Rattle.value_model.specs.Values as m
use Rattle.value_model.specs.Values.{Bytes}
use Rattle.value_model.specs.Waits as wait
use Rattle.value_model.specs.declared.ids.CellId.{CellId}
use Rattle.value_model.specs.declared.ids.ClosureId.{ClosureId}
use Rattle.value_model.specs.declared.ids.Owner.{Owner}
use Rattle.value_model.specs.declared.value.Value.{Value}
use Rattle.value_model.specs.declared.value.Value.TheVariants.{Nil}
use Rattle.value_arena.specs.declared.closure.Closure.{Closure}
use Rattle.value_arena.specs.Objects.{no_closure}
use Rattle.value_arena.specs.Arenas.{ArenaView, objects_of}
use Rattle.call_frames.specs.declared.frame.Frame.{Frame}
use Rattle.call_frames.specs.declared.frame.OpenCell.{OpenCell}
use Rattle.call_frames.specs.declared.frame.ReturnKind.{ReturnKind}
use Rattle.call_frames.specs.declared.frame.ReturnKind.TheVariants as kind
use Rattle.call_frames.specs.Stacks.{StackView}
use Rattle.call_frames.specs.Cells.{cell_on, innermost, outer}
use Rattle.machine_meaning.specs.States as machine
use Rattle.machine_meaning.specs.States.{Register, Val, Open, Registers, Purpose, Body}

-- ---- registers

-- a register: its open cell, or its value
abbrev pub register : (texts : List Bytes) → List Value → List OpenCell → ℕ → Register
register texts regs os r =
    option_map_or (λ (c : CellId). Open c.place) (cell_on r os) (Val (meant texts (slice_index_or regs r Nil)))

-- so many registers from a place on, and nil behind them
abbrev pub window : (texts : List Bytes) → List Value → List OpenCell → (count base : ℕ) → Registers
window texts regs os count base q = if nat_lt q count then register texts regs os (base + q) else Val m.Nil

-- ---- what a frame waits for

abbrev pub text_of : (texts : List Bytes) → StrId → Bytes
text_of texts x = bytes_at texts x.0

-- what a Luau function does with the values of a call. A frame of a library function says below what it waits for
abbrev pub purpose_of : (texts : List Bytes) → ReturnKind → Purpose
purpose_of texts (kind.Call to results next) = machine.Results to results next
purpose_of texts (kind.Answer to next) = machine.Into to next
purpose_of texts (kind.Store next) = machine.Stores next
purpose_of texts (kind.Jump by wanted next) = machine.Compares wanted by next
purpose_of texts (kind.Join to left next) = machine.Joins (map (meant texts) left) to next
purpose_of texts (kind.Import to names next) = machine.Follows (map (text_of texts) names) to next
purpose_of texts (kind.Iterate base by) = machine.Begins base by
purpose_of texts (kind.Turn base variables by next) = machine.Turns base variables by next
purpose_of texts _ = machine.Idle

-- `pcall` has no handler, and `xpcall` has one
abbrev pub protects : (texts : List Bytes) → Option Value → wait.Wait
protects texts None = wait.Protects
protects texts (Some h) = wait.Guards (meant texts h)

-- what a library function does with the values of a call
abbrev pub wait_by : (texts : List Bytes) → ReturnKind → wait.Wait
wait_by texts kind.Handler = wait.Handles
wait_by texts (kind.Library rest) =
    wait.Asks (record { builtin = rest.builtin; arguments = map (meant texts) rest.args.items; at = rest.at; text = rest.text })
wait_by texts (kind.Coroutine wrapped) = wait.Resumes wrapped
wait_by texts (kind.Protected handler) = protects texts handler
wait_by texts _ = wait.Protects

abbrev pub wait_in : (texts : List Bytes) → Option ClosureId → ReturnKind → wait.Wait
wait_in texts (Some c) k = wait.Runs c.place
wait_in texts None k = wait_by texts k

-- what waits in a frame
abbrev pub wait_of : (texts : List Bytes) → Frame → wait.Wait
wait_of texts f = wait_in texts f.closure f.kind

-- ---- functions

abbrev pub place_of_cell : CellId → ℕ
place_of_cell c = c.place

abbrev pub body_of : Closure → Body
body_of f = record { proto = f.proto; cells = map place_of_cell f.cells }

abbrev pub body_at : List Closure → ℕ → Body
body_at cs i = body_of (slice_index_or cs i no_closure)

-- a function that was entered, by the closures of its script: it shows so many registers, and its list of values ends there
abbrev pub function_of : (texts : List Bytes) → List Closure → List Value → List OpenCell → (width top : ℕ) → ClosureId → Frame → machine.Frame
function_of texts cs regs os width top c f =
    record {
      closure = c.place;
      proto = (body_at cs c.place).proto;
      size = f.registers;
      upvalues = (body_at cs c.place).cells;
      varargs = map (meant texts) (drop (f.base - f.extra) (take f.base regs));
      place = f.place;
      registers = window texts regs os width f.base;
      top = top;
      purpose = purpose_of texts f.kind;
    }

-- a frame of a library function is none of them
abbrev pub with_function : Option ClosureId → (ClosureId → machine.Frame) → List machine.Frame → List machine.Frame
with_function None function fs = fs
with_function (Some c) function fs = function c ∷ fs

-- those that wait show their own registers, and no list of values
abbrev pub waiting : (texts : List Bytes) → List Closure → List Value → List OpenCell → List Frame → List machine.Frame
waiting texts cs regs os [] = []
waiting texts cs regs os (f ∷ fs) =
    with_function f.closure (λ c. function_of texts cs regs os f.registers 0 c f) (waiting texts cs regs os fs)

-- the one that runs shows its own registers, and those below the top
abbrev pub running : (texts : List Bytes) → List Closure → StackView → ClosureId → Frame → machine.Frame
running texts cs s c f =
    function_of texts cs s.registers s.cells (max f.registers (s.top - f.base)) (s.top - f.base) c f

-- the innermost first
unfoldable pub functions_of : (texts : List Bytes) → List Closure → StackView → List machine.Frame
functions_of texts cs s =
    option_map_or (λ f. with_function f.closure (λ c. running texts cs s c f) (waiting texts cs s.registers s.cells (reverse (outer s)))) (innermost s) []

-- ---- cells

-- the cells, where each that is open has its register's value
abbrev pub laid : (texts : List Bytes) → List Value → List OpenCell → List m.Value → List m.Value
laid texts regs [] cs = cs
laid texts regs (o ∷ os) cs =
    slice_set (laid texts regs os cs) o.cell.place (meant texts (slice_index_or regs o.register Nil))

-- those of the arena
abbrev pub kept_cells : (texts : List Bytes) → Owner → ArenaView → List m.Value
kept_cells texts w a = map (meant texts) (objects_of a w).cells

unfoldable pub cells_of : (texts : List Bytes) → Owner → StackView → ArenaView → List m.Value
cells_of texts w s a = laid texts s.registers s.cells (kept_cells texts w a)
