-- What is to be shown of a run from some point on: that the script and its code come to one report.
use Rattle.std.specs.Prelude.{◌≡◌, ◌≤◌, ◌+◌, ℕ, zero, suc, false, List, [], ◌∷◌, ◌++◌, length, Some}
use Rattle.value_model.specs.declared.event.EventKind.{EventKind}
use Rattle.value_model.specs.Values.{Value}
use Rattle.value_model.specs.Errors.{RunError}
use Rattle.value_model.specs.Waits.{Wait, Runs, Caller}
use Rattle.bounded_runs.proofs.Together as together
use Rattle.source_meaning.specs.States.{Environment}
use Rattle.source_meaning.specs.States as source
use Rattle.source_meaning.specs.Moves as source_moves
use Rattle.source_meaning.specs.Calls as source_calls
use Rattle.source_meaning.specs.Steps as source_steps
use Rattle.op_words.specs.declared.insn.Insn.{Insn}
use Rattle.op_words.specs.Decoding.{insn_at}
use Rattle.op_words.specs.Chunks.{ProtoOf}
use Rattle.machine_meaning.specs.Chunks.{proto_at}
use Rattle.machine_meaning.specs.States.{Registers}
use Rattle.machine_meaning.specs.States as machine
use Rattle.machine_meaning.specs.Moves as machine_moves
use Rattle.machine_meaning.specs.Calls as machine_calls
use Rattle.machine_meaning.specs.Steps as machine_steps
use Rattle.code_simulation.specs.Slots.{Slot, Temp, binds, temps, Steady}
use Rattle.code_simulation.specs.Relation.{Dyn, Setting, Act, Desc, Ok, Holds, Loosely}

-- with so many turns left both come to one report
abbrev pub Alike : Setting → ℕ → source.State → machine.State → Type 0
Alike p = together.Alike EventKind source_moves.Look machine_moves.Look source.State machine.State (λ look. 1) (λ look. 1) (source_steps.step p.texts)
    (machine_steps.step p.chunk)

-- ---- functions that wait

-- one goes on where it is given values
abbrev pub GivesOn : Setting → (left co : ℕ) → List Wait → source.Activation → List source.Activation → machine.Frame → List machine.Frame → List Desc → Type 0
GivesOn p left co ws a fs f ms ds =
    (i : ℕ) → i ≤ left → (vs : List Value) (d : Dyn) → Ok p i co ws ds d
    → Alike p i (source_calls.state_with (source.GiveAll vs) (a ∷ fs) d.script) (machine_calls.state_with (machine.GiveAll vs) (f ∷ ms) d.code)

-- what waits in a coroutine, with its functions on both sides, each of which goes on
pub data Stands (p : Setting) (left co : ℕ) : List Wait → List source.Activation → List machine.Frame → List Desc → Type 0 where
  bottom : Stands p left co [] [] [] []
  function : {c : ℕ} {ws : List Wait} {a : source.Activation} {fs : List source.Activation} {f : machine.Frame} {ms : List machine.Frame} {s : Desc}
      {ds : List Desc} → GivesOn p left co (Runs c ∷ ws) a fs f ms (s ∷ ds) → Stands p left co ws fs ms ds
      → Stands p left co (Runs c ∷ ws) (a ∷ fs) (f ∷ ms) (s ∷ ds)
  other : {w : Wait} {ws : List Wait} {fs : List source.Activation} {ms : List machine.Frame} {ds : List Desc}
      → source_calls.is_function (Some w) ≡ false → Stands p left co ws fs ms ds → Stands p left co (w ∷ ws) fs ms ds

-- what is done where no function runs
pub data Outside : Type 0 where
  Invokes : (by : Caller) → (callee : Value) → (args : List Value) → Outside
  Hands : (vs : List Value) → Outside
  Faults : (e : RunError) → Outside
  Raises : (v : Value) → Outside

abbrev pub focus_s : Outside → source.Focus
focus_s (Invokes by f vs) = source.Invoke by f vs
focus_s (Hands vs) = source.Hand vs
focus_s (Faults e) = source.Fault e
focus_s (Raises v) = source.Raise v

abbrev pub focus_m : Outside → machine.Focus
focus_m (Invokes by f vs) = machine.Invoke by f vs
focus_m (Hands vs) = machine.Hand vs
focus_m (Faults e) = machine.Fault e
focus_m (Raises v) = machine.Raise v

-- with so many turns left calls, values that are handed on and errors go along together, whatever waits for them
abbrev pub CallsGo : Setting → ℕ → Type 0
CallsGo p left =
    (x : Outside) (co : ℕ) (ws : List Wait) (fs : List source.Activation) (ms : List machine.Frame) (ds : List Desc) (d : Dyn) → Ok p left co ws ds d
    → Stands p left co ws fs ms ds → Alike p left (source_calls.state_with (focus_s x) fs d.script)
    (machine_calls.state_with (focus_m x) ms d.code)

-- ---- the function that runs

-- its registers, and where its list of values ends
pub record File : Type 0 where
  pub registers : Registers
  pub top : ℕ

-- so many values are from a register on, as an instruction counts them
abbrev pub Counts : (count n base top : ℕ) → Type 0
Counts zero n base top = top ≡ base + n
Counts (suc c) n base top = c ≡ n

module _ (p : Setting) (most : ℕ) where
  -- what stays as it is while it runs: its closure, its code, its arguments behind the parameters, and what is below it
  pub record Here : Type 0 where
    pub closure : ℕ
    pub co : ℕ
    pub varargs : List Value
    pub number : ℕ
    pub proto : ProtoOf
    pub found : proto_at p.chunk number ≡ Some proto
    pub act : Act
    pub waits : List Wait
    pub below_s : List source.Activation
    pub below_m : List machine.Frame
    pub roots : List Desc
    pub stands : Stands p most co waits below_s below_m roots

  abbrev pub inside : Here → source_moves.Here
  inside h = record { closure = h.closure; varargs = h.varargs; below = h.below_s }

  abbrev pub frame : Here → (place : ℕ) → File → machine.Frame
  frame h place file =
      record {
        closure = h.closure;
        proto = h.number;
        size = h.proto.registers;
        upvalues = h.act.cells;
        varargs = h.varargs;
        place = place;
        registers = file.registers;
        top = file.top;
        purpose = machine.Idle;
      }

  abbrev pub env_of : Here → List Slot → Environment
  env_of h l = binds l ++ h.act.outer

  abbrev pub waits_here : Here → List Wait
  waits_here h = Runs h.closure ∷ h.waits

  -- the instruction at a place, with the place behind its words
  abbrev pub Reads : Here → (place : ℕ) → Insn → (next : ℕ) → Type 0
  Reads h place i next = insn_at h.proto.code place ≡ Some (i, next)

  abbrev pub source_at : Here → source.Focus → List source.Frame → Environment → Dyn → source.State
  source_at h x k env d = source_moves.state x (inside h) k env d.script

  abbrev pub machine_at : Here → (place : ℕ) → File → Dyn → machine.State
  machine_at h place file d = machine_moves.state machine.Run (frame h place file) h.below_m d.code

  abbrev pub Has : Here → ℕ → List Slot → Dyn → File → Type 0
  Has h left l d file = Holds p left h.co (waits_here h) h.roots h.act l d file.registers

  abbrev pub Loose : Here → ℕ → List Slot → Dyn → File → Type 0
  Loose h left l d file = Loosely p left h.co (waits_here h) h.roots h.act l d file.registers

  -- from here on both come to one report
  abbrev pub SameIn : Here → ℕ → source.Focus → List source.Frame → Environment → Dyn → (place : ℕ) → File → Type 0
  SameIn h left x k env d place file = Alike p left (source_at h x k env d) (machine_at h place file d)

  abbrev pub Same : Here → ℕ → source.Focus → List source.Frame → List Slot → Dyn → (place : ℕ) → File → Type 0
  Same h left x k l d place file = SameIn h left x k (env_of h l) d place file

  -- ---- what is owed after a part

  -- its value is given, and stands in the first free register
  abbrev pub WithValue : Here → ℕ → List Slot → Registers → List source.Frame → (to : ℕ) → Type 0
  WithValue h left l regs k to =
      (i : ℕ) → i ≤ left → (v : Value) (d : Dyn) (file : File) → Has h i (Temp v ∷ l) d file → Steady l regs file.registers
      → Same h i (source.Give v) k l d to file

  -- its values are given, of which some are in registers
  abbrev pub WithAll : Here → ℕ → List Slot → Registers → List source.Frame → (to count : ℕ) → (List Value → List Value) → Type 0
  WithAll h left l regs k to count take =
      (i : ℕ) → i ≤ left → (vs : List Value) (d : Dyn) (file : File) → Has h i (temps (take vs) l) d file
      → Counts count (length (take vs)) (length l) file.top → Steady l regs file.registers → Same h i (source.GiveAll vs) k l d to file

  -- the values of a call are given to what waits for them, on both sides
  abbrev pub Receives : Here → ℕ → List Slot → Registers → source.Node → source.Purpose → List source.Frame → machine.Purpose → (place : ℕ) → Type 0
  Receives h left l regs node purpose k q place =
      (i : ℕ) → i ≤ left → (vs : List Value) (d : Dyn) (file : File) → Has h i l d file → Steady l regs file.registers
      → Alike p i (source_at h (source.GiveAll vs) (source.Awaits node purpose ∷ k) (env_of h l) d)
      (machine_moves.state (machine.GiveAll vs) (machine_moves.waits_for q (frame h place file)) h.below_m d.code)

  -- a statement is done
  abbrev pub Afterwards : Here → ℕ → List Slot → List source.Frame → (to : ℕ) → Type 0
  Afterwards h left l k to =
      (i : ℕ) → i ≤ left → (d : Dyn) (file : File) → Has h i l d file → Same h i source.Done k l d to file
