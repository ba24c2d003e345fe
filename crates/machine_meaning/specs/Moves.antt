-- The moves of code.
use Rattle.std.specs.Prelude.{ℕ, ◌+◌, ℤ, pos, negsuc, Bool, true, false, List, [], ◌∷◌, replicate}
use Rattle.std.specs.List.{list_any}
use Rattle.value_model.specs.Values.{Value, Nil, TableRef}
use Rattle.value_model.specs.Errors.{RunError}
use Rattle.value_model.specs.Store.{Store as ObjectStore, same_table, environment_of}
use Rattle.value_model.specs.Waits.{ByLibrary, Stuck, Stopped}
use Rattle.value_model.specs.declared.event.EventKind.{EventKind}
use Rattle.value_model.specs.Choices.{Choice, Outcome, Done, CallThis, Errs, Halts}
use Rattle.bounded_runs.specs.Runs.{Move, Goes, Charges, Ends}
use Rattle.machine_meaning.specs.States.{Purpose, Idle, Frame, Focus, Run, GiveAll, Invoke, Fault, World, State, Inside, set, ended}

-- a table that is asked
pub data Look : Type 0 where
  asked : Look

abbrev pub Step : Type 0
Step = Move EventKind Look State

-- what is done with the function that runs, those below it, and what all functions share
abbrev pub Row : Type 0
Row = Frame → List Frame → World → Step

abbrev pub state : Focus → Frame → List Frame → World → State
state x f fs w = record { focus = x; functions = f ∷ fs; world = w }

abbrev pub now : Focus → Row
now x f fs w = Goes [] (state x f fs w)

abbrev pub stuck : Row
stuck f fs w = Ends [] Stuck

abbrev pub at : ℕ → Frame → Frame
at place f = record f { place = place; purpose = Idle }

-- the code goes on at a place
abbrev pub go : ℕ → Row
go place f fs w = now Run (at place f) fs w

-- a turn is charged, and the code goes on at a place
abbrev pub charge : ℕ → Row
charge place f fs w = Charges (state Run (at place f) fs w)

abbrev pub inside : Frame → World → Inside
inside f w = record { frame = f; world = w }

-- what is done behind writes to registers
abbrev pub on : Row → Inside → List Frame → Step
on row i fs = row i.frame fs i.world

-- a value into a register
abbrev pub give : (to : ℕ) → Value → (next : ℕ) → Row
give to v next f fs w = on (go next) (set to v (inside f w)) fs

-- ---- the world

abbrev pub store_of : World → ObjectStore
store_of w = w.objects.store

abbrev pub with_store : ObjectStore → World → World
with_store s w = record w { objects = record w.objects { store = s } }

abbrev pub environment_here : Frame → World → TableRef
environment_here f w = environment_of (store_of w) f.closure

abbrev pub is_safe : Frame → World → Bool
is_safe f w = list_any (same_table (environment_here f w)) w.marked

abbrev pub first : List Value → Value
first [] = Nil
first (v ∷ vs) = v

abbrev pub rest : List Value → List Value
rest [] = []
rest (v ∷ vs) = vs

-- ---- operations

abbrev pub waits_for : Purpose → Frame → Frame
waits_for p f = record f { purpose = p }

-- A frame that waits for a call keeps its own registers. What the call needs lies behind them, and no list is left
abbrev pub saved : Purpose → Frame → Frame
saved p f = waits_for p (ended 0 f)

-- what an operation gives is taken as what a call gives
abbrev pub comes : Outcome → List Look → Purpose → Row
comes (Done v) ns p f fs w = Goes ns (state (GiveAll (v ∷ [])) (waits_for p f) fs w)
comes (CallThis g vs) ns p f fs w = Goes ns (state (Invoke ByLibrary g vs) (saved p f) fs w)
comes (Errs e) ns p f fs w = Goes ns (state (Fault e) (waits_for p f) fs w)
comes (Halts s) ns p f fs w = Ends ns (Stopped s)

abbrev pub settle : Choice → Purpose → Row
settle c p f fs w = comes c.outcome (replicate c.asked asked) p f fs (with_store c.store w)

-- a run error of the instruction
abbrev pub fault : RunError → Row
fault e f fs w = now (Fault e) f fs w

-- ---- jumps

-- A jump that charges nothing leads on, by so many words from the word behind its first. Back it has no row, so that code
-- comes to its end or to a charge
abbrev pub jump : ℤ → (place : ℕ) → Row
jump (pos k) place f fs w = go (place + 1 + k) f fs w
jump (negsuc k) place f fs w = stuck f fs w

-- the jump that charges a turn leads anywhere
abbrev pub jump_back : ℤ → Row
jump_back (pos to) f fs w = charge to f fs w
jump_back (negsuc k) f fs w = stuck f fs w

-- a loop goes back behind its turn
abbrev pub return_to : ℤ → Row
return_to (pos to) f fs w = go to f fs w
return_to (negsuc k) f fs w = stuck f fs w

abbrev pub branch : Bool → (by : ℤ) → (next : ℕ) → Row
branch true by next f fs w = jump by f.place f fs w
branch false by next f fs w = go next f fs w
