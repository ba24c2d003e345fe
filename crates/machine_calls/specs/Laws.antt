-- What holds of calls in the states that well-formed code comes to.
use Rattle.std.specs.Prelude.{◌≡◌, ◌≢◌, List, map, true, false}
use Rattle.op_words.specs.Chunks.{ChunkOf}
use Rattle.value_model.specs.Parts.{meant}
use Rattle.value_model.specs.declared.event.Reply.{Reply}
use Rattle.value_model.specs.declared.value.Value.{Value}
use Rattle.bounded_runs.specs.Runs.{Charges}
use Rattle.luau_tables.specs.Worlds.{MayUseIn}
use Rattle.luau_tables.specs.declared.globals.LibWorld.{LibWorld}
use Rattle.call_frames.specs.Stacks.{StackView}
use Rattle.machine_meaning.specs.States.{Focus, Invoke, State}
use Rattle.machine_meaning.specs.Steps.{step}
use Rattle.machine_meaning.specs.WellFormed.{IsWellFormed}
use Rattle.checked_runs.specs.Safe.{IsSafe}
use Rattle.machine_code.specs.Code.{IsCodeOf}
use Rattle.machine_code.specs.declared.code.Code.{Code}
use Rattle.machine_world.specs.Parts.{part}
use Rattle.machine_world.specs.Sound.{IsMachine}
use Rattle.machine_calls.specs.Callees.{called_as}
use Rattle.machine_calls.specs.Charging.{charges_call, is_charge, is_move}
use Rattle.machine_calls.specs.Moving.{Leads, MayEnterValue, meant_caller}
use Rattle.machine_calls.specs.declared.calling.Called.TheVariants.{Other}
use Rattle.machine_calls.specs.declared.focus.Caller.{Caller}
use Rattle.machine_calls.specs.declared.focus.Led.{Led}

-- In a safe state of well-formed code, whatever is done there, each value that the script may use may be entered: where it is a Luau
-- function, the code has that function, and its parameters are among its registers
abbrev pub SafeMayEnter : Type 0
SafeMayEnter = (chunk : ChunkOf) (w : LibWorld) (code : Code) (s : StackView) (x : Focus) (replies : List Reply) (callee : Value)
    → IsWellFormed chunk → IsCodeOf chunk w.names code → IsMachine w s → MayUseIn w callee → IsSafe chunk (part w code s x replies)
    → MayEnterValue w.arena code callee

-- the state in which a value is called with values
abbrev pub calling : LibWorld → Code → StackView → Caller → (callee : Value) → List Value → List Reply → State
calling w code s by callee vs replies = part w code s (Invoke (meant_caller by) (meant w.names callee) (map (meant w.names) vs)) replies

-- at each call that is said to charge a turn the machine charges one next, before anything is done
abbrev pub ChargedCallsCharge : Type 0
ChargedCallsCharge = (chunk : ChunkOf) (w : LibWorld) (code : Code) (s : StackView) (by : Caller) (callee : Value) (vs : List Value) (replies : List Reply)
    → IsCodeOf chunk w.names code → IsMachine w s → MayUseIn w callee → MayEnterValue w.arena code callee → charges_call by callee ≡ true
    → (next : State) × (step chunk (calling w code s by callee vs replies) ≡ Charges next)

-- and none where what is no function is called: the machine only goes on, to its `__call` or an error
abbrev pub OtherCallsGoOn : Type 0
OtherCallsGoOn = (chunk : ChunkOf) (w : LibWorld) (code : Code) (s : StackView) (by : Caller) (callee : Value) (vs : List Value) (replies : List Reply)
    → called_as callee ≡ Other → (next : State) → step chunk (calling w code s by callee vs replies) ≢ Charges next

-- a move that is answered with no charge is none that charges a turn
abbrev pub FreeMovesChargeNone : Type 0
FreeMovesChargeNone = (chunk : ChunkOf) (w : LibWorld) (code : Code) (s : StackView) (x : Focus) (led : Led) (w' : LibWorld) (s' : StackView)
    (vs : List Value) (replies : List Reply) → Leads chunk w code s x led w' s' vs → is_move led ≡ true → is_charge led ≡ false
    → (next : State) → step chunk (part w code s x replies) ≢ Charges next
