-- What is done now, and what a move of the machine makes of a script's running state.
use Rattle.std.specs.Prelude.{◌≡◌, ◌≤◌, IsSomeAnd, IfSome, List, [], map, slice_get}
use Rattle.std.specs.List.{AllByRecursion}
use Rattle.value_model.specs.Names.{name_of}
use Rattle.value_model.specs.Parts.{meant, meant_error, IsKnown}
use Rattle.value_model.specs.Values as m
use Rattle.value_model.specs.Values.{Bytes}
use Rattle.value_model.specs.Waits as wait
use Rattle.value_model.specs.Waits.{End, Ended, Raised, Stopped}
use Rattle.value_model.specs.declared.event.Reply.{Reply}
use Rattle.value_model.specs.declared.ids.ClosureId.{ClosureId}
use Rattle.value_model.specs.declared.value.Value.{Value}
use Rattle.value_model.specs.declared.value.Value.TheVariants as value
use Rattle.value_arena.specs.Arenas.{ArenaView, closure_at}
use Rattle.bounded_runs.specs.Runs.{Goes, Charges, Ends}
use Rattle.luau_tables.specs.Own.{HasText}
use Rattle.luau_tables.specs.Worlds.{MayUseIn, store_in}
use Rattle.luau_tables.specs.declared.globals.LibWorld.{LibWorld}
use Rattle.call_frames.specs.Stacks.{StackView}
use Rattle.op_words.specs.Chunks.{ChunkOf}
use Rattle.machine_meaning.specs.States as machine
use Rattle.machine_meaning.specs.Steps.{step}
use Rattle.machine_code.specs.declared.code.Code.{Code}
use Rattle.machine_code.specs.declared.code.Function.{Function}
use Rattle.machine_world.specs.Parts.{part}
use Rattle.machine_world.specs.Sound.{Runs, GoesOn}
use Rattle.machine_calls.specs.Waiting.{LibraryAsks}
use Rattle.machine_calls.specs.declared.focus.Caller.{Caller}
use Rattle.machine_calls.specs.declared.focus.Caller.TheVariants as caller
use Rattle.machine_calls.specs.declared.focus.Focus.{Focus}
use Rattle.machine_calls.specs.declared.focus.Focus.TheVariants as focus
use Rattle.machine_calls.specs.declared.focus.Led.{Led}
use Rattle.machine_calls.specs.declared.focus.Led.TheVariants as led

-- ---- what is done now

abbrev pub meant_caller : Caller → wait.Caller
meant_caller caller.Script = wait.ByScript
meant_caller caller.Library = wait.ByLibrary

-- with the values that are lent
abbrev pub meant_focus : (texts : List Bytes) → Focus → List Value → machine.Focus
meant_focus texts focus.Run vs = machine.Run
meant_focus texts focus.Charged vs = machine.Charged
meant_focus texts focus.GiveAll vs = machine.GiveAll (map (meant texts) vs)
meant_focus texts (focus.Invoke by callee) vs = machine.Invoke (meant_caller by) (meant texts callee) (map (meant texts) vs)
meant_focus texts focus.Hand vs = machine.Hand (map (meant texts) vs)
meant_focus texts (focus.Fault e) vs = machine.Fault (meant_error texts e)
meant_focus texts (focus.Raise v) vs = machine.Raise (meant texts v)

-- ---- moves

-- from what is done now the machine goes on with something else, and nothing is charged, shown or noted
abbrev pub GoesTo : ChunkOf → LibWorld → Code → StackView → machine.Focus → LibWorld → StackView → machine.Focus → Type 0
GoesTo chunk w code s x w' s' y = (replies : List Reply) → step chunk (part w code s x replies) ≡ Goes [] (part w' code s' y replies)

-- a turn is charged first
abbrev pub ChargesTo : ChunkOf → LibWorld → Code → StackView → machine.Focus → LibWorld → StackView → machine.Focus → Type 0
ChargesTo chunk w code s x w' s' y = (replies : List Reply) → step chunk (part w code s x replies) ≡ Charges (part w' code s' y replies)

-- the script ends
abbrev pub EndsAs : ChunkOf → LibWorld → Code → StackView → machine.Focus → End → Type 0
EndsAs chunk w code s x end = (replies : List Reply) → step chunk (part w code s x replies) ≡ Ends [] end

-- nothing was done
pub record Still (w : LibWorld) (s : StackView) (x : machine.Focus) (w' : LibWorld) (s' : StackView) (y : machine.Focus) : Type 0 where
  pub world : w' ≡ w
  pub stack : s' ≡ s
  pub focus : y ≡ x

-- the machine does not do this yet: a host function that a script calls, and a function of `coroutine.wrap`
abbrev pub IsUnbuilt : Caller → Value → Type 0
IsUnbuilt caller.Script (value.Host i) = Unit {0}
IsUnbuilt by (value.Wrap t) = Unit {0}
IsUnbuilt by v = ⊥

-- so a move leads on, with the values that are lent then
abbrev pub Leads : ChunkOf → LibWorld → Code → StackView → machine.Focus → Led → LibWorld → StackView → List Value → Type 0
Leads chunk w code s x (led.Goes y) w' s' vs = GoesTo chunk w code s x w' s' (meant_focus w'.names y vs)
Leads chunk w code s x (led.Charges y) w' s' vs = ChargesTo chunk w code s x w' s' (meant_focus w'.names y vs)
Leads chunk w code s x led.Finishes w' s' vs = EndsAs chunk w code s x (Ended (map (name_of (store_in w').globals) (map (meant w'.names) vs)))
Leads chunk w code s x (led.Dies v) w' s' vs = EndsAs chunk w code s x (Raised (name_of (store_in w').globals (meant w'.names v)))
Leads chunk w code s x (led.Stops stop) w' s' vs = EndsAs chunk w code s x (Stopped stop)
Leads chunk w code s x led.Asks w' s' vs = Still w s x w' s' (machine.Hand (map (meant w.names) vs)) × LibraryAsks s
Leads chunk w code s x (led.Library f) w' s' vs = Still w s x w' s' (machine.Invoke wait.ByScript (m.Native f) (map (meant w.names) vs))
Leads chunk w code s x (led.Unbuilt by callee) w' s' vs =
    Still w s x w' s' (machine.Invoke (meant_caller by) (meant w.names callee) (map (meant w.names) vs)) × IsUnbuilt by callee

-- ---- what is known then

-- The script may use the values. What waits for a call has no list of values, and the texts that a run error shows have numbers
abbrev pub IsDoing : LibWorld → StackView → Focus → List Value → Type 0
IsDoing w s focus.Run vs = GoesOn s
IsDoing w s focus.Charged vs = GoesOn s
IsDoing w s focus.GiveAll vs = Runs s × AllByRecursion (MayUseIn w) vs
IsDoing w s (focus.Invoke by callee) vs = (s.top ≡ 0) × MayUseIn w callee × AllByRecursion (MayUseIn w) vs
IsDoing w s focus.Hand vs = (s.top ≡ 0) × AllByRecursion (MayUseIn w) vs
IsDoing w s (focus.Fault e) vs = IsKnown w.names e
IsDoing w s (focus.Raise v) vs = MayUseIn w v

abbrev pub IsLed : LibWorld → StackView → Led → List Value → Type 0
IsLed w s (led.Goes y) vs = IsDoing w s y vs
IsLed w s (led.Charges y) vs = IsDoing w s y vs
IsLed w s led.Finishes vs = AllByRecursion (MayUseIn w) vs
IsLed w s (led.Dies v) vs = MayUseIn w v
IsLed w s (led.Stops stop) vs = Unit {0}
IsLed w s led.Asks vs = IsDoing w s focus.Hand vs
IsLed w s (led.Library f) vs = (s.top ≡ 0) × AllByRecursion (MayUseIn w) vs
IsLed w s (led.Unbuilt by callee) vs = IsDoing w s (focus.Invoke by callee) vs

-- ---- code

-- the closure has a function of the code, and its parameters are among its registers
abbrev pub MayEnter : ArenaView → Code → ClosureId → Type 0
MayEnter a code c = IsSomeAnd (slice_get code.functions (closure_at a c).proto) (λ (f : Function). f.params ≤ f.registers)

abbrev pub MayEnterValue : ArenaView → Code → Value → Type 0
MayEnterValue a code (value.Closure c) = MayEnter a code c
MayEnterValue a code v = Unit {0}

-- each text in what imports hold has its number
abbrev pub KnowsImports : (texts : List Bytes) → Code → Type 0
KnowsImports texts code = AllByRecursion (λ (f : Function). AllByRecursion (λ v. IfSome v (HasText texts)) f.imports) code.functions
