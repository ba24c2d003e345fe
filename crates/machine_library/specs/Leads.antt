-- What an answer of the library leads to.
use Rattle.std.specs.Prelude.{◌≡◌, ◌<◌, List, [], ◌++◌, map, length, IfSome, IsSomeAnd}
use Rattle.std.specs.List.{AllByRecursion}
use Rattle.value_model.specs.Parts.{meant, meant_error, IsKnown}
use Rattle.value_model.specs.Store.{Store}
use Rattle.value_model.specs.Values.{Bytes}
use Rattle.value_model.specs.Waits.{Asks, ByLibrary, Stopped}
use Rattle.value_model.specs.declared.event.EventKind.TheVariants as event
use Rattle.value_model.specs.declared.event.Reply.{Reply}
use Rattle.value_model.specs.declared.value.Value.{Value}
use Rattle.bounded_runs.specs.Runs.{Goes, Shows, Ends}
use Rattle.luau_tables.specs.Answers.{meant_continue}
use Rattle.luau_tables.specs.Own.{HasText}
use Rattle.luau_tables.specs.Worlds.{MayUseIn}
use Rattle.luau_tables.specs.declared.answer.LibAnswer.{LibAnswer}
use Rattle.luau_tables.specs.declared.answer.LibAnswer.TheVariants.{Values, Print, RunError, Raise, Stop, CallBack}
use Rattle.luau_tables.specs.declared.globals.LibWorld.{LibWorld}
use Rattle.call_frames.specs.declared.frame.Frame.{Frame}
use Rattle.call_frames.specs.declared.frame.ReturnKind.{ReturnKind}
use Rattle.call_frames.specs.declared.frame.ReturnKind.TheVariants.{Library}
use Rattle.call_frames.specs.Stacks.{StackView}
use Rattle.call_frames.specs.Cells.{innermost}
use Rattle.op_words.specs.Chunks.{ChunkOf}
use Rattle.machine_meaning.specs.States.{Focus, State, Invoke, Hand, Fault}
use Rattle.machine_meaning.specs.States as machine
use Rattle.machine_meaning.specs.Moves.{Step, with_store}
use Rattle.machine_meaning.specs.Steps.{step}
use Rattle.machine_code.specs.declared.code.Code.{Code}
use Rattle.machine_code.specs.declared.code.Function.{Function}
use Rattle.machine_world.specs.Parts.{part, awaited}
use Rattle.machine_world.specs.Sound.{IsLibrary, AsksForTexts}
use Rattle.machine_library.specs.declared.next.Next.{Next}
use Rattle.machine_library.specs.declared.next.Next.TheVariants.{Gives, Prints, Fails, Raises, Stops, Calls}

-- each text in what imports hold has its number
abbrev pub KnowsImports : (texts : List Bytes) → Code → Type 0
KnowsImports texts code = AllByRecursion (λ (f : Function). AllByRecursion (λ v. IfSome v (HasText texts)) f.imports) code.functions

-- the store of a state is another one
abbrev pub stored : Store → State → State
stored st s = record s { world = with_store st s.world }

-- ---- what is done next

-- A move comes to what is done next, with the values that were given, beside the state that the stack and the world then mean. Where
-- something else is done, none were
abbrev pub LeadsTo : Step → Next → (given : List Value) → LibWorld → Code → StackView → List Reply → Type 0
LeadsTo m Gives vs w code s replies = m ≡ Goes [] (part w code s (Hand (map (meant w.names) vs)) replies)
LeadsTo m (Prints line) vs w code s replies = (vs ≡ []) × (m ≡ Shows [] (event.Print line) (part w code s (Hand []) replies))
LeadsTo m (Fails e) vs w code s replies = (vs ≡ []) × (m ≡ Goes [] (part w code s (Fault (meant_error w.names e)) replies))
LeadsTo m (Raises v) vs w code s replies = (vs ≡ []) × (m ≡ Goes [] (part w code s (machine.Raise (meant w.names v)) replies))
LeadsTo m (Stops stop) vs w code s replies = (vs ≡ []) × (m ≡ Ends [] (Stopped stop))
LeadsTo m (Calls f args) vs w code s replies =
    (vs ≡ []) × (m ≡ Goes [] (part w code s (Invoke ByLibrary (meant w.names f) (map (meant w.names) args.items)) replies))

-- the script may use the values, and the texts that a run error shows have numbers
abbrev pub IsNext : LibWorld → Next → Type 0
IsNext w (Fails e) = IsKnown w.names e
IsNext w (Raises v) = MayUseIn w v
IsNext w (Calls f args) = MayUseIn w f × AllByRecursion (MayUseIn w) args.items
IsNext w next = Unit {0}

-- What a script's running state comes to, in which this is done, where these values are appended
pub record LedTo (before after : LibWorld) (code : Code) (s s' : StackView) (results_before results_after : List Value) (next : Next) (x : Focus) : Type 0 where
  pub given : List Value
  pub appended : results_after ≡ results_before ++ given
  pub leads : (chunk : ChunkOf) (replies : List Reply) → LeadsTo (step chunk (part before code s x replies)) next given after code s' replies
  pub usable : IsNext after next
  pub values : AllByRecursion (MayUseIn after) given

-- ---- what waits

abbrev pub IsText : ReturnKind → Type 0
IsText (Library rest) = Unit {0}
IsText k = ⊥

-- a library function waits innermost for a text that it asked for
abbrev pub WaitsForText : StackView → Type 0
WaitsForText s = IsSomeAnd (innermost s) (λ (f : Frame). IsLibrary f × IsText f.kind)

-- ---- the answer behind it

-- a function that asks for texts asks for that of one of its arguments
abbrev pub IsAsking : LibAnswer → Type 0
IsAsking (CallBack f args then) = AsksForTexts then.builtin × (then.at < length then.args.items)
IsAsking answer = Unit {0}

-- A move comes to what an answer says, in the same way. Where it asks for a call, it waits in the state
abbrev pub Leads : Step → LibAnswer → (given : List Value) → LibWorld → Code → StackView → List Reply → Type 0
Leads m Values vs w code s replies = m ≡ Goes [] (part w code s (Hand (map (meant w.names) vs)) replies)
Leads m (Print line) vs w code s replies = (vs ≡ []) × (m ≡ Shows [] (event.Print line) (part w code s (Hand []) replies))
Leads m (RunError e) vs w code s replies = (vs ≡ []) × (m ≡ Goes [] (part w code s (Fault (meant_error w.names e)) replies))
Leads m (Raise v) vs w code s replies = (vs ≡ []) × (m ≡ Goes [] (part w code s (machine.Raise (meant w.names v)) replies))
Leads m (Stop stop) vs w code s replies = (vs ≡ []) × (m ≡ Ends [] (Stopped stop))
Leads m (CallBack f args then) vs w code s replies =
    (vs ≡ []) × (m ≡ Goes [] (awaited (Asks (meant_continue w.names then)) (part w code s (Invoke ByLibrary (meant w.names f) (map (meant w.names) args.items)) replies)))
