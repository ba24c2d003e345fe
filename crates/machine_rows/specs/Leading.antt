-- What an instruction that asks for an operation on values leads to.
use Rattle.std.specs.Prelude.{◌≡◌, ℕ, ◌+◌, List, [], ◌∷◌, map, take, replicate}
use Rattle.std.specs.List.{AllByRecursion}
use Rattle.value_model.specs.Parts.{meant, meant_error, IsKnown}
use Rattle.value_model.specs.Waits.{End, ByLibrary, Stopped}
use Rattle.value_model.specs.declared.event.Reply.{Reply}
use Rattle.bounded_runs.specs.Runs.{Goes, Ends}
use Rattle.luau_tables.specs.Worlds.{MayUseIn}
use Rattle.luau_tables.specs.declared.globals.LibWorld.{LibWorld}
use Rattle.call_frames.specs.Stacks.{StackView}
use Rattle.op_words.specs.Chunks.{ChunkOf}
use Rattle.machine_meaning.specs.States.{Purpose, Run, GiveAll, Invoke, Fault, Inside, State}
use Rattle.machine_meaning.specs.Moves.{Look, asked, Row, Step, waits_for}
use Rattle.machine_meaning.specs.Steps.{step}
use Rattle.machine_code.specs.declared.code.Code.{Code}
use Rattle.machine_world.specs.Parts.{part}
use Rattle.machine_world.specs.Rows.{row_in}
use Rattle.machine_world.specs.Sound.{Runs, GoesOn}
use Rattle.machine_rows.specs.declared.next.Next.{Next}
use Rattle.machine_rows.specs.declared.next.Next.TheVariants.{Continues, Gives, Calls, Fails, Stops}

-- so many tables were asked
abbrev pub looks : ℕ → List Look
looks n = replicate n asked

-- A move, and those that the machine makes behind it, come to a state. None of them shows anything or charges a turn, and in all so
-- many tables are asked
pub data LeadsTo (chunk : ChunkOf) : Step → (tables : ℕ) → State → Type 0 where
  goes : (n : ℕ) {m : Step} {s : State} → m ≡ Goes (looks n) s → LeadsTo chunk m n s
  goes_on : (n k all : ℕ) {m : Step} {s t : State} → m ≡ Goes (looks n) s → LeadsTo chunk (step chunk s) k t → n + k ≡ all → LeadsTo chunk m all t

-- or to an end
pub data EndsSo (chunk : ChunkOf) : Step → (tables : ℕ) → End → Type 0 where
  ends : (n : ℕ) {m : Step} {e : End} → m ≡ Ends (looks n) e → EndsSo chunk m n e
  ends_on : (n k all : ℕ) {m : Step} {s : State} {e : End} → m ≡ Goes (looks n) s → EndsSo chunk (step chunk s) k e → n + k ≡ all → EndsSo chunk m all e

-- A move comes to what is done next, beside the state that the stack and the world then mean
abbrev pub ComesTo : ChunkOf → Step → (tables : ℕ) → Next → LibWorld → Code → StackView → List Reply → Type 0
ComesTo chunk m n Continues w code s replies = LeadsTo chunk m n (part w code s Run replies)
ComesTo chunk m n (Gives v) w code s replies = LeadsTo chunk m n (part w code s (GiveAll (meant w.names v ∷ [])) replies)
ComesTo chunk m n (Calls f args count) w code s replies =
    LeadsTo chunk m n (part w code s (Invoke ByLibrary (meant w.names f) (map (meant w.names) (take count args))) replies)
ComesTo chunk m n (Fails e) w code s replies = LeadsTo chunk m n (part w code s (Fault (meant_error w.names e)) replies)
ComesTo chunk m n (Stops stop) w code s replies = EndsSo chunk m n (Stopped stop)

-- So a row does in a script's running state
unfoldable pub Does : ChunkOf → Row → LibWorld → Code → StackView → (tables : ℕ) → Next → LibWorld → StackView → Type 0
Does chunk row w code s n next w' s' =
    (replies : List Reply) → ComesTo chunk (row_in row (part w code s Run replies).functions (part w code s Run replies).world) n next w' code s' replies

-- What is known then: the script may use the values, and the texts that a run error shows have numbers. A function that waits for a
-- call has no list of values
abbrev pub IsNext : LibWorld → StackView → Next → Type 0
IsNext w s Continues = GoesOn s
IsNext w s (Gives v) = Runs s × MayUseIn w v
IsNext w s (Calls f args count) = (s.top ≡ 0) × MayUseIn w f × AllByRecursion (MayUseIn w) args
IsNext w s (Fails e) = Runs s × IsKnown w.names e
IsNext w s (Stops stop) = Unit {0}

-- the function that runs waits so, and its list of values stays
abbrev pub expects : Purpose → Inside → Inside
expects p i = record i { frame = waits_for p i.frame }
