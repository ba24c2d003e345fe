-- What becomes of an instruction.
use Rattle.std.specs.Prelude.{◌≡◌, ℕ, zero, suc, pos, negsuc, Bool, true, false, List, [], ◌∷◌, map, take, Result, Ok, Err}
use Rattle.std.specs.List.{AllByRecursion}
use Rattle.op_words.specs.declared.insn.Insn.{Insn}
use Rattle.op_words.specs.declared.insn.Insn.TheVariants.{Nop, JumpBack, ForNLoop, ForGLoop}
use Rattle.op_words.specs.Chunks.{ChunkOf}
use Rattle.value_model.specs.Parts.{meant, meant_error}
use Rattle.value_model.specs.Values.{Bytes}
use Rattle.value_model.specs.Waits.{End, ByScript, ByLibrary, Stopped}
use Rattle.value_model.specs.declared.error.RunErr.TheVariants as err
use Rattle.value_model.specs.declared.event.Reply.{Reply}
use Rattle.value_model.specs.declared.value.Value.{Value}
use Rattle.bounded_runs.specs.Runs.{Charges}
use Rattle.luau_tables.specs.Worlds.{MayUseIn, Extends}
use Rattle.luau_tables.specs.declared.globals.LibWorld.{LibWorld}
use Rattle.call_frames.specs.Stacks.{StackView}
use Rattle.machine_meaning.specs.States.{Focus, Run, GiveAll, Invoke, Hand, Fault, State}
use Rattle.machine_meaning.specs.Moves.{Step}
use Rattle.machine_meaning.specs.Steps.{step}
use Rattle.machine_code.specs.declared.code.Code.{Code}
use Rattle.machine_world.specs.Parts.{part}
use Rattle.machine_world.specs.Sound.{GoesOn, UsesStay}
use Rattle.machine_flow.specs.declared.counts.Failure.{Failure}
use Rattle.machine_flow.specs.declared.counts.Failure.TheVariants as failure
use Rattle.machine_rows.specs.Leading.{LeadsTo, EndsSo, IsNext}
use Rattle.machine_rows.specs.declared.next.Next.{Next}
use Rattle.machine_rows.specs.declared.next.Next.TheVariants.{Continues, Gives, Calls, Fails, Stops}
use Rattle.machine_steps.specs.declared.done.Done.{Done}
use Rattle.machine_steps.specs.declared.done.Done.TheVariants as done

-- what is done next, or how the script ends. Of some instructions nothing is said yet
pub data Course : Type 0 where
  Leads : (x : Focus) → Course
  Over : (e : End) → Course
  Untold : Course

-- a move comes to it, beside the state that the stack and the world then mean
abbrev pub Reaches : ChunkOf → Step → (tables : ℕ) → Course → LibWorld → Code → StackView → List Reply → Type 0
Reaches chunk m n (Leads x) w code s replies = LeadsTo chunk m n (part w code s x replies)
Reaches chunk m n (Over e) w code s replies = EndsSo chunk m n e
Reaches chunk m n Untold w code s replies = Unit {0}

-- a state is that already, or the move from it comes to it
pub data IsOrReaches (chunk : ChunkOf) (w : LibWorld) (code : Code) (s : StackView) (replies : List Reply) : State → (tables : ℕ) → Course → Type 0 where
  is : (x : Focus) {t : State} → t ≡ part w code s x replies → IsOrReaches chunk w code s replies t 0 (Leads x)
  moves : {t : State} {n : ℕ} {c : Course} → Reaches chunk (step chunk t) n c w code s replies → IsOrReaches chunk w code s replies t n c

-- a turn is charged first
pub record ReachesCharged (chunk : ChunkOf) (m : Step) (n : ℕ) (c : Course) (w : LibWorld) (code : Code) (s : StackView) (replies : List Reply) : Type 0 where
  pub middle : State
  pub charges : m ≡ Charges middle
  pub reaches : IsOrReaches chunk w code s replies middle n c

abbrev pub ReachesSo : (charges : Bool) → ChunkOf → Step → (tables : ℕ) → Course → LibWorld → Code → StackView → List Reply → Type 0
ReachesSo false chunk m n c w code s replies = Reaches chunk m n c w code s replies
ReachesSo true chunk m n c w code s replies = ReachesCharged chunk m n c w code s replies

-- ---- turns

-- these charge a turn, and no others do
abbrev pub charges : Insn → Bool
charges (Nop (pos zero)) = false
charges (Nop (pos (suc n))) = true
charges (Nop (negsuc n)) = false
charges (JumpBack by) = true
charges (ForNLoop base by) = true
charges (ForGLoop base by variables) = true
charges _ = false

-- ---- instructions

-- The move of an instruction comes to this, whichever replies are left, once so many tables were asked
unfoldable pub Executes : ChunkOf → Insn → LibWorld → Code → StackView → (tables : ℕ) → Course → LibWorld → StackView → Type 0
Executes chunk insn w code s n c w' s' =
    (replies : List Reply) → ReachesSo (charges insn) chunk (step chunk (part w code s Run replies)) n c w' code s' replies

-- what is done next by the machine
abbrev pub course_next : (texts : List Bytes) → Next → Course
course_next texts Continues = Leads Run
course_next texts (Gives v) = Leads (GiveAll (meant texts v ∷ []))
course_next texts (Calls f args count) = Leads (Invoke ByLibrary (meant texts f) (map (meant texts) (take count args)))
course_next texts (Fails e) = Leads (Fault (meant_error texts e))
course_next texts (Stops stop) = Over (Stopped stop)

-- a loop over numbers goes on, or fails
abbrev pub next_of : {A : Type 0} → Result A Failure → Next
next_of (Ok x) = Continues
next_of (Err (failure.NoNumber b k)) = Fails (err.ForBound b k)
next_of (Err (failure.Stop stop)) = Stops stop

-- values in hand are arguments of what is called, or those of the function that was left
abbrev pub course : (texts : List Bytes) → (in_hand : List Value) → Done → Course
course texts vs (done.Next x) = course_next texts x
course texts vs (done.Invokes f) = Leads (Invoke ByScript (meant texts f) (map (meant texts) vs))
course texts vs done.Hands = Leads (Hand (map (meant texts) vs))
course texts vs done.NotBuilt = Untold

-- what is known then
abbrev pub IsDone : LibWorld → StackView → (in_hand : List Value) → Done → Type 0
IsDone w s vs (done.Next x) = IsNext w s x
IsDone w s vs (done.Invokes f) = (s.top ≡ 0) × MayUseIn w f × AllByRecursion (MayUseIn w) vs
IsDone w s vs done.Hands = (s.top ≡ 0) × AllByRecursion (MayUseIn w) vs
IsDone w s vs done.NotBuilt = GoesOn s

-- ---- what stays

-- the script's world goes on: it is the same script's, texts keep their numbers, and what the script might use it may still use
pub record Stays (before after : LibWorld) : Type 0 where
  pub owner : after.owner ≡ before.owner
  pub globals : after.globals ≡ before.globals
  pub names : Extends before.names after.names
  pub uses : UsesStay before after

-- whether the instruction was done
abbrev pub is_done : Done → Bool
is_done done.NotBuilt = false
is_done x = true
