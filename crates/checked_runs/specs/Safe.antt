-- The states that well-formed code comes to.
use Rattle.std.specs.Prelude.{◌≡◌, ℕ, ◌+◌, ◌<◌, ◌≤◌, Bool, true, false, nat_eq, List, [], ◌∷◌, length, Option, Some, MatchOption}
use Rattle.value_model.specs.Values.{Value, Closure, Wrap, Thread}
use Rattle.value_model.specs.Store.{TableOf, CoroutineOf, Store, here}
use Rattle.value_model.specs.CoroutineRows.{coroutine_of}
use Rattle.value_model.specs.Waits.{Wait, Runs, Guards, Asks, Waits, waiting}
use Rattle.bounded_runs.specs.Runs.{Goes, Shows, Charges, Ends}
use Rattle.value_model.specs.Waits.{Stuck}
use Rattle.std.specs.Prelude.{◌≢◌}
use Rattle.op_words.specs.declared.insn.Insn.{Insn}
use Rattle.op_words.specs.declared.insn.Insn.TheVariants.{ForNLoop, ForGLoop}
use Rattle.op_words.specs.Chunks.{ChunkOf, ProtoOf}
use Rattle.machine_meaning.specs.Chunks.{proto_at}
use Rattle.machine_meaning.specs.States.{Register, Val, Open, Purpose, Idle, Results, Into, Compares, Joins, Follows, Stores, Begins, Turns, Frame, Focus, Run, Charged, GiveAll, Join, Follow, Invoke, Hand, Fault, Raise, Body, World, State}
use Rattle.machine_meaning.specs.Moves.{Step, store_of}
use Rattle.machine_meaning.specs.Calls.{is_dead}
use Rattle.checked_runs.specs.Places.{IsPlace, LeadsTo, LeadsOn, LeadsBack}

-- each element of a list
abbrev pub Each : {X : Type 0} → (X → Type 0) → List X → Type 0
Each P [] = Unit {0}
Each P (x ∷ xs) = P x × Each P xs

-- how many functions and cells there are
pub record Sizes : Type 0 where
  pub functions : ℕ
  pub cells : ℕ

-- ---- values

-- a function of the script exists, and no coroutine that a value names is the main function's own run
abbrev pub IsMade : (functions : ℕ) → Value → Type 0
IsMade n (Closure i) = i < n
IsMade n (Wrap i) = 0 < i
IsMade n (Thread i) = 0 < i
IsMade n _ = Unit {0}

abbrev pub AreMade : (functions : ℕ) → List Value → Type 0
AreMade n vs = Each (IsMade n) vs

-- the key and the value of an entry
abbrev pub IsEntry : (functions : ℕ) → Value × Value → Type 0
IsEntry n e = IsMade n e.0 × IsMade n e.1

abbrev pub IsTable : (functions : ℕ) → TableOf → Type 0
IsTable n t = Each (IsEntry n) t.entries

-- who has resumed another is a coroutine, and not the main function's own run, for which none stands
abbrev pub IsResumer : (coroutines : ℕ) → Option ℕ → Type 0
IsResumer count o = MatchOption o (Unit {0}) (λ j. (0 < j) × (j < count))

pub record IsCoroutine (n count : ℕ) (c : CoroutineOf) : Type 0 where
  pub body : IsMade n c.body
  pub resumer : IsResumer count c.resumer
  pub failure : MatchOption c.failure (Unit {0}) (IsMade n)

pub record IsStore (n : ℕ) (s : Store) : Type 0 where
  pub shared : Each (IsTable n) s.shared
  pub tables : Each (IsTable n) s.tables
  pub coroutines : Each (IsCoroutine n (length s.coroutines)) s.coroutines
  pub some : 0 < length s.coroutines
  pub running : IsResumer (length s.coroutines) s.running
  -- the main function's own run is never dead
  pub main : is_dead (coroutine_of s 0).status ≡ false

-- ---- functions that were entered

abbrev pub IsRegister : Sizes → Register → Type 0
IsRegister z (Val v) = IsMade z.functions v
IsRegister z (Open c) = c < z.cells

-- a function that was entered has the code of a function of the chunk, and all that this needs; and it stands at an instruction
pub record IsFrame (chunk : ChunkOf) (z : Sizes) (p : ProtoOf) (f : Frame) : Type 0 where
  pub code : proto_at chunk f.proto ≡ Some p
  pub size : f.size ≡ p.registers
  pub upvalues : length f.upvalues ≡ p.upvalues
  pub cells : Each (λ c. c < z.cells) f.upvalues
  pub closure : f.closure < z.functions
  pub varargs : AreMade z.functions f.varargs
  pub registers : (r : ℕ) → IsRegister z (f.registers r)
  pub stands : IsPlace p f.place

-- the registers that are given what it waits for are its own, and the places to which it goes on then
abbrev pub Awaits : ProtoOf → (functions place : ℕ) → Purpose → Type 0
Awaits p n place Idle = ⊥
Awaits p n place (Results to count next) = (to < p.registers) × IsPlace p next
Awaits p n place (Into to next) = (to < p.registers) × IsPlace p next
Awaits p n place (Compares jumps by next) = LeadsOn p place by × IsPlace p next
Awaits p n place (Joins before to next) = AreMade n before × (to < p.registers) × IsPlace p next
Awaits p n place (Follows names to next) = (length names ≤ 3) × (to < p.registers) × IsPlace p next
Awaits p n place (Stores next) = IsPlace p next
Awaits p n place (Begins base by) = (base + 2 < p.registers) × LeadsOn p place by
Awaits p n place (Turns base variables by next) = (base + (3 + variables) ≤ p.registers) × LeadsTo p place by × LeadsBack place by × IsPlace p next

pub record IsWaiting (chunk : ChunkOf) (z : Sizes) (f : Frame) : Type 0 where
  pub code : ProtoOf
  pub frame : IsFrame chunk z code f
  pub awaits : Awaits code z.functions f.place f.purpose

-- For each function that waits in a coroutine there is one that was entered, the innermost first, and it waits for a call. Whatever
-- stands below these is never come to
abbrev pub AreStacked : ChunkOf → Sizes → List Wait → List Frame → Type 0
AreStacked chunk z [] fs = Unit {0}
AreStacked chunk z (Runs c ∷ ws) [] = ⊥
AreStacked chunk z (Runs c ∷ ws) (f ∷ fs) = (f.closure ≡ c) × IsWaiting chunk z f × AreStacked chunk z ws fs
AreStacked chunk z (w ∷ ws) fs = AreStacked chunk z ws fs

-- the innermost function, if one waits innermost, is about to be left
abbrev pub AreLeft : ChunkOf → Sizes → List Wait → List Frame → Type 0
AreLeft chunk z [] fs = Unit {0}
AreLeft chunk z (Runs c ∷ ws) [] = ⊥
AreLeft chunk z (Runs c ∷ ws) (f ∷ fs) = AreStacked chunk z ws fs
AreLeft chunk z (w ∷ ws) fs = AreStacked chunk z ws fs

-- ---- what all functions share

abbrev pub IsWait : (functions : ℕ) → Wait → Type 0
IsWait n (Runs c) = c < n
IsWait n (Guards h) = IsMade n h
IsWait n (Asks then) = AreMade n then.arguments
IsWait n _ = Unit {0}

pub record IsBody (chunk : ChunkOf) (z : Sizes) (b : Body) : Type 0 where
  pub code : ProtoOf
  pub is : proto_at chunk b.proto ≡ Some code
  pub upvalues : length b.cells ≡ code.upvalues
  pub cells : Each (λ c. c < z.cells) b.cells

-- what waits in the coroutines, with the functions of those that do not run. What a dead one had entered is forgotten
pub record AreWaits (chunk : ChunkOf) (z : Sizes) (s : Store) (ws : Waits) (elsewhere : ℕ → List Frame) : Type 0 where
  pub enough : length s.coroutines ≤ length ws
  pub each : Each (Each (IsWait z.functions)) ws
  pub stacked : (i : ℕ) → nat_eq i (here s) ≡ false → AreStacked chunk z (waiting ws i) (elsewhere i)
  pub dead : (i : ℕ) → nat_eq i (here s) ≡ false → is_dead (coroutine_of s i).status ≡ true → AreStacked chunk z (waiting ws i) []

pub record IsWorld (chunk : ChunkOf) (z : Sizes) (w : World) : Type 0 where
  pub functions : length w.objects.bodies ≡ z.functions
  pub environments : length (store_of w).closures ≡ z.functions
  pub cells : length w.objects.cells ≡ z.cells
  pub bodies : Each (IsBody chunk z) w.objects.bodies
  pub values : AreMade z.functions w.objects.cells
  pub store : IsStore z.functions (store_of w)
  pub waits : AreWaits chunk z (store_of w) w.waits w.elsewhere
  pub imports : (p k : ℕ) → MatchOption (w.imports p k) (Unit {0}) (IsMade z.functions)

-- ---- what is done

abbrev pub is_loop : Insn → Bool
is_loop (ForNLoop a d) = true
is_loop (ForGLoop a d x) = true
is_loop _ = false

-- a loop that has charged a turn stands at the place
pub record IsLoop (p : ProtoOf) (place : ℕ) : Type 0 where
  pub stands : IsPlace p place
  pub loop : is_loop stands.line.insn ≡ true

abbrev pub is_some_value : List Value → Bool
is_some_value [] = false
is_some_value (v ∷ vs) = true

-- the innermost function runs, with something that holds of it, and those below it wait
pub record IsActive (chunk : ChunkOf) (z : Sizes) (P : ProtoOf → Frame → Type 0) (ws : List Wait) (fs : List Frame) : Type 0 where
  pub code : ProtoOf
  pub frame : Frame
  pub below : List Frame
  pub functions : fs ≡ frame ∷ below
  pub rest : List Wait
  pub waits : ws ≡ Runs frame.closure ∷ rest
  pub is : IsFrame chunk z code frame
  pub stacked : AreStacked chunk z rest below
  pub holds : P code frame

abbrev pub AreDoing : ChunkOf → Sizes → Focus → List Wait → List Frame → Type 0
AreDoing chunk z Run ws fs = IsActive chunk z (λ p f. IsPlace p f.place) ws fs
AreDoing chunk z Charged ws fs = IsActive chunk z (λ p f. IsLoop p f.place) ws fs
AreDoing chunk z (GiveAll vs) ws fs =
    AreMade z.functions vs × IsActive chunk z (λ p f. Awaits p z.functions f.place f.purpose) ws fs
AreDoing chunk z (Join vs to next) ws fs =
    AreMade z.functions vs × (is_some_value vs ≡ true) × IsActive chunk z (λ p f. (to < p.registers) × IsPlace p next) ws fs
AreDoing chunk z (Follow base names to next) ws fs =
    IsMade z.functions base × IsActive chunk z (λ p f. (length names ≤ 3) × (to < p.registers) × IsPlace p next) ws fs
AreDoing chunk z (Invoke by callee args) ws fs =
    IsMade z.functions callee × AreMade z.functions args × AreStacked chunk z ws fs
AreDoing chunk z (Hand vs) ws fs = AreMade z.functions vs × AreStacked chunk z ws fs
AreDoing chunk z (Fault e) ws fs = AreLeft chunk z ws fs
AreDoing chunk z (Raise v) ws fs = IsMade z.functions v × AreLeft chunk z ws fs

pub record IsSafe (chunk : ChunkOf) (s : State) : Type 0 where
  pub sizes : Sizes
  pub world : IsWorld chunk sizes s.world
  pub doing : AreDoing chunk sizes s.focus (waiting s.world.waits (here (store_of s.world))) s.functions

-- a move leads to such a state, or to an end that is not for lack of a rule
abbrev pub IsSafeMove : ChunkOf → Step → Type 0
IsSafeMove chunk (Goes ns s) = IsSafe chunk s
IsSafeMove chunk (Shows ns e s) = IsSafe chunk s
IsSafeMove chunk (Charges s) = IsSafe chunk s
IsSafeMove chunk (Ends ns e) = e ≢ Stuck
