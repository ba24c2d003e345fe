-- Calls: what comes of what waits for them.
use Rattle.std.specs.Prelude.{ℕ, Bool, true, false, map, List, [], ◌∷◌, length, drop, take, filter, not, Option, Some, None, slice_get, nat_eq, if◌then◌else◌}
use Rattle.value_model.specs.declared.builtin.Builtin.TheVariants as builtin
use Rattle.value_model.specs.declared.kind.CoStatus.{CoStatus}
use Rattle.value_model.specs.declared.kind.CoStatus.TheVariants.{Dead}
use Rattle.value_model.specs.CoroutineRows.{coroutine_of}
use Rattle.value_model.specs.Values.{Value, Native, Thread, TableRef}
use Rattle.value_model.specs.Store.{Store, here, same_table}
use Rattle.value_model.specs.Names.{name_of}
use Rattle.value_model.specs.Waits.{Wait, Runs, Case, Called, Given, Passed, Answer, Gives, Enters, Calls, Throws, Stops, Finishes, Dies, Thrown, Fails, Raises, Waited, leave, Ended, Raised, Stopped, Stuck}
use Rattle.value_model.specs.declared.event.EventKind.{EventKind}
use Rattle.value_model.specs.declared.event.EventKind.TheVariants.{Host}
use Rattle.value_model.specs.declared.event.Reply.{Reply}
use Rattle.bounded_runs.specs.Runs.{Goes, Shows, Charges, Ends}
use Rattle.value_model.specs.Waiting.{wait}
use Rattle.machine_meaning.specs.States.{Focus, Run, GiveAll, Invoke, Hand, Fault, Raise, Idle, Body, Frame, World, State, filled}
use Rattle.op_words.specs.Chunks.{ChunkOf, ProtoOf}
use Rattle.machine_meaning.specs.Chunks.{proto_at}
use Rattle.machine_meaning.specs.Moves.{Step, store_of, with_store}

abbrev pub state_with : Focus → List Frame → World → State
state_with f fs w = record { focus = f; functions = fs; world = w }

-- ---- functions

-- the arguments behind the parameters
abbrev pub varargs_of : Bool → ℕ → List Value → List Value
varargs_of false n vs = []
varargs_of true n vs = drop n vs

-- A function is entered: its parameters are in its first registers
abbrev pub begun : Option ProtoOf → Body → (closure : ℕ) → List Value → List Frame → World → Option State
begun None b f vs fs w = None
begun (Some p) b f vs fs w =
    Some (state_with Run (record { closure = f; proto = b.proto; size = p.registers; upvalues = b.cells; varargs = varargs_of p.vararg p.params vs; place = 0; registers = filled 0 (take p.params vs); top = length (take p.params vs); purpose = Idle } ∷ fs) w)

abbrev pub enter : ChunkOf → Option Body → (closure : ℕ) → List Value → List Frame → World → Option State
enter chunk None f vs fs w = None
enter chunk (Some b) f vs fs w = begun (proto_at chunk b.proto) b f vs fs w

-- a function is left with values, and no longer waits
abbrev pub hand_back : List Value → List Frame → World → Step
hand_back vs below w = Goes [] (state_with (Hand vs) below (record w { waits = leave w.waits (store_of w) }))

-- ---- coroutines

abbrev pub is_dead : CoStatus → Bool
is_dead Dead = true
is_dead _ = false

abbrev pub put : (ℕ → List Frame) → ℕ → List Frame → ℕ → List Frame
put m i fs j = if nat_eq j i then fs else m j

-- the functions of the coroutine that runs now, and the world in which the others wait; it itself waits no longer
abbrev pub switched : Bool → (from to : ℕ) → List Frame → World → List Frame × World
switched true from to fs w = (fs, w)
switched false from to fs w = (w.elsewhere to, record w { elsewhere = put (put w.elsewhere from fs) to [] })

-- ---- what waits

-- a raised value. What was raised, and how, says more where lines stand before texts
abbrev pub thrown : Thrown → Focus
thrown (Fails e) = Fault e
thrown (Raises v origin) = Raise v

-- a turn is charged first, or an event is shown, or neither
abbrev pub to : Bool → Option EventKind → State → Step
to true event s = Charges s
to false (Some e) s = Shows [] e s
to false None s = Goes [] s

abbrev pub entered : Option State → (State → Step) → Step
entered None go = Ends [] Stuck
entered (Some s) go = go s

-- what an answer leads to
abbrev pub follows : ChunkOf → Answer → (State → Step) → List Frame → World → Step
follows chunk (Gives vs) go fs w = go (state_with (Hand vs) fs w)
follows chunk (Enters f vs) go fs w = entered (enter chunk (slice_get w.objects.bodies f) f vs fs w) go
follows chunk (Calls by f vs) go fs w = go (state_with (Invoke by f vs) fs w)
follows chunk (Throws t) go fs w = go (state_with (thrown t) fs w)
follows chunk (Stops s) go fs w = Ends [] (Stopped s)
follows chunk (Finishes vs) go fs w = Ends [] (Ended (map (name_of (store_of w).globals) vs))
follows chunk (Dies v) go fs w = Ends [] (Raised (name_of (store_of w).globals v))

-- the reply that a call of a host function used is gone
abbrev pub replies_after : Option EventKind → List Reply → List Reply
replies_after (Some (Host f vs reply)) rs = drop 1 rs
replies_after _ rs = rs

-- an environment that `getfenv` gives or `setfenv` is given loses its mark
abbrev pub unmarked : Option TableRef → List TableRef → List TableRef
unmarked None ts = ts
unmarked (Some t) ts = filter (λ u. not (same_table t u)) ts

abbrev pub world_after : Waited → World → World
world_after a w = record (with_store a.store w) { waits = a.waits; marked = unmarked a.environment w.marked; replies = replies_after a.event w.replies }

-- the library, or a coroutine, has decided
abbrev pub decided : ChunkOf → Waited → List Frame → World → Step
decided chunk a fs w =
    let from = here (store_of w) in
    let next = here a.store in
    let there = switched (nat_eq from next) from next fs (world_after a w) in
    follows chunk a.answer (to a.charged a.event) there.0 there.1

-- a coroutine that a call has closed waits no longer
abbrev pub without_closed : Case → Store → World → World
without_closed (Called by (Native builtin.CoroutineClose) (Thread i ∷ vs)) s w =
    if is_dead (coroutine_of s i).status then record w { elsewhere = put w.elsewhere i [] } else w
without_closed c s w = w

abbrev pub asks : ChunkOf → Case → List Frame → World → Step
asks chunk c fs w =
    let a = wait w.waits (store_of w) c (slice_get w.replies 0) in decided chunk a fs (without_closed c a.store w)

-- a call waits innermost in the coroutine, or nothing does
abbrev pub is_function : Option Wait → Bool
is_function (Some (Runs f)) = true
is_function _ = false

-- values are for the function that waits innermost, or for what else waits
abbrev pub hand : ChunkOf → Bool → List Value → List Frame → World → Step
hand chunk true vs fs w = Goes [] (state_with (GiveAll vs) fs w)
hand chunk false vs fs w = asks chunk (Given vs) fs w

-- a function that an error passes is left
abbrev pub without_first : List Frame → List Frame
without_first [] = []
without_first (a ∷ fs) = fs

abbrev pub raise : ChunkOf → Bool → Value → List Frame → World → Step
raise chunk true v fs w =
    Goes [] (state_with (Raise v) (without_first fs) (record w { waits = leave w.waits (store_of w) }))
raise chunk false v fs w = asks chunk (Passed v) fs w
