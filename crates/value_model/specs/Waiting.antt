-- What comes of a call, of values that are given to a call that waits, and of an error that passes one.
use Rattle.std.specs.Prelude.{ℕ, suc, ◌-◌, Bool, true, false, List, [], ◌∷◌, ◌++◌, length, replicate, map, Option, Some, None, Result, Ok, Err, slice_index_or}
use Rattle.value_model.specs.declared.kind.CoStatus.{CoStatus}
use Rattle.value_model.specs.declared.kind.CoStatus.TheVariants.{Running, Suspended, Normal, Dead}
use Rattle.value_model.specs.declared.error.Wanted.TheVariants.{PlainValue}
use Rattle.value_model.specs.Values.{Bytes, TableRef, Value, Nil, Boolean, Text, Table, Closure, Native, Host, Wrap, kind_of}
use Rattle.value_model.specs.Errors.{RunError, error_text, DeadCoroutine, NotSuspended, CloseRunning, YieldOutside, FixedEnvironment, InvalidArgument, NoReply}
use Rattle.value_model.specs.Store.{Store, CoroutineOf, here, environment_of, with_environment, script_environment}
use Rattle.value_model.specs.Paths.{last_name}
use Rattle.value_model.specs.declared.plain.Plain.{Plain}
use Rattle.value_model.specs.declared.event.EventKind.{EventKind}
use Rattle.value_model.specs.declared.event.EventKind.TheVariants as event
use Rattle.value_model.specs.declared.event.Reply.{Reply}
use Rattle.value_model.specs.declared.event.Reply.TheVariants as answered
use Rattle.value_model.specs.Names.{value_of, as_plain}
use Rattle.value_model.specs.Waits.{Wait, Runs, Protects, Guards, Handles, Resumes, Asks, Waits, waiting, with_waiting, leave, await, innermost_function, Caller, ByScript, ByLibrary, Case, Called, Given, Passed, Elsewise, Fails, Raises, Answer, Gives, Enters, Calls, Throws, Stops, Finishes, Dies, Waited}
use Rattle.value_model.specs.Choices.{Outcome, Done, CallThis, Errs, Halts}
use Rattle.value_model.specs.Metamethods.{callee_of}
use Rattle.value_model.specs.Answers.{CoMove, Resume, Yield, Close, Whose, Innermost, OfFunction, OfScript, EnvironmentUse, Reads, Replaces, LibAnswer, Answers, PrintsLine, ErrsWith, RaisesValue, HaltsWith, CallsBack, Moves, OnEnvironment}
use Rattle.value_model.specs.CoroutineRows.{coroutine_of, with_coroutine, dead}
use Rattle.value_model.specs.Library.{lib, go_on}

-- what is done with what waits and the store
abbrev pub Row : Type 0
Row = Waits → Store → Waited

-- an answer, with nothing charged and nothing shown
abbrev pub now : Answer → Row
now a ws s = record { charged = false; answer = a; waits = ws; store = s; event = None; environment = None }

abbrev pub charged : Answer → Row
charged a ws s = record { charged = true; answer = a; waits = ws; store = s; event = None; environment = None }

abbrev pub shown : EventKind → Answer → Row
shown e a ws s = record { charged = false; answer = a; waits = ws; store = s; event = Some e; environment = None }

-- an environment was given to the script, or by it
abbrev pub noted : TableRef → Answer → Row
noted t a ws s = record { charged = false; answer = a; waits = ws; store = s; event = None; environment = Some t }

abbrev pub fails : RunError → Row
fails e ws s = now (Throws (Fails e)) ws s

-- ---- coroutines

abbrev pub with_status : CoroutineOf → CoStatus → CoroutineOf
with_status c status = record c { status = status }

-- who has resumed another is normal. The main function's own run keeps its state
abbrev pub becomes : CoStatus → Option ℕ → Store → Store
becomes status None s = s
becomes status (Some i) s = with_coroutine s i (with_status (coroutine_of s i) status)

-- a coroutine runs, resumed by the one that did
abbrev pub resumed : ℕ → Store → Store
resumed i s = record (with_coroutine (becomes Normal s.running s) i (record { body = Nil; status = Running; resumer = s.running; failure = None })) { running = Some i }

-- the one that runs is left so, and the one that has resumed it runs
abbrev pub left : ℕ → CoroutineOf → Store → Store
left i c s = record (becomes Running (coroutine_of s i).resumer (with_coroutine s i c)) { running = (coroutine_of s i).resumer }

-- one that was begun gives the values to its call of `yield`; another one's function is called with them
abbrev pub goes_into : (body : Value) → List Value → Answer
goes_into Nil args = Gives args
goes_into f args = Calls ByLibrary f args

-- a resume that is not refused charges a turn of its own
abbrev pub resume_it : (wrapped : Bool) → ℕ → List Value → Row
resume_it wrapped i args ws s = charged (goes_into (coroutine_of s i).body args) (await (Resumes wrapped) ws s) (resumed i s)

-- a function of `coroutine.wrap` raises the refusal, and `coroutine.resume` gives its text
abbrev pub refused : (wrapped : Bool) → RunError → Row
refused true e ws s = fails e ws s
refused false e ws s = now (Gives (Boolean false ∷ Text (error_text e) ∷ [])) ws s

abbrev pub resume_by : CoStatus → (wrapped : Bool) → ℕ → List Value → Row
resume_by Suspended wrapped i args ws s = resume_it wrapped i args ws s
resume_by Dead wrapped i args ws s = refused wrapped DeadCoroutine ws s
resume_by _ wrapped i args ws s = refused wrapped NotSuspended ws s

abbrev pub resume : (wrapped : Bool) → ℕ → List Value → Row
resume wrapped i args ws s = resume_by (coroutine_of s i).status wrapped i args ws s

abbrev pub yield : Option ℕ → List Value → Row
yield None vs ws s = fails YieldOutside ws s
yield (Some i) vs ws s = now (Gives vs) ws (left i (record { body = Nil; status = Suspended; resumer = None; failure = None }) s)

-- the end of a coroutine with values
abbrev pub finish : Option ℕ → List Value → Row
finish None vs ws s = now (Finishes vs) ws s
finish (Some i) vs ws s = now (Gives vs) (with_waiting ws i []) (left i dead s)

-- the end of a coroutine with an error, which goes on in the one that has resumed it
abbrev pub die : Option ℕ → Value → Row
die None v ws s = now (Dies v) ws s
die (Some i) v ws s = now (Throws (Raises v Elsewise)) (with_waiting ws i []) (left i (record dead { failure = Some v }) s)

-- whether it died of an error
abbrev pub close_dead : Option Value → ℕ → Row
close_dead (Some v) i ws s = now (Gives (Boolean false ∷ v ∷ [])) ws s
close_dead None i ws s = now (Gives (Boolean true ∷ [])) (with_waiting ws i []) (with_coroutine s i dead)

abbrev pub close_by : CoStatus → ℕ → Row
close_by Running i ws s = fails CloseRunning ws s
close_by Normal i ws s = fails CloseRunning ws s
close_by _ i ws s = close_dead (coroutine_of s i).failure i ws s

abbrev pub move_by : CoMove → Row
move_by (Resume i args) ws s = resume false i args ws s
move_by (Yield vs) ws s = yield s.running vs ws s
move_by (Close i) ws s = close_by (coroutine_of s i).status i ws s

-- ---- environments

-- that of a Luau function, or the script's
abbrev pub environment_for : Store → Option ℕ → TableRef
environment_for s None = script_environment
environment_for s (Some f) = environment_of s f

abbrev pub function_meant : Whose → List Wait → Option ℕ
function_meant Innermost w = innermost_function w
function_meant (OfFunction f) w = Some f
function_meant OfScript w = None

abbrev pub read_environment : TableRef → Row
read_environment t ws s = noted t (Gives (Table t ∷ [])) ws s

abbrev pub replace_environment : Option ℕ → TableRef → Row
replace_environment None t ws s = fails FixedEnvironment ws s
replace_environment (Some f) t ws s = noted t (Gives (Closure f ∷ [])) ws (with_environment s f t)

abbrev pub environment_by : EnvironmentUse → Row
environment_by (Reads f) ws s = read_environment (environment_for s (function_meant f (waiting ws (here s)))) ws s
environment_by (Replaces f t) ws s = replace_environment (function_meant f (waiting ws (here s))) t ws s

-- ---- library functions

-- a list for each coroutine, new ones too
abbrev pub for_all : Store → Waits → Waits
for_all s ws = ws ++ replicate (length s.coroutines - length ws) []

abbrev pub by_library : LibAnswer → Row
by_library (Answers vs s') ws s = now (Gives vs) (for_all s' ws) s'
by_library (PrintsLine line) ws s = shown (event.Print line) (Gives []) ws s
by_library (ErrsWith e) ws s = fails e ws s
by_library (RaisesValue v origin) ws s = now (Throws (Raises v origin)) ws s
by_library (HaltsWith stop) ws s = now (Stops stop) ws s
by_library (CallsBack f args w) ws s = now (Calls ByLibrary f args) (await w ws s) s
by_library (Moves m) ws s = move_by m ws s
by_library (OnEnvironment u) ws s = environment_by u ws s

-- ---- host functions

abbrev pub by_reply : Bytes → List Plain → Option Reply → Row
by_reply path args None ws s = shown (event.Host path args None) (Throws (Fails NoReply)) ws s
by_reply path args (Some (answered.Values vs)) ws s = shown (event.Host path args (Some (answered.Values vs))) (Gives (map value_of vs)) ws s
by_reply path args (Some (answered.Raise v)) ws s = shown (event.Host path args (Some (answered.Raise v))) (Throws (Raises (value_of v) Elsewise)) ws s

-- the arguments as plain values, or the first that is none, with its place from 0
abbrev pub PlainOrNot : Type 0
PlainOrNot = Result (List Plain) (ℕ × Value)

abbrev pub with_first : Plain → PlainOrNot → PlainOrNot
with_first p (Ok ps) = Ok (p ∷ ps)
with_first p (Err e) = Err e

abbrev pub plain_or_not : ℕ → Value → Option Plain → PlainOrNot → PlainOrNot
plain_or_not i v None rest = Err (i, v)
plain_or_not i v (Some p) rest = with_first p rest

abbrev pub plain_arguments : ℕ → List Value → PlainOrNot
plain_arguments i [] = Ok []
plain_arguments i (v ∷ vs) = plain_or_not i v (as_plain v) (plain_arguments (suc i) vs)

abbrev pub host_call : Bytes → PlainOrNot → Option Reply → Row
host_call path (Err e) reply ws s = fails (InvalidArgument (suc e.0) (last_name path) PlainValue (kind_of e.1)) ws s
host_call path (Ok args) reply ws s = by_reply path args reply ws s

-- ---- calls

-- a table may say what is called in its place
abbrev pub by_callee : Outcome → List Value → Row
by_callee (CallThis h before) args ws s = now (Calls ByLibrary h (before ++ args)) ws s
by_callee (Errs e) args ws s = fails e ws s
by_callee (Done f) args ws s = now (Calls ByLibrary f args) ws s
by_callee (Halts stop) args ws s = now (Stops stop) ws s

-- a library or host function that is called by a library function or metamethod charges a turn, and then starts
abbrev pub called : Caller → Value → List Value → Option Reply → Row
called by (Closure f) args reply ws s = charged (Enters f args) (await (Runs f) ws s) s
called ByLibrary (Native f) args reply ws s = charged (Calls ByScript (Native f) args) ws s
called ByScript (Native f) args reply ws s = by_library (lib f args s) ws s
called ByLibrary (Host i) args reply ws s = charged (Calls ByScript (Host i) args) ws s
called ByScript (Host i) args reply ws s = host_call (slice_index_or s.globals.hosts i []) (plain_arguments 0 args) reply ws s
called by (Wrap i) args reply ws s = resume true i args ws s
called by f args reply ws s = by_callee (callee_of s f) args ws s

-- ---- what waits

abbrev pub first_value : List Value → Value
first_value [] = Nil
first_value (v ∷ vs) = v

-- the wait is over
abbrev pub over : Answer → Row
over a ws s = now a (leave ws s) s

-- values are given to the innermost that waits. A Luau function takes them by itself
abbrev pub given : List Wait → List Value → Row
given [] vs ws s = finish s.running vs ws s
given (Runs f ∷ w) vs ws s = now (Gives vs) ws s
given (Protects ∷ w) vs ws s = over (Gives (Boolean true ∷ vs)) ws s
given (Guards h ∷ w) vs ws s = over (Gives (Boolean true ∷ vs)) ws s
given (Handles ∷ w) vs ws s = over (Gives (Boolean false ∷ first_value vs ∷ [])) ws s
given (Resumes true ∷ w) vs ws s = over (Gives vs) ws s
given (Resumes false ∷ w) vs ws s = over (Gives (Boolean true ∷ vs)) ws s
given (Asks c ∷ w) vs ws s = by_library (go_on c (first_value vs) s) (leave ws s) s

-- an error passes the innermost that waits
abbrev pub passed : List Wait → Value → Row
passed [] v ws s = die s.running v ws s
passed (Protects ∷ w) v ws s = over (Gives (Boolean false ∷ v ∷ [])) ws s
passed (Guards h ∷ w) v ws s = now (Calls ByLibrary h (v ∷ [])) (await Handles (leave ws s) s) s
passed (Handles ∷ w) v ws s = over (Gives (Boolean false ∷ v ∷ [])) ws s
passed (Resumes false ∷ w) v ws s = over (Gives (Boolean false ∷ v ∷ [])) ws s
passed (_ ∷ w) v ws s = over (Throws (Raises v Elsewise)) ws s

unfoldable pub wait : Waits → Store → Case → Option Reply → Waited
wait ws s (Called by f args) reply = called by f args reply ws s
wait ws s (Given vs) reply = given (waiting ws (here s)) vs ws s
wait ws s (Passed v) reply = passed (waiting ws (here s)) v ws s
