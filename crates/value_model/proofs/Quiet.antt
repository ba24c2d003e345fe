-- Where a turn is charged nothing is shown and no environment is noted.
use Rattle.std.proofs.Common.{◌≡◌, ℕ, Bool, true, false, List, [], ◌∷◌, Option, Some, None, Ok, Err, refl}
use Rattle.value_model.specs.declared.kind.CoStatus.{CoStatus}
use Rattle.value_model.specs.declared.kind.CoStatus.TheVariants.{Running, Suspended, Normal, Dead}
use Rattle.value_model.specs.Values.{Bytes, TableRef, Value, Nil, Boolean, Number, Text, Table, Closure, Native, Host, Wrap, Thread}
use Rattle.value_model.specs.Store.{Store}
use Rattle.value_model.specs.declared.plain.Plain.{Plain}
use Rattle.value_model.specs.declared.event.Reply.{Reply}
use Rattle.value_model.specs.declared.event.Reply.TheVariants as answered
use Rattle.value_model.specs.Waits.{Wait, Runs, Protects, Guards, Handles, Resumes, Asks, Waits, Caller, ByScript, ByLibrary, Case, Called, Given, Passed, Waited}
use Rattle.value_model.specs.Choices.{Outcome, Done, CallThis, Errs, Halts}
use Rattle.value_model.specs.Answers.{CoMove, Resume, Yield, Close, EnvironmentUse, Reads, Replaces, LibAnswer, Answers, PrintsLine, ErrsWith, RaisesValue, HaltsWith, CallsBack, Moves, OnEnvironment}
use Rattle.value_model.specs.Waiting.{resume_by, yield, finish, die, close_dead, close_by, move_by, replace_environment, environment_by, by_library, by_reply, PlainOrNot, host_call, by_callee, called, given, passed, wait}

abbrev pub IsQuiet : Waited → Type 0
IsQuiet w = w.charged ≡ true → (w.event ≡ None) × (w.environment ≡ None)

of_resume : (status : CoStatus) (wrapped : Bool) (i : ℕ) (args : List Value) (ws : Waits) (s : Store) → IsQuiet (resume_by status wrapped i args ws s)
of_resume Suspended wrapped i args ws s h = (refl, refl)
of_resume Dead true i args ws s h = (refl, refl)
of_resume Dead false i args ws s h = (refl, refl)
of_resume Running true i args ws s h = (refl, refl)
of_resume Running false i args ws s h = (refl, refl)
of_resume Normal true i args ws s h = (refl, refl)
of_resume Normal false i args ws s h = (refl, refl)

of_yield : (running : Option ℕ) (vs : List Value) (ws : Waits) (s : Store) → IsQuiet (yield running vs ws s)
of_yield None vs ws s h = (refl, refl)
of_yield (Some i) vs ws s h = (refl, refl)

of_close_dead : (failure : Option Value) (i : ℕ) (ws : Waits) (s : Store) → IsQuiet (close_dead failure i ws s)
of_close_dead None i ws s h = (refl, refl)
of_close_dead (Some v) i ws s h = (refl, refl)

of_close : (status : CoStatus) (i : ℕ) (ws : Waits) (s : Store) → IsQuiet (close_by status i ws s)
of_close Running i ws s h = (refl, refl)
of_close Normal i ws s h = (refl, refl)
of_close Suspended i ws s h = of_close_dead _ i ws s h
of_close Dead i ws s h = of_close_dead _ i ws s h

of_move : (m : CoMove) (ws : Waits) (s : Store) → IsQuiet (move_by m ws s)
of_move (Resume i args) ws s h = of_resume _ false i args ws s h
of_move (Yield vs) ws s h = of_yield s.running vs ws s h
of_move (Close i) ws s h = of_close _ i ws s h

of_replacing : (f : Option ℕ) (t : TableRef) (ws : Waits) (s : Store) → IsQuiet (replace_environment f t ws s)
of_replacing None t ws s h = (refl, refl)
of_replacing (Some f) t ws s h = cc

of_environment : (u : EnvironmentUse) (ws : Waits) (s : Store) → IsQuiet (environment_by u ws s)
of_environment (Reads f) ws s h = cc
of_environment (Replaces f t) ws s h = of_replacing _ t ws s h

of_library : (a : LibAnswer) (ws : Waits) (s : Store) → IsQuiet (by_library a ws s)
of_library (Answers vs t) ws s h = (refl, refl)
of_library (PrintsLine line) ws s h = cc
of_library (ErrsWith e) ws s h = (refl, refl)
of_library (RaisesValue v origin) ws s h = (refl, refl)
of_library (HaltsWith stop) ws s h = (refl, refl)
of_library (CallsBack f args w) ws s h = (refl, refl)
of_library (Moves m) ws s h = of_move m ws s h
of_library (OnEnvironment u) ws s h = of_environment u ws s h

of_reply : (path : Bytes) (args : List Plain) (r : Option Reply) (ws : Waits) (s : Store) → IsQuiet (by_reply path args r ws s)
of_reply path args None ws s h = cc
of_reply path args (Some (answered.Values vs)) ws s h = cc
of_reply path args (Some (answered.Raise v)) ws s h = cc

of_host : (path : Bytes) (args : PlainOrNot) (r : Option Reply) (ws : Waits) (s : Store) → IsQuiet (host_call path args r ws s)
of_host path (Err e) r ws s h = (refl, refl)
of_host path (Ok args) r ws s h = of_reply path args r ws s h

of_callee : (o : Outcome) (args : List Value) (ws : Waits) (s : Store) → IsQuiet (by_callee o args ws s)
of_callee (CallThis f before) args ws s h = (refl, refl)
of_callee (Errs e) args ws s h = (refl, refl)
of_callee (Done f) args ws s h = (refl, refl)
of_callee (Halts stop) args ws s h = (refl, refl)

of_call : (by : Caller) (f : Value) (args : List Value) (r : Option Reply) (ws : Waits) (s : Store) → IsQuiet (called by f args r ws s)
of_call by (Closure f) args r ws s h = (refl, refl)
of_call ByLibrary (Native f) args r ws s h = (refl, refl)
of_call ByScript (Native f) args r ws s h = of_library _ ws s h
of_call ByLibrary (Host i) args r ws s h = (refl, refl)
of_call ByScript (Host i) args r ws s h = of_host _ _ r ws s h
of_call by (Wrap i) args r ws s h = of_resume _ true i args ws s h
of_call by Nil args r ws s h = of_callee _ args ws s h
of_call by (Boolean b) args r ws s h = of_callee _ args ws s h
of_call by (Number z) args r ws s h = of_callee _ args ws s h
of_call by (Text t) args r ws s h = of_callee _ args ws s h
of_call by (Table t) args r ws s h = of_callee _ args ws s h
of_call by (Thread i) args r ws s h = of_callee _ args ws s h

of_finish : (running : Option ℕ) (vs : List Value) (ws : Waits) (s : Store) → IsQuiet (finish running vs ws s)
of_finish None vs ws s h = (refl, refl)
of_finish (Some i) vs ws s h = (refl, refl)

of_values : (w : List Wait) (vs : List Value) (ws : Waits) (s : Store) → IsQuiet (given w vs ws s)
of_values [] vs ws s h = of_finish s.running vs ws s h
of_values (Runs f ∷ w) vs ws s h = (refl, refl)
of_values (Protects ∷ w) vs ws s h = (refl, refl)
of_values (Guards f ∷ w) vs ws s h = (refl, refl)
of_values (Handles ∷ w) vs ws s h = (refl, refl)
of_values (Resumes true ∷ w) vs ws s h = (refl, refl)
of_values (Resumes false ∷ w) vs ws s h = (refl, refl)
of_values (Asks c ∷ w) vs ws s h = of_library _ _ s h

of_dying : (running : Option ℕ) (v : Value) (ws : Waits) (s : Store) → IsQuiet (die running v ws s)
of_dying None v ws s h = (refl, refl)
of_dying (Some i) v ws s h = (refl, refl)

of_error : (w : List Wait) (v : Value) (ws : Waits) (s : Store) → IsQuiet (passed w v ws s)
of_error [] v ws s h = of_dying s.running v ws s h
of_error (Runs f ∷ w) v ws s h = (refl, refl)
of_error (Protects ∷ w) v ws s h = (refl, refl)
of_error (Guards f ∷ w) v ws s h = (refl, refl)
of_error (Handles ∷ w) v ws s h = (refl, refl)
of_error (Resumes true ∷ w) v ws s h = (refl, refl)
of_error (Resumes false ∷ w) v ws s h = (refl, refl)
of_error (Asks c ∷ w) v ws s h = (refl, refl)

pub charges_are_quiet : (ws : Waits) (s : Store) (c : Case) (r : Option Reply) → IsQuiet (wait ws s c r)
unfolding wait
charges_are_quiet ws s (Called by f args) r h = of_call by f args r ws s h
charges_are_quiet ws s (Given vs) r h = of_values _ vs ws s h
charges_are_quiet ws s (Passed v) r h = of_error _ v ws s h
