-- What a call, values or an error come to leaves all coroutines settled.
use Rattle.std.proofs.Common.{◌≡◌, refl, ap, ℕ, ◌<◌, Bool, true, false, List, [], ◌∷◌, length, map, Option, Some, None, Ok, Err, subst}
use Rattle.std.specs.Prelude.{MatchOption}
use Rattle.value_model.specs.declared.kind.CoStatus.{CoStatus}
use Rattle.value_model.specs.declared.kind.CoStatus.TheVariants.{Running, Suspended, Normal, Dead}
use Rattle.value_model.specs.declared.plain.Plain.{Plain}
use Rattle.value_model.specs.declared.plain.Plain.TheVariants as plain
use Rattle.value_model.specs.declared.event.Reply.{Reply}
use Rattle.value_model.specs.declared.event.Reply.TheVariants as answered
use Rattle.value_model.specs.Names.{value_of}
use Rattle.value_model.specs.Values.{Bytes, TableRef, Value, Nil, Boolean, Number, Text, Table, Closure, Native, Host, Wrap, Thread}
use Rattle.value_model.specs.Store.{Store, here}
use Rattle.value_model.specs.CoroutineRows.{coroutine_of, dead}
use Rattle.value_model.specs.Waits.{Wait, Runs, Protects, Guards, Handles, Resumes, Asks, Waits, waiting, Caller, ByScript, ByLibrary, Fails, Raises, Answer, Gives, Enters, Calls, Throws, Waited, innermost_function, first_of}
use Rattle.value_model.specs.Choices.{Outcome, Done, CallThis, Errs, Halts}
use Rattle.value_model.specs.Answers.{CoMove, Resume, Yield, Close, Whose, Innermost, OfFunction, OfScript, EnvironmentUse, Reads, Replaces, LibAnswer, Answers, PrintsLine, ErrsWith, RaisesValue, HaltsWith, CallsBack, Moves, OnEnvironment}
use Rattle.value_model.specs.Metamethods.{callee_of}
use Rattle.value_model.specs.Library.{lib, go_on}
use Rattle.value_model.specs.Waiting as deciding
use Rattle.op_words.specs.Chunks.{ChunkOf}
use Rattle.machine_meaning.specs.States.{Frame}
use Rattle.machine_meaning.specs.Calls.{is_dead, is_function}
use Rattle.checked_runs.specs.Safe.{Each, Sizes, IsMade, AreMade, IsWait, AreStacked}
use Rattle.checked_runs.specs.Keeps.{OutcomeIsMade, MoveIsMade, WhoseIsMade, UseIsMade, AnswerIsMade, LibraryKeeps}
use Rattle.checked_runs.proofs.Elements.{each_or, each_append}
use Rattle.checked_runs.proofs.Operations.{callee_made}
use Rattle.checked_runs.proofs.Settled.{IsSettled, coroutine_made, dead_made, alive_below, settled_await, settled_over, settled_library, settled_environment, settled_resumed, settled_left, settled_closed, settled_empty, empty_here}

-- values, calls and errors that an answer leads to; a function that is entered stands apart
abbrev pub IsAnswer : ℕ → Answer → Type 0
IsAnswer n (Gives vs) = AreMade n vs
IsAnswer n (Enters f vs) = ⊥
IsAnswer n (Calls by f vs) = IsMade n f × AreMade n vs
IsAnswer n (Throws (Fails e)) = Unit {0}
IsAnswer n (Throws (Raises v origin)) = IsMade n v
IsAnswer n _ = Unit {0}

pub record IsWaited (chunk : ChunkOf) (z : Sizes) (frames : ℕ → List Frame) (a : Waited) : Type 0 where
  pub answer : IsAnswer z.functions a.answer
  pub settled : IsSettled chunk z a.store a.waits frames

goes_into_made : (n : ℕ) (body : Value) (args : List Value) → IsMade n body → AreMade n args → IsAnswer n (deciding.goes_into body args)
goes_into_made n Nil args i j = j
goes_into_made n f args i j = (i, j)

innermost_made : (n : ℕ) (ws : List Wait) → Each (IsWait n) ws → MatchOption (innermost_function ws) (Unit {0}) (λ f. f < n)
innermost_made n [] e = tt
innermost_made n (Runs f ∷ ws) e = e.0
innermost_made n (Protects ∷ ws) e = innermost_made n ws e.1
innermost_made n (Guards h ∷ ws) e = innermost_made n ws e.1
innermost_made n (Handles ∷ ws) e = innermost_made n ws e.1
innermost_made n (Resumes b ∷ ws) e = innermost_made n ws e.1
innermost_made n (Asks c ∷ ws) e = innermost_made n ws e.1

meant_made : (n : ℕ) (w : Whose) (ws : List Wait) → WhoseIsMade n w → Each (IsWait n) ws
    → MatchOption (deciding.function_meant w ws) (Unit {0}) (λ f. f < n)
meant_made n Innermost ws m e = innermost_made n ws e
meant_made n (OfFunction f) ws m e = m
meant_made n OfScript ws m e = tt

pub plain_made : (n : ℕ) (v : Plain) → IsMade n (value_of v)
plain_made n plain.Nil = tt
plain_made n (plain.Bool b) = tt
plain_made n (plain.Num z) = tt
plain_made n (plain.Text bs) = tt

plains_made : (n : ℕ) (vs : List Plain) → AreMade n (map value_of vs)
plains_made n [] = tt
plains_made n (v ∷ vs) = (plain_made n v, plains_made n vs)

module _ {chunk : ChunkOf} {z : Sizes} {frames : ℕ → List Frame} where
  -- ---- coroutines

  resumes_by : {s : Store} {ws : Waits} → (status : CoStatus) (b : Bool) (k : ℕ) (args : List Value) → (coroutine_of s k).status ≡ status → 0 < k
      → AreMade z.functions args
      → IsSettled chunk z s ws frames → IsWaited chunk z frames (deciding.resume_by status b k args ws s)
  resumes_by {s} {ws} Suspended b k args e l m i =
      let below = alive_below s k (ap is_dead e) in
      record {
        answer = goes_into_made z.functions (coroutine_of s k).body args (coroutine_made z.functions s k i.store).body m;
        settled = settled_resumed (settled_await (Resumes b) i tt) k l below;
      }
  resumes_by Dead true k args e l m i = record { answer = tt; settled = i }
  resumes_by Dead false k args e l m i = record { answer = (tt, (tt, tt)); settled = i }
  resumes_by Running true k args e l m i = record { answer = tt; settled = i }
  resumes_by Running false k args e l m i = record { answer = (tt, (tt, tt)); settled = i }
  resumes_by Normal true k args e l m i = record { answer = tt; settled = i }
  resumes_by Normal false k args e l m i = record { answer = (tt, (tt, tt)); settled = i }

  yields : {s : Store} {ws : Waits} → (o : Option ℕ) (vs : List Value) → s.running ≡ o → AreMade z.functions vs → IsSettled chunk z s ws frames
      → IsWaited chunk z frames (deciding.yield o vs ws s)
  yields None vs e m i = record { answer = tt; settled = i }
  yields {s} {ws} (Some k) vs e m i = record {
    answer = m;
    settled =
        settled_left i k (record { body = Nil; status = Suspended; resumer = None; failure = None }) e
        (record { body = tt; resumer = tt; failure = tt }) (λ d. absurd cc);
  }

  finishes : {s : Store} {ws : Waits} → (o : Option ℕ) (vs : List Value) → s.running ≡ o → AreMade z.functions vs → IsSettled chunk z s ws frames
      → IsWaited chunk z frames (deciding.finish o vs ws s)
  finishes None vs e m i = record { answer = tt; settled = i }
  finishes {s} {ws} (Some k) vs e m i = record {
    answer = m;
    settled = settled_left (settled_empty k i) k dead e (dead_made z.functions (length s.coroutines)) (λ d. empty_here chunk z ws k []);
  }

  dies : {s : Store} {ws : Waits} → (o : Option ℕ) (v : Value) → s.running ≡ o → IsMade z.functions v → IsSettled chunk z s ws frames
      → IsWaited chunk z frames (deciding.die o v ws s)
  dies None v e m i = record { answer = tt; settled = i }
  dies {s} {ws} (Some k) v e m i = record {
    answer = m;
    settled =
        settled_left (settled_empty k i) k (record dead { failure = Some v }) e (record { body = tt; resumer = tt; failure = m })
        (λ d. empty_here chunk z ws k []);
  }

  closes_dead : {s : Store} {ws : Waits} → (o : Option Value) (k : ℕ) → MatchOption o (Unit {0}) (IsMade z.functions) → 0 < k
      → IsSettled chunk z s ws frames → IsWaited chunk z frames (deciding.close_dead o k ws s)
  closes_dead (Some v) k m l i = record { answer = (tt, (m, tt)); settled = i }
  closes_dead {s} {ws} None k m l i = record { answer = (tt, tt); settled = settled_closed (settled_empty k i) k l (empty_here chunk z ws k []) }

  closes_by : {s : Store} {ws : Waits} → (status : CoStatus) (k : ℕ) → 0 < k → IsSettled chunk z s ws frames
      → IsWaited chunk z frames (deciding.close_by status k ws s)
  closes_by Running k l i = record { answer = tt; settled = i }
  closes_by Normal k l i = record { answer = tt; settled = i }
  closes_by {s} Suspended k l i = closes_dead (coroutine_of s k).failure k (coroutine_made z.functions s k i.store).failure l i
  closes_by {s} Dead k l i = closes_dead (coroutine_of s k).failure k (coroutine_made z.functions s k i.store).failure l i

  moves : {s : Store} {ws : Waits} → (m : CoMove) → MoveIsMade z.functions m → IsSettled chunk z s ws frames
      → IsWaited chunk z frames (deciding.move_by m ws s)
  moves {s} (Resume k args) m i = resumes_by (coroutine_of s k).status false k args refl m.0 m.1 i
  moves {s} (Yield vs) m i = yields s.running vs refl m i
  moves {s} (Close k) m i = closes_by (coroutine_of s k).status k m i

  -- ---- environments

  replaces : {s : Store} {ws : Waits} → (o : Option ℕ) (t : TableRef) → MatchOption o (Unit {0}) (λ f. f < z.functions)
      → IsSettled chunk z s ws frames → IsWaited chunk z frames (deciding.replace_environment o t ws s)
  replaces None t m i = record { answer = tt; settled = i }
  replaces (Some f) t m i = record { answer = (m, tt); settled = settled_environment f t i }

  environments : {s : Store} {ws : Waits} → (u : EnvironmentUse) → UseIsMade z.functions u → IsSettled chunk z s ws frames
      → IsWaited chunk z frames (deciding.environment_by u ws s)
  environments (Reads w) m i = record { answer = (tt, tt); settled = i }
  environments {s} {ws} (Replaces w t) m i =
      let here_waits = waiting ws (here s) in
      replaces (deciding.function_meant w here_waits) t
      (meant_made z.functions w here_waits m (each_or (Each (IsWait z.functions)) ws (here s) [] i.each tt)) i

  -- ---- the library and the host

  libraries : {s : Store} {ws : Waits} → (a : LibAnswer) → AnswerIsMade z.functions s a → IsSettled chunk z s ws frames
      → IsWaited chunk z frames (deciding.by_library a ws s)
  libraries (Answers vs t) m i = record { answer = m.values; settled = settled_library t m.more i m.kept }
  libraries (PrintsLine line) m i = record { answer = tt; settled = i }
  libraries (ErrsWith e) m i = record { answer = tt; settled = i }
  libraries (RaisesValue v origin) m i = record { answer = m; settled = i }
  libraries (HaltsWith stop) m i = record { answer = tt; settled = i }
  libraries (CallsBack f args w) m i = record { answer = (m.0, m.1); settled = settled_await w i m.2 }
  libraries (Moves v) m i = moves v m i
  libraries (OnEnvironment u) m i = environments u m i

  replies : {s : Store} {ws : Waits} → (path : Bytes) (args : List Plain) (r : Option Reply) → IsSettled chunk z s ws frames
      → IsWaited chunk z frames (deciding.by_reply path args r ws s)
  replies path args None i = record { answer = tt; settled = i }
  replies path args (Some (answered.Values vs)) i = record { answer = plains_made z.functions vs; settled = i }
  replies path args (Some (answered.Raise v)) i = record { answer = plain_made z.functions v; settled = i }

  hosts : {s : Store} {ws : Waits} → (path : Bytes) (args : deciding.PlainOrNot) (r : Option Reply) → IsSettled chunk z s ws frames
      → IsWaited chunk z frames (deciding.host_call path args r ws s)
  hosts path (Err e) r i = record { answer = tt; settled = i }
  hosts path (Ok args) r i = replies path args r i

  callees : {s : Store} {ws : Waits} → (o : Outcome) (args : List Value) → OutcomeIsMade z.functions o → AreMade z.functions args
      → IsSettled chunk z s ws frames → IsWaited chunk z frames (deciding.by_callee o args ws s)
  callees (CallThis h before) args m a i = record { answer = (m.0, each_append (IsMade z.functions) before args m.1 a); settled = i }
  callees (Errs e) args m a i = record { answer = tt; settled = i }
  callees (Done f) args m a i = record { answer = (m, a); settled = i }
  callees (Halts stop) args m a i = record { answer = tt; settled = i }

-- ---- the cases

first_made : (n : ℕ) (vs : List Value) → AreMade n vs → IsMade n (deciding.first_value vs)
first_made n [] m = tt
first_made n (v ∷ vs) m = m.0

abbrev pub is_closure : Value → Bool
is_closure (Closure f) = true
is_closure v = false

module _ {chunk : ChunkOf} {z : Sizes} {frames : ℕ → List Frame} (library : LibraryKeeps) {s : Store} {ws : Waits} (i : IsSettled chunk z s ws frames)
  where
    calls_none : (f : Value) (args : List Value) → IsMade z.functions f → AreMade z.functions args
        → IsWaited chunk z frames (deciding.by_callee (callee_of s f) args ws s)
    calls_none f args m a = callees (callee_of s f) args (callee_made z.functions s f i.store m) a i

    -- what is no function of the script is called
    pub called_settled : (by : Caller) (f : Value) (args : List Value) (r : Option Reply) → is_closure f ≡ false → IsMade z.functions f
        → AreMade z.functions args
        → IsWaited chunk z frames (deciding.called by f args r ws s)
    called_settled by (Closure f) args r e m a = absurd cc
    called_settled ByLibrary (Native f) args r e m a = record { answer = (tt, a); settled = i }
    called_settled ByScript (Native f) args r e m a = libraries (lib f args s) (library.calls z.functions s f args i.store a) i
    called_settled ByLibrary (Host f) args r e m a = record { answer = (tt, a); settled = i }
    called_settled ByScript (Host f) args r e m a = hosts _ (deciding.plain_arguments 0 args) r i
    called_settled by (Wrap k) args r e m a = resumes_by (coroutine_of s k).status true k args refl m a i
    called_settled by Nil args r e m a = calls_none Nil args m a
    called_settled by (Boolean b) args r e m a = calls_none (Boolean b) args m a
    called_settled by (Number b) args r e m a = calls_none (Number b) args m a
    called_settled by (Text b) args r e m a = calls_none (Text b) args m a
    called_settled by (Table b) args r e m a = calls_none (Table b) args m a
    called_settled by (Thread b) args r e m a = calls_none (Thread b) args m a

    at_here : (l : List Wait) → waiting ws (here s) ≡ l → AreStacked chunk z l (frames (here s))
    at_here l e = subst (λ l. AreStacked chunk z l (frames (here s))) e (i.stacked (here s))

    each_here : (l : List Wait) → waiting ws (here s) ≡ l → Each (IsWait z.functions) l
    each_here l e = subst (Each (IsWait z.functions)) e (each_or (Each (IsWait z.functions)) ws (here s) [] i.each tt)

    -- values are given to what waits
    pub given_settled : (l : List Wait) (vs : List Value) → waiting ws (here s) ≡ l → AreMade z.functions vs
        → IsWaited chunk z frames (deciding.given l vs ws s)
    given_settled [] vs e m = finishes s.running vs refl m i
    given_settled (Runs f ∷ l) vs e m = record { answer = m; settled = i }
    given_settled (Protects ∷ l) vs e m = record { answer = (tt, m); settled = settled_over Protects l i e (at_here (Protects ∷ l) e) }
    given_settled (Guards h ∷ l) vs e m = record { answer = (tt, m); settled = settled_over (Guards h) l i e (at_here (Guards h ∷ l) e) }
    given_settled (Handles ∷ l) vs e m =
        record { answer = (tt, (first_made z.functions vs m, tt)); settled = settled_over Handles l i e (at_here (Handles ∷ l) e) }
    given_settled (Resumes true ∷ l) vs e m = record { answer = m; settled = settled_over (Resumes true) l i e (at_here (Resumes true ∷ l) e) }
    given_settled (Resumes false ∷ l) vs e m = record { answer = (tt, m); settled = settled_over (Resumes false) l i e (at_here (Resumes false ∷ l) e) }
    given_settled (Asks c ∷ l) vs e m =
        libraries (go_on c (deciding.first_value vs) s)
        (library.goes_on z.functions s c (deciding.first_value vs) i.store (each_here (Asks c ∷ l) e).0 (first_made z.functions vs m))
        (settled_over (Asks c) l i e (at_here (Asks c ∷ l) e))

    -- an error passes what waits, which is no function of the script
    pub passed_settled : (l : List Wait) (v : Value) → waiting ws (here s) ≡ l → is_function (first_of l) ≡ false → IsMade z.functions v
        → IsWaited chunk z frames (deciding.passed l v ws s)
    passed_settled [] v e f m = dies s.running v refl m i
    passed_settled (Runs c ∷ l) v e f m = absurd cc
    passed_settled (Protects ∷ l) v e f m = record { answer = (tt, (m, tt)); settled = settled_over Protects l i e (at_here (Protects ∷ l) e) }
    passed_settled (Guards h ∷ l) v e f m =
        record { answer = ((each_here (Guards h ∷ l) e).0, (m, tt)); settled = settled_await Handles (settled_over (Guards h) l i e (at_here (Guards h ∷ l) e)) tt }
    passed_settled (Handles ∷ l) v e f m = record { answer = (tt, (m, tt)); settled = settled_over Handles l i e (at_here (Handles ∷ l) e) }
    passed_settled (Resumes true ∷ l) v e f m = record { answer = m; settled = settled_over (Resumes true) l i e (at_here (Resumes true ∷ l) e) }
    passed_settled (Resumes false ∷ l) v e f m =
        record { answer = (tt, (m, tt)); settled = settled_over (Resumes false) l i e (at_here (Resumes false ∷ l) e) }
    passed_settled (Asks c ∷ l) v e f m = record { answer = m; settled = settled_over (Asks c) l i e (at_here (Asks c ∷ l) e) }
