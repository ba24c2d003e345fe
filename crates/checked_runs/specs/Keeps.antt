-- What operations on values and the library keep, so that code finds what it needs.
use Rattle.std.specs.Prelude.{◌≡◌, ℕ, ◌<◌, List, [], ◌++◌, length, Some}
use Rattle.value_model.specs.declared.builtin.Builtin.{Builtin}
use Rattle.value_model.specs.Values.{Value}
use Rattle.value_model.specs.Store.{CoroutineOf, Store}
use Rattle.value_model.specs.Waits.{Wait, Runs, Continue}
use Rattle.value_model.specs.Choices.{Operation, Index, Newindex, Arith, Compare, Concat, Length, Callee, Outcome, Done, CallThis, Errs, Halts, Choice}
use Rattle.value_model.specs.Answers.{CoMove, Resume, Yield, Close, Whose, OfFunction, EnvironmentUse, Reads, Replaces, LibAnswer, Answers, RaisesValue, CallsBack, Moves, OnEnvironment}
use Rattle.value_model.specs.Metamethods.{choose}
use Rattle.value_model.specs.Library.{lib, go_on}
use Rattle.machine_meaning.specs.Effects.{under, numbered}
use Rattle.checked_runs.specs.Safe.{IsMade, AreMade, IsStore, IsWait}

-- the store keeps its functions and its coroutines, to which more may come
pub record Keeps (n : ℕ) (s t : Store) (more : List CoroutineOf) : Type 0 where
  pub store : IsStore n t
  pub environments : length t.closures ≡ length s.closures
  pub running : t.running ≡ s.running
  pub coroutines : t.coroutines ≡ s.coroutines ++ more

-- ---- operations

abbrev pub OperandsAreMade : ℕ → Operation → Type 0
OperandsAreMade n (Index base key) = IsMade n base × IsMade n key
OperandsAreMade n (Newindex base key v) = IsMade n base × IsMade n key × IsMade n v
OperandsAreMade n (Arith op a b) = IsMade n a × IsMade n b
OperandsAreMade n (Compare op a b) = IsMade n a × IsMade n b
OperandsAreMade n (Concat a b) = IsMade n a × IsMade n b
OperandsAreMade n (Length a) = IsMade n a
OperandsAreMade n (Callee f) = IsMade n f

abbrev pub OutcomeIsMade : ℕ → Outcome → Type 0
OutcomeIsMade n (Done v) = IsMade n v
OutcomeIsMade n (CallThis callee vs) = IsMade n callee × AreMade n vs
OutcomeIsMade n (Errs e) = Unit {0}
OutcomeIsMade n (Halts s) = Unit {0}

pub record ChoiceIsMade (n : ℕ) (s : Store) (c : Choice) : Type 0 where
  pub outcome : OutcomeIsMade n c.outcome
  pub kept : Keeps n s c.store []

-- an operation makes no function, and leaves functions and coroutines as they were
abbrev pub OperationsKeep : Type 0
OperationsKeep = (n : ℕ) (s : Store) (o : Operation) → IsStore n s → OperandsAreMade n o → ChoiceIsMade n s (choose o s)

-- ---- the library

abbrev pub WhoseIsMade : ℕ → Whose → Type 0
WhoseIsMade n (OfFunction f) = f < n
WhoseIsMade n _ = Unit {0}

abbrev pub MoveIsMade : ℕ → CoMove → Type 0
MoveIsMade n (Resume co args) = (0 < co) × AreMade n args
MoveIsMade n (Yield vs) = AreMade n vs
MoveIsMade n (Close co) = 0 < co

abbrev pub UseIsMade : ℕ → EnvironmentUse → Type 0
UseIsMade n (Reads f) = WhoseIsMade n f
UseIsMade n (Replaces f t) = WhoseIsMade n f

-- what waits for the library's call is no function of the script
abbrev pub IsOwnWait : ℕ → Wait → Type 0
IsOwnWait n (Runs c) = ⊥
IsOwnWait n w = IsWait n w

pub record AnswersAreMade (n : ℕ) (s : Store) (vs : List Value) (t : Store) : Type 0 where
  pub values : AreMade n vs
  pub more : List CoroutineOf
  pub kept : Keeps n s t more

-- what is known of an answer, where something holds of the values and the store that it gives
abbrev pub AnswerWith : (P : List Value → Store → Type 0) → ℕ → LibAnswer → Type 0
AnswerWith P n (Answers vs t) = P vs t
AnswerWith P n (RaisesValue v origin) = IsMade n v
AnswerWith P n (CallsBack callee args then) = IsMade n callee × AreMade n args × IsOwnWait n then
AnswerWith P n (Moves m) = MoveIsMade n m
AnswerWith P n (OnEnvironment u) = UseIsMade n u
AnswerWith P n _ = Unit {0}

abbrev pub AnswerIsMade : ℕ → Store → LibAnswer → Type 0
AnswerIsMade n s a = AnswerWith (AnswersAreMade n s) n a

-- so it is, and the store stays
abbrev pub AnswerStays : ℕ → Store → LibAnswer → Type 0
AnswerStays n s a = AnswerWith (λ vs t. AreMade n vs × (t ≡ s)) n a

-- The library makes no function, and names no coroutine but those that it was given, has made or runs in. The functions that have
-- numbers change nothing
pub record LibraryKeeps : Type 0 where
  pub calls : (n : ℕ) (s : Store) (b : Builtin) (args : List Value) → IsStore n s → AreMade n args → AnswerIsMade n s (lib b args s)
  pub goes_on : (n : ℕ) (s : Store) (c : Continue) (v : Value) → IsStore n s → AreMade n c.arguments → IsMade n v → AnswerIsMade n s (go_on c v s)
  pub fast : (n : ℕ) (s : Store) (k : ℕ) (b : Builtin) (args : List Value) → under numbered k ≡ Some b → IsStore n s → AreMade n args
      → AnswerStays n s (lib b args s)
