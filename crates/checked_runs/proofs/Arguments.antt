-- What the library does with its arguments, where its answer is known of all that they may be.
use Rattle.std.proofs.Common.{ℕ, zero, suc, ◌<◌, ℤ, Bool, true, false, List, [], ◌∷◌, Option, Some, None, Ok, Err}
use Rattle.std.specs.Prelude.{MatchOption, slice_get}
use Rattle.value_model.specs.declared.builtin.Builtin.{Builtin}
use Rattle.value_model.specs.declared.error.Wanted.{Wanted}
use Rattle.whole_num.specs.NumberTexts.{ReadNumber}
use Rattle.value_model.specs.Values.{Bytes, TableRef, Value, Nil, Table, Thread}
use Rattle.value_model.specs.Store.{Store}
use Rattle.value_model.specs.Metamethods.{as_number, as_text, is_function}
use Rattle.value_model.specs.Answers.{LibAnswer}
use Rattle.value_model.specs.Arguments as arguments
use Rattle.checked_runs.specs.Safe.{IsMade, AreMade}
use Rattle.checked_runs.specs.Keeps.{AnswerWith}

pub argument_made : (n : ℕ) (args : List Value) (i : ℕ) → AreMade n args → MatchOption (slice_get args i) (Unit {0}) (IsMade n)
argument_made n [] i m = tt
argument_made n (v ∷ vs) zero m = m.0
argument_made n (v ∷ vs) (suc i) m = argument_made n vs i m.1

or_nil_made : (n : ℕ) (o : Option Value) → MatchOption o (Unit {0}) (IsMade n) → IsMade n (arguments.or_nil o)
or_nil_made n None m = tt
or_nil_made n (Some v) m = m

pub nil_made : (n : ℕ) (args : List Value) (i : ℕ) → AreMade n args → IsMade n (arguments.argument_or_nil args i)
nil_made n args i m = or_nil_made n (slice_get args i) (argument_made n args i m)

-- it is known of an answer
pub record Holds (P : List Value → Store → Type 0) (n : ℕ) (a : LibAnswer) : Type 0 where
  pub holds : AnswerWith P n a

module _ (n : ℕ) (P : List Value → Store → Type 0) where
  pub wanted : (f : Builtin) (i : ℕ) (w : Wanted) (o : Option Value) (go : Value → LibAnswer) → MatchOption o (Unit {0}) (IsMade n)
      → ((v : Value) → IsMade n v → Holds P n (go v))
      → Holds P n (arguments.wanted_argument f i w o go)
  wanted f i w None go m is = record { holds = tt }
  wanted f i w (Some v) go m is = is v m

  pub any : (f : Builtin) (i : ℕ) (args : List Value) (go : Value → LibAnswer) → AreMade n args → ((v : Value) → IsMade n v → Holds P n (go v))
      → Holds P n (arguments.any_at f i args go)
  any f i args go m is = wanted f i _ (slice_get args i) go (argument_made n args i m) is

  number_read : (f : Builtin) (i : ℕ) (v : Value) (r : ReadNumber) (go : ℤ → LibAnswer) → ((z : ℤ) → Holds P n (go z))
      → Holds P n (arguments.number_read f i v r go)
  number_read f i v None go is = record { holds = tt }
  number_read f i v (Some (Err stop)) go is = record { holds = tt }
  number_read f i v (Some (Ok z)) go is = is z

  pub number_from : (f : Builtin) (i : ℕ) (v : Value) (go : ℤ → LibAnswer) → ((z : ℤ) → Holds P n (go z)) → Holds P n (arguments.number_from f i v go)
  number_from f i v go is = number_read f i v (as_number v) go is

  pub number : (f : Builtin) (i : ℕ) (args : List Value) (go : ℤ → LibAnswer) → AreMade n args → ((z : ℤ) → Holds P n (go z))
      → Holds P n (arguments.number_at f i args go)
  number f i args go m is = wanted f i _ (slice_get args i) _ (argument_made n args i m) (λ v k. number_from f i v go is)

  pub number_unless_nil : (f : Builtin) (i : ℕ) (v : Value) (z : ℤ) (go : ℤ → LibAnswer) → ((z : ℤ) → Holds P n (go z))
      → Holds P n (arguments.number_unless_nil f i v z go)
  number_unless_nil f i Nil z go is = is z
  number_unless_nil f i v z go is = number_from f i v go is

  pub number_or : (f : Builtin) (i : ℕ) (args : List Value) (z : ℤ) (go : ℤ → LibAnswer) → ((z : ℤ) → Holds P n (go z))
      → Holds P n (arguments.number_or f i args z go)
  number_or f i args z go is = number_unless_nil f i (arguments.argument_or_nil args i) z go is

  text_read : (f : Builtin) (i : ℕ) (v : Value) (o : Option Bytes) (go : Bytes → LibAnswer) → ((bs : Bytes) → Holds P n (go bs))
      → Holds P n (arguments.text_read f i v o go)
  text_read f i v None go is = record { holds = tt }
  text_read f i v (Some bs) go is = is bs

  text_from : (f : Builtin) (i : ℕ) (v : Value) (go : Bytes → LibAnswer) → ((bs : Bytes) → Holds P n (go bs))
      → Holds P n (arguments.text_from f i v go)
  text_from f i v go is = text_read f i v (as_text v) go is

  pub text : (f : Builtin) (i : ℕ) (args : List Value) (go : Bytes → LibAnswer) → AreMade n args → ((bs : Bytes) → Holds P n (go bs))
      → Holds P n (arguments.text_at f i args go)
  text f i args go m is = wanted f i _ (slice_get args i) _ (argument_made n args i m) (λ v k. text_from f i v go is)

  text_unless_nil : (f : Builtin) (i : ℕ) (v : Value) (bs : Bytes) (go : Bytes → LibAnswer) → ((bs : Bytes) → Holds P n (go bs))
      → Holds P n (arguments.text_unless_nil f i v bs go)
  text_unless_nil f i Nil bs go is = is bs
  text_unless_nil f i v bs go is = text_from f i v go is

  pub text_or : (f : Builtin) (i : ℕ) (args : List Value) (bs : Bytes) (go : Bytes → LibAnswer) → ((bs : Bytes) → Holds P n (go bs))
      → Holds P n (arguments.text_or f i args bs go)
  text_or f i args bs go is = text_unless_nil f i (arguments.argument_or_nil args i) bs go is

  pub table_from : (f : Builtin) (i : ℕ) (v : Value) (go : TableRef → LibAnswer) → ((t : TableRef) → Holds P n (go t))
      → Holds P n (arguments.table_from f i v go)
  table_from f i (Table t) go is = is t
  table_from f i v go is = record { holds = tt }

  pub table : (f : Builtin) (i : ℕ) (args : List Value) (go : TableRef → LibAnswer) → AreMade n args → ((t : TableRef) → Holds P n (go t))
      → Holds P n (arguments.table_argument f i args go)
  table f i args go m is = wanted f i _ (slice_get args i) _ (argument_made n args i m) (λ v k. table_from f i v go is)

  function_by : (f : Builtin) (i : ℕ) (v : Value) (b : Bool) (go : Value → LibAnswer) (w : Wanted) → IsMade n v
      → ((v : Value) → IsMade n v → Holds P n (go v))
      → Holds P n (elim b [ true ↦ go v | false ↦ arguments.invalid f i w v ])
  function_by f i v true go w m is = is v m
  function_by f i v false go w m is = record { holds = tt }

  pub function : (f : Builtin) (i : ℕ) (args : List Value) (go : Value → LibAnswer) → AreMade n args → ((v : Value) → IsMade n v → Holds P n (go v))
      → Holds P n (arguments.function_at f i args go)
  function f i args go m is = wanted f i _ (slice_get args i) _ (argument_made n args i m) (λ v k. function_by f i v (is_function v) go _ k is)

  coroutine_from : (f : Builtin) (i : ℕ) (v : Value) (go : ℕ → LibAnswer) → IsMade n v → ((k : ℕ) → 0 < k → Holds P n (go k))
      → Holds P n (arguments.coroutine_from f i v go)
  coroutine_from f i (Thread k) go m is = is k m
  coroutine_from f i v go m is = record { holds = tt }

  pub coroutine : (f : Builtin) (i : ℕ) (args : List Value) (go : ℕ → LibAnswer) → AreMade n args → ((k : ℕ) → 0 < k → Holds P n (go k))
      → Holds P n (arguments.coroutine_at f i args go)
  coroutine f i args go m is = wanted f i _ (slice_get args i) _ (argument_made n args i m) (λ v k. coroutine_from f i v go k is)
