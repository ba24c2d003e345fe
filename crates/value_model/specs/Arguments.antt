-- The arguments of library functions. They are looked at from the first on: each is there, of the kind that is wanted, and a
-- text that is wanted as a number is read at once. A place counts from 0.
use Rattle.std.specs.Prelude.{ℕ, suc, ℤ, true, false, List, Option, Some, None, Ok, Err, slice_get}
use Rattle.value_model.specs.declared.builtin.Builtin.{Builtin}
use Rattle.value_model.specs.declared.kind.Kind.TheVariants as kind
use Rattle.value_model.specs.Values.{Bytes, TableRef, Value, Nil, Table, Thread, kind_of}
use Rattle.value_model.specs.declared.error.Wanted.{Wanted}
use Rattle.value_model.specs.declared.error.Wanted.TheVariants.{OfKind, Coroutine, AnyValue}
use Rattle.value_model.specs.Errors.{MissingArgument, InvalidArgument, ArgumentOutOfRange}
use Rattle.value_model.specs.Paths.{name_in_errors}
use Rattle.whole_num.specs.NumberTexts.{ReadNumber}
use Rattle.value_model.specs.Metamethods.{as_number, as_text, is_function}
use Rattle.value_model.specs.Answers.{LibAnswer, ErrsWith, HaltsWith}

abbrev pub missing : Builtin → ℕ → Wanted → LibAnswer
missing f i w = ErrsWith (MissingArgument (suc i) (name_in_errors f) w)

abbrev pub invalid : Builtin → ℕ → Wanted → Value → LibAnswer
invalid f i w v = ErrsWith (InvalidArgument (suc i) (name_in_errors f) w (kind_of v))

abbrev pub out_of_range : Builtin → ℕ → LibAnswer
out_of_range f i = ErrsWith (ArgumentOutOfRange (suc i) (name_in_errors f))

-- ---- any value

abbrev pub wanted_argument : Builtin → ℕ → Wanted → Option Value → (Value → LibAnswer) → LibAnswer
wanted_argument f i w None go = missing f i w
wanted_argument f i w (Some v) go = go v

-- a value that has to be there
abbrev pub any_at : Builtin → ℕ → List Value → (Value → LibAnswer) → LibAnswer
any_at f i args go = wanted_argument f i AnyValue (slice_get args i) go

abbrev pub or_nil : Option Value → Value
or_nil None = Nil
or_nil (Some v) = v

-- nil where it is absent
abbrev pub argument_or_nil : List Value → ℕ → Value
argument_or_nil args i = or_nil (slice_get args i)

-- ---- numbers

abbrev pub number_read : Builtin → ℕ → Value → ReadNumber → (ℤ → LibAnswer) → LibAnswer
number_read f i v None go = invalid f i (OfKind kind.Number) v
number_read f i v (Some (Err s)) go = HaltsWith s
number_read f i v (Some (Ok z)) go = go z

abbrev pub number_from : Builtin → ℕ → Value → (ℤ → LibAnswer) → LibAnswer
number_from f i v go = number_read f i v (as_number v) go

abbrev pub number_at : Builtin → ℕ → List Value → (ℤ → LibAnswer) → LibAnswer
number_at f i args go = wanted_argument f i (OfKind kind.Number) (slice_get args i) (λ v. number_from f i v go)

abbrev pub number_unless_nil : Builtin → ℕ → Value → ℤ → (ℤ → LibAnswer) → LibAnswer
number_unless_nil f i Nil z go = go z
number_unless_nil f i v z go = number_from f i v go

-- a number, or this one where it is absent or nil
abbrev pub number_or : Builtin → ℕ → List Value → ℤ → (ℤ → LibAnswer) → LibAnswer
number_or f i args z go = number_unless_nil f i (argument_or_nil args i) z go

-- ---- strings

abbrev pub text_read : Builtin → ℕ → Value → Option Bytes → (Bytes → LibAnswer) → LibAnswer
text_read f i v None go = invalid f i (OfKind kind.String) v
text_read f i v (Some bs) go = go bs

abbrev pub text_from : Builtin → ℕ → Value → (Bytes → LibAnswer) → LibAnswer
text_from f i v go = text_read f i v (as_text v) go

abbrev pub text_at : Builtin → ℕ → List Value → (Bytes → LibAnswer) → LibAnswer
text_at f i args go = wanted_argument f i (OfKind kind.String) (slice_get args i) (λ v. text_from f i v go)

abbrev pub text_unless_nil : Builtin → ℕ → Value → Bytes → (Bytes → LibAnswer) → LibAnswer
text_unless_nil f i Nil bs go = go bs
text_unless_nil f i v bs go = text_from f i v go

abbrev pub text_or : Builtin → ℕ → List Value → Bytes → (Bytes → LibAnswer) → LibAnswer
text_or f i args bs go = text_unless_nil f i (argument_or_nil args i) bs go

-- ---- objects

abbrev pub table_from : Builtin → ℕ → Value → (TableRef → LibAnswer) → LibAnswer
table_from f i (Table t) go = go t
table_from f i v go = invalid f i (OfKind kind.Table) v

abbrev pub table_argument : Builtin → ℕ → List Value → (TableRef → LibAnswer) → LibAnswer
table_argument f i args go = wanted_argument f i (OfKind kind.Table) (slice_get args i) (λ v. table_from f i v go)

abbrev pub function_from : Builtin → ℕ → Value → (Value → LibAnswer) → LibAnswer
function_from f i v go = elim (is_function v) [ true ↦ go v | false ↦ invalid f i (OfKind kind.Function) v ]

abbrev pub function_at : Builtin → ℕ → List Value → (Value → LibAnswer) → LibAnswer
function_at f i args go = wanted_argument f i (OfKind kind.Function) (slice_get args i) (λ v. function_from f i v go)

abbrev pub coroutine_from : Builtin → ℕ → Value → (ℕ → LibAnswer) → LibAnswer
coroutine_from f i (Thread co) go = go co
coroutine_from f i v go = invalid f i Coroutine v

abbrev pub coroutine_at : Builtin → ℕ → List Value → (ℕ → LibAnswer) → LibAnswer
coroutine_at f i args go = wanted_argument f i Coroutine (slice_get args i) (λ v. coroutine_from f i v go)
