-- The functions of `coroutine`.
use Rattle.std.specs.Prelude.{ℕ, List, [], ◌∷◌, ◌++◌, length, drop, Option, Some, None, codes, is_some, slice_index_or, slice_set}
use Rattle.value_model.specs.declared.builtin.Builtin.TheVariants as builtin
use Rattle.value_model.specs.declared.kind.CoStatus.{CoStatus}
use Rattle.value_model.specs.declared.kind.CoStatus.TheVariants.{Running, Suspended, Normal, Dead}
use Rattle.value_model.specs.Values.{Bytes, Value, Nil, Boolean, Text, Wrap, Thread}
use Rattle.value_model.specs.Store.{Store, CoroutineOf}
use Rattle.value_model.specs.Answers.{LibAnswer, Answers, Moves, Resume, Yield, Close}
use Rattle.value_model.specs.Arguments.{function_at, coroutine_at}
use Rattle.value_model.specs.CoreRows.{gives}

abbrev pub dead : CoroutineOf
dead = record { body = Nil; status = Dead; resumer = None; failure = None }

unfoldable pub coroutine_of : Store → ℕ → CoroutineOf
coroutine_of s i = slice_index_or s.coroutines i dead

unfoldable pub with_coroutine : Store → ℕ → CoroutineOf → Store
with_coroutine s i c = record s { coroutines = slice_set s.coroutines i c }

abbrev pub with_new_coroutine : Store → (body : Value) → Store
with_new_coroutine s f =
    record s { coroutines = s.coroutines ++ record { body = f; status = Suspended; resumer = None; failure = None } ∷ [] }

abbrev pub status_name : CoStatus → Bytes
status_name Running = codes "running"
status_name Suspended = codes "suspended"
status_name Normal = codes "normal"
status_name Dead = codes "dead"

abbrev pub running_value : Option ℕ → Value
running_value None = Nil
running_value (Some i) = Thread i

abbrev pub create_row : List Value → Store → LibAnswer
create_row args s =
    function_at builtin.CoroutineCreate 0 args (λ f. Answers (Thread (length s.coroutines) ∷ []) (with_new_coroutine s f))

abbrev pub wrap_row : List Value → Store → LibAnswer
wrap_row args s =
    function_at builtin.CoroutineWrap 0 args (λ f. Answers (Wrap (length s.coroutines) ∷ []) (with_new_coroutine s f))

abbrev pub resume_row : List Value → Store → LibAnswer
resume_row args s = coroutine_at builtin.CoroutineResume 0 args (λ co. Moves (Resume co (drop 1 args)))

abbrev pub yield_row : List Value → Store → LibAnswer
yield_row args s = Moves (Yield args)

abbrev pub status_row : List Value → Store → LibAnswer
status_row args s = coroutine_at builtin.CoroutineStatus 0 args (λ co. gives s (Text (status_name (coroutine_of s co).status)))

abbrev pub isyieldable_row : List Value → Store → LibAnswer
isyieldable_row args s = gives s (Boolean (is_some s.running))

abbrev pub running_row : List Value → Store → LibAnswer
running_row args s = gives s (running_value s.running)

abbrev pub close_row : List Value → Store → LibAnswer
close_row args s = coroutine_at builtin.CoroutineClose 0 args (λ co. Moves (Close co))
