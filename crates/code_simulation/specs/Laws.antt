-- What holds of both runs.
use Rattle.std.specs.Prelude.{◌≡◌, List, ◌++◌}
use Rattle.value_model.specs.declared.builtin.Builtin.{Builtin}
use Rattle.value_model.specs.Values.{Value}
use Rattle.value_model.specs.Store.{Store, CoroutineOf}
use Rattle.value_model.specs.Choices.{Operation}
use Rattle.value_model.specs.Metamethods.{choose}
use Rattle.value_model.specs.Answers.{Answers}
use Rattle.value_model.specs.Library.{lib}

-- behind an operation on values the same coroutine runs, and all coroutines are as they were
abbrev pub OperationsKeepCoroutines : Type 0
OperationsKeepCoroutines =
    (o : Operation) (s : Store) → ((choose o s).store.running ≡ s.running) × ((choose o s).store.coroutines ≡ s.coroutines)

-- behind a library function that gives values the same coroutine runs, and new ones stand behind those that there were
abbrev pub LibraryKeepsCoroutines : Type 0
LibraryKeepsCoroutines =
    (f : Builtin) (args : List Value) (s : Store) (vs : List Value) (t : Store) → lib f args s ≡ Answers vs t
    → (t.running ≡ s.running) × (more : List CoroutineOf) × (t.coroutines ≡ s.coroutines ++ more)
