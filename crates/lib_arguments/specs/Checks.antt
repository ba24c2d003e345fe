-- What a look at an argument finds, beside the row that goes on with it.
use Rattle.std.specs.Prelude.{◌≡◌, ℕ, ◌^◌, List, Result, Ok, Err}
use Rattle.value_model.specs.Answers as model
use Rattle.value_model.specs.Parts.{meant_error, IsKnown}
use Rattle.value_model.specs.Values.{Bytes}
use Rattle.lib_arguments.specs.declared.ending.Ending.{Ending}
use Rattle.lib_arguments.specs.declared.ending.Ending.TheVariants.{OutOfMemory, RunError, Stop}

-- a call has fewer arguments than this
abbrev pub most_arguments : ℕ
most_arguments = 2 ^ 63

-- A row ends so. The texts that a run error shows have numbers.
abbrev pub Fails : (texts : List Bytes) → model.LibAnswer → Ending → Type 0
Fails texts row OutOfMemory = Unit {0}
Fails texts row (RunError e) = (row ≡ model.ErrsWith (meant_error texts e)) × IsKnown texts e
Fails texts row (Stop s) = row ≡ model.HaltsWith s

-- A row that looks at an argument and goes on with what it finds: it goes on with what was found, or ends as the look did.
abbrev pub Checks : {A B : Type 0} → (texts : List Bytes) → (mean : A → B) → ((B → model.LibAnswer) → model.LibAnswer) → Result A Ending → Type 0
Checks {A} {B} texts mean row (Ok a) = (go : B → model.LibAnswer) → row go ≡ go (mean a)
Checks {A} {B} texts mean row (Err e) = (go : B → model.LibAnswer) → Fails texts (row go) e
