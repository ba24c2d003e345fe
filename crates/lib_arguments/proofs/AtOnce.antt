-- Which answers of the library ask for no call.
use Rattle.std.proofs.Common.{◌≡◌, List, Result, Ok, Err, IfOk, sym, subst}
use Rattle.resource.specs.declared.memory.OutOfMemory.{OutOfMemory as NoMemory}
use Rattle.value_model.specs.Answers as model
use Rattle.value_model.specs.Store.{Store}
use Rattle.value_model.specs.Values.{Bytes}
use Rattle.value_model.specs.Waits.{Origin}
use Rattle.value_model.specs.declared.value.Value.{Value}
use Rattle.luau_tables.specs.Answers.{meant_answer}
use Rattle.luau_tables.specs.declared.answer.LibAnswer.{LibAnswer}
use Rattle.luau_tables.specs.declared.answer.LibAnswer.TheVariants as answer
use Rattle.lib_arguments.specs.AtOnce.{AtOnce, NoCall}
use Rattle.lib_arguments.specs.Rows.{ending_of}
use Rattle.lib_arguments.specs.declared.ending.Ending.{Ending}
use Rattle.lib_arguments.specs.declared.ending.Ending.TheVariants.{OutOfMemory, RunError, Stop}

ended_at_once : (r : Result (Unit {0}) Ending) → IfOk (ending_of r) AtOnce
ended_at_once (Ok done) = tt
ended_at_once (Err OutOfMemory) = tt
ended_at_once (Err (RunError e)) = tt
ended_at_once (Err (Stop s)) = tt

-- values that were given, or an end without
pub at_once : (q : Result LibAnswer NoMemory) (r : Result (Unit {0}) Ending) → q ≡ ending_of r → IfOk q AtOnce
at_once q r e = subst (λ q. IfOk q AtOnce) (sym e) (ended_at_once r)

-- an answer by a row that asks for none
pub by_row : (texts : List Bytes) (origin : Origin) (a : LibAnswer) (given : List Value) (s : Store) (row : model.LibAnswer) →
    meant_answer texts origin a given s ≡ row → NoCall row → AtOnce a
unfolding meant_answer
by_row texts origin answer.Values given s row e h = tt
by_row texts origin (answer.Print line) given s row e h = tt
by_row texts origin (answer.RunError r) given s row e h = tt
by_row texts origin (answer.Raise v) given s row e h = tt
by_row texts origin (answer.Stop stop) given s row e h = tt
by_row texts origin (answer.CallBack f args then) given s row e h = absurd (subst NoCall (sym e) h)
