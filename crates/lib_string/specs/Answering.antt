-- How a call that may answer with a call ends, by its row.
use Rattle.std.specs.Prelude.{List, Result, Ok, Err}
use Rattle.resource.specs.declared.memory.OutOfMemory.{OutOfMemory}
use Rattle.value_model.specs.Answers as model
use Rattle.value_model.specs.Waits.{Elsewise}
use Rattle.value_model.specs.declared.value.Value.{Value}
use Rattle.luau_tables.specs.Answers.{Answered}
use Rattle.luau_tables.specs.declared.answer.LibAnswer.{LibAnswer}
use Rattle.luau_tables.specs.declared.globals.LibWorld.{LibWorld}
use Rattle.lib_arguments.specs.Rows.{Ends, ending_of}
use Rattle.lib_arguments.specs.declared.ending.Ending.{Ending}

-- it answers by the row, or ends without an answer
abbrev pub AnswersOrEnds : (before after : LibWorld) → (results_before results_after : List Value) → Result LibAnswer Ending → (row : model.LibAnswer) → Type 0
AnswersOrEnds before after rs rs' (Ok answer) row = Answered before after rs rs' answer Elsewise row
AnswersOrEnds before after rs rs' (Err e) row = Ends before after rs rs' e row

-- and its answer
abbrev pub closed : Result LibAnswer Ending → Result LibAnswer OutOfMemory
closed (Ok answer) = Ok answer
closed (Err e) = ending_of (Err e)
