-- Answers of the library that ask for no call.
use Rattle.value_model.specs.Answers as model
use Rattle.luau_tables.specs.declared.answer.LibAnswer.{LibAnswer}
use Rattle.luau_tables.specs.declared.answer.LibAnswer.TheVariants.{CallBack}

abbrev pub AtOnce : LibAnswer → Type 0
AtOnce (CallBack callee args then) = ⊥
AtOnce answer = Unit {0}

-- as the meanings know them
abbrev pub NoCall : model.LibAnswer → Type 0
NoCall (model.CallsBack callee args then) = ⊥
NoCall answer = Unit {0}
