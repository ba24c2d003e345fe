-- The rows of the functions of `string`, by builtin.
use Rattle.std.proofs.Common.{◌≡◌, List, Result, Ok, Err, refl}
use Rattle.std.specs.Prelude.{IfOk, OnErr}
use Rattle.value_model.specs.Answers as model
use Rattle.value_model.specs.Library as library
use Rattle.value_model.specs.Store.{Store}
use Rattle.value_model.specs.StringRows as row
use Rattle.value_model.specs.Values as m
use Rattle.value_model.specs.Waits.{Elsewise}
use Rattle.value_model.specs.declared.builtin.Builtin.{Builtin}
use Rattle.value_model.specs.declared.builtin.Builtin.TheVariants as builtin
use Rattle.value_model.specs.declared.value.Value.{Value}
use Rattle.luau_tables.specs.Answers.{raised_by, Answered}
use Rattle.luau_tables.specs.declared.answer.LibAnswer.{LibAnswer}
use Rattle.luau_tables.specs.declared.globals.LibWorld.{LibWorld}
use Rattle.lib_arguments.specs.declared.ending.Ending.{Ending}
use Rattle.lib_arguments.proofs.RowsRun.{runs_answered, runs_unanswered}
use Rattle.lib_string.specs.Answering.{AnswersOrEnds, closed}
use Rattle.lib_string.specs.Builtins.{IsOfString}
use Rattle.lib_string.specs.Changes.{changed}

-- what is left is `lower`, `upper` and `reverse`
pub change_row : (args : List m.Value) (s : Store) (f : Builtin) → IsOfString f → (f ≡ builtin.StringByte → ⊥) → (f ≡ builtin.StringChar → ⊥) → (f ≡ builtin.StringLen → ⊥) → (f ≡ builtin.StringSub → ⊥) → (f ≡ builtin.StringRep → ⊥) → (f ≡ builtin.StringSplit → ⊥) → (f ≡ builtin.StringFormat → ⊥) →
    row.of_text f (changed f) args s ≡ library.lib f args s
unfolding library.lib
change_row args s builtin.StringLower is n₁ n₂ n₃ n₄ n₅ n₆ n₇ = refl
change_row args s builtin.StringUpper is n₁ n₂ n₃ n₄ n₅ n₆ n₇ = refl
change_row args s builtin.StringReverse is n₁ n₂ n₃ n₄ n₅ n₆ n₇ = refl
change_row args s builtin.StringByte is n₁ n₂ n₃ n₄ n₅ n₆ n₇ = absurd (n₁ refl)
change_row args s builtin.StringChar is n₁ n₂ n₃ n₄ n₅ n₆ n₇ = absurd (n₂ refl)
change_row args s builtin.StringLen is n₁ n₂ n₃ n₄ n₅ n₆ n₇ = absurd (n₃ refl)
change_row args s builtin.StringSub is n₁ n₂ n₃ n₄ n₅ n₆ n₇ = absurd (n₄ refl)
change_row args s builtin.StringRep is n₁ n₂ n₃ n₄ n₅ n₆ n₇ = absurd (n₅ refl)
change_row args s builtin.StringSplit is n₁ n₂ n₃ n₄ n₅ n₆ n₇ = absurd (n₆ refl)
change_row args s builtin.StringFormat is n₁ n₂ n₃ n₄ n₅ n₆ n₇ = absurd (n₇ refl)
change_row args s _ is n₁ n₂ n₃ n₄ n₅ n₆ n₇ = absurd is

-- none of them says how a value was raised
pub raised_elsewise : (args : List m.Value) (f : Builtin) → IsOfString f → Elsewise ≡ raised_by f args
raised_elsewise args builtin.Error is = absurd is
raised_elsewise args _ is = refl

-- ---- answers

module _ (before after : LibWorld) (rs rs' : List Value) (row : model.LibAnswer) where
  pub closed_answers : (result : Result LibAnswer Ending) → AnswersOrEnds before after rs rs' result row → IfOk (closed result) (λ (a : LibAnswer). Answered before after rs rs' a Elsewise row)
  closed_answers (Ok a) h = h
  closed_answers (Err e) h = runs_answered Elsewise before after rs rs' (Err e) row h

  pub closed_ends : (result : Result LibAnswer Ending) → AnswersOrEnds before after rs rs' result row → OnErr (closed result) (rs' ≡ rs)
  closed_ends (Ok a) h = tt
  closed_ends (Err e) h = runs_unanswered before after rs rs' (Err e) row h
