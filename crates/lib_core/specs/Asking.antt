-- The call of a handler that is asked for the text of a value.
use Rattle.std.specs.Prelude.{◌≡◌, ℕ, suc, List, [], ◌∷◌, Option, Some, None}
use Rattle.value_model.specs.CoreRows as core
use Rattle.value_model.specs.Values as m
use Rattle.value_model.specs.Values.{Bytes}
use Rattle.value_model.specs.Waits as wait
use Rattle.luau_tables.specs.Answers.{Answered}
use Rattle.luau_tables.specs.Worlds.{store_in}
use Rattle.luau_tables.specs.declared.globals.LibWorld.{LibWorld}
use Rattle.value_model.specs.declared.builtin.Builtin.{Builtin}
use Rattle.value_model.specs.declared.value.Value.{Value}
use Rattle.value_model.specs.declared.waiting.Continue.{Continue}
use Rattle.luau_tables.specs.declared.answer.LibAnswer.{LibAnswer}
use Rattle.luau_tables.specs.declared.answer.LibAnswer.TheVariants.{CallBack}

-- what goes on behind a call: a library function with its arguments, from a place on, behind a text
pub record GoesOn (f : Builtin) (args : List Value) (i : ℕ) (front : Bytes) (then : Continue) : Type 0 where
  pub builtin : then.builtin ≡ f
  pub arguments : then.args.items ≡ args
  pub at : then.at ≡ i
  pub text : then.text ≡ front

-- the handler is called with the value
abbrev pub Asks : (handler v : Value) → (f : Builtin) → (args : List Value) → (at : ℕ) → (text : Bytes) → LibAnswer → Type 0
Asks handler v f args at text (CallBack callee given then) = (callee ≡ handler) × (given.items ≡ v ∷ []) × GoesOn f args at text then
Asks handler v f args at text _ = ⊥

-- What `print` does with an argument at a place, behind the text so far: the text of the argument is appended, or its handler is called.
abbrev pub PrintsOne : (w : LibWorld) → (args : List m.Value) → (at : ℕ) → m.Value → (before after : Bytes) → Option LibAnswer → Type 0
PrintsOne w args at v text text' None = (vs : List m.Value) → core.prints (store_in w) args at text (v ∷ vs) ≡ core.prints (store_in w) args (suc at) text' vs
PrintsOne w args at v text text' (Some a) = (vs : List m.Value) (rs : List Value) → Answered w w rs rs a wait.Elsewise (core.prints (store_in w) args at text (v ∷ vs))
