-- Calls that are done in place.
use Rattle.std.specs.Prelude.{◌≡◌, ℕ, Bool, true, false, List, map, Option, Some}
use Rattle.value_model.specs.declared.builtin.Builtin.{Builtin}
use Rattle.value_model.specs.declared.value.Value.{Value}
use Rattle.value_model.specs.Parts.{meant}
use Rattle.value_model.specs.Values as m
use Rattle.luau_tables.specs.Worlds.{store_in}
use Rattle.luau_tables.specs.declared.globals.LibWorld.{LibWorld}
use Rattle.luau_tables.specs.declared.answer.LibAnswer.{LibAnswer}
use Rattle.luau_tables.specs.declared.answer.LibAnswer.TheVariants.{Values}
use Rattle.call_frames.specs.Stacks.{StackView}
use Rattle.op_words.specs.declared.insn.Insn.{Insn}
use Rattle.op_words.specs.declared.insn.Insn.TheVariants.{Call}
use Rattle.machine_meaning.specs.States.{Frame, World}
use Rattle.machine_meaning.specs.Moves.{Row, go, is_safe, store_of, with_store}
use Rattle.machine_meaning.specs.Effects.{numbered, under, finished, fast}
use Rattle.machine_code.specs.declared.code.Code.{Code}
use Rattle.machine_world.specs.Rows.{Makes}
use Rattle.machine_library.specs.declared.fast.Replaced.{Replaced}

-- the call, and the place behind it
abbrev pub call_of : Replaced → Insn × ℕ
call_of c = (Call c.base c.arguments c.results, c.next)

-- a call is done with values, or the code goes on to it
abbrev pub done_or_on : Bool → Insn × ℕ → List m.Value → (next : ℕ) → Row
done_or_on true call vs next f fs w = finished (Some call) vs next f fs w
done_or_on false call vs next f fs w = go next f fs w

-- the function of a number is tried on arguments
abbrev pub in_place : (number : ℕ) → List m.Value → Insn × ℕ → (next : ℕ) → Row
in_place n vs call next f fs w = fast (is_safe f w) (under numbered n) vs (Some call) next f fs w

-- What is done in a safe environment, where the library has values for arguments, or has none
abbrev pub Tried : (before after : LibWorld) → Option Builtin → (arguments : List m.Value) → (given : List Value) → Bool → Type 0
Tried before after b vs given done =
    (call : Insn × ℕ) (next : ℕ) (f : Frame) (fs : List Frame) (w : World) → store_of w ≡ store_in before →
    fast true b vs (Some call) next f fs w ≡ done_or_on done call (map (meant after.names) given) next f fs (with_store (store_in after) w)

-- The function of a number was tried on arguments: what is done then, or that the code goes on, is what its row does
abbrev pub Led : (before after : LibWorld) → Code → StackView → (number : ℕ) → (arguments : List m.Value) → (given : List Value) → Bool → Type 0
Led before after code s n vs given done =
    (call : Insn × ℕ) (next : ℕ) (s' : StackView) → Makes (done_or_on done call (map (meant after.names) given) next) after code s after s' →
    Makes (in_place n vs call next) before code s after s'

-- whether these are the values of an answer
abbrev pub has_values : LibAnswer → Bool
has_values Values = true
has_values answer = false
