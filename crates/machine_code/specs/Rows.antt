-- What the machine does with a line, and with a constant.
use Rattle.std.specs.Prelude.{◌≡◌, ℕ, pos, List, Some}
use Rattle.op_words.specs.Chunks.{ChunkOf, ProtoOf}
use Rattle.op_words.specs.Decoding.{insn_at}
use Rattle.value_model.specs.Parts.{meant}
use Rattle.value_model.specs.Values as m
use Rattle.value_model.specs.Values.{Bytes}
use Rattle.value_model.specs.declared.value.Value.{Value}
use Rattle.machine_meaning.specs.Chunks.{proto_at}
use Rattle.machine_meaning.specs.Constants.{known}
use Rattle.machine_meaning.specs.States.{Frame, World}
use Rattle.machine_meaning.specs.Effects.{charged}
use Rattle.machine_meaning.specs.Instructions.{row}
use Rattle.machine_meaning.specs.Steps.{act, act_charged}
use Rattle.machine_code.specs.declared.code.Line.{Line}

-- what is done at the place is the line's row, also where it charged a turn
pub record IsRowAt (chunk : ChunkOf) (code : List ℕ) (place : ℕ) (l : Line) : Type 0 where
  pub runs : (f : Frame) (fs : List Frame) (w : World) → act chunk code (insn_at code place) f fs w ≡ row chunk code l.insn l.next f fs w
  pub charges : (f : Frame) (fs : List Frame) (w : World) → act_charged (insn_at code place) f fs w ≡ charged l.insn l.next f fs w

-- where a function's constant is known, this is its value
abbrev pub StandsFor : ChunkOf → (texts : List Bytes) → ProtoOf → (index : ℕ) → Value → Type 0
StandsFor chunk texts p k v = (n : ℕ) (u : m.Value) → proto_at chunk n ≡ Some p → known chunk n (pos k) ≡ Some u → meant texts v ≡ u
