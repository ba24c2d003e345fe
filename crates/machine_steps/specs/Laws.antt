-- What holds where a script's running state means a safe state of well-formed code.
use Rattle.std.specs.Prelude.{◌≡◌, ◌<◌, ◌^◌, ℕ, List, length, Some, IsSomeAnd}
use Rattle.op_words.specs.declared.insn.Insn.{Insn}
use Rattle.op_words.specs.Chunks.{ChunkOf, ProtoOf}
use Rattle.value_model.specs.declared.event.Reply.{Reply}
use Rattle.luau_tables.specs.declared.globals.LibWorld.{LibWorld}
use Rattle.call_frames.specs.Stacks.{StackView}
use Rattle.machine_meaning.specs.States.{Run}
use Rattle.machine_meaning.specs.WellFormed.{IsWellFormed}
use Rattle.checked_runs.specs.Safe.{IsSafe}
use Rattle.machine_code.specs.Code.{IsCodeOf}
use Rattle.machine_code.specs.declared.code.Code.{Code}
use Rattle.machine_world.specs.Parts.{part}
use Rattle.machine_world.specs.Sound.{IsMachine, GoesOn}
use Rattle.machine_steps.specs.Ready.{HasLine, IsReady, StandsAt, function_here, line_here}

-- the function that runs is at a line of its code, which finds all that it needs
pub record IsAtLine (chunk : ChunkOf) (w : LibWorld) (code : Code) (s : StackView) : Type 0 where
  pub proto : ProtoOf
  pub insn : Insn
  pub next : ℕ
  pub has : HasLine w code s
  pub line : line_here w code s ≡ Some (record { insn = insn; next = next })
  pub stands : StandsAt chunk proto w code s insn next
  -- as far as the code's places have numbers
  pub ready : IsSomeAnd (function_here w code s) (λ f. length f.lines < 2 ^ 64) → IsReady w code s insn

abbrev pub SafeCodeIsReady : Type 0
SafeCodeIsReady =
    (chunk : ChunkOf) → IsWellFormed chunk → (w : LibWorld) (code : Code) (s : StackView) (replies : List Reply) → IsSafe chunk (part w code s Run replies) →
    IsCodeOf chunk w.names code → IsMachine w s → GoesOn s → IsAtLine chunk w code s
