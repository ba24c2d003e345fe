-- What waits innermost, as the stack of a script has it.
use Rattle.std.specs.Prelude.{◌≡◌, List, [], ◌∷◌, Option, Some, None}
use Rattle.value_model.specs.declared.ids.ClosureId.{ClosureId}
use Rattle.value_model.specs.declared.value.Value.{Value}
use Rattle.value_model.specs.declared.value.Value.TheVariants as value
use Rattle.value_model.specs.declared.waiting.Continue.{Continue}
use Rattle.call_frames.specs.declared.frame.Frame.{Frame}
use Rattle.call_frames.specs.declared.frame.ReturnKind.{ReturnKind}
use Rattle.call_frames.specs.declared.frame.ReturnKind.TheVariants as kind
use Rattle.call_frames.specs.Stacks.{StackView}
use Rattle.call_frames.specs.Cells as frames
use Rattle.machine_world.specs.Sound.{Runs, LibraryWaitsFor}
use Rattle.machine_calls.specs.declared.innermost.Innermost.{Innermost}
use Rattle.machine_calls.specs.declared.innermost.Innermost.TheVariants.{Nothing, Function, Protected, Guarded, Handler, Asker}

abbrev pub guarded : Option Value → Innermost
guarded None = Protected
guarded (Some h) = Guarded h

-- by the closure of a frame, and what it waits for
abbrev pub frame_waits : Option ClosureId → ReturnKind → Innermost
frame_waits (Some c) k = Function
frame_waits None (kind.Protected handler) = guarded handler
frame_waits None kind.Handler = Handler
frame_waits None k = Asker

abbrev pub of_frame : Option Frame → Innermost
of_frame None = Nothing
of_frame (Some f) = frame_waits f.closure f.kind

abbrev pub waits_innermost : StackView → Innermost
waits_innermost s = of_frame (frames.innermost s)

-- a library function that asked for a text waits innermost
pub record LibraryAsks (s : StackView) : Type 0 where
  pub rest : Continue
  pub waits : LibraryWaitsFor s (kind.Library rest)

-- a protected call waits innermost, with its handler or without one
pub record IsProtected (s : StackView) : Type 0 where
  pub handler : Option Value
  pub waits : LibraryWaitsFor s (kind.Protected handler)

-- `xpcall` waits innermost, with this handler
abbrev pub IsCaught : StackView → (handler : Value) → Type 0
IsCaught s h = LibraryWaitsFor s (kind.Protected (Some h))

-- what waits innermost ends with an error that comes to it: `pcall`, and the handler of `xpcall`
abbrev pub CatchesIn : ReturnKind → Type 0
CatchesIn (kind.Protected None) = Unit {0}
CatchesIn kind.Handler = Unit {0}
CatchesIn k = ⊥

pub record Catches (s : StackView) : Type 0 where
  pub kind : ReturnKind
  pub waits : LibraryWaitsFor s kind
  pub catches : CatchesIn kind

abbrev pub IsInnermost : StackView → Innermost → Type 0
IsInnermost s Nothing = frames.innermost s ≡ None
IsInnermost s Function = Runs s
IsInnermost s Protected = LibraryWaitsFor s (kind.Protected None)
IsInnermost s (Guarded h) = LibraryWaitsFor s (kind.Protected (Some h))
IsInnermost s Handler = LibraryWaitsFor s kind.Handler
IsInnermost s Asker = LibraryAsks s

-- the first value, and nil where there is none
abbrev pub first : List Value → Value
first [] = value.Nil
first (v ∷ vs) = v
