-- What a generic loop asks, as values are kept.
use Rattle.std.specs.Prelude.{List, [], ◌∷◌}
use Rattle.value_model.specs.Loops as loops
use Rattle.value_model.specs.Parts.{meant, meant_error, IsKnown}
use Rattle.value_model.specs.Values.{Bytes}
use Rattle.value_model.specs.declared.value.Value.{Value}
use Rattle.luau_tables.specs.Worlds.{MayUseIn}
use Rattle.luau_tables.specs.declared.globals.LibWorld.{LibWorld}
use Rattle.machine_loops.specs.declared.iterating.LoopStart.{LoopStart}
use Rattle.machine_loops.specs.declared.iterating.LoopStart.TheVariants as start

-- by the texts of the interner, where this value is asked
abbrev pub meant_iteration : (texts : List Bytes) → (asked : Value) → LoopStart → loops.Iteration
meant_iteration texts v (start.Generates g s c) = loops.Generates (meant texts g) (meant texts s) (meant texts c)
meant_iteration texts v (start.Calls f) = loops.CallsIter (meant texts f) (meant texts v ∷ [])
meant_iteration texts v (start.Fails e) = loops.NotIterable (meant_error texts e)

-- the script may use the values
abbrev pub IsUsable : LibWorld → LoopStart → Type 0
IsUsable w (start.Generates g s c) = MayUseIn w g × MayUseIn w s × MayUseIn w c
IsUsable w (start.Calls f) = MayUseIn w f
IsUsable w (start.Fails e) = IsKnown w.names e
