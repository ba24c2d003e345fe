-- What a row of the machine makes of a script's running state.
use Rattle.std.specs.Prelude.{◌≡◌, ℕ, List, [], ◌∷◌}
use Rattle.std.specs.Option.{option_map_or}
use Rattle.value_model.specs.Values as m
use Rattle.value_model.specs.Waits.{Stuck}
use Rattle.value_model.specs.declared.event.Reply.{Reply}
use Rattle.bounded_runs.specs.Runs.{Goes, Charges, Ends}
use Rattle.luau_tables.specs.declared.globals.LibWorld.{LibWorld}
use Rattle.call_frames.specs.Stacks.{StackView}
use Rattle.call_frames.specs.Cells.{innermost}
use Rattle.machine_meaning.specs.States.{Run, Focus, Frame, World}
use Rattle.machine_meaning.specs.Moves.{Row, Step}
use Rattle.machine_meaning.specs.Effects.{receive}
use Rattle.machine_code.specs.declared.code.Code.{Code}
use Rattle.machine_world.specs.Parts.{part, read_of}

abbrev pub row_in : Row → List Frame → World → Step
row_in row [] w = Ends [] Stuck
row_in row (f ∷ fs) w = row f fs w

-- the row goes on to the state that the stack and the world then mean, with nothing charged, shown or noted
abbrev pub Makes : Row → LibWorld → Code → StackView → LibWorld → StackView → Type 0
Makes row w code s w' s' =
    (replies : List Reply) → row_in row (part w code s Run replies).functions (part w code s Run replies).world ≡ Goes [] (part w' code s' Run replies)

-- it goes on to something else that is done then
abbrev pub MakesTo : Row → LibWorld → Code → StackView → Focus → LibWorld → StackView → Type 0
MakesTo row w code s x w' s' =
    (replies : List Reply) → row_in row (part w code s Run replies).functions (part w code s Run replies).world ≡ Goes [] (part w' code s' x replies)

-- a turn is charged first
abbrev pub MakesCharged : Row → LibWorld → Code → StackView → Focus → LibWorld → StackView → Type 0
MakesCharged row w code s x w' s' =
    (replies : List Reply) → row_in row (part w code s Run replies).functions (part w code s Run replies).world ≡ Charges (part w' code s' x replies)

-- the row of a function that is given the values of the call that it waits for
abbrev pub takes : List m.Value → Row
takes vs f fs w = receive f.purpose vs f fs w

-- ---- what is read of the function that runs

-- the place of its instruction
abbrev pub place_here : StackView → ℕ
place_here s = option_map_or (λ f. f.place) (innermost s) 0

-- its number
abbrev pub proto_here : LibWorld → Code → StackView → ℕ
proto_here w code s = read_of 0 (λ i. i.frame.proto) (part w code s Run [])
