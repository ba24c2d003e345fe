-- Loops over numbers: their bounds, as they are kept, and what comes of an instruction that may fail.
use Rattle.std.specs.Prelude.{◌≡◌, ℕ, ℤ, ◌+ℤ◌, pos, List, [], Result, Ok, Err, Option, Some, None, if◌then◌else◌}
use Rattle.whole_num.specs.declared.arithmetic.Stop.{Stop}
use Rattle.value_model.specs.declared.event.Reply.{Reply}
use Rattle.value_model.specs.Loops.{Bounds, Range as WithRange, Refused, Halted, goes_on}
use Rattle.value_model.specs.Errors.{ForBound}
use Rattle.value_model.specs.Waits.{Stopped}
use Rattle.bounded_runs.specs.Runs.{Ends}
use Rattle.luau_tables.specs.declared.globals.LibWorld.{LibWorld}
use Rattle.call_frames.specs.Stacks.{StackView}
use Rattle.machine_meaning.specs.States.{Run, Fault, Inside}
use Rattle.machine_meaning.specs.Moves.{Row}
use Rattle.machine_meaning.specs.Effects.{bounds_in}
use Rattle.machine_code.specs.declared.code.Code.{Code}
use Rattle.machine_world.specs.Parts.{part}
use Rattle.machine_world.specs.Rows.{row_in, Makes, MakesTo}
use Rattle.machine_flow.specs.declared.counts.Failure.{Failure}
use Rattle.machine_flow.specs.declared.counts.Failure.TheVariants as failure
use Rattle.machine_flow.specs.declared.counts.Bounds.{Bounds as KeptBounds}
use Rattle.machine_flow.specs.declared.counts.Bounds.TheVariants as kept

-- ---- what comes of an instruction

-- the row ends the script
abbrev pub Stops : Row → LibWorld → Code → StackView → Stop → Type 0
Stops row w code s stop =
    (replies : List Reply) → row_in row (part w code s Run replies).functions (part w code s Run replies).world ≡ Ends [] (Stopped stop)

-- the row goes on, or comes to a run error, or ends the script. The state stays where it does not go on
abbrev pub Fails : Row → LibWorld → Code → StackView → Failure → StackView → Type 0
Fails row w code s (failure.NoNumber b k) s' = MakesTo row w code s (Fault (ForBound b k)) w s'
Fails row w code s (failure.Stop stop) s' = Stops row w code s stop

abbrev pub Comes : {A : Type 0} → Row → LibWorld → Code → StackView → Result A Failure → StackView → Type 0
Comes row w code s (Ok x) s' = Makes row w code s w s'
Comes row w code s (Err e) s' = Fails row w code s e s'

-- ---- bounds

abbrev pub failed : Failure → Bounds
failed (failure.NoNumber b k) = Refused (ForBound b k)
failed (failure.Stop stop) = Halted stop

-- a bound, with what is made of it
abbrev pub bounded : Result ℤ Failure → (ℤ → Bounds) → Bounds
bounded (Ok z) next = next z
bounded (Err e) next = failed e

abbrev pub meant_bounds : KeptBounds → Bounds
meant_bounds (kept.Range i l s) = WithRange i l s
meant_bounds (kept.Failed e) = failed e

-- the three bounds, or the first failure
abbrev pub in_order : (index limit step : Result ℤ Failure) → KeptBounds
in_order (Ok i) (Ok l) (Ok s) = kept.Range i l s
in_order (Err e) l s = kept.Failed e
in_order (Ok i) (Err e) s = kept.Failed e
in_order (Ok i) (Ok l) (Err e) = kept.Failed e

-- there are none where no function runs
abbrev pub no_bounds : Bounds
no_bounds = WithRange (pos 0) (pos 0) (pos 0)

-- those of the function that runs
abbrev pub bounds_at : ℕ → Inside → Bounds
bounds_at base i = bounds_in i.frame i.world base

-- the index of the next turn, where there is one
abbrev pub further : (index limit step : ℤ) → Option ℤ
further i l s = if goes_on (i +ℤ s) l s then Some (i +ℤ s) else None
