-- Which calls charge a turn.
use Rattle.std.specs.Prelude.{Bool, true, false}
use Rattle.value_model.specs.declared.value.Value.{Value}
use Rattle.machine_calls.specs.Callees.{called_as}
use Rattle.machine_calls.specs.declared.calling.Called.{Called}
use Rattle.machine_calls.specs.declared.calling.Called.TheVariants.{Luau, Native, Host, Wrap, Other}
use Rattle.machine_calls.specs.declared.focus.Caller.{Caller}
use Rattle.machine_calls.specs.declared.focus.Caller.TheVariants.{Script, Library}
use Rattle.machine_calls.specs.declared.focus.Led.{Led}
use Rattle.machine_calls.specs.declared.focus.Led.TheVariants as led

-- A Luau function charges a turn whoever calls it, and a library or host function where the library calls it. What is no function only
-- goes on, to its `__call`
abbrev pub charges_sort : Called → Caller → Bool
charges_sort (Luau f) by = true
charges_sort (Native f) Library = true
charges_sort (Native f) Script = false
charges_sort Host Library = true
charges_sort Host Script = false
charges_sort Wrap by = false
charges_sort Other by = false

abbrev pub charges_call : Caller → Value → Bool
charges_call by callee = charges_sort (called_as callee) by

-- a turn is charged first
abbrev pub is_charge : Led → Bool
is_charge (led.Charges y) = true
is_charge l = false

-- the machine has moved: what led there is not left to another
abbrev pub is_move : Led → Bool
is_move led.Asks = false
is_move (led.Library f) = false
is_move (led.Unbuilt by callee) = false
is_move l = true
