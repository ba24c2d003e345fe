-- What sort of function a value is that is called.
use Rattle.value_model.specs.declared.value.Value.{Value}
use Rattle.value_model.specs.declared.value.Value.TheVariants as value
use Rattle.machine_calls.specs.declared.calling.Called.{Called}
use Rattle.machine_calls.specs.declared.calling.Called.TheVariants.{Luau, Native, Host, Wrap, Other}
use Rattle.machine_calls.specs.declared.focus.Caller.TheVariants.{Script}
use Rattle.machine_calls.specs.declared.focus.Focus.TheVariants.{Invoke}
use Rattle.machine_calls.specs.declared.focus.Led.{Led}
use Rattle.machine_calls.specs.declared.focus.Led.TheVariants.{Charges}

abbrev pub called_as : Value → Called
called_as (value.Closure f) = Luau f
called_as (value.Native f) = Native f
called_as (value.Host i) = Host
called_as (value.Wrap t) = Wrap
called_as v = Other

-- a function that the library calls, and that is no Luau function, starts once a turn is charged
abbrev pub started : Value → Led
started callee = Charges (Invoke Script callee)
