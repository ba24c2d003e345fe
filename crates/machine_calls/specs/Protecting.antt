-- What a protected call leads to whose arguments are refused.
use Rattle.std.specs.Prelude.{Result, Ok, Err}
use Rattle.resource.specs.declared.memory.OutOfMemory.{OutOfMemory as NoMemory}
use Rattle.lib_arguments.specs.declared.ending.Ending.{Ending}
use Rattle.lib_arguments.specs.declared.ending.Ending.TheVariants.{OutOfMemory, RunError, Stop}
use Rattle.machine_calls.specs.declared.focus.Led.{Led}
use Rattle.machine_calls.specs.declared.focus.Led.TheVariants.{Goes, Stops}
use Rattle.machine_calls.specs.declared.focus.Focus.TheVariants.{Fault}

abbrev pub led_by : Ending → Result Led NoMemory
led_by OutOfMemory = Err (record {})
led_by (RunError e) = Ok (Goes (Fault e))
led_by (Stop s) = Ok (Stops s)
