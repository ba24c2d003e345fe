use Rattle.std.proofs.Common.{length}
use Rattle.machine_load.proofs.imports.+led.Given as goal

abbrev pub decreases-led : goal.decreases-led
decreases-led l = length l.names.now
