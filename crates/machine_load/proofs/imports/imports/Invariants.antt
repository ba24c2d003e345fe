use Rattle.machine_load.proofs.Imported.{AreImportsTo}
use Rattle.machine_load.proofs.imports.imports.Given as goal

abbrev pub invariant-loop-constant : goal.invariant-loop-constant
invariant-loop-constant l = AreImportsTo l.fn.world l.values l.constant-index l.constants l.found
