use Rattle.std.proofs.Common.{arith}
use Rattle.value_model.specs.Fresh.{NoField}
use Rattle.value_model.specs.declared.ids.Owner.TheVariants as owner
use Rattle.frozen_libs_tests.proofs.tests.first_world.Goals as goal

pub returns : goal.returns
returns c = record { owner = omega arith; own = (c.in_ok-globals.ensures.starts NoField (c.in_ok-host.ensures c.new-names.result)).own (owner.Script 0) tt }
