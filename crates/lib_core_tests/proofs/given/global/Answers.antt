use Rattle.std.proofs.Common.{ap, inr}
use Rattle.value_model.specs.Owners.{wide}
use Rattle.lib_core_tests.proofs.given.global.Goals as goal

pub returns : goal.returns
returns c = let there = c.requires.own.globals in ((inr (ap wide there.table_owner), there.table), tt)
