use Rattle.std.proofs.lemmas.Grind.{common_steps}
use Rattle.std.proofs.Common.{arith}
use Rattle.chunk_check.proofs.Words.{outside_begins}
use Rattle.chunk_check.proofs.layout.Layout.begins.Goals as goal

pub returns-in-None : goal.returns-in-None
returns-in-None c = grind (arith, common_steps, outside_begins)
