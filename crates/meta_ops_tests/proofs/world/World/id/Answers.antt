use Rattle.std.proofs.Common.{refl}
use Rattle.meta_ops_tests.proofs.Readied.{table_there, table_held}
use Rattle.meta_ops_tests.proofs.world.World.id.Goals as goal

pub returns-then-number-self-clause-there : goal.returns-then-number-self-clause-there
returns-then-number-self-clause-there c = table_there c.args.self.now c.args.number c.requires c.if-number-self.true

pub returns-then-number-self-clause-value : goal.returns-then-number-self-clause-value
returns-then-number-self-clause-value c = table_held c.args.self.now.arena _ refl (table_there c.args.self.now c.args.number c.requires c.if-number-self.true)

pub returns-else-number-self-clause-there : goal.returns-else-number-self-clause-there
returns-else-number-self-clause-there c = table_there c.args.self.now 0 c.requires c.requires.some

pub returns-else-number-self-clause-value : goal.returns-else-number-self-clause-value
returns-else-number-self-clause-value c = table_held c.args.self.now.arena _ refl (table_there c.args.self.now 0 c.requires c.requires.some)
