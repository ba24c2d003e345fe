use Rattle.lib_string.proofs.NumbersThere.{number_there}
use Rattle.lib_string.proofs.arguments.number_at.Goals as goal

pub returns-clause-there : goal.returns-clause-there
returns-clause-there c = number_there c.args.world.now.names c.args.f c.args.i c.args.args.now c.number_at.result c.number_at.ensures
