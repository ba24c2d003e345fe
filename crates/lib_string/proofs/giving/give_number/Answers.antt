use Rattle.lib_string.proofs.GivenValues.{number_given}
use Rattle.lib_string.proofs.giving.give_number.Goals as goal

pub returns : goal.returns
returns c = number_given c.args.world.now c.args.results.now.items c.give.new.results.items c.args.number c.give.result c.give.ensures
