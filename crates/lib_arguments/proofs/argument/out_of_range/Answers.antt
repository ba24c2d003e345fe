use Rattle.lib_arguments.proofs.Looks.{range_fails}
use Rattle.lib_arguments.proofs.argument.out_of_range.Goals as goal

pub returns : goal.returns
returns c = λ texts. range_fails texts c.args.f c.args.i
