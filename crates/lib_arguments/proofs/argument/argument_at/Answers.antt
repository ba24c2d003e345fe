use Rattle.std.proofs.Common.{◌≤◌, length, arith, sym}
use Rattle.std.proofs.lemmas.Grind.{common_steps}
use Rattle.std.proofs.lemmas.Option.{slice_get_past}
use Rattle.lib_arguments.proofs.argument.argument_at.Goals as goal

pub returns-in-None : goal.returns-in-None
returns-in-None c =
    let past : length c.args.args.now ≤ c.args.i = grind (arith, common_steps) in
    sym (slice_get_past c.args.args.now c.args.i past)
