use Rattle.std.proofs.Common.{◌≤◌, length, arith}
use Rattle.std.proofs.lemmas.Grind.{common_steps}
use Rattle.std.proofs.lemmas.Option.{slice_get_past}
use Rattle.lib_arguments.proofs.Looks.{nil_for_absent}
use Rattle.lib_arguments.proofs.argument.argument_or_nil.Goals as goal

pub returns-in-None-clause-value : goal.returns-in-None-clause-value
returns-in-None-clause-value c =
    let past : length c.args.args.now ≤ c.args.i = grind (arith, common_steps) in
    λ texts. nil_for_absent texts c.args.args.now c.args.i (slice_get_past c.args.args.now c.args.i past)
