use Rattle.std.proofs.Common.{◌≤◌, length, arith}
use Rattle.std.proofs.lemmas.Grind.{common_steps}
use Rattle.std.proofs.lemmas.Option.{slice_get_past}
use Rattle.lib_arguments.proofs.Looks.{absent_fails}
use Rattle.lib_arguments.proofs.argument.wanted.Goals as goal

pub returns-in-None-clause-checks : goal.returns-in-None-clause-checks
returns-in-None-clause-checks c =
    let past : length c.args.args.now ≤ c.args.i = grind (arith, common_steps) in
    λ texts. absent_fails texts c.args.f c.args.i c.args.w c.args.args.now (slice_get_past c.args.args.now c.args.i past)
