use Rattle.lib_arguments.proofs.RowsRun.{found, ends}
use Rattle.lib_math_table.proofs.Giving.{number_gives}
use Rattle.lib_math_table.proofs.math.sign.Goals as goal

pub returns-in-Err : goal.returns-in-Err
returns-in-Err c = ends _ _ c.in-Err.e _ (c.in-Err.ensures _)

pub returns : goal.returns
returns c =
    let w = c.args.world.now in
    found _ w w _ _ c.give.result c.in-Ok.ensures (number_gives w _ _ c.give.result c.sign_of.result _ c.sign_of.ensures c.give.ensures)
