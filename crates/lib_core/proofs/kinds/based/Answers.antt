use Rattle.value_model.specs.Parts.{meant}
use Rattle.lib_arguments.proofs.RowsRun.{found, found_fails, ends}
use Rattle.lib_core.proofs.NumberRows.{based_gives, based_ends}
use Rattle.lib_core.proofs.kinds.based.Goals as goal

pub returns-in-Err : goal.returns-in-Err
returns-in-Err c = ends _ _ c.in-Err.e _ (c.in-Err.ensures _)

pub returns-in-None : goal.returns-in-None
returns-in-None c =
    let w = c.args.world.now in
    ends w _ c.out_of_range.result _ (found_fails _ w.names _ c.in-Ok.ensures
    (based_ends w (meant w.names c.args.v.now) c.in-Ok.number _ c.in-None.ensures (c.out_of_range.ensures w.names)))

pub returns-in-Ok-read_in : goal.returns-in-Ok-read_in
returns-in-Ok-read_in c =
    let w = c.args.world.now in
    let is = c.in-Some.ensures in
    found _ w w _ _ c.give_number.result c.in-Ok.ensures
    (based_gives w _ _ c.give_number.result (meant w.names c.args.v.now) c.in-Ok.number c.in-Some.radix _ is.0 is.1 is.2 c.in-Ok-read_in.ensures c.give_number.ensures)
