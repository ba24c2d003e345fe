use Rattle.value_model.specs.Parts.{meant}
use Rattle.lib_arguments.proofs.Found.{number_ends}
use Rattle.lib_arguments.proofs.number.number_from.Goals as goal

pub returns-in-NotNumber : goal.returns-in-NotNumber
returns-in-NotNumber c =
    number_ends c.args.names.now c.args.f c.args.i (meant c.args.names.now c.args.v.now) c.invalid.result c.in-NotNumber.ensures (c.invalid.ensures c.args.names.now)
