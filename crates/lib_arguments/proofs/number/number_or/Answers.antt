use Rattle.std.proofs.Common.{map}
use Rattle.value_model.specs.Arguments as row
use Rattle.value_model.specs.Parts.{meant}
use Rattle.lib_arguments.proofs.Found.{number_default, number_given}
use Rattle.lib_arguments.proofs.number.number_or.Goals as goal

pub returns-in-Nil : goal.returns-in-Nil
returns-in-Nil c =
    let texts = c.args.names.now in
    number_default texts c.args.f c.args.i (row.argument_or_nil (map (meant texts) c.args.args.now) c.args.i) c.args.otherwise (c.in-Nil.ensures.value texts)

pub returns-in_default : goal.returns-in_default
returns-in_default c =
    let texts = c.args.names.now in
    number_given texts c.args.f c.args.i c.argument_or_nil.result (row.argument_or_nil (map (meant texts) c.args.args.now) c.args.i) c.args.otherwise c.number_from.result (c.argument_or_nil.ensures.value texts) c.in_default.not-Nil c.number_from.ensures
