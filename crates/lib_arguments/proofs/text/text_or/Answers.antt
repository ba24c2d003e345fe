use Rattle.std.proofs.Common.{map}
use Rattle.std.proofs.lemmas.Option.{slice_get_within}
use Rattle.value_model.specs.Arguments as row
use Rattle.value_model.specs.Parts.{meant}
use Rattle.lib_arguments.proofs.Found.{text_default, text_given}
use Rattle.lib_arguments.proofs.text.text_or.Goals as goal

pub returns-in-Ok-clause-checks : goal.returns-in-Ok-clause-checks
returns-in-Ok-clause-checks c =
    let texts = c.args.names.now in
    text_default texts c.text_value.new.names c.args.f c.args.i (row.argument_or_nil (map (meant texts) c.args.args.now) c.args.i) c.args.otherwise.now c.in-Ok.id (c.in-Nil.ensures.value texts) c.in-Ok.ensures.text

pub returns-in-Ok-clause-number : goal.returns-in-Ok-clause-number
returns-in-Ok-clause-number c = slice_get_within c.text_value.new.names c.in-Ok.id.0 c.args.otherwise.now c.in-Ok.ensures.text

pub returns-in_default-clause-checks : goal.returns-in_default-clause-checks
returns-in_default-clause-checks c =
    let texts = c.args.names.now in
    text_given texts c.text_from.new.names c.args.f c.args.i c.argument_or_nil.result (row.argument_or_nil (map (meant texts) c.args.args.now) c.args.i) c.args.otherwise.now c.text_from.result (c.argument_or_nil.ensures.value texts) c.in_default.not-Nil c.text_from.ensures.checks
