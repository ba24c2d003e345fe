use Rattle.std.proofs.Common.{map}
use Rattle.value_model.specs.Arguments as arg
use Rattle.value_model.specs.FormatRows as row
use Rattle.value_model.specs.Parts.{meant}
use Rattle.value_model.specs.declared.builtin.Builtin.TheVariants.{StringFormat}
use Rattle.lib_string.specs.Directives.{field_of}
use Rattle.lib_string.proofs.DirectiveRows.{number_written, number_missed}
use Rattle.lib_string.proofs.argument_text.hex_at.Goals as goal

pub returns-in-Ok-clause-writes : goal.returns-in-Ok-clause-writes
returns-in-Ok-clause-writes c =
    let names = c.args.world.now.names in
    number_written names c.args.out.now.items c.hex_into.new.out.items (arg.number_at StringFormat c.args.at (map (meant names) c.args.args.now)) (λ go. row.hex_text (field_of c.args.field) c.args.capital c.args.at go) c.in-Ok.number c.hex_into.result c.in-Ok.ensures.checks (c.hex_into.ensures names)

pub returns-in-Err-clause-writes : goal.returns-in-Err-clause-writes
returns-in-Err-clause-writes c =
    let names = c.args.world.now.names in
    number_missed names c.args.out.now.items c.args.out.now.items (arg.number_at StringFormat c.args.at (map (meant names) c.args.args.now)) (λ go. row.hex_text (field_of c.args.field) c.args.capital c.args.at go) c.in-Err.ending c.in-Err.ensures.checks
