use Rattle.std.proofs.Common.{true, map}
use Rattle.std.specs.Fmt.{signed_decimal}
use Rattle.value_model.specs.Arguments as arg
use Rattle.value_model.specs.FormatRows as row
use Rattle.value_model.specs.Parts.{meant}
use Rattle.value_model.specs.declared.builtin.Builtin.TheVariants.{StringFormat}
use Rattle.lib_string.specs.Directives.{field_of}
use Rattle.lib_string.proofs.DirectiveRows.{number_missed}
use Rattle.lib_string.proofs.argument_text.decimal_at.Goals as goal

pub returns-in-Err-clause-writes : goal.returns-in-Err-clause-writes
returns-in-Err-clause-writes c =
    let names = c.args.world.now.names in
    number_missed names c.args.out.now.items c.args.out.now.items (arg.number_at StringFormat c.args.at (map (meant names) c.args.args.now))
    (λ go z. go (row.fitted (field_of c.args.field) true (signed_decimal z))) c.in-Err.ending c.in-Err.ensures.checks
