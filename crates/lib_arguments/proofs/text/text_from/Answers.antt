use Rattle.std.proofs.lemmas.Option.{slice_get_within}
use Rattle.std.specs.Fmt.{signed_decimal}
use Rattle.lib_arguments.proofs.Found.{text_found, digits_found, no_text}
use Rattle.lib_arguments.proofs.text.text_from.Goals as goal

pub returns-in-Str-clause-checks : goal.returns-in-Str-clause-checks
returns-in-Str-clause-checks c = text_found c.args.names.now c.args.f c.args.i c.args.v.now c.in-Str.id c.in-Str.is

pub returns-in-Ok-clause-checks : goal.returns-in-Ok-clause-checks
returns-in-Ok-clause-checks c =
    digits_found c.args.names.now c.digits.new.names c.args.f c.args.i c.args.v.now c.in-Num.number c.in-Ok.id c.in-Num.is c.in-Ok.ensures.text

pub returns-in-Ok-clause-number : goal.returns-in-Ok-clause-number
returns-in-Ok-clause-number c = slice_get_within c.digits.new.names c.in-Ok.id.0 (signed_decimal c.in-Num.number) c.in-Ok.ensures.text

pub returns-in_default-clause-checks : goal.returns-in_default-clause-checks
returns-in_default-clause-checks c =
    no_text c.args.names.now c.args.f c.args.i c.args.v.now c.invalid.result c.in_default.not-Str c.in_default.not-Num (c.invalid.ensures c.args.names.now)
