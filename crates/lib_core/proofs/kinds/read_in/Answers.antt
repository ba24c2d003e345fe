use Rattle.std.proofs.Common.{◌++◌, ◌∙◌, ap}
use Rattle.std.specs.Fmt.{signed_decimal}
use Rattle.lib_core.proofs.NumberRows.{number_based, text_based, none_based}
use Rattle.lib_core.proofs.kinds.read_in.Goals as goal

pub returns-in_ok-print_into-in-Num : goal.returns-in_ok-print_into-in-Num
returns-in_ok-print_into-in-Num c =
    number_based c.args.names.now c.args.radix c.args.v.now c.in-Num.number _ _ c.in-Num.is
    (c.as_slice.ensures.value ∙ c.in_ok-print_into-in-Num.ensures.ok ∙ ap (λ xs. xs ++ signed_decimal c.in-Num.number) c.new-digits.ensures.items) c.read_with_base.ensures

pub returns-in-Str : goal.returns-in-Str
returns-in-Str c =
    text_based c.args.names.now c.args.radix c.args.v.now c.in-Str.id c.bytes.result.now _ c.in-Str.is c.bytes.ensures.text c.read_with_base-in-Str.ensures

pub returns-in_default : goal.returns-in_default
returns-in_default c = none_based c.args.names.now c.args.radix c.args.v.now c.in_default.not-Num c.in_default.not-Str
