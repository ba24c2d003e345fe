use Rattle.std.proofs.Common.{◌∙◌, ◌++◌, ◌<◌, ◌≤◌, length, sym, ap, arith}
use Rattle.std.specs.Fmt.{signed_decimal}
use Rattle.std.specs.Prelude.{if◌then◌else◌}
use Rattle.value_model.specs.Metamethods.{longest_string}
use Rattle.lib_math_table.proofs.ElementTexts.{adds_text, adds_digits, adds_none}
use Rattle.lib_math_table.proofs.Lists.{few, many}
use Rattle.lib_math_table.proofs.joining.add_value.Goals as goal

pub returns-in_ok-add-in-Str : goal.returns-in_ok-add-in-Str
returns-in_ok-add-in-Str c =
    adds_text c.args.names.now c.args.v.now c.in-Str.id c.bytes.result.now c.args.text.now.items c.add.new.text.items c.in-Str.is c.bytes.ensures.text c.in_ok-add-in-Str.ensures

pub returns-in_ok-print_into-in-Num : goal.returns-in_ok-print_into-in-Num
returns-in_ok-print_into-in-Num c =
    let text = c.args.text.now.items in
    let within : length text ≤ longest_string = omega (arith, c.len.ensures, c.args.text.now.ok.0, c.if-len-le-LONGEST_STRING.true) in
    adds_digits c.args.names.now c.args.v.now c.in-Num.n text c.print_into.new.out.items c.in-Num.is
    (c.in_ok-print_into-in-Num.ensures.ok ∙ sym (ap (λ b. if b then text ++ signed_decimal c.in-Num.n else text) (few (length text) longest_string within)))

pub returns-else-len-le-LONGEST_STRING : goal.returns-else-len-le-LONGEST_STRING
returns-else-len-le-LONGEST_STRING c =
    let text = c.args.text.now.items in
    let over : longest_string < length text = omega (arith, c.len.ensures, c.args.text.now.ok.0, c.if-len-le-LONGEST_STRING.false) in
    adds_digits c.args.names.now c.args.v.now c.in-Num.n text text c.in-Num.is (sym
    (ap (λ b. if b then text ++ signed_decimal c.in-Num.n else text) (many (length text) longest_string over)))

pub returns-in_default : goal.returns-in_default
returns-in_default c = adds_none c.args.names.now c.args.v.now c.args.text.now.items c.args.text.now.items c.in_default.not-Str c.in_default.not-Num
