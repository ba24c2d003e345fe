use Rattle.std.proofs.Common.{arith, ap}
use Rattle.std.specs.Str.Parse.{digits_value}
use Rattle.std.proofs.lemmas.Int.Digits.{digits_value_more, digits_value-lt}
use Rattle.std.proofs.lemmas.List.{take_all}
use Rattle.luau_lexer.proofs.Digits.{few_digits_front, digits_times, digit_at}
use Rattle.luau_lexer.proofs.strings.value_of.Goals as goal

pub overflow_mul-value : goal.overflow_mul-value
overflow_mul-value c =
    let small = few_digits_front c.args.radix c.loop-b.b-index c.args.digits.now c.requires.digits c.requires.few c.requires.radix.0 c.requires.radix.1 in
    omega (arith, digits_times c.args.radix c.loop-b.value (omega arith) c.requires.radix.1)

pub digit_value-requires : goal.digit_value-requires
digit_value-requires c =
    omega (arith, digit_at c.args.radix c.args.digits.now c.loop-b.b-index c.requires.digits (omega arith))

pub overflow_add-value : goal.overflow_add-value
overflow_add-value c =
    let small = few_digits_front c.args.radix c.loop-b.b-index c.args.digits.now c.requires.digits c.requires.few c.requires.radix.0 c.requires.radix.1 in
    omega (arith, digits_times c.args.radix c.loop-b.value (omega arith) c.requires.radix.1, digit_at c.args.radix c.args.digits.now c.loop-b.b-index c.requires.digits (omega arith))

pub loop-b-preserved : goal.loop-b-preserved
loop-b-preserved c =
    let more = digits_value_more c.args.radix c.args.digits.now c.loop-b.b-index (omega arith) in
    grind arith

pub returns-clause-small : goal.returns-clause-small
returns-clause-small c =
    let all = ap (digits_value c.args.radix) (take_all c.loop-b.b-index c.args.digits.now (omega arith)) in
    omega (arith, digits_value-lt c.args.radix c.args.digits.now c.requires.digits)
