use Rattle.std.proofs.Common.{refl}
use Rattle.std.specs.Str.Parse.{digits_value}
use Rattle.whole_num.specs.Literals.{without_marks, Scaled}
use Rattle.whole_num.specs.declared.literal.Read.TheVariants as read
use Rattle.whole_num.proofs.Kept.{answers_literal}
use Rattle.whole_num.proofs.Literals.{named_value, reads_decimal, reads_once}
use Rattle.whole_num.proofs.Spelling.{names_literal}
use Rattle.whole_num.proofs.literal.read_literal.Goals as goal

pub returns-in-Some-numeral-clause-reads : goal.returns-in-Some-numeral-clause-reads
returns-in-Some-numeral-clause-reads c =
    let text = without_marks c.args.bytes.now in
    let digits = without_marks c.in-Some.digits.now in
    let value : Scaled = record { mantissa = digits_value c.in-Some.radix digits; up = 0; down = 0 } in
    answers_literal c.args.bytes.now value c.in_range.result
    (names_literal text c.in-Some.radix digits c.in-Some.ensures c.in-Some-numeral.ensures.0)
    (c.in_range.ensures value (digits_value c.in-Some.radix digits) refl c.in-Some-numeral.ensures.1)

pub returns-in-Some-numeral-clause-only : goal.returns-in-Some-numeral-clause-only
returns-in-Some-numeral-clause-only c =
    λ other h. reads_once c.args.bytes.now other c.in_range.result h (returns-in-Some-numeral-clause-reads c)

pub returns-in-None-numeral-clause-reads : goal.returns-in-None-numeral-clause-reads
returns-in-None-numeral-clause-reads c =
    λ v h.
    c.in-None-numeral.ensures (named_value (without_marks c.args.bytes.now) c.in-Some.radix (without_marks c.in-Some.digits.now) c.in-Some.ensures v h).0

pub returns-in-None-numeral-clause-only : goal.returns-in-None-numeral-clause-only
returns-in-None-numeral-clause-only c =
    λ other h. reads_once c.args.bytes.now other read.NotNumber h (returns-in-None-numeral-clause-reads c)

pub returns-in-None-clause-reads : goal.returns-in-None-clause-reads
returns-in-None-clause-reads c = reads_decimal c.args.bytes.now c.decimal.result c.in-None.ensures c.decimal.ensures

pub returns-in-None-clause-only : goal.returns-in-None-clause-only
returns-in-None-clause-only c =
    λ other h. reads_once c.args.bytes.now other c.decimal.result h (returns-in-None-clause-reads c)
