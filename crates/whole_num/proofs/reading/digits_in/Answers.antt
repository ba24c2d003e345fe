use Rattle.std.proofs.Common.{◌≡◌, refl, sym, ap, subst, ◌∙◌}
use Rattle.std.specs.Str.Parse.{IsNumeral, digits_value}
use Rattle.whole_num.specs.Literals.{without_marks, Scaled}
use Rattle.whole_num.specs.Digits.{cut}
use Rattle.whole_num.proofs.Texts.{without, marked_numeral, numeral_answer, no_numeral}
use Rattle.whole_num.proofs.reading.digits_in.Goals as goal

pub returns-then-contains : goal.returns-then-contains
returns-then-contains c =
    let h = c.if-contains.ensures.cases in marked_numeral c.args.radix c.args.text.now h.0 c.requires.high h.1 (h.2 0)

pub returns-in-Some : goal.returns-in-Some
returns-in-Some c =
    let t = c.args.text.now in
    let r = c.args.radix in
    let same : without_marks t ≡ t = without t c.if-contains.ensures.cases in
    let n = c.in-Some.ensures in
    let value : Scaled = record { mantissa = digits_value r t; up = 0; down = 0 } in
    numeral_answer r t c.in_range.result (subst (IsNumeral r) same n.0) (c.in_range.ensures value (digits_value r t) refl (n.1 ∙ ap (λ l. cut (digits_value r l)) same))

pub returns-in-None : goal.returns-in-None
returns-in-None c =
    let t = c.args.text.now in
    let same : without_marks t ≡ t = without t c.if-contains.ensures.cases in
    no_numeral c.args.radix t (λ n. c.in-None.ensures (subst (IsNumeral c.args.radix) (sym same) n))
