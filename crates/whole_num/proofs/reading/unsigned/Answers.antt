use Rattle.std.proofs.Common.{◌≡◌, ◌-◌, sym, refl, ap, subst, ◌∙◌, length, take, drop}
use Rattle.std.specs.Str.Parse.{IsNumeral, digits_value}
use Rattle.std.proofs.lemmas.List.{take_rest}
use Rattle.whole_num.specs.Literals.{without_marks, Scaled}
use Rattle.whole_num.specs.Digits.{AnswersDecimal, cut}
use Rattle.whole_num.proofs.Readings.{decimal_answer}
use Rattle.whole_num.proofs.Texts.{marked, without, without_behind, begins_hex, begins_decimal, numeral_answer, no_numeral}
use Rattle.whole_num.proofs.reading.unsigned.Goals as goal

pub returns-then-contains : goal.returns-then-contains
returns-then-contains c =
    let h = c.if-contains.ensures.cases in marked c.args.text.now h.0 h.1 (h.2 0)

pub returns-in-Some : goal.returns-in-Some
returns-in-Some c =
    let t = c.args.text.now in
    let same : without_marks (take (length t - 2) (drop 2 t)) ≡ drop 2 t = ap without_marks (take_rest t 2) ∙ without_behind t c.if-contains.ensures.cases in
    let n = c.in-Some.ensures in
    let value : Scaled = record { mantissa = digits_value 16 (drop 2 t); up = 0; down = 0 } in
    numeral_answer 16 (drop 2 t) c.in_range.result (subst (IsNumeral 16) same n.0) (c.in_range.ensures value (digits_value 16 (drop 2 t)) refl (n.1 ∙ ap (λ l. cut (digits_value 16 l)) same))
    ∙ sym (begins_hex t c.if-starts_with.ensures.value)

pub returns-in-None : goal.returns-in-None
returns-in-None c =
    let t = c.args.text.now in
    let same : without_marks (take (length t - 2) (drop 2 t)) ≡ drop 2 t = ap without_marks (take_rest t 2) ∙ without_behind t c.if-contains.ensures.cases in
    no_numeral 16 (drop 2 t) (λ n. c.in-None.ensures (subst (IsNumeral 16) (sym same) n)) ∙ sym (begins_hex t c.if-starts_with.ensures.value)

pub returns-else-starts_with : goal.returns-else-starts_with
returns-else-starts_with c =
    let t = c.args.text.now in
    let same : without_marks t ≡ t = without t c.if-contains.ensures.cases in
    decimal_answer t c.decimal.result (subst (λ l. AnswersDecimal l c.decimal.result) same c.decimal.ensures) ∙ sym (begins_decimal t c.if-starts_with.ensures.value)
