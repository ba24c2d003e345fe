use Rattle.std.proofs.Common.{ℕ, ◌+◌, ◌*◌, ◌-◌, ◌^◌, ◌<◌, min, List, ◌∷◌, ◌++◌, take, drop, get_or, sym, ap, subst, ◌∙◌, arith}
use Rattle.std.specs.Char.{digit_value}
use Rattle.std.specs.Str.Parse.{AllDigits, IsNumeral}
use Rattle.whole_num.specs.Literals.{without_marks}
use Rattle.whole_num.proofs.Kept.{digits_more, digits_behind, value_more}
use Rattle.whole_num.proofs.Marks.{marks_skip, marks_take, marks_split, marks_head}
use Rattle.whole_num.proofs.literal.numeral.Goals as goal
use Rattle.whole_num.proofs.literal.numeral.Goals.{then-b-ne95+in_ok-digit, else-b-ne95}

pub returns-in_err-digit : goal.returns-in_err-digit
returns-in_err-digit c = rw c.from_residual-in_err-digit.ensures none
  where
    xs : List ℕ
    xs = c.args.text.now

    i : ℕ
    i = c.loop-b.b-index

    none : IsNumeral c.args.radix (without_marks xs) → ⊥
    none h =
        let front = marks_split xs i ∙ ap (λ r. without_marks (take i xs) ++ r) (marks_head xs i c.loop-b-test.true c.if-b-ne95.true) in
        let rest = digits_behind c.args.radix (without_marks (take i xs)) (get_or xs i 0 ∷ without_marks (drop (i + 1) xs)) (subst (AllDigits c.args.radix) front h.1) in
        c.in_err-digit.ensures.value (subst (λ (b : ℕ). digit_value b < c.args.radix) (sym c.from.ensures) rest.0)

pub loop-b-preserved : goal.loop-b-preserved
loop-b-preserved c =
    let xs = c.args.text.now in
    let i = c.loop-b.b-index in
    elim c.if-b-ne95.branch [
      | then-b-ne95+in_ok-digit w ↦
          let more = marks_take xs i c.loop-b-test.true w.if-b-ne95.true in
          let digit = w.in_ok-digit.ensures.value in
          record {
            are_digits = rw more (digits_more c.args.radix (without_marks (take i xs)) (get_or xs i 0) c.loop-b.invariant.are_digits (subst (λ (b : ℕ). digit_value b < c.args.radix) w.from.ensures digit.0));
            value = rw more (value_more c.args.radix (without_marks (take i xs)) (get_or xs i 0) c.loop-b.value c.if-b-ne95.value w.from-then-b-ne95-2.result (omega (arith, c.requires.low)) c.loop-b.invariant.value (w.from-then-b-ne95-2.ensures ∙ digit.1 ∙ ap digit_value w.from.ensures) (w.value-is ∙ w.saturating_add-value.ensures ∙ ap (λ x. min (x + w.from-then-b-ne95-2.result) (2 ^ 64 - 1)) (w.saturating_mul.ensures ∙ ap (λ r. min (c.loop-b.value * r) (2 ^ 64 - 1)) w.from-then-b-ne95.ensures)));
          }
      | else-b-ne95 w ↦
          let same = marks_skip xs i c.loop-b-test.true w.if-b-ne95.false in
          record {
            are_digits = rw same c.loop-b.invariant.are_digits;
            value = rw same (w.value-is ∙ c.loop-b.invariant.value);
          }
    ]
