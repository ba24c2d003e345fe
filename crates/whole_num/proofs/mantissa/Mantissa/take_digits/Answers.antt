use Rattle.std.proofs.Common.{ℕ, ◌<◌, ◌≤◌, List, [], ◌∷◌, ◌++◌, take, get_or, sym, ap, subst, ◌∙◌, arith, append_assoc}
use Rattle.std.specs.Char.{digit_value}
use Rattle.std.proofs.lemmas.List.{take_rest}
use Rattle.whole_num.specs.Digits.{BeginsWithNoDigit, Keeps}
use Rattle.whole_num.specs.Literals.{without_marks}
use Rattle.whole_num.proofs.Kept.{digits_more}
use Rattle.whole_num.proofs.Marks.{marks_skip, marks_take, marks_split, marks_head}
use Rattle.whole_num.proofs.mantissa.Mantissa.take_digits.Goals as goal
use Rattle.whole_num.proofs.mantissa.Mantissa.take_digits.Goals.{then-b-ne95+in-Some, else-b-ne95}

pub returns-in-None-clause-takes : goal.returns-in-None-clause-takes
returns-in-None-clause-takes c = record {
  digits = without_marks (take c.loop-i.i c.args.text.now);
  split = marks_split c.args.text.now c.loop-i.i ∙ ap (λ r. without_marks (take c.loop-i.i c.args.text.now) ++ without_marks r) (sym (take_rest c.args.text.now c.loop-i.i));
  are_digits = c.loop-i.invariant.are_digits;
  ends =
      let no_digit : 10 ≤ digit_value (get_or c.args.text.now c.loop-i.i 0) = subst (λ (b : ℕ). 10 ≤ digit_value b) c.from.ensures (omega (arith, c.in-None.ensures.value)) in
      subst BeginsWithNoDigit (sym (ap without_marks (take_rest c.args.text.now c.loop-i.i) ∙ marks_head c.args.text.now c.loop-i.i c.loop-i-test.true c.if-b-ne95.true)) no_digit;
  keeps = c.loop-i.invariant.keeps;
}

pub loop-i-preserved : goal.loop-i-preserved
loop-i-preserved c =
    let xs = c.args.text.now in
    let i = c.loop-i.i in
    elim c.if-b-ne95.branch [
      | then-b-ne95+in-Some w ↦
          let more = marks_take xs i c.loop-i-test.true w.if-b-ne95.true in
          let digit = w.in-Some.ensures.value in
          rw w.self-is (record {
            are_digits = rw more (digits_more 10 (without_marks (take i xs)) (get_or xs i 0) c.loop-i.invariant.are_digits (subst (λ (b : ℕ). digit_value b < 10) w.from.ensures digit.0));
            keeps = λ front h. rw more (subst (λ (ds : List ℕ). Keeps w.push.new.self ds) (append_assoc front (without_marks (take i xs)) (get_or xs i 0 ∷ [])) (w.push.ensures.keeps (front ++ without_marks (take i xs)) (get_or xs i 0) (digit.1 ∙ ap digit_value w.from.ensures) (c.loop-i.invariant.keeps front h)));
            room = omega (arith, w.push.ensures.count, c.loop-i.invariant.room);
            zeros = w.push.ensures.zeros;
          })
      | else-b-ne95 w ↦
          let same = marks_skip xs i c.loop-i-test.true w.if-b-ne95.false in
          rw w.self-is (record {
            are_digits = rw same c.loop-i.invariant.are_digits;
            keeps = λ front h. rw same (c.loop-i.invariant.keeps front h);
            room = omega (arith, c.loop-i.invariant.room);
            zeros = c.loop-i.invariant.zeros;
          })
    ]
