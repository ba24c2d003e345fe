use Rattle.std.proofs.Common.{◌≡◌, ℕ, List, [], ◌∷◌, refl, sym, subst, ◌∙◌, append-nil}
use Rattle.whole_num.specs.Digits.{BeginsWithNoPoint, Takes, TakesFraction}
use Rattle.whole_num.specs.Literals.{without_marks, no_fraction, fraction}
use Rattle.whole_num.specs.declared.mantissa.Mantissa.{Mantissa}
use Rattle.whole_num.proofs.literal.take_fraction.Goals as goal

-- nothing is taken
nothing : (text : List ℕ) (m : Mantissa) → BeginsWithNoPoint text → TakesFraction text m text m
nothing text m first = record {
  part = [];
  digits = [];
  split = refl;
  is_fraction = no_fraction;
  ends = λ h. h;
  no_point = λ _. first;
  keeps = λ front h. rw append-nil h;
}

-- a point and digits are taken
taken : (text digits rest : List ℕ) (m n : Mantissa) (b : ℕ) → b ≡ 46 → text ≡ b ∷ digits → Takes digits m rest n → TakesFraction text m rest n
taken text digits rest m n b b_is is h = record {
  part = 46 ∷ h.digits;
  digits = h.digits;
  split = is ∙ (λ i. b_is i ∷ h.split i);
  is_fraction = fraction h.are_digits;
  ends = λ _. h.ends;
  no_point = λ e. absurd (cc);
  keeps = h.keeps;
}

pub returns-in-Some-clause-takes : goal.returns-in-Some-clause-takes
returns-in-Some-clause-takes c =
    taken (without_marks c.args.text.now) (without_marks c.in-Some.digits.now) (without_marks c.take_digits.result.now) c.args.mantissa.now c.take_digits.new.self c.in-Some.b c.if-b-eq46.true c.in-Some.ensures.found c.take_digits.ensures.takes

pub returns-in_default-clause-takes : goal.returns-in_default-clause-takes
returns-in_default-clause-takes c =
    nothing (without_marks c.args.text.now) c.args.mantissa.now (subst BeginsWithNoPoint (sym c.in-Some.ensures.found) c.if-b-eq46.false)

pub returns-in_default-2-clause-takes : goal.returns-in_default-2-clause-takes
returns-in_default-2-clause-takes c =
    nothing (without_marks c.args.text.now) c.args.mantissa.now (subst BeginsWithNoPoint (sym (rw c.in_default.is at c.first.ensures.found)) tt)
