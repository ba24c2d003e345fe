use Rattle.std.proofs.Common.{ℕ, List, ◌∷◌, refl, sym, ap, subst, ◌∙◌}
use Rattle.std.specs.Str.Parse.{digits_value}
use Rattle.whole_num.specs.Literals.{without_marks, IsPower, unsigned, positive, negative}
use Rattle.whole_num.proofs.literal.power_of.Goals as goal

pub returns-in_ok-down : goal.returns-in_ok-down
returns-in_ok-down c =
    let rest = without_marks c.in_ok-sign.digits.now in
    let is = c.in_ok-sign.ensures.found ∙ ap (λ b. b ∷ rest) c.if-sign-eq45.true in
    record {
      up = 0;
      down = digits_value 10 rest;
      spelled = subst (λ (t : List ℕ). IsPower t 0 (digits_value 10 rest)) (sym is) (negative c.in_ok-down.ensures.0);
      up_is = refl;
      down_is = c.in_ok-down.ensures.1;
    }

pub returns-in_ok-up : goal.returns-in_ok-up
returns-in_ok-up c =
    let rest = without_marks c.in_ok-sign.digits.now in
    let is = c.in_ok-sign.ensures.found ∙ ap (λ b. b ∷ rest) c.if-sign-eq43.true in
    record {
      up = digits_value 10 rest;
      down = 0;
      spelled = subst (λ (t : List ℕ). IsPower t (digits_value 10 rest) 0) (sym is) (positive c.in_ok-up.ensures.0);
      up_is = c.in_ok-up.ensures.1;
      down_is = refl;
    }

pub returns-in_ok-up-2 : goal.returns-in_ok-up-2
returns-in_ok-up-2 c = record {
  up = digits_value 10 (without_marks c.args.text.now);
  down = 0;
  spelled = unsigned c.in_ok-up-2.ensures.0;
  up_is = c.in_ok-up-2.ensures.1;
  down_is = refl;
}
