use Rattle.std.proofs.Common.{◌≡◌, ℕ, List, ◌∷◌, nat_eq, ◌||◌, Option, Some, None, refl, sym, ap, subst, inl, inr}
use Rattle.std.specs.Option.{MatchOption}
use Rattle.whole_num.specs.Digits.{HasPowers}
use Rattle.whole_num.specs.Literals.{without_marks, IsExponentMark, IsPower, IsExponent, no_exponent, exponent}
use Rattle.whole_num.specs.declared.literal.Exponent.{Exponent}
use Rattle.whole_num.proofs.Spelling.{exponent_parts}
use Rattle.whole_num.proofs.literal.exponent_of.Goals as goal

-- a mark stands before a power of ten
marked : (text power : List ℕ) (m : ℕ) (r : Option Exponent) → text ≡ m ∷ power → IsExponentMark m → MatchOption r ((up down : ℕ) → IsPower power up down → ⊥) (HasPowers (IsPower power)) → MatchOption r ((up down : ℕ) → IsExponent text up down → ⊥) (HasPowers (IsExponent text))
marked text power m None is mark h = λ up down x. h up down (exponent_parts m power text up down is x).1
marked text power m (Some e) is mark h = record {
  up = h.up;
  down = h.down;
  spelled = subst (λ (t : List ℕ). IsExponent t h.up h.down) (sym is) (exponent mark h.spelled);
  up_is = h.up_is;
  down_is = h.down_is;
}

pub returns-in-None : goal.returns-in-None
returns-in-None c = record {
  up = 0;
  down = 0;
  spelled = subst (λ (t : List ℕ). IsExponent t 0 0) (sym c.in-None.ensures.found) no_exponent;
  up_is = refl;
  down_is = refl;
}

pub returns-then-mark-eq69 : goal.returns-then-mark-eq69
returns-then-mark-eq69 c =
    let mark : IsExponentMark c.in-Some.mark = elim c.if-mark-eq69.either [ inl e ↦ ap (λ b. nat_eq b 101 || nat_eq b 69) e | inr e ↦ ap (λ b. nat_eq b 101 || nat_eq b 69) e.1 ] in
    marked (without_marks c.args.text.now) (without_marks c.in-Some.power.now) c.in-Some.mark c.power_of.result c.in-Some.ensures.found mark c.power_of.ensures
