use Rattle.std.proofs.Common.{◌≡◌, ℕ, ◌+◌, ◌-◌, ◌^◌, ◌<◌, min, List, [], ◌++◌, length, sym, ap, ◌∙◌, arith, length-append, ◌⊎◌, inl, inr}
use Rattle.std.specs.Str.Parse.{digits_value}
use Rattle.whole_num.specs.Digits.{cut, Keeps, Takes, TakesFraction, HasPowers}
use Rattle.whole_num.specs.Literals.{without_marks, Scaled, IsDecimal, IsExponent}
use Rattle.whole_num.specs.declared.mantissa.Mantissa.{Mantissa}
use Rattle.whole_num.proofs.Kept.{exponent_side, answers_decimal}
use Rattle.whole_num.proofs.Spelling.{IsParted, no_digits, no_powers, is_decimal}
use Rattle.whole_num.proofs.literal.decimal.Goals as goal

-- the digits before and behind the point were taken
module _ (text middle rest : List ℕ) (new first last : Mantissa) (none : Keeps new []) (a : Takes text new middle first) (b : TakesFraction middle first rest last) where
  all_kept : Keeps last (a.digits ++ b.digits)
  all_kept = b.keeps a.digits (a.keeps [] none)

  first_kept : Keeps first a.digits
  first_kept = a.keeps [] none

  counts : (last.count ≡ length (a.digits ++ b.digits)) × (last.count ≡ first.count + length b.digits)
  counts = (all_kept.count, omega (arith, all_kept.count, first_kept.count, length-append a.digits b.digits))

  parted : IsParted text a.digits b.part b.digits rest
  parted = record {
    split = a.split ∙ ap (λ r. a.digits ++ r) b.split;
    are_digits = a.are_digits;
    is_fraction = b.is_fraction;
    ends = b.ends a.ends;
    no_point = b.no_point;
  }

  not_any : last.count ≡ 0 → (v : Scaled) → IsDecimal text v → ⊥
  not_any e = no_digits text a.digits b.part b.digits rest parted (sym counts.0 ∙ e)

  no_exponent : ((up down : ℕ) → IsExponent rest up down → ⊥) → (v : Scaled) → IsDecimal text v → ⊥
  no_exponent = no_powers text a.digits b.part b.digits rest parted

  some : (up down : ℕ) → 0 < last.count → IsExponent rest up down → IsDecimal text (record { mantissa = digits_value 10 (a.digits ++ b.digits); up = up; down = length b.digits + down })
  some up down more powers = is_decimal text a.digits b.part b.digits rest parted up down (omega (arith, counts.0, more)) powers

-- the powers of ten that divide
all_down : (n down behind sum e_down : ℕ) → e_down ≡ cut down → behind ≡ n → n < 2 ^ 63 → sum ≡ min (e_down + behind) (2 ^ 64 - 1) → sum ≡ cut (n + down)
all_down n down behind sum e_down a b few s = omega arith

pub returns-then-count-eq0 : goal.returns-then-count-eq0
returns-then-count-eq0 c =
    not_any (without_marks c.args.text.now) (without_marks c.take_digits-rest.result.now) (without_marks c.take_fraction-rest.result.now) c.new-mantissa.result c.take_digits-rest.new.self c.take_fraction-rest.new.mantissa c.new-mantissa.ensures c.take_digits-rest.ensures.takes c.take_fraction-rest.ensures.takes (sym c.count.ensures ∙ c.if-count-eq0.true)

pub overflow_sub-behind_point : goal.overflow_sub-behind_point
overflow_sub-behind_point c =
    omega (arith, c.count-2.ensures, c.count-before_point.ensures, (counts (without_marks c.args.text.now) (without_marks c.take_digits-rest.result.now) (without_marks c.take_fraction-rest.result.now) c.new-mantissa.result c.take_digits-rest.new.self c.take_fraction-rest.new.mantissa c.new-mantissa.ensures c.take_digits-rest.ensures.takes c.take_fraction-rest.ensures.takes).1)

pub returns-in-None : goal.returns-in-None
returns-in-None c =
    no_exponent (without_marks c.args.text.now) (without_marks c.take_digits-rest.result.now) (without_marks c.take_fraction-rest.result.now) c.new-mantissa.result c.take_digits-rest.new.self c.take_fraction-rest.new.mantissa c.new-mantissa.ensures c.take_digits-rest.ensures.takes c.take_fraction-rest.ensures.takes c.in-None.ensures

pub returns-in-Some : goal.returns-in-Some
returns-in-Some c =
    answers_decimal text (record { mantissa = digits_value 10 (a.digits ++ b.digits); up = powers.up; down = length b.digits + powers.down }) c.scaled.result
    (some text middle rest new first last none a b powers.up powers.down (omega (arith, c.count.ensures, c.if-count-eq0.false)) powers.spelled)
    (c.scaled.ensures (a.digits ++ b.digits) powers.up (length b.digits + powers.down) (all_kept text middle rest new first last none a b) powers.up_is
    (all_down (length b.digits) powers.down (c.count-2.result - c.count-before_point.result) c.saturating_add.result c.in-Some.e.down powers.down_is behind few c.saturating_add.ensures)
    side)
  where
    text : List ℕ
    text = without_marks c.args.text.now

    middle : List ℕ
    middle = without_marks c.take_digits-rest.result.now

    rest : List ℕ
    rest = without_marks c.take_fraction-rest.result.now

    new : Mantissa
    new = c.new-mantissa.result

    first : Mantissa
    first = c.take_digits-rest.new.self

    last : Mantissa
    last = c.take_fraction-rest.new.mantissa

    none : Keeps new []
    none = c.new-mantissa.ensures

    a : Takes text new middle first
    a = c.take_digits-rest.ensures.takes

    b : TakesFraction middle first rest last
    b = c.take_fraction-rest.ensures.takes

    powers : HasPowers (IsExponent rest) c.in-Some.e
    powers = c.in-Some.ensures

    sums : last.count ≡ first.count + length b.digits
    sums = (counts text middle rest new first last none a b).1

    few : length b.digits < 2 ^ 63
    few = omega (arith, sums, c.take_fraction-rest.ensures.room)

    behind : c.count-2.result - c.count-before_point.result ≡ length b.digits
    behind = omega (arith, sums, c.count-2.ensures, c.count-before_point.ensures)

    side : (powers.up ≡ 0) ⊎ (length b.digits + powers.down < 2 ^ 63)
    side = elim (exponent_side rest powers.up powers.down powers.spelled) [ inl e ↦ inl e | inr e ↦ inr (omega (arith, e, few)) ]
