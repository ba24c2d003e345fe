-- Quotients, remainders and powers of whole numbers, exact, and their results in the language.
use Rattle.std.specs.Prelude.{◌≡◌, ◌≢◌, ℕ, zero, suc, ◌+◌, ◌/◌, ℤ, pos, negsuc, neg_ℤ, ◌+ℤ◌, ◌-ℤ◌, ◌*ℤ◌, ◌<ℤ◌, ◌≤ℤ◌, ◌⊎◌, Result, Ok, Err, if◌then◌else◌}
use Rattle.std.specs.Int.{int_pow}
use Rattle.std.specs.Ordering.{int_eq}
use Rattle.whole_num.specs.Whole.{IsWhole, within}
use Rattle.whole_num.specs.declared.arithmetic.Stop.{Stop}
use Rattle.whole_num.specs.declared.arithmetic.Stop.TheVariants.{NotWhole, OutOfRange}

-- ---- what they are

-- c is the quotient of a by b
pub record IsQuotient (a b c : ℤ) : Type 0 where
  pub divisor : b ≢ pos 0
  pub times : c *ℤ b ≡ a

-- d is between 0 and b, b excluded
abbrev pub IsBetween : (d b : ℤ) → Type 0
IsBetween d b = ((pos 0 ≤ℤ d) × (d <ℤ b)) ⊎ ((b <ℤ d) × (d ≤ℤ pos 0))

-- a is c times b and d, and d is between 0 and b, b excluded
pub record IsDivided (a b c d : ℤ) : Type 0 where
  pub whole : c *ℤ b +ℤ d ≡ a
  pub between : IsBetween d b

-- the product of n factors
abbrev pub product : ℤ → ℕ → ℤ
product a zero = pos 1
product a (suc n) = product a n *ℤ a

-- c is a to the power b: the product of b factors, and for a b below 0 the number whose product with those of -b is 1
abbrev pub IsRaised : (a b c : ℤ) → Type 0
IsRaised a (pos n) c = c ≡ product a n
IsRaised a (negsuc n) c = c *ℤ product a (suc n) ≡ pos 1

-- What is answered for a result that is said: a number that it is; or not whole, where no number is it; or out of range,
-- where it is a number outside the range.
abbrev pub Gives : (IsResult : ℤ → Type 0) → Result ℤ Stop → Type 0
Gives IsResult (Ok c) = IsResult c
Gives IsResult (Err NotWhole) = (c : ℤ) → IsResult c → ⊥
Gives IsResult (Err OutOfRange) = (c : ℤ) × IsResult c × (IsWhole c → ⊥)

-- ---- how they are found

-- the greatest number whose product with b is at most a where b is above 0, and at least a where b is below 0
abbrev pub floor_quotient : ℤ → ℤ → ℤ
floor_quotient (pos a) (pos b) = pos (a / b)
floor_quotient (pos a) (negsuc b) = neg_ℤ (pos ((a + b) / suc b))
floor_quotient (negsuc a) (pos b) = negsuc (a / b)
floor_quotient (negsuc a) (negsuc b) = pos (suc a / suc b)

-- what is left of a by the floor quotient: from 0 to b, b excluded
abbrev pub floor_remainder : ℤ → ℤ → ℤ
floor_remainder a b = a -ℤ floor_quotient a b *ℤ b

-- the number whose product with b is a, where there is one
abbrev pub quotient : ℤ → ℤ → Result ℤ Stop
quotient a b = if int_eq (floor_quotient a b *ℤ b) a then within (floor_quotient a b) else Err NotWhole

-- a result by a divisor; there is none by 0
abbrev pub divided : (ℤ → ℤ → Result ℤ Stop) → ℤ → ℤ → Result ℤ Stop
divided f a (pos zero) = Err NotWhole
divided f a b = f a b

abbrev pub exact_quotient : ℤ → ℤ → Result ℤ Stop
exact_quotient a b = divided quotient a b

abbrev pub whole_quotient : ℤ → ℤ → Result ℤ Stop
whole_quotient a b = divided (λ x y. within (floor_quotient x y)) a b

abbrev pub whole_remainder : ℤ → ℤ → Result ℤ Stop
whole_remainder a b = divided (λ x y. within (floor_remainder x y)) a b

-- the power to an exponent below 0 is whole only for 1 and -1
abbrev pub inverse_power : ℤ → ℕ → Result ℤ Stop
inverse_power (pos (suc zero)) n = Ok (pos 1)
inverse_power (negsuc zero) n = Ok (int_pow (negsuc 0) n)
inverse_power a n = Err NotWhole

-- the product of b factors
abbrev pub power : ℤ → ℤ → Result ℤ Stop
power a (pos n) = within (int_pow a n)
power a (negsuc n) = inverse_power a (suc n)
