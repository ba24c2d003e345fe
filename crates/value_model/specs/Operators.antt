-- The results of the arithmetic operators on numbers.
use Rattle.std.specs.Prelude.{ℤ, neg_ℤ, ◌+ℤ◌, ◌-ℤ◌, ◌*ℤ◌, Result}
use Rattle.whole_num.specs.Quotients.{exact_quotient, whole_quotient, whole_remainder, power}
use Rattle.whole_num.specs.Whole.{within}
use Rattle.whole_num.specs.declared.arithmetic.Stop.{Stop}
use Rattle.value_model.specs.declared.operator.ArithOp.{ArithOp}
use Rattle.value_model.specs.declared.operator.ArithOp.TheVariants as op

-- The exact result where it is a whole number in range, else the stop. Minus looks at the first number only.
unfoldable pub calculated : ArithOp → ℤ → ℤ → Result ℤ Stop
calculated op.Add a b = within (a +ℤ b)
calculated op.Sub a b = within (a -ℤ b)
calculated op.Mul a b = within (a *ℤ b)
calculated op.Div a b = exact_quotient a b
calculated op.Idiv a b = whole_quotient a b
calculated op.Mod a b = whole_remainder a b
calculated op.Pow a b = power a b
calculated op.Unm a b = within (neg_ℤ a)
