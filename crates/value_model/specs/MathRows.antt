-- The functions of `math`.
use Rattle.std.specs.Prelude.{ℕ, suc, ℤ, pos, int_lt, List, [], ◌∷◌, drop, if◌then◌else◌}
use Rattle.std.specs.Int.{int_min, int_max}
use Rattle.std.specs.Prelude.{unsigned_abs}
use Rattle.value_model.specs.declared.builtin.Builtin.{Builtin}
use Rattle.value_model.specs.declared.builtin.Builtin.TheVariants as builtin
use Rattle.value_model.specs.Values.{Value, Number}
use Rattle.value_model.specs.Store.{Store}
use Rattle.value_model.specs.Answers.{LibAnswer}
use Rattle.value_model.specs.Arguments.{number_at, number_from, out_of_range}
use Rattle.value_model.specs.CoreRows.{gives}

-- a number is made of one
abbrev pub of_number : Builtin → (ℤ → ℤ) → List Value → Store → LibAnswer
of_number f g args s = number_at f 0 args (λ z. gives s (Number (g z)))

abbrev pub absolute : ℤ → ℤ
absolute z = pos (unsigned_abs z)

-- the best of all arguments, from one that stands for those before a place
abbrev pub best_from : Builtin → (ℤ → ℤ → ℤ) → Store → ℕ → List Value → ℤ → LibAnswer
best_from f best s i [] z = gives s (Number z)
best_from f best s i (v ∷ vs) z = number_from f i v (λ w. best_from f best s (suc i) vs (best z w))

abbrev pub best_row : Builtin → (ℤ → ℤ → ℤ) → List Value → Store → LibAnswer
best_row f best args s = number_at f 0 args (best_from f best s 1 (drop 1 args))

abbrev pub clamped : Store → (n low high : ℤ) → LibAnswer
clamped s n low high = if int_lt high low then out_of_range builtin.MathClamp 2 else gives s (Number (int_min (int_max n low) high))

abbrev pub clamp_row : List Value → Store → LibAnswer
clamp_row args s =
    number_at builtin.MathClamp 0 args (λ n. number_at builtin.MathClamp 1 args (λ low. number_at builtin.MathClamp 2 args (clamped s n low)))
