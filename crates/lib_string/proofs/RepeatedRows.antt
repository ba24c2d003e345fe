-- The row of `rep`.
use Rattle.std.proofs.Common.{◌≡◌, ℕ, ◌<◌, ◌≤◌, ◌*◌, ◌/◌, Bool, true, false, [], ◌∷◌, length, arith, refl, sym, ap}
use Rattle.std.proofs.Math.Nat.{le-div_iff_mul-le}
use Rattle.std.proofs.lemmas.Bool.Decides.{nat_tests}
use Rattle.std.specs.List.{repeat}
use Rattle.std.specs.Prelude.{nat_le}
use Rattle.value_model.specs.Answers as model
use Rattle.value_model.specs.CoreRows.{gives}
use Rattle.value_model.specs.Errors.{StringTooLarge}
use Rattle.value_model.specs.Metamethods.{longest_string}
use Rattle.value_model.specs.Store.{Store}
use Rattle.value_model.specs.StringRows.{rep_text, repeated}
use Rattle.value_model.specs.Values as m
use Rattle.value_model.specs.Values.{Bytes}

pub nothing_repeated : (s : Store) (bs : Bytes) (n : ℕ) → length bs ≡ 0 → gives s (m.Text []) ≡ rep_text s bs n
nothing_repeated s [] n h = refl
nothing_repeated s (b ∷ bs) n h = absurd (omega arith)

some_repeated : (s : Store) (bs : Bytes) (n : ℕ) (fits : Bool) → 0 < length bs → nat_le (length bs * n) longest_string ≡ fits → rep_text s bs n ≡ repeated s bs n fits
some_repeated s [] n fits h e = absurd (omega arith)
some_repeated s (b ∷ bs) n fits h e = ap (λ t. repeated s (b ∷ bs) n t) e

fits : (k n : ℕ) → 0 < k → n ≤ longest_string / k → nat_le (k * n) longest_string ≡ true
fits k n some h = let le = (le-div_iff_mul-le {k = k} {x = n} {y = longest_string} some).0 h in grind (arith, nat_tests)

too_long : (k n : ℕ) → 0 < k → longest_string / k < n → nat_le (k * n) longest_string ≡ false
too_long k n some h = by (nat_le (k * n) longest_string) refl
  where
    by : (b : Bool) → nat_le (k * n) longest_string ≡ b → nat_le (k * n) longest_string ≡ false
    by false e = e
    by true e =
        let le : n * k ≤ longest_string = grind (arith, nat_tests) in
        let small = (le-div_iff_mul-le {k = k} {x = n} {y = longest_string} some).1 le in
        absurd (omega arith)

pub text_repeated : (s : Store) (bs : Bytes) (n : ℕ) → 0 < length bs → n ≤ longest_string / length bs → gives s (m.Text (repeat n bs)) ≡ rep_text s bs n
text_repeated s bs n some h = sym (some_repeated s bs n true some (fits (length bs) n some h))

pub too_much_repeated : (s : Store) (bs : Bytes) (n : ℕ) → 0 < length bs → longest_string / length bs < n → rep_text s bs n ≡ model.ErrsWith StringTooLarge
too_much_repeated s bs n some h = some_repeated s bs n false some (too_long (length bs) n some h)
