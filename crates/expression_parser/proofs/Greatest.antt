-- The greater of two numbers, as the comparison of numbers gives it.
use Rattle.std.proofs.Common.{rules, ◌≡◌, ℕ, max, Bool, true, false, cond, ◌==◌, nat_lt, refl, ap, ◌∙◌, arith, Less, Equal, Greater}
use Rattle.std.specs.Ordering.{nat_cmp, ord_max, is_lt}

not_less : (t : Bool) → is_lt (cond t Equal Greater) ≡ false
not_less true = refl
not_less false = refl

pub the_greater : (a b : ℕ) → ord_max nat_cmp a b ≡ max a b
the_greater a b = decide (nat_lt b a) refl
  where
    decide : (t : Bool) → nat_lt b a ≡ t → ord_max nat_cmp a b ≡ max a b
    decide true h =
        let same : a ≡ max a b = search (rules, arith, h) in
        ap (λ (t : Bool). cond (is_lt (cond t Less (cond (b == a) Equal Greater))) a b) h ∙ same
    decide false h =
        let same : b ≡ max a b = search (rules, arith, h) in
        ap (λ (t : Bool). cond (is_lt (cond t Less (cond (b == a) Equal Greater))) a b) h ∙ (ap (λ (t : Bool). cond t a b) (not_less (b == a)) ∙ same)
