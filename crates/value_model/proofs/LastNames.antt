-- The last name of a path, found from its end.
use Rattle.std.proofs.Common.{◌≡◌, ◌≢◌, ℕ, zero, suc, ◌<◌, Bool, true, false, nat_eq, List, [], ◌∷◌, length, drop, get_or, refl, sym, arith}
use Rattle.std.specs.Prelude.{◌||◌}
use Rattle.std.specs.List.{list_any}
use Rattle.std.proofs.lemmas.Bool.Decides.{Decides-eqb}
use Rattle.value_model.specs.Paths.{last_name}

abbrev pub has_point : List ℕ → Bool
has_point bs = list_any (nat_eq 46) bs

-- a path without a point is its own last name
pub whole_name : (bs : List ℕ) → has_point bs ≡ false → last_name bs ≡ bs
whole_name [] h = refl
whole_name (b ∷ bs) h = rw h refl

-- a point that stands somewhere is found
point_at : (bs : List ℕ) (n : ℕ) → n < length bs → get_or bs n 0 ≡ 46 → has_point bs ≡ true
point_at [] n l e = absurd (omega (arith, l))
point_at (b ∷ bs) zero l e = rw e refl
point_at (b ∷ bs) (suc n) l e = by (nat_eq 46 b) (point_at bs n (omega (arith, l)) e)
  where
    by : (t : Bool) → has_point bs ≡ true → (t || has_point bs) ≡ true
    by true h = refl
    by false h = h

-- behind the last point stands the last name
pub name_behind : (bs : List ℕ) (n : ℕ) → n < length bs → get_or bs n 0 ≡ 46 → has_point (drop (suc n) bs) ≡ false → last_name bs ≡ drop (suc n) bs
name_behind [] n l e h = absurd (omega (arith, l))
name_behind (b ∷ bs) zero l e h = rw e (whole_name bs h)
name_behind (b ∷ bs) (suc n) l e h = rw (point_at (b ∷ bs) (suc n) l e) (name_behind bs n (omega (arith, l)) e h)

-- a byte more that is no point
pub one_more : (b : ℕ) (bs : List ℕ) → b ≢ 46 → has_point bs ≡ false → has_point (b ∷ bs) ≡ false
one_more b bs n h = by (nat_eq 46 b) refl
  where
    by : (t : Bool) → nat_eq 46 b ≡ t → (t || has_point bs) ≡ false
    by true e = absurd (n (sym ((Decides-eqb 46 b).0 e)))
    by false e = h
