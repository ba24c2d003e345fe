-- Numbers that stand still at a cap.
use Rattle.std.proofs.Common.{◌≡◌, ◌≤◌, ℕ, ◌+◌, min, max, List, [], ◌∷◌, Bool, true, false, ◌==◌, if◌then◌else◌, refl, arith}
use Rattle.syntax_tree.specs.Need.{StatNeed, ExprNeed, block_from, parts_need, targets_from}

pub capped_max : (a b m : ℕ) → max (min a m) (min b m) ≡ min (max a b) m
capped_max a b m = omega arith

pub capped_four : (a b c d r m x y z w : ℕ) → x ≡ min a m → y ≡ min b m → z ≡ min c m → w ≡ min d m → r ≡ min (max (max (max x y) z) w + 1) m → r ≡ min (max (max a b) (max c d) + 1) m
capped_four a b c d r m x y z w p q s t e = omega arith

-- a sum that has come to its end
pub capped_sum : (a r t m : ℕ) → r ≡ 0 → a ≤ m → min (a + r) m ≡ min t m → a ≡ min t m
capped_sum a r t m end within e = omega arith

-- the sum of a numeric loop's parts
pub capped_sums : (a b c d r m x y z w : ℕ) → x ≡ min a m → y ≡ min b m → z ≡ min c m → w ≡ min d m → r ≡ min (min (min (min (x + y) m + z) m + w) m + 10) m → r ≡ min (8 + (2 + (a + b) + c + d)) m
capped_sums a b c d r m x y z w p q s t e = omega arith

-- the greatest need of a numeric loop's parts
pub capped_bounds : (a b c d r m x y z w : ℕ) → x ≡ min a m → y ≡ min b m → z ≡ min c m → w ≡ min d m → r ≡ max (max (min (max x y + 3) m) z) (min (w + 4) m) → r ≡ min (max (max (3 + a) (3 + b)) (max c (4 + d))) m
capped_bounds a b c d r m x y z w p q s t e = omega arith

pub block_capped : (d e m : ℕ) (ss : List StatNeed) → min d m ≡ min e m → min (block_from d ss) m ≡ min (block_from e ss) m
block_capped d e m [] h = refl
block_capped d e m (s ∷ ss) h = omega (arith, h, block_capped (d + s.declares) (e + s.declares) m ss (omega (arith, h)))

-- one turn of the loop over a block
pub block_turn : (most d m r n a w k dd : ℕ) (s : StatNeed) (rest : List StatNeed) → k ≡ s.declares → n ≡ min s.need m → a ≡ min (n + d) m → w ≡ max a most → dd ≡ min (d + k) m → max most (min (block_from d (s ∷ rest)) m) ≡ r → max w (min (block_from dd rest) m) ≡ r
block_turn most d m r n a w k dd s rest e p q t u h = omega (arith, p, q, t, h, block_capped dd (d + s.declares) m rest (omega (arith, e, u)))

if_capped : (b : Bool) (x y m : ℕ) → min x m ≡ min y m → min (if b then 0 else x) m ≡ min (if b then 0 else y) m
if_capped true x y m h = refl
if_capped false x y m h = h

pub parts_capped : (d e m : ℕ) (t : ExprNeed) → min d m ≡ min e m → min (parts_need d t) m ≡ min (parts_need e t) m
parts_capped d e m t h = if_capped (t.holds == 0) (d + t.need) (e + t.need) m (omega (arith, h))

pub targets_capped : (d e m : ℕ) (ts : List ExprNeed) → min d m ≡ min e m → min (targets_from d ts) m ≡ min (targets_from e ts) m
targets_capped d e m [] h = refl
targets_capped d e m (t ∷ ts) h = omega (arith, parts_capped d e m t h, targets_capped (d + t.holds) (e + t.holds) m ts (omega (arith, h)))

-- one turn of the loop over targets
pub targets_turn : (most d m r n w k dd : ℕ) (t : ExprNeed) (rest : List ExprNeed) → k ≡ t.holds → n ≡ min (parts_need d t) m → w ≡ max n most → dd ≡ min (d + k) m → max most (min (targets_from d (t ∷ rest)) m) ≡ r → max w (min (targets_from dd rest) m) ≡ r
targets_turn most d m r n w k dd t rest e p q u h = omega (arith, p, q, h, targets_capped dd (d + t.holds) m rest (omega (arith, e, u)))
