-- No bytes stand between two positions where the first is after the last.
use Rattle.std.proofs.Common.{◌≡◌, zero, suc, ◌-ℤ◌, ◌+ℤ◌, ◌<ℤ◌, ◌≤ℤ◌, ℤ, pos, negsuc, [], drop, take, length, arith, refl, ap}
use Rattle.std.proofs.lemmas.Int.{ints}
use Rattle.value_model.specs.StringRows.{natural, first_position, last_position, bytes_between}
use Rattle.value_model.specs.Values.{Bytes}

natural_none : (z : ℤ) → z ≤ℤ pos 0 → natural z ≡ 0
natural_none (pos zero) h = refl
natural_none (pos (suc n)) h = absurd (omega (arith, ints))
natural_none (negsuc n) h = refl

pub nothing_between : (bs : Bytes) (i j : ℤ) → last_position (length bs) j <ℤ first_position (length bs) i → bytes_between bs i j ≡ []
nothing_between bs i j h =
    let none : (last_position (length bs) j -ℤ first_position (length bs) i +ℤ pos 1) ≤ℤ pos 0 = omega (arith, ints) in
    ap (λ n. take n (drop (natural (first_position (length bs) i -ℤ pos 1)) bs)) (natural_none _ none)
