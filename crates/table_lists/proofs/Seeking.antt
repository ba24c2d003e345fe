-- Steps of a search.
use Rattle.std.proofs.Common.{◌≡◌, ℕ, suc, ◌+◌, ◌-◌, ◌<◌, ℤ, pos, ◌+ℤ◌, true, false, cond, Some, None, sym, ◌∙◌, ap, arith}
use Rattle.std.proofs.lemmas.Int.{ints}
use Rattle.value_model.specs.declared.value.Value.{Value}
use Rattle.value_arena.specs.Tables.{TableView, same, is_nil}
use Rattle.table_lists.specs.Lists.{item, found}

-- what is sought among more than have been looked at
one_more : (n i : ℕ) → i < n → n - i ≡ suc (n - (i + 1))
one_more n i h = omega (arith, h)

pub found_here : (t : TableView) (v : Value) (k z : ℤ) (n i : ℕ) → i < n → z ≡ k +ℤ pos i → is_nil (item t z) ≡ false → same (item t z) v ≡ true → found (n - i) t v (k +ℤ pos i) ≡ Some z
found_here t v k z n i l e full here =
    ap (λ m. found m t v (k +ℤ pos i)) (one_more n i l)
    ∙ ap (λ y. found (suc (n - (i + 1))) t v y) (sym e)
    ∙ ap (λ b. cond b None (cond (same (item t z) v) (Some z) (found (n - (i + 1)) t v (z +ℤ pos 1)))) full
    ∙ ap (λ b. cond b (Some z) (found (n - (i + 1)) t v (z +ℤ pos 1))) here

pub found_later : (t : TableView) (v : Value) (k z : ℤ) (n i : ℕ) → i < n → z ≡ k +ℤ pos i → is_nil (item t z) ≡ false → same (item t z) v ≡ false → found (n - i) t v (k +ℤ pos i) ≡ found (n - (i + 1)) t v (k +ℤ pos (i + 1))
found_later t v k z n i l e full other =
    ap (λ m. found m t v (k +ℤ pos i)) (one_more n i l)
    ∙ ap (λ y. found (suc (n - (i + 1))) t v y) (sym e)
    ∙ ap (λ b. cond b None (cond (same (item t z) v) (Some z) (found (n - (i + 1)) t v (z +ℤ pos 1)))) full
    ∙ ap (λ b. cond b (Some z) (found (n - (i + 1)) t v (z +ℤ pos 1))) other
    ∙ ap (λ y. found (n - (i + 1)) t v y) (omega (arith, ints, e))
