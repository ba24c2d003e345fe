-- The pieces between the matches of a separator are those of `split`.
use Rattle.std.proofs.Common.{◌≡◌, ℕ, zero, suc, ◌+◌, ◌-◌, ◌<◌, ◌≤◌, Bool, true, false, [], ◌∷◌, ◌++◌, length, take, drop, get_or, Decides, refl, sym, ◌∙◌, ap, cond, arith, drop-cons, add-one, add-zero}
use Rattle.std.proofs.Math.ListN.{drop_of_length-le}
use Rattle.std.proofs.lemmas.Bool.Decides.{same_from_decides, Decides-and, nat_tests}
use Rattle.std.proofs.lemmas.List.{get_or-drop, length-drop, length-take, take_all, take_more}
use Rattle.std.proofs.lemmas.Slice.Eq.{bytes_eq-Decides}
use Rattle.std.specs.List.{starts_with}
use Rattle.std.specs.Prelude.{nat_eq, nat_le, nat_lt}
use Rattle.std.specs.Str.{bytes_eq}
use Rattle.bstr.specs.Text.{split_at, part}
use Rattle.bstr.specs.Find.{matches, matches_from, match_len, occurs_at}
use Rattle.value_model.specs.StringRows.{pieces}
use Rattle.value_model.specs.Values.{Bytes}

le_decides : (a b : ℕ) → Decides (nat_le a b) (a ≤ b)
le_decides a b = (λ h. grind (arith, nat_tests), λ h. grind (arith, nat_tests))

module _ (hay sep : Bytes) (some : 0 < length sep) where
  -- where the separator stands first, it occurs
  occurs : (i : ℕ) → starts_with nat_eq (drop i hay) sep ≡ occurs_at hay sep i
  occurs i =
      let there = Decides-and (nat_le (i + length sep) (length hay)) (bytes_eq (take (length sep) (drop i hay)) sep) (le_decides (i + length sep) (length hay)) (bytes_eq-Decides (take (length sep) (drop i hay)) sep) in
      let within = λ (e : sep ≡ take (length sep) (drop i hay)). fits i e in
      same_from_decides (starts_with nat_eq (drop i hay) sep) (occurs_at hay sep i) (bytes_eq-Decides sep (take (length sep) (drop i hay)))
      (λ h. sym (there.0 h).1, λ e. there.1 (within e, sym e))
    where
      fits : (i : ℕ) → sep ≡ take (length sep) (drop i hay) → i + length sep ≤ length hay
      fits i e = omega (arith, ap length e, length-take (length sep) (drop i hay), length-drop i hay)

  -- the piece so far with one more byte
  longer : (last i : ℕ) → last ≤ i → i < length hay → part last i hay ++ get_or hay i 0 ∷ [] ≡ part last (i + 1) hay
  longer last i le within =
      let at : get_or (drop last hay) (i - last) 0 ≡ get_or hay i 0 = get_or-drop last hay (i - last) 0 ∙ ap (λ k. get_or hay k 0) (omega arith) in
      let inside : i - last < length (drop last hay) = omega (arith, length-drop last hay) in
      let count : i - last + 1 ≡ i + 1 - last = omega arith in
      ap (λ b. part last i hay ++ b ∷ []) (sym at) ∙ sym (take_more (drop last hay) (i - last) 0 inside) ∙ ap (λ n. take n (drop last hay)) count

  -- behind the last byte the piece is ended
  ended : (last i : ℕ) → last ≤ i → length hay ≤ i → drop last hay ∷ [] ≡ pieces sep 0 (part last i hay) (drop i hay)
  ended last i le past =
      ap (λ p. p ∷ []) (sym (take_all (i - last) (drop last hay) (omega (arith, length-drop last hay))))
      ∙ ap (λ bs. pieces sep 0 (part last i hay) bs) (sym (drop_of_length-le hay past))

  found : (piece : Bytes) (b : ℕ) (bs : Bytes) → starts_with nat_eq (b ∷ bs) sep ≡ true → pieces sep 0 piece (b ∷ bs) ≡ piece ∷ pieces sep (length sep - 1) [] bs
  found piece b bs h = rw (h, pieces)

  missed : (piece : Bytes) (b : ℕ) (bs : Bytes) → starts_with nat_eq (b ∷ bs) sep ≡ false → pieces sep 0 piece (b ∷ bs) ≡ pieces sep 0 (piece ++ b ∷ []) bs
  missed piece b bs h = rw (h, pieces)

  at : (i : ℕ) → i < length hay → drop i hay ≡ get_or hay i 0 ∷ drop (i + 1) hay
  at i within = rw (add-one) (drop-cons hay i 0 within)

  starts : (i : ℕ) (t : Bool) → i < length hay → occurs_at hay sep i ≡ t → starts_with nat_eq (get_or hay i 0 ∷ drop (i + 1) hay) sep ≡ t
  starts i t within h = ap (λ bs. starts_with nat_eq bs sep) (sym (at i within)) ∙ occurs i ∙ h

  fits_at : (i : ℕ) → occurs_at hay sep i ≡ true → i + length sep ≤ length hay
  fits_at i h =
      let both = Decides-and (nat_le (i + length sep) (length hay)) (bytes_eq (take (length sep) (drop i hay)) sep) (le_decides (i + length sep) (length hay)) (bytes_eq-Decides (take (length sep) (drop i hay)) sep) in
      (both.0 h).0

  nothing : (i : ℕ) → part i i hay ≡ []
  nothing i = let none : i - i ≡ 0 = omega arith in ap (λ n. take n (drop i hay)) none

  reach : match_len sep - 1 ≡ length sep - 1
  reach = omega arith

  at_place : (n i last : ℕ) → last ≤ i → i + 1 + n ≡ length hay + 1 → (inside : Bool) → nat_lt i (length hay) ≡ inside → (t : Bool) → occurs_at hay sep i ≡ t →
      split_at hay (length sep) last (matches_from hay sep 0 (i + 1) n) ≡ pieces sep 0 (part last (i + 1) hay) (drop (i + 1) hay) →
      (i + length sep ≤ length hay → split_at hay (length sep) (i + 1 + (length sep - 1)) (matches_from hay sep (length sep - 1) (i + 1) n) ≡ pieces sep (length sep - 1) [] (drop (i + 1) hay)) →
      split_at hay (length sep) last (matches_from hay sep 0 i (suc n)) ≡ pieces sep 0 (part last i hay) (drop i hay)
  unfolding split_at matches_from
  at_place n i last le e true h true o more skip =
      let within : i < length hay = grind (arith, nat_tests) in
      let room : i + length sep ≤ length hay = fits_at i o in
      let behind : i + 1 + (length sep - 1) ≡ i + length sep = omega arith in
      ap (λ t. split_at hay (length sep) last (cond t (i ∷ matches_from hay sep (match_len sep - 1) (i + 1) n) (matches_from hay sep 0 (i + 1) n))) o
      ∙ ap (λ k. part last i hay ∷ split_at hay (length sep) (i + length sep) (matches_from hay sep k (i + 1) n)) reach
      ∙ ap (λ k. part last i hay ∷ split_at hay (length sep) k (matches_from hay sep (length sep - 1) (i + 1) n)) (sym behind)
      ∙ ap (λ ps. part last i hay ∷ ps) (skip room)
      ∙ sym (ap (λ bs. pieces sep 0 (part last i hay) bs) (at i within) ∙ found (part last i hay) (get_or hay i 0) (drop (i + 1) hay) (starts i true within o))
  at_place n i last le e true h false o more skip =
      let within : i < length hay = grind (arith, nat_tests) in
      ap (λ t. split_at hay (length sep) last (cond t (i ∷ matches_from hay sep (match_len sep - 1) (i + 1) n) (matches_from hay sep 0 (i + 1) n))) o
      ∙ more
      ∙ ap (λ p. pieces sep 0 p (drop (i + 1) hay)) (sym (longer last i le within))
      ∙ sym (ap (λ bs. pieces sep 0 (part last i hay) bs) (at i within) ∙ missed (part last i hay) (get_or hay i 0) (drop (i + 1) hay) (starts i false within o))
  at_place n i last le e false h true o more skip =
      let past : length hay ≤ i = grind (arith, nat_tests) in
      let room : i + length sep ≤ length hay = fits_at i o in
      absurd (omega arith)
  at_place n i last le e false h false o more skip =
      let past : length hay ≤ i = grind (arith, nat_tests) in
      ap (λ t. split_at hay (length sep) last (cond t (i ∷ matches_from hay sep (match_len sep - 1) (i + 1) n) (matches_from hay sep 0 (i + 1) n))) o
      ∙ more
      ∙ sym (ended last (i + 1) (omega arith) (omega arith))
      ∙ ended last i le past

  mutual
    unfolding split_at matches_from

    searching : (n i last : ℕ) → last ≤ i → i + n ≡ length hay + 1 → split_at hay (length sep) last (matches_from hay sep 0 i n) ≡ pieces sep 0 (part last i hay) (drop i hay)
    searching zero i last le e = ended last i le (omega arith)
    searching (suc n) i last le e =
        at_place n i last le (omega arith) (nat_lt i (length hay)) refl (occurs_at hay sep i) refl (searching n (i + 1) last (omega arith) (omega arith))
        (λ room. skipping n (i + 1) (length sep - 1) (omega arith) (omega arith))

    skipping : (n i skip : ℕ) → i + skip ≤ length hay → i + n ≡ length hay + 1 → split_at hay (length sep) (i + skip) (matches_from hay sep skip i n) ≡ pieces sep skip [] (drop i hay)
    skipping zero i skip within e = absurd (omega arith)
    skipping (suc n) i zero within e =
        ap (λ k. split_at hay (length sep) k (matches_from hay sep 0 i (suc n))) (add-zero i)
        ∙ at_place n i i (omega arith) (omega arith) (nat_lt i (length hay)) refl (occurs_at hay sep i) refl (searching n (i + 1) i (omega arith) (omega arith)) (λ room. skipping n (i + 1) (length sep - 1) (omega arith) (omega arith))
        ∙ ap (λ p. pieces sep 0 p (drop i hay)) (nothing i)
    skipping (suc n) i (suc skip) within e =
        ap (λ k. split_at hay (length sep) k (matches_from hay sep skip (i + 1) n)) (omega arith)
        ∙ skipping n (i + 1) skip (omega arith) (omega arith)
        ∙ ap (λ bs. pieces sep (suc skip) [] bs) (sym (at i (omega arith)))

  pub all_pieces : split_at hay (length sep) 0 (matches hay sep 0) ≡ pieces sep 0 [] hay
  all_pieces =
      let count : length hay + 1 - 0 ≡ length hay + 1 = omega arith in
      ap (λ n. split_at hay (length sep) 0 (matches_from hay sep 0 0 n)) count
      ∙ searching (length hay + 1) 0 0 (omega arith) (omega arith) ∙ ap (λ p. pieces sep 0 p hay) (nothing 0)
