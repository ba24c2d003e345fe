-- A format is read piece by piece.
use Rattle.std.proofs.Common.{◌≡◌, ℕ, zero, suc, ◌-◌, ◌≤◌, Bool, true, false, List, [], ◌∷◌, length, drop, Option, Some, None, refl, sym, ◌∙◌, ap, cond, arith}
use Rattle.std.proofs.lemmas.List.{length-drop}
use Rattle.std.specs.Prelude.{nat_eq}
use Rattle.std.specs.Str.Parse.{digits_value}
use Rattle.value_model.specs.FormatRows as row
use Rattle.value_model.specs.Values.{Bytes}

-- ---- nothing comes back behind a piece

optional_shorter : (b : ℕ) (bs : Bytes) → length (row.optional_byte b bs).1 ≤ length bs
optional_shorter b [] = omega arith
optional_shorter b (c ∷ bs) = by (nat_eq b c)
  where
    by : (t : Bool) → length (cond {A = Bool × Bytes} t (true, bs) (false, c ∷ bs)).1 ≤ suc (length bs)
    by true = omega arith
    by false = omega arith

letter_shorter : (l z : Bool) (w : ℕ) (bs : Bytes) → length (row.read_letter l z w bs).1 ≤ length bs
letter_shorter l z w [] = omega arith
letter_shorter l z w (b ∷ bs) = by (row.form_of b)
  where
    by : (f : Option row.Form) → length (row.with_form l z w f bs).1 ≤ suc (length bs)
    by None = omega arith
    by (Some f) = omega arith

width_shorter : (l z : Bool) (bs : Bytes) → length (row.read_width l z bs).1 ≤ length bs
width_shorter l z bs =
    let n = length (row.width_digits bs) in
    omega (arith, letter_shorter l z (digits_value 10 (row.width_digits bs)) (drop n bs), length-drop n bs)

field_shorter : (p : Bool × Bytes) → length (row.read_field p).1 ≤ length p.1
field_shorter p =
    omega (arith, width_shorter p.0 (row.optional_byte 48 p.1).0 (row.optional_byte 48 p.1).1, optional_shorter 48 p.1)

directive_shorter : (bs : Bytes) → length (row.read_directive bs).1 ≤ length bs
directive_shorter [] = omega arith
directive_shorter (b ∷ bs) = by (nat_eq b 37) (nat_eq b 42)
  where
    by : (s t : Bool) → length (cond {A = row.Read} s (row.Plainly 37, bs) (cond {A = row.Read} t (row.Directive (record { left = false; zeros = false; width = 0; form = row.AsText }), bs) (row.read_field (row.optional_byte 45 (b ∷ bs))))).1 ≤ suc (length bs)
    by true t = omega arith
    by false true = omega arith
    by false false = omega (arith, field_shorter (row.optional_byte 45 (b ∷ bs)), optional_shorter 45 (b ∷ bs))

piece_shorter : (b : ℕ) (bs : Bytes) → length (row.read_piece b bs).1 ≤ length bs
piece_shorter b bs = by (nat_eq b 37)
  where
    by : (t : Bool) → length (cond {A = row.Read} t (row.read_directive bs) (row.Plainly b, bs)).1 ≤ length bs
    by true = directive_shorter bs
    by false = omega arith

-- ---- the pieces

-- as many as there are bytes are enough
enough : (m n : ℕ) (bs : Bytes) → length bs ≤ m → length bs ≤ n → row.pieces_within m bs ≡ row.pieces_within n bs
enough zero zero bs h k = refl
enough zero (suc n) [] h k = refl
enough zero (suc n) (b ∷ bs) h k = absurd (omega arith)
enough (suc m) zero [] h k = refl
enough (suc m) zero (b ∷ bs) h k = absurd (omega arith)
enough (suc m) (suc n) [] h k = refl
enough (suc m) (suc n) (b ∷ bs) h k =
    ap (λ ps. (row.read_piece b bs).0 ∷ ps) (enough m n (row.read_piece b bs).1 (omega (arith, piece_shorter b bs)) (omega (arith, piece_shorter b bs)))

-- the first piece, and those behind it
pub piece_step : (left : Bytes) (b : ℕ) (rest behind : Bytes) (p : row.Piece) → left ≡ b ∷ rest → (p, behind) ≡ row.read_piece b rest → row.pieces_of left ≡ p ∷ row.pieces_of behind
piece_step left b rest behind p e read =
    ap row.pieces_of e
    ∙ ap (λ ps. (row.read_piece b rest).0 ∷ ps) (enough (length rest) (length (row.read_piece b rest).1) (row.read_piece b rest).1 (piece_shorter b rest) (omega arith))
    ∙ sym (ap (λ (q : row.Read). q.0 ∷ row.pieces_of q.1) read)

pub no_pieces : (left : Bytes) → left ≡ [] → row.pieces_of left ≡ []
no_pieces left e = ap row.pieces_of e

-- ---- the directive for an argument

module _ (i : ℕ) (left : Bytes) (b : ℕ) (rest behind : Bytes) (p : row.Piece) (is : left ≡ b ∷ rest) (read : (p, behind) ≡ row.read_piece b rest) where
  for_step : row.directive_for i (row.pieces_of left) ≡ row.directive_for i (p ∷ row.pieces_of behind)
  for_step = ap (row.directive_for i) (piece_step left b rest behind p is read)

  pub directive_here : (d : row.Field) → p ≡ row.Directive d → i ≡ 1 → row.directive_for i (row.pieces_of left) ≡ Some (d, row.pieces_of behind)
  directive_here d e one = for_step ∙ ap (λ p. row.directive_for i (p ∷ row.pieces_of behind)) e ∙ ap (λ i. row.directive_for i (row.Directive d ∷ row.pieces_of behind)) one

  later : (d : row.Field) (ps : List row.Piece) → nat_eq i 1 ≡ false → row.directive_for i (row.Directive d ∷ ps) ≡ row.directive_for (i - 1) ps
  later d ps h = rw (h, row.directive_for)

  pub directive_later : (d : row.Field) → p ≡ row.Directive d → nat_eq i 1 ≡ false → row.directive_for i (row.pieces_of left) ≡ row.directive_for (i - 1) (row.pieces_of behind)
  directive_later d e other = for_step ∙ ap (λ p. row.directive_for i (p ∷ row.pieces_of behind)) e ∙ later d (row.pieces_of behind) other

  passed : (q : row.Piece) → ((d : row.Field) → q ≡ row.Directive d → ⊥) → row.directive_for i (q ∷ row.pieces_of behind) ≡ row.directive_for i (row.pieces_of behind)
  passed (row.Plainly c) other = refl
  passed (row.Directive d) other = absurd (other d refl)
  passed row.Malformed other = refl

  pub no_directive : ((d : row.Field) → p ≡ row.Directive d → ⊥) → row.directive_for i (row.pieces_of left) ≡ row.directive_for i (row.pieces_of behind)
  no_directive other = for_step ∙ passed p other
