-- Readers of numbers of four and of eight bytes.
use Rattle.std.proofs.Common.{◌≡◌, ◌≢◌, ◌⊎◌, inl, inr, ℕ, zero, suc, ℤ, pos, negsuc, ◌-◌, ◌^◌, ◌<◌, ◌≤◌, Bool, true, false, ◌&&◌, ◌||◌, nat_lt, nat_le, List, [], ◌∷◌, ◌++◌, length, take, drop, get_or, refl, sym, ◌∙◌, ap, subst, arith, if◌then◌else◌}
use Rattle.std.proofs.lemmas.Int.{of_z-to_z, to_z-of_z, to_z_pos}
use Rattle.std.proofs.Math.Facts.{Fits-lt-pow, Fits-of_z, to_z-neg}
use Rattle.std.specs.Prelude.{FitsSigned}
use Rattle.whole_num.specs.Whole.{is_whole}
use Rattle.std.specs.Int.{w32, w64, cast_signed, cast_unsigned, to_le_bytes, from_le_bytes}
use Rattle.std.proofs.lemmas.Bool.{leb-true, leb-false, le-leb, lt-leb, cases_lt, and_parts}
use Rattle.std.proofs.lemmas.List.{append-nil}
use Rattle.std.proofs.lemmas.Nat.{le_bytes_4, le_bytes_8, from_le_bytes-to_le_bytes_4, from_le_bytes-to_le_bytes_8}
use Rattle.chunk_file.specs.Laws.{AreBytes}
use Rattle.chunk_file.specs.Spelling.{IsNumber, word, whole}
use Rattle.chunk_file.specs.Reading.{Found, Read, Ends, Wrong, read_bytes, read_word, read_whole, cut_whole, whole_in, may_go_on}
use Rattle.chunk_file.proofs.Readers.{IsReadFrom, Begins, IsWrong, IsReader, bytes_in_front, IsNothing, Then, converted, only_reads, then_reads}
use Rattle.chunk_file.proofs.Fields.{IsPiece, piece_reads, take_all, long, take_drop, taken, zeros}

pub byte_in : (bs : List ℕ) → AreBytes bs → (i : ℕ) → get_or bs i 0 < 256
byte_in [] are i = omega arith
byte_in (b ∷ bs) are zero = are.0
byte_in (b ∷ bs) are (suc i) = byte_in bs are.1 i

pub word_bytes : (w : ℕ) → AreBytes (word w)
word_bytes w = (omega arith, (omega arith, (omega arith, (omega arith, tt))))

pub whole_bytes : (z : ℤ) → AreBytes (whole z)
whole_bytes z = (omega arith, (omega arith, (omega arith, (omega arith, (omega arith, (omega arith, (omega arith, (omega arith, tt))))))))

-- ---- four bytes

pub record IsWord (w : ℕ) (bytes : List ℕ) : Type 0 where
  pub small : IsNumber w
  pub spelled : bytes ≡ word w

abbrev FromFour : ℕ → List ℕ → Type 0
FromFour = Then (IsPiece 4) (λ four. IsNothing (from_le_bytes w32 four))

four_small : (bs : List ℕ) → AreBytes bs → from_le_bytes w32 bs < 2 ^ 32
four_small bs are =
    let a = byte_in bs are 0 in
    let b = byte_in bs are 1 in
    let c = byte_in bs are 2 in
    let d = byte_in bs are 3 in
    omega (arith, a, b, c, d)

as_word : (w : ℕ) (bytes : List ℕ) → FromFour w bytes → IsWord w bytes
as_word w bytes t =
    record {
      small = subst (λ n. n < 2 ^ 32) (sym t.then.value) (four_small t.first t.is.are);
      spelled = t.joined ∙ ap (λ b. t.front ++ b) t.then.none ∙ append-nil t.front ∙ t.is.same ∙ sym (le_bytes_4 t.first w t.is.many (byte_in t.first t.is.are) t.then.value);
    }

from_word : (w : ℕ) (bytes : List ℕ) → IsWord w bytes → FromFour w bytes
from_word w bytes is =
    record {
      first = word w;
      front = word w;
      back = [];
      is = record { many = refl; are = word_bytes w; same = refl };
      then = record { value = sym (from_le_bytes-to_le_bytes_4 w is.small); none = refl };
      joined = is.spelled;
    }

pub word_reads : IsReader read_word IsWord
word_reads =
    converted read_word FromFour IsWord as_word from_word
    (then_reads (read_bytes 4) (λ four rest. Read (from_le_bytes w32 four) rest) (IsPiece 4) (λ four. IsNothing (from_le_bytes w32 four)) (piece_reads 4) (λ four. only_reads (from_le_bytes w32 four)))

-- ---- eight bytes

pub record IsWholeOf (z : ℤ) (bytes : List ℕ) : Type 0 where
  pub within : is_whole z ≡ true
  pub spelled : bytes ≡ whole z

eight_small : (bs : List ℕ) → AreBytes bs → from_le_bytes w64 bs < 2 ^ 64
eight_small bs are =
    let a = byte_in bs are 0 in
    let b = byte_in bs are 1 in
    let c = byte_in bs are 2 in
    let d = byte_in bs are 3 in
    let e = byte_in bs are 4 in
    let f = byte_in bs are 5 in
    let g = byte_in bs are 6 in
    let h = byte_in bs are 7 in
    omega (arith, a, b, c, d, e, f, g, h)

-- eight bytes are those of the number that they are read as
pub eight_again : (bs : List ℕ) → AreBytes bs → length bs ≡ 8 → bs ≡ whole (cast_signed w64 (from_le_bytes w64 bs))
eight_again bs are many =
    let n = from_le_bytes w64 bs in
    let same : cast_unsigned w64 (cast_signed w64 n) ≡ n = of_z-to_z w64 n (eight_small bs are) in
    sym (ap (to_le_bytes w64) same ∙ le_bytes_8 bs n many (byte_in bs are) refl)

-- a number in range has 64 bits
whole_fits : (z : ℤ) → is_whole z ≡ true → FitsSigned w64 z
whole_fits (pos n) h = let small : n ≤ 2 ^ 53 = leb-true n (2 ^ 53) h in record { sfits = omega (arith, small) }
whole_fits (negsuc n) h =
    let small : n ≤ 2 ^ 53 - 1 = leb-true n (2 ^ 53 - 1) (and_parts (nat_le n (2 ^ 53 - 1)) true h).0 in
    record { sfits = omega (arith, small) }

positive_whole : (n : ℕ) → n ≤ 2 ^ 53 → is_whole (cast_signed w64 n) ≡ true
positive_whole n small =
    let less : n < 2 ^ 63 = omega (arith, small) in
    ap is_whole (to_z_pos w64 n less) ∙ le-leb n (2 ^ 53) small

negative_whole : (n : ℕ) → 2 ^ 64 - 2 ^ 53 ≤ n → n < 2 ^ 64 → is_whole (cast_signed w64 n) ≡ true
negative_whole n large less =
    let k = 2 ^ 64 - suc n in
    let same : n ≡ 2 ^ 64 - suc k = omega (arith, less) in
    let small : k ≤ 2 ^ 53 - 1 = omega (arith, large) in
    let low : k < 2 ^ 63 = omega (arith, large) in
    ap (λ m. is_whole (cast_signed w64 m)) same ∙ ap is_whole (to_z-neg w64 k low) ∙ ap (λ b. b && true) (le-leb k (2 ^ 53 - 1) small)

-- what eight bytes are read as
eight_if : (whole_bytes : Bool) → (bs : List ℕ) → Found ℤ
eight_if b bs = if b then whole_in bs (cast_signed w64 (from_le_bytes w64 (take 8 bs))) (drop 8 bs) else cut_whole bs

whole_forward : (z : ℤ) (rest : List ℕ) → is_whole z ≡ true → read_whole (whole z ++ rest) ≡ Read z rest
whole_forward z rest within =
    let u = cast_unsigned w64 z in
    let fits : FitsSigned w64 z = whole_fits z within in
    let back : cast_signed w64 (from_le_bytes w64 (whole z)) ≡ z = ap (cast_signed w64) (from_le_bytes-to_le_bytes_8 u (Fits-lt-pow (Fits-of_z fits))) ∙ to_z-of_z w64 z fits in
    let many : 8 ≤ length (whole z ++ rest) = omega arith in
    ap (λ b. if b then whole_in (whole z ++ rest) (cast_signed w64 (from_le_bytes w64 (whole z))) rest else cut_whole (whole z ++ rest)) (le-leb 8 (length (whole z ++ rest)) many)
    ∙ ap (λ v. whole_in (whole z ++ rest) v rest) back
    ∙ ap (λ b. if b then Read z rest else Wrong (whole z ++ rest)) within

cut_never : (b : Bool) (bs : List ℕ) (z : ℤ) (rest : List ℕ) → (if b then Ends else Wrong bs) ≡ Read z rest → ⊥
cut_never true bs z rest e = absurd (cc)
cut_never false bs z rest e = absurd (cc)

within_from : (b : Bool) (v z : ℤ) (field left rest : List ℕ) → is_whole v ≡ b → (if b then Read v left else Wrong field) ≡ Read z rest → (is_whole z ≡ true) × (v ≡ z) × (left ≡ rest)
within_from true v z field left rest h e = let same : v ≡ z = cc in (subst (λ x. is_whole x ≡ true) same h, same, cc)
within_from false v z field left rest h e = absurd (cc)

whole_back : (bs : List ℕ) → AreBytes bs → (z : ℤ) (rest : List ℕ) (b : Bool) → nat_le 8 (length bs) ≡ b → (if b then whole_in bs (cast_signed w64 (from_le_bytes w64 (take 8 bs))) (drop 8 bs) else cut_whole bs) ≡ Read z rest → IsReadFrom IsWholeOf bs z rest
whole_back bs are z rest false e h = absurd (cut_never (nat_lt (length bs) 7 || may_go_on (from_le_bytes w64 bs)) bs z rest h)
whole_back bs are z rest true e h =
    let v = cast_signed w64 (from_le_bytes w64 (take 8 bs)) in
    let r = within_from (is_whole v) v z bs (drop 8 bs) rest refl h in
    let split = take_drop 8 bs in
    let front : AreBytes (take 8 bs) = bytes_in_front (take 8 bs) (drop 8 bs) (subst AreBytes split are) in
    let many : length (take 8 bs) ≡ 8 = taken 8 bs (leb-true 8 (length bs) e) in
    record {
      front = take 8 bs;
      is = record { within = r.0; spelled = eight_again (take 8 bs) front many ∙ ap whole r.1 };
      bytes = split ∙ ap (λ d. take 8 bs ++ d) r.2;
    }

-- eight bytes of a number in range, of which the first stand there
begins_with : (bs more : List ℕ) → AreBytes (bs ++ more) → length (bs ++ more) ≡ 8 → more ≢ [] → is_whole (cast_signed w64 (from_le_bytes w64 (bs ++ more))) ≡ true → Begins IsWholeOf bs
begins_with bs more are many some within =
    record {
      value = cast_signed w64 (from_le_bytes w64 (bs ++ more));
      bytes = bs ++ more;
      is = record { within = within; spelled = eight_again (bs ++ more) are many };
      more = more;
      some = some;
      begins = refl;
    }

six_and_zeros : (a b c d e f : ℕ) → AreBytes (a ∷ b ∷ c ∷ d ∷ e ∷ f ∷ []) → from_le_bytes w64 (a ∷ b ∷ c ∷ d ∷ e ∷ f ∷ 0 ∷ 0 ∷ []) ≤ 2 ^ 53
six_and_zeros a b c d e f are = let h = are.1.1.1.1.1.0 in let g = are.1.1.1.1.0 in let i = are.1.1.1.0 in let j = are.1.1.0 in let k = are.1.0 in let l = are.0 in omega (arith, h, g, i, j, k, l)

seven : (b : Bool) (n : ℕ) → nat_le n (2 ^ 53) ≡ b → (b || nat_le (2 ^ 56 - 2 ^ 53) n) ≡ true → (n ≤ 2 ^ 53) ⊎ (2 ^ 56 - 2 ^ 53 ≤ n)
seven true n e h = inl (leb-true n (2 ^ 53) e)
seven false n e h = inr (leb-true (2 ^ 56 - 2 ^ 53) n h)

abbrev cut : Bool → List ℕ → Found ℤ
cut b bs = if b then Ends else Wrong bs

cut_may : (b : Bool) (bs : List ℕ) → cut b bs ≡ Ends → b ≡ true
cut_may true bs e = refl
cut_may false bs e = absurd (cc)

whole_never : (b : Bool) (v : ℤ) (field left : List ℕ) → (if b then Read v left else Wrong field) ≡ Ends → ⊥
whole_never true v field left e = absurd (cc)
whole_never false v field left e = absurd (cc)

whole_ends : (bs : List ℕ) → AreBytes bs → read_whole bs ≡ Ends → Begins IsWholeOf bs
whole_ends [] are e =
    begins_with [] (0 ∷ 0 ∷ 0 ∷ 0 ∷ 0 ∷ 0 ∷ 0 ∷ 0 ∷ []) (zeros 8) refl (λ e. absurd (cc)) (positive_whole _ (six_and_zeros 0 0 0 0 0 0 (zeros 6)))
whole_ends (a ∷ []) are e =
    begins_with (a ∷ []) (0 ∷ 0 ∷ 0 ∷ 0 ∷ 0 ∷ 0 ∷ 0 ∷ []) (are.0, zeros 7) refl (λ e. absurd (cc)) (positive_whole _ (six_and_zeros a 0 0 0 0 0 (are.0, zeros 5)))
whole_ends (a ∷ b ∷ []) are e =
    begins_with (a ∷ b ∷ []) (0 ∷ 0 ∷ 0 ∷ 0 ∷ 0 ∷ 0 ∷ []) (are.0, (are.1.0, zeros 6)) refl (λ e. absurd (cc)) (positive_whole _ (six_and_zeros a b 0 0 0 0 (are.0, (are.1.0, zeros 4))))
whole_ends (a ∷ b ∷ c ∷ []) are e =
    begins_with (a ∷ b ∷ c ∷ []) (0 ∷ 0 ∷ 0 ∷ 0 ∷ 0 ∷ []) (are.0, (are.1.0, (are.1.1.0, zeros 5))) refl (λ e. absurd (cc)) (positive_whole _ (six_and_zeros a b c 0 0 0 (are.0, (are.1.0, (are.1.1.0, zeros 3)))))
whole_ends (a ∷ b ∷ c ∷ d ∷ []) are e =
    begins_with (a ∷ b ∷ c ∷ d ∷ []) (0 ∷ 0 ∷ 0 ∷ 0 ∷ []) (are.0, (are.1.0, (are.1.1.0, (are.1.1.1.0, zeros 4)))) refl (λ e. absurd (cc)) (positive_whole _ (six_and_zeros a b c d 0 0 (are.0, (are.1.0, (are.1.1.0, (are.1.1.1.0, zeros 2))))))
whole_ends (a ∷ b ∷ c ∷ d ∷ f ∷ []) are e =
    begins_with (a ∷ b ∷ c ∷ d ∷ f ∷ []) (0 ∷ 0 ∷ 0 ∷ []) (are.0, (are.1.0, (are.1.1.0, (are.1.1.1.0, (are.1.1.1.1.0, zeros 3))))) refl (λ e. absurd (cc)) (positive_whole _ (six_and_zeros a b c d f 0 (are.0, (are.1.0, (are.1.1.0, (are.1.1.1.0, (are.1.1.1.1.0, zeros 1)))))))
whole_ends (a ∷ b ∷ c ∷ d ∷ f ∷ g ∷ []) are e =
    begins_with (a ∷ b ∷ c ∷ d ∷ f ∷ g ∷ []) (0 ∷ 0 ∷ []) (are.0, (are.1.0, (are.1.1.0, (are.1.1.1.0, (are.1.1.1.1.0, (are.1.1.1.1.1.0, zeros 2)))))) refl (λ e. absurd (cc)) (positive_whole _ (six_and_zeros a b c d f g (are.0, (are.1.0, (are.1.1.0, (are.1.1.1.0, (are.1.1.1.1.0, (are.1.1.1.1.1.0, zeros 0))))))))
whole_ends (a ∷ b ∷ c ∷ d ∷ f ∷ g ∷ h ∷ []) are e = by (seven (nat_le n (2 ^ 53)) n refl (cut_may (may_go_on n) (a ∷ b ∷ c ∷ d ∷ f ∷ g ∷ h ∷ []) e))
  where
    n : ℕ
    n = from_le_bytes w64 (a ∷ b ∷ c ∷ d ∷ f ∷ g ∷ h ∷ [])

    by : (n ≤ 2 ^ 53) ⊎ (2 ^ 56 - 2 ^ 53 ≤ n) → Begins IsWholeOf (a ∷ b ∷ c ∷ d ∷ f ∷ g ∷ h ∷ [])
    by (inl small) = begins_with (a ∷ b ∷ c ∷ d ∷ f ∷ g ∷ h ∷ []) (0 ∷ []) (are.0, (are.1.0, (are.1.1.0, (are.1.1.1.0, (are.1.1.1.1.0, (are.1.1.1.1.1.0, (are.1.1.1.1.1.1.0, zeros 1))))))) refl (λ e. absurd (cc)) (positive_whole _ small)
    by (inr large) =
        let bytes : AreBytes (a ∷ b ∷ c ∷ d ∷ f ∷ g ∷ h ∷ 255 ∷ []) = (are.0, (are.1.0, (are.1.1.0, (are.1.1.1.0, (are.1.1.1.1.0, (are.1.1.1.1.1.0, (are.1.1.1.1.1.1.0, (omega arith, tt)))))))) in
        begins_with (a ∷ b ∷ c ∷ d ∷ f ∷ g ∷ h ∷ []) (255 ∷ []) bytes refl (λ e. absurd (cc)) (negative_whole _ (omega (arith, large)) (eight_small (a ∷ b ∷ c ∷ d ∷ f ∷ g ∷ h ∷ 255 ∷ []) bytes))
whole_ends (a ∷ b ∷ c ∷ d ∷ f ∷ g ∷ h ∷ i ∷ bs) are e =
    let all : List ℕ = a ∷ b ∷ c ∷ d ∷ f ∷ g ∷ h ∷ i ∷ bs in
    let many : 8 ≤ length all = omega arith in
    let v = cast_signed w64 (from_le_bytes w64 (take 8 all)) in
    absurd (whole_never (is_whole v) v all bs (ap (λ b. if b then whole_in all v bs else cut_whole all) (sym (le-leb 8 (length all) many)) ∙ e))

-- ---- what is wrong stays so

outside_positive : (n : ℕ) → 2 ^ 53 < n → n < 2 ^ 63 → is_whole (cast_signed w64 n) ≡ false
outside_positive n large less = ap is_whole (to_z_pos w64 n less) ∙ lt-leb n (2 ^ 53) large

outside_negative : (n : ℕ) → 2 ^ 63 ≤ n → n < 2 ^ 64 - 2 ^ 53 → is_whole (cast_signed w64 n) ≡ false
outside_negative n large less =
    let k = 2 ^ 64 - suc n in
    let same : n ≡ 2 ^ 64 - suc k = omega (arith, less) in
    let over : 2 ^ 53 - 1 < k = omega (arith, less) in
    let low : k < 2 ^ 63 = omega (arith, large) in
    ap (λ m. is_whole (cast_signed w64 m)) same ∙ ap is_whole (to_z-neg w64 k low) ∙ ap (λ b. b && true) (lt-leb k (2 ^ 53 - 1) over)

in_wrong : (b : Bool) (v : ℤ) (left more field field' : List ℕ) → IsWrong (if b then Read v left else Wrong field) → b ≡ false
in_wrong true v left more field field' w = absurd w
in_wrong false v left more field field' w = refl

wrong_in : (v : ℤ) (field rest : List ℕ) → is_whole v ≡ false → IsWrong (whole_in field v rest)
wrong_in v field rest h = subst IsWrong (ap (λ b. if b then Read v rest else Wrong field) (sym h)) tt

cut_wrong : (b : Bool) (bs : List ℕ) → IsWrong (cut b bs) → b ≡ false
cut_wrong true bs w = absurd w
cut_wrong false bs w = refl

not_seven : (b c : Bool) (n : ℕ) → nat_le n (2 ^ 53) ≡ b → nat_le (2 ^ 56 - 2 ^ 53) n ≡ c → (b || c) ≡ false → (2 ^ 53 < n) × (n < 2 ^ 56 - 2 ^ 53)
not_seven true c n e f h = absurd (cc)
not_seven false true n e f h = absurd (cc)
not_seven false false n e f h = (leb-false n (2 ^ 53) e, leb-false (2 ^ 56 - 2 ^ 53) n f)

eight_wrong : (eight all rest : List ℕ) → is_whole (cast_signed w64 (from_le_bytes w64 eight)) ≡ false → all ≡ eight ++ rest → length eight ≡ 8 → IsWrong (read_whole all)
eight_wrong eight all rest outside split many = subst (λ x. IsWrong (read_whole x)) (sym split) inner
  where
    e : List ℕ
    e = eight ++ rest

    taken_is : take 8 e ≡ eight
    taken_is = ap (λ n. take n e) (sym many) ∙ take_all eight rest

    enough : 8 ≤ length e
    enough = subst (λ n. n ≤ length e) many (long eight rest)

    inner : IsWrong (read_whole e)
    inner =
        subst (λ b. IsWrong (if b then whole_in e (cast_signed w64 (from_le_bytes w64 (take 8 e))) (drop 8 e) else cut_whole e)) (sym (le-leb 8 (length e) enough))
        (wrong_in (cast_signed w64 (from_le_bytes w64 (take 8 e))) e (drop 8 e) (ap (λ x. is_whole (cast_signed w64 (from_le_bytes w64 x))) taken_is ∙ outside))

whole_wrong : (bs more : List ℕ) → AreBytes (bs ++ more) → IsWrong (read_whole bs) → IsWrong (read_whole (bs ++ more))
whole_wrong [] more are w = absurd w
whole_wrong (a ∷ []) more are w = absurd w
whole_wrong (a ∷ b ∷ []) more are w = absurd w
whole_wrong (a ∷ b ∷ c ∷ []) more are w = absurd w
whole_wrong (a ∷ b ∷ c ∷ d ∷ []) more are w = absurd w
whole_wrong (a ∷ b ∷ c ∷ d ∷ f ∷ []) more are w = absurd w
whole_wrong (a ∷ b ∷ c ∷ d ∷ f ∷ g ∷ []) more are w = absurd w
whole_wrong (a ∷ b ∷ c ∷ d ∷ f ∷ g ∷ h ∷ []) [] are w = w
whole_wrong (a ∷ b ∷ c ∷ d ∷ f ∷ g ∷ h ∷ []) (i ∷ ms) are w =
    let n = from_le_bytes w64 (a ∷ b ∷ c ∷ d ∷ f ∷ g ∷ h ∷ []) in
    let outside = not_seven (nat_le n (2 ^ 53)) (nat_le (2 ^ 56 - 2 ^ 53) n) n refl refl (cut_wrong (may_go_on n) (a ∷ b ∷ c ∷ d ∷ f ∷ g ∷ h ∷ []) w) in
    eight_wrong (a ∷ b ∷ c ∷ d ∷ f ∷ g ∷ h ∷ i ∷ []) (a ∷ b ∷ c ∷ d ∷ f ∷ g ∷ h ∷ i ∷ ms) ms (by (cases_lt i 128) outside.0 outside.1) refl refl
  where
    by : (i < 128) ⊎ (128 ≤ i) → 2 ^ 53 < from_le_bytes w64 (a ∷ b ∷ c ∷ d ∷ f ∷ g ∷ h ∷ []) → from_le_bytes w64 (a ∷ b ∷ c ∷ d ∷ f ∷ g ∷ h ∷ []) < 2 ^ 56 - 2 ^ 53 → is_whole (cast_signed w64 (from_le_bytes w64 (a ∷ b ∷ c ∷ d ∷ f ∷ g ∷ h ∷ i ∷ []))) ≡ false
    by (inl low) over under = outside_positive (from_le_bytes w64 (a ∷ b ∷ c ∷ d ∷ f ∷ g ∷ h ∷ i ∷ [])) (omega (arith, over)) (omega (arith, under, low))
    by (inr high) over under = let byte : i < 256 = are.1.1.1.1.1.1.1.0 in outside_negative (from_le_bytes w64 (a ∷ b ∷ c ∷ d ∷ f ∷ g ∷ h ∷ i ∷ [])) (omega (arith, high)) (omega (arith, under, byte))
whole_wrong (a ∷ b ∷ c ∷ d ∷ f ∷ g ∷ h ∷ i ∷ ms) more are w =
    let v = cast_signed w64 (from_le_bytes w64 (a ∷ b ∷ c ∷ d ∷ f ∷ g ∷ h ∷ i ∷ [])) in
    let all : List ℕ = a ∷ b ∷ c ∷ d ∷ f ∷ g ∷ h ∷ i ∷ ms in
    let many : 8 ≤ length all = omega arith in
    let inner : IsWrong (whole_in all v ms) = subst (λ b. IsWrong (if b then whole_in all v ms else cut_whole all)) (le-leb 8 (length all) many) w in
    eight_wrong (a ∷ b ∷ c ∷ d ∷ f ∷ g ∷ h ∷ i ∷ []) (a ∷ b ∷ c ∷ d ∷ f ∷ g ∷ h ∷ i ∷ (ms ++ more)) (ms ++ more) (in_wrong (is_whole v) v ms more all all inner) refl refl

pub whole_reads : IsReader read_whole IsWholeOf
whole_reads =
    record {
      forward = λ z front rest is. ap (λ bs. read_whole (bs ++ rest)) is.spelled ∙ whole_forward z rest is.within;
      back = λ bs are z rest e. whole_back bs are z rest (nat_le 8 (length bs)) refl e;
      ends = whole_ends;
      wrong = whole_wrong;
      bytes = λ z front is. subst AreBytes (sym is.spelled) (whole_bytes z);
      example = record { value = pos 0; bytes = whole (pos 0); is = record { within = refl; spelled = refl } };
    }
