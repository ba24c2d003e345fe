-- The function that reads texts as numbers meets their grammar.
use Rattle.std.proofs.Common.{◌≡◌, ℕ, zero, suc, take, drop, get_or, append-nil, ◌*◌, ◌/◌, ◌%◌, ◌^◌, ◌<◌, ◌≤◌, ◌≢◌, Bool, true, false, not, nat_eq, ◌&&◌, List, [], ◌∷◌, ◌++◌, length, option_map, true≢false, Some, None, Result, Ok, Err, ℤ, pos, neg_ℤ, refl, sym, ap, subst, ◌∙◌, arith, if◌then◌else◌}
use Rattle.std.specs.List.{list_all, starts_with}
use Rattle.std.proofs.lemmas.Bool.{and_parts, ltb-true, eqb-true, eqb-false, eq-eqb, ne_eqb}
use Rattle.std.proofs.lemmas.List.{take-append-drop, take_all}
use Rattle.std.specs.Char.{digit_value}
use Rattle.std.specs.Str.Parse.{AllDigits, IsNumeral, digits_value}
use Rattle.whole_num.specs.Whole.{within}
use Rattle.whole_num.specs.Literals.{Scaled, Answers, without_marks, IsFraction, no_fraction, fraction, IsDecimal, IsLiteral, decimal as decimal_literal, hexadecimal as hexadecimal_literal}
use Rattle.whole_num.proofs.Spelling.{names_no_decimal}
use Rattle.whole_num.specs.NumberTexts.{ReadNumber, number_of, without_blanks_before, is_blank, is_visible, front, behind, is_numeral, is_digit_in, exact, numeral_number, decimal_number, unsigned_number, negated, signed_number, read_number}
use Rattle.whole_num.specs.NumberGrammar.{IsSign, no_sign, plus, minus, IsUnsigned, decimal, hexadecimal, IsNumberText, SignedAnswers, ReadsText}
use Rattle.whole_num.specs.declared.arithmetic.Stop.{Stop}
use Rattle.whole_num.specs.declared.arithmetic.Stop.TheVariants.{NotWhole, OutOfRange}
use Rattle.whole_num.specs.declared.literal.Read.{Read}
use Rattle.whole_num.specs.declared.literal.Read.TheVariants as read
use Rattle.whole_num.proofs.Literals.{literal_once}
use Rattle.whole_num.proofs.Seen.{of_unsigned, of_word, visible, unmarked, marks_none}
use Rattle.whole_num.proofs.Readings.{read_of, same_answer, exact_answers, answers_are, DecimalIs, decimal_is, front_behind, is_numeral_in, no_numeral_in}

-- ---- without a sign

abbrev pub UnsignedIs : List ℕ → ReadNumber → Type 0
UnsignedIs t None = (v : Scaled) → IsUnsigned t v → ⊥
UnsignedIs t (Some r) = (v : Scaled) × IsUnsigned t v × (r ≡ exact v.mantissa v.up v.down)

abbrev NoHex : List ℕ → Type 0
NoHex t = (ds : List ℕ) → t ≡ 48 ∷ 120 ∷ ds → ⊥

only_decimal : (t : List ℕ) → NoHex t → (v : Scaled) → IsUnsigned t v → IsDecimal t v
only_decimal t no_hex v (decimal h) = h
only_decimal t no_hex v (hexadecimal {digits = ds} n) = absurd (no_hex ds refl)

as_decimal : (t : List ℕ) → NoHex t → (o : ReadNumber) → DecimalIs t o → UnsignedIs t o
as_decimal t no_hex None h = λ v u. h v (only_decimal t no_hex v u)
as_decimal t no_hex (Some r) h = (h.0, decimal h.1, h.2)

exact_whole : (m : ℕ) → within (pos m) ≡ exact m 0 0
exact_whole m =
    let z : m * 10 ^ 0 % 10 ^ 0 ≡ 0 = omega arith in
    let q : m * 10 ^ 0 / 10 ^ 0 ≡ m = omega arith in
    rw z (rw q refl)

no_hex_value : (ds t : List ℕ) (v : Scaled) → t ≡ 48 ∷ 120 ∷ ds → is_numeral 16 ds ≡ false → IsUnsigned t v → ⊥
no_hex_value ds t v e n (decimal h) = names_no_decimal t 16 ds (record { letter = 120; names = refl; split = e }) v h
no_hex_value ds t v e n (hexadecimal {digits = es} h) = no_numeral_in 16 ds n (subst (IsNumeral 16) (tails e) h)
  where
    tails : 48 ∷ 120 ∷ es ≡ 48 ∷ 120 ∷ ds → es ≡ ds
    tails e = cc

as_hex : (ds : List ℕ) (t : Bool) → is_numeral 16 ds ≡ t → UnsignedIs (48 ∷ 120 ∷ ds) (if t then Some (within (pos (digits_value 16 ds))) else None)
as_hex ds true n = (record { mantissa = digits_value 16 ds; up = 0; down = 0 }, hexadecimal (is_numeral_in 16 ds n), exact_whole (digits_value 16 ds))
as_hex ds false n = λ v u. no_hex_value ds (48 ∷ 120 ∷ ds) v refl n u

unsigned_is : (t : List ℕ) → UnsignedIs t (unsigned_number t)
unsigned_is [] = as_decimal [] (λ ds e. cc) (decimal_number []) (decimal_is [])
unsigned_is (a ∷ []) = as_decimal (a ∷ []) (λ ds e. cc) (decimal_number (a ∷ [])) (decimal_is (a ∷ []))
unsigned_is (a ∷ b ∷ bs) = by (nat_eq a 48) refl (nat_eq b 120) refl
  where
    first_of_two : (c d : ℕ) (cs ds : List ℕ) → a ∷ b ∷ bs ≡ c ∷ d ∷ ds → (a ≡ c) × (b ≡ d)
    first_of_two c d cs ds e = (cc, cc)

    by : (x : Bool) → nat_eq a 48 ≡ x → (y : Bool) → nat_eq b 120 ≡ y → UnsignedIs (a ∷ b ∷ bs) (if x && y then numeral_number 16 bs else decimal_number (a ∷ b ∷ bs))
    by true e true f = subst (λ t. UnsignedIs t (numeral_number 16 bs)) (λ i. sym (eqb-true a 48 e) i ∷ sym (eqb-true b 120 f) i ∷ bs) (as_hex bs (is_numeral 16 bs) refl)
    by true e false f = as_decimal (a ∷ b ∷ bs) (λ ds h. eqb-false b 120 f (first_of_two 48 120 [] ds h).1) (decimal_number (a ∷ b ∷ bs)) (decimal_is (a ∷ b ∷ bs))
    by false e y f = as_decimal (a ∷ b ∷ bs) (λ ds h. eqb-false a 48 e (first_of_two 48 120 [] ds h).0) (decimal_number (a ∷ b ∷ bs)) (decimal_is (a ∷ b ∷ bs))

-- ---- signs

-- a number without a sign begins with none
abbrev Bare : ℕ → Type 0
Bare b = (b ≢ 45) × (b ≢ 43)

digit_bare : (b : ℕ) → digit_value b < 10 → Bare b
digit_bare b h = (
  λ e. let small : digit_value 45 < 10 = subst (λ c. digit_value c < 10) e h in omega arith,
  λ e. let small : digit_value 43 < 10 = subst (λ c. digit_value c < 10) e h in omega arith,
)

heads : (a b : ℕ) (xs ys : List ℕ) → a ∷ xs ≡ b ∷ ys → (a ≡ b) × (xs ≡ ys)
heads a b xs ys e = (cc, cc)

fraction_first : (ft fd et : List ℕ) (b : ℕ) (bs : List ℕ) → b ∷ bs ≡ ft ++ et → IsFraction ft fd → 0 < length fd → Bare b
fraction_first ft fd et b bs e no_fraction l = absurd (omega (arith, l))
fraction_first ft fd et b bs e (fraction {digits = ds} a) l =
    let h = (heads b 46 bs (ds ++ et) e).0 in (λ k. omega (arith, h, k), λ k. omega (arith, h, k))

point_first : (ft fd et : List ℕ) (b : ℕ) (bs : List ℕ) → b ∷ bs ≡ ft ++ et → IsFraction ft fd → 0 < length ([] ++ fd) → Bare b
point_first ft fd et b bs e f l = fraction_first ft fd et b bs e f l

decimal_first : (ds ft fd et : List ℕ) (b : ℕ) (bs : List ℕ) → b ∷ bs ≡ ds ++ (ft ++ et) → AllDigits 10 ds → IsFraction ft fd → 0 < length (ds ++ fd) → Bare b
decimal_first [] ft fd et b bs e a f l = point_first ft fd et b bs e f l
decimal_first (d ∷ ds) ft fd et b bs e a f l = digit_bare b (subst (λ c. digit_value c < 10) (sym (heads b d bs (ds ++ (ft ++ et)) e).0) a.0)

unsigned_first : (t : List ℕ) (v : Scaled) (b : ℕ) (bs : List ℕ) → t ≡ b ∷ bs → IsUnsigned t v → Bare b
unsigned_first t v b bs e (decimal h) =
    decimal_first h.digits h.fraction_text h.fraction_digits h.exponent_text b bs (sym e ∙ h.spelling) h.are_digits h.is_fraction h.some
unsigned_first t v b bs e (hexadecimal {digits = ds} n) =
    let h = (heads 48 b (120 ∷ ds) bs e).0 in (λ k. omega (arith, h, k), λ k. omega (arith, h, k))

-- the number with its sign, or the stop
abbrev pub signed_value : (negative : Bool) → Scaled → Result ℤ Stop
signed_value true v = negated (exact v.mantissa v.up v.down)
signed_value false v = exact v.mantissa v.up v.down

abbrev pub SignedIs : List ℕ → ReadNumber → Type 0
SignedIs t None = (n : Bool) (v : Scaled) (sign body : List ℕ) → t ≡ sign ++ body → IsSign sign n → IsUnsigned body v → ⊥
SignedIs t (Some r) = (n : Bool) × (v : Scaled) × (sign : List ℕ) × (body : List ℕ) × (t ≡ sign ++ body) × IsSign sign n × IsUnsigned body v × (r ≡ signed_value n v)

no_minus : (b : ℕ) (bs : List ℕ) → b ≡ 45 → ((v : Scaled) → IsUnsigned bs v → ⊥) → (n : Bool) (v : Scaled) (sign body : List ℕ) → b ∷ bs ≡ sign ++ body → IsSign sign n → IsUnsigned body v → ⊥
no_minus b bs e none n v sign body s no_sign u = (unsigned_first body v b bs (sym s) u).0 e
no_minus b bs e none n v sign body s plus u = let h = (heads b 43 bs body s).0 in absurd (omega (arith, h, e))
no_minus b bs e none n v sign body s minus u = none v (subst (λ t. IsUnsigned t v) (sym (heads b 45 bs body s).1) u)

no_plus : (b : ℕ) (bs : List ℕ) → b ≡ 43 → ((v : Scaled) → IsUnsigned bs v → ⊥) → (n : Bool) (v : Scaled) (sign body : List ℕ) → b ∷ bs ≡ sign ++ body → IsSign sign n → IsUnsigned body v → ⊥
no_plus b bs e none n v sign body s no_sign u = (unsigned_first body v b bs (sym s) u).1 e
no_plus b bs e none n v sign body s plus u = none v (subst (λ t. IsUnsigned t v) (sym (heads b 43 bs body s).1) u)
no_plus b bs e none n v sign body s minus u = let h = (heads b 45 bs body s).0 in absurd (omega (arith, h, e))

no_bare : (b : ℕ) (bs : List ℕ) → b ≢ 45 → b ≢ 43 → ((v : Scaled) → IsUnsigned (b ∷ bs) v → ⊥) → (n : Bool) (v : Scaled) (sign body : List ℕ) → b ∷ bs ≡ sign ++ body → IsSign sign n → IsUnsigned body v → ⊥
no_bare b bs m p none n v sign body s no_sign u = none v (subst (λ t. IsUnsigned t v) (sym s) u)
no_bare b bs m p none n v sign body s plus u = p (heads b 43 bs body s).0
no_bare b bs m p none n v sign body s minus u = m (heads b 45 bs body s).0

with_minus : (b : ℕ) (bs : List ℕ) → b ≡ 45 → (u : ReadNumber) → UnsignedIs bs u → SignedIs (b ∷ bs) (option_map negated u)
with_minus b bs e None h = no_minus b bs e h
with_minus b bs e (Some r) h = (true, h.0, 45 ∷ [], bs, ap (λ c. c ∷ bs) e, minus, h.1, ap negated h.2)

with_plus : (b : ℕ) (bs : List ℕ) → b ≡ 43 → (u : ReadNumber) → UnsignedIs bs u → SignedIs (b ∷ bs) u
with_plus b bs e None h = no_plus b bs e h
with_plus b bs e (Some r) h = (false, h.0, 43 ∷ [], bs, ap (λ c. c ∷ bs) e, plus, h.1, h.2)

with_none : (b : ℕ) (bs : List ℕ) → b ≢ 45 → b ≢ 43 → (u : ReadNumber) → UnsignedIs (b ∷ bs) u → SignedIs (b ∷ bs) u
with_none b bs m p None h = no_bare b bs m p h
with_none b bs m p (Some r) h = (false, h.0, [], b ∷ bs, refl, no_sign, h.1, h.2)

no_empty : (v : Scaled) → IsUnsigned [] v → ⊥
no_empty = unsigned_is []

no_empty_signed : (n : Bool) (v : Scaled) (sign body : List ℕ) → [] ≡ sign ++ body → IsSign sign n → IsUnsigned body v → ⊥
no_empty_signed n v sign body e no_sign u = no_empty v (subst (λ t. IsUnsigned t v) (sym e) u)
no_empty_signed n v sign body e plus u = absurd (cc)
no_empty_signed n v sign body e minus u = absurd (cc)

signed_is : (t : List ℕ) → SignedIs t (signed_number t)
signed_is [] = no_empty_signed
signed_is (b ∷ bs) = by (nat_eq b 45) refl (nat_eq b 43) refl
  where
    by : (x : Bool) → nat_eq b 45 ≡ x → (y : Bool) → nat_eq b 43 ≡ y → SignedIs (b ∷ bs) (if x then option_map negated (unsigned_number bs) else if y then unsigned_number bs else unsigned_number (b ∷ bs))
    by true e y f = with_minus b bs (eqb-true b 45 e) (unsigned_number bs) (unsigned_is bs)
    by false e true f = with_plus b bs (eqb-true b 43 f) (unsigned_number bs) (unsigned_is bs)
    by false e false f = with_none b bs (eqb-false b 45 e) (eqb-false b 43 f) (unsigned_number (b ∷ bs)) (unsigned_is (b ∷ bs))

-- ---- blanks around a word

abbrev StopsAt : (ℕ → Bool) → List ℕ → Type 0
StopsAt p [] = Unit {0}
StopsAt p (b ∷ bs) = p b ≡ false

past : (p : ℕ → Bool) (xs ys : List ℕ) → list_all p xs ≡ true → StopsAt p ys → (front p (xs ++ ys) ≡ xs) × (behind p (xs ++ ys) ≡ ys)
past p [] [] h k = (refl, refl)
past p [] (y ∷ ys) h k = (rw k refl, rw k refl)
past p (x ∷ xs) ys h k = by (p x) h (λ a. past p xs ys a k)
  where
    by : (t : Bool) → (t && list_all p xs) ≡ true → (list_all p xs ≡ true → (front p (xs ++ ys) ≡ xs) × (behind p (xs ++ ys) ≡ ys)) → ((if t then x ∷ front p (xs ++ ys) else []) ≡ x ∷ xs) × ((if t then behind p (xs ++ ys) else x ∷ (xs ++ ys)) ≡ ys)
    by true h ih = (ap (λ l. x ∷ l) (ih h).0, (ih h).1)
    by false h ih = absurd (true≢false (sym h))

front_passes : (p : ℕ → Bool) (bs : List ℕ) → list_all p (front p bs) ≡ true
front_passes p [] = refl
front_passes p (b ∷ bs) = by (p b) refl (front_passes p bs)
  where
    by : (t : Bool) → p b ≡ t → list_all p (front p bs) ≡ true → list_all p (if t then b ∷ front p bs else []) ≡ true
    by true e h = rw e h
    by false e h = refl

-- a word that is not empty stops blanks
word_stops : (w after : List ℕ) → list_all is_visible w ≡ true → (w ≡ [] → ⊥) → StopsAt is_blank (w ++ after)
word_stops [] after h n = absurd (n refl)
word_stops (b ∷ w) after h n = by (is_blank b) h
  where
    by : (t : Bool) → (not t && list_all is_visible w) ≡ true → t ≡ false
    by true h = cc
    by false h = refl

-- blanks stop a word
blanks_stop : (after : List ℕ) → list_all is_blank after ≡ true → StopsAt is_visible after
blanks_stop [] h = tt
blanks_stop (b ∷ bs) h = by (is_blank b) h
  where
    by : (t : Bool) → (t && list_all is_blank bs) ≡ true → not t ≡ false
    by true h = refl
    by false h = cc

not_empty : (n : Bool) (v : Scaled) (sign body : List ℕ) → IsSign sign n → IsUnsigned body v → sign ++ body ≡ [] → ⊥
not_empty n v sign body s u e = no_empty_signed n v sign body (sym e) s u

past_seen : (w after : List ℕ) → list_all is_visible w ≡ true → list_all is_blank after ≡ true → (front is_visible (w ++ after) ≡ w) × (behind is_visible (w ++ after) ≡ after)
past_seen w after h k = past is_visible w after h (blanks_stop after k)

-- the word of a text of the grammar is the one that is read
parts_are : (bs : List ℕ) (n : Bool) (v : Scaled) (h : IsNumberText bs n v) → (front is_visible (behind is_blank bs) ≡ h.sign ++ h.body) × (behind is_visible (behind is_blank bs) ≡ h.behind)
parts_are bs n v h =
    let seen = of_word is_visible visible h.sign h.body n v h.is_sign h.is_unsigned in
    let core : behind is_blank bs ≡ (h.sign ++ h.body) ++ h.behind = ap (behind is_blank) h.spelling ∙ (past is_blank h.before ((h.sign ++ h.body) ++ h.behind) h.blank_before (word_stops (h.sign ++ h.body) h.behind seen (not_empty n v h.sign h.body h.is_sign h.is_unsigned))).1 in
    let word = past_seen (h.sign ++ h.body) h.behind seen h.blank_behind in
    (ap (front is_visible) core ∙ word.0, ap (behind is_visible) core ∙ word.1)

-- what the function's answer says of the text
abbrev NumberIs : List ℕ → ReadNumber → Type 0
NumberIs t None = (n : Bool) (v : Scaled) → IsNumberText t n v → ⊥
NumberIs t (Some r) = (n : Bool) × (v : Scaled) × IsNumberText t n v × (r ≡ signed_value n v)

word_is : (bs : List ℕ) (o : ReadNumber) → list_all is_blank (behind is_visible (behind is_blank bs)) ≡ true → SignedIs (front is_visible (behind is_blank bs)) o → NumberIs bs o
word_is bs None blank h = λ n v t. h n v t.sign t.body (parts_are bs n v t).0 t.is_sign t.is_unsigned
word_is bs (Some r) blank h = (
  h.0,
  h.1,
  record {
    before = front is_blank bs;
    sign = h.2;
    body = h.3;
    behind = behind is_visible (behind is_blank bs);
    spelling = front_behind is_blank bs ∙ ap (λ t. front is_blank bs ++ t) (front_behind is_visible (behind is_blank bs) ∙ ap (λ w. w ++ behind is_visible (behind is_blank bs)) h.4);
    blank_before = front_passes is_blank bs;
    blank_behind = blank;
    is_sign = h.5;
    is_unsigned = h.6;
  },
  h.7,
)

-- the answer is what the grammar says
read_meets : (bs : List ℕ) → NumberIs bs (read_number bs)
unfolding read_number
read_meets bs = by (list_all is_blank (behind is_visible (behind is_blank bs))) refl
  where
    by : (t : Bool) → list_all is_blank (behind is_visible (behind is_blank bs)) ≡ t → NumberIs bs (if t then signed_number (front is_visible (behind is_blank bs)) else None)
    by true e = word_is bs (signed_number (front is_visible (behind is_blank bs))) e (signed_is (front is_visible (behind is_blank bs)))
    by false e = λ n v t. true≢false (sym t.blank_behind ∙ sym (ap (list_all is_blank) (parts_are bs n v t).1) ∙ e)

-- ---- the answer is what the grammar says, in one way

signed_back : (n : Bool) (v : Scaled) (x : Result ℤ Stop) → Answers v (read_of (Some x)) → SignedAnswers n v (read_of (Some (if n then negated x else x)))
signed_back true v (Ok z) a = (a.0, a.1, a.2, ap neg_ℤ a.3)
signed_back true v (Err NotWhole) a = a
signed_back true v (Err OutOfRange) a = a
signed_back false v (Ok z) a = a
signed_back false v (Err NotWhole) a = a
signed_back false v (Err OutOfRange) a = a

signed_answers : (n : Bool) (v : Scaled) → SignedAnswers n v (read_of (Some (signed_value n v)))
signed_answers true v = signed_back true v (exact v.mantissa v.up v.down) (exact_answers v)
signed_answers false v = signed_back false v (exact v.mantissa v.up v.down) (exact_answers v)

signed_are : (n : Bool) (v : Scaled) (r : Read) → SignedAnswers n v r → number_of r ≡ Some (signed_value n v)
signed_are true v read.NotNumber a = absurd a
signed_are true v read.NotWhole a = ap (option_map negated) (answers_are v read.NotWhole a)
signed_are true v read.OutOfRange a = ap (option_map negated) (answers_are v read.OutOfRange a)
signed_are true v (read.Whole z) a =
    ap (λ y. Some (Ok y)) a.3 ∙ ap (option_map negated) (answers_are v (read.Whole (pos a.0)) (a.0, a.1, a.2, refl))
signed_are false v read.NotNumber a = absurd a
signed_are false v read.NotWhole a = answers_are v read.NotWhole a
signed_are false v read.OutOfRange a = answers_are v read.OutOfRange a
signed_are false v (read.Whole z) a = answers_are v (read.Whole z) a

of_number : (bs : List ℕ) (r : Read) (n : Bool) (v : Scaled) → IsNumberText bs n v → SignedAnswers n v r → ReadsText bs r
of_number bs read.NotNumber n v t a = absurd (no_answer n a)
  where
    no_answer : (n : Bool) → SignedAnswers n v read.NotNumber → ⊥
    no_answer true a = a
    no_answer false a = a
of_number bs read.NotWhole n v t a = (n, v, t, a)
of_number bs read.OutOfRange n v t a = (n, v, t, a)
of_number bs (read.Whole z) n v t a = (n, v, t, a)

as_text : (bs : List ℕ) (o : ReadNumber) → NumberIs bs o → ReadsText bs (read_of o)
as_text bs None h = h
as_text bs (Some x) h =
    of_number bs (read_of (Some x)) h.0 h.1 h.2 (subst (λ y. SignedAnswers h.0 h.1 (read_of (Some y))) (sym h.3) (signed_answers h.0 h.1))

-- what is computed is what the grammar says
pub computed_reads : (bs : List ℕ) (r : Read) → number_of r ≡ read_number bs → ReadsText bs r
computed_reads bs r e = subst (ReadsText bs) (ap read_of (sym e) ∙ same_answer r) (as_text bs (read_number bs) (read_meets bs))

unsigned_once : (t : List ℕ) (v w : Scaled) → IsUnsigned t v → IsUnsigned t w → v ≡ w
unsigned_once t v w a b = literal_once t v w (literal t v a) (literal t w b)
  where
    literal : (t : List ℕ) (v : Scaled) → IsUnsigned t v → IsLiteral t v
    literal t v (decimal h) = decimal_literal h
    literal t v (hexadecimal {digits = ds} n) = hexadecimal_literal (record { letter = 120; digits = ds; spelling = refl; is_letter = refl; is_numeral = n; value_is = refl })

-- a word has one sign and one value
word_once : (s t s' t' : List ℕ) (n n' : Bool) (v v' : Scaled) → IsSign s n → IsSign s' n' → IsUnsigned t v → IsUnsigned t' v' → s ++ t ≡ s' ++ t' → (n ≡ n') × (v ≡ v')
word_once s t s' t' n n' v v' no_sign no_sign a b e = (refl, unsigned_once t' v v' (subst (λ l. IsUnsigned l v) e a) b)
word_once s t s' t' n n' v v' no_sign plus a b e = absurd ((unsigned_first t v 43 t' e a).1 refl)
word_once s t s' t' n n' v v' no_sign minus a b e = absurd ((unsigned_first t v 45 t' e a).0 refl)
word_once s t s' t' n n' v v' plus no_sign a b e = absurd ((unsigned_first t' v' 43 t (sym e) b).1 refl)
word_once s t s' t' n n' v v' plus plus a b e =
    (refl, unsigned_once t' v v' (subst (λ l. IsUnsigned l v) (heads 43 43 t t' e).1 a) b)
word_once s t s' t' n n' v v' plus minus a b e = absurd (omega (arith, (heads 43 45 t t' e).0))
word_once s t s' t' n n' v v' minus no_sign a b e = absurd ((unsigned_first t' v' 45 t (sym e) b).0 refl)
word_once s t s' t' n n' v v' minus plus a b e = absurd (omega (arith, (heads 45 43 t t' e).0))
word_once s t s' t' n n' v v' minus minus a b e =
    (refl, unsigned_once t' v v' (subst (λ l. IsUnsigned l v) (heads 45 45 t t' e).1 a) b)

text_once : (bs : List ℕ) (n m : Bool) (v w : Scaled) → IsNumberText bs n v → IsNumberText bs m w → (n ≡ m) × (v ≡ w)
text_once bs n m v w h k =
    word_once h.sign h.body k.sign k.body n m v w h.is_sign k.is_sign h.is_unsigned k.is_unsigned (sym (parts_are bs n v h).0 ∙ (parts_are bs m w k).0)

is_computed : (bs : List ℕ) (n : Bool) (v : Scaled) → IsNumberText bs n v → (o : ReadNumber) → NumberIs bs o → Some (signed_value n v) ≡ o
is_computed bs n v t None h = absurd (h n v t)
is_computed bs n v t (Some x) h =
    let same = text_once bs n h.0 v h.1 t h.2 in (λ i. Some (signed_value (same.0 i) (same.1 i))) ∙ ap Some (sym h.3)

no_text : (bs : List ℕ) (o : ReadNumber) → NumberIs bs o → ((n : Bool) (v : Scaled) → IsNumberText bs n v → ⊥) → None ≡ o
no_text bs None h k = refl
no_text bs (Some x) h k = absurd (k h.0 h.1 h.2)

of_text : (bs : List ℕ) (r : Read) (n : Bool) (v : Scaled) → IsNumberText bs n v → SignedAnswers n v r → number_of r ≡ read_number bs
of_text bs r n v t a = signed_are n v r a ∙ is_computed bs n v t (read_number bs) (read_meets bs)

-- and what the grammar says is what is computed
pub reads_computed : (bs : List ℕ) (r : Read) → ReadsText bs r → number_of r ≡ read_number bs
reads_computed bs read.NotNumber h = no_text bs (read_number bs) (read_meets bs) h
reads_computed bs read.NotWhole h = of_text bs read.NotWhole h.0 h.1 h.2 h.3
reads_computed bs read.OutOfRange h = of_text bs read.OutOfRange h.0 h.1 h.2 h.3
reads_computed bs (read.Whole z) h = of_text bs (read.Whole z) h.0 h.1 h.2 h.3

-- so in one way
pub reads_once : (bs : List ℕ) (r s : Read) → number_of s ≡ read_number bs → ReadsText bs r → r ≡ s
reads_once bs r s e h = sym (same_answer r) ∙ ap read_of (reads_computed bs r h ∙ sym e) ∙ same_answer s

-- ---- numbers without a sign, by what they begin with

-- no number has a `_`
has_mark : (t : List ℕ) (i : ℕ) → i < length t → nat_eq (get_or t i 0) 95 ≡ true → list_all (λ b. not (nat_eq b 95)) t ≡ true → ⊥
has_mark [] i l e h = omega (arith, l)
has_mark (b ∷ t) zero l e h = by (nat_eq b 95) e h
  where
    by : (x : Bool) → x ≡ true → (not x && list_all (λ b. not (nat_eq b 95)) t) ≡ true → ⊥
    by true e h = true≢false (sym h)
    by false e h = true≢false (sym e)
has_mark (b ∷ t) (suc i) l e h = has_mark t i (omega (arith, l)) e (and_parts (not (nat_eq b 95)) (list_all (λ b. not (nat_eq b 95)) t) h).1

pub marked : (t : List ℕ) (i : ℕ) → i < length t → nat_eq (get_or t i 0) 95 ≡ true → None ≡ unsigned_number t
marked t i l e = by (unsigned_number t) (unsigned_is t)
  where
    by : (o : ReadNumber) → UnsignedIs t o → None ≡ o
    by None h = refl
    by (Some x) h = absurd (has_mark t i l e (of_unsigned (λ b. not (nat_eq b 95)) unmarked t h.0 h.1))

-- where no byte is a `_`
unmarked_all : (t : List ℕ) → ((i d : ℕ) → 0 ≤ i → i < length t → nat_eq (get_or t i d) 95 ≡ false) → list_all (λ b. not (nat_eq b 95)) t ≡ true
unmarked_all [] h = refl
unmarked_all (b ∷ t) h = rw (h 0 0 (omega arith) (omega arith)) (unmarked_all t (λ i d z l. h (suc i) d (omega arith) (omega (arith, l))))

pub without : (t : List ℕ) → ((i d : ℕ) → 0 ≤ i → i < length t → nat_eq (get_or t i d) 95 ≡ false) → without_marks t ≡ t
without t h = marks_none t (unmarked_all t h)

pub without_behind : (t : List ℕ) → ((i d : ℕ) → 0 ≤ i → i < length t → nat_eq (get_or t i d) 95 ≡ false) → without_marks (drop 2 t) ≡ drop 2 t
without_behind [] h = refl
without_behind (a ∷ []) h = refl
without_behind (a ∷ b ∷ t) h = without t (λ i d z l. h (suc (suc i)) d (omega arith) (omega (arith, l)))

swapped : (a b : ℕ) → nat_eq a b ≡ nat_eq b a
swapped a b = by (nat_eq b a) refl
  where
    by : (t : Bool) → nat_eq b a ≡ t → nat_eq a b ≡ t
    by true e = eq-eqb a b (sym (eqb-true b a e))
    by false e = ne_eqb a b (λ h. eqb-false b a e (sym h))

by_two : (a b : ℕ) (t : List ℕ) → unsigned_number (a ∷ b ∷ t) ≡ (if nat_eq 48 a && nat_eq 120 b then numeral_number 16 t else decimal_number (a ∷ b ∷ t))
by_two a b t i = if swapped a 48 i && swapped b 120 i then numeral_number 16 t else decimal_number (a ∷ b ∷ t)

-- what begins with `0x`
pub begins_hex : (t : List ℕ) → true ≡ starts_with nat_eq t (48 ∷ 120 ∷ []) → unsigned_number t ≡ numeral_number 16 (drop 2 t)
begins_hex [] e = absurd (cc)
begins_hex (a ∷ []) e = by (nat_eq 48 a) e
  where
    by : (x : Bool) → true ≡ (x && false) → unsigned_number (a ∷ []) ≡ numeral_number 16 []
    by true e = absurd (cc)
    by false e = absurd (cc)
begins_hex (a ∷ b ∷ t) e = by_two a b t ∙ by (nat_eq 48 a) (nat_eq 120 b) e
  where
    by : (x y : Bool) → true ≡ (x && (y && true)) → (if x && y then numeral_number 16 t else decimal_number (a ∷ b ∷ t)) ≡ numeral_number 16 t
    by true true e = refl
    by true false e = absurd (cc)
    by false y e = absurd (cc)

-- and what does not
pub begins_decimal : (t : List ℕ) → false ≡ starts_with nat_eq t (48 ∷ 120 ∷ []) → unsigned_number t ≡ decimal_number t
begins_decimal [] e = refl
begins_decimal (a ∷ []) e = refl
begins_decimal (a ∷ b ∷ t) e = by_two a b t ∙ by (nat_eq 48 a) (nat_eq 120 b) e
  where
    by : (x y : Bool) → false ≡ (x && (y && true)) → (if x && y then numeral_number 16 t else decimal_number (a ∷ b ∷ t)) ≡ decimal_number (a ∷ b ∷ t)
    by true true e = absurd (cc)
    by true false e = refl
    by false y e = refl

pub numeral_answer : (radix : ℕ) (ds : List ℕ) (r : Read) → IsNumeral radix ds → Answers (record { mantissa = digits_value radix ds; up = 0; down = 0 }) r → number_of r ≡ numeral_number radix ds
numeral_answer radix ds r n a = by (is_numeral radix ds) refl
  where
    by : (t : Bool) → is_numeral radix ds ≡ t → number_of r ≡ (if t then Some (within (pos (digits_value radix ds))) else None)
    by true e = answers_are (record { mantissa = digits_value radix ds; up = 0; down = 0 }) r a ∙ ap Some (sym (exact_whole (digits_value radix ds)))
    by false e = absurd (no_numeral_in radix ds e n)

pub no_numeral : (radix : ℕ) (ds : List ℕ) → (IsNumeral radix ds → ⊥) → None ≡ numeral_number radix ds
no_numeral radix ds n = by (is_numeral radix ds) refl
  where
    by : (t : Bool) → is_numeral radix ds ≡ t → None ≡ (if t then Some (within (pos (digits_value radix ds))) else None)
    by true e = absurd (n (is_numeral_in radix ds e))
    by false e = refl

-- a `_` is no digit of a base
mark_no_digit : (radix b : ℕ) → radix ≤ 36 → nat_eq b 95 ≡ true → is_digit_in radix b ≡ true → ⊥
mark_no_digit radix b small e d =
    let here : is_digit_in radix 95 ≡ true = subst (λ b. is_digit_in radix b ≡ true) (eqb-true b 95 e) d in
    omega (arith, ltb-true (digit_value 95) radix here)

mark_no_numeral : (radix : ℕ) (t : List ℕ) (i : ℕ) → radix ≤ 36 → i < length t → nat_eq (get_or t i 0) 95 ≡ true → list_all (is_digit_in radix) t ≡ true → ⊥
mark_no_numeral radix [] i small l e h = omega (arith, l)
mark_no_numeral radix (b ∷ t) zero small l e h = mark_no_digit radix b small e (and_parts (is_digit_in radix b) (list_all (is_digit_in radix) t) h).0
mark_no_numeral radix (b ∷ t) (suc i) small l e h =
    mark_no_numeral radix t i small (omega (arith, l)) e (and_parts (is_digit_in radix b) (list_all (is_digit_in radix) t) h).1

pub marked_numeral : (radix : ℕ) (t : List ℕ) (i : ℕ) → radix ≤ 36 → i < length t → nat_eq (get_or t i 0) 95 ≡ true → None ≡ numeral_number radix t
marked_numeral radix [] i small l e = refl
marked_numeral radix (b ∷ t) i small l e = by (list_all (is_digit_in radix) (b ∷ t)) refl
  where
    by : (x : Bool) → list_all (is_digit_in radix) (b ∷ t) ≡ x → None ≡ (if x then Some (within (pos (digits_value radix (b ∷ t)))) else None)
    by true n = absurd (mark_no_numeral radix (b ∷ t) i small l e n)
    by false n = refl

-- ---- words

stops_at : (p : ℕ → Bool) (xs : List ℕ) (i : ℕ) → i < length xs → p (get_or xs i 0) ≡ false → StopsAt p (drop i xs)
stops_at p [] i l e = absurd (omega (arith, l))
stops_at p (x ∷ xs) zero l e = e
stops_at p (x ∷ xs) (suc i) l e = stops_at p xs i (omega (arith, l)) e

-- a text is parted where the first byte fails
pub parted_at : (p : ℕ → Bool) (xs : List ℕ) (i : ℕ) → list_all p (take i xs) ≡ true → i < length xs → p (get_or xs i 0) ≡ false → (front p xs ≡ take i xs) × (behind p xs ≡ drop i xs)
parted_at p xs i all l e =
    let parts = past p (take i xs) (drop i xs) all (stops_at p xs i l e) in
    let whole = take-append-drop i xs in
    (ap (front p) (sym whole) ∙ parts.0, ap (behind p) (sym whole) ∙ parts.1)

-- or is not
pub parted_never : (p : ℕ → Bool) (xs : List ℕ) (i : ℕ) → list_all p (take i xs) ≡ true → length xs ≤ i → (front p xs ≡ xs) × (behind p xs ≡ [])
parted_never p xs i all l =
    let parts = past p xs [] (ap (list_all p) (sym (take_all i xs l)) ∙ all) tt in
    (ap (front p) (sym (append-nil xs)) ∙ parts.0, ap (behind p) (sym (append-nil xs)) ∙ parts.1)

all_blank : (xs : List ℕ) → length (behind is_blank xs) ≡ 0 → list_all is_blank xs ≡ true
all_blank [] e = refl
all_blank (x ∷ xs) e = by (is_blank x) e (all_blank xs)
  where
    by : (t : Bool) → length (if t then behind is_blank xs else x ∷ xs) ≡ 0 → (length (behind is_blank xs) ≡ 0 → list_all is_blank xs ≡ true) → (t && list_all is_blank xs) ≡ true
    by true e more = more e
    by false e more = absurd (omega (arith, e))

some_left : (xs : List ℕ) → (length (behind is_blank xs) ≡ 0 → ⊥) → list_all is_blank xs ≡ false
some_left [] e = absurd (e refl)
some_left (x ∷ xs) e = by (is_blank x) e (some_left xs)
  where
    by : (t : Bool) → (length (if t then behind is_blank xs else x ∷ xs) ≡ 0 → ⊥) → ((length (behind is_blank xs) ≡ 0 → ⊥) → list_all is_blank xs ≡ false) → (t && list_all is_blank xs) ≡ false
    by true e more = more e
    by false e more = refl

word_number_is : (bs text word rest : List ℕ) → text ≡ without_blanks_before bs → word ≡ front is_visible text → rest ≡ behind is_visible text → read_number bs ≡ (if list_all is_blank rest then signed_number word else None)
unfolding read_number
word_number_is bs text word rest text_is word_is rest_is =
    let word_of = word_is ∙ ap (front is_visible) text_is in
    let rest_of = rest_is ∙ ap (behind is_visible) text_is in
    λ i. if list_all is_blank (sym rest_of i) then signed_number (sym word_of i) else None

-- a word before nothing but blanks
pub word_read : (bs text word rest left : List ℕ) (r : Read) → text ≡ without_blanks_before bs → word ≡ front is_visible text → rest ≡ behind is_visible text → left ≡ without_blanks_before rest → length left ≡ 0 → number_of r ≡ signed_number word → number_of r ≡ read_number bs
word_read bs text word rest left r text_is word_is rest_is left_is none is =
    is ∙ sym (word_number_is bs text word rest text_is word_is rest_is ∙ ap (λ t. if t then signed_number word else None) (all_blank rest (ap length (sym left_is) ∙ none)))

-- or before more
pub no_word : (bs text word rest left : List ℕ) → text ≡ without_blanks_before bs → word ≡ front is_visible text → rest ≡ behind is_visible text → left ≡ without_blanks_before rest → (length left ≡ 0 → ⊥) → None ≡ read_number bs
no_word bs text word rest left text_is word_is rest_is left_is some =
    sym (word_number_is bs text word rest text_is word_is rest_is ∙ ap (λ t. if t then signed_number word else None) (some_left rest (λ e. some (ap length left_is ∙ e))))
