-- A text is read as a literal in one way.
use Rattle.std.proofs.Common.{◌≡◌, ℕ, ◌*◌, ◌^◌, List, pos, refl, sym, ap, subst, ◌∙◌, arith}
use Rattle.std.specs.Str.Parse.{IsNumeral, digits_value}
use Rattle.whole_num.specs.Digits.{NamesBase, AnswersDecimal}
use Rattle.whole_num.specs.Literals.{Scaled, IsDecimal, IsBased, IsLiteral, decimal, hexadecimal, binary, Answers, without_marks, ReadsLiteral}
use Rattle.whole_num.specs.declared.literal.Read.{Read}
use Rattle.whole_num.specs.declared.literal.Read.TheVariants as read
use Rattle.whole_num.proofs.Tens.{whole_once}
use Rattle.whole_num.proofs.Spelling.{decimal_once, names_no_decimal, names_once, hexadecimal_names, binary_names}

-- ---- values

-- a literal of a base that a letter names is the number that its digits write
based_value : (radix small capital : ℕ) (text : List ℕ) (v : Scaled) (b : IsBased radix small capital text v) → (r : ℕ) (ds : List ℕ) → (radix ≡ r) × (b.digits ≡ ds) → (IsNumeral r ds) × (v ≡ record { mantissa = digits_value r ds; up = 0; down = 0 })
based_value radix small capital text v b r ds same =
    (subst (λ (p : ℕ × List ℕ). IsNumeral p.0 p.1) (λ i. (same.0 i, same.1 i)) b.is_numeral, b.value_is ∙ (λ i. record { mantissa = digits_value (same.0 i) (same.1 i); up = 0; down = 0 }))

-- digits behind a named base have their number as their value
pub named_value : (text : List ℕ) (radix : ℕ) (digits : List ℕ) → NamesBase text radix digits → (v : Scaled) → IsLiteral text v → IsNumeral radix digits × (v ≡ record { mantissa = digits_value radix digits; up = 0; down = 0 })
named_value text radix digits names v (decimal h) = absurd (names_no_decimal text radix digits names v h)
named_value text radix digits names v (hexadecimal h) =
    based_value 16 120 88 text v h radix digits (names_once text 16 h.digits radix digits (hexadecimal_names text v h) names)
named_value text radix digits names v (binary h) =
    based_value 2 98 66 text v h radix digits (names_once text 2 h.digits radix digits (binary_names text v h) names)

-- a literal that names no base is decimal
pub only_decimal : (text : List ℕ) → ((radix : ℕ) (digits : List ℕ) → NamesBase text radix digits → ⊥) → (v : Scaled) → IsLiteral text v → IsDecimal text v
only_decimal text none v (decimal h) = h
only_decimal text none v (hexadecimal h) = absurd (none 16 h.digits (hexadecimal_names text v h))
only_decimal text none v (binary h) = absurd (none 2 h.digits (binary_names text v h))

pub literal_once : (text : List ℕ) (v w : Scaled) → IsLiteral text v → IsLiteral text w → v ≡ w
literal_once text v w (decimal h) (decimal k) = decimal_once text v w h k
literal_once text v w (decimal h) (hexadecimal k) =
    absurd (names_no_decimal text 16 k.digits (hexadecimal_names text w k) v h)
literal_once text v w (decimal h) (binary k) =
    absurd (names_no_decimal text 2 k.digits (binary_names text w k) v h)
literal_once text v w (hexadecimal h) k =
    h.value_is ∙ sym (named_value text 16 h.digits (hexadecimal_names text v h) w k).1
literal_once text v w (binary h) k =
    h.value_is ∙ sym (named_value text 2 h.digits (binary_names text v h) w k).1

-- ---- answers

-- a value has one answer
pub answers_once : (v : Scaled) (r s : Read) → Answers v r → Answers v s → r ≡ s
answers_once v read.NotNumber s a b = absurd a
answers_once v r read.NotNumber a b = absurd b
answers_once v read.NotWhole read.NotWhole a b = refl
answers_once v read.NotWhole read.OutOfRange a b = absurd (a b.0 b.1)
answers_once v read.NotWhole (read.Whole z) a b = absurd (a b.0 b.1)
answers_once v read.OutOfRange read.NotWhole a b = absurd (b a.0 a.1)
answers_once v read.OutOfRange read.OutOfRange a b = refl
answers_once v read.OutOfRange (read.Whole z) a b =
    absurd (omega (arith, whole_once v.down (v.mantissa * 10 ^ v.up) a.0 b.0 a.1 b.1, a.2, b.2))
answers_once v (read.Whole y) read.NotWhole a b = absurd (b a.0 a.1)
answers_once v (read.Whole y) read.OutOfRange a b =
    absurd (omega (arith, whole_once v.down (v.mantissa * 10 ^ v.up) a.0 b.0 a.1 b.1, a.2, b.2))
answers_once v (read.Whole y) (read.Whole z) a b =
    ap read.Whole (a.3 ∙ ap pos (whole_once v.down (v.mantissa * 10 ^ v.up) a.0 b.0 a.1 b.1) ∙ sym b.3)

-- two readings as a number
both_answers : (text : List ℕ) (r s : Read) → (v : Scaled) × IsLiteral text v × Answers v r → (w : Scaled) × IsLiteral text w × Answers w s → r ≡ s
both_answers text r s a b =
    answers_once b.0 r s (subst (λ (v : Scaled). Answers v r) (literal_once text a.0 b.0 a.1 b.1) a.2) b.2

-- a text is read in one way
pub reads_once : (bytes : List ℕ) (r s : Read) → ReadsLiteral bytes r → ReadsLiteral bytes s → r ≡ s
reads_once bytes read.NotNumber read.NotNumber a b = refl
reads_once bytes read.NotNumber read.NotWhole a b = absurd (a b.0 b.1)
reads_once bytes read.NotNumber read.OutOfRange a b = absurd (a b.0 b.1)
reads_once bytes read.NotNumber (read.Whole z) a b = absurd (a b.0 b.1)
reads_once bytes read.NotWhole read.NotNumber a b = absurd (b a.0 a.1)
reads_once bytes read.OutOfRange read.NotNumber a b = absurd (b a.0 a.1)
reads_once bytes (read.Whole y) read.NotNumber a b = absurd (b a.0 a.1)
reads_once bytes read.NotWhole read.NotWhole a b = refl
reads_once bytes read.NotWhole read.OutOfRange a b = both_answers (without_marks bytes) read.NotWhole read.OutOfRange a b
reads_once bytes read.NotWhole (read.Whole z) a b = both_answers (without_marks bytes) read.NotWhole (read.Whole z) a b
reads_once bytes read.OutOfRange read.NotWhole a b = both_answers (without_marks bytes) read.OutOfRange read.NotWhole a b
reads_once bytes read.OutOfRange read.OutOfRange a b = refl
reads_once bytes read.OutOfRange (read.Whole z) a b =
    both_answers (without_marks bytes) read.OutOfRange (read.Whole z) a b
reads_once bytes (read.Whole y) read.NotWhole a b = both_answers (without_marks bytes) (read.Whole y) read.NotWhole a b
reads_once bytes (read.Whole y) read.OutOfRange a b =
    both_answers (without_marks bytes) (read.Whole y) read.OutOfRange a b
reads_once bytes (read.Whole y) (read.Whole z) a b =
    both_answers (without_marks bytes) (read.Whole y) (read.Whole z) a b

-- ---- how a text is read

pub reads_decimal : (bytes : List ℕ) (r : Read) → ((radix : ℕ) (digits : List ℕ) → NamesBase (without_marks bytes) radix digits → ⊥) → AnswersDecimal (without_marks bytes) r → ReadsLiteral bytes r
reads_decimal bytes read.NotNumber none a = λ v h. a v (only_decimal (without_marks bytes) none v h)
reads_decimal bytes read.NotWhole none a = (a.0, decimal a.1, a.2)
reads_decimal bytes read.OutOfRange none a = (a.0, decimal a.1, a.2)
reads_decimal bytes (read.Whole z) none a = (a.0, decimal a.1, a.2)
