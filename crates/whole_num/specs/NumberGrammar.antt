-- Texts that are read as numbers at run time, by their grammar.
use Rattle.std.specs.Prelude.{List, ℕ, ◌^◌, ◌≤◌, ◌≡◌, ℤ, pos, neg_ℤ, Bool, true, false, [], ◌∷◌, ◌++◌}
use Rattle.std.specs.List.{list_all}
use Rattle.std.specs.Str.Parse.{IsNumeral, digits_value}
use Rattle.whole_num.specs.Literals.{Scaled, IsTheWhole, IsDecimal, Answers}
use Rattle.whole_num.specs.NumberTexts.{is_blank}
use Rattle.whole_num.specs.declared.literal.Read.{Read}
use Rattle.whole_num.specs.declared.literal.Read.TheVariants as read

-- a sign, or none, with whether the number is below 0
pub data IsSign : (text : List ℕ) (negative : Bool) → Type 0 where
  no_sign : IsSign [] false
  plus : IsSign (43 ∷ []) false
  minus : IsSign (45 ∷ []) true

-- a decimal text, or `0x` and one or more hexadecimal digits, with its exact value
pub data IsUnsigned : (text : List ℕ) (value : Scaled) → Type 0 where
  decimal : {text : List ℕ} {value : Scaled} → IsDecimal text value → IsUnsigned text value
  hexadecimal : {digits : List ℕ} → IsNumeral 16 digits → IsUnsigned (48 ∷ 120 ∷ digits) (record { mantissa = digits_value 16 digits; up = 0; down = 0 })

-- blanks, a sign, a number without one, blanks
pub record IsNumberText (text : List ℕ) (negative : Bool) (value : Scaled) : Type 0 where
  pub before : List ℕ
  pub sign : List ℕ
  pub body : List ℕ
  pub behind : List ℕ
  pub spelling : text ≡ before ++ ((sign ++ body) ++ behind)
  pub blank_before : list_all is_blank before ≡ true
  pub blank_behind : list_all is_blank behind ≡ true
  pub is_sign : IsSign sign negative
  pub is_unsigned : IsUnsigned body value

-- a number that is not below 0, or its opposite
abbrev pub signed : (negative : Bool) → ℕ → ℤ
signed true n = neg_ℤ (pos n)
signed false n = pos n

-- What an exact value is with its sign: not whole; or out of range, where it is a whole number below -2^53 or above 2^53;
-- or that whole number.
abbrev pub SignedAnswers : (negative : Bool) → Scaled → Read → Type 0
SignedAnswers negative value (read.Whole z) = (n : ℕ) × IsTheWhole value n × (n ≤ 2 ^ 53) × (z ≡ signed negative n)
SignedAnswers negative value answer = Answers value answer

-- What a text is, read as a number: no number where it is none, and else what its value is.
abbrev pub ReadsText : (bytes : List ℕ) → Read → Type 0
ReadsText bytes read.NotNumber = (negative : Bool) (value : Scaled) → IsNumberText bytes negative value → ⊥
ReadsText bytes answer = (negative : Bool) × (value : Scaled) × IsNumberText bytes negative value × SignedAnswers negative value answer
