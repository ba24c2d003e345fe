-- `string.format`.
use Rattle.std.specs.Prelude.{ℕ, zero, suc, ◌-◌, ℤ, pos, negsuc, Bool, true, false, ◌&&◌, nat_eq, nat_le, List, [], ◌∷◌, ◌++◌, length, take, drop, replicate, take_while, Option, Some, None, if◌then◌else◌}
use Rattle.std.specs.Fmt.{digits, signed_decimal}
use Rattle.std.specs.Str.Parse.{digits_value}
use Rattle.value_model.specs.declared.builtin.Builtin.TheVariants as builtin
use Rattle.value_model.specs.Values.{Bytes, Value, Text}
use Rattle.value_model.specs.Errors.{InvalidDirective, StringTooLarge}
use Rattle.value_model.specs.Store.{Store}
use Rattle.value_model.specs.Waits.{Continue}
use Rattle.whole_num.specs.NumberTexts.{is_digit_in}
use Rattle.value_model.specs.Metamethods.{longest_string}
use Rattle.value_model.specs.Answers.{LibAnswer, ErrsWith}
use Rattle.value_model.specs.Arguments.{number_at, text_at, any_at, out_of_range}
use Rattle.value_model.specs.CoreRows.{gives, asks_text}
use Rattle.value_model.specs.StringRows.{natural, is_byte}

-- what a directive wants of its argument
pub data Form : Type 0 where
  AsText : Form
  AsDecimal : Form
  AsHex : (capital : Bool) → Form
  AsByte : Form

-- the blanks stand at the right, or the text is filled with zeros, and so many bytes are wanted
pub record Field : Type 0 where
  pub left : Bool
  pub zeros : Bool
  pub width : ℕ
  pub form : Form

-- a format is bytes as they are, directives, and what is no directive
pub data Piece : Type 0 where
  Plainly : (byte : ℕ) → Piece
  Directive : (field : Field) → Piece
  Malformed : Piece

-- ---- reading

abbrev pub form_of : ℕ → Option Form
form_of b =
    if nat_eq b 115 then Some AsText
    else if nat_eq b 100 then Some AsDecimal
    else if nat_eq b 120 then Some (AsHex false)
    else if nat_eq b 88 then Some (AsHex true)
    else if nat_eq b 99 then Some AsByte
    else None

-- a piece, and what stands behind it
abbrev pub Read : Type 0
Read = Piece × Bytes

abbrev pub with_form : (left zeros : Bool) → (width : ℕ) → Option Form → Bytes → Read
with_form l z w None bs = (Malformed, bs)
with_form l z w (Some f) bs = (Directive (record { left = l; zeros = z; width = w; form = f }), bs)

abbrev pub read_letter : (left zeros : Bool) → (width : ℕ) → Bytes → Read
read_letter l z w [] = (Malformed, [])
read_letter l z w (b ∷ bs) = with_form l z w (form_of b) bs

-- a width of at most two digits
abbrev pub width_digits : Bytes → Bytes
width_digits bs = take_while (is_digit_in 10) (take 2 bs)

abbrev pub read_width : (left zeros : Bool) → Bytes → Read
read_width l z bs = read_letter l z (digits_value 10 (width_digits bs)) (drop (length (width_digits bs)) bs)

-- a byte that is optional: whether it stands first, and what stands behind it
abbrev pub optional_byte : ℕ → Bytes → Bool × Bytes
optional_byte b [] = (false, [])
optional_byte b (c ∷ bs) = if nat_eq b c then (true, bs) else (false, c ∷ bs)

abbrev pub read_zeros : (left : Bool) → Bool × Bytes → Read
read_zeros l z = read_width l z.0 z.1

abbrev pub read_field : Bool × Bytes → Read
read_field l = read_zeros l.0 (optional_byte 48 l.1)

-- what stands behind a `%`
abbrev pub read_directive : Bytes → Read
read_directive [] = (Malformed, [])
read_directive (b ∷ bs) =
    if nat_eq b 37 then (Plainly 37, bs)
    else if nat_eq b 42 then (Directive (record { left = false; zeros = false; width = 0; form = AsText }), bs)
    else read_field (optional_byte 45 (b ∷ bs))

abbrev pub read_piece : ℕ → Bytes → Read
read_piece b bs = if nat_eq b 37 then read_directive bs else (Plainly b, bs)

-- the pieces of a format of at most so many bytes
abbrev pub pieces_within : (most : ℕ) → Bytes → List Piece
pieces_within zero bs = []
pieces_within (suc most) [] = []
pieces_within (suc most) (b ∷ bs) = (read_piece b bs).0 ∷ pieces_within most (read_piece b bs).1

abbrev pub pieces_of : Bytes → List Piece
pieces_of bs = pieces_within (length bs) bs

-- ---- writing

-- a text of a number has its sign before the zeros
abbrev pub zeros_into : ℕ → Bytes → Bytes
zeros_into n [] = replicate n 48
zeros_into n (b ∷ bs) = if nat_eq b 45 then 45 ∷ replicate n 48 ++ bs else replicate n 48 ++ b ∷ bs

abbrev pub filled : (left zeros : Bool) → ℕ → Bytes → Bytes
filled true zeros n bs = bs ++ replicate n 32
filled false true n bs = zeros_into n bs
filled false false n bs = replicate n 32 ++ bs

-- a text that is shorter than the width is filled. Zeros fill numbers alone
abbrev pub fitted : Field → (number : Bool) → Bytes → Bytes
fitted d number bs = filled d.left (d.zeros && number) (d.width - length bs) bs

-- ---- the rows of the directives

-- what is done with the text of a directive
abbrev pub Onward : Type 0
Onward = Bytes → LibAnswer

abbrev pub byte_text : Field → ℕ → Onward → ℤ → LibAnswer
byte_text d i go z = if is_byte z then go (fitted d false (natural z ∷ [])) else out_of_range builtin.StringFormat i

abbrev pub hex_text : Field → (capital : Bool) → ℕ → Onward → ℤ → LibAnswer
hex_text d capital i go (pos n) = go (fitted d true (digits 16 capital n))
hex_text d capital i go (negsuc n) = out_of_range builtin.StringFormat i

abbrev pub directive_text : Store → (args : List Value) → (i : ℕ) → (text : Bytes) → Field → Form → Onward → LibAnswer
directive_text s args i text d AsText go =
    any_at builtin.StringFormat i args (λ v. asks_text s v (record { builtin = builtin.StringFormat; arguments = args; at = i; text = text }) (λ bs. go (fitted d false bs)))
directive_text s args i text d AsDecimal go = number_at builtin.StringFormat i args (λ z. go (fitted d true (signed_decimal z)))
directive_text s args i text d (AsHex capital) go = number_at builtin.StringFormat i args (hex_text d capital i go)
directive_text s args i text d AsByte go = number_at builtin.StringFormat i args (byte_text d i go)

-- the limit comes last
abbrev pub format_done : Store → Bytes → LibAnswer
format_done s text = if nat_le (length text) longest_string then gives s (Text text) else ErrsWith StringTooLarge

-- The pieces from the left, with the place of the next argument and the text so far
abbrev pub formats : Store → (args : List Value) → List Piece → (i : ℕ) → (text : Bytes) → LibAnswer
formats s args [] i text = format_done s text
formats s args (Plainly b ∷ ps) i text = formats s args ps i (text ++ b ∷ [])
formats s args (Malformed ∷ ps) i text = ErrsWith InvalidDirective
formats s args (Directive d ∷ ps) i text = directive_text s args i text d d.form (λ bs. formats s args ps (suc i) (text ++ bs))

abbrev pub format_row : List Value → Store → LibAnswer
format_row args s = text_at builtin.StringFormat 0 args (λ bs. formats s args (pieces_of bs) 1 [])

-- ---- going on behind a text that was asked for

-- the directive of an argument, from that of the argument 1 on, with the pieces behind it
abbrev pub directive_for : ℕ → List Piece → Option (Field × List Piece)
directive_for i [] = None
directive_for i (Directive d ∷ ps) = elim (nat_eq i 1) [ true ↦ Some (d, ps) | false ↦ directive_for (i - 1) ps ]
directive_for i (p ∷ ps) = directive_for i ps

abbrev pub formats_on : Store → Continue → Bytes → Option (Field × List Piece) → LibAnswer
formats_on s c bs None = ErrsWith InvalidDirective
formats_on s c bs (Some d) = formats s c.arguments d.1 (suc c.at) (c.text ++ fitted d.0 false bs)

abbrev pub format_goes_on : Continue → Store → Bytes → LibAnswer
format_goes_on c s bs = text_at builtin.StringFormat 0 c.arguments (λ format. formats_on s c bs (directive_for c.at (pieces_of format)))
