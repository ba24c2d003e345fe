-- Strings: what their bytes stand for, where they end, and what is wrong with them.
use Rattle.std.specs.Prelude.{◌≡◌, ℕ, ◌+◌, ◌/◌, ◌%◌, min, nat_eq, nat_le, nat_lt, Bool, ◌&&◌, ◌⊎◌, List, [], ◌∷◌, ◌++◌, take, drop, if◌then◌else◌}
use Rattle.std.specs.List.{prefix_len}
use Rattle.std.specs.Str.Parse.{digits_value}
use Rattle.syntax_tree.specs.Bytes.{is_digit, is_hex_digit, is_line_feed, begins}
use Rattle.syntax_tree.specs.Gaps.{blanks_len}

-- What stands at a place within a string: so many bytes that stand for some bytes of the string's text, the byte that
-- ends the string, a malformed escape, or what a string may not hold: a line's end, or the text's.
pub data Part : Type 0 where
  Inner : (len : ℕ) (text : List ℕ) → Part
  Closing : Part
  Malformed : Part
  Unfinished : Part

-- a code point in UTF-8, surrogates by the same rule
abbrev pub utf8 : ℕ → List ℕ
utf8 c =
    if nat_lt c 0x80 then c ∷ [] else (if nat_lt c 0x800 then (0xC0 + c / 0x40) ∷ (0x80 + c % 0x40) ∷ [] else (if nat_lt c 0x10000 then (0xE0 + c / 0x1000) ∷ (0x80 + c / 0x40 % 0x40) ∷ (0x80 + c % 0x40) ∷ [] else (0xF0 + c / 0x40000) ∷ (0x80 + c / 0x1000 % 0x40) ∷ (0x80 + c / 0x40 % 0x40) ∷ (0x80 + c % 0x40) ∷ []))

-- The byte that a backslash and a byte stand for: `\a \b \f \n \r \t \v` are BEL, BS, FF, LF, CR, tab and VT, and any
-- other byte is itself, a backslash, a quote and LF among them.
abbrev pub escaped : ℕ → ℕ
escaped c =
    if nat_eq c 97 then 7 else (if nat_eq c 98 then 8 else (if nat_eq c 102 then 12 else (if nat_eq c 110 then 10 else (if nat_eq c 114 then 13 else (if nat_eq c 116 then 9 else (if nat_eq c 118 then 11 else c))))))

-- one to three decimal digits behind a backslash: a byte
abbrev pub decimal_escape : List ℕ → Part
decimal_escape bytes =
    let n = min 3 (prefix_len is_digit bytes) in
    let value = digits_value 10 (take n bytes) in
    if nat_lt value 256 then Inner (n + 1) (value ∷ []) else Malformed

-- what follows `\x`: two hexadecimal digits, a byte
abbrev pub hex_escape : List ℕ → Part
hex_escape bytes =
    if nat_le 2 (prefix_len is_hex_digit bytes) then Inner 4 (digits_value 16 (take 2 bytes) ∷ []) else Malformed

-- what follows `\u{`: one to eight hexadecimal digits and `}`, a code point up to 10FFFF
abbrev pub code_digits : List ℕ → Part
code_digits bytes =
    let n = prefix_len is_hex_digit bytes in
    let value = digits_value 16 (take n bytes) in
    if nat_le 1 n && nat_le n 8 && begins (λ b. nat_eq b 125) (drop n bytes) && nat_le value 0x10FFFF then Inner (n + 4) (utf8 value) else Malformed

-- what follows `\u`
abbrev pub code_escape : List ℕ → Part
code_escape bytes = if begins (λ b. nat_eq b 123) bytes then code_digits (drop 1 bytes) else Malformed

-- What follows a backslash. The lengths count the backslash. `\z` takes the blanks behind it and stands for nothing;
-- CR LF behind a backslash is one LF.
abbrev pub escape : List ℕ → Part
escape [] = Unfinished
escape (c ∷ cs) =
    if is_digit c then decimal_escape (c ∷ cs) else (if nat_eq c 120 then hex_escape cs else (if nat_eq c 117 then code_escape cs else (if nat_eq c 122 then Inner (2 + blanks_len cs) [] else (if nat_eq c 13 && begins is_line_feed cs then Inner 3 (10 ∷ []) else Inner 2 (escaped c ∷ [])))))

-- What stands at a place within a string that ends at a byte of this kind: that byte, a line feed, a backslash with what
-- follows it, or a byte that stands for itself.
abbrev pub part_at : (ends : ℕ → Bool) → List ℕ → Part
part_at ends [] = Unfinished
part_at ends (b ∷ bs) =
    if ends b then Closing else (if nat_eq b 10 then Unfinished else (if nat_eq b 92 then escape bs else Inner 1 (b ∷ [])))

-- The same where it does not matter what the bytes stand for, as behind a malformed escape: a backslash takes one
-- byte, `\z` the blanks behind it, and a backslash before CR LF both.
abbrev pub raw_escape : List ℕ → Part
raw_escape [] = Unfinished
raw_escape (c ∷ cs) =
    if nat_eq c 122 then Inner (2 + blanks_len cs) [] else (if nat_eq c 13 && begins is_line_feed cs then Inner 3 [] else Inner 2 [])

abbrev pub raw_part_at : (ends : ℕ → Bool) → List ℕ → Part
raw_part_at ends [] = Unfinished
raw_part_at ends (b ∷ bs) =
    if ends b then Closing else (if nat_eq b 10 then Unfinished else (if nat_eq b 92 then raw_escape bs else Inner 1 []))

-- some bytes of a string, and what they stand for
pub record Span : Type 0 where
  pub len : ℕ
  pub text : List ℕ

abbrev pub spans_text : List Span → List ℕ
spans_text [] = []
spans_text (u ∷ us) = u.text ++ spans_text us

abbrev pub spans_len : List Span → ℕ
spans_len [] = 0
spans_len (u ∷ us) = u.len + spans_len us

-- the bytes are these spans in turn, and then the rest; a reading says what stands at a place
abbrev pub AreInTurn : (read : List ℕ → Part) → (bytes : List ℕ) → List Span → (rest : List ℕ) → Type 0
AreInTurn read bytes [] rest = bytes ≡ rest
AreInTurn read bytes (u ∷ us) rest = (read bytes ≡ Inner u.len u.text) × AreInTurn read (drop u.len bytes) us rest

-- What stands behind the opening of a string: its text and length, up to the byte that ends it; or it has no end; or
-- it has one, and a malformed escape at an offset, the first.
pub data Body : Type 0 where
  Closed : (text : List ℕ) (len : ℕ) → Body
  Unclosed : Body
  Broken : (offset : ℕ) → Body

-- Behind spans stands the byte that ends the string.
pub record Closes (ends : ℕ → Bool) (bytes : List ℕ) (text : List ℕ) (len : ℕ) : Type 0 where
  pub spans : List Span
  pub rest : List ℕ
  pub turn : AreInTurn (part_at ends) bytes spans rest
  pub «end» : part_at ends rest ≡ Closing
  pub text_is : text ≡ spans_text spans
  pub len_is : len ≡ spans_len spans

-- Behind spans stands what a string may not hold.
pub record Stops (ends : ℕ → Bool) (bytes : List ℕ) : Type 0 where
  pub spans : List Span
  pub rest : List ℕ
  pub turn : AreInTurn (part_at ends) bytes spans rest
  pub «end» : part_at ends rest ≡ Unfinished

-- Behind spans stands a malformed escape, the first. From it on the string is passed as it stands, up to a last part.
pub record Breaks (ends : ℕ → Bool) (bytes : List ℕ) (offset : ℕ) (last : Part) : Type 0 where
  pub spans : List Span
  pub raw_spans : List Span
  pub broken : List ℕ
  pub rest : List ℕ
  pub turn : AreInTurn (part_at ends) bytes spans broken
  pub malformed : part_at ends broken ≡ Malformed
  pub offset_is : offset ≡ spans_len spans
  pub raw_turn : AreInTurn (raw_part_at ends) broken raw_spans rest
  pub «end» : raw_part_at ends rest ≡ last

-- A string has an end where one stands behind its spans, or behind a malformed escape as the bytes stand.
abbrev pub HasBody : (ends : ℕ → Bool) → (bytes : List ℕ) → Body → Type 0
HasBody ends bytes (Closed text len) = Closes ends bytes text len
HasBody ends bytes Unclosed = Stops ends bytes ⊎ ((offset : ℕ) × Breaks ends bytes offset Unfinished)
HasBody ends bytes (Broken offset) = Breaks ends bytes offset Closing

-- CR LF becomes LF
abbrev pub unix_lines : List ℕ → List ℕ
unix_lines [] = []
unix_lines (b ∷ bs) = if nat_eq b 13 && begins is_line_feed bs then unix_lines bs else b ∷ unix_lines bs

abbrev pub without_first_feed : List ℕ → List ℕ
without_first_feed [] = []
without_first_feed (b ∷ bs) = if nat_eq b 10 then bs else b ∷ bs

-- what stands between the brackets of a long string, as the string's text: CR LF becomes LF, and a line end at the front
-- is dropped
abbrev pub long_text : List ℕ → List ℕ
long_text bytes = without_first_feed (unix_lines bytes)
