-- Names, reserved words, symbols and numbers: how long each is at the front of a text.
use Rattle.std.specs.Prelude.{ℕ, ℤ, ◌+◌, nat_eq, Bool, false, ◌&&◌, ◌||◌, List, [], ◌∷◌, drop, Option, Some, None, codes, if◌then◌else◌}
use Rattle.std.specs.List.{prefix_len, starts_with}
use Rattle.std.specs.Str.{bytes_eq}
use Rattle.syntax_tree.specs.declared.token.TokenKind.{TokenKind}
use Rattle.syntax_tree.specs.declared.token.TokenKind.TheVariants as kind
use Rattle.syntax_tree.specs.Bytes.{is_digit, is_name_byte, is_number_byte, begins}

-- What a token says, with its text in place of the text's number: a reserved word or a symbol, a name, a number, a
-- string, or a piece of an interpolated string: the first, one in the middle, the last, or the only one.
pub data Word : Type 0 where
  Fixed : TokenKind → Word
  Named : List ℕ → Word
  Numeral : ℤ → Word
  Text : List ℕ → Word
  BeginPiece : List ℕ → Word
  MidPiece : List ℕ → Word
  EndPiece : List ℕ → Word
  WholePiece : List ℕ → Word

-- how long the name at the front is: all letters, digits and `_` that stand there
abbrev pub name_len : List ℕ → ℕ
name_len bytes = prefix_len is_name_byte bytes

-- the words that are no names
abbrev pub reserved : List (List ℕ × TokenKind)
reserved =
    (codes "and", kind.And) ∷ (codes "break", kind.Break) ∷ (codes "do", kind.Do) ∷ (codes "else", kind.Else) ∷ (codes "elseif", kind.ElseIf) ∷ (codes "end", kind.End) ∷ (codes "false", kind.False) ∷ (codes "for", kind.For) ∷ (codes "function", kind.Function) ∷ (codes "if", kind.If) ∷ (codes "in", kind.In) ∷ (codes "local", kind.Local) ∷ (codes "nil", kind.Nil) ∷ (codes "not", kind.Not) ∷ (codes "or", kind.Or) ∷ (codes "repeat", kind.Repeat) ∷ (codes "return", kind.Return) ∷ (codes "then", kind.Then) ∷ (codes "true", kind.True) ∷ (codes "until", kind.Until) ∷ (codes "while", kind.While) ∷ []

-- the symbols, longer ones first
abbrev pub symbols : List (List ℕ × TokenKind)
symbols =
    (codes "...", kind.TripleDot) ∷ (codes "..=", kind.DoubleDotEqual) ∷ (codes "//=", kind.DoubleSlashEqual) ∷ (codes "//", kind.DoubleSlash) ∷ (codes "==", kind.EqualEqual) ∷ (codes "~=", kind.NotEqual) ∷ (codes "<=", kind.LessEqual) ∷ (codes ">=", kind.GreaterEqual) ∷ (codes "::", kind.DoubleColon) ∷ (codes "..", kind.DoubleDot) ∷ (codes "+=", kind.PlusEqual) ∷ (codes "-=", kind.MinusEqual) ∷ (codes "*=", kind.StarEqual) ∷ (codes "/=", kind.SlashEqual) ∷ (codes "%=", kind.PercentEqual) ∷ (codes "^=", kind.CaretEqual) ∷ (codes "->", kind.Arrow) ∷ (codes "+", kind.Plus) ∷ (codes "-", kind.Minus) ∷ (codes "*", kind.Star) ∷ (codes "/", kind.Slash) ∷ (codes "%", kind.Percent) ∷ (codes "^", kind.Caret) ∷ (codes "#", kind.Hash) ∷ (codes "<", kind.Less) ∷ (codes ">", kind.Greater) ∷ (codes "=", kind.Equal) ∷ (codes "(", kind.OpenParen) ∷ (codes ")", kind.CloseParen) ∷ (codes "{", kind.OpenBrace) ∷ (codes "}", kind.CloseBrace) ∷ (codes "[", kind.OpenBracket) ∷ (codes "]", kind.CloseBracket) ∷ (codes ";", kind.Semicolon) ∷ (codes ":", kind.Colon) ∷ (codes ",", kind.Comma) ∷ (codes ".", kind.Dot) ∷ (codes "|", kind.Pipe) ∷ (codes "&", kind.Ampersand) ∷ (codes "?", kind.Question) ∷ []

-- the first entry of a table whose spelling passes a test
abbrev pub first_entry : (List ℕ → Bool) → List (List ℕ × TokenKind) → Option (List ℕ × TokenKind)
first_entry p [] = None
first_entry p (e ∷ es) = if p e.0 then Some e else first_entry p es

-- what a word is, with the entry of the reserved word that it is
abbrev pub word_as : List ℕ → Option (List ℕ × TokenKind) → Word
word_as text None = Named text
word_as text (Some e) = Fixed e.1

-- a word of letters, digits and `_`: the reserved word that it is, and else a name
abbrev pub word_of : List ℕ → Word
word_of text = word_as text (first_entry (bytes_eq text) reserved)

-- the longest symbol with which a text begins
abbrev pub symbol_at : List ℕ → Option (List ℕ × TokenKind)
symbol_at bytes = first_entry (starts_with nat_eq bytes) symbols

-- a number begins with a digit, or with a point and a digit
abbrev pub begins_number : List ℕ → Bool
begins_number [] = false
begins_number (b ∷ bs) = is_digit b || (nat_eq b 46 && begins is_digit bs)

-- how long the `e` or `E` at the front is, with the `+` or `-` if one follows it
abbrev pub exponent_len : List ℕ → ℕ
exponent_len [] = 0
exponent_len (b ∷ bs) =
    if nat_eq b 101 || nat_eq b 69 then (if begins (λ s. nat_eq s 43 || nat_eq s 45) bs then 2 else 1) else 0

-- How long the number at the front is: digits, points and `_`, as many as stand there; behind them `e` or `E` with a
-- sign, if they stand there; and then letters, digits and `_`, as many as stand there.
abbrev pub number_len : List ℕ → ℕ
number_len bytes =
    let head = prefix_len is_number_byte bytes in
    let mark = exponent_len (drop head bytes) in
    head + mark + prefix_len is_name_byte (drop (head + mark) bytes)
