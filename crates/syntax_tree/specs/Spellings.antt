-- What a whole text spells: blanks, comments and tokens in turn, each the longest that its form allows at its place, and
-- the first place where no form applies.
use Rattle.std.specs.Prelude.{◌≡◌, ℕ, ◌+◌, ◌-◌, nat_eq, Bool, true, false, ◌&&◌, ◌||◌, List, [], ◌∷◌, ◌++◌, length, take, drop, Option, Some, None, slice_get, if◌then◌else◌}
use Rattle.whole_num.specs.Literals.{ReadsLiteral}
use Rattle.whole_num.specs.declared.literal.Read.{Read}
use Rattle.whole_num.specs.declared.literal.Read.TheVariants as read
use Rattle.syntax_tree.specs.declared.token.TokenKind.{TokenKind}
use Rattle.syntax_tree.specs.declared.token.TokenKind.TheVariants as kind
use Rattle.syntax_tree.specs.declared.fault.Cause.TheVariants.{BadByte, UnfinishedString, BadEscape, UnfinishedComment, BadNumber, NotWholeLiteral, LiteralRange, DoubleBrace}
use Rattle.syntax_tree.specs.declared.fault.Refusal.{Refusal}
use Rattle.syntax_tree.specs.declared.form.Form.{Form}
use Rattle.syntax_tree.specs.declared.form.Form.TheVariants as form
use Rattle.syntax_tree.specs.declared.form.Opener.{Opener}
use Rattle.syntax_tree.specs.declared.form.Opener.TheVariants as opener
use Rattle.syntax_tree.specs.Causes.{refused}
use Rattle.syntax_tree.specs.Bytes.{is_blank, is_name_start, begins, line_feeds}
use Rattle.syntax_tree.specs.Gaps.{blanks_len, line_len, opening_level, closing_place, begins_comment}
use Rattle.syntax_tree.specs.Plain.{Word, Fixed, Numeral, Text, BeginPiece, MidPiece, EndPiece, WholePiece, name_len, word_of, symbol_at, begins_number, number_len}
use Rattle.syntax_tree.specs.Strings.{Body, Closed, Unclosed, Broken, HasBody, long_text}

-- How far a text was read: the bytes that are left, the offset and the line of the first of them, and the open braces,
-- the innermost last. A brace is the symbol, or it begins an expression of an interpolated string.
pub record Place : Type 0 where
  pub bytes : List ℕ
  pub at : ℕ
  pub line : ℕ
  pub braces : List Opener

abbrev pub start : List ℕ → Place
start bytes = record { bytes = bytes; at = 0; line = 1; braces = [] }

-- a blank or comment of some length, or a token of some length with the braces that are open behind it
pub data Step : Type 0 where
  Gap : (len : ℕ) → Step
  Lexeme : (word : Word) (len : ℕ) (braces : List Opener) → Step

-- what stands at a place: something that is passed, the text's end, or a fault
pub data What : Type 0 where
  Passes : Step → What
  Ends : What
  Fails : Refusal → What

-- the place so many bytes further, with these open braces
abbrev pub further : ℕ → List Opener → Place → Place
further len braces p = record {
  bytes = drop len p.bytes;
  at = p.at + len;
  line = p.line + line_feeds (take len p.bytes);
  braces = braces;
}

abbrev pub behind : Place → Step → Place
behind p (Gap len) = further len p.braces p
behind p (Lexeme word len braces) = further len braces p

-- the braces without the innermost
abbrev pub outer : List Opener → List Opener
outer braces = take (length braces - 1) braces

abbrev pub is_piece : Option Opener → Bool
is_piece (Some opener.Piece) = true
is_piece _ = false

-- whether a `}` here ends an expression of an interpolated string
abbrev pub ends_expression : List Opener → Bool
ends_expression braces = is_piece (slice_get braces (length braces - 1))

-- the braces behind a symbol
abbrev pub braces_behind : TokenKind → List Opener → List Opener
braces_behind kind.OpenBrace braces = braces ++ opener.Brace ∷ []
braces_behind kind.CloseBrace braces = outer braces
braces_behind _ braces = braces

-- the comment that begins behind the two `-`
abbrev pub comment_form : Option ℕ → Form
comment_form None = form.LineComment
comment_form (Some level) = form.LongComment level

-- what begins with `[`
abbrev pub bracket_form : Option ℕ → Form
bracket_form None = form.Symbol
bracket_form (Some level) = form.LongString level

-- The form that the first bytes begin: a blank; `--`, and then a bracket that opens or none; a letter or `_`; a digit, or
-- a point and a digit; `"` or `'`; a backquote; `[`, where a long bracket opens; a `}` that ends an expression. Anything
-- else is a symbol, or no token.
abbrev pub form_of : List ℕ → List Opener → Form
form_of [] braces = form.Finished
form_of (b ∷ bs) braces =
    if is_blank b then form.Blanks else (if begins_comment (b ∷ bs) then comment_form (opening_level (drop 2 (b ∷ bs))) else (if is_name_start b then form.Name else (if begins_number (b ∷ bs) then form.Number else (if nat_eq b 34 || nat_eq b 39 then form.Quoted b else (if nat_eq b 96 then form.FirstPiece else (if nat_eq b 91 then bracket_form (opening_level (b ∷ bs)) else (if nat_eq b 125 && ends_expression braces then form.NextPiece else form.Symbol)))))))

-- A long comment, with the place of its closing bracket behind the opening one: two `-`, the bracket, what stands between,
-- and the bracket. It has no end where there is no place.
abbrev pub long_comment : Place → (level : ℕ) → Option ℕ → What
long_comment p level None = Fails (refused UnfinishedComment p.at)
long_comment p level (Some k) = Passes (Gap (2 + (level + 2) + k + (level + 2)))

-- a long string, in the same way
abbrev pub long_string : Place → (level : ℕ) → Option ℕ → What
long_string p level None = Fails (refused UnfinishedString p.at)
long_string p level (Some k) =
    Passes (Lexeme (Text (long_text (take k (drop (level + 2) p.bytes)))) (level + 2 + k + (level + 2)) p.braces)

-- a number, by what its bytes are read as
abbrev pub number : Place → (len : ℕ) → Read → What
number p len (read.Whole n) = Passes (Lexeme (Numeral n) len p.braces)
number p len read.NotWhole = Fails (refused NotWholeLiteral p.at)
number p len read.OutOfRange = Fails (refused LiteralRange p.at)
number p len read.NotNumber = Fails (refused BadNumber p.at)

-- a symbol; where there is none, the byte is a fault
abbrev pub symbol : Place → Option (List ℕ × TokenKind) → What
symbol p None = Fails (refused BadByte p.at)
symbol p (Some e) = Passes (Lexeme (Fixed e.1) (length e.0) (braces_behind e.1 p.braces))

-- a string in quotes, by its body between them
abbrev pub quoted : Place → Body → What
quoted p (Closed text len) = Passes (Lexeme (Text text) (len + 2) p.braces)
quoted p Unclosed = Fails (refused UnfinishedString p.at)
quoted p (Broken offset) = Fails (refused BadEscape (p.at + 1 + offset))

-- the two bytes `{{`
abbrev pub begins_two_braces : List ℕ → Bool
begins_two_braces [] = false
begins_two_braces (b ∷ bs) = nat_eq b 123 && begins (λ c. nat_eq c 123) bs

-- A piece of an interpolated string ends at a backquote, which ends the string, or at a `{`, which begins an expression.
-- A piece is the first one, or stands behind an expression.
abbrev pub first_piece : Place → Body → What
first_piece p (Closed text len) =
    if begins_two_braces (drop (1 + len) p.bytes) then Fails (refused DoubleBrace (p.at + 1 + len)) else (if begins (λ b. nat_eq b 123) (drop (1 + len) p.bytes) then Passes (Lexeme (BeginPiece text) (len + 2) (p.braces ++ opener.Piece ∷ [])) else Passes (Lexeme (WholePiece text) (len + 2) p.braces))
first_piece p Unclosed = Fails (refused UnfinishedString p.at)
first_piece p (Broken offset) = Fails (refused BadEscape (p.at + 1 + offset))

abbrev pub next_piece : Place → Body → What
next_piece p (Closed text len) =
    if begins_two_braces (drop (1 + len) p.bytes) then Fails (refused DoubleBrace (p.at + 1 + len)) else (if begins (λ b. nat_eq b 123) (drop (1 + len) p.bytes) then Passes (Lexeme (MidPiece text) (len + 2) p.braces) else Passes (Lexeme (EndPiece text) (len + 2) (outer p.braces)))
next_piece p Unclosed = Fails (refused UnfinishedString p.at)
next_piece p (Broken offset) = Fails (refused BadEscape (p.at + 1 + offset))

-- the byte that ends a piece: a backquote or `{`
abbrev pub ends_piece : ℕ → Bool
ends_piece b = nat_eq b 96 || nat_eq b 123

-- the body of a string behind its opening byte, and what that makes of the string
pub record StandsAsString (ends : ℕ → Bool) (makes : Body → What) (bytes : List ℕ) (what : What) : Type 0 where
  pub body : Body
  pub has_body : HasBody ends (drop 1 bytes) body
  pub is : what ≡ makes body

-- the number that a number's bytes are read as
pub record StandsAsNumber (p : Place) (len : ℕ) (what : What) : Type 0 where
  pub value : Read
  pub reads : ReadsLiteral (take len p.bytes) value
  pub is : what ≡ number p len value

-- what stands at a place, by its form
abbrev pub StandsAs : Form → Place → What → Type 0
StandsAs form.Finished p what = what ≡ Ends
StandsAs form.Blanks p what = what ≡ Passes (Gap (blanks_len p.bytes))
StandsAs form.LineComment p what = what ≡ Passes (Gap (line_len p.bytes))
StandsAs (form.LongComment level) p what =
    what ≡ long_comment p level (closing_place level (drop (2 + (level + 2)) p.bytes))
StandsAs form.Name p what =
    what ≡ Passes (Lexeme (word_of (take (name_len p.bytes) p.bytes)) (name_len p.bytes) p.braces)
StandsAs form.Number p what = StandsAsNumber p (number_len p.bytes) what
StandsAs (form.Quoted quote) p what = StandsAsString (λ b. nat_eq b quote) (quoted p) p.bytes what
StandsAs (form.LongString level) p what =
    what ≡ long_string p level (closing_place level (drop (level + 2) p.bytes))
StandsAs form.FirstPiece p what = StandsAsString ends_piece (first_piece p) p.bytes what
StandsAs form.NextPiece p what = StandsAsString ends_piece (next_piece p) p.bytes what
StandsAs form.Symbol p what = what ≡ symbol p (symbol_at p.bytes)

abbrev pub Stands : Place → What → Type 0
Stands p what = StandsAs (form_of p.bytes p.braces) p what

-- from one place to another these stand in turn
abbrev pub StandInTurn : Place → List Step → Place → Type 0
StandInTurn p [] q = p ≡ q
StandInTurn p (s ∷ ss) q = Stands p (Passes s) × StandInTurn (behind p s) ss q

-- a token without its text's number
pub record Spelled : Type 0 where
  pub word : Word
  pub at : ℕ
  pub «end» : ℕ
  pub line : ℕ
  pub last : ℕ

-- a token that stands at a place; none ends in a line feed, so its last byte is on the line behind all that end in it
abbrev pub spelled : Place → Word → (len : ℕ) → Spelled
spelled p word len = record {
  word = word;
  at = p.at;
  «end» = p.at + len;
  line = p.line;
  last = p.line + line_feeds (take len p.bytes);
}

-- the tokens among what stands in turn
abbrev pub tokens_of : Place → List Step → List Spelled
tokens_of p [] = []
tokens_of p (Gap len ∷ ss) = tokens_of (behind p (Gap len)) ss
tokens_of p (Lexeme word len braces ∷ ss) = spelled p word len ∷ tokens_of (behind p (Lexeme word len braces)) ss

-- the whole text spells these tokens
pub record Spells (bytes : List ℕ) (tokens : List Spelled) : Type 0 where
  pub steps : List Step
  pub to : Place
  pub turn : StandInTurn (start bytes) steps to
  pub «end» : Stands to Ends
  pub tokens_are : tokens ≡ tokens_of (start bytes) steps

-- the first place where no form applies, with why and where it shows
pub record HasFault (bytes : List ℕ) (fault : Refusal) : Type 0 where
  pub steps : List Step
  pub to : Place
  pub turn : StandInTurn (start bytes) steps to
  pub fails : Stands to (Fails fault)
