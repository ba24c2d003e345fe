-- Tokens with the numbers of their texts, and how an interner gets these.
use Rattle.std.specs.Prelude.{◌≡◌, ℕ, List, [], ◌∷◌, Some, slice_get}
use Rattle.byte_text.specs.Texts.{fixed_texts, noted}
use Rattle.byte_text.specs.declared.StrId.{StrId}
use Rattle.syntax_tree.specs.declared.token.Token.{Token}
use Rattle.syntax_tree.specs.declared.token.TokenKind.{TokenKind}
use Rattle.syntax_tree.specs.declared.token.TokenKind.TheVariants.{Name, Number, Str, InterpBegin, InterpMid, InterpEnd, InterpWhole}
use Rattle.syntax_tree.specs.Plain.{Word, Fixed, Named, Numeral, Text, BeginPiece, MidPiece, EndPiece, WholePiece}
use Rattle.syntax_tree.specs.Spellings.{Spelled, Spells}

-- a kind of token with the number of a text
pub record IsTexted (texts : List (List ℕ)) (of : StrId → TokenKind) (text : List ℕ) (kind : TokenKind) : Type 0 where
  pub id : StrId
  pub is : kind ≡ of id
  pub there : slice_get texts id.0 ≡ Some text

-- the kind says what the word says, by the numbers that texts have
abbrev pub IsKind : (texts : List (List ℕ)) → Word → TokenKind → Type 0
IsKind texts (Fixed k) kind = kind ≡ k
IsKind texts (Named text) kind = IsTexted texts Name text kind
IsKind texts (Numeral n) kind = kind ≡ Number n
IsKind texts (Text text) kind = IsTexted texts Str text kind
IsKind texts (BeginPiece text) kind = IsTexted texts InterpBegin text kind
IsKind texts (MidPiece text) kind = IsTexted texts InterpMid text kind
IsKind texts (EndPiece text) kind = IsTexted texts InterpEnd text kind
IsKind texts (WholePiece text) kind = IsTexted texts InterpWhole text kind

pub record IsToken (texts : List (List ℕ)) (spelled : Spelled) (token : Token) : Type 0 where
  pub kind : IsKind texts spelled.word token.kind
  pub at : token.at ≡ spelled.at
  pub «end» : token.end ≡ spelled.end
  pub line : token.line ≡ spelled.line
  pub last : token.last ≡ spelled.last

-- the tokens are the spelled ones, one by one
abbrev pub AreTokens : (texts : List (List ℕ)) → List Spelled → List Token → Type 0
AreTokens texts [] [] = Unit {0}
AreTokens texts (s ∷ ss) (t ∷ ts) = IsToken texts s t × AreTokens texts ss ts
AreTokens texts _ _ = ⊥

-- the texts with numbers behind a word: if it carries a text, that is noted
abbrev pub texts_behind : List (List ℕ) → Word → List (List ℕ)
texts_behind texts (Fixed k) = texts
texts_behind texts (Named text) = noted texts text
texts_behind texts (Numeral n) = texts
texts_behind texts (Text text) = noted texts text
texts_behind texts (BeginPiece text) = noted texts text
texts_behind texts (MidPiece text) = noted texts text
texts_behind texts (EndPiece text) = noted texts text
texts_behind texts (WholePiece text) = noted texts text

-- the texts with numbers after the tokens of a text, in order
abbrev pub texts_after : List (List ℕ) → List Spelled → List (List ℕ)
texts_after texts [] = texts
texts_after texts (s ∷ ss) = texts_after (texts_behind texts s.word) ss

-- the tokens of a text, with the numbers that an interner gives that held the fixed texts alone
pub record HasTokens (bytes : List ℕ) (tokens : List Token) : Type 0 where
  pub spelled : List Spelled
  pub spells : Spells bytes spelled
  pub tokens_are : AreTokens (texts_after fixed_texts spelled) spelled tokens
