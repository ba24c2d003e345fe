-- Of the crate's own functions: what those that read strings find, as the definitions say it.
use Rattle.std.specs.Prelude.{◌≡◌, ℕ, ◌<◌, ◌≤◌, nat_eq, Bool, List, [], ◌∷◌}
use Rattle.luau_lexer.specs.declared.strings.Meaning.{Meaning}
use Rattle.luau_lexer.specs.declared.strings.Meaning.TheVariants as meaning
use Rattle.luau_lexer.specs.declared.strings.Part.{Part as Found}
use Rattle.luau_lexer.specs.declared.strings.Part.TheVariants as found
use Rattle.luau_lexer.specs.declared.strings.End.{End}
use Rattle.luau_lexer.specs.declared.strings.End.TheVariants as ending
use Rattle.luau_lexer.specs.declared.strings.Body.{Body as Read}
use Rattle.luau_lexer.specs.declared.strings.Body.TheVariants as read
use Rattle.syntax_tree.specs.Strings.{Part, Inner, Closing, Malformed, Unfinished, Body, Closed, Unclosed, Broken, Span, AreInTurn, raw_part_at, utf8}
use Rattle.syntax_tree.specs.Spellings.{ends_piece}

-- the bytes that a part stands for
abbrev pub meant : Meaning → List ℕ
meant meaning.Nothing = []
meant (meaning.Byte b) = b ∷ []
meant (meaning.Code c) = utf8 c

abbrev pub part_of : Found → Part
part_of (found.Inner len m) = Inner len (meant m)
part_of found.Closing = Closing
part_of found.Malformed = Malformed
part_of found.Unfinished = Unfinished

-- a code point is one of Unicode's
abbrev pub IsMeaning : Meaning → Type 0
IsMeaning (meaning.Code c) = c ≤ 0x10FFFF
IsMeaning _ = Unit {0}

-- a part that is passed has some bytes, and no more than there are
abbrev pub IsWithin : Found → ℕ → Type 0
IsWithin (found.Inner len m) room = (0 < len) × (len ≤ room) × IsMeaning m
IsWithin found.Closing room = 0 < room
IsWithin _ room = Unit {0}

abbrev pub ends_at : End → ℕ → Bool
ends_at (ending.Quote quote) = λ b. nat_eq b quote
ends_at ending.Piece = ends_piece

abbrev pub body_of : Read → Body
body_of (read.Closed text len) = Closed text.items len
body_of read.Unclosed = Unclosed
body_of (read.Broken offset) = Broken offset

-- the byte that closes a body stands behind it, and a malformed escape within
abbrev pub IsBodyWithin : Read → ℕ → Type 0
IsBodyWithin (read.Closed text len) room = len < room
IsBodyWithin (read.Broken offset) room = offset ≤ room
IsBodyWithin _ room = Unit {0}

-- behind a malformed escape the string is passed as it stands up to a part
pub record PassesTo (ends : ℕ → Bool) (last : Part) (broken : List ℕ) : Type 0 where
  pub spans : List Span
  pub rest : List ℕ
  pub turn : AreInTurn (raw_part_at ends) broken spans rest
  pub «end» : raw_part_at ends rest ≡ last

-- what a string is whose first malformed escape stands at an offset, where these bytes are
abbrev pub IsBroken : (ends : ℕ → Bool) → (broken : List ℕ) → (offset : ℕ) → Body → Type 0
IsBroken ends broken offset (Broken k) = (k ≡ offset) × PassesTo ends Closing broken
IsBroken ends broken offset Unclosed = PassesTo ends Unfinished broken
IsBroken ends broken offset (Closed text len) = ⊥
