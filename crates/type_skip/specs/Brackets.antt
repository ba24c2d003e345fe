-- How many opening brackets stand before a place.
use Rattle.std.specs.Prelude.{ℕ, zero, suc, ◌+◌, Bool, true, false, List, Option, Some, if◌then◌else◌}
use Rattle.syntax_tree.specs.declared.token.Token.{Token}
use Rattle.syntax_tree.specs.declared.token.TokenKind.{TokenKind}
use Rattle.syntax_tree.specs.declared.token.TokenKind.TheVariants as token
use Rattle.syntax_tree.specs.Places.{kind_at}

-- a `(`, a `[`, a `{` or a `<`
abbrev pub opens_bracket : Option TokenKind → Bool
opens_bracket (Some token.OpenParen) = true
opens_bracket (Some token.OpenBracket) = true
opens_bracket (Some token.OpenBrace) = true
opens_bracket (Some token.Less) = true
opens_bracket _ = false

-- how many of the first k tokens are such brackets
abbrev pub brackets : List Token → (k : ℕ) → ℕ
brackets ts zero = 0
brackets ts (suc k) = (if opens_bracket (kind_at ts k) then 1 else 0) + brackets ts k
