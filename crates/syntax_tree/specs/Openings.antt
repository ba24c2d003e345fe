-- The opening tokens: those that may open a node that counts in the nest of a tree, or a bracket of a type.
use Rattle.std.specs.Prelude.{ℕ, zero, suc, ◌+◌, List, Option, Some}
use Rattle.syntax_tree.specs.declared.token.Token.{Token}
use Rattle.syntax_tree.specs.declared.token.TokenKind.{TokenKind}
use Rattle.syntax_tree.specs.declared.token.TokenKind.TheVariants as token
use Rattle.syntax_tree.specs.Places.{kind_at}

-- how many nodes a token may open: a `{` that calls opens the call and the table
abbrev pub weight : Option TokenKind → ℕ
weight (Some token.OpenBrace) = 2
weight (Some token.OpenParen) = 1
weight (Some token.OpenBracket) = 1
weight (Some token.Dot) = 1
weight (Some token.Colon) = 1
weight (Some token.DoubleColon) = 1
weight (Some (token.InterpBegin x)) = 1
weight (Some (token.InterpWhole x)) = 1
weight (Some (token.Str x)) = 1
weight (Some token.And) = 1
weight (Some token.Or) = 1
weight (Some token.Not) = 1
weight (Some token.Plus) = 1
weight (Some token.Minus) = 1
weight (Some token.Star) = 1
weight (Some token.Slash) = 1
weight (Some token.DoubleSlash) = 1
weight (Some token.Percent) = 1
weight (Some token.Caret) = 1
weight (Some token.Hash) = 1
weight (Some token.EqualEqual) = 1
weight (Some token.NotEqual) = 1
weight (Some token.LessEqual) = 1
weight (Some token.GreaterEqual) = 1
weight (Some token.Less) = 1
weight (Some token.Greater) = 1
weight (Some token.DoubleDot) = 1
weight (Some token.Do) = 1
weight (Some token.While) = 1
weight (Some token.Repeat) = 1
weight (Some token.If) = 1
weight (Some token.For) = 1
weight (Some token.Function) = 1
weight _ = 0

-- how many nodes the first k tokens may open
abbrev pub openings : List Token → (k : ℕ) → ℕ
openings ts zero = 0
openings ts (suc k) = weight (kind_at ts k) + openings ts k
