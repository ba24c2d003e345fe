-- Of the crate's own functions: how balanced tokens go on, token by token.
use Rattle.std.specs.Prelude.{ℕ, zero, suc, Option, Some, None, if◌then◌else◌}
use Rattle.syntax_tree.specs.declared.token.TokenKind.{TokenKind}
use Rattle.syntax_tree.specs.declared.token.TokenKind.TheVariants as token
use Rattle.type_skip.specs.declared.balanced.Class.{Class}
use Rattle.type_skip.specs.declared.balanced.Class.TheVariants.{Plain, Begin, Mid, End, Open, Close, Nothing}
use Rattle.type_skip.specs.declared.balanced.Turn.{Turn}
use Rattle.type_skip.specs.declared.balanced.Turn.TheVariants.{Pass, Nest, Done, Stuck}
use Rattle.type_skip.specs.declared.words.Word.{Word}
use Rattle.type_skip.specs.declared.words.Word.TheVariants as word
use Rattle.type_skip.specs.Words.{is_word, token_of}

abbrev pub class_of : Option TokenKind → Class
class_of None = Nothing
class_of (Some token.OpenParen) = Open word.CloseParen
class_of (Some token.OpenBracket) = Open word.CloseBracket
class_of (Some token.OpenBrace) = Open word.CloseBrace
class_of (Some token.CloseParen) = Close word.CloseParen
class_of (Some token.CloseBracket) = Close word.CloseBracket
class_of (Some token.CloseBrace) = Close word.CloseBrace
class_of (Some (token.InterpBegin x)) = Begin
class_of (Some (token.InterpMid x)) = Mid
class_of (Some (token.InterpEnd x)) = End
class_of (Some _) = Plain

-- where so many interpolated strings are not at their end, and this bracket is to close the tokens
abbrev pub turn_of : Class → (strings : ℕ) → Word → Turn
turn_of Plain n close = Pass n
turn_of Begin n close = Pass (suc n)
turn_of Mid zero close = Stuck
turn_of Mid (suc n) close = Pass (suc n)
turn_of End zero close = Stuck
turn_of End (suc n) close = Pass n
turn_of (Open inner) n close = Nest inner
turn_of (Close bracket) zero close = if is_word bracket (Some (token_of close)) then Done else Stuck
turn_of (Close bracket) (suc n) close = Stuck
turn_of Nothing n close = Stuck
