-- Reserved words and symbols as tokens.
use Rattle.std.specs.Prelude.{Bool, true, false, Option, Some}
use Rattle.syntax_tree.specs.declared.token.TokenKind.{TokenKind}
use Rattle.syntax_tree.specs.declared.token.TokenKind.TheVariants as token
use Rattle.type_skip.specs.declared.words.Word.{Word}
use Rattle.type_skip.specs.declared.words.Word.TheVariants as word

abbrev pub token_of : Word → TokenKind
token_of word.Do = token.Do
token_of word.Else = token.Else
token_of word.ElseIf = token.ElseIf
token_of word.End = token.End
token_of word.Function = token.Function
token_of word.Greater = token.Greater
token_of word.If = token.If
token_of word.In = token.In
token_of word.Less = token.Less
token_of word.Then = token.Then
token_of word.Until = token.Until
token_of word.Arrow = token.Arrow
token_of word.Caret = token.Caret
token_of word.CloseBrace = token.CloseBrace
token_of word.CloseBracket = token.CloseBracket
token_of word.CloseParen = token.CloseParen
token_of word.Colon = token.Colon
token_of word.Comma = token.Comma
token_of word.Dot = token.Dot
token_of word.DoubleColon = token.DoubleColon
token_of word.DoubleDot = token.DoubleDot
token_of word.Equal = token.Equal
token_of word.OpenBrace = token.OpenBrace
token_of word.OpenBracket = token.OpenBracket
token_of word.OpenParen = token.OpenParen
token_of word.Question = token.Question
token_of word.Semicolon = token.Semicolon
token_of word.TripleDot = token.TripleDot

-- whether a token is that of a word
abbrev pub is_word : Word → Option TokenKind → Bool
is_word word.Do (Some token.Do) = true
is_word word.Else (Some token.Else) = true
is_word word.ElseIf (Some token.ElseIf) = true
is_word word.End (Some token.End) = true
is_word word.Function (Some token.Function) = true
is_word word.Greater (Some token.Greater) = true
is_word word.If (Some token.If) = true
is_word word.In (Some token.In) = true
is_word word.Less (Some token.Less) = true
is_word word.Then (Some token.Then) = true
is_word word.Until (Some token.Until) = true
is_word word.Arrow (Some token.Arrow) = true
is_word word.Caret (Some token.Caret) = true
is_word word.CloseBrace (Some token.CloseBrace) = true
is_word word.CloseBracket (Some token.CloseBracket) = true
is_word word.CloseParen (Some token.CloseParen) = true
is_word word.Colon (Some token.Colon) = true
is_word word.Comma (Some token.Comma) = true
is_word word.Dot (Some token.Dot) = true
is_word word.DoubleColon (Some token.DoubleColon) = true
is_word word.DoubleDot (Some token.DoubleDot) = true
is_word word.Equal (Some token.Equal) = true
is_word word.OpenBrace (Some token.OpenBrace) = true
is_word word.OpenBracket (Some token.OpenBracket) = true
is_word word.OpenParen (Some token.OpenParen) = true
is_word word.Question (Some token.Question) = true
is_word word.Semicolon (Some token.Semicolon) = true
is_word word.TripleDot (Some token.TripleDot) = true
is_word _ _ = false
