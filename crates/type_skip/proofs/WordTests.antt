-- What a test for a word says.
use Rattle.std.proofs.Common.{◌≡◌, ◌≢◌, Bool, true, false, Option, Some, refl, sym, ap, ◌∙◌, true≢false}
use Rattle.syntax_tree.specs.declared.token.TokenKind.{TokenKind}
use Rattle.syntax_tree.specs.declared.token.TokenKind.TheVariants as token
use Rattle.type_skip.specs.declared.words.Word.{Word}
use Rattle.type_skip.specs.declared.words.Word.TheVariants as word
use Rattle.type_skip.specs.Words.{token_of, is_word}

pub has : (w : Word) (o : Option TokenKind) → is_word w o ≡ true → o ≡ Some (token_of w)
has word.Do (Some token.Do) h = refl
has word.Else (Some token.Else) h = refl
has word.ElseIf (Some token.ElseIf) h = refl
has word.End (Some token.End) h = refl
has word.Function (Some token.Function) h = refl
has word.Greater (Some token.Greater) h = refl
has word.If (Some token.If) h = refl
has word.In (Some token.In) h = refl
has word.Less (Some token.Less) h = refl
has word.Then (Some token.Then) h = refl
has word.Until (Some token.Until) h = refl
has word.Arrow (Some token.Arrow) h = refl
has word.Caret (Some token.Caret) h = refl
has word.CloseBrace (Some token.CloseBrace) h = refl
has word.CloseBracket (Some token.CloseBracket) h = refl
has word.CloseParen (Some token.CloseParen) h = refl
has word.Colon (Some token.Colon) h = refl
has word.Comma (Some token.Comma) h = refl
has word.Dot (Some token.Dot) h = refl
has word.DoubleColon (Some token.DoubleColon) h = refl
has word.DoubleDot (Some token.DoubleDot) h = refl
has word.Equal (Some token.Equal) h = refl
has word.OpenBrace (Some token.OpenBrace) h = refl
has word.OpenBracket (Some token.OpenBracket) h = refl
has word.OpenParen (Some token.OpenParen) h = refl
has word.Question (Some token.Question) h = refl
has word.Semicolon (Some token.Semicolon) h = refl
has word.TripleDot (Some token.TripleDot) h = refl
has _ _ h = absurd (true≢false (sym h))

pub is_itself : (w : Word) → is_word w (Some (token_of w)) ≡ true
is_itself word.Do = refl
is_itself word.Else = refl
is_itself word.ElseIf = refl
is_itself word.End = refl
is_itself word.Function = refl
is_itself word.Greater = refl
is_itself word.If = refl
is_itself word.In = refl
is_itself word.Less = refl
is_itself word.Then = refl
is_itself word.Until = refl
is_itself word.Arrow = refl
is_itself word.Caret = refl
is_itself word.CloseBrace = refl
is_itself word.CloseBracket = refl
is_itself word.CloseParen = refl
is_itself word.Colon = refl
is_itself word.Comma = refl
is_itself word.Dot = refl
is_itself word.DoubleColon = refl
is_itself word.DoubleDot = refl
is_itself word.Equal = refl
is_itself word.OpenBrace = refl
is_itself word.OpenBracket = refl
is_itself word.OpenParen = refl
is_itself word.Question = refl
is_itself word.Semicolon = refl
is_itself word.TripleDot = refl

pub lacks : (w : Word) (o : Option TokenKind) → is_word w o ≡ false → o ≢ Some (token_of w)
lacks w o h = λ there. true≢false (sym (is_itself w) ∙ ap (is_word w) (sym there) ∙ h)

-- the converses
pub stands_there : (w : Word) (o : Option TokenKind) → o ≡ Some (token_of w) → is_word w o ≡ true
stands_there w o h = ap (is_word w) h ∙ is_itself w

pub stands_not : (w : Word) (o : Option TokenKind) → o ≢ Some (token_of w) → is_word w o ≡ false
stands_not w o no_word = decide (is_word w o) refl
  where
    decide : (b : Bool) → is_word w o ≡ b → b ≡ false
    decide false h = refl
    decide true h = absurd (no_word (has w o h))
