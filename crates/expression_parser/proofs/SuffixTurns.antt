-- The turns behind a part of a prefix.
use Rattle.std.proofs.Common.{◌≡◌, ◌≢◌, ◌≤◌, ◌<◌, ◌+◌, ℕ, IsFalse, List, ◌∷◌, refl, ap, arith, Option, Some}
use Rattle.byte_text.specs.declared.StrId.{StrId}
use Rattle.syntax_tree.specs.declared.token.Token.{Token}
use Rattle.syntax_tree.specs.declared.token.TokenKind.{TokenKind}
use Rattle.syntax_tree.specs.declared.token.TokenKind.TheVariants as token
use Rattle.syntax_tree.specs.Grammar.{PrefixEnd, in_target, in_call}
use Rattle.syntax_tree.specs.Places.{Has}
use Rattle.syntax_tree.specs.Words.{opens_suffix}
use Rattle.parse_steps.specs.declared.classes.Arguments.TheVariants as argument
use Rattle.parse_steps.specs.declared.classes.Suffix.TheVariants as suffix_class
use Rattle.type_skip.specs.declared.words.Word.TheVariants as word
use Rattle.parse_steps.specs.Classes.{suffix, arguments}
use Rattle.parse_steps.specs.Items as item
use Rattle.parse_steps.specs.Items.{Item, PrefixUse, depth}
use Rattle.parse_steps.specs.Steps.{most, InTime, Leads}
use Rattle.parse_steps.specs.Turns.{turn}
use Rattle.expression_parser.specs.declared.fault.Fault.TheVariants as fault
use Rattle.expression_parser.specs.Reading.{Fails}
use Rattle.expression_parser.proofs.Determined.{tag, tags}
use Rattle.expression_parser.proofs.Leading.{taking, deep_here}

-- ---- what the classes of tokens say

pub is_dot : (t : Option TokenKind) → suffix t ≡ suffix_class.Member → t ≡ Some token.Dot
is_dot (Some token.Dot) e = refl
is_dot _ e = absurd cc

pub is_bracket : (t : Option TokenKind) → suffix t ≡ suffix_class.Index → t ≡ Some token.OpenBracket
is_bracket (Some token.OpenBracket) e = refl
is_bracket _ e = absurd cc

pub is_colon : (t : Option TokenKind) → suffix t ≡ suffix_class.Method → t ≡ Some token.Colon
is_colon (Some token.Colon) e = refl
is_colon _ e = absurd cc

pub is_paren : (t : Option TokenKind) → arguments t ≡ argument.Paren → t ≡ Some token.OpenParen
is_paren (Some token.OpenParen) e = refl
is_paren _ e = absurd cc

pub is_brace : (t : Option TokenKind) → arguments t ≡ argument.Table → t ≡ Some token.OpenBrace
is_brace (Some token.OpenBrace) e = refl
is_brace _ e = absurd cc

pub is_text : (t : Option TokenKind) (x : StrId) → arguments t ≡ argument.Text x → t ≡ Some (token.Str x)
is_text (Some (token.Str y)) x e = cc
is_text _ x e = absurd cc

pub opens_none : (t : Option TokenKind) → suffix t ≡ suffix_class.Nothing → IsFalse (opens_suffix t)
opens_none (Some token.Dot) e = absurd cc
opens_none (Some token.OpenBracket) e = absurd cc
opens_none (Some token.Colon) e = absurd cc
opens_none (Some token.OpenParen) e = absurd cc
opens_none (Some token.OpenBrace) e = absurd cc
opens_none (Some (token.Str x)) e = absurd cc
opens_none _ e = refl

-- a token that is no `(` opens no arguments on a later line
pub in_time : (ts : List Token) (i : ℕ) (kind : TokenKind) → Has ts i kind → tag (Some kind) ≢ tag (Some token.OpenParen) → InTime ts i
in_time ts i kind stands other p e late = other (tags ts kind token.OpenParen e stands late.opens)

-- ---- `.` and a name

pub to_name : (ts : List Token) (c : PrefixEnd) (u : PrefixUse) (i v room : ℕ) (k : List Item) → Has ts i token.Dot → v < room
    → depth k + room ≡ most
    → Leads ts i v (item.suffixes c u ∷ k) (i + 1) v (item.a_name ∷ item.wrap ∷ item.suffixes in_target u ∷ k)
to_name ts c u i v room k stands less deep =
    taking (ap (λ t. turn t v (item.suffixes c u) k) stands) (omega (arith, less, deep))
    (in_time ts i token.Dot stands (λ e. omega (arith, e)))

pub deep_member : (ts : List Token) (c : PrefixEnd) (u : PrefixUse) (i v room : ℕ) (k : List Item) → Has ts i token.Dot → room ≤ v
    → depth k + room ≡ most → Fails ts i v (item.suffixes c u ∷ k) (fault.TooDeep i)
deep_member ts c u i v room k stands le deep = deep_here (ap (λ t. turn t v (item.suffixes c u) k) stands) (omega (arith, le, deep))

-- ---- `[` and a key

pub to_key : (ts : List Token) (c : PrefixEnd) (u : PrefixUse) (i v room : ℕ) (k : List Item) → Has ts i token.OpenBracket → v < room
    → depth k + room ≡ most
    → Leads ts i v (item.suffixes c u ∷ k) (i + 1) v (item.expression ∷ item.expects word.CloseBracket ∷ item.wrap ∷ item.suffixes
    in_target u ∷ k)
to_key ts c u i v room k stands less deep =
    taking (ap (λ t. turn t v (item.suffixes c u) k) stands) (omega (arith, less, deep))
    (in_time ts i token.OpenBracket stands (λ e. omega (arith, e)))

pub deep_index : (ts : List Token) (c : PrefixEnd) (u : PrefixUse) (i v room : ℕ) (k : List Item) → Has ts i token.OpenBracket → room ≤ v
    → depth k + room ≡ most → Fails ts i v (item.suffixes c u ∷ k) (fault.TooDeep i)
deep_index ts c u i v room k stands le deep = deep_here (ap (λ t. turn t v (item.suffixes c u) k) stands) (omega (arith, le, deep))

-- ---- `:`, a name and arguments

pub to_method : (ts : List Token) (c : PrefixEnd) (u : PrefixUse) (i v room : ℕ) (k : List Item) → Has ts i token.Colon → v < room
    → depth k + room ≡ most
    → Leads ts i v (item.suffixes c u ∷ k) (i + 1) v (item.a_name ∷ item.arguments ∷ item.wrap ∷ item.suffixes in_call u ∷ k)
to_method ts c u i v room k stands less deep =
    taking (ap (λ t. turn t v (item.suffixes c u) k) stands) (omega (arith, less, deep))
    (in_time ts i token.Colon stands (λ e. omega (arith, e)))

pub deep_method : (ts : List Token) (c : PrefixEnd) (u : PrefixUse) (i v room : ℕ) (k : List Item) → Has ts i token.Colon → room ≤ v
    → depth k + room ≡ most → Fails ts i v (item.suffixes c u ∷ k) (fault.TooDeep i)
deep_method ts c u i v room k stands le deep = deep_here (ap (λ t. turn t v (item.suffixes c u) k) stands) (omega (arith, le, deep))
