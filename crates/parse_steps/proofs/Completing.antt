-- What may be written behind a state of a run, so that all on the stack is read: each item writes a shortest text.
--
-- An item that writes nothing must give way to what the next one writes first. `Sound k`: on the stack k each does.
use Rattle.std.proofs.Common.{◌≡◌, ℕ, ◌+◌, Bool, true, false, IsTrue, List, [], ◌∷◌, ◌++◌, Option, Some, None, refl, sym, true≢false}
use Rattle.byte_text.specs.declared.StrId.{StrId}
use Rattle.byte_text.specs.declared.fixed.TheConstants.StrId as fixed
use Rattle.syntax_tree.specs.declared.token.Token.{Token}
use Rattle.syntax_tree.specs.declared.token.TokenKind.{TokenKind}
use Rattle.syntax_tree.specs.declared.token.TokenKind.TheVariants as token
use Rattle.syntax_tree.specs.Places.{kind_at, Has}
use Rattle.syntax_tree.specs.Words.{ends_block}
use Rattle.parse_steps.specs.Items.{Item, in_expression, first_target, later_target}
use Rattle.parse_steps.specs.Items as item
use Rattle.type_skip.specs.Words.{token_of}

-- ---- what is written

-- a name that begins no statement of its own
abbrev pub some_name : StrId
some_name = fixed.GETFENV

abbrev pub written : Item → List TokenKind
written (item.expects w) = token_of w ∷ []
written item.a_name = token.Name some_name ∷ []
written item.a_type = token.Nil ∷ []
written (item.level l) = token.Nil ∷ []
written item.unary = token.Nil ∷ []
written item.simple = token.Nil ∷ []
written item.cast = []
written item.power = []
written (item.operations r) = []
written item.run = []
written item.run_more = []
written item.list_more = []
written item.pieces = token.InterpEnd some_name ∷ []
written item.choice_more = token.Else ∷ token.Nil ∷ []
written (item.suffixes c in_expression) = []
written (item.suffixes c first_target) = token.Dot ∷ token.Name some_name ∷ token.Equal ∷ token.Nil ∷ []
written (item.suffixes c later_target) = token.Dot ∷ token.Name some_name ∷ token.Equal ∷ token.Nil ∷ []
written item.arguments = token.OpenParen ∷ token.CloseParen ∷ []
written item.argument_list = token.CloseParen ∷ []
written item.fields = token.CloseBrace ∷ []
written item.field_name = token.Equal ∷ token.Nil ∷ []
written item.field_end = token.CloseBrace ∷ []
written item.body = token.OpenParen ∷ token.CloseParen ∷ token.End ∷ []
written item.parameters = token.CloseParen ∷ []
written item.parameter = token.TripleDot ∷ token.CloseParen ∷ []
written item.parameter_more = token.CloseParen ∷ []
written item.typing = []
written item.generics = []
written item.generic = token.Name some_name ∷ token.Greater ∷ []
written item.generic_dots = token.Greater ∷ []
written item.generic_default = token.Greater ∷ []
written item.generic_more = token.Greater ∷ []
written item.block = []
written item.stat_end = []
written item.return_list = []
written item.last_end = []
written item.block_end = []
written (item.after_name x) = token.Equal ∷ token.Nil ∷ []
written item.target = token.Name some_name ∷ token.Equal ∷ token.Nil ∷ []
written item.local_what = token.Name some_name ∷ []
written item.local_values = []
written item.bind = token.Name some_name ∷ []
written item.bind_more = []
written item.for_what = token.In ∷ token.Nil ∷ token.Do ∷ token.End ∷ []
written item.for_step = []
written item.members = []
written item.assigned_function = token.OpenParen ∷ token.CloseParen ∷ token.End ∷ []
written item.arm_more = token.End ∷ []
written item.wrap = []
written (item.greater w) = []

abbrev pub finish : List Item → List TokenKind
finish [] = []
finish (x ∷ k) = written x ++ finish k

abbrev pub head : List TokenKind → Option TokenKind
head [] = None
head (t ∷ ts) = Some t

-- what is written first
abbrev pub first : List Item → Option TokenKind
first k = head (finish k)

-- ---- what gives way to what

-- no part of an expression goes on with it
abbrev pub closing : Option TokenKind → Bool
closing None = true
closing (Some token.End) = true
closing (Some token.Else) = true
closing (Some token.ElseIf) = true
closing (Some token.Until) = true
closing (Some token.Then) = true
closing (Some token.Do) = true
closing (Some token.In) = true
closing (Some token.Comma) = true
closing (Some token.Equal) = true
closing (Some token.CloseParen) = true
closing (Some token.CloseBracket) = true
closing (Some token.CloseBrace) = true
closing (Some (token.InterpEnd x)) = true
closing _ = false

-- nor a list
abbrev pub closing_list : Option TokenKind → Bool
closing_list (Some token.Comma) = false
closing_list t = closing t

-- no type goes on with it
abbrev pub behind_type : Option TokenKind → Bool
behind_type (Some token.Question) = false
behind_type (Some token.Pipe) = false
behind_type (Some token.Ampersand) = false
behind_type (Some token.Dot) = false
behind_type (Some token.Less) = false
behind_type (Some token.TripleDot) = false
behind_type (Some token.Arrow) = false
behind_type (Some token.OpenParen) = false
behind_type _ = true

abbrev pub no_member : Option TokenKind → Bool
no_member (Some token.Dot) = false
no_member (Some token.Colon) = false
no_member _ = true

abbrev pub no_generics : Option TokenKind → Bool
no_generics (Some token.Less) = false
no_generics _ = true

-- whether an item stands well above what is written so
abbrev pub fits : Item → Option TokenKind → Bool
fits item.a_type t = behind_type t
fits (item.level l) t = closing t
fits item.unary t = closing t
fits item.simple t = closing t
fits item.cast t = closing t
fits item.power t = closing t
fits (item.operations r) t = closing t
fits item.run t = closing t
fits item.run_more t = closing t
fits item.list_more t = closing_list t
fits item.choice_more t = closing t
fits (item.suffixes c in_expression) t = closing t
fits (item.suffixes c first_target) t = closing_list t
fits (item.suffixes c later_target) t = closing_list t
fits item.field_name t = closing t
fits item.typing t = closing t
fits item.generics t = no_generics t
fits item.block t = ends_block t
fits item.stat_end t = ends_block t
fits item.return_list t = ends_block t
fits item.last_end t = ends_block t
fits item.block_end t = ends_block t
fits (item.after_name x) t = ends_block t
fits item.target t = closing_list t
fits item.local_what t = ends_block t
fits item.local_values t = ends_block t
fits item.bind t = closing t
fits item.bind_more t = closing_list t
fits item.for_step t = closing_list t
fits item.members t = no_member t
fits _ t = true

abbrev pub Sound : List Item → Type 0
Sound [] = Unit {0}
Sound (x ∷ k) = IsTrue (fits x (first k)) × Sound k

-- these kinds stand from place i to the end
abbrev pub Spells : List Token → ℕ → List TokenKind → Type 0
Spells ts i [] = kind_at ts i ≡ None
Spells ts i (t ∷ kinds) = Has ts i t × Spells ts (i + 1) kinds

pub head_at : (ts : List Token) (i : ℕ) (kinds : List TokenKind) → Spells ts i kinds → kind_at ts i ≡ head kinds
head_at ts i [] h = h
head_at ts i (t ∷ kinds) h = h.0

-- ---- what ends more ends less

pub list_closes : (t : Option TokenKind) → IsTrue (closing_list t) → IsTrue (closing t)
list_closes (Some token.Comma) h = refl
list_closes _ h = h

pub block_closes_list : (t : Option TokenKind) → IsTrue (ends_block t) → IsTrue (closing_list t)
block_closes_list None h = refl
block_closes_list (Some token.End) h = refl
block_closes_list (Some token.Else) h = refl
block_closes_list (Some token.ElseIf) h = refl
block_closes_list (Some token.Until) h = refl
block_closes_list (Some token.Comma) h = h
block_closes_list _ h = absurd (true≢false (sym h))

pub block_closes : (t : Option TokenKind) → IsTrue (ends_block t) → IsTrue (closing t)
block_closes t h = list_closes t (block_closes_list t h)

pub closes_type : (t : Option TokenKind) → IsTrue (closing t) → IsTrue (behind_type t)
closes_type (Some token.Question) h = h
closes_type (Some token.Pipe) h = h
closes_type (Some token.Ampersand) h = h
closes_type (Some token.Dot) h = h
closes_type (Some token.Less) h = h
closes_type (Some token.TripleDot) h = h
closes_type (Some token.Arrow) h = h
closes_type (Some token.OpenParen) h = h
closes_type _ h = refl
