-- What begins or ends at a place: blocks, statements by a word that is a name elsewhere, suffixes and fields.
use Rattle.std.specs.Prelude.{ℕ, ◌+◌, Bool, true, false, ◌&&◌, ◌||◌, List, [], ◌∷◌, Option, Some, None}
use Rattle.byte_text.specs.declared.StrId.{StrId}
use Rattle.byte_text.specs.declared.fixed.TheConstants.StrId as fixed
use Rattle.syntax_tree.specs.declared.token.Token.{Token}
use Rattle.syntax_tree.specs.declared.token.TokenKind.{TokenKind}
use Rattle.syntax_tree.specs.declared.token.TokenKind.TheVariants as token
use Rattle.syntax_tree.specs.declared.tree.ExprKind.{ExprKind}
use Rattle.syntax_tree.specs.declared.tree.ExprKind as expr
use Rattle.syntax_tree.specs.Places.{kind_at, is_name, is_named}

-- the numbers of these texts in every interner
abbrev pub self_name : StrId
self_name = fixed.SELF

abbrev pub continue_name : StrId
continue_name = fixed.CONTINUE

abbrev pub type_name : StrId
type_name = fixed.TYPE

abbrev pub export_name : StrId
export_name = fixed.EXPORT

-- what follows a block: `end`, `else`, `elseif`, `until`, or the end of the text
abbrev pub ends_block : Option TokenKind → Bool
ends_block None = true
ends_block (Some token.End) = true
ends_block (Some token.Else) = true
ends_block (Some token.ElseIf) = true
ends_block (Some token.Until) = true
ends_block _ = false

abbrev pub is_semicolon : Option TokenKind → Bool
is_semicolon (Some token.Semicolon) = true
is_semicolon _ = false

-- what follows a last statement: the end of its block, with a `;` before it or none
abbrev pub ends_last : List Token → ℕ → Bool
ends_last ts i = ends_block (kind_at ts i) || (is_semicolon (kind_at ts i) && ends_block (kind_at ts (i + 1)))

-- the statement `continue`: the name where it ends its block
abbrev pub is_continue : List Token → ℕ → Bool
is_continue ts i = is_named continue_name (kind_at ts i) && ends_last ts (i + 1)

-- "type" Name, or "export" "type"
abbrev pub opens_type : List Token → ℕ → Bool
opens_type ts i = (is_named type_name (kind_at ts i) && is_name (kind_at ts (i + 1))) || (is_named export_name (kind_at ts i) && is_named type_name (kind_at ts (i + 1)))

-- a part that a prefix takes: `.`, `[`, `:`, or the arguments `(`, `{`, String
abbrev pub opens_suffix : Option TokenKind → Bool
opens_suffix (Some token.Dot) = true
opens_suffix (Some token.OpenBracket) = true
opens_suffix (Some token.Colon) = true
opens_suffix (Some token.OpenParen) = true
opens_suffix (Some token.OpenBrace) = true
opens_suffix (Some (token.Str x)) = true
opens_suffix _ = false

abbrev pub is_equal : Option TokenKind → Bool
is_equal (Some token.Equal) = true
is_equal _ = false

-- Name "="
abbrev pub opens_named : List Token → ℕ → Bool
opens_named ts i = is_name (kind_at ts i) && is_equal (kind_at ts (i + 1))

-- "nil" | "true" | "false" | Number | String | "..." | InterpWhole
abbrev pub literal_of : Option TokenKind → Option ExprKind
literal_of (Some token.Nil) = Some expr.Nil
literal_of (Some token.True) = Some expr.True
literal_of (Some token.False) = Some expr.False
literal_of (Some (token.Number n)) = Some (expr.Num n)
literal_of (Some (token.Str x)) = Some (expr.Str x)
literal_of (Some token.TripleDot) = Some expr.Vararg
literal_of (Some (token.InterpWhole x)) = Some (expr.Interp (x ∷ []) [])
literal_of _ = None
