-- What a token begins, by where it stands.
use Rattle.std.specs.Prelude.{Option, Some, None}
use Rattle.byte_text.specs.declared.StrId.{StrId}
use Rattle.syntax_tree.specs.declared.token.TokenKind.{TokenKind}
use Rattle.syntax_tree.specs.declared.token.TokenKind.TheVariants as token
use Rattle.parse_steps.specs.declared.classes.Beginning.{Beginning}
use Rattle.parse_steps.specs.declared.classes.Beginning.TheVariants as begins
use Rattle.parse_steps.specs.declared.classes.Suffix.{Suffix}
use Rattle.parse_steps.specs.declared.classes.Suffix.TheVariants as suffixes
use Rattle.parse_steps.specs.declared.classes.Arguments.{Arguments}
use Rattle.parse_steps.specs.declared.classes.Arguments.TheVariants as argument
use Rattle.parse_steps.specs.declared.classes.Opening.{Opening}
use Rattle.parse_steps.specs.declared.classes.Opening.TheVariants as opens

abbrev pub name_of : Option TokenKind → Option StrId
name_of (Some (token.Name x)) = Some x
name_of _ = None

-- the text of a piece of an interpolated string between two expressions, and of the last piece
abbrev pub middle_of : Option TokenKind → Option StrId
middle_of (Some (token.InterpMid x)) = Some x
middle_of _ = None

abbrev pub end_of : Option TokenKind → Option StrId
end_of (Some (token.InterpEnd x)) = Some x
end_of _ = None

-- as the first of an expression without operators
abbrev pub beginning : Option TokenKind → Beginning
beginning (Some token.Nil) = begins.Leaf
beginning (Some token.True) = begins.Leaf
beginning (Some token.False) = begins.Leaf
beginning (Some (token.Number n)) = begins.Leaf
beginning (Some (token.Str x)) = begins.Leaf
beginning (Some token.TripleDot) = begins.Leaf
beginning (Some (token.InterpWhole x)) = begins.Whole
beginning (Some (token.InterpBegin x)) = begins.Pieces x
beginning (Some token.Function) = begins.Function
beginning (Some token.OpenBrace) = begins.Table
beginning (Some (token.Name x)) = begins.Name x
beginning (Some token.OpenParen) = begins.Paren
beginning (Some token.If) = begins.Choice
beginning _ = begins.Nothing

-- behind a part of a prefix
abbrev pub suffix : Option TokenKind → Suffix
suffix (Some token.Dot) = suffixes.Member
suffix (Some token.OpenBracket) = suffixes.Index
suffix (Some token.Colon) = suffixes.Method
suffix (Some token.OpenParen) = suffixes.Call
suffix (Some token.OpenBrace) = suffixes.Call
suffix (Some (token.Str x)) = suffixes.Call
suffix _ = suffixes.Nothing

-- as the first of arguments
abbrev pub arguments : Option TokenKind → Arguments
arguments (Some token.OpenParen) = argument.Paren
arguments (Some token.OpenBrace) = argument.Table
arguments (Some (token.Str x)) = argument.Text x
arguments _ = argument.Nothing

-- as the first of a statement
abbrev pub opening : Option TokenKind → Opening
opening None = opens.Ends
opening (Some token.End) = opens.Ends
opening (Some token.Else) = opens.Ends
opening (Some token.ElseIf) = opens.Ends
opening (Some token.Until) = opens.Ends
opening (Some token.Return) = opens.Return
opening (Some token.Break) = opens.Break
opening (Some token.Do) = opens.Do
opening (Some token.While) = opens.While
opening (Some token.Repeat) = opens.Repeat
opening (Some token.If) = opens.If
opening (Some token.For) = opens.For
opening (Some token.Function) = opens.Function
opening (Some token.Local) = opens.Local
opening (Some (token.Name x)) = opens.Name x
opening (Some token.OpenParen) = opens.Paren
opening _ = opens.Nothing
