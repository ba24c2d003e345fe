-- Which token it is that begins something.
use Rattle.std.proofs.Common.{◌≡◌, Option, Some, refl}
use Rattle.byte_text.specs.declared.StrId.{StrId}
use Rattle.syntax_tree.specs.declared.token.TokenKind.{TokenKind}
use Rattle.syntax_tree.specs.declared.token.TokenKind.TheVariants as token
use Rattle.parse_steps.specs.declared.classes.Beginning.TheVariants as begins
use Rattle.parse_steps.specs.Classes.{beginning, middle_of, end_of}

pub begins_name : (t : Option TokenKind) (x : StrId) → beginning t ≡ begins.Name x → t ≡ Some (token.Name x)
begins_name (Some (token.Name y)) x e = cc
begins_name _ x e = absurd cc

pub begins_pieces : (t : Option TokenKind) (x : StrId) → beginning t ≡ begins.Pieces x → t ≡ Some (token.InterpBegin x)
begins_pieces (Some (token.InterpBegin y)) x e = cc
begins_pieces _ x e = absurd cc

pub begins_function : (t : Option TokenKind) → beginning t ≡ begins.Function → t ≡ Some token.Function
begins_function (Some token.Function) e = refl
begins_function _ e = absurd cc

pub begins_paren : (t : Option TokenKind) → beginning t ≡ begins.Paren → t ≡ Some token.OpenParen
begins_paren (Some token.OpenParen) e = refl
begins_paren _ e = absurd cc

pub has_middle : (t : Option TokenKind) (x : StrId) → middle_of t ≡ Some x → t ≡ Some (token.InterpMid x)
has_middle (Some (token.InterpMid y)) x e = cc
has_middle _ x e = absurd cc

pub has_end : (t : Option TokenKind) (x : StrId) → end_of t ≡ Some x → t ≡ Some (token.InterpEnd x)
has_end (Some (token.InterpEnd y)) x e = cc
has_end _ x e = absurd cc
