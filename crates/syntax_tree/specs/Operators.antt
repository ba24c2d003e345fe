-- The operators. The binary ones that associate to the left have levels, from the lowest:
--
--   or     and     < > <= >= ~= ==     (..)     + -     * / // %
--
-- A run of `..`, which associates to the right, stands between the comparisons and the sums; unary operators and `^` are above all.
use Rattle.std.specs.Prelude.{Option, Some, None}
use Rattle.syntax_tree.specs.declared.token.TokenKind.{TokenKind}
use Rattle.syntax_tree.specs.declared.token.TokenKind.TheVariants as token
use Rattle.syntax_tree.specs.declared.tree.BinOp.{BinOp}
use Rattle.syntax_tree.specs.declared.tree.BinOp.TheVariants as binary
use Rattle.syntax_tree.specs.declared.tree.UnOp.{UnOp}
use Rattle.syntax_tree.specs.declared.tree.UnOp.TheVariants as unary

pub data OperatorLevel : Type 0 where
  ors : OperatorLevel
  ands : OperatorLevel
  comparisons : OperatorLevel
  sums : OperatorLevel
  products : OperatorLevel

-- the operator of this level
abbrev pub operator : OperatorLevel → Option TokenKind → Option BinOp
operator ors (Some token.Or) = Some binary.Or
operator ands (Some token.And) = Some binary.And
operator comparisons (Some token.Less) = Some binary.Lt
operator comparisons (Some token.Greater) = Some binary.Gt
operator comparisons (Some token.LessEqual) = Some binary.Le
operator comparisons (Some token.GreaterEqual) = Some binary.Ge
operator comparisons (Some token.NotEqual) = Some binary.Ne
operator comparisons (Some token.EqualEqual) = Some binary.Eq
operator sums (Some token.Plus) = Some binary.Add
operator sums (Some token.Minus) = Some binary.Sub
operator products (Some token.Star) = Some binary.Mul
operator products (Some token.Slash) = Some binary.Div
operator products (Some token.DoubleSlash) = Some binary.Idiv
operator products (Some token.Percent) = Some binary.Mod
operator _ _ = None

abbrev pub unary_operator : Option TokenKind → Option UnOp
unary_operator (Some token.Not) = Some unary.Not
unary_operator (Some token.Hash) = Some unary.Len
unary_operator (Some token.Minus) = Some unary.Minus
unary_operator _ = None

-- += -= *= /= //= %= ^= ..=
abbrev pub compound_operator : Option TokenKind → Option BinOp
compound_operator (Some token.PlusEqual) = Some binary.Add
compound_operator (Some token.MinusEqual) = Some binary.Sub
compound_operator (Some token.StarEqual) = Some binary.Mul
compound_operator (Some token.SlashEqual) = Some binary.Div
compound_operator (Some token.DoubleSlashEqual) = Some binary.Idiv
compound_operator (Some token.PercentEqual) = Some binary.Mod
compound_operator (Some token.CaretEqual) = Some binary.Pow
compound_operator (Some token.DoubleDotEqual) = Some binary.Concat
compound_operator _ = None
