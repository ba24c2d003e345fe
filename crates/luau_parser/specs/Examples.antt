-- Short token lists with their trees, and some that have none.
use Rattle.std.specs.Prelude.{ℕ, ◌+◌, pos, Bool, false, List, [], ◌∷◌, Some}
use Rattle.byte_text.specs.declared.StrId.{StrId}
use Rattle.syntax_tree.specs.declared.token.Token.{Token}
use Rattle.syntax_tree.specs.declared.token.TokenKind.{TokenKind}
use Rattle.syntax_tree.specs.declared.token.TokenKind.TheVariants as token
use Rattle.syntax_tree.specs.declared.tree.BinOp.{BinOp}
use Rattle.syntax_tree.specs.declared.tree.BinOp.TheVariants as binary
use Rattle.syntax_tree.specs.declared.tree.UnOp.TheVariants as unary
use Rattle.syntax_tree.specs.declared.tree.Arm.{roll-Arm}
use Rattle.syntax_tree.specs.declared.tree.Expr.{Expr}
use Rattle.syntax_tree.specs.declared.tree.ExprKind.{ExprKind}
use Rattle.syntax_tree.specs.declared.tree.ExprKind as expr
use Rattle.syntax_tree.specs.declared.tree.Field.{Field}
use Rattle.syntax_tree.specs.declared.tree.FieldKind.{FieldKind}
use Rattle.syntax_tree.specs.declared.tree.FieldKind as field
use Rattle.syntax_tree.specs.declared.tree.FuncBody.{FuncBody, roll-FuncBody}
use Rattle.syntax_tree.specs.declared.tree.Stat.{Stat}
use Rattle.syntax_tree.specs.declared.tree.StatKind.{StatKind}
use Rattle.syntax_tree.specs.declared.tree.StatKind as stat
use Rattle.syntax_tree.specs.Derivations.{IsChunk}
use Rattle.syntax_tree.specs.Words.{self_name, continue_name, type_name}

-- tokens of one byte each, on one line
abbrev pub tokens_from : ℕ → List TokenKind → List Token
tokens_from at [] = []
tokens_from at (kind ∷ kinds) = record { kind = kind; at = at; end = at + 1; line = 1; last = 1 } ∷ tokens_from (at + 1) kinds

abbrev pub tokens : List TokenKind → List Token
tokens = tokens_from 0

-- the tokens have this block, and these have none
abbrev pub Has : List TokenKind → List Stat → Type 0
Has kinds block = IsChunk (tokens kinds) 0 block

abbrev pub HasNone : List TokenKind → Type 0
HasNone kinds = (n : ℕ) (block : List Stat) → IsChunk (tokens kinds) n block → ⊥

-- names, their tokens, and nodes without a number
abbrev pub a : StrId
a = record { 0 = 10 }

abbrev pub b : StrId
b = record { 0 = 11 }

abbrev pub c : StrId
c = record { 0 = 12 }

abbrev pub one : TokenKind
one = token.Number (pos 1)

abbrev pub node : ℕ → ExprKind → Expr
node at kind = record { id = 0; at = at; line = 1; kind = kind }

-- a call, whose arguments begin at a place
abbrev pub call : (at place : ℕ) → ExprKind → Expr
call at place kind = record { id = place; at = at; line = 1; kind = kind }

abbrev pub stat_node : ℕ → StatKind → Stat
stat_node at kind = record { id = 0; at = at; line = 1; kind = kind }

abbrev pub field_node : ℕ → FieldKind → Field
field_node at kind = record { at = at; kind = kind }

abbrev pub function : ℕ → List StrId → Bool → List Stat → FuncBody
function at params vararg block = roll-FuncBody (record { id = 0; at = at; line = 1; params = params; vararg = vararg; body = block })

abbrev pub name : ℕ → StrId → Expr
name at x = node at (expr.Name x)

abbrev pub number : ℕ → Expr
number at = node at (expr.Num (pos 1))

-- what is returned
abbrev pub returns : Expr → List Stat
returns e = stat_node 0 (stat.Return (e ∷ [])) ∷ []

abbrev pub binary_node : ℕ → BinOp → Expr → Expr → Expr
binary_node at op e f = node at (expr.Binary op e f)

pub record Trees : Type 0 where
  -- nothing, and `do end`
  pub nothing : Has [] []
  pub do_end : Has (token.Do ∷ token.End ∷ []) (stat_node 0 (stat.Do []) ∷ [])
  -- `a = 1`, `a += 1`, `a()`, `local a`
  pub assign : Has (token.Name a ∷ token.Equal ∷ one ∷ []) (stat_node 0 (stat.Assign (name 0 a ∷ []) (number 2 ∷ [])) ∷ [])
  pub compound : Has (token.Name a ∷ token.PlusEqual ∷ one ∷ []) (stat_node 0 (stat.Compound binary.Add (name 0 a) (number 2)) ∷ [])
  pub called : Has (token.Name a ∷ token.OpenParen ∷ token.CloseParen ∷ []) (stat_node 0 (stat.Call (call 0 1 (expr.Call (name 0 a) []))) ∷ [])
  pub local : Has (token.Local ∷ token.Name a ∷ []) (stat_node 0 (stat.Local (a ∷ []) []) ∷ [])
  -- `break;`, `continue` that ends its block, and `continue()`, which does not
  pub break : Has (token.Break ∷ token.Semicolon ∷ []) (stat_node 0 stat.Break ∷ [])
  pub continue : Has (token.Name continue_name ∷ []) (stat_node 0 stat.Continue ∷ [])
  pub continue_called : Has (token.Name continue_name ∷ token.OpenParen ∷ token.CloseParen ∷ []) (stat_node 0 (stat.Call (call 0 1 (expr.Call (name 0 continue_name) []))) ∷ [])
  -- `type a = nil` leaves no node
  pub type_stat : Has (token.Name type_name ∷ token.Name a ∷ token.Equal ∷ token.Nil ∷ []) []
  -- `return a + b * c`, `return a + b + c`, `return a .. b .. c`, `return - a ^ b`
  pub levels : Has (token.Return ∷ token.Name a ∷ token.Plus ∷ token.Name b ∷ token.Star ∷ token.Name c ∷ []) (returns (binary_node 1 binary.Add (name 1 a) (binary_node 3 binary.Mul (name 3 b) (name 5 c))))
  pub from_the_left : Has (token.Return ∷ token.Name a ∷ token.Plus ∷ token.Name b ∷ token.Plus ∷ token.Name c ∷ []) (returns (binary_node 1 binary.Add (binary_node 1 binary.Add (name 1 a) (name 3 b)) (name 5 c)))
  pub run : Has (token.Return ∷ token.Name a ∷ token.DoubleDot ∷ token.Name b ∷ token.DoubleDot ∷ token.Name c ∷ []) (returns (node 1 (expr.Concat (name 1 a ∷ name 3 b ∷ name 5 c ∷ []))))
  pub minus_power : Has (token.Return ∷ token.Minus ∷ token.Name a ∷ token.Caret ∷ token.Name b ∷ []) (returns (node 1 (expr.Unary unary.Minus (binary_node 2 binary.Pow (name 2 a) (name 4 b)))))
  -- `return a :: b` is a parenthesis
  pub cast : Has (token.Return ∷ token.Name a ∷ token.DoubleColon ∷ token.Name b ∷ []) (returns (node 1 (expr.Paren (name 1 a))))
  -- `return {a = 1}` has a named field
  pub named_field : Has (token.Return ∷ token.OpenBrace ∷ token.Name a ∷ token.Equal ∷ one ∷ token.CloseBrace ∷ []) (returns (node 1 (expr.Table (field_node 2 (field.Named a (number 4)) ∷ []))))
  -- `function a:b() end` assigns a function with the parameter `self`
  pub method : Has (token.Function ∷ token.Name a ∷ token.Colon ∷ token.Name b ∷ token.OpenParen ∷ token.CloseParen ∷ token.End ∷ []) (stat_node 0 (stat.Assign (node 1 (expr.Member (name 1 a) b) ∷ []) (node 0 (expr.Function (function 0 (self_name ∷ []) false [])) ∷ [])) ∷ [])
  -- `if a then else end`
  pub choice : Has (token.If ∷ token.Name a ∷ token.Then ∷ token.Else ∷ token.End ∷ []) (stat_node 0 (stat.If (roll-Arm (record { cond = name 1 a; body = [] }) ∷ []) (Some [])) ∷ [])

pub record Refusals : Type 0 where
  -- `end`, `= 1`, `1`, `)`: nothing begins so
  pub end_alone : HasNone (token.End ∷ [])
  pub equal_first : HasNone (token.Equal ∷ one ∷ [])
  pub number_alone : HasNone (one ∷ [])
  -- `a`, `(a)`: a prefix that is no call
  pub name_alone : HasNone (token.Name a ∷ [])
  pub paren_alone : HasNone (token.OpenParen ∷ token.Name a ∷ token.CloseParen ∷ [])
  -- `a() = 1`: a call is no target
  pub call_assigned : HasNone (token.Name a ∷ token.OpenParen ∷ token.CloseParen ∷ token.Equal ∷ one ∷ [])
  -- `local 1`, `local`: no name
  pub local_number : HasNone (token.Local ∷ one ∷ [])
  pub local_alone : HasNone (token.Local ∷ [])
  -- `break a`, `break ; ;`: the block does not end there
  pub behind_break : HasNone (token.Break ∷ token.Name a ∷ [])
  pub two_semicolons : HasNone (token.Break ∷ token.Semicolon ∷ token.Semicolon ∷ [])
  -- `do`: no `end`
  pub do_alone : HasNone (token.Do ∷ [])
  -- `return a :: b :: c`: one cast at most
  pub two_casts : HasNone (token.Return ∷ token.Name a ∷ token.DoubleColon ∷ token.Name b ∷ token.DoubleColon ∷ token.Name c ∷ [])
