-- Calls whose arguments open on a later line: a reader may take them for a statement of their own.
use Rattle.std.specs.Prelude.{◌≡◌, ℕ, ◌+◌, ◌<◌, List, [], ◌∷◌, ◌++◌, Option, Some, None, Contains, flat_map, take, slice_get}
use Rattle.syntax_tree.specs.declared.token.Token.{Token}
use Rattle.syntax_tree.specs.declared.token.TokenKind.TheVariants as token
use Rattle.syntax_tree.specs.declared.tree.ExprKind.TheFolds as folds
use Rattle.syntax_tree.specs.declared.tree.ExprKind.TheOpen as level
use Rattle.syntax_tree.specs.declared.tree.ExprKind.TheOpen.{ExprKind-F, FieldKind-F, StatKind-F, Arm-F, Expr-F, ExprArm-F, Field-F, FuncBody-F, Stat-F}
use Rattle.syntax_tree.specs.declared.tree.FuncBody.{FuncBody}
use Rattle.syntax_tree.specs.declared.tree.Stat.{Stat}
use Rattle.syntax_tree.specs.Places.{Has}
use Rattle.syntax_tree.specs.Derivations.{IsChunk, main_function}

abbrev pub Places : Type 0
Places = List ℕ

-- one level of a tree, with the places where arguments open in its parts. Of a kind they are told from the number of its node
abbrev pub Parts : (Type 0 → Type 0 → Type 0 → Type 0 → Type 0 → Type 0 → Type 0 → Type 0 → Type 0 → Type 0) → Type 0
Parts F = F (ℕ → Places) Places Places Places Places Places Places Places Places

abbrev pub all : List Places → Places
all = flat_map (λ places. places)

abbrev pub maybe : Option Places → Places
maybe None = []
maybe (Some places) = places

abbrev pub maybe_all : Option (List Places) → Places
maybe_all None = []
maybe_all (Some parts) = all parts

abbrev pub expr_kind_calls : Parts ExprKind-F → ℕ → Places
expr_kind_calls (level.ExprKind::Call a args) id = id ∷ a ++ all args
expr_kind_calls (level.Method a x args) id = id ∷ a ++ all args
expr_kind_calls (level.Paren e) id = e
expr_kind_calls (level.Unary op e) id = e
expr_kind_calls (level.Binary op a b) id = a ++ b
expr_kind_calls (level.Concat es) id = all es
expr_kind_calls (level.Index a key) id = a ++ key
expr_kind_calls (level.Member a x) id = a
expr_kind_calls (level.Table fields) id = all fields
expr_kind_calls (level.Function f) id = f
expr_kind_calls (level.ExprKind::If arms other) id = all arms ++ other
expr_kind_calls (level.Interp texts values) id = all values
expr_kind_calls _ id = []

abbrev pub field_kind_calls : Parts FieldKind-F → Places
field_kind_calls (level.Item e) = e
field_kind_calls (level.Named x e) = e
field_kind_calls (level.Keyed key e) = key ++ e

abbrev pub stat_kind_calls : Parts StatKind-F → Places
stat_kind_calls (level.Local names values) = all values
stat_kind_calls (level.Assign targets values) = all targets ++ all values
stat_kind_calls (level.Compound op target value) = target ++ value
stat_kind_calls (level.StatKind::Call e) = e
stat_kind_calls (level.Do body) = all body
stat_kind_calls (level.While c body) = c ++ all body
stat_kind_calls (level.Repeat body c) = all body ++ c
stat_kind_calls (level.StatKind::If arms other) = all arms ++ maybe_all other
stat_kind_calls (level.NumFor x start limit step body) = start ++ limit ++ maybe step ++ all body
stat_kind_calls (level.GenFor names values body) = all values ++ all body
stat_kind_calls (level.LocalFunction x f) = f
stat_kind_calls (level.Return values) = all values
stat_kind_calls level.Break = []
stat_kind_calls level.Continue = []

abbrev pub arm_calls : Parts Arm-F → Places
arm_calls a = a.cond ++ all a.body

abbrev pub expr_calls : Parts Expr-F → Places
expr_calls e = e.kind e.id

abbrev pub expr_arm_calls : Parts ExprArm-F → Places
expr_arm_calls a = a.cond ++ a.value

abbrev pub field_calls : Parts Field-F → Places
field_calls f = f.kind

abbrev pub func_calls : Parts FuncBody-F → Places
func_calls f = all f.body

abbrev pub stat_calls : Parts Stat-F → Places
stat_calls s = s.kind

-- the places in the token list where arguments open, of a function that is not numbered yet
abbrev pub call_places : FuncBody → Places
call_places = folds.fold-FuncBody (ℕ → Places) Places Places Places Places Places Places Places Places expr_kind_calls field_kind_calls stat_kind_calls arm_calls expr_calls expr_arm_calls field_calls func_calls stat_calls

-- the token behind place i is a `(` on a later line than the end of the token at i
pub record OpensLate (ts : List Token) (i : ℕ) : Type 0 where
  pub before : Token
  pub paren : Token
  pub stands_before : slice_get ts i ≡ Some before
  pub stands : slice_get ts (i + 1) ≡ Some paren
  pub opens : Has ts (i + 1) token.OpenParen
  pub later : before.last < paren.line

-- some token list that begins with the tokens up to place i has a tree in which arguments open at i
pub record OpensCall (ts : List Token) (i : ℕ) : Type 0 where
  pub more : List Token
  pub brackets : ℕ
  pub block : List Stat
  pub derived : IsChunk (take (i + 1) ts ++ more) brackets block
  pub called : Contains (call_places (main_function block)) i

pub record IsLateCall (ts : List Token) (i : ℕ) : Type 0 where
  pub late : OpensLate ts i
  pub call : OpensCall ts (i + 1)

-- the first ambiguous call has its `(` at this offset
pub record Ambiguous (ts : List Token) (at : ℕ) : Type 0 where
  pub place : ℕ
  pub call : IsLateCall ts place
  pub first : (i : ℕ) → i < place → ¬ IsLateCall ts i
  pub offset : call.late.paren.at ≡ at
