-- What holds of each tree that the grammar makes, whatever its text: a call statement is a call; what is assigned to is a name, an
-- index or a member; a compound assignment computes by an arithmetic operator or `..`, and no other node joins by `..` but a run
-- of two operands or more; an interpolated string has one text more than values; and where a list stands that the grammar does not
-- let be empty, it is not: arms, what is assigned to and what is assigned, the names of a `local`, the names and values of a loop.
use Rattle.std.specs.Prelude.{◌≡◌, ℕ, ◌+◌, ◌≤◌, nat_eq, Bool, true, false, ◌&&◌, IsTrue, List, [], ◌∷◌, length, Option, Some, None, slice_get}
use Rattle.byte_text.specs.declared.StrId.{StrId}
use Rattle.syntax_tree.specs.declared.tree.Arm.{Arm}
use Rattle.syntax_tree.specs.declared.tree.BinOp.{BinOp}
use Rattle.syntax_tree.specs.declared.tree.BinOp.TheVariants as op
use Rattle.syntax_tree.specs.declared.tree.Expr.{Expr}
use Rattle.syntax_tree.specs.declared.tree.ExprArm.{ExprArm}
use Rattle.syntax_tree.specs.declared.tree.ExprKind as expr
use Rattle.syntax_tree.specs.declared.tree.ExprKind.TheOpen as level
use Rattle.syntax_tree.specs.declared.tree.ExprKind.TheOpen.{ExprKind-F, FieldKind-F, StatKind-F}
use Rattle.syntax_tree.specs.declared.tree.Field.{Field}
use Rattle.syntax_tree.specs.declared.tree.FuncBody.{FuncBody}
use Rattle.syntax_tree.specs.declared.tree.Stat.{Stat}
use Rattle.syntax_tree.specs.declared.tree.StatKind as stat
use Rattle.syntax_tree.specs.declared.tree.Tree.{Tree}
use Rattle.syntax_tree.specs.Fold.{Steps, at_expr, at_stat, at_func, at_arm, at_expr_arm, at_field}

-- whether an expression is proper, whether it is a call, and whether it can be assigned to
pub record Form : Type 0 where
  pub proper : Bool
  pub calls : Bool
  pub target : Bool

abbrev pub a_value : Bool → Form
a_value proper = record { proper = proper; calls = false; target = false }

abbrev pub a_call : Bool → Form
a_call proper = record { proper = proper; calls = true; target = false }

abbrev pub a_target : Bool → Form
a_target proper = record { proper = proper; calls = false; target = true }

-- ---- lists

abbrev pub all : List Bool → Bool
all [] = true
all (b ∷ bs) = b && all bs

abbrev pub all_proper : List Form → Bool
all_proper [] = true
all_proper (e ∷ es) = e.proper && all_proper es

abbrev pub all_targets : List Form → Bool
all_targets [] = true
all_targets (e ∷ es) = e.target && all_targets es

abbrev pub has_one : {A : Type 0} → List A → Bool
has_one [] = false
has_one (a ∷ more) = true

abbrev pub has_two : {A : Type 0} → List A → Bool
has_two [] = false
has_two (a ∷ more) = has_one more

abbrev pub maybe_proper : Option Form → Bool
maybe_proper None = true
maybe_proper (Some e) = e.proper

abbrev pub maybe_all : Option (List Bool) → Bool
maybe_all None = true
maybe_all (Some body) = all body

-- ---- operators

-- of two operands: each but `..`
abbrev pub stands_between : BinOp → Bool
stands_between op.Concat = false
stands_between _ = true

-- of a compound assignment: `..` and the arithmetic ones
abbrev pub computes : BinOp → Bool
computes op.Concat = true
computes op.Add = true
computes op.Sub = true
computes op.Mul = true
computes op.Div = true
computes op.Idiv = true
computes op.Mod = true
computes op.Pow = true
computes _ = false

-- ---- the levels of a tree

abbrev pub kind_form : ExprKind-F Form Bool Bool Bool Form Bool Bool Bool Bool → Form
kind_form level.Nil = a_value true
kind_form level.True = a_value true
kind_form level.False = a_value true
kind_form (level.Num n) = a_value true
kind_form (level.Str text) = a_value true
kind_form level.Vararg = a_value true
kind_form (level.Name name) = a_target true
kind_form (level.Paren e) = a_value e.proper
kind_form (level.Unary operator e) = a_value e.proper
kind_form (level.Binary operator a b) = a_value (stands_between operator && a.proper && b.proper)
kind_form (level.Concat es) = a_value (has_two es && all_proper es)
kind_form (level.Index table key) = a_target (table.proper && key.proper)
kind_form (level.Member table name) = a_target table.proper
kind_form (level.ExprKind::Call callee args) = a_call (callee.proper && all_proper args)
kind_form (level.Method object name args) = a_call (object.proper && all_proper args)
kind_form (level.Table fields) = a_value (all fields)
kind_form (level.Function func) = a_value func
kind_form (level.ExprKind::If arms other) = a_value (has_one arms && all arms && other.proper)
kind_form (level.Interp texts values) = a_value (nat_eq (length texts) (length values + 1) && all_proper values)

abbrev pub field_kind_proper : FieldKind-F Form Bool Bool Bool Form Bool Bool Bool Bool → Bool
field_kind_proper (level.Item value) = value.proper
field_kind_proper (level.Named name value) = value.proper
field_kind_proper (level.Keyed key value) = key.proper && value.proper

abbrev pub stat_kind_proper : StatKind-F Form Bool Bool Bool Form Bool Bool Bool Bool → Bool
stat_kind_proper (level.Local names values) = has_one names && all_proper values
stat_kind_proper (level.Assign targets values) = has_one targets && all_targets targets && all_proper targets && has_one values && all_proper values
stat_kind_proper (level.Compound operator target value) = computes operator && target.target && target.proper && value.proper
stat_kind_proper (level.StatKind::Call call) = call.calls && call.proper
stat_kind_proper (level.Do body) = all body
stat_kind_proper (level.While cond body) = cond.proper && all body
stat_kind_proper (level.Repeat body cond) = all body && cond.proper
stat_kind_proper (level.StatKind::If arms other) = has_one arms && all arms && maybe_all other
stat_kind_proper (level.NumFor name start limit step body) = start.proper && limit.proper && maybe_proper step && all body
stat_kind_proper (level.GenFor names values body) = has_one names && has_one values && all_proper values && all body
stat_kind_proper (level.LocalFunction name func) = func
stat_kind_proper (level.Return values) = all_proper values
stat_kind_proper level.Break = true
stat_kind_proper level.Continue = true

abbrev pub steps : Steps Form Bool Bool Bool Form Bool Bool Bool Bool
steps = record {
  kind = kind_form;
  field_kind = field_kind_proper;
  stat_kind = stat_kind_proper;
  arm = λ a. a.cond.proper && all a.body;
  expr = λ e. e.kind;
  expr_arm = λ a. a.cond.proper && a.value.proper;
  field = λ f. f.kind;
  func = λ f. all f.body;
  stat = λ s. s.kind;
}

abbrev pub form_expr : Expr → Form
form_expr = at_expr steps

abbrev pub proper_stat : Stat → Bool
proper_stat = at_stat steps

abbrev pub proper_func : FuncBody → Bool
proper_func = at_func steps

abbrev pub proper_arm : Arm → Bool
proper_arm = at_arm steps

abbrev pub proper_expr_arm : ExprArm → Bool
proper_expr_arm = at_expr_arm steps

abbrev pub proper_field : Field → Bool
proper_field = at_field steps

abbrev pub IsProper : Tree → Type 0
IsProper tree = IsTrue (proper_func tree.main)

-- ---- what it says of a node

-- a call of a function or of a method
pub data IsCall (e : Expr) : Type 0 where
  function_call : (callee : Expr) (args : List Expr) → e.kind ≡ expr.Call callee args → IsCall e
  method_call : (object : Expr) (x : StrId) (args : List Expr) → e.kind ≡ expr.Method object x args → IsCall e

-- what can be assigned to
pub data IsTarget (e : Expr) : Type 0 where
  name : (x : StrId) → e.kind ≡ expr.Name x → IsTarget e
  index : (table key : Expr) → e.kind ≡ expr.Index table key → IsTarget e
  member : (table : Expr) (x : StrId) → e.kind ≡ expr.Member table x → IsTarget e

-- the nodes of a proper tree
pub record ProperNodes : Type 0 where
  pub call : (s : Stat) (e : Expr) → s.kind ≡ stat.Call e → IsTrue (proper_stat s) → IsCall e
  pub assigned : (s : Stat) (targets values : List Expr) → s.kind ≡ stat.Assign targets values → IsTrue (proper_stat s) → (k : ℕ) (e : Expr) → slice_get targets k ≡ Some e → IsTarget e
  pub compound : (s : Stat) (operator : BinOp) (target value : Expr) → s.kind ≡ stat.Compound operator target value → IsTrue (proper_stat s) → IsTarget target × IsTrue (computes operator)
  pub run : (e : Expr) (operands : List Expr) → e.kind ≡ expr.Concat operands → IsTrue (form_expr e).proper → 2 ≤ length operands
  pub between : (e : Expr) (operator : BinOp) (a b : Expr) → e.kind ≡ expr.Binary operator a b → IsTrue (form_expr e).proper → IsTrue (stands_between operator)
