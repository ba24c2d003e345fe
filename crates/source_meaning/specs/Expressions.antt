-- What an expression does: a row for each kind, and for each part of one that is waited for.
use Rattle.std.specs.Prelude.{ℕ, ◌+◌, pos, Bool, true, false, not, List, [], ◌∷◌, ◌++◌, length, Option, Some, None, Result, Ok, Err, slice_index_or, codes, nat_eq, if◌then◌else◌}
use Rattle.byte_text.specs.declared.fixed.StrId.{StrId}
use Rattle.syntax_tree.specs.declared.tree.BinOp.{BinOp}
use Rattle.syntax_tree.specs.declared.tree.BinOp.TheVariants as op
use Rattle.syntax_tree.specs.declared.tree.Expr.{Expr}
use Rattle.syntax_tree.specs.declared.tree.ExprArm.{ExprArm}
use Rattle.syntax_tree.specs.declared.tree.ExprKind.TheOpen as level
use Rattle.syntax_tree.specs.declared.tree.Field.{Field}
use Rattle.syntax_tree.specs.declared.tree.FieldKind.{out-FieldKind}
use Rattle.syntax_tree.specs.declared.tree.FuncBody.{FuncBody}
use Rattle.syntax_tree.specs.declared.tree.UnOp.{UnOp}
use Rattle.syntax_tree.specs.declared.tree.UnOp.TheVariants as unary
use Rattle.value_model.specs.declared.operator.ArithOp.TheVariants as arith
use Rattle.value_model.specs.declared.operator.CompareOp.TheVariants as compare
use Rattle.value_model.specs.Values.{Value, Nil, Boolean, Number, Text, Table, Closure, TableRef, Bytes, is_true}
use Rattle.value_model.specs.Errors.{RunError}
use Rattle.value_model.specs.Store.{TableOf, empty_table, table_at, with_table, next_table, with_new_table, with_new_closure}
use Rattle.value_model.specs.Waits.{ByScript}
use Rattle.value_model.specs.Choices.{Operation, Index, Arith, Compare, Concat, Length}
use Rattle.bounded_runs.specs.Runs.{Goes}
use Rattle.value_model.specs.Metamethods.{choose}
use Rattle.value_model.specs.Tables.{set}
use Rattle.source_meaning.specs.Levels.{ExprLevel, FieldLevel}
use Rattle.source_meaning.specs.States.{Node, of_expr, Environment, cell_of, Wanted, One, All, Purpose, Wants, Compares, Finds, Joins, Item, Last, Only, Operand, LeftOperand, Decides, Operands, Indexed, Member, Callee, Object, ItemField, LastField, KeyField, ValueField, Picks, Awaits, Focus, Evaluate, Give, EvaluateAll, GiveAll, Join, Fill, Spread, Pick, Fault, Invoke, World}
use Rattle.source_meaning.specs.Moves.{Row, Here, Look, now, stuck, state, store_of, with_store, cell_at, environment_here, looks, first, settle}

-- the text of a name or a string, which trees hold by its number
abbrev pub text_of : List Bytes → StrId → Bytes
text_of texts x = slice_index_or texts x.0 []

-- ---- lists of values

-- values are there, and the rest is evaluated from left to right. The last expression gives all its values
abbrev pub list : List Value → List Expr → Row
list got [] h k env w = now (GiveAll got) h k env w
list got (e ∷ []) h k env w = now (EvaluateAll e) h (Last got ∷ k) env w
list got (e ∷ d ∷ es) h k env w = now (Evaluate e) h (Item got (d ∷ es) ∷ k) env w

-- ---- names, operations

-- a local's value, or a global's
abbrev pub named : List Bytes → Option ℕ → Node → StrId → Row
named texts (Some c) at x h k env w = now (Give (cell_at w c)) h k env w
named texts None at x h k env w =
    settle (choose (Index (Table (environment_here h w)) (Text (text_of texts x))) (store_of w)) at (Wants One) h k env w

abbrev pub unary_result : UnOp → Value → Node → Row
unary_result unary.Not v at h k env w = now (Give (Boolean (not (is_true v)))) h k env w
unary_result unary.Len v at h k env w = settle (choose (Length v) (store_of w)) at (Wants One) h k env w
unary_result unary.Minus v at h k env w =
    settle (choose (Arith arith.Unm v v) (store_of w)) at (Wants One) h k env w

-- the operation of a binary operator but `and` and `or`
abbrev pub operation : BinOp → Value → Value → Option Operation
operation op.Add v w = Some (Arith arith.Add v w)
operation op.Sub v w = Some (Arith arith.Sub v w)
operation op.Mul v w = Some (Arith arith.Mul v w)
operation op.Div v w = Some (Arith arith.Div v w)
operation op.Idiv v w = Some (Arith arith.Idiv v w)
operation op.Mod v w = Some (Arith arith.Mod v w)
operation op.Pow v w = Some (Arith arith.Pow v w)
operation op.Concat v w = Some (Concat v w)
operation op.Eq v w = Some (Compare compare.Eq v w)
operation op.Ne v w = Some (Compare compare.Eq v w)
operation op.Lt v w = Some (Compare compare.Lt v w)
operation op.Gt v w = Some (Compare compare.Lt w v)
operation op.Le v w = Some (Compare compare.Le v w)
operation op.Ge v w = Some (Compare compare.Le w v)
operation _ v w = None

-- what its outcome is for
abbrev pub purpose : BinOp → Purpose
purpose op.Eq = Compares false
purpose op.Ne = Compares true
purpose op.Lt = Compares false
purpose op.Gt = Compares false
purpose op.Le = Compares false
purpose op.Ge = Compares false
purpose _ = Wants One

abbrev pub operate : Option Operation → Purpose → Node → Row
operate None p at h k env w = stuck h k env w
operate (Some o) p at h k env w = settle (choose o (store_of w)) at p h k env w

-- the left operand of `and` and `or` is their value, or the right one is
abbrev pub decide : BinOp → Bool → Value → Expr → Row
decide op.And true v e h k env w = now (Evaluate e) h k env w
decide op.And false v e h k env w = now (Give v) h k env w
decide op.Or true v e h k env w = now (Give v) h k env w
decide op.Or false v e h k env w = now (Evaluate e) h k env w
decide _ b v e h k env w = stuck h k env w

-- the operands of a run of `..` are evaluated first, from the left
abbrev pub operands : Node → List Value → List Expr → Row
operands at got [] h k env w = now (Join at got) h k env w
operands at got (e ∷ es) h k env w = now (Evaluate e) h (Operands at got es ∷ k) env w

abbrev pub binary : BinOp → Expr → Expr → Node → Row
binary op.And a b at h k env w = now (Evaluate a) h (Decides op.And b ∷ k) env w
binary op.Or a b at h k env w = now (Evaluate a) h (Decides op.Or b ∷ k) env w
binary op a b at h k env w = now (Evaluate a) h (LeftOperand at op b ∷ k) env w

-- operands of a run of `..`, the last one first: the last two are joined
abbrev pub join : Node → List Value → Row
join at [] h k env w = stuck h k env w
join at (v ∷ []) h k env w = now (Give v) h k env w
join at (v ∷ u ∷ vs) h k env w = settle (choose (Concat u v) (store_of w)) at (Joins vs) h k env w

-- ---- calls

abbrev pub call : Node → Value → List Value → Wanted → Row
call at f vs wanted h k env w = now (Invoke ByScript f vs) h (Awaits at (Wants wanted) ∷ k) env w

-- the function of a method call is looked up in its object
abbrev pub find : Node → Value → Bytes → List Expr → Wanted → Row
find at object name args wanted h k env w =
    settle (choose (Index object (Text name)) (store_of w)) at (Finds object args wanted) h k env w

-- in a piece of an interpolated string each `%` is doubled
abbrev pub doubled : Bytes → Bytes
doubled [] = []
doubled (b ∷ bs) = if nat_eq b 37 then 37 ∷ 37 ∷ doubled bs else b ∷ doubled bs

-- between two pieces stands `%*`
abbrev pub pieces : List Bytes → List StrId → Bytes
pieces texts [] = []
pieces texts (x ∷ []) = doubled (text_of texts x)
pieces texts (x ∷ y ∷ xs) = doubled (text_of texts x) ++ codes "%*" ++ pieces texts (y ∷ xs)

-- ---- tables

-- the table after a store
abbrev pub stored : Result TableOf RunError → List Look → TableRef → Focus → Node → Row
stored (Ok t) ns r f at h k env w = Goes ns (state f h k env (with_store (with_table (store_of w) r t) w))
stored (Err e) ns r f at h k env w = Goes ns (state (Fault e) h (Awaits at (Wants One) ∷ k) env w)

-- a field is stored, and then comes what follows
abbrev pub store_field : (asked : ℕ) → TableRef → (key v : Value) → Focus → Node → Row
store_field n r key v f at h k env w =
    stored (set (table_at (store_of w) r) key v) (looks n at h w) r f at h k env w

-- a field without a key is stored at its place; what has a key asks the table
abbrev pub field : List Bytes → FieldLevel → Node → TableRef → (place : ℕ) → List Field → Row
field texts (level.Item e) at r place [] h k env w = now (EvaluateAll e) h (LastField at r place ∷ k) env w
field texts (level.Item e) at r place (d ∷ ds) h k env w = now (Evaluate e) h (ItemField at r place (d ∷ ds) ∷ k) env w
field texts (level.Named x e) at r place ds h k env w =
    now (Evaluate e) h (ValueField at r place (Text (text_of texts x)) ds ∷ k) env w
field texts (level.Keyed key e) at r place ds h k env w = now (Evaluate key) h (KeyField at r place e ds ∷ k) env w

abbrev pub fill : List Bytes → Node → TableRef → (place : ℕ) → List Field → Row
fill texts at r place [] h k env w = now (Give (Table r)) h k env w
fill texts at r place (d ∷ ds) h k env w = field texts (out-FieldKind d.kind) at r place ds h k env w

-- the last field's values are stored, one after the other
abbrev pub fill_values : Node → TableRef → (place : ℕ) → List Value → Row
fill_values at r place [] h k env w = now (Give (Table r)) h k env w
fill_values at r place (v ∷ vs) h k env w =
    store_field 0 r (Number (pos place)) v (Spread at r (place + 1) vs) at h k env w

-- the table is made first
abbrev pub table : Node → List Field → Row
table at ds h k env w =
    now (Fill at (next_table (store_of w)) 1 ds) h k env (with_store (with_new_table (store_of w) empty_table) w)

-- ---- functions

-- a new closure has the environment of the one that makes it
abbrev pub with_closure : FuncBody → Here → Environment → World → World
with_closure func h env w =
    record w { objects = with_new_closure w.objects (environment_here h w) (record { func = func; env = env }) }

abbrev pub next_closure : World → Value
next_closure w = Closure (length (store_of w).closures)

-- ---- choices

abbrev pub pick : List ExprArm → Expr → Row
pick [] other h k env w = now (Evaluate other) h k env w
pick (arm ∷ arms) other h k env w = now (Evaluate arm.cond) h (Picks arm.value arms other ∷ k) env w

abbrev pub picked : Bool → Expr → List ExprArm → Expr → Row
picked true e arms other h k env w = now (Evaluate e) h k env w
picked false e arms other h k env w = now (Pick arms other) h k env w

-- ---- the row of each kind of expression

-- as a call, it gives so many values
abbrev pub begin_call : ExprLevel → Wanted → Node → Row
begin_call (level.ExprKind::Call f args) n at h k env w = now (Evaluate f) h (Callee at args n ∷ k) env w
begin_call (level.Method object x args) n at h k env w = now (Evaluate object) h (Object at x args n ∷ k) env w
begin_call _ n at h k env w = stuck h k env w

-- one value
abbrev pub begin : List Bytes → ExprLevel → Node → Row
begin texts level.Nil at h k env w = now (Give Nil) h k env w
begin texts level.True at h k env w = now (Give (Boolean true)) h k env w
begin texts level.False at h k env w = now (Give (Boolean false)) h k env w
begin texts (level.Num n) at h k env w = now (Give (Number n)) h k env w
begin texts (level.Str x) at h k env w = now (Give (Text (text_of texts x))) h k env w
begin texts level.Vararg at h k env w = now (Give (first h.varargs)) h k env w
begin texts (level.Name x) at h k env w = named texts (cell_of env x) at x h k env w
begin texts (level.Paren e) at h k env w = now (Evaluate e) h k env w
begin texts (level.Unary op e) at h k env w = now (Evaluate e) h (Operand at op ∷ k) env w
begin texts (level.Binary op a b) at h k env w = binary op a b at h k env w
begin texts (level.Concat es) at h k env w = operands at [] es h k env w
begin texts (level.Index t key) at h k env w = now (Evaluate t) h (Indexed at key ∷ k) env w
begin texts (level.Member t x) at h k env w = now (Evaluate t) h (Member at x ∷ k) env w
begin texts (level.ExprKind::Call f args) at h k env w = now (Evaluate f) h (Callee at args One ∷ k) env w
begin texts (level.Method object x args) at h k env w = now (Evaluate object) h (Object at x args One ∷ k) env w
begin texts (level.Table ds) at h k env w = table at ds h k env w
begin texts (level.Function func) at h k env w = now (Give (next_closure w)) h k env (with_closure func h env w)
begin texts (level.ExprKind::If arms other) at h k env w = now (Pick arms other) h k env w
begin texts (level.Interp xs es) at h k env w = find at (Text (pieces texts xs)) (codes "format") es One h k env w

-- all values: those of a call or of `...`, and else the only one
abbrev pub begin_all : ExprLevel → Expr → Row
begin_all level.Vararg e h k env w = now (GiveAll h.varargs) h k env w
begin_all (level.ExprKind::Call f args) e h k env w = now (Evaluate f) h (Callee (of_expr e) args All ∷ k) env w
begin_all (level.Method object x args) e h k env w =
    now (Evaluate object) h (Object (of_expr e) x args All ∷ k) env w
begin_all _ e h k env w = now (Evaluate e) h (Only ∷ k) env w
