-- How the nodes of a tree are numbered: from 0 on, a node before its parts, and these in the order of their fields.
-- A statement, an expression and a function's body are nodes; arms and fields have no number.
use Rattle.std.specs.Prelude.{ℕ, ◌+◌, List, [], ◌∷◌, Option, Some, None}
use Rattle.syntax_tree.specs.declared.tree.Arm.{Arm, roll-Arm}
use Rattle.syntax_tree.specs.declared.tree.Expr.{Expr}
use Rattle.syntax_tree.specs.declared.tree.ExprArm.{ExprArm}
use Rattle.syntax_tree.specs.declared.tree.ExprKind.{ExprKind}
use Rattle.syntax_tree.specs.declared.tree.ExprKind as expr
use Rattle.syntax_tree.specs.declared.tree.ExprKind.TheFolds as folds
use Rattle.syntax_tree.specs.declared.tree.ExprKind.TheOpen as level
use Rattle.syntax_tree.specs.declared.tree.ExprKind.TheOpen.{ExprKind-F, FieldKind-F, StatKind-F, Arm-F, Expr-F, ExprArm-F, Field-F, FuncBody-F, Stat-F}
use Rattle.syntax_tree.specs.declared.tree.Field.{Field}
use Rattle.syntax_tree.specs.declared.tree.FieldKind.{FieldKind}
use Rattle.syntax_tree.specs.declared.tree.FieldKind as field
use Rattle.syntax_tree.specs.declared.tree.FuncBody.{FuncBody, roll-FuncBody}
use Rattle.syntax_tree.specs.declared.tree.Stat.{Stat}
use Rattle.syntax_tree.specs.declared.tree.StatKind.{StatKind}
use Rattle.syntax_tree.specs.declared.tree.StatKind as stat
use Rattle.syntax_tree.specs.declared.tree.Tree.{Tree}

-- from the first free number: the part with its numbers, and the next free number
abbrev pub Numbering : Type 0 → Type 0
Numbering A = ℕ → A × ℕ

abbrev pub same : {A : Type 0} → A → Numbering A
same a n = (a, n)

-- the numbers of f, and then those of a
infixl 10 ◌>>◌
abbrev pub ◌>>◌ : {A B : Type 0} → Numbering (A → B) → Numbering A → Numbering B
(f >> a) n = ((f n).0 (a (f n).1).0, (a (f n).1).1)

abbrev pub list : {A : Type 0} → List (Numbering A) → Numbering (List A)
list [] = same []
list (a ∷ rest) = same (λ x xs. x ∷ xs) >> a >> list rest

abbrev pub maybe : {A : Type 0} → Option (Numbering A) → Numbering (Option A)
maybe None = same None
maybe (Some a) = same Some >> a

abbrev pub maybe_list : {A : Type 0} → Option (List (Numbering A)) → Numbering (Option (List A))
maybe_list None = same None
maybe_list (Some parts) = same Some >> list parts

-- one level of a tree, with the numberings of its parts
abbrev pub Level : (Type 0 → Type 0 → Type 0 → Type 0 → Type 0 → Type 0 → Type 0 → Type 0 → Type 0 → Type 0) → Type 0
Level F = F (Numbering ExprKind) (Numbering FieldKind) (Numbering StatKind) (Numbering Arm) (Numbering Expr) (Numbering ExprArm) (Numbering Field) (Numbering FuncBody) (Numbering Stat)

abbrev pub expr_kind : Level ExprKind-F → Numbering ExprKind
expr_kind level.Nil = same expr.Nil
expr_kind level.True = same expr.True
expr_kind level.False = same expr.False
expr_kind (level.Num n) = same (expr.Num n)
expr_kind (level.Str x) = same (expr.Str x)
expr_kind level.Vararg = same expr.Vararg
expr_kind (level.Name x) = same (expr.Name x)
expr_kind (level.Paren e) = same expr.Paren >> e
expr_kind (level.Unary op e) = same (expr.Unary op) >> e
expr_kind (level.Binary op a b) = same (expr.Binary op) >> a >> b
expr_kind (level.Concat es) = same expr.Concat >> list es
expr_kind (level.Index a key) = same expr.Index >> a >> key
expr_kind (level.Member a x) = same (λ e. expr.Member e x) >> a
expr_kind (level.ExprKind::Call a args) = same expr.Call >> a >> list args
expr_kind (level.Method a x args) = same (λ e es. expr.Method e x es) >> a >> list args
expr_kind (level.Table fields) = same expr.Table >> list fields
expr_kind (level.Function f) = same expr.Function >> f
expr_kind (level.ExprKind::If arms other) = same expr.If >> list arms >> other
expr_kind (level.Interp texts values) = same (expr.Interp texts) >> list values

abbrev pub field_kind : Level FieldKind-F → Numbering FieldKind
field_kind (level.Item e) = same field.Item >> e
field_kind (level.Named x e) = same (field.Named x) >> e
field_kind (level.Keyed key e) = same field.Keyed >> key >> e

abbrev pub stat_kind : Level StatKind-F → Numbering StatKind
stat_kind (level.Local names values) = same (stat.Local names) >> list values
stat_kind (level.Assign targets values) = same stat.Assign >> list targets >> list values
stat_kind (level.Compound op target value) = same (stat.Compound op) >> target >> value
stat_kind (level.StatKind::Call e) = same stat.Call >> e
stat_kind (level.Do body) = same stat.Do >> list body
stat_kind (level.While c body) = same stat.While >> c >> list body
stat_kind (level.Repeat body c) = same stat.Repeat >> list body >> c
stat_kind (level.StatKind::If arms other) = same stat.If >> list arms >> maybe_list other
stat_kind (level.NumFor x start limit step body) = same (stat.NumFor x) >> start >> limit >> maybe step >> list body
stat_kind (level.GenFor names values body) = same (stat.GenFor names) >> list values >> list body
stat_kind (level.LocalFunction x f) = same (stat.LocalFunction x) >> f
stat_kind (level.Return values) = same stat.Return >> list values
stat_kind level.Break = same stat.Break
stat_kind level.Continue = same stat.Continue

abbrev pub arm_level : Level Arm-F → Numbering Arm
arm_level a = same (λ c b. roll-Arm (record { cond = c; body = b })) >> a.cond >> list a.body

abbrev pub expr_level : Level Expr-F → Numbering Expr
expr_level e n = (same (λ k. record { id = n; at = e.at; line = e.line; kind = k }) >> e.kind) (n + 1)

abbrev pub expr_arm_level : Level ExprArm-F → Numbering ExprArm
expr_arm_level a = same (λ c v. record { cond = c; value = v }) >> a.cond >> a.value

abbrev pub field_level : Level Field-F → Numbering Field
field_level f = same (λ k. record { at = f.at; kind = k }) >> f.kind

abbrev pub func_level : Level FuncBody-F → Numbering FuncBody
func_level f n = (same (λ b. roll-FuncBody (record { id = n; at = f.at; line = f.line; params = f.params; vararg = f.vararg; body = b })) >> list f.body) (n + 1)

abbrev pub stat_level : Level Stat-F → Numbering Stat
stat_level s n = (same (λ k. record { id = n; at = s.at; line = s.line; kind = k }) >> s.kind) (n + 1)

abbrev pub numbered_func : FuncBody → Numbering FuncBody
numbered_func = folds.fold-FuncBody (Numbering ExprKind) (Numbering FieldKind) (Numbering StatKind) (Numbering Arm) (Numbering Expr) (Numbering ExprArm) (Numbering Field) (Numbering FuncBody) (Numbering Stat) expr_kind field_kind stat_kind arm_level expr_level expr_arm_level field_level func_level stat_level

-- the tree of a main function that is not numbered yet
abbrev pub numbered : FuncBody → Tree
numbered main = record { main = (numbered_func main 0).0; nodes = (numbered_func main 0).1 }
