-- How many registers a function needs.
--
-- A list of expressions e1 to ek needs the greatest i - 1 + need(ei): each value is held while the next are made.
use Rattle.std.specs.Prelude.{ℕ, ◌+◌, ◌%◌, ◌==◌, if◌then◌else◌, max, length, List, [], ◌∷◌, Option, Some, None}
use Rattle.syntax_tree.specs.declared.tree.Arm.{Arm}
use Rattle.syntax_tree.specs.declared.tree.Expr.{Expr}
use Rattle.syntax_tree.specs.declared.tree.ExprArm.{ExprArm}
use Rattle.syntax_tree.specs.declared.tree.Field.{Field}
use Rattle.syntax_tree.specs.declared.tree.FuncBody.{FuncBody}
use Rattle.syntax_tree.specs.declared.tree.Stat.{Stat}
use Rattle.syntax_tree.specs.declared.tree.ExprKind.TheOpen as level
use Rattle.syntax_tree.specs.declared.tree.ExprKind.TheOpen.{ExprKind-F, FieldKind-F, StatKind-F, Arm-F, Expr-F, ExprArm-F, Field-F, FuncBody-F, Stat-F}
use Rattle.syntax_tree.specs.Fold.{Steps, at_expr, at_stat, at_func, at_arm, at_expr_arm, at_field}
use Rattle.syntax_tree.specs.Lists.{greatest}

-- What an expression needs, and how many registers it holds as the target of an assignment: 1 as a member,
-- 2 as an index, 0 as a name. What the parts of a target need is what it needs as an expression.
pub record ExprNeed : Type 0 where
  pub need : ℕ
  pub holds : ℕ

-- What a field of a constructor needs, and how many positional fields wait to be stored after it, where so
-- many waited before it.
pub record FieldNeed : Type 0 where
  pub need : ℕ
  pub waiting : ℕ → ℕ

-- What a statement needs, and how many locals it declares in its block.
pub record StatNeed : Type 0 where
  pub need : ℕ
  pub declares : ℕ

-- the greatest of `held` plus the first need, `held + 1` plus the second, and so on
abbrev pub list_from : ℕ → List ExprNeed → ℕ
list_from held [] = 0
list_from held (e ∷ es) = max (held + e.need) (list_from (held + 1) es)

abbrev pub list_need : List ExprNeed → ℕ
list_need es = list_from 0 es

-- the greatest sum of what waits before a field and what the field needs
abbrev pub fields_from : ℕ → List FieldNeed → ℕ
fields_from waiting [] = 0
fields_from waiting (f ∷ fs) = max (waiting + f.need) (fields_from (f.waiting waiting) fs)

abbrev pub leaf : ExprNeed
leaf = record { need = 1; holds = 0 }

abbrev pub needs : ℕ → ExprNeed
needs n = record { need = n; holds = 0 }

abbrev pub kind_need : ExprKind-F ExprNeed FieldNeed StatNeed ℕ ExprNeed ℕ FieldNeed ℕ StatNeed → ExprNeed
kind_need level.Nil = leaf
kind_need level.True = leaf
kind_need level.False = leaf
kind_need (level.Num n) = leaf
kind_need (level.Str text) = leaf
kind_need level.Vararg = leaf
kind_need (level.Name name) = leaf
kind_need (level.Function func) = leaf
kind_need (level.Paren e) = needs e.need
kind_need (level.Unary op e) = needs e.need
kind_need (level.Member table name) = record { need = table.need; holds = 1 }
kind_need (level.Binary op a b) = needs (max a.need (1 + b.need))
kind_need (level.Index table key) = record { need = max table.need (1 + key.need); holds = 2 }
kind_need (level.Concat es) = needs (list_need es)
kind_need (level.ExprKind::Call callee args) = needs (max callee.need (1 + list_need args))
kind_need (level.Method object name args) = needs (max object.need (2 + list_need args))
kind_need (level.Interp texts values) = needs (2 + list_need values)
kind_need (level.ExprKind::If arms other) = needs (max (greatest arms) other.need)
kind_need (level.Table fields) = needs (1 + fields_from 0 fields)

-- a positional field waits, and the sixteenth stores all that wait; a field with a key leaves none waiting
abbrev pub field_kind_need : FieldKind-F ExprNeed FieldNeed StatNeed ℕ ExprNeed ℕ FieldNeed ℕ StatNeed → FieldNeed
field_kind_need (level.Item value) = record { need = value.need; waiting = λ w. (w + 1) % 16 }
field_kind_need (level.Named name value) = record { need = value.need; waiting = λ w. w }
field_kind_need (level.Keyed key value) = record { need = max key.need (1 + value.need); waiting = λ w. 0 }

-- what a target holds, the targets before it holding `held`, and what its parts need; a name has no parts
abbrev pub parts_need : ℕ → ExprNeed → ℕ
parts_need held target = if target.holds == 0 then 0 else held + target.need

abbrev pub targets_from : ℕ → List ExprNeed → ℕ
targets_from held [] = 0
targets_from held (t ∷ ts) = max (parts_need held t) (targets_from (held + t.holds) ts)

-- how many registers all targets hold
abbrev pub all_hold : List ExprNeed → ℕ
all_hold [] = 0
all_hold (t ∷ ts) = t.holds + all_hold ts

-- the greatest sum of the locals declared before a statement and what the statement needs
abbrev pub block_from : ℕ → List StatNeed → ℕ
block_from declared [] = 0
block_from declared (s ∷ ss) = max (declared + s.need) (block_from (declared + s.declares) ss)

abbrev pub block_need : List StatNeed → ℕ
block_need ss = block_from 0 ss

abbrev pub declared_in : List StatNeed → ℕ
declared_in [] = 0
declared_in (s ∷ ss) = s.declares + declared_in ss

abbrev pub else_need : Option (List StatNeed) → ℕ
else_need None = 0
else_need (Some body) = block_need body

-- a bound of a numeric loop, which is made while three registers are held
abbrev pub step_need : Option ExprNeed → ℕ
step_need None = 0
step_need (Some e) = 3 + e.need

abbrev pub stat : ℕ → StatNeed
stat n = record { need = n; declares = 0 }

abbrev pub stat_kind_need : StatKind-F ExprNeed FieldNeed StatNeed ℕ ExprNeed ℕ FieldNeed ℕ StatNeed → StatNeed
stat_kind_need (level.Local names values) = record { need = max (length names) (list_need values); declares = length names }
stat_kind_need (level.Assign targets values) = stat (max (targets_from 0 targets) (all_hold targets + max (length targets) (list_need values)))
stat_kind_need (level.Compound op target value) = stat (max (parts_need 0 target) (target.holds + 1 + value.need))
stat_kind_need (level.StatKind::Call call) = stat call.need
stat_kind_need (level.Do body) = stat (block_need body)
stat_kind_need (level.While cond body) = stat (max cond.need (block_need body))
stat_kind_need (level.StatKind::If arms other) = stat (max (greatest arms) (else_need other))
stat_kind_need (level.Repeat body cond) = stat (max (block_need body) (declared_in body + cond.need))
stat_kind_need (level.NumFor name start limit step body) = stat (max (max (3 + start.need) (3 + limit.need)) (max (step_need step) (4 + block_need body)))
stat_kind_need (level.GenFor names values body) = stat (max (max 3 (list_need values)) (max (3 + max (length names) 3) (3 + length names + block_need body)))
stat_kind_need (level.LocalFunction name func) = record { need = 1; declares = 1 }
stat_kind_need (level.Return values) = stat (list_need values)
stat_kind_need level.Break = stat 0
stat_kind_need level.Continue = stat 0

abbrev pub steps : Steps ExprNeed FieldNeed StatNeed ℕ ExprNeed ℕ FieldNeed ℕ StatNeed
steps = record { kind = kind_need; field_kind = field_kind_need; stat_kind = stat_kind_need; arm = λ a. max a.cond.need (block_need a.body); expr = λ e. e.kind; expr_arm = λ a. max a.cond.need a.value.need; field = λ f. f.kind; func = λ f. length f.params + block_need f.body; stat = λ s. s.kind }

abbrev pub need_expr : Expr → ExprNeed
need_expr = at_expr steps

abbrev pub need_stat : Stat → StatNeed
need_stat = at_stat steps

abbrev pub need_arm : Arm → ℕ
need_arm = at_arm steps

abbrev pub need_expr_arm : ExprArm → ℕ
need_expr_arm = at_expr_arm steps

abbrev pub need_field : Field → FieldNeed
need_field = at_field steps

-- the parameters and the block
abbrev pub need : FuncBody → ℕ
need = at_func steps

abbrev pub need_step : Option Expr → ℕ
need_step None = 0
need_step (Some e) = 3 + (need_expr e).need
