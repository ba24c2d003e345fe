-- The rules on what stands where in a function: loop words, `...`, and how many locals are live.
use Rattle.std.specs.Prelude.{ℕ, ◌+◌, ◌&&◌, nat_lt, nat_le, if◌then◌else◌, length, Bool, true, false, List, [], ◌∷◌, ◌++◌, Option, Some, None}
use Rattle.syntax_tree.specs.declared.fault.ScopeFault.{ScopeFault}
use Rattle.syntax_tree.specs.declared.fault.ScopeRule.TheVariants as rule
use Rattle.syntax_tree.specs.declared.notes.Place.{Place}
use Rattle.syntax_tree.specs.declared.tree.Arm.{Arm}
use Rattle.syntax_tree.specs.declared.tree.Expr.{Expr}
use Rattle.syntax_tree.specs.declared.tree.ExprArm.{ExprArm}
use Rattle.syntax_tree.specs.declared.tree.Field.{Field}
use Rattle.syntax_tree.specs.declared.tree.FuncBody.{FuncBody}
use Rattle.syntax_tree.specs.declared.tree.Stat.{Stat}
use Rattle.syntax_tree.specs.declared.tree.ExprKind.TheOpen as level
use Rattle.syntax_tree.specs.declared.tree.ExprKind.TheOpen.{ExprKind-F, FieldKind-F, StatKind-F, Arm-F, Expr-F, ExprArm-F, Field-F, FuncBody-F, Stat-F}
use Rattle.syntax_tree.specs.Fold.{Steps, at_expr, at_stat, at_func, at_arm, at_expr_arm, at_field}
use Rattle.syntax_tree.specs.Faults.{fault}
use Rattle.syntax_tree.specs.Limits.{most_variables}

-- the faults of a part of a function, by the place where it stands
abbrev pub Part : Type 0
Part = Place → List ScopeFault

-- The faults of a statement, and how many locals it declares in its block.
pub record StatRules : Type 0 where
  pub faults : Part
  pub declares : ℕ

infixl 10 ◌>>◌
abbrev pub ◌>>◌ : Part → Part → Part
f >> g = λ p. f p ++ g p

abbrev pub nothing : Part
nothing p = []

abbrev pub all : List Part → Part
all [] p = []
all (f ∷ fs) p = f p ++ all fs p

abbrev pub maybe : Option Part → Part
maybe None p = []
maybe (Some f) p = f p

-- each statement stands after the locals of those before it
abbrev pub block : List StatRules → Part
block [] p = []
block (s ∷ ss) p = s.faults p ++ block ss (record p { live = p.live + s.declares })

abbrev pub else_block : Option (List StatRules) → Part
else_block None p = []
else_block (Some body) p = block body p

-- the place in a loop that declares so many variables, which are live in its body
abbrev pub in_loop_of : ℕ → Place → Place
in_loop_of more p = record p { in_loop = true; live = p.live + more }

abbrev pub in_loop : Part → Part
in_loop f p = f (in_loop_of 0 p)

-- what declares one live local too many, `live` being live before it and `more` declared by it
abbrev pub too_many : ℕ → ℕ → ℕ → List ScopeFault
too_many at live more = if nat_le live most_variables && nat_lt most_variables (live + more) then fault rule.TooManyLocals at else []

-- `...` stands in a function that takes any number of arguments
abbrev pub vararg : ℕ → Part
vararg at p = if p.vararg then [] else fault rule.VarargOutside at

abbrev pub kind_rules : ExprKind-F (ℕ → Part) Part (ℕ → StatRules) Part Part Part Part (List ScopeFault) StatRules → ℕ → Part
kind_rules level.Nil at = nothing
kind_rules level.True at = nothing
kind_rules level.False at = nothing
kind_rules (level.Num n) at = nothing
kind_rules (level.Str text) at = nothing
kind_rules level.Vararg at = vararg at
kind_rules (level.Name name) at = nothing
kind_rules (level.Paren e) at = e
kind_rules (level.Unary op e) at = e
kind_rules (level.Binary op a b) at = a >> b
kind_rules (level.Concat es) at = all es
kind_rules (level.Index table key) at = table >> key
kind_rules (level.Member table name) at = table
kind_rules (level.ExprKind::Call callee args) at = callee >> all args
kind_rules (level.Method object name args) at = object >> all args
kind_rules (level.Table fields) at = all fields
kind_rules (level.Function func) at = λ p. func
kind_rules (level.ExprKind::If arms other) at = all arms >> other
kind_rules (level.Interp texts values) at = all values

abbrev pub field_kind_rules : FieldKind-F (ℕ → Part) Part (ℕ → StatRules) Part Part Part Part (List ScopeFault) StatRules → Part
field_kind_rules (level.Item value) = value
field_kind_rules (level.Named name value) = value
field_kind_rules (level.Keyed key value) = key >> value

-- a statement that declares no local in its block
abbrev pub stat : Part → StatRules
stat f = record { faults = f; declares = 0 }

-- a statement that stands in a loop
abbrev pub loop_word : ℕ → StatRules
loop_word at = stat (λ p. if p.in_loop then [] else fault rule.LoopWordOutside at)

-- a loop that declares variables
abbrev pub for_loop : ℕ → ℕ → Part → Part
for_loop at more body p = too_many at p.live more ++ body (in_loop_of more p)

abbrev pub stat_kind_rules : StatKind-F (ℕ → Part) Part (ℕ → StatRules) Part Part Part Part (List ScopeFault) StatRules → ℕ → StatRules
stat_kind_rules (level.Local names values) at = record { faults = λ p. all values p ++ too_many at p.live (length names); declares = length names }
stat_kind_rules (level.Assign targets values) at = stat (all targets >> all values)
stat_kind_rules (level.Compound op target value) at = stat (target >> value)
stat_kind_rules (level.StatKind::Call call) at = stat call
stat_kind_rules (level.Do body) at = stat (block body)
stat_kind_rules (level.While cond body) at = stat (cond >> in_loop (block body))
stat_kind_rules (level.Repeat body cond) at = stat (in_loop (block body) >> cond)
stat_kind_rules (level.StatKind::If arms other) at = stat (all arms >> else_block other)
stat_kind_rules (level.NumFor name start limit step body) at = stat (start >> limit >> maybe step >> for_loop at 1 (block body))
stat_kind_rules (level.GenFor names values body) at = stat (all values >> for_loop at (length names) (block body))
stat_kind_rules (level.LocalFunction name func) at = record { faults = λ p. too_many at p.live 1 ++ func; declares = 1 }
stat_kind_rules (level.Return values) at = stat (all values)
stat_kind_rules level.Break at = loop_word at
stat_kind_rules level.Continue at = loop_word at

-- in a function no loop around it counts, and its parameters are live
abbrev pub func_rules : ℕ → Bool → ℕ → Part → List ScopeFault
func_rules at vararg params body = too_many at 0 params ++ body (record { in_loop = false; vararg = vararg; live = params })

abbrev pub steps : Steps (ℕ → Part) Part (ℕ → StatRules) Part Part Part Part (List ScopeFault) StatRules
steps = record { kind = kind_rules; field_kind = field_kind_rules; stat_kind = stat_kind_rules; arm = λ a. a.cond >> block a.body; expr = λ e. e.kind e.at; expr_arm = λ a. a.cond >> a.value; field = λ f. f.kind; func = λ f. func_rules f.at f.vararg (length f.params) (block f.body); stat = λ s. s.kind s.at }

abbrev pub rules_expr : Expr → Part
rules_expr = at_expr steps

abbrev pub rules_stat : Stat → StatRules
rules_stat = at_stat steps

abbrev pub rules_func : FuncBody → List ScopeFault
rules_func = at_func steps

abbrev pub rules_arm : Arm → Part
rules_arm = at_arm steps

abbrev pub rules_expr_arm : ExprArm → Part
rules_expr_arm = at_expr_arm steps

abbrev pub rules_field : Field → Part
rules_field = at_field steps

abbrev pub rules_step : Option Expr → Part
rules_step None p = []
rules_step (Some e) p = rules_expr e p
