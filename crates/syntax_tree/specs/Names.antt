-- What each name of a tree is bound to.
--
-- A local is visible from the statement after its `local` to the end of its block, the name of a `local function`
-- also inside the function, parameters and loop variables in the body, and what the body of a `repeat` declares also
-- in its condition.
use Rattle.std.specs.Prelude.{ℕ, ◌+◌, length, take, drop, slice_set, Bool, true, false, List, [], ◌∷◌, ◌++◌, Option, Some, None}
use Rattle.byte_text.specs.declared.fixed.StrId.{StrId}
use Rattle.syntax_tree.specs.declared.bindings.Bound.{Bound}
use Rattle.syntax_tree.specs.declared.bindings.LocalInfo.{LocalInfo}
use Rattle.syntax_tree.specs.declared.fault.ScopeFault.{ScopeFault}
use Rattle.syntax_tree.specs.declared.notes.Leap.{Leap}
use Rattle.syntax_tree.specs.declared.notes.Note.{Note}
use Rattle.syntax_tree.specs.declared.notes.Visible.{Visible}
use Rattle.syntax_tree.specs.declared.tree.Arm.{Arm}
use Rattle.syntax_tree.specs.declared.tree.Expr.{Expr}
use Rattle.syntax_tree.specs.declared.tree.ExprArm.{ExprArm}
use Rattle.syntax_tree.specs.declared.tree.Field.{Field}
use Rattle.syntax_tree.specs.declared.tree.FuncBody.{FuncBody}
use Rattle.syntax_tree.specs.declared.tree.Stat.{Stat}
use Rattle.syntax_tree.specs.declared.tree.ExprKind.{ExprKind}
use Rattle.syntax_tree.specs.declared.tree.StatKind.{StatKind}
use Rattle.syntax_tree.specs.declared.tree.ExprKind.TheFolds as folds
use Rattle.syntax_tree.specs.declared.tree.ExprKind.TheOpen as level
use Rattle.syntax_tree.specs.declared.tree.ExprKind.TheOpen.{ExprKind-F, FieldKind-F, StatKind-F, Arm-F, Expr-F, ExprArm-F, Field-F, FuncBody-F, Stat-F}
use Rattle.syntax_tree.specs.Fold.{Steps, at_expr, at_stat, at_func, at_arm, at_expr_arm, at_field}
use Rattle.syntax_tree.specs.Captures.{captures, variables, too_many}
use Rattle.syntax_tree.specs.Leaps.{skips}
use Rattle.syntax_tree.specs.Scope.{look, bound_in}

-- What is known at a place of the text.
pub record Known : Type 0 where
  -- of each node before this place, in the order of the nodes' numbers
  pub notes : List Note
  -- the locals that are declared before this place, in the order of their numbers
  pub locals : List LocalInfo
  -- what is visible here
  pub scope : List Visible
  -- each `continue` so far of the innermost loop around this place
  pub leaps : List Leap
  -- each `continue` so far that skips a local, and each name so far by which a function captures too much
  pub faults : List ScopeFault
  -- the node number of the function around this place
  pub func : ℕ
  -- the number of that function's first parameter or local
  pub first : ℕ

-- what a part of the text makes of what is known before it
abbrev pub Part : Type 0
Part = Known → Known

infixl 10 ◌>>◌
abbrev pub ◌>>◌ : Part → Part → Part
f >> g = λ k. g (f k)

abbrev pub nothing : Part
nothing k = k

-- ---- declaring

-- a local that the function around declares
abbrev pub local : StrId → Part
local name k = record k { locals = k.locals ++ record { name = name; func = k.func; captured = false; assigned = false } ∷ [] }

abbrev pub locals : List StrId → Part
locals [] k = k
locals (name ∷ names) k = locals names (local name k)

-- a name becomes visible, for the local with that number
abbrev pub visible : ℕ → StrId → Part
visible number name k = record k { scope = k.scope ++ record { name = name; local = number } ∷ [] }

-- names become visible, for the locals from that number on
abbrev pub all_visible : ℕ → List StrId → Part
all_visible number [] k = k
all_visible number (name ∷ names) k = all_visible (number + 1) names (visible number name k)

-- after a block nothing is visible that was not visible before it
abbrev pub closed : Part → Part
closed block k = let t = block k in record t { scope = take (length k.scope) t.scope }

-- into a loop or a function: no `continue` of it stands before it
abbrev pub opened : Part
opened k = record k { leaps = [] }

-- Out of a loop or a function, before which so many names were visible: what was made visible since is not visible
-- any more, and each `continue` so far is again one of the loop around.
abbrev pub outside : ℕ → List Leap → ℕ → ℕ → Part
outside visible leaps func first k = record k { scope = take visible k.scope; leaps = leaps; func = func; first = first }

abbrev pub looped : Part → Part
looped loop k = outside (length k.scope) k.leaps k.func k.first (loop (opened k))

-- ---- nodes

-- a node that is no name and no function body
abbrev pub plain : ℕ → Part
plain at k = record k { notes = k.notes ++ record { at = at; bound = None; target = false; first = length k.locals; upvalues = [] } ∷ [] }

-- what a name is bound to here
abbrev pub bound_here : StrId → Known → Bound
bound_here name k = bound_in k.first (look name k.scope)

-- a name
abbrev pub named : ℕ → StrId → Bool → Part
named at name target k = record k { notes = k.notes ++ record { at = at; bound = Some (bound_here name k); target = target; first = length k.locals; upvalues = [] } ∷ [] }

-- the condition of a `repeat` may use what a `continue` of it skips
abbrev pub until : Part → Part
until cond k = let t = cond k in record t { faults = t.faults ++ skips (length k.locals) (drop (length k.notes) t.notes) t.leaps }

-- into a function: its parameters are its first locals
abbrev pub enter : ℕ → ℕ → List StrId → Part
enter id at params k =
    let t = plain at k in
    all_visible (length t.locals) params (locals params (record t { func = id; first = length t.locals }))

-- A function was read whose note stands at `place`, before those of what is in it, and whose first parameter or local
-- has the number `first`: its note gets what it captures.
abbrev pub counted : ℕ → ℕ → ℕ → Part
counted at place first k =
    let names = captures first (drop 1 (drop place k.notes)) in
    record k { notes = slice_set k.notes place (record { at = at; bound = None; target = false; first = first; upvalues = variables names }); faults = k.faults ++ too_many names }

-- a function body
abbrev pub function : ℕ → ℕ → List StrId → Part → Part
function id at params body k =
    outside (length k.scope) k.leaps k.func k.first (counted at (length k.notes) (length k.locals) (body (enter id at params (opened k))))

-- ---- the levels of the tree

-- one after the other; of an expression it is also said whether an assignment sets it
abbrev pub block : List Part → Part
block [] k = k
block (f ∷ fs) k = block fs (f k)

abbrev pub all : Bool → List (Bool → Part) → Part
all target [] k = k
all target (f ∷ fs) k = all target fs (f target k)

abbrev pub maybe : Option (Bool → Part) → Part
maybe None k = k
maybe (Some f) k = f false k

abbrev pub else_block : Option (List Part) → Part
else_block None k = k
else_block (Some body) k = closed (block body) k

-- The note of an expression, and its parts.
pub record KindNames : Type 0 where
  pub own : ℕ → Bool → Part
  pub parts : Part

abbrev pub of_parts : Part → KindNames
of_parts parts = record { own = λ at target. plain at; parts = parts }

abbrev pub kind_names : ExprKind-F KindNames Part (ℕ → Part) Part (Bool → Part) Part Part Part Part → KindNames
kind_names level.Nil = of_parts nothing
kind_names level.True = of_parts nothing
kind_names level.False = of_parts nothing
kind_names (level.Num n) = of_parts nothing
kind_names (level.Str text) = of_parts nothing
kind_names level.Vararg = of_parts nothing
kind_names (level.Name name) = record { own = λ at target. named at name target; parts = nothing }
kind_names (level.Paren e) = of_parts (e false)
kind_names (level.Unary op e) = of_parts (e false)
kind_names (level.Binary op a b) = of_parts (a false >> b false)
kind_names (level.Concat es) = of_parts (all false es)
kind_names (level.Index table key) = of_parts (table false >> key false)
kind_names (level.Member table name) = of_parts (table false)
kind_names (level.ExprKind::Call callee args) = of_parts (callee false >> all false args)
kind_names (level.Method object name args) = of_parts (object false >> all false args)
kind_names (level.Table fields) = of_parts (block fields)
kind_names (level.Function func) = of_parts func
kind_names (level.ExprKind::If arms other) = of_parts (block arms >> other false)
kind_names (level.Interp texts values) = of_parts (all false values)

abbrev pub field_kind_names : FieldKind-F KindNames Part (ℕ → Part) Part (Bool → Part) Part Part Part Part → Part
field_kind_names (level.Item value) = value false
field_kind_names (level.Named name value) = value false
field_kind_names (level.Keyed key value) = key false >> value false

-- a `continue`
abbrev pub leap : ℕ → Part
leap at k = record k { leaps = k.leaps ++ record { at = at; before = length k.locals } ∷ [] }

-- names are declared, then come their values, and then they are visible
abbrev pub local_statement : List StrId → Part → Part
local_statement names values k = all_visible (length k.locals) names (values (locals names k))

abbrev pub local_function : StrId → Part → Part
local_function name func k = func (visible (length k.locals) name (local name k))

-- a loop's variables are declared, then come the values that it begins with, and the variables are visible in the body
abbrev pub for_loop : List StrId → Part → Part → Part
for_loop names values body k = body (all_visible (length k.locals) names (values (locals names k)))

abbrev pub num_for : StrId → Part → Part → Part
num_for name values body k = body (visible (length k.locals) name (values (local name k)))

abbrev pub stat_kind_names : StatKind-F KindNames Part (ℕ → Part) Part (Bool → Part) Part Part Part Part → ℕ → Part
stat_kind_names (level.Local names values) at = local_statement names (all false values)
stat_kind_names (level.Assign targets values) at = all true targets >> all false values
stat_kind_names (level.Compound op target value) at = target true >> value false
stat_kind_names (level.StatKind::Call call) at = call false
stat_kind_names (level.Do body) at = closed (block body)
stat_kind_names (level.While cond body) at = looped (cond false >> block body)
stat_kind_names (level.Repeat body cond) at = looped (block body >> until (cond false))
stat_kind_names (level.StatKind::If arms other) at = block arms >> else_block other
stat_kind_names (level.NumFor name start limit step body) at = looped (num_for name (start false >> limit false >> maybe step) (block body))
stat_kind_names (level.GenFor names values body) at = looped (for_loop names (all false values) (block body))
stat_kind_names (level.LocalFunction name func) at = local_function name func
stat_kind_names (level.Return values) at = all false values
stat_kind_names level.Break at = nothing
stat_kind_names level.Continue at = leap at

abbrev pub steps : Steps KindNames Part (ℕ → Part) Part (Bool → Part) Part Part Part Part
steps = record { kind = kind_names; field_kind = field_kind_names; stat_kind = stat_kind_names; arm = λ a. a.cond false >> closed (block a.body); expr = λ e target. e.kind.own e.at target >> e.kind.parts; expr_arm = λ a. a.cond false >> a.value false; field = λ f. f.kind; func = λ f. function f.id f.at f.params (block f.body); stat = λ s. plain s.at >> s.kind s.at }

abbrev pub names_kind : ExprKind → KindNames
names_kind = folds.fold-ExprKind KindNames Part (ℕ → Part) Part (Bool → Part) Part Part Part Part steps.kind steps.field_kind steps.stat_kind steps.arm steps.expr steps.expr_arm steps.field steps.func steps.stat

abbrev pub names_stat_kind : StatKind → ℕ → Part
names_stat_kind = folds.fold-StatKind KindNames Part (ℕ → Part) Part (Bool → Part) Part Part Part Part steps.kind steps.field_kind steps.stat_kind steps.arm steps.expr steps.expr_arm steps.field steps.func steps.stat

abbrev pub names_expr : Expr → Bool → Part
names_expr = at_expr steps

abbrev pub names_stat : Stat → Part
names_stat = at_stat steps

abbrev pub names_func : FuncBody → Part
names_func = at_func steps

abbrev pub names_arm : Arm → Part
names_arm = at_arm steps

abbrev pub names_expr_arm : ExprArm → Part
names_expr_arm = at_expr_arm steps

abbrev pub names_field : Field → Part
names_field = at_field steps

abbrev pub names_step : Option Expr → Part
names_step None k = k
names_step (Some e) k = names_expr e false k

-- before the script nothing is known
abbrev pub start : Known
start = record { notes = []; locals = []; scope = []; leaps = []; faults = []; func = 0; first = 0 }
