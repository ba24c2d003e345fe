-- What is in scope at each place of a script.
--
-- What is seen where a part of a node begins is told from what is seen where the node begins and from the parts that
-- stand before it: what they declare counts, and what they make visible is seen.
use Rattle.std.specs.Prelude.{◌≡◌, ℕ, ◌+◌, length, map, List, [], ◌∷◌, ◌++◌, Option, Some, None}
use Rattle.byte_text.specs.declared.fixed.StrId.{StrId}
use Rattle.syntax_tree.specs.declared.notes.Visible.{Visible}
use Rattle.syntax_tree.specs.declared.tree.Arm.{Arm, out-Arm}
use Rattle.syntax_tree.specs.declared.tree.Expr.{Expr}
use Rattle.syntax_tree.specs.declared.tree.ExprArm.{ExprArm}
use Rattle.syntax_tree.specs.declared.tree.ExprKind.{ExprKind, out-ExprKind}
use Rattle.syntax_tree.specs.declared.tree.ExprKind as expr_kind
use Rattle.syntax_tree.specs.declared.tree.ExprKind.TheOpen as level
use Rattle.syntax_tree.specs.declared.tree.ExprKind.TheOpen.{ExprKind-F, FieldKind-F, StatKind-F}
use Rattle.syntax_tree.specs.declared.tree.Field.{Field}
use Rattle.syntax_tree.specs.declared.tree.FieldKind.{FieldKind, out-FieldKind}
use Rattle.syntax_tree.specs.declared.tree.FuncBody.{FuncBody, out-FuncBody}
use Rattle.syntax_tree.specs.declared.tree.Stat.{Stat}
use Rattle.syntax_tree.specs.declared.tree.StatKind.{StatKind, out-StatKind}
use Rattle.syntax_tree.specs.Lists.{total}
use Rattle.scope_laws.specs.Declares.{declares_expr, declares_stat, declares_func, declares_arm, declares_expr_arm, declares_field}

-- what is seen at a place of the text
pub record Sight : Type 0 where
  -- what is visible, the earliest first
  pub scope : List Visible
  -- how many locals the text declares before this place
  pub declared : ℕ
  -- the number of the first parameter or local of the function around
  pub first : ℕ
  -- the number of that function
  pub func : ℕ

-- a part of the text
pub data Part : Type 0 where
  expr : Expr → Part
  stat : Stat → Part
  function : FuncBody → Part
  arm : Arm → Part
  expr_arm : ExprArm → Part
  field : Field → Part
  -- a block, in which these names are visible besides
  block : List Visible → List Stat → Part

-- one level of a node
abbrev pub ExprLevel : Type 0
ExprLevel = ExprKind-F ExprKind FieldKind StatKind Arm Expr ExprArm Field FuncBody Stat

abbrev pub FieldLevel : Type 0
FieldLevel = FieldKind-F ExprKind FieldKind StatKind Arm Expr ExprArm Field FuncBody Stat

abbrev pub StatLevel : Type 0
StatLevel = StatKind-F ExprKind FieldKind StatKind Arm Expr ExprArm Field FuncBody Stat

-- ---- behind a part

-- names for the locals from that number on
abbrev pub visible : ℕ → List StrId → List Visible
visible number [] = []
visible number (name ∷ names) = record { name = name; local = number } ∷ visible (number + 1) names

-- what a statement makes visible behind it, before which so many locals are declared: the names of a `local` and of a
-- `local function`
abbrev pub stat_shows : StatLevel → ℕ → List Visible
stat_shows (level.Local names values) declared = visible declared names
stat_shows (level.LocalFunction name func) declared = visible declared (name ∷ [])
-- no other statement makes a name visible behind it
stat_shows _ declared = []

-- what a part makes visible behind it
abbrev pub shows : Part → ℕ → List Visible
shows (stat s) declared = stat_shows (out-StatKind s.kind) declared
shows _ declared = []

-- how many locals a part declares
abbrev pub declares : Part → ℕ
declares (expr e) = declares_expr e
declares (stat s) = declares_stat s
declares (function f) = declares_func f
declares (arm a) = declares_arm a
declares (expr_arm a) = declares_expr_arm a
declares (field f) = declares_field f
declares (block names body) = total (map declares_stat body)

-- what is seen behind a part
abbrev pub behind : Part → Sight → Sight
behind p s = record s { scope = s.scope ++ shows p s.declared; declared = s.declared + declares p }

-- ---- inside a part

-- these names are visible besides
abbrev pub with_names : List Visible → Sight → Sight
with_names names s = record s { scope = s.scope ++ names }

-- so many more locals are declared
abbrev pub with_declared : ℕ → Sight → Sight
with_declared n s = record s { declared = s.declared + n }

-- new locals of these names are declared, and visible
abbrev pub with_locals : List StrId → Sight → Sight
with_locals names s = with_declared (length names) (with_names (visible s.declared names) s)

-- the parts of a part, and what is seen where the first of them begins
pub record Inside : Type 0 where
  pub sight : Sight
  pub parts : List Part

abbrev pub inside : Sight → List Part → Inside
inside s ps = record { sight = s; parts = ps }

-- the parts of an expression, in the order of the text
abbrev pub expr_parts : ExprLevel → List Part
expr_parts level.Nil = []
expr_parts level.True = []
expr_parts level.False = []
expr_parts (level.Num n) = []
expr_parts (level.Str text) = []
expr_parts level.Vararg = []
expr_parts (level.Name name) = []
expr_parts (level.Paren e) = expr e ∷ []
expr_parts (level.Unary op e) = expr e ∷ []
expr_parts (level.Binary op a b) = expr a ∷ expr b ∷ []
expr_parts (level.Concat es) = map expr es
expr_parts (level.Index table key) = expr table ∷ expr key ∷ []
expr_parts (level.Member table name) = expr table ∷ []
expr_parts (level.ExprKind::Call callee args) = expr callee ∷ map expr args
expr_parts (level.Method object name args) = expr object ∷ map expr args
expr_parts (level.Table fields) = map field fields
expr_parts (level.Function func) = function func ∷ []
expr_parts (level.ExprKind::If arms other) = map expr_arm arms ++ expr other ∷ []
expr_parts (level.Interp texts values) = map expr values

abbrev pub field_parts : FieldLevel → List Part
field_parts (level.Item value) = expr value ∷ []
field_parts (level.Named name value) = expr value ∷ []
field_parts (level.Keyed key value) = expr key ∷ expr value ∷ []

abbrev pub step : Option Expr → List Part
step None = []
step (Some e) = expr e ∷ []

abbrev pub else_block : Option (List Stat) → List Part
else_block None = []
else_block (Some body) = block [] body ∷ []

-- the parts of a statement, in the order of the text
abbrev pub in_stat : StatLevel → Sight → Inside
-- the locals are numbered before those that the values declare, and not visible there
in_stat (level.Local names values) s = inside (with_declared (length names) s) (map expr values)
-- the function sees its own name
in_stat (level.LocalFunction name func) s = inside (with_locals (name ∷ []) s) (function func ∷ [])
-- a loop's variables are numbered before those that its first values declare, and visible in the body alone
in_stat (level.NumFor name start limit by body) s =
    let loop : Part = block (visible s.declared (name ∷ [])) body in
    inside (with_declared 1 s) (expr start ∷ expr limit ∷ step by ++ loop ∷ [])
in_stat (level.GenFor names values body) s =
    let loop : Part = block (visible s.declared names) body in
    inside (with_declared (length names) s) (map expr values ++ loop ∷ [])
-- the condition stands behind the statements of the body, and sees what they declare
in_stat (level.Repeat body cond) s = inside s (map stat body ++ expr cond ∷ [])
in_stat (level.While cond body) s = inside s (expr cond ∷ block [] body ∷ [])
in_stat (level.StatKind::If arms other) s = inside s (map arm arms ++ else_block other)
in_stat (level.Do body) s = inside s (block [] body ∷ [])
in_stat (level.Assign targets values) s = inside s (map expr targets ++ map expr values)
in_stat (level.Compound op target value) s = inside s (expr target ∷ expr value ∷ [])
in_stat (level.StatKind::Call call) s = inside s (expr call ∷ [])
in_stat (level.Return values) s = inside s (map expr values)
in_stat level.Break s = inside s []
in_stat level.Continue s = inside s []

-- the parts of any part
abbrev pub in_part : Part → Sight → Inside
in_part (expr e) s = inside s (expr_parts (out-ExprKind e.kind))
in_part (stat x) s = in_stat (out-StatKind x.kind) s
-- the parameters are the first locals of the function, and visible in its block
in_part (function f) s = inside (record (with_locals (out-FuncBody f).params s) { first = s.declared; func = (out-FuncBody f).id }) (map stat (out-FuncBody f).body)
in_part (arm a) s = inside s (expr (out-Arm a).cond ∷ block [] (out-Arm a).body ∷ [])
in_part (expr_arm a) s = inside s (expr a.cond ∷ expr a.value ∷ [])
in_part (field f) s = inside s (field_parts (out-FieldKind f.kind))
in_part (block names body) s = inside (with_names names s) (map stat body)

-- ---- in a script

-- In this part, which begins where `from` is seen, these parts follow one another, and this is seen where the first of
-- them begins.
pub data Within (from : Sight) (whole : Part) : Sight → List Part → Type 0 where
  -- the part itself
  itself : Within from whole from (whole ∷ [])
  -- behind the first of some parts
  next : (s : Sight) (p : Part) (ps : List Part) → Within from whole s (p ∷ ps) → Within from whole (behind p s) ps
  -- in the first of some parts
  enter : (s : Sight) (p : Part) (ps : List Part) → Within from whole s (p ∷ ps) →
      Within from whole (in_part p s).sight (in_part p s).parts

-- a name that stands in a part, and what is seen there
pub record NameWithin (from : Sight) (whole : Part) : Type 0 where
  pub node : Expr
  pub name : StrId
  pub is : node.kind ≡ expr_kind.Name name
  pub sight : Sight
  pub after : List Part
  pub seen : Within from whole sight (expr node ∷ after)

-- before a script nothing is declared
abbrev pub nothing : Sight
nothing = record { scope = []; declared = 0; first = 0; func = 0 }

-- these parts follow one another in a script, and this is seen where the first of them begins
abbrev pub Sees : FuncBody → Sight → List Part → Type 0
Sees main = Within nothing (function main)
