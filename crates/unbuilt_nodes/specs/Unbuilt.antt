-- The first node of a script, in source order, that is not built.
--
-- Not built are: table constructors, members and what stands under a key, calls of methods, texts with values in them, and generic loops; names
-- of globals but a few functions of the library; and assignments to what is no local. All other nodes are built, where their parts are.
--
-- What a name is bound to, the bindings say.
use Rattle.std.specs.Prelude.{ℕ, Bool, true, false, List, [], ◌∷◌, Option, Some, None, slice_index_or, codes}
use Rattle.std.specs.List.{list_any}
use Rattle.std.specs.Str.{bytes_eq}
use Rattle.byte_text.specs.declared.fixed.StrId.{StrId}
use Rattle.syntax_tree.specs.declared.bindings.Bindings.{Bindings}
use Rattle.syntax_tree.specs.declared.bindings.Bound.{Bound}
use Rattle.syntax_tree.specs.declared.bindings.Bound.TheVariants as variant
use Rattle.syntax_tree.specs.declared.tree.Arm.{Arm}
use Rattle.syntax_tree.specs.declared.tree.Expr.{Expr}
use Rattle.syntax_tree.specs.declared.tree.ExprArm.{ExprArm}
use Rattle.syntax_tree.specs.declared.tree.ExprKind.TheOpen as level
use Rattle.syntax_tree.specs.declared.tree.ExprKind.TheOpen.{ExprKind-F, StatKind-F}
use Rattle.syntax_tree.specs.declared.tree.FuncBody.{FuncBody}
use Rattle.syntax_tree.specs.declared.tree.Stat.{Stat}
use Rattle.syntax_tree.specs.Fold.{Steps, at_expr, at_expr_arm, at_stat, at_arm, at_func}
use Rattle.emit_expr.specs.Names.{bound_at}

-- the place of the first node that is not built, if there is one
abbrev pub Found : Type 0
Found = Option ℕ

-- what is not built in an expression where it is a value, and where it is assigned to
pub record ExprUses : Type 0 where
  pub value : Found
  pub target : Found

-- a level of an expression, and of a statement, with the uses of its parts
abbrev pub ExprKindUses : Type 0
ExprKindUses = ExprKind-F (ℕ → ℕ → ExprUses) (Unit {0}) (ℕ → Found) Found ExprUses Found (Unit {0}) Found Found

abbrev pub StatKindUses : Type 0
StatKindUses = StatKind-F (ℕ → ℕ → ExprUses) (Unit {0}) (ℕ → Found) Found ExprUses Found (Unit {0}) Found Found

-- the first of two, where one is found
abbrev pub or_else : Found → Found → Found
or_else (Some at) other = Some at
or_else None other = other

-- where the node itself is built only if something holds
abbrev pub provided : Bool → ℕ → Found
provided true at = None
provided false at = Some at

-- the first of the values, of the targets, and of the statements or arms
abbrev pub values : List ExprUses → Found
values [] = None
values (e ∷ es) = or_else e.value (values es)

abbrev pub targets : List ExprUses → Found
targets [] = None
targets (e ∷ es) = or_else e.target (targets es)

abbrev pub block : List Found → Found
block [] = None
block (s ∷ ss) = or_else s (block ss)

abbrev pub otherwise : Option (List Found) → Found
otherwise None = None
otherwise (Some body) = block body

abbrev pub step_value : Option ExprUses → Found
step_value None = None
step_value (Some e) = e.value

-- ---- names

-- the globals that may be read
abbrev pub built_globals : List (List ℕ)
built_globals = codes "print" ∷ codes "type" ∷ codes "select" ∷ codes "rawequal" ∷ []

abbrev pub is_built_global : (texts : List (List ℕ)) → StrId → Bool
is_built_global texts x = list_any (bytes_eq (slice_index_or texts x.0 [])) built_globals

abbrev pub name_value : (texts : List (List ℕ)) → StrId → Bound → ℕ → Found
name_value texts x variant.Global at = provided (is_built_global texts x) at
name_value texts x bound at = None

abbrev pub name_target : Bound → ℕ → Found
name_target variant.Global at = Some at
name_target bound at = None

-- ---- expressions

-- a value that cannot be assigned to
abbrev pub only_value : Found → ℕ → ExprUses
only_value found at = record { value = found; target = Some at }

-- an expression at a place, whose node has a number
abbrev pub kind_uses : (texts : List (List ℕ)) → Bindings → ExprKindUses → (number at : ℕ) → ExprUses
kind_uses texts b level.Nil number at = only_value None at
kind_uses texts b level.True number at = only_value None at
kind_uses texts b level.False number at = only_value None at
kind_uses texts b (level.Num n) number at = only_value None at
kind_uses texts b (level.Str x) number at = only_value None at
kind_uses texts b level.Vararg number at = only_value None at
kind_uses texts b (level.Name x) number at =
    record { value = name_value texts x (bound_at b number) at; target = name_target (bound_at b number) at }
kind_uses texts b (level.Paren e) number at = only_value e.value at
kind_uses texts b (level.Unary op e) number at = only_value e.value at
kind_uses texts b (level.Binary op l r) number at = only_value (or_else l.value r.value) at
kind_uses texts b (level.Concat es) number at = only_value (values es) at
kind_uses texts b (level.ExprKind::Call callee args) number at = only_value (or_else callee.value (values args)) at
kind_uses texts b (level.Function f) number at = only_value f at
kind_uses texts b (level.ExprKind::If arms other) number at = only_value (or_else (block arms) other.value) at
kind_uses texts b _ number at = only_value (Some at) at

-- ---- statements

abbrev pub stat_kind_uses : StatKindUses → ℕ → Found
stat_kind_uses (level.Local xs es) at = values es
stat_kind_uses (level.Assign ts es) at = or_else (targets ts) (values es)
stat_kind_uses (level.Compound op t e) at = or_else t.target e.value
stat_kind_uses (level.StatKind::Call call) at = call.value
stat_kind_uses (level.Do body) at = block body
stat_kind_uses (level.While cond body) at = or_else cond.value (block body)
stat_kind_uses (level.Repeat body cond) at = or_else (block body) cond.value
stat_kind_uses (level.StatKind::If arms other) at = or_else (block arms) (otherwise other)
stat_kind_uses (level.NumFor x start limit step body) at =
    or_else start.value (or_else limit.value (or_else (step_value step) (block body)))
stat_kind_uses (level.GenFor xs es body) at = Some at
stat_kind_uses (level.LocalFunction x f) at = f
stat_kind_uses (level.Return es) at = values es
stat_kind_uses level.Break at = None
stat_kind_uses level.Continue at = None

module _ (texts : List (List ℕ)) (b : Bindings) where
  abbrev pub steps : Steps (ℕ → ℕ → ExprUses) (Unit {0}) (ℕ → Found) Found ExprUses Found (Unit {0}) Found Found
  steps = record {
    kind = kind_uses texts b;
    field_kind = λ _. tt;
    stat_kind = stat_kind_uses;
    arm = λ a. or_else a.cond.value (block a.body);
    expr = λ e. e.kind e.id e.at;
    expr_arm = λ a. or_else a.cond.value a.value.value;
    field = λ _. tt;
    func = λ f. block f.body;
    stat = λ s. s.kind s.at;
  }

  abbrev pub uses_of : Expr → ExprUses
  uses_of = at_expr steps

  abbrev pub unbuilt_in_expr_arm : ExprArm → Found
  unbuilt_in_expr_arm = at_expr_arm steps

  abbrev pub unbuilt_in_arm : Arm → Found
  unbuilt_in_arm = at_arm steps

  abbrev pub unbuilt_in_func : FuncBody → Found
  unbuilt_in_func = at_func steps

  abbrev pub unbuilt_in_stat : Stat → Found
  unbuilt_in_stat = at_stat steps
