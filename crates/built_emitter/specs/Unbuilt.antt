-- The first node of a script, in source order, that is not built.
--
-- Built are: a `local` with one name and one value, an assignment of one value to one local, a call of the global `print` with one
-- argument as a statement, an `if` with one condition, and `while`. A value is a number, the name of a local, or `+`, `-` or `*`
-- of two values; a condition is a comparison of two values.
--
-- What a name is bound to, the bindings say.
use Rattle.std.specs.Prelude.{ℕ, Bool, true, false, ◌&&◌, ◌==◌, List, [], ◌∷◌, Option, Some, None}
use Rattle.std.specs.Option.{is_some}
use Rattle.byte_text.specs.declared.fixed.StrId.{StrId}
use Rattle.syntax_tree.specs.declared.bindings.Bindings.{Bindings}
use Rattle.syntax_tree.specs.declared.bindings.Bound.{Bound}
use Rattle.syntax_tree.specs.declared.bindings.Bound.TheVariants as variant
use Rattle.syntax_tree.specs.declared.tree.Arm.{Arm}
use Rattle.syntax_tree.specs.declared.tree.BinOp.{BinOp}
use Rattle.syntax_tree.specs.declared.tree.Expr.{Expr}
use Rattle.syntax_tree.specs.declared.tree.ExprKind.TheOpen as level
use Rattle.syntax_tree.specs.declared.tree.ExprKind.TheOpen.{ExprKind-F, StatKind-F, Arm-F, Expr-F, Stat-F}
use Rattle.syntax_tree.specs.declared.tree.Stat.{Stat}
use Rattle.syntax_tree.specs.Fold.{Steps, at_expr, at_stat, at_arm}
use Rattle.built_values.specs.Globals.{print_name}
use Rattle.built_emitter.specs.Operations.{operation, unless}
use Rattle.built_emitter.specs.Standing.{bound_at}

-- the place of the first node that is not built, if there is one
abbrev pub Found : Type 0
Found = Option ℕ

-- What is not built in an expression where it is a value, a condition, and a call as a statement; whether it is the name of a local, and
-- the name of the library's `print`.
pub record ExprUses : Type 0 where
  pub value : Found
  pub condition : Found
  pub call : Found
  pub local : Bool
  pub print : Bool

-- a level of an expression, and of a statement, with the uses of its parts
abbrev pub ExprKindUses : Type 0
ExprKindUses = ExprKind-F (ℕ → ℕ → ExprUses) (Unit {0}) (ℕ → Found) Found ExprUses (Unit {0}) (Unit {0}) (Unit {0}) Found

abbrev pub StatKindUses : Type 0
StatKindUses = StatKind-F (ℕ → ℕ → ExprUses) (Unit {0}) (ℕ → Found) Found ExprUses (Unit {0}) (Unit {0}) (Unit {0}) Found

-- the first of two, where one is found
abbrev pub or_else : Found → Found → Found
or_else (Some at) other = Some at
or_else None other = other

-- where the node itself is built only if something holds
abbrev pub provided : Bool → ℕ → Found → Found
provided true at rest = rest
provided false at rest = Some at

abbrev pub is_local : Option Bound → Bool
is_local (Some (variant.Local k)) = true
is_local _ = false

abbrev pub is_global : Option Bound → Bool
is_global (Some variant.Global) = true
is_global _ = false

-- the name of the library's function, which no local has taken
abbrev pub is_print : StrId → Option Bound → Bool
is_print x bound = x.0 == print_name.0 && is_global bound

abbrev pub is_arithmetic : BinOp → Bool
is_arithmetic op = is_some (operation op 0 0 0)

abbrev pub is_comparison : BinOp → Bool
is_comparison op = is_some (unless op 0 0)

-- ---- expressions

-- an expression that is of no use here
abbrev pub not_built : ℕ → ExprUses
not_built at = record { value = Some at; condition = Some at; call = Some at; local = false; print = false }

-- a call of `print` with one argument
abbrev pub print_call : ℕ → (callee : ExprUses) → List ExprUses → Found
print_call at callee (argument ∷ []) = provided callee.print at argument.value
print_call at callee _ = Some at

-- an expression at a place, with what its name is bound to where it is one
abbrev pub kind_uses : Bindings → ExprKindUses → (number at : ℕ) → ExprUses
kind_uses b (level.Num n) number at = record (not_built at) { value = None }
kind_uses b (level.Name x) number at = record (not_built at) {
  value = provided (is_local (bound_at b number)) at None;
  local = is_local (bound_at b number);
  print = is_print x (bound_at b number);
}
kind_uses b (level.Binary op l r) number at = record (not_built at) {
  value = provided (is_arithmetic op) at (or_else l.value r.value);
  condition = provided (is_comparison op) at (or_else l.value r.value);
}
kind_uses b (level.ExprKind::Call callee args) number at = record (not_built at) { call = print_call at callee args }
kind_uses b _ number at = not_built at

-- ---- statements

abbrev pub block : List Found → Found
block [] = None
block (s ∷ ss) = or_else s (block ss)

abbrev pub local_statement : ℕ → List StrId → List ExprUses → Found
local_statement at (x ∷ []) (e ∷ []) = e.value
local_statement at _ _ = Some at

abbrev pub assignment : ℕ → (targets values : List ExprUses) → Found
assignment at (t ∷ []) (e ∷ []) = provided t.local at e.value
assignment at _ _ = Some at

abbrev pub choice : ℕ → List Found → Option (List Found) → Found
choice at (arm ∷ []) None = arm
choice at (arm ∷ []) (Some other) = or_else arm (block other)
choice at _ _ = Some at

abbrev pub stat_kind_uses : StatKindUses → ℕ → Found
stat_kind_uses (level.Local xs es) at = local_statement at xs es
stat_kind_uses (level.Assign ts es) at = assignment at ts es
stat_kind_uses (level.StatKind::Call call) at = call.call
stat_kind_uses (level.StatKind::If arms other) at = choice at arms other
stat_kind_uses (level.While cond body) at = or_else cond.condition (block body)
stat_kind_uses _ at = Some at

module _ (b : Bindings) where
  abbrev pub steps : Steps (ℕ → ℕ → ExprUses) (Unit {0}) (ℕ → Found) Found ExprUses (Unit {0}) (Unit {0}) (Unit {0}) Found
  steps = record {
    kind = kind_uses b;
    field_kind = λ _. tt;
    stat_kind = stat_kind_uses;
    arm = λ a. or_else a.cond.condition (block a.body);
    expr = λ e. e.kind e.id e.at;
    expr_arm = λ _. tt;
    field = λ _. tt;
    func = λ _. tt;
    stat = λ s. s.kind s.at;
  }

  abbrev pub uses_of : Expr → ExprUses
  uses_of = at_expr steps

  abbrev pub unbuilt_in_stat : Stat → Found
  unbuilt_in_stat = at_stat steps

  abbrev pub unbuilt_in_arm : Arm → Found
  unbuilt_in_arm = at_arm steps

  -- the first node of some statements that is not built
  abbrev pub first_unbuilt : List Stat → Found
  first_unbuilt [] = None
  first_unbuilt (s ∷ ss) = or_else (unbuilt_in_stat s) (first_unbuilt ss)
