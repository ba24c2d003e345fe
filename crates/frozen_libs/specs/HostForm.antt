-- The form of a host file: one `return` of one table, whose fields have names.
--
-- A value is `true`, `false`, a number, which may have a `-` before it, a string, a table of values, or the name `host`, which stands for a function of
-- the host. A field of a table below the top may also have a key, which is a literal, or neither; such fields count from 1. `host` stands only as the value
-- of a field with a name, where all fields around it have names too, and at most three names lead to it.
use Rattle.std.specs.Prelude.{ℕ, zero, suc, ◌-◌, ℤ, pos, neg_ℤ, Bool, true, false, List, [], ◌∷◌, map, codes, Option, Some, None, Result, Ok, Err, if◌then◌else◌}
use Rattle.std.specs.Str.{bytes_eq}
use Rattle.value_model.specs.Fresh.{HostValue, HostPlain, HostFunction, HostTable, HostFields, NoField, Field}
use Rattle.value_model.specs.Parts.{bytes_at}
use Rattle.value_model.specs.Values.{Bytes}
use Rattle.value_model.specs.declared.plain.Plain.{Plain}
use Rattle.value_model.specs.declared.plain.Plain.TheVariants as plain
use Rattle.syntax_tree.specs.Fold.{Steps, at_expr, at_field, at_stat}
use Rattle.syntax_tree.specs.declared.tree.Expr.{Expr}
use Rattle.syntax_tree.specs.declared.tree.ExprKind.TheOpen as level
use Rattle.syntax_tree.specs.declared.tree.ExprKind.TheOpen.{ExprKind-F, FieldKind-F, StatKind-F}
use Rattle.syntax_tree.specs.declared.tree.Field.{Field as TreeField}
use Rattle.syntax_tree.specs.declared.tree.FuncBody.{out-FuncBody}
use Rattle.syntax_tree.specs.declared.tree.Stat.{Stat}
use Rattle.syntax_tree.specs.declared.tree.Tree.{Tree}
use Rattle.syntax_tree.specs.declared.tree.UnOp.TheVariants.{Minus}
use Rattle.frozen_libs.specs.declared.placing.Around.{Around}
use Rattle.frozen_libs.specs.declared.placing.Around.TheVariants.{Top, Below}

-- what something gives, or the place of the first part of it that is outside the form
abbrev pub Form : Type 0 → Type 0
Form A = Result A ℕ

abbrev pub and_then : {A B : Type 0} → Form A → (A → Form B) → Form B
and_then (Ok x) f = f x
and_then (Err at) f = Err at

-- Up to how many names, that of its field included, may lead from a table around a value to a function of the host: 0 where a field around it has no name.
abbrev pub Room : Type 0
Room = ℕ

-- for the value of a field with a name
abbrev pub room_in : Around → Room
room_in Top = 3
room_in (Below room) = room - 1

-- a name at the top, with the place of its field
abbrev pub TopName : Type 0
TopName = ℕ × Bytes

-- An expression: its place, what it is as a literal, the number that it is without a sign, what it gives as a value and as the table at the top, and the
-- names in it as that table.
pub record ExprForm : Type 0 where
  pub at : ℕ
  pub literal : Form Plain
  pub number : Option ℤ
  pub value : Room → Form HostValue
  pub top : Form HostFields
  pub names : List TopName

-- A field: what it gives behind so many fields without key and name, and how many such there are with it; and its names at the top.
pub record FieldForm : Type 0 where
  pub entry : ℕ → Around → Form (Plain × HostValue)
  pub count : ℕ → ℕ
  pub names : List TopName → List TopName

pub record StatForm : Type 0 where
  pub at : ℕ
  pub top : Form HostFields
  pub names : List TopName

-- ---- tables

abbrev pub entries : List FieldForm → ℕ → Around → Form HostFields
entries [] n around = Ok NoField
entries (f ∷ fs) n around = and_then (f.entry n around) (λ e. and_then (entries fs (f.count n) around) (λ rest. Ok (Field e.0 e.1 rest)))

abbrev pub names_in : List FieldForm → List TopName
names_in [] = []
names_in (f ∷ fs) = f.names (names_in fs)

-- ---- expressions

abbrev pub outside : ℕ → ExprForm
outside at = record { at = at; literal = Err at; number = None; value = λ room. Err at; top = Err at; names = [] }

abbrev pub constant : Plain → ℕ → ExprForm
constant v at = record (outside at) { literal = Ok v; value = λ room. Ok (HostPlain v) }

abbrev pub negative : Option ℤ → ℕ → ExprForm
negative (Some z) at = constant (plain.Num (neg_ℤ z)) at
negative None at = outside at

abbrev pub is_host : Bytes → Bool
is_host name = bytes_eq name (codes "host")

abbrev pub function_in : Room → ℕ → Form HostValue
function_in zero at = Err at
function_in (suc n) at = Ok HostFunction

abbrev pub named : Bytes → ℕ → ExprForm
named name at = record (outside at) { value = λ room. if is_host name then function_in room at else Err at }

abbrev pub of_table : List FieldForm → ℕ → ExprForm
of_table fs at = record (outside at) {
  value = λ room. and_then (entries fs 0 (Below room)) (λ fields. Ok (HostTable fields));
  top = entries fs 0 Top;
  names = names_in fs;
}

abbrev pub ExprKindForm : Type 0
ExprKindForm = ExprKind-F (ℕ → ExprForm) (ℕ → FieldForm) (ℕ → StatForm) (Unit {0}) ExprForm (Unit {0}) FieldForm (Unit {0}) StatForm

abbrev pub FieldKindForm : Type 0
FieldKindForm = FieldKind-F (ℕ → ExprForm) (ℕ → FieldForm) (ℕ → StatForm) (Unit {0}) ExprForm (Unit {0}) FieldForm (Unit {0}) StatForm

abbrev pub StatKindForm : Type 0
StatKindForm = StatKind-F (ℕ → ExprForm) (ℕ → FieldForm) (ℕ → StatForm) (Unit {0}) ExprForm (Unit {0}) FieldForm (Unit {0}) StatForm

-- a field without a name, whose first expression is at this place
abbrev pub unnamed : ℕ → Around → Form (Plain × HostValue) → Form (Plain × HostValue)
unnamed at Top entry = Err at
unnamed at (Below room) entry = entry

module _ (texts : List Bytes) where
  abbrev pub expr_form : ExprKindForm → ℕ → ExprForm
  expr_form level.True at = constant (plain.Bool true) at
  expr_form level.False at = constant (plain.Bool false) at
  expr_form (level.Num z) at = record (constant (plain.Num z) at) { number = Some z }
  expr_form (level.Str x) at = constant (plain.Text (bytes_at texts x.0)) at
  expr_form (level.Unary Minus e) at = negative e.number at
  expr_form (level.Name x) at = named (bytes_at texts x.0) at
  expr_form (level.Table fs) at = of_table fs at
  expr_form _ at = outside at

  -- a key goes before its value
  abbrev pub field_form : FieldKindForm → ℕ → FieldForm
  field_form (level.Item e) at = record {
    entry = λ n around. unnamed e.at around (and_then (e.value 0) (λ v. Ok (plain.Num (pos (suc n)), v)));
    count = suc;
    names = λ rest. rest;
  }
  field_form (level.Named x e) at = record {
    entry = λ n around. and_then (e.value (room_in around)) (λ v. Ok (plain.Text (bytes_at texts x.0), v));
    count = λ n. n;
    names = λ rest. (at, bytes_at texts x.0) ∷ rest;
  }
  field_form (level.Keyed k e) at = record {
    entry = λ n around. unnamed k.at around (and_then k.literal (λ key. and_then (e.value 0) (λ v. Ok (key, v))));
    count = λ n. n;
    names = λ rest. rest;
  }

  -- ---- statements

  abbrev pub returned : List ExprForm → ℕ → StatForm
  returned [] at = record { at = at; top = Err at; names = [] }
  returned (e ∷ []) at = record { at = at; top = e.top; names = e.names }
  returned (e ∷ other ∷ es) at = record { at = at; top = and_then e.top (λ _. Err other.at); names = [] }

  abbrev pub stat_form : StatKindForm → ℕ → StatForm
  stat_form (level.Return es) at = returned es at
  stat_form _ at = record { at = at; top = Err at; names = [] }

  abbrev pub steps : Steps (ℕ → ExprForm) (ℕ → FieldForm) (ℕ → StatForm) (Unit {0}) ExprForm (Unit {0}) FieldForm (Unit {0}) StatForm
  steps = record {
    kind = expr_form;
    field_kind = field_form;
    stat_kind = stat_form;
    arm = λ _. tt;
    expr = λ e. e.kind e.at;
    expr_arm = λ _. tt;
    field = λ f. f.kind f.at;
    func = λ _. tt;
    stat = λ s. s.kind s.at;
  }

  abbrev pub of_expr : Expr → ExprForm
  of_expr = at_expr steps

  abbrev pub of_field : TreeField → FieldForm
  of_field = at_field steps

  abbrev pub of_stat : Stat → StatForm
  of_stat = at_stat steps

-- the one statement
abbrev pub of_script : List StatForm → StatForm
of_script [] = record { at = 0; top = Err 0; names = [] }
of_script (s ∷ []) = s
of_script (s ∷ other ∷ ss) = record { at = s.at; top = and_then s.top (λ _. Err other.at); names = [] }

-- what a host file gives, and its names with their places
abbrev pub host_form : (texts : List Bytes) → Tree → StatForm
host_form texts tree = of_script (map (of_stat texts) (out-FuncBody tree.main).body)
