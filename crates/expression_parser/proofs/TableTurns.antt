-- Tables, as parts of a node and as expressions.
use Rattle.std.proofs.Common.{◌≡◌, ◌≤◌, ◌<◌, ◌+◌, ◌-◌, inl, inr, ℕ, List, ◌∷◌, refl, sym, subst, arith, Result, Ok, Err}
use Rattle.syntax_tree.specs.declared.token.Token.{Token}
use Rattle.syntax_tree.specs.declared.token.TokenKind.TheVariants as token
use Rattle.syntax_tree.specs.declared.tree.Expr.{Expr}
use Rattle.syntax_tree.specs.declared.tree.ExprKind as expr
use Rattle.syntax_tree.specs.Grammar.{IsSimple, IsTable, table, constructor}
use Rattle.syntax_tree.specs.Nodes.{expr_at}
use Rattle.syntax_tree.specs.Places.{kind_at, Has}
use Rattle.parse_steps.specs.declared.classes.Beginning.TheVariants as begins
use Rattle.parse_steps.specs.Classes.{beginning}
use Rattle.parse_steps.specs.Items as item
use Rattle.parse_steps.specs.Items.{Item, depth}
use Rattle.parse_steps.specs.Steps.{most, Leads}
use Rattle.expression_parser.specs.declared.fault.Fault.{Fault}
use Rattle.expression_parser.specs.declared.fault.Fault.TheVariants as fault
use Rattle.expression_parser.specs.declared.parts.Fields.{Fields}
use Rattle.expression_parser.specs.declared.parts.Part.{Part}
use Rattle.expression_parser.specs.Reading.{Fails, FindsTable}
use Rattle.expression_parser.specs.Inner.{FindsFields, FindsSimple}
use Rattle.expression_parser.proofs.Leading.{then_leads, then_fails, staying, nest_to}
use Rattle.expression_parser.proofs.SimpleTurns.{begins_so, opens_node, no_room}

-- ---- a table at its `{`

pub no_room_for_table : (ts : List Token) (room i : ℕ) → room ≤ 0 → FindsTable ts room i (Err (fault.TooDeep i))
no_room_for_table ts room i le = inl (omega (arith, le), refl)

fields_fail : (ts : List Token) (room i : ℕ) (f : Fault) → 0 < room → FindsFields ts (room - 1) (i + 1) (Err f) → (k : List Item)
    → depth k + room ≡ most → Fails ts (i + 1) 0 (item.fields ∷ item.wrap ∷ k) f
fields_fail ts room i f less fails k deep = fails 0 (item.wrap ∷ k) (omega (arith, less, deep))

pub fault_in_fields : (ts : List Token) (room i : ℕ) (f : Fault) → 0 < room → FindsFields ts (room - 1) (i + 1) (Err f)
    → FindsTable ts room i (Err f)
fault_in_fields ts room i (fault.TooDeep p) less fails =
    inr (omega (arith, less), λ k deep. fields_fail ts room i (fault.TooDeep p) less fails k deep)
fault_in_fields ts room i (fault.Unexpected p) less fails =
    (omega (arith, less), λ k deep. fields_fail ts room i (fault.Unexpected p) less fails k deep)
fault_in_fields ts room i (fault.Late p) less fails =
    (omega (arith, less), λ k deep. fields_fail ts room i (fault.Late p) less fails k deep)
fault_in_fields ts room i fault.OutOfMemory less fails = (omega (arith, less), λ k deep. tt)

pub table_found : (ts : List Token) (room i : ℕ) (f : Fields) (e : Expr) → Has ts i token.OpenBrace → 0 < room
    → FindsFields ts (room - 1) (i + 1) (Ok f) → e ≡ expr_at ts i (expr.Table f.list)
    → FindsTable ts room i (Ok (record { expr = e; nest = f.nest + 1; end = f.end }))
table_found ts room i f e there less found node =
    let read = found.0.0 in
    let whole : IsTable ts most i f.list f.end = subst (λ (x : ℕ). IsTable ts most i f.list x) (sym read.3) (table i read.0 f.list there read.1 read.2) in (
      ((f.list, whole, node), (omega (arith, less, found.0.1.0), omega (arith, found.0.1.1))),
      omega (arith, less),
      λ k deep. nest_to (omega arith) (then_leads (found.1 0 (item.wrap ∷ k) (omega (arith, less, deep))) (staying refl)),
    )

-- ---- as an expression

enters : (ts : List Token) (room i : ℕ) (k : List Item) → beginning (kind_at ts i) ≡ begins.Table → 1 ≤ room → depth k + room ≡ most
    → Leads ts i 0 (item.simple ∷ k) (i + 1) 0 (item.fields ∷ item.wrap ∷ k)
enters ts room i k b less deep =
    opens_node ts i room 0 k (item.fields ∷ item.wrap ∷ k) (begins_so ts i begins.Table k b) (omega (arith, less)) deep

pub as_simple : (ts : List Token) (room i : ℕ) (r : Result Part Fault) → beginning (kind_at ts i) ≡ begins.Table
    → FindsTable ts room i r → FindsSimple ts room i r
as_simple ts room i (Ok p) b found =
    let read = found.0.0 in
    let whole : IsSimple ts most i (expr_at ts i (expr.Table read.0)) p.end = constructor i p.end read.0 read.1 in (
      (subst (λ (e : Expr). IsSimple ts most i e p.end) (sym read.2) whole, found.0.1),
      λ v k deep. then_leads (enters ts room i k b found.1 deep) (found.2 k deep),
    )
as_simple ts room i (Err (fault.TooDeep p)) b (inl none) =
    λ v k deep.
    rw none.1 (no_room ts i room 0 k (item.fields ∷ item.wrap ∷ k) (begins_so ts i begins.Table k b) (omega (arith, none.0)) deep)
as_simple ts room i (Err (fault.TooDeep p)) b (inr fails) =
    λ v k deep. then_fails (enters ts room i k b fails.0 deep) (fault.TooDeep p) (fails.1 k deep)
as_simple ts room i (Err (fault.Unexpected p)) b fails =
    λ v k deep. then_fails (enters ts room i k b fails.0 deep) (fault.Unexpected p) (fails.1 k deep)
as_simple ts room i (Err (fault.Late p)) b fails =
    λ v k deep. then_fails (enters ts room i k b fails.0 deep) (fault.Late p) (fails.1 k deep)
as_simple ts room i (Err fault.OutOfMemory) b fails = λ v k deep. tt
