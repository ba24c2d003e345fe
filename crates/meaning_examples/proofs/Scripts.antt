-- Scripts as trees, with what their runs show.
use Rattle.std.proofs.Common.{ℕ, List, [], map, length, Option, Some, Bool}
use Rattle.std.specs.Prelude.{option_map}
use Rattle.byte_text.specs.declared.fixed.StrId.{StrId}
use Rattle.syntax_tree.specs.declared.tree.Arm.{Arm, roll-Arm}
use Rattle.syntax_tree.specs.declared.tree.Expr.{Expr}
use Rattle.syntax_tree.specs.declared.tree.ExprArm.{ExprArm}
use Rattle.syntax_tree.specs.declared.tree.ExprKind.{ExprKind}
use Rattle.syntax_tree.specs.declared.tree.Field.{Field}
use Rattle.syntax_tree.specs.declared.tree.FieldKind as field
use Rattle.syntax_tree.specs.declared.tree.FuncBody.{FuncBody, roll-FuncBody}
use Rattle.syntax_tree.specs.declared.tree.Stat.{Stat}
use Rattle.syntax_tree.specs.declared.tree.StatKind.{StatKind}
use Rattle.value_model.specs.declared.event.EventKind.{EventKind}
use Rattle.value_model.specs.declared.event.EventKind.TheVariants.{Print}
use Rattle.value_model.specs.Fresh.{NoField}
use Rattle.value_model.specs.Values.{Bytes}
use Rattle.value_model.specs.Waits.{End}
use Rattle.bounded_runs.specs.Runs.{Report, Stamped, run}
use Rattle.source_meaning.specs.Moves.{Look}
use Rattle.source_meaning.specs.Runs.{start}
use Rattle.source_meaning.specs.Steps.{step}

-- a script: its texts and its main function, a bound on its turns, how many moves its run has, how it ends, its lines, each with the
-- turns spent before it, and how many tables it asks
pub record Script : Type 0 where
  pub texts : List Bytes
  pub main : FuncBody
  pub turns : ℕ
  pub moves : ℕ
  pub end : End
  pub lines : List (ℕ × Bytes)
  pub looks : ℕ

abbrev pub Shown : Type 0
Shown = Option (End × List (Stamped EventKind) × ℕ)

abbrev pub stamped : ℕ × Bytes → Stamped EventKind
stamped l = record { turns = l.0; event = Print l.1 }

abbrev pub what : Report EventKind Look → End × List (Stamped EventKind) × ℕ
what r = (r.end, r.events, length r.notes)

-- what its run shows
abbrev pub outcome : Script → Shown
outcome s =
    option_map what (run (step s.texts) s.moves s.turns 0 [] [] (start (record { main = s.main; nodes = 0 }) NoField []))

abbrev pub wanted : Script → Shown
wanted s = Some (s.end, map stamped s.lines, s.looks)

-- ---- trees

abbrev pub word : ℕ → StrId
word n = record { 0 = n }

abbrev pub e : ℕ → ExprKind → Expr
e n k = record { id = n; at = 0; line = 1; kind = k }

abbrev pub s : ℕ → StatKind → Stat
s n k = record { id = n; at = 0; line = 1; kind = k }

abbrev pub func : ℕ → List StrId → Bool → List Stat → FuncBody
func n xs v body = roll-FuncBody (record { id = n; at = 0; line = 1; params = xs; vararg = v; body = body })

abbrev pub arm : Expr → List Stat → Arm
arm c body = roll-Arm (record { cond = c; body = body })

abbrev pub arm_value : Expr → Expr → ExprArm
arm_value c v = record { cond = c; value = v }

abbrev pub item : Expr → Field
item v = record { at = 0; kind = field.Item v }

abbrev pub named : StrId → Expr → Field
named x v = record { at = 0; kind = field.Named x v }

abbrev pub keyed : Expr → Expr → Field
keyed k v = record { at = 0; kind = field.Keyed k v }
