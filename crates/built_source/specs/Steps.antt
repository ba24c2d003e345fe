-- What a script does, one step at a time: a row for each kind of node and of frame.
use Rattle.std.specs.Prelude.{ℕ, Bool, true, false, List, [], ◌∷◌, ◌++◌, length, Option, Some, None, Result, Ok, Err, option_map, not, slice_index_or, slice_set}
use Rattle.byte_text.specs.declared.fixed.StrId.{StrId}
use Rattle.syntax_tree.specs.declared.tree.Arm.{Arm, out-Arm}
use Rattle.syntax_tree.specs.declared.tree.BinOp.{BinOp}
use Rattle.syntax_tree.specs.declared.tree.BinOp.TheVariants as op
use Rattle.syntax_tree.specs.declared.tree.Expr.{Expr}
use Rattle.syntax_tree.specs.declared.tree.ExprKind.{out-ExprKind}
use Rattle.syntax_tree.specs.declared.tree.ExprKind.TheOpen as level
use Rattle.syntax_tree.specs.declared.tree.Stat.{Stat}
use Rattle.syntax_tree.specs.declared.tree.StatKind.{out-StatKind}
use Rattle.built_values.specs.declared.value.Value.{Value}
use Rattle.built_values.specs.declared.value.Value.TheVariants as value
use Rattle.built_values.specs.declared.end.End.TheVariants.{Ended, Stopped, Stuck}
use Rattle.built_values.specs.Runs.{Move, Goes, Shows, Charges, Ends}
use Rattle.built_values.specs.Operations.{Outcome, sum, difference, product, equal, less, less_or_equal, is_true, printed}
use Rattle.built_values.specs.Globals.{global}
use Rattle.built_source.specs.Levels.{ExprLevel, StatLevel}
use Rattle.built_source.specs.States.{Environment, cell_of, Frame, LeftOperand, RightOperand, Callee, Argument, Discards, Declares, Assigns, Chooses, Loops, Repeats, Continues, Restores, Focus, Evaluate, Give, Execute, ExecuteAll, Choose, Done, State}

-- a table that is asked: by which node, and whether the running function's environment is safe. No node of this form asks one
pub record Look : Type 0 where
  pub node : ℕ
  pub safe : Bool

-- an event is a line that is printed, without its end
abbrev pub Step : Type 0
Step = Move (List ℕ) Look State

-- what is done with the frames, the variables and the cells
abbrev pub Row : Type 0
Row = List Frame → Environment → List Value → Step

abbrev pub now : Focus → Row
now f k env cells = Goes [] (record { focus = f; frames = k; env = env; cells = cells })

abbrev pub stuck : Row
stuck k env cells = Ends [] Stuck

-- ---- expressions

-- a local's value, or a global's
abbrev pub named : Option ℕ → StrId → Row
named (Some c) x k env cells = now (Give (slice_index_or cells c value.Nil)) k env cells
named None x k env cells = now (Give (global x)) k env cells

-- the left operand comes before the right one, and the callee before its argument
abbrev pub begin_expr : ExprLevel → Row
begin_expr (level.Num n) k env cells = now (Give (value.Number n)) k env cells
begin_expr (level.Name x) k env cells = named (cell_of env x) x k env cells
begin_expr (level.Binary op a b) k env cells = now (Evaluate a) (LeftOperand op b ∷ k) env cells
begin_expr (level.ExprKind::Call f (e ∷ [])) k env cells = now (Evaluate f) (Callee e ∷ k) env cells
begin_expr _ k env cells = stuck k env cells

abbrev pub truth : Option Bool → Outcome
truth answer = option_map (λ b. Ok (value.Boolean b)) answer

-- the result of an operation
unfoldable pub result_of : BinOp → Value → Value → Outcome
result_of op.Add v w = sum v w
result_of op.Sub v w = difference v w
result_of op.Mul v w = product v w
result_of op.Eq v w = truth (equal v w)
result_of op.Ne v w = truth (option_map not (equal v w))
result_of op.Lt v w = truth (less v w)
result_of op.Le v w = truth (less_or_equal v w)
result_of op.Gt v w = truth (less w v)
result_of op.Ge v w = truth (less_or_equal w v)
result_of _ v w = None

-- a result is given, or stops the script
abbrev pub give : Outcome → Row
give None k env cells = stuck k env cells
give (Some (Ok v)) k env cells = now (Give v) k env cells
give (Some (Err s)) k env cells = Ends [] (Stopped s)

-- `print` shows its argument, and gives nothing
abbrev pub shows : Option (List ℕ) → Row
shows None k env cells = stuck k env cells
shows (Some text) k env cells = Shows [] text (record { focus = Give value.Nil; frames = k; env = env; cells = cells })

abbrev pub call : Value → Value → Row
call value.Print v k env cells = shows (printed v) k env cells
call _ v k env cells = stuck k env cells

-- ---- statements

-- the target of an assignment is a local
abbrev pub begin_assignment : ExprLevel → Expr → Row
begin_assignment (level.Name x) e k env cells = now (Evaluate e) (Assigns x ∷ k) env cells
begin_assignment _ e k env cells = stuck k env cells

abbrev pub begin_stat : StatLevel → Row
begin_stat (level.Local (x ∷ []) (e ∷ [])) k env cells = now (Evaluate e) (Declares x ∷ k) env cells
begin_stat (level.Assign (target ∷ []) (e ∷ [])) k env cells = begin_assignment (out-ExprKind target.kind) e k env cells
begin_stat (level.StatKind::Call e) k env cells = now (Evaluate e) (Discards ∷ k) env cells
begin_stat (level.StatKind::If arms other) k env cells = now (Choose arms other) k env cells
begin_stat (level.While cond body) k env cells = now (Evaluate cond) (Loops cond body ∷ k) env cells
begin_stat _ k env cells = stuck k env cells

-- the statements of a block in order; at its end its variables are gone
abbrev pub begin_all : List Stat → Row
begin_all [] k env cells = now Done k env cells
begin_all (s ∷ ss) k env cells = now (Execute s) (Continues ss ∷ k) env cells

abbrev pub enter : List Stat → Row
enter body k env cells = now (ExecuteAll body) (Restores env ∷ k) env cells

-- the next condition of an `if`, or else the block of `else`
abbrev pub choose : List Arm → Option (List Stat) → Row
choose [] None k env cells = now Done k env cells
choose [] (Some body) k env cells = enter body k env cells
choose (arm ∷ arms) other k env cells =
    now (Evaluate (out-Arm arm).cond) (Chooses (out-Arm arm).body arms other ∷ k) env cells

abbrev pub chosen : Bool → List Stat → List Arm → Option (List Stat) → Row
chosen true body arms other k env cells = enter body k env cells
chosen false body arms other k env cells = now (Choose arms other) k env cells

-- a loop goes into its body, or is over
abbrev pub looped : Bool → Expr → List Stat → Row
looped true cond body k env cells = enter body (Repeats cond body ∷ k) env cells
looped false cond body k env cells = now Done k env cells

-- a declared local has a new cell
abbrev pub declare : StrId → Value → Row
declare x v k env cells = now Done k ((x, length cells) ∷ env) (cells ++ v ∷ [])

abbrev pub assign : Option ℕ → Value → Row
assign None v k env cells = stuck k env cells
assign (Some c) v k env cells = now Done k env (slice_set cells c v)

-- ---- frames

-- a frame is given a value
abbrev pub use_value : Frame → Value → Row
use_value (LeftOperand op b) v k env cells = now (Evaluate b) (RightOperand op v ∷ k) env cells
use_value (RightOperand op v) w k env cells = give (result_of op v w) k env cells
use_value (Callee e) f k env cells = now (Evaluate e) (Argument f ∷ k) env cells
use_value (Argument f) v k env cells = call f v k env cells
use_value Discards v k env cells = now Done k env cells
use_value (Declares x) v k env cells = declare x v k env cells
use_value (Assigns x) v k env cells = assign (cell_of env x) v k env cells
use_value (Chooses body arms other) v k env cells = chosen (is_true v) body arms other k env cells
use_value (Loops cond body) v k env cells = looped (is_true v) cond body k env cells
use_value _ v k env cells = stuck k env cells

-- A frame goes on after a statement or a block. A turn is charged at the end of a loop's body, before its condition is
-- evaluated again
abbrev pub go_on : Frame → Row
go_on (Continues ss) k env cells = now (ExecuteAll ss) k env cells
go_on (Restores before) k env cells = now Done k before cells
go_on (Repeats cond body) k env cells = Charges (record { focus = Evaluate cond; frames = Loops cond body ∷ k; env = env; cells = cells })
go_on _ k env cells = stuck k env cells

-- ---- the step

abbrev pub row : Focus → Row
row (Evaluate e) k env cells = begin_expr (out-ExprKind e.kind) k env cells
row (Execute s) k env cells = begin_stat (out-StatKind s.kind) k env cells
row (ExecuteAll ss) k env cells = begin_all ss k env cells
row (Choose arms other) k env cells = choose arms other k env cells
row (Give v) [] env cells = stuck [] env cells
row (Give v) (f ∷ k) env cells = use_value f v k env cells
row Done [] env cells = Ends [] Ended
row Done (f ∷ k) env cells = go_on f k env cells

abbrev pub step : State → Step
step s = row s.focus s.frames s.env s.cells
