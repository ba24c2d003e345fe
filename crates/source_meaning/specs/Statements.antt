-- What a statement does: a row for each kind, and for each part of one that is waited for.
use Rattle.std.specs.Prelude.{ℕ, ℤ, Bool, true, false, List, [], ◌∷◌, ◌++◌, length, Option, Some, None}
use Rattle.byte_text.specs.declared.fixed.StrId.{StrId}
use Rattle.syntax_tree.specs.declared.tree.Arm.{Arm, out-Arm}
use Rattle.syntax_tree.specs.declared.tree.Expr.{Expr}
use Rattle.syntax_tree.specs.declared.tree.ExprKind.{out-ExprKind}
use Rattle.syntax_tree.specs.declared.tree.ExprKind.TheOpen as level
use Rattle.syntax_tree.specs.declared.tree.FuncBody.{FuncBody}
use Rattle.syntax_tree.specs.declared.tree.Stat.{Stat}
use Rattle.value_model.specs.Values.{Value, Nil, Number, Text, Table, Bytes}
use Rattle.value_model.specs.Waits.{ByLibrary, Stopped}
use Rattle.value_model.specs.Choices.{Index, Newindex}
use Rattle.bounded_runs.specs.Runs.{Ends}
use Rattle.value_model.specs.Metamethods.{choose}
use Rattle.value_model.specs.Loops.{Bounds, Range, Refused, Halted, Iteration, Generates, CallsIter, NotIterable}
use Rattle.source_meaning.specs.Levels.{ExprLevel, StatLevel}
use Rattle.source_meaning.specs.States.{Node, of_expr, Environment, cell_of, Target, ToCell, ToGlobal, ToField, Nothing, One, Wants, Begins, Stores, Declares, Aims, Assigns, TargetTable, TargetMember, Updates, Chooses, Loops, Repeats, Tries, Start, Counts, Generator, Asks, Continues, Restores, Returns, Awaits, Focus, Evaluate, Give, EvaluateList, Execute, ExecuteAll, Choose, Aim, Aimed, Store, Count, Ask, Done, Break, Continue, Invoke}
use Rattle.source_meaning.specs.Moves.{Row, now, charge, stuck, store_of, with_cells, cells_of, with_cell, cell_at, environment_here, first, rest, adjusted, bound, settle, fault}
use Rattle.source_meaning.specs.Expressions.{text_of, begin_call, with_closure, next_closure}

-- ---- blocks

-- the statements of a block in order
abbrev pub in_order : List Stat → Row
in_order [] h k env w = now Done h k env w
in_order (s ∷ ss) h k env w = now (Execute s) h (Continues ss ∷ k) env w

-- at the end of a block its variables are gone
abbrev pub enter : List Stat → Row
enter body h k env w = now (ExecuteAll body) h (Restores env ∷ k) env w

-- ---- variables

-- new variables with new cells
abbrev pub declare : List StrId → List Value → Focus → Row
declare xs vs f h k env w =
    now f h k (bound xs (length (cells_of w)) env) (with_cells (cells_of w ++ adjusted xs vs) w)

-- the function sees its own variable
abbrev pub declare_function : StrId → FuncBody → Row
declare_function x func h k env w =
    let inside = bound (x ∷ []) (length (cells_of w)) env in
    let made = with_closure func h inside w in
    now Done h k inside (with_cells (cells_of w ++ next_closure w ∷ []) made)

-- ---- assignments

-- a name's target, where its local is, or the global
abbrev pub target_of : Option ℕ → StrId → Target
target_of (Some c) x = ToCell c
target_of None x = ToGlobal x

abbrev pub aim : ExprLevel → Node → Row
aim (level.Name x) at h k env w = now (Aimed at (target_of (cell_of env x) x)) h k env w
aim (level.Member t x) at h k env w = now (Evaluate t) h (TargetMember at x ∷ k) env w
aim (level.Index t key) at h k env w = now (Evaluate t) h (TargetTable at key ∷ k) env w
aim _ at h k env w = stuck h k env w

-- the tables and keys of the targets, then the values
abbrev pub aim_all : List (Node × Target) → List Expr → List Expr → Row
aim_all done [] es h k env w = now (EvaluateList [] es) h (Assigns done ∷ k) env w
aim_all done (t ∷ ts) es h k env w = now (Aim t) h (Aims done ts es ∷ k) env w

-- one value is stored, and then the others are
abbrev pub store_one : List Bytes → Target → Value → Node → List (Node × Target) → List Value → Row
store_one texts (ToCell c) v at ts vs h k env w = now (Store ts vs) h k env (with_cell c v w)
store_one texts (ToGlobal x) v at ts vs h k env w =
    settle (choose (Newindex (Table (environment_here h w)) (Text (text_of texts x)) v) (store_of w)) at (Stores ts vs) h k env w
store_one texts (ToField t key) v at ts vs h k env w =
    settle (choose (Newindex t key v) (store_of w)) at (Stores ts vs) h k env w

abbrev pub store : List Bytes → List (Node × Target) → List Value → Row
store texts [] vs h k env w = now Done h k env w
store texts (t ∷ ts) vs h k env w = store_one texts t.1 (first vs) t.0 ts (rest vs) h k env w

-- the value that a compound assignment reads
abbrev pub read : List Bytes → Target → Node → Row
read texts (ToCell c) at h k env w = now (Give (cell_at w c)) h k env w
read texts (ToGlobal x) at h k env w =
    settle (choose (Index (Table (environment_here h w)) (Text (text_of texts x))) (store_of w)) at (Wants One) h k env w
read texts (ToField t key) at h k env w = settle (choose (Index t key) (store_of w)) at (Wants One) h k env w

-- ---- branches and loops

-- the next condition of an `if`, or else the block of `else`
abbrev pub choose_arm : List Arm → Option (List Stat) → Row
choose_arm [] None h k env w = now Done h k env w
choose_arm [] (Some body) h k env w = enter body h k env w
choose_arm (arm ∷ arms) other h k env w =
    now (Evaluate (out-Arm arm).cond) h (Chooses (out-Arm arm).body arms other ∷ k) env w

abbrev pub chosen : Bool → List Stat → List Arm → Option (List Stat) → Row
chosen true body arms other h k env w = enter body h k env w
chosen false body arms other h k env w = now (Choose arms other) h k env w

-- a loop goes into its body, or is over
abbrev pub looped : Bool → Expr → List Stat → Row
looped true cond body h k env w = enter body h (Repeats cond body ∷ k) env w
looped false cond body h k env w = now Done h k env w

-- the body of a `repeat`, whose variables its condition sees
abbrev pub try : List Stat → Expr → Environment → Row
try body cond before h k env w = now (ExecuteAll body) h (Tries body cond before ∷ k) before w

-- a turn is charged where the condition is false
abbrev pub tried : Bool → List Stat → Expr → Environment → Row
tried true body cond before h k env w = now Done h k before w
tried false body cond before h k env w = charge (ExecuteAll body) h (Tries body cond before ∷ k) before w

-- a turn of a numeric `for`, with a new variable
abbrev pub count : Bool → StrId → (index limit step : ℤ) → List Stat → Row
count true x i l s body h k env w =
    declare (x ∷ []) (Number i ∷ []) (ExecuteAll body) h (Restores env ∷ Counts x i l s body ∷ k) env w
count false x i l s body h k env w = now Done h k env w

abbrev pub bounded : Bounds → Node → StrId → List Stat → Row
bounded (Range i l s) at x body h k env w = now (Count x i l s body) h k env w
bounded (Refused e) at x body h k env w = fault at e h k env w
bounded (Halted s) at x body h k env w = Ends [] (Stopped s)

-- a turn is charged at each asking of a generator
abbrev pub begin_asking : Iteration → Node → List StrId → List Stat → Row
begin_asking (Generates g s c) at xs body h k env w = charge (Ask at xs g s c body) h k env w
begin_asking (CallsIter f vs) at xs body h k env w = now (Invoke ByLibrary f vs) h (Awaits at (Begins xs body) ∷ k) env w
begin_asking (NotIterable e) at xs body h k env w = fault at e h k env w

-- its values are the loop's variables, until the first is nil
abbrev pub turn : List Value → Node → List StrId → (generator state : Value) → List Stat → Row
turn [] at xs g s body h k env w = now Done h k env w
turn (Nil ∷ vs) at xs g s body h k env w = now Done h k env w
turn (v ∷ vs) at xs g s body h k env w =
    declare xs (v ∷ vs) (ExecuteAll body) h (Restores env ∷ Asks at xs g s v body ∷ k) env w

-- ---- the row of each kind of statement

abbrev pub begin_stat : StatLevel → Node → Row
begin_stat (level.Local xs es) at h k env w = now (EvaluateList [] es) h (Declares xs ∷ k) env w
begin_stat (level.Assign ts es) at h k env w = aim_all [] ts es h k env w
begin_stat (level.Compound op t e) at h k env w = now (Aim t) h (Updates at op e ∷ k) env w
begin_stat (level.StatKind::Call e) at h k env w =
    begin_call (out-ExprKind e.kind) Nothing (of_expr e) h k env w
begin_stat (level.Do body) at h k env w = enter body h k env w
begin_stat (level.While cond body) at h k env w = now (Evaluate cond) h (Loops cond body ∷ k) env w
begin_stat (level.Repeat body cond) at h k env w = try body cond env h k env w
begin_stat (level.StatKind::If arms other) at h k env w = now (Choose arms other) h k env w
begin_stat (level.NumFor x start limit step body) at h k env w =
    now (Evaluate start) h (Start at x limit step body ∷ k) env w
begin_stat (level.GenFor xs es body) at h k env w = now (EvaluateList [] es) h (Generator at xs body ∷ k) env w
begin_stat (level.LocalFunction x func) at h k env w = declare_function x func h k env w
begin_stat (level.Return es) at h k env w = now (EvaluateList [] es) h (Returns ∷ k) env w
begin_stat level.Break at h k env w = now Break h k env w
begin_stat level.Continue at h k env w = now Continue h k env w
