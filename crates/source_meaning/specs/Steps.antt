-- What a script does, one step at a time.
use Rattle.std.specs.Prelude.{List, [], ◌∷◌}
use Rattle.syntax_tree.specs.declared.tree.ExprKind.{out-ExprKind}
use Rattle.syntax_tree.specs.declared.tree.StatKind.{out-StatKind}
use Rattle.value_model.specs.Values.{Bytes, Text}
use Rattle.value_model.specs.Errors.{error_text}
use Rattle.value_model.specs.Waits.{Called, ByScript, Stuck, innermost}
use Rattle.value_model.specs.Loops.{goes_on}
use Rattle.bounded_runs.specs.Runs.{Goes, Ends}
use Rattle.source_meaning.specs.States.{of_expr, of_stat, Turns, Awaits, Focus, Evaluate, Give, EvaluateAll, EvaluateList, GiveAll, Join, Fill, Spread, Pick, Execute, ExecuteAll, Choose, Aim, Aimed, Store, Count, Ask, Done, Break, Continue, Invoke, Hand, Fault, Raise, Activation, World, State}
use Rattle.source_meaning.specs.Moves.{Step, Row, now, stuck, store_of}
use Rattle.source_meaning.specs.Calls.{state_with, asks, hand, hand_back, raise, is_function}
use Rattle.source_meaning.specs.Expressions as expressions
use Rattle.source_meaning.specs.Statements as statements
use Rattle.source_meaning.specs.Frames.{use_value, use_values, use_target, go_on, broken, continued}

-- the row of what is done now in the function that runs
abbrev pub row : List Bytes → Focus → Row
row texts (Evaluate e) h k env w = expressions.begin texts (out-ExprKind e.kind) (of_expr e) h k env w
row texts (EvaluateAll e) h k env w = expressions.begin_all (out-ExprKind e.kind) e h k env w
row texts (EvaluateList got es) h k env w = expressions.list got es h k env w
row texts (Join at vs) h k env w = expressions.join at vs h k env w
row texts (Fill at r place ds) h k env w = expressions.fill texts at r place ds h k env w
row texts (Spread at r place vs) h k env w = expressions.fill_values at r place vs h k env w
row texts (Pick arms other) h k env w = expressions.pick arms other h k env w
row texts (Execute s) h k env w = statements.begin_stat (out-StatKind s.kind) (of_stat s) h k env w
row texts (ExecuteAll ss) h k env w = statements.in_order ss h k env w
row texts (Choose arms other) h k env w = statements.choose_arm arms other h k env w
row texts (Aim e) h k env w = statements.aim (out-ExprKind e.kind) (of_expr e) h k env w
row texts (Store ts vs) h k env w = statements.store texts ts vs h k env w
row texts (Count x i l s body) h k env w = statements.count (goes_on i l s) x i l s body h k env w
row texts (Ask at xs g s c body) h k env w =
    now (Invoke ByScript g (s ∷ c ∷ [])) h (Awaits at (Turns xs g s body) ∷ k) env w
row texts (Give v) h (f ∷ k) env w = use_value texts f v h k env w
row texts (GiveAll vs) h (f ∷ k) env w = use_values texts f vs h k env w
row texts (Aimed at t) h (f ∷ k) env w = use_target texts f at t h k env w
row texts Done h (f ∷ k) env w = go_on f h k env w
row texts Break h (f ∷ k) env w = broken f h k env w
row texts Continue h (f ∷ k) env w = continued f h k env w
-- the end of a function returns nothing
row texts Done h [] env w = hand_back [] h.below w
row texts _ h k env w = stuck h k env w

abbrev pub inside : List Bytes → Focus → List Activation → World → Step
inside texts f [] w = Ends [] Stuck
inside texts f (a ∷ below) w =
    row texts f (record { closure = a.closure; varargs = a.varargs; below = below }) a.frames a.env w

-- what is done now, where a function may run or not
abbrev pub moves : List Bytes → Focus → List Activation → World → Step
moves texts (Invoke by f vs) fs w = asks (Called by f vs) fs w
moves texts (Hand vs) fs w = hand (is_function (innermost w.waits (store_of w))) vs fs w
moves texts (Fault e) fs w = Goes [] (state_with (Raise (Text (error_text e))) fs w)
moves texts (Raise v) fs w = raise (is_function (innermost w.waits (store_of w))) v fs w
moves texts f fs w = inside texts f fs w

abbrev pub step : List Bytes → State → Step
step texts s = moves texts s.focus s.functions s.world
