-- What is done with what a part gives: a row for each kind of frame.
use Rattle.std.specs.Prelude.{◌+◌, pos, ◌+ℤ◌, Bool, true, false, not, List, [], ◌∷◌, ◌++◌, Option, Some, None}
use Rattle.syntax_tree.specs.declared.tree.Expr.{Expr}
use Rattle.value_model.specs.Values.{Value, Boolean, Number, Text, Bytes, is_true}
use Rattle.value_model.specs.Loops.{bounds, iteration, Generates}
use Rattle.value_model.specs.Choices.{Index}
use Rattle.value_model.specs.Metamethods.{choose}
use Rattle.source_meaning.specs.States.{Node, Target, ToField, One, All, Nothing, Purpose, Wants, Compares, Finds, Joins, Begins, Turns, Stores, Frame, Item, Last, Only, Operand, LeftOperand, RightOperand, Decides, Operands, Indexed, Key, Member, Callee, Object, Arguments, ItemField, LastField, KeyField, ValueField, Picks, Declares, Aims, Assigns, TargetTable, TargetKey, TargetMember, Updates, Reads, StoresIn, Chooses, Loops, Repeats, Tries, Until, Start, Limit, Stride, Counts, Generator, Asks, Continues, Restores, Returns, Awaits, Evaluate, Give, EvaluateList, GiveAll, Join, Fill, ExecuteAll, Aimed, Store, Count, Ask, Done, Break, Continue}
use Rattle.source_meaning.specs.Moves.{Row, now, charge, stuck, store_of, first, rest, settle}
use Rattle.source_meaning.specs.Calls.{hand_back}
use Rattle.source_meaning.specs.Expressions as expressions
use Rattle.source_meaning.specs.Statements as statements

-- the step of a numeric `for` is 1 where none is written
abbrev pub begin_stride : Option Expr → Frame → Row
begin_stride None f h k env w = now (Give (Number (pos 1))) h (f ∷ k) env w
begin_stride (Some e) f h k env w = now (Evaluate e) h (f ∷ k) env w

-- a frame is given a value
abbrev pub use_value : List Bytes → Frame → Value → Row
use_value texts (Item got es) v h k env w = expressions.list (got ++ v ∷ []) es h k env w
use_value texts Only v h k env w = now (GiveAll (v ∷ [])) h k env w
use_value texts (Operand at op) v h k env w = expressions.unary_result op v at h k env w
use_value texts (LeftOperand at op b) v h k env w = now (Evaluate b) h (RightOperand at op v ∷ k) env w
use_value texts (RightOperand at op v) u h k env w =
    expressions.operate (expressions.operation op v u) (expressions.purpose op) at h k env w
use_value texts (Decides op b) v h k env w = expressions.decide op (is_true v) v b h k env w
use_value texts (Operands at got es) v h k env w = expressions.operands at (v ∷ got) es h k env w
use_value texts (Indexed at key) v h k env w = now (Evaluate key) h (Key at v ∷ k) env w
use_value texts (Key at t) v h k env w = settle (choose (Index t v) (store_of w)) at (Wants One) h k env w
use_value texts (Member at x) v h k env w =
    settle (choose (Index v (Text (expressions.text_of texts x))) (store_of w)) at (Wants One) h k env w
use_value texts (Callee at args n) f h k env w = now (EvaluateList [] args) h (Arguments at f [] n ∷ k) env w
use_value texts (Object at x args n) v h k env w =
    expressions.find at v (expressions.text_of texts x) args n h k env w
use_value texts (ItemField at r place ds) v h k env w =
    expressions.store_field 0 r (Number (pos place)) v (Fill at r (place + 1) ds) at h k env w
use_value texts (KeyField at r place e ds) v h k env w = now (Evaluate e) h (ValueField at r place v ds ∷ k) env w
use_value texts (ValueField at r place key ds) v h k env w =
    expressions.store_field 1 r key v (Fill at r place ds) at h k env w
use_value texts (Picks e arms other) v h k env w = expressions.picked (is_true v) e arms other h k env w
use_value texts (TargetMember at x) v h k env w =
    now (Aimed at (ToField v (Text (expressions.text_of texts x)))) h k env w
use_value texts (TargetTable at key) v h k env w = now (Evaluate key) h (TargetKey at v ∷ k) env w
use_value texts (TargetKey at t) v h k env w = now (Aimed at (ToField t v)) h k env w
use_value texts (Reads at op target e) v h k env w =
    now (Evaluate e) h (RightOperand at op v ∷ StoresIn at target ∷ k) env w
use_value texts (StoresIn at target) v h k env w = now (Store ((at, target) ∷ []) (v ∷ [])) h k env w
use_value texts (Chooses body arms other) v h k env w = statements.chosen (is_true v) body arms other h k env w
use_value texts (Loops cond body) v h k env w = statements.looped (is_true v) cond body h k env w
use_value texts (Until body cond before) v h k env w = statements.tried (is_true v) body cond before h k env w
use_value texts (Start at x limit step body) v h k env w = now (Evaluate limit) h (Limit at x v step body ∷ k) env w
use_value texts (Limit at x start step body) v h k env w = begin_stride step (Stride at x start v body) h k env w
use_value texts (Stride at x start limit body) v h k env w =
    statements.bounded (bounds start limit v) at x body h k env w
use_value texts _ v h k env w = stuck h k env w

-- the answer of a comparison, or its opposite
abbrev pub answer : (opposite : Bool) → Bool → Bool
answer false b = b
answer true b = not b

-- a node is given the values of a call
abbrev pub receive : Purpose → Node → List Value → Row
receive (Wants One) at vs h k env w = now (Give (first vs)) h k env w
receive (Wants All) at vs h k env w = now (GiveAll vs) h k env w
receive (Wants Nothing) at vs h k env w = now Done h k env w
receive (Compares opposite) at vs h k env w = now (Give (Boolean (answer opposite (is_true (first vs))))) h k env w
receive (Finds object args n) at vs h k env w =
    now (EvaluateList [] args) h (Arguments at (first vs) (object ∷ []) n ∷ k) env w
receive (Joins us) at vs h k env w = now (Join at (first vs ∷ us)) h k env w
receive (Begins xs body) at vs h k env w =
    statements.begin_asking (Generates (first vs) (first (rest vs)) (first (rest (rest vs)))) at xs body h k env w
receive (Turns xs g s body) at vs h k env w = statements.turn vs at xs g s body h k env w
receive (Stores ts us) at vs h k env w = now (Store ts us) h k env w

-- a frame is given a list of values
abbrev pub use_values : List Bytes → Frame → List Value → Row
use_values texts (Last got) vs h k env w = now (GiveAll (got ++ vs)) h k env w
use_values texts (Arguments at f object n) vs h k env w = expressions.call at f (object ++ vs) n h k env w
use_values texts (LastField at r place) vs h k env w = expressions.fill_values at r place vs h k env w
use_values texts (Declares xs) vs h k env w = statements.declare xs vs Done h k env w
use_values texts (Assigns targets) vs h k env w = now (Store targets vs) h k env w
use_values texts (Generator at xs body) vs h k env w =
    statements.begin_asking (iteration (store_of w) (first vs) (first (rest vs)) (first (rest (rest vs)))) at xs body h k env w
use_values texts Returns vs h k env w = hand_back vs h.below w
use_values texts (Awaits at p) vs h k env w = receive p at vs h k env w
use_values texts _ vs h k env w = stuck h k env w

-- a frame is given a target
abbrev pub use_target : List Bytes → Frame → Node → Target → Row
use_target texts (Aims done ts es) at t h k env w = statements.aim_all (done ++ (at, t) ∷ []) ts es h k env w
use_target texts (Updates at op e) node t h k env w = statements.read texts t at h (Reads at op t e ∷ k) env w
use_target texts _ at t h k env w = stuck h k env w

-- A frame goes on after a statement or a block. A turn is charged at the end of each body of a loop, before anything is
-- evaluated again
abbrev pub go_on : Frame → Row
go_on (Continues ss) h k env w = now (ExecuteAll ss) h k env w
go_on (Restores before) h k env w = now Done h k before w
go_on (Repeats cond body) h k env w = charge (Evaluate cond) h (Loops cond body ∷ k) env w
go_on (Tries body cond before) h k env w = now (Evaluate cond) h (Until body cond before ∷ k) env w
go_on (Counts x i l s body) h k env w = charge (Count x (i +ℤ s) l s body) h k env w
go_on (Asks at xs g s c body) h k env w = charge (Ask at xs g s c body) h k env w
go_on _ h k env w = stuck h k env w

-- `break` leaves the innermost loop, with the variables from before it
abbrev pub broken : Frame → Row
broken (Continues ss) h k env w = now Break h k env w
broken (Restores before) h k env w = now Break h k before w
broken (Repeats cond body) h k env w = now Done h k env w
broken (Tries body cond before) h k env w = now Done h k before w
broken (Counts x i l s body) h k env w = now Done h k env w
broken (Asks at xs g s c body) h k env w = now Done h k env w
broken _ h k env w = stuck h k env w

-- `continue` leaves the body of the innermost loop, which then goes on
abbrev pub continued : Frame → Row
continued (Continues ss) h k env w = now Continue h k env w
continued (Restores before) h k env w = now Continue h k before w
continued f h k env w = go_on f h k env w
