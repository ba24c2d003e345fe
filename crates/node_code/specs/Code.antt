-- The code of each node: what it makes of what was emitted before.
use Rattle.std.specs.Prelude.{ℕ, ◌+◌, ℤ, pos, nat_eq, if◌then◌else◌, Bool, true, false, List, [], ◌∷◌, length, Option, Some, None}
use Rattle.byte_text.specs.declared.fixed.StrId.{StrId}
use Rattle.op_words.specs.declared.insn.Insn.TheVariants as i
use Rattle.syntax_tree.specs.declared.bindings.Bindings.{Bindings}
use Rattle.syntax_tree.specs.declared.bindings.Bound.{Bound}
use Rattle.syntax_tree.specs.declared.bindings.Bound.TheVariants as bound
use Rattle.syntax_tree.specs.declared.tree.Arm.{Arm}
use Rattle.syntax_tree.specs.declared.tree.BinOp.{BinOp}
use Rattle.syntax_tree.specs.declared.tree.BinOp.TheVariants as op
use Rattle.syntax_tree.specs.declared.tree.Expr.{Expr}
use Rattle.syntax_tree.specs.declared.tree.ExprArm.{ExprArm}
use Rattle.syntax_tree.specs.declared.tree.FuncBody.{FuncBody}
use Rattle.syntax_tree.specs.declared.tree.Stat.{Stat}
use Rattle.syntax_tree.specs.declared.tree.ExprKind.TheOpen as level
use Rattle.syntax_tree.specs.declared.tree.ExprKind.TheOpen.{ExprKind-F, FieldKind-F, StatKind-F, Arm-F, Expr-F, ExprArm-F, Field-F, FuncBody-F, Stat-F}
use Rattle.syntax_tree.specs.Fold.{Steps, at_expr, at_stat, at_func, at_arm, at_expr_arm}
use Rattle.emit_expr.specs.declared.draft.Draft.{Draft}
use Rattle.emit_expr.specs.declared.draft.Emitter.{Emitter}
use Rattle.emit_expr.specs.declared.draft.Loop.{Loop}
use Rattle.emit_expr.specs.declared.draft.Mark.{Mark}
use Rattle.emit_expr.specs.Puts.{Step, insn, label, place, branch, declare, mark_at, start, blank, with_draft}
use Rattle.emit_expr.specs.Names.{bound_at, first_at, is_captured, register_of, name_run, own_of, declare_all, close_run, ended, close_over}
use Rattle.emit_expr.specs.Operators.{number_run, text_run}
use Rattle.node_code.specs.Nodes.{Target, NoTarget, Named, ExprCode, StatCode, ArmCode, ChoiceCode, FuncCode, operand_at, operand_run, jump_on, single, many}
use Rattle.node_code.specs.Lists.{list_run, count_of, exact_run, assign_to, assign_all}
use Rattle.node_code.specs.Conditions.{operate_run, binary_code, unary_code, concat_run, if_run}

abbrev pub Kind : Type 0
Kind = ExprKind-F (ℕ → ExprCode) (Unit {0}) (ℕ → StatCode) ArmCode ExprCode ChoiceCode (Unit {0}) FuncCode StatCode

abbrev pub StatLevel : Type 0
StatLevel = StatKind-F (ℕ → ExprCode) (Unit {0}) (ℕ → StatCode) ArmCode ExprCode ChoiceCode (Unit {0}) FuncCode StatCode

-- ---- expressions

abbrev pub named : Bindings → Bound → StrId → (id : ℕ) → ExprCode
named b x name id =
    record { id = id; many = false; own = own_of b x; number = None; run = λ to results. name_run b x name to; jump = jump_on (own_of b x) (λ to results. name_run b x name to); target = Named x name }

abbrev pub number_code : ℤ → (id : ℕ) → ExprCode
number_code n id = record (single id (number_run n)) { number = Some n }

-- one value of an expression, which may jump as the expression does
abbrev pub paren : ExprCode → (id : ℕ) → ExprCode
paren e id =
    record { id = id; many = false; own = e.own; number = e.number; run = λ to results. e.run to 2; jump = e.jump; target = NoTarget }

-- the callee and the arguments, in registers one behind the other
abbrev pub call_run : ExprCode → List ExprCode → (to results : ℕ) → Step
call_run f es to results d = insn (i.Call to (count_of es) results) (list_run es (to + 1) (f.run to 2 d))

abbrev pub kind_code : Bindings → Kind → (id : ℕ) → ExprCode
kind_code b level.Nil id = single id (λ to. insn (i.LoadNil to))
kind_code b level.True id = single id (λ to. insn (i.LoadB to 1 0))
kind_code b level.False id = single id (λ to. insn (i.LoadB to 0 0))
kind_code b (level.Num n) id = number_code n id
kind_code b (level.Str t) id = single id (text_run t)
kind_code b level.Vararg id = many id (λ to results. insn (i.GetVarargs to results))
kind_code b (level.Name x) id = named b (bound_at b id) x id
kind_code b (level.Paren e) id = paren e id
kind_code b (level.Unary op e) id = unary_code op e id
kind_code b (level.Binary op x y) id = binary_code op x y id
kind_code b (level.Concat es) id = single id (concat_run es)
kind_code b (level.ExprKind::Call f es) id = many id (call_run f es)
kind_code b (level.Function f) id = single id f
kind_code b (level.ExprKind::If arms other) id = single id (if_run arms other id)
kind_code b _ id = single id (λ to d. d)

-- ---- blocks

-- statements in order, in the loop around them
abbrev pub stats_run : List StatCode → (free : ℕ) → Loop → Step
stats_run [] free l d = d
stats_run (s ∷ ss) free l d = stats_run ss (free + s.declares) l (s.run free l d)

-- a block
abbrev pub block_run : Bindings → List StatCode → (free : ℕ) → Loop → Step
block_run b ss free l d = ended b (mark_at free d) (stats_run ss free l d)

abbrev pub declared : List StatCode → ℕ
declared [] = 0
declared (s ∷ ss) = s.declares + declared ss

-- ---- loops

-- no loop is around
abbrev pub no_loop : Loop
no_loop = record { node = 0; start = record { variables = 0; free = 0 }; turn = record { variables = 0; free = 0 } }

-- a loop whose body begins here
abbrev pub loop_at : (node : ℕ) → Mark → Loop
loop_at node m = record { node = node; start = m; turn = m }

-- a `continue` in a statement of a loop's body closes what came in scope in the statement; the body's end closes the rest
abbrev pub in_turn : Mark → Loop → Loop
in_turn m l = record { node = l.node; start = l.start; turn = m }

-- the body of a loop
abbrev pub body_run : List StatCode → (free : ℕ) → Loop → Step
body_run [] free l d = d
body_run (s ∷ ss) free l d = body_run ss (free + s.declares) l (s.run free (in_turn (mark_at free d) l) d)

-- a body and its end, to which `continue` leads
abbrev pub pass_run : Mark → List StatCode → (free id : ℕ) → Step
pass_run m ss free id d = place (label id 2) (body_run ss free (loop_at id m) d)

-- and what came in scope in it is closed and forgotten
abbrev pub turn_run : Bindings → Mark → List StatCode → (free id : ℕ) → Step
turn_run b m ss free id d = ended b m (pass_run m ss free id d)

abbrev pub while_end : (id : ℕ) → Step
while_end id d = place (label id 1) (branch (i.JumpBack (pos 0)) (label id 0) d)

abbrev pub while_run : Bindings → ExprCode → List StatCode → (id free : ℕ) → Step
while_run b cond body id free d =
    while_end id (turn_run b (mark_at free d) body free id (cond.jump false free (label id 1) (place (label id 0) d)))

-- The condition of a `repeat` sees the body's variables, which are closed on both ways out of it
abbrev pub repeat_end : Bindings → Mark → (id : ℕ) → Step
repeat_end b m id d =
    place (label id 1) (ended b m (place (label id 3) (branch (i.JumpBack (pos 0)) (label id 0) (close_run b m d))))

abbrev pub repeat_run : Bindings → List StatCode → ExprCode → (id free : ℕ) → Step
repeat_run b body cond id free d =
    repeat_end b (mark_at free d) id (cond.jump true (free + declared body) (label id 3) (pass_run (mark_at free d) body free id (place (label id 0) d)))

-- a value that is made behind the loop's registers, into one of them
abbrev pub copied : ExprCode → (to at : ℕ) → Step
copied e to at d = insn (i.Move to (operand_at e at d)) (operand_run e at d)

abbrev pub step_run : Option ExprCode → (free : ℕ) → Step
step_run None free d = insn (i.LoadN (free + 1) (pos 1)) d
step_run (Some e) free d = copied e (free + 1) (free + 3) d

-- the index, the limit and the step, in the order of the text
abbrev pub bounds_run : ExprCode → ExprCode → Option ExprCode → (free : ℕ) → Step
bounds_run start limit step free d = step_run step free (copied limit free (free + 3) (start.run (free + 2) 2 d))

-- The limit, the step and the index stand in three registers, and the variable in the next, into which each turn copies the index
abbrev pub index_run : Bindings → (id free : ℕ) → Step
index_run b id free d = declare (first_at b id) (free + 3) (insn (i.Move (free + 3) (free + 2)) d)

abbrev pub turns_run : Bindings → List StatCode → (id free : ℕ) → Step
turns_run b body id free d = turn_run b (mark_at (free + 3) d) body (free + 4) id (index_run b id free d)

abbrev pub for_begin : (id free : ℕ) → Step
for_begin id free d = place (label id 0) (branch (i.ForNPrep free (pos 0)) (label id 1) d)

abbrev pub for_end : (id free : ℕ) → Step
for_end id free d = place (label id 1) (branch (i.ForNLoop free (pos 0)) (label id 0) d)

abbrev pub num_for_run : Bindings → ExprCode → ExprCode → Option ExprCode → List StatCode → (id free : ℕ) → Step
num_for_run b start limit step body id free d =
    for_end id free (turns_run b body id free (for_begin id free (bounds_run start limit step free d)))

-- ---- branches

-- each block but the last jumps behind them all
abbrev pub skip_rest : (more : Bool) → (id : ℕ) → Step
skip_rest true id d = branch (i.Jump (pos 0)) (label id 0) d
skip_rest false id d = d

abbrev pub arm_end : (more : Bool) → (id next : ℕ) → Step
arm_end more id next d = place (label next 1) (skip_rest more id d)

abbrev pub arm_run : Bindings → (more : Bool) → ArmCode → (id free : ℕ) → Loop → Step
arm_run b more a id free l d =
    arm_end more id a.cond.id (block_run b a.body free l (a.cond.jump false free (label a.cond.id 1) d))

-- whether something stands behind an arm, by how many arms do
abbrev pub has_more : (other : Bool) → (rest : ℕ) → Bool
has_more other rest = if nat_eq rest 0 then other else true

abbrev pub arms_run : Bindings → (other : Bool) → List ArmCode → (id free : ℕ) → Loop → Step
arms_run b other [] id free l d = d
arms_run b other (a ∷ arms) id free l d = arms_run b other arms id free l (arm_run b (has_more other (length arms)) a id free l d)

abbrev pub branches_run : Bindings → List ArmCode → Option (List StatCode) → (id free : ℕ) → Loop → Step
branches_run b arms None id free l d = place (label id 0) (arms_run b false arms id free l d)
branches_run b arms (Some body) id free l d =
    place (label id 0) (block_run b body free l (arms_run b true arms id free l d))

-- ---- compound assignments

-- the operands stand in registers one behind the other
abbrev pub joined : ExprCode → (to left : ℕ) → Step
joined y to left d = insn (i.Concat to left (left + 1)) (y.run (left + 1) 2 d)

-- the operator, with its left operand in the first free register
abbrev pub operated : BinOp → ExprCode → (to free : ℕ) → Step
operated op.Concat y to free d = joined y to free d
operated op y to free d = operate_run op to free y (free + 1) d

-- a local that nothing captures is the left operand in its own register
abbrev pub update_own : BinOp → ExprCode → (register free : ℕ) → Step
update_own op.Concat y register free d = joined y register free (insn (i.Move free register) d)
update_own op y register free d = operate_run op register register y free d

abbrev pub update_local : Bool → BinOp → ExprCode → (register free : ℕ) → Step
update_local true op y register free d = operated op y register free (insn (i.Move free register) d)
update_local false op y register free d = update_own op y register free d

abbrev pub update_run : Bindings → Target → BinOp → ExprCode → (free : ℕ) → Step
update_run b NoTarget op y free d = d
update_run b (Named (bound.Local k) name) op y free d = update_local (is_captured b k) op y (register_of k d) free d
update_run b (Named x name) op y free d =
    assign_to b (Named x name) free (operated op y free free (name_run b x name free d))

-- ---- statements

abbrev pub no_turns : (free : ℕ) → Step
no_turns free d = d

abbrev pub plain : (ℕ → Loop → Step) → StatCode
plain run = record { declares = 0; run = run; turns = no_turns }

abbrev pub local_run : Bindings → (count : ℕ) → List ExprCode → (id free : ℕ) → Step
local_run b count es id free d = declare_all (first_at b id) free count (exact_run es free count d)

abbrev pub stat_kind_code : Bindings → StatLevel → (id : ℕ) → StatCode
stat_kind_code b (level.Local xs es) id =
    record { declares = length xs; run = λ free l. local_run b (length xs) es id free; turns = no_turns }
stat_kind_code b (level.Assign ts es) id = plain (λ free l d. assign_all b ts free (exact_run es free (length ts) d))
stat_kind_code b (level.Compound op t e) id = plain (λ free l. update_run b t.target op e free)
stat_kind_code b (level.StatKind::Call e) id = plain (λ free l. e.run free 1)
stat_kind_code b (level.Do body) id = plain (block_run b body)
stat_kind_code b (level.While cond body) id = plain (λ free l. while_run b cond body id free)
stat_kind_code b (level.Repeat body cond) id = plain (λ free l. repeat_run b body cond id free)
stat_kind_code b (level.StatKind::If arms other) id = plain (branches_run b arms other id)
stat_kind_code b (level.NumFor x start limit step body) id =
    record { declares = 0; run = λ free l. num_for_run b start limit step body id free; turns = turns_run b body id }
stat_kind_code b (level.LocalFunction x f) id =
    record { declares = 1; run = λ free l d. f free (declare (first_at b id) free d); turns = no_turns }
stat_kind_code b (level.Return es) id = plain (λ free l d. insn (i.Return free (count_of es)) (list_run es free d))
stat_kind_code b level.Break id = plain (λ free l d. branch (i.Jump (pos 0)) (label l.node 1) (close_run b l.start d))
stat_kind_code b level.Continue id = plain (λ free l d. branch (i.Jump (pos 0)) (label l.node 2) (close_run b l.turn d))
stat_kind_code b _ id = plain (λ free l d. d)

-- ---- functions

-- a function that takes any number of arguments says so first
abbrev pub prepared : (vararg : Bool) → (params : ℕ) → Step
prepared true params d = insn (i.PrepVarargs params) d
prepared false params d = d

-- into a function: its parameters are in scope
abbrev pub func_begin : Bindings → (id params : ℕ) → (vararg : Bool) → Step
func_begin b id params vararg d = declare_all (first_at b id) 0 params (prepared vararg params (with_draft (blank id) d))

-- out of it: where its text ends it returns nothing
abbrev pub func_end : Bindings → (params : ℕ) → (vararg : Bool) → (to : ℕ) → (outer : Draft) → Step
func_end b params vararg to outer d = close_over b params vararg to outer (insn (i.Return 0 1) d)

abbrev pub func_run : Bindings → (id params : ℕ) → (vararg : Bool) → List StatCode → FuncCode
func_run b id params vararg body to d =
    func_end b params vararg to d.draft (stats_run body params no_loop (func_begin b id params vararg d))

abbrev pub steps : Bindings → Steps (ℕ → ExprCode) (Unit {0}) (ℕ → StatCode) ArmCode ExprCode ChoiceCode (Unit {0}) FuncCode StatCode
steps b =
    record { kind = kind_code b; field_kind = λ _. tt; stat_kind = stat_kind_code b; arm = λ a. record { cond = a.cond; body = a.body }; expr = λ e. record (e.kind e.id) { id = e.id }; expr_arm = λ a. record { cond = a.cond; value = a.value }; field = λ _. tt; func = λ f. func_run b f.id (length f.params) f.vararg f.body; stat = λ s. s.kind s.id }

abbrev pub expr_code : Bindings → Expr → ExprCode
expr_code b = at_expr (steps b)

abbrev pub stat_code : Bindings → Stat → StatCode
stat_code b = at_stat (steps b)

abbrev pub arm_code : Bindings → Arm → ArmCode
arm_code b = at_arm (steps b)

abbrev pub choice_code : Bindings → ExprArm → ChoiceCode
choice_code b = at_expr_arm (steps b)

abbrev pub func_code : Bindings → FuncBody → FuncCode
func_code b = at_func (steps b)

-- the code of a script: its functions in the order in which their texts end, the main function last
abbrev pub script_code : Bindings → FuncBody → Emitter
script_code b main = func_code b main 0 start
