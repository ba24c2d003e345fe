use Rattle.std.proofs.Common.{rules, ◌≡◌, ◌++◌, OnOk}
use Rattle.syntax_tree.specs.declared.tree.FuncBody.{out-FuncBody}
use Rattle.function_registers.specs.Registers as spec
use Rattle.function_registers.proofs.Levels as levels
use Rattle.function_registers.proofs.walk.+walk.Goals as goal

pub note_expr-returns-in-Concat : goal.note_expr-returns-in-Concat
note_expr-returns-in-Concat t c =
    search (rules, levels.of_concat c.args.expr.now _ c.in-Concat.is)

pub note_expr-returns-in-Function : goal.note_expr-returns-in-Function
note_expr-returns-in-Function t c =
    search (rules, levels.of_function c.args.expr.now _ c.in-Function.is)

pub note_expr-returns-in-Interp : goal.note_expr-returns-in-Interp
note_expr-returns-in-Interp t c =
    search (rules, levels.of_interp c.args.expr.now _ _ c.in-Interp.is)

pub note_expr-returns-in-Member : goal.note_expr-returns-in-Member
note_expr-returns-in-Member t c =
    search (rules, levels.of_member c.args.expr.now _ _ c.in-Member.is)

pub note_expr-returns-in-Paren : goal.note_expr-returns-in-Paren
note_expr-returns-in-Paren t c =
    search (rules, levels.of_paren c.args.expr.now _ c.in-Paren.is)

pub note_expr-returns-in-Table : goal.note_expr-returns-in-Table
note_expr-returns-in-Table t c =
    search (rules, levels.of_table c.args.expr.now _ c.in-Table.is)

pub note_expr-returns-in-Unary : goal.note_expr-returns-in-Unary
note_expr-returns-in-Unary t c =
    search (rules, levels.of_unary c.args.expr.now _ _ c.in-Unary.is)

pub note_expr-returns-in_ok-note_expr-in-Binary : goal.note_expr-returns-in_ok-note_expr-in-Binary
note_expr-returns-in_ok-note_expr-in-Binary t c =
    search (levels.two, rules, levels.of_binary c.args.expr.now _ _ _ c.in-Binary.is)

pub note_expr-returns-in_ok-note_expr-in-Call : goal.note_expr-returns-in_ok-note_expr-in-Call
note_expr-returns-in_ok-note_expr-in-Call t c =
    search (levels.two, rules, levels.of_call c.args.expr.now _ _ c.in-Call.is)

pub note_expr-returns-in_ok-note_expr-in-Index : goal.note_expr-returns-in_ok-note_expr-in-Index
note_expr-returns-in_ok-note_expr-in-Index t c =
    search (levels.two, rules, levels.of_index c.args.expr.now _ _ c.in-Index.is)

pub note_expr-returns-in_ok-note_expr-in-Method : goal.note_expr-returns-in_ok-note_expr-in-Method
note_expr-returns-in_ok-note_expr-in-Method t c =
    search (levels.two, rules, levels.of_method c.args.expr.now _ _ _ c.in-Method.is)

pub note_expr-returns-in_ok-note_expr_arms-in-If : goal.note_expr-returns-in_ok-note_expr_arms-in-If
note_expr-returns-in_ok-note_expr_arms-in-If t c =
    search (levels.two, rules, levels.of_if c.args.expr.now _ _ c.in-If.is)

pub note_field-returns-in-Item : goal.note_field-returns-in-Item
note_field-returns-in-Item t c =
    search (rules, levels.of_item c.args.field.now _ c.in-Item.is)

pub note_field-returns-in-Named : goal.note_field-returns-in-Named
note_field-returns-in-Named t c =
    search (rules, levels.of_named c.args.field.now _ _ c.in-Named.is)

pub note_field-returns-in_ok-note_expr-in-Keyed : goal.note_field-returns-in_ok-note_expr-in-Keyed
note_field-returns-in_ok-note_expr-in-Keyed t c =
    search (levels.two, rules, levels.of_keyed c.args.field.now _ _ c.in-Keyed.is)

pub note_func-returns : goal.note_func-returns
note_func-returns t c =
    let f = c.args.func.now in
    let mid : c.note_own.new.entries ≡ c.args.entries.now ++ spec.own_entry f = search rules in
    let rest : OnOk c.note_block.result (c.note_block.new.entries ≡ c.note_own.new.entries ++ spec.in_block (out-FuncBody f).body) = search rules in
    levels.two _ _ _ _ (spec.own_entry f) (spec.in_block (out-FuncBody f).body) (spec.all_entries f) (levels.of_all f) mid rest

pub note_stat-returns-in-Call : goal.note_stat-returns-in-Call
note_stat-returns-in-Call t c =
    search (rules, levels.of_call_statement c.args.stat.now _ c.in-Call.is)

pub note_stat-returns-in-Do : goal.note_stat-returns-in-Do
note_stat-returns-in-Do t c =
    search (rules, levels.of_do c.args.stat.now _ c.in-Do.is)

pub note_stat-returns-in-Local : goal.note_stat-returns-in-Local
note_stat-returns-in-Local t c =
    search (rules, levels.of_local c.args.stat.now _ _ c.in-Local.is)

pub note_stat-returns-in-LocalFunction : goal.note_stat-returns-in-LocalFunction
note_stat-returns-in-LocalFunction t c =
    search (rules, levels.of_local_function c.args.stat.now _ _ c.in-LocalFunction.is)

pub note_stat-returns-in-None : goal.note_stat-returns-in-None
note_stat-returns-in-None t c =
    search (rules, levels.of_if_none c.args.stat.now _ _ c.in-If.is c.in-None.is)

pub note_stat-returns-in-Return : goal.note_stat-returns-in-Return
note_stat-returns-in-Return t c =
    search (rules, levels.of_return c.args.stat.now _ c.in-Return.is)

pub note_stat-returns-in-Some : goal.note_stat-returns-in-Some
note_stat-returns-in-Some t c =
    search (levels.two, rules, levels.of_if_some c.args.stat.now _ _ _ c.in-If.is c.in-Some.is)

pub note_stat-returns-in_ok-note_block-in-Repeat : goal.note_stat-returns-in_ok-note_block-in-Repeat
note_stat-returns-in_ok-note_block-in-Repeat t c =
    search (levels.two, rules, levels.of_repeat c.args.stat.now _ _ c.in-Repeat.is)

pub note_stat-returns-in_ok-note_expr-in-Compound : goal.note_stat-returns-in_ok-note_expr-in-Compound
note_stat-returns-in_ok-note_expr-in-Compound t c =
    search (levels.two, rules, levels.of_compound c.args.stat.now _ _ _ c.in-Compound.is)

pub note_stat-returns-in_ok-note_expr-in-While : goal.note_stat-returns-in_ok-note_expr-in-While
note_stat-returns-in_ok-note_expr-in-While t c =
    search (levels.two, rules, levels.of_while c.args.stat.now _ _ c.in-While.is)

pub note_stat-returns-in_ok-note_list-in-Assign : goal.note_stat-returns-in_ok-note_list-in-Assign
note_stat-returns-in_ok-note_list-in-Assign t c =
    search (levels.two, rules, levels.of_assign c.args.stat.now _ _ c.in-Assign.is)

pub note_stat-returns-in_ok-note_list-in-GenFor : goal.note_stat-returns-in_ok-note_list-in-GenFor
note_stat-returns-in_ok-note_list-in-GenFor t c =
    search (levels.two, rules, levels.of_gen_for c.args.stat.now _ _ _ c.in-GenFor.is)

pub note_stat-returns-in_ok-note_step-in-NumFor : goal.note_stat-returns-in_ok-note_step-in-NumFor
note_stat-returns-in_ok-note_step-in-NumFor t c =
    let arm = c.in-NumFor in
    let start : c.note_expr-in-NumFor.new.entries ≡ c.args.entries.now ++ spec.in_expr arm.start = search rules in
    let limit : c.note_expr-in-NumFor-2.new.entries ≡ c.note_expr-in-NumFor.new.entries ++ spec.in_expr arm.limit = search rules in
    let step : c.note_step.new.entries ≡ c.note_expr-in-NumFor-2.new.entries ++ spec.in_step arm.step = search rules in
    let body : OnOk c.note_block-in-NumFor.result (c.note_block-in-NumFor.new.entries ≡ c.note_step.new.entries ++ spec.in_block arm.body) = search rules in
    levels.four _ _ _ _ _ _ _ _ _ _ _ (levels.of_num_for c.args.stat.now _ _ _ _ _ arm.is) start limit step body

pub note_arm-returns : goal.note_arm-returns
note_arm-returns t c =
    search (levels.two, rules, levels.of_arm c.args.arm.now)

pub note_expr_arm-returns : goal.note_expr_arm-returns
note_expr_arm-returns t c =
    search (levels.two, rules, levels.of_expr_arm c.args.arm.now)

pub note_expr-returns-in-Nil : goal.note_expr-returns-in-Nil
note_expr-returns-in-Nil t c =
    search (rules, levels.of_nil c.args.expr.now c.in-Nil.is)

pub note_expr-returns-in-True : goal.note_expr-returns-in-True
note_expr-returns-in-True t c =
    search (rules, levels.of_true c.args.expr.now c.in-True.is)

pub note_expr-returns-in-False : goal.note_expr-returns-in-False
note_expr-returns-in-False t c =
    search (rules, levels.of_false c.args.expr.now c.in-False.is)

pub note_expr-returns-in-Num : goal.note_expr-returns-in-Num
note_expr-returns-in-Num t c =
    search (rules, levels.of_num c.args.expr.now _ c.in-Num.is)

pub note_expr-returns-in-Str : goal.note_expr-returns-in-Str
note_expr-returns-in-Str t c =
    search (rules, levels.of_str c.args.expr.now _ c.in-Str.is)

pub note_expr-returns-in-Vararg : goal.note_expr-returns-in-Vararg
note_expr-returns-in-Vararg t c =
    search (rules, levels.of_vararg c.args.expr.now c.in-Vararg.is)

pub note_expr-returns-in-Name : goal.note_expr-returns-in-Name
note_expr-returns-in-Name t c =
    search (rules, levels.of_name c.args.expr.now _ c.in-Name.is)

pub note_stat-returns-in-Break : goal.note_stat-returns-in-Break
note_stat-returns-in-Break t c =
    search (rules, levels.of_break c.args.stat.now c.in-Break.is)

pub note_stat-returns-in-Continue : goal.note_stat-returns-in-Continue
note_stat-returns-in-Continue t c =
    search (rules, levels.of_continue c.args.stat.now c.in-Continue.is)
