use Rattle.std.proofs.Common.{rules, ◌≡◌, ◌++◌, OnOk}
use Rattle.syntax_tree.specs.Sizes as spec
use Rattle.scopes.proofs.SizeLevels as levels
use Rattle.scopes.proofs.sizes.+sizes.Goals as goal

pub size_expr-returns-in-Concat : goal.size_expr-returns-in-Concat
size_expr-returns-in-Concat t c =
    let k = c.args.bindings.now in
    search (rules, levels.of_concat k c.args.expr.now _ c.in-Concat.is)

pub size_expr-returns-in-Function : goal.size_expr-returns-in-Function
size_expr-returns-in-Function t c =
    let k = c.args.bindings.now in
    search (rules, levels.of_function k c.args.expr.now _ c.in-Function.is)

pub size_expr-returns-in-Interp : goal.size_expr-returns-in-Interp
size_expr-returns-in-Interp t c =
    let k = c.args.bindings.now in
    search (rules, levels.of_interp k c.args.expr.now _ _ c.in-Interp.is)

pub size_expr-returns-in-Member : goal.size_expr-returns-in-Member
size_expr-returns-in-Member t c =
    let k = c.args.bindings.now in
    search (rules, levels.of_member k c.args.expr.now _ _ c.in-Member.is)

pub size_expr-returns-in-Paren : goal.size_expr-returns-in-Paren
size_expr-returns-in-Paren t c =
    let k = c.args.bindings.now in
    search (rules, levels.of_paren k c.args.expr.now _ c.in-Paren.is)

pub size_expr-returns-in-Table : goal.size_expr-returns-in-Table
size_expr-returns-in-Table t c =
    let k = c.args.bindings.now in
    search (rules, levels.of_table k c.args.expr.now _ c.in-Table.is)

pub size_expr-returns-in-Unary : goal.size_expr-returns-in-Unary
size_expr-returns-in-Unary t c =
    let k = c.args.bindings.now in
    search (rules, levels.of_unary k c.args.expr.now _ _ c.in-Unary.is)

pub size_expr-returns-in_ok-size_expr-in-Binary : goal.size_expr-returns-in_ok-size_expr-in-Binary
size_expr-returns-in_ok-size_expr-in-Binary t c =
    let k = c.args.bindings.now in
    search (levels.two, rules, levels.of_binary k c.args.expr.now _ _ _ c.in-Binary.is)

pub size_expr-returns-in_ok-size_expr-in-Call : goal.size_expr-returns-in_ok-size_expr-in-Call
size_expr-returns-in_ok-size_expr-in-Call t c =
    let k = c.args.bindings.now in
    search (levels.two, rules, levels.of_call k c.args.expr.now _ _ c.in-Call.is)

pub size_expr-returns-in_ok-size_expr-in-Index : goal.size_expr-returns-in_ok-size_expr-in-Index
size_expr-returns-in_ok-size_expr-in-Index t c =
    let k = c.args.bindings.now in
    search (levels.two, rules, levels.of_index k c.args.expr.now _ _ c.in-Index.is)

pub size_expr-returns-in_ok-size_expr-in-Method : goal.size_expr-returns-in_ok-size_expr-in-Method
size_expr-returns-in_ok-size_expr-in-Method t c =
    let k = c.args.bindings.now in
    search (levels.two, rules, levels.of_method k c.args.expr.now _ _ _ c.in-Method.is)

pub size_expr-returns-in_ok-size_expr_arms-in-If : goal.size_expr-returns-in_ok-size_expr_arms-in-If
size_expr-returns-in_ok-size_expr_arms-in-If t c =
    let k = c.args.bindings.now in
    search (levels.two, rules, levels.of_if k c.args.expr.now _ _ c.in-If.is)

pub size_field-returns-in-Item : goal.size_field-returns-in-Item
size_field-returns-in-Item t c =
    let k = c.args.bindings.now in
    search (rules, levels.of_item k c.args.field.now _ c.in-Item.is)

pub size_field-returns-in-Named : goal.size_field-returns-in-Named
size_field-returns-in-Named t c =
    let k = c.args.bindings.now in
    search (rules, levels.of_named k c.args.field.now _ _ c.in-Named.is)

pub size_field-returns-in_ok-size_expr-in-Keyed : goal.size_field-returns-in_ok-size_expr-in-Keyed
size_field-returns-in_ok-size_expr-in-Keyed t c =
    let k = c.args.bindings.now in
    search (levels.two, rules, levels.of_keyed k c.args.field.now _ _ c.in-Keyed.is)

pub size_func-returns : goal.size_func-returns
size_func-returns t c =
    let k = c.args.bindings.now in
    search (levels.two, rules, levels.of_all k c.args.func.now)

pub size_stat-returns-in-Call : goal.size_stat-returns-in-Call
size_stat-returns-in-Call t c =
    let k = c.args.bindings.now in
    search (rules, levels.of_call_statement k c.args.stat.now _ c.in-Call.is)

pub size_stat-returns-in-Do : goal.size_stat-returns-in-Do
size_stat-returns-in-Do t c =
    let k = c.args.bindings.now in
    search (rules, levels.of_do k c.args.stat.now _ c.in-Do.is)

pub size_stat-returns-in-Local : goal.size_stat-returns-in-Local
size_stat-returns-in-Local t c =
    let k = c.args.bindings.now in
    search (rules, levels.of_local k c.args.stat.now _ _ c.in-Local.is)

pub size_stat-returns-in-LocalFunction : goal.size_stat-returns-in-LocalFunction
size_stat-returns-in-LocalFunction t c =
    let k = c.args.bindings.now in
    search (rules, levels.of_local_function k c.args.stat.now _ _ c.in-LocalFunction.is)

pub size_stat-returns-in-None : goal.size_stat-returns-in-None
size_stat-returns-in-None t c =
    let k = c.args.bindings.now in
    search (rules, levels.of_if_none k c.args.stat.now _ _ c.in-If.is c.in-None.is)

pub size_stat-returns-in-Return : goal.size_stat-returns-in-Return
size_stat-returns-in-Return t c =
    let k = c.args.bindings.now in
    search (rules, levels.of_return k c.args.stat.now _ c.in-Return.is)

pub size_stat-returns-in-Some : goal.size_stat-returns-in-Some
size_stat-returns-in-Some t c =
    let k = c.args.bindings.now in
    search (levels.two, rules, levels.of_if_some k c.args.stat.now _ _ _ c.in-If.is c.in-Some.is)

pub size_stat-returns-in_ok-size_block-in-Repeat : goal.size_stat-returns-in_ok-size_block-in-Repeat
size_stat-returns-in_ok-size_block-in-Repeat t c =
    let k = c.args.bindings.now in
    search (levels.two, rules, levels.of_repeat k c.args.stat.now _ _ c.in-Repeat.is)

pub size_stat-returns-in_ok-size_expr-in-Compound : goal.size_stat-returns-in_ok-size_expr-in-Compound
size_stat-returns-in_ok-size_expr-in-Compound t c =
    let k = c.args.bindings.now in
    search (levels.two, rules, levels.of_compound k c.args.stat.now _ _ _ c.in-Compound.is)

pub size_stat-returns-in_ok-size_expr-in-While : goal.size_stat-returns-in_ok-size_expr-in-While
size_stat-returns-in_ok-size_expr-in-While t c =
    let k = c.args.bindings.now in
    search (levels.two, rules, levels.of_while k c.args.stat.now _ _ c.in-While.is)

pub size_stat-returns-in_ok-size_list-in-Assign : goal.size_stat-returns-in_ok-size_list-in-Assign
size_stat-returns-in_ok-size_list-in-Assign t c =
    let k = c.args.bindings.now in
    search (levels.two, rules, levels.of_assign k c.args.stat.now _ _ c.in-Assign.is)

pub size_stat-returns-in_ok-size_list-in-GenFor : goal.size_stat-returns-in_ok-size_list-in-GenFor
size_stat-returns-in_ok-size_list-in-GenFor t c =
    let k = c.args.bindings.now in
    search (levels.two, rules, levels.of_gen_for k c.args.stat.now _ _ _ c.in-GenFor.is)

pub size_stat-returns-in_ok-size_step-in-NumFor : goal.size_stat-returns-in_ok-size_step-in-NumFor
size_stat-returns-in_ok-size_step-in-NumFor t c =
    let k = c.args.bindings.now in
    let arm = c.in-NumFor in
    let start : c.size_expr-in-NumFor.new.faults ≡ c.args.faults.now ++ spec.sizes_in_expr k arm.start = search rules in
    let limit : c.size_expr-in-NumFor-2.new.faults ≡ c.size_expr-in-NumFor.new.faults ++ spec.sizes_in_expr k arm.limit = search rules in
    let step : c.size_step.new.faults ≡ c.size_expr-in-NumFor-2.new.faults ++ spec.sizes_in_step k arm.step = search rules in
    let body : OnOk c.size_block-in-NumFor.result (c.size_block-in-NumFor.new.faults ≡ c.size_step.new.faults ++ spec.sizes_in_block k arm.body) = search rules in
    levels.four _ _ _ _ _ _ _ _ _ _ _ (levels.of_num_for k c.args.stat.now _ _ _ _ _ arm.is) start limit step body

pub size_arm-returns : goal.size_arm-returns
size_arm-returns t c =
    let k = c.args.bindings.now in
    search (levels.two, rules, levels.of_arm k c.args.arm.now)

pub size_expr_arm-returns : goal.size_expr_arm-returns
size_expr_arm-returns t c =
    let k = c.args.bindings.now in
    search (levels.two, rules, levels.of_expr_arm k c.args.arm.now)

pub size_expr-returns-in-Nil : goal.size_expr-returns-in-Nil
size_expr-returns-in-Nil t c =
    let k = c.args.bindings.now in
    search (rules, levels.of_nil k c.args.expr.now c.in-Nil.is)

pub size_expr-returns-in-True : goal.size_expr-returns-in-True
size_expr-returns-in-True t c =
    let k = c.args.bindings.now in
    search (rules, levels.of_true k c.args.expr.now c.in-True.is)

pub size_expr-returns-in-False : goal.size_expr-returns-in-False
size_expr-returns-in-False t c =
    let k = c.args.bindings.now in
    search (rules, levels.of_false k c.args.expr.now c.in-False.is)

pub size_expr-returns-in-Num : goal.size_expr-returns-in-Num
size_expr-returns-in-Num t c =
    let k = c.args.bindings.now in
    search (rules, levels.of_num k c.args.expr.now _ c.in-Num.is)

pub size_expr-returns-in-Str : goal.size_expr-returns-in-Str
size_expr-returns-in-Str t c =
    let k = c.args.bindings.now in
    search (rules, levels.of_str k c.args.expr.now _ c.in-Str.is)

pub size_expr-returns-in-Vararg : goal.size_expr-returns-in-Vararg
size_expr-returns-in-Vararg t c =
    let k = c.args.bindings.now in
    search (rules, levels.of_vararg k c.args.expr.now c.in-Vararg.is)

pub size_expr-returns-in-Name : goal.size_expr-returns-in-Name
size_expr-returns-in-Name t c =
    let k = c.args.bindings.now in
    search (rules, levels.of_name k c.args.expr.now _ c.in-Name.is)

pub size_stat-returns-in-Break : goal.size_stat-returns-in-Break
size_stat-returns-in-Break t c =
    let k = c.args.bindings.now in
    search (rules, levels.of_break k c.args.stat.now c.in-Break.is)

pub size_stat-returns-in-Continue : goal.size_stat-returns-in-Continue
size_stat-returns-in-Continue t c =
    let k = c.args.bindings.now in
    search (rules, levels.of_continue k c.args.stat.now c.in-Continue.is)
