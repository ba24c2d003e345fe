-- Whatever the grammar derives, turns read: each constructor by the turns of its parts.
use Rattle.std.proofs.Common.{◌+◌, ℕ, Bool, List, Option, IsTrue, IsFalse}
use Rattle.byte_text.specs.declared.StrId.{StrId}
use Rattle.syntax_tree.specs.declared.token.Token.{Token}
use Rattle.syntax_tree.specs.declared.token.TokenKind.TheVariants as token
use Rattle.syntax_tree.specs.declared.tree.Arm.{Arm}
use Rattle.syntax_tree.specs.declared.tree.Expr.{Expr}
use Rattle.syntax_tree.specs.declared.tree.ExprArm.{ExprArm}
use Rattle.syntax_tree.specs.declared.tree.Field.{Field}
use Rattle.syntax_tree.specs.declared.tree.Stat.{Stat}
use Rattle.syntax_tree.specs.Grammar.{PrefixEnd, IsExpr, IsList, IsLevel, IsOperations, IsOperand, IsConcat, IsRun, IsUnary, IsPow, IsCast, IsSimple, IsPieces, IsChoices, IsPrefix, IsSuffixes, IsArgs, IsTable, IsFields, IsField, IsBody, IsBlock, IsLast, IsStat, IsTargets, IsStep, IsArms, expression, last_expr, more_exprs, level, no_operation, operation, or_operand, and_operand, comparison_operand, sum_operand, product_operand, no_concat, concat, last_of_run, more_of_run, no_unary, unary, no_pow, pow, no_cast, cast, literal, interp, function, constructor, prefix, choice, last_piece, more_pieces, last_choice, more_choices, name, paren, no_suffix, member, index, call, method, no_args, args, table_arg, text_arg, table, no_field, last_field, more_fields, keyed, named, item, body, no_stat, typing_stat, more_stats, last_stat, bare_return, return, break, continue, assign, compound, call_stat, do_stat, while_stat, repeat_stat, if_stat, num_for, gen_for, function_stat, local_function, bare_local, local, last_target, more_targets, no_step, step, last_arm, else_arm, more_arms}
use Rattle.syntax_tree.specs.Operators.{OperatorLevel}
use Rattle.syntax_tree.specs.Places.{kind_at, Has, Lacks, Optional}
use Rattle.syntax_tree.specs.Words.{ends_block, opens_type, is_continue}
use Rattle.parse_steps.specs.declared.levels.Level.TheVariants as levels
use Rattle.parse_steps.specs.declared.levels.Rank.TheVariants as rank
use Rattle.parse_steps.specs.Items.{PrefixUse, in_expression, first_target}
use Rattle.parse_steps.specs.Levels.{next}
use Rattle.parse_steps.proofs.ForwardAssignments.{StatAdds, Enters, TargetsEnter, last_target_step, more_targets_step, assign_step, compound_step, call_stat_step}
use Rattle.parse_steps.proofs.ForwardCourse.{Course}
use Rattle.parse_steps.proofs.ForwardOperators.{rank_for, Climbs, LevelBegins, OperationsGo, RunAdds, PowBegins, CastBegins, UnaryBegins, level_step, no_operation_step, operation_step, no_concat_step, concat_step, last_of_run_step, more_of_run_step, no_unary_step, unary_step, no_pow_step, pow_step, no_cast_step, cast_step}
use Rattle.parse_steps.proofs.ForwardPrefixes.{ArgsAdd, TableAdds, SuffixesGo, SimpleBegins, BodyAdds, part_fits, args_open, table_opens, no_args_step, args_step, table_arg_step, text_arg_step, member_step, index_step, call_step, method_step, name_step, paren_step, prefix_step, literal_step, interp_step, function_step, constructor_step, choice_step}
use Rattle.parse_steps.proofs.ForwardEdges.{prefix_stops, call_behind, compound_behind, targets_behind, list_start, operations_nest, suffixes_nest}
use Rattle.parse_steps.proofs.ForwardStatements.{BlockAdds, LastAdds, ArmsAdd, StepAdds, body_step, no_stat_step, typing_stat_step, more_stats_step, last_stat_step, bare_return_step, return_step, break_step, continue_step, do_step, while_step, repeat_step, if_step, num_for_step, gen_for_step, function_stat_step, local_function_step, bare_local_step, local_step, last_arm_step, else_arm_step, more_arms_step, no_step_step, a_step_step}
use Rattle.parse_steps.proofs.ForwardTables.{ExprAdds, ListAdds, PiecesAdd, ChoicesAdd, FieldsAdd, FieldAdds, expr_adds, last_expr_step, more_exprs_step, last_piece_step, more_pieces_step, last_choice_step, more_choices_step, no_field_step, last_field_step, more_fields_step, keyed_step, named_step, item_step}

module _ {ts : List Token} {n b p : ℕ} (C : Course ts n b p) where
  mutual
    expr_climbs : {i j : ℕ} {e : Expr} → IsExpr ts n i e j → Climbs C (levels.Of rank.Ors) i e j
    expr_climbs (expression i j e a) = level_begins a

    expr_goes : {i j : ℕ} {e : Expr} → IsExpr ts n i e j → ExprAdds C i e j
    expr_goes (expression i j e a) = expr_adds C i e j (level_begins a)

    list_goes : {i j : ℕ} {es : List Expr} → IsList ts n i es j → ListAdds C i es j
    list_goes (last_expr i j e a h) = last_expr_step C i j e h (expr_goes a)
    list_goes (more_exprs i j m e es a h l) = more_exprs_step C i j m e es h (expr_goes a) (list_goes l)

    level_begins : {l : OperatorLevel} {i j : ℕ} {e : Expr} → IsLevel ts n l i e j → LevelBegins C l i e j
    level_begins (level l i j m a e o s) = level_step C l i j m a e (operations_nest s) (operand_climbs o) (operations_go s)

    operations_go : {l : OperatorLevel} {q i j : ℕ} {a e : Expr} → IsOperations ts n l q i a e j → OperationsGo C l i a e j
    operations_go (no_operation l q i a h) = no_operation_step C l i a h
    operations_go (operation l q i j m op a c e h o s) = λ k fits w. operation_step C l q i j op a c e k h (operations_nest s) fits
        (operand_climbs o) (operations_go s k fits w)

    operand_climbs : {l : OperatorLevel} {i j : ℕ} {e : Expr} → IsOperand ts n l i e j → Climbs C (next (rank_for l)) i e j
    operand_climbs (or_operand i j e a) = level_begins a
    operand_climbs (and_operand i j e a) = level_begins a
    operand_climbs (comparison_operand i j e a) = concat_climbs a
    operand_climbs (sum_operand i j e a) = level_begins a
    operand_climbs (product_operand i j e a) = unary_begins a

    concat_climbs : {i j : ℕ} {e : Expr} → IsConcat ts n i e j → Climbs C levels.Runs i e j
    concat_climbs (no_concat i j e a h) = λ k fits w. no_concat_step C i j e k h fits (level_begins a) w
    concat_climbs (concat i j m e es a h r) = λ k fits w. concat_step C i j m e es k h fits (level_begins a) (run_goes r) w

    run_goes : {i j : ℕ} {es : List Expr} → IsRun ts n i es j → RunAdds C i es j
    run_goes (last_of_run i j e a h) = last_of_run_step C i j e h (level_begins a)
    run_goes (more_of_run i j m e es a h r) = more_of_run_step C i j m e es h (level_begins a) (run_goes r)

    unary_begins : {i j : ℕ} {e : Expr} → IsUnary ts n i e j → UnaryBegins C i e j
    unary_begins (no_unary i j e h a) = no_unary_step C i j e h (pow_begins a)
    unary_begins (unary i j op e h a) = unary_step C i j op e h (unary_begins a)

    pow_begins : {i j : ℕ} {e : Expr} → IsPow ts n i e j → PowBegins C i e j
    pow_begins (no_pow i j e a h) = no_pow_step C i j e h (cast_begins a)
    pow_begins (pow i j m a c x h u) = pow_step C i j m a c h (cast_begins x) (unary_begins u)

    cast_begins : {i j : ℕ} {e : Expr} → IsCast ts n i e j → CastBegins C i e j
    cast_begins (no_cast i j e a h) = no_cast_step C i j e h (simple_begins a)
    cast_begins (cast i j m e a h t) = cast_step C i j m e h t (simple_begins a)

    simple_begins : {i j : ℕ} {e : Expr} → IsSimple ts n i e j → SimpleBegins C i e j
    simple_begins (literal i kind h) = literal_step C i kind h
    simple_begins (interp i j x xs es h a) = interp_step C i j x xs es h (pieces_go a)
    simple_begins (function i j xs v block h a) = function_step C i j xs v block h (body_goes a)
    simple_begins (constructor i j fs t) = constructor_step C i j fs (table_opens t) (table_goes t)
    simple_begins (prefix i j e d a) = prefix_step C i j e d (prefix_stops a) (prefix_enters a in_expression)
    simple_begins (choice i j arms other h a) = choice_step C i j arms other h (choices_go a)

    pieces_go : {i j : ℕ} {xs : List StrId} {es : List Expr} → IsPieces ts n i xs es j → PiecesAdd C i es j
    pieces_go (last_piece i j x e a h) = last_piece_step C i j x e h (expr_goes a)
    pieces_go (more_pieces i j m x xs e es a h r) = more_pieces_step C i j m x e es h (expr_goes a) (pieces_go r)

    choices_go : {i j : ℕ} {arms : List ExprArm} {other : Expr} → IsChoices ts n i arms other j → ChoicesAdd C i arms other j
    choices_go (last_choice i j m l c v o a h a2 h2 a3) = last_choice_step C i j m l c v o h h2 (expr_goes a) (expr_goes a2)
        (expr_goes a3)
    choices_go (more_choices i j m l c v o arms a h a2 h2 r) = more_choices_step C i j m l c v o arms h h2 (expr_goes a) (expr_goes a2)
        (choices_go r)

    prefix_enters : {i j : ℕ} {e : Expr} {d : PrefixEnd} → IsPrefix ts n i e d j → (u : PrefixUse) → Enters C u i e d j
    prefix_enters (name i j x e d h s) = λ u k fits w. name_step C i x u k h (suffixes_go s u k fits w)
    prefix_enters (paren i j m a e d h x f s) = λ u k fits w. paren_step C i j a u k h f (part_fits C k (suffixes_nest s) fits)
        (expr_goes x) (suffixes_go s u k fits w)

    suffixes_go : {q i j : ℕ} {a e : Expr} {c d : PrefixEnd} → IsSuffixes ts n q i a c e d j → SuffixesGo C i a c e d j
    suffixes_go (no_suffix q i a c h) = λ u k fits w. w
    suffixes_go (member q i j x a e c d h f s) = λ u k fits w. member_step C q i x a c u k h f (part_fits C k (suffixes_nest s) fits)
        (suffixes_go s u k fits w)
    suffixes_go (index q i j m a key e c d h x f s) = λ u k fits w. index_step C q i j a key c u k h f
        (part_fits C k (suffixes_nest s) fits) (expr_goes x) (suffixes_go s u k fits w)
    suffixes_go (call q i j m es a e c d x s) = λ u k fits w. call_step C q i j es a c u k (args_open x)
        (part_fits C k (suffixes_nest s) fits) (args_go x) (suffixes_go s u k fits w)
    suffixes_go (method q i j m x es a e c d h f y s) = λ u k fits w. method_step C q i j x es a c u k h f (args_open y)
        (part_fits C k (suffixes_nest s) fits) (args_go y) (suffixes_go s u k fits w)

    args_go : {i j : ℕ} {es : List Expr} → IsArgs ts n i es j → ArgsAdd C i es j
    args_go (no_args i h c) = no_args_step C i h c
    args_go (args i j es h c l d) = args_step C i j es h c d (list_goes l)
    args_go (table_arg i j fs t) = table_arg_step C i j fs (table_opens t) (table_goes t)
    args_go (text_arg i x h) = text_arg_step C i x h

    table_goes : {i j : ℕ} {fs : List Field} → IsTable ts n i fs j → TableAdds C i fs j
    table_goes (table i j fs h a c) = fields_go a c

    fields_go : {i j : ℕ} {fs : List Field} → IsFields ts n i fs j → Has ts j token.CloseBrace → FieldsAdd C i fs j
    fields_go (no_field i h) = λ c. no_field_step C i h
    fields_go (last_field i j f h a s) = λ c. last_field_step C i j f c (field_goes a h)
    fields_go (more_fields i j m f fs h a s r) = λ c. more_fields_step C i j m f fs s (field_goes a h) (fields_go r c)

    field_goes : {i j : ℕ} {f : Field} → IsField ts n i f j → Lacks ts i token.CloseBrace → FieldAdds C i f j
    field_goes (keyed i j m a c h x f g y) = λ l. keyed_step C i j m a c h f g (expr_goes x) (expr_goes y)
    field_goes (named i j x e h f a) = λ l. named_step C i j x e h f (expr_goes a)
    field_goes (item i j e h f a) = λ l. item_step C i j e l h f (expr_climbs a)

    body_goes : {i j : ℕ} {xs : List StrId} {v : Bool} {block : List Stat} → IsBody ts n i xs v block j → BodyAdds C i block j
    body_goes (body i j l m r xs v block g h ps c t a e) = body_step C i j l m r xs v block g h ps c t e (block_goes a)

    block_goes : {i j : ℕ} {block : List Stat} → IsBlock ts n i block j → BlockAdds C i block j
    block_goes (no_stat i h) = no_stat_step C i h
    block_goes (typing_stat i j m l block h t o r) = typing_stat_step C i j m l block t o (block_goes r)
    block_goes (more_stats i j m l s block f g a o r) = more_stats_step C i j m l s block o (stat_goes a f g) (block_goes r)
    block_goes (last_stat i j m s a o e) = last_stat_step C i m s (last_goes a o e)

    last_goes : {i j : ℕ} {s : Stat} → IsLast ts n i s j → {m : ℕ} → Optional ts token.Semicolon j m → IsTrue (ends_block (kind_at ts m))
        → LastAdds C i s m
    last_goes (bare_return i h f) {m = m} = λ o e. bare_return_step C i m h o e
    last_goes (return i j es h f l) {m = m} = λ o e. return_step C i j m es h f (list_start l) o e (list_goes l)
    last_goes (break i h) {m = m} = λ o e. break_step C i m h o e
    last_goes (continue i h) {m = m} = λ o e. continue_step C i m h o e

    stat_goes : {i j : ℕ} {s : Stat} → IsStat ts n i s j → IsFalse (opens_type ts i) → IsFalse (is_continue ts i) → StatAdds C i s j
    stat_goes (assign i j m es vs t h l) = λ f g. assign_step C i m es vs f g (targets_behind t h) (targets_go t h vs m (list_goes l))
    stat_goes (compound i j m op e v a h x) = λ f g. compound_step C i j m op e v f g (compound_behind op a h) h
        (prefix_enters a first_target) (expr_goes x)
    stat_goes (call_stat i j e a) = λ f g. call_stat_step C i j e f g (call_behind a) (prefix_stops a) (prefix_enters a first_target)
    stat_goes (do_stat i j block h a c) = λ f g. do_step C i j block h c (block_goes a)
    stat_goes (while_stat i j m c block h a d x e) = λ f g. while_step C i j m c block h d e (expr_goes a) (block_goes x)
    stat_goes (repeat_stat i j m block c h a u x) = λ f g. repeat_step C i j m block c h u (block_goes a) (expr_goes x)
    stat_goes (if_stat i j arms other h a) = λ f g. if_step C i j arms other h (arms_go a)
    stat_goes (num_for i j m l q r x start limit s block h a e c1 c l1 s1 d y z) = λ f g. num_for_step C i j m l q r x start limit s
        block h a e c d z (expr_goes c1) (expr_goes l1) (step_goes s1) (block_goes y)
    stat_goes (gen_for i j m l xs es block h a d x e y z) = λ f g. gen_for_step C i j m l xs es block h a d e z (list_goes x)
        (block_goes y)
    stat_goes (function_stat i j m e added xs v block h a x) = λ f g. function_stat_step C i j m e added xs v block h a (body_goes x)
    stat_goes (local_function i j x xs v block h d e a) = λ f g. local_function_step C i j x xs v block h d e (body_goes a)
    stat_goes (bare_local i j xs h a d) = λ f g. bare_local_step C i j xs h a d
    stat_goes (local i j m xs es h a d l) = λ f g. local_step C i j m xs es h a d (list_goes l)

    targets_go : {i j : ℕ} {es : List Expr} → IsTargets ts n i es j → Has ts j token.Equal → (vs : List Expr) (q : ℕ)
        → ListAdds C (j + 1) vs q → TargetsEnter C i es vs q
    targets_go (last_target i j e a h) = λ f vs q values. last_target_step C i j q e vs f (prefix_enters a) values
    targets_go (more_targets i j m e es a h t) = λ f vs q values. more_targets_step C i j q e es vs h (prefix_enters a)
        (targets_go t f vs q values)

    step_goes : {i j : ℕ} {s : Option Expr} → IsStep ts n i s j → StepAdds C i s j
    step_goes (no_step i h) = no_step_step C i h
    step_goes (step i j e h a) = a_step_step C i j e h (expr_goes a)

    arms_go : {i j : ℕ} {arms : List Arm} {other : Option (List Stat)} → IsArms ts n i arms other j → ArmsAdd C i arms other j
    arms_go (last_arm i j m c block a h x e) = last_arm_step C i j m c block h e (expr_goes a) (block_goes x)
    arms_go (else_arm i j m l c block other a h x f y e) = else_arm_step C i j m l c block other h f e (expr_goes a) (block_goes x)
        (block_goes y)
    arms_go (more_arms i j m l c block arms other a h x f r) = more_arms_step C i j m l c block arms other h f (expr_goes a)
        (block_goes x) (arms_go r)

  pub block_is_read : {i j : ℕ} {block : List Stat} → IsBlock ts n i block j → BlockAdds C i block j
  block_is_read a = block_goes a
