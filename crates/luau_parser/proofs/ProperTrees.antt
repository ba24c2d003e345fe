-- Each tree that derives is proper.
use Rattle.std.proofs.Common.{◌≡◌, ℕ, suc, ◌+◌, Bool, IsTrue, List, [], ◌∷◌, ◌++◌, length, map, Option, Some, None, refl, sym, ap, subst, ◌∙◌}
use Rattle.byte_text.specs.declared.StrId.{StrId}
use Rattle.syntax_tree.specs.declared.token.Token.{Token}
use Rattle.syntax_tree.specs.declared.tree.Arm.{Arm}
use Rattle.syntax_tree.specs.declared.tree.Expr.{Expr}
use Rattle.syntax_tree.specs.declared.tree.ExprArm.{ExprArm}
use Rattle.syntax_tree.specs.declared.tree.ExprKind as expr
use Rattle.syntax_tree.specs.declared.tree.ExprKind.TheOpen as level
use Rattle.syntax_tree.specs.declared.tree.ExprKind.TheViews as views
use Rattle.syntax_tree.specs.declared.tree.Field.{Field}
use Rattle.syntax_tree.specs.declared.tree.FieldKind as field
use Rattle.syntax_tree.specs.declared.tree.Stat.{Stat}
use Rattle.syntax_tree.specs.declared.tree.StatKind as stat
use Rattle.syntax_tree.specs.Derivations.{IsChunk, TreesAreProper, main_function}
use Rattle.syntax_tree.specs.Nodes.{expr_at, call_at, field_at, stat_at, function_at}
use Rattle.syntax_tree.specs.Numbers.{numbered}
use Rattle.syntax_tree.specs.Operators.{OperatorLevel}
use Rattle.syntax_tree.specs.Places.{kind_at}
use Rattle.syntax_tree.specs.Proper.{all, all_targets, has_one, steps, form_expr, proper_stat, proper_arm, proper_expr_arm, proper_field, IsProper}
use Rattle.syntax_tree.specs.Grammar.{PrefixEnd, in_target, in_call, in_paren, IsExpr, IsList, IsLevel, IsOperations, IsOperand, IsConcat, IsRun, IsUnary, IsPow, IsCast, IsSimple, IsPieces, IsChoices, IsPrefix, IsSuffixes, IsArgs, IsTable, IsFields, IsField, IsBody, IsBlock, IsLast, IsStat, IsTargets, IsStep, IsArms, expression, last_expr, more_exprs, level, no_operation, operation, or_operand, and_operand, comparison_operand, sum_operand, product_operand, no_concat, concat, last_of_run, more_of_run, no_unary, unary, no_pow, pow, no_cast, cast, literal, interp, function, constructor, prefix, choice, last_piece, more_pieces, last_choice, more_choices, name, paren, no_suffix, member, index, call, method, no_args, args, table_arg, text_arg, table, no_field, last_field, more_fields, keyed, named, item, body, no_stat, typing_stat, more_stats, last_stat, bare_return, return, break, continue, assign, compound, call_stat, do_stat, while_stat, repeat_stat, if_stat, num_for, gen_for, function_stat, local_function, bare_local, local, last_target, more_targets, no_step, step, last_arm, else_arm, more_arms}
use Rattle.luau_parser.proofs.NumberedFolds.{numbered_gives}
use Rattle.luau_parser.proofs.NumberedLevels.{IgnoresNumbers}
use Rattle.luau_parser.proofs.ProperNodes.{form_has, field_is, stat_is, arm_is, expr_arm_is, function_is, main_is, proper, Proper, AllProper, ProperBlock, ProperStep, ProperOther, EndsAs, both, between, level_between, computing, compound_computes, ProperKind, proper_literal, name_has, member_has, binds_one, function_name_ends, binary_proper, function_proper, table_proper, one_more}

-- ---- each part of the grammar

mutual
  expr_proper : {ts : List Token} {n i j : ℕ} {e : Expr} → IsExpr ts n i e j → Proper e
  expr_proper (expression i j e a) = level_proper a

  list_proper : {ts : List Token} {n i j : ℕ} {es : List Expr} → IsList ts n i es j → AllProper es × IsTrue (has_one (map form_expr es))
  list_proper (last_expr i j e a h) = (both (expr_proper a) refl, refl)
  list_proper (more_exprs i j k e es a h r) = (both (expr_proper a) (list_proper r).0, refl)

  level_proper : {ts : List Token} {n i j : ℕ} {l : OperatorLevel} {e : Expr} → IsLevel ts n l i e j → Proper e
  level_proper (level l i j k a e x o) = operations_proper o (operand_proper x)

  operations_proper : {ts : List Token} {n b i j : ℕ} {l : OperatorLevel} {a e : Expr} → IsOperations ts n l b i a e j → Proper a → Proper e
  operations_proper (no_operation l b i a h) p = p
  operations_proper {ts = ts} (operation l b i j k op a c e h x o) p =
      operations_proper o (binary_proper ts b op a c (subst (λ t. IsTrue (between t)) h (level_between l (kind_at ts i))) p (operand_proper x))

  operand_proper : {ts : List Token} {n i j : ℕ} {l : OperatorLevel} {e : Expr} → IsOperand ts n l i e j → Proper e
  operand_proper (or_operand i j e a) = level_proper a
  operand_proper (and_operand i j e a) = level_proper a
  operand_proper (comparison_operand i j e a) = concat_proper a
  operand_proper (sum_operand i j e a) = level_proper a
  operand_proper (product_operand i j e a) = unary_proper a

  concat_proper : {ts : List Token} {n i j : ℕ} {e : Expr} → IsConcat ts n i e j → Proper e
  concat_proper (no_concat i j e a h) = level_proper a
  concat_proper {ts = ts} (concat i j k e es a h r) =
      let more = run_proper r in
      form_has proper (expr_at ts i (expr.Concat (e ∷ es))) (level.Concat (e ∷ es)) (views.rolls-Concat (e ∷ es))
      (both more.1 (both (level_proper a) more.0))

  run_proper : {ts : List Token} {n i j : ℕ} {es : List Expr} → IsRun ts n i es j → AllProper es × IsTrue (has_one (map form_expr es))
  run_proper (last_of_run i j e a h) = (both (level_proper a) refl, refl)
  run_proper (more_of_run i j k e es a h r) = (both (level_proper a) (run_proper r).0, refl)

  unary_proper : {ts : List Token} {n i j : ℕ} {e : Expr} → IsUnary ts n i e j → Proper e
  unary_proper (no_unary i j e h a) = pow_proper a
  unary_proper {ts = ts} (unary i j op e h a) =
      form_has proper (expr_at ts i (expr.Unary op e)) (level.Unary op e) (views.rolls-Unary op e) (unary_proper a)

  pow_proper : {ts : List Token} {n i j : ℕ} {e : Expr} → IsPow ts n i e j → Proper e
  pow_proper (no_pow i j e a h) = cast_proper a
  pow_proper {ts = ts} (pow i j k a c x h y) = binary_proper ts i _ a c refl (cast_proper x) (unary_proper y)

  cast_proper : {ts : List Token} {n i j : ℕ} {e : Expr} → IsCast ts n i e j → Proper e
  cast_proper (no_cast i j e a h) = simple_proper a
  cast_proper {ts = ts} (cast i j k e a h t) = form_has proper (expr_at ts i (expr.Paren e)) (level.Paren e) (views.rolls-Paren e) (simple_proper a)

  simple_proper : {ts : List Token} {n i j : ℕ} {e : Expr} → IsSimple ts n i e j → Proper e
  simple_proper {ts = ts} (literal i k h) = subst (λ o. ProperKind ts i o) h (proper_literal ts i (kind_at ts i))
  simple_proper {ts = ts} (interp i j x xs es h r) =
      let more = pieces_proper r in
      form_has proper (expr_at ts i (expr.Interp (x ∷ xs) es)) (level.Interp (x ∷ xs) es) (views.rolls-Interp (x ∷ xs) es)
      (both (one_more (length xs) (length (map form_expr es)) more.1) more.0)
  simple_proper {ts = ts} (function i j xs v b h f) = function_proper ts i i xs v b (body_proper f)
  simple_proper {ts = ts} (constructor i j fs t) = table_proper ts i fs (fields_of_table t)
  simple_proper (prefix i j e d p) = (prefix_ends p).0
  simple_proper {ts = ts} (choice i j arms other h c) =
      let more = choices_proper c in
      form_has proper (expr_at ts i (expr.If arms other)) (level.ExprKind::If arms other) (views.rolls-ExprKind::If arms other)
      (both (both more.1 more.0.0) more.0.1)

  pieces_proper : {ts : List Token} {n i j : ℕ} {xs : List StrId} {es : List Expr} → IsPieces ts n i xs es j →
      AllProper es × (length xs ≡ length (map form_expr es))
  pieces_proper (last_piece i j x e a h) = (both (expr_proper a) refl, refl)
  pieces_proper (more_pieces i j k x xs e es a h r) = (both (expr_proper a) (pieces_proper r).0, ap suc (pieces_proper r).1)

  choices_proper : {ts : List Token} {n i j : ℕ} {arms : List ExprArm} {other : Expr} → IsChoices ts n i arms other j →
      (IsTrue (all (map proper_expr_arm arms)) × Proper other) × IsTrue (has_one (map proper_expr_arm arms))
  choices_proper (last_choice i j k l c v o a h b g r) = ((both (expr_arm_is c v ∙ both (expr_proper a) (expr_proper b)) refl, expr_proper r), refl)
  choices_proper (more_choices i j k l c v o arms a h b g r) =
      let more = choices_proper r in
      ((both (expr_arm_is c v ∙ both (expr_proper a) (expr_proper b)) more.0.0, more.0.1), refl)

  prefix_ends : {ts : List Token} {n i j : ℕ} {e : Expr} {d : PrefixEnd} → IsPrefix ts n i e d j → EndsAs d (form_expr e)
  prefix_ends {ts = ts} (name i j x e d h s) = suffixes_end s (name_has ts i x)
  prefix_ends {ts = ts} (paren i j k a e d h x c s) =
      suffixes_end s (form_has (EndsAs in_paren) (expr_at ts i (expr.Paren a)) (level.Paren a) (views.rolls-Paren a) (expr_proper x, refl))

  suffixes_end : {ts : List Token} {n b i j : ℕ} {a e : Expr} {c d : PrefixEnd} → IsSuffixes ts n b i a c e d j → EndsAs c (form_expr a) →
      EndsAs d (form_expr e)
  suffixes_end (no_suffix b i a c h) p = p
  suffixes_end {ts = ts} (member b i j x a e c d h g s) p = suffixes_end s (member_has ts b a x p.0)
  suffixes_end {ts = ts} (index b i j k a key e c d h x g s) p =
      suffixes_end s
      (form_has (EndsAs in_target) (expr_at ts b (expr.Index a key)) (level.Index a key) (views.rolls-Index a key)
      (both p.0 (expr_proper x), refl))
  suffixes_end {ts = ts} (call b i j k es a e c d x s) p =
      suffixes_end s
      (form_has (EndsAs in_call) (call_at ts b i (expr.Call a es)) (level.ExprKind::Call a es) (views.rolls-ExprKind::Call a es)
      (both p.0 (args_proper x), refl))
  suffixes_end {ts = ts} (method b i j k x es a e c d h g y s) p =
      suffixes_end s
      (form_has (EndsAs in_call) (call_at ts b (i + 2) (expr.Method a x es)) (level.Method a x es) (views.rolls-Method a x es)
      (both p.0 (args_proper y), refl))

  args_proper : {ts : List Token} {n i j : ℕ} {es : List Expr} → IsArgs ts n i es j → AllProper es
  args_proper (no_args i h g) = refl
  args_proper (args i j es h g x c) = (list_proper x).0
  args_proper {ts = ts} (table_arg i j fs t) = both (table_proper ts i fs (fields_of_table t)) refl
  args_proper {ts = ts} (text_arg i x h) = both (form_has proper (expr_at ts i (expr.Str x)) (level.Str x) (views.rolls-Str x) refl) refl

  fields_of_table : {ts : List Token} {n i j : ℕ} {fs : List Field} → IsTable ts n i fs j → IsTrue (all (map proper_field fs))
  fields_of_table (table i j fs h f c) = fields_proper f

  fields_proper : {ts : List Token} {n i j : ℕ} {fs : List Field} → IsFields ts n i fs j → IsTrue (all (map proper_field fs))
  fields_proper (no_field i h) = refl
  fields_proper (last_field i j f h x g) = both (field_proper x) refl
  fields_proper (more_fields i j k f fs h x g r) = both (field_proper x) (fields_proper r)

  field_proper : {ts : List Token} {n i j : ℕ} {f : Field} → IsField ts n i f j → IsTrue (proper_field f)
  field_proper {ts = ts} (keyed i j k a c h x g g2 y) =
      field_is (field_at ts i (field.Keyed a c)) (level.Keyed a c) (views.rolls-Keyed a c) (both (expr_proper x) (expr_proper y))
  field_proper {ts = ts} (named i j x e h g a) = field_is (field_at ts i (field.Named x e)) (level.Named x e) (views.rolls-Named x e) (expr_proper a)
  field_proper {ts = ts} (item i j e h g a) = field_is (field_at ts i (field.Item e)) (level.Item e) (views.rolls-Item e) (expr_proper a)

  body_proper : {ts : List Token} {n i j : ℕ} {xs : List StrId} {v : Bool} {b : List Stat} → IsBody ts n i xs v b j → ProperBlock b
  body_proper (body i j k l m xs v b g h p c t x e) = block_proper x

  block_proper : {ts : List Token} {n i j : ℕ} {b : List Stat} → IsBlock ts n i b j → ProperBlock b
  block_proper (no_stat i h) = refl
  block_proper (typing_stat i j k l b h t o r) = block_proper r
  block_proper (more_stats i j k l s b h g x o r) = both (stat_proper x) (block_proper r)
  block_proper (last_stat i j k s x o h) = both (last_proper x) refl

  last_proper : {ts : List Token} {n i j : ℕ} {s : Stat} → IsLast ts n i s j → IsTrue (proper_stat s)
  last_proper {ts = ts} (bare_return i h e) = stat_is (stat_at ts i (stat.Return [])) (level.Return []) (views.rolls-Return []) refl
  last_proper {ts = ts} (return i j es h e l) = stat_is (stat_at ts i (stat.Return es)) (level.Return es) (views.rolls-Return es) (list_proper l).0
  last_proper {ts = ts} (break i h) = stat_is (stat_at ts i stat.Break) level.Break views.rolls-Break refl
  last_proper {ts = ts} (continue i h) = stat_is (stat_at ts i stat.Continue) level.Continue views.rolls-Continue refl

  stat_proper : {ts : List Token} {n i j : ℕ} {s : Stat} → IsStat ts n i s j → IsTrue (proper_stat s)
  stat_proper {ts = ts} (assign i j k es vs x h y) =
      let targets = targets_end x in
      let values = list_proper y in
      stat_is (stat_at ts i (stat.Assign es vs)) (level.Assign es vs) (views.rolls-Assign es vs)
      (both (both (both (both targets.2 targets.1) targets.0) values.1) values.0)
  stat_proper {ts = ts} (compound i j k op e v x h y) =
      let target = prefix_ends x in
      stat_is (stat_at ts i (stat.Compound op e v)) (level.Compound op e v) (views.rolls-Compound op e v)
      (both (both (both (subst (λ t. IsTrue (computing t)) h (compound_computes (kind_at ts j))) target.1) target.0) (expr_proper y))
  stat_proper {ts = ts} (call_stat i j e x) =
      let calls = prefix_ends x in
      stat_is (stat_at ts i (stat.Call e)) (level.StatKind::Call e) (views.rolls-StatKind::Call e) (both calls.1 calls.0)
  stat_proper {ts = ts} (do_stat i j b h x e) = stat_is (stat_at ts i (stat.Do b)) (level.Do b) (views.rolls-Do b) (block_proper x)
  stat_proper {ts = ts} (while_stat i j k c b h x g y e) =
      stat_is (stat_at ts i (stat.While c b)) (level.While c b) (views.rolls-While c b) (both (expr_proper x) (block_proper y))
  stat_proper {ts = ts} (repeat_stat i j k b c h x g y) =
      stat_is (stat_at ts i (stat.Repeat b c)) (level.Repeat b c) (views.rolls-Repeat b c) (both (block_proper x) (expr_proper y))
  stat_proper {ts = ts} (if_stat i j arms None h x) =
      let parts = arms_proper x in
      stat_is (stat_at ts i (stat.If arms None)) (level.StatKind::If arms None) (views.rolls-StatKind::If arms None)
      (both (both parts.2 parts.0) parts.1)
  stat_proper {ts = ts} (if_stat i j arms (Some o) h x) =
      let parts = arms_proper x in
      stat_is (stat_at ts i (stat.If arms (Some o))) (level.StatKind::If arms (Some o)) (views.rolls-StatKind::If arms (Some o))
      (both (both parts.2 parts.0) parts.1)
  stat_proper {ts = ts} (num_for i j k l m p x start limit None b h y g z g2 w u g3 v e) =
      stat_is (stat_at ts i (stat.NumFor x start limit None b)) (level.NumFor x start limit None b) (views.rolls-NumFor x start limit None b)
      (both (both (both (expr_proper z) (expr_proper w)) (step_proper u)) (block_proper v))
  stat_proper {ts = ts} (num_for i j k l m p x start limit (Some s) b h y g z g2 w u g3 v e) =
      stat_is (stat_at ts i (stat.NumFor x start limit (Some s) b)) (level.NumFor x start limit (Some s) b) (views.rolls-NumFor x start limit (Some s) b)
      (both (both (both (expr_proper z) (expr_proper w)) (step_proper u)) (block_proper v))
  stat_proper {ts = ts} (gen_for i j k l xs es b h y g x g2 z e) =
      let values = list_proper x in
      stat_is (stat_at ts i (stat.GenFor xs es b)) (level.GenFor xs es b) (views.rolls-GenFor xs es b)
      (both (both (both (binds_one y) values.1) values.0) (block_proper z))
  stat_proper {ts = ts} (function_stat i j k e added xs v b h x y) =
      let target = function_name_ends x in
      let f = expr_at ts i (expr.Function (function_at ts i (added ++ xs) v b)) in
      stat_is (stat_at ts i (stat.Assign (e ∷ []) (f ∷ []))) (level.Assign (e ∷ []) (f ∷ [])) (views.rolls-Assign (e ∷ []) (f ∷ []))
      (both (both (both (both refl (both target.1 refl)) (both target.0 refl)) refl) (both (function_proper ts i i (added ++ xs) v b (body_proper y)) refl))
  stat_proper {ts = ts} (local_function i j x xs v b h g n y) =
      let f = function_at ts (i + 1) xs v b in
      stat_is (stat_at ts i (stat.LocalFunction x f)) (level.LocalFunction x f) (views.rolls-LocalFunction x f)
      (function_is ts (i + 1) xs v b ∙ body_proper y)
  stat_proper {ts = ts} (bare_local i j xs h y g) =
      stat_is (stat_at ts i (stat.Local xs [])) (level.Local xs []) (views.rolls-Local xs []) (both (binds_one y) refl)
  stat_proper {ts = ts} (local i j k xs es h y g x) =
      stat_is (stat_at ts i (stat.Local xs es)) (level.Local xs es) (views.rolls-Local xs es) (both (binds_one y) (list_proper x).0)

  targets_end : {ts : List Token} {n i j : ℕ} {es : List Expr} → IsTargets ts n i es j →
      AllProper es × IsTrue (all_targets (map form_expr es)) × IsTrue (has_one (map form_expr es))
  targets_end (last_target i j e x h) = let p = prefix_ends x in (both p.0 refl, both p.1 refl, refl)
  targets_end (more_targets i j k e es x h r) =
      let p = prefix_ends x in
      let more = targets_end r in
      (both p.0 more.0, both p.1 more.1, refl)

  step_proper : {ts : List Token} {n i j : ℕ} {s : Option Expr} → IsStep ts n i s j → ProperStep s
  step_proper (no_step i h) = refl
  step_proper (step i j e h x) = expr_proper x

  arms_proper : {ts : List Token} {n i j : ℕ} {arms : List Arm} {other : Option (List Stat)} → IsArms ts n i arms other j →
      IsTrue (all (map proper_arm arms)) × ProperOther other × IsTrue (has_one (map proper_arm arms))
  arms_proper (last_arm i j k c b x h y e) = (both (arm_is c b ∙ both (expr_proper x) (block_proper y)) refl, refl, refl)
  arms_proper (else_arm i j k l c b o x h y g z e) = (both (arm_is c b ∙ both (expr_proper x) (block_proper y)) refl, block_proper z, refl)
  arms_proper (more_arms i j k l c b arms other x h y g r) =
      let more = arms_proper r in
      (both (arm_is c b ∙ both (expr_proper x) (block_proper y)) more.0, more.1, refl)

-- ---- numbered trees

proper_ignores : IgnoresNumbers steps
proper_ignores = record { expr = λ e n. refl; func = λ f n. refl; stat = λ t n. refl }

pub chunk_proper : {ts : List Token} {n : ℕ} {block : List Stat} → IsChunk ts n block → IsProper (numbered (main_function block))
chunk_proper {block = block} c = numbered_gives steps proper_ignores (main_function block) 0 ∙ main_is block ∙ block_proper c.derived

pub trees_are_proper : TreesAreProper
trees_are_proper ts tree d = subst IsProper (sym d.numbers) (chunk_proper d.derived)
