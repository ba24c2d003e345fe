-- The code of each function of a script has the shape of well-formed code: by induction over the tree.
use Rattle.std.proofs.Common.{◌≡◌, ℕ, ◌+◌, ◌-◌, ◌≤◌, Bool, true, false, ◌&&◌, IsTrue, List, [], ◌∷◌, ◌++◌, length, map, Some, None, if◌then◌else◌, refl, sym, ap, ◌∙◌, subst, arith, rules}
use Rattle.syntax_tree.specs.declared.bindings.Bindings.{Bindings}
use Rattle.syntax_tree.specs.declared.fault.ScopeRule.{ScopeRule}
use Rattle.syntax_tree.specs.declared.notes.Place.{Place}
use Rattle.syntax_tree.specs.declared.tree.Arm.{Arm, roll-Arm, out-Arm}
use Rattle.syntax_tree.specs.declared.tree.Expr.{Expr}
use Rattle.syntax_tree.specs.declared.tree.ExprArm.{ExprArm}
use Rattle.syntax_tree.specs.declared.tree.ExprKind.{ExprKind, roll-ExprKind, out-ExprKind}
use Rattle.syntax_tree.specs.declared.tree.ExprKind.TheFolds as folds
use Rattle.syntax_tree.specs.declared.tree.ExprKind.TheOpen as level
use Rattle.syntax_tree.specs.declared.tree.ExprKind.TheOpen.{Arm-F, FuncBody-F}
use Rattle.syntax_tree.specs.declared.tree.ExprKind.TheViews as views
use Rattle.syntax_tree.specs.declared.tree.Field.{Field}
use Rattle.syntax_tree.specs.declared.tree.FieldKind.{FieldKind}
use Rattle.syntax_tree.specs.declared.tree.FuncBody.{FuncBody, roll-FuncBody, out-FuncBody}
use Rattle.syntax_tree.specs.declared.tree.Stat.{Stat}
use Rattle.syntax_tree.specs.declared.tree.StatKind.{StatKind, roll-StatKind, out-StatKind}
use Rattle.syntax_tree.specs.Bound.{bound, known}
use Rattle.syntax_tree.specs.Faults.{fault}
use Rattle.syntax_tree.specs.Numbers.{numbered}
use Rattle.syntax_tree.specs.Proper as forms
use Rattle.syntax_tree.specs.Proper.{Form, form_expr, proper_stat, proper_func, proper_arm, proper_expr_arm, all, all_proper, has_one, has_two}
use Rattle.syntax_tree.specs.Rules as scopes
use Rattle.syntax_tree.specs.Rules.{rules_expr, rules_stat, rules_func, rules_arm, rules_expr_arm}
use Rattle.emit_expr.specs.Names as names
use Rattle.emit_expr.specs.Puts.{start}
use Rattle.node_code.specs.Nodes as nodes
use Rattle.node_code.specs.Nodes.{ExprCode, StatCode, ArmCode, ChoiceCode, FuncCode}
use Rattle.node_code.specs.Code as code
use Rattle.node_code.specs.Code.{expr_code, stat_code, arm_code, choice_code, func_code}
use Rattle.emit_laws.specs.Induction as induction
use Rattle.emit_laws.specs.Induction.{With}
use Rattle.emit_laws.proofs.Grows as grows
use Rattle.scope_laws.specs.Sight.{ExprLevel, StatLevel}
use Rattle.scope_laws.proofs.Levels as levels
use Rattle.link_laws.proofs.Walks.{left, right}
use Rattle.shape_laws.specs.Order.{Nothing}
use Rattle.shape_laws.specs.Laws.{CodeShapes}
use Rattle.shape_laws.proofs.Lists.{first_of, second_of}
use Rattle.shape_laws.proofs.Simple as insns
use Rattle.shape_laws.proofs.States.{State, simple, onward, variable}
use Rattle.shape_laws.proofs.Uses as uses
use Rattle.shape_laws.proofs.Uses.{Good, Goods, list_good, each_good, exact_good, assigns_good, declared_good, close_good, text_run_good, loads_nil, loads_bool, joins}
use Rattle.shape_laws.proofs.Operators as parts
use Rattle.shape_laws.proofs.Operators.{GoodChoice, GoodChoices, single_good, many_good}
use Rattle.shape_laws.proofs.Bodies as bodies
use Rattle.shape_laws.proofs.Bodies.{GoodStat, Stats, GoodArm, GoodArms, block_good}
use Rattle.shape_laws.proofs.Functions.{GoodFunc, func_good}

two_or_more : (X : Type 0) (xs : List X) → IsTrue (has_two xs) → 2 ≤ length xs
two_or_more X [] h = cc
two_or_more X (x ∷ []) h = cc
two_or_more X (x ∷ (y ∷ xs)) h = omega arith

module _ (b : Bindings) where
  -- ---- what is shown of a part

  abbrev KindFits : ExprLevel → Type 0
  KindFits l = (id : ℕ) (p : Place) (at : ℕ) → IsTrue (levels.at_expr_level forms.steps l).proper → levels.at_expr_level scopes.steps l at p ≡ [] →
      Good b (levels.at_expr_level (code.steps b) l id)

  abbrev StatFits : StatLevel → Type 0
  StatFits l = (id : ℕ) (p : Place) (at : ℕ) → IsTrue (levels.at_stat_level forms.steps l) → (levels.at_stat_level scopes.steps l at).faults p ≡ [] →
      GoodStat b p.in_loop (levels.at_stat_level (code.steps b) l id)

  abbrev ArmLevel : Type 0
  ArmLevel = Arm-F ExprKind FieldKind StatKind Arm Expr ExprArm Field FuncBody Stat

  abbrev FuncLevel : Type 0
  FuncLevel = FuncBody-F ExprKind FieldKind StatKind Arm Expr ExprArm Field FuncBody Stat

  abbrev ArmFits : ArmLevel → Type 0
  ArmFits l = (p : Place) → IsTrue ((form_expr l.cond).proper && all (map proper_stat l.body)) → rules_expr l.cond p ++ scopes.block
      (map rules_stat l.body) p ≡ [] →
      GoodArm b p.in_loop (record { cond = expr_code b l.cond; body = map (stat_code b) l.body })

  abbrev FuncFits : FuncLevel → Type 0
  FuncFits l = IsTrue (all (map proper_stat l.body)) →
      scopes.block (map rules_stat l.body) (record { in_loop = false; vararg = l.vararg; live = length l.params }) ≡ [] →
      GoodFunc b (code.func_run b l.id (length l.params) l.vararg (map (stat_code b) l.body))

  abbrev kind_ok : ExprKind → Type 0
  kind_ok k = KindFits (out-ExprKind k)

  abbrev stat_kind_ok : StatKind → Type 0
  stat_kind_ok k = StatFits (out-StatKind k)

  abbrev arm_ok : Arm → Type 0
  arm_ok a = ArmFits (out-Arm a)

  abbrev func_ok : FuncBody → Type 0
  func_ok f = FuncFits (out-FuncBody f)

  abbrev expr_ok : Expr → Type 0
  expr_ok e = (p : Place) → IsTrue (form_expr e).proper → rules_expr e p ≡ [] → Good b (expr_code b e)

  abbrev choice_ok : ExprArm → Type 0
  choice_ok a = (p : Place) → IsTrue (proper_expr_arm a) → rules_expr_arm a p ≡ [] → GoodChoice b (choice_code b a)

  abbrev stat_ok : Stat → Type 0
  stat_ok s = (p : Place) → IsTrue (proper_stat s) → (rules_stat s).faults p ≡ [] → GoodStat b p.in_loop (stat_code b s)

  -- ---- lists

  all_exprs : (es : List (With expr_ok)) (p : Place) → IsTrue (all_proper (map form_expr (map (λ z. z.0) es)))
      → scopes.all (map rules_expr (map (λ z. z.0) es)) p ≡ [] →
      Goods b (map (expr_code b) (map (λ z. z.0) es))
  all_exprs [] p r s = tt
  all_exprs (e ∷ es) p r s = (e.1 p (first_of _ _ r) (left _ _ s), all_exprs es p (second_of (form_expr e.0).proper _ r) (right (rules_expr e.0 p) _ s))

  all_stats : (ss : List (With stat_ok)) (p : Place) → IsTrue (all (map proper_stat (map (λ z. z.0) ss)))
      → scopes.block (map rules_stat (map (λ z. z.0) ss)) p ≡ [] →
      Stats b p.in_loop (map (stat_code b) (map (λ z. z.0) ss))
  all_stats [] p r s = tt
  all_stats (e ∷ es) p r s =
      let behind : Place = record p { live = p.live + (rules_stat e.0).declares } in
      (e.1 p (first_of _ _ r) (left _ _ s), all_stats es behind (second_of (proper_stat e.0) _ r) (right ((rules_stat e.0).faults p) _ s))

  arm_at : (a : Arm) → arm_ok a → (p : Place) → IsTrue (proper_arm a) → rules_arm a p ≡ [] → GoodArm b p.in_loop (arm_code b a)
  arm_at a h p r s =
      let formed = subst IsTrue (levels.arm_is forms.steps a) r in
      let ruled = ap (λ (g : scopes.Part). g p) (sym (levels.arm_is scopes.steps a)) ∙ s in
      subst (λ (x : ArmCode). GoodArm b p.in_loop x) (sym (levels.arm_is (code.steps b) a)) (h p formed ruled)

  all_arms : (l : List (With arm_ok)) (p : Place) → IsTrue (all (map proper_arm (map (λ z. z.0) l))) → scopes.all (map rules_arm (map (λ z. z.0) l)) p ≡ [] →
      GoodArms b p.in_loop (map (arm_code b) (map (λ z. z.0) l))
  all_arms [] p r s = tt
  all_arms (e ∷ es) p r s = (arm_at e.0 e.1 p (first_of _ _ r) (left _ _ s), all_arms es p (second_of (proper_arm e.0) _ r) (right (rules_arm e.0 p) _ s))

  all_choices : (l : List (With choice_ok)) (p : Place) → IsTrue (all (map proper_expr_arm (map (λ z. z.0) l)))
      → scopes.all (map rules_expr_arm (map (λ z. z.0) l)) p ≡ [] →
      GoodChoices b (map (choice_code b) (map (λ z. z.0) l))
  all_choices [] p r s = tt
  all_choices (e ∷ es) p r s = (e.1 p (first_of _ _ r) (left _ _ s), all_choices es p (second_of (proper_expr_arm e.0) _ r) (right (rules_expr_arm e.0 p) _ s))

  -- ---- functions

  func_at : (f : FuncBody) → func_ok f → IsTrue (proper_func f) → rules_func f ≡ [] → GoodFunc b (func_code b f)
  func_at f h r s =
      let o = out-FuncBody f in
      let formed = subst IsTrue (levels.func_is forms.steps f) r in
      let place : Place = record { in_loop = false; vararg = o.vararg; live = length o.params } in
      let ruled : scopes.block (map rules_stat o.body) place ≡ [] = right (scopes.too_many o.at 0 (length o.params)) _ (sym (levels.func_is scopes.steps f)
      ∙ s) in
      subst (λ (c : FuncCode). GoodFunc b c) (sym (levels.func_is (code.steps b) f)) (h formed ruled)

  -- ---- the parts of the tree

  abbrev kind_with : Type 0
  kind_with = induction.kind_with kind_ok (λ _. Unit {0}) stat_kind_ok arm_ok expr_ok choice_ok (λ _. Unit {0}) func_ok stat_ok

  abbrev stat_kind_with : Type 0
  stat_kind_with = induction.stat_kind_with kind_ok (λ _. Unit {0}) stat_kind_ok arm_ok expr_ok choice_ok (λ _. Unit {0}) func_ok stat_ok

  abbrev kind_parts : kind_with → ExprLevel
  kind_parts y = induction.kind_parts kind_ok (λ _. Unit {0}) stat_kind_ok arm_ok expr_ok choice_ok (λ _. Unit {0}) func_ok stat_ok y

  abbrev stat_kind_parts : stat_kind_with → StatLevel
  stat_kind_parts y = induction.stat_kind_parts kind_ok (λ _. Unit {0}) stat_kind_ok arm_ok expr_ok choice_ok (λ _. Unit {0}) func_ok stat_ok y

  -- a node without code
  empty_good : (id : ℕ) → Good b (nodes.single id (λ to d. d))
  empty_good id = single_good b id (λ to d. d) (λ k to d f. f)

  same_length : {X Y Z : Type 0} (g : X → Y) (h : X → Z) (xs : List X) → length (map g xs) ≡ length (map h xs)
  same_length g h [] = refl
  same_length g h (x ∷ xs) = let e = same_length g h xs in omega (arith, e)

  kind_good : (y : kind_with) → KindFits (kind_parts y)
  kind_good level.Nil id p at r s = single_good b id _ (λ k to d f. simple b k _ d (loads_nil to) f)
  kind_good level.True id p at r s = single_good b id _ (λ k to d f. simple b k _ d (loads_bool to 1) f)
  kind_good level.False id p at r s = single_good b id _ (λ k to d f. simple b k _ d (loads_bool to 0) f)
  kind_good (level.Num v) id p at r s = parts.number_good b v id
  kind_good (level.Str t) id p at r s = single_good b id _ (λ k to d f. text_run_good b k t to d f)
  kind_good level.Vararg id p at r s = many_good b id _ (λ k to results d some f. uses.varargs b k to results d some f)
      (λ k to d f. uses.varargs_open b k to d f)
  kind_good (level.Name x) id p at r s = parts.named_good b (names.bound_at b id) x id
  kind_good (level.Paren e) id p at r s = parts.paren_good b (expr_code b e.0) (e.1 p r s) id
  kind_good (level.Unary z e) id p at r s = parts.unary_good b (expr_code b e.0) (e.1 p r s) id z
  kind_good (level.Binary z x y) id p at r s =
      let form = first_of (forms.stands_between z && (form_expr x.0).proper) (form_expr y.0).proper r in
      let last = second_of (forms.stands_between z && (form_expr x.0).proper) (form_expr y.0).proper r in
      parts.binary_good b (expr_code b x.0) (expr_code b y.0) (x.1 p (second_of (forms.stands_between z) _ form) (left _ _ s)) (y.1 p last (right
      (rules_expr x.0 p) _ s)) id z
  kind_good (level.Concat es) id p at r s =
      let exprs = map (λ z. z.0) es in
      let codes = map (expr_code b) exprs in
      let two = two_or_more Form (map form_expr exprs) (first_of _ _ r) in
      let count_is = same_length form_expr (expr_code b) exprs in
      let g = all_exprs es p (second_of (has_two (map form_expr exprs)) _ r) s in
      single_good b id _ (λ k to d f. simple b k _ _ (joins to to (to + length codes - 1) (omega (arith, two, count_is))) (each_good b codes g k to d f))
  kind_good (level.ExprKind::Call e es) id p at r s =
      let codes = map (expr_code b) (map (λ z. z.0) es) in
      let h = e.1 p (first_of _ _ r) (left _ _ s) in
      let g = all_exprs es p (second_of (form_expr e.0).proper _ r) (right (rules_expr e.0 p) _ s) in
      many_good b id _
      (λ k to results d some f. uses.calls b k codes to results _ some (list_good b codes g k (to + 1) _ (h.run k to 2 d (omega arith) f)))
      (λ k to d f. uses.calls_open b k codes to _ (list_good b codes g k (to + 1) _ (h.run k to 2 d (omega arith) f)))
  kind_good (level.Function f) id p at r s = single_good b id (func_code b f.0) (λ k to d g. func_at f.0 f.1 r s k to d g)
  kind_good (level.ExprKind::If l e) id p at r s =
      let arms = map (λ z. z.0) l in
      let form = first_of (has_one (map proper_expr_arm arms) && all (map proper_expr_arm arms)) (form_expr e.0).proper r in
      let last = second_of (has_one (map proper_expr_arm arms) && all (map proper_expr_arm arms)) (form_expr e.0).proper r in
      parts.if_good b (map (choice_code b) arms) (all_choices l p (second_of (has_one (map proper_expr_arm arms)) _ form) (left _ _ s)) (expr_code b e.0)
      (e.1 p last (right (scopes.all (map rules_expr_arm arms) p) _ s)) id
  kind_good (level.Index x y) id p at r s = empty_good id
  kind_good (level.Member x t) id p at r s = empty_good id
  kind_good (level.Method o t es) id p at r s = empty_good id
  kind_good (level.Table l) id p at r s = empty_good id
  kind_good (level.Interp l es) id p at r s = empty_good id

  -- ---- statements

  in_a_loop : (looped : Bool) (r : ScopeRule) (at : ℕ) → (if looped then [] else fault r at) ≡ [] → looped ≡ true
  in_a_loop true r at e = refl
  in_a_loop false r at e = cc

  stat_kind_good : (y : stat_kind_with) → StatFits (stat_kind_parts y)
  stat_kind_good (level.Local xs es) id p at r s =
      let exprs = map (λ z. z.0) es in
      let codes = map (expr_code b) exprs in
      let g = all_exprs es p (second_of (has_one xs) _ r) (left (scopes.all (map rules_expr exprs) p) _ s) in
      λ k free l d out f. declared_good b k (names.first_at b id) free (length xs) _ (exact_good b codes g k free (length xs) d f)
  stat_kind_good (level.Assign ts es) id p at r s =
      let targets = map (λ z. z.0) ts in
      let exprs = map (λ z. z.0) es in
      let codes = map (expr_code b) exprs in
      let proper = second_of (has_one (map form_expr targets) && forms.all_targets (map form_expr targets) && all_proper (map form_expr targets) && has_one
      (map form_expr exprs)) (all_proper (map form_expr exprs)) r in
      let g = all_exprs es p proper (right (scopes.all (map rules_expr targets) p) _ s) in
      λ k free l d out f. assigns_good b k (map (expr_code b) targets) free _ (exact_good b codes g k free (length (map (expr_code b) targets)) d f)
  stat_kind_good (level.Compound z x y) id p at r s =
      let proper = second_of (forms.computes z && (form_expr x.0).target && (form_expr x.0).proper) (form_expr y.0).proper r in
      let g = y.1 p proper (right (rules_expr x.0 p) _ s) in
      λ k free l d out f. bodies.update_good b (expr_code b y.0) g k (expr_code b x.0).target z free d f
  stat_kind_good (level.StatKind::Call e) id p at r s =
      let g = e.1 p (second_of (form_expr e.0).calls _ r) s in
      λ k free l d out f. g.run k free 1 d (omega arith) f
  stat_kind_good (level.Do ss) id p at r s =
      λ k free l d out f. block_good b p.in_loop (map (stat_code b) (map (λ z. z.0) ss)) (all_stats ss p r s) k free l d out f
  stat_kind_good (level.While e ss) id p at r s =
      let g = all_stats ss (scopes.in_loop_of 0 p) (second_of (form_expr e.0).proper _ r) (right (rules_expr e.0 p) _ s) in
      let h = e.1 p (first_of _ _ r) (left _ _ s) in
      λ k free l d out f. bodies.while_good b (map (stat_code b) (map (λ z. z.0) ss)) g (expr_code b e.0) h id k free d f
  stat_kind_good (level.Repeat ss e) id p at r s =
      let stats = map (λ z. z.0) ss in
      let g = all_stats ss (scopes.in_loop_of 0 p) (first_of _ _ r) (left _ _ s) in
      let h = e.1 p (second_of (all (map proper_stat stats)) _ r) (right (scopes.block (map rules_stat stats) (scopes.in_loop_of 0 p)) _ s) in
      λ k free l d out f. bodies.repeat_good b (map (stat_code b) stats) g (expr_code b e.0) h id k free d f
  stat_kind_good (level.StatKind::If arms None) id p at r s =
      let l = map (λ z. z.0) arms in
      let formed = first_of (has_one (map proper_arm l) && all (map proper_arm l)) true r in
      let g = all_arms arms p (second_of (has_one (map proper_arm l)) _ formed) (left _ _ s) in
      λ k free around d out f. bodies.branches_good b p.in_loop id free around (map (arm_code b) l) g k d out f
  stat_kind_good (level.StatKind::If arms (Some ss)) id p at r s =
      let l = map (λ z. z.0) arms in
      let stats = map (λ z. z.0) ss in
      let formed = first_of (has_one (map proper_arm l) && all (map proper_arm l)) (all (map proper_stat stats)) r in
      let last = second_of (has_one (map proper_arm l) && all (map proper_arm l)) (all (map proper_stat stats)) r in
      let g = all_arms arms p (second_of (has_one (map proper_arm l)) _ formed) (left _ _ s) in
      let h = all_stats ss p last (right (scopes.all (map rules_arm l) p) _ s) in
      λ k free around d out f. bodies.else_good b p.in_loop id free around (map (arm_code b) l) g (map (stat_code b) stats) h k d out f
  stat_kind_good (level.NumFor t x y None ss) id p at r s =
      let body = all (map proper_stat (map (λ z. z.0) ss)) in
      let three = first_of (((form_expr x.0).proper && (form_expr y.0).proper) && true) body r in
      let pair = first_of ((form_expr x.0).proper && (form_expr y.0).proper) true three in
      let last = second_of (((form_expr x.0).proper && (form_expr y.0).proper) && true) body r in
      let s1 = left ((rules_expr x.0 p ++ rules_expr y.0 p) ++ []) _ s in
      let s2 = left (rules_expr x.0 p ++ rules_expr y.0 p) [] s1 in
      let s3 = right (scopes.too_many at p.live 1) _ (right ((rules_expr x.0 p ++ rules_expr y.0 p) ++ []) _ s) in
      let g1 = x.1 p (first_of _ _ pair) (left _ _ s2) in
      let g2 = y.1 p (second_of (form_expr x.0).proper _ pair) (right (rules_expr x.0 p) _ s2) in
      let g4 = all_stats ss (scopes.in_loop_of 1 p) last s3 in
      λ k free l d out f. bodies.num_for_good b (expr_code b x.0) (expr_code b y.0) g1 g2 None tt (map (stat_code b) (map (λ z. z.0) ss)) g4 id k free d f
  stat_kind_good (level.NumFor t x y (Some e) ss) id p at r s =
      let body = all (map proper_stat (map (λ z. z.0) ss)) in
      let three = first_of (((form_expr x.0).proper && (form_expr y.0).proper) && (form_expr e.0).proper) body r in
      let pair = first_of ((form_expr x.0).proper && (form_expr y.0).proper) (form_expr e.0).proper three in
      let by = second_of ((form_expr x.0).proper && (form_expr y.0).proper) (form_expr e.0).proper three in
      let last = second_of (((form_expr x.0).proper && (form_expr y.0).proper) && (form_expr e.0).proper) body r in
      let s1 = left ((rules_expr x.0 p ++ rules_expr y.0 p) ++ rules_expr e.0 p) _ s in
      let s2 = left (rules_expr x.0 p ++ rules_expr y.0 p) (rules_expr e.0 p) s1 in
      let s3 = right (scopes.too_many at p.live 1) _ (right ((rules_expr x.0 p ++ rules_expr y.0 p) ++ rules_expr e.0 p) _ s) in
      let g1 = x.1 p (first_of _ _ pair) (left _ _ s2) in
      let g2 = y.1 p (second_of (form_expr x.0).proper _ pair) (right (rules_expr x.0 p) _ s2) in
      let g3 = e.1 p by (right (rules_expr x.0 p ++ rules_expr y.0 p) _ s1) in
      let g4 = all_stats ss (scopes.in_loop_of 1 p) last s3 in
      λ k free l d out f. bodies.num_for_good b (expr_code b x.0) (expr_code b y.0) g1 g2 (Some (expr_code b e.0)) g3 (map (stat_code b) (map
      (λ z. z.0) ss)) g4 id k free d f
  stat_kind_good (level.GenFor ts es ss) id p at r s = λ k free l d out f. f
  stat_kind_good (level.LocalFunction t f) id p at r s =
      let g = func_at f.0 f.1 r (right (scopes.too_many at p.live 1) _ s) in
      λ k free l d out h. g k free _ (variable b k Nothing (names.first_at b id) free d h)
  stat_kind_good (level.Return es) id p at r s =
      let codes = map (expr_code b) (map (λ z. z.0) es) in
      let g = all_exprs es p r s in
      λ k free l d out f. uses.returns_list b k codes free _ (list_good b codes g k free d f)
  stat_kind_good level.Break id p at r s =
      let looped = in_a_loop p.in_loop _ _ s in
      λ k free l d out f. onward b k _ _ _ (insns.jump _) (out looped).0 (close_good b k l.start d f)
  stat_kind_good level.Continue id p at r s =
      let looped = in_a_loop p.in_loop _ _ s in
      λ k free l d out f. onward b k _ _ _ (insns.jump _) (out looped).1 (close_good b k l.turn d f)

  -- ---- the induction

  kind_step : (y : kind_with) → kind_ok (induction.kind_of kind_ok (λ _. Unit {0}) stat_kind_ok arm_ok expr_ok choice_ok (λ _. Unit {0}) func_ok stat_ok y)
  kind_step y =
      let same : out-ExprKind (roll-ExprKind (kind_parts y)) ≡ kind_parts y = search (rules, folds.the_lemmas, views.the_lemmas) in
      subst KindFits (sym same) (kind_good y)

  stat_kind_step : (y : stat_kind_with)
      → stat_kind_ok (induction.stat_kind_of kind_ok (λ _. Unit {0}) stat_kind_ok arm_ok expr_ok choice_ok (λ _. Unit {0}) func_ok stat_ok y)
  stat_kind_step y =
      let same : out-StatKind (roll-StatKind (stat_kind_parts y)) ≡ stat_kind_parts y = search (rules, folds.the_lemmas, views.the_lemmas) in
      subst StatFits (sym same) (stat_kind_good y)

  arm_step : (y : induction.arm_with kind_ok (λ _. Unit {0}) stat_kind_ok arm_ok expr_ok choice_ok (λ _. Unit {0}) func_ok stat_ok)
      → arm_ok (induction.arm_of kind_ok (λ _. Unit {0}) stat_kind_ok arm_ok expr_ok choice_ok (λ _. Unit {0}) func_ok stat_ok y)
  arm_step y =
      let parts_of = induction.arm_parts kind_ok (λ _. Unit {0}) stat_kind_ok arm_ok expr_ok choice_ok (λ _. Unit {0}) func_ok stat_ok y in
      let same : out-Arm (roll-Arm parts_of) ≡ parts_of = search (rules, folds.the_lemmas, views.the_lemmas) in
      let here : ArmFits parts_of = λ p r s. record {
        cond = y.cond.1 p (first_of _ _ r) (left _ _ s);
        body = all_stats y.body p (second_of (form_expr y.cond.0).proper _ r) (right (rules_expr y.cond.0 p) _ s);
      } in
      subst ArmFits (sym same) here

  func_step : (y : induction.func_with kind_ok (λ _. Unit {0}) stat_kind_ok arm_ok expr_ok choice_ok (λ _. Unit {0}) func_ok stat_ok)
      → func_ok (induction.func_of kind_ok (λ _. Unit {0}) stat_kind_ok arm_ok expr_ok choice_ok (λ _. Unit {0}) func_ok stat_ok y)
  func_step y =
      let parts_of = induction.func_parts kind_ok (λ _. Unit {0}) stat_kind_ok arm_ok expr_ok choice_ok (λ _. Unit {0}) func_ok stat_ok y in
      let same : out-FuncBody (roll-FuncBody parts_of) ≡ parts_of = search (rules, folds.the_lemmas, views.the_lemmas) in
      let here : FuncFits parts_of = λ r s.
      func_good b y.id (length y.params) y.vararg (map (stat_code b) (map (λ z. z.0) y.body)) (grows.stats_are_good b (map (λ z. z.0) y.body))
      (all_stats y.body (record { in_loop = false; vararg = y.vararg; live = length y.params }) r s) in
      subst FuncFits (sym same) here

  renumbered : (id : ℕ) (c : ExprCode) → Good b c → Good b (record c { id = id })
  renumbered id c g = record { run = g.run; all = g.all; jump = g.jump }

  expr_from : (e : Expr) → kind_ok e.kind → expr_ok e
  expr_from e h p r s =
      let o = out-ExprKind e.kind in
      let form : form_expr e ≡ levels.at_expr_level forms.steps o = levels.expr_is forms.steps e ∙ levels.kind_is forms.steps e.kind in
      let formed = subst (λ (x : Form). IsTrue x.proper) form r in
      let ruled : levels.at_expr_level scopes.steps o e.at p ≡ [] = ap (λ (g : ℕ → scopes.Part). g e.at p) (sym (levels.kind_is scopes.steps e.kind))
      ∙ ap (λ (g : scopes.Part). g p) (sym (levels.expr_is scopes.steps e)) ∙ s in
      let g = renumbered e.id _ (h e.id p e.at formed ruled) in
      let coded : expr_code b e ≡ record (levels.at_expr_level (code.steps b) o e.id) { id = e.id } = levels.expr_is (code.steps b) e ∙ ap (λ (f : ℕ
      → ExprCode). record (f e.id) { id = e.id }) (levels.kind_is (code.steps b) e.kind) in
      subst (λ (x : ExprCode). Good b x) (sym coded) g

  stat_from : (x : Stat) → stat_kind_ok x.kind → stat_ok x
  stat_from x h p r s =
      let o = out-StatKind x.kind in
      let form : proper_stat x ≡ levels.at_stat_level forms.steps o = levels.stat_is forms.steps x ∙ levels.stat_kind_is forms.steps x.kind in
      let formed = subst IsTrue form r in
      let ruled : (levels.at_stat_level scopes.steps o x.at).faults p ≡ [] = ap (λ (g : ℕ → scopes.StatRules). (g x.at).faults p)
      (sym (levels.stat_kind_is scopes.steps x.kind)) ∙ ap (λ (g : scopes.StatRules). g.faults p) (sym (levels.stat_is scopes.steps x)) ∙ s in
      let coded : stat_code b x ≡ levels.at_stat_level (code.steps b) o x.id = levels.stat_is (code.steps b) x ∙ ap (λ (f : ℕ
      → StatCode). f x.id) (levels.stat_kind_is (code.steps b) x.kind) in
      subst (λ (z : StatCode). GoodStat b p.in_loop z) (sym coded) (h x.id p x.at formed ruled)

  choice_from : (a : ExprArm) → expr_ok a.cond → expr_ok a.value → choice_ok a
  choice_from a hc hv p r s =
      let formed = subst IsTrue (levels.expr_arm_is forms.steps a) r in
      let ruled : rules_expr a.cond p ++ rules_expr a.value p ≡ [] = ap (λ (g : scopes.Part). g p) (sym (levels.expr_arm_is scopes.steps a)) ∙ s in
      let g : GoodChoice b (record { cond = expr_code b a.cond; value = expr_code b a.value }) = record {
        cond = hc p (first_of _ _ formed) (left _ _ ruled);
        value = hv p (second_of (form_expr a.cond).proper _ formed) (right (rules_expr a.cond p) _ ruled);
      } in
      subst (λ (z : ChoiceCode). GoodChoice b z) (sym (levels.expr_arm_is (code.steps b) a)) g

  steps_good : induction.Steps kind_ok (λ _. Unit {0}) stat_kind_ok arm_ok expr_ok choice_ok (λ _. Unit {0}) func_ok stat_ok
  steps_good = record {
    kind = kind_step;
    field_kind = λ _. tt;
    stat_kind = stat_kind_step;
    arm = arm_step;
    expr = λ y. expr_from (induction.expr_of kind_ok (λ _. Unit {0}) stat_kind_ok arm_ok expr_ok choice_ok (λ _. Unit {0}) func_ok stat_ok y) y.kind.1;
    expr_arm = λ y. choice_from (induction.expr_arm_of kind_ok (λ _. Unit {0}) stat_kind_ok arm_ok expr_ok choice_ok
        (λ _. Unit {0}) func_ok stat_ok y) y.cond.1 y.value.1;
    field = λ _. tt;
    func = func_step;
    stat = λ y. stat_from (induction.stat_of kind_ok (λ _. Unit {0}) stat_kind_ok arm_ok expr_ok choice_ok (λ _. Unit {0}) func_ok stat_ok y) y.kind.1;
  }

  pub func_fits : (f : FuncBody) → IsTrue (proper_func f) → rules_func f ≡ [] → GoodFunc b (func_code b f)
  func_fits f = func_at f (induction.all_func kind_ok (λ _. Unit {0}) stat_kind_ok arm_ok expr_ok choice_ok (λ _. Unit {0}) func_ok stat_ok steps_good f)

-- ---- a script

begins : (b : Bindings) → State b (record { placed = []; pending = []; kept = []; credit = 0; vararg = false; params = 0 }) Nothing start
begins b = record {
  counts = [];
  order = λ low. refl;
  body = λ low. tt;
  constants_few = omega arith;
  children_few = omega arith;
  jumps = tt;
  placed = λ l p. absurd p;
  kept = λ x p. absurd p;
  constants = tt;
  children = tt;
  protos = tt;
  behind = tt;
}

pub code_shapes : CodeShapes
code_shapes main proper sound =
    let tree = numbered main in
    let b = bound tree in
    let rest = right (known tree).faults _ sound in
    (func_fits b tree.main proper (left (rules_func tree.main) _ rest) _ 0 start (begins b)).protos
