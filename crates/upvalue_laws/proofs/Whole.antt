-- The upvalues that the code of each function names are the function's own: by induction over the tree.
use Rattle.std.proofs.Common.{◌≡◌, ℕ, ◌+◌, ◌-◌, ◌<◌, ◌^◌, true, false, List, [], ◌∷◌, ◌++◌, length, map, Some, None, refl, sym, ap, ◌∙◌, subst, rules, append-nil}
use Rattle.byte_text.specs.declared.fixed.StrId.{StrId}
use Rattle.syntax_tree.specs.declared.bindings.Bindings.{Bindings}
use Rattle.syntax_tree.specs.declared.notes.Visible.{Visible}
use Rattle.syntax_tree.specs.declared.tree.Arm.{Arm, roll-Arm, out-Arm}
use Rattle.syntax_tree.specs.declared.tree.Expr.{Expr}
use Rattle.syntax_tree.specs.declared.tree.ExprArm.{ExprArm}
use Rattle.syntax_tree.specs.declared.tree.ExprKind.{ExprKind, roll-ExprKind, out-ExprKind}
use Rattle.syntax_tree.specs.declared.tree.ExprKind.TheFolds as folds
use Rattle.syntax_tree.specs.declared.tree.ExprKind.TheOpen as level
use Rattle.syntax_tree.specs.declared.tree.ExprKind.TheOpen.{Arm-F, FuncBody-F}
use Rattle.syntax_tree.specs.declared.tree.ExprKind.TheViews as views
use Rattle.syntax_tree.specs.declared.tree.Field.{Field}
use Rattle.syntax_tree.specs.declared.tree.FieldKind.{FieldKind}
use Rattle.syntax_tree.specs.declared.tree.FuncBody.{FuncBody, roll-FuncBody, out-FuncBody}
use Rattle.syntax_tree.specs.declared.tree.Stat.{Stat}
use Rattle.syntax_tree.specs.declared.tree.StatKind.{StatKind, roll-StatKind, out-StatKind}
use Rattle.syntax_tree.specs.Bound as bindings
use Rattle.syntax_tree.specs.Numbers.{numbered}
use Rattle.emit_expr.specs.declared.draft.Variable.{Variable}
use Rattle.emit_expr.specs.Names as names
use Rattle.emit_expr.specs.Puts.{start}
use Rattle.node_code.specs.Nodes as nodes
use Rattle.node_code.specs.Nodes.{ExprCode, StatCode, ArmCode, ChoiceCode, FuncCode}
use Rattle.node_code.specs.Lists as lists
use Rattle.node_code.specs.Code as code
use Rattle.node_code.specs.Code.{expr_code, stat_code, arm_code, choice_code, func_code}
use Rattle.emit_laws.specs.Induction as induction
use Rattle.emit_laws.specs.Induction.{With}
use Rattle.scope_laws.specs.Sight.{Sight, Part, expr, stat, function, arm, expr_arm, block, ExprLevel, StatLevel, visible, behind, expr_parts, in_stat, stat_shows, with_names, itself, next, enter, Sees, nothing}
use Rattle.scope_laws.specs.Declared.{stat_names}
use Rattle.scope_laws.proofs.Levels as levels
use Rattle.compiled_runs.proofs.Standing.{name_kind}
use Rattle.compiled_runs.proofs.Numbers.{AreUnder}
use Rattle.upvalue_laws.specs.Laws.{UpvaluesFit}
use Rattle.upvalue_laws.proofs.States.{State, HasVar, Covered, covered_both, covered_front, var_last, Declared, insn, branch, place, variable, close_good}
use Rattle.upvalue_laws.proofs.Uses as uses
use Rattle.upvalue_laws.proofs.Uses.{Good, Goods, FitBound, AllUp, list_good, each_good, exact_good, assigns_good, text_run_good, single_good, many_good, GoodChoices, choices_good}
use Rattle.upvalue_laws.proofs.Bodies as bodies
use Rattle.upvalue_laws.proofs.Bodies.{GoodStat, quiet, all_declared, StatOf, Stats, stats_behind, block_good, GoodStep, GoodArm, GoodArms, arms_good}
use Rattle.upvalue_laws.proofs.Around.{bound_fit, captured_fit, first_is, few_own, names_under}
use Rattle.upvalue_laws.proofs.Functions.{GoodFunc, func_good, inside}

module _ (main : FuncBody) (few : length (bindings.bound (numbered main)).locals < 2 ^ 64) where
  abbrev b : Bindings
  b = bindings.bound (numbered main)

  abbrev Seen : Sight → List Part → Type 0
  Seen = Sees (numbered main).main

  -- ---- what is shown of a part

  abbrev KindFits : ExprLevel → Type 0
  KindFits l = (s : Sight) (id : ℕ) → ((x : StrId) → l ≡ level.Name x → FitBound b s.func (names.bound_at b id)) → Seen s (expr_parts l) →
      (vs : List Variable) → Covered s.first vs s.scope →
      Good b s.func vs (levels.at_expr_level (code.steps b) l id)

  abbrev StatFits : StatLevel → Type 0
  StatFits l = (s : Sight) (id : ℕ) → names.first_at b id ≡ s.declared → ((j : ℕ) → j < length (stat_names l) → s.declared + j < 2 ^ 64 - 1) → Seen
      (in_stat l s).sight (in_stat l s).parts →
      (vs : List Variable) → Covered s.first vs s.scope → GoodStat b s.func s.first vs (stat_shows l s.declared) (levels.at_stat_level (code.steps b) l id)

  abbrev ArmLevel : Type 0
  ArmLevel = Arm-F ExprKind FieldKind StatKind Arm Expr ExprArm Field FuncBody Stat

  abbrev FuncLevel : Type 0
  FuncLevel = FuncBody-F ExprKind FieldKind StatKind Arm Expr ExprArm Field FuncBody Stat

  abbrev ArmFits : ArmLevel → Type 0
  ArmFits l = (s : Sight) → Seen s (expr l.cond ∷ block [] l.body ∷ []) → (vs : List Variable) → Covered s.first vs s.scope →
      GoodArm b s.func vs (record { cond = expr_code b l.cond; body = map (stat_code b) l.body })

  abbrev FuncFits : FuncLevel → Type 0
  FuncFits l = (s : Sight) → Seen (inside l.id l.params s) (map stat l.body) → names.first_at b l.id ≡ s.declared → ((j : ℕ) → j < length l.params
      → s.declared + j < 2 ^ 64 - 1) →
      AreUnder s.declared s.scope → (vs : List Variable) → AllUp b s.func vs (names.upvalues_at b l.id) →
      GoodFunc b s.func vs (code.func_run b l.id (length l.params) l.vararg (map (stat_code b) l.body))

  abbrev kind_ok : ExprKind → Type 0
  kind_ok k = KindFits (out-ExprKind k)

  abbrev stat_kind_ok : StatKind → Type 0
  stat_kind_ok k = StatFits (out-StatKind k)

  abbrev arm_ok : Arm → Type 0
  arm_ok a = ArmFits (out-Arm a)

  abbrev func_ok : FuncBody → Type 0
  func_ok f = FuncFits (out-FuncBody f)

  abbrev expr_ok : Expr → Type 0
  expr_ok e = (s : Sight) (ps : List Part) → Seen s (expr e ∷ ps) → (vs : List Variable) → Covered s.first vs s.scope → Good b s.func vs (expr_code b e)

  abbrev choice_ok : ExprArm → Type 0
  choice_ok a = (s : Sight) (ps : List Part) → Seen s (expr_arm a ∷ ps) → (vs : List Variable) → Covered s.first vs s.scope →
      Good b s.func vs (choice_code b a).cond × Good b s.func vs (choice_code b a).value

  abbrev stat_ok : Stat → Type 0
  stat_ok x = (s : Sight) (ps : List Part) → Seen s (stat x ∷ ps) → StatOf b s x

  -- ---- lists

  -- what shows no names changes nothing
  still : (first : ℕ) (vs : List Variable) (us : List Visible) → Covered first vs us → Covered first vs (us ++ [])
  still first vs us c = covered_both first vs us [] c tt

  -- a list of expressions, and what stands behind them
  pub record Listed (s : Sight) (vs : List Variable) (es : List Expr) (ps : List Part) : Type 0 where
    pub goods : Goods b s.func vs (map (expr_code b) es)
    pub then : Sight
    pub func : then.func ≡ s.func
    pub first : then.first ≡ s.first
    pub seen : Seen then ps
    pub covers : Covered then.first vs then.scope

  all_exprs : (es : List (With expr_ok)) (s : Sight) (ps : List Part) → Seen s (map expr (map (λ z. z.0) es) ++ ps) → (vs : List Variable)
      → Covered s.first vs s.scope →
      Listed s vs (map (λ z. z.0) es) ps
  all_exprs [] s ps w vs c = record { goods = tt; then = s; func = refl; first = refl; seen = w; covers = c }
  all_exprs (e ∷ es) s ps w vs c =
      let r = all_exprs es (behind (expr e.0) s) ps (next s (expr e.0) _ w) vs (still s.first vs s.scope c) in
      record { goods = (e.1 s _ w vs c, r.goods); then = r.then; func = r.func; first = r.first; seen = r.seen; covers = r.covers }

  only_exprs : (es : List (With expr_ok)) (s : Sight) → Seen s (map expr (map (λ z. z.0) es)) → (vs : List Variable) → Covered s.first vs s.scope
      → Goods b s.func vs (map (expr_code b) (map (λ z. z.0) es))
  only_exprs es s w vs c = (all_exprs es s [] (subst (λ ps. Seen s ps) (sym (append-nil (map expr (map (λ z. z.0) es)))) w) vs c).goods

  all_stats : (ss : List (With stat_ok)) (s : Sight) (ps : List Part) → Seen s (map stat (map (λ z. z.0) ss) ++ ps)
      → Stats b s (map (λ z. z.0) ss) × Seen (stats_behind b (map (λ z. z.0) ss) s) ps
  all_stats [] s ps w = (tt, w)
  all_stats (x ∷ ss) s ps w =
      let r = all_stats ss (behind (stat x.0) s) ps (next s (stat x.0) _ w) in
      ((x.1 s _ w, r.0), r.1)

  only_stats : (ss : List (With stat_ok)) (s : Sight) → Seen s (map stat (map (λ z. z.0) ss)) → Stats b s (map (λ z. z.0) ss)
  only_stats ss s w = (all_stats ss s [] (subst (λ ps. Seen s ps) (sym (append-nil (map stat (map (λ z. z.0) ss)))) w)).0

  -- a block without names of its own
  block_at : (ss : List (With stat_ok)) (s : Sight) (ps : List Part) → Seen s (block [] (map (λ z. z.0) ss) ∷ ps)
      → Stats b (with_names [] s) (map (λ z. z.0) ss)
  block_at ss s ps w = only_stats ss (with_names [] s) (enter s (block [] (map (λ z. z.0) ss)) ps w)

  arm_at : (a : Arm) → arm_ok a → (s : Sight) (ps : List Part) → Seen s (arm a ∷ ps) → (vs : List Variable) → Covered s.first vs s.scope
      → GoodArm b s.func vs (arm_code b a)
  arm_at a h s ps w vs c = subst (λ (x : ArmCode). GoodArm b s.func vs x) (sym (levels.arm_is (code.steps b) a)) (h s (enter s (arm a) ps w) vs c)

  -- arms, and what stands behind them
  pub record Branched (s : Sight) (vs : List Variable) (l : List Arm) (ps : List Part) : Type 0 where
    pub goods : GoodArms b s.func vs (map (arm_code b) l)
    pub then : Sight
    pub func : then.func ≡ s.func
    pub seen : Seen then ps
    pub covers : Covered then.first vs then.scope

  all_arms : (l : List (With arm_ok)) (s : Sight) (ps : List Part) → Seen s (map arm (map (λ z. z.0) l) ++ ps) → (vs : List Variable)
      → Covered s.first vs s.scope → Branched s vs (map (λ z. z.0) l) ps
  all_arms [] s ps w vs c = record { goods = tt; then = s; func = refl; seen = w; covers = c }
  all_arms (e ∷ es) s ps w vs c =
      let r = all_arms es (behind (arm e.0) s) ps (next s (arm e.0) _ w) vs (still s.first vs s.scope c) in
      record { goods = (arm_at e.0 e.1 s _ w vs c, r.goods); then = r.then; func = r.func; seen = r.seen; covers = r.covers }

  -- choices, and what stands behind them
  pub record Chosen (s : Sight) (vs : List Variable) (l : List ExprArm) (ps : List Part) : Type 0 where
    pub goods : GoodChoices b s.func vs (map (choice_code b) l)
    pub then : Sight
    pub func : then.func ≡ s.func
    pub seen : Seen then ps
    pub covers : Covered then.first vs then.scope

  all_choices : (l : List (With choice_ok)) (s : Sight) (ps : List Part) → Seen s (map expr_arm (map (λ z. z.0) l) ++ ps) → (vs : List Variable)
      → Covered s.first vs s.scope → Chosen s vs (map (λ z. z.0) l) ps
  all_choices [] s ps w vs c = record { goods = tt; then = s; func = refl; seen = w; covers = c }
  all_choices (e ∷ es) s ps w vs c =
      let r = all_choices es (behind (expr_arm e.0) s) ps (next s (expr_arm e.0) _ w) vs (still s.first vs s.scope c) in
      record { goods = (e.1 s _ w vs c, r.goods); then = r.then; func = r.func; seen = r.seen; covers = r.covers }

  -- ---- functions

  func_at : (f : FuncBody) → func_ok f → (s : Sight) (ps : List Part) → Seen s (function f ∷ ps) → (vs : List Variable) → Covered s.first vs s.scope
      → GoodFunc b s.func vs (func_code b f)
  func_at f h s ps w vs c =
      let o = out-FuncBody f in
      subst (λ (x : FuncCode). GoodFunc b s.func vs x) (sym (levels.func_is (code.steps b) f))
      (h s (enter s (function f) ps w) (first_is main s (function f) ps o.id w refl) (few_own main few s (function f) ps o.params refl w) (names_under main s
      (function f ∷ ps) w) vs (captured_fit main s f ps vs w c))

  -- ---- the parts of the tree

  abbrev kind_with : Type 0
  kind_with = induction.kind_with kind_ok (λ _. Unit {0}) stat_kind_ok arm_ok expr_ok choice_ok (λ _. Unit {0}) func_ok stat_ok

  abbrev stat_kind_with : Type 0
  stat_kind_with = induction.stat_kind_with kind_ok (λ _. Unit {0}) stat_kind_ok arm_ok expr_ok choice_ok (λ _. Unit {0}) func_ok stat_ok

  abbrev kind_parts : kind_with → ExprLevel
  kind_parts y = induction.kind_parts kind_ok (λ _. Unit {0}) stat_kind_ok arm_ok expr_ok choice_ok (λ _. Unit {0}) func_ok stat_ok y

  abbrev stat_kind_parts : stat_kind_with → StatLevel
  stat_kind_parts y = induction.stat_kind_parts kind_ok (λ _. Unit {0}) stat_kind_ok arm_ok expr_ok choice_ok (λ _. Unit {0}) func_ok stat_ok y

  -- a node without code
  empty_good : (func : ℕ) (vs : List Variable) (id : ℕ) → Good b func vs (nodes.single id (λ to d. d))
  empty_good func vs id = single_good b func vs id (λ to d. d) (λ to d f. f)

  kind_good : (y : kind_with) → KindFits (kind_parts y)
  kind_good level.Nil s id u w vs c = single_good b s.func vs id _ (λ to d f. insn b s.func vs _ d refl f)
  kind_good level.True s id u w vs c = single_good b s.func vs id _ (λ to d f. insn b s.func vs _ d refl f)
  kind_good level.False s id u w vs c = single_good b s.func vs id _ (λ to d f. insn b s.func vs _ d refl f)
  kind_good (level.Num v) s id u w vs c = uses.number_good b s.func vs v id
  kind_good (level.Str t) s id u w vs c = single_good b s.func vs id _ (λ to d f. text_run_good b s.func vs t to d f)
  kind_good level.Vararg s id u w vs c = many_good b s.func vs id _ (λ to results d f. insn b s.func vs _ d refl f)
  kind_good (level.Name x) s id u w vs c = uses.named_good b s.func vs (names.bound_at b id) (u x refl) x id
  kind_good (level.Paren e) s id u w vs c = uses.paren_good b s.func vs (expr_code b e.0) (e.1 s [] w vs c) id
  kind_good (level.Unary z e) s id u w vs c = uses.unary_good b s.func vs (expr_code b e.0) (e.1 s [] w vs c) id z
  kind_good (level.Binary z x y) s id u w vs c =
      uses.binary_good b s.func vs (expr_code b x.0) (expr_code b y.0) (x.1 s (expr y.0 ∷ []) w vs c)
      (y.1 (behind (expr x.0) s) [] (next s (expr x.0) (expr y.0 ∷ []) w) vs (still s.first vs s.scope c)) id z
  kind_good (level.Concat es) s id u w vs c =
      single_good b s.func vs id _ (λ to d f. insn b s.func vs _ _ refl (each_good b s.func vs (map (expr_code b) (map (λ z. z.0) es))
      (only_exprs es s w vs c) to d f))
  kind_good (level.ExprKind::Call e es) s id u w vs c =
      let exprs = map (λ z. z.0) es in
      let h = e.1 s (map expr exprs) w vs c in
      let g = only_exprs es (behind (expr e.0) s) (next s (expr e.0) (map expr exprs) w) vs (still s.first vs s.scope c) in
      many_good b s.func vs id _ (λ to results d f. insn b s.func vs _ _ refl (list_good b s.func vs (map (expr_code b) exprs) g (to + 1) _ (h.run to 2 d f)))
  kind_good (level.Function f) s id u w vs c = single_good b s.func vs id (func_code b f.0) (λ to d g. func_at f.0 f.1 s [] w vs c to d g)
  kind_good (level.ExprKind::If l e) s id u w vs c =
      let r = all_choices l s (expr e.0 ∷ []) w vs c in
      let last : Good b s.func vs (expr_code b e.0) = subst (λ n. Good b n vs (expr_code b e.0)) r.func (e.1 r.then [] r.seen vs r.covers) in
      single_good b s.func vs id _ (λ to d f. place b s.func vs _ _ (last.run to 2 _ (choices_good b s.func vs (map (choice_code b) (map
      (λ z. z.0) l)) r.goods id to d f)))
  kind_good (level.Index x y) s id u w vs c = empty_good s.func vs id
  kind_good (level.Member x t) s id u w vs c = empty_good s.func vs id
  kind_good (level.Method o t es) s id u w vs c = empty_good s.func vs id
  kind_good (level.Table l) s id u w vs c = empty_good s.func vs id
  kind_good (level.Interp l es) s id u w vs c = empty_good s.func vs id

  -- ---- statements

  stat_kind_good : (y : stat_kind_with) → StatFits (stat_kind_parts y)
  stat_kind_good (level.Local xs es) s id at low w vs c =
      let g = only_exprs es (in_stat (level.Local xs (map (λ z. z.0) es)) s).sight w vs c in
      λ free l d f.
      let made = lists.exact_run (map (expr_code b) (map (λ z. z.0) es)) free (length xs) d in
      subst (λ n. Declared b s.func s.first vs (visible s.declared xs) (names.declare_all n free (length xs) made)) (sym at)
      (all_declared b s.func s.first xs s.declared free vs made low (exact_good b s.func vs (map (expr_code b) (map (λ z. z.0) es)) g free (length xs) d f))
  stat_kind_good (level.Assign ts es) s id at low w vs c =
      let targets = map (λ z. z.0) ts in
      let exprs = map (λ z. z.0) es in
      let r = all_exprs ts s (map expr exprs) w vs c in
      let g : Goods b s.func vs (map (expr_code b) exprs) = subst (λ n. Goods b n vs (map (expr_code b) exprs)) r.func
      (only_exprs es r.then r.seen vs r.covers) in
      λ free l d f. quiet b s.func s.first vs _ (assigns_good b s.func vs (map (expr_code b) targets) r.goods free _ (exact_good b s.func vs (map
      (expr_code b) exprs) g free (length (map (expr_code b) targets)) d f))
  stat_kind_good (level.Compound z x y) s id at low w vs c =
      let h = x.1 s (expr y.0 ∷ []) w vs c in
      let g = y.1 (behind (expr x.0) s) [] (next s (expr x.0) (expr y.0 ∷ []) w) vs (still s.first vs s.scope c) in
      λ free l d f. quiet b s.func s.first vs _ (bodies.update_good b s.func vs (expr_code b y.0) g (expr_code b x.0).target h.target z free d f)
  stat_kind_good (level.StatKind::Call e) s id at low w vs c =
      let g = e.1 s [] w vs c in
      λ free l d f. quiet b s.func s.first vs _ (g.run free 1 d f)
  stat_kind_good (level.Do ss) s id at low w vs c =
      let g = block_at ss s [] w in
      λ free l d f. quiet b s.func s.first vs _ (block_good b (map (λ z. z.0) ss) (with_names [] s) g vs (still s.first vs s.scope c) free l d f)
  stat_kind_good (level.While e ss) s id at low w vs c =
      let stats = map (λ z. z.0) ss in
      let h = e.1 s (block [] stats ∷ []) w vs c in
      let g = block_at ss (behind (expr e.0) s) [] (next s (expr e.0) (block [] stats ∷ []) w) in
      λ free l d f. quiet b s.func s.first vs _ (bodies.while_good b stats (with_names [] (behind (expr e.0) s)) g vs (still s.first vs (s.scope ++ [])
      (still s.first vs s.scope c)) (expr_code b e.0) h id free d f)
  stat_kind_good (level.Repeat ss e) s id at low w vs c =
      let stats = map (λ z. z.0) ss in
      let g = all_stats ss s (expr e.0 ∷ []) w in
      λ free l d f. quiet b s.func s.first vs _
      (bodies.repeat_good b stats s g.0 vs c (expr_code b e.0) (cond_good stats s e.0 e.1 g.1) id free d f)
    where
      same : (xs : List Stat) (s : Sight) → ((stats_behind b xs s).func ≡ s.func) × ((stats_behind b xs s).first ≡ s.first)
      same [] s = (refl, refl)
      same (x ∷ xs) s = same xs (behind (stat x) s)

      cond_good : (xs : List Stat) (s : Sight) (e : Expr) → expr_ok e → Seen (stats_behind b xs s) (expr e ∷ []) → (ws : List Variable)
          → Covered s.first ws (stats_behind b xs s).scope → Good b s.func ws (expr_code b e)
      cond_good xs s e h w ws c =
          let q = same xs s in
          subst (λ n. Good b n ws (expr_code b e)) q.0 (h (stats_behind b xs s) [] w ws (subst (λ n. Covered n ws (stats_behind b xs s).scope) (sym q.1) c))
  stat_kind_good (level.StatKind::If arms None) s id at low w vs c =
      let r = all_arms arms s [] w vs c in
      λ free l d f. quiet b s.func s.first vs _ (place b s.func vs _ _ (arms_good b s.func vs false (map (arm_code b) (map
      (λ z. z.0) arms)) r.goods id free l d f))
  stat_kind_good (level.StatKind::If arms (Some ss)) s id at low w vs c =
      let stats = map (λ z. z.0) ss in
      let r = all_arms arms s (block [] stats ∷ []) w vs c in
      let g = block_at ss r.then [] r.seen in
      let h : bodies.GoodBlock b s.func vs (map (stat_code b) stats) = subst (λ n. bodies.GoodBlock b n vs (map (stat_code b) stats)) r.func
      (block_good b stats (with_names [] r.then) g vs (still r.then.first vs r.then.scope r.covers)) in
      λ free l d f. quiet b s.func s.first vs _ (place b s.func vs _ _ (h free l _ (arms_good b s.func vs true (map (arm_code b) (map
      (λ z. z.0) arms)) r.goods id free l d f)))
  stat_kind_good (level.NumFor t x y None ss) s id at low w vs c =
      let stats = map (λ z. z.0) ss in
      let s0 = (in_stat (level.NumFor t x.0 y.0 None stats) s).sight in
      let loop : Part = block (visible s.declared (t ∷ [])) stats in
      let g1 = x.1 s0 (expr y.0 ∷ loop ∷ []) w vs c in
      let w1 = next s0 (expr x.0) (expr y.0 ∷ loop ∷ []) w in
      let s1 = behind (expr x.0) s0 in
      let c1 = still s.first vs s.scope c in
      let g2 = y.1 s1 (loop ∷ []) w1 vs c1 in
      let s2 = behind (expr y.0) s1 in
      let w2 = next s1 (expr y.0) (loop ∷ []) w1 in
      let c2 = still s.first vs (s.scope ++ []) c1 in
      let inner = with_names (visible s.declared (t ∷ [])) s2 in
      let g4 = only_stats ss inner (enter s2 loop [] w2) in
      λ free l d f. quiet b s.func s.first vs _
      (bodies.num_for_good b stats inner g4 vs t s.declared s2.scope c2 refl (expr_code b x.0) (expr_code b y.0) g1 g2 None tt id free at d f)
  stat_kind_good (level.NumFor t x y (Some e) ss) s id at low w vs c =
      let stats = map (λ z. z.0) ss in
      let s0 = (in_stat (level.NumFor t x.0 y.0 (Some e.0) stats) s).sight in
      let loop : Part = block (visible s.declared (t ∷ [])) stats in
      let g1 = x.1 s0 (expr y.0 ∷ expr e.0 ∷ loop ∷ []) w vs c in
      let w1 = next s0 (expr x.0) (expr y.0 ∷ expr e.0 ∷ loop ∷ []) w in
      let s1 = behind (expr x.0) s0 in
      let c1 = still s.first vs s.scope c in
      let g2 = y.1 s1 (expr e.0 ∷ loop ∷ []) w1 vs c1 in
      let s2 = behind (expr y.0) s1 in
      let w2 = next s1 (expr y.0) (expr e.0 ∷ loop ∷ []) w1 in
      let c2 = still s.first vs (s.scope ++ []) c1 in
      let g3 = e.1 s2 (loop ∷ []) w2 vs c2 in
      let s3 = behind (expr e.0) s2 in
      let w3 = next s2 (expr e.0) (loop ∷ []) w2 in
      let c3 = still s.first vs ((s.scope ++ []) ++ []) c2 in
      let inner = with_names (visible s.declared (t ∷ [])) s3 in
      let g4 = only_stats ss inner (enter s3 loop [] w3) in
      λ free l d f. quiet b s.func s.first vs _
      (bodies.num_for_good b stats inner g4 vs t s.declared s3.scope c3 refl (expr_code b x.0) (expr_code b y.0) g1 g2 (Some
      (expr_code b e.0)) g3 id free at d f)
  stat_kind_good (level.GenFor ts es ss) s id at low w vs c = λ free l d f. quiet b s.func s.first vs d f
  stat_kind_good (level.LocalFunction t f) s id at low w vs c = λ free l d g.
      let v : Variable = record { number = names.first_at b id; register = free } in
      let with_it = vs ++ v ∷ [] in
      let named : Covered s.first with_it (visible s.declared (t ∷ [])) = ((λ le. subst (λ n. HasVar n with_it) at (var_last vs v)), tt) in
      let c' = covered_both s.first with_it s.scope (visible s.declared (t ∷ [])) (covered_front s.first vs (v ∷ []) s.scope c) named in
      let s' = (in_stat (level.LocalFunction t f.0) s).sight in
      record {
        new = with_it;
        front = bodies.behind_of vs v;
        covers = named;
        state = func_at f.0 f.1 s' [] w with_it c' free _ (variable b s.func vs (names.first_at b id) free d g);
      }
  stat_kind_good (level.Return es) s id at low w vs c =
      let g = only_exprs es s w vs c in
      λ free l d f. quiet b s.func s.first vs _ (insn b s.func vs _ _ refl (list_good b s.func vs (map (expr_code b) (map (λ z. z.0) es)) g free d f))
  stat_kind_good level.Break s id at low w vs c = λ free l d f. quiet b s.func s.first vs _ (branch b s.func vs _ _ _ refl (close_good b s.func vs l.start d f))
  stat_kind_good level.Continue s id at low w vs c = λ free l d f. quiet b s.func s.first vs _ (branch b s.func vs _ _ _ refl
      (close_good b s.func vs l.turn d f))

  -- ---- the induction

  kind_step : (y : kind_with) → kind_ok (induction.kind_of kind_ok (λ _. Unit {0}) stat_kind_ok arm_ok expr_ok choice_ok (λ _. Unit {0}) func_ok stat_ok y)
  kind_step y =
      let same : out-ExprKind (roll-ExprKind (kind_parts y)) ≡ kind_parts y = search (rules, folds.the_lemmas, views.the_lemmas) in
      subst KindFits (sym same) (kind_good y)

  stat_kind_step : (y : stat_kind_with)
      → stat_kind_ok (induction.stat_kind_of kind_ok (λ _. Unit {0}) stat_kind_ok arm_ok expr_ok choice_ok (λ _. Unit {0}) func_ok stat_ok y)
  stat_kind_step y =
      let same : out-StatKind (roll-StatKind (stat_kind_parts y)) ≡ stat_kind_parts y = search (rules, folds.the_lemmas, views.the_lemmas) in
      subst StatFits (sym same) (stat_kind_good y)

  arm_step : (y : induction.arm_with kind_ok (λ _. Unit {0}) stat_kind_ok arm_ok expr_ok choice_ok (λ _. Unit {0}) func_ok stat_ok)
      → arm_ok (induction.arm_of kind_ok (λ _. Unit {0}) stat_kind_ok arm_ok expr_ok choice_ok (λ _. Unit {0}) func_ok stat_ok y)
  arm_step y =
      let parts_of = induction.arm_parts kind_ok (λ _. Unit {0}) stat_kind_ok arm_ok expr_ok choice_ok (λ _. Unit {0}) func_ok stat_ok y in
      let same : out-Arm (roll-Arm parts_of) ≡ parts_of = search (rules, folds.the_lemmas, views.the_lemmas) in
      let here : ArmFits parts_of = λ s w vs c.
      let stats = map (λ z. z.0) y.body in
      let s1 = behind (expr y.cond.0) s in
      let g = block_at y.body s1 [] (next s (expr y.cond.0) (block [] stats ∷ []) w) in
      record {
        cond = y.cond.1 s (block [] stats ∷ []) w vs c;
        body = block_good b stats (with_names [] s1) g vs (still s.first vs (s.scope ++ []) (still s.first vs s.scope c));
      } in
      subst ArmFits (sym same) here

  func_step : (y : induction.func_with kind_ok (λ _. Unit {0}) stat_kind_ok arm_ok expr_ok choice_ok (λ _. Unit {0}) func_ok stat_ok)
      → func_ok (induction.func_of kind_ok (λ _. Unit {0}) stat_kind_ok arm_ok expr_ok choice_ok (λ _. Unit {0}) func_ok stat_ok y)
  func_step y =
      let parts_of = induction.func_parts kind_ok (λ _. Unit {0}) stat_kind_ok arm_ok expr_ok choice_ok (λ _. Unit {0}) func_ok stat_ok y in
      let same : out-FuncBody (roll-FuncBody parts_of) ≡ parts_of = search (rules, folds.the_lemmas, views.the_lemmas) in
      let here : FuncFits parts_of = λ s w first small under vs up.
      func_good b s y.id y.params y.vararg (map (λ z. z.0) y.body) (only_stats y.body (inside y.id y.params s) w) first small under vs up in
      subst FuncFits (sym same) here

  renumbered : (func : ℕ) (vs : List Variable) (id : ℕ) (c : ExprCode) → Good b func vs c → Good b func vs (record c { id = id })
  renumbered func vs id c g = record { run = g.run; jump = g.jump; target = g.target }

  expr_from : (e : Expr) → kind_ok e.kind → expr_ok e
  expr_from e h s ps w vs c =
      let o = out-ExprKind e.kind in
      let fit : (x : StrId) → o ≡ level.Name x → FitBound b s.func (names.bound_at b e.id) = λ x is. bound_fit main s e ps x w (name_kind e.kind x is) in
      let g = renumbered s.func vs e.id _ (h s e.id fit (enter s (expr e) ps w) vs c) in
      let coded : expr_code b e ≡ record (levels.at_expr_level (code.steps b) o e.id) { id = e.id } = levels.expr_is (code.steps b) e ∙ ap (λ (f : ℕ
      → ExprCode). record (f e.id) { id = e.id }) (levels.kind_is (code.steps b) e.kind) in
      subst (λ (x : ExprCode). Good b s.func vs x) (sym coded) g

  stat_from : (x : Stat) → stat_kind_ok x.kind → stat_ok x
  stat_from x h s ps w vs c =
      let o = out-StatKind x.kind in
      let coded : stat_code b x ≡ levels.at_stat_level (code.steps b) o x.id = levels.stat_is (code.steps b) x ∙ ap (λ (f : ℕ
      → StatCode). f x.id) (levels.stat_kind_is (code.steps b) x.kind) in
      subst (λ (z : StatCode). GoodStat b s.func s.first vs (stat_shows o s.declared) z) (sym coded)
      (h s x.id (first_is main s (stat x) ps x.id w refl) (few_own main few s (stat x) ps (stat_names o) refl w) (enter s (stat x) ps w) vs c)

  choice_from : (a : ExprArm) → expr_ok a.cond → expr_ok a.value → choice_ok a
  choice_from a hc hv s ps w vs c =
      let inner = enter s (expr_arm a) ps w in
      let g : Good b s.func vs (expr_code b a.cond) × Good b s.func vs (expr_code b a.value) = (
        hc s (expr a.value ∷ []) inner vs c,
        hv (behind (expr a.cond) s) [] (next s (expr a.cond) (expr a.value ∷ []) inner) vs (still s.first vs s.scope c),
      ) in
      subst (λ (z : ChoiceCode). Good b s.func vs z.cond × Good b s.func vs z.value) (sym (levels.expr_arm_is (code.steps b) a)) g

  steps_good : induction.Steps kind_ok (λ _. Unit {0}) stat_kind_ok arm_ok expr_ok choice_ok (λ _. Unit {0}) func_ok stat_ok
  steps_good = record {
    kind = kind_step;
    field_kind = λ _. tt;
    stat_kind = stat_kind_step;
    arm = arm_step;
    expr = λ y. expr_from (induction.expr_of kind_ok (λ _. Unit {0}) stat_kind_ok arm_ok expr_ok choice_ok (λ _. Unit {0}) func_ok stat_ok y) y.kind.1;
    expr_arm = λ y. choice_from (induction.expr_arm_of kind_ok (λ _. Unit {0}) stat_kind_ok arm_ok expr_ok choice_ok
        (λ _. Unit {0}) func_ok stat_ok y) y.cond.1 y.value.1;
    field = λ _. tt;
    func = func_step;
    stat = λ y. stat_from (induction.stat_of kind_ok (λ _. Unit {0}) stat_kind_ok arm_ok expr_ok choice_ok (λ _. Unit {0}) func_ok stat_ok y) y.kind.1;
  }

  pub main_fits : GoodFunc b 0 [] (func_code b (numbered main).main)
  main_fits =
      func_at (numbered main).main (induction.all_func kind_ok (λ _. Unit {0}) stat_kind_ok arm_ok expr_ok choice_ok
      (λ _. Unit {0}) func_ok stat_ok steps_good (numbered main).main) nothing [] itself [] tt

-- ---- a script

begins : (b : Bindings) → State b 0 [] start
begins b = record { named = refl; variables = refl; items = tt; protos = tt }

pub upvalues_fit : UpvaluesFit
upvalues_fit main few = (main_fits main few 0 start (begins (bindings.bound (numbered main)))).protos
