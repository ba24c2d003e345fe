-- The code of each function of a script can be linked: by induction over the tree.
use Rattle.std.proofs.Common.{◌≡◌, ℕ, ◌+◌, ◌*◌, ◌≤◌, ◌<◌, ◌^◌, Bool, true, false, List, [], ◌∷◌, ◌++◌, length, map, Option, Some, None, nat_lt, if◌then◌else◌, option_map, refl, sym, ap, ◌∙◌, subst, arith, rules}
use Rattle.std.specs.Prelude.{slice_get, unwrap_or}
use Rattle.std.proofs.lemmas.Bool.Decides.{nat_tests}
use Rattle.syntax_tree.specs.declared.bindings.Bindings.{Bindings}
use Rattle.syntax_tree.specs.declared.fault.ScopeRule.{ScopeRule}
use Rattle.syntax_tree.specs.declared.notes.Place.{Place}
use Rattle.syntax_tree.specs.declared.tree.Arm.{Arm, roll-Arm, out-Arm}
use Rattle.syntax_tree.specs.declared.tree.Expr.{Expr}
use Rattle.syntax_tree.specs.declared.tree.ExprArm.{ExprArm}
use Rattle.syntax_tree.specs.declared.tree.ExprKind.{ExprKind, roll-ExprKind, out-ExprKind}
use Rattle.syntax_tree.specs.declared.tree.ExprKind.TheFolds as folds
use Rattle.syntax_tree.specs.declared.tree.ExprKind.TheOpen as level
use Rattle.syntax_tree.specs.declared.tree.ExprKind.TheOpen.{Arm-F, FuncBody-F}
use Rattle.syntax_tree.specs.declared.tree.ExprKind.TheViews as views
use Rattle.syntax_tree.specs.declared.tree.Field.{Field}
use Rattle.syntax_tree.specs.declared.tree.FieldKind.{FieldKind}
use Rattle.syntax_tree.specs.declared.tree.FuncBody.{FuncBody, roll-FuncBody, out-FuncBody}
use Rattle.syntax_tree.specs.declared.tree.Stat.{Stat}
use Rattle.syntax_tree.specs.declared.tree.StatKind.{StatKind, roll-StatKind, out-StatKind}
use Rattle.syntax_tree.specs.Bound.{bound, known}
use Rattle.syntax_tree.specs.Bulk as bulk
use Rattle.syntax_tree.specs.Bulk.{bulk_expr, bulk_stat, bulk_arm, bulk_expr_arm, bulk_func}
use Rattle.syntax_tree.specs.Faults.{fault}
use Rattle.syntax_tree.specs.Limits.{most_registers, most_bulk}
use Rattle.syntax_tree.specs.Lists.{total, or_zero}
use Rattle.syntax_tree.specs.Need.{need}
use Rattle.syntax_tree.specs.Rules as scopes
use Rattle.syntax_tree.specs.Rules.{rules_expr, rules_stat, rules_func, rules_arm, rules_expr_arm}
use Rattle.syntax_tree.specs.Sizes.{in_all, sizes_in_expr, sizes_in_stat, sizes_in_arm, sizes_in_expr_arm, sizes_in_func, size_faults, all_sizes}
use Rattle.syntax_tree.specs.Numbers.{numbered}
use Rattle.emit_expr.specs.Names as names
use Rattle.emit_expr.specs.Puts.{start}
use Rattle.node_code.specs.Nodes as nodes
use Rattle.node_code.specs.Nodes.{ExprCode, StatCode, ArmCode, ChoiceCode, FuncCode}
use Rattle.node_code.specs.Code as code
use Rattle.node_code.specs.Code.{expr_code, stat_code, arm_code, choice_code, func_code}
use Rattle.emit_laws.specs.Induction as induction
use Rattle.emit_laws.specs.Induction.{With}
use Rattle.scope_laws.specs.Sight.{Part, expr, stat, function, arm, expr_arm, block, nothing, ExprLevel, StatLevel, expr_parts, in_stat, visible}
use Rattle.scope_laws.proofs.Levels as levels
use Rattle.scope_laws.proofs.Numbering.{script_walk}
use Rattle.scope_laws.proofs.Walks.{Walk}
use Rattle.link_laws.specs.Laws.{CodeLinks}
use Rattle.link_laws.proofs.Numbers.{zone, span, zone_span, span_join, own_all}
use Rattle.link_laws.proofs.Adds as adds
use Rattle.link_laws.proofs.Adds.{Adds, both, fit, given, one, insn, jump}
use Rattle.link_laws.proofs.Parts.{Good, Goods, ran, after, list_good, each_good, exact_good, assigns_good, close_good, declared_good, text_good}
use Rattle.link_laws.proofs.Conditions as parts
use Rattle.link_laws.proofs.Conditions.{GoodChoice, GoodChoices, choices_le, single_good, many_good}
use Rattle.link_laws.proofs.Blocks as blocks
use Rattle.link_laws.proofs.Blocks.{Exits, GoodStat, Stats, stats_le, GoodStep, GoodArm, GoodArms, arms_le, block_good}
use Rattle.link_laws.proofs.Functions.{GoodFunc, func_good}
use Rattle.link_laws.proofs.SizeLevels as size_levels
use Rattle.link_laws.proofs.Walks.{first, cut, walk_le, walk_end, left, right}

-- a block of names of its own
block_walk : {n m : ℕ} (names : _) (body : List Stat) → Walk n (block names body ∷ []) m → Walk n (map stat body) m
block_walk {n} {m} names body w =
    let f = first w in
    subst (λ k. Walk n (map stat body) k) (walk_end f.rest) (f.inside nothing)

-- a number that no rule finds too great
few : (limit n : ℕ) (r : ScopeRule) (at : ℕ) → (if nat_lt limit n then fault r at else []) ≡ [] → n ≤ limit
few limit n r at e = which (nat_lt limit n) refl e
  where
    which : (t : Bool) → nat_lt limit n ≡ t → (if t then fault r at else []) ≡ [] → n ≤ limit
    which true p q = cc
    which false p q = grind (arith, nat_tests, p)

module _ (b : Bindings) where
  -- ---- what is shown of a part

  abbrev KindFits : ExprLevel → Type 0
  KindFits l = (id m : ℕ) (p : Place) (at : ℕ) → m ≤ 2 ^ 62 → Walk (id + 1) (expr_parts l) m →
      levels.at_expr_level scopes.steps l at p ≡ [] → size_levels.kind_level b l ≡ [] →
      Good id m (levels.at_expr_level (bulk.steps b) l) (levels.at_expr_level (code.steps b) l id)

  abbrev StatFits : StatLevel → Type 0
  StatFits l = (id m : ℕ) (p : Place) (at : ℕ) → m ≤ 2 ^ 62 → Walk (id + 1) (in_stat l nothing).parts m →
      (levels.at_stat_level scopes.steps l at).faults p ≡ [] → size_levels.stat_kind_level b l ≡ [] →
      GoodStat id m (levels.at_stat_level (bulk.steps b) l) p.in_loop (levels.at_stat_level (code.steps b) l id)

  abbrev ArmLevel : Type 0
  ArmLevel = Arm-F ExprKind FieldKind StatKind Arm Expr ExprArm Field FuncBody Stat

  abbrev FuncLevel : Type 0
  FuncLevel = FuncBody-F ExprKind FieldKind StatKind Arm Expr ExprArm Field FuncBody Stat

  abbrev ArmFits : ArmLevel → Type 0
  ArmFits l = (n m : ℕ) (p : Place) → m ≤ 2 ^ 62 → Walk n (expr l.cond ∷ block [] l.body ∷ []) m →
      rules_expr l.cond p ++ scopes.block (map rules_stat l.body) p ≡ [] → size_levels.arm_level b l ≡ [] →
      GoodArm n m (bulk_expr b l.cond + total (map (bulk_stat b) l.body)) p.in_loop (record { cond = expr_code b l.cond; body = map (stat_code b) l.body })

  abbrev FuncFits : FuncLevel → Type 0
  FuncFits l = (m : ℕ) → m ≤ 2 ^ 62 → Walk (l.id + 1) (map stat l.body) m →
      scopes.block (map rules_stat l.body) (record { in_loop = false; vararg = l.vararg; live = length l.params }) ≡ [] →
      size_levels.func_level b l ≡ [] → 8 + total (map (bulk_stat b) l.body) ≤ 30000 →
      GoodFunc l.id m (length (names.upvalues_at b l.id)) (code.func_run b l.id (length l.params) l.vararg (map (stat_code b) l.body))

  abbrev kind_ok : ExprKind → Type 0
  kind_ok k = KindFits (out-ExprKind k)

  abbrev stat_kind_ok : StatKind → Type 0
  stat_kind_ok k = StatFits (out-StatKind k)

  abbrev arm_ok : Arm → Type 0
  arm_ok a = ArmFits (out-Arm a)

  abbrev func_ok : FuncBody → Type 0
  func_ok f = FuncFits (out-FuncBody f)

  abbrev expr_ok : Expr → Type 0
  expr_ok e = (n m : ℕ) (p : Place) → m ≤ 2 ^ 62 → Walk n (expr e ∷ []) m → rules_expr e p ≡ [] → sizes_in_expr b e ≡ [] →
      Good n m (bulk_expr b e) (expr_code b e)

  abbrev choice_ok : ExprArm → Type 0
  choice_ok a = (n m : ℕ) (p : Place) → m ≤ 2 ^ 62 → Walk n (expr_arm a ∷ []) m → rules_expr_arm a p ≡ [] → sizes_in_expr_arm b a ≡ [] →
      GoodChoice n m (bulk_expr_arm b a) (choice_code b a)

  abbrev stat_ok : Stat → Type 0
  stat_ok s = (n m : ℕ) (p : Place) → m ≤ 2 ^ 62 → Walk n (stat s ∷ []) m → (rules_stat s).faults p ≡ [] → sizes_in_stat b s ≡ [] →
      GoodStat n m (bulk_stat b s) p.in_loop (stat_code b s)

  -- ---- lists

  all_exprs : (es : List (With expr_ok)) (n m : ℕ) (p : Place) → m ≤ 2 ^ 62 → Walk n (map expr (map (λ z. z.0) es)) m →
      scopes.all (map rules_expr (map (λ z. z.0) es)) p ≡ [] → in_all (map (λ e. (e, sizes_in_expr b e)) (map (λ z. z.0) es)) ≡ [] →
      Goods n (map (expr_code b) (map (λ z. z.0) es)) (total (map (bulk_expr b) (map (λ z. z.0) es))) m
  all_exprs [] n m p low w r s = walk_le w
  all_exprs (e ∷ es) n m p low w r s =
      let c = cut (expr e.0 ∷ []) (map expr (map (λ z. z.0) es)) w in
      let le = walk_le c.rest in
      record {
        k = c.k;
        here = bulk_expr b e.0;
        behind = total (map (bulk_expr b) (map (λ z. z.0) es));
        first = e.1 n c.k p (omega (arith, le, low)) c.first (left _ _ r) (left _ _ s);
        rest = all_exprs es c.k m p low c.rest (right (rules_expr e.0 p) _ r) (right (sizes_in_expr b e.0) _ s);
        total = omega arith;
      }

  all_stats : (ss : List (With stat_ok)) (n m : ℕ) (p : Place) → m ≤ 2 ^ 62 → Walk n (map stat (map (λ z. z.0) ss)) m →
      scopes.block (map rules_stat (map (λ z. z.0) ss)) p ≡ [] → in_all (map (λ e. (e, sizes_in_stat b e)) (map (λ z. z.0) ss)) ≡ [] →
      Stats n (map (stat_code b) (map (λ z. z.0) ss)) (total (map (bulk_stat b) (map (λ z. z.0) ss))) m p.in_loop
  all_stats [] n m p low w r s = walk_le w
  all_stats (e ∷ es) n m p low w r s =
      let c = cut (stat e.0 ∷ []) (map stat (map (λ z. z.0) es)) w in
      let le = walk_le c.rest in
      let behind : Place = record p { live = p.live + (rules_stat e.0).declares } in
      record {
        k = c.k;
        here = bulk_stat b e.0;
        behind = total (map (bulk_stat b) (map (λ z. z.0) es));
        first = e.1 n c.k p (omega (arith, le, low)) c.first (left _ _ r) (left _ _ s);
        rest = all_stats es c.k m behind low c.rest (right ((rules_stat e.0).faults p) _ r) (right (sizes_in_stat b e.0) _ s);
        total = omega arith;
      }

  arm_at : (a : Arm) → arm_ok a → (n m : ℕ) (p : Place) → m ≤ 2 ^ 62 → Walk n (arm a ∷ []) m → rules_arm a p ≡ [] → sizes_in_arm b a ≡ [] →
      GoodArm n m (bulk_arm b a) p.in_loop (arm_code b a)
  arm_at a h n m p low w r s =
      let f = first w in
      let walk : Walk n (expr (out-Arm a).cond ∷ block [] (out-Arm a).body ∷ []) m = subst (λ k. Walk n
      (expr (out-Arm a).cond ∷ block [] (out-Arm a).body ∷ []) k) (walk_end f.rest) (f.inside nothing) in
      let ruled = ap (λ (g : scopes.Part). g p) (sym (levels.arm_is scopes.steps a)) ∙ r in
      let sized = sym (size_levels.arm_is b a) ∙ s in
      let g = h n m p low walk ruled sized in
      subst (λ x. GoodArm n m x p.in_loop (arm_code b a)) (sym (levels.arm_is (bulk.steps b) a))
      (subst (λ (x : ArmCode). GoodArm n m (bulk_expr b (out-Arm a).cond + total (map (bulk_stat b) (out-Arm a).body)) p.in_loop x)
      (sym (levels.arm_is (code.steps b) a)) g)

  all_arms : (l : List (With arm_ok)) (n m : ℕ) (p : Place) → m ≤ 2 ^ 62 → Walk n (map arm (map (λ z. z.0) l)) m →
      scopes.all (map rules_arm (map (λ z. z.0) l)) p ≡ [] → in_all (map (λ e. (e, sizes_in_arm b e)) (map (λ z. z.0) l)) ≡ [] →
      GoodArms n (map (arm_code b) (map (λ z. z.0) l)) (total (map (bulk_arm b) (map (λ z. z.0) l))) m p.in_loop
  all_arms [] n m p low w r s = walk_le w
  all_arms (e ∷ es) n m p low w r s =
      let c = cut (arm e.0 ∷ []) (map arm (map (λ z. z.0) es)) w in
      let le = walk_le c.rest in
      record {
        k = c.k;
        here = bulk_arm b e.0;
        behind = total (map (bulk_arm b) (map (λ z. z.0) es));
        first = arm_at e.0 e.1 n c.k p (omega (arith, le, low)) c.first (left _ _ r) (left _ _ s);
        rest = all_arms es c.k m p low c.rest (right (rules_arm e.0 p) _ r) (right (sizes_in_arm b e.0) _ s);
        total = omega arith;
      }

  all_choices : (l : List (With choice_ok)) (n m : ℕ) (p : Place) → m ≤ 2 ^ 62 → Walk n (map expr_arm (map (λ z. z.0) l)) m →
      scopes.all (map rules_expr_arm (map (λ z. z.0) l)) p ≡ [] → in_all (map (λ e. (e, sizes_in_expr_arm b e)) (map (λ z. z.0) l)) ≡ [] →
      GoodChoices n (map (choice_code b) (map (λ z. z.0) l)) (total (map (bulk_expr_arm b) (map (λ z. z.0) l))) m
  all_choices [] n m p low w r s = walk_le w
  all_choices (e ∷ es) n m p low w r s =
      let c = cut (expr_arm e.0 ∷ []) (map expr_arm (map (λ z. z.0) es)) w in
      let le = walk_le c.rest in
      record {
        k = c.k;
        here = bulk_expr_arm b e.0;
        behind = total (map (bulk_expr_arm b) (map (λ z. z.0) es));
        first = e.1 n c.k p (omega (arith, le, low)) c.first (left _ _ r) (left _ _ s);
        rest = all_choices es c.k m p low c.rest (right (rules_expr_arm e.0 p) _ r) (right (sizes_in_expr_arm b e.0) _ s);
        total = omega arith;
      }

  -- ---- functions

  captured_count : (o : Option (List ℕ)) → length (unwrap_or o []) ≡ or_zero (option_map length o)
  captured_count None = refl
  captured_count (Some l) = refl

  func_at : (f : FuncBody) → func_ok f → (n m : ℕ) → m ≤ 2 ^ 62 → Walk n (function f ∷ []) m → rules_func f ≡ [] → all_sizes b f ≡ [] →
      GoodFunc n m (bulk_func b f).made (func_code b f)
  func_at f h n m low w r s =
      let o = out-FuncBody f in
      let x = first w in
      let number : o.id ≡ n = x.number in
      let walk : Walk (o.id + 1) (map stat o.body) m = subst (λ k. Walk (o.id + 1) (map stat o.body) k) (walk_end x.rest)
      (subst (λ k. Walk (k + 1) (map stat o.body) x.k) (sym number) (x.inside nothing)) in
      let place : Place = record { in_loop = false; vararg = o.vararg; live = length o.params } in
      let ruled : scopes.block (map rules_stat o.body) place ≡ [] = right (scopes.too_many o.at 0 (length o.params)) _
      (sym (levels.func_is scopes.steps f) ∙ r) in
      let sized = sym (size_levels.func_is b f) ∙ right (size_faults b f) _ s in
      let big : bulk.bulk b f ≤ 30000 = few most_bulk (bulk.bulk b f) _ _ (right (if nat_lt most_registers (need f) then _ else []) _
      (left (size_faults b f) (sizes_in_func b f) s)) in
      let own : bulk.bulk b f ≡ 8 + total (map (bulk_stat b) o.body) = ap (λ (z : bulk.FuncBulk). z.own) (levels.func_is (bulk.steps b) f) in
      let made : (bulk_func b f).made ≡ length (names.upvalues_at b o.id) = ap (λ (z : bulk.FuncBulk). z.made) (levels.func_is (bulk.steps b) f) ∙
      sym (captured_count (slice_get b.upvalues o.id)) in
      let g = h m low walk ruled sized (omega (arith, big, own)) in
      let named : GoodFunc n m (length (names.upvalues_at b o.id)) (code.func_run b o.id (length o.params) o.vararg (map (stat_code b) o.body)) =
      subst (λ k. GoodFunc k m (length (names.upvalues_at b o.id)) (code.func_run b o.id (length o.params) o.vararg (map (stat_code b) o.body)))
      number g in
      subst (λ z. GoodFunc n m z (func_code b f)) (sym made)
      (subst (λ (z : FuncCode). GoodFunc n m (length (names.upvalues_at b o.id)) z) (sym (levels.func_is (code.steps b) f)) named)

  -- ---- the parts of the tree

  abbrev kind_with : Type 0
  kind_with = induction.kind_with kind_ok (λ _. Unit {0}) stat_kind_ok arm_ok expr_ok choice_ok (λ _. Unit {0}) func_ok stat_ok

  abbrev stat_kind_with : Type 0
  stat_kind_with = induction.stat_kind_with kind_ok (λ _. Unit {0}) stat_kind_ok arm_ok expr_ok choice_ok (λ _. Unit {0}) func_ok stat_ok

  abbrev kind_parts : kind_with → ExprLevel
  kind_parts y = induction.kind_parts kind_ok (λ _. Unit {0}) stat_kind_ok arm_ok expr_ok choice_ok (λ _. Unit {0}) func_ok stat_ok y

  abbrev stat_kind_parts : stat_kind_with → StatLevel
  stat_kind_parts y = induction.stat_kind_parts kind_ok (λ _. Unit {0}) stat_kind_ok arm_ok expr_ok choice_ok (λ _. Unit {0}) func_ok stat_ok y

  -- a node without code
  empty_good : (id m n : ℕ) → id < m → Good id m (6 + n) (nodes.single id (λ to d. d))
  empty_good id m n lt =
      single_good id m (6 + n) 0 lt (omega arith) (λ to d. d) (λ F to d. fit (adds.nothing F (Unit {0}) d) (λ l. omega arith) (omega arith))

  after_one : {id m : ℕ} {ps : List Part} → Walk (id + 1) ps m → id < m
  after_one w = let le = walk_le w in omega (arith, le)

  kind_good : (y : kind_with) → KindFits (kind_parts y)
  kind_good level.Nil id m p at low w r s =
      single_good id m 6 1 (after_one w) (omega arith) _ (λ F to d. fit (one F (Unit {0}) _ d refl) (λ l. omega arith) (omega arith))
  kind_good level.True id m p at low w r s =
      single_good id m 6 1 (after_one w) (omega arith) _ (λ F to d. fit (one F (Unit {0}) _ d refl) (λ l. omega arith) (omega arith))
  kind_good level.False id m p at low w r s =
      single_good id m 6 1 (after_one w) (omega arith) _ (λ F to d. fit (one F (Unit {0}) _ d refl) (λ l. omega arith) (omega arith))
  kind_good (level.Num v) id m p at low w r s = parts.number_is_good v id m (after_one w)
  kind_good (level.Str t) id m p at low w r s =
      single_good id m 6 1 (after_one w) (omega arith) _ (λ F to d. fit (text_good F (Unit {0}) t to d) (λ l. omega arith) (omega arith))
  kind_good level.Vararg id m p at low w r s =
      many_good id m 6 1 (after_one w) (omega arith) _ (λ F to results d. fit (one F (Unit {0}) _ d refl) (λ l. omega arith) (omega arith))
  kind_good (level.Name x) id m p at low w r s = parts.named_good b (names.bound_at b id) x id m 6 (after_one w) (omega arith)
  kind_good (level.Paren e) id m p at low w r s =
      parts.paren_good id m (bulk_expr b e.0) (6 + bulk_expr b e.0) (expr_code b e.0) (e.1 (id + 1) m p low w r s) (omega arith)
  kind_good (level.Unary z e) id m p at low w r s =
      parts.unary_good id m (bulk_expr b e.0) (6 + bulk_expr b e.0) (expr_code b e.0) (e.1 (id + 1) m p low w r s) (omega arith) z
  kind_good (level.Binary z x y) id m p at low w r s =
      let c = cut (expr x.0 ∷ []) (expr y.0 ∷ []) w in
      let le = walk_le c.rest in
      parts.binary_good id c.k m (bulk_expr b x.0) (bulk_expr b y.0) (6 + (bulk_expr b x.0 + bulk_expr b y.0)) (expr_code b x.0) (expr_code b y.0)
      (x.1 (id + 1) c.k p (omega (arith, le, low)) c.first (left _ _ r) (left _ _ s))
      (y.1 c.k m p low c.rest (right (rules_expr x.0 p) _ r) (right (sizes_in_expr b x.0) _ s)) (omega arith) low z
  kind_good (level.Concat es) id m p at low w r s =
      let codes = map (expr_code b) (map (λ z. z.0) es) in
      let all = total (map (bulk_expr b) (map (λ z. z.0) es)) in
      let g = all_exprs es (id + 1) m p low w r s in
      single_good id m (6 + all) (all + 1) (after_one w) (omega arith) _ (λ F to d. fit (both (each_good F (Unit {0}) (id + 1) codes all m g to d)
      (one F (Unit {0}) _ _ refl)) (λ l. omega arith) (omega arith))
  kind_good (level.ExprKind::Call f es) id m p at low w r s =
      let codes = map (expr_code b) (map (λ z. z.0) es) in
      let all = total (map (bulk_expr b) (map (λ z. z.0) es)) in
      let c = cut (expr f.0 ∷ []) (map expr (map (λ z. z.0) es)) w in
      let le = walk_le c.rest in
      let h = f.1 (id + 1) c.k p (omega (arith, le, low)) c.first (left _ _ r) (left _ _ s) in
      let g = all_exprs es c.k m p low c.rest (right (rules_expr f.0 p) _ r) (right (sizes_in_expr b f.0) _ s) in
      let room = h.room in
      many_good id m (6 + (bulk_expr b f.0 + all)) (h.words + all + 1) (after_one w) (omega (arith, room)) _
      (λ F to results d.
      fit (both (after F (Unit {0}) (id + 1) c.k m h.order le h.words all (h.words + all) (omega arith) d _ _
      (ran F (Unit {0}) (id + 1) c.k (bulk_expr b f.0) (expr_code b f.0) h to 2 d) (list_good F (Unit {0}) c.k codes all m g (to + 1) _))
      (one F (Unit {0}) _ _ refl)) (λ l. omega arith) (omega arith))
  kind_good (level.Function f) id m p at low w r s =
      let g = func_at f.0 f.1 (id + 1) m low w r s in
      single_good id m (6 + (bulk_func b f.0).made) (1 + (bulk_func b f.0).made) (after_one w) (omega arith) (func_code b f.0)
      (λ F to d. fit (g.run F to d) (λ l. omega arith) (omega arith))
  kind_good (level.ExprKind::If l e) id m p at low w r s =
      let all = total (map (bulk_expr_arm b) (map (λ z. z.0) l)) in
      let c = cut (map expr_arm (map (λ z. z.0) l)) (expr e.0 ∷ []) w in
      let le = walk_le c.rest in
      parts.if_good id c.k m all (bulk_expr b e.0) (6 + (all + bulk_expr b e.0)) (map (choice_code b) (map (λ z. z.0) l))
      (all_choices l (id + 1) c.k p (omega (arith, le, low)) c.first (left _ _ r) (left _ _ s)) (expr_code b e.0)
      (e.1 c.k m p low c.rest (right (scopes.all (map rules_expr_arm (map (λ z. z.0) l)) p) _ r)
      (right (in_all (map (λ e. (e, sizes_in_expr_arm b e)) (map (λ z. z.0) l))) _ s)) (omega arith) low
  kind_good (level.Index x y) id m p at low w r s = empty_good id m _ (after_one w)
  kind_good (level.Member x t) id m p at low w r s = empty_good id m _ (after_one w)
  kind_good (level.Method o t es) id m p at low w r s = empty_good id m _ (after_one w)
  kind_good (level.Table l) id m p at low w r s = empty_good id m _ (after_one w)
  kind_good (level.Interp l es) id m p at low w r s = empty_good id m _ (after_one w)

  -- what stands in the nodes behind the first
  inner : (id m l : ℕ) → id < m → span (id + 1) m l ≤ span id m l
  inner id m l lt = let x = own_all id m l lt in omega (arith, x)

  inner_zone : (id m l : ℕ) → id + 1 < m → zone (id + 1) m l ≤ span id m l
  inner_zone id m l lt =
      let x = own_all id m l (omega (arith, lt)) in
      let y = zone_span (id + 1) m l lt in
      omega (arith, x, y)

  -- what stands in the nodes from number k on
  behind : (id k m l : ℕ) → id + 1 ≤ k → k ≤ m → span k m l ≤ span id m l
  behind id k m l le le' = let x = span_join id k m l (omega (arith, le)) le' in omega (arith, x)

  -- each expression counts 6
  kind_counts : (l : ExprLevel) → 6 ≤ levels.at_expr_level (bulk.steps b) l
  kind_counts level.Nil = omega arith
  kind_counts level.True = omega arith
  kind_counts level.False = omega arith
  kind_counts (level.Num v) = omega arith
  kind_counts (level.Str t) = omega arith
  kind_counts level.Vararg = omega arith
  kind_counts (level.Name x) = omega arith
  kind_counts (level.Paren e) = omega arith
  kind_counts (level.Unary z e) = omega arith
  kind_counts (level.Binary z x y) = omega arith
  kind_counts (level.Concat es) = omega arith
  kind_counts (level.ExprKind::Call f es) = omega arith
  kind_counts (level.Function f) = omega arith
  kind_counts (level.ExprKind::If l e) = omega arith
  kind_counts (level.Index x y) = omega arith
  kind_counts (level.Member x t) = omega arith
  kind_counts (level.Method o t es) = omega arith
  kind_counts (level.Table l) = omega arith
  kind_counts (level.Interp l es) = omega arith

  expr_counts : (e : Expr) → 6 ≤ bulk_expr b e
  expr_counts e =
      subst (λ n. 6 ≤ n) (sym (levels.expr_is (bulk.steps b) e ∙ levels.kind_is (bulk.steps b) e.kind)) (kind_counts (out-ExprKind e.kind))

  list_counts : (es : List Expr) → 6 * length (map (expr_code b) es) ≤ total (map (bulk_expr b) es)
  list_counts [] = omega arith
  list_counts (e ∷ es) =
      let a = expr_counts e in
      let r = list_counts es in
      omega (arith, a, r)

  in_a_loop : (looped : Bool) (r : ScopeRule) (at : ℕ) → (if looped then [] else fault r at) ≡ [] → looped ≡ true
  in_a_loop true r at e = refl
  in_a_loop false r at e = cc

  stat_kind_good : (y : stat_kind_with) → StatFits (stat_kind_parts y)
  stat_kind_good (level.Local xs es) id m p at low w r s =
      let codes = map (expr_code b) (map (λ z. z.0) es) in
      let all = total (map (bulk_expr b) (map (λ z. z.0) es)) in
      let g = all_exprs es (id + 1) m p low w (left (scopes.all (map rules_expr (map (λ z. z.0) es)) p) _ r) s in
      let lt = after_one w in
      record {
        order = lt;
        run = λ F free l d.
            fit (both (exact_good F (Exits F p.in_loop l) (id + 1) codes all m g free (length xs) d)
            (declared_good F (Exits F p.in_loop l) (names.first_at b id) free (length xs) _)) (λ q. let x = inner id m q lt in omega (arith, x))
            (omega arith);
      }
  stat_kind_good (level.Assign ts es) id m p at low w r s =
      let targets = map (expr_code b) (map (λ z. z.0) ts) in
      let codes = map (expr_code b) (map (λ z. z.0) es) in
      let first_all = total (map (bulk_expr b) (map (λ z. z.0) ts)) in
      let all = total (map (bulk_expr b) (map (λ z. z.0) es)) in
      let c = cut (map expr (map (λ z. z.0) ts)) (map expr (map (λ z. z.0) es)) w in
      let le = walk_le c.first in
      let le' = walk_le c.rest in
      let g = all_exprs es c.k m p low c.rest (right (scopes.all (map rules_expr (map (λ z. z.0) ts)) p) _ r)
      (right (in_all (map (λ e. (e, sizes_in_expr b e)) (map (λ z. z.0) ts))) _ s) in
      let count = list_counts (map (λ z. z.0) ts) in
      record {
        order = after_one w;
        run = λ F free l d.
            fit (both (exact_good F (Exits F p.in_loop l) c.k codes all m g free (length targets) d)
            (assigns_good F (Exits F p.in_loop l) b targets free _)) (λ q. let e = behind id c.k m q le le' in omega (arith, e)) (omega (arith, count));
      }
  stat_kind_good (level.Compound z x y) id m p at low w r s =
      let c = cut (expr x.0 ∷ []) (expr y.0 ∷ []) w in
      let le = walk_le c.first in
      let le' = walk_le c.rest in
      let g = y.1 c.k m p low c.rest (right (rules_expr x.0 p) _ r) (right (sizes_in_expr b x.0) _ s) in
      let room = g.room in
      record {
        order = after_one w;
        run = λ F free l d.
            fit (blocks.update_good F (Exits F p.in_loop l) c.k m (bulk_expr b y.0) (expr_code b y.0) g b (expr_code b x.0).target z free d)
            (λ q. let a = zone_span c.k m q g.order in let e = behind id c.k m q le le' in omega (arith, a, e)) (omega (arith, room));
      }
  stat_kind_good (level.StatKind::Call e) id m p at low w r s =
      let g = e.1 (id + 1) m p low w r s in
      let room = g.room in
      record {
        order = after_one w;
        run = λ F free l d. fit (ran F (Exits F p.in_loop l) (id + 1) m (bulk_expr b e.0) (expr_code b e.0) g free 1 d)
            (λ q. inner_zone id m q g.order) (omega (arith, room));
      }
  stat_kind_good (level.Do ss) id m p at low w r s =
      let codes = map (stat_code b) (map (λ z. z.0) ss) in
      let all = total (map (bulk_stat b) (map (λ z. z.0) ss)) in
      let g = all_stats ss (id + 1) m p low (block_walk [] _ w) r s in
      let lt = after_one w in
      record {
        order = lt;
        run = λ F free l d. fit (block_good F (Exits F p.in_loop l) b (id + 1) codes all m p.in_loop g free l d (λ e. e)) (λ q. inner id m q lt)
            (omega arith);
      }
  stat_kind_good (level.While e ss) id m p at low w r s =
      let codes = map (stat_code b) (map (λ z. z.0) ss) in
      let all = total (map (bulk_stat b) (map (λ z. z.0) ss)) in
      let c = cut (expr e.0 ∷ []) (block [] (map (λ z. z.0) ss) ∷ []) w in
      let le = walk_le c.rest in
      let h = e.1 (id + 1) c.k p (omega (arith, le, low)) c.first (left _ _ r) (left _ _ s) in
      let g = all_stats ss c.k m (scopes.in_loop_of 0 p) low (block_walk [] _ c.rest) (right (rules_expr e.0 p) _ r) (right (sizes_in_expr b e.0) _ s) in
      record {
        order = after_one w;
        run = λ F free l d. given (blocks.while_good b id m low c.k (bulk_expr b e.0) all (expr_code b e.0) h codes g F free d) (λ x. tt);
      }
  stat_kind_good (level.Repeat ss e) id m p at low w r s =
      let codes = map (stat_code b) (map (λ z. z.0) ss) in
      let all = total (map (bulk_stat b) (map (λ z. z.0) ss)) in
      let c = cut (map stat (map (λ z. z.0) ss)) (expr e.0 ∷ []) w in
      let le = walk_le c.rest in
      let g = all_stats ss (id + 1) c.k (scopes.in_loop_of 0 p) (omega (arith, le, low)) c.first (left _ _ r) (left _ _ s) in
      let h = e.1 c.k m p low c.rest (right (scopes.block (map rules_stat (map (λ z. z.0) ss)) (scopes.in_loop_of 0 p)) _ r)
      (right (in_all (map (λ e. (e, sizes_in_stat b e)) (map (λ z. z.0) ss))) _ s) in
      record {
        order = after_one w;
        run = λ F free l d. given (blocks.repeat_good b id m low c.k (bulk_expr b e.0) all codes g (expr_code b e.0) h F free d) (λ x. tt);
      }
  stat_kind_good (level.StatKind::If arms None) id m p at low w r s =
      let codes = map (arm_code b) (map (λ z. z.0) arms) in
      let all = total (map (bulk_arm b) (map (λ z. z.0) arms)) in
      let c = cut (map arm (map (λ z. z.0) arms)) [] w in
      let g = all_arms arms (id + 1) c.k p (let le = walk_le c.rest in omega (arith, le, low)) c.first (left _ _ r) (left _ _ s) in
      let h : GoodArms (id + 1) codes all m p.in_loop = subst (λ k. GoodArms (id + 1) codes all k p.in_loop) (walk_end c.rest) g in
      record {
        order = after_one w;
        run = λ F free l d. blocks.no_else_good F b id p.in_loop l codes all m h low free d;
      }
  stat_kind_good (level.StatKind::If arms (Some ss)) id m p at low w r s =
      let codes = map (arm_code b) (map (λ z. z.0) arms) in
      let all = total (map (bulk_arm b) (map (λ z. z.0) arms)) in
      let c = cut (map arm (map (λ z. z.0) arms)) (block [] (map (λ z. z.0) ss) ∷ []) w in
      let le = walk_le c.rest in
      let g = all_arms arms (id + 1) c.k p (omega (arith, le, low)) c.first (left _ _ r) (left _ _ s) in
      let h = all_stats ss c.k m p low (block_walk [] _ c.rest) (right (scopes.all (map rules_arm (map (λ z. z.0) arms)) p) _ r)
      (right (in_all (map (λ e. (e, sizes_in_arm b e)) (map (λ z. z.0) arms))) _ s) in
      record {
        order = after_one w;
        run = λ F free l d.
            blocks.else_good F b id p.in_loop l codes all c.k g (map (stat_code b) (map (λ z. z.0) ss))
            (total (map (bulk_stat b) (map (λ z. z.0) ss))) m h low free d;
      }
  stat_kind_good (level.NumFor t x y None ss) id m p at low w r s =
      let codes = map (stat_code b) (map (λ z. z.0) ss) in
      let all = total (map (bulk_stat b) (map (λ z. z.0) ss)) in
      let c1 = cut (expr x.0 ∷ []) (expr y.0 ∷ block (visible 0 (t ∷ [])) (map (λ z. z.0) ss) ∷ []) w in
      let c2 = cut (expr y.0 ∷ []) (block (visible 0 (t ∷ [])) (map (λ z. z.0) ss) ∷ []) c1.rest in
      let le1 = walk_le c1.rest in
      let le2 = walk_le c2.rest in
      let r1 = left ((rules_expr x.0 p ++ rules_expr y.0 p) ++ []) _ r in
      let r2 = left (rules_expr x.0 p ++ rules_expr y.0 p) [] r1 in
      let r3 = right (scopes.too_many at p.live 1) _ (right ((rules_expr x.0 p ++ rules_expr y.0 p) ++ []) _ r) in
      let s2 = right (sizes_in_expr b x.0) _ s in
      let g1 = x.1 (id + 1) c1.k p (omega (arith, le1, low)) c1.first (left _ _ r2) (left _ _ s) in
      let g2 = y.1 c1.k c2.k p (omega (arith, le2, low)) c2.first (right (rules_expr x.0 p) _ r2) (left _ _ s2) in
      let g4 = all_stats ss c2.k m (scopes.in_loop_of 1 p) low (block_walk (visible 0 (t ∷ [])) _ c2.rest) r3 (right (sizes_in_expr b y.0) _ s2) in
      record {
        order = after_one w;
        run = λ F free l d.
            given (blocks.num_for_good b id m low c1.k c2.k c2.k (bulk_expr b x.0) (bulk_expr b y.0) 0 all (expr_code b x.0) g1 (expr_code b y.0) g2
            None (omega arith) codes g4 F free d) (λ z. tt);
      }
  stat_kind_good (level.NumFor t x y (Some e) ss) id m p at low w r s =
      let codes = map (stat_code b) (map (λ z. z.0) ss) in
      let all = total (map (bulk_stat b) (map (λ z. z.0) ss)) in
      let c1 = cut (expr x.0 ∷ []) (expr y.0 ∷ expr e.0 ∷ block (visible 0 (t ∷ [])) (map (λ z. z.0) ss) ∷ []) w in
      let c2 = cut (expr y.0 ∷ []) (expr e.0 ∷ block (visible 0 (t ∷ [])) (map (λ z. z.0) ss) ∷ []) c1.rest in
      let c3 = cut (expr e.0 ∷ []) (block (visible 0 (t ∷ [])) (map (λ z. z.0) ss) ∷ []) c2.rest in
      let le1 = walk_le c1.rest in
      let le2 = walk_le c2.rest in
      let le3 = walk_le c3.rest in
      let r1 = left ((rules_expr x.0 p ++ rules_expr y.0 p) ++ rules_expr e.0 p) _ r in
      let r2 = left (rules_expr x.0 p ++ rules_expr y.0 p) (rules_expr e.0 p) r1 in
      let r3 = right (scopes.too_many at p.live 1) _ (right ((rules_expr x.0 p ++ rules_expr y.0 p) ++ rules_expr e.0 p) _ r) in
      let s2 = right (sizes_in_expr b x.0) _ s in
      let s3 = right (sizes_in_expr b y.0) _ s2 in
      let g1 = x.1 (id + 1) c1.k p (omega (arith, le1, low)) c1.first (left _ _ r2) (left _ _ s) in
      let g2 = y.1 c1.k c2.k p (omega (arith, le2, low)) c2.first (right (rules_expr x.0 p) _ r2) (left _ _ s2) in
      let g3 = e.1 c2.k c3.k p (omega (arith, le3, low)) c3.first (right (rules_expr x.0 p ++ rules_expr y.0 p) _ r1) (left _ _ s3) in
      let g4 = all_stats ss c3.k m (scopes.in_loop_of 1 p) low (block_walk (visible 0 (t ∷ [])) _ c3.rest) r3 (right (sizes_in_expr b e.0) _ s3) in
      record {
        order = after_one w;
        run = λ F free l d.
            given (blocks.num_for_good b id m low c1.k c2.k c3.k (bulk_expr b x.0) (bulk_expr b y.0) (bulk_expr b e.0) all (expr_code b x.0) g1
            (expr_code b y.0) g2 (Some (expr_code b e.0)) g3 codes g4 F free d) (λ z. tt);
      }
  stat_kind_good (level.GenFor ts es ss) id m p at low w r s =
      record {
        order = after_one w;
        run = λ F free l d. fit (adds.nothing F (Exits F p.in_loop l) d) (λ q. omega arith) (omega arith);
      }
  stat_kind_good (level.LocalFunction t f) id m p at low w r s =
      let g = func_at f.0 f.1 (id + 1) m low w (right (scopes.too_many at p.live 1) _ r) s in
      record {
        order = after_one w;
        run = λ F free l d.
            fit (both (adds.variable F (Exits F p.in_loop l) (names.first_at b id) free d) (given (g.run F free _) (λ x. tt))) (λ q. omega arith)
            (omega arith);
      }
  stat_kind_good (level.Return es) id m p at low w r s =
      let codes = map (expr_code b) (map (λ z. z.0) es) in
      let all = total (map (bulk_expr b) (map (λ z. z.0) es)) in
      let g = all_exprs es (id + 1) m p low w r s in
      let lt = after_one w in
      record {
        order = lt;
        run = λ F free l d.
            fit (both (list_good F (Exits F p.in_loop l) (id + 1) codes all m g free d) (one F (Exits F p.in_loop l) _ _ refl))
            (λ q. let x = inner id m q lt in omega (arith, x)) (omega arith);
      }
  stat_kind_good level.Break id m p at low w r s =
      let looped = in_a_loop p.in_loop _ _ r in
      record {
        order = after_one w;
        run = λ F free l d.
            let N = Exits F p.in_loop l in
            fit (both (close_good F N b l.start d) (jump F N _ _ _ refl refl (λ e. (e looped).0))) (λ q. omega arith) (omega arith);
      }
  stat_kind_good level.Continue id m p at low w r s =
      let looped = in_a_loop p.in_loop _ _ r in
      record {
        order = after_one w;
        run = λ F free l d.
            let N = Exits F p.in_loop l in
            fit (both (close_good F N b l.turn d) (jump F N _ _ _ refl refl (λ e. (e looped).1))) (λ q. omega arith) (omega arith);
      }

  -- ---- the induction

  kind_step : (y : kind_with) → kind_ok (induction.kind_of kind_ok (λ _. Unit {0}) stat_kind_ok arm_ok expr_ok choice_ok (λ _. Unit {0}) func_ok stat_ok y)
  kind_step y =
      let same : out-ExprKind (roll-ExprKind (kind_parts y)) ≡ kind_parts y = search (rules, folds.the_lemmas, views.the_lemmas) in
      subst KindFits (sym same) (kind_good y)

  stat_kind_step : (y : stat_kind_with) → stat_kind_ok (induction.stat_kind_of kind_ok (λ _. Unit {0}) stat_kind_ok arm_ok expr_ok choice_ok
      (λ _. Unit {0}) func_ok stat_ok y)
  stat_kind_step y =
      let same : out-StatKind (roll-StatKind (stat_kind_parts y)) ≡ stat_kind_parts y = search (rules, folds.the_lemmas, views.the_lemmas) in
      subst StatFits (sym same) (stat_kind_good y)

  arm_step : (y : induction.arm_with kind_ok (λ _. Unit {0}) stat_kind_ok arm_ok expr_ok choice_ok (λ _. Unit {0}) func_ok stat_ok)
      → arm_ok (induction.arm_of kind_ok (λ _. Unit {0}) stat_kind_ok arm_ok expr_ok choice_ok (λ _. Unit {0}) func_ok stat_ok y)
  arm_step y =
      let parts_of = induction.arm_parts kind_ok (λ _. Unit {0}) stat_kind_ok arm_ok expr_ok choice_ok (λ _. Unit {0}) func_ok stat_ok y in
      let same : out-Arm (roll-Arm parts_of) ≡ parts_of = search (rules, folds.the_lemmas, views.the_lemmas) in
      let here : ArmFits parts_of = λ n m p low w r s.
      let c = cut (expr y.cond.0 ∷ []) (block [] (map (λ z. z.0) y.body) ∷ []) w in
      let le = walk_le c.rest in
      record {
        k = c.k;
        tested = bulk_expr b y.cond.0;
        all = total (map (bulk_stat b) (map (λ z. z.0) y.body));
        cond = y.cond.1 n c.k p (omega (arith, le, low)) c.first (left _ _ r) (left _ _ s);
        body = all_stats y.body c.k m p low (block_walk [] _ c.rest) (right (rules_expr y.cond.0 p) _ r) (right (sizes_in_expr b y.cond.0) _ s);
        total = omega arith;
      } in
      subst ArmFits (sym same) here

  func_step : (y : induction.func_with kind_ok (λ _. Unit {0}) stat_kind_ok arm_ok expr_ok choice_ok (λ _. Unit {0}) func_ok stat_ok)
      → func_ok (induction.func_of kind_ok (λ _. Unit {0}) stat_kind_ok arm_ok expr_ok choice_ok (λ _. Unit {0}) func_ok stat_ok y)
  func_step y =
      let parts_of = induction.func_parts kind_ok (λ _. Unit {0}) stat_kind_ok arm_ok expr_ok choice_ok (λ _. Unit {0}) func_ok stat_ok y in
      let same : out-FuncBody (roll-FuncBody parts_of) ≡ parts_of = search (rules, folds.the_lemmas, views.the_lemmas) in
      let here : FuncFits parts_of = λ m low w r s short.
      func_good b y.id m (total (map (bulk_stat b) (map (λ z. z.0) y.body))) (length y.params) y.vararg (map (stat_code b) (map (λ z. z.0) y.body))
      (all_stats y.body (y.id + 1) m (record { in_loop = false; vararg = y.vararg; live = length y.params }) low w r s) short in
      subst FuncFits (sym same) here

  -- an expression by its kind
  renumbered : (n m bulk : ℕ) (c : ExprCode) → Good n m bulk c → Good n m bulk (record c { id = n })
  renumbered n m bulk c g = record {
    order = g.order;
    id = refl;
    words = g.words;
    room = g.room;
    run = g.run;
    jump = g.jump;
  }

  expr_from : (e : Expr) → kind_ok e.kind → expr_ok e
  expr_from e h n m p low w r s =
      let f = first w in
      let o = out-ExprKind e.kind in
      let walk : Walk (n + 1) (expr_parts o) m = subst (λ k. Walk (n + 1) (expr_parts o) k) (walk_end f.rest) (f.inside nothing) in
      let number : e.id ≡ n = f.number in
      let ruled : levels.at_expr_level scopes.steps o e.at p ≡ [] = ap (λ (g : ℕ → scopes.Part). g e.at p) (sym (levels.kind_is scopes.steps e.kind))
      ∙ ap (λ (g : scopes.Part). g p) (sym (levels.expr_is scopes.steps e)) ∙ r in
      let sized : size_levels.kind_level b o ≡ [] = sym (size_levels.kind_is b e.kind) ∙ sym (size_levels.expr_is b e) ∙ s in
      let g = renumbered n m _ _ (h n m p e.at low walk ruled sized) in
      let coded : expr_code b e ≡ record (levels.at_expr_level (code.steps b) o n) { id = n } = levels.expr_is (code.steps b) e ∙ ap
      (λ (f : ℕ → ExprCode). record (f e.id) { id = e.id }) (levels.kind_is (code.steps b) e.kind) ∙ ap
      (λ k. record (levels.at_expr_level (code.steps b) o k) { id = k }) number in
      let sum : bulk_expr b e ≡ levels.at_expr_level (bulk.steps b) o = levels.expr_is (bulk.steps b) e ∙ levels.kind_is (bulk.steps b) e.kind in
      subst (λ x. Good n m x (expr_code b e)) (sym sum) (subst (λ (x : ExprCode). Good n m (levels.at_expr_level (bulk.steps b) o) x) (sym coded) g)

  stat_from : (x : Stat) → stat_kind_ok x.kind → stat_ok x
  stat_from x h n m p low w r s =
      let f = first w in
      let o = out-StatKind x.kind in
      let walk : Walk (n + 1) (in_stat o nothing).parts m = subst (λ k. Walk (n + 1) (in_stat o nothing).parts k) (walk_end f.rest) (f.inside nothing) in
      let number : x.id ≡ n = f.number in
      let ruled : (levels.at_stat_level scopes.steps o x.at).faults p ≡ [] = ap (λ (g : ℕ → scopes.StatRules). (g x.at).faults p)
      (sym (levels.stat_kind_is scopes.steps x.kind)) ∙ ap (λ (g : scopes.StatRules). g.faults p) (sym (levels.stat_is scopes.steps x)) ∙ r in
      let sized : size_levels.stat_kind_level b o ≡ [] = sym (size_levels.stat_kind_is b x.kind) ∙ sym (size_levels.stat_is b x) ∙ s in
      let g = h n m p x.at low walk ruled sized in
      let coded : stat_code b x ≡ levels.at_stat_level (code.steps b) o n = levels.stat_is (code.steps b) x ∙ ap (λ (f : ℕ → StatCode). f x.id)
      (levels.stat_kind_is (code.steps b) x.kind) ∙ ap (levels.at_stat_level (code.steps b) o) number in
      let sum : bulk_stat b x ≡ levels.at_stat_level (bulk.steps b) o = levels.stat_is (bulk.steps b) x ∙ levels.stat_kind_is (bulk.steps b) x.kind in
      subst (λ z. GoodStat n m z p.in_loop (stat_code b x)) (sym sum) (subst (λ (z : StatCode). GoodStat n m (levels.at_stat_level (bulk.steps b) o)
      p.in_loop z) (sym coded) g)

  choice_from : (a : ExprArm) → expr_ok a.cond → expr_ok a.value → choice_ok a
  choice_from a hc hv n m p low w r s =
      let f = first w in
      let walk : Walk n (expr a.cond ∷ expr a.value ∷ []) m = subst (λ k. Walk n (expr a.cond ∷ expr a.value ∷ []) k) (walk_end f.rest) (f.inside nothing) in
      let c = cut (expr a.cond ∷ []) (expr a.value ∷ []) walk in
      let le = walk_le c.rest in
      let ruled : rules_expr a.cond p ++ rules_expr a.value p ≡ [] = ap (λ (g : scopes.Part). g p) (sym (levels.expr_arm_is scopes.steps a)) ∙ r in
      let sized : sizes_in_expr b a.cond ++ sizes_in_expr b a.value ≡ [] = sym (size_levels.expr_arm_is b a) ∙ s in
      let g : GoodChoice n m (bulk_expr b a.cond + bulk_expr b a.value) (record { cond = expr_code b a.cond; value = expr_code b a.value }) = record {
        k = c.k;
        tested = bulk_expr b a.cond;
        chosen = bulk_expr b a.value;
        cond = hc n c.k p (omega (arith, le, low)) c.first (left _ _ ruled) (left _ _ sized);
        value = hv c.k m p low c.rest (right (rules_expr a.cond p) _ ruled) (right (sizes_in_expr b a.cond) _ sized);
        total = omega arith;
      } in
      subst (λ z. GoodChoice n m z (choice_code b a)) (sym (levels.expr_arm_is (bulk.steps b) a))
      (subst (λ (z : ChoiceCode). GoodChoice n m (bulk_expr b a.cond + bulk_expr b a.value) z) (sym (levels.expr_arm_is (code.steps b) a)) g)

  steps_good : induction.Steps kind_ok (λ _. Unit {0}) stat_kind_ok arm_ok expr_ok choice_ok (λ _. Unit {0}) func_ok stat_ok
  steps_good = record {
    kind = kind_step;
    field_kind = λ _. tt;
    stat_kind = stat_kind_step;
    arm = arm_step;
    expr = λ y. expr_from (induction.expr_of kind_ok (λ _. Unit {0}) stat_kind_ok arm_ok expr_ok choice_ok (λ _. Unit {0}) func_ok stat_ok y) y.kind.1;
    expr_arm = λ y. choice_from (induction.expr_arm_of kind_ok (λ _. Unit {0}) stat_kind_ok arm_ok expr_ok choice_ok (λ _. Unit {0}) func_ok stat_ok
        y) y.cond.1 y.value.1;
    field = λ _. tt;
    func = func_step;
    stat = λ y. stat_from (induction.stat_of kind_ok (λ _. Unit {0}) stat_kind_ok arm_ok expr_ok choice_ok (λ _. Unit {0}) func_ok stat_ok y) y.kind.1;
  }

  pub func_fits : (f : FuncBody) (n m : ℕ) → m ≤ 2 ^ 62 → Walk n (function f ∷ []) m → rules_func f ≡ [] → all_sizes b f ≡ [] →
      GoodFunc n m (bulk_func b f).made (func_code b f)
  func_fits f =
      func_at f (induction.all_func kind_ok (λ _. Unit {0}) stat_kind_ok arm_ok expr_ok choice_ok (λ _. Unit {0}) func_ok stat_ok steps_good f)

-- ---- a script

pub code_links : CodeLinks
code_links main sound low =
    let tree = numbered main in
    let b = bound tree in
    let rest = right (known tree).faults _ sound in
    let f = func_fits b tree.main 0 tree.nodes low (script_walk main) (left (rules_func tree.main) _ rest) (right (rules_func tree.main) _ rest) in
    (f.run (λ l. false) 0 start).protos tt
