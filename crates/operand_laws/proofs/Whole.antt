-- The code of each function fits the registers that the function needs: by induction over the tree.
use Rattle.std.proofs.Common.{◌≡◌, ℕ, ◌+◌, ◌-◌, ◌≤◌, max, Bool, true, false, ◌&&◌, IsTrue, List, [], ◌∷◌, ◌++◌, length, map, Some, None, nat_lt, if◌then◌else◌, refl, sym, ap, ◌∙◌, subst, arith, rules}
use Rattle.std.proofs.lemmas.Bool.Decides.{nat_tests}
use Rattle.syntax_tree.specs.declared.bindings.Bindings.{Bindings}
use Rattle.syntax_tree.specs.declared.fault.ScopeRule.{ScopeRule}
use Rattle.syntax_tree.specs.declared.tree.Arm.{Arm, roll-Arm, out-Arm}
use Rattle.syntax_tree.specs.declared.tree.Expr.{Expr}
use Rattle.syntax_tree.specs.declared.tree.ExprArm.{ExprArm}
use Rattle.syntax_tree.specs.declared.tree.ExprKind.{ExprKind, roll-ExprKind, out-ExprKind}
use Rattle.syntax_tree.specs.declared.tree.ExprKind.TheFolds as folds
use Rattle.syntax_tree.specs.declared.tree.ExprKind.TheOpen as level
use Rattle.syntax_tree.specs.declared.tree.ExprKind.TheOpen.{Arm-F, FuncBody-F}
use Rattle.syntax_tree.specs.declared.tree.ExprKind.TheViews as views
use Rattle.syntax_tree.specs.declared.tree.Field.{Field}
use Rattle.syntax_tree.specs.declared.tree.FieldKind.{FieldKind}
use Rattle.syntax_tree.specs.declared.tree.FuncBody.{FuncBody, roll-FuncBody, out-FuncBody}
use Rattle.syntax_tree.specs.declared.tree.Stat.{Stat}
use Rattle.syntax_tree.specs.declared.tree.StatKind.{StatKind, roll-StatKind, out-StatKind}
use Rattle.syntax_tree.specs.Bound.{bound, known}
use Rattle.syntax_tree.specs.Faults.{fault}
use Rattle.syntax_tree.specs.Limits.{most_registers}
use Rattle.syntax_tree.specs.Need as needs
use Rattle.syntax_tree.specs.Need.{need, need_expr, need_stat, need_arm, need_expr_arm, list_need, block_need, ExprNeed, StatNeed}
use Rattle.syntax_tree.specs.Numbers.{numbered}
use Rattle.syntax_tree.specs.Proper as forms
use Rattle.syntax_tree.specs.Proper.{Form, form_expr, proper_stat, proper_func, proper_arm, proper_expr_arm, all, all_proper, has_one, has_two}
use Rattle.syntax_tree.specs.Rules.{rules_func}
use Rattle.syntax_tree.specs.Sizes.{in_all, sizes_in_expr, sizes_in_stat, sizes_in_arm, sizes_in_expr_arm, sizes_in_func, size_faults, all_sizes}
use Rattle.emit_expr.specs.Names as names
use Rattle.emit_expr.specs.Puts.{start, label}
use Rattle.node_code.specs.Nodes as nodes
use Rattle.node_code.specs.Nodes.{ExprCode, StatCode, ArmCode, ChoiceCode, FuncCode}
use Rattle.node_code.specs.Lists as lists
use Rattle.node_code.specs.Code as code
use Rattle.node_code.specs.Code.{expr_code, stat_code, arm_code, choice_code, func_code}
use Rattle.emit_laws.specs.Induction as induction
use Rattle.emit_laws.specs.Induction.{With}
use Rattle.scope_laws.specs.Sight.{ExprLevel, StatLevel}
use Rattle.scope_laws.proofs.Levels as levels
use Rattle.link_laws.proofs.SizeLevels as size_levels
use Rattle.link_laws.proofs.Walks.{left, right}
use Rattle.operand_laws.specs.Laws.{OperandsFit}
use Rattle.operand_laws.proofs.Instructions as insns
use Rattle.operand_laws.proofs.States.{Fine, insn, branch, place, variable, declared_fine, close_fine}
use Rattle.operand_laws.proofs.Uses as uses
use Rattle.operand_laws.proofs.Uses.{Good, Goods, list_room, list_fine, each_fine, exact_fine, assigns_fine, count_fits, single_good, many_good, text_fine, GoodChoice, GoodChoices}
use Rattle.operand_laws.proofs.Bodies as bodies
use Rattle.operand_laws.proofs.Bodies.{IsLoop, GoodStat, Stats, GoodArm, GoodArms, GoodFunc, func_fine}

-- a number that no rule finds too great
few : (limit n : ℕ) (r : ScopeRule) (at : ℕ) → (if nat_lt limit n then fault r at else []) ≡ [] → n ≤ limit
few limit n r at e = which (nat_lt limit n) refl e
  where
    which : (t : Bool) → nat_lt limit n ≡ t → (if t then fault r at else []) ≡ [] → n ≤ limit
    which true p q = cc
    which false p q = grind (arith, nat_tests, p)

-- both of two tests hold
one : (a b : Bool) → IsTrue (a && b) → IsTrue a
one true b h = refl
one false b h = cc

other : (a b : Bool) → IsTrue (a && b) → IsTrue b
other true b h = h
other false b h = cc

two_or_more : (X : Type 0) (xs : List X) → IsTrue (has_two xs) → 2 ≤ length xs
two_or_more X [] h = cc
two_or_more X (x ∷ []) h = cc
two_or_more X (x ∷ (y ∷ xs)) h = omega arith

module _ (b : Bindings) where
  -- ---- what is shown of a part

  abbrev KindFits : ExprLevel → Type 0
  KindFits l = (id : ℕ) → IsTrue (levels.at_expr_level forms.steps l).proper → size_levels.kind_level b l ≡ [] →
      Good (levels.at_expr_level needs.steps l).need (levels.at_expr_level (code.steps b) l id)

  abbrev StatFits : StatLevel → Type 0
  StatFits l = (id : ℕ) → IsTrue (levels.at_stat_level forms.steps l) → size_levels.stat_kind_level b l ≡ [] →
      GoodStat (levels.at_stat_level needs.steps l) (levels.at_stat_level (code.steps b) l id)

  abbrev ArmLevel : Type 0
  ArmLevel = Arm-F ExprKind FieldKind StatKind Arm Expr ExprArm Field FuncBody Stat

  abbrev FuncLevel : Type 0
  FuncLevel = FuncBody-F ExprKind FieldKind StatKind Arm Expr ExprArm Field FuncBody Stat

  abbrev ArmFits : ArmLevel → Type 0
  ArmFits l = IsTrue ((form_expr l.cond).proper && all (map proper_stat l.body)) → size_levels.arm_level b l ≡ [] →
      GoodArm (max (need_expr l.cond).need (block_need (map need_stat l.body))) (record { cond = expr_code b l.cond; body = map (stat_code b) l.body })

  abbrev FuncFits : FuncLevel → Type 0
  FuncFits l = (f : FuncBody) → (out-FuncBody f).id ≡ l.id → need f ≡ length l.params + block_need (map need_stat l.body) → need f ≤ 250 →
      IsTrue (all (map proper_stat l.body)) → size_levels.func_level b l ≡ [] →
      GoodFunc (code.func_run b l.id (length l.params) l.vararg (map (stat_code b) l.body))

  abbrev kind_ok : ExprKind → Type 0
  kind_ok k = KindFits (out-ExprKind k)

  abbrev stat_kind_ok : StatKind → Type 0
  stat_kind_ok k = StatFits (out-StatKind k)

  abbrev arm_ok : Arm → Type 0
  arm_ok a = ArmFits (out-Arm a)

  abbrev func_ok : FuncBody → Type 0
  func_ok f = FuncFits (out-FuncBody f)

  abbrev expr_ok : Expr → Type 0
  expr_ok e = IsTrue (form_expr e).proper → sizes_in_expr b e ≡ [] → Good (need_expr e).need (expr_code b e)

  abbrev choice_ok : ExprArm → Type 0
  choice_ok a = IsTrue (proper_expr_arm a) → sizes_in_expr_arm b a ≡ [] → GoodChoice (need_expr_arm a) (choice_code b a)

  abbrev stat_ok : Stat → Type 0
  stat_ok s = IsTrue (proper_stat s) → sizes_in_stat b s ≡ [] → GoodStat (need_stat s) (stat_code b s)

  -- ---- lists

  all_exprs : (es : List (With expr_ok)) → IsTrue (all_proper (map form_expr (map (λ z. z.0) es))) → in_all (map (λ e. (e, sizes_in_expr b e)) (map (λ z. z.0) es)) ≡ [] →
      Goods (map (expr_code b) (map (λ z. z.0) es)) (map need_expr (map (λ z. z.0) es))
  all_exprs [] r s = tt
  all_exprs (e ∷ es) r s = (e.1 (one _ _ r) (left _ _ s), all_exprs es (other (form_expr e.0).proper _ r) (right (sizes_in_expr b e.0) _ s))

  all_stats : (ss : List (With stat_ok)) → IsTrue (all (map proper_stat (map (λ z. z.0) ss))) → in_all (map (λ e. (e, sizes_in_stat b e)) (map (λ z. z.0) ss)) ≡ [] →
      Stats (map (stat_code b) (map (λ z. z.0) ss)) (map need_stat (map (λ z. z.0) ss))
  all_stats [] r s = tt
  all_stats (e ∷ es) r s = (e.1 (one _ _ r) (left _ _ s), all_stats es (other (proper_stat e.0) _ r) (right (sizes_in_stat b e.0) _ s))

  arm_at : (a : Arm) → arm_ok a → IsTrue (proper_arm a) → sizes_in_arm b a ≡ [] → GoodArm (need_arm a) (arm_code b a)
  arm_at a h r s =
      let formed = subst IsTrue (levels.arm_is forms.steps a) r in
      let g = h formed (sym (size_levels.arm_is b a) ∙ s) in
      subst (λ x. GoodArm x (arm_code b a)) (sym (levels.arm_is needs.steps a))
      (subst (λ (x : ArmCode). GoodArm (max (need_expr (out-Arm a).cond).need (block_need (map need_stat (out-Arm a).body))) x) (sym (levels.arm_is (code.steps b) a)) g)

  all_arms : (l : List (With arm_ok)) → IsTrue (all (map proper_arm (map (λ z. z.0) l))) → in_all (map (λ e. (e, sizes_in_arm b e)) (map (λ z. z.0) l)) ≡ [] →
      GoodArms (map (arm_code b) (map (λ z. z.0) l)) (map need_arm (map (λ z. z.0) l))
  all_arms [] r s = tt
  all_arms (e ∷ es) r s = (arm_at e.0 e.1 (one _ _ r) (left _ _ s), all_arms es (other (proper_arm e.0) _ r) (right (sizes_in_arm b e.0) _ s))

  all_choices : (l : List (With choice_ok)) → IsTrue (all (map proper_expr_arm (map (λ z. z.0) l))) → in_all (map (λ e. (e, sizes_in_expr_arm b e)) (map (λ z. z.0) l)) ≡ [] →
      GoodChoices (map (choice_code b) (map (λ z. z.0) l)) (map need_expr_arm (map (λ z. z.0) l))
  all_choices [] r s = tt
  all_choices (e ∷ es) r s = (e.1 (one _ _ r) (left _ _ s), all_choices es (other (proper_expr_arm e.0) _ r) (right (sizes_in_expr_arm b e.0) _ s))

  -- ---- functions

  func_at : (f : FuncBody) → func_ok f → IsTrue (proper_func f) → all_sizes b f ≡ [] → GoodFunc (func_code b f)
  func_at f h r s =
      let o = out-FuncBody f in
      let formed = subst IsTrue (levels.func_is forms.steps f) r in
      let sized = sym (size_levels.func_is b f) ∙ right (size_faults b f) _ s in
      let small : need f ≤ 250 = few most_registers (need f) _ _ (left _ _ (left (size_faults b f) (sizes_in_func b f) s)) in
      let g = h f refl (levels.func_is needs.steps f) small formed sized in
      subst GoodFunc (sym (levels.func_is (code.steps b) f)) g

  -- ---- the parts of the tree

  abbrev kind_with : Type 0
  kind_with = induction.kind_with kind_ok (λ _. Unit {0}) stat_kind_ok arm_ok expr_ok choice_ok (λ _. Unit {0}) func_ok stat_ok

  abbrev stat_kind_with : Type 0
  stat_kind_with = induction.stat_kind_with kind_ok (λ _. Unit {0}) stat_kind_ok arm_ok expr_ok choice_ok (λ _. Unit {0}) func_ok stat_ok

  abbrev kind_parts : kind_with → ExprLevel
  kind_parts y = induction.kind_parts kind_ok (λ _. Unit {0}) stat_kind_ok arm_ok expr_ok choice_ok (λ _. Unit {0}) func_ok stat_ok y

  abbrev stat_kind_parts : stat_kind_with → StatLevel
  stat_kind_parts y = induction.stat_kind_parts kind_ok (λ _. Unit {0}) stat_kind_ok arm_ok expr_ok choice_ok (λ _. Unit {0}) func_ok stat_ok y

  -- a node without code
  empty_good : (n id : ℕ) → 1 ≤ n → Good n (nodes.single id (λ to d. d))
  empty_good n id some = single_good n id (λ to d. d) some (λ count func to d most le f. f)

  same_length : {X Y Z : Type 0} (g : X → Y) (h : X → Z) (xs : List X) → length (map g xs) ≡ length (map h xs)
  same_length g h [] = refl
  same_length g h (x ∷ xs) = let e = same_length g h xs in omega (arith, e)

  kind_good : (y : kind_with) → KindFits (kind_parts y)
  kind_good level.Nil id r s =
      single_good 1 id _ (omega arith) (λ count func to d most le f. insn count func _ d (insns.load_nil count most to le) f)
  kind_good level.True id r s =
      single_good 1 id _ (omega arith) (λ count func to d most le f. insn count func _ d (insns.load_bool count most to 1 0 le (omega arith) (omega arith)) f)
  kind_good level.False id r s =
      single_good 1 id _ (omega arith) (λ count func to d most le f. insn count func _ d (insns.load_bool count most to 0 0 le (omega arith) (omega arith)) f)
  kind_good (level.Num v) id r s = uses.number_good v id
  kind_good (level.Str t) id r s = single_good 1 id _ (omega arith) (λ count func to d most le f. text_fine count func most t to d le f)
  kind_good level.Vararg id r s =
      many_good 1 id _ (omega arith) (λ count func to results d most le le' f. insn count func _ d (insns.varargs count most to results le le') f)
  kind_good (level.Name x) id r s = uses.named_good b (names.bound_at b id) x id
  kind_good (level.Paren e) id r s = uses.paren_good (need_expr e.0).need (expr_code b e.0) (e.1 r s) id
  kind_good (level.Unary z e) id r s = uses.unary_good (need_expr e.0).need (expr_code b e.0) (e.1 r s) id z
  kind_good (level.Binary z x y) id r s =
      let form = one (forms.stands_between z && (form_expr x.0).proper) (form_expr y.0).proper r in
      let last = other (forms.stands_between z && (form_expr x.0).proper) (form_expr y.0).proper r in
      uses.binary_good (need_expr x.0).need (need_expr y.0).need (expr_code b x.0) (expr_code b y.0) (x.1 (other (forms.stands_between z) _ form) (left _ _ s)) (y.1 last (right (sizes_in_expr b x.0) _ s)) id z
  kind_good (level.Concat es) id r s =
      let exprs = map (λ z. z.0) es in
      let codes = map (expr_code b) exprs in
      let ns = map need_expr exprs in
      let two = two_or_more Form (map form_expr exprs) (one _ _ r) in
      let g = all_exprs es (other (has_two (map form_expr exprs)) _ r) s in
      let count_is = same_length form_expr (expr_code b) exprs in
      let room = list_room codes ns g 0 (omega (arith, two, count_is)) in
      single_good (list_need ns) id _ (omega (arith, room, two, count_is))
      (λ count func to d most le f.
      insn count func _ _ (insns.concat count most to to (to + length codes - 1) (omega (arith, le, room, two, count_is)) (omega (arith, le, room, two, count_is)) (omega (arith, le, room, two, count_is)))
      (each_fine count func most codes ns g to 0 to (omega arith) le d f))
  kind_good (level.ExprKind::Call e es) id r s =
      let exprs = map (λ z. z.0) es in
      let codes = map (expr_code b) exprs in
      let ns = map need_expr exprs in
      let h = e.1 (one _ _ r) (left _ _ s) in
      let g = all_exprs es (other (form_expr e.0).proper _ r) (right (sizes_in_expr b e.0) _ s) in
      many_good (max (need_expr e.0).need (1 + list_need ns)) id _ (omega arith)
      (λ count func to results d most le le' f.
      let own : to + 1 ≤ count = omega (arith, le) in
      let counts = count_fits count func most codes (to + 1) own (λ some. let room = list_room codes ns g 0 some in omega (arith, le, room)) in
      insn count func _ _ (insns.call count most to (lists.count_of codes) results own counts.0 counts.1 le')
      (list_fine count func most codes ns g (to + 1) 0 (to + 1) (omega arith) (omega (arith, le)) _ (h.run count func to 2 d most (omega (arith, le)) (omega (arith, own)) f)))
  kind_good (level.Function f) id r s = single_good 1 id (func_code b f.0) (omega arith) (λ count func to d most le g. func_at f.0 f.1 r s count func to d most le g)
  kind_good (level.ExprKind::If l e) id r s =
      let form = one (has_one (map proper_expr_arm (map (λ z. z.0) l)) && all (map proper_expr_arm (map (λ z. z.0) l))) (form_expr e.0).proper r in
      let last = other (has_one (map proper_expr_arm (map (λ z. z.0) l)) && all (map proper_expr_arm (map (λ z. z.0) l))) (form_expr e.0).proper r in
      uses.if_good (map (choice_code b) (map (λ z. z.0) l)) (map need_expr_arm (map (λ z. z.0) l))
      (all_choices l (other (has_one (map proper_expr_arm (map (λ z. z.0) l))) _ form) (left _ _ s)) (need_expr e.0).need (expr_code b e.0)
      (e.1 last (right (in_all (map (λ e. (e, sizes_in_expr_arm b e)) (map (λ z. z.0) l))) _ s)) id
  kind_good (level.Index x y) id r s = empty_good _ id (omega arith)
  kind_good (level.Member x t) id r s = empty_good _ id (x.1 r s).some
  kind_good (level.Method o t es) id r s = empty_good _ id (omega arith)
  kind_good (level.Table l) id r s = empty_good _ id (omega arith)
  kind_good (level.Interp l es) id r s = empty_good _ id (omega arith)

  -- ---- statements

  stat_kind_good : (y : stat_kind_with) → StatFits (stat_kind_parts y)
  stat_kind_good (level.Local xs es) id r s =
      let exprs = map (λ z. z.0) es in
      let codes = map (expr_code b) exprs in
      let ns = map need_expr exprs in
      let g = all_exprs es (other (has_one xs) _ r) s in
      record {
        declares = refl;
        run = λ count func free l d most le loop f.
            declared_fine count func most b (names.first_at b id) free (length xs) _ (omega (arith, le)) (exact_fine count func most codes ns g free 0 free (length xs) (omega arith) (omega (arith, le)) (omega (arith, le)) d f);
      }
  stat_kind_good (level.Assign ts es) id r s =
      let targets = map (λ z. z.0) ts in
      let exprs = map (λ z. z.0) es in
      let codes = map (expr_code b) exprs in
      let ns = map need_expr exprs in
      let proper = other (has_one (map form_expr targets) && forms.all_targets (map form_expr targets) && all_proper (map form_expr targets) && has_one (map form_expr exprs)) (all_proper (map form_expr exprs)) r in
      let g = all_exprs es proper (right (in_all (map (λ e. (e, sizes_in_expr b e)) targets)) _ s) in
      let count_is = same_length (expr_code b) need_expr targets in
      record {
        declares = refl;
        run = λ count func free l d most le loop f.
            assigns_fine count func most b (map (expr_code b) targets) free _ (omega (arith, le, count_is)) (exact_fine count func most codes ns g free 0 free (length (map (expr_code b) targets)) (omega arith) (omega (arith, le)) (omega (arith, le, count_is)) d f);
      }
  stat_kind_good (level.Compound z x y) id r s =
      let proper = other (forms.computes z && (form_expr x.0).target && (form_expr x.0).proper) (form_expr y.0).proper r in
      let g = y.1 proper (right (sizes_in_expr b x.0) _ s) in
      record {
        declares = refl;
        run = λ count func free l d most le loop f.
            bodies.update_fine count func most (need_expr y.0).need (expr_code b y.0) g b (expr_code b x.0).target z free d (omega (arith, le)) f;
      }
  stat_kind_good (level.StatKind::Call e) id r s =
      let g = e.1 (other (form_expr e.0).calls _ r) s in
      let some = g.some in
      record { declares = refl; run = λ count func free l d most le loop f. g.run count func free 1 d most le (omega (arith, le)) f }
  stat_kind_good (level.Do ss) id r s =
      record {
        declares = refl;
        run = λ count func free l d most le loop f.
            bodies.block_fine count func most b (map (stat_code b) (map (λ z. z.0) ss)) (map need_stat (map (λ z. z.0) ss)) (all_stats ss r s) free le l loop d f;
      }
  stat_kind_good (level.While e ss) id r s =
      record {
        declares = refl;
        run = λ count func free l d most le loop f.
            bodies.while_fine count func most b (map (stat_code b) (map (λ z. z.0) ss)) (map need_stat (map (λ z. z.0) ss)) (all_stats ss (other (form_expr e.0).proper _ r) (right (sizes_in_expr b e.0) _ s)) (need_expr e.0).need (expr_code b e.0) (e.1 (one _ _ r) (left _ _ s)) id free le d f;
      }
  stat_kind_good (level.Repeat ss e) id r s =
      record {
        declares = refl;
        run = λ count func free l d most le loop f.
            bodies.repeat_fine count func most b (map (stat_code b) (map (λ z. z.0) ss)) (map need_stat (map (λ z. z.0) ss)) (all_stats ss (one _ _ r) (left _ _ s)) (need_expr e.0).need (expr_code b e.0) (e.1 (other (all (map proper_stat (map (λ z. z.0) ss))) _ r) (right (in_all (map (λ e. (e, sizes_in_stat b e)) (map (λ z. z.0) ss))) _ s)) id free le d f;
      }
  stat_kind_good (level.StatKind::If arms None) id r s =
      let formed = one (has_one (map proper_arm (map (λ z. z.0) arms)) && all (map proper_arm (map (λ z. z.0) arms))) true r in
      let g = all_arms arms (other (has_one (map proper_arm (map (λ z. z.0) arms))) _ formed) (left _ _ s) in
      record {
        declares = refl;
        run = λ count func free l d most le loop f.
            place count func (label id 0) _ (bodies.arms_fine count func most b id free l loop false (map (arm_code b) (map (λ z. z.0) arms)) (map need_arm (map (λ z. z.0) arms)) g (omega (arith, le)) d f);
      }
  stat_kind_good (level.StatKind::If arms (Some ss)) id r s =
      let formed = one (has_one (map proper_arm (map (λ z. z.0) arms)) && all (map proper_arm (map (λ z. z.0) arms))) (all (map proper_stat (map (λ z. z.0) ss))) r in
      let last = other (has_one (map proper_arm (map (λ z. z.0) arms)) && all (map proper_arm (map (λ z. z.0) arms))) (all (map proper_stat (map (λ z. z.0) ss))) r in
      let g = all_arms arms (other (has_one (map proper_arm (map (λ z. z.0) arms))) _ formed) (left _ _ s) in
      let h = all_stats ss last (right (in_all (map (λ e. (e, sizes_in_arm b e)) (map (λ z. z.0) arms))) _ s) in
      record {
        declares = refl;
        run = λ count func free l d most le loop f.
            place count func (label id 0) _ (bodies.block_fine count func most b (map (stat_code b) (map (λ z. z.0) ss)) (map need_stat (map (λ z. z.0) ss)) h free (omega (arith, le)) l loop _ (bodies.arms_fine count func most b id free l loop true (map (arm_code b) (map (λ z. z.0) arms)) (map need_arm (map (λ z. z.0) arms)) g (omega (arith, le)) d f));
      }
  stat_kind_good (level.NumFor t x y None ss) id r s =
      let body = all (map proper_stat (map (λ z. z.0) ss)) in
      let three = one (((form_expr x.0).proper && (form_expr y.0).proper) && true) body r in
      let pair = one ((form_expr x.0).proper && (form_expr y.0).proper) true three in
      let last = other (((form_expr x.0).proper && (form_expr y.0).proper) && true) body r in
      let s2 = right (sizes_in_expr b x.0) _ s in
      record {
        declares = refl;
        run = λ count func free l d most le loop f.
            bodies.num_for_fine count func most b (need_expr x.0).need (need_expr y.0).need (expr_code b x.0) (expr_code b y.0) (x.1 (one _ _ pair) (left _ _ s)) (y.1 (other (form_expr x.0).proper _ pair) (left _ _ s2)) None None tt (map (stat_code b) (map (λ z. z.0) ss)) (map need_stat (map (λ z. z.0) ss)) (all_stats ss last (right (sizes_in_expr b y.0) _ s2)) id free le d f;
      }
  stat_kind_good (level.NumFor t x y (Some e) ss) id r s =
      let body = all (map proper_stat (map (λ z. z.0) ss)) in
      let three = one (((form_expr x.0).proper && (form_expr y.0).proper) && (form_expr e.0).proper) body r in
      let pair = one ((form_expr x.0).proper && (form_expr y.0).proper) (form_expr e.0).proper three in
      let by = other ((form_expr x.0).proper && (form_expr y.0).proper) (form_expr e.0).proper three in
      let last = other (((form_expr x.0).proper && (form_expr y.0).proper) && (form_expr e.0).proper) body r in
      let s2 = right (sizes_in_expr b x.0) _ s in
      let s3 = right (sizes_in_expr b y.0) _ s2 in
      record {
        declares = refl;
        run = λ count func free l d most le loop f.
            bodies.num_for_fine count func most b (need_expr x.0).need (need_expr y.0).need (expr_code b x.0) (expr_code b y.0) (x.1 (one _ _ pair) (left _ _ s)) (y.1 (other (form_expr x.0).proper _ pair) (left _ _ s2)) (Some (expr_code b e.0)) (Some (need_expr e.0)) (e.1 by (left _ _ s3)) (map (stat_code b) (map (λ z. z.0) ss)) (map need_stat (map (λ z. z.0) ss)) (all_stats ss last (right (sizes_in_expr b e.0) _ s3)) id free le d f;
      }
  stat_kind_good (level.GenFor ts es ss) id r s = record { declares = refl; run = λ count func free l d most le loop f. f }
  stat_kind_good (level.LocalFunction t f) id r s =
      record {
        declares = refl;
        run = λ count func free l d most le loop g.
            func_at f.0 f.1 r s count func free _ most le (variable count func (names.first_at b id) free d le g);
      }
  stat_kind_good (level.Return es) id r s =
      let exprs = map (λ z. z.0) es in
      let codes = map (expr_code b) exprs in
      let ns = map need_expr exprs in
      let g = all_exprs es r s in
      record {
        declares = refl;
        run = λ count func free l d most le loop f.
            let counts = count_fits count func most codes free (omega (arith, le)) (λ some. let room = list_room codes ns g 0 some in omega (arith, le, room)) in
            insn count func _ _ (insns.return_list count most free (lists.count_of codes) counts.0 counts.1) (list_fine count func most codes ns g free 0 free (omega arith) le d f);
      }
  stat_kind_good level.Break id r s =
      record { declares = refl; run = λ count func free l d most le loop f. branch count func _ _ _ (insns.jump count most) (close_fine count func most b l.start d loop.0 f) }
  stat_kind_good level.Continue id r s =
      record { declares = refl; run = λ count func free l d most le loop f. branch count func _ _ _ (insns.jump count most) (close_fine count func most b l.turn d loop.1 f) }

  -- ---- the induction

  kind_step : (y : kind_with) → kind_ok (induction.kind_of kind_ok (λ _. Unit {0}) stat_kind_ok arm_ok expr_ok choice_ok (λ _. Unit {0}) func_ok stat_ok y)
  kind_step y =
      let same : out-ExprKind (roll-ExprKind (kind_parts y)) ≡ kind_parts y = search (rules, folds.the_lemmas, views.the_lemmas) in
      subst KindFits (sym same) (kind_good y)

  stat_kind_step : (y : stat_kind_with) → stat_kind_ok (induction.stat_kind_of kind_ok (λ _. Unit {0}) stat_kind_ok arm_ok expr_ok choice_ok (λ _. Unit {0}) func_ok stat_ok y)
  stat_kind_step y =
      let same : out-StatKind (roll-StatKind (stat_kind_parts y)) ≡ stat_kind_parts y = search (rules, folds.the_lemmas, views.the_lemmas) in
      subst StatFits (sym same) (stat_kind_good y)

  arm_step : (y : induction.arm_with kind_ok (λ _. Unit {0}) stat_kind_ok arm_ok expr_ok choice_ok (λ _. Unit {0}) func_ok stat_ok) → arm_ok (induction.arm_of kind_ok (λ _. Unit {0}) stat_kind_ok arm_ok expr_ok choice_ok (λ _. Unit {0}) func_ok stat_ok y)
  arm_step y =
      let parts_of = induction.arm_parts kind_ok (λ _. Unit {0}) stat_kind_ok arm_ok expr_ok choice_ok (λ _. Unit {0}) func_ok stat_ok y in
      let same : out-Arm (roll-Arm parts_of) ≡ parts_of = search (rules, folds.the_lemmas, views.the_lemmas) in
      let here : ArmFits parts_of = λ r s.
      record {
        tested = (need_expr y.cond.0).need;
        needs = map need_stat (map (λ z. z.0) y.body);
        cond = y.cond.1 (one _ _ r) (left _ _ s);
        body = all_stats y.body (other (form_expr y.cond.0).proper _ r) (right (sizes_in_expr b y.cond.0) _ s);
        most = omega arith;
      } in
      subst ArmFits (sym same) here

  func_step : (y : induction.func_with kind_ok (λ _. Unit {0}) stat_kind_ok arm_ok expr_ok choice_ok (λ _. Unit {0}) func_ok stat_ok) → func_ok (induction.func_of kind_ok (λ _. Unit {0}) stat_kind_ok arm_ok expr_ok choice_ok (λ _. Unit {0}) func_ok stat_ok y)
  func_step y =
      let parts_of = induction.func_parts kind_ok (λ _. Unit {0}) stat_kind_ok arm_ok expr_ok choice_ok (λ _. Unit {0}) func_ok stat_ok y in
      let same : out-FuncBody (roll-FuncBody parts_of) ≡ parts_of = search (rules, folds.the_lemmas, views.the_lemmas) in
      let here : FuncFits parts_of = λ f number sum small r s.
      func_fine b f y.id (length y.params) y.vararg (map (stat_code b) (map (λ z. z.0) y.body)) (map need_stat (map (λ z. z.0) y.body)) (all_stats y.body r s) number sum small in
      subst FuncFits (sym same) here

  renumbered : (id n : ℕ) (c : ExprCode) → Good n c → Good n (record c { id = id })
  renumbered id n c g = record { some = g.some; run = g.run; jump = g.jump }

  expr_from : (e : Expr) → kind_ok e.kind → expr_ok e
  expr_from e h r s =
      let o = out-ExprKind e.kind in
      let form : form_expr e ≡ levels.at_expr_level forms.steps o = levels.expr_is forms.steps e ∙ levels.kind_is forms.steps e.kind in
      let formed = subst (λ (x : Form). IsTrue x.proper) form r in
      let sized : size_levels.kind_level b o ≡ [] = sym (size_levels.kind_is b e.kind) ∙ sym (size_levels.expr_is b e) ∙ s in
      let g = renumbered e.id _ _ (h e.id formed sized) in
      let coded : expr_code b e ≡ record (levels.at_expr_level (code.steps b) o e.id) { id = e.id } = levels.expr_is (code.steps b) e ∙ ap (λ (f : ℕ → ExprCode). record (f e.id) { id = e.id }) (levels.kind_is (code.steps b) e.kind) in
      let needed : need_expr e ≡ levels.at_expr_level needs.steps o = levels.expr_is needs.steps e ∙ levels.kind_is needs.steps e.kind in
      subst (λ (x : ExprNeed). Good x.need (expr_code b e)) (sym needed) (subst (λ (x : ExprCode). Good (levels.at_expr_level needs.steps o).need x) (sym coded) g)

  stat_from : (x : Stat) → stat_kind_ok x.kind → stat_ok x
  stat_from x h r s =
      let o = out-StatKind x.kind in
      let form : proper_stat x ≡ levels.at_stat_level forms.steps o = levels.stat_is forms.steps x ∙ levels.stat_kind_is forms.steps x.kind in
      let formed = subst IsTrue form r in
      let sized : size_levels.stat_kind_level b o ≡ [] = sym (size_levels.stat_kind_is b x.kind) ∙ sym (size_levels.stat_is b x) ∙ s in
      let g = h x.id formed sized in
      let coded : stat_code b x ≡ levels.at_stat_level (code.steps b) o x.id = levels.stat_is (code.steps b) x ∙ ap (λ (f : ℕ → StatCode). f x.id) (levels.stat_kind_is (code.steps b) x.kind) in
      let needed : need_stat x ≡ levels.at_stat_level needs.steps o = levels.stat_is needs.steps x ∙ levels.stat_kind_is needs.steps x.kind in
      subst (λ (z : StatNeed). GoodStat z (stat_code b x)) (sym needed) (subst (λ (z : StatCode). GoodStat (levels.at_stat_level needs.steps o) z) (sym coded) g)

  choice_from : (a : ExprArm) → expr_ok a.cond → expr_ok a.value → choice_ok a
  choice_from a hc hv r s =
      let formed = subst IsTrue (levels.expr_arm_is forms.steps a) r in
      let sized : sizes_in_expr b a.cond ++ sizes_in_expr b a.value ≡ [] = sym (size_levels.expr_arm_is b a) ∙ s in
      let g : GoodChoice (max (need_expr a.cond).need (need_expr a.value).need) (record { cond = expr_code b a.cond; value = expr_code b a.value }) = record {
        tested = (need_expr a.cond).need;
        chosen = (need_expr a.value).need;
        cond = hc (one _ _ formed) (left _ _ sized);
        value = hv (other (form_expr a.cond).proper _ formed) (right (sizes_in_expr b a.cond) _ sized);
        most = omega arith;
      } in
      subst (λ z. GoodChoice z (choice_code b a)) (sym (levels.expr_arm_is needs.steps a))
      (subst (λ (z : ChoiceCode). GoodChoice (max (need_expr a.cond).need (need_expr a.value).need) z) (sym (levels.expr_arm_is (code.steps b) a)) g)

  steps_good : induction.Steps kind_ok (λ _. Unit {0}) stat_kind_ok arm_ok expr_ok choice_ok (λ _. Unit {0}) func_ok stat_ok
  steps_good = record {
    kind = kind_step;
    field_kind = λ _. tt;
    stat_kind = stat_kind_step;
    arm = arm_step;
    expr = λ y. expr_from (induction.expr_of kind_ok (λ _. Unit {0}) stat_kind_ok arm_ok expr_ok choice_ok (λ _. Unit {0}) func_ok stat_ok y) y.kind.1;
    expr_arm = λ y. choice_from (induction.expr_arm_of kind_ok (λ _. Unit {0}) stat_kind_ok arm_ok expr_ok choice_ok (λ _. Unit {0}) func_ok stat_ok y) y.cond.1 y.value.1;
    field = λ _. tt;
    func = func_step;
    stat = λ y. stat_from (induction.stat_of kind_ok (λ _. Unit {0}) stat_kind_ok arm_ok expr_ok choice_ok (λ _. Unit {0}) func_ok stat_ok y) y.kind.1;
  }

  pub func_fits : (f : FuncBody) → IsTrue (proper_func f) → all_sizes b f ≡ [] → GoodFunc (func_code b f)
  func_fits f = func_at f (induction.all_func kind_ok (λ _. Unit {0}) stat_kind_ok arm_ok expr_ok choice_ok (λ _. Unit {0}) func_ok stat_ok steps_good f)

-- ---- a script

begin : Fine 1 0 start
begin = record { items = tt; variables = tt; named = refl; protos = tt }

pub operands_fit : OperandsFit
operands_fit main proper sound =
    let tree = numbered main in
    let b = bound tree in
    let rest = right (known tree).faults _ sound in
    (func_fits b tree.main proper (right (rules_func tree.main) _ rest) 1 0 0 start (omega arith) (omega arith) begin).protos
