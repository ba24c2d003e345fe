-- A function of a script that breaks no rule has few upvalues: by induction over the tree.
use Rattle.std.proofs.Common.{◌≡◌, ℕ, zero, suc, ◌+◌, ◌≤◌, Bool, true, false, List, [], ◌∷◌, ◌++◌, length, map, drop, Some, None, refl, sym, ap, ◌∙◌, subst, arith, rules, length-drop}
use Rattle.std.specs.Prelude.{slice_get, slice_set, unwrap_or}
use Rattle.byte_text.specs.declared.fixed.StrId.{StrId}
use Rattle.syntax_tree.specs.declared.notes.Capture.{Capture}
use Rattle.syntax_tree.specs.declared.notes.Note.{Note}
use Rattle.syntax_tree.specs.declared.tree.Arm.{Arm, roll-Arm, out-Arm}
use Rattle.syntax_tree.specs.declared.tree.Expr.{Expr}
use Rattle.syntax_tree.specs.declared.tree.ExprArm.{ExprArm}
use Rattle.syntax_tree.specs.declared.tree.ExprKind.{ExprKind}
use Rattle.syntax_tree.specs.declared.tree.ExprKind.TheFolds as folds
use Rattle.syntax_tree.specs.declared.tree.ExprKind.TheOpen as level
use Rattle.syntax_tree.specs.declared.tree.ExprKind.TheViews as views
use Rattle.syntax_tree.specs.declared.tree.Field.{Field}
use Rattle.syntax_tree.specs.declared.tree.FieldKind.{FieldKind}
use Rattle.syntax_tree.specs.declared.tree.FuncBody.{FuncBody, roll-FuncBody, out-FuncBody}
use Rattle.syntax_tree.specs.declared.tree.Stat.{Stat}
use Rattle.syntax_tree.specs.declared.tree.StatKind.{StatKind}
use Rattle.syntax_tree.specs.Bound.{known}
use Rattle.syntax_tree.specs.Captures.{variables, captures, at_first, too_many}
use Rattle.syntax_tree.specs.Names as names
use Rattle.syntax_tree.specs.Names.{Known, Part, KindNames}
use Rattle.syntax_tree.specs.Numbers.{numbered}
use Rattle.emit_laws.specs.Induction as induction
use Rattle.emit_laws.specs.Induction.{With}
use Rattle.scope_laws.proofs.Levels as levels
use Rattle.upvalue_laws.specs.Laws.{UpvaluesAreFew}

-- no function whose note is there has many upvalues
abbrev AllFew : List Note → Type 0
AllFew [] = Unit {0}
AllFew (n ∷ ns) = (length n.upvalues ≤ 200) × AllFew ns

left : {A : Type 0} (xs ys : List A) → xs ++ ys ≡ [] → xs ≡ []
left [] ys e = refl
left (x ∷ xs) ys e = cc

right : {A : Type 0} (xs ys : List A) → xs ++ ys ≡ [] → ys ≡ []
right [] ys e = e
right (x ∷ xs) ys e = cc

few_last : (ns : List Note) (n : Note) → AllFew ns → length n.upvalues ≤ 200 → AllFew (ns ++ n ∷ [])
few_last [] n h le = (le, tt)
few_last (m ∷ ns) n h le = (h.0, few_last ns n h.1 le)

few_set : (ns : List Note) (place : ℕ) (n : Note) → AllFew ns → length n.upvalues ≤ 200 → AllFew (slice_set ns place n)
few_set [] place n h le = tt
few_set (m ∷ ns) zero n h le = (le, h.1)
few_set (m ∷ ns) (suc place) n h le = (h.0, few_set ns place n h.1 le)

few_at : (ns : List Note) (place : ℕ) → AllFew ns → length (unwrap_or (slice_get (map (λ (n : Note). n.upvalues) ns) place) []) ≤ 200
few_at [] place h = omega arith
few_at (n ∷ ns) zero h = h.0
few_at (n ∷ ns) (suc place) h = few_at ns place h.1

-- ---- what a part makes of what is known

-- where no rule is broken behind it, none was before, and few upvalues stay few
record Ok (k t : Known) : Type 0 where
  before : t.faults ≡ [] → k.faults ≡ []
  behind : t.faults ≡ [] → AllFew k.notes → AllFew t.notes

abbrev Keeps : Part → Type 0
Keeps f = (k : Known) → Ok k (f k)

-- which changes neither notes nor faults
nothing : (k t : Known) → t.faults ≡ k.faults → t.notes ≡ k.notes → Ok k t
nothing k t e f = record { before = λ none. sym e ∙ none; behind = λ none h. subst AllFew (sym f) h }

both : (k t u : Known) → Ok k t → Ok t u → Ok k u
both k t u p q = record { before = λ none. p.before (q.before none); behind = λ none h. q.behind none (p.behind (q.before none) h) }

both_parts : (f g : Part) → Keeps f → Keeps g → Keeps (λ k. g (f k))
both_parts f g p q k = both k (f k) (g (f k)) (p k) (q (f k))

plain_ok : (at : ℕ) → Keeps (names.plain at)
plain_ok at k = record { before = λ none. none; behind = λ none h. few_last k.notes _ h (omega arith) }

named_ok : (at : ℕ) (x : StrId) (target : Bool) → Keeps (names.named at x target)
named_ok at x target k = record { before = λ none. none; behind = λ none h. few_last k.notes _ h (omega arith) }

locals_ok : (xs : List StrId) → Keeps (names.locals xs)
locals_ok [] k = nothing k k refl refl
locals_ok (x ∷ xs) k = both k (names.local x k) _ (nothing k (names.local x k) refl refl) (locals_ok xs (names.local x k))

visible_ok : (number : ℕ) (xs : List StrId) → Keeps (names.all_visible number xs)
visible_ok number [] k = nothing k k refl refl
visible_ok number (x ∷ xs) k =
    both k (names.visible number x k) _ (nothing k (names.visible number x k) refl refl) (visible_ok (number + 1) xs (names.visible number x k))

closed_ok : (f : Part) → Keeps f → Keeps (names.closed f)
closed_ok f h k = let r = h k in record { before = r.before; behind = r.behind }

looped_ok : (f : Part) → Keeps f → Keeps (names.looped f)
looped_ok f h k = let r = h (names.opened k) in record { before = r.before; behind = r.behind }

until_ok : (f : Part) → Keeps f → Keeps (names.until f)
until_ok f h k = let r = h k in record { before = λ none. r.before (left (f k).faults _ none); behind = λ none. r.behind (left (f k).faults _ none) }

few_names : (xs : List Capture) → at_first (drop 200 xs) ≡ [] → length (variables xs) ≤ 200
few_names xs e = by (drop 200 xs) refl e
  where
    same : (ys : List Capture) → length (variables ys) ≡ length ys
    same [] = refl
    same (y ∷ ys) = let r = same ys in omega (arith, r)

    by : (ys : List Capture) → drop 200 xs ≡ ys → at_first ys ≡ [] → length (variables xs) ≤ 200
    by [] is none = let n = ap length (sym is) ∙ length-drop 200 xs in let c = same xs in omega (arith, n, c)
    by (y ∷ ys) is none = cc

counted_ok : (at place first : ℕ) → Keeps (names.counted at place first)
counted_ok at place first k =
    let xs = captures first (drop 1 (drop place k.notes)) in
    record {
      before = λ none. left k.faults (too_many xs) none;
      behind = λ none h. few_set k.notes place _ h (few_names xs (right k.faults (too_many xs) none));
    }

function_ok : (id at : ℕ) (params : List StrId) (body : Part) → Keeps body → Keeps (names.function id at params body)
function_ok id at params body h k =
    let o = names.opened k in
    let p = names.plain at o in
    let q : Known = record p { func = id; first = length p.locals } in
    let l = names.locals params q in
    let into = names.enter id at params o in
    let p1 : Ok o p = plain_ok at o in
    let p2 : Ok o q = record { before = p1.before; behind = p1.behind } in
    let p3 : Ok o l = both o q l p2 (locals_ok params q) in
    let p4 : Ok o into = both o l into p3 (visible_ok (length p.locals) params l) in
    let p5 : Ok o (body into) = both o into (body into) p4 (h into) in
    let p6 = both o (body into) _ p5 (counted_ok at (length k.notes) (length k.locals) (body into)) in
    record { before = p6.before; behind = p6.behind }

-- ---- lists

abbrev AllKeep : List Part → Type 0
AllKeep [] = Unit {0}
AllKeep (f ∷ fs) = Keeps f × AllKeep fs

block_ok : (fs : List Part) → AllKeep fs → Keeps (names.block fs)
block_ok [] h k = nothing k k refl refl
block_ok (f ∷ fs) h k = both k (f k) _ (h.0 k) (block_ok fs h.1 (f k))

abbrev EachKeep : List (Bool → Part) → Type 0
EachKeep [] = Unit {0}
EachKeep (f ∷ fs) = ((target : Bool) → Keeps (f target)) × EachKeep fs

all_ok : (target : Bool) (fs : List (Bool → Part)) → EachKeep fs → Keeps (names.all target fs)
all_ok target [] h k = nothing k k refl refl
all_ok target (f ∷ fs) h k = both k (f target k) _ (h.0 target k) (all_ok target fs h.1 (f target k))

-- ---- the tree

record KindOk (n : KindNames) : Type 0 where
  own : (at : ℕ) (target : Bool) → Keeps (n.own at target)
  parts : Keeps n.parts

of_parts_ok : (f : Part) → Keeps f → KindOk (names.of_parts f)
of_parts_ok f h = record { own = λ at target. plain_ok at; parts = h }

none_ok : Keeps names.nothing
none_ok k = nothing k k refl refl

abbrev kind_ok : ExprKind → Type 0
kind_ok k = KindOk (names.names_kind k)

abbrev field_kind_ok : FieldKind → Type 0
field_kind_ok k = Keeps (levels.at_field_kind names.steps k)

abbrev stat_kind_ok : StatKind → Type 0
stat_kind_ok k = (at : ℕ) → Keeps (names.names_stat_kind k at)

abbrev arm_ok : Arm → Type 0
arm_ok a = Keeps (names.names_arm a)

abbrev expr_ok : Expr → Type 0
expr_ok e = (target : Bool) → Keeps (names.names_expr e target)

abbrev choice_ok : ExprArm → Type 0
choice_ok a = Keeps (names.names_expr_arm a)

abbrev field_ok : Field → Type 0
field_ok f = Keeps (names.names_field f)

abbrev func_ok : FuncBody → Type 0
func_ok f = Keeps (names.names_func f)

abbrev stat_ok : Stat → Type 0
stat_ok x = Keeps (names.names_stat x)

all_exprs : (es : List (With expr_ok)) → EachKeep (map names.names_expr (map (λ z. z.0) es))
all_exprs [] = tt
all_exprs (e ∷ es) = (e.1, all_exprs es)

all_stats : (ss : List (With stat_ok)) → AllKeep (map names.names_stat (map (λ z. z.0) ss))
all_stats [] = tt
all_stats (x ∷ ss) = (x.1, all_stats ss)

all_arms : (l : List (With arm_ok)) → AllKeep (map names.names_arm (map (λ z. z.0) l))
all_arms [] = tt
all_arms (a ∷ l) = (a.1, all_arms l)

all_choices : (l : List (With choice_ok)) → AllKeep (map names.names_expr_arm (map (λ z. z.0) l))
all_choices [] = tt
all_choices (a ∷ l) = (a.1, all_choices l)

all_fields : (l : List (With field_ok)) → AllKeep (map names.names_field (map (λ z. z.0) l))
all_fields [] = tt
all_fields (a ∷ l) = (a.1, all_fields l)

kind_good : (y : induction.kind_with kind_ok field_kind_ok stat_kind_ok arm_ok expr_ok choice_ok field_ok func_ok stat_ok)
    → KindOk (levels.at_expr_level names.steps (induction.kind_parts kind_ok field_kind_ok stat_kind_ok arm_ok expr_ok choice_ok field_ok func_ok stat_ok y))
kind_good level.Nil = of_parts_ok _ none_ok
kind_good level.True = of_parts_ok _ none_ok
kind_good level.False = of_parts_ok _ none_ok
kind_good (level.Num v) = of_parts_ok _ none_ok
kind_good (level.Str t) = of_parts_ok _ none_ok
kind_good level.Vararg = of_parts_ok _ none_ok
kind_good (level.Name x) = record { own = λ at target. named_ok at x target; parts = none_ok }
kind_good (level.Paren e) = of_parts_ok _ (e.1 false)
kind_good (level.Unary z e) = of_parts_ok _ (e.1 false)
kind_good (level.Binary z x y) = of_parts_ok _ (both_parts _ _ (x.1 false) (y.1 false))
kind_good (level.Concat es) = of_parts_ok _ (all_ok false _ (all_exprs es))
kind_good (level.Index x y) = of_parts_ok _ (both_parts _ _ (x.1 false) (y.1 false))
kind_good (level.Member x t) = of_parts_ok _ (x.1 false)
kind_good (level.ExprKind::Call f es) = of_parts_ok _ (both_parts _ _ (f.1 false) (all_ok false _ (all_exprs es)))
kind_good (level.Method o t es) = of_parts_ok _ (both_parts _ _ (o.1 false) (all_ok false _ (all_exprs es)))
kind_good (level.Table l) = of_parts_ok _ (block_ok _ (all_fields l))
kind_good (level.Function f) = of_parts_ok _ f.1
kind_good (level.ExprKind::If l e) = of_parts_ok _ (both_parts _ _ (block_ok _ (all_choices l)) (e.1 false))
kind_good (level.Interp ts es) = of_parts_ok _ (all_ok false _ (all_exprs es))

field_kind_good : (y : induction.field_kind_with kind_ok field_kind_ok stat_kind_ok arm_ok expr_ok choice_ok field_ok func_ok stat_ok)
    → Keeps (levels.at_field_level names.steps
    (induction.field_kind_parts kind_ok field_kind_ok stat_kind_ok arm_ok expr_ok choice_ok field_ok func_ok stat_ok y))
field_kind_good (level.Item e) = e.1 false
field_kind_good (level.Named x e) = e.1 false
field_kind_good (level.Keyed x y) = both_parts _ _ (x.1 false) (y.1 false)

stat_kind_good : (y : induction.stat_kind_with kind_ok field_kind_ok stat_kind_ok arm_ok expr_ok choice_ok field_ok func_ok stat_ok) (at : ℕ)
    → Keeps (levels.at_stat_level names.steps
    (induction.stat_kind_parts kind_ok field_kind_ok stat_kind_ok arm_ok expr_ok choice_ok field_ok func_ok stat_ok y) at)
stat_kind_good (level.Local xs es) at = λ k.
    let l = names.locals xs k in
    let v = names.all false (map names.names_expr (map (λ z. z.0) es)) l in
    both k v _ (both k l v (locals_ok xs k) (all_ok false _ (all_exprs es) l)) (visible_ok (length k.locals) xs v)
stat_kind_good (level.Assign ts es) at = both_parts _ _ (all_ok true _ (all_exprs ts)) (all_ok false _ (all_exprs es))
stat_kind_good (level.Compound z x y) at = both_parts _ _ (x.1 true) (y.1 false)
stat_kind_good (level.StatKind::Call e) at = e.1 false
stat_kind_good (level.Do ss) at = closed_ok _ (block_ok _ (all_stats ss))
stat_kind_good (level.While e ss) at = looped_ok _ (both_parts _ _ (e.1 false) (block_ok _ (all_stats ss)))
stat_kind_good (level.Repeat ss e) at = looped_ok _ (both_parts _ _ (block_ok _ (all_stats ss)) (until_ok _ (e.1 false)))
stat_kind_good (level.StatKind::If arms None) at = both_parts _ _ (block_ok _ (all_arms arms)) none_ok
stat_kind_good (level.StatKind::If arms (Some ss)) at = both_parts _ _ (block_ok _ (all_arms arms)) (closed_ok _ (block_ok _ (all_stats ss)))
stat_kind_good (level.NumFor t x y None ss) at = looped_ok _ (λ k.
    let l = names.local t k in
    let begun : Ok k l = nothing k l refl refl in
    let x1 = names.names_expr x.0 false l in
    let y1 = names.names_expr y.0 false x1 in
    let v = names.visible (length k.locals) t y1 in
    both k v _ (both k y1 v (both k l y1 begun (both l x1 y1 (x.1 false l) (y.1 false x1))) (nothing y1 v refl refl)) (block_ok _ (all_stats ss) v))
stat_kind_good (level.NumFor t x y (Some e) ss) at = looped_ok _ (λ k.
    let l = names.local t k in
    let begun : Ok k l = nothing k l refl refl in
    let x1 = names.names_expr x.0 false l in
    let y1 = names.names_expr y.0 false x1 in
    let e1 = names.names_expr e.0 false y1 in
    let v = names.visible (length k.locals) t e1 in
    both k v _ (both k e1 v (both k l e1 begun (both l y1 e1 (both l x1 y1 (x.1 false l) (y.1 false x1)) (e.1 false y1))) (nothing e1 v refl refl))
    (block_ok _ (all_stats ss) v))
stat_kind_good (level.GenFor xs es ss) at = looped_ok _ (λ k.
    let l = names.locals xs k in
    let v = names.all false (map names.names_expr (map (λ z. z.0) es)) l in
    let w = names.all_visible (length k.locals) xs v in
    both k w _ (both k v w (both k l v (locals_ok xs k) (all_ok false _ (all_exprs es) l)) (visible_ok (length k.locals) xs v)) (block_ok _ (all_stats ss) w))
stat_kind_good (level.LocalFunction t f) at = λ k.
    let r = f.1 (names.visible (length k.locals) t (names.local t k)) in
    record { before = r.before; behind = r.behind }
stat_kind_good (level.Return es) at = all_ok false _ (all_exprs es)
stat_kind_good level.Break at = none_ok
stat_kind_good level.Continue at = λ k. nothing k (names.leap at k) refl refl

expr_from : (e : Expr) → kind_ok e.kind → expr_ok e
expr_from e h target =
    subst (λ (f : Bool → Part). Keeps (f target)) (sym (levels.expr_is names.steps e)) (both_parts _ _ (h.own e.at target) h.parts)

stat_from : (x : Stat) → stat_kind_ok x.kind → stat_ok x
stat_from x h = subst Keeps (sym (levels.stat_is names.steps x)) (both_parts _ _ (plain_ok x.at) (h x.at))

steps_good : induction.Steps kind_ok field_kind_ok stat_kind_ok arm_ok expr_ok choice_ok field_ok func_ok stat_ok
steps_good = record {
  kind = λ y. subst KindOk (sym (levels.rolled_expr names.steps
      (induction.kind_parts kind_ok field_kind_ok stat_kind_ok arm_ok expr_ok choice_ok field_ok func_ok stat_ok y))) (kind_good y);
  field_kind = λ y. subst Keeps (sym (levels.rolled_field names.steps
      (induction.field_kind_parts kind_ok field_kind_ok stat_kind_ok arm_ok expr_ok choice_ok field_ok func_ok stat_ok y))) (field_kind_good y);
  stat_kind = λ y at. subst (λ (f : ℕ → Part). Keeps (f at)) (sym (levels.rolled_stat names.steps
      (induction.stat_kind_parts kind_ok field_kind_ok stat_kind_ok arm_ok expr_ok choice_ok field_ok func_ok stat_ok y))) (stat_kind_good y at);
  arm = arm_step;
  expr = λ y. expr_from (induction.expr_of kind_ok field_kind_ok stat_kind_ok arm_ok expr_ok choice_ok field_ok func_ok stat_ok y) y.kind.1;
  expr_arm = λ y. subst Keeps (sym (levels.expr_arm_is names.steps
      (induction.expr_arm_of kind_ok field_kind_ok stat_kind_ok arm_ok expr_ok choice_ok field_ok func_ok stat_ok y))) (both_parts _ _ (y.cond.1 false)
      (y.value.1 false));
  field = λ y. subst Keeps (sym (levels.field_is names.steps
      (induction.field_of kind_ok field_kind_ok stat_kind_ok arm_ok expr_ok choice_ok field_ok func_ok stat_ok y))) y.kind.1;
  func = func_step;
  stat = λ y. stat_from (induction.stat_of kind_ok field_kind_ok stat_kind_ok arm_ok expr_ok choice_ok field_ok func_ok stat_ok y) y.kind.1;
}
  where
    arm_step : (y : induction.arm_with kind_ok field_kind_ok stat_kind_ok arm_ok expr_ok choice_ok field_ok func_ok stat_ok)
        → arm_ok (induction.arm_of kind_ok field_kind_ok stat_kind_ok arm_ok expr_ok choice_ok field_ok func_ok stat_ok y)
    arm_step y =
        let parts_of = induction.arm_parts kind_ok field_kind_ok stat_kind_ok arm_ok expr_ok choice_ok field_ok func_ok stat_ok y in
        let same : out-Arm (roll-Arm parts_of) ≡ parts_of = search (rules, folds.the_lemmas, views.the_lemmas) in
        let here = both_parts (names.names_expr y.cond.0 false) _ (y.cond.1 false) (closed_ok _ (block_ok _ (all_stats y.body))) in
        subst Keeps (sym (levels.arm_is names.steps (roll-Arm parts_of)))
        (subst (λ a. Keeps (names.steps.arm (record { cond = names.names_expr a.cond; body = map names.names_stat a.body }))) (sym same) here)

    func_step : (y : induction.func_with kind_ok field_kind_ok stat_kind_ok arm_ok expr_ok choice_ok field_ok func_ok stat_ok)
        → func_ok (induction.func_of kind_ok field_kind_ok stat_kind_ok arm_ok expr_ok choice_ok field_ok func_ok stat_ok y)
    func_step y =
        let parts_of = induction.func_parts kind_ok field_kind_ok stat_kind_ok arm_ok expr_ok choice_ok field_ok func_ok stat_ok y in
        let same : out-FuncBody (roll-FuncBody parts_of) ≡ parts_of = search (rules, folds.the_lemmas, views.the_lemmas) in
        let here = function_ok y.id y.at y.params _ (block_ok _ (all_stats y.body)) in
        subst Keeps (sym (levels.func_is names.steps (roll-FuncBody parts_of)))
        (subst (λ f. Keeps (names.function f.id f.at f.params (names.block (map names.names_stat f.body)))) (sym same) here)

pub upvalues_are_few : UpvaluesAreFew
upvalues_are_few main sound number =
    let tree = numbered main in
    let k = names.start in
    let r = induction.all_func kind_ok field_kind_ok stat_kind_ok arm_ok expr_ok choice_ok field_ok func_ok stat_ok steps_good tree.main k in
    few_at (known tree).notes number (r.behind (left (known tree).faults _ sound) tt)
