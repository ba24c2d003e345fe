-- Lists of expressions: the values come to stand in registers one behind the other, and of the last expression all that are wanted.
use Rattle.std.proofs.Common.{◌≡◌, ℕ, zero, suc, ◌+◌, ◌-◌, ◌≤◌, Bool, true, false, List, [], ◌∷◌, ◌++◌, length, map, refl, sym, ap, ◌∙◌, arith, subst, append-nil, if◌then◌else◌}
use Rattle.std.proofs.lemmas.Bool.{ne_eqb}
use Rattle.syntax_tree.specs.declared.bindings.Bindings.{Bindings}
use Rattle.syntax_tree.specs.declared.tree.Expr.{Expr}
use Rattle.syntax_tree.specs.Need.{ExprNeed, need_expr, list_from, list_need}
use Rattle.op_words.specs.declared.insn.Insn.TheVariants as i
use Rattle.machine_meaning.specs.States as machine
use Rattle.emit_expr.specs.declared.draft.Emitter.{Emitter}
use Rattle.emit_expr.specs.Puts.{insn}
use Rattle.emit_laws.specs.Growing.{Grows}
use Rattle.emit_laws.proofs.Grows as grows
use Rattle.node_code.specs.Nodes.{ExprCode}
use Rattle.node_code.specs.Lists.{results_for, behind, last_from, list_run, count_of, nils, last_run, exact_run}
use Rattle.node_code.specs.Code.{expr_code}
use Rattle.scope_laws.specs.Sight.{Part, expr}
use Rattle.code_simulation.specs.Slots.{Slot, Temp}
use Rattle.code_simulation.specs.Relation.{Setting}
use Rattle.code_simulation.proofs.Along.{Here}
use Rattle.code_simulation.proofs.Parts.{AllRuns, ListRuns}
use Rattle.code_simulation.proofs.Registers.{wanted}
use Rattle.code_simulation.proofs.Values as values
use Rattle.code_simulation.proofs.Lists as lists
use Rattle.code_simulation.proofs.Lists.{LoadsNils, one_more}
use Rattle.compiled_runs.proofs.Places.{here, before}
use Rattle.compiled_runs.proofs.Standing.{Script}
use Rattle.compiled_runs.proofs.Nodes.{Runs, In, Stand, reads, As}
use Rattle.compiled_runs.proofs.Following.{value_grows, value_keeps, front, next, above}

-- ---- registers

-- with one register more held before them, some expressions need one more
need_more : (held : ℕ) (e : ExprNeed) (es : List ExprNeed) → list_from (held + 1) (e ∷ es) ≡ 1 + list_from held (e ∷ es)
need_more held e [] = omega arith
need_more held e (f ∷ es) = let h = need_more (held + 1) f es in omega (arith, h)

pub need_first : (e : ExprNeed) (es : List ExprNeed) → e.need ≤ list_need (e ∷ es)
need_first e es = omega arith

pub need_rest : (e f : ExprNeed) (es : List ExprNeed) → 1 + list_need (f ∷ es) ≤ list_need (e ∷ f ∷ es)
need_rest e f es = let h = need_more 0 f es in omega (arith, h)

-- ---- how many values there are

counts_one_more : (x y : ExprCode) (ys : List ExprCode) → one_more (count_of (y ∷ ys)) ≡ count_of (x ∷ y ∷ ys)
counts_one_more x y ys = by (last_from y.many ys)
  where
    by : (t : Bool) → one_more (if t then 0 else length (y ∷ ys) + 1) ≡ (if t then 0 else length (x ∷ y ∷ ys) + 1)
    by true = refl
    by false =
        let e : suc (length ys) + 1 ≡ suc (suc (length ys)) = omega arith in
        let f : suc (suc (suc (length ys))) ≡ suc (suc (length ys)) + 1 = omega arith in
        ap one_more e ∙ f

-- the last but one is wanted once, and a value that is wanted has a register
results_more : (n : ℕ) → results_for (suc n) ≡ 2
results_more n = ap (λ t. if t then 0 else 2) (ne_eqb (suc n) 0 (λ e. omega (arith, e)))

behind_one : (at n : ℕ) → behind at (suc n) ≡ at + 1
behind_one at n = ap (λ t. if t then at else at + 1) (ne_eqb (suc n) 0 (λ e. omega (arith, e)))

module _ (p : Setting) (most : ℕ) (b : Bindings) (whole : Emitter) (script : Script p b whole) where
  -- each expression's code does what the expression does
  abbrev pub AllHold : List Expr → Type 0
  AllHold [] = Unit {0}
  AllHold (e ∷ es) = As p most b whole script e (expr_code b e) × AllHold es

  abbrev pub codes : List Expr → List ExprCode
  codes es = map (expr_code b) es

  pub list_grows : (es : List Expr) (at : ℕ) (d : Emitter) → Grows d (list_run (codes es) at d)
  list_grows es at d = grows.list_good (codes es) (grows.exprs_are_good b es) at d d (grows.none d)

  pub exact_grows : (es : List Expr) (at n : ℕ) (d : Emitter) → Grows d (exact_run (codes es) at n d)
  exact_grows es at n d = grows.exact_good (codes es) (grows.exprs_are_good b es) at n d d (grows.none d)

  module _ (h : Here p most) (r : Runs p most b whole script h) where
    -- ---- all values

    -- of the last expression
    last_all : (e : Expr) → As p most b whole script e (expr_code b e) → (ps : List Part) (l : List Slot) (d : Emitter)
        → Stand p most b whole script h r (expr e ∷ ps) l d ((expr_code b e).run (length l) 0 d) (need_expr e).need
        → AllRuns p most e h l (here d) (here ((expr_code b e).run (length l) 0 d)) (count_of (expr_code b e ∷ [])) (λ vs. vs)
    last_all e a ps l d s = by (expr_code b e).many refl
      where
        by : (t : Bool) → (expr_code b e).many ≡ t
            → AllRuns p most e h l (here d) (here ((expr_code b e).run (length l) 0 d)) (if t then 0 else 2) (λ vs. vs)
        by true m = a.all m 0 h r ps l d s
        by false m =
            let same = a.same m (length l) 0 d in
            subst (λ (d2 : Emitter). AllRuns p most e h l (here d) (here d2) 2 (λ vs. vs)) (sym same)
            (lists.single_all p most e h l (here d) (here ((expr_code b e).run (length l) 2 d)) (a.single m)
            (a.value h r ps l d (subst (λ (d2 : Emitter). Stand p most b whole script h r (expr e ∷ ps) l d d2 (need_expr e).need) same s)))

    -- of a list, from the first free register on
    pub list_runs : (es : List Expr) → AllHold es → (ps : List Part) (l : List Slot) (d : Emitter)
        → Stand p most b whole script h r (map expr es ++ ps) l d (list_run (codes es) (length l) d) (list_need (map need_expr es))
        → ListRuns p most es h l (here d) (here (list_run (codes es) (length l) d)) (count_of (codes es)) (λ vs. vs)
    list_runs [] a ps l d s = lists.list_none p most h l (here d)
    list_runs (e ∷ []) a ps l d s =
        let d1 = (expr_code b e).run (length l) 0 d in
        lists.list_last p most e (count_of (expr_code b e ∷ [])) (λ vs. vs) h l (here d) (here d1)
        (last_all e a.0 ps l d
        (front p most b whole script h r (expr e ∷ ps) l d d1 d1 _ (need_expr e).need s (grows.none d1) (need_first (need_expr e) [])))
    list_runs (e ∷ f ∷ es) a ps l d whole_stands =
        subst (λ k. Stand p most b whole script h r (expr e ∷ map expr (f ∷ es) ++ ps) l d
        (list_run (codes (f ∷ es)) (length l + 1) ((expr_code b e).run (length l) k d)) (list_need (map need_expr (e ∷ f ∷ es)))
        → ListRuns p most (e ∷ f ∷ es) h l (here d) (here (list_run (codes (f ∷ es)) (length l + 1) ((expr_code b e).run (length l) k d)))
        (count_of (codes (e ∷ f ∷ es))) (λ vs. vs)) (sym (results_more (length (codes es))))
        (λ s.
        let d1 = (expr_code b e).run (length l) 2 d in
        let n = list_need (map need_expr (f ∷ es)) in
        let one : suc (length l) ≡ length l + 1 = omega arith in
        subst (λ c. ListRuns p most (e ∷ f ∷ es) h l (here d) (here (list_run (codes (f ∷ es)) (length l + 1) d1)) c (λ vs. vs))
        (counts_one_more (expr_code b e) (expr_code b f) (codes es))
        (lists.list_more p most e f es (count_of (codes (f ∷ es))) (λ vs. vs) (λ vs. vs) h l (here d) (here d1)
        (here (list_run (codes (f ∷ es)) (length l + 1) d1)) (λ v vs. refl)
        (a.0.value h r (map expr (f ∷ es) ++ ps) l d
        (front p most b whole script h r (expr e ∷ map expr (f ∷ es) ++ ps) l d d1 (list_run (codes (f ∷ es)) (length l + 1) d1) _ (need_expr e).need s
        (list_grows (f ∷ es) (length l + 1) d1) (need_first (need_expr e) (map need_expr (f ∷ es)))))
        (λ v.
        subst (λ m. Stand p most b whole script h r (map expr (f ∷ es) ++ ps) (Temp v ∷ l) d1 (list_run (codes (f ∷ es)) m d1) n
        → ListRuns p most (f ∷ es) h (Temp v ∷ l) (here d1) (here (list_run (codes (f ∷ es)) m d1)) (count_of (codes (f ∷ es))) (λ vs. vs)) one
        (list_runs (f ∷ es) a.1 ps (Temp v ∷ l) d1)
        (above p most b whole script h r e (map expr (f ∷ es) ++ ps) l d d1 (list_run (codes (f ∷ es)) (length l + 1) d1)
        (list_run (codes (f ∷ es)) (length l + 1) d1) _ n s (value_grows b e (length l) 2 d) (value_keeps b e (length l) 2 d)
        (grows.none (list_run (codes (f ∷ es)) (length l + 1) d1)) (need_rest (need_expr e) (need_expr f) (map need_expr es)) v)))) whole_stands

    -- of a list behind which no part follows
    pub list_alone : (es : List Expr) → AllHold es → (l : List Slot) (d : Emitter)
        → Stand p most b whole script h r (map expr es) l d (list_run (codes es) (length l) d) (list_need (map need_expr es))
        → ListRuns p most es h l (here d) (here (list_run (codes es) (length l) d)) (count_of (codes es)) (λ vs. vs)
    list_alone es a l d s =
        list_runs es a [] l d
        (subst (λ ps. Stand p most b whole script h r ps l d (list_run (codes es) (length l) d) (list_need (map need_expr es)))
        (sym (append-nil (map expr es))) s)

    -- ---- so many values

    -- nil in so many registers
    pub nils_load : (n at : ℕ) (d : Emitter) → In p most b whole script h r (nils at n d)
        → LoadsNils p most h (here d) at n (here (nils at n d))
    nils_load zero at d s = refl
    nils_load (suc n) at d s =
        let d1 = insn (i.LoadNil at) d in
        let one : at + 1 ≡ suc at = omega arith in (
          here d1,
          values.loads_nil (reads p most b whole script h r (i.LoadNil at) d
              (before r.final whole d1 (nils (at + 1) n d1) (grows.nils_good (at + 1) n d1 d1 (grows.none d1)) s)),
          subst (λ m. LoadsNils p most h (here d1) m n (here (nils (at + 1) n d1))) one (nils_load n (at + 1) d1 s),
        )

    -- of the last expression
    exact_last : (n : ℕ) (e : Expr) → As p most b whole script e (expr_code b e) → (ps : List Part) (l : List Slot) (d : Emitter)
        → Stand p most b whole script h r (expr e ∷ ps) l d (last_run (expr_code b e) (length l) n d) (need_expr e).need
        → ListRuns p most (e ∷ []) h l (here d) (here (last_run (expr_code b e) (length l) n d)) (suc n) (machine.adjusted n)
    exact_last n e a ps l d s = by (expr_code b e).many refl s
      where
        c : ExprCode
        c = expr_code b e

        ended : Bool → Emitter
        ended t = if t then c.run (length l) (n + 1) d else nils (length l + 1) (n - 1) (c.run (length l) 2 d)

        one_value : (n : ℕ) → c.many ≡ false
            → Stand p most b whole script h r (expr e ∷ ps) l d (nils (length l + 1) (n - 1) (c.run (length l) 2 d)) (need_expr e).need
            → ListRuns p most (e ∷ []) h l (here d) (here (nils (length l + 1) (n - 1) (c.run (length l) 2 d))) (suc n) (machine.adjusted n)
        one_value zero m s = lists.exact_dropped p most e h l (here d) (here (c.run (length l) 2 d)) (a.single m) (a.value h r ps l d s)
        one_value (suc n) m s =
            let d1 = c.run (length l) 2 d in
            let less : suc n - 1 ≡ n = omega arith in
            let one : length l + 1 ≡ suc (length l) = omega arith in
            lists.exact_single p most e n h l (here d) (here d1) (here (nils (length l + 1) (suc n - 1) d1)) (a.single m)
            (a.value h r ps l d
            (front p most b whole script h r (expr e ∷ ps) l d d1 (nils (length l + 1) (suc n - 1) d1) _ (need_expr e).need s
            (grows.nils_good (length l + 1) (suc n - 1) d1 d1 (grows.none d1)) (omega arith)))
            (subst (λ k. LoadsNils p most h (here d1) k n (here (nils (length l + 1) (suc n - 1) d1))) one
            (subst (λ k. LoadsNils p most h (here d1) (length l + 1) k (here (nils (length l + 1) (suc n - 1) d1))) less
            (nils_load (suc n - 1) (length l + 1) d1 s.inside)))

        by : (t : Bool) → c.many ≡ t → Stand p most b whole script h r (expr e ∷ ps) l d (ended t) (need_expr e).need
            → ListRuns p most (e ∷ []) h l (here d) (here (ended t)) (suc n) (machine.adjusted n)
        by true m s =
            let more : n + 1 ≡ suc n = omega arith in
            lists.exact_many p most e n h l (here d) (here (c.run (length l) (n + 1) d))
            (subst (λ k. AllRuns p most e h l (here d) (here (c.run (length l) (n + 1) d)) 0 (wanted k)) more (a.all m (n + 1) h r ps l d s))
        by false m s = one_value n m s

    -- of a list: nil where one is missing, and none of those that are too many
    pub exact_runs : (es : List Expr) → AllHold es → (n : ℕ) (ps : List Part) (l : List Slot) (d : Emitter)
        → Stand p most b whole script h r (map expr es ++ ps) l d (exact_run (codes es) (length l) n d) (list_need (map need_expr es))
        → ListRuns p most es h l (here d) (here (exact_run (codes es) (length l) n d)) (suc n) (machine.adjusted n)
    exact_runs [] a n ps l d s = lists.exact_none p most n h l (here d) (here (nils (length l) n d)) (nils_load n (length l) d s.inside)
    exact_runs (e ∷ []) a n ps l d s =
        let d1 = last_run (expr_code b e) (length l) n d in
        exact_last n e a.0 ps l d
        (front p most b whole script h r (expr e ∷ ps) l d d1 d1 _ (need_expr e).need s (grows.none d1) (need_first (need_expr e) []))
    exact_runs (e ∷ f ∷ es) a zero ps l d s =
        let d1 = (expr_code b e).run (length l) 2 d in
        let d2 = exact_run (codes (f ∷ es)) (length l) 0 d1 in
        let m = list_need (map need_expr (f ∷ es)) in
        let less = need_rest (need_expr e) (need_expr f) (map need_expr es) in
        lists.list_dropped p most e f es h l (here d) (here d1) (here d2)
        (a.0.value h r (map expr (f ∷ es) ++ ps) l d
        (front p most b whole script h r (expr e ∷ map expr (f ∷ es) ++ ps) l d d1 d2 _ (need_expr e).need s
        (exact_grows (f ∷ es) (length l) 0 d1) (need_first (need_expr e) (map need_expr (f ∷ es)))))
        (exact_runs (f ∷ es) a.1 zero ps l d1
        (next p most b whole script h r e (map expr (f ∷ es) ++ ps) l d d1 d2 d2 _ m s
        (value_grows b e (length l) 2 d) (value_keeps b e (length l) 2 d) (grows.none d2) (omega (arith, less))))
    exact_runs (e ∷ f ∷ es) a (suc n) ps l d whole_stands =
        subst (λ k. Stand p most b whole script h r (expr e ∷ map expr (f ∷ es) ++ ps) l d
        (exact_run (codes (f ∷ es)) k (suc n - 1) ((expr_code b e).run (length l) 2 d)) (list_need (map need_expr (e ∷ f ∷ es)))
        → ListRuns p most (e ∷ f ∷ es) h l (here d) (here (exact_run (codes (f ∷ es)) k (suc n - 1) ((expr_code b e).run (length l) 2 d)))
        (suc (suc n)) (machine.adjusted (suc n))) (sym (behind_one (length l) n))
        (λ s.
        let d1 = (expr_code b e).run (length l) 2 d in
        let d2 = exact_run (codes (f ∷ es)) (length l + 1) (suc n - 1) d1 in
        let m = list_need (map need_expr (f ∷ es)) in
        let one : suc (length l) ≡ length l + 1 = omega arith in
        let same : n ≡ suc n - 1 = omega arith in
        lists.exact_more p most e f es n h l (here d) (here d1) (here d2)
        (a.0.value h r (map expr (f ∷ es) ++ ps) l d
        (front p most b whole script h r (expr e ∷ map expr (f ∷ es) ++ ps) l d d1 d2 _ (need_expr e).need s
        (exact_grows (f ∷ es) (length l + 1) (suc n - 1) d1) (need_first (need_expr e) (map need_expr (f ∷ es)))))
        (λ v.
        subst (λ j. Stand p most b whole script h r (map expr (f ∷ es) ++ ps) (Temp v ∷ l) d1 (exact_run (codes (f ∷ es)) (length l + 1) j d1) m
        → ListRuns p most (f ∷ es) h (Temp v ∷ l) (here d1) (here (exact_run (codes (f ∷ es)) (length l + 1) j d1)) (suc n) (machine.adjusted n)) same
        (subst (λ k. Stand p most b whole script h r (map expr (f ∷ es) ++ ps) (Temp v ∷ l) d1 (exact_run (codes (f ∷ es)) k n d1) m
        → ListRuns p most (f ∷ es) h (Temp v ∷ l) (here d1) (here (exact_run (codes (f ∷ es)) k n d1)) (suc n) (machine.adjusted n)) one
        (exact_runs (f ∷ es) a.1 n ps (Temp v ∷ l) d1))
        (above p most b whole script h r e (map expr (f ∷ es) ++ ps) l d d1 d2 d2 _ m s
        (value_grows b e (length l) 2 d) (value_keeps b e (length l) 2 d) (grows.none d2)
        (need_rest (need_expr e) (need_expr f) (map need_expr es)) v))) whole_stands

    pub exact_alone : (es : List Expr) → AllHold es → (n : ℕ) (l : List Slot) (d : Emitter)
        → Stand p most b whole script h r (map expr es) l d (exact_run (codes es) (length l) n d) (list_need (map need_expr es))
        → ListRuns p most es h l (here d) (here (exact_run (codes es) (length l) n d)) (suc n) (machine.adjusted n)
    exact_alone es a n l d s =
        exact_runs es a n [] l d
        (subst (λ ps. Stand p most b whole script h r ps l d (exact_run (codes es) (length l) n d) (list_need (map need_expr es)))
        (sym (append-nil (map expr es))) s)
