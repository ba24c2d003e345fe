use Rattle.std.proofs.Common.{◌≡◌, ◌≢◌, ◌≤◌, ◌<◌, ℕ, zero, suc, ◌-◌, false, List, length, drop, get_or, ap, ◌∙◌, sym, subst, arith}
use Rattle.std.proofs.lemmas.List.{take_all, drop_all, length-drop}
use Rattle.std.proofs.Math.Seq.{drop-cons}
use Rattle.value_model.specs.Paths.{last_name}
use Rattle.value_model.proofs.LastNames.{has_point, whole_name, name_behind, one_more}
use Rattle.value_model.proofs.text.last_name.Goals as goal
use Rattle.value_model.proofs.text.last_name.Goals.{then-loop-start-test+else-path-start-ne46, else-loop-start-test}

pub loop-start-init : goal.loop-start-init
loop-start-init c = (omega arith, ap has_point (drop_all (length c.args.path.now) c.args.path.now (omega arith)))

pub bounds-path-start : goal.bounds-path-start
bounds-path-start c = omega (arith, c.loop-start.invariant.0, c.loop-start-test.true)

pub loop-start-preserved : goal.loop-start-preserved
loop-start-preserved c = (
  omega (arith, c.loop-start.invariant.0),
  back c.args.path.now c.loop-start.start c.loop-start-test.true c.loop-start.invariant.0 c.if-path-start-ne46.true c.loop-start.invariant.1,
)
  where
    -- one step back
    back : (bs : List ℕ) (n : ℕ) → 0 < n → n ≤ length bs → get_or bs (n - 1) 0 ≢ 46 → has_point (drop n bs) ≡ false → has_point (drop (n - 1) bs) ≡ false
    back bs zero p l ne h = absurd (omega (arith, p))
    back bs (suc n) p l ne h =
        let e : suc n - 1 ≡ n = omega arith in
        ap (λ k. has_point (drop k bs)) e
        ∙ ap has_point (drop-cons bs n 0 (omega (arith, l)))
        ∙ one_more (get_or bs n 0) (drop (suc n) bs) (subst (λ k. get_or bs k 0 ≢ 46) e ne) h

pub returns : goal.returns
returns c =
    take_all (length c.args.path.now - c.loop-start.start) (drop c.loop-start.start c.args.path.now) (rest c.args.path.now c.loop-start.start)
    ∙ elim c.loop-start-test.branch [
      | then-loop-start-test+else-path-start-ne46 w ↦ behind c.args.path.now c.loop-start.start w.loop-start-test.true c.loop-start.invariant.0 w.if-path-start-ne46.false c.loop-start.invariant.1
      | else-loop-start-test w ↦ front c.args.path.now c.loop-start.start w.loop-start-test.false c.loop-start.invariant.1
    ]
  where
    rest : (bs : List ℕ) (n : ℕ) → length (drop n bs) ≤ length bs - n
    rest bs n = omega (arith, length-drop n bs)

    behind : (bs : List ℕ) (n : ℕ) → 0 < n → n ≤ length bs → get_or bs (n - 1) 0 ≡ 46 → has_point (drop n bs) ≡ false → drop n bs ≡ last_name bs
    behind bs zero p l e h = absurd (omega (arith, p))
    behind bs (suc n) p l e h =
        let same : suc n - 1 ≡ n = omega arith in
        sym (name_behind bs n (omega (arith, l)) (subst (λ k. get_or bs k 0 ≡ 46) same e) h)

    front : (bs : List ℕ) (n : ℕ) → n ≤ 0 → has_point (drop n bs) ≡ false → drop n bs ≡ last_name bs
    front bs zero l h = sym (whole_name bs h)
    front bs (suc n) l h = absurd (omega (arith, l))
