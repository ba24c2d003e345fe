use Rattle.std.proofs.Common.{◌≡◌, ◌≤◌, ◌<◌, ◌-◌, ◌+◌, ◌++◌, ◌∷◌, [], ℕ, List, take, drop, replicate, set, get_or, length, refl, sym, ◌∙◌, ap, arith}
use Rattle.std.proofs.lemmas.List.{take-append-drop, drop_more, set_at, replicate_more, length-append, length-take, length-replicate, append_assoc}
use Rattle.value_model.specs.declared.value.Value.{Value}
use Rattle.value_model.specs.declared.value.Value.TheVariants.{Nil}
use Rattle.call_frames.proofs.stack.clear.Goals as goal

-- one more is nil
step : (xs : List Value) (from at : ℕ) → from ≤ at → at < length xs → set (take from xs ++ replicate (at - from) Nil ++ drop at xs) at Nil ≡ take from xs ++ replicate (at + 1 - from) Nil ++ drop (at + 1) xs
step xs from at le lt =
    let p : List Value = take from xs ++ replicate (at - from) Nil in
    let long : length p ≡ at = omega (arith, length-append (take from xs) (replicate (at - from) Nil), length-take from xs, length-replicate (at - from) Nil) in
    let more : at - from + 1 ≡ at + 1 - from = omega arith in
    ap (λ ys. set (p ++ ys) at Nil) (drop_more xs at Nil lt)
    ∙ set_at p (get_or xs at Nil) (drop (at + 1) xs) Nil at long
    ∙ sym (append_assoc p (Nil ∷ []) (drop (at + 1) xs))
    ∙ ap (λ ys. ys ++ drop (at + 1) xs) (append_assoc (take from xs) (replicate (at - from) Nil) (Nil ∷ []))
    ∙ ap (λ ys. take from xs ++ ys ++ drop (at + 1) xs) (replicate_more (at - from) Nil ∙ ap (λ n. replicate n Nil) more)

start : (xs : List Value) (from at : ℕ) → at ≡ from → xs ≡ take from xs ++ replicate (at - from) Nil ++ drop at xs
start xs from at e =
    let none : at - from ≡ 0 = omega arith in
    sym (take-append-drop from xs) ∙ ap (λ n. take from xs ++ drop n xs) (sym e) ∙ ap (λ ys. ys ++ drop at xs) (sym (ap (λ n. take from xs ++ replicate n Nil) none ∙ append-none (take from xs)))
  where
    append-none : (ys : List Value) → ys ++ [] ≡ ys
    append-none [] = refl
    append-none (y ∷ ys) = ap (λ l. y ∷ l) (append-none ys)

pub loop-at-init : goal.loop-at-init
loop-at-init c = (omega arith, start c.args.registers.now c.args.from c.args.from refl)

pub loop-at-preserved : goal.loop-at-preserved
loop-at-preserved c = (
  omega arith,
  ap (λ xs. set xs c.loop-at.at Nil) c.loop-at.invariant.1
      ∙ step c.args.registers.now c.args.from c.loop-at.at (omega arith) (omega arith),
)

pub returns : goal.returns
returns c =
    let last : c.loop-at.at ≡ c.args.from + (c.args.to - c.args.from) = omega (arith, c.loop-at.invariant.0) in
    let count : c.loop-at.at - c.args.from ≡ c.args.to - c.args.from = omega (arith, c.loop-at.invariant.0) in
    c.loop-at.invariant.1 ∙ ap (λ n. take c.args.from c.args.registers.now ++ replicate n Nil ++ drop c.loop-at.at c.args.registers.now) count
    ∙ ap (λ n. take c.args.from c.args.registers.now ++ replicate (c.args.to - c.args.from) Nil ++ drop n c.args.registers.now) last
