use Rattle.std.proofs.Common.{◌≡◌, ℕ, ◌-◌, ◌≤◌, List, length, take, drop, reverse, sym, ap, ◌∙◌, arith, length-drop}
use Rattle.std.proofs.lemmas.List.{take-append-drop, reverse-append, length-reverse}
use Rattle.std.proofs.Math.Seq.{drop-append_seam}
use Rattle.built_emitter.proofs.StandingNames.{names_length}
use Rattle.built_emitter.proofs.scope.Scope.forget.Goals as goal

reverse-take : {A : Type 0} → (n : ℕ) (xs : List A) → n ≤ length (reverse xs) → reverse (take n xs) ≡ drop (length (reverse xs) - n) (reverse xs)
reverse-take n xs le =
    let parts = ap reverse (sym (take-append-drop n xs)) ∙ reverse-append (take n xs) (drop n xs) in
    let len : length (reverse xs) - n ≡ length (reverse (drop n xs)) = omega (arith, length-reverse (drop n xs), length-drop n xs, length-reverse xs) in
    sym (ap (λ k. drop k (reverse xs)) len ∙ ap (drop (length (reverse (drop n xs)))) parts ∙ drop-append_seam (reverse (drop n xs)) (reverse (take n xs)))

pub returns : goal.returns
returns c =
    let locals = c.self.inside.locals.items in
    let le : c.args.left ≤ length (reverse locals) = omega (arith, ap length c.self.view_is, names_length c.args.self.now, c.requires) in
    ap reverse c.truncate.ensures.items
    ∙ reverse-take c.args.left locals le
    ∙ ap (λ v. drop (length v - c.args.left) v) c.self.view_is
    ∙ ap (λ n. drop (n - c.args.left) c.args.self.now) (sym (names_length c.args.self.now))
