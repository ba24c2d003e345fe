-- What is left of a list's need behind its first expressions.
use Rattle.std.proofs.Common.{◌≡◌, ℕ, suc, ◌+◌, ◌<◌, ◌≤◌, max, List, ◌∷◌, length, get_or, drop, map, sym, ap, ◌∙◌, subst, arith}
use Rattle.std.proofs.Math.Seq.{drop-cons}
use Rattle.syntax_tree.specs.declared.tree.Expr.{Expr}
use Rattle.syntax_tree.specs.Need.{need_expr, list_from}

dropped : {X : Type 0} (xs : List X) (i : ℕ) (x : X) → i < length xs → x ≡ get_or xs i x → drop i xs ≡ x ∷ drop (i + 1) xs
dropped xs i x lt is =
    let one : suc i ≡ i + 1 = omega arith in
    drop-cons xs i x lt ∙ ap (λ z. z ∷ drop (suc i) xs) (sym is) ∙ ap (λ n. x ∷ drop n xs) one

pub list_room : (to i most : ℕ) (xs : List Expr) (e : Expr) → i < length xs → e ≡ get_or xs i e → to + list_from i (map need_expr (drop i xs)) ≤ most → to + list_from (i + 1) (map need_expr (drop (i + 1) xs)) ≤ most
list_room to i most xs e lt is le =
    let h : to + max (i + (need_expr e).need) (list_from (i + 1) (map need_expr (drop (i + 1) xs))) ≤ most = subst (λ l. to + list_from i (map need_expr l) ≤ most) (dropped xs i e lt is) le in
    omega (arith, h)
