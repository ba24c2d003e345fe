-- Texts that are joined of pieces.
use Rattle.std.proofs.Common.{◌≡◌, ◌++◌, ◌∙◌, ap, refl, subst, take, ℕ, zero, suc, List, [], ◌∷◌, ◌<◌, length, get_or, arith}
use Rattle.std.specs.Prelude.{Result, IfOk}
use Rattle.std.specs.declared.alloc.Global.{Global}
use Rattle.std.specs.declared.vec.Vec.{Vec}
use Rattle.resource.specs.declared.memory.OutOfMemory.{OutOfMemory}
use Rattle.value_model.specs.Pieces.{followed_by}

-- a piece more
pub one_more : {X : Type 0} (f : X → List ℕ) (text : List ℕ) (xs : List X) (i : ℕ) (d : X) → i < length xs → followed_by f text (take i xs) ++ f (get_or xs i d) ≡ followed_by f text (take (suc i) xs)
one_more f text [] i d l = absurd (omega (arith, l))
one_more f text (x ∷ xs) zero d l = refl
one_more f text (x ∷ xs) (suc i) d l = one_more f (text ++ f x) xs i d (omega (arith, l))

-- two pieces that are these texts
pub both : {a b x y : List ℕ} → a ≡ x → b ≡ y → a ++ b ≡ x ++ y
both {a} {b} {x} {y} p q = ap (λ t. t ++ b) p ∙ ap (λ t. x ++ t) q

-- another text that is the same
pub reads : (r : Result (Vec ℕ Global) OutOfMemory) {xs ys : List ℕ} → IfOk r (λ v. v.items ≡ xs) → xs ≡ ys → IfOk r (λ v. v.items ≡ ys)
reads r {xs} {ys} h e = subst (λ t. IfOk r (λ v. v.items ≡ t)) e h
