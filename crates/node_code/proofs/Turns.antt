-- One turn of the loops.
use Rattle.std.proofs.Common.{◌≡◌, Bool, true, false, nat_eq, if◌then◌else◌, ℕ, zero, suc, ◌+◌, ◌-◌, ◌<◌, ◌≤◌, List, [], ◌∷◌, length, get_or, drop, map, refl, sym, ap, ◌∙◌, arith, length-drop}
use Rattle.std.proofs.Math.Seq.{drop-cons}
use Rattle.std.proofs.lemmas.Bool.Decides.{nat_tests}
use Rattle.std.proofs.lemmas.List.{length-map}
use Rattle.syntax_tree.specs.declared.bindings.Bindings.{Bindings}
use Rattle.syntax_tree.specs.declared.tree.Arm.{Arm}
use Rattle.syntax_tree.specs.declared.tree.Expr.{Expr}
use Rattle.op_words.specs.declared.insn.Insn.TheVariants as insn
use Rattle.emit_expr.specs.declared.draft.Emitter.{Emitter}
use Rattle.emit_expr.specs.declared.draft.Loop.{Loop}
use Rattle.emit_expr.specs.Puts as puts
use Rattle.node_code.specs.Nodes.{ExprCode, ArmCode}
use Rattle.node_code.specs.Lists.{behind, results_for, list_run, exact_run, nils}
use Rattle.node_code.specs.Code.{arms_run, arm_run, has_more}

dropped : {X : Type 0} (xs : List X) (i : ℕ) (x : X) → i < length xs → x ≡ get_or xs i x → drop i xs ≡ x ∷ drop (i + 1) xs
dropped xs i x lt is =
    let one : suc i ≡ i + 1 = omega arith in
    drop-cons xs i x lt ∙ ap (λ z. z ∷ drop (suc i) xs) (sym is) ∙ ap (λ n. x ∷ drop n xs) one

pub list_next : (f : Expr → ExprCode) (xs : List Expr) (i : ℕ) (e : Expr) (at : ℕ) (d : Emitter) → i < length xs → e ≡ get_or xs i e → list_run (map f (drop i xs)) at d ≡ list_run (map f (drop (i + 1) xs)) (at + 1) ((f e).run at (results_for (length xs - i - 1)) d)
list_next f xs i e at d lt is =
    let len : length (map f (drop (i + 1) xs)) ≡ length xs - i - 1 = omega (arith, length-drop (i + 1) xs, length-map (drop (i + 1) xs) f) in
    ap (λ l. list_run (map f l) at d) (dropped xs i e lt is)
    ∙ ap (λ n. list_run (map f (drop (i + 1) xs)) (at + 1) ((f e).run at (results_for n) d)) len

exact_cons : (f : Expr → ExprCode) (e : Expr) (ys : List Expr) (at n : ℕ) (d : Emitter) → 0 < length ys → exact_run (f e ∷ map f ys) at n d ≡ exact_run (map f ys) (behind at n) (n - 1) ((f e).run at 2 d)
exact_cons f e [] at n d some = absurd (omega arith)
exact_cons f e (y ∷ ys) at n d some = refl

pub exact_next : (f : Expr → ExprCode) (xs : List Expr) (i : ℕ) (e : Expr) (at n : ℕ) (d : Emitter) → i + 1 < length xs → e ≡ get_or xs i e → exact_run (map f (drop i xs)) at n d ≡ exact_run (map f (drop (i + 1) xs)) (behind at n) (n - 1) ((f e).run at 2 d)
exact_next f xs i e at n d lt is =
    let some : 0 < length (drop (i + 1) xs) = omega (arith, length-drop (i + 1) xs) in
    ap (λ l. exact_run (map f l) at n d) (dropped xs i e (omega arith) is)
    ∙ exact_cons f e (drop (i + 1) xs) at n d some

pub nils_next : (at n : ℕ) (d : Emitter) → 0 < n → nils at n d ≡ nils (at + 1) (n - 1) (puts.insn (insn.LoadNil at) d)
nils_next at zero d lt = absurd (omega arith)
nils_next at (suc n) d lt = let e : suc n - 1 ≡ n = omega arith in rw e refl

pub arms_next : (b : Bindings) (f : Arm → ArmCode) (xs : List Arm) (i : ℕ) (a : Arm) (other : Bool) (id free : ℕ) (around : Loop) (d : Emitter) → i < length xs → a ≡ get_or xs i a → arms_run b other (map f (drop i xs)) id free around d ≡ arms_run b other (map f (drop (i + 1) xs)) id free around (arm_run b (has_more other (length xs - i - 1)) (f a) id free around d)
arms_next b f xs i a other id free around d lt is =
    let len : length (map f (drop (i + 1) xs)) ≡ length xs - i - 1 = omega (arith, length-drop (i + 1) xs, length-map (drop (i + 1) xs) f) in
    ap (λ l. arms_run b other (map f l) id free around d) (dropped xs i a lt is)
    ∙ ap (λ n. arms_run b other (map f (drop (i + 1) xs)) id free around (arm_run b (has_more other n) (f a) id free around d)) len

-- where a value goes that may not be wanted
pub behind_place : (at n bound : ℕ) → at ≤ bound → behind at n ≤ bound + 1
behind_place at n bound le = which (nat_eq n 0)
  where
    which : (z : Bool) → (if z then at else at + 1) ≤ bound + 1
    which true = omega (arith, le)
    which false = omega (arith, le)

pub behind_count : (at n most : ℕ) → at + n ≤ most → behind at n + (n - 1) ≤ most
behind_count at n most le = which (nat_eq n 0) refl
  where
    some : (k : ℕ) → nat_eq k 0 ≡ false → 0 < k
    some k e = grind (arith, nat_tests)

    which : (z : Bool) → nat_eq n 0 ≡ z → (if z then at else at + 1) + (n - 1) ≤ most
    which true e = omega (arith, le)
    which false e = let lt = some n e in omega (arith, le, lt)
