-- Looking a name up from the newest local on.
use Rattle.std.proofs.Common.{◌≡◌, ◌∙◌, ℕ, ◌+◌, ◌==◌, Bool, true, false, List, [], ◌∷◌, ◌++◌, length, reverse, Option, Some, None, IsSome, refl, sym, ap, ap₂, subst, arith, if◌then◌else◌}
use Rattle.std.proofs.lemmas.List.{reverse-append, length-reverse}
use Rattle.byte_text.specs.declared.fixed.StrId.{StrId}
use Rattle.syntax_tree.specs.declared.notes.Visible.{Visible}
use Rattle.syntax_tree.specs.Scope.{look, unless_later}
use Rattle.scope_laws.specs.Sight.{visible}
use Rattle.built_emitter.specs.Names.{register_of}

abbrev pub newest : Bool → ℕ → Option ℕ → Option ℕ
newest same local older = if same then Some local else older

later_newest : (same older : Bool) (local n : ℕ) (o : Option ℕ) → unless_later older n (newest same local o) ≡ newest same local (unless_later older n o)
later_newest true older local n o = refl
later_newest false older local n o = refl

only_newest : (same : Bool) (local : ℕ) → unless_later same local None ≡ newest same local None
only_newest true local = refl
only_newest false local = refl

pub look_last : (x : StrId) (v : Visible) (ws : List Visible) → look x (ws ++ v ∷ []) ≡ newest (v.name.0 == x.0) v.local (look x ws)
look_last x v [] = only_newest (v.name.0 == x.0) v.local
look_last x v (w ∷ ws) =
    ap (unless_later (w.name.0 == x.0) w.local) (look_last x v ws)
    ∙ later_newest (v.name.0 == x.0) (w.name.0 == x.0) v.local w.local (look x ws)

-- ---- registers

-- the register of the newest local of the name
abbrev pub newest_register : List StrId → StrId → Option ℕ
newest_register [] x = None
newest_register (y ∷ ys) x = newest (y.0 == x.0) (length ys) (newest_register ys x)

visible_last : (n : ℕ) (xs : List StrId) (y : StrId) →
    visible n (xs ++ y ∷ []) ≡ visible n xs ++ record { name = y; local = n + length xs } ∷ []
visible_last n [] y =
    let same : n ≡ n + 0 = omega arith in ap (λ (k : ℕ). record { name = y; local = k } ∷ []) same
visible_last n (x ∷ xs) y =
    let same : n + 1 + length xs ≡ n + length (x ∷ xs) = omega arith in
    ap (λ l. record { name = x; local = n } ∷ l) (visible_last (n + 1) xs y
    ∙ ap (λ (k : ℕ). visible (n + 1) xs ++ record { name = y; local = k } ∷ []) same)

pub newest_first : (names : List StrId) (x : StrId) → register_of names x ≡ newest_register names x
newest_first [] x = refl
newest_first (y ∷ ys) x =
    let v : Visible = record { name = y; local = 0 + length (reverse ys) } in
    let register : 0 + length (reverse ys) ≡ length ys = omega (arith, length-reverse ys) in
    ap (λ l. look x (visible 0 l)) (reverse-append (y ∷ []) ys)
    ∙ ap (look x) (visible_last 0 (reverse ys) y)
    ∙ look_last x v (visible 0 (reverse ys))
    ∙ ap₂ (newest (y.0 == x.0)) register (newest_first ys x)

pub as_newest : (names : List StrId) (x : StrId) (o : Option ℕ) → register_of names x ≡ o → newest_register names x ≡ o
as_newest names x o h = sym (newest_first names x) ∙ h

pub newest_some : (names : List StrId) (x : StrId) → IsSome (register_of names x) → IsSome (newest_register names x)
newest_some names x h = subst (λ o. IsSome o) (newest_first names x) h

pub some_newest : (names : List StrId) (x : StrId) → IsSome (newest_register names x) → IsSome (register_of names x)
some_newest names x h = subst (λ o. IsSome o) (sym (newest_first names x)) h
