-- The first of some faults, one after the other.
use Rattle.std.proofs.Common.{◌≡◌, ◌<◌, ◌≤◌, ◌⊎◌, inl, inr, ◌∙◌, ◌+◌, ℕ, suc, zero, Option, Some, None, MatchOption, take, get_or, ap, List, [], ◌∷◌, ◌++◌, length, All, refl, sym, subst, arith}
use Rattle.std.proofs.lemmas.List.Elements.{All-append, All-weaker, Contains-append_left, Contains-append_right}
use Rattle.std.proofs.lemmas.List.{take_all, take_more}
use Rattle.syntax_tree.specs.declared.fault.ScopeFault.{ScopeFault}
use Rattle.syntax_tree.specs.Faults.{IsFirst, NotAfter, number_of}
use Rattle.scopes.specs.Refused.{IsEarlier}

one : {X : Type 0} (P : X → Type 0) (x : X) → P x → All P (x ∷ [])
one P x h zero d lt = h
one P x h (suc k) d lt = absurd (omega (arith, lt))

later : (a b c m n o : ℕ) → (a < b) ⊎ ((a ≡ b) × (m ≤ n)) → (b < c) ⊎ ((b ≡ c) × (n ≤ o)) → (a < c) ⊎ ((a ≡ c) × (m ≤ o))
later a b c m n o (inl p) (inl q) = inl (omega (arith, p, q))
later a b c m n o (inl p) (inr q) = inl (omega (arith, p, q.0))
later a b c m n o (inr p) (inl q) = inl (omega (arith, p.0, q))
later a b c m n o (inr p) (inr q) = inr (omega (arith, p.0, q.0), omega (arith, p.1, q.1))

pub first_one : (f : ScopeFault) → IsFirst (f ∷ []) f
first_one f = record { broken = (0, omega arith, refl); first = one (λ g. NotAfter f g) f (inr (refl, omega arith)) }

pub first_more : (fs : List ScopeFault) (f g r : ScopeFault) → IsEarlier f g r → IsFirst fs f → IsFirst (fs ++ g ∷ []) r
first_more fs f g r (inl p) h =
    subst (λ x. IsFirst (fs ++ g ∷ []) x) (sym p.0) (record {
      broken = Contains-append_left fs (g ∷ []) f h.broken;
      first = All-append (λ x. NotAfter f x) fs (g ∷ []) h.first (one (λ x. NotAfter f x) g p.1);
    })
first_more fs f g r (inr p) h =
    subst (λ x. IsFirst (fs ++ g ∷ []) x) (sym p.0) (record {
      broken = Contains-append_right fs (g ∷ []) g (0, omega arith, refl);
      first = All-append (λ x. NotAfter g x) fs (g ∷ []) (All-weaker (λ x. NotAfter f x) (λ x. NotAfter g x) (λ x q. later g.at f.at x.at (number_of g.rule) (number_of f.rule) (number_of x.rule) p.1 q) fs h.first) (one (λ x. NotAfter g x) g (inr (refl, omega arith)));
    })

pub first_turn : (faults : List ScopeFault) (i : ℕ) (d r : ScopeFault) (first : Option ScopeFault) → i < length faults → MatchOption first (r ≡ get_or faults i d) (λ f. IsEarlier f (get_or faults i d) r) → MatchOption first (take i faults ≡ []) (IsFirst (take i faults)) → IsFirst (take (i + 1) faults) r
first_turn faults i d r None lt e p =
    subst (λ l. IsFirst l r) (sym (take_more faults i d lt ∙ ap (λ l. l ++ get_or faults i d ∷ []) p)) (subst (λ y. IsFirst (get_or faults i d ∷ []) y) (sym e) (first_one (get_or faults i d)))
first_turn faults i d r (Some f) lt e p = subst (λ l. IsFirst l r) (sym (take_more faults i d lt)) (first_more (take i faults) f (get_or faults i d) r e p)

pub first_end : (faults : List ScopeFault) (i : ℕ) (first : Option ScopeFault) → length faults ≤ i → MatchOption first (take i faults ≡ []) (IsFirst (take i faults)) → MatchOption first (faults ≡ []) (IsFirst faults)
first_end faults i first le p = subst (λ l. MatchOption first (l ≡ []) (IsFirst l)) (take_all i faults le) p
