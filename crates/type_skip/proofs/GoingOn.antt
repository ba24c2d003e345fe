-- A token list that begins as another, and goes on with given kinds.
use Rattle.std.proofs.Common.{◌≡◌, ◌≤◌, ◌<◌, ◌+◌, ℕ, zero, suc, Bool, true, false, List, [], ◌∷◌, ◌++◌, length, take, Option, Some, None, option_map, ◌⊎◌, inl, inr, refl, sym, ap, subst, ◌∙◌, arith, true≢false}
use Rattle.std.proofs.lemmas.Bool.{cases_lt}
use Rattle.std.proofs.lemmas.Option.{slice_get_past}
use Rattle.syntax_tree.specs.declared.token.Token.{Token}
use Rattle.syntax_tree.specs.declared.token.TokenKind.{TokenKind}
use Rattle.syntax_tree.specs.Places.{kind_of, kind_at, Has}
use Rattle.type_skip.specs.Reading.{SameBelow, ends_type, Writes}

-- ---- places of the two lists

pub kind_in_front : (k : ℕ) (ts vs : List Token) (q : ℕ) → q < k → k ≤ length ts → kind_at (take k ts ++ vs) q ≡ kind_at ts q
kind_in_front zero ts vs q less le = absurd (omega (arith, less))
kind_in_front (suc k) [] vs q less le = absurd (omega (arith, le))
kind_in_front (suc k) (t ∷ ts) vs zero less le = refl
kind_in_front (suc k) (t ∷ ts) vs (suc q) less le = kind_in_front k ts vs q (omega (arith, less)) (omega (arith, le))

pub kind_behind : (k : ℕ) (ts vs : List Token) (p q : ℕ) → p ≡ k + q → k ≤ length ts → kind_at (take k ts ++ vs) p ≡ kind_at vs q
kind_behind zero ts vs p q e le = ap (kind_at vs) (omega (arith, e))
kind_behind (suc k) [] vs p q e le = absurd (omega (arith, le))
kind_behind (suc k) (t ∷ ts) vs zero q e le = absurd (omega (arith, e))
kind_behind (suc k) (t ∷ ts) vs (suc p) q e le = kind_behind k ts vs p q (omega (arith, e)) (omega (arith, le))

-- a token of a kind
abbrev pub of_kind : TokenKind → Token
of_kind kind = record { kind = kind; at = 0; end = 0; line = 1; last = 1 }

abbrev pub of_kinds : List TokenKind → List Token
of_kinds [] = []
of_kinds (kind ∷ kinds) = of_kind kind ∷ of_kinds kinds

-- kinds that stand somewhere, and the end
writes : (us : List Token) (k : ℕ) (kinds : List TokenKind) → ((p q : ℕ) → p ≡ k + q → kind_at us p ≡ kind_at (of_kinds kinds) q) → Writes us k kinds (k + length kinds)
writes us k [] there = (omega arith, ap ends_type (there k 0 (omega arith)))
writes us k (kind ∷ kinds) there =
    let rest : Writes us (k + 1) kinds (k + 1 + length kinds) = writes us (k + 1) kinds (λ p q e. there p (suc q) (omega (arith, e))) in
    (there k 0 (omega arith), subst (λ (x : ℕ). Writes us (k + 1) kinds x) (omega arith) rest)

pub going_on : (ts : List Token) (k : ℕ) (kinds : List TokenKind) → k ≤ length ts → SameBelow k ts (take k ts ++ of_kinds kinds) × Writes (take k ts ++ of_kinds kinds) k kinds (k + length kinds)
going_on ts k kinds le =
    (λ q less. kind_in_front k ts (of_kinds kinds) q less le, writes (take k ts ++ of_kinds kinds) k kinds (λ p q e. kind_behind k ts (of_kinds kinds) p q e le))

-- ---- a token stands there

pub past : (ts : List Token) (i : ℕ) → length ts ≤ i → kind_at ts i ≡ None
past ts i le = ap (option_map kind_of) (slice_get_past ts i le)

pub within : (p : Option TokenKind → Bool) (ts : List Token) (i : ℕ) → p None ≡ false → p (kind_at ts i) ≡ true → i < length ts
within p ts i none h = by_cases (cases_lt i (length ts))
  where
    by_cases : (i < length ts) ⊎ (length ts ≤ i) → i < length ts
    by_cases (inl less) = less
    by_cases (inr more) = absurd (true≢false (sym h ∙ ap p (past ts i more) ∙ none))

pub has_within : (ts : List Token) (i : ℕ) (kind : TokenKind) → Has ts i kind → i < length ts
has_within ts i kind h = by_cases (cases_lt i (length ts))
  where
    by_cases : (i < length ts) ⊎ (length ts ≤ i) → i < length ts
    by_cases (inl less) = less
    by_cases (inr more) = let both : None ≡ Some kind = sym (past ts i more) ∙ h in absurd cc
