-- Code is read place by place.
use Rattle.std.proofs.Common.{◌≡◌, ℕ, zero, suc, ◌<◌, ◌≤◌, ◌+◌, List, [], ◌∷◌, ◌++◌, length, None, IfSome, refl, sym, ◌∙◌, ap, subst, arith, inl, inr}
use Rattle.std.proofs.lemmas.Bool.{cases_lt}
use Rattle.std.specs.Prelude.{slice_get}
use Rattle.op_words.specs.Decoding.{insn_at, StandsAt}
use Rattle.built_vm.specs.Instructions.{Entry, entry_at, IsReadAt, AreReadTo, AreReadOf}

pub none_read : (words : List ℕ) → AreReadTo words [] 0
none_read words = record { many = refl; each = λ place h. absurd (omega (arith, h)) }

at_end : (es : List Entry) (e : Entry) → entry_at (es ++ e ∷ []) (length es) ≡ e
at_end [] e = refl
at_end (x ∷ xs) e = at_end xs e

before_end : (es : List Entry) (e : Entry) (place : ℕ) → place < length es → entry_at (es ++ e ∷ []) place ≡ entry_at es place
before_end [] e place h = absurd (omega (arith, h))
before_end (x ∷ xs) e zero h = refl
before_end (x ∷ xs) e (suc place) h = before_end xs e place (omega (arith, h))

past_end : (es : List Entry) (place : ℕ) → length es ≤ place → entry_at es place ≡ None
past_end [] place h = refl
past_end (x ∷ xs) zero h = absurd (omega (arith, h))
past_end (x ∷ xs) (suc place) h = past_end xs place (omega (arith, h))

no_word : (words : List ℕ) (place : ℕ) → length words ≤ place → slice_get words place ≡ None
no_word [] place h = refl
no_word (x ∷ xs) zero h = absurd (omega (arith, h))
no_word (x ∷ xs) (suc place) h = no_word xs place (omega (arith, h))

-- one more place is read
pub one_read : (words : List ℕ) (es : List Entry) (count : ℕ) (e : Entry) → AreReadTo words es count → e ≡ insn_at words count → IfSome e (λ p. StandsAt words count p.0 p.1) → AreReadTo words (es ++ e ∷ []) (count + 1)
one_read words es count e read value found =
    record { many = more es ∙ ap (λ n. n + 1) read.many; each = each }
  where
    more : (xs : List Entry) → length (xs ++ e ∷ []) ≡ length xs + 1
    more [] = omega arith
    more (x ∷ xs) = omega (arith, more xs)

    here : entry_at (es ++ e ∷ []) count ≡ e
    here = ap (λ n. entry_at (es ++ e ∷ []) n) (sym read.many) ∙ at_end es e

    last : (place : ℕ) → place ≡ count → IsReadAt words place (entry_at (es ++ e ∷ []) place)
    last place same = subst (λ n. IsReadAt words n (entry_at (es ++ e ∷ []) n)) (sym same) (subst (IsReadAt words count) (sym here) (record { value = value; found = found }))

    earlier : (place : ℕ) → place < count → IsReadAt words place (entry_at (es ++ e ∷ []) place)
    earlier place h = subst (IsReadAt words place) (sym (before_end es e place (subst (λ n. place < n) (sym read.many) h))) (read.each place h)

    each : (place : ℕ) → place < count + 1 → IsReadAt words place (entry_at (es ++ e ∷ []) place)
    each place h = elim (cases_lt place count) [ inl less ↦ earlier place less | inr more ↦ last place (omega (arith, h, more)) ]

-- behind the words no instruction stands
pub all_read : (words : List ℕ) (es : List Entry) → AreReadTo words es (length words) → AreReadOf words es
all_read words es read place = elim (cases_lt place (length words)) [ inl less ↦ read.each place less | inr more ↦ behind more ]
  where
    behind : length words ≤ place → IsReadAt words place (entry_at es place)
    behind more =
        let none : entry_at es place ≡ None = past_end es place (subst (λ n. n ≤ place) (sym read.many) more) in
        let no : slice_get words place ≡ None = no_word words place more in
        subst (IsReadAt words place) (sym none) (record { value = cc; found = tt })
