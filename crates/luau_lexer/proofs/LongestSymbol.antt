-- Of the symbols with which a text begins, the first in the table is the longest.
use Rattle.std.proofs.Common.{◌≡◌, ℕ, ◌+◌, ◌<◌, ◌≤◌, zero, suc, nat_eq, nat_lt, Bool, true, false, ◌&&◌, cond, List, [], ◌∷◌, ◌++◌, length, Option, Some, None, slice_get, refl, sym, ap, subst, ◌∙◌, arith, true≢false}
use Rattle.std.specs.List.{starts_with}
use Rattle.std.proofs.lemmas.Bool.{ltb-true}
use Rattle.std.proofs.lemmas.Bool.Decides.{Decides-eqb}
use Rattle.std.proofs.lemmas.Slice.Eq.{starts_is}
use Rattle.std.proofs.lemmas.Option.{same_Some, none-some}
use Rattle.syntax_tree.specs.declared.token.TokenKind.{TokenKind}
use Rattle.syntax_tree.specs.Plain.{symbols, first_entry, symbol_at}
use Rattle.luau_lexer.specs.Laws.{SymbolsAreLongest}
use Rattle.luau_lexer.proofs.Tables.{Entry}

-- none of a table is longer
none_longer : ℕ → List Entry → Bool
none_longer n [] = true
none_longer n (e ∷ es) = nat_lt (length e.0) (n + 1) && none_longer n es

-- none is longer than one before it
lengths_fall : List Entry → Bool
lengths_fall [] = true
lengths_fall (e ∷ es) = none_longer (length e.0) es && lengths_fall es

left : (a b : Bool) → (a && b) ≡ true → a ≡ true
left true b h = refl
left false b h = h

right : (a b : Bool) → (a && b) ≡ true → b ≡ true
right true b h = h
right false b h = absurd (true≢false (sym h))

not_longer : (n : ℕ) (table : List Entry) → none_longer n table ≡ true → (k : ℕ) (e : Entry) → slice_get table k ≡ Some e → length e.0 ≤ n
unfolding none_longer
not_longer n [] short k e there = absurd (none-some e there)
not_longer n (x ∷ es) short zero e there =
    let less : length x.0 < n + 1 = ltb-true (length x.0) (n + 1) (left (nat_lt (length x.0) (n + 1)) (none_longer n es) short) in
    subst (λ (y : Entry). length y.0 ≤ n) (same_Some x e there) (omega (arith, less))
not_longer n (x ∷ es) short (suc k) e there = not_longer n es (right (nat_lt (length x.0) (n + 1)) (none_longer n es) short) k e there

first_is_longest : (p : List ℕ → Bool) (table : List Entry) → lengths_fall table ≡ true → (taken : Entry) → first_entry p table ≡ Some taken →
    (k : ℕ) (other : Entry) → slice_get table k ≡ Some other → p other.0 ≡ true → length other.0 ≤ length taken.0
unfolding lengths_fall
first_is_longest p [] fall taken first k other there passes = absurd (none-some other there)
first_is_longest p (e ∷ es) fall taken first k other there passes =
    let falls : lengths_fall es ≡ true = right (none_longer (length e.0) es) (lengths_fall es) fall in
    by (p e.0) refl first k there (λ found n at. first_is_longest p es falls taken found n other at passes)
  where
    by : (t : Bool) → p e.0 ≡ t → cond t (Some e) (first_entry p es) ≡ Some taken → (k : ℕ) → slice_get (e ∷ es) k ≡ Some other →
        (first_entry p es ≡ Some taken → (n : ℕ) → slice_get es n ≡ Some other → length other.0 ≤ length taken.0) → length other.0 ≤ length taken.0
    by true is found zero at rest =
        let same : length e.0 ≡ length taken.0 = ap (λ (x : Entry). length x.0) (same_Some e taken found) in
        let here : length e.0 ≡ length other.0 = ap (λ (x : Entry). length x.0) (same_Some e other at) in
        omega (arith, same, here)
    by true is found (suc n) at rest =
        let same : length e.0 ≡ length taken.0 = ap (λ (x : Entry). length x.0) (same_Some e taken found) in
        let short : length other.0 ≤ length e.0 = not_longer (length e.0) es (left (none_longer (length e.0) es) (lengths_fall es) fall) n other at in
        omega (arith, same, short)
    by false is found zero at rest =
        absurd (true≢false (sym passes ∙ ap (λ (x : Entry). p x.0) (sym (same_Some e other at)) ∙ is))
    by false is found (suc n) at rest = rest found n at

symbols_fall : lengths_fall symbols ≡ true
unfolding lengths_fall none_longer
symbols_fall = refl

pub symbols_are_longest : SymbolsAreLongest
symbols_are_longest = record {
  longest = λ bytes taken found k other there rest begins.
      first_is_longest (starts_with nat_eq bytes) symbols symbols_fall taken found k other there
      ((starts_is Decides-eqb bytes other.0 (starts_with nat_eq bytes other.0) refl).1 rest begins);
}
