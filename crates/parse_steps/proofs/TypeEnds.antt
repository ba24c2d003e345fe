-- A type ends where it did, if other tokens stand behind it that go on with no type. More of its brackets may be open too.
use Rattle.std.proofs.Common.{◌≡◌, ◌≢◌, ◌≤◌, ◌<◌, ◌+◌, ℕ, zero, suc, Bool, true, false, ◌&&◌, List, Option, Some, IsTrue, IsFalse, ◌⊎◌, inl, inr, refl, sym, ap, subst, ◌∙◌, arith, true≢false}
use Rattle.std.proofs.lemmas.Bool.{cases_lt}
use Rattle.syntax_tree.specs.declared.token.Token.{Token}
use Rattle.syntax_tree.specs.declared.token.TokenKind.{TokenKind}
use Rattle.syntax_tree.specs.declared.token.TokenKind.TheVariants as token
use Rattle.syntax_tree.specs.Places.{kind_at, Has, Lacks, is_name, is_named, Optional, taken, absent}
use Rattle.syntax_tree.specs.Types.{typeof_name, is_open_paren, is_bar, is_literal, opens_typeof, IsType, plain_type, barred_type, IsParts, last_part, more_parts, IsPart, part, IsMarks, no_mark, mark, IsMember, no_member, member, IsAtom, literal, variadic, named, type_of, table, function, IsArguments, no_arguments, arguments, IsResult, no_result, result}
use Rattle.type_skip.specs.Reading.{SameBelow}
use Rattle.type_skip.proofs.Forward.{optional_forward, marks_forward, member_forward, balanced_forward, type_forward, parts_forward, part_forward, arguments_forward, result_forward, items_forward, fields_forward}
use Rattle.type_skip.proofs.Moved.{move_balanced, move_items, move_fields, move_generics}
use Rattle.parse_steps.proofs.Completing.{behind_type}

-- the same before a place, and there the same or what goes on with no type
record Near (ts us : List Token) (j : ℕ) : Type 0 where
  pub below : SameBelow j ts us
  pub here : (kind_at us j ≡ kind_at ts j) ⊎ IsTrue (behind_type (kind_at us j))

at_end : {ts us : List Token} {j : ℕ} (i : ℕ) → i ≤ j → (i < j) ⊎ (j ≤ i) → Near ts us j → Near ts us i
at_end {ts = ts} {us = us} {j = j} i le (inl less) near = record {
  below = λ q h. near.below q (omega arith);
  here = inl (near.below i less);
}
at_end {ts = ts} {us = us} {j = j} i le (inr more) near =
    let same : j ≡ i = omega arith in
    subst (λ (x : ℕ). Near ts us x) same near

nearer : {ts us : List Token} {j : ℕ} (i : ℕ) → i ≤ j → Near ts us j → Near ts us i
nearer {j = j} i le near = at_end i le (cases_lt i j) near

has_near : {ts us : List Token} {i j : ℕ} {kind : TokenKind} → Near ts us j → i < j → Has ts i kind → Has us i kind
has_near {i = i} near less h = near.below i less ∙ h

test_near : {ts us : List Token} {i j : ℕ} {b : Bool} (p : Option TokenKind → Bool) → Near ts us j → i < j → p (kind_at ts i) ≡ b → p (kind_at us i) ≡ b
test_near {i = i} p near less h = ap p (near.below i less) ∙ h

lacks_here : (kind : TokenKind) → IsFalse (behind_type (Some kind)) → (o q : Option TokenKind) → (q ≡ o) ⊎ IsTrue (behind_type q) → o ≢ Some kind → q ≢ Some kind
lacks_here kind goes o q (inl same) h = λ there. h (sym same ∙ there)
lacks_here kind goes o q (inr over) h = λ there. true≢false (sym over ∙ ap behind_type there ∙ goes)

lacks_near : {ts us : List Token} {i j : ℕ} (kind : TokenKind) → IsFalse (behind_type (Some kind)) → Near ts us j → i ≤ j → Lacks ts i kind → Lacks us i kind
lacks_near {ts = ts} {us = us} {i = i} kind goes near le h = let closer = nearer i le near in lacks_here kind goes (kind_at ts i) (kind_at us i) closer.here h

bar_ends : (o : Option TokenKind) → IsTrue (behind_type o) → IsFalse (is_bar o)
bar_ends (Some token.Pipe) h = absurd (true≢false (sym h))
bar_ends (Some token.Ampersand) h = absurd (true≢false (sym h))
bar_ends _ h = refl

bar_here : (o q : Option TokenKind) → (q ≡ o) ⊎ IsTrue (behind_type q) → IsFalse (is_bar o) → IsFalse (is_bar q)
bar_here o q (inl same) h = ap is_bar same ∙ h
bar_here o q (inr over) h = bar_ends q over

no_bar_near : {ts us : List Token} {i : ℕ} → Near ts us i → IsFalse (is_bar (kind_at ts i)) → IsFalse (is_bar (kind_at us i))
no_bar_near {ts = ts} {us = us} {i = i} near h = bar_here (kind_at ts i) (kind_at us i) near.here h

and_false : (a : Bool) → a && false ≡ false
and_false true = refl
and_false false = refl

paren_ends : (o : Option TokenKind) → IsTrue (behind_type o) → IsFalse (is_open_paren o)
paren_ends (Some token.OpenParen) h = absurd (true≢false (sym h))
paren_ends _ h = refl

paren_here : (n o q : Option TokenKind) → (q ≡ o) ⊎ IsTrue (behind_type q) → IsFalse (is_named typeof_name n && is_open_paren o) → IsFalse (is_named typeof_name n && is_open_paren q)
paren_here n o q (inl same) h = ap (λ x. is_named typeof_name n && is_open_paren x) same ∙ h
paren_here n o q (inr over) h = ap (λ b. is_named typeof_name n && b) (paren_ends q over) ∙ and_false (is_named typeof_name n)

no_typeof_near : {ts us : List Token} {i j : ℕ} → Near ts us j → i < j → IsFalse (opens_typeof ts i) → IsFalse (opens_typeof us i)
no_typeof_near {ts = ts} {us = us} {i = i} near less h =
    let closer = nearer (i + 1) (omega arith) near in
    ap (λ o. is_named typeof_name o && is_open_paren (kind_at us (i + 1))) (near.below i less)
    ∙ paren_here (kind_at ts i) (kind_at ts (i + 1)) (kind_at us (i + 1)) closer.here h

typeof_near : {ts us : List Token} (i : ℕ) {j : ℕ} → Near ts us j → i + 1 < j → IsTrue (opens_typeof ts i) → IsTrue (opens_typeof us i)
typeof_near i near less h = rw (near.below i (omega arith), near.below (i + 1) less) h

-- ---- the parts

end_optional : {ts us : List Token} {kind : TokenKind} {i j : ℕ} → IsFalse (behind_type (Some kind)) → Optional ts kind i j → Near ts us j → Optional us kind i j
end_optional goes (taken i h) near = taken i (has_near near (omega arith) h)
end_optional {kind = kind} goes (absent i h) near = absent i (lacks_near kind goes near (omega arith) h)

end_marks : {ts us : List Token} {i j : ℕ} → IsMarks ts i j → Near ts us j → IsMarks us i j
end_marks (no_mark i h) near = no_mark i (lacks_near token.Question refl near (omega arith) h)
end_marks (mark i j h m) near = mark i j (has_near near (omega (arith, marks_forward m)) h) (end_marks m near)

end_member : {ts us : List Token} {i j : ℕ} → IsMember ts i j → Near ts us j → IsMember us i j
end_member (no_member i h) near = no_member i (lacks_near token.Dot refl near (omega arith) h)
end_member (member i h g) near = member i (has_near near (omega arith) h) (test_near is_name near (omega arith) g)

end_arguments : {ts us : List Token} {n i j : ℕ} → IsArguments ts n i j → (m : ℕ) → n ≤ m → Near ts us j → IsArguments us m i j
end_arguments (no_arguments n i h) m le near = no_arguments m i (lacks_near token.Less refl near (omega arith) h)
end_arguments (arguments n i j h p g) zero le near = absurd (omega (arith, le))
end_arguments (arguments n i j h p g) (suc m) le near =
    arguments m i j (has_near near (omega (arith, items_forward p)) h) (move_items p m (omega (arith, le)) near.below) (has_near near (omega arith) g)

mutual
  end_type : {ts us : List Token} {n i j : ℕ} → IsType ts n i j → (m : ℕ) → n ≤ m → Near ts us j → IsType us m i j
  end_type (plain_type n i j h p) m le near = plain_type m i j (test_near is_bar near (parts_forward p) h) (end_parts p m le near)
  end_type (barred_type n i j h p) m le near = barred_type m i j (test_near is_bar near (omega (arith, parts_forward p)) h) (end_parts p m le near)

  end_parts : {ts us : List Token} {n i j : ℕ} → IsParts ts n i j → (m : ℕ) → n ≤ m → Near ts us j → IsParts us m i j
  end_parts (last_part n i j p h) m le near = last_part m i j (end_part p m le near) (no_bar_near near h)
  end_parts (more_parts n i j k p h ps) m le near =
      let f = parts_forward ps in
      more_parts m i j k (end_part p m le (nearer j (omega (arith, f)) near)) (test_near is_bar near (omega (arith, f)) h) (end_parts ps m le near)

  end_part : {ts us : List Token} {n i j : ℕ} → IsPart ts n i j → (m : ℕ) → n ≤ m → Near ts us j → IsPart us m i j
  end_part (part n i j k a p) m le near = part m i j k (end_atom a m le (nearer j (marks_forward p) near)) (end_marks p near)

  end_atom : {ts us : List Token} {n i j : ℕ} → IsAtom ts n i j → (m : ℕ) → n ≤ m → Near ts us j → IsAtom us m i j
  end_atom (literal n i h) m le near = literal m i (test_near is_literal near (omega arith) h)
  end_atom (variadic n i j h p) m le near = variadic m i j (has_near near (omega (arith, part_forward p)) h) (end_part p m le near)
  end_atom (named n i j k l h g u a o) m le near =
      let f = member_forward u in
      let e = arguments_forward a in
      let d = optional_forward o in
      named m i j k l (test_near is_name near (omega (arith, f, e, d)) h) (no_typeof_near near (omega (arith, f, e, d)) g)
      (end_member u (nearer j (omega (arith, e, d)) near)) (end_arguments a m le (nearer k d near)) (end_optional refl o near)
  end_atom (type_of n i j h b g) zero le near = absurd (omega (arith, le))
  end_atom (type_of n i j h b g) (suc m) le near =
      let f = balanced_forward b in
      type_of m i j (typeof_near i near (omega (arith, f)) h) (move_balanced b m (omega (arith, le)) near.below) (has_near near (omega arith) g)
  end_atom (table n i j h fs g) zero le near = absurd (omega (arith, le))
  end_atom (table n i j h fs g) (suc m) le near =
      table m i j (has_near near (omega (arith, fields_forward fs)) h) (move_fields fs m (omega (arith, le)) near.below) (has_near near (omega arith) g)
  end_atom (function n i j k l a h p g r) zero le near = absurd (omega (arith, le))
  end_atom (function n i j k l a h p g r) (suc m) le near =
      let e = items_forward p in
      let f = result_forward r in
      function m i j k l (move_generics a m (omega (arith, le)) (record { below = λ q less. near.below q (omega (arith, e, f)); here = inl (near.below j (omega (arith, e, f))) })) (has_near near (omega (arith, e, f)) h)
      (move_items p m (omega (arith, le)) (λ q less. near.below q (omega (arith, f)))) (has_near near (omega (arith, f)) g)
      (end_result r (suc m) le near)

  end_result : {ts us : List Token} {n i j : ℕ} → IsResult ts n i j → (m : ℕ) → n ≤ m → Near ts us j → IsResult us m i j
  end_result (no_result n i h) m le near = no_result m i (lacks_near token.Arrow refl near (omega arith) h)
  end_result (result n i j h t) m le near = result m i j (has_near near (omega (arith, type_forward t)) h) (end_type t m le near)

-- a type before another token
pub type_before : {ts us : List Token} {n i j : ℕ} (m : ℕ) → n ≤ m → IsType ts n i j → SameBelow j ts us → IsTrue (behind_type (kind_at us j)) → IsType us m i j
type_before m le t below over = end_type t m le (record { below = below; here = inr over })
