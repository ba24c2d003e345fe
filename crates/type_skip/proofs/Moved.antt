-- A part of a type stays one where the tokens behind it change: what ends a type may follow in place of the next one.
-- More brackets may be open too.
use Rattle.std.proofs.Common.{◌≡◌, ◌≢◌, ◌≤◌, ◌<◌, ◌+◌, ℕ, zero, suc, Bool, true, false, ◌&&◌, List, Option, Some, None, IsTrue, IsFalse, ◌⊎◌, inl, inr, refl, sym, ap, subst, ◌∙◌, arith, true≢false}
use Rattle.std.proofs.lemmas.Bool.{cases_lt}
use Rattle.syntax_tree.specs.declared.token.Token.{Token}
use Rattle.syntax_tree.specs.declared.token.TokenKind.{TokenKind}
use Rattle.syntax_tree.specs.declared.token.TokenKind.TheVariants as token
use Rattle.syntax_tree.specs.Places.{kind_at, Has, Lacks, is_name, is_named, Optional, taken, absent}
use Rattle.syntax_tree.specs.Types.{typeof_name, is_open_paren, is_colon, is_bar, is_separator, is_literal, opens_typeof, is_label, closer, is_closer, is_plain, IsType, plain_type, barred_type, IsParts, last_part, more_parts, IsPart, part, IsMarks, no_mark, mark, IsMember, no_member, member, IsBalanced, balanced, plain, interp_begin, interp_mid, interp_end, bracket, IsAtom, literal, variadic, named, type_of, table, function, IsArguments, no_arguments, arguments, IsResult, no_result, result, IsItems, no_items, items, IsItemList, last_item, more_items, IsItem, plain_item, labelled_item, IsFields, no_fields, last_field, more_fields, IsField, keyed_field, item_field, IsGenerics, no_generics, generics, IsGenericList, last_generic, more_generics, IsGeneric, generic, IsDefault, no_default, default}
use Rattle.type_skip.specs.Reading.{SameBelow, ends_type}
use Rattle.type_skip.proofs.Forward.{optional_forward, marks_forward, member_forward, balanced_forward, type_forward, parts_forward, part_forward, arguments_forward, result_forward, items_forward, item_list_forward, item_forward, fields_forward, field_forward, generic_list_forward, default_forward}

-- the same before a place, and there the same or what ends a type
pub record Near (ts us : List Token) (j : ℕ) : Type 0 where
  pub below : SameBelow j ts us
  pub here : (kind_at us j ≡ kind_at ts j) ⊎ IsTrue (ends_type (kind_at us j))

at_end : {ts us : List Token} {j : ℕ} (i : ℕ) → i ≤ j → (i < j) ⊎ (j ≤ i) → Near ts us j → Near ts us i
at_end {ts = ts} {us = us} {j = j} i le (inl less) near = record {
  below = λ q h. near.below q (omega arith);
  here = inl (near.below i less);
}
at_end {ts = ts} {us = us} {j = j} i le (inr more) near =
    let same : j ≡ i = omega arith in
    subst (λ (x : ℕ). Near ts us x) same near

pub nearer : {ts us : List Token} {j : ℕ} (i : ℕ) → i ≤ j → Near ts us j → Near ts us i
nearer {j = j} i le near = at_end i le (cases_lt i j) near

-- a token before the end
pub has_near : {ts us : List Token} {i j : ℕ} {kind : TokenKind} → Near ts us j → i < j → Has ts i kind → Has us i kind
has_near {i = i} near less h = near.below i less ∙ h

-- a test of a token before the end
pub test_near : {ts us : List Token} {i j : ℕ} {b : Bool} (p : Option TokenKind → Bool) → Near ts us j → i < j → p (kind_at ts i) ≡ b → p (kind_at us i) ≡ b
test_near {i = i} p near less h = ap p (near.below i less) ∙ h

-- a test that what ends a type fails
false_here : (p : Option TokenKind → Bool) → ((o : Option TokenKind) → IsTrue (ends_type o) → IsFalse (p o)) → (o q : Option TokenKind) → (q ≡ o) ⊎ IsTrue (ends_type q) → IsFalse (p o) → IsFalse (p q)
false_here p ends o q (inl same) h = ap p same ∙ h
false_here p ends o q (inr over) h = ends q over

pub false_near : {ts us : List Token} {i j : ℕ} (p : Option TokenKind → Bool) → ((o : Option TokenKind) → IsTrue (ends_type o) → IsFalse (p o)) → Near ts us j → i ≤ j → IsFalse (p (kind_at ts i)) → IsFalse (p (kind_at us i))
false_near {ts = ts} {us = us} {i = i} p ends near le h = let closer = nearer i le near in false_here p ends (kind_at ts i) (kind_at us i) closer.here h

lacks_here : (kind : TokenKind) → IsFalse (ends_type (Some kind)) → (o q : Option TokenKind) → (q ≡ o) ⊎ IsTrue (ends_type q) → o ≢ Some kind → q ≢ Some kind
lacks_here kind goes o q (inl same) h = λ there. h (sym same ∙ there)
lacks_here kind goes o q (inr over) h = λ there. true≢false (sym over ∙ ap ends_type there ∙ goes)

pub lacks_near : {ts us : List Token} {i j : ℕ} (kind : TokenKind) → IsFalse (ends_type (Some kind)) → Near ts us j → i ≤ j → Lacks ts i kind → Lacks us i kind
lacks_near {ts = ts} {us = us} {i = i} kind goes near le h = let closer = nearer i le near in lacks_here kind goes (kind_at ts i) (kind_at us i) closer.here h

pub bar_ends : (o : Option TokenKind) → IsTrue (ends_type o) → IsFalse (is_bar o)
bar_ends None h = refl
bar_ends (Some token.CloseParen) h = refl
bar_ends (Some token.CloseBracket) h = refl
bar_ends (Some token.CloseBrace) h = refl
bar_ends (Some token.Greater) h = refl
bar_ends (Some (token.InterpEnd x)) h = refl
bar_ends (Some _) h = absurd (true≢false (sym h))

pub separator_ends : (o : Option TokenKind) → IsTrue (ends_type o) → IsFalse (is_separator o)
separator_ends None h = refl
separator_ends (Some token.CloseParen) h = refl
separator_ends (Some token.CloseBracket) h = refl
separator_ends (Some token.CloseBrace) h = refl
separator_ends (Some token.Greater) h = refl
separator_ends (Some (token.InterpEnd x)) h = refl
separator_ends (Some _) h = absurd (true≢false (sym h))

colon_ends : (o : Option TokenKind) → IsTrue (ends_type o) → IsFalse (is_colon o)
colon_ends None h = refl
colon_ends (Some token.CloseParen) h = refl
colon_ends (Some token.CloseBracket) h = refl
colon_ends (Some token.CloseBrace) h = refl
colon_ends (Some token.Greater) h = refl
colon_ends (Some (token.InterpEnd x)) h = refl
colon_ends (Some _) h = absurd (true≢false (sym h))

and_false : (a : Bool) → a && false ≡ false
and_false true = refl
and_false false = refl

label_here : (n o q : Option TokenKind) → (q ≡ o) ⊎ IsTrue (ends_type q) → IsFalse (is_name n && is_colon o) → IsFalse (is_name n && is_colon q)
label_here n o q (inl same) h = ap (λ x. is_name n && is_colon x) same ∙ h
label_here n o q (inr over) h = ap (λ b. is_name n && b) (colon_ends q over) ∙ and_false (is_name n)

-- a name with no `:` behind it
pub unlabelled_near : {ts us : List Token} {i j : ℕ} → Near ts us j → i < j → IsFalse (is_label ts i) → IsFalse (is_label us i)
unlabelled_near {ts = ts} {us = us} {i = i} near less h =
    let closer = nearer (i + 1) (omega arith) near in
    ap (λ o. is_name o && is_colon (kind_at us (i + 1))) (near.below i less)
    ∙ label_here (kind_at ts i) (kind_at ts (i + 1)) (kind_at us (i + 1)) closer.here h

pub labelled_near : {ts us : List Token} (i : ℕ) {j : ℕ} → Near ts us j → i + 1 < j → IsTrue (is_label ts i) → IsTrue (is_label us i)
labelled_near i near less h = rw (near.below i (omega arith), near.below (i + 1) less) h

paren_here : (n o q : Option TokenKind) → (q ≡ o) ⊎ IsTrue (ends_type q) → IsFalse (is_named typeof_name n && is_open_paren o) → IsFalse (is_named typeof_name n && is_open_paren q)
paren_here n o q (inl same) h = ap (λ x. is_named typeof_name n && is_open_paren x) same ∙ h
paren_here n o q (inr over) h = ap (λ b. is_named typeof_name n && b) (paren_ends q over) ∙ and_false (is_named typeof_name n)
  where
    paren_ends : (o : Option TokenKind) → IsTrue (ends_type o) → IsFalse (is_open_paren o)
    paren_ends None h = refl
    paren_ends (Some token.CloseParen) h = refl
    paren_ends (Some token.CloseBracket) h = refl
    paren_ends (Some token.CloseBrace) h = refl
    paren_ends (Some token.Greater) h = refl
    paren_ends (Some (token.InterpEnd x)) h = refl
    paren_ends (Some _) h = absurd (true≢false (sym h))

pub no_typeof_near : {ts us : List Token} {i j : ℕ} → Near ts us j → i < j → IsFalse (opens_typeof ts i) → IsFalse (opens_typeof us i)
no_typeof_near {ts = ts} {us = us} {i = i} near less h =
    let closer = nearer (i + 1) (omega arith) near in
    ap (λ o. is_named typeof_name o && is_open_paren (kind_at us (i + 1))) (near.below i less)
    ∙ paren_here (kind_at ts i) (kind_at ts (i + 1)) (kind_at us (i + 1)) closer.here h

pub typeof_near : {ts us : List Token} (i : ℕ) {j : ℕ} → Near ts us j → i + 1 < j → IsTrue (opens_typeof ts i) → IsTrue (opens_typeof us i)
typeof_near i near less h = rw (near.below i (omega arith), near.below (i + 1) less) h

-- ---- the parts

pub move_optional : {ts us : List Token} {kind : TokenKind} {i j : ℕ} → IsFalse (ends_type (Some kind)) → Optional ts kind i j → Near ts us j → Optional us kind i j
move_optional goes (taken i h) near = taken i (has_near near (omega arith) h)
move_optional {kind = kind} goes (absent i h) near = absent i (lacks_near kind goes near (omega arith) h)

pub move_marks : {ts us : List Token} {i j : ℕ} → IsMarks ts i j → Near ts us j → IsMarks us i j
move_marks (no_mark i h) near = no_mark i (lacks_near token.Question refl near (omega arith) h)
move_marks (mark i j h m) near = mark i j (has_near near (omega (arith, marks_forward m)) h) (move_marks m near)

pub move_member : {ts us : List Token} {i j : ℕ} → IsMember ts i j → Near ts us j → IsMember us i j
move_member (no_member i h) near = no_member i (lacks_near token.Dot refl near (omega arith) h)
move_member (member i h g) near = member i (has_near near (omega arith) h) (test_near is_name near (omega arith) g)

-- what a test on the kind says of a token before the end, for any answer
closer_near : {ts us : List Token} {i j : ℕ} {o : Option TokenKind} → Near ts us j → i < j → closer (kind_at ts i) ≡ o → closer (kind_at us i) ≡ o
closer_near {i = i} near less h = ap closer (near.below i less) ∙ h

-- balanced tokens, with the bracket that closes them
pub move_balanced : {ts us : List Token} {n s i j : ℕ} → IsBalanced ts n s i j → (m : ℕ) → n ≤ m → SameBelow (j + 1) ts us → IsBalanced us m s i j
move_balanced (balanced n i h) m le same = balanced m i (ap is_closer (same i (omega arith)) ∙ h)
move_balanced (plain n s i j h b) m le same = plain m s i j (ap is_plain (same i (omega (arith, balanced_forward b))) ∙ h) (move_balanced b m le same)
move_balanced (interp_begin n s i j x h b) m le same = interp_begin m s i j x (same i (omega (arith, balanced_forward b)) ∙ h) (move_balanced b m le same)
move_balanced (interp_mid n s i j x h b) m le same = interp_mid m s i j x (same i (omega (arith, balanced_forward b)) ∙ h) (move_balanced b m le same)
move_balanced (interp_end n s i j x h b) m le same = interp_end m s i j x (same i (omega (arith, balanced_forward b)) ∙ h) (move_balanced b m le same)
move_balanced (bracket n s i j k c h b g d) zero le same = absurd (omega (arith, le))
move_balanced (bracket n s i j k c h b g d) (suc m) le same =
    let f = balanced_forward b in
    let g2 = balanced_forward d in
    bracket m s i j k c (ap closer (same i (omega (arith, f, g2))) ∙ h)
    (move_balanced b m (omega (arith, le)) (λ q less. same q (omega (arith, g2))))
    (same j (omega (arith, g2)) ∙ g)
    (move_balanced d (suc m) le same)

mutual
  pub move_type : {ts us : List Token} {n i j : ℕ} → IsType ts n i j → (m : ℕ) → n ≤ m → Near ts us j → IsType us m i j
  move_type (plain_type n i j h p) m le near = plain_type m i j (test_near is_bar near (parts_forward p) h) (move_parts p m le near)
  move_type (barred_type n i j h p) m le near = barred_type m i j (test_near is_bar near (omega (arith, parts_forward p)) h) (move_parts p m le near)

  pub move_parts : {ts us : List Token} {n i j : ℕ} → IsParts ts n i j → (m : ℕ) → n ≤ m → Near ts us j → IsParts us m i j
  move_parts (last_part n i j p h) m le near = last_part m i j (move_part p m le near) (false_near is_bar bar_ends near (omega arith) h)
  move_parts (more_parts n i j k p h ps) m le near =
      let f = parts_forward ps in
      more_parts m i j k (move_part p m le (nearer j (omega (arith, f)) near)) (test_near is_bar near (omega (arith, f)) h) (move_parts ps m le near)

  pub move_part : {ts us : List Token} {n i j : ℕ} → IsPart ts n i j → (m : ℕ) → n ≤ m → Near ts us j → IsPart us m i j
  move_part (part n i j k a p) m le near = part m i j k (move_atom a m le (nearer j (marks_forward p) near)) (move_marks p near)

  pub move_atom : {ts us : List Token} {n i j : ℕ} → IsAtom ts n i j → (m : ℕ) → n ≤ m → Near ts us j → IsAtom us m i j
  move_atom (literal n i h) m le near = literal m i (test_near is_literal near (omega arith) h)
  move_atom (variadic n i j h p) m le near = variadic m i j (has_near near (omega (arith, part_forward p)) h) (move_part p m le near)
  move_atom (named n i j k l h g u a o) m le near =
      let f = member_forward u in
      let e = arguments_forward a in
      let d = optional_forward o in
      named m i j k l (test_near is_name near (omega (arith, f, e, d)) h) (no_typeof_near near (omega (arith, f, e, d)) g)
      (move_member u (nearer j (omega (arith, e, d)) near)) (move_arguments a m le (nearer k d near)) (move_optional refl o near)
  move_atom (type_of n i j h b g) zero le near = absurd (omega (arith, le))
  move_atom (type_of n i j h b g) (suc m) le near =
      let f = balanced_forward b in
      type_of m i j (typeof_near i near (omega (arith, f)) h) (move_balanced b m (omega (arith, le)) near.below) (has_near near (omega arith) g)
  move_atom (table n i j h fs g) zero le near = absurd (omega (arith, le))
  move_atom (table n i j h fs g) (suc m) le near =
      table m i j (has_near near (omega (arith, fields_forward fs)) h) (move_fields fs m (omega (arith, le)) near.below) (has_near near (omega arith) g)
  move_atom (function n i j k l a h p g r) zero le near = absurd (omega (arith, le))
  move_atom (function n i j k l a h p g r) (suc m) le near =
      let e = items_forward p in
      let f = result_forward r in
      function m i j k l (move_generics a m (omega (arith, le)) (nearer j (omega (arith, e, f)) near)) (has_near near (omega (arith, e, f)) h)
      (move_items p m (omega (arith, le)) (λ q less. near.below q (omega (arith, f)))) (has_near near (omega (arith, f)) g)
      (move_result r (suc m) le near)

  pub move_arguments : {ts us : List Token} {n i j : ℕ} → IsArguments ts n i j → (m : ℕ) → n ≤ m → Near ts us j → IsArguments us m i j
  move_arguments (no_arguments n i h) m le near = no_arguments m i (lacks_near token.Less refl near (omega arith) h)
  move_arguments (arguments n i j h p g) zero le near = absurd (omega (arith, le))
  move_arguments (arguments n i j h p g) (suc m) le near =
      arguments m i j (has_near near (omega (arith, items_forward p)) h) (move_items p m (omega (arith, le)) near.below) (has_near near (omega arith) g)

  pub move_result : {ts us : List Token} {n i j : ℕ} → IsResult ts n i j → (m : ℕ) → n ≤ m → Near ts us j → IsResult us m i j
  move_result (no_result n i h) m le near = no_result m i (lacks_near token.Arrow refl near (omega arith) h)
  move_result (result n i j h t) m le near = result m i j (has_near near (omega (arith, type_forward t)) h) (move_type t m le near)

  -- items, with the token behind them
  pub move_items : {ts us : List Token} {c : TokenKind} {n i j : ℕ} → IsItems ts c n i j → (m : ℕ) → n ≤ m → SameBelow (j + 1) ts us → IsItems us c m i j
  move_items (no_items c n i h) m le same = no_items c m i (same i (omega arith) ∙ h)
  move_items (items c n i j h p) m le same =
      items c m i j (λ there. h (sym (same i (omega (arith, item_list_forward p))) ∙ there)) (move_item_list p m le (record { below = λ q less. same q (omega arith); here = inl (same j (omega arith)) }))

  pub move_item_list : {ts us : List Token} {n i j : ℕ} → IsItemList ts n i j → (m : ℕ) → n ≤ m → Near ts us j → IsItemList us m i j
  move_item_list (last_item n i j p h) m le near = last_item m i j (move_item p m le near) (lacks_near token.Comma refl near (omega arith) h)
  move_item_list (more_items n i j k p h ps) m le near =
      let f = item_list_forward ps in
      more_items m i j k (move_item p m le (nearer j (omega (arith, f)) near)) (has_near near (omega (arith, f)) h) (move_item_list ps m le near)

  pub move_item : {ts us : List Token} {n i j : ℕ} → IsItem ts n i j → (m : ℕ) → n ≤ m → Near ts us j → IsItem us m i j
  move_item (plain_item n i j h t) m le near = plain_item m i j (unlabelled_near near (type_forward t) h) (move_type t m le near)
  move_item (labelled_item n i j h t) m le near = labelled_item m i j (labelled_near i near (omega (arith, type_forward t)) h) (move_type t m le near)

  -- fields, with the token behind them
  pub move_fields : {ts us : List Token} {n i j : ℕ} → IsFields ts n i j → (m : ℕ) → n ≤ m → SameBelow (j + 1) ts us → IsFields us m i j
  move_fields (no_fields n i h) m le same = no_fields m i (same i (omega arith) ∙ h)
  move_fields (last_field n i j h p g) m le same =
      last_field m i j (λ there. h (sym (same i (omega (arith, field_forward p))) ∙ there)) (move_field p m le (record { below = λ q less. same q (omega arith); here = inl (same j (omega arith)) })) (ap is_separator (same j (omega arith)) ∙ g)
  move_fields (more_fields n i j k h p g ps) m le same =
      let e = field_forward p in
      let f = fields_forward ps in
      more_fields m i j k (λ there. h (sym (same i (omega (arith, e, f))) ∙ there)) (move_field p m le (record { below = λ q less. same q (omega (arith, f)); here = inl (same j (omega (arith, f))) })) (ap is_separator (same j (omega (arith, f))) ∙ g) (move_fields ps m le same)

  pub move_field : {ts us : List Token} {n i j : ℕ} → IsField ts n i j → (m : ℕ) → n ≤ m → Near ts us j → IsField us m i j
  move_field (keyed_field n i j k h t g e u) zero le near = absurd (omega (arith, le))
  move_field (keyed_field n i j k h t g e u) (suc m) le near =
      let a = type_forward t in
      let b = type_forward u in
      keyed_field m i j k (has_near near (omega (arith, a, b)) h) (move_type t m (omega (arith, le)) (nearer j (omega (arith, b)) near)) (has_near near (omega (arith, b)) g) (has_near near (omega (arith, b)) e) (move_type u (suc m) le near)
  move_field (item_field n i j h p) m le near =
      item_field m i j (λ there. h (sym (near.below i (item_forward p)) ∙ there)) (move_item p m le near)

  pub move_generics : {ts us : List Token} {n i j : ℕ} → IsGenerics ts n i j → (m : ℕ) → n ≤ m → Near ts us j → IsGenerics us m i j
  move_generics (no_generics n i h) m le near = no_generics m i (lacks_near token.Less refl near (omega arith) h)
  move_generics (generics n i j h g e) m le near =
      generics m i j (has_near near (omega (arith, generic_list_forward g)) h) (move_generic_list g m le (nearer j (omega arith) near)) (has_near near (omega arith) e)

  pub move_generic_list : {ts us : List Token} {n i j : ℕ} → IsGenericList ts n i j → (m : ℕ) → n ≤ m → Near ts us j → IsGenericList us m i j
  move_generic_list (last_generic n i j p h) m le near = last_generic m i j (move_generic p m le near) (lacks_near token.Comma refl near (omega arith) h)
  move_generic_list (more_generics n i j k p h ps) m le near =
      let f = generic_list_forward ps in
      more_generics m i j k (move_generic p m le (nearer j (omega (arith, f)) near)) (has_near near (omega (arith, f)) h) (move_generic_list ps m le near)

  pub move_generic : {ts us : List Token} {n i j : ℕ} → IsGeneric ts n i j → (m : ℕ) → n ≤ m → Near ts us j → IsGeneric us m i j
  move_generic (generic n i j k h o d) m le near =
      let e = optional_forward o in
      let f = default_forward d in
      generic m i j k (test_near is_name near (omega (arith, e, f)) h) (move_optional refl o (nearer j f near)) (move_default d m le near)

  pub move_default : {ts us : List Token} {n i j : ℕ} → IsDefault ts n i j → (m : ℕ) → n ≤ m → Near ts us j → IsDefault us m i j
  move_default (no_default n i h) m le near = no_default m i (lacks_near token.Equal refl near (omega arith) h)
  move_default (default n i j h t) m le near = default m i j (has_near near (omega (arith, type_forward t)) h) (move_type t m le near)

-- ---- types

-- a type depends on the tokens up to the place behind it
pub same_type : (ts us : List Token) (n i j : ℕ) → SameBelow (j + 1) ts us → IsType ts n i j → IsType us n i j
same_type ts us n i j same t =
    move_type t n (omega arith) (record { below = λ q less. same q (omega arith); here = inl (same j (omega arith)) })

-- more brackets may be open
pub more_brackets : (ts : List Token) (n m i j : ℕ) → n ≤ m → IsType ts n i j → IsType ts m i j
more_brackets ts n m i j le t = move_type t m le (record { below = λ q less. refl; here = inl refl })
