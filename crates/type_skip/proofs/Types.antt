-- How a type is read, part after part.
use Rattle.std.proofs.Common.{◌≡◌, ◌≤◌, ◌<◌, ◌+◌, ℕ, zero, suc, Bool, true, false, ◌&&◌, List, [], Option, Some, IsTrue, IsFalse, inl, inr, refl, sym, ap, subst, ◌∙◌, arith, true≢false}
use Rattle.syntax_tree.specs.declared.token.Token.{Token}
use Rattle.syntax_tree.specs.declared.token.TokenKind.{TokenKind}
use Rattle.syntax_tree.specs.declared.token.TokenKind.TheVariants as token
use Rattle.syntax_tree.specs.Places.{kind_at, Has, Lacks, is_name, is_named}
use Rattle.syntax_tree.specs.Types.{typeof_name, is_open_paren, is_bar, is_literal, opens_typeof, IsType, plain_type, barred_type, IsParts, last_part, more_parts, IsPart, part, IsMarks, no_mark, mark, IsAtom, literal, variadic, named, type_of, table, function, IsResult, no_result, result, IsItems, IsGenerics, no_generics, generics}
use Rattle.type_skip.specs.Reading.{SameBelow, ends_type}
use Rattle.type_skip.specs.Inner.{IsHead, IsBehindBar}
use Rattle.type_skip.proofs.Forward.{marks_forward, atom_forward, items_forward, generics_forward}
use Rattle.type_skip.proofs.OneType.{clash_back, atom_form, form, form_is, generics_form, one_part, one_generics, one_items}
use Rattle.type_skip.proofs.Moved.{Near, bar_ends, move_atom, move_marks, move_generics, move_items}
use Rattle.type_skip.proofs.GoingOn.{within, has_within}
use Rattle.type_skip.proofs.Leading.{same_below, Leads, Exactly}

pub near_of : (ts us : List Token) (j k : ℕ) → j < k → SameBelow k ts us → Near ts us j
near_of ts us j k less same = record { below = λ q h. same q (omega arith); here = inl (same j less) }

-- what goes on with no type is no such token
pub ends_lacks : (us : List Token) (j : ℕ) (kind : TokenKind) → IsFalse (ends_type (Some kind)) → IsTrue (ends_type (kind_at us j)) → Lacks us j kind
ends_lacks us j kind goes over = λ there. true≢false (sym over ∙ ap ends_type there ∙ goes)

-- ---- what a type stops at

pub marks_stop : {us : List Token} {i j : ℕ} → IsMarks us i j → Lacks us j token.Question
marks_stop (no_mark i h) = h
marks_stop (mark i j h m) = marks_stop m

pub part_stops : {us : List Token} {n i j : ℕ} → IsPart us n i j → Lacks us j token.Question
part_stops (part n i j k a m) = marks_stop m

pub parts_stop : {us : List Token} {n i j : ℕ} → IsParts us n i j → Lacks us j token.Question × IsFalse (is_bar (kind_at us j))
parts_stop (last_part n i j p h) = (part_stops p, h)
parts_stop (more_parts n i j k p h ps) = parts_stop ps

pub type_stops : {us : List Token} {n i j : ℕ} → IsType us n i j → Lacks us j token.Question × IsFalse (is_bar (kind_at us j))
type_stops (plain_type n i j h p) = parts_stop p
type_stops (barred_type n i j h p) = parts_stop p

no_marks : {us : List Token} {i j : ℕ} → IsMarks us i j → Lacks us i token.Question → i ≡ j
no_marks (no_mark i h) g = refl
no_marks (mark i j h m) g = absurd (g h)

-- ---- what a type begins with

abbrev pub begins : Option TokenKind → Bool
begins (Some token.Pipe) = true
begins (Some token.Ampersand) = true
begins (Some token.Nil) = true
begins (Some token.True) = true
begins (Some token.False) = true
begins (Some (token.Str x)) = true
begins (Some token.TripleDot) = true
begins (Some (token.Name x)) = true
begins (Some token.OpenBrace) = true
begins (Some token.Less) = true
begins (Some token.OpenParen) = true
begins _ = false

bar_begins : (o : Option TokenKind) → IsTrue (is_bar o) → IsTrue (begins o)
bar_begins (Some token.Pipe) h = refl
bar_begins (Some token.Ampersand) h = refl
bar_begins _ h = absurd (true≢false (sym h))

literal_begins : (o : Option TokenKind) → IsTrue (is_literal o) → IsTrue (begins o) × IsFalse (is_bar o)
literal_begins (Some token.Nil) h = (refl, refl)
literal_begins (Some token.True) h = (refl, refl)
literal_begins (Some token.False) h = (refl, refl)
literal_begins (Some (token.Str x)) h = (refl, refl)
literal_begins _ h = absurd (true≢false (sym h))

pub name_begins : (o : Option TokenKind) → IsTrue (is_name o) → IsTrue (begins o) × IsFalse (is_bar o)
name_begins (Some (token.Name x)) h = (refl, refl)
name_begins _ h = absurd (true≢false (sym h))

pub typeof_is_name : (o q : Option TokenKind) → IsTrue (is_named typeof_name o && is_open_paren q) → IsTrue (is_name o)
typeof_is_name (Some (token.Name x)) q h = refl
typeof_is_name _ q h = absurd (true≢false (sym h))

begins_at : (us : List Token) (i : ℕ) {kind : TokenKind} → Has us i kind → IsTrue (begins (Some kind)) × IsFalse (is_bar (Some kind)) → IsTrue (begins (kind_at us i)) × IsFalse (is_bar (kind_at us i))
begins_at us i h b = rw h b

generics_begin : {us : List Token} {n i j : ℕ} → IsGenerics us n i j → Has us j token.OpenParen → IsTrue (begins (kind_at us i)) × IsFalse (is_bar (kind_at us i))
generics_begin {us = us} (no_generics n i h) g = begins_at us i g (refl, refl)
generics_begin {us = us} (generics n i j h l c) g = begins_at us i h (refl, refl)

pub atom_begins : {us : List Token} {n i j : ℕ} → IsAtom us n i j → IsTrue (begins (kind_at us i)) × IsFalse (is_bar (kind_at us i))
atom_begins {us = us} (literal n i h) = literal_begins (kind_at us i) h
atom_begins {us = us} (variadic n i j h p) = begins_at us i h (refl, refl)
atom_begins {us = us} (named n i j k l h g m a d) = name_begins (kind_at us i) h
atom_begins {us = us} (type_of n i j h b g) = name_begins (kind_at us i) (typeof_is_name (kind_at us i) (kind_at us (i + 1)) h)
atom_begins {us = us} (table n i j h f g) = begins_at us i h (refl, refl)
atom_begins (function n i j k l g h p q r) = generics_begin g h

part_begins : {us : List Token} {n i j : ℕ} → IsPart us n i j → IsTrue (begins (kind_at us i)) × IsFalse (is_bar (kind_at us i))
part_begins (part n i j k a m) = atom_begins a

pub parts_begin : {us : List Token} {n i j : ℕ} → IsParts us n i j → IsTrue (begins (kind_at us i)) × IsFalse (is_bar (kind_at us i))
parts_begin (last_part n i j p h) = part_begins p
parts_begin (more_parts n i j k p h ps) = part_begins p

pub type_begins : {us : List Token} {n i j : ℕ} → IsType us n i j → IsTrue (begins (kind_at us i))
type_begins (plain_type n i j h p) = let b = parts_begin p in b.0
type_begins {us = us} (barred_type n i j h p) = bar_begins (kind_at us i) h

-- ---- a bar before a type

unbar : {us : List Token} {n i j : ℕ} → IsType us n i j → IsTrue (is_bar (kind_at us i)) → IsParts us n (i + 1) j
unbar (plain_type n i j h p) g = absurd (true≢false (sym g ∙ h))
unbar (barred_type n i j h p) g = p

unplain : {us : List Token} {n i j : ℕ} → IsType us n i j → IsFalse (is_bar (kind_at us i)) → IsParts us n i j
unplain (plain_type n i j h p) g = p
unplain (barred_type n i j h p) g = absurd (true≢false (sym h ∙ g))

pub behind_bar : (ts : List Token) (n i j : ℕ) → IsBehindBar ts i j → Exactly IsType IsParts ts n i j
behind_bar ts n i j (inl b) = subst (λ (x : ℕ). Exactly IsType IsParts ts n i x) (sym b.1) (record {
  from = omega arith;
  reached = λ le. omega (arith, within is_bar ts i refl b.0);
  forth = λ us m e le same p. barred_type m i e (ap is_bar (same i (omega arith)) ∙ b.0) p;
  back = λ us m e same t. unbar t (ap is_bar (same i (omega arith)) ∙ b.0);
})
behind_bar ts n i j (inr b) = subst (λ (x : ℕ). Exactly IsType IsParts ts n i x) (sym b.1) (record {
  from = omega arith;
  reached = λ le. le;
  forth = λ us m e le same p. let f = parts_begin p in plain_type m i e f.1 p;
  back = λ us m e same t. unplain t (ap is_bar (same i (omega arith)) ∙ b.0);
})

-- ---- `...` before a part

pub form_at : {us : List Token} {n i j : ℕ} (a : IsAtom us n i j) (o : Option TokenKind) → kind_at us i ≡ o → form a ≡ atom_form (opens_typeof us i) o
form_at {us = us} {i = i} a o e = sym (form_is a) ∙ ap (atom_form (opens_typeof us i)) e

unpack_atom : {us : List Token} {n i j : ℕ} (a : IsAtom us n i j) → form a ≡ 1 → IsPart us n (i + 1) j
unpack_atom (variadic n i j h p) f = p
unpack_atom _ f = absurd (omega (arith, f))

unpack_part : {us : List Token} {n i j : ℕ} → IsPart us n i j → Has us i token.TripleDot → IsPart us n (i + 1) j
unpack_part {us = us} (part n i j k a m) h =
    let p = unpack_atom a (form_at a (Some token.TripleDot) h) in
    subst (λ (x : ℕ). IsPart us n (i + 1) x) (no_marks m (part_stops p)) p

unpack : {us : List Token} {n i j : ℕ} → IsParts us n i j → Has us i token.TripleDot → IsParts us n (i + 1) j
unpack (last_part n i j p h) g = last_part n (i + 1) j (unpack_part p g) h
unpack (more_parts n i j k p h ps) g = more_parts n (i + 1) j k (unpack_part p g) h ps

pack_part : {us : List Token} {n k j : ℕ} (i : ℕ) → k ≡ i + 1 → Has us i token.TripleDot → IsPart us n k j → IsPart us n i j
pack_part {us = us} {n = n} {j = j} i e h p = part n i j j (variadic n i j h (subst (λ (x : ℕ). IsPart us n x j) e p)) (no_mark j (part_stops p))

pack : {us : List Token} {n k j : ℕ} (i : ℕ) → k ≡ i + 1 → Has us i token.TripleDot → IsParts us n k j → IsParts us n i j
pack i e h (last_part n k j p g) = last_part n i j (pack_part i e h p) g
pack i e h (more_parts n k j l p g ps) = more_parts n i j l (pack_part i e h p) g ps

pub into_part : (ts : List Token) (n i : ℕ) → Has ts i token.TripleDot → Exactly IsParts IsParts ts n i (i + 1)
into_part ts n i h = record {
  from = omega arith;
  reached = λ le. omega (arith, has_within ts i token.TripleDot h);
  forth = λ us m e le same p. pack i refl (same i (omega arith) ∙ h) p;
  back = λ us m e same p. unpack p (same i (omega arith) ∙ h);
}

-- ---- parameters and `->` before a type

pub head_atom : (ts us : List Token) (n i k e m : ℕ) → IsHead ts n i k → n ≤ m → SameBelow k ts us → IsResult us m k e → IsAtom us m i e
head_atom ts us n i k e zero h le same r = absurd (omega (arith, h.room, le))
head_atom ts us n i k e (suc m) h le same r =
    let o = h.opened in
    let p = h.items in
    let a = generics_forward o.generics in
    let b = items_forward p.inside in
    function m i o.place p.place e
    (move_generics o.generics m (omega (arith, h.room, le)) (near_of ts us o.place k (omega (arith, o.behind, b, p.behind)) same))
    (same o.place (omega (arith, o.behind, b, p.behind)) ∙ o.opens)
    (subst (λ (x : ℕ). IsItems us token.CloseParen m x p.place) o.behind (move_items p.inside m (omega (arith, h.room, le)) (λ q less. same q (omega (arith, p.behind)))))
    (same p.place (omega (arith, p.behind)) ∙ p.closed)
    (subst (λ (x : ℕ). IsResult us (suc m) x e) p.behind r)

unfunction : (ts us : List Token) (n m i k j : ℕ) → IsHead ts n i k → SameBelow (k + 1) ts us → (a : IsAtom us m i j) → form a ≡ 5 → IsResult us m k j
unfunction ts us n m i k j h same (function m2 i2 g c j2 gens opens its closes r) f =
    let o = h.opened in
    let p = h.items in
    let a = generics_forward o.generics in
    let b = items_forward p.inside in
    let one = one_generics (move_generics o.generics h.inner (omega arith) (near_of ts us o.place (k + 1) (omega (arith, o.behind, b, p.behind)) same)) gens refl in
    let two = one_items (move_items p.inside h.inner (omega arith) (λ q less. same q (omega (arith, p.behind)))) its (o.behind ∙ ap (λ x. x + 1) one) refl in
    subst (λ (x : ℕ). IsResult us (suc m2) x j2) (sym (p.behind ∙ ap (λ x. x + 1) two)) r
unfunction ts us n m i k j h same _ f = absurd (omega (arith, f))

pub head_form : (ts us : List Token) (n m i k j : ℕ) → IsHead ts n i k → SameBelow (k + 1) ts us → (a : IsAtom us m i j) → form a ≡ 5
head_form ts us n m i k j h same a =
    let o = h.opened in
    let p = h.items in
    let g = generics_forward o.generics in
    let b = items_forward p.inside in
    form_at a (kind_at ts i) (same i (omega (arith, g, o.behind, b, p.behind))) ∙ generics_form (opens_typeof us i) o.generics o.opens

pub head_result : (ts us : List Token) (n m i k j : ℕ) → IsHead ts n i k → SameBelow (k + 1) ts us → IsAtom us m i j → IsResult us m k j
head_result ts us n m i k j h same a = unfunction ts us n m i k j h same a (head_form ts us n m i k j h same a)

result_type : {us : List Token} {m k j : ℕ} → IsResult us m k j → Has us k token.Arrow → IsType us m (k + 1) j
result_type (no_result m k h) g = absurd (h g)
result_type (result m k j h t) g = t

part_result : (ts us : List Token) (n m i k j : ℕ) → IsHead ts n i k → Has ts k token.Arrow → SameBelow (k + 1) ts us → IsPart us m i j → IsType us m (k + 1) j
part_result ts us n m i k j h arrow same (part m2 i2 j1 j2 a marks) =
    let t = result_type (head_result ts us n m2 i2 k j1 h same a) (same k (omega arith) ∙ arrow) in
    let s = type_stops t in
    subst (λ (x : ℕ). IsType us m2 (k + 1) x) (no_marks marks s.0) t

parts_result : (ts us : List Token) (n m i k j : ℕ) → IsHead ts n i k → Has ts k token.Arrow → SameBelow (k + 1) ts us → IsParts us m i j → IsType us m (k + 1) j
parts_result ts us n m i k j h arrow same (last_part m2 i2 j2 p g) = part_result ts us n m2 i2 k j2 h arrow same p
parts_result ts us n m i k j h arrow same (more_parts m2 i2 j2 k2 p g ps) =
    let s = type_stops (part_result ts us n m2 i2 k j2 h arrow same p) in
    absurd (true≢false (sym g ∙ s.1))

pub into_result : (ts : List Token) (n i k : ℕ) → i ≤ k → IsHead ts n i k → Has ts k token.Arrow → Exactly IsParts IsType ts n i (k + 1)
into_result ts n i k from h arrow = record {
  from = omega (arith, from);
  reached = λ le. omega (arith, has_within ts k token.Arrow arrow);
  forth = λ us m e le same t.
      let s = type_stops t in
      last_part m i e (part m i e e (head_atom ts us n i k e m h le (same_below ts us k (k + 1) (omega arith) same) (result m k e (same k (omega arith) ∙ arrow) t)) (no_mark e s.0)) s.1;
  back = λ us m e same p. parts_result ts us n m i k e h arrow (same_below ts us (k + 1) (k + 1 + 1) (omega arith) same) p;
}

-- ---- a part with a bar behind it

after_part : {us : List Token} {n m i k e : ℕ} → IsParts us m i e → IsPart us n i k → IsTrue (is_bar (kind_at us k)) → IsParts us m (k + 1) e
after_part {us = us} (last_part m i e q h) p bar = clash_back (λ x. is_bar (kind_at us x)) (one_part q p refl) h bar
after_part {us = us} (more_parts m i j e q h qs) p bar = subst (λ (x : ℕ). IsParts us m (x + 1) e) (one_part q p refl) qs

pub into_more : (ts : List Token) (n i j k : ℕ) → IsAtom ts n i j → IsMarks ts j k → IsTrue (is_bar (kind_at ts k)) → Exactly IsParts IsParts ts n i (k + 1)
into_more ts n i j k a marks bar =
    let f = atom_forward a in
    let g = marks_forward marks in
    record {
      from = omega (arith, f, g);
      reached = λ le. omega (arith, within is_bar ts k refl bar);
      forth = λ us m e le same p.
          more_parts m i k e (part m i j k (move_atom a m le (near_of ts us j (k + 1) (omega (arith, g)) same)) (move_marks marks (near_of ts us k (k + 1) (omega arith) same))) (ap is_bar (same k (omega arith)) ∙ bar) p;
      back = λ us m e same p.
          after_part p (part n i j k (move_atom a n (omega arith) (near_of ts us j (k + 1 + 1) (omega (arith, g)) same)) (move_marks marks (near_of ts us k (k + 1 + 1) (omega arith) same))) (ap is_bar (same k (omega arith)) ∙ bar);
    }

-- ---- an atom is first

first_atom : {us : List Token} {m i e : ℕ} → IsParts us m i e → (k : ℕ) × IsAtom us m i k
first_atom (last_part m i e (part m2 i2 j k a marks) h) = (j, a)
first_atom (more_parts m i j e (part m2 i2 j2 k a marks) h ps) = (j2, a)

pub into_atom : (ts : List Token) (n i : ℕ) → Leads IsParts IsAtom [] ts n i i
into_atom ts n i = record {
  from = omega arith;
  reached = λ le. le;
  ends = refl;
  forth = λ us m j e le same a w.
      let whole : IsParts us m i j = last_part m i j (part m i j j a (no_mark j (ends_lacks us j token.Question refl w.1))) (bar_ends (kind_at us j) w.1) in
      subst (λ (x : ℕ). IsParts us m i x) w.0 whole;
  back = λ us m j same p. first_atom p;
}
