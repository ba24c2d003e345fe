-- How names, brackets and generics in a type are read.
use Rattle.std.proofs.Common.{◌≡◌, ◌≤◌, ◌<◌, ◌+◌, ℕ, zero, suc, Bool, true, false, ◌&&◌, List, [], ◌∷◌, length, Option, Some, IsTrue, IsFalse, ◌⊎◌, inl, inr, refl, sym, ap, subst, ◌∙◌, arith, true≢false}
use Rattle.std.proofs.lemmas.Bool.{cases_lt}
use Rattle.syntax_tree.specs.declared.token.Token.{Token}
use Rattle.syntax_tree.specs.declared.token.TokenKind.{TokenKind}
use Rattle.syntax_tree.specs.declared.token.TokenKind.TheVariants as token
use Rattle.syntax_tree.specs.Places.{kind_at, Has, Lacks, is_name, is_named, Optional, taken, absent}
use Rattle.syntax_tree.specs.Types.{typeof_name, is_open_paren, is_literal, opens_typeof, is_closer, IsType, IsMember, no_member, member, balanced, IsAtom, literal, variadic, named, type_of, table, function, IsArguments, no_arguments, arguments, no_result, IsItems, no_items, no_fields, IsGenerics, no_generics, generics, IsGenericList, last_generic, more_generics, IsGeneric, generic, IsDefault, no_default, default}
use Rattle.type_skip.specs.Brackets.{opens_bracket}
use Rattle.type_skip.specs.Reading.{SameBelow, ends_type, Writes, IsStuck, IsDeep}
use Rattle.type_skip.specs.Inner.{IsClosedItems, IsClosedFields, IsClosedGenerics, IsClosedBalanced, IsMemberAt, IsOpened, IsEntered, IsHead}
use Rattle.type_skip.proofs.Forward.{optional_forward, member_forward, items_forward, generics_forward, generic_forward}
use Rattle.type_skip.proofs.OneType.{misses, misses_back, atom_form, form, name_form, typeof_form, one_generics, one_generic, one_optional, one_member}
use Rattle.type_skip.proofs.Moved.{move_optional, move_member, move_generics, move_generic}
use Rattle.type_skip.proofs.Leading.{same_below, Leads, LeadsIn, Exactly}
use Rattle.type_skip.proofs.Counting.{bracket_counts, bracket_here}
use Rattle.type_skip.proofs.GoingOn.{within, has_within}
use Rattle.type_skip.proofs.Ends.{member_ends, generic_ends, optional_ends}
use Rattle.type_skip.proofs.Types.{near_of, ends_lacks, typeof_is_name, form_at, head_atom}

-- a name that serves where any does
abbrev pub a_name : TokenKind
a_name = token.Name typeof_name

-- ---- names

pub paren_ends : (o : Option TokenKind) → IsTrue (ends_type o) → IsFalse (is_open_paren o)
paren_ends (Some token.OpenParen) h = absurd (true≢false (sym h))
paren_ends _ h = refl

and_false : (a b : Bool) → IsFalse b → IsFalse (a && b)
and_false true b h = h
and_false false b h = refl

-- no `typeof` stands before what is no parenthesis
pub unopened : (us : List Token) (i : ℕ) → IsFalse (is_open_paren (kind_at us (i + 1))) → IsFalse (opens_typeof us i)
unopened us i h = and_false (is_named typeof_name (kind_at us i)) (is_open_paren (kind_at us (i + 1))) h

pub same_typeof : (ts us : List Token) (i : ℕ) (b : Bool) → SameBelow (i + 2) ts us → opens_typeof ts i ≡ b → opens_typeof us i ≡ b
same_typeof ts us i b same h = rw (same i (omega arith), same (i + 1) (omega arith)) h

member_moved : (ts us : List Token) (i k : ℕ) → IsMember ts i k → SameBelow k ts us → Lacks us k token.Dot → IsMember us i k
member_moved ts us i k (no_member j h) same lacks = no_member j lacks
member_moved ts us i k (member j h g) same lacks = member j (same j (omega arith) ∙ h) (ap is_name (same (j + 1) (omega arith)) ∙ g)

still_no_typeof : (ts us : List Token) (i k : ℕ) → i + 1 ≤ k → IsFalse (opens_typeof ts i) → SameBelow k ts us → IsFalse (is_open_paren (kind_at us k)) → (i + 1 < k) ⊎ (k ≤ i + 1) → IsFalse (opens_typeof us i)
still_no_typeof ts us i k le h same g (inl less) = same_typeof ts us i false (same_below ts us (i + 2) k (omega (arith, less)) same) h
still_no_typeof ts us i k le h same g (inr more) =
    let e : k ≡ i + 1 = omega (arith, le, more) in
    unopened us i (subst (λ (x : ℕ). IsFalse (is_open_paren (kind_at us x))) e g)

-- what follows a name and its member
follows_member : (us : List Token) (m k j : ℕ) → IsArguments us m k j → IsTrue (ends_type (kind_at us j)) → Lacks us k token.Dot × IsFalse (is_open_paren (kind_at us k))
follows_member us m k j (no_arguments n i h) over = (ends_lacks us i token.Dot refl over, paren_ends (kind_at us i) over)
follows_member us m k j (arguments n i e h p g) over = ((λ there. let both : Some token.Less ≡ Some token.Dot = sym h ∙ there in absurd cc), ap is_open_paren h)

named_arguments : {us : List Token} {m i j : ℕ} (k : ℕ) (a : IsAtom us m i j) → form a ≡ 2 → IsMember us (i + 1) k → (e : ℕ) × IsArguments us m k e
named_arguments {us = us} k (named n i j2 k2 l h g u a d) f mem = (k2, subst (λ (x : ℕ). IsArguments us n x k2) (one_member u mem refl) a)
named_arguments k _ f mem = absurd (omega (arith, f))

named_member : {us : List Token} {m i j : ℕ} (a : IsAtom us m i j) → form a ≡ 2 → (e : ℕ) × IsMember us (i + 1) e
named_member (named n i j2 k2 l h g u a d) f = (j2, u)
named_member _ f = absurd (omega (arith, f))

name_at : (ts us : List Token) (m i j : ℕ) (a : IsAtom us m i j) → IsTrue (is_name (kind_at ts i)) → IsFalse (opens_typeof ts i) → SameBelow (i + 2) ts us → form a ≡ 2
name_at ts us m i j a h g same = form_at a (kind_at ts i) (same i (omega arith)) ∙ name_form (opens_typeof us i) (kind_at ts i) h (same_typeof ts us i false same g)

pub name_arguments : (ts : List Token) (n i k : ℕ) → IsTrue (is_name (kind_at ts i)) → IsFalse (opens_typeof ts i) → IsMember ts (i + 1) k → Leads IsAtom IsArguments [] ts n i k
name_arguments ts n i k h g mem =
    let f = member_forward mem in
    record {
      from = omega (arith, f);
      reached = λ le. member_ends ts mem (omega (arith, within is_name ts i refl h));
      ends = refl;
      forth = λ us m j e le same a w.
          let after = follows_member us m k j a w.1 in
          subst (λ (x : ℕ). IsAtom us m i x) w.0
          (named m i k j j (ap is_name (same i (omega (arith, f))) ∙ h) (still_no_typeof ts us i k f g same after.1 (cases_lt (i + 1) k))
          (member_moved ts us (i + 1) k mem same after.0) a (absent j (ends_lacks us j token.TripleDot refl w.1)));
      back = λ us m j same a.
          named_arguments k a (name_at ts us m i j a h g (same_below ts us (i + 2) (k + 1) (omega (arith, f)) same)) (move_member mem (near_of ts us k (k + 1) (omega arith) same));
    }

follows_name : (us : List Token) (i j : ℕ) → IsMember us i j → IsTrue (ends_type (kind_at us j)) → IsFalse (is_open_paren (kind_at us i))
follows_name us i j (no_member k h) over = paren_ends (kind_at us k) over
follows_name us i j (member k h g) over = ap is_open_paren h

pub name_member : (ts : List Token) (n i : ℕ) → IsTrue (is_name (kind_at ts i)) → IsFalse (opens_typeof ts i) → Leads IsAtom IsMemberAt [] ts n i (i + 1)
name_member ts n i h g = record {
  from = omega arith;
  reached = λ le. omega (arith, within is_name ts i refl h);
  ends = refl;
  forth = λ us m j e le same mem w.
      subst (λ (x : ℕ). IsAtom us m i x) w.0
      (named m i j j j (ap is_name (same i (omega arith)) ∙ h) (unopened us i (follows_name us (i + 1) j mem w.1)) mem (no_arguments m j (ends_lacks us j token.Less refl w.1)) (absent j (ends_lacks us j token.TripleDot refl w.1)));
  back = λ us m j same a. named_member a (name_at ts us m i j a h g (same_below ts us (i + 2) (i + 1 + 1) (omega arith) same));
}

no_member_there : (ts us : List Token) (i j : ℕ) → Has us i token.Dot → IsFalse (is_name (kind_at us (i + 1))) → IsMember us i j → ⊥
no_member_there ts us i j h g (no_member k f) = f h
no_member_there ts us i j h g (member k f e) = true≢false (sym e ∙ g)

pub stuck_member : (ts : List Token) (n i : ℕ) → Has ts i token.Dot → IsFalse (is_name (kind_at ts (i + 1))) → IsStuck IsMemberAt ts n i (i + 1)
stuck_member ts n i h g = record {
  from = omega arith;
  reached = λ le. omega (arith, has_within ts i token.Dot h);
  none = λ us m j same mem. no_member_there ts us i j (same i (omega arith) ∙ h) (ap is_name (same (i + 1) (omega arith)) ∙ g) mem;
  before = record {
    kinds = a_name ∷ [];
    whole = λ us j same w. subst (λ (x : ℕ). IsMember us i x) (omega (arith, w.1.0)) (member i (same i (omega arith) ∙ h) (ap is_name w.0));
  };
}

-- ---- arguments

with_arguments : {us : List Token} {m i j : ℕ} → IsArguments us m i j → Has us i token.Less → (l k : ℕ) × (m ≡ suc l) × IsClosedItems token.Greater us l (i + 1) k
with_arguments (no_arguments n i h) g = absurd (h g)
with_arguments (arguments n i j h p c) g = (n, j + 1, refl, record { place = j; inside = p; closed = c; behind = refl })

no_room_arguments : {us : List Token} {i j : ℕ} → IsArguments us zero i j → Lacks us i token.Less
no_room_arguments (no_arguments n i h) = h

pub arguments_items : (ts : List Token) (n i : ℕ) → Has ts i token.Less → LeadsIn IsArguments (IsClosedItems token.Greater) [] ts n i (i + 1)
arguments_items ts n i h = record {
  from = omega arith;
  opened = bracket_counts ts i i (i + 1) (omega arith) (omega arith) (ap opens_bracket h);
  reached = λ le. omega (arith, has_within ts i token.Less h);
  ends = refl;
  forth = λ us m j e le same c w. subst (λ (x : ℕ). IsArguments us (suc m) i x) (sym c.behind ∙ w.0) (arguments m i c.place (same i (omega arith) ∙ h) c.inside c.closed);
  back = λ us m j same a. with_arguments a (same i (omega arith) ∙ h);
}

deep_arguments_0 : (ts : List Token) (i : ℕ) → Has ts i token.Less → i < length ts → IsDeep IsArguments ts zero i i
deep_arguments_0 ts i h there = record {
  from = omega arith;
  many = bracket_here ts i i (omega arith) (ap opens_bracket h);
  there = there;
  none = λ us j same a. no_room_arguments a (same i (omega arith) ∙ h);
  before = record {
    kinds = [];
    whole = λ us j same w. subst (λ (x : ℕ). IsArguments us zero i x) w.0 (no_arguments zero i (ends_lacks us i token.Less refl w.1));
  };
  deeper = record {
    kinds = token.Greater ∷ [];
    whole = λ us j same w. subst (λ (x : ℕ). IsArguments us (suc zero) i x) w.1.0 (arguments zero i (i + 1) (same i (omega arith) ∙ h) (no_items token.Greater zero (i + 1) w.0) w.0);
  };
}

pub deep_arguments : (ts : List Token) (n i : ℕ) → n ≡ 0 → Has ts i token.Less → i < length ts → IsDeep IsArguments ts n i i
deep_arguments ts n i e h there = subst (λ (x : ℕ). IsDeep IsArguments ts x i i) (sym e) (deep_arguments_0 ts i h there)

-- ---- an atom in one bracket

no_room : {us : List Token} {i j : ℕ} (a : IsAtom us zero i j) → form a < 3
no_room (literal n i h) = omega arith
no_room (variadic n i j h p) = omega arith
no_room (named n i j k l h g m a d) = omega arith

-- ---- `typeof`

paren_of_typeof : (o q : Option TokenKind) → IsTrue (is_named typeof_name o && is_open_paren q) → IsTrue (is_open_paren q)
paren_of_typeof (Some (token.Name x)) (Some token.OpenParen) h = refl
paren_of_typeof (Some (token.Name x)) q h = last (is_named typeof_name (Some (token.Name x))) (is_open_paren q) h
  where
    last : (a b : Bool) → IsTrue (a && b) → IsTrue b
    last true b h = h
    last false b h = absurd (true≢false (sym h))
paren_of_typeof _ q h = absurd (true≢false (sym h))

pub typeof_within : (ts : List Token) (i : ℕ) → IsTrue (opens_typeof ts i) → i + 1 < length ts
typeof_within ts i h = within is_open_paren ts (i + 1) refl (paren_of_typeof (kind_at ts i) (kind_at ts (i + 1)) h)

paren_bracket : (o : Option TokenKind) → IsTrue (is_open_paren o) → IsTrue (opens_bracket o)
paren_bracket (Some token.OpenParen) h = refl
paren_bracket _ h = absurd (true≢false (sym h))

typeof_bracket : (ts : List Token) (i : ℕ) → IsTrue (opens_typeof ts i) → IsTrue (opens_bracket (kind_at ts (i + 1)))
typeof_bracket ts i h = paren_bracket (kind_at ts (i + 1)) (paren_of_typeof (kind_at ts i) (kind_at ts (i + 1)) h)

typeof_at : (us : List Token) (m i j : ℕ) (a : IsAtom us m i j) → IsTrue (opens_typeof us i) → form a ≡ 3
typeof_at us m i j a h = form_at a (kind_at us i) refl ∙ typeof_form (opens_typeof us i) (kind_at us i) (kind_at us (i + 1)) refl h

in_typeof : {us : List Token} {m i j : ℕ} (a : IsAtom us m i j) → form a ≡ 3 → (l k : ℕ) × (m ≡ suc l) × IsClosedBalanced token.CloseParen us l (i + 2) k
in_typeof (type_of n i j h b c) f = (n, j + 1, refl, record { place = j; inside = b; closed = c; behind = refl })
in_typeof _ f = absurd (omega (arith, f))

pub typeof_balanced : (ts : List Token) (n i : ℕ) → IsTrue (opens_typeof ts i) → LeadsIn IsAtom (IsClosedBalanced token.CloseParen) [] ts n i (i + 2)
typeof_balanced ts n i h = record {
  from = omega arith;
  opened = bracket_counts ts i (i + 1) (i + 2) (omega arith) (omega arith) (typeof_bracket ts i h);
  reached = λ le. omega (arith, typeof_within ts i h);
  ends = refl;
  forth = λ us m j e le same c w. subst (λ (x : ℕ). IsAtom us (suc m) i x) (sym c.behind ∙ w.0) (type_of m i c.place (same_typeof ts us i true same h) c.inside c.closed);
  back = λ us m j same a. in_typeof a (typeof_at us m i j a (same_typeof ts us i true (same_below ts us (i + 2) (i + 2 + 1) (omega arith) same) h));
}

deep_typeof_0 : (ts : List Token) (i : ℕ) → IsTrue (opens_typeof ts i) → i + 1 < length ts → IsDeep IsAtom ts zero i (i + 1)
deep_typeof_0 ts i h there = record {
  from = omega arith;
  many = bracket_here ts i (i + 1) (omega arith) (typeof_bracket ts i h);
  there = there;
  none = λ us j same a. absurd (omega (arith, no_room a, typeof_at us zero i j a (same_typeof ts us i true (same_below ts us (i + 2) (i + 1 + 1) (omega arith) same) h)));
  before = record {
    kinds = [];
    whole = λ us j same w.
        let k = i + 1 in
        subst (λ (x : ℕ). IsAtom us zero i x) w.0 (named zero i (i + 1) (i + 1) (i + 1)
        (ap is_name (same i (omega arith)) ∙ typeof_is_name (kind_at ts i) (kind_at ts (i + 1)) h) (unopened us i (paren_ends (kind_at us (i + 1)) w.1))
        (no_member (i + 1) (ends_lacks us (i + 1) token.Dot refl w.1)) (no_arguments zero (i + 1) (ends_lacks us (i + 1) token.Less refl w.1)) (absent (i + 1) (ends_lacks us (i + 1) token.TripleDot refl w.1)));
  };
  deeper = record {
    kinds = token.CloseParen ∷ [];
    whole = λ us j same w.
        let e : i + 2 ≡ i + 1 + 1 = omega arith in
        let close : Has us (i + 2) token.CloseParen = ap (kind_at us) e ∙ w.0 in
        subst (λ (x : ℕ). IsAtom us (suc zero) i x) (ap (λ x. x + 1) e ∙ w.1.0)
        (type_of zero i (i + 2) (same_typeof ts us i true (same_below ts us (i + 2) (i + 1 + 1) (omega arith) same) h) (balanced zero (i + 2) (ap is_closer close)) close);
  };
}

pub deep_typeof : (ts : List Token) (n i : ℕ) → n ≡ 0 → IsTrue (opens_typeof ts i) → i + 1 < length ts → IsDeep IsAtom ts n i (i + 1)
deep_typeof ts n i e h there = subst (λ (x : ℕ). IsDeep IsAtom ts x i (i + 1)) (sym e) (deep_typeof_0 ts i h there)

-- ---- `nil`, where an atom is wanted

pub nil_there : (us : List Token) (m k j : ℕ) → Writes us k (token.Nil ∷ []) j → IsAtom us m k j
nil_there us m k j w = subst (λ (x : ℕ). IsAtom us m k x) w.1.0 (literal m k (ap is_literal w.0))

pub stuck_atom : (ts : List Token) (n i : ℕ) → ((us : List Token) (m j : ℕ) → SameBelow (i + 1) ts us → IsAtom us m i j → ⊥) → IsStuck IsAtom ts n i i
stuck_atom ts n i none = record {
  from = omega arith;
  reached = λ le. le;
  none = none;
  before = record { kinds = token.Nil ∷ []; whole = λ us j same w. nil_there us n i j w };
}

-- what begins no atom
no_atom_here : (us : List Token) (m i j : ℕ) → IsFalse (is_literal (kind_at us i)) → Lacks us i token.TripleDot → IsFalse (is_name (kind_at us i)) → Lacks us i token.OpenBrace → Lacks us i token.Less → Lacks us i token.OpenParen → IsAtom us m i j → ⊥
no_atom_here us m i j h1 h2 h3 h4 h5 h6 (literal n k h) = true≢false (sym h ∙ h1)
no_atom_here us m i j h1 h2 h3 h4 h5 h6 (variadic n k l h p) = h2 h
no_atom_here us m i j h1 h2 h3 h4 h5 h6 (named n k a b c h g u v d) = true≢false (sym h ∙ h3)
no_atom_here us m i j h1 h2 h3 h4 h5 h6 (type_of n k l h b g) = true≢false (sym (typeof_is_name (kind_at us k) (kind_at us (k + 1)) h) ∙ h3)
no_atom_here us m i j h1 h2 h3 h4 h5 h6 (table n k l h f g) = h4 h
no_atom_here us m i j h1 h2 h3 h4 h5 h6 (function n k a b c (no_generics o q f) h p u r) = h6 h
no_atom_here us m i j h1 h2 h3 h4 h5 h6 (function n k a b c (generics o q s f l e) h p u r) = h5 f

pub no_atom : (ts : List Token) (n i : ℕ) → IsFalse (is_literal (kind_at ts i)) → Lacks ts i token.TripleDot → IsFalse (is_name (kind_at ts i)) → Lacks ts i token.OpenBrace → Lacks ts i token.Less → Lacks ts i token.OpenParen → IsStuck IsAtom ts n i i
no_atom ts n i h1 h2 h3 h4 h5 h6 = stuck_atom ts n i (λ us m j same a.
    let e = same i (omega arith) in
    no_atom_here us m i j (ap is_literal e ∙ h1) (λ there. h2 (sym e ∙ there)) (ap is_name e ∙ h3) (λ there. h4 (sym e ∙ there)) (λ there. h5 (sym e ∙ there)) (λ there. h6 (sym e ∙ there)) a)

-- ---- tables

in_table : {us : List Token} {m i j : ℕ} (a : IsAtom us m i j) → form a ≡ 4 → (l k : ℕ) × (m ≡ suc l) × IsClosedFields us l (i + 1) k
in_table (table n i j h f c) e = (n, j + 1, refl, record { place = j; inside = f; closed = c; behind = refl })
in_table _ f = absurd (omega (arith, f))

brace_at : (us : List Token) (m i j : ℕ) (a : IsAtom us m i j) → Has us i token.OpenBrace → form a ≡ 4
brace_at us m i j a h = form_at a (Some token.OpenBrace) h

pub table_fields : (ts : List Token) (n i : ℕ) → Has ts i token.OpenBrace → LeadsIn IsAtom IsClosedFields [] ts n i (i + 1)
table_fields ts n i h = record {
  from = omega arith;
  opened = bracket_counts ts i i (i + 1) (omega arith) (omega arith) (ap opens_bracket h);
  reached = λ le. omega (arith, has_within ts i token.OpenBrace h);
  ends = refl;
  forth = λ us m j e le same c w. subst (λ (x : ℕ). IsAtom us (suc m) i x) (sym c.behind ∙ w.0) (table m i c.place (same i (omega arith) ∙ h) c.inside c.closed);
  back = λ us m j same a. in_table a (brace_at us m i j a (same i (omega arith) ∙ h));
}

deep_table_0 : (ts : List Token) (i : ℕ) → Has ts i token.OpenBrace → i < length ts → IsDeep IsAtom ts zero i i
deep_table_0 ts i h there = record {
  from = omega arith;
  many = bracket_here ts i i (omega arith) (ap opens_bracket h);
  there = there;
  none = λ us j same a. absurd (omega (arith, no_room a, brace_at us zero i j a (same i (omega arith) ∙ h)));
  before = record { kinds = token.Nil ∷ []; whole = λ us j same w. nil_there us zero i j w };
  deeper = record {
    kinds = token.CloseBrace ∷ [];
    whole = λ us j same w. subst (λ (x : ℕ). IsAtom us (suc zero) i x) w.1.0 (table zero i (i + 1) (same i (omega arith) ∙ h) (no_fields zero (i + 1) w.0) w.0);
  };
}

pub deep_table : (ts : List Token) (n i : ℕ) → n ≡ 0 → Has ts i token.OpenBrace → i < length ts → IsDeep IsAtom ts n i i
deep_table ts n i e h there = subst (λ (x : ℕ). IsDeep IsAtom ts x i i) (sym e) (deep_table_0 ts i h there)

-- ---- generics and parameters

begin_form : (b : Bool) (o : Option TokenKind) → (o ≡ Some token.Less) ⊎ (o ≡ Some token.OpenParen) → atom_form b o ≡ 5
begin_form b o (inl h) = rw h refl
begin_form b o (inr h) = rw h refl

function_at : (ts us : List Token) (m i j : ℕ) (a : IsAtom us m i j) → Has ts i token.Less ⊎ Has ts i token.OpenParen → SameBelow (i + 1) ts us → form a ≡ 5
function_at ts us m i j a h same = form_at a (kind_at ts i) (same i (omega arith)) ∙ begin_form (opens_typeof us i) (kind_at ts i) h

in_function : {us : List Token} {m i j : ℕ} (a : IsAtom us m i j) → form a ≡ 5 → (l k : ℕ) × (m ≡ suc l) × IsOpened us l i k
in_function (function n i j k l g h p c r) f = (n, j + 1, refl, record { place = j; generics = g; opens = h; behind = refl })
in_function _ f = absurd (omega (arith, f))

begin_bracket : (o : Option TokenKind) → (o ≡ Some token.Less) ⊎ (o ≡ Some token.OpenParen) → IsTrue (opens_bracket o)
begin_bracket o (inl h) = ap opens_bracket h
begin_bracket o (inr h) = ap opens_bracket h

-- no items, and the parenthesis that closes them
empty_function : (us : List Token) (m i j e : ℕ) → IsOpened us m i j → Writes us j (token.CloseParen ∷ []) e → IsAtom us (suc m) i e
empty_function us m i j e o w =
    let close : Has us (o.place + 1) token.CloseParen = ap (kind_at us) (sym o.behind) ∙ w.0 in
    let over : IsTrue (ends_type (kind_at us (o.place + 1 + 1))) = ap (λ x. ends_type (kind_at us (x + 1))) (sym o.behind) ∙ w.1.1 in
    subst (λ (x : ℕ). IsAtom us (suc m) i x) (ap (λ x. x + 1) (sym o.behind) ∙ w.1.0)
    (function m i o.place (o.place + 1) (o.place + 1 + 1) o.generics o.opens
    (no_items token.CloseParen m (o.place + 1) close) close
    (no_result (suc m) (o.place + 1 + 1) (ends_lacks us (o.place + 1 + 1) token.Arrow refl over)))

pub function_opened :
    (ts : List Token) (n i : ℕ) → Has ts i token.Less ⊎ Has ts i token.OpenParen
    → Leads IsAtom IsEntered (token.CloseParen ∷ []) ts n i i
function_opened ts n i h = record {
  from = omega arith;
  reached = λ le. le;
  ends = refl;
  forth = λ us m j e le same o w. subst (λ (x : ℕ). IsAtom us x i e) (sym o.room) (empty_function us o.inner i j e o.opened w);
  back = λ us m j same a.
      let o = in_function a (function_at ts us m i j a h same) in
      (o.1, record { inner = o.0; room = o.2; opened = o.3 });
}

moved_generics : (ts us : List Token) (n m i k : ℕ) → IsOpened ts n i k → n ≤ m → SameBelow k ts us → IsOpened us m i k
moved_generics ts us n m i k o le same = record {
  place = o.place;
  generics = move_generics o.generics m le (near_of ts us o.place k (omega (arith, o.behind)) same);
  opens = same o.place (omega (arith, o.behind)) ∙ o.opens;
  behind = o.behind;
}

in_parameters : {us : List Token} {n m i j : ℕ} (k : ℕ) (a : IsAtom us m i j) → form a ≡ 5 → IsOpened us n i k → (l e : ℕ) × (m ≡ suc l) × IsClosedItems token.CloseParen us l k e
in_parameters {us = us} {n = n} k (function n2 i j k2 l g h p c r) f o =
    let one : j + 1 ≡ k = ap (λ x. x + 1) (one_generics g o.generics refl) ∙ sym o.behind in
    (n2, k2 + 1, refl, record { place = k2; inside = subst (λ (x : ℕ). IsItems us token.CloseParen n2 x k2) one p; closed = c; behind = refl })
in_parameters k _ f o = absurd (omega (arith, f))

pub function_parameters : (ts : List Token) (n i k : ℕ) → Has ts i token.Less ⊎ Has ts i token.OpenParen → IsOpened ts n i k → LeadsIn IsAtom (IsClosedItems token.CloseParen) [] ts n i k
function_parameters ts n i k begin o =
    let f = generics_forward o.generics in
    record {
      from = omega (arith, f, o.behind);
      opened = bracket_counts ts i o.place k f (omega (arith, o.behind)) (ap opens_bracket o.opens);
      reached = λ le. omega (arith, has_within ts o.place token.OpenParen o.opens, o.behind);
      ends = refl;
      forth = λ us m j e le same c w.
          let q = moved_generics ts us n m i k o le same in
          let over : IsTrue (ends_type (kind_at us (c.place + 1))) = ap (λ x. ends_type (kind_at us x)) (sym c.behind) ∙ w.1 in
          subst (λ (x : ℕ). IsAtom us (suc m) i x) (sym c.behind ∙ w.0)
          (function m i q.place c.place (c.place + 1) q.generics q.opens (subst (λ (x : ℕ). IsItems us token.CloseParen m x c.place) q.behind c.inside) c.closed (no_result (suc m) (c.place + 1) (ends_lacks us (c.place + 1) token.Arrow refl over)));
      back = λ us m j same a.
          in_parameters k a (function_at ts us m i j a begin (same_below ts us (i + 1) (k + 1) (omega (arith, f, o.behind)) same)) (moved_generics ts us n n i k o (omega arith) (same_below ts us k (k + 1) (omega arith) same));
    }

deeper_head : (ts us : List Token) (i j : ℕ) (o : Has ts i token.Less ⊎ Has ts i token.OpenParen) → SameBelow (i + 1) ts us → Writes us (i + 1) (elim o [ inl h ↦ a_name ∷ token.Greater ∷ token.OpenParen ∷ token.CloseParen ∷ [] | inr h ↦ token.CloseParen ∷ [] ]) j → IsAtom us (suc zero) i j
deeper_head ts us i j (inl h) same w =
    let close = w.1.1.1.0 in
    let end = w.1.1.1.1 in
    subst (λ (x : ℕ). IsAtom us (suc zero) i x) end.0
    (function zero i (i + 1 + 1 + 1) (i + 1 + 1 + 1 + 1) (i + 1 + 1 + 1 + 1 + 1)
    (generics zero i (i + 1 + 1) (same i (omega arith) ∙ h) (last_generic zero (i + 1) (i + 1 + 1) (generic zero (i + 1) (i + 1 + 1) (i + 1 + 1) (ap is_name w.0) (absent (i + 1 + 1) (ends_lacks us (i + 1 + 1) token.TripleDot refl (ap ends_type w.1.0))) (no_default zero (i + 1 + 1) (ends_lacks us (i + 1 + 1) token.Equal refl (ap ends_type w.1.0)))) (ends_lacks us (i + 1 + 1) token.Comma refl (ap ends_type w.1.0))) w.1.0)
    w.1.1.0 (no_items token.CloseParen zero (i + 1 + 1 + 1 + 1) close) close (no_result (suc zero) (i + 1 + 1 + 1 + 1 + 1) (ends_lacks us (i + 1 + 1 + 1 + 1 + 1) token.Arrow refl end.1)))
deeper_head ts us i j (inr h) same w =
    let there : Has us i token.OpenParen = same i (omega arith) ∙ h in
    let no_less : Lacks us i token.Less = λ less. (let both : Some token.OpenParen ≡ Some token.Less = sym there ∙ less in absurd cc) in
    subst (λ (x : ℕ). IsAtom us (suc zero) i x) w.1.0
    (function zero i i (i + 1) (i + 1 + 1) (no_generics zero i no_less) there (no_items token.CloseParen zero (i + 1) w.0) w.0 (no_result (suc zero) (i + 1 + 1) (ends_lacks us (i + 1 + 1) token.Arrow refl w.1.1)))

deep_head_0 : (ts : List Token) (i : ℕ) → Has ts i token.Less ⊎ Has ts i token.OpenParen → i < length ts → IsDeep IsAtom ts zero i i
deep_head_0 ts i h there = record {
  from = omega arith;
  many = bracket_here ts i i (omega arith) (begin_bracket (kind_at ts i) h);
  there = there;
  none = λ us j same a. absurd (omega (arith, no_room a, function_at ts us zero i j a h same));
  before = record { kinds = token.Nil ∷ []; whole = λ us j same w. nil_there us zero i j w };
  deeper = record {
    kinds = elim h [ inl g ↦ a_name ∷ token.Greater ∷ token.OpenParen ∷ token.CloseParen ∷ [] | inr g ↦ token.CloseParen ∷ [] ];
    whole = λ us j same w. deeper_head ts us i j h same w;
  };
}

pub deep_head : (ts : List Token) (n i : ℕ) → n ≡ 0 → Has ts i token.Less ⊎ Has ts i token.OpenParen → i < length ts → IsDeep IsAtom ts n i i
deep_head ts n i e h there = subst (λ (x : ℕ). IsDeep IsAtom ts x i i) (sym e) (deep_head_0 ts i h there)

with_generics : {us : List Token} {m i j : ℕ} → IsOpened us m i j → Has us i token.Less → IsClosedGenerics us m (i + 1) j
with_generics {us = us} {m = m} {i = i} {j = j} o h = inside o.generics o.opens o.behind h
  where
    inside : {a b : ℕ} → IsGenerics us m a b → Has us b token.OpenParen → j ≡ b + 1 → Has us a token.Less → IsClosedGenerics us m (a + 1) j
    inside (no_generics n a g) p e f = absurd (g f)
    inside (generics n a b g l c) p e f = record { place = b; inside = l; closed = c; opens = p; behind = omega (arith, e) }

pub generics_opened : (ts : List Token) (n i j : ℕ) → Has ts i token.Less → IsClosedGenerics ts n (i + 1) j → IsOpened ts n i j
generics_opened ts n i j h c = record {
  place = c.place + 1;
  generics = generics n i c.place h c.inside c.closed;
  opens = c.opens;
  behind = omega (arith, c.behind);
}

pub opened_generics : (ts : List Token) (n i : ℕ) → Has ts i token.Less → LeadsIn IsEntered IsClosedGenerics [] ts n i (i + 1)
opened_generics ts n i h = record {
  from = omega arith;
  opened = bracket_counts ts i i (i + 1) (omega arith) (omega arith) (ap opens_bracket h);
  reached = λ le. omega (arith, has_within ts i token.Less h);
  ends = refl;
  forth = λ us m j e le same c w.
      let o : IsOpened us m i j = generics_opened us m i j (same i (omega arith) ∙ h) c in
      record { inner = m; room = refl; opened = subst (λ (x : ℕ). IsOpened us m i x) w.0 o };
  back = λ us m j same o. (o.inner, j, o.room, with_generics o.opened (same i (omega arith) ∙ h));
}

-- ---- a list of generics

first_generic : {us : List Token} {m i j : ℕ} → IsClosedGenerics us m i j → (k : ℕ) × IsGeneric us m i k
first_generic {us = us} {m = m} c = of c.inside
  where
    of : {a b : ℕ} → IsGenericList us m a b → (k : ℕ) × IsGeneric us m a k
    of (last_generic n a b g h) = (b, g)
    of (more_generics n a b k g h gs) = (b, g)

pub list_generic : (ts : List Token) (n i : ℕ) → Leads IsClosedGenerics IsGeneric (token.Greater ∷ token.OpenParen ∷ []) ts n i i
list_generic ts n i = record {
  from = omega arith;
  reached = λ le. le;
  ends = refl;
  forth = λ us m j e le same g w. record {
    place = j;
    inside = last_generic m i j g (ends_lacks us j token.Comma refl (ap ends_type w.0));
    closed = w.0;
    opens = w.1.0;
    behind = omega (arith, w.1.1.0);
  };
  back = λ us m j same c. first_generic c;
}

after_generic : {us : List Token} {n m i k e : ℕ} → IsGeneric us n i k → Has us k token.Comma → IsClosedGenerics us m i e → IsClosedGenerics us m (k + 1) e
after_generic {us = us} {n = n} {m = m} {k = k} {e = e} g comma c = of c.inside c.closed c.opens c.behind g
  where
    of : {a b : ℕ} → IsGenericList us m a b → Has us b token.Greater → Has us (b + 1) token.OpenParen → e ≡ b + 2 → IsGeneric us n a k → IsClosedGenerics us m (k + 1) e
    of (last_generic l a b q h) closed opens behind p = misses_back us (one_generic q p refl) h comma
    of (more_generics l a b d q h qs) closed opens behind p = record { place = d; inside = subst (λ (x : ℕ). IsGenericList us l (x + 1) d) (one_generic q p refl) qs; closed = closed; opens = opens; behind = behind }

pub next_generic : (ts : List Token) (n i k : ℕ) → IsGeneric ts n i k → Has ts k token.Comma → Exactly IsClosedGenerics IsClosedGenerics ts n i (k + 1)
next_generic ts n i k g comma = record {
  from = omega (arith, generic_forward g);
  reached = λ le. omega (arith, has_within ts k token.Comma comma);
  forth = λ us m e le same c. record {
    place = c.place;
    inside = more_generics m i k c.place (move_generic g m le (near_of ts us k (k + 1) (omega arith) same)) (same k (omega arith) ∙ comma) c.inside;
    closed = c.closed;
    opens = c.opens;
    behind = c.behind;
  };
  back = λ us m e same c. after_generic (move_generic g n (omega arith) (near_of ts us k (k + 1 + 1) (omega arith) same)) (same k (omega arith) ∙ comma) c;
}

pub last_of_generics : (ts : List Token) (n i k : ℕ) → IsGeneric ts n i k → Lacks ts k token.Comma → Has ts k token.Greater → Has ts (k + 1) token.OpenParen → IsClosedGenerics ts n i (k + 1 + 1)
last_of_generics ts n i k g comma close opens = record { place = k; inside = last_generic n i k g comma; closed = close; opens = opens; behind = omega arith }

-- the list ends at its first generic
one_of_generics : {us : List Token} {n m i k e : ℕ} → IsGeneric us n i k → Lacks us k token.Comma → IsClosedGenerics us m i e → Has us k token.Greater × Has us (k + 1) token.OpenParen
one_of_generics {us = us} {n = n} {m = m} {k = k} {e = e} g comma c = of c.inside c.closed c.opens g
  where
    of : {a b : ℕ} → IsGenericList us m a b → Has us b token.Greater → Has us (b + 1) token.OpenParen → IsGeneric us n a k → Has us k token.Greater × Has us (k + 1) token.OpenParen
    of (last_generic l a b q h) closed opens p = (ap (kind_at us) (sym (one_generic q p refl)) ∙ closed, ap (λ x. kind_at us (x + 1)) (sym (one_generic q p refl)) ∙ opens)
    of (more_generics l a b d q h qs) closed opens p = misses us (one_generic q p refl) h comma

pub stuck_greater : (ts : List Token) (n i k : ℕ) → IsGeneric ts n i k → Lacks ts k token.Comma → Lacks ts k token.Greater → IsStuck IsClosedGenerics ts n i k
stuck_greater ts n i k g comma close = record {
  from = omega (arith, generic_forward g);
  reached = λ le. generic_ends ts g;
  none = λ us m j same c.
      let one = one_of_generics (move_generic g n (omega arith) (near_of ts us k (k + 1) (omega arith) same)) (λ there. comma (sym (same k (omega arith)) ∙ there)) c in
      close (sym (same k (omega arith)) ∙ one.0);
  before = record {
    kinds = token.Greater ∷ token.OpenParen ∷ [];
    whole = λ us j same w. record {
      place = k;
      inside = last_generic n i k (move_generic g n (omega arith) (record { below = same; here = inr (ap ends_type w.0) })) (ends_lacks us k token.Comma refl (ap ends_type w.0));
      closed = w.0;
      opens = w.1.0;
      behind = omega (arith, w.1.1.0);
    };
  };
}

pub stuck_paren : (ts : List Token) (n i k : ℕ) → IsGeneric ts n i k → Lacks ts k token.Comma → Has ts k token.Greater → Lacks ts (k + 1) token.OpenParen → IsStuck IsClosedGenerics ts n i (k + 1)
stuck_paren ts n i k g comma close opens = record {
  from = omega (arith, generic_forward g);
  reached = λ le. omega (arith, has_within ts k token.Greater close);
  none = λ us m j same c.
      let one = one_of_generics (move_generic g n (omega arith) (near_of ts us k (k + 1 + 1) (omega arith) same)) (λ there. comma (sym (same k (omega arith)) ∙ there)) c in
      opens (sym (same (k + 1) (omega arith)) ∙ one.1);
  before = record {
    kinds = token.OpenParen ∷ [];
    whole = λ us j same w. record {
      place = k;
      inside = last_generic n i k (move_generic g n (omega arith) (near_of ts us k (k + 1) (omega arith) same)) (λ there. comma (sym (same k (omega arith)) ∙ there));
      closed = same k (omega arith) ∙ close;
      opens = w.0;
      behind = omega (arith, w.1.0);
    };
  };
}

-- ---- a generic

no_generic : {us : List Token} {m i j : ℕ} → IsGeneric us m i j → IsTrue (is_name (kind_at us i))
no_generic (generic n i j k h o d) = h

pub stuck_generic : (ts : List Token) (n i : ℕ) → IsFalse (is_name (kind_at ts i)) → IsStuck IsGeneric ts n i i
stuck_generic ts n i h = record {
  from = omega arith;
  reached = λ le. le;
  none = λ us m j same g. true≢false (sym (no_generic g) ∙ ap is_name (same i (omega arith)) ∙ h);
  before = record {
    kinds = a_name ∷ [];
    whole = λ us j same w. subst (λ (x : ℕ). IsGeneric us n i x) w.1.0 (generic n i (i + 1) (i + 1) (ap is_name w.0) (absent (i + 1) (ends_lacks us (i + 1) token.TripleDot refl w.1.1)) (no_default n (i + 1) (ends_lacks us (i + 1) token.Equal refl w.1.1)));
  };
}

optional_moved : (ts us : List Token) (i k : ℕ) → Optional ts token.TripleDot i k → SameBelow k ts us → Lacks us k token.TripleDot → Optional us token.TripleDot i k
optional_moved ts us i k (taken j h) same lacks = taken j (same j (omega arith) ∙ h)
optional_moved ts us i k (absent j h) same lacks = absent j lacks

follows_dots : (us : List Token) (m k j : ℕ) → IsDefault us m k j → IsTrue (ends_type (kind_at us j)) → Lacks us k token.TripleDot
follows_dots us m k j (no_default n i h) over = ends_lacks us i token.TripleDot refl over
follows_dots us m k j (default n i e h t) over = λ there. let both : Some token.Equal ≡ Some token.TripleDot = sym h ∙ there in absurd cc

with_default : {us : List Token} {m i j : ℕ} (k : ℕ) → IsGeneric us m i j → Optional us token.TripleDot (i + 1) k → (e : ℕ) × IsDefault us m k e
with_default {us = us} k (generic n i j l h o d) q = (l, subst (λ (x : ℕ). IsDefault us n x l) (one_optional o q refl) d)

pub generic_default : (ts : List Token) (n i k : ℕ) → IsTrue (is_name (kind_at ts i)) → Optional ts token.TripleDot (i + 1) k → Leads IsGeneric IsDefault [] ts n i k
generic_default ts n i k h o =
    let f = optional_forward o in
    record {
      from = omega (arith, f);
      reached = λ le. optional_ends ts o (omega (arith, within is_name ts i refl h));
      ends = refl;
      forth = λ us m j e le same d w. subst (λ (x : ℕ). IsGeneric us m i x) w.0 (generic m i k j (ap is_name (same i (omega (arith, f))) ∙ h) (optional_moved ts us (i + 1) k o same (follows_dots us m k j d w.1)) d);
      back = λ us m j same g. with_default k g (move_optional refl o (near_of ts us k (k + 1) (omega arith) same));
    }

default_type_of : {us : List Token} {m i j : ℕ} → IsDefault us m i j → Has us i token.Equal → IsType us m (i + 1) j
default_type_of (no_default n i h) g = absurd (h g)
default_type_of (default n i j h t) g = t

pub default_type : (ts : List Token) (n i : ℕ) → Has ts i token.Equal → Exactly IsDefault IsType ts n i (i + 1)
default_type ts n i h = record {
  from = omega arith;
  reached = λ le. omega (arith, has_within ts i token.Equal h);
  forth = λ us m e le same t. default m i e (same i (omega arith) ∙ h) t;
  back = λ us m e same d. default_type_of d (same i (omega arith) ∙ h);
}

-- ---- brackets that were read

pub arguments_closed : (ts : List Token) (n i j : ℕ) → Has ts i token.Less → IsClosedItems token.Greater ts n (i + 1) j → IsArguments ts (suc n) i j
arguments_closed ts n i j h c = subst (λ (x : ℕ). IsArguments ts (suc n) i x) (sym c.behind) (arguments n i c.place h c.inside c.closed)

pub typeof_closed : (ts : List Token) (n i j : ℕ) → IsTrue (opens_typeof ts i) → IsClosedBalanced token.CloseParen ts n (i + 2) j → IsAtom ts (suc n) i j
typeof_closed ts n i j h c = subst (λ (x : ℕ). IsAtom ts (suc n) i x) (sym c.behind) (type_of n i c.place h c.inside c.closed)

pub table_closed : (ts : List Token) (n i j : ℕ) → Has ts i token.OpenBrace → IsClosedFields ts n (i + 1) j → IsAtom ts (suc n) i j
table_closed ts n i j h c = subst (λ (x : ℕ). IsAtom ts (suc n) i x) (sym c.behind) (table n i c.place h c.inside c.closed)

-- parameters with no `->` behind them
pub head_only : (ts : List Token) (n i j : ℕ) → IsHead ts n i j → Lacks ts j token.Arrow → IsAtom ts n i j
head_only ts n i j h lacks = head_atom ts ts n i j j n h (omega arith) (λ q less. refl) (no_result n j lacks)

pub opened_at_once : (ts : List Token) (n i : ℕ) → Has ts i token.OpenParen → IsOpened ts n i (i + 1)
opened_at_once ts n i h = record { place = i; generics = no_generics n i (λ less. (let both : Some token.OpenParen ≡ Some token.Less = sym h ∙ less in absurd cc)); opens = h; behind = refl }

pub begin_within : (ts : List Token) (i : ℕ) → Has ts i token.Less ⊎ Has ts i token.OpenParen → i < length ts
begin_within ts i (inl h) = has_within ts i token.Less h
begin_within ts i (inr h) = has_within ts i token.OpenParen h

pub not_paren : (ts : List Token) (i : ℕ) → Has ts i token.Less ⊎ Has ts i token.OpenParen → Lacks ts i token.OpenParen → Has ts i token.Less
not_paren ts i (inl h) g = h
not_paren ts i (inr h) g = absurd (g h)

pub head_forward : (ts : List Token) (n i k : ℕ) → IsHead ts n i k → i < k
head_forward ts n i k h =
    let a = generics_forward h.opened.generics in
    let b = items_forward h.items.inside in
    omega (arith, a, b, h.opened.behind, h.items.behind)
