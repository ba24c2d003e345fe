-- How balanced tokens are read.
use Rattle.std.proofs.Common.{◌≡◌, ◌≢◌, ◌≤◌, ◌<◌, ◌+◌, ℕ, zero, suc, Bool, true, false, cond, List, [], ◌∷◌, length, Option, Some, None, IsTrue, ◌⊎◌, inl, inr, refl, sym, ap, subst, ◌∙◌, arith, true≢false}
use Rattle.std.proofs.lemmas.Bool.{cases_lt}
use Rattle.byte_text.specs.declared.StrId.{StrId}
use Rattle.syntax_tree.specs.declared.token.Token.{Token}
use Rattle.syntax_tree.specs.declared.token.TokenKind.{TokenKind}
use Rattle.syntax_tree.specs.declared.token.TokenKind.TheVariants as token
use Rattle.syntax_tree.specs.Places.{kind_at, Has}
use Rattle.syntax_tree.specs.Types.{typeof_name, closer, is_closer, is_plain, IsBalanced, balanced, plain, interp_begin, interp_mid, interp_end, bracket}
use Rattle.type_skip.specs.declared.balanced.Class.{Class}
use Rattle.type_skip.specs.declared.balanced.Class.TheVariants.{Plain, Begin, Mid, End, Open, Close, Nothing}
use Rattle.type_skip.specs.declared.balanced.Turn.{Turn}
use Rattle.type_skip.specs.declared.balanced.Turn.TheVariants.{Pass, Nest, Done, Stuck}
use Rattle.type_skip.specs.declared.words.Word.{Word}
use Rattle.type_skip.specs.declared.words.Word.TheVariants as word
use Rattle.type_skip.specs.Brackets.{opens_bracket}
use Rattle.type_skip.specs.Balance.{class_of, turn_of}
use Rattle.type_skip.specs.Words.{is_word, token_of}
use Rattle.type_skip.specs.Reading.{SameBelow, ends_type, Writes, IsStuck, IsDeep}
use Rattle.type_skip.specs.Inner.{IsClosedBalanced, IsClosedStrings}
use Rattle.type_skip.proofs.Forward.{balanced_forward}
use Rattle.type_skip.proofs.OneType.{balanced_form, form_b, form_b_is, same_balanced}
use Rattle.type_skip.proofs.Moved.{move_balanced}
use Rattle.type_skip.proofs.GoingOn.{past, within, has_within}
use Rattle.type_skip.proofs.Counting.{bracket_counts, bracket_here}
use Rattle.type_skip.proofs.WordTests.{has, is_itself}
use Rattle.type_skip.proofs.Leading.{LeadsIn, Exactly, ends_first}

-- ---- what a class says of a token

abbrev class_form : Class → ℕ
class_form Plain = 1
class_form Begin = 2
class_form Mid = 3
class_form End = 4
class_form (Open s) = 5
class_form (Close s) = 0
class_form Nothing = 1

form_of_class : (o : Option TokenKind) → balanced_form o ≡ class_form (class_of o)
form_of_class None = refl
form_of_class (Some token.OpenParen) = refl
form_of_class (Some _) = refl

plain_of : (o : Option TokenKind) → class_of o ≡ Plain → IsTrue (is_plain o)
plain_of None h = absurd cc
plain_of (Some token.OpenParen) h = absurd cc
plain_of (Some token.OpenBracket) h = absurd cc
plain_of (Some token.OpenBrace) h = absurd cc
plain_of (Some token.CloseParen) h = absurd cc
plain_of (Some token.CloseBracket) h = absurd cc
plain_of (Some token.CloseBrace) h = absurd cc
plain_of (Some (token.InterpBegin x)) h = absurd cc
plain_of (Some (token.InterpMid x)) h = absurd cc
plain_of (Some (token.InterpEnd x)) h = absurd cc
plain_of (Some _) h = refl

begin_of : (o : Option TokenKind) → class_of o ≡ Begin → (x : StrId) × (o ≡ Some (token.InterpBegin x))
begin_of (Some (token.InterpBegin x)) h = (x, refl)
begin_of _ h = absurd cc

mid_of : (o : Option TokenKind) → class_of o ≡ Mid → (x : StrId) × (o ≡ Some (token.InterpMid x))
mid_of (Some (token.InterpMid x)) h = (x, refl)
mid_of _ h = absurd cc

end_of : (o : Option TokenKind) → class_of o ≡ End → (x : StrId) × (o ≡ Some (token.InterpEnd x))
end_of (Some (token.InterpEnd x)) h = (x, refl)
end_of _ h = absurd cc

abbrev opened_by : Class → Word
opened_by (Open s) = s
opened_by _ = word.Comma

abbrev closed_by : Class → Word
closed_by (Close s) = s
closed_by _ = word.Comma

open_is : (o : Option TokenKind) (s : Word) → class_of o ≡ Open s → (closer o ≡ Some (token_of (opened_by (class_of o)))) × IsTrue (is_closer (Some (token_of (opened_by (class_of o)))))
open_is (Some token.OpenParen) s h = (refl, refl)
open_is (Some token.OpenBracket) s h = (refl, refl)
open_is (Some token.OpenBrace) s h = (refl, refl)
open_is _ s h = absurd cc

pub open_of : (o : Option TokenKind) (s : Word) → class_of o ≡ Open s → (closer o ≡ Some (token_of s)) × IsTrue (is_closer (Some (token_of s)))
open_of o s h = subst (λ (x : Word). (closer o ≡ Some (token_of x)) × IsTrue (is_closer (Some (token_of x)))) (ap opened_by h) (open_is o s h)

close_is : (o : Option TokenKind) (s : Word) → class_of o ≡ Close s → o ≡ Some (token_of (closed_by (class_of o)))
close_is (Some token.CloseParen) s h = refl
close_is (Some token.CloseBracket) s h = refl
close_is (Some token.CloseBrace) s h = refl
close_is _ s h = absurd cc

close_of : (o : Option TokenKind) (s : Word) → class_of o ≡ Close s → o ≡ Some (token_of s)
close_of o s h = close_is o s h ∙ ap (λ x. Some (token_of (closed_by x))) h

-- ---- the form at a place

form_here : {us : List Token} {n s i j : ℕ} (b : IsBalanced us n s i j) (cl : Class) → class_of (kind_at us i) ≡ cl → form_b b ≡ class_form cl
form_here {us = us} {i = i} b cl e = sym (form_b_is b) ∙ form_of_class (kind_at us i) ∙ ap class_form e

un_plain : {us : List Token} {n s i j : ℕ} (b : IsBalanced us n s i j) → form_b b ≡ 1 → IsBalanced us n s (i + 1) j
un_plain (plain n s i j h b) f = b
un_plain _ f = absurd (omega (arith, f))

un_begin : {us : List Token} {n s i j : ℕ} (b : IsBalanced us n s i j) → form_b b ≡ 2 → IsBalanced us n (suc s) (i + 1) j
un_begin (interp_begin n s i j x h b) f = b
un_begin _ f = absurd (omega (arith, f))

un_mid : {us : List Token} {n t i j : ℕ} (s : ℕ) (b : IsBalanced us n t i j) → t ≡ suc s → form_b b ≡ 3 → IsBalanced us n (suc s) (i + 1) j
un_mid {us = us} s (interp_mid n t i j x h b) e f = subst (λ (x : ℕ). IsBalanced us n x (i + 1) j) e b
un_mid s _ e f = absurd (omega (arith, f))

un_end : {us : List Token} {n t i j : ℕ} (s : ℕ) (b : IsBalanced us n t i j) → t ≡ suc s → form_b b ≡ 4 → IsBalanced us n s (i + 1) j
un_end {us = us} s (interp_end n t i j x h b) e f = subst (λ (x : ℕ). IsBalanced us n x (i + 1) j) (omega (arith, e)) b
un_end s _ e f = absurd (omega (arith, f))

-- ---- a token is passed

with_strings : {us : List Token} {c : TokenKind} {m n s t i k j : ℕ} (p : IsClosedStrings s c us m i j) → IsBalanced us n t k p.place → IsClosedStrings t c us n k j
with_strings p b = record { place = p.place; inside = b; closed = p.closed; behind = p.behind }

pass_plain : (ts : List Token) (c : TokenKind) (n s i : ℕ) → class_of (kind_at ts i) ≡ Plain → Exactly (IsClosedStrings s c) (IsClosedStrings s c) ts n i (i + 1)
pass_plain ts c n s i h = record {
  from = omega arith;
  reached = λ le. omega (arith, within is_plain ts i refl (plain_of (kind_at ts i) h));
  forth = λ us m e le same p. with_strings p (plain m s i p.place (ap is_plain (same i (omega arith)) ∙ plain_of (kind_at ts i) h) p.inside);
  back = λ us m e same p. with_strings p (un_plain p.inside (form_here p.inside Plain (ap class_of (same i (omega arith)) ∙ h)));
}

pass_begin : (ts : List Token) (c : TokenKind) (n s i : ℕ) → class_of (kind_at ts i) ≡ Begin → Exactly (IsClosedStrings s c) (IsClosedStrings (suc s) c) ts n i (i + 1)
pass_begin ts c n s i h =
    let x = begin_of (kind_at ts i) h in
    record {
      from = omega arith;
      reached = λ le. omega (arith, has_within ts i (token.InterpBegin x.0) x.1);
      forth = λ us m e le same p. with_strings p (interp_begin m s i p.place x.0 (same i (omega arith) ∙ x.1) p.inside);
      back = λ us m e same p. with_strings p (un_begin p.inside (form_here p.inside Begin (ap class_of (same i (omega arith)) ∙ h)));
    }

pass_mid : (ts : List Token) (c : TokenKind) (n s i : ℕ) → class_of (kind_at ts i) ≡ Mid → Exactly (IsClosedStrings (suc s) c) (IsClosedStrings (suc s) c) ts n i (i + 1)
pass_mid ts c n s i h =
    let x = mid_of (kind_at ts i) h in
    record {
      from = omega arith;
      reached = λ le. omega (arith, has_within ts i (token.InterpMid x.0) x.1);
      forth = λ us m e le same p. with_strings p (interp_mid m s i p.place x.0 (same i (omega arith) ∙ x.1) p.inside);
      back = λ us m e same p. with_strings p (un_mid s p.inside refl (form_here p.inside Mid (ap class_of (same i (omega arith)) ∙ h)));
    }

pass_end : (ts : List Token) (c : TokenKind) (n s i : ℕ) → class_of (kind_at ts i) ≡ End → Exactly (IsClosedStrings (suc s) c) (IsClosedStrings s c) ts n i (i + 1)
pass_end ts c n s i h =
    let x = end_of (kind_at ts i) h in
    record {
      from = omega arith;
      reached = λ le. omega (arith, has_within ts i (token.InterpEnd x.0) x.1);
      forth = λ us m e le same p. with_strings p (interp_end m s i p.place x.0 (same i (omega arith) ∙ x.1) p.inside);
      back = λ us m e same p. with_strings p (un_end s p.inside refl (form_here p.inside End (ap class_of (same i (omega arith)) ∙ h)));
    }

abbrev count_of : Turn → ℕ
count_of (Pass n) = n
count_of _ = 0

passes : (ts : List Token) (c : TokenKind) (close : Word) (n s now i : ℕ) (cl : Class) → class_of (kind_at ts i) ≡ cl → turn_of cl s close ≡ Pass now → Exactly (IsClosedStrings s c) (IsClosedStrings now c) ts n i (i + 1)
passes ts c close n s now i Plain e h = subst (λ (x : ℕ). Exactly (IsClosedStrings s c) (IsClosedStrings x c) ts n i (i + 1)) (ap count_of h) (pass_plain ts c n s i e)
passes ts c close n s now i Begin e h = subst (λ (x : ℕ). Exactly (IsClosedStrings s c) (IsClosedStrings x c) ts n i (i + 1)) (ap count_of h) (pass_begin ts c n s i e)
passes ts c close n zero now i Mid e h = absurd cc
passes ts c close n (suc s) now i Mid e h = subst (λ (x : ℕ). Exactly (IsClosedStrings (suc s) c) (IsClosedStrings x c) ts n i (i + 1)) (ap count_of h) (pass_mid ts c n s i e)
passes ts c close n zero now i End e h = absurd cc
passes ts c close n (suc s) now i End e h = subst (λ (x : ℕ). Exactly (IsClosedStrings (suc s) c) (IsClosedStrings x c) ts n i (i + 1)) (ap count_of h) (pass_end ts c n s i e)
passes ts c close n s now i (Open inner) e h = absurd cc
passes ts c close n zero now i (Close inner) e h = absurd (by_test (is_word inner (Some (token_of close))) h)
  where
    by_test : (b : Bool) → cond b Done Stuck ≡ Pass now → ⊥
    by_test true h = cc
    by_test false h = cc
passes ts c close n (suc s) now i (Close inner) e h = absurd cc
passes ts c close n s now i Nothing e h = absurd cc

pub pass : (ts : List Token) (c : TokenKind) (close : Word) (n s now i : ℕ) → turn_of (class_of (kind_at ts i)) s close ≡ Pass now → Exactly (IsClosedStrings s c) (IsClosedStrings now c) ts n i (i + 1)
pass ts c close n s now i h = passes ts c close n s now i (class_of (kind_at ts i)) refl h

count_grows : (cl : Class) (close : Word) (s now : ℕ) → turn_of cl s close ≡ Pass now → now ≤ s + 1
count_grows Plain close s now h = omega (arith, ap count_of h)
count_grows Begin close s now h = omega (arith, ap count_of h)
count_grows Mid close zero now h = absurd cc
count_grows Mid close (suc s) now h = omega (arith, ap count_of h)
count_grows End close zero now h = absurd cc
count_grows End close (suc s) now h = omega (arith, ap count_of h)
count_grows (Open inner) close s now h = absurd cc
count_grows (Close inner) close zero now h = absurd (by_test (is_word inner (Some (token_of close))) h)
  where
    by_test : (b : Bool) → cond b Done Stuck ≡ Pass now → ⊥
    by_test true h = cc
    by_test false h = cc
count_grows (Close inner) close (suc s) now h = absurd cc
count_grows Nothing close s now h = absurd cc

pub pass_count : (ts : List Token) (close : Word) (s now i : ℕ) → turn_of (class_of (kind_at ts i)) s close ≡ Pass now → now ≤ s + 1
pass_count ts close s now i h = count_grows (class_of (kind_at ts i)) close s now h

-- ---- the bracket around the tokens

done_of : (o : Option TokenKind) (s : ℕ) (close : Word) (cl : Class) → class_of o ≡ cl → turn_of cl s close ≡ Done → (s ≡ 0) × (o ≡ Some (token_of close))
done_of o s close Plain e h = absurd cc
done_of o s close Begin e h = absurd cc
done_of o zero close Mid e h = absurd cc
done_of o (suc s) close Mid e h = absurd cc
done_of o zero close End e h = absurd cc
done_of o (suc s) close End e h = absurd cc
done_of o s close (Open inner) e h = absurd cc
done_of o zero close (Close inner) e h = (refl, close_of o inner e ∙ sym (by_test (is_word inner (Some (token_of close))) refl h))
  where
    by_test : (b : Bool) → is_word inner (Some (token_of close)) ≡ b → cond b Done Stuck ≡ Done → Some (token_of close) ≡ Some (token_of inner)
    by_test true e h = has inner (Some (token_of close)) e
    by_test false e h = absurd cc
done_of o (suc s) close (Close inner) e h = absurd cc
done_of o s close Nothing e h = absurd cc

pub done : (ts : List Token) (close : Word) (n s i : ℕ) → IsTrue (is_closer (Some (token_of close))) → turn_of (class_of (kind_at ts i)) s close ≡ Done → IsClosedStrings s (token_of close) ts n i (i + 1)
done ts close n s i closes h =
    let d = done_of (kind_at ts i) s close (class_of (kind_at ts i)) refl h in
    record {
      place = i;
      inside = subst (λ (x : ℕ). IsBalanced ts n x i i) (sym d.0) (balanced n i (ap is_closer d.1 ∙ closes));
      closed = d.1;
      behind = refl;
    }

-- ---- what closes the strings and the bracket

abbrev pub tails : ℕ → TokenKind → List TokenKind
tails zero c = c ∷ []
tails (suc s) c = token.InterpEnd typeof_name ∷ tails s c

closer_ends : (kind : TokenKind) → IsTrue (is_closer (Some kind)) → IsTrue (ends_type (Some kind))
closer_ends token.CloseParen h = refl
closer_ends token.CloseBracket h = refl
closer_ends token.CloseBrace h = refl
closer_ends _ h = absurd (true≢false (sym h))

tails_end : (s : ℕ) (c : TokenKind) → IsTrue (is_closer (Some c)) → ends_first (tails s c)
tails_end zero c h = closer_ends c h
tails_end (suc s) c h = refl

close_strings : (us : List Token) (m s : ℕ) (c : TokenKind) (k e : ℕ) → IsTrue (is_closer (Some c)) → Writes us k (tails s c) e → IsClosedStrings s c us m k e
close_strings us m zero c k e h w = record { place = k; inside = balanced m k (ap is_closer w.0 ∙ h); closed = w.0; behind = sym w.1.0 }
close_strings us m (suc s) c k e h w =
    let p = close_strings us m s c (k + 1) e h w.1 in
    with_strings p (interp_end m s k p.place typeof_name w.0 p.inside)

-- ---- a bracket inside

class_within : (ts : List Token) (i : ℕ) (cl : Class) → class_of (kind_at ts i) ≡ cl → (Nothing ≡ cl → ⊥) → i < length ts
class_within ts i cl e ne = by_cases (cases_lt i (length ts))
  where
    by_cases : (i < length ts) ⊎ (length ts ≤ i) → i < length ts
    by_cases (inl less) = less
    by_cases (inr more) = absurd (ne (sym (ap class_of (past ts i more)) ∙ e))

class_bracket : (o : Option TokenKind) (s : Word) → class_of o ≡ Open s → IsTrue (opens_bracket o)
class_bracket (Some token.OpenParen) s h = refl
class_bracket (Some token.OpenBracket) s h = refl
class_bracket (Some token.OpenBrace) s h = refl
class_bracket _ s h = absurd cc

nested : (us : List Token) (c : TokenKind) (inner : Word) (m s i j e : ℕ) → class_of (kind_at us i) ≡ Open inner → IsClosedBalanced (token_of inner) us m (i + 1) j → IsClosedStrings s c us (suc m) j e → IsClosedStrings s c us (suc m) i e
nested us c inner m s i j e h q p =
    let o = open_of (kind_at us i) inner h in
    with_strings p (bracket m s i q.place p.place (token_of inner) o.0 q.inside q.closed (subst (λ (x : ℕ). IsBalanced us (suc m) s x p.place) q.behind p.inside))

in_bracket : {us : List Token} {m s i j : ℕ} (inner : TokenKind) (b : IsBalanced us m s i j) → form_b b ≡ 5 → closer (kind_at us i) ≡ Some inner → (l k : ℕ) × (m ≡ suc l) × IsBalanced us l 0 (i + 1) k × Has us k inner × IsBalanced us m s (k + 1) j
in_bracket inner (bracket n s i j k c h b g d) f e = (n, j, refl, b, g ∙ sym h ∙ e, d)
in_bracket inner _ f e = absurd (omega (arith, f))

pub nest_leads : (ts : List Token) (c : TokenKind) (inner : Word) (n s i : ℕ) → IsTrue (is_closer (Some c)) → class_of (kind_at ts i) ≡ Open inner → LeadsIn (IsClosedStrings s c) (IsClosedBalanced (token_of inner)) (tails s c) ts n i (i + 1)
nest_leads ts c inner n s i closes h = record {
  from = omega arith;
  opened = bracket_counts ts i i (i + 1) (omega arith) (omega arith) (class_bracket (kind_at ts i) inner h);
  reached = λ le. omega (arith, class_within ts i (Open inner) h (λ e. cc));
  ends = tails_end s c closes;
  forth = λ us m j e le same q w. nested us c inner m s i j e (ap class_of (same i (omega arith)) ∙ h) q (close_strings us (suc m) s c j e closes w);
  back = λ us m j same p.
      let here : class_of (kind_at us i) ≡ Open inner = ap class_of (same i (omega arith)) ∙ h in
      let o = open_of (kind_at us i) inner here in
      let b = in_bracket (token_of inner) p.inside (form_here p.inside (Open inner) here) o.0 in
      (b.0, b.1 + 1, b.2, record { place = b.1; inside = b.3; closed = b.4; behind = refl });
}

moved_closed : (ts us : List Token) (c : TokenKind) (n m i j k : ℕ) → IsClosedBalanced c ts n i j → n ≤ m → j ≤ k → SameBelow k ts us → IsClosedBalanced c us m i j
moved_closed ts us c n m i j k q le more same = record {
  place = q.place;
  inside = move_balanced q.inside m le (λ x less. same x (omega (arith, q.behind)));
  closed = same q.place (omega (arith, q.behind)) ∙ q.closed;
  behind = q.behind;
}

nested_any : (ts us : List Token) (c : TokenKind) (inner : Word) (n m s i j e : ℕ) → suc n ≤ m → SameBelow j ts us → class_of (kind_at us i) ≡ Open inner → IsClosedBalanced (token_of inner) ts n (i + 1) j → IsClosedStrings s c us m j e → IsClosedStrings s c us m i e
nested_any ts us c inner n zero s i j e le same h q p = absurd (omega (arith, le))
nested_any ts us c inner n (suc m) s i j e le same h q p = nested us c inner m s i j e h (moved_closed ts us (token_of inner) n m (i + 1) j j q (omega (arith, le)) (omega arith) same) p

pub nest_exactly : (ts : List Token) (c : TokenKind) (inner : Word) (n s i j : ℕ) → class_of (kind_at ts i) ≡ Open inner → IsClosedBalanced (token_of inner) ts n (i + 1) j → Exactly (IsClosedStrings s c) (IsClosedStrings s c) ts (suc n) i j
nest_exactly ts c inner n s i j h q =
    let f = balanced_forward q.inside in
    let less : i < j = omega (arith, f, q.behind) in
    record {
      from = omega (arith, less);
      reached = λ le. omega (arith, has_within ts q.place (token_of inner) q.closed, q.behind);
      forth = λ us m e le same p. nested_any ts us c inner n m s i j e le same (ap class_of (same i less) ∙ h) q p;
      back = λ us m e same p.
          let here : class_of (kind_at us i) ≡ Open inner = ap class_of (same i (omega (arith, less))) ∙ h in
          let o = open_of (kind_at us i) inner here in
          let b = in_bracket (token_of inner) p.inside (form_here p.inside (Open inner) here) o.0 in
          let r = moved_closed ts us (token_of inner) n n (i + 1) j (j + 1) q (omega arith) (omega arith) same in
          let one : b.1 + 1 ≡ j = ap (λ x. x + 1) (same_balanced b.3 r.inside refl) ∙ sym r.behind in
          with_strings p (subst (λ (x : ℕ). IsBalanced us m s x p.place) one b.5);
    }

no_room_balanced : {us : List Token} {s i j : ℕ} (b : IsBalanced us zero s i j) → form_b b < 5
no_room_balanced (balanced n i h) = omega arith
no_room_balanced (plain n s i j h b) = omega arith
no_room_balanced (interp_begin n s i j x h b) = omega arith
no_room_balanced (interp_mid n s i j x h b) = omega arith
no_room_balanced (interp_end n s i j x h b) = omega arith

deep_nest_0 : (ts : List Token) (c : TokenKind) (inner : Word) (s i : ℕ) → IsTrue (is_closer (Some c)) → class_of (kind_at ts i) ≡ Open inner → i < length ts → IsDeep (IsClosedStrings s c) ts zero i i
deep_nest_0 ts c inner s i closes h there = record {
  from = omega arith;
  many = bracket_here ts i i (omega arith) (class_bracket (kind_at ts i) inner h);
  there = there;
  none = λ us j same p. absurd (omega (arith, no_room_balanced p.inside, form_here p.inside (Open inner) (ap class_of (same i (omega arith)) ∙ h)));
  before = record { kinds = tails s c; whole = λ us j same w. close_strings us zero s c i j closes w };
  deeper = record {
    kinds = token_of inner ∷ tails s c;
    whole = λ us j same w.
        let o = open_of (kind_at ts i) inner h in
        nested us c inner zero s i (i + 1 + 1) j (ap class_of (same i (omega arith)) ∙ h)
        (record { place = i + 1; inside = balanced zero (i + 1) (ap is_closer w.0 ∙ o.1); closed = w.0; behind = refl })
        (close_strings us (suc zero) s c (i + 1 + 1) j closes w.1);
  };
}

pub deep_nest : (ts : List Token) (c : TokenKind) (inner : Word) (n s i : ℕ) → n ≡ 0 → IsTrue (is_closer (Some c)) → class_of (kind_at ts i) ≡ Open inner → i < length ts → IsDeep (IsClosedStrings s c) ts n i i
deep_nest ts c inner n s i e closes h there = subst (λ (x : ℕ). IsDeep (IsClosedStrings s c) ts x i i) (sym e) (deep_nest_0 ts c inner s i closes h there)

-- the bracket that opens
nest_class : (cl : Class) (close inner : Word) (s : ℕ) → turn_of cl s close ≡ Nest inner → cl ≡ Open inner
nest_class Plain close inner s h = absurd cc
nest_class Begin close inner s h = absurd cc
nest_class Mid close inner zero h = absurd cc
nest_class Mid close inner (suc s) h = absurd cc
nest_class End close inner zero h = absurd cc
nest_class End close inner (suc s) h = absurd cc
nest_class (Open x) close inner s h = cc
nest_class (Close x) close inner zero h = absurd (by_test (is_word x (Some (token_of close))) h)
  where
    by_test : (b : Bool) → cond b Done Stuck ≡ Nest inner → ⊥
    by_test true h = cc
    by_test false h = cc
nest_class (Close x) close inner (suc s) h = absurd cc
nest_class Nothing close inner s h = absurd cc

pub nests : (ts : List Token) (close inner : Word) (s i : ℕ) → turn_of (class_of (kind_at ts i)) s close ≡ Nest inner → class_of (kind_at ts i) ≡ Open inner
nests ts close inner s i h = nest_class (class_of (kind_at ts i)) close inner s h

-- ---- nothing goes on

closes_itself : (close : Word) → IsTrue (is_closer (Some (token_of close))) → class_of (Some (token_of close)) ≡ Close close
closes_itself word.CloseParen h = refl
closes_itself word.CloseBracket h = refl
closes_itself word.CloseBrace h = refl
closes_itself _ h = absurd (true≢false (sym h))

class_plain : (o : Option TokenKind) → IsTrue (is_plain o) → class_of o ≡ Plain
class_plain None h = absurd (true≢false (sym h))
class_plain (Some token.OpenParen) h = absurd (true≢false (sym h))
class_plain (Some token.OpenBracket) h = absurd (true≢false (sym h))
class_plain (Some token.OpenBrace) h = absurd (true≢false (sym h))
class_plain (Some token.CloseParen) h = absurd (true≢false (sym h))
class_plain (Some token.CloseBracket) h = absurd (true≢false (sym h))
class_plain (Some token.CloseBrace) h = absurd (true≢false (sym h))
class_plain (Some (token.InterpBegin x)) h = absurd (true≢false (sym h))
class_plain (Some (token.InterpMid x)) h = absurd (true≢false (sym h))
class_plain (Some (token.InterpEnd x)) h = absurd (true≢false (sym h))
class_plain (Some _) h = refl

class_opener : (o : Option TokenKind) (c : TokenKind) → closer o ≡ Some c → (inner : Word) × (class_of o ≡ Open inner)
class_opener (Some token.OpenParen) c h = (word.CloseParen, refl)
class_opener (Some token.OpenBracket) c h = (word.CloseBracket, refl)
class_opener (Some token.OpenBrace) c h = (word.CloseBrace, refl)
class_opener _ c h = absurd cc

goes_on : (us : List Token) (close : Word) (n s i j : ℕ) → IsTrue (is_closer (Some (token_of close))) → IsBalanced us n s i j → Has us j (token_of close) → turn_of (class_of (kind_at us i)) s close ≡ Stuck → ⊥
goes_on us close n s i j closes (balanced m k h) there stuck =
    let cl = ap class_of there ∙ closes_itself close closes in
    let turn : turn_of (class_of (kind_at us k)) 0 close ≡ Done = ap (λ x. turn_of x 0 close) cl ∙ ap (λ b. cond b Done Stuck) (is_itself close) in
    let both : Done ≡ Stuck = sym turn ∙ stuck in
    cc
goes_on us close n s i j closes (plain m t k l h b) there stuck =
    let both : Pass t ≡ Stuck = sym (ap (λ x. turn_of x t close) (class_plain (kind_at us k) h)) ∙ stuck in
    cc
goes_on us close n s i j closes (interp_begin m t k l x h b) there stuck =
    let both : Pass (suc t) ≡ Stuck = sym (ap (λ o. turn_of (class_of o) t close) h) ∙ stuck in
    cc
goes_on us close n s i j closes (interp_mid m t k l x h b) there stuck =
    let both : Pass (suc t) ≡ Stuck = sym (ap (λ o. turn_of (class_of o) (suc t) close) h) ∙ stuck in
    cc
goes_on us close n s i j closes (interp_end m t k l x h b) there stuck =
    let both : Pass t ≡ Stuck = sym (ap (λ o. turn_of (class_of o) (suc t) close) h) ∙ stuck in
    cc
goes_on us close n s i j closes (bracket m t k l q c h b g d) there stuck =
    let o = class_opener (kind_at us k) c h in
    let both : Nest o.0 ≡ Stuck = sym (ap (λ x. turn_of x t close) o.1) ∙ stuck in
    cc

pub stuck_balanced : (ts : List Token) (close : Word) (n s i : ℕ) → IsTrue (is_closer (Some (token_of close))) → turn_of (class_of (kind_at ts i)) s close ≡ Stuck → IsStuck (IsClosedStrings s (token_of close)) ts n i i
stuck_balanced ts close n s i closes h = record {
  from = omega arith;
  reached = λ le. le;
  none = λ us m j same p. goes_on us close m s i p.place closes p.inside p.closed (ap (λ o. turn_of (class_of o) s close) (same i (omega arith)) ∙ h);
  before = record { kinds = tails s (token_of close); whole = λ us j same w. close_strings us n s (token_of close) i j closes w };
}

-- ---- a token stands there

pub turns_within : (ts : List Token) (i s : ℕ) (close : Word) → turn_of (class_of (kind_at ts i)) s close ≢ Stuck → i < length ts
turns_within ts i s close goes = by_cases (cases_lt i (length ts))
  where
    by_cases : (i < length ts) ⊎ (length ts ≤ i) → i < length ts
    by_cases (inl less) = less
    by_cases (inr more) = absurd (goes (ap (λ o. turn_of (class_of o) s close) (past ts i more)))
