-- The parameters of types by turns.
use Rattle.std.proofs.Common.{◌≡◌, ◌<◌, ◌+◌, ℕ, true, false, List, ◌∷◌, refl, sym, ap, subst, arith, Result, Ok, Err}
use Rattle.byte_text.specs.declared.StrId.{StrId}
use Rattle.syntax_tree.specs.declared.token.Token.{Token}
use Rattle.syntax_tree.specs.declared.token.TokenKind.TheVariants as token
use Rattle.syntax_tree.specs.Places.{kind_at, is_name, Has, Optional, taken, absent}
use Rattle.syntax_tree.specs.Types.{IsGenerics, no_generics, generics, IsGenericList, last_generic, more_generics, generic, no_default, default}
use Rattle.type_skip.specs.declared.words.Word.TheVariants as words
use Rattle.parse_steps.specs.Classes.{name_of}
use Rattle.parse_steps.specs.Items as item
use Rattle.parse_steps.specs.Items.{Item}
use Rattle.parse_steps.specs.Turns.{turn, stays, takes, stops, word_or}
use Rattle.type_skip.specs.Words.{is_word}
use Rattle.parse_steps.specs.Steps.{most, Leads}
use Rattle.type_skip.proofs.WordTests.{has, lacks}
use Rattle.expression_parser.specs.declared.fault.Fault.{Fault}
use Rattle.expression_parser.specs.Reading.{FindsName, FindsType, FindsWord, FindsGenerics}
use Rattle.expression_parser.specs.Inner.{FindsGeneric}
use Rattle.expression_parser.proofs.Leading.{then_leads, then_fails, staying, taking}
use Rattle.expression_parser.proofs.SameTurns.{word_taken, word_missing, same_leads, same_fails}
use Rattle.expression_parser.proofs.WordTurns.{at_name}

-- ---- one of them

pub generic_without_name : (ts : List Token) (i : ℕ) (f : Fault) → FindsName ts i (Err f) → FindsGeneric ts i (Err f)
generic_without_name ts i f found = λ v k. same_fails ts i v item.a_name (item.generic_dots ∷ k) item.generic k refl refl refl f
    (found v (item.generic_dots ∷ k))

-- a name, with dots or without
pub record IsHead (ts : List Token) (i j : ℕ) : Type 0 where
  pub name : StrId
  pub stands : Has ts i (token.Name name)
  pub dots : Optional ts token.TripleDot (i + 1) j
  pub runs : (v : ℕ) (k : List Item) → Leads ts i v (item.generic ∷ k) j v (item.generic_default ∷ k)
  pub onward : i < j

name_turn_taken : (ts : List Token) (i v : ℕ) (k : List Item) (x : StrId) → Has ts i (token.Name x)
    → Leads ts i v (item.generic ∷ k) (i + 1) v (item.generic_dots ∷ k)
name_turn_taken ts i v k x stands = taking (at_name ts i x (takes 0 v (item.generic_dots ∷ k)) stops (ap name_of stands)) (omega arith) tt

pub head_with_dots : (ts : List Token) (i : ℕ) (x : StrId) → Has ts i (token.Name x) → is_word words.TripleDot (kind_at ts (i + 1)) ≡ true
    → IsHead ts i (i + 2)
head_with_dots ts i x name dots =
    let two_more : i + 1 + 1 ≡ i + 2 = omega arith in
    let head : IsHead ts i (i + 1 + 1) = record {
      name = x;
      stands = name;
      dots = taken (i + 1) (has words.TripleDot (kind_at ts (i + 1)) dots);
      runs = λ v k. then_leads (name_turn_taken ts i v k x name)
          (taking (word_taken words.TripleDot (kind_at ts (i + 1)) (takes 0 v (item.generic_default ∷ k))
          (stays v (item.generic_default ∷ k)) dots) (omega arith) tt);
      onward = omega arith;
    } in
    subst (λ (j : ℕ). IsHead ts i j) two_more head

pub head_without_dots : (ts : List Token) (i : ℕ) (x : StrId) → Has ts i (token.Name x)
    → is_word words.TripleDot (kind_at ts (i + 1)) ≡ false → IsHead ts i (i + 1)
head_without_dots ts i x name dots = record {
  name = x;
  stands = name;
  dots = absent (i + 1) (lacks words.TripleDot (kind_at ts (i + 1)) dots);
  runs = λ v k. then_leads (name_turn_taken ts i v k x name)
      (staying (word_missing words.TripleDot (kind_at ts (i + 1)) (takes 0 v (item.generic_default ∷ k))
      (stays v (item.generic_default ∷ k)) dots));
  onward = omega arith;
}

equal_turn : (ts : List Token) (i v : ℕ) (k : List Item) → is_word words.Equal (kind_at ts i) ≡ true
    → Leads ts i v (item.generic_default ∷ k) (i + 1) v (item.a_type ∷ item.generic_more ∷ k)
equal_turn ts i v k stands = taking (word_taken words.Equal (kind_at ts i) (takes 0 v (item.a_type ∷ item.generic_more ∷ k))
    (stays v (item.generic_more ∷ k)) stands) (omega arith) tt

pub generic_with_default : (ts : List Token) (i j : ℕ) (r : Result ℕ Fault) → IsHead ts i j → is_word words.Equal (kind_at ts j) ≡ true
    → FindsType ts (j + 1) r → FindsGeneric ts i r
generic_with_default ts i j (Ok h) head stands found = (
  (
    generic most i j h (ap is_name head.stands) head.dots (default most j h (has words.Equal (kind_at ts j) stands) found.0.0),
    omega
        (arith, head.onward, found.0.1),
  ),
  λ v k. then_leads (head.runs v k) (then_leads (equal_turn ts j v k stands) (found.1 v (item.generic_more ∷ k))),
)
generic_with_default ts i j (Err f) head stands found = λ v k. then_fails (then_leads (head.runs v k) (equal_turn ts j v k stands)) f
    (found v (item.generic_more ∷ k))

pub generic_alone : (ts : List Token) (i j : ℕ) → IsHead ts i j → is_word words.Equal (kind_at ts j) ≡ false → FindsGeneric ts i (Ok j)
generic_alone ts i j head stands = (
  (generic most i j j (ap is_name head.stands) head.dots (no_default most j (lacks words.Equal (kind_at ts j) stands)), head.onward),
  λ v k. then_leads (head.runs v k) (staying (word_missing words.Equal (kind_at ts j) (takes 0 v (item.a_type ∷ item.generic_more ∷ k))
      (stays v (item.generic_more ∷ k)) stands)),
)

-- ---- all of them

pub no_generics_found : (ts : List Token) (i : ℕ) → is_word words.Less (kind_at ts i) ≡ false → FindsGenerics ts i (Ok i)
no_generics_found ts i stands = (
  (no_generics most i (lacks words.Less (kind_at ts i) stands), omega arith),
  λ v k. staying
      (word_missing words.Less (kind_at ts i) (takes 0 v (item.generic ∷ k)) (stays v k) stands),
)

-- what was read so far, from the `<` on
pub record GenericsSoFar (ts : List Token) (i j : ℕ) : Type 0 where
  pub whole : (h : ℕ) → IsGenericList ts most j h → IsGenericList ts most (i + 1) h
  pub runs : (v : ℕ) (k : List Item) → Leads ts i v (item.generics ∷ k) j v (item.generic ∷ k)
  pub onward : i < j

pub no_generic_yet : (ts : List Token) (i : ℕ) → Has ts i token.Less → GenericsSoFar ts i (i + 1)
no_generic_yet ts i stands = record {
  whole = λ h d. d;
  runs = λ v k. taking (word_taken words.Less (kind_at ts i) (takes 0 v (item.generic ∷ k)) (stays v k) (ap (is_word words.Less) stands))
      (omega arith) tt;
  onward = omega arith;
}

pub next_generic : (ts : List Token) (i j h : ℕ) → GenericsSoFar ts i j → FindsGeneric ts j (Ok h)
    → is_word words.Comma (kind_at ts h) ≡ true → GenericsSoFar ts i (h + 1)
next_generic ts i j h so_far found stands = record {
  whole = λ l d. so_far.whole l (more_generics most j h l found.0.0 (has words.Comma (kind_at ts h) stands) d);
  runs = λ v k. then_leads (so_far.runs v k) (then_leads (found.1 v k)
      (taking (word_taken words.Comma (kind_at ts h) (takes 0 v (item.generic ∷ k))
      (word_or words.Greater (kind_at ts h) (takes 0 v k) stops) stands) (omega arith) tt));
  onward = omega (arith, so_far.onward, found.0.1);
}

pub faulty_generic : (ts : List Token) (i j : ℕ) (f : Fault) → GenericsSoFar ts i j → FindsGeneric ts j (Err f) → FindsGenerics ts i (Err f)
faulty_generic ts i j f so_far found = λ v k. then_fails (so_far.runs v k) f (found v k)

-- where no comma stands behind one, a `>` has to
no_comma_turn : (ts : List Token) (h v : ℕ) (k : List Item) → is_word words.Comma (kind_at ts h) ≡ false
    → turn (kind_at ts h) v item.generic_more k ≡ turn (kind_at ts h) v (item.expects words.Greater) k
no_comma_turn ts h v k stands = word_missing words.Comma (kind_at ts h) (takes 0 v (item.generic ∷ k))
    (word_or words.Greater (kind_at ts h) (takes 0 v k) stops) stands

pub closed_generics : (ts : List Token) (i j h : ℕ) (r : Result ℕ Fault) → Has ts i token.Less → GenericsSoFar ts i j
    → FindsGeneric ts j (Ok h) → is_word words.Comma (kind_at ts h) ≡ false → FindsWord ts h words.Greater r → FindsGenerics ts i r
closed_generics ts i j h (Ok end) opens so_far found stands closes =
    let list = so_far.whole h (last_generic most j h found.0.0 (lacks words.Comma (kind_at ts h) stands)) in
    let whole : IsGenerics ts most i end = subst (λ (e : ℕ). IsGenerics ts most i e) (sym closes.0.1)
    (generics most i h opens list closes.0.0) in (
      (whole, omega (arith, so_far.onward, found.0.1, closes.0.1)),
      λ v k. then_leads (so_far.runs v k) (then_leads (found.1 v k)
          (same_leads ts item.generic_more k (no_comma_turn ts h v k stands) refl refl (omega (arith, closes.0.1)) (closes.1 v k))),
    )
closed_generics ts i j h (Err f) opens so_far found stands closes =
    λ v k. then_fails (then_leads (so_far.runs v k) (found.1 v k)) f
    (same_fails ts h v (item.expects words.Greater) k item.generic_more k (no_comma_turn ts h v k stands) refl refl f (closes v k))
