-- The fields of a table, one after the other.
use Rattle.std.proofs.Common.{◌≡◌, ◌≤◌, ◌+◌, ℕ, max, Bool, true, false, List, [], ◌∷◌, ◌++◌, append_assoc, append-nil, refl, sym, ap, ◌∙◌, subst, arith, Option, Some, Ok, Err, if◌then◌else◌, true≢false}
use Rattle.syntax_tree.specs.declared.token.Token.{Token}
use Rattle.syntax_tree.specs.declared.token.TokenKind.{TokenKind}
use Rattle.syntax_tree.specs.declared.token.TokenKind.TheVariants as token
use Rattle.syntax_tree.specs.declared.tree.Field.{Field}
use Rattle.syntax_tree.specs.Grammar.{IsFields, no_field, last_field, more_fields}
use Rattle.syntax_tree.specs.Places.{kind_at}
use Rattle.syntax_tree.specs.Types.{is_separator}
use Rattle.type_skip.specs.declared.words.Word.TheVariants as words
use Rattle.parse_steps.specs.Items as item
use Rattle.parse_steps.specs.Items.{Item, depth}
use Rattle.parse_steps.specs.Turns.{turn, takes, stops, word_or}
use Rattle.type_skip.specs.Words.{is_word}
use Rattle.parse_steps.specs.Steps.{most, Leads, here}
use Rattle.type_skip.proofs.WordTests.{has, lacks}
use Rattle.expression_parser.specs.declared.fault.Fault.{Fault}
use Rattle.expression_parser.specs.declared.parts.FieldPart.{FieldPart}
use Rattle.expression_parser.specs.Reading.{FindsWord}
use Rattle.expression_parser.specs.Inner.{FindsField, FindsFields}
use Rattle.expression_parser.proofs.Leading.{then_leads, then_fails, taking, nest_to}
use Rattle.expression_parser.proofs.SameTurns.{same_leads, same_fails}

-- ---- separators

pub comma_separates : (t : Option TokenKind) → is_word words.Comma t ≡ true → is_separator t ≡ true
comma_separates t stands = ap is_separator (has words.Comma t stands)

pub other_separates : (t : Option TokenKind) → is_word words.Comma t ≡ false → is_word words.Semicolon t ≡ is_separator t
other_separates (Some token.Comma) no_comma = absurd (true≢false no_comma)
other_separates (Some token.Semicolon) no_comma = refl
other_separates _ no_comma = refl

-- ---- what was read so far: the next field begins at place j

pub record FieldsSoFar (ts : List Token) (room i : ℕ) (list : List Field) (nest j : ℕ) : Type 0 where
  pub whole : (fs : List Field) (h : ℕ) → IsFields ts most j fs h → IsFields ts most i (list ++ fs) h
  pub runs : (v : ℕ) (k : List Item) → depth k + room ≡ most → Leads ts i v (item.fields ∷ k) j (max v nest) (item.fields ∷ k)
  pub small : nest ≤ room
  pub onward : i ≤ j

pub no_field_yet : (ts : List Token) (room i : ℕ) (list : List Field) → list ≡ [] → FieldsSoFar ts room i list 0 i
no_field_yet ts room i list none = record {
  whole = λ fs h d. subst (λ (xs : List Field). IsFields ts most i (xs ++ fs) h) (sym none) d;
  runs = λ v k deep. let same : v ≡ max v 0 = omega arith in nest_to same (here _ _ _);
  small = omega arith;
  onward = omega arith;
}

pub no_more_fields : (ts : List Token) (room i : ℕ) (list : List Field) (nest j : ℕ) → FieldsSoFar ts room i list nest j
    → is_word words.CloseBrace (kind_at ts j) ≡ true → FindsFields ts room i (Ok (record { list = list; nest = nest; end = j + 1 }))
no_more_fields ts room i list nest j so_far stands =
    let close = has words.CloseBrace (kind_at ts j) stands in
    let whole = so_far.whole [] j (no_field j close) in (
      (
        (j, subst (λ (xs : List Field). IsFields ts most i xs j) (append-nil list) whole, close, refl),
        (so_far.small, omega (arith, so_far.onward)),
      ),
      λ v k deep. then_leads (so_far.runs v k deep) (taking (ap (λ t. turn t (max v nest) item.fields k) close) (omega arith) tt),
    )

pub field_fault : (ts : List Token) (room i : ℕ) (list : List Field) (nest j : ℕ) (f : Fault) → FieldsSoFar ts room i list nest j
    → FindsField ts room j (Err f) → FindsFields ts room i (Err f)
field_fault ts room i list nest j f so_far found = λ v k deep. then_fails (so_far.runs v k deep) f (found (max v nest) k deep)

-- behind one more field
field_leads : (ts : List Token) (room i : ℕ) (list : List Field) (nest j : ℕ) (p : FieldPart) (v : ℕ) (k : List Item)
    → FieldsSoFar ts room i list nest j → FindsField ts room j (Ok p) → depth k + room ≡ most
    → Leads ts i v (item.fields ∷ k) p.end (max v (max nest p.nest)) (item.field_end ∷ k)
field_leads ts room i list nest j p v k so_far found deep =
    let reached : max (max v nest) p.nest ≡ max v (max nest p.nest) = omega arith in
    nest_to reached (then_leads (so_far.runs v k deep) (found.1 (max v nest) k deep))

separator_turn : (ts : List Token) (j v : ℕ) (k : List Item) → is_separator (kind_at ts j) ≡ true
    → turn (kind_at ts j) v item.field_end k ≡ takes 0 v (item.fields ∷ k)
separator_turn ts j v k stands = ap (λ (b : Bool). if b then takes 0 v (item.fields ∷ k) else word_or words.CloseBrace (kind_at ts j)
    (takes 0 v k) stops) stands

end_turn : (ts : List Token) (j v : ℕ) (k : List Item) → is_separator (kind_at ts j) ≡ false
    → turn (kind_at ts j) v item.field_end k ≡ turn (kind_at ts j) v (item.expects words.CloseBrace) k
end_turn ts j v k stands = ap (λ (b : Bool). if b then takes 0 v (item.fields ∷ k) else word_or words.CloseBrace (kind_at ts j)
    (takes 0 v k) stops) stands

pub next_field : (ts : List Token) (room i : ℕ) (list more : List Field) (nest j : ℕ) (p : FieldPart) (deepest : ℕ)
    → FieldsSoFar ts room i list nest j → is_word words.CloseBrace (kind_at ts j) ≡ false → FindsField ts room j (Ok p)
    → is_separator (kind_at ts p.end) ≡ true
    → more ≡ list ++ (p.field ∷ []) → deepest ≡ max nest p.nest → FieldsSoFar ts room i more deepest (p.end + 1)
next_field ts room i list more nest j p deepest so_far some found stands now greatest = record {
  whole = λ fs h d.
      let rest = more_fields j p.end h p.field fs (lacks words.CloseBrace (kind_at ts j) some) found.0.0 stands d in
      let same : list ++ (p.field ∷ fs) ≡ more ++ fs = sym (append_assoc list (p.field ∷ []) fs) ∙ ap (λ (xs : List Field). xs ++ fs)
      (sym now) in
      subst (λ (xs : List Field). IsFields ts most i xs h) same (so_far.whole (p.field ∷ fs) h rest);
  runs = λ v k deep.
      let all = then_leads (field_leads ts room i list nest j p v k so_far found deep)
      (taking (separator_turn ts p.end (max v (max nest p.nest)) k stands) (omega arith) tt) in
      let reached : max v (max nest p.nest) ≡ max v deepest = ap (λ (n : ℕ). max v n) (sym greatest) in
      nest_to reached all;
  small = omega (arith, greatest, so_far.small, found.0.1.0);
  onward = omega (arith, so_far.onward, found.0.1.1);
}

pub fields_not_closed : (ts : List Token) (room i : ℕ) (list : List Field) (nest j : ℕ) (p : FieldPart) (f : Fault)
    → FieldsSoFar ts room i list nest j → FindsField ts room j (Ok p) → is_separator (kind_at ts p.end) ≡ false
    → FindsWord ts p.end words.CloseBrace (Err f) → FindsFields ts room i (Err f)
fields_not_closed ts room i list nest j p f so_far found stands closes =
    λ v k deep.
    let n : ℕ = max v (max nest p.nest) in
    then_fails (field_leads ts room i list nest j p v k so_far found deep) f
    (same_fails ts p.end n (item.expects words.CloseBrace) k item.field_end k (end_turn ts p.end n k stands) refl refl f (closes n k))

pub fields_closed : (ts : List Token) (room i : ℕ) (list more : List Field) (nest j : ℕ) (p : FieldPart) (deepest end : ℕ)
    → FieldsSoFar ts room i list nest j → is_word words.CloseBrace (kind_at ts j) ≡ false → FindsField ts room j (Ok p)
    → is_separator (kind_at ts p.end) ≡ false
    → FindsWord ts p.end words.CloseBrace (Ok end) → more ≡ list ++ (p.field ∷ []) → deepest ≡ max nest p.nest
    → FindsFields ts room i (Ok (record { list = more; nest = deepest; end = end }))
fields_closed ts room i list more nest j p deepest end so_far some found stands closes now greatest =
    let last = last_field j p.end p.field (lacks words.CloseBrace (kind_at ts j) some) found.0.0 stands in
    let whole : IsFields ts most i more p.end = subst (λ (xs : List Field). IsFields ts most i xs p.end) (sym now)
    (so_far.whole (p.field ∷ []) p.end last) in (
      (
        (p.end, whole, closes.0.0, closes.0.1),
        (
          omega (arith, greatest, so_far.small, found.0.1.0),
          omega
              (arith, so_far.onward, found.0.1.1, closes.0.1),
        ),
      ),
      λ v k deep.
          let n : ℕ = max v (max nest p.nest) in
          let all = then_leads (field_leads ts room i list nest j p v k so_far found deep)
          (same_leads ts item.field_end k (end_turn ts p.end n k stands) refl refl (omega (arith, closes.0.1)) (closes.1 n k)) in
          let reached : n ≡ max v deepest = ap (λ (m : ℕ). max v m) (sym greatest) in
          nest_to reached all,
    )
