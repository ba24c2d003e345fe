-- How items and fields of a type are read.
use Rattle.std.proofs.Common.{◌≡◌, ◌≤◌, ◌<◌, ◌+◌, ℕ, zero, suc, Bool, true, false, ◌&&◌, List, [], ◌∷◌, take, ◌++◌, length, Option, Some, IsTrue, IsFalse, ◌⊎◌, inl, inr, refl, sym, ap, subst, ◌∙◌, arith, true≢false}
use Rattle.std.proofs.lemmas.Bool.{cases_lt}
use Rattle.syntax_tree.specs.declared.token.Token.{Token}
use Rattle.syntax_tree.specs.declared.token.TokenKind.{TokenKind}
use Rattle.syntax_tree.specs.declared.token.TokenKind.TheVariants as token
use Rattle.syntax_tree.specs.Places.{kind_at, Has, Lacks, is_name, absent}
use Rattle.syntax_tree.specs.Types.{is_open_paren, is_colon, is_bar, is_separator, is_literal, is_label, IsType, plain_type, last_part, part, no_mark, no_member, literal, named, no_arguments, IsItems, no_items, items, IsItemList, last_item, more_items, IsItem, plain_item, labelled_item, IsFields, no_fields, last_field, more_fields, IsField, keyed_field, item_field}
use Rattle.type_skip.specs.Brackets.{opens_bracket}
use Rattle.type_skip.specs.Reading.{SameBelow, ends_type, Writes, IsStuck, IsDeep, Fails}
use Rattle.type_skip.specs.Inner.{IsClosedItems, IsClosedItemList, IsClosedFields}
use Rattle.type_skip.proofs.Forward.{type_forward, item_forward, field_forward}
use Rattle.type_skip.proofs.OneType.{clash, clash_back, misses, misses_back, one_type, one_item, one_field}
use Rattle.type_skip.proofs.Moved.{bar_ends, move_type, move_item, move_field}
use Rattle.type_skip.proofs.Leading.{same_below, Leads, LeadsIn, Exactly}
use Rattle.type_skip.proofs.Counting.{bracket_counts, bracket_here}
use Rattle.type_skip.proofs.GoingOn.{of_kinds, going_on, within, has_within}
use Rattle.type_skip.proofs.Ends.{type_ends, item_ends, field_ends}
use Rattle.type_skip.proofs.Atoms.{unopened, paren_ends}
use Rattle.type_skip.specs.declared.fault.Fault.{Fault}
use Rattle.type_skip.specs.declared.fault.Fault.TheVariants.{Unexpected, TooDeep}
use Rattle.type_skip.proofs.Types.{near_of, ends_lacks, begins, name_begins, type_begins}

-- ---- a name with nothing behind it is a type

bare_name : (us : List Token) (m i : ℕ) → IsTrue (is_name (kind_at us i)) → IsTrue (ends_type (kind_at us (i + 1))) → IsType us m i (i + 1)
bare_name us m i h over =
    let k = i + 1 in
    let b = name_begins (kind_at us i) h in
    plain_type m i (i + 1) b.1
    (last_part m i (i + 1) (part m i (i + 1) (i + 1)
    (named m i (i + 1) (i + 1) (i + 1) h (unopened us i (paren_ends (kind_at us (i + 1)) over)) (no_member (i + 1) (ends_lacks us (i + 1) token.Dot refl over)) (no_arguments m (i + 1) (ends_lacks us (i + 1) token.Less refl over)) (absent (i + 1) (ends_lacks us (i + 1) token.TripleDot refl over)))
    (no_mark (i + 1) (ends_lacks us (i + 1) token.Question refl over))) (bar_ends (kind_at us (i + 1)) over))

-- where a name stands, no type fails at it
further : (ts : List Token) (n i k : ℕ) → IsTrue (is_name (kind_at ts i)) → i ≤ k → ((us : List Token) (j : ℕ) → SameBelow (k + 1) ts us → IsType us n i j → ⊥) → (i < k) ⊎ (k ≤ i) → i < k
further ts n i k h le none (inl less) = less
further ts n i k h le none (inr more) =
    let e : k ≡ i = omega (arith, le, more) in
    let there : i < length ts = within is_name ts i refl h in
    let on = going_on ts (i + 1) [] (omega (arith, there)) in
    let us : List Token = take (i + 1) ts ++ of_kinds [] in
    absurd (none us (i + 1) (same_below ts us (k + 1) (i + 1) (omega (arith, e)) on.0) (bare_name us n i (ap is_name (on.0 i (omega arith)) ∙ h) on.1.1))

-- ---- items

name_of_label : (o q : Option TokenKind) → IsTrue (is_name o && is_colon q) → IsTrue (is_name o)
name_of_label (Some (token.Name x)) q h = refl
name_of_label _ q h = absurd (true≢false (sym h))

-- a label that the other list lacks
label_only : (ts us : List Token) (n i k : ℕ) → IsFalse (is_label ts i) → i ≤ k → ((vs : List Token) (j : ℕ) → SameBelow (k + 1) ts vs → IsType vs n i j → ⊥) → SameBelow (k + 1) ts us → IsTrue (is_label us i) → ⊥
label_only ts us n i k h le none same there =
    let e = same i (omega (arith, le)) in
    let name : IsTrue (is_name (kind_at ts i)) = ap is_name (sym e) ∙ name_of_label (kind_at us i) (kind_at us (i + 1)) there in
    let less = further ts n i k name le none (cases_lt i k) in
    let f : is_label us i ≡ false = rw (same i (omega (arith, le)), same (i + 1) (omega (arith, less))) h in
    true≢false (sym there ∙ f)

item_type : {us : List Token} {m i j : ℕ} → IsItem us m i j → (IsTrue (is_label us i) → ⊥) → IsType us m i j
item_type (plain_item n i j h t) not_label = t
item_type (labelled_item n i j h t) not_label = absurd (not_label h)

-- a type with a `:` behind its first name is that name
label_end : (us : List Token) (m i j : ℕ) → IsType us m i j → IsTrue (is_label us i) → IsTrue (ends_type (kind_at us j)) → ⊥
label_end us m i j t h over =
    let colon : Has us (i + 1) token.Colon = colon_of (kind_at us i) (kind_at us (i + 1)) h in
    let name = name_of_label (kind_at us i) (kind_at us (i + 1)) h in
    let b = name_begins (kind_at us i) name in
    let here : IsType us m i (i + 1) =
    plain_type m i (i + 1) b.1
    (last_part m i (i + 1) (part m i (i + 1) (i + 1)
    (named m i (i + 1) (i + 1) (i + 1) name (unopened us i (ap is_open_paren colon)) (no_member (i + 1) (not_colon us (i + 1) token.Dot colon (λ e. cc))) (no_arguments m (i + 1) (not_colon us (i + 1) token.Less colon (λ e. cc))) (absent (i + 1) (not_colon us (i + 1) token.TripleDot colon (λ e. cc))))
    (no_mark (i + 1) (not_colon us (i + 1) token.Question colon (λ e. cc)))) (ap is_bar colon)) in
    true≢false (sym over ∙ ap (λ x. ends_type (kind_at us x)) (one_type t here refl) ∙ ap ends_type colon)
  where
    colon_of : (o q : Option TokenKind) → IsTrue (is_name o && is_colon q) → q ≡ Some token.Colon
    colon_of (Some (token.Name x)) (Some token.Colon) h = refl
    colon_of (Some (token.Name x)) _ h = absurd (true≢false (sym h))
    colon_of _ q h = absurd (true≢false (sym h))

    not_colon : (us : List Token) (i : ℕ) (kind : TokenKind) → Has us i token.Colon → (Some token.Colon ≡ Some kind → ⊥) → Lacks us i kind
    not_colon us i kind h ne = λ there. ne (sym h ∙ there)

whole_item : (us : List Token) (m i j : ℕ) → IsType us m i j → IsTrue (ends_type (kind_at us j)) → IsItem us m i j
whole_item us m i j t over = by_label (is_label us i) refl
  where
    by_label : (b : Bool) → is_label us i ≡ b → IsItem us m i j
    by_label true e = absurd (label_end us m i j t e over)
    by_label false e = plain_item m i j e t

written_end : (us : List Token) (k : ℕ) (kinds : List TokenKind) (j : ℕ) → Writes us k kinds j → IsTrue (ends_type (kind_at us j))
written_end us k [] j w = ap (λ x. ends_type (kind_at us x)) (sym w.0) ∙ w.1
written_end us k (kind ∷ kinds) j w = written_end us (k + 1) kinds j w.1

pub plain_item_fails : (ts : List Token) (n i : ℕ) → IsFalse (is_label ts i) → (f : Fault) → Fails IsType ts n i f → Fails IsItem ts n i f
plain_item_fails ts n i h (Unexpected k) f = record {
  from = f.from;
  reached = f.reached;
  none = λ us m j same item. f.none us m j same (item_type item (label_only ts us n i k h f.from (λ vs e. f.none vs n e) same));
  before = record {
    kinds = f.before.kinds;
    whole = λ us j same w. whole_item us n i j (f.before.whole us j same w) (written_end us k f.before.kinds j w);
  };
}
plain_item_fails ts n i h (TooDeep k) f = record {
  from = f.from;
  there = f.there;
  many = f.many;
  none = λ us j same item. f.none us j same (item_type item (label_only ts us n i k h f.from (λ vs e. f.none vs e) same));
  before = record {
    kinds = f.before.kinds;
    whole = λ us j same w. whole_item us n i j (f.before.whole us j same w) (written_end us k f.before.kinds j w);
  };
  deeper = record {
    kinds = f.deeper.kinds;
    whole = λ us j same w. whole_item us (suc n) i j (f.deeper.whole us j same w) (written_end us (k + 1) f.deeper.kinds j w);
  };
}

colon_of_label : (o q : Option TokenKind) → IsTrue (is_name o && is_colon q) → IsTrue (is_colon q)
colon_of_label (Some (token.Name x)) q h = h
colon_of_label _ q h = absurd (true≢false (sym h))

label_within : (ts : List Token) (i : ℕ) → IsTrue (is_label ts i) → i + 1 < length ts
label_within ts i h = within is_colon ts (i + 1) refl (colon_of_label (kind_at ts i) (kind_at ts (i + 1)) h)

labelled_type : {us : List Token} {m i j : ℕ} → IsItem us m i j → IsTrue (is_label us i) → IsType us m (i + 2) j
labelled_type (plain_item n i j h t) g = absurd (true≢false (sym g ∙ h))
labelled_type (labelled_item n i j h t) g = t

same_label : (ts us : List Token) (i : ℕ) → SameBelow (i + 2) ts us → IsTrue (is_label ts i) → IsTrue (is_label us i)
same_label ts us i same h = rw (same i (omega arith), same (i + 1) (omega arith)) h

pub item_label : (ts : List Token) (n i : ℕ) → IsTrue (is_label ts i) → Exactly IsItem IsType ts n i (i + 2)
item_label ts n i h = record {
  from = omega arith;
  reached = λ le. omega (arith, label_within ts i h);
  forth = λ us m e le same t. labelled_item m i e (same_label ts us i same h) t;
  back = λ us m e same item. labelled_type item (same_label ts us i (same_below ts us (i + 2) (i + 2 + 1) (omega arith) same) h);
}

item_begins : {us : List Token} {m i j : ℕ} → IsItem us m i j → IsTrue (begins (kind_at us i))
item_begins (plain_item n i j h t) = type_begins t
item_begins {us = us} (labelled_item n i j h t) = let b = name_begins (kind_at us i) (name_of_label (kind_at us i) (kind_at us (i + 1)) h) in b.0

-- ---- lists of items

begins_no : (us : List Token) (i : ℕ) (kind : TokenKind) → begins (Some kind) ≡ false → IsTrue (begins (kind_at us i)) → Lacks us i kind
begins_no us i kind h b = λ there. true≢false (sym b ∙ ap begins there ∙ h)

closers_begin_nothing : (kind : TokenKind) → IsTrue (ends_type (Some kind)) → begins (Some kind) ≡ false
closers_begin_nothing token.CloseParen h = refl
closers_begin_nothing token.CloseBracket h = refl
closers_begin_nothing token.CloseBrace h = refl
closers_begin_nothing token.Greater h = refl
closers_begin_nothing (token.InterpEnd x) h = refl
closers_begin_nothing _ h = absurd (true≢false (sym h))

list_begins : {us : List Token} {m i j : ℕ} → IsItemList us m i j → IsTrue (begins (kind_at us i))
list_begins (last_item n i j p h) = item_begins p
list_begins (more_items n i j k p h ps) = item_begins p

items_list : {us : List Token} {c : TokenKind} {m i j : ℕ} → IsItems us c m i j → Lacks us i c → IsItemList us m i j
items_list (no_items c n i h) g = absurd (g h)
items_list (items c n i j h p) g = p

pub items_item_list : (ts : List Token) (c : TokenKind) (n i : ℕ) → IsTrue (ends_type (Some c)) → Lacks ts i c → Exactly (IsClosedItems c) (IsClosedItemList c) ts n i i
items_item_list ts c n i ends h = record {
  from = omega arith;
  reached = λ le. le;
  forth = λ us m e le same p. record { place = p.place; inside = items c m i p.place (begins_no us i c (closers_begin_nothing c ends) (list_begins p.inside)) p.inside; closed = p.closed; behind = p.behind };
  back = λ us m e same p. record { place = p.place; inside = items_list p.inside (λ there. h (sym (same i (omega arith)) ∙ there)); closed = p.closed; behind = p.behind };
}

pub closed_at_once : (ts : List Token) (c : TokenKind) (n i : ℕ) → Has ts i c → IsClosedItems c ts n i (i + 1)
closed_at_once ts c n i h = record { place = i; inside = no_items c n i h; closed = h; behind = refl }

first_item : {us : List Token} {c : TokenKind} {m i j : ℕ} → IsClosedItemList c us m i j → (k : ℕ) × IsItem us m i k
first_item {us = us} {m = m} c = of c.inside
  where
    of : {a b : ℕ} → IsItemList us m a b → (k : ℕ) × IsItem us m a k
    of (last_item n a b p h) = (b, p)
    of (more_items n a b k p h ps) = (b, p)

pub list_item : (ts : List Token) (c : TokenKind) (n i : ℕ) → IsTrue (ends_type (Some c)) → Leads (IsClosedItemList c) IsItem (c ∷ []) ts n i i
list_item ts c n i ends = record {
  from = omega arith;
  reached = λ le. le;
  ends = ends;
  forth = λ us m j e le same p w. record { place = j; inside = last_item m i j p (ends_lacks us j token.Comma refl (ap ends_type w.0 ∙ ends)); closed = w.0; behind = sym w.1.0 };
  back = λ us m j same p. first_item p;
}

after_item : {us : List Token} {c : TokenKind} {n m i k e : ℕ} → IsItem us n i k → Has us k token.Comma → IsClosedItemList c us m i e → IsClosedItemList c us m (k + 1) e
after_item {us = us} {c = c} {n = n} {m = m} {k = k} {e = e} g comma p = of p.inside p.closed p.behind g
  where
    of : {a b : ℕ} → IsItemList us m a b → Has us b c → e ≡ b + 1 → IsItem us n a k → IsClosedItemList c us m (k + 1) e
    of (last_item l a b q h) closed behind p = misses_back us (one_item q p refl) h comma
    of (more_items l a b d q h qs) closed behind p = record { place = d; inside = subst (λ (x : ℕ). IsItemList us l (x + 1) d) (one_item q p refl) qs; closed = closed; behind = behind }

pub next_item : (ts : List Token) (c : TokenKind) (n i k : ℕ) → IsItem ts n i k → Has ts k token.Comma → Exactly (IsClosedItemList c) (IsClosedItemList c) ts n i (k + 1)
next_item ts c n i k g comma = record {
  from = omega (arith, item_forward g);
  reached = λ le. omega (arith, has_within ts k token.Comma comma);
  forth = λ us m e le same p. record {
    place = p.place;
    inside = more_items m i k p.place (move_item g m le (near_of ts us k (k + 1) (omega arith) same)) (same k (omega arith) ∙ comma) p.inside;
    closed = p.closed;
    behind = p.behind;
  };
  back = λ us m e same p. after_item (move_item g n (omega arith) (near_of ts us k (k + 1 + 1) (omega arith) same)) (same k (omega arith) ∙ comma) p;
}

pub last_of_items : (ts : List Token) (c : TokenKind) (n i k : ℕ) → IsItem ts n i k → Lacks ts k token.Comma → Has ts k c → IsClosedItemList c ts n i (k + 1)
last_of_items ts c n i k g comma close = record { place = k; inside = last_item n i k g comma; closed = close; behind = refl }

one_of_items : {us : List Token} {c : TokenKind} {n m i k e : ℕ} → IsItem us n i k → Lacks us k token.Comma → IsClosedItemList c us m i e → Has us k c
one_of_items {us = us} {c = c} {n = n} {m = m} {k = k} {e = e} g comma p = of p.inside p.closed g
  where
    of : {a b : ℕ} → IsItemList us m a b → Has us b c → IsItem us n a k → Has us k c
    of (last_item l a b q h) closed p = ap (kind_at us) (sym (one_item q p refl)) ∙ closed
    of (more_items l a b d q h qs) closed p = misses us (one_item q p refl) h comma

pub stuck_items : (ts : List Token) (c : TokenKind) (n i k : ℕ) → IsTrue (ends_type (Some c)) → IsItem ts n i k → Lacks ts k token.Comma → Lacks ts k c → IsStuck (IsClosedItemList c) ts n i k
stuck_items ts c n i k ends g comma close = record {
  from = omega (arith, item_forward g);
  reached = λ le. item_ends ts g;
  none = λ us m j same p.
      close (sym (same k (omega arith)) ∙ one_of_items (move_item g n (omega arith) (near_of ts us k (k + 1) (omega arith) same)) (λ there. comma (sym (same k (omega arith)) ∙ there)) p);
  before = record {
    kinds = c ∷ [];
    whole = λ us j same w. record {
      place = k;
      inside = last_item n i k (move_item g n (omega arith) (record { below = same; here = inr (ap ends_type w.0 ∙ ends) })) (ends_lacks us k token.Comma refl (ap ends_type w.0 ∙ ends));
      closed = w.0;
      behind = sym w.1.0;
    };
  };
}

-- ---- fields

no_room_field : {us : List Token} {i j : ℕ} → IsField us zero i j → Lacks us i token.OpenBracket
no_room_field (item_field n i j h p) = h

field_of_item : {us : List Token} {m i j : ℕ} → IsField us m i j → Lacks us i token.OpenBracket → IsItem us m i j
field_of_item (keyed_field n i j k h t g e u) f = absurd (f h)
field_of_item (item_field n i j h p) f = p

pub field_item : (ts : List Token) (n i : ℕ) → Lacks ts i token.OpenBracket → Exactly IsField IsItem ts n i i
field_item ts n i h = record {
  from = omega arith;
  reached = λ le. le;
  forth = λ us m e le same p. item_field m i e (begins_no us i token.OpenBracket refl (item_begins p)) p;
  back = λ us m e same f. field_of_item f (λ there. h (sym (same i (omega arith)) ∙ there));
}

key_end : (us : List Token) (m i k e : ℕ) → Has us i token.OpenBracket → IsType us m (i + 1) k → Writes us k (token.CloseBracket ∷ token.Colon ∷ token.Nil ∷ []) e → IsField us (suc m) i e
key_end us m i k e h t w =
    let two : k + 2 ≡ k + 1 + 1 = omega arith in
    let value : IsType us (suc m) (k + 1 + 1) (k + 1 + 1 + 1) = nil_type us (suc m) (k + 1 + 1) w.1.1.0 w.1.1.1.1 in
    subst (λ (x : ℕ). IsField us (suc m) i x) w.1.1.1.0 (keyed_field m i k (k + 1 + 1 + 1) h t w.0 w.1.0 (subst (λ (x : ℕ). IsType us (suc m) x (k + 1 + 1 + 1)) (sym two) value))
  where
    nil_type : (us : List Token) (m i : ℕ) → Has us i token.Nil → IsTrue (ends_type (kind_at us (i + 1))) → IsType us m i (i + 1)
    nil_type us m i h over = plain_type m i (i + 1) (ap is_bar h) (last_part m i (i + 1) (part m i (i + 1) (i + 1) (literal m i (ap is_literal h)) (no_mark (i + 1) (ends_lacks us (i + 1) token.Question refl over))) (bar_ends (kind_at us (i + 1)) over))

in_key : {us : List Token} {m i j : ℕ} → IsField us m i j → Has us i token.OpenBracket → (l k : ℕ) × (m ≡ suc l) × IsType us l (i + 1) k × Has us k token.CloseBracket × Has us (k + 1) token.Colon × IsType us m (k + 2) j
in_key (keyed_field n i j k h t g e u) f = (n, j, refl, t, g, e, u)
in_key (item_field n i j h p) f = absurd (h f)

pub field_key : (ts : List Token) (n i : ℕ) → Has ts i token.OpenBracket → LeadsIn IsField IsType (token.CloseBracket ∷ token.Colon ∷ token.Nil ∷ []) ts n i (i + 1)
field_key ts n i h = record {
  from = omega arith;
  opened = bracket_counts ts i i (i + 1) (omega arith) (omega arith) (ap opens_bracket h);
  reached = λ le. omega (arith, has_within ts i token.OpenBracket h);
  ends = refl;
  forth = λ us m j e le same t w. key_end us m i j e (same i (omega arith) ∙ h) t w;
  back = λ us m j same f. let k = in_key f (same i (omega arith) ∙ h) in (k.0, k.1, k.2, k.3);
}

pub stuck_bracket : (ts : List Token) (n i k : ℕ) → Has ts i token.OpenBracket → IsType ts n (i + 1) k → Lacks ts k token.CloseBracket → IsStuck IsField ts (suc n) i k
stuck_bracket ts n i k h t close =
    let less = type_forward t in
    record {
      from = omega (arith, less);
      reached = λ le. type_ends ts t;
      none = λ us m j same f.
          let q = in_key f (same i (omega (arith, less)) ∙ h) in
          let one = one_type q.3 (move_type t n (omega arith) (near_of ts us k (k + 1) (omega arith) same)) refl in
          close (sym (same k (omega arith)) ∙ ap (kind_at us) (sym one) ∙ q.4);
      before = record {
        kinds = token.CloseBracket ∷ token.Colon ∷ token.Nil ∷ [];
        whole = λ us j same w. key_end us n i k j (same i (omega (arith, less)) ∙ h) (move_type t n (omega arith) (record { below = same; here = inr (ap ends_type w.0) })) w;
      };
    }

pub stuck_colon : (ts : List Token) (n i k : ℕ) → Has ts i token.OpenBracket → IsType ts n (i + 1) k → Has ts k token.CloseBracket → Lacks ts (k + 1) token.Colon → IsStuck IsField ts (suc n) i (k + 1)
stuck_colon ts n i k h t close colon =
    let less = type_forward t in
    record {
      from = omega (arith, less);
      reached = λ le. omega (arith, has_within ts k token.CloseBracket close);
      none = λ us m j same f.
          let q = in_key f (same i (omega (arith, less)) ∙ h) in
          let one = one_type q.3 (move_type t n (omega arith) (near_of ts us k (k + 1 + 1) (omega arith) same)) refl in
          colon (sym (same (k + 1) (omega arith)) ∙ ap (λ x. kind_at us (x + 1)) (sym one) ∙ q.5);
      before = record {
        kinds = token.Colon ∷ token.Nil ∷ [];
        whole = λ us j same w. key_end us n i k j (same i (omega (arith, less)) ∙ h) (move_type t n (omega arith) (near_of ts us k (k + 1) (omega arith) same)) (same k (omega arith) ∙ close, w);
      };
    }

value_atom : (us : List Token) (n m i k e : ℕ) → suc n ≤ m → Has us i token.OpenBracket → IsType us n (i + 1) k → Has us k token.CloseBracket → Has us (k + 1) token.Colon → IsType us m (k + 2) e → ((l : ℕ) → n ≤ l → IsType us l (i + 1) k) → IsField us m i e
value_atom us n zero i k e le h t close colon v moved = absurd (omega (arith, le))
value_atom us n (suc m) i k e le h t close colon v moved = keyed_field m i k e h (moved m (omega (arith, le))) close colon v

pub field_value : (ts : List Token) (n i k : ℕ) → Has ts i token.OpenBracket → IsType ts n (i + 1) k → Has ts k token.CloseBracket → Has ts (k + 1) token.Colon → Exactly IsField IsType ts (suc n) i (k + 2)
field_value ts n i k h t close colon =
    let less = type_forward t in
    record {
      from = omega (arith, less);
      reached = λ le. omega (arith, has_within ts (k + 1) token.Colon colon);
      forth = λ us m e le same v.
          let moved : (l : ℕ) → n ≤ l → IsType us l (i + 1) k = λ l more. move_type t l more (near_of ts us k (k + 2) (omega arith) same) in
          value_atom us n m i k e le (same i (omega (arith, less)) ∙ h) (moved n (omega arith)) (same k (omega arith) ∙ close) (same (k + 1) (omega arith) ∙ colon) v moved;
      back = λ us m e same f.
          let q = in_key f (same i (omega (arith, less)) ∙ h) in
          let one = one_type q.3 (move_type t n (omega arith) (near_of ts us k (k + 2 + 1) (omega arith) same)) refl in
          subst (λ (x : ℕ). IsType us m (x + 2) e) one q.6;
    }

deep_field_0 : (ts : List Token) (i : ℕ) → Has ts i token.OpenBracket → i < length ts → IsDeep IsField ts zero i i
deep_field_0 ts i h there = record {
  from = omega arith;
  many = bracket_here ts i i (omega arith) (ap opens_bracket h);
  there = there;
  none = λ us j same f. no_room_field f (same i (omega arith) ∙ h);
  before = record {
    kinds = token.Nil ∷ [];
    whole = λ us j same w.
        let e : is_label us i ≡ false = ap (λ o. is_name o && is_colon (kind_at us (i + 1))) w.0 in
        let nil : IsType us zero i (i + 1) = plain_type zero i (i + 1) (ap is_bar w.0) (last_part zero i (i + 1) (part zero i (i + 1) (i + 1) (literal zero i (ap is_literal w.0)) (no_mark (i + 1) (ends_lacks us (i + 1) token.Question refl w.1.1))) (bar_ends (kind_at us (i + 1)) w.1.1)) in
        subst (λ (x : ℕ). IsField us zero i x) w.1.0 (item_field zero i (i + 1) (λ open_. (let both : Some token.Nil ≡ Some token.OpenBracket = sym w.0 ∙ open_ in absurd cc)) (plain_item zero i (i + 1) e nil));
  };
  deeper = record {
    kinds = token.Nil ∷ token.CloseBracket ∷ token.Colon ∷ token.Nil ∷ [];
    whole = λ us j same w.
        let over : IsTrue (ends_type (kind_at us (i + 1 + 1))) = ap ends_type w.1.0 in
        let nil : IsType us zero (i + 1) (i + 1 + 1) = plain_type zero (i + 1) (i + 1 + 1) (ap is_bar w.0) (last_part zero (i + 1) (i + 1 + 1) (part zero (i + 1) (i + 1 + 1) (i + 1 + 1) (literal zero (i + 1) (ap is_literal w.0)) (no_mark (i + 1 + 1) (ends_lacks us (i + 1 + 1) token.Question refl over))) (bar_ends (kind_at us (i + 1 + 1)) over)) in
        key_end us zero i (i + 1 + 1) j (same i (omega arith) ∙ h) nil w.1;
  };
}

pub deep_field : (ts : List Token) (n i : ℕ) → n ≡ 0 → Has ts i token.OpenBracket → i < length ts → IsDeep IsField ts n i i
deep_field ts n i e h there = subst (λ (x : ℕ). IsDeep IsField ts x i i) (sym e) (deep_field_0 ts i h there)

-- ---- lists of fields

field_begins : {us : List Token} {m i j : ℕ} → IsField us m i j → Lacks us i token.CloseBrace
field_begins (keyed_field n i j k h t g e u) = λ there. let both : Some token.OpenBracket ≡ Some token.CloseBrace = sym h ∙ there in absurd cc
field_begins {us = us} (item_field n i j h p) = begins_no us i token.CloseBrace refl (item_begins p)

first_field : {us : List Token} {m i j : ℕ} → IsClosedFields us m i j → Lacks us i token.CloseBrace → (k : ℕ) × IsField us m i k
first_field {us = us} {m = m} c g = of c.inside g
  where
    of : {a b : ℕ} → IsFields us m a b → Lacks us a token.CloseBrace → (k : ℕ) × IsField us m a k
    of (no_fields n a h) g = absurd (g h)
    of (last_field n a b h p s) g = (b, p)
    of (more_fields n a b k h p s ps) g = (b, p)

pub fields_field : (ts : List Token) (n i : ℕ) → Lacks ts i token.CloseBrace → Leads IsClosedFields IsField (token.CloseBrace ∷ []) ts n i i
fields_field ts n i h = record {
  from = omega arith;
  reached = λ le. le;
  ends = refl;
  forth = λ us m j e le same p w. record { place = j; inside = last_field m i j (field_begins p) p (ap is_separator w.0); closed = w.0; behind = sym w.1.0 };
  back = λ us m j same p. first_field p (λ there. h (sym (same i (omega arith)) ∙ there));
}

after_field : {us : List Token} {n m i k e : ℕ} → IsField us n i k → IsTrue (is_separator (kind_at us k)) → IsClosedFields us m i e → IsClosedFields us m (k + 1) e
after_field {us = us} {n = n} {m = m} {k = k} {e = e} g comma p = of p.inside p.closed p.behind g
  where
    of : {a b : ℕ} → IsFields us m a b → Has us b token.CloseBrace → e ≡ b + 1 → IsField us n a k → IsClosedFields us m (k + 1) e
    of (no_fields l a h) closed behind p = absurd (field_begins p h)
    of (last_field l a b f q h) closed behind p = clash_back (λ x. is_separator (kind_at us x)) (one_field q p refl) h comma
    of (more_fields l a b d f q h qs) closed behind p = record { place = d; inside = subst (λ (x : ℕ). IsFields us l (x + 1) d) (one_field q p refl) qs; closed = closed; behind = behind }

pub next_field : (ts : List Token) (n i k : ℕ) → IsField ts n i k → IsTrue (is_separator (kind_at ts k)) → Exactly IsClosedFields IsClosedFields ts n i (k + 1)
next_field ts n i k g comma = record {
  from = omega (arith, field_forward g);
  reached = λ le. omega (arith, within is_separator ts k refl comma);
  forth = λ us m e le same p.
      let q = move_field g m le (near_of ts us k (k + 1) (omega arith) same) in
      record { place = p.place; inside = more_fields m i k p.place (field_begins q) q (ap is_separator (same k (omega arith)) ∙ comma) p.inside; closed = p.closed; behind = p.behind };
  back = λ us m e same p. after_field (move_field g n (omega arith) (near_of ts us k (k + 1 + 1) (omega arith) same)) (ap is_separator (same k (omega arith)) ∙ comma) p;
}

pub no_more_fields : (ts : List Token) (n i : ℕ) → Has ts i token.CloseBrace → IsClosedFields ts n i (i + 1)
no_more_fields ts n i h = record { place = i; inside = no_fields n i h; closed = h; behind = refl }

pub last_of_fields : (ts : List Token) (n i k : ℕ) → IsField ts n i k → IsFalse (is_separator (kind_at ts k)) → Has ts k token.CloseBrace → IsClosedFields ts n i (k + 1)
last_of_fields ts n i k g comma close = record { place = k; inside = last_field n i k (field_begins g) g comma; closed = close; behind = refl }

one_of_fields : {us : List Token} {n m i k e : ℕ} → IsField us n i k → IsFalse (is_separator (kind_at us k)) → IsClosedFields us m i e → Has us k token.CloseBrace
one_of_fields {us = us} {n = n} {m = m} {k = k} {e = e} g comma p = of p.inside p.closed g
  where
    of : {a b : ℕ} → IsFields us m a b → Has us b token.CloseBrace → IsField us n a k → Has us k token.CloseBrace
    of (no_fields l a h) closed p = absurd (field_begins p h)
    of (last_field l a b f q h) closed p = ap (kind_at us) (sym (one_field q p refl)) ∙ closed
    of (more_fields l a b d f q h qs) closed p = clash (λ x. is_separator (kind_at us x)) (one_field q p refl) h comma

pub stuck_fields : (ts : List Token) (n i k : ℕ) → IsField ts n i k → IsFalse (is_separator (kind_at ts k)) → Lacks ts k token.CloseBrace → IsStuck IsClosedFields ts n i k
stuck_fields ts n i k g comma close = record {
  from = omega (arith, field_forward g);
  reached = λ le. field_ends ts g;
  none = λ us m j same p.
      close (sym (same k (omega arith)) ∙ one_of_fields (move_field g n (omega arith) (near_of ts us k (k + 1) (omega arith) same)) (ap is_separator (same k (omega arith)) ∙ comma) p);
  before = record {
    kinds = token.CloseBrace ∷ [];
    whole = λ us j same w.
        let q = move_field g n (omega arith) (record { below = same; here = inr (ap ends_type w.0) }) in
        record { place = k; inside = last_field n i k (field_begins q) q (ap is_separator w.0); closed = w.0; behind = sym w.1.0 };
  };
}
