-- A part of a type that begins at a place ends at one place.
use Rattle.std.proofs.Common.{◌≡◌, ◌+◌, ℕ, suc, Bool, true, false, List, ◌&&◌, Option, Some, None, IsTrue, IsFalse, refl, sym, ap, ◌∙◌, arith, true≢false}
use Rattle.syntax_tree.specs.declared.token.Token.{Token}
use Rattle.syntax_tree.specs.declared.token.TokenKind.{TokenKind}
use Rattle.syntax_tree.specs.declared.token.TokenKind.TheVariants as token
use Rattle.syntax_tree.specs.Places.{kind_at, Has, Lacks, is_name, is_named, Optional, taken, absent}
use Rattle.syntax_tree.specs.Types.{typeof_name, is_open_paren, is_bar, is_separator, is_literal, opens_typeof, is_label, closer, is_closer, is_plain, IsType, plain_type, barred_type, IsParts, last_part, more_parts, IsPart, part, IsMarks, no_mark, mark, IsMember, no_member, member, IsBalanced, balanced, plain, interp_begin, interp_mid, interp_end, bracket, IsAtom, literal, variadic, named, type_of, table, function, IsArguments, no_arguments, arguments, IsResult, no_result, result, IsItems, no_items, items, IsItemList, last_item, more_items, IsItem, plain_item, labelled_item, IsFields, no_fields, last_field, more_fields, IsField, keyed_field, item_field, IsGenerics, no_generics, generics, IsGenericList, last_generic, more_generics, IsGeneric, generic, IsDefault, no_default, default}

-- ---- what cannot stand at one place

-- a test passes and fails at one place
pub clash : {A : Type 0} (p : ℕ → Bool) {i k : ℕ} → i ≡ k → IsTrue (p i) → IsFalse (p k) → A
clash p e h g = absurd (true≢false (sym h ∙ ap p e ∙ g))

pub clash_back : {A : Type 0} (p : ℕ → Bool) {i k : ℕ} → i ≡ k → IsFalse (p i) → IsTrue (p k) → A
clash_back p e h g = clash p (sym e) g h

-- a token stands there and does not
pub misses : {A : Type 0} (ts : List Token) {kind : TokenKind} {i k : ℕ} → i ≡ k → Has ts i kind → Lacks ts k kind → A
misses ts e h g = absurd (g (ap (kind_at ts) (sym e) ∙ h))

pub misses_back : {A : Type 0} (ts : List Token) {kind : TokenKind} {i k : ℕ} → i ≡ k → Lacks ts i kind → Has ts k kind → A
misses_back ts e h g = misses ts (sym e) g h

pub next : {i k : ℕ} → i ≡ k → i + 1 ≡ k + 1
next e = ap (λ x. x + 1) e

pub after_next : {i k : ℕ} → i ≡ k → i + 2 ≡ k + 2
after_next e = ap (λ x. x + 2) e

-- ---- how an atom begins

abbrev pub atom_form : Bool → Option TokenKind → ℕ
atom_form b (Some token.Nil) = 0
atom_form b (Some token.True) = 0
atom_form b (Some token.False) = 0
atom_form b (Some (token.Str x)) = 0
atom_form b (Some token.TripleDot) = 1
atom_form false (Some (token.Name x)) = 2
atom_form true (Some (token.Name x)) = 3
atom_form b (Some token.OpenBrace) = 4
atom_form b _ = 5

pub literal_form : (b : Bool) (o : Option TokenKind) → IsTrue (is_literal o) → atom_form b o ≡ 0
literal_form b (Some token.Nil) h = refl
literal_form b (Some token.True) h = refl
literal_form b (Some token.False) h = refl
literal_form b (Some (token.Str x)) h = refl
literal_form b _ h = absurd (true≢false (sym h))

pub name_form : (b : Bool) (o : Option TokenKind) → IsTrue (is_name o) → IsFalse b → atom_form b o ≡ 2
name_form false (Some (token.Name x)) h g = refl
name_form true (Some (token.Name x)) h g = absurd (true≢false g)
name_form b _ h g = absurd (true≢false (sym h))

pub typeof_form : (b : Bool) (o q : Option TokenKind) → is_named typeof_name o && is_open_paren q ≡ b → IsTrue b → atom_form b o ≡ 3
typeof_form true (Some (token.Name x)) q e h = refl
typeof_form false (Some (token.Name x)) q e h = absurd (true≢false (sym h))
typeof_form b _ q e h = absurd (true≢false (sym h ∙ sym e))

pub generics_form : {ts : List Token} {n i j : ℕ} (b : Bool) → IsGenerics ts n i j → Has ts j token.OpenParen → atom_form b (kind_at ts i) ≡ 5
generics_form b (no_generics n i h) g = rw g refl
generics_form b (generics n i j h l c) g = rw h refl

abbrev pub form : {ts : List Token} {n i j : ℕ} → IsAtom ts n i j → ℕ
form (literal n i h) = 0
form (variadic n i j h p) = 1
form (named n i j k l h g m a d) = 2
form (type_of n i j h b g) = 3
form (table n i j h f g) = 4
form (function n i j k l g h p q r) = 5

pub form_is : {ts : List Token} {n i j : ℕ} (a : IsAtom ts n i j) → atom_form (opens_typeof ts i) (kind_at ts i) ≡ form a
form_is {ts = ts} (literal n i h) = literal_form (opens_typeof ts i) (kind_at ts i) h
form_is {ts = ts} (variadic n i j h p) = rw h refl
form_is {ts = ts} (named n i j k l h g m a d) = name_form (opens_typeof ts i) (kind_at ts i) h g
form_is {ts = ts} (type_of n i j h b g) = typeof_form (opens_typeof ts i) (kind_at ts i) (kind_at ts (i + 1)) refl h
form_is {ts = ts} (table n i j h f g) = rw h refl
form_is {ts = ts} (function n i j k l g h p q r) = generics_form (opens_typeof ts i) g h

-- atoms that begin at one place are of one form
pub one_form : {ts : List Token} {n m i j k l : ℕ} (a : IsAtom ts n i j) (b : IsAtom ts m k l) → i ≡ k → form a ≡ form b
one_form {ts = ts} a b e = sym (form_is a) ∙ ap (λ x. atom_form (opens_typeof ts x) (kind_at ts x)) e ∙ form_is b

-- ---- how balanced tokens go on

abbrev pub balanced_form : Option TokenKind → ℕ
balanced_form (Some token.CloseParen) = 0
balanced_form (Some token.CloseBracket) = 0
balanced_form (Some token.CloseBrace) = 0
balanced_form (Some (token.InterpBegin x)) = 2
balanced_form (Some (token.InterpMid x)) = 3
balanced_form (Some (token.InterpEnd x)) = 4
balanced_form (Some token.OpenParen) = 5
balanced_form (Some token.OpenBracket) = 5
balanced_form (Some token.OpenBrace) = 5
balanced_form _ = 1

closer_form : (o : Option TokenKind) → IsTrue (is_closer o) → balanced_form o ≡ 0
closer_form (Some token.CloseParen) h = refl
closer_form (Some token.CloseBracket) h = refl
closer_form (Some token.CloseBrace) h = refl
closer_form _ h = absurd (true≢false (sym h))

plain_form : (o : Option TokenKind) → IsTrue (is_plain o) → balanced_form o ≡ 1
plain_form None h = absurd (true≢false (sym h))
plain_form (Some token.OpenParen) h = absurd (true≢false (sym h))
plain_form (Some token.OpenBracket) h = absurd (true≢false (sym h))
plain_form (Some token.OpenBrace) h = absurd (true≢false (sym h))
plain_form (Some token.CloseParen) h = absurd (true≢false (sym h))
plain_form (Some token.CloseBracket) h = absurd (true≢false (sym h))
plain_form (Some token.CloseBrace) h = absurd (true≢false (sym h))
plain_form (Some (token.InterpBegin x)) h = absurd (true≢false (sym h))
plain_form (Some (token.InterpMid x)) h = absurd (true≢false (sym h))
plain_form (Some (token.InterpEnd x)) h = absurd (true≢false (sym h))
plain_form _ h = refl

opener_form : (o : Option TokenKind) (c : TokenKind) → closer o ≡ Some c → balanced_form o ≡ 5
opener_form (Some token.OpenParen) c h = refl
opener_form (Some token.OpenBracket) c h = refl
opener_form (Some token.OpenBrace) c h = refl
opener_form _ c h = cc

abbrev pub form_b : {ts : List Token} {n s i j : ℕ} → IsBalanced ts n s i j → ℕ
form_b (balanced n i h) = 0
form_b (plain n s i j h b) = 1
form_b (interp_begin n s i j x h b) = 2
form_b (interp_mid n s i j x h b) = 3
form_b (interp_end n s i j x h b) = 4
form_b (bracket n s i j k c h b g d) = 5

pub form_b_is : {ts : List Token} {n s i j : ℕ} (b : IsBalanced ts n s i j) → balanced_form (kind_at ts i) ≡ form_b b
form_b_is {ts = ts} (balanced n i h) = closer_form (kind_at ts i) h
form_b_is {ts = ts} (plain n s i j h b) = plain_form (kind_at ts i) h
form_b_is (interp_begin n s i j x h b) = rw h refl
form_b_is (interp_mid n s i j x h b) = rw h refl
form_b_is (interp_end n s i j x h b) = rw h refl
form_b_is {ts = ts} (bracket n s i j k c h b g d) = opener_form (kind_at ts i) c h

pub one_form_b : {ts : List Token} {n m s t i j k l : ℕ} (a : IsBalanced ts n s i j) (b : IsBalanced ts m t k l) → i ≡ k → form_b a ≡ form_b b
one_form_b {ts = ts} a b e = sym (form_b_is a) ∙ ap (λ x. balanced_form (kind_at ts x)) e ∙ form_b_is b

-- ---- one end

pub one_optional : {ts : List Token} {kind : TokenKind} {i j k l : ℕ} → Optional ts kind i j → Optional ts kind k l → i ≡ k → j ≡ l
one_optional (taken i h) (taken k g) e = next e
one_optional {ts = ts} (taken i h) (absent k g) e = misses ts e h g
one_optional {ts = ts} (absent i h) (taken k g) e = misses_back ts e h g
one_optional (absent i h) (absent k g) e = e

pub one_marks : {ts : List Token} {i j k l : ℕ} → IsMarks ts i j → IsMarks ts k l → i ≡ k → j ≡ l
one_marks (no_mark i h) (no_mark k g) e = e
one_marks {ts = ts} (no_mark i h) (mark k l g n) e = misses_back ts e h g
one_marks {ts = ts} (mark i j h m) (no_mark k g) e = misses ts e h g
one_marks (mark i j h m) (mark k l g n) e = one_marks m n (next e)

pub one_member : {ts : List Token} {i j k l : ℕ} → IsMember ts i j → IsMember ts k l → i ≡ k → j ≡ l
one_member (no_member i h) (no_member k g) e = e
one_member {ts = ts} (no_member i h) (member k g f) e = misses_back ts e h g
one_member {ts = ts} (member i h f) (no_member k g) e = misses ts e h g
one_member (member i h f) (member k g d) e = after_next e

pub one_balanced : {ts : List Token} {n m s t i j k l : ℕ} (a : IsBalanced ts n s i j) (b : IsBalanced ts m t k l) → s ≡ t → i ≡ k → form_b a ≡ form_b b → j ≡ l
one_balanced (balanced n i h) (balanced m k g) d e f = e
one_balanced (plain n s i j h b) (plain m t k l g c) d e f = one_balanced b c d (next e) (one_form_b b c (next e))
one_balanced (interp_begin n s i j x h b) (interp_begin m t k l y g c) d e f = one_balanced b c (ap suc d) (next e) (one_form_b b c (next e))
one_balanced (interp_mid n s i j x h b) (interp_mid m t k l y g c) d e f = one_balanced b c d (next e) (one_form_b b c (next e))
one_balanced (interp_end n s i j x h b) (interp_end m t k l y g c) d e f = one_balanced b c (omega (arith, d)) (next e) (one_form_b b c (next e))
one_balanced (bracket n s i j j2 u h b v b2) (bracket m t k l l2 x g c y c2) d e f =
    let inner = one_balanced b c refl (next e) (one_form_b b c (next e)) in
    one_balanced b2 c2 d (next inner) (one_form_b b2 c2 (next inner))
one_balanced _ _ d e f = absurd (omega (arith, f))

pub same_balanced : {ts : List Token} {n m i j k l : ℕ} → IsBalanced ts n 0 i j → IsBalanced ts m 0 k l → i ≡ k → j ≡ l
same_balanced a b e = one_balanced a b refl e (one_form_b a b e)

mutual
  pub one_type : {ts : List Token} {n m i j k l : ℕ} → IsType ts n i j → IsType ts m k l → i ≡ k → j ≡ l
  one_type (plain_type n i j h p) (plain_type m k l g q) e = one_parts p q e
  one_type {ts = ts} (plain_type n i j h p) (barred_type m k l g q) e = clash_back (λ x. is_bar (kind_at ts x)) e h g
  one_type {ts = ts} (barred_type n i j h p) (plain_type m k l g q) e = clash (λ x. is_bar (kind_at ts x)) e h g
  one_type (barred_type n i j h p) (barred_type m k l g q) e = one_parts p q (next e)

  pub one_parts : {ts : List Token} {n m i j k l : ℕ} → IsParts ts n i j → IsParts ts m k l → i ≡ k → j ≡ l
  one_parts (last_part n i j p h) (last_part m k l q g) e = one_part p q e
  one_parts {ts = ts} (last_part n i j p h) (more_parts m k l l2 q g qs) e = clash_back (λ x. is_bar (kind_at ts x)) (one_part p q e) h g
  one_parts {ts = ts} (more_parts n i j j2 p h ps) (last_part m k l q g) e = clash (λ x. is_bar (kind_at ts x)) (one_part p q e) h g
  one_parts (more_parts n i j j2 p h ps) (more_parts m k l l2 q g qs) e = one_parts ps qs (next (one_part p q e))

  pub one_part : {ts : List Token} {n m i j k l : ℕ} → IsPart ts n i j → IsPart ts m k l → i ≡ k → j ≡ l
  one_part (part n i j j2 a p) (part m k l l2 b q) e = one_marks p q (one_atom a b e (one_form a b e))

  pub one_atom : {ts : List Token} {n m i j k l : ℕ} (a : IsAtom ts n i j) (b : IsAtom ts m k l) → i ≡ k → form a ≡ form b → j ≡ l
  one_atom (literal n i h) (literal m k g) e f = next e
  one_atom (variadic n i j h p) (variadic m k l g q) e f = one_part p q (next e)
  one_atom (named n i j j2 j3 h u p a o) (named m k l l2 l3 g v q b r) e f = one_optional o r (one_arguments a b (one_member p q (next e)))
  one_atom (type_of n i j h b u) (type_of m k l g c v) e f = next (same_balanced b c (after_next e))
  one_atom (table n i j h fs u) (table m k l g gs v) e f = next (one_fields fs gs (next e))
  one_atom (function n i j j2 j3 a h p u r) (function m k l l2 l3 b g q v s) e f = one_result r s (next (one_items p q (next (one_generics a b e)) refl))
  one_atom _ _ e f = absurd (omega (arith, f))

  pub one_arguments : {ts : List Token} {n m i j k l : ℕ} → IsArguments ts n i j → IsArguments ts m k l → i ≡ k → j ≡ l
  one_arguments (no_arguments n i h) (no_arguments m k g) e = e
  one_arguments {ts = ts} (no_arguments n i h) (arguments m k l g q v) e = misses_back ts e h g
  one_arguments {ts = ts} (arguments n i j h p u) (no_arguments m k g) e = misses ts e h g
  one_arguments (arguments n i j h p u) (arguments m k l g q v) e = next (one_items p q (next e) refl)

  pub one_result : {ts : List Token} {n m i j k l : ℕ} → IsResult ts n i j → IsResult ts m k l → i ≡ k → j ≡ l
  one_result (no_result n i h) (no_result m k g) e = e
  one_result {ts = ts} (no_result n i h) (result m k l g u) e = misses_back ts e h g
  one_result {ts = ts} (result n i j h t) (no_result m k g) e = misses ts e h g
  one_result (result n i j h t) (result m k l g u) e = one_type t u (next e)

  pub one_items : {ts : List Token} {c d : TokenKind} {n m i j k l : ℕ} → IsItems ts c n i j → IsItems ts d m k l → i ≡ k → c ≡ d → j ≡ l
  one_items (no_items c n i h) (no_items d m k g) e f = e
  one_items {ts = ts} (no_items c n i h) (items d m k l g q) e f = misses ts e (h ∙ ap Some f) g
  one_items {ts = ts} (items c n i j h p) (no_items d m k g) e f = misses_back ts e h (g ∙ ap Some (sym f))
  one_items (items c n i j h p) (items d m k l g q) e f = one_item_list p q e

  pub one_item_list : {ts : List Token} {n m i j k l : ℕ} → IsItemList ts n i j → IsItemList ts m k l → i ≡ k → j ≡ l
  one_item_list (last_item n i j p h) (last_item m k l q g) e = one_item p q e
  one_item_list {ts = ts} (last_item n i j p h) (more_items m k l l2 q g qs) e = misses_back ts (one_item p q e) h g
  one_item_list {ts = ts} (more_items n i j j2 p h ps) (last_item m k l q g) e = misses ts (one_item p q e) h g
  one_item_list (more_items n i j j2 p h ps) (more_items m k l l2 q g qs) e = one_item_list ps qs (next (one_item p q e))

  pub one_item : {ts : List Token} {n m i j k l : ℕ} → IsItem ts n i j → IsItem ts m k l → i ≡ k → j ≡ l
  one_item (plain_item n i j h t) (plain_item m k l g u) e = one_type t u e
  one_item {ts = ts} (plain_item n i j h t) (labelled_item m k l g u) e = clash_back (is_label ts) e h g
  one_item {ts = ts} (labelled_item n i j h t) (plain_item m k l g u) e = clash (is_label ts) e h g
  one_item (labelled_item n i j h t) (labelled_item m k l g u) e = one_type t u (after_next e)

  pub one_fields : {ts : List Token} {n m i j k l : ℕ} → IsFields ts n i j → IsFields ts m k l → i ≡ k → j ≡ l
  one_fields (no_fields n i h) (no_fields m k g) e = e
  one_fields {ts = ts} (no_fields n i h) (last_field m k l g q v) e = misses ts e h g
  one_fields {ts = ts} (no_fields n i h) (more_fields m k l l2 g q v qs) e = misses ts e h g
  one_fields {ts = ts} (last_field n i j h p u) (no_fields m k g) e = misses_back ts e h g
  one_fields (last_field n i j h p u) (last_field m k l g q v) e = one_field p q e
  one_fields {ts = ts} (last_field n i j h p u) (more_fields m k l l2 g q v qs) e = clash_back (λ x. is_separator (kind_at ts x)) (one_field p q e) u v
  one_fields {ts = ts} (more_fields n i j j2 h p u ps) (no_fields m k g) e = misses_back ts e h g
  one_fields {ts = ts} (more_fields n i j j2 h p u ps) (last_field m k l g q v) e = clash (λ x. is_separator (kind_at ts x)) (one_field p q e) u v
  one_fields (more_fields n i j j2 h p u ps) (more_fields m k l l2 g q v qs) e = one_fields ps qs (next (one_field p q e))

  pub one_field : {ts : List Token} {n m i j k l : ℕ} → IsField ts n i j → IsField ts m k l → i ≡ k → j ≡ l
  one_field (keyed_field n i j j2 h t u v w) (keyed_field m k l l2 g s x y z) e = one_type w z (after_next (one_type t s (next e)))
  one_field {ts = ts} (keyed_field n i j j2 h t u v w) (item_field m k l g q) e = misses ts e h g
  one_field {ts = ts} (item_field n i j h p) (keyed_field m k l l2 g s x y z) e = misses_back ts e h g
  one_field (item_field n i j h p) (item_field m k l g q) e = one_item p q e

  pub one_generics : {ts : List Token} {n m i j k l : ℕ} → IsGenerics ts n i j → IsGenerics ts m k l → i ≡ k → j ≡ l
  one_generics (no_generics n i h) (no_generics m k g) e = e
  one_generics {ts = ts} (no_generics n i h) (generics m k l g q v) e = misses_back ts e h g
  one_generics {ts = ts} (generics n i j h p u) (no_generics m k g) e = misses ts e h g
  one_generics (generics n i j h p u) (generics m k l g q v) e = next (one_generic_list p q (next e))

  pub one_generic_list : {ts : List Token} {n m i j k l : ℕ} → IsGenericList ts n i j → IsGenericList ts m k l → i ≡ k → j ≡ l
  one_generic_list (last_generic n i j p h) (last_generic m k l q g) e = one_generic p q e
  one_generic_list {ts = ts} (last_generic n i j p h) (more_generics m k l l2 q g qs) e = misses_back ts (one_generic p q e) h g
  one_generic_list {ts = ts} (more_generics n i j j2 p h ps) (last_generic m k l q g) e = misses ts (one_generic p q e) h g
  one_generic_list (more_generics n i j j2 p h ps) (more_generics m k l l2 q g qs) e = one_generic_list ps qs (next (one_generic p q e))

  pub one_generic : {ts : List Token} {n m i j k l : ℕ} → IsGeneric ts n i j → IsGeneric ts m k l → i ≡ k → j ≡ l
  one_generic (generic n i j j2 h o d) (generic m k l l2 g r f) e = one_default d f (one_optional o r (next e))

  pub one_default : {ts : List Token} {n m i j k l : ℕ} → IsDefault ts n i j → IsDefault ts m k l → i ≡ k → j ≡ l
  one_default (no_default n i h) (no_default m k g) e = e
  one_default {ts = ts} (no_default n i h) (default m k l g u) e = misses_back ts e h g
  one_default {ts = ts} (default n i j h t) (no_default m k g) e = misses ts e h g
  one_default (default n i j h t) (default m k l g u) e = one_type t u (next e)
