-- The turn behind a name that begins a statement, by which name it is and what follows.
use Rattle.std.proofs.Common.{◌≡◌, ◌+◌, ℕ, Bool, true, false, ◌&&◌, ◌||◌, if◌then◌else◌, nat_eq, List, ◌∷◌, refl, sym, ap, ◌∙◌, arith, Option, Some, None, true≢false, eqb-true}
use Rattle.byte_text.specs.declared.StrId.{StrId}
use Rattle.syntax_tree.specs.declared.token.Token.{Token}
use Rattle.syntax_tree.specs.declared.token.TokenKind.{TokenKind}
use Rattle.syntax_tree.specs.declared.token.TokenKind.TheVariants as token
use Rattle.syntax_tree.specs.Places.{kind_at, is_name, is_named, Has, Optional, taken, absent}
use Rattle.syntax_tree.specs.Words.{continue_name, type_name, export_name, ends_block, ends_last, is_continue, opens_type}
use Rattle.parse_steps.specs.Classes as classes
use Rattle.parse_steps.specs.Items as item
use Rattle.syntax_tree.specs.Grammar.{in_target}
use Rattle.parse_steps.specs.Items.{Item, first_target}
use Rattle.parse_steps.specs.Steps.{Leads}
use Rattle.parse_steps.specs.Turns.{Turn, turn, stops, stays, takes, after_continue, after_type, after_export, named_stat, last_turn, type_items}
use Rattle.parse_steps.specs.Turns as turns
use Rattle.expression_parser.specs.declared.fault.Fault.{Fault}
use Rattle.expression_parser.specs.Reading.{Fails}
use Rattle.luau_parser.specs.Statements.{may_end, IsPlainName}
use Rattle.expression_parser.proofs.Leading.{then_leads, staying, taking}
use Rattle.expression_parser.proofs.SameTurns.{same_fails}
use Rattle.luau_parser.proofs.LastTurns.{block_ends, over, not_over}

-- a name that is taken
pub name_begins : (ts : List Token) (i v : ℕ) (k : List Item) (x : StrId) → Has ts i (token.Name x)
    → Leads ts i v (item.block ∷ k) (i + 1) v (item.after_name x ∷ k)
name_begins ts i v k x h = taking (ap (λ (o : Option TokenKind). turn o v item.block k) h) (omega arith) tt

-- ---- `continue`

continues : (x : StrId) (t : Option TokenKind) (v : ℕ) (k : List Item) → nat_eq x.0 continue_name.0 ≡ true
    → turns.after_name x t v k ≡ after_continue (ends_block t) t v k
continues x t v k named =
    ap (λ (b : Bool). if b then after_continue (ends_block t) t v k else if nat_eq x.0 type_name.0 then after_type
    (classes.name_of t) v k else if nat_eq x.0 export_name.0 then after_export (is_named type_name t) v k else named_stat v k) named

continue_turn : (t : Option TokenKind) (v : ℕ) (k : List Item) → may_end t ≡ true → after_continue (ends_block t) t v k ≡ last_turn t v k
continue_turn None v k h = refl
continue_turn (Some token.End) v k h = refl
continue_turn (Some token.Else) v k h = refl
continue_turn (Some token.ElseIf) v k h = refl
continue_turn (Some token.Until) v k h = refl
continue_turn (Some token.Semicolon) v k h = refl
continue_turn _ v k h = absurd (true≢false (sym h))

pub continue_ends : (ts : List Token) {i j : ℕ} (v : ℕ) (k : List Item) (x : StrId) → nat_eq x.0 continue_name.0 ≡ true
    → Optional ts token.Semicolon i j → ends_block (kind_at ts j) ≡ true → Leads ts i v (item.after_name x ∷ k) j v k
continue_ends ts v k x named (taken i h) e =
    then_leads (taking (continues x (kind_at ts i) v k named ∙ ap (λ (o : Option TokenKind). after_continue (ends_block o) o v k) h)
    (omega arith) tt) (block_ends ts (i + 1) v k e)
continue_ends ts v k x named (absent i h) e =
    staying (continues x (kind_at ts i) v k named ∙ ap (λ (b : Bool). after_continue b (kind_at ts i) v k) e)

pub continue_goes_on : (ts : List Token) (i v : ℕ) (k : List Item) (x : StrId) → nat_eq x.0 continue_name.0 ≡ true
    → may_end (kind_at ts i) ≡ true → (f : Fault) → Fails ts i v (item.last_end ∷ k) f → Fails ts i v (item.after_name x ∷ k) f
continue_goes_on ts i v k x named h f r =
    same_fails ts i v item.last_end k (item.after_name x) k
    (continues x (kind_at ts i) v k named ∙ continue_turn (kind_at ts i) v k h) refl refl f r

pub says_continue : (ts : List Token) (i j : ℕ) (x : StrId) → Has ts i (token.Name x) → nat_eq x.0 continue_name.0 ≡ true
    → Optional ts token.Semicolon (i + 1) j → ends_block (kind_at ts j) ≡ true → is_continue ts i ≡ true
says_continue ts i j x h named o e =
    ap (λ (t : Option TokenKind). is_named continue_name t && ends_last ts (i + 1)) h
    ∙ ap (λ (b : Bool). b && ends_last ts (i + 1)) named
    ∙ over ts o e

-- ---- definitions of types

pub same_number : (x y : StrId) → nat_eq x.0 y.0 ≡ true → x ≡ y
same_number x y e = ap (λ (n : ℕ). let s : StrId = record { 0 = n } in s) (eqb-true x.0 y.0 e)

pub type_begins : (ts : List Token) (i v : ℕ) (k : List Item) (x y : StrId) → x ≡ type_name → classes.name_of (kind_at ts i) ≡ Some y
    → Leads ts i v (item.after_name x ∷ k) (i + 1) v (type_items k)
type_begins ts i v k x y named h =
    taking (ap (λ (z : StrId). turns.after_name z (kind_at ts i) v k) named ∙ ap (λ (o : Option StrId). after_type o v k) h)
    (omega arith) tt

pub export_begins : (ts : List Token) (i v : ℕ) (k : List Item) (x : StrId) → x ≡ export_name → is_named type_name (kind_at ts i) ≡ true
    → Leads ts i v (item.after_name x ∷ k) (i + 1) v (item.a_name ∷ type_items k)
export_begins ts i v k x named h =
    taking (ap (λ (z : StrId). turns.after_name z (kind_at ts i) v k) named ∙ ap (λ (b : Bool). after_export b v k) h) (omega arith) tt

pub name_there : (t : Option TokenKind) → is_name t ≡ true → (y : StrId) × (t ≡ Some (token.Name y))
name_there (Some (token.Name y)) h = (y, refl)
name_there _ h = absurd (true≢false (sym h))

pub type_there : (t : Option TokenKind) → is_named type_name t ≡ true → t ≡ Some (token.Name type_name)
type_there (Some (token.Name x)) h = ap (λ (y : StrId). Some (token.Name y)) (same_number x type_name h)
type_there _ h = absurd (true≢false (sym h))

pub says_type : (ts : List Token) (i : ℕ) (y : StrId) → Has ts i (token.Name type_name) → Has ts (i + 1) (token.Name y)
    → opens_type ts i ≡ true
says_type ts i y h g =
    ap (λ (t : Option TokenKind). (is_named type_name t && is_name (kind_at ts (i + 1))) ||
    (is_named export_name t && is_named type_name (kind_at ts (i + 1)))) h
    ∙ ap (λ (t : Option TokenKind). is_name t || false) g

pub says_export : (ts : List Token) (i : ℕ) → Has ts i (token.Name export_name) → is_named type_name (kind_at ts (i + 1)) ≡ true
    → opens_type ts i ≡ true
says_export ts i h g =
    ap (λ (t : Option TokenKind). (is_named type_name t && is_name (kind_at ts (i + 1))) ||
    (is_named export_name t && is_named type_name (kind_at ts (i + 1)))) h
    ∙ g

-- ---- other names

no_continue : (t : Option TokenKind) (v : ℕ) (k : List Item) → may_end t ≡ false → after_continue (ends_block t) t v k ≡ named_stat v k
no_continue None v k h = absurd (true≢false h)
no_continue (Some token.End) v k h = absurd (true≢false h)
no_continue (Some token.Else) v k h = absurd (true≢false h)
no_continue (Some token.ElseIf) v k h = absurd (true≢false h)
no_continue (Some token.Until) v k h = absurd (true≢false h)
no_continue (Some token.Semicolon) v k h = absurd (true≢false h)
no_continue _ v k h = refl

no_type : (t : Option TokenKind) (v : ℕ) (k : List Item) → is_name t ≡ false → after_type (classes.name_of t) v k ≡ named_stat v k
no_type (Some (token.Name x)) v k h = absurd (true≢false h)
no_type _ v k h = refl

by_tests : (a c d : Bool) (t : Option TokenKind) (v : ℕ) (k : List Item) → a && may_end t ≡ false → c && is_name t ≡ false
    → d && is_named type_name t ≡ false
    → (if a then after_continue (ends_block t) t v k else if c then after_type (classes.name_of t) v k else if d then after_export
    (is_named type_name t) v k else named_stat v k) ≡ named_stat v k
by_tests true c d t v k f g h = no_continue t v k f
by_tests false true d t v k f g h = no_type t v k g
by_tests false false true t v k f g h = ap (λ (b : Bool). after_export b v k) h
by_tests false false false t v k f g h = refl

pub plain_begins : (ts : List Token) (i v : ℕ) (k : List Item) (x : StrId) → IsPlainName x (kind_at ts i)
    → Leads ts i v (item.after_name x ∷ k) i 0 (item.suffixes in_target first_target ∷ item.greater v ∷ item.stat_end ∷ k)
plain_begins ts i v k x plain =
    staying (by_tests (nat_eq x.0 continue_name.0) (nat_eq x.0 type_name.0) (nat_eq x.0 export_name.0)
    (kind_at ts i) v k plain.continues plain.types plain.exports)

pub says_no_type : (ts : List Token) (i : ℕ) (x : StrId) → Has ts i (token.Name x) → IsPlainName x (kind_at ts (i + 1))
    → opens_type ts i ≡ false
says_no_type ts i x h plain =
    ap (λ (t : Option TokenKind). (is_named type_name t && is_name (kind_at ts (i + 1))) ||
    (is_named export_name t && is_named type_name (kind_at ts (i + 1)))) h
    ∙ ap (λ (b : Bool). b || (nat_eq x.0 export_name.0 && is_named type_name (kind_at ts (i + 1)))) plain.types
    ∙ plain.exports

pub says_no_continue : (ts : List Token) (i : ℕ) (x : StrId) → Has ts i (token.Name x) → IsPlainName x (kind_at ts (i + 1))
    → is_continue ts i ≡ false
says_no_continue ts i x h plain =
    ap (λ (t : Option TokenKind). is_named continue_name t && ends_last ts (i + 1)) h
    ∙ not_over ts (i + 1) (nat_eq x.0 continue_name.0) plain.continues
