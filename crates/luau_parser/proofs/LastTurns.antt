-- The turns behind statements, and at the statements that end a block.
use Rattle.std.proofs.Common.{◌≡◌, ◌+◌, ℕ, Bool, true, false, ◌&&◌, ◌||◌, List, ◌∷◌, refl, sym, ap, ◌∙◌, arith, Option, Some, None, true≢false}
use Rattle.byte_text.specs.declared.StrId.{StrId}
use Rattle.syntax_tree.specs.declared.token.Token.{Token}
use Rattle.syntax_tree.specs.declared.token.TokenKind.{TokenKind}
use Rattle.syntax_tree.specs.declared.token.TokenKind.TheVariants as token
use Rattle.syntax_tree.specs.Places.{kind_at, Has, Optional, taken, absent}
use Rattle.syntax_tree.specs.Words.{ends_block, ends_last, is_semicolon}
use Rattle.parse_steps.specs.declared.classes.Opening.TheVariants as opens
use Rattle.type_skip.specs.declared.words.Word.TheVariants as word
use Rattle.parse_steps.specs.Classes.{opening}
use Rattle.parse_steps.specs.Items as item
use Rattle.parse_steps.specs.Items.{Item, expression}
use Rattle.parse_steps.specs.Steps.{Leads}
use Rattle.parse_steps.specs.Turns.{stays, takes, ending_turn, last_turn, return_turn}
use Rattle.expression_parser.specs.declared.fault.Fault.{Fault}
use Rattle.expression_parser.specs.declared.fault.Fault.TheVariants as fault
use Rattle.expression_parser.specs.Reading.{Fails}
use Rattle.luau_parser.specs.Statements.{may_end}
use Rattle.expression_parser.proofs.Leading.{then_leads, then_fails, staying, taking, stuck_here}
use Rattle.expression_parser.proofs.SameTurns.{same_fails}
use Rattle.expression_parser.proofs.WordTurns.{at_word, no_word}

-- ---- what a token begins as the first of a statement

pub ends_of_opening : (t : Option TokenKind) → opening t ≡ opens.Ends → ends_block t ≡ true
ends_of_opening None h = refl
ends_of_opening (Some token.End) h = refl
ends_of_opening (Some token.Else) h = refl
ends_of_opening (Some token.ElseIf) h = refl
ends_of_opening (Some token.Until) h = refl
ends_of_opening _ h = absurd cc

pub return_of_opening : (t : Option TokenKind) → opening t ≡ opens.Return → t ≡ Some token.Return
return_of_opening (Some token.Return) h = refl
return_of_opening _ h = absurd cc

pub break_of_opening : (t : Option TokenKind) → opening t ≡ opens.Break → t ≡ Some token.Break
break_of_opening (Some token.Break) h = refl
break_of_opening _ h = absurd cc

pub name_of_opening : (t : Option TokenKind) (x : StrId) → opening t ≡ opens.Name x → t ≡ Some (token.Name x)
name_of_opening (Some (token.Name y)) x h = cc
name_of_opening _ x h = absurd cc

-- ---- a `;` or none

-- behind a statement
pub stat_ends : (ts : List Token) {i j : ℕ} (v : ℕ) (k : List Item) → Optional ts token.Semicolon i j
    → Leads ts i v (item.stat_end ∷ k) j v (item.block ∷ k)
stat_ends ts v k (taken i h) =
    taking (at_word ts i word.Semicolon (takes 0 v (item.block ∷ k)) (stays v (item.block ∷ k)) h) (omega arith) tt
stat_ends ts v k (absent i h) = staying (no_word ts i word.Semicolon (takes 0 v (item.block ∷ k)) (stays v (item.block ∷ k)) h)

-- where a block ends
pub block_ends : (ts : List Token) (i v : ℕ) (k : List Item) → ends_block (kind_at ts i) ≡ true → Leads ts i v (item.block_end ∷ k) i v k
block_ends ts i v k e = staying (ap (λ (b : Bool). ending_turn b v k) e)

-- behind a last statement
last_semicolon : (ts : List Token) (i v : ℕ) (k : List Item) → Has ts i token.Semicolon
    → Leads ts i v (item.last_end ∷ k) (i + 1) v (item.block_end ∷ k)
last_semicolon ts i v k h =
    taking (at_word ts i word.Semicolon (takes 0 v (item.block_end ∷ k)) (ending_turn (ends_block (kind_at ts i)) v k) h) (omega arith) tt

pub last_ends : (ts : List Token) {i j : ℕ} (v : ℕ) (k : List Item) → Optional ts token.Semicolon i j → ends_block (kind_at ts j) ≡ true
    → Leads ts i v (item.last_end ∷ k) j v k
last_ends ts v k (taken i h) e = then_leads (last_semicolon ts i v k h) (block_ends ts (i + 1) v k e)
last_ends ts v k (absent i h) e =
    staying (no_word ts i word.Semicolon (takes 0 v (item.block_end ∷ k)) (ending_turn (ends_block (kind_at ts i)) v k) h ∙ ap
    (λ (b : Bool). ending_turn b v k) e)

pub last_goes_on : (ts : List Token) {i j : ℕ} (v : ℕ) (k : List Item) → Optional ts token.Semicolon i j → ends_block (kind_at ts j) ≡ false
    → Fails ts i v (item.last_end ∷ k) (fault.Unexpected j)
last_goes_on ts v k (taken i h) e =
    then_fails (last_semicolon ts i v k h) (fault.Unexpected (i + 1))
    (stuck_here (ap (λ (b : Bool). ending_turn b v k) e) (λ clash. absurd cc))
last_goes_on ts v k (absent i h) e =
    stuck_here (no_word ts i word.Semicolon (takes 0 v (item.block_end ∷ k)) (ending_turn (ends_block (kind_at ts i)) v k) h ∙ ap
    (λ (b : Bool). ending_turn b v k) e) (λ clash. absurd cc)

-- what follows a last statement stands there
pub over : (ts : List Token) {i j : ℕ} → Optional ts token.Semicolon i j → ends_block (kind_at ts j) ≡ true → ends_last ts i ≡ true
over ts (taken i h) e = ap (λ (o : Option TokenKind). ends_block o || (is_semicolon o && ends_block (kind_at ts (i + 1)))) h ∙ e
over ts (absent i h) e = ap (λ (b : Bool). b || (is_semicolon (kind_at ts i) && ends_block (kind_at ts (i + 1)))) e

-- ---- `return`

bare_turn : (t : Option TokenKind) (v : ℕ) (k : List Item) → may_end t ≡ true → return_turn (ends_block t) t v k ≡ last_turn t v k
bare_turn None v k h = refl
bare_turn (Some token.End) v k h = refl
bare_turn (Some token.Else) v k h = refl
bare_turn (Some token.ElseIf) v k h = refl
bare_turn (Some token.Until) v k h = refl
bare_turn (Some token.Semicolon) v k h = refl
bare_turn _ v k h = absurd (true≢false (sym h))

pub bare_ends : (ts : List Token) {i j : ℕ} (v : ℕ) (k : List Item) → Optional ts token.Semicolon i j → ends_block (kind_at ts j) ≡ true
    → Leads ts i v (item.return_list ∷ k) j v k
bare_ends ts v k (taken i h) e =
    then_leads (taking (ap (λ (o : Option TokenKind). return_turn (ends_block o) o v k) h) (omega arith) tt) (block_ends ts (i + 1) v k e)
bare_ends ts v k (absent i h) e = staying (ap (λ (b : Bool). return_turn b (kind_at ts i) v k) e)

pub bare_fails : (ts : List Token) (i v : ℕ) (k : List Item) → may_end (kind_at ts i) ≡ true → (f : Fault)
    → Fails ts i v (item.last_end ∷ k) f → Fails ts i v (item.return_list ∷ k) f
bare_fails ts i v k h f r = same_fails ts i v item.last_end k item.return_list k (bare_turn (kind_at ts i) v k h) refl refl f r

values_turn : (t : Option TokenKind) (v : ℕ) (k : List Item) → may_end t ≡ false
    → return_turn (ends_block t) t v k ≡ stays v (expression ∷ item.list_more ∷ item.last_end ∷ k)
values_turn None v k h = absurd (true≢false h)
values_turn (Some token.End) v k h = absurd (true≢false h)
values_turn (Some token.Else) v k h = absurd (true≢false h)
values_turn (Some token.ElseIf) v k h = absurd (true≢false h)
values_turn (Some token.Until) v k h = absurd (true≢false h)
values_turn (Some token.Semicolon) v k h = absurd (true≢false h)
values_turn _ v k h = refl

pub to_values : (ts : List Token) (i v : ℕ) (k : List Item) → may_end (kind_at ts i) ≡ false
    → Leads ts i v (item.return_list ∷ k) i v (expression ∷ item.list_more ∷ item.last_end ∷ k)
to_values ts i v k h = staying (values_turn (kind_at ts i) v k h)

-- where neither an end of a block nor a `;` stands, nothing follows a last statement
no_last : (a : Bool) (t u : Option TokenKind) → a && may_end t ≡ false → a && (ends_block t || (is_semicolon t && ends_block u)) ≡ false
no_last false t u h = refl
no_last true None u h = absurd (true≢false h)
no_last true (Some token.End) u h = absurd (true≢false h)
no_last true (Some token.Else) u h = absurd (true≢false h)
no_last true (Some token.ElseIf) u h = absurd (true≢false h)
no_last true (Some token.Until) u h = absurd (true≢false h)
no_last true (Some token.Semicolon) u h = absurd (true≢false h)
no_last true _ u h = refl

pub not_over : (ts : List Token) (i : ℕ) (a : Bool) → a && may_end (kind_at ts i) ≡ false → a && ends_last ts i ≡ false
not_over ts i a h = no_last a (kind_at ts i) (kind_at ts (i + 1)) h
