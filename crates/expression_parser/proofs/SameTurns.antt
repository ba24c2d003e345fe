-- Turns that are known: two states where the token does the same, and turns taken off the front of a run.
use Rattle.std.proofs.Common.{◌≡◌, ◌≢◌, ◌≤◌, ◌<◌, ◌+◌, ℕ, Bool, true, false, List, [], ◌∷◌, refl, sym, ap, ◌∙◌, arith, Option, Some, None, length, slice_get, option_map, true≢false, if◌then◌else◌}
use Rattle.std.proofs.lemmas.Option.{slice_get_within}
use Rattle.syntax_tree.specs.declared.token.Token.{Token}
use Rattle.syntax_tree.specs.declared.token.TokenKind.{TokenKind}
use Rattle.syntax_tree.specs.Places.{kind_at, kind_of, Has}
use Rattle.type_skip.specs.declared.words.Word.{Word}
use Rattle.type_skip.specs.Words.{is_word}
use Rattle.parse_steps.specs.Items.{Item, a_type, suffixes, arguments}
use Rattle.parse_steps.specs.Turns.{Turn, turn, stays, takes, word_or}
use Rattle.parse_steps.specs.Steps.{here, stay, take, pass, most, InTime, Allowed, asks, Leads, Reaches, IsStuck, IsDeep, IsLate, no_turn, no_type, deep_node, deep_type}
use Rattle.parse_steps.proofs.Together.{form, nest_of, todo_of, begins_at}
use Rattle.expression_parser.specs.declared.fault.Fault.{Fault}
use Rattle.expression_parser.specs.declared.fault.Fault.TheVariants as fault
use Rattle.expression_parser.specs.Reading.{Fails}

-- ---- words

pub word_taken : (w : Word) (t : Option TokenKind) (inside other : Turn) → is_word w t ≡ true → word_or w t inside other ≡ inside
word_taken w t inside other stands = ap (λ (b : Bool). if b then inside else other) stands

pub word_missing : (w : Word) (t : Option TokenKind) (inside other : Turn) → is_word w t ≡ false → word_or w t inside other ≡ other
word_missing w t inside other stands = ap (λ (b : Bool). if b then inside else other) stands

abbrev presence : Option TokenKind → ℕ
presence None = 0
presence (Some kind) = 1

-- where a token stands, there is a place
pub has_within : (ts : List Token) (i : ℕ) (kind : TokenKind) → Has ts i kind → i < length ts
has_within ts i kind stands = decide (slice_get ts i) refl stands
  where
    decide : (o : Option Token) → slice_get ts i ≡ o → option_map kind_of o ≡ Some kind → i < length ts
    decide (Some t) e h = slice_get_within ts i t e
    decide None e h = absurd (omega (arith, ap presence h))

-- ---- items whose turn depends on one token alone, and opens no arguments

abbrev pub is_plain : Item → Bool
is_plain a_type = false
is_plain (suffixes c u) = false
is_plain arguments = false
is_plain _ = true

plain_allowed : (ts : List Token) (i : ℕ) (x : Item) → is_plain x ≡ true → Allowed (InTime ts) i x
plain_allowed ts i (suffixes c u) e = absurd (true≢false (sym e))
plain_allowed ts i arguments e = absurd (true≢false (sym e))
plain_allowed ts i _ e = tt

plain_no_type : (x : Item) → is_plain x ≡ true → x ≢ a_type
plain_no_type x e = λ d. true≢false (sym e ∙ ap is_plain d)

plain_silent : (x : Item) → is_plain x ≡ true → asks x ≡ true → ⊥
plain_silent (suffixes c u) e d = true≢false (sym e)
plain_silent arguments e d = true≢false (sym e)
plain_silent _ e d = true≢false (sym d)

-- ---- two states where the token does the same

pub same_leads : (ts : List Token) {i v j w : ℕ} {x : Item} (y : Item) {k : List Item} (m : List Item) {l : List Item}
    → turn (kind_at ts i) v y m ≡ turn (kind_at ts i) v x k → is_plain x ≡ true → is_plain y ≡ true → i < j → Leads ts i v (x ∷ k) j w l
    → Leads ts i v (y ∷ m) j w l
same_leads ts y m e p q onward (here _ _ _) = absurd (omega (arith, onward))
same_leads ts y m e p q onward (stay i v u j w x k more l d rest) = stay i v u j w y m more l (e ∙ d) rest
same_leads ts y m e p q onward (take i v u j w r x k more l d le fine rest) = take i v u j w r y m more l (e ∙ d) le
    (plain_allowed ts i y q) rest
same_leads ts y m e p q onward (pass _ _ _ _ _ _ _ t rest) = absurd (true≢false (sym p))

-- what holds where nothing follows, holds in the other state too
same_end : {ts : List Token} {i v j w : ℕ} {x y : Item} {k m l : List Item} (End : (j w : ℕ) (l : List Item) → Type 0)
    → turn (kind_at ts i) v y m ≡ turn (kind_at ts i) v x k → is_plain x ≡ true → is_plain y ≡ true → (End i v (x ∷ k) → End i v (y ∷ m))
    → Leads ts i v (x ∷ k) j w l → End j w l → Reaches ts i v (y ∷ m) End
same_end End e p q move (here _ _ _) ends = record { at = _; nest = _; todo = _; run = here _ _ _; ends = move ends }
same_end {y = y} {m = m} End e p q move (stay i v u j w x k more l d rest) ends = record
    { at = j; nest = w; todo = l; run = stay i v u j w y m more l (e ∙ d) rest; ends = ends }
same_end {ts = ts} {y = y} {m = m} End e p q move (take i v u j w r x k more l d le fine rest) ends = record
    { at = j; nest = w; todo = l; run = take i v u j w r y m more l (e ∙ d) le (plain_allowed ts i y q) rest; ends = ends }
same_end End e p q move (pass _ _ _ _ _ _ _ t rest) ends = absurd (true≢false (sym p))

same_stuck : {ts : List Token} {i v g : ℕ} {x y : Item} {k m : List Item} → turn (kind_at ts i) v y m ≡ turn (kind_at ts i) v x k
    → is_plain x ≡ true → is_plain y ≡ true → IsStuck ts i v (x ∷ k) g → IsStuck ts i v (y ∷ m) g
same_stuck {y = y} {m = m} e p q (no_turn i v x k d other) = no_turn i v y m (e ∙ d) (plain_no_type y q)
same_stuck e p q (no_type _ _ _ _ t) = absurd (true≢false (sym p))

same_deep : {ts : List Token} {i v g : ℕ} {x y : Item} {k m : List Item} → turn (kind_at ts i) v y m ≡ turn (kind_at ts i) v x k
    → is_plain x ≡ true → is_plain y ≡ true → IsDeep ts i v (x ∷ k) g → IsDeep ts i v (y ∷ m) g
same_deep {y = y} {m = m} e p q (deep_node i v r u x k more d less) = deep_node i v r u y m more (e ∙ d) less
same_deep e p q (deep_type _ _ _ _ t) = absurd (true≢false (sym p))

abbrev first_of : Item → List Item → Item
first_of x [] = x
first_of x (y ∷ k) = y

not_late : {ts : List Token} {i v : ℕ} {x : Item} {k : List Item} → is_plain x ≡ true → IsLate ts i v (x ∷ k) → ⊥
not_late {x = x} p late = plain_silent x p (ap (λ (l : List Item). asks (first_of x l)) late.stack ∙ late.opens)

pub same_fails : (ts : List Token) (i v : ℕ) (x : Item) (k : List Item) (y : Item) (m : List Item)
    → turn (kind_at ts i) v y m ≡ turn (kind_at ts i) v x k → is_plain x ≡ true → is_plain y ≡ true → (f : Fault) → Fails ts i v (x ∷ k) f
    → Fails ts i v (y ∷ m) f
same_fails ts i v x k y m e p q (fault.Unexpected g) r = same_end (λ j w l. IsStuck ts j w l g) e p q (same_stuck e p q) r.run r.ends
same_fails ts i v x k y m e p q (fault.TooDeep g) r = same_end (λ j w l. IsDeep ts j w l g) e p q (same_deep e p q) r.run r.ends
same_fails ts i v x k y m e p q (fault.Late g) r = same_end (λ j w l. (j ≡ g) × IsLate ts j w l) e p q (λ h. absurd (not_late p h.1)) r.run
    r.ends
same_fails ts i v x k y m e p q fault.OutOfMemory r = tt

-- ---- turns taken off the front

-- behind a turn that is known
pub peel_stay : {ts : List Token} {i v u j w : ℕ} {x : Item} {k more l : List Item} → turn (kind_at ts i) v x k ≡ stays u more → i < j
    → Leads ts i v (x ∷ k) j w l → Leads ts i u more j w l
peel_stay e onward (here _ _ _) = absurd (omega (arith, onward))
peel_stay e onward (stay _ _ _ _ _ _ _ _ _ d rest) = begins_at refl (ap nest_of (sym d ∙ e)) (ap todo_of (sym d ∙ e)) rest
peel_stay e onward (take _ _ _ _ _ _ _ _ _ _ d le fine rest) = absurd (omega (arith, ap form (sym d ∙ e)))
peel_stay e onward (pass _ _ _ _ _ _ _ t rest) = absurd (omega (arith, ap form e))

pub peel_take : {ts : List Token} {i v u r j w : ℕ} {x : Item} {k more l : List Item} → turn (kind_at ts i) v x k ≡ takes r u more → i < j
    → Leads ts i v (x ∷ k) j w l → Leads ts (i + 1) u more j w l
peel_take e onward (here _ _ _) = absurd (omega (arith, onward))
peel_take e onward (stay _ _ _ _ _ _ _ _ _ d rest) = absurd (omega (arith, ap form (sym d ∙ e)))
peel_take e onward (take _ _ _ _ _ _ _ _ _ _ d le fine rest) = begins_at refl (ap nest_of (sym d ∙ e)) (ap todo_of (sym d ∙ e)) rest
peel_take e onward (pass _ _ _ _ _ _ _ t rest) = absurd (omega (arith, ap form e))

-- a run to a state where something fails goes on behind a turn that is known, since nothing fails before it
stay_end : {ts : List Token} {i v u j w : ℕ} {x : Item} {k more l : List Item} (End : (j w : ℕ) (l : List Item) → Type 0)
    → turn (kind_at ts i) v x k ≡ stays u more → (End i v (x ∷ k) → ⊥) → Leads ts i v (x ∷ k) j w l → End j w l → Reaches ts i u more End
stay_end End e never (here _ _ _) ends = absurd (never ends)
stay_end End e never (stay _ _ _ j w _ _ _ l d rest) ends = record
    { at = j; nest = w; todo = l; run = begins_at refl (ap nest_of (sym d ∙ e)) (ap todo_of (sym d ∙ e)) rest; ends = ends }
stay_end End e never (take _ _ _ _ _ _ _ _ _ _ d le fine rest) ends = absurd (omega (arith, ap form (sym d ∙ e)))
stay_end End e never (pass _ _ _ _ _ _ _ t rest) ends = absurd (omega (arith, ap form e))

take_end : {ts : List Token} {i v u r j w : ℕ} {x : Item} {k more l : List Item} (End : (j w : ℕ) (l : List Item) → Type 0)
    → turn (kind_at ts i) v x k ≡ takes r u more → (End i v (x ∷ k) → ⊥) → Leads ts i v (x ∷ k) j w l → End j w l
    → Reaches ts (i + 1) u more End
take_end End e never (here _ _ _) ends = absurd (never ends)
take_end End e never (stay _ _ _ _ _ _ _ _ _ d rest) ends = absurd (omega (arith, ap form (sym d ∙ e)))
take_end End e never (take _ _ _ j w _ _ _ _ l d le fine rest) ends = record
    { at = j; nest = w; todo = l; run = begins_at refl (ap nest_of (sym d ∙ e)) (ap todo_of (sym d ∙ e)) rest; ends = ends }
take_end End e never (pass _ _ _ _ _ _ _ t rest) ends = absurd (omega (arith, ap form e))

stay_not_stuck : {ts : List Token} {i v u g : ℕ} {x : Item} {k more : List Item} → turn (kind_at ts i) v x k ≡ stays u more
    → IsStuck ts i v (x ∷ k) g → ⊥
stay_not_stuck e (no_turn _ _ _ _ d other) = omega (arith, ap form (sym d ∙ e))
stay_not_stuck e (no_type _ _ _ _ t) = omega (arith, ap form e)

stay_not_deep : {ts : List Token} {i v u g : ℕ} {x : Item} {k more : List Item} → turn (kind_at ts i) v x k ≡ stays u more
    → IsDeep ts i v (x ∷ k) g → ⊥
stay_not_deep e (deep_node _ _ _ _ _ _ _ d less) = omega (arith, ap form (sym d ∙ e))
stay_not_deep e (deep_type _ _ _ _ t) = omega (arith, ap form e)

take_not_stuck : {ts : List Token} {i v u r g : ℕ} {x : Item} {k more : List Item} → turn (kind_at ts i) v x k ≡ takes r u more
    → IsStuck ts i v (x ∷ k) g → ⊥
take_not_stuck e (no_turn _ _ _ _ d other) = omega (arith, ap form (sym d ∙ e))
take_not_stuck e (no_type _ _ _ _ t) = omega (arith, ap form e)

abbrev reach_of : Turn → ℕ
reach_of (takes r u more) = r
reach_of _ = 0

take_not_deep : {ts : List Token} {i v u r g : ℕ} {x : Item} {k more : List Item} → turn (kind_at ts i) v x k ≡ takes r u more → r ≤ most
    → IsDeep ts i v (x ∷ k) g → ⊥
take_not_deep e le (deep_node _ _ _ _ _ _ _ d less) = omega (arith, ap reach_of (sym d ∙ e), le, less)
take_not_deep e le (deep_type _ _ _ _ t) = omega (arith, ap form e)

pub peel_stay_fails : (ts : List Token) (i v : ℕ) (x : Item) (k : List Item) (u : ℕ) (more : List Item)
    → turn (kind_at ts i) v x k ≡ stays u more → is_plain x ≡ true → (f : Fault) → Fails ts i v (x ∷ k) f → Fails ts i u more f
peel_stay_fails ts i v x k u more e p (fault.Unexpected g) r = stay_end (λ j w l. IsStuck ts j w l g) e (stay_not_stuck e) r.run r.ends
peel_stay_fails ts i v x k u more e p (fault.TooDeep g) r = stay_end (λ j w l. IsDeep ts j w l g) e (stay_not_deep e) r.run r.ends
peel_stay_fails ts i v x k u more e p (fault.Late g) r = stay_end (λ j w l. (j ≡ g) × IsLate ts j w l) e (λ h. not_late p h.1) r.run r.ends
peel_stay_fails ts i v x k u more e p fault.OutOfMemory r = tt

pub peel_take_fails : (ts : List Token) (i v : ℕ) (x : Item) (k : List Item) (r u : ℕ) (more : List Item)
    → turn (kind_at ts i) v x k ≡ takes r u more → r ≤ most → is_plain x ≡ true → (f : Fault) → Fails ts i v (x ∷ k) f
    → Fails ts (i + 1) u more f
peel_take_fails ts i v x k reach u more e le p (fault.Unexpected g) r = take_end (λ j w l. IsStuck ts j w l g) e (take_not_stuck e) r.run
    r.ends
peel_take_fails ts i v x k reach u more e le p (fault.TooDeep g) r = take_end (λ j w l. IsDeep ts j w l g) e (take_not_deep e le) r.run
    r.ends
peel_take_fails ts i v x k reach u more e le p (fault.Late g) r = take_end (λ j w l. (j ≡ g) × IsLate ts j w l) e (λ h. not_late p h.1)
    r.run r.ends
peel_take_fails ts i v x k reach u more e le p fault.OutOfMemory r = tt
