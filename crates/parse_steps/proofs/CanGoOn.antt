-- Where turns lead, the tokens before begin a text with a tree.
use Rattle.std.proofs.Common.{◌≡◌, ℕ, zero, suc, ◌+◌, ◌<◌, ◌≤◌, max, false, IsTrue, List, [], ◌∷◌, ◌++◌, length, take, Option, ◌⊎◌, inl, inr, refl, sym, ap, ◌∙◌, subst, arith}
use Rattle.std.proofs.lemmas.Bool.{cases_lt}
use Rattle.syntax_tree.specs.declared.token.Token.{Token}
use Rattle.syntax_tree.specs.declared.token.TokenKind.{TokenKind}
use Rattle.syntax_tree.specs.declared.tree.Stat.{Stat}
use Rattle.syntax_tree.specs.Derivations.{IsChunk}
use Rattle.syntax_tree.specs.Places.{kind_at}
use Rattle.syntax_tree.specs.Types.{IsType}
use Rattle.type_skip.specs.Reading.{SameBelow}
use Rattle.type_skip.specs.Refusals.{most, IsFirstWrong, EndsEarly}
use Rattle.syntax_tree.specs.Places.{BeginsAs}
use Rattle.type_skip.proofs.Ends.{type_ends}
use Rattle.type_skip.proofs.Forward.{type_forward}
use Rattle.type_skip.proofs.GoingOn.{kind_in_front, kind_behind, of_kinds, has_within}
use Rattle.type_skip.proofs.Moved.{same_type, more_brackets}
use Rattle.parse_steps.specs.Items.{Item}
use Rattle.parse_steps.specs.Items as item
use Rattle.parse_steps.specs.Turns.{turn, stays, takes}
use Rattle.parse_steps.specs.Steps as steps
use Rattle.parse_steps.specs.Steps.{Runs}
use Rattle.parse_steps.proofs.Accepting.{Text, Accepts}
use Rattle.parse_steps.proofs.Accepting as accepting
use Rattle.parse_steps.proofs.Backward.{backward}
use Rattle.parse_steps.proofs.CanOpen.{spells}
use Rattle.parse_steps.proofs.Completing.{finish, behind_type, Sound, Spells, head_at}
use Rattle.parse_steps.proofs.Completed.{Accepting}
use Rattle.parse_steps.proofs.Completions.{completed}
use Rattle.parse_steps.proofs.SoundTurns.{Kept, kept}
use Rattle.parse_steps.proofs.TypeEnds.{type_before}
use Rattle.parse_steps.proofs.WithinText.{runs_within}

-- the whole of a text is read
abbrev Whole : Text → Type 0
Whole s = Accepting s 0 0 (item.block ∷ [])

-- the tokens before place i, and these kinds behind them, are read as a whole
record Fitting (ts : List Token) (n i : ℕ) : Type 0 where
  pub kinds : List TokenKind
  pub whole : (s : Text) → n ≤ s.brackets → SameBelow i ts s.tokens → Spells s.tokens i kinds → Whole s

-- what is known where turns have led
record Led (ts : List Token) (n i v : ℕ) (k : List Item) : Type 0 where
  pub fitting : Fitting ts n i
  pub sound : Sound k
  pub whole : (s : Text) → n ≤ s.brackets → SameBelow (i + 1) ts s.tokens → Accepting s i v k → Whole s

stayed : {s : Text} {i v : ℕ} (u : ℕ) (x : Item) (k more : List Item) → turn (kind_at s.tokens i) v x k ≡ stays u more → Accepting s i u more → Accepting s i v (x ∷ k)
stayed {i = i} {v = v} u x k more e a = record { turns = suc a.turns; run = accepting.stay a.turns i v u x k more false e a.run }

took : {s : Text} {i v : ℕ} (reach u : ℕ) (x : Item) (k more : List Item) → turn (kind_at s.tokens i) v x k ≡ takes reach u more → Accepting s (i + 1) u more → Accepting s i v (x ∷ k)
took {i = i} {v = v} reach u x k more e a = record { turns = suc a.turns; run = accepting.take a.turns i v u reach x k more false false e (λ t. inr t) a.run }

passed : {s : Text} {i v : ℕ} (h : ℕ) (k : List Item) → IsType s.tokens s.brackets i h → Accepting s h v k → Accepting s i v (item.a_type ∷ k)
passed {i = i} {v = v} h k t a = record { turns = suc a.turns; run = accepting.pass a.turns i v h k false t a.run }

-- one turn
led_stay : (ts : List Token) {n : ℕ} (i v u : ℕ) (x : Item) (k more : List Item) → turn (kind_at ts i) v x k ≡ stays u more → Led ts n i v (x ∷ k) → Led ts n i u more
led_stay ts i v u x k more e l = record {
  fitting = l.fitting;
  sound = subst Kept e (kept (kind_at ts i) v x k l.sound);
  whole = λ s le same a. l.whole s le same (stayed u x k more (ap (λ (t : Option TokenKind). turn t v x k) (same i (omega arith)) ∙ e) a);
}

led_take : (ts : List Token) {n : ℕ} (i v u reach : ℕ) (x : Item) (k more : List Item) → turn (kind_at ts i) v x k ≡ takes reach u more → Led ts n i v (x ∷ k) → Led ts n (i + 1) u more
led_take ts {n = n} i v u reach x k more e l =
    let sound : Sound more = subst Kept e (kept (kind_at ts i) v x k l.sound) in
    record {
      fitting = record { kinds = finish more; whole = λ s le same h. on s le same (completed s more sound (i + 1) h u) };
      sound = sound;
      whole = λ s le same a. on s le (λ q less. same q (omega (arith, less))) a;
    }
  where
    on : (s : Text) → n ≤ s.brackets → SameBelow (i + 1) ts s.tokens → Accepting s (i + 1) u more → Whole s
    on s le same a = l.whole s le same (took reach u x k more (ap (λ (t : Option TokenKind). turn t v x k) (same i (omega arith)) ∙ e) a)

led_pass : (ts : List Token) {n : ℕ} (i v h : ℕ) (k : List Item) → IsType ts n i h → Led ts n i v (item.a_type ∷ k) → Led ts n h v k
led_pass ts {n = n} i v h k t l = record {
  fitting = record { kinds = finish k; whole = λ s le same e. l.whole s le (λ q less. same q (omega (arith, type_forward t))) (passed h k (type_before s.brackets le t same (subst (λ (o : Option TokenKind). IsTrue (behind_type o)) (sym (head_at s.tokens h (finish k) e)) l.sound.0)) (completed s k l.sound.1 h e v)) };
  sound = l.sound.1;
  whole = λ s le same a. l.whole s le (λ q less. same q (omega (arith, type_forward t))) (passed h k (more_brackets s.tokens n s.brackets i h le (same_type ts s.tokens n i h same t)) a);
}

led_on : (ts : List Token) {n b : ℕ} {Fine : ℕ → Type 0} {i v j w : ℕ} {k l : List Item} → Runs ts n b Fine i v k j w l → Led ts n i v k → Led ts n j w l
led_on ts (steps.here i v k) d = d
led_on ts (steps.stay i v u j w x k more l e r) d = led_on ts r (led_stay ts i v u x k more e d)
led_on ts (steps.take i v u j w reach x k more l e fits fine r) d = led_on ts r (led_take ts i v u reach x k more e d)
led_on ts (steps.pass i v h j w k l t r) d = led_on ts r (led_pass ts i v h k t d)

led : {ts : List Token} {n b : ℕ} {Fine : ℕ → Type 0} {p v : ℕ} {k : List Item} → Runs ts n b Fine 0 0 (item.block ∷ []) p v k → Led ts n p v k
led {ts = ts} r = led_on ts r (record {
  fitting = record { kinds = []; whole = λ s le same h. completed s (item.block ∷ []) (refl, tt) 0 h 0 };
  sound = (refl, tt);
  whole = λ s le same a. a;
})

-- ---- texts

-- a text without a place of its own
abbrev text : (us : List Token) (n : ℕ) → Text
text us n = record { tokens = us; brackets = n; place = length us; paren = λ kind h. absurd (omega (arith, has_within us (length us) kind h)) }

-- the first k tokens begin a text with a tree
pub record GoesOn (ts : List Token) (k : ℕ) : Type 0 where
  pub tokens : List Token
  pub brackets : ℕ
  pub block : List Stat
  pub begins : BeginsAs ts k tokens
  pub derived : IsChunk tokens brackets block

taken_front : (k : ℕ) (ts vs : List Token) → k ≤ length ts → take k (take k ts ++ vs) ≡ take k ts
taken_front zero ts vs le = refl
taken_front (suc k) [] vs le = absurd (omega (arith, le))
taken_front (suc k) (t ∷ ts) vs le = ap (λ xs. t ∷ xs) (taken_front k ts vs (omega (arith, le)))

pub can_go_on : {ts : List Token} {n b : ℕ} {Fine : ℕ → Type 0} {p v : ℕ} {k : List Item} → Runs ts n b Fine 0 0 (item.block ∷ []) p v k → GoesOn ts p
can_go_on {ts = ts} {n = n} {p = p} r =
    let f = (led r).fitting in
    let le : p ≤ length ts = runs_within ts r (omega arith) in
    let vs = take p ts ++ of_kinds f.kinds in
    let a = f.whole (text vs n) (omega arith) (λ q less. kind_in_front p ts (of_kinds f.kinds) q less le) (spells vs p f.kinds (λ q j e. kind_behind p ts (of_kinds f.kinds) q j e le)) in
    let answer = backward (text vs n) a.turns 0 false a.run in
    record { tokens = vs; brackets = n; block = answer.block; begins = taken_front p ts (of_kinds f.kinds) le; derived = answer.derived }

-- ---- within a type

kind_taken : (k : ℕ) (ts : List Token) (q : ℕ) → q < k → kind_at (take k ts) q ≡ kind_at ts q
kind_taken zero ts q less = absurd (omega (arith, less))
kind_taken (suc k) [] q less = refl
kind_taken (suc k) (t ∷ ts) zero less = refl
kind_taken (suc k) (t ∷ ts) (suc q) less = kind_taken k ts q (omega (arith, less))

same_kinds : (ts us : List Token) (k : ℕ) → BeginsAs ts k us → SameBelow k ts us
same_kinds ts us k e = λ q less. sym (kind_taken k us q less) ∙ ap (λ (vs : List Token). kind_at vs q) e ∙ kind_taken k ts q less

-- fewer tokens of a beginning
less_taken : (k j : ℕ) (ts vs : List Token) → k ≤ j → j ≤ length ts → take k (take j ts ++ vs) ≡ take k ts
less_taken zero j ts vs le within = refl
less_taken (suc k) zero ts vs le within = absurd (omega (arith, le))
less_taken (suc k) (suc j) [] vs le within = absurd (omega (arith, within))
less_taken (suc k) (suc j) (t ∷ ts) vs le within = ap (λ xs. t ∷ xs) (less_taken k j ts vs (omega (arith, le)) (omega (arith, within)))

-- other tokens, the same before place q, have a type there that ends at q or behind it
in_type : {ts us : List Token} {n b m i v q to : ℕ} {Fine : ℕ → Type 0} {k : List Item} → Runs ts n b Fine 0 0 (item.block ∷ []) i v (item.a_type ∷ k) → i < q → q ≤ to → BeginsAs ts q us → IsType us m i to → GoesOn ts q
in_type {ts = ts} {us = us} {n = n} {m = m} {i = i} {v = v} {q = q} {to = to} {k = k} r less le begins t =
    let l = led r in
    let within : to ≤ length us = type_ends us t in
    let vs = take to us ++ of_kinds (finish k) in
    let below : SameBelow to us vs = λ j h. kind_in_front to us (of_kinds (finish k)) j h within in
    let same : SameBelow q ts us = same_kinds ts us q begins in
    let spelt : Spells vs to (finish k) = spells vs to (finish k) (λ j h e. kind_behind to us (of_kinds (finish k)) j h e within) in
    let over : IsTrue (behind_type (kind_at vs to)) = subst (λ (o : Option TokenKind). IsTrue (behind_type o)) (sym (head_at vs to (finish k) spelt)) l.sound.0 in
    let typed : IsType vs (max n m) i to = type_before (max n m) (omega arith) t below over in
    let s : Text = text vs (max n m) in
    let a = l.whole s (omega arith) (λ j h. below j (omega (arith, h, less, le)) ∙ same j (omega (arith, h, less))) (passed to k typed (completed s k l.sound.1 to spelt v)) in
    let answer = backward s a.turns 0 false a.run in
    record { tokens = vs; brackets = max n m; block = answer.block; begins = less_taken q to us (of_kinds (finish k)) le within ∙ begins; derived = answer.derived }

-- the tokens before the first one with which there is no type
pub can_go_on_typed : {ts : List Token} {n b i v q : ℕ} {Fine : ℕ → Type 0} {k : List Item} → Runs ts n b Fine 0 0 (item.block ∷ []) i v (item.a_type ∷ k) → IsFirstWrong ts i q → GoesOn ts q
can_go_on_typed {ts = ts} {i = i} {q = q} r wrong = by_place (cases_lt i q)
  where
    far : (us : List Token) (to : ℕ) → BeginsAs ts q us → IsType us most i to → q ≤ to
    far us to begins t = by_end (cases_lt to q)
      where
        by_end : (to < q) ⊎ (q ≤ to) → q ≤ to
        by_end (inr le) = le
        by_end (inl less) = absurd (wrong.none ts most to refl (same_type us ts most i to (λ j h. sym (same_kinds ts us q begins j (omega (arith, h, less)))) t))

    by_place : (i < q) ⊎ (q ≤ i) → GoesOn ts q
    by_place (inl less) = let found = wrong.before in in_type r less (far found.0 found.1 found.2 found.3) found.2 found.3
    by_place (inr more) = let same : i ≡ q = omega (arith, more, wrong.behind) in subst (λ (x : ℕ). GoesOn ts x) same (can_go_on r)

-- all tokens, where they end within a type
pub can_go_on_early : {ts : List Token} {n b i v : ℕ} {Fine : ℕ → Type 0} {k : List Item} → Runs ts n b Fine 0 0 (item.block ∷ []) i v (item.a_type ∷ k) → EndsEarly ts i → GoesOn ts (length ts)
can_go_on_early {ts = ts} {i = i} r early = by_place (cases_lt i (length ts))
  where
    all_taken : (ts vs : List Token) → take (length ts) (ts ++ vs) ≡ take (length ts) ts
    all_taken [] vs = refl
    all_taken (t ∷ ts) vs = ap (λ xs. t ∷ xs) (all_taken ts vs)

    within : i ≤ length ts
    within = runs_within ts r (omega arith)

    far : (us : List Token) (to : ℕ) → IsType (ts ++ us) most i to → length ts ≤ to
    far us to t = by_end (cases_lt to (length ts))
      where
        by_end : (to < length ts) ⊎ (length ts ≤ to) → length ts ≤ to
        by_end (inr le) = le
        by_end (inl less) = absurd (early.none most to (same_type (ts ++ us) ts most i to (λ j h. sym (same_kinds ts (ts ++ us) (length ts) (all_taken ts us) j (omega (arith, h, less)))) t))

    by_place : (i < length ts) ⊎ (length ts ≤ i) → GoesOn ts (length ts)
    by_place (inl less) = let found = early.before within in in_type {us = ts ++ found.0} r less (far found.0 found.1 found.2) (all_taken ts found.0) found.2
    by_place (inr more) = let same : i ≡ length ts = omega (arith, more, within) in subst (λ (x : ℕ). GoesOn ts x) same (can_go_on r)
