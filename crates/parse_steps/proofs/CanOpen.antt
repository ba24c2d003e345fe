-- Where turns lead to an item that asks for arguments at a `(`, the tokens up to there begin a text in which arguments open at it.
use Rattle.std.proofs.Common.{IsTrue, ◌≡◌, ℕ, suc, ◌+◌, ◌≤◌, true, false, List, [], ◌∷◌, ◌++◌, length, take, Option, Some, inl, inr, refl, sym, ap, ◌∙◌, subst, arith, true≢false}
use Rattle.syntax_tree.specs.declared.token.Token.{Token}
use Rattle.syntax_tree.specs.declared.token.TokenKind.{TokenKind}
use Rattle.syntax_tree.specs.declared.token.TokenKind.TheVariants as token
use Rattle.syntax_tree.specs.Calls.{OpensCall}
use Rattle.syntax_tree.specs.Places.{kind_at, Has}
use Rattle.syntax_tree.specs.Types.{is_open_paren}
use Rattle.type_skip.specs.Reading.{SameBelow}
use Rattle.type_skip.proofs.Forward.{type_forward}
use Rattle.type_skip.proofs.GoingOn.{kind_in_front, kind_behind, of_kinds, has_within}
use Rattle.type_skip.proofs.Moved.{same_type}
use Rattle.parse_steps.specs.Items.{Item}
use Rattle.parse_steps.specs.Items as item
use Rattle.parse_steps.specs.Turns.{turn, takes}
use Rattle.parse_steps.specs.Steps as steps
use Rattle.parse_steps.specs.Steps.{Runs, asks}
use Rattle.parse_steps.proofs.Accepting.{Text, Accepts, stay, pass}
use Rattle.parse_steps.proofs.Accepting as accepting
use Rattle.parse_steps.proofs.Backward.{backward}
use Rattle.parse_steps.proofs.Completing.{finish, Sound, Spells}
use Rattle.parse_steps.proofs.Completions.{completed}
use Rattle.parse_steps.proofs.SoundTurns.{Kept, kept}

-- ---- runs

pub runs_forward : {ts : List Token} {n b : ℕ} {Fine : ℕ → Type 0} {i v j w : ℕ} {k l : List Item} → Runs ts n b Fine i v k j w l → i ≤ j
runs_forward (steps.here i v k) = omega arith
runs_forward (steps.stay i v u j w x k more l e r) = runs_forward r
runs_forward (steps.take i v u j w reach x k more l e b a r) = omega (arith, runs_forward r)
runs_forward (steps.pass i v h j w k l t r) = omega (arith, type_forward t, runs_forward r)

-- stacks stay sound
pub runs_sound : {ts : List Token} {n b : ℕ} {Fine : ℕ → Type 0} {i v j w : ℕ} {k l : List Item} → Runs ts n b Fine i v k j w l → Sound k → Sound l
runs_sound (steps.here i v k) s = s
runs_sound {ts = ts} (steps.stay i v u j w x k more l e r) s = runs_sound r (subst Kept e (kept (kind_at ts i) v x k s))
runs_sound {ts = ts} (steps.take i v u j w reach x k more l e b a r) s = runs_sound r (subst Kept e (kept (kind_at ts i) v x k s))
runs_sound (steps.pass i v h j w k l t r) s = runs_sound r s.1

-- a run that owes an answer
record Owing (s : Text) (i v : ℕ) (k : List Item) : Type 0 where
  pub turns : ℕ
  pub run : Accepts s turns i v k true

-- a run over the first tokens leads up to one over all
joined : (s : Text) (ts : List Token) {b : ℕ} {Fine : ℕ → Type 0} {i v j w : ℕ} {k l : List Item} → Runs ts s.brackets b Fine i v k j w l → SameBelow (j + 1) ts s.tokens → Owing s j w l → Owing s i v k
joined s ts (steps.here i v k) same o = o
joined s ts (steps.stay i v u j w x k more l e r) same o =
    let a = joined s ts r same o in
    record { turns = suc a.turns; run = stay a.turns i v u x k more true (ap (λ (t : Option TokenKind). turn t v x k) (same i (omega (arith, runs_forward r))) ∙ e) a.run }
joined s ts (steps.take i v u j w reach x k more l e fits fine r) same o =
    let a = joined s ts r same o in
    record { turns = suc a.turns; run = accepting.take a.turns i v u reach x k more true true (ap (λ (t : Option TokenKind). turn t v x k) (same i (omega (arith, runs_forward r))) ∙ e) (λ t. inr t) a.run }
joined s ts (steps.pass i v h j w k l t r) same o =
    let a = joined s ts r same o in
    record { turns = suc a.turns; run = pass a.turns i v h k true (same_type ts s.tokens s.brackets i h (λ q less. same q (omega (arith, runs_forward r, less))) t) a.run }

-- ---- the token `(`

-- what a `(` leads to
record Opens (v : ℕ) (x : Item) (l : List Item) : Type 0 where
  pub reach : ℕ
  pub nest : ℕ
  pub more : List Item
  pub takes_it : turn (Some token.OpenParen) v x l ≡ takes reach nest more

opens_there : (v : ℕ) (x : Item) (l : List Item) → asks x ≡ true → Opens v x l
opens_there v (item.suffixes c u) l h = record { reach = _; nest = _; more = _; takes_it = refl }
opens_there v item.arguments l h = record { reach = _; nest = _; more = _; takes_it = refl }
opens_there v _ l h = absurd (true≢false (sym h))

-- ---- the text

-- these kinds alone are behind the place
pub spells : (us : List Token) (k : ℕ) (kinds : List TokenKind) → ((p q : ℕ) → p ≡ k + q → kind_at us p ≡ kind_at (of_kinds kinds) q) → Spells us k kinds
spells us k [] there = there k 0 (omega arith)
spells us k (kind ∷ kinds) there = (there k 0 (omega arith), spells us (k + 1) kinds (λ p q e. there p (suc q) (omega (arith, e))))

pub can_open : {ts : List Token} {n b : ℕ} {Fine : ℕ → Type 0} {p v : ℕ} {x : Item} {l : List Item} → Runs ts n b Fine 0 0 (item.block ∷ []) p v (x ∷ l) → asks x ≡ true → Has ts p token.OpenParen → OpensCall ts p
can_open {ts = ts} {n = n} {p = p} {v = v} {x = x} {l = l} r asked opens =
    let o = opens_there v x l asked in
    let sound : Sound o.more = subst Kept o.takes_it (kept (Some token.OpenParen) v x l (runs_sound r (refl, tt))) in
    let le : p + 1 ≤ length ts = omega (arith, has_within ts p token.OpenParen opens) in
    let same : SameBelow (p + 1) ts (take (p + 1) ts ++ of_kinds (finish o.more)) = λ q less. kind_in_front (p + 1) ts (of_kinds (finish o.more)) q less le in
    let s : Text = record { tokens = take (p + 1) ts ++ of_kinds (finish o.more); brackets = n; place = p; paren = λ kind stands. paren_there kind (sym opens ∙ sym (same p (omega arith)) ∙ stands) } in
    let a = completed s o.more sound (p + 1) (spells s.tokens (p + 1) (finish o.more) (λ q j e. kind_behind (p + 1) ts (of_kinds (finish o.more)) q j e le)) o.nest in
    let there : Owing s p v (x ∷ l) = record { turns = suc a.turns; run = accepting.take a.turns p v o.nest o.reach x l o.more true false (ap (λ (t : Option TokenKind). turn t v x l) (same p (omega arith) ∙ opens) ∙ o.takes_it) (λ t. inl (asked, refl)) a.run } in
    let w = joined s ts r same there in
    let answer = backward s w.turns 0 true w.run in
    record { more = of_kinds (finish o.more); brackets = n; block = answer.block; derived = answer.derived; called = answer.called refl }
  where
    paren_there : (kind : TokenKind) → Some token.OpenParen ≡ Some kind → IsTrue (is_open_paren (Some kind))
    paren_there kind e = sym (ap is_open_paren e)
