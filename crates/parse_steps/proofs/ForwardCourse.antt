-- What turns keep, for one list of tokens and one of its places.
--
-- A course has a goal for each state of the machine, which holds before a turn where it holds behind it. It may also be known that
-- arguments open at the place p among what is read: then the goal holds where they open.
use Rattle.std.proofs.Common.{◌≡◌, ◌≢◌, ◌≤◌, ◌+◌, ℕ, suc, max, true, List, [], ◌∷◌, ◌++◌, Option, Some, Contains, if◌then◌else◌, refl, ap, subst, ◌∙◌, arith, ◌⊎◌, inl, inr}
use Rattle.std.proofs.lemmas.List.Elements.{Contains-append_cases, Contains-append_left, Contains-append_right}
use Rattle.byte_text.specs.declared.StrId.{StrId}
use Rattle.syntax_tree.specs.declared.token.Token.{Token}
use Rattle.syntax_tree.specs.declared.token.TokenKind.{TokenKind}
use Rattle.syntax_tree.specs.declared.token.TokenKind.TheVariants as token
use Rattle.syntax_tree.specs.Grammar.{in_target}
use Rattle.syntax_tree.specs.Places.{kind_at, Has}
use Rattle.syntax_tree.specs.Types.{IsType}
use Rattle.parse_steps.specs.declared.classes.Arguments.TheVariants as argument
use Rattle.type_skip.specs.declared.words.Word.{Word}
use Rattle.parse_steps.specs.Classes as classes
use Rattle.parse_steps.specs.Items.{Item, in_expression, expression}
use Rattle.parse_steps.specs.Items as item
use Rattle.parse_steps.specs.Steps.{asks}
use Rattle.parse_steps.specs.Turns.{Turn, turn, stops, stays, takes, word_or}
use Rattle.type_skip.specs.Words.{token_of}
use Rattle.type_skip.proofs.WordTests.{stands_there, stands_not}

pub record Course (ts : List Token) (n b p : ℕ) : Type 1 where
  pub Asked : Type 0
  pub Goal : (i v : ℕ) (k : List Item) → Type 0
  pub stay : {i v u : ℕ} {x : Item} {k more : List Item} → turn (kind_at ts i) v x k ≡ stays u more → Goal i u more → Goal i v (x ∷ k)
  pub take : {i v u reach : ℕ} {x : Item} {k more : List Item} → turn (kind_at ts i) v x k ≡ takes reach u more → reach ≤ b
      → Goal (i + 1) u more → Goal i v (x ∷ k)
  pub pass : {i v h : ℕ} {k : List Item} → IsType ts n i h → Goal h v k → Goal i v (item.a_type ∷ k)
  pub hit : {v : ℕ} {x : Item} {k : List Item} → Asked → asks x ≡ true → classes.arguments (kind_at ts p) ≢ argument.Nothing
      → Goal p v (x ∷ k)
  -- an expression that begins with a name goes on behind it
  pub behind_name : {i : ℕ} {k : List Item} (x : StrId) → Has ts i (token.Name x) → Goal i 0 (item.unary ∷ k)
      → Goal (i + 1) 0 (item.suffixes in_target in_expression ∷ item.cast ∷ item.power ∷ k)

-- ---- words

pub word_here : {t : Option TokenKind} (w : Word) (here other : Turn) → t ≡ Some (token_of w) → word_or w t here other ≡ here
word_here {t = t} w here other h = ap (λ b. if b then here else other) (stands_there w t h)

pub word_past : {t : Option TokenKind} (w : Word) (here other : Turn) → t ≢ Some (token_of w) → word_or w t here other ≡ other
word_past {t = t} w here other h = ap (λ b. if b then here else other) (stands_not w t h)

module _ {ts : List Token} {n b p : ℕ} (C : Course ts n b p) where
  -- arguments open at p among these places, or the goal G holds
  pub data Way (places : List ℕ) (G : Type 0) : Type 0 where
    among : C.Asked → Contains places p → Way places G
    past : G → Way places G

  pub after : {places : List ℕ} {G D : Type 0} → (G → D) → Way places G → Way places D
  after f (among a c) = among a c
  after f (past g) = past (f g)

  pub fork : {places left right : List ℕ} {G : Type 0} → places ≡ left ++ right → Way places G → Way left (Way right G)
  fork {left = left} {right = right} e (past g) = past (past g)
  fork {left = left} {right = right} e (among a c) = side (Contains-append_cases left right p (subst (λ xs. Contains xs p) e c))
    where
      side : {G : Type 0} → Contains left p ⊎ Contains right p → Way left (Way right G)
      side (inl h) = among a h
      side (inr h) = past (among a h)

  pub cut : (left right : List ℕ) {G : Type 0} → Way (left ++ right) G → Way left (Way right G)
  cut left right w = fork refl w

  pub join : (left right : List ℕ) {G : Type 0} → Way left (Way right G) → Way (left ++ right) G
  join left right (among a c) = among a (Contains-append_left left right p c)
  join left right (past (among a c)) = among a (Contains-append_right left right p c)
  join left right (past (past g)) = past g

  pub same : {places others : List ℕ} {G : Type 0} → places ≡ others → Way places G → Way others G
  same e (among a c) = among a (subst (λ xs. Contains xs p) e c)
  same e (past g) = past g

  no_place : Contains [] p → ⊥
  no_place c = omega (arith, c.1)

  pub empty : {places : List ℕ} {G : Type 0} → places ≡ [] → Way places G → G
  empty e (among a c) = absurd (no_place (subst (λ xs. Contains xs p) e c))
  empty e (past g) = g

  -- ---- turns

  pub at_nest : {i v w : ℕ} {k : List Item} → v ≡ w → C.Goal i v k → C.Goal i w k
  at_nest {i = i} {k = k} e g = subst (λ u. C.Goal i u k) e g

  pub at_place : {i j v : ℕ} {k : List Item} → i ≡ j → C.Goal i v k → C.Goal j v k
  at_place {v = v} {k = k} e g = subst (λ q. C.Goal q v k) e g

  pub stays_at : {i v u : ℕ} {x : Item} {k more : List Item} (t : TokenKind) → Has ts i t → turn (Some t) v x k ≡ stays u more
      → C.Goal i u more → C.Goal i v (x ∷ k)
  stays_at {v = v} {x = x} {k = k} t h e g = C.stay (ap (λ o. turn o v x k) h ∙ e) g

  pub takes_at : {i v u reach : ℕ} {x : Item} {k more : List Item} (t : TokenKind) → Has ts i t
      → turn (Some t) v x k ≡ takes reach u more → reach ≤ b → C.Goal (i + 1) u more → C.Goal i v (x ∷ k)
  takes_at {v = v} {x = x} {k = k} t h e fits g = C.take (ap (λ o. turn o v x k) h ∙ e) fits g

  -- no node opens
  pub steps_at : {i v u : ℕ} {x : Item} {k more : List Item} (t : TokenKind) → Has ts i t → turn (Some t) v x k ≡ takes 0 u more
      → C.Goal (i + 1) u more → C.Goal i v (x ∷ k)
  steps_at t h e g = takes_at t h e (omega arith) g

  pub expects_goes : {i v : ℕ} {k : List Item} (w : Word) → Has ts i (token_of w) → C.Goal (i + 1) v k → C.Goal i v (item.expects w ∷ k)
  expects_goes {v = v} {k = k} w h g = C.take (word_here w (takes 0 v k) stops h) (omega arith) g

  pub name_goes : {i v : ℕ} {k : List Item} (x : StrId) → Has ts i (token.Name x) → C.Goal (i + 1) v k → C.Goal i v (item.a_name ∷ k)
  name_goes x h g = steps_at (token.Name x) h refl g

  pub wrap_goes : {i v : ℕ} {k : List Item} → C.Goal i (suc v) k → C.Goal i v (item.wrap ∷ k)
  wrap_goes g = C.stay refl g

  pub greater_goes : {i v : ℕ} {k : List Item} (w : ℕ) → C.Goal i (max w v) k → C.Goal i v (item.greater w ∷ k)
  greater_goes w g = C.stay refl g
