-- Reading by turns.
--
-- `Runs ts n b Fine i v k j w l`: from place i with the stack k, where what was read last nests v deep, turns lead to place j with the
-- stack l and the nest w. At most n brackets of a type are open at once, at most b nodes are around each other, and where arguments open
-- the place is fine.
use Rattle.std.specs.Prelude.{◌≡◌, ◌≢◌, ℕ, ◌+◌, ◌<◌, ◌≤◌, Bool, true, false, List, [], ◌∷◌, None}
use Rattle.syntax_tree.specs.declared.token.Token.{Token}
use Rattle.syntax_tree.specs.Calls.{OpensLate}
use Rattle.syntax_tree.specs.Limits.{most_nested}
use Rattle.syntax_tree.specs.Places.{kind_at}
use Rattle.syntax_tree.specs.Types.{IsType}
use Rattle.type_skip.specs.Reading as types
use Rattle.parse_steps.specs.Items.{Item, suffixes, arguments, a_type}
use Rattle.parse_steps.specs.Turns.{turn, stops, stays, takes}

-- the items by which arguments open
abbrev pub asks : Item → Bool
asks (suffixes c u) = true
asks arguments = true
asks _ = false

-- where this item opens arguments at this place, the place is fine
abbrev pub Allowed : (Fine : ℕ → Type 0) → ℕ → Item → Type 0
Allowed Fine i (suffixes c u) = Fine i
Allowed Fine i arguments = Fine i
Allowed Fine i _ = Unit {0}

pub data Runs (ts : List Token) (n b : ℕ) (Fine : ℕ → Type 0) : (i v : ℕ) (k : List Item) (j w : ℕ) (l : List Item) → Type 0 where
  here : (i v : ℕ) (k : List Item) → Runs ts n b Fine i v k i v k
  stay : (i v u j w : ℕ) (x : Item) (k more l : List Item) → turn (kind_at ts i) v x k ≡ stays u more → Runs ts n b Fine i u more j w l → Runs ts n b Fine i v (x ∷ k) j w l
  take : (i v u j w reach : ℕ) (x : Item) (k more l : List Item) → turn (kind_at ts i) v x k ≡ takes reach u more → reach ≤ b → Allowed Fine i x → Runs ts n b Fine (i + 1) u more j w l → Runs ts n b Fine i v (x ∷ k) j w l
  pass : (i v h j w : ℕ) (k l : List Item) → IsType ts n i h → Runs ts n b Fine h v k j w l → Runs ts n b Fine i v (a_type ∷ k) j w l

-- so many nodes may be around each other, and so many brackets of a type open at once
abbrev pub most : ℕ
most = most_nested

-- no `(` on a later line than the token before it stands there
abbrev pub InTime : List Token → ℕ → Type 0
InTime ts i = (p : ℕ) → i ≡ p + 1 → OpensLate ts p → ⊥

abbrev pub IsLatePlace : List Token → ℕ → Type 0
IsLatePlace ts i = (p : ℕ) × (i ≡ p + 1) × OpensLate ts p

-- turns within all limits
abbrev pub Leads : List Token → (i v : ℕ) (k : List Item) (j w : ℕ) (l : List Item) → Type 0
Leads ts = Runs ts most most (InTime ts)

-- ---- where no turn follows

-- nothing goes on with the token at place k
pub data IsStuck (ts : List Token) : (i v : ℕ) (k : List Item) (place : ℕ) → Type 0 where
  no_turn : (i v : ℕ) (x : Item) (k : List Item) → turn (kind_at ts i) v x k ≡ stops → x ≢ a_type → IsStuck ts i v (x ∷ k) i
  no_type : (i v p : ℕ) (k : List Item) → types.IsStuck IsType ts most i p → IsStuck ts i v (a_type ∷ k) p
  left_over : (i v : ℕ) → kind_at ts i ≢ None → IsStuck ts i v [] i

-- the token at place k opens a node or a bracket too many
pub data IsDeep (ts : List Token) : (i v : ℕ) (k : List Item) (place : ℕ) → Type 0 where
  deep_node : (i v reach u : ℕ) (x : Item) (k more : List Item) → turn (kind_at ts i) v x k ≡ takes reach u more → most < reach → IsDeep ts i v (x ∷ k) i
  deep_type : (i v p : ℕ) (k : List Item) → types.IsDeep IsType ts most i p → IsDeep ts i v (a_type ∷ k) p

-- the token at place i, a `(` on a later line than the token before it, opens arguments
pub record IsLate (ts : List Token) (i v : ℕ) (k : List Item) : Type 0 where
  pub before : ℕ
  pub place : i ≡ before + 1
  pub late : OpensLate ts before
  pub item : Item
  pub rest : List Item
  pub stack : k ≡ item ∷ rest
  pub opens : asks item ≡ true

-- turns lead to such a place
pub record Reaches (ts : List Token) (i v : ℕ) (k : List Item) (End : (j w : ℕ) (l : List Item) → Type 0) : Type 0 where
  pub at : ℕ
  pub nest : ℕ
  pub todo : List Item
  pub run : Leads ts i v k at nest todo
  pub ends : End at nest todo
