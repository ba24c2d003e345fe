-- What the machine has to do with the grammar.
use Rattle.std.specs.Prelude.{◌≡◌, ℕ, ◌+◌, ◌<◌, ◌≤◌, List, [], ◌∷◌, Contains, true}
use Rattle.syntax_tree.specs.declared.token.Token.{Token}
use Rattle.syntax_tree.specs.declared.token.TokenKind.TheVariants as token
use Rattle.syntax_tree.specs.declared.tree.Stat.{Stat}
use Rattle.syntax_tree.specs.Calls.{call_places, OpensCall}
use Rattle.syntax_tree.specs.Derivations.{IsChunk, main_function}
use Rattle.syntax_tree.specs.Nest.{nest_func}
use Rattle.syntax_tree.specs.Places.{Has}
use Rattle.parse_steps.specs.Items.{Item, block}
use Rattle.syntax_tree.specs.Openings.{openings}
use Rattle.parse_steps.specs.Steps.{asks, Runs, IsDeep, most}

-- nothing is asked of a place where arguments open
abbrev pub Anywhere : ℕ → Type 0
Anywhere i = Unit {0}

-- A derivation of a script is a run, from its block to the empty stack where the text ends. The run nests as deep as the tree does.
abbrev pub TreesRun : Type 0
TreesRun = (ts : List Token) (n b : ℕ) (body : List Stat) (c : IsChunk ts n body) → nest_func (main_function body) ≤ b → Runs ts n b Anywhere 0 0 (block ∷ []) c.stop (nest_func (main_function body)) []

-- and where arguments open in the tree, that run asks for them
pub record AsksAt (ts : List Token) (n b p : ℕ) : Type 0 where
  pub nest : ℕ
  pub item : Item
  pub todo : List Item
  pub run : Runs ts n b Anywhere 0 0 (block ∷ []) p nest (item ∷ todo)
  pub opens : asks item ≡ true

abbrev pub CallsAreAsked : Type 0
CallsAreAsked = (ts : List Token) (n b p : ℕ) (body : List Stat) → IsChunk ts n body → nest_func (main_function body) ≤ b → Contains (call_places (main_function body)) p → AsksAt ts n b p

-- Where a run asks for arguments and a `(` stands, some tokens that begin as these up to there have a tree in which arguments open there.
abbrev pub CallsCanOpen : Type 0
CallsCanOpen = (ts : List Token) (n b p : ℕ) → AsksAt ts n b p → Has ts p token.OpenParen → OpensCall ts p

-- A run nests no deeper than its limit, and no deeper than the tokens that it passed can open nodes.
abbrev pub RunsAreShallow : Type 0
RunsAreShallow = (ts : List Token) (n b i v : ℕ) → Runs ts n b Anywhere 0 0 (block ∷ []) i v [] → (v ≤ b) × (v ≤ openings ts i)

-- where a node or a bracket opens that is one too many, more than the greatest number of opening tokens stand up to it
abbrev pub DepthIsCounted : Type 0
DepthIsCounted = (ts : List Token) (n b i v p : ℕ) (k : List Item) → Runs ts n b Anywhere 0 0 (block ∷ []) i v k → IsDeep ts i v k p → most < openings ts (p + 1)

-- a run from the block to the empty stack ends at one place, with one nest
abbrev pub RunsHaveOneEnd : Type 0
RunsHaveOneEnd = (ts : List Token) (n b i v j w : ℕ) → Runs ts n b Anywhere 0 0 (block ∷ []) i v [] → Runs ts n b Anywhere 0 0 (block ∷ []) j w [] → (i ≡ j) × (v ≡ w)
