-- Which texts are accepted, with their tree, and why and where others are refused.
use Rattle.std.specs.Prelude.{◌≡◌, ℕ, List, []}
use Rattle.syntax_tree.specs.declared.fault.ScopeFault.{ScopeFault}
use Rattle.syntax_tree.specs.declared.fault.Refusal.{Refusal}
use Rattle.syntax_tree.specs.declared.token.Token.{Token}
use Rattle.syntax_tree.specs.declared.tree.Tree.{Tree}
use Rattle.syntax_tree.specs.Bound.{faults, IsScopeFault}
use Rattle.syntax_tree.specs.Causes.{refused, cause_of}
use Rattle.syntax_tree.specs.Parsed.{IsParsed, HasRefusal}
use Rattle.syntax_tree.specs.Spellings.{HasFault}
use Rattle.syntax_tree.specs.Tokens.{HasTokens}

-- The text spells tokens, they have a tree that is not too deep, no call of which is ambiguous, and the tree breaks no rule
-- of scopes and sizes.
pub record Accepts (bytes : List ℕ) (tree : Tree) : Type 0 where
  pub tokens : List Token
  pub spelled : HasTokens bytes tokens
  pub parsed : IsParsed tokens tree
  pub unbroken : faults tree ≡ []

-- Why a text is refused: by its first fault, by what is wrong with its tokens, or by the first rule that its tree breaks.
pub data Refuses (bytes : List ℕ) : Refusal → Type 0 where
  no_tokens : (why : Refusal) → HasFault bytes why → Refuses bytes why
  no_tree : (tokens : List Token) (why : Refusal) → HasTokens bytes tokens → HasRefusal tokens why → Refuses bytes why
  breaks_rule : (tokens : List Token) (tree : Tree) (fault : ScopeFault) → HasTokens bytes tokens → IsParsed tokens tree → IsScopeFault tree fault → Refuses bytes (refused (cause_of fault.rule) fault.at)
