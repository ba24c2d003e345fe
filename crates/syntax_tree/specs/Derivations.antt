-- The tree of a token list, and that it is the only one.
use Rattle.std.specs.Prelude.{◌≡◌, ℕ, List, [], true, None}
use Rattle.syntax_tree.specs.declared.token.Token.{Token}
use Rattle.syntax_tree.specs.declared.tree.FuncBody.{FuncBody, roll-FuncBody}
use Rattle.syntax_tree.specs.declared.tree.Stat.{Stat}
use Rattle.syntax_tree.specs.declared.tree.Tree.{Tree}
use Rattle.syntax_tree.specs.Places.{kind_at}
use Rattle.syntax_tree.specs.Grammar.{IsBlock}
use Rattle.syntax_tree.specs.Numbers.{numbered}
use Rattle.syntax_tree.specs.Proper.{IsProper}

-- the main function: its place is 0 and its line 1, and it takes any arguments
abbrev pub main_function : List Stat → FuncBody
main_function block = roll-FuncBody (record { id = 0; at = 0; line = 1; params = []; vararg = true; body = block })

-- chunk = block: a block goes from the first token to behind the last. At most n brackets of each type are open at once
pub record IsChunk (ts : List Token) (n : ℕ) (block : List Stat) : Type 0 where
  pub stop : ℕ
  pub derived : IsBlock ts n 0 block stop
  pub whole : kind_at ts stop ≡ None

pub record Derives (ts : List Token) (tree : Tree) : Type 0 where
  pub brackets : ℕ
  pub block : List Stat
  pub derived : IsChunk ts brackets block
  pub numbers : tree ≡ numbered (main_function block)

-- a token list has at most one tree
abbrev pub TreesAreOne : Type 0
TreesAreOne = (ts : List Token) (tree other : Tree) → Derives ts tree → Derives ts other → tree ≡ other

-- each tree that derives is proper
abbrev pub TreesAreProper : Type 0
TreesAreProper = (ts : List Token) (tree : Tree) → Derives ts tree → IsProper tree
