-- Which tokens have a tree that is not too deep and has no ambiguous call, and why and where others are refused.
use Rattle.std.specs.Prelude.{◌≡◌, ℕ, ◌+◌, ◌<◌, ◌≤◌, List, length, Some, ◌⊎◌}
use Rattle.syntax_tree.specs.declared.fault.Cause.{Cause}
use Rattle.syntax_tree.specs.declared.fault.Cause.TheVariants as cause
use Rattle.syntax_tree.specs.declared.fault.Refusal.{Refusal}
use Rattle.syntax_tree.specs.declared.token.Token.{Token}
use Rattle.syntax_tree.specs.declared.tree.Stat.{Stat}
use Rattle.syntax_tree.specs.declared.tree.Tree.{Tree}
use Rattle.syntax_tree.specs.Calls.{IsLateCall, Ambiguous}
use Rattle.syntax_tree.specs.Derivations.{IsChunk, main_function, Derives}
use Rattle.syntax_tree.specs.Nest.{nest}
use Rattle.syntax_tree.specs.Numbers.{numbered}
use Rattle.syntax_tree.specs.Places.{offset_at, end_of, BeginsAs}
use Rattle.syntax_tree.specs.Openings.{openings}
use Rattle.syntax_tree.specs.Limits.{most_nested}

-- a tree that derives and does not nest too deep, in whose types not too many brackets are open at once
pub record IsShallow (ts : List Token) (tree : Tree) : Type 0 where
  pub block : List Stat
  pub derived : IsChunk ts most_nested block
  pub numbers : tree ≡ numbered (main_function block)
  pub nests : nest tree ≤ most_nested

-- no call is ambiguous
abbrev pub HasClearCalls : List Token → Type 0
HasClearCalls ts = (i : ℕ) → IsLateCall ts i → ⊥

abbrev pub IsParsed : List Token → Tree → Type 0
IsParsed ts tree = IsShallow ts tree × HasClearCalls ts

-- No tokens that begin with those up to and including token k have a tree, and it is the first such token: those before it go on to a
-- tree.
pub record IsFirstWrong (ts : List Token) (k : ℕ) : Type 0 where
  pub none : (us : List Token) (tree : Tree) → BeginsAs ts (k + 1) us → Derives us tree → ⊥
  pub before : (us : List Token) × (tree : Tree) × BeginsAs ts k us × Derives us tree

-- No tree derives, but the tokens go on to one.
pub record EndsEarly (ts : List Token) : Type 0 where
  pub none : (tree : Tree) → Derives ts tree → ⊥
  pub before : (us : List Token) × (tree : Tree) × BeginsAs ts (length ts) us × Derives us tree

-- with the offset of the token, or the end of the last one
abbrev pub IsUnexpected : List Token → (at : ℕ) → Type 0
IsUnexpected ts at = ((k : ℕ) × (offset_at ts k ≡ Some at) × IsFirstWrong ts k) ⊎ (EndsEarly ts × (at ≡ end_of ts))

-- More opening tokens than may nest stand up to this one, and no tokens that begin with those up to and including it have a tree that is
-- not too deep.
pub record IsTooDeep (ts : List Token) (at : ℕ) : Type 0 where
  pub place : ℕ
  pub offset : offset_at ts place ≡ Some at
  pub many : most_nested < openings ts (place + 1)
  pub none : (us : List Token) (tree : Tree) → BeginsAs ts (place + 1) us → IsShallow us tree → ⊥

-- why tokens are refused, and where
abbrev pub IsRefusedFor : List Token → Cause → (at : ℕ) → Type 0
IsRefusedFor ts cause.Unexpected at = IsUnexpected ts at
IsRefusedFor ts cause.TooDeep at = IsTooDeep ts at
IsRefusedFor ts cause.AmbiguousCall at = Ambiguous ts at
IsRefusedFor ts _ at = ⊥

abbrev pub HasRefusal : List Token → Refusal → Type 0
HasRefusal ts r = IsRefusedFor ts r.cause r.at
