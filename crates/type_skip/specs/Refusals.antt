-- What passing a type answers: where it ends, the first token with which there is no type, or the bracket that is one too
-- many.
use Rattle.std.specs.Prelude.{◌≡◌, ℕ, ◌+◌, ◌≤◌, ◌<◌, List, ◌++◌, length, Some, Result, Ok, Err, ◌⊎◌}
use Rattle.syntax_tree.specs.declared.token.Token.{Token}
use Rattle.syntax_tree.specs.Limits.{most_nested}
use Rattle.syntax_tree.specs.Places.{offset_at, end_of, BeginsAs}
use Rattle.syntax_tree.specs.Types.{IsType}
use Rattle.type_skip.specs.Brackets.{brackets}
use Rattle.type_skip.specs.declared.skipping.TypeErr.{TypeErr}
use Rattle.type_skip.specs.declared.skipping.TypeErr.TheVariants.{Unexpected, TooDeep}

-- so many brackets of a type may be open at once
abbrev pub most : ℕ
most = most_nested

-- No tokens that begin with those up to and including token k have a type at place `from`, and it is the first such
-- token: those before it go on to a type.
pub record IsFirstWrong (ts : List Token) (from k : ℕ) : Type 0 where
  pub behind : from ≤ k
  pub none : (us : List Token) (n to : ℕ) → BeginsAs ts (k + 1) us → IsType us n from to → ⊥
  pub before : (us : List Token) × (to : ℕ) × BeginsAs ts k us × IsType us most from to

-- No type stands at place `from`, but the tokens go on to one.
pub record EndsEarly (ts : List Token) (from : ℕ) : Type 0 where
  pub none : (n to : ℕ) → IsType ts n from to → ⊥
  pub before : from ≤ length ts → (us : List Token) × (to : ℕ) × IsType (ts ++ us) most from to

-- Tokens that begin with those up to and including token k have a type at place `from`, but none in which so few brackets
-- are open at once; and it is the first such token. So it is a bracket of the type, and the 201st that is open. More than
-- 200 opening brackets stand from place `from` up to it.
pub record OpensTooMany (ts : List Token) (from k : ℕ) : Type 0 where
  pub behind : from ≤ k
  pub many : brackets ts from + most < brackets ts (k + 1)
  pub none : (us : List Token) (to : ℕ) → BeginsAs ts (k + 1) us → IsType us most from to → ⊥
  pub before : (us : List Token) × (to : ℕ) × BeginsAs ts k us × IsType us most from to
  pub deeper : (us : List Token) × (n to : ℕ) × BeginsAs ts (k + 1) us × IsType us n from to

-- the refusals, with the offset of their token
abbrev pub IsUnexpected : List Token → (from offset : ℕ) → Type 0
IsUnexpected ts from offset =
    ((k : ℕ) × (offset_at ts k ≡ Some offset) × IsFirstWrong ts from k)
    ⊎ (EndsEarly ts from × (offset ≡ end_of ts))

abbrev pub IsTooDeep : List Token → (from offset : ℕ) → Type 0
IsTooDeep ts from offset = (k : ℕ) × (offset_at ts k ≡ Some offset) × OpensTooMany ts from k

abbrev pub Passes : List Token → (from : ℕ) → Result ℕ TypeErr → Type 0
Passes ts from (Ok to) = IsType ts most from to
Passes ts from (Err (Unexpected offset)) = IsUnexpected ts from offset
Passes ts from (Err (TooDeep offset)) = IsTooDeep ts from offset
