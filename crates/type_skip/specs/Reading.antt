-- What reading a part of a type finds: where the part ends, or the token at which it cannot go on.
use Rattle.std.specs.Prelude.{◌≡◌, ℕ, suc, ◌+◌, ◌<◌, ◌≤◌, Bool, true, false, List, [], ◌∷◌, length, Option, Some, None, Result, Ok, Err, IsTrue}
use Rattle.syntax_tree.specs.declared.token.Token.{Token}
use Rattle.syntax_tree.specs.declared.token.TokenKind.{TokenKind}
use Rattle.syntax_tree.specs.declared.token.TokenKind.TheVariants as token
use Rattle.syntax_tree.specs.Places.{kind_at, Has}
use Rattle.type_skip.specs.Brackets.{brackets}
use Rattle.type_skip.specs.declared.fault.Fault.{Fault}
use Rattle.type_skip.specs.declared.fault.Fault.TheVariants.{Unexpected, TooDeep}

-- the two have tokens of the same kinds before a place
abbrev pub SameBelow : ℕ → (ts us : List Token) → Type 0
SameBelow k ts us = (q : ℕ) → q < k → kind_at us q ≡ kind_at ts q

-- what goes on with no type: the end, a bracket that closes, or the end of an interpolated string
abbrev pub ends_type : Option TokenKind → Bool
ends_type None = true
ends_type (Some token.CloseParen) = true
ends_type (Some token.CloseBracket) = true
ends_type (Some token.CloseBrace) = true
ends_type (Some token.Greater) = true
ends_type (Some (token.InterpEnd x)) = true
ends_type (Some _) = false

-- these kinds stand from one place to another, where what goes on with no type follows
abbrev pub Writes : List Token → (from : ℕ) → List TokenKind → (to : ℕ) → Type 0
Writes us k [] j = (k ≡ j) × IsTrue (ends_type (kind_at us k))
Writes us k (kind ∷ kinds) j = Has us k kind × Writes us (k + 1) kinds j

-- the tokens before place k go on to a part from place i on, with at most n open brackets
pub record Completes (P : List Token → (n i j : ℕ) → Type 0) (ts : List Token) (n i k : ℕ) : Type 0 where
  pub kinds : List TokenKind
  pub whole : (us : List Token) (j : ℕ) → SameBelow k ts us → Writes us k kinds j → P us n i j

-- the token at place k is the first with which no part can go on, however many brackets are open
pub record IsStuck (P : List Token → (n i j : ℕ) → Type 0) (ts : List Token) (n i k : ℕ) : Type 0 where
  pub from : i ≤ k
  pub reached : i ≤ length ts → k ≤ length ts
  pub none : (us : List Token) (m j : ℕ) → SameBelow (k + 1) ts us → P us m i j → ⊥
  pub before : Completes P ts n i k

-- the token at place k is a bracket, the first with which more than n are open; and more than n stand from place i up to it
pub record IsDeep (P : List Token → (n i j : ℕ) → Type 0) (ts : List Token) (n i k : ℕ) : Type 0 where
  pub from : i ≤ k
  pub there : k < length ts
  pub many : brackets ts i + n < brackets ts (k + 1)
  pub none : (us : List Token) (j : ℕ) → SameBelow (k + 1) ts us → P us n i j → ⊥
  pub before : Completes P ts n i k
  pub deeper : Completes P ts (suc n) i (k + 1)

-- the answers to reading a part
abbrev pub Fails : (P : List Token → (n i j : ℕ) → Type 0) → (ts : List Token) → (n i : ℕ) → Fault → Type 0
Fails P ts n i (Unexpected k) = IsStuck P ts n i k
Fails P ts n i (TooDeep k) = IsDeep P ts n i k

abbrev pub Reads : (P : List Token → (n i j : ℕ) → Type 0) → (ts : List Token) → (n i : ℕ) → Result ℕ Fault → Type 0
Reads P ts n i (Ok j) = P ts n i j
Reads P ts n i (Err e) = Fails P ts n i e
