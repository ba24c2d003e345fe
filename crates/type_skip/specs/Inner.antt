-- Of the crate's own functions: the parts of a type that they read.
use Rattle.std.specs.Prelude.{◌≡◌, ℕ, suc, ◌+◌, List, Result, Ok, Err, IsTrue, IsFalse, ◌⊎◌}
use Rattle.syntax_tree.specs.declared.token.Token.{Token}
use Rattle.syntax_tree.specs.declared.token.TokenKind.{TokenKind}
use Rattle.syntax_tree.specs.declared.token.TokenKind.TheVariants as token
use Rattle.syntax_tree.specs.Places.{kind_at, Has}
use Rattle.syntax_tree.specs.Types.{is_bar, IsAtom, IsMember, IsItems, IsItemList, IsFields, IsGenerics, IsGenericList, IsBalanced}
use Rattle.type_skip.specs.declared.fault.Fault.{Fault}
use Rattle.type_skip.specs.declared.parts.Step.{Step}
use Rattle.type_skip.specs.declared.parts.Step.TheVariants as step
use Rattle.type_skip.specs.declared.parts.Step.TheVariants.{Ended, Part}
use Rattle.type_skip.specs.Reading.{Fails}

-- an answer that is good, or why there is no part
abbrev pub ReadsAs : {A : Type 0} → (A → Type 0) → (P : List Token → (n i j : ℕ) → Type 0) → (ts : List Token) → (n i : ℕ) → Result A Fault → Type 0
ReadsAs Good P ts n i (Ok a) = Good a
ReadsAs Good P ts n i (Err e) = Fails P ts n i e

-- a part, and the token that closes it
pub record Enclosed (P : (n i j : ℕ) → Type 0) (ts : List Token) (close : TokenKind) (n i j : ℕ) : Type 0 where
  pub place : ℕ
  pub inside : P n i place
  pub closed : Has ts place close
  pub behind : j ≡ place + 1

abbrev pub IsClosedItems : TokenKind → List Token → (n i j : ℕ) → Type 0
IsClosedItems close ts n i j = Enclosed (IsItems ts close) ts close n i j

abbrev pub IsClosedItemList : TokenKind → List Token → (n i j : ℕ) → Type 0
IsClosedItemList close ts n i j = Enclosed (IsItemList ts) ts close n i j

abbrev pub IsClosedFields : List Token → (n i j : ℕ) → Type 0
IsClosedFields ts n i j = Enclosed (IsFields ts) ts token.CloseBrace n i j

-- a list of generics, its bracket, and the parenthesis behind it
pub record IsClosedGenerics (ts : List Token) (n i j : ℕ) : Type 0 where
  pub place : ℕ
  pub inside : IsGenericList ts n i place
  pub closed : Has ts place token.Greater
  pub opens : Has ts (place + 1) token.OpenParen
  pub behind : j ≡ place + 2

-- generics, and the parenthesis behind them
pub record IsOpened (ts : List Token) (n i j : ℕ) : Type 0 where
  pub place : ℕ
  pub generics : IsGenerics ts n i place
  pub opens : Has ts place token.OpenParen
  pub behind : j ≡ place + 1

-- the same, in one bracket more
pub record IsEntered (ts : List Token) (n i j : ℕ) : Type 0 where
  pub inner : ℕ
  pub room : n ≡ suc inner
  pub opened : IsOpened ts inner i j

-- balanced tokens, with `strings` interpolated strings that are not at their end yet
abbrev pub IsClosedStrings : (strings : ℕ) → TokenKind → List Token → (n i j : ℕ) → Type 0
IsClosedStrings strings close ts n i j = Enclosed (λ m a b. IsBalanced ts m strings a b) ts close n i j

abbrev pub IsClosedBalanced : TokenKind → List Token → (n i j : ℕ) → Type 0
IsClosedBalanced close = IsClosedStrings 0 close

abbrev pub IsMemberAt : List Token → (n i j : ℕ) → Type 0
IsMemberAt ts n i j = IsMember ts i j

-- generics and parameters
pub record IsHead (ts : List Token) (n i j : ℕ) : Type 0 where
  pub inner : ℕ
  pub begin : ℕ
  pub room : n ≡ suc inner
  pub opened : IsOpened ts inner i begin
  pub items : IsClosedItems token.CloseParen ts inner begin j

-- an atom, or its beginning up to a `...` or a `->` where it goes on
abbrev pub IsStep : (ts : List Token) → (n i : ℕ) → Step → Type 0
IsStep ts n i (Ended j) = IsAtom ts n i j
IsStep ts n i (Part j) = Has ts i token.TripleDot × (j ≡ i + 1)
IsStep ts n i (step.Result j) = (k : ℕ) × IsHead ts n i k × Has ts k token.Arrow × (j ≡ k + 1)

-- behind a bar, where one stands
abbrev pub IsBehindBar : (ts : List Token) → (i j : ℕ) → Type 0
IsBehindBar ts i j = ((IsTrue (is_bar (kind_at ts i))) × (j ≡ i + 1)) ⊎ ((IsFalse (is_bar (kind_at ts i))) × (j ≡ i))
