-- Each text is read in one way, each symbol is the longest that stands there, and numbers of texts stay.
use Rattle.std.specs.Prelude.{◌≡◌, ℕ, ◌≤◌, ◌⊎◌, List, ◌++◌, length, Some, slice_get, Result, Ok, Err}
use Rattle.std.specs.declared.alloc.Global.{Global}
use Rattle.std.specs.declared.vec.Vec.{Vec}
use Rattle.syntax_tree.specs.declared.fault.Refusal.{Refusal}
use Rattle.syntax_tree.specs.declared.token.Token.{Token}
use Rattle.syntax_tree.specs.declared.token.TokenKind.{TokenKind}
use Rattle.luau_lexer.specs.declared.error.LexErr.{LexErr}
use Rattle.luau_lexer.specs.declared.error.LexErr.TheVariants.{OutOfMemory}
use Rattle.syntax_tree.specs.Plain.{symbols, symbol_at}
use Rattle.syntax_tree.specs.Spellings.{Spelled, Spells, HasFault}
use Rattle.syntax_tree.specs.Tokens.{AreTokens, HasTokens}
use Rattle.luau_lexer.specs.Refusals.{refusal_of}

-- the tokens of a text, or its fault
pub data Reading : Type 0 where
  Tokens : List Spelled → Reading
  Fault : Refusal → Reading

abbrev pub HasReading : (bytes : List ℕ) → Reading → Type 0
HasReading bytes (Tokens spelled) = Spells bytes spelled
HasReading bytes (Fault fault) = HasFault bytes fault

-- a text has tokens or a fault, and no others
pub record HasOneReading (bytes : List ℕ) : Type 0 where
  pub reading : Reading
  pub has : HasReading bytes reading
  pub only : (other : Reading) → HasReading bytes other → other ≡ reading

-- each text has either one list of tokens or one fault
pub record AllHaveOneReading : Type 0 where
  pub each : (bytes : List ℕ) → HasOneReading bytes

-- a text has at most one list of tokens, the numbers of their texts among them
pub record TokenListsAreOne : Type 0 where
  pub same : (bytes : List ℕ) (ts us : List Token) → HasTokens bytes ts → HasTokens bytes us → ts ≡ us

-- no symbol of the table that stands at the front of some bytes is longer than the one that is taken there
pub record SymbolsAreLongest : Type 0 where
  pub longest : (bytes : List ℕ) (taken : List ℕ × TokenKind) → symbol_at bytes ≡ Some taken → (k : ℕ) (other : List ℕ × TokenKind) →
      slice_get symbols k ≡ Some other → (rest : List ℕ) → bytes ≡ other.0 ++ rest → length other.0 ≤ length taken.0

-- an answer is what a text's reading says, unless memory ran out
abbrev pub Answers : (texts : List (List ℕ)) → Reading → Result (Vec Token Global) LexErr → Type 0
Answers texts (Tokens spelled) (Ok tokens) = AreTokens texts spelled tokens.items
Answers texts (Tokens spelled) (Err e) = e ≡ OutOfMemory
Answers texts (Fault fault) (Ok tokens) = ⊥
Answers texts (Fault fault) (Err e) = (refusal_of e ≡ Some fault) ⊎ (e ≡ OutOfMemory)

-- each text that has a number keeps it
pub record Keeps (old new : List (List ℕ)) : Type 0 where
  pub at : (i : ℕ) (text : List ℕ) → slice_get old i ≡ Some text → slice_get new i ≡ Some text
