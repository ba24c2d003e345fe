-- What the answers of `parse` say.
use Rattle.std.specs.Prelude.{◌≡◌, List, Option, Some, None, IfSome, Result, Err, ◌⊎◌}
use Rattle.syntax_tree.specs.declared.fault.Cause.TheVariants as cause
use Rattle.syntax_tree.specs.declared.fault.Refusal.{Refusal}
use Rattle.syntax_tree.specs.declared.token.Token.{Token}
use Rattle.syntax_tree.specs.declared.tree.Tree.{Tree}
use Rattle.syntax_tree.specs.Causes.{refused}
use Rattle.syntax_tree.specs.Parsed.{HasRefusal}
use Rattle.luau_parser.specs.declared.error.ParseErr.{ParseErr}
use Rattle.luau_parser.specs.declared.error.ParseErr.TheVariants.{Unexpected, TooDeep, AmbiguousCall, OutOfMemory}

-- why and where tokens are refused; want of memory says nothing of them
abbrev pub refusal_of : ParseErr → Option Refusal
refusal_of (Unexpected at) = Some (refused cause.Unexpected at)
refusal_of (TooDeep at) = Some (refused cause.TooDeep at)
refusal_of (AmbiguousCall at) = Some (refused cause.AmbiguousCall at)
refusal_of OutOfMemory = None

-- a refusal says what is wrong with the tokens, and where
abbrev pub IsRefusal : List Token → ParseErr → Type 0
IsRefusal ts e = IfSome (refusal_of e) (HasRefusal ts)

-- an answer that memory may stand in the way of
abbrev pub Answers : Result Tree ParseErr → Result Tree ParseErr → Type 0
Answers wanted result = (result ≡ wanted) ⊎ (result ≡ Err OutOfMemory)
