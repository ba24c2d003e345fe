-- What a refusal of `lex` says of the text.
use Rattle.std.specs.Prelude.{ℕ, List, Option, Some, None, IfSome}
use Rattle.syntax_tree.specs.declared.fault.Cause.TheVariants as cause
use Rattle.syntax_tree.specs.declared.fault.Refusal.{Refusal}
use Rattle.syntax_tree.specs.Causes.{refused}
use Rattle.syntax_tree.specs.Spellings.{HasFault}
use Rattle.luau_lexer.specs.declared.error.LexErr.{LexErr}
use Rattle.luau_lexer.specs.declared.error.LexErr.TheVariants.{BadByte, UnfinishedString, BadEscape, UnfinishedComment, BadNumber, NotWholeLiteral, LiteralRange, DoubleBrace, OutOfMemory}

-- why and where a text is refused; want of memory says nothing of it
abbrev pub refusal_of : LexErr → Option Refusal
refusal_of (BadByte at) = Some (refused cause.BadByte at)
refusal_of (UnfinishedString at) = Some (refused cause.UnfinishedString at)
refusal_of (BadEscape at) = Some (refused cause.BadEscape at)
refusal_of (UnfinishedComment at) = Some (refused cause.UnfinishedComment at)
refusal_of (BadNumber at) = Some (refused cause.BadNumber at)
refusal_of (NotWholeLiteral at) = Some (refused cause.NotWholeLiteral at)
refusal_of (LiteralRange at) = Some (refused cause.LiteralRange at)
refusal_of (DoubleBrace at) = Some (refused cause.DoubleBrace at)
refusal_of OutOfMemory = None

-- a refusal is the text's fault
abbrev pub IsRefusal : (bytes : List ℕ) → LexErr → Type 0
IsRefusal bytes e = IfSome (refusal_of e) (HasFault bytes)
