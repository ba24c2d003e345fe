-- Why a script is refused: the causes by name and number.
use Rattle.std.specs.Prelude.{ℕ, List, ◌++◌, codes}
use Rattle.std.specs.Fmt.{decimal}
use Rattle.syntax_tree.specs.declared.fault.Cause.{Cause}
use Rattle.syntax_tree.specs.declared.fault.Cause.TheVariants as cause
use Rattle.syntax_tree.specs.declared.fault.Refusal.{Refusal}
use Rattle.syntax_tree.specs.declared.fault.ScopeRule.{ScopeRule}
use Rattle.syntax_tree.specs.declared.fault.ScopeRule.TheVariants as rule

abbrev pub named : Cause → List ℕ × ℕ
named cause.BadByte = (codes "BadByte", 1)
named cause.UnfinishedString = (codes "UnfinishedString", 2)
named cause.BadEscape = (codes "BadEscape", 3)
named cause.UnfinishedComment = (codes "UnfinishedComment", 4)
named cause.BadNumber = (codes "BadNumber", 5)
named cause.NotWholeLiteral = (codes "NotWholeLiteral", 6)
named cause.LiteralRange = (codes "LiteralRange", 7)
named cause.DoubleBrace = (codes "DoubleBrace", 8)
named cause.Unexpected = (codes "Unexpected", 10)
named cause.TooDeep = (codes "TooDeep", 11)
named cause.AmbiguousCall = (codes "AmbiguousCall", 12)
named cause.LoopWordOutside = (codes "LoopWordOutside", 20)
named cause.UntilSkipsLocal = (codes "UntilSkipsLocal", 21)
named cause.VarargOutside = (codes "VarargOutside", 22)
named cause.TooManyLocals = (codes "TooManyLocals", 23)
named cause.TooManyUpvalues = (codes "TooManyUpvalues", 24)
named cause.TooWide = (codes "TooWide", 25)
named cause.TooLong = (codes "TooLong", 26)

abbrev pub name : Cause → List ℕ
name c = (named c).0

abbrev pub number : Cause → ℕ
number c = (named c).1

-- why a tree is refused that breaks a rule
abbrev pub cause_of : ScopeRule → Cause
cause_of rule.LoopWordOutside = cause.LoopWordOutside
cause_of rule.UntilSkipsLocal = cause.UntilSkipsLocal
cause_of rule.VarargOutside = cause.VarargOutside
cause_of rule.TooManyLocals = cause.TooManyLocals
cause_of rule.TooManyUpvalues = cause.TooManyUpvalues
cause_of rule.TooWide = cause.TooWide
cause_of rule.TooLong = cause.TooLong

-- a cause that shows at a place
abbrev pub refused : Cause → ℕ → Refusal
refused cause at = record { cause = cause; at = at }

-- a name, a number and a place as a line tells them
abbrev pub cause_text : (name : List ℕ) → (number at : ℕ) → List ℕ
cause_text name number at = name ++ (codes " " ++ (decimal number ++ (codes " at " ++ decimal at)))

abbrev pub refusal_text : Refusal → List ℕ
refusal_text r = cause_text (name r.cause) (number r.cause) r.at
