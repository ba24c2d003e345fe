-- What the answers of `resolve` say.
use Rattle.std.specs.Prelude.{◌≡◌, ◌⊎◌, [], Option, Some, None, option_map}
use Rattle.std.specs.declared.result.Result.{Result}
use Rattle.std.specs.declared.result.Result.TheVariants.{Ok, Err}
use Rattle.syntax_tree.specs.declared.bindings.Bindings.{Bindings}
use Rattle.syntax_tree.specs.declared.fault.ScopeFault.{ScopeFault}
use Rattle.syntax_tree.specs.declared.fault.ScopeRule.TheVariants as rule
use Rattle.syntax_tree.specs.declared.fault.Refusal.{Refusal}
use Rattle.syntax_tree.specs.declared.tree.Tree.{Tree}
use Rattle.syntax_tree.specs.Bound.{bound, faults, IsScopeFault}
use Rattle.syntax_tree.specs.Causes.{refused, cause_of}
use Rattle.syntax_tree.specs.Faults.{NotAfter}
use Rattle.scopes.specs.declared.error.ScopeErr.{ScopeErr}
use Rattle.scopes.specs.declared.error.ScopeErr.TheVariants as refusal

-- the broken rule that a refusal names
abbrev pub fault_of : ScopeErr → Option ScopeFault
fault_of (refusal.LoopWordOutside at) = Some (record { at = at; rule = rule.LoopWordOutside })
fault_of (refusal.UntilSkipsLocal at) = Some (record { at = at; rule = rule.UntilSkipsLocal })
fault_of (refusal.VarargOutside at) = Some (record { at = at; rule = rule.VarargOutside })
fault_of (refusal.TooManyLocals at) = Some (record { at = at; rule = rule.TooManyLocals })
fault_of (refusal.TooManyUpvalues at) = Some (record { at = at; rule = rule.TooManyUpvalues })
fault_of (refusal.TooWide at) = Some (record { at = at; rule = rule.TooWide })
fault_of (refusal.TooLong at) = Some (record { at = at; rule = rule.TooLong })
fault_of refusal.OutOfMemory = None

abbrev pub IsRefusal : ScopeFault → ScopeErr → Type 0
IsRefusal fault e = fault_of e ≡ Some fault

-- why and where a tree is refused that breaks a rule
abbrev pub refusal_for : ScopeFault → Refusal
refusal_for fault = refused (cause_of fault.rule) fault.at

-- the same of a refusal; want of memory says nothing of the tree
abbrev pub refusal_of : ScopeErr → Option Refusal
refusal_of e = option_map refusal_for (fault_of e)

-- want of memory, or the first broken rule
abbrev pub Refuses : Tree → Option ScopeFault → Type 0
Refuses tree None = Unit {0}
Refuses tree (Some fault) = IsScopeFault tree fault

-- The bindings where no rule is broken, the first broken rule where one is, or want of memory.
abbrev pub Answers : Tree → Result Bindings ScopeErr → Type 0
Answers tree (Ok bindings) = (faults tree ≡ []) × (bindings ≡ bound tree)
Answers tree (Err e) = Refuses tree (fault_of e)

-- the one of two faults that comes first
abbrev pub IsEarlier : ScopeFault → ScopeFault → ScopeFault → Type 0
IsEarlier a b r = ((r ≡ a) × NotAfter a b) ⊎ ((r ≡ b) × NotAfter b a)
