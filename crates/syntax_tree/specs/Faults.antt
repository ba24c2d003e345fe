-- The first of the broken rules: the one at the earliest place, and at one place the one with the smallest number.
use Rattle.std.specs.Prelude.{◌≡◌, ◌<◌, ◌≤◌, ◌⊎◌, ℕ, List, [], ◌∷◌, All, Contains}
use Rattle.syntax_tree.specs.declared.fault.ScopeRule.{ScopeRule}
use Rattle.syntax_tree.specs.declared.fault.ScopeFault.{ScopeFault}
use Rattle.syntax_tree.specs.Causes.{number, cause_of}

abbrev pub number_of : ScopeRule → ℕ
number_of r = number (cause_of r)

-- `a` is at an earlier place than `b`, or at the same place with a number that is not greater
abbrev pub NotAfter : ScopeFault → ScopeFault → Type 0
NotAfter a b = (a.at < b.at) ⊎ ((a.at ≡ b.at) × (number_of a.rule ≤ number_of b.rule))

pub record IsFirst (faults : List ScopeFault) (f : ScopeFault) : Type 0 where
  pub broken : Contains faults f
  pub first : All (λ g. NotAfter f g) faults

-- one fault, at a place
abbrev pub fault : ScopeRule → ℕ → List ScopeFault
fault rule at = record { at = at; rule = rule } ∷ []
