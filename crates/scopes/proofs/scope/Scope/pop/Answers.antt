use Rattle.std.proofs.Common.{subst, sym}
use Rattle.scopes.specs.Heads.{IsLinked}
use Rattle.scopes.proofs.Heads.{last_within, pop_linked}
use Rattle.scopes.proofs.scope.Scope.pop.Goals as goal

pub set-requires : goal.set-requires
set-requires c = last_within c.pop.new.self c.in-Some.last c.self.inside.heads (subst (λ es. IsLinked es c.self.inside.heads) c.in-Some.ensures c.self.invariant)

pub invariant_of-self : goal.invariant_of-self
invariant_of-self c =
    subst (λ heads. IsLinked c.pop.new.self heads) (sym c.set.ensures) (pop_linked c.pop.new.self c.in-Some.last c.self.inside.heads (subst (λ es. IsLinked es c.self.inside.heads) c.in-Some.ensures c.self.invariant))
