use Rattle.std.proofs.Common.{◌≡◌, [], take, MatchOption}
use Rattle.syntax_tree.specs.Faults.{IsFirst}
use Rattle.scopes.proofs.error.first_of.Given as goal

abbrev pub invariant-loop-fault : goal.invariant-loop-fault
invariant-loop-fault l = MatchOption l.first (take l.fault-index l.faults ≡ []) (IsFirst (take l.fault-index l.faults))
