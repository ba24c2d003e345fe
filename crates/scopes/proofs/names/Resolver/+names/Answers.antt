use Rattle.std.proofs.Common.{rules}
use Rattle.scopes.proofs.ArmNames.{arm_is}
use Rattle.scopes.proofs.names.Resolver.+names.Goals as goal

pub arm-returns : goal.arm-returns
arm-returns t c = search (rules, arm_is)
