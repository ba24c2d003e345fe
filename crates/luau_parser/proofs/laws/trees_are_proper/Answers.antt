use Rattle.luau_parser.proofs.ProperTrees.{trees_are_proper}
use Rattle.luau_parser.proofs.laws.trees_are_proper.Goals as goal

pub returns : goal.returns
returns c = trees_are_proper
