use Rattle.luau_parser.proofs.ExampleTrees.{trees}
use Rattle.luau_parser.proofs.laws.example_trees.Goals as goal

pub returns : goal.returns
returns c = trees
