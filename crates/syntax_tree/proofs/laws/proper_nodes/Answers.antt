use Rattle.syntax_tree.proofs.ProperForms.{proper_nodes}
use Rattle.syntax_tree.proofs.laws.proper_nodes.Goals as goal

pub returns : goal.returns
returns c = proper_nodes
