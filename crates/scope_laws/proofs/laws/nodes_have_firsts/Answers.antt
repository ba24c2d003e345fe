use Rattle.scope_laws.proofs.Seen.{nodes_have_firsts}
use Rattle.scope_laws.proofs.laws.nodes_have_firsts.Goals as goal

pub returns : goal.returns
returns c = nodes_have_firsts
