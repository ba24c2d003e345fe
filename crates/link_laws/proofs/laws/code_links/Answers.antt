use Rattle.link_laws.proofs.Whole as whole
use Rattle.link_laws.proofs.laws.code_links.Goals as goal

pub returns : goal.returns
returns c = whole.code_links
