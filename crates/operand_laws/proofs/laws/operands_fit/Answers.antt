use Rattle.operand_laws.proofs.Whole as whole
use Rattle.operand_laws.proofs.laws.operands_fit.Goals as goal

pub returns : goal.returns
returns c = whole.operands_fit
