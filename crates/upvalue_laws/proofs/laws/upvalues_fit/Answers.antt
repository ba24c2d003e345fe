use Rattle.upvalue_laws.proofs.Whole as whole
use Rattle.upvalue_laws.proofs.laws.upvalues_fit.Goals as goal

pub returns : goal.returns
returns c = whole.upvalues_fit
