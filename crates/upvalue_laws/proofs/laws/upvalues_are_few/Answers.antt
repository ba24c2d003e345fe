use Rattle.upvalue_laws.proofs.Few as few
use Rattle.upvalue_laws.proofs.laws.upvalues_are_few.Goals as goal

pub returns : goal.returns
returns c = few.upvalues_are_few
