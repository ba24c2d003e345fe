use Rattle.shape_laws.proofs.Whole as whole
use Rattle.shape_laws.proofs.laws.code_shapes.Goals as goal

pub returns : goal.returns
returns c = whole.code_shapes
