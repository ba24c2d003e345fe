use Rattle.std.proofs.Common.{refl}
use Rattle.type_skip.proofs.OneType.{one_type}
use Rattle.type_skip.proofs.skipping.one_type.Goals as goal

pub returns : goal.returns
returns c = λ ts n m i j k a b. one_type a b refl
