use Rattle.lib_math_table.proofs.Ordered.{unlike_fails}
use Rattle.lib_math_table.proofs.ordering.unlike.Goals as goal

pub returns : goal.returns
returns c = λ texts. unlike_fails texts _ _ c.kind.result c.kind-2.result (c.kind.ensures texts) (c.kind-2.ensures texts)
