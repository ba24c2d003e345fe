use Rattle.std.proofs.Common.{[], sym, ◌∙◌}
use Rattle.meta_ops.proofs.MetamethodsKept.{kind_kept}
use Rattle.meta_ops.proofs.metamethod.kind_of.Goals as goal

pub returns : goal.returns
returns c = sym (c.kind.ensures []) ∙ kind_kept [] c.args.v.now
