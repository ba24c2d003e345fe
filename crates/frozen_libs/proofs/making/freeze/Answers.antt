use Rattle.std.proofs.Common.{sym, subst, get_or, set}
use Rattle.value_model.specs.Fresh.{fixed}
use Rattle.value_model.specs.Store.{empty_table}
use Rattle.frozen_libs.specs.Made.{Holds}
use Rattle.frozen_libs.proofs.Holding.{held_fixed}
use Rattle.frozen_libs.proofs.making.freeze.Goals as goal

pub returns : goal.returns
returns c texts ts h =
    subst (λ a. Holds texts a (set ts c.args.t.place (fixed (get_or ts c.args.t.place empty_table)))) (sym c.freeze.ensures)
    (held_fixed texts c.args.arena.now ts h c.args.t c.requires.owner)
