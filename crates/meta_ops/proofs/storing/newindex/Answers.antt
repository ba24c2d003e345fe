use Rattle.std.proofs.Common.{subst}
use Rattle.value_arena.specs.Arenas.{HasTable}
use Rattle.meta_ops.specs.OnIds as kept
use Rattle.meta_ops.specs.declared.storing.Target.{Target}
use Rattle.meta_ops.proofs.StoringKept.{none_stored, one_stored}
use Rattle.meta_ops.proofs.storing.newindex.Goals as goal

pub written-requires : goal.written-requires
written-requires g c =
    let P : Target → Type 0 = λ t. kept.OfTarget (HasTable c.args.arena.now) t in
    subst P c.in-Into.is c.writes_into-target.ensures.there

pub returns-in-NoTable-clause-stores : goal.returns-in-NoTable-clause-stores
returns-in-NoTable-clause-stores g c =
    λ texts w own base key v.
    none_stored texts c.args.globals.now c.args.arena.now w own c.args.key c.args.v c.args.base base key v c.writes_into-target.result c.writes_into-target.ensures.value c.in-NoTable.outcome c.in-NoTable.is

pub returns-in_ok-outcome-in-Into-clause-stores : goal.returns-in_ok-outcome-in-Into-clause-stores
returns-in_ok-outcome-in-Into-clause-stores g c =
    λ texts w own base key v.
    one_stored texts c.args.globals.now c.args.arena.now w own c.args.key c.args.v c.args.base base key v c.writes_into-target.result c.writes_into-target.ensures.value c.in-Into.t c.in-Into.is c.written.new.arena c.in_ok-outcome-in-Into.outcome c.in_ok-outcome-in-Into.ensures.written.0 c.in_ok-outcome-in-Into.ensures.written.1
