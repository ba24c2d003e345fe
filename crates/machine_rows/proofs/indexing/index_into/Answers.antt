use Rattle.value_model.specs.Choices.{Index}
use Rattle.value_model.specs.Parts.{meant}
use Rattle.meta_ops.specs.Outcomes.{meant_outcome}
use Rattle.machine_meaning.specs.Effects as effects
use Rattle.machine_meaning.specs.Moves.{comes}
use Rattle.machine_meaning.specs.States.{Into}
use Rattle.machine_world.proofs.Going.{runs_on}
use Rattle.machine_rows.specs.Leading.{looks}
use Rattle.machine_rows.proofs.Operating.{usable_there}
use Rattle.machine_rows.proofs.Steps.{does_like, settled_here}
use Rattle.machine_rows.proofs.indexing.index_into.Goals as goal

pub index-outcome-requires : goal.index-outcome-requires
index-outcome-requires g c =
    let w = c.args.world.now in
    let own = c.requires.sound.world.own in
    record { owned = own.owned; strings = own.globals.string_meta; base = usable_there w c.args.base c.requires.base }

pub into_register-done-requires-clause-usable : goal.into_register-done-requires-clause-usable
into_register-done-requires-clause-usable g c =
    let w = c.args.world.now in
    (c.index-outcome.ensures.chooses w.names w.owner c.requires.sound.world.own (c.requires.base, c.requires.key)).usable

pub returns-clause-makes : goal.returns-clause-makes
returns-clause-makes g c = λ chunk.
    let w = c.args.world.now in
    let k = c.args.machine.now in
    let o = meant_outcome w.names c.index-outcome.result.0 in
    let n = c.index-outcome.result.1 in
    let base = meant w.names c.args.base in
    let key = meant w.names c.args.key in
    let p = Into c.args.to c.args.next in
    does_like chunk w w k.code k.stack c.into_register-done.new.machine.stack (effects.index base key c.args.to c.args.next) (comes o (looks n) p) n c.into_register-done.result (runs_on k.stack c.requires.goes)
    (λ replies h. settled_here h (Index base key) o n p (c.index-outcome.ensures.chooses w.names w.owner c.requires.sound.world.own (c.requires.base, c.requires.key)).meant)
    (c.into_register-done.ensures.makes chunk n)
