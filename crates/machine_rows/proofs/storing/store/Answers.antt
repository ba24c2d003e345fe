use Rattle.std.proofs.Common.{refl}
use Rattle.value_model.specs.Choices.{Newindex}
use Rattle.value_model.specs.Parts.{meant}
use Rattle.meta_ops.specs.Outcomes.{meant_outcome}
use Rattle.luau_tables.proofs.WorldsKept.{arena_keeps}
use Rattle.machine_meaning.specs.Effects as effects
use Rattle.machine_meaning.specs.States.{Stores}
use Rattle.machine_world.proofs.Going.{runs_on}
use Rattle.machine_rows.proofs.Operating.{usable_there}
use Rattle.machine_rows.proofs.Stored.{part_stored, machine_stored, does_stored}
use Rattle.machine_rows.proofs.storing.store.Goals as goal

pub newindex-requires : goal.newindex-requires
newindex-requires g c =
    let w = c.args.world.now in
    let own = c.requires.sound.world.own in
    record { owned = own.owned; there = usable_there w c.args.base c.requires.base }

pub stored-done-requires-clause-sound : goal.stored-done-requires-clause-sound
stored-done-requires-clause-sound g c =
    let w = c.args.world.now in
    let k = c.in_ok-outcome.ensures.stores w.names w.owner c.requires.sound.world.own c.requires.base c.requires.key c.requires.v in
    machine_stored w c.newindex.new.arena c.args.machine.now.stack k.own k.changes c.requires.sound

pub stored-done-requires-clause-usable : goal.stored-done-requires-clause-usable
stored-done-requires-clause-usable g c =
    let w = c.args.world.now in
    (c.in_ok-outcome.ensures.stores w.names w.owner c.requires.sound.world.own c.requires.base c.requires.key c.requires.v).usable

pub returns-clause-makes : goal.returns-clause-makes
returns-clause-makes g c = λ chunk.
    let w = c.args.world.now in
    let k = c.args.machine.now in
    let b = c.newindex.new.arena in
    let t = c.in_ok-outcome.ensures.stores w.names w.owner c.requires.sound.world.own c.requires.base c.requires.key c.requires.v in
    let base = meant w.names c.args.base in
    let key = meant w.names c.args.key in
    let v = meant w.names c.args.v in
    does_stored chunk w (record w { arena = b }) k.code k.stack c.stored-done.new.machine.stack (effects.newindex base key v c.args.next) (Newindex base key v) (meant_outcome w.names c.in_ok-outcome.outcome) c.in_ok-outcome.asked (Stores c.args.next) c.stored-done.result (runs_on k.stack c.requires.goes)
    (λ x replies. part_stored w b k.code k.stack x replies t.changes) t.meant (λ replies h. refl) (c.stored-done.ensures.makes chunk c.in_ok-outcome.asked)

pub returns-clause-keeps : goal.returns-clause-keeps
returns-clause-keeps g c =
    let w = c.args.world.now in
    let t = c.in_ok-outcome.ensures.stores w.names w.owner c.requires.sound.world.own c.requires.base c.requires.key c.requires.v in
    arena_keeps w c.newindex.new.arena c.requires.sound.world t.own t.changes
