use Rattle.value_model.specs.Choices.{Arith}
use Rattle.value_model.specs.Parts.{meant}
use Rattle.meta_ops.specs.Outcomes.{meant_outcome}
use Rattle.machine_meaning.specs.Effects as effects
use Rattle.machine_meaning.specs.Moves.{comes}
use Rattle.machine_meaning.specs.States.{Into}
use Rattle.machine_world.proofs.Going.{runs_on}
use Rattle.machine_rows.specs.Leading.{looks}
use Rattle.machine_rows.proofs.Operating.{usable_there}
use Rattle.machine_rows.proofs.Steps.{does_like, settled_here}
use Rattle.machine_rows.proofs.arithmetic.calculate.Goals as goal

pub arith-outcome-requires : goal.arith-outcome-requires
arith-outcome-requires c =
    let w = c.args.world.now in
    let own = c.requires.sound.world.own in
    record {
      owned = own.owned;
      strings = own.globals.string_meta;
      a = usable_there w c.args.a c.requires.a;
      b = usable_there w c.args.b c.requires.b;
      text_a = c.requires.a.1;
      text_b = c.requires.b.1;
    }

pub into_register-requires-clause-usable : goal.into_register-requires-clause-usable
into_register-requires-clause-usable c =
    (c.arith-outcome.ensures c.args.world.now.owner c.requires.sound.world.own (c.requires.a, c.requires.b)).usable

pub returns-clause-makes : goal.returns-clause-makes
returns-clause-makes c = λ chunk.
    let w = c.args.world.now in
    let k = c.args.machine.now in
    let o = meant_outcome w.names c.arith-outcome.result in
    does_like chunk w w k.code k.stack c.into_register.new.machine.stack (effects.calculate c.args.op (meant w.names c.args.a) (meant w.names c.args.b) c.args.to c.args.next) (comes o (looks 0) (Into c.args.to c.args.next)) 0 c.into_register.result (runs_on k.stack c.requires.goes)
    (λ replies h. settled_here h (Arith c.args.op (meant w.names c.args.a) (meant w.names c.args.b)) o 0 (Into c.args.to c.args.next) (c.arith-outcome.ensures w.owner c.requires.sound.world.own (c.requires.a, c.requires.b)).meant)
    (c.into_register.ensures.makes chunk 0)
