use Rattle.std.proofs.Common.{sym, ◌∙◌, ap}
use Rattle.value_arena.specs.declared.closure.Closure.{Closure}
use Rattle.machine_steps.proofs.Numbered.{number_here}
use Rattle.machine_steps.proofs.lines.number.Goals as goal

pub returns : goal.returns
returns c =
    ap (λ (g : Closure). g.proto) c.closure-closure.ensures
    ∙ number_here c.args.world.now c.args.machine.now.code c.args.machine.now.stack c.in-Some.frame.now c.in-Some-closure.id (sym c.in-Some.ensures) c.in-Some-closure.is c.requires.sound
