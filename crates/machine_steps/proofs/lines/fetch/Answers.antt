use Rattle.std.proofs.Common.{◌<◌, length, subst, sym}
use Rattle.machine_code.specs.declared.code.Function.{Function}
use Rattle.machine_world.specs.Rows.{place_here}
use Rattle.machine_steps.specs.Ready.{function_here}
use Rattle.machine_steps.proofs.Constants.{some_on, some_there}
use Rattle.machine_steps.proofs.lines.fetch.Goals as goal

pub function-function-requires-clause-there : goal.function-function-requires-clause-there
function-function-requires-clause-there c =
    let k = c.args.machine.now in
    some_there (function_here c.args.world.now k.code k.stack) (λ (f : Function). place_here k.stack < length f.lines) c.requires.there

pub line-requires : goal.line-requires
line-requires c =
    let k = c.args.machine.now in
    let f = c.function-function.result.now in
    subst (λ p. p < length f.lines) (sym c.place.ensures)
    (some_on (function_here c.args.world.now k.code k.stack) f (λ (f : Function). place_here k.stack < length f.lines) c.function-function.ensures c.requires.there)
