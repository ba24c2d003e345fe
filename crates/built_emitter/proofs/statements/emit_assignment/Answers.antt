use Rattle.built_emitter.proofs.StandingParts.{right_one}
use Rattle.built_emitter.proofs.statements.emit_assignment.Goals as goal

pub emit_value-requires-clause-stands : goal.emit_value-requires-clause-stands
emit_value-requires-clause-stands c = right_one c.args.bindings.now c.args.scope.now c.args.target.now c.args.value.now c.requires.stand
