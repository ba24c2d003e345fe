use Rattle.type_skip.proofs.Forward.{type_forward}
use Rattle.expression_parser.proofs.Leading.{passing}
use Rattle.expression_parser.proofs.WordTurns.{stuck_in_type, deep_in_type}
use Rattle.expression_parser.proofs.types.type_at.Goals as goal

pub returns-in-Ok : goal.returns-in-Ok
returns-in-Ok c = ((c.in-Ok.ensures, type_forward c.in-Ok.ensures), λ v k. passing c.in-Ok.ensures)

pub returns-in-Err-Unexpected : goal.returns-in-Err-Unexpected
returns-in-Err-Unexpected c = λ v k. stuck_in_type c.args.tokens.now c.args.at v c.in-Err-Unexpected.place k (rw c.in-Err-Unexpected.field-0-is at c.in-Err-Unexpected.ensures)

pub returns-in-Err-TooDeep : goal.returns-in-Err-TooDeep
returns-in-Err-TooDeep c = λ v k. deep_in_type c.args.tokens.now c.args.at v c.in-Err-TooDeep.place k (rw c.in-Err-TooDeep.field-0-is at c.in-Err-TooDeep.ensures)
