use Rattle.std.proofs.Common.{Ok, Err}
use Rattle.syntax_tree.specs.Types.{IsType}
use Rattle.type_skip.specs.declared.fault.Fault.TheVariants as fault
use Rattle.type_skip.specs.Reading.{Fails}
use Rattle.type_skip.specs.Refusals.{most}
use Rattle.type_skip.proofs.Passing.{passes, finds, refuses}
use Rattle.type_skip.proofs.skipping.skip_type.Goals as goal

pub returns-in-Ok-clause-found : goal.returns-in-Ok-clause-found
returns-in-Ok-clause-found c = λ to type. finds c.args.tokens.now c.args.at to (Ok c.in-Ok.end) c.in-Ok.ensures type

pub returns-in-Ok-clause-deep : goal.returns-in-Ok-clause-deep
returns-in-Ok-clause-deep c = λ offset d. refuses c.args.tokens.now c.args.at offset (Ok c.in-Ok.end) c.in-Ok.ensures d

pub returns-in-Err-Unexpected-clause-answer : goal.returns-in-Err-Unexpected-clause-answer
returns-in-Err-Unexpected-clause-answer c =
    let ts = c.args.tokens.now in
    let read : Fails IsType ts most c.args.at (fault.Unexpected c.in-Err-Unexpected.place) = rw c.in-Err-Unexpected.field-0-is at c.in-Err-Unexpected.ensures in
    rw c.offset_at.ensures (passes ts c.args.at (Err (fault.Unexpected c.in-Err-Unexpected.place)) read)

pub returns-in-Err-Unexpected-clause-found : goal.returns-in-Err-Unexpected-clause-found
returns-in-Err-Unexpected-clause-found c = λ to type.
    let ts = c.args.tokens.now in
    let read : Fails IsType ts most c.args.at (fault.Unexpected c.in-Err-Unexpected.place) = rw c.in-Err-Unexpected.field-0-is at c.in-Err-Unexpected.ensures in
    rw c.offset_at.ensures (finds ts c.args.at to (Err (fault.Unexpected c.in-Err-Unexpected.place)) read type)

pub returns-in-Err-Unexpected-clause-deep : goal.returns-in-Err-Unexpected-clause-deep
returns-in-Err-Unexpected-clause-deep c = λ offset d.
    let ts = c.args.tokens.now in
    let read : Fails IsType ts most c.args.at (fault.Unexpected c.in-Err-Unexpected.place) = rw c.in-Err-Unexpected.field-0-is at c.in-Err-Unexpected.ensures in
    rw c.offset_at.ensures (refuses ts c.args.at offset (Err (fault.Unexpected c.in-Err-Unexpected.place)) read d)

pub returns-in-Err-TooDeep-clause-answer : goal.returns-in-Err-TooDeep-clause-answer
returns-in-Err-TooDeep-clause-answer c =
    let ts = c.args.tokens.now in
    let read : Fails IsType ts most c.args.at (fault.TooDeep c.in-Err-TooDeep.place) = rw c.in-Err-TooDeep.field-0-is at c.in-Err-TooDeep.ensures in
    rw c.offset_at-in-Err-TooDeep.ensures (passes ts c.args.at (Err (fault.TooDeep c.in-Err-TooDeep.place)) read)

pub returns-in-Err-TooDeep-clause-found : goal.returns-in-Err-TooDeep-clause-found
returns-in-Err-TooDeep-clause-found c = λ to type.
    let ts = c.args.tokens.now in
    let read : Fails IsType ts most c.args.at (fault.TooDeep c.in-Err-TooDeep.place) = rw c.in-Err-TooDeep.field-0-is at c.in-Err-TooDeep.ensures in
    rw c.offset_at-in-Err-TooDeep.ensures (finds ts c.args.at to (Err (fault.TooDeep c.in-Err-TooDeep.place)) read type)

pub returns-in-Err-TooDeep-clause-deep : goal.returns-in-Err-TooDeep-clause-deep
returns-in-Err-TooDeep-clause-deep c = λ offset d.
    let ts = c.args.tokens.now in
    let read : Fails IsType ts most c.args.at (fault.TooDeep c.in-Err-TooDeep.place) = rw c.in-Err-TooDeep.field-0-is at c.in-Err-TooDeep.ensures in
    rw c.offset_at-in-Err-TooDeep.ensures (refuses ts c.args.at offset (Err (fault.TooDeep c.in-Err-TooDeep.place)) read d)
