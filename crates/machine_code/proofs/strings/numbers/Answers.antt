use Rattle.machine_code.proofs.Numbering.{one_string}
use Rattle.machine_code.proofs.strings.numbers.Goals as goal

pub loop-string-preserved : goal.loop-string-preserved
loop-string-preserved c =
    let so = c.loop-string.invariant in
    let more =
    one_string c.args.strings.now c.args.names.now c.loop-string.names c.intern.new.self c.loop-string.string-index c.string-item.result
    c.as_slice.result.now c.loop-string.found c.push.new.self c.in_ok-intern.field-0 c.loop-string-test.true c.string-item.is c.as_slice.ensures
    c.in_ok-intern.ensures.grown c.in_ok-intern.ensures.ok c.in_ok-push.ensures.ok so.numbers so.adds in
    record { numbers = more.0; adds = more.1 }
