use Rattle.std.proofs.Common.{codes}
use Rattle.outside_io.specs.declared.reading.ReadErr.TheVariants.{Missing, ReadFault, TooLarge}
use Rattle.luau_cli.proofs.Replying.{by_cause, answered, answers_missing, answers_fault, answers_large, all_read}
use Rattle.luau_cli.proofs.top.reply_for.Goals as goal

pub returns-in-Ok-clause-answers : goal.returns-in-Ok-clause-answers
returns-in-Ok-clause-answers g c =
    let read = c.in-Ok.ensures in
    all_read (g.F.Files.contents c.args.files.now) c.args.mode c.args.file.now c.args.turns _ _ c.in-Ok.bytes _ c.reply_to.result
    c.as_slice.ensures.value read.faults read.within read.told c.reply_to.ensures.answers

pub returns-in-Err-Missing-clause-answers : goal.returns-in-Err-Missing-clause-answers
returns-in-Err-Missing-clause-answers g c =
    let told = g.F.Files.contents c.args.files.now in
    let read = by_cause told c.args.file.now _ _ _ Missing c.in-Err-Missing.field-0-is c.in-Err-Missing.ensures.faults c.in-Err-Missing.ensures.told in
    answered told c.args.mode c.args.file.now c.args.turns _ _ c.refusal.result 4 (codes "missing: ") c.as_bytes.result.now c.as_bytes.ensures.value
    c.refusal.ensures (answers_missing told c.args.mode c.args.file.now c.args.turns _ _ read.0 read.1)

pub returns-in-Err-ReadFault-clause-answers : goal.returns-in-Err-ReadFault-clause-answers
returns-in-Err-ReadFault-clause-answers g c =
    let told = g.F.Files.contents c.args.files.now in
    let read = by_cause told c.args.file.now _ _ _ ReadFault c.in-Err-ReadFault.field-0-is c.in-Err-ReadFault.ensures.faults c.in-Err-ReadFault.ensures.told in
    answered told c.args.mode c.args.file.now c.args.turns _ _ c.refusal-in-Err-ReadFault.result 4 (codes "read fault: ")
    c.as_bytes-in-Err-ReadFault.result.now c.as_bytes-in-Err-ReadFault.ensures.value c.refusal-in-Err-ReadFault.ensures
    (answers_fault told c.args.mode c.args.file.now c.args.turns _ _ read.0 read.1)

pub returns-in-Err-TooLarge-clause-answers : goal.returns-in-Err-TooLarge-clause-answers
returns-in-Err-TooLarge-clause-answers g c =
    let told = g.F.Files.contents c.args.files.now in
    let read = by_cause told c.args.file.now _ _ _ TooLarge c.in-Err-TooLarge.field-0-is c.in-Err-TooLarge.ensures.faults c.in-Err-TooLarge.ensures.told in
    answered told c.args.mode c.args.file.now c.args.turns _ _ c.refusal-in-Err-TooLarge.result 10 (codes "too large: ")
    c.as_bytes-in-Err-TooLarge.result.now c.as_bytes-in-Err-TooLarge.ensures.value c.refusal-in-Err-TooLarge.ensures
    (answers_large told c.args.mode c.args.file.now c.args.turns _ _ read.0 read.1)
