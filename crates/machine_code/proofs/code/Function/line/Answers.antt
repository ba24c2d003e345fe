use Rattle.std.proofs.Common.{sym, ap, ◌∙◌, get_or, Some, pos}
use Rattle.std.proofs.lemmas.Option.{slice_get-get_or}
use Rattle.op_words.specs.declared.insn.Insn.TheVariants.{Nop}
use Rattle.machine_code.specs.declared.code.Line.{Line}
use Rattle.machine_code.proofs.Reading.{line_row}
use Rattle.machine_code.proofs.code.Function.line.Goals as goal

pub returns-clause-row : goal.returns-clause-row
returns-clause-row c = λ chunk texts p is.
    let lines = c.args.self.now.lines in
    let place = c.args.place in
    let none : Line = record { insn = Nop (pos 0); next = 0 } in
    line_row chunk texts p c.args.self.now place _ is
    (slice_get-get_or lines place none c.requires ∙ ap (λ ls. Some (get_or ls place none)) (sym c.as_slice.ensures))
