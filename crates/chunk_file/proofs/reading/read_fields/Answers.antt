use Rattle.std.proofs.Common.{◌-◌, subst, sym, ap, ◌∙◌, length, drop, length-drop, arith}
use Rattle.std.proofs.lemmas.List.{take_all}
use Rattle.chunk_file.specs.Answers.{IsFault}
use Rattle.chunk_file.specs.Reading.{contents, read_contents}
use Rattle.chunk_file.proofs.reading.read_fields.Goals as goal

pub returns-in-Err : goal.returns-in-Err
returns-in-Err c =
    let bytes = c.args.bytes.now in
    let left = length-drop 5 bytes in
    let behind = c.new-reader.ensures ∙ take_all (length bytes - 5) (drop 5 bytes) (omega (arith, left)) in
    record {
      reads = subst (λ answer. IsFault answer c.located.result)
          (sym (c.in_ok-check_head.ensures.goes_on ∙ ap (λ l. contents bytes (read_contents l)) (sym behind)))
          (c.located.ensures _ c.in-Err.ensures);
    }
