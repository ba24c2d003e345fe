use Rattle.std.proofs.Common.{ap, ◌∙◌, sym, option_map}
use Rattle.op_words.specs.Chunks.{chunk_of}
use Rattle.chunk_check.specs.Faults.{fault_of}
use Rattle.chunk_check.proofs.Folds.{is_well_formed, is_not_well_formed}
use Rattle.chunk_check.proofs.checking.check.Goals as goal

pub new-requires : goal.new-requires
new-requires c =
    is_well_formed (chunk_of c.args.chunk) (sym (ap (option_map fault_of) c.in-Ok-None.field-0-is) ∙ c.in-Ok-None.ensures)

pub returns-in-Ok-Some : goal.returns-in-Ok-Some
returns-in-Ok-Some c =
    let found = sym (ap (option_map fault_of) c.in-Ok-Some.field-0-is) ∙ c.in-Ok-Some.ensures in
    (is_not_well_formed (chunk_of c.args.chunk) (fault_of c.in-Ok-Some.fault) found, sym found)
