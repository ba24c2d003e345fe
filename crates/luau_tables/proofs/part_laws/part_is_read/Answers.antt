use Rattle.luau_tables.proofs.PartLaws.{table_read}
use Rattle.luau_tables.proofs.part_laws.part_is_read.Goals as goal

pub returns : goal.returns
returns c = table_read
