use Rattle.luau_tables.proofs.PartLaws.{value_written, metatable_set, table_frozen, table_made, others_stay}
use Rattle.luau_tables.proofs.part_laws.part_is_changed.Goals as goal

pub returns : goal.returns
returns c = record { written = value_written; meta = metatable_set; frozen = table_frozen; made = table_made; others = others_stay }
