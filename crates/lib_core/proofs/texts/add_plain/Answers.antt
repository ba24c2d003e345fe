use Rattle.luau_tables.specs.Globals.{plain_text}
use Rattle.luau_tables.specs.Part.{store_of}
use Rattle.lib_core.proofs.texts.add_plain.Goals as goal

pub returns : goal.returns
unfolding store_of plain_text
returns c = record { ok = c.plain_into.ensures.ok }
