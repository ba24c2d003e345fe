use Rattle.lib_string.proofs.AddedTexts.{added_reads}
use Rattle.lib_string.proofs.arguments.text_at.Goals as goal

pub returns-clause-reads : goal.returns-clause-reads
returns-clause-reads c =
    added_reads c.args.world.now c.text_at.new.names c.args.args.now c.requires.world c.requires.args c.text_at.ensures.extends c.text_at.ensures.texts
