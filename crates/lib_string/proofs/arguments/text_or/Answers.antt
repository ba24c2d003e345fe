use Rattle.lib_string.proofs.AddedTexts.{added_reads}
use Rattle.lib_string.proofs.arguments.text_or.Goals as goal

pub returns-clause-reads : goal.returns-clause-reads
returns-clause-reads c =
    added_reads c.args.world.now c.text_or.new.names c.args.args.now c.requires.world c.requires.args c.text_or.ensures.extends c.text_or.ensures.texts
