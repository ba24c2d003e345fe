use Rattle.lib_arguments.proofs.NamesKept.{names_kept, text_runs}
use Rattle.lib_arguments.proofs.giving.give_text.Goals as goal

pub returns-in-Ok-clause-runs : goal.returns-in-Ok-clause-runs
returns-in-Ok-clause-runs c =
    text_runs c.args.world.now c.text_value.new.names c.text_value.ensures.extends c.text_value.ensures.texts c.requires
    _ _ c.give.result c.in-Ok.id c.args.bytes.now c.in-Ok.ensures.text c.give.ensures

pub returns-in-Ok-clause-keeps : goal.returns-in-Ok-clause-keeps
returns-in-Ok-clause-keeps c = names_kept c.args.world.now c.text_value.new.names c.text_value.ensures.extends c.text_value.ensures.texts c.requires

pub returns-in-Err-clause-keeps : goal.returns-in-Err-clause-keeps
returns-in-Err-clause-keeps c = names_kept c.args.world.now c.text_value.new.names c.text_value.ensures.extends c.text_value.ensures.texts c.requires
