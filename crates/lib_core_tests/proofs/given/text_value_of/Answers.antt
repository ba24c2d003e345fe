use Rattle.std.proofs.lemmas.Option.{slice_get_within}
use Rattle.lib_arguments.proofs.NamesKept.{names_kept}
use Rattle.lib_core_tests.proofs.given.text_value_of.Goals as goal

pub returns-in_err-id-clause-keeps : goal.returns-in_err-id-clause-keeps
returns-in_err-id-clause-keeps c = names_kept c.args.world.now c.text_value.new.names c.text_value.ensures.extends c.text_value.ensures.texts c.requires

pub returns-clause-usable : goal.returns-clause-usable
returns-clause-usable c = (tt, slice_get_within _ _ _ c.in_ok-id.ensures.text)

pub returns-clause-keeps : goal.returns-clause-keeps
returns-clause-keeps c = names_kept c.args.world.now c.text_value.new.names c.text_value.ensures.extends c.text_value.ensures.texts c.requires
