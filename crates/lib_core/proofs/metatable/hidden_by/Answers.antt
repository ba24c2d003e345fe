use Rattle.std.proofs.Common.{codes}
use Rattle.std.proofs.lemmas.Option.{slice_get_within}
use Rattle.lib_arguments.proofs.Saying.{says_name}
use Rattle.lib_core.proofs.metatable.hidden_by.Goals as goal

pub said_by-requires-clause-name : goal.said_by-requires-clause-name
said_by-requires-clause-name c = slice_get_within _ _ _ c.requires.world.own.globals.names.metatable

pub returns-clause-meant : goal.returns-clause-meant
returns-clause-meant c =
    let w = c.args.world.now in
    says_name w c.requires.world c.args.meta w.globals.meta.metatable (codes "__metatable") c.said_by.result c.requires.world.own.globals.names.metatable c.said_by.ensures.meant
