use Rattle.std.proofs.Common.{codes}
use Rattle.std.proofs.lemmas.Option.{slice_get_within}
use Rattle.lib_arguments.proofs.Saying.{says_name, says_metamethod}
use Rattle.lib_arguments.proofs.metatables.tostring_of.Goals as goal

pub said_by-requires-clause-name : goal.said_by-requires-clause-name
said_by-requires-clause-name c = slice_get_within _ _ _ c.requires.world.own.globals.names.tostring

pub returns-clause-meant : goal.returns-clause-meant
returns-clause-meant c =
    let w = c.args.world.now in
    says_metamethod w c.requires.world c.args.v.now c.metatable.result (codes "__tostring") c.said_by.result c.metatable.ensures.meant
    (says_name w c.requires.world c.metatable.result w.globals.meta.tostring (codes "__tostring") c.said_by.result c.requires.world.own.globals.names.tostring c.said_by.ensures.meant)
