use Rattle.std.proofs.Common.{◌∙◌, codes}
use Rattle.value_model.specs.Parts.{meant}
use Rattle.value_model.specs.declared.value.Value.TheVariants.{Table}
use Rattle.luau_tables.specs.Worlds.{store_in}
use Rattle.lib_arguments.proofs.Saying.{says_name, says_metamethod}
use Rattle.machine_loops.proofs.Starts.{by_metatable}
use Rattle.machine_loops.proofs.iterating.of_table.Goals as goal

pub returns-clause-meant : goal.returns-clause-meant
returns-clause-meant c =
    let w = c.args.world.now in
    let t = c.args.table in
    let meta = c.metatable-meta.result in
    let is = c.metatable-meta.ensures.meant in
    let iter = c.said_by-iter.result in
    let call = c.said_by-call.result in
    c.over.ensures.meant w.names
    ∙ by_metatable w.names (store_in w) (meant w.names c.args.state) (meant w.names c.args.control) t iter call
    (says_metamethod w c.requires.world (Table t) meta (codes "__iter") iter is
    (says_name w c.requires.world meta w.globals.meta.iter (codes "__iter") iter c.requires.world.own.globals.names.iter c.said_by-iter.ensures.meant))
    (says_metamethod w c.requires.world (Table t) meta (codes "__call") call is
    (says_name w c.requires.world meta w.globals.meta.call (codes "__call") call c.requires.world.own.globals.names.call c.said_by-call.ensures.meant))
