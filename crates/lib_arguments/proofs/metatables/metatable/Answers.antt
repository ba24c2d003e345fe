use Rattle.std.proofs.Common.{◌∙◌, ap}
use Rattle.value_arena.specs.Tables.{TableView}
use Rattle.lib_arguments.proofs.Saying.{table_meta, table_meta_usable, text_meta, text_meta_usable, no_meta}
use Rattle.lib_arguments.proofs.metatables.metatable.Goals as goal

pub returns-in-Table-clause-meant : goal.returns-in-Table-clause-meant
returns-in-Table-clause-meant c =
    table_meta c.args.world.now c.requires.world c.args.v.now c.in-Table.t c.meta.result c.in-Table.is c.requires.v (c.meta.ensures ∙ ap (λ (t : TableView). t.meta) c.table.ensures)

pub returns-in-Table-clause-usable : goal.returns-in-Table-clause-usable
returns-in-Table-clause-usable c =
    table_meta_usable c.args.world.now c.requires.world c.args.v.now c.in-Table.t c.meta.result c.in-Table.is c.requires.v (c.meta.ensures ∙ ap (λ (t : TableView). t.meta) c.table.ensures)

pub returns-in-Str-clause-meant : goal.returns-in-Str-clause-meant
returns-in-Str-clause-meant c = text_meta c.args.world.now c.requires.world c.args.v.now c.in-Str.field-0 c.in-Str.is

pub returns-in-Str-clause-usable : goal.returns-in-Str-clause-usable
returns-in-Str-clause-usable c = text_meta_usable c.args.world.now c.requires.world

pub returns-in_default-clause-meant : goal.returns-in_default-clause-meant
returns-in_default-clause-meant c = no_meta c.args.world.now c.requires.world c.args.v.now c.in_default.not-Table c.in_default.not-Str
