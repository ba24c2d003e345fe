use Rattle.std.proofs.Common.{not, refl, ap, ◌∙◌}
use Rattle.value_arena.specs.Tables.{TableView}
use Rattle.value_model.specs.declared.value.Value.TheVariants as value
use Rattle.lib_arguments.proofs.Saying.{table_meta_usable}
use Rattle.lib_core.proofs.MetaRows.{protected_is}
use Rattle.lib_core.proofs.metatable.is_protected.Goals as goal

pub table-requires : goal.table-requires
table-requires c = c.requires.table.0.1

pub hidden_by-hidden-requires-clause-meta : goal.hidden_by-hidden-requires-clause-meta
hidden_by-hidden-requires-clause-meta c =
    table_meta_usable c.args.world.now c.requires.world (value.Table c.args.t) c.args.t c.meta.result refl c.requires.table (c.meta.ensures ∙ ap (λ (t : TableView). t.meta) c.table.ensures)

pub returns : goal.returns
returns c =
    ap not c.is_nil.ensures
    ∙ protected_is c.args.world.now c.requires.world c.args.t c.meta.result c.hidden_by-hidden.result c.requires.table (c.meta.ensures ∙ ap (λ (t : TableView). t.meta) c.table.ensures) c.hidden_by-hidden.ensures.meant
