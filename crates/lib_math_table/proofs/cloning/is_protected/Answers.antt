use Rattle.std.proofs.Common.{◌∙◌, not, sym, ap}
use Rattle.value_model.specs.declared.value.Value.TheVariants.{Str}
use Rattle.value_arena.specs.Tables.{TableView}
use Rattle.luau_tables.specs.Rules as rule
use Rattle.lib_math_table.proofs.Protected.{protected_none, protected_some, meta_use}
use Rattle.lib_math_table.proofs.cloning.is_protected.Goals as goal

pub returns-in-Some : goal.returns-in-Some
returns-in-Some c =
    let w = c.args.world.now in
    let at = sym c.in-Some.is ∙ c.meta.ensures ∙ ap (λ (t : TableView). t.meta) c.table.ensures in
    ap not c.is_nil.ensures
    ∙ protected_some w c.requires.world c.args.t c.requires.table c.in-Some.meta c.value.result at
    (c.value.ensures ∙ ap (λ t. rule.get t (Str w.globals.meta.metatable)) c.table-in-Some.ensures)

pub table-requires-in-Some : goal.table-requires-in-Some
table-requires-in-Some c =
    (meta_use c.args.world.now c.requires.world c.args.t c.requires.table c.in-Some.meta
    (sym c.in-Some.is ∙ c.meta.ensures ∙ ap (λ (t : TableView). t.meta) c.table.ensures)).0.1

pub returns-in-None : goal.returns-in-None
returns-in-None c = protected_none c.args.world.now c.requires.world c.args.t c.requires.table
    (sym c.in-None.is ∙ c.meta.ensures ∙ ap (λ (t : TableView). t.meta) c.table.ensures)
