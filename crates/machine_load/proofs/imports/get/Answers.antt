use Rattle.std.proofs.Common.{◌∙◌, sym, ap, subst}
use Rattle.value_model.specs.declared.value.Value.TheVariants.{Str}
use Rattle.value_arena.specs.Tables.{TableView}
use Rattle.luau_tables.specs.Rules as rule
use Rattle.luau_tables.specs.Worlds.{MayUseIn}
use Rattle.luau_tables.proofs.WorldsKept.{get_use}
use Rattle.machine_load.proofs.imports.get.Goals as goal

pub returns-clause-usable : goal.returns-clause-usable
returns-clause-usable c =
    let w = c.args.world.now in
    let is = c.value.ensures ∙ ap (λ (t : TableView). rule.get t (Str c.args.name)) c.table.ensures in
    subst (MayUseIn w) (sym is) (get_use w c.requires.world c.args.table c.requires.table (Str c.args.name))
