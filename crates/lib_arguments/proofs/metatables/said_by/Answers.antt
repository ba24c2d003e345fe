use Rattle.std.proofs.Common.{◌∙◌, ap, subst}
use Rattle.luau_tables.specs.Part.{OfSome}
use Rattle.luau_tables.specs.Worlds.{MayUseIn}
use Rattle.value_arena.specs.Tables.{TableView, value_in}
use Rattle.value_model.specs.Parts.{bytes_at}
use Rattle.value_model.specs.declared.value.Value.TheVariants as value
use Rattle.lib_arguments.proofs.Saying.{some_says, says_usable, none_says}
use Rattle.lib_arguments.proofs.metatables.said_by.Goals as goal

pub table-requires : goal.table-requires
table-requires c = let w = c.args.world.now in (subst (OfSome (λ m. MayUseIn w (value.Table m))) c.in-Some.is c.requires.meta).0.1

pub returns-in-Some-clause-meant : goal.returns-in-Some-clause-meant
returns-in-Some-clause-meant c =
    let w = c.args.world.now in
    some_says w c.requires.world c.in-Some.m c.args.meta c.args.name c.value.result c.in-Some.is
    (subst (OfSome (λ m. MayUseIn w (value.Table m))) c.in-Some.is c.requires.meta) c.requires.name
    (c.value.ensures ∙ ap (λ (t : TableView). value_in t.entries (value.Str c.args.name)) c.table.ensures)

pub returns-in-Some-clause-usable : goal.returns-in-Some-clause-usable
returns-in-Some-clause-usable c =
    let w = c.args.world.now in
    says_usable w c.requires.world c.in-Some.m (value.Str c.args.name) c.value.result
    (subst (OfSome (λ m. MayUseIn w (value.Table m))) c.in-Some.is c.requires.meta)
    (c.value.ensures ∙ ap (λ (t : TableView). value_in t.entries (value.Str c.args.name)) c.table.ensures)

pub returns-in-None-clause-meant : goal.returns-in-None-clause-meant
returns-in-None-clause-meant c = none_says c.args.world.now c.requires.world c.args.meta (bytes_at c.args.world.now.names c.args.name.0) c.in-None.is
