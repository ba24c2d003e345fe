use Rattle.std.proofs.Common.{subst}
use Rattle.luau_tables.specs.Part.{OfSome}
use Rattle.luau_tables.specs.Worlds.{MayUseIn}
use Rattle.value_model.specs.declared.value.Value.TheVariants as value
use Rattle.lib_core.proofs.MetaRows.{shows_table, shows_hidden, shows_none}
use Rattle.lib_core.proofs.metatable.shown.Goals as goal

pub returns-in-Nil-clause-meant : goal.returns-in-Nil-clause-meant
returns-in-Nil-clause-meant c =
    shows_table c.args.world.now c.requires.world c.in-Some.m c.args.meta c.hidden_by.result c.in-Some.is c.in-Nil.is c.hidden_by.ensures.meant

pub returns-in-Nil-clause-usable : goal.returns-in-Nil-clause-usable
returns-in-Nil-clause-usable c = let w = c.args.world.now in subst (OfSome (λ m. MayUseIn w (value.Table m))) c.in-Some.is c.requires.meta

pub returns-in_default-clause-meant : goal.returns-in_default-clause-meant
returns-in_default-clause-meant c =
    shows_hidden c.args.world.now c.requires.world c.in-Some.m c.args.meta c.hidden_by.result c.in-Some.is c.in_default.not-Nil c.hidden_by.ensures.meant

pub returns-in-None-clause-meant : goal.returns-in-None-clause-meant
returns-in-None-clause-meant c = shows_none c.args.world.now c.requires.world c.args.meta c.in-None.is
