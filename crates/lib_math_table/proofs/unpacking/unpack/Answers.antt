use Rattle.std.proofs.Common.{◌≡◌, ◌∙◌, pos, ap, refl, arith}
use Rattle.value_model.specs.declared.error.RunErr.TheVariants.{TooManyValues}
use Rattle.value_arena.specs.Arenas.{table_at}
use Rattle.value_arena.specs.Tables.{TableView}
use Rattle.luau_tables.specs.Rules as rule
use Rattle.lib_arguments.specs.declared.ending.Ending.TheVariants.{RunError}
use Rattle.lib_arguments.proofs.RowsRun.{found, found_fails, ends, used_at, have_texts}
use Rattle.lib_math_table.proofs.Lists.{same_fails, same_runs, unpack_is, unpack_fails, unpack_gives, items_at}
use Rattle.lib_math_table.proofs.unpacking.unpack.Goals as goal

pub returns-in-Err : goal.returns-in-Err
returns-in-Err c = ends _ _ c.in-Err.e _ (c.in-Err.ensures.checks c.args.world.now.names _)

pub table-table-requires : goal.table-table-requires
table-table-requires c = (used_at c.args.world.now _ 0 _ c.requires.args c.in-Ok.ensures.there).0.1

pub number_or-requires-clause-texts : goal.number_or-requires-clause-texts
number_or-requires-clause-texts c = have_texts c.args.world.now c.args.args.now c.requires.args

pub returns-in-Err-number_or : goal.returns-in-Err-number_or
returns-in-Err-number_or c =
    let w = c.args.world.now in
    let may = used_at w _ 0 _ c.requires.args c.in-Ok.ensures.there in
    let e = c.in-Err-number_or.e in
    ends w _ e _ (same_fails w.names _ _ e (unpack_is w c.requires.world c.in-Ok.t may _ c.one.result _ (c.in-Ok.ensures.checks w.names) c.one.ensures refl) (c.in-Err-number_or.ensures _))

pub number_or-requires-2-clause-texts : goal.number_or-requires-2-clause-texts
number_or-requires-2-clause-texts c = have_texts c.args.world.now c.args.args.now c.requires.args

pub returns-in-Err-number_or-2 : goal.returns-in-Err-number_or-2
returns-in-Err-number_or-2 c =
    let w = c.args.world.now in
    let may = used_at w _ 0 _ c.requires.args c.in-Ok.ensures.there in
    let e = c.in-Err-number_or-2.e in
    let end : c.end_of.result ≡ pos (rule.border (table_at w.arena c.in-Ok.t)) = c.end_of.ensures ∙ ap (λ (t : TableView). pos (rule.border t)) c.table-table.ensures in
    ends w _ e _ (same_fails w.names _ _ e (unpack_is w c.requires.world c.in-Ok.t may _ c.one.result c.end_of.result (c.in-Ok.ensures.checks w.names) c.one.ensures end)
    (found_fails _ w.names e c.in-Ok-number_or.ensures (c.in-Err-number_or-2.ensures _)))

pub returns-then-count-gt-MOST_VALUES : goal.returns-then-count-gt-MOST_VALUES
returns-then-count-gt-MOST_VALUES c =
    let w = c.args.world.now in
    let may = used_at w _ 0 _ c.requires.args c.in-Ok.ensures.there in
    let e = RunError TooManyValues in
    let end : c.end_of.result ≡ pos (rule.border (table_at w.arena c.in-Ok.t)) = c.end_of.ensures ∙ ap (λ (t : TableView). pos (rule.border t)) c.table-table.ensures in
    ends w _ e _ (same_fails w.names _ _ e (unpack_is w c.requires.world c.in-Ok.t may _ c.one.result c.end_of.result (c.in-Ok.ensures.checks w.names) c.one.ensures end)
    (found_fails _ w.names e c.in-Ok-number_or.ensures (found_fails _ w.names e c.in-Ok-number_or-2.ensures
    (unpack_fails w c.requires.world c.in-Ok.t may c.in-Ok-number_or.n _ (omega (arith, c.if-count-gt-MOST_VALUES.true, c.count_between-count.ensures.count))))))

pub returns-in-Ok-items : goal.returns-in-Ok-items
returns-in-Ok-items c =
    let w = c.args.world.now in
    let may = used_at w _ 0 _ c.requires.args c.in-Ok.ensures.there in
    let r = c.give_all.result in
    let end : c.end_of.result ≡ pos (rule.border (table_at w.arena c.in-Ok.t)) = c.end_of.ensures ∙ ap (λ (t : TableView). pos (rule.border t)) c.table-table.ensures in
    same_runs w w _ _ r _ _ (unpack_is w c.requires.world c.in-Ok.t may _ c.one.result c.end_of.result (c.in-Ok.ensures.checks w.names) c.one.ensures end)
    (found _ w w _ _ r c.in-Ok-number_or.ensures (found _ w w _ _ r c.in-Ok-number_or-2.ensures
    (unpack_gives w c.requires.world c.in-Ok.t may c.in-Ok-number_or.n _ _ _ c.as_slice.result.now r (omega (arith, c.if-count-gt-MOST_VALUES.false, c.count_between-count.ensures.count))
    (items_at _ (table_at w.arena c.in-Ok.t) _ c.in-Ok-number_or.n _ _ c.as_slice.result.now (c.as_slice.ensures.value ∙ c.in-Ok-items.ensures) c.table-table.ensures refl c.count_between-count.ensures.count) c.give_all.ensures)))
