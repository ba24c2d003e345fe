use Rattle.std.proofs.Common.{◌∙◌, length, sym, ap}
use Rattle.value_arena.specs.Arenas.{table_at}
use Rattle.value_arena.specs.Tables.{TableView}
use Rattle.lib_arguments.proofs.RowsRun.{found, found_fails, ends, used_at, have_texts}
use Rattle.lib_math_table.proofs.Lists.{same_fails, same_runs}
use Rattle.lib_math_table.proofs.Finding.{find_is, some_found, none_found}
use Rattle.table_lists.specs.Lists.{found as found_in}
use Rattle.lib_math_table.proofs.search.find.Goals as goal

pub returns-in-Err : goal.returns-in-Err
returns-in-Err c = ends _ _ c.in-Err.e _ (c.in-Err.ensures.checks c.args.world.now.names _)

pub returns-in-Err-any_at : goal.returns-in-Err-any_at
returns-in-Err-any_at c =
    let w = c.args.world.now in
    let e = c.in-Err-any_at.e in
    let may = used_at w _ 0 _ c.requires.args c.in-Ok.ensures.there in
    ends w _ e _ (found_fails _ w.names e (c.in-Ok.ensures.checks w.names) (c.in-Err-any_at.ensures.checks w.names _))

pub number_or-requires-clause-texts : goal.number_or-requires-clause-texts
number_or-requires-clause-texts c = have_texts c.args.world.now c.args.args.now c.requires.args

pub returns-in-Err-number_or : goal.returns-in-Err-number_or
returns-in-Err-number_or c =
    let w = c.args.world.now in
    let e = c.in-Err-number_or.e in
    let may = used_at w _ 0 _ c.requires.args c.in-Ok.ensures.there in
    ends w _ e _ (same_fails w.names _ _ e (find_is w c.requires.world c.in-Ok.t may _ c.one.result (c.in-Ok.ensures.checks w.names) c.one.ensures)
    (found_fails _ w.names e (c.in-Ok-any_at.ensures.checks w.names) (c.in-Err-number_or.ensures _)))

pub table-requires : goal.table-requires
table-requires c = (used_at c.args.world.now _ 0 _ c.requires.args c.in-Ok.ensures.there).0.1

pub returns-in-Some : goal.returns-in-Some
returns-in-Some c =
    let w = c.args.world.now in
    let r = c.give.result in
    let may = used_at w _ 0 _ c.requires.args c.in-Ok.ensures.there in
    let n = length (table_at w.arena c.in-Ok.t).entries in
    same_runs w w _ _ r _ _ (find_is w c.requires.world c.in-Ok.t may _ c.one.result (c.in-Ok.ensures.checks w.names) c.one.ensures)
    (found _ w w _ _ r (c.in-Ok-any_at.ensures.checks w.names) (found _ w w _ _ r c.in-Ok-number_or.ensures
    (some_found w c.requires.world c.in-Ok.t may n c.in-Ok-any_at.v c.in-Ok-number_or.n c.in-Some.k _ _ r (used_at w _ 1 _ c.requires.args c.in-Ok-any_at.ensures.there)
    (sym c.in-Some.is ∙ c.find.ensures ∙ ap (λ (t : TableView). found_in (length t.entries) t c.in-Ok-any_at.v c.in-Ok-number_or.n) c.table.ensures) c.give.ensures)))

pub returns-in-None : goal.returns-in-None
returns-in-None c =
    let w = c.args.world.now in
    let r = c.give-in-None.result in
    let may = used_at w _ 0 _ c.requires.args c.in-Ok.ensures.there in
    let n = length (table_at w.arena c.in-Ok.t).entries in
    same_runs w w _ _ r _ _ (find_is w c.requires.world c.in-Ok.t may _ c.one.result (c.in-Ok.ensures.checks w.names) c.one.ensures)
    (found _ w w _ _ r (c.in-Ok-any_at.ensures.checks w.names) (found _ w w _ _ r c.in-Ok-number_or.ensures
    (none_found w c.requires.world c.in-Ok.t may n c.in-Ok-any_at.v c.in-Ok-number_or.n _ _ r (used_at w _ 1 _ c.requires.args c.in-Ok-any_at.ensures.there)
    (sym c.in-None.is ∙ c.find.ensures ∙ ap (λ (t : TableView). found_in (length t.entries) t c.in-Ok-any_at.v c.in-Ok-number_or.n) c.table.ensures) c.give-in-None.ensures)))
