use Rattle.std.proofs.Common.{◌∙◌, ap}
use Rattle.value_arena.specs.Tables.{TableView, value_in}
use Rattle.lib_arguments.proofs.RowsRun.{found, found_fails, ends, used_at}
use Rattle.lib_core.proofs.RawRows.{rawget_gives}
use Rattle.lib_core.proofs.raw.rawget.Goals as goal

pub returns-in-Err : goal.returns-in-Err
returns-in-Err c = ends _ _ c.in-Err.e _ (c.in-Err.ensures.checks c.args.world.now.names _)

pub returns-in-Err-any_at : goal.returns-in-Err-any_at
returns-in-Err-any_at c =
    let texts = c.args.world.now.names in
    ends _ _ c.in-Err-any_at.e _ (found_fails _ texts _ (c.in-Ok.ensures.checks texts) (c.in-Err-any_at.ensures.checks texts _))

pub table-requires : goal.table-requires
table-requires c = (used_at c.args.world.now _ 0 _ c.requires.args c.in-Ok.ensures.there).0.1

pub returns : goal.returns
returns c =
    let w = c.args.world.now in
    found _ w w _ _ c.give.result (c.in-Ok.ensures.checks w.names)
    (found _ w w _ _ c.give.result (c.in-Ok-any_at.ensures.checks w.names)
    (rawget_gives w c.requires.world _ _ _ c.in-Ok.t c.in-Ok-any_at.key c.value.result
    (used_at w _ 0 _ c.requires.args c.in-Ok.ensures.there) (used_at w _ 1 _ c.requires.args c.in-Ok-any_at.ensures.there)
    (c.value.ensures ∙ ap (λ (t : TableView). value_in t.entries c.in-Ok-any_at.key) c.table.ensures) c.give.ensures))
