use Rattle.std.proofs.Common.{◌∙◌, ap, subst, pos, [], ◌∷◌}
use Rattle.luau_tables.specs.Worlds.{MayUseIn}
use Rattle.value_arena.specs.Tables.{TableView, border_of}
use Rattle.value_model.specs.declared.value.Value.TheVariants as value
use Rattle.lib_arguments.specs.Rows.{Gives}
use Rattle.lib_arguments.proofs.RowsRun.{found, found_fails, ends, used_at}
use Rattle.lib_core.proofs.RawRows.{rawlen_table, rawlen_text, no_length}
use Rattle.lib_core.proofs.raw.rawlen.Goals as goal

pub returns-in-Err : goal.returns-in-Err
returns-in-Err c = ends _ _ c.in-Err.e _ (c.in-Err.ensures.checks c.args.world.now.names _)

pub table-requires : goal.table-requires
table-requires c = let w = c.args.world.now in (subst (MayUseIn w) c.in-Table.is (used_at w _ 0 _ c.requires.args c.in-Ok.ensures.there)).0.1

pub bytes-requires : goal.bytes-requires
bytes-requires c = let w = c.args.world.now in (subst (MayUseIn w) c.in-Str.is (used_at w _ 0 _ c.requires.args c.in-Ok.ensures.there)).1

pub returns-in-Table : goal.returns-in-Table
returns-in-Table c =
    let w = c.args.world.now in
    let border = c.border.ensures ∙ ap (λ (t : TableView). border_of t.entries) c.table.ensures in
    found _ w w _ _ c.give_count.result (c.in-Ok.ensures.checks w.names)
    (rawlen_table w c.requires.world _ _ _ c.in-Table.t c.in-Ok.v (subst (MayUseIn w) c.in-Table.is (used_at w _ 0 _ c.requires.args c.in-Ok.ensures.there)) c.in-Table.is
    (subst (λ n. Gives c.args.results.now.items c.give_count.new.results.items (value.Num (pos n) ∷ []) c.give_count.result) border c.give_count.ensures))

pub returns-in-Str : goal.returns-in-Str
returns-in-Str c =
    let w = c.args.world.now in
    found _ w w _ _ c.give_count-in-Str.result (c.in-Ok.ensures.checks w.names)
    (rawlen_text w c.requires.world _ _ _ c.in-Str.id c.bytes.result.now c.in-Ok.v c.in-Str.is c.bytes.ensures.text c.give_count-in-Str.ensures)

pub returns-in_default : goal.returns-in_default
returns-in_default c =
    let w = c.args.world.now in
    ends w _ _ _ (found_fails _ w.names _ (c.in-Ok.ensures.checks w.names)
    (no_length w c.in-Ok.v c.invalid.result c.in_default.not-Table c.in_default.not-Str (c.invalid.ensures w.names)))
