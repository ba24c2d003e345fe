use Rattle.std.proofs.Common.{◌≡◌, ◌∙◌, pos, map, ap, sym, refl}
use Rattle.value_model.specs.CoreRows as core
use Rattle.value_model.specs.Parts.{bytes_at, meant}
use Rattle.value_model.specs.Values as m
use Rattle.value_arena.specs.Arenas.{table_at}
use Rattle.value_arena.specs.Tables.{TableView}
use Rattle.luau_tables.specs.Rules as rule
use Rattle.luau_tables.specs.Worlds.{store_in}
use Rattle.lib_arguments.proofs.RowsRun.{found, found_fails, ends, have_texts}
use Rattle.lib_math_table.proofs.ElementTexts.{joined_from_is}
use Rattle.lib_math_table.proofs.Lists.{same_fails, same_runs}
use Rattle.lib_math_table.proofs.joining.concat_with.Goals as goal

pub number_or-requires-clause-texts : goal.number_or-requires-clause-texts
number_or-requires-clause-texts c = have_texts c.args.world.now c.args.args.now c.requires.args

pub number_or-requires-2-clause-texts : goal.number_or-requires-2-clause-texts
number_or-requires-2-clause-texts c = have_texts c.args.world.now c.args.args.now c.requires.args

pub returns-in-Err-clause-runs : goal.returns-in-Err-clause-runs
returns-in-Err-clause-runs c =
    let w = c.args.world.now in
    let e = c.in-Err.e in
    ends w _ e _ (same_fails w.names _ _ e (joined_from_is w c.requires.world c.args.t c.requires.table (bytes_at w.names c.args.separator.0)
    (map (meant w.names) c.args.args.now) c.one.result _ c.one.ensures refl) (c.in-Err.ensures _))

pub table-requires : goal.table-requires
table-requires c = c.requires.table.0.1

pub returns-in-Err-number_or-clause-runs : goal.returns-in-Err-number_or-clause-runs
returns-in-Err-number_or-clause-runs c =
    let w = c.args.world.now in
    let e = c.in-Err-number_or.e in
    let end : c.end_of-end.result ≡ pos (rule.border (table_at w.arena c.args.t)) = c.end_of-end.ensures
    ∙ ap (λ (t : TableView). pos (rule.border t)) c.table.ensures in
    ends w _ e _ (same_fails w.names _ _ e (joined_from_is w c.requires.world c.args.t c.requires.table (bytes_at w.names c.args.separator.0)
    (map (meant w.names) c.args.args.now) c.one.result c.end_of-end.result c.one.ensures end)
    (found_fails _ w.names e c.in-Ok.ensures (c.in-Err-number_or.ensures _)))

pub returns-in-Ok-joined-clause-runs : goal.returns-in-Ok-joined-clause-runs
returns-in-Ok-joined-clause-runs c =
    let w = c.args.world.now in
    let u = c.give_text.new.world in
    let r = c.give_text.result in
    let end : c.end_of-end.result ≡ pos (rule.border (table_at w.arena c.args.t)) = c.end_of-end.ensures
    ∙ ap (λ (t : TableView). pos (rule.border t)) c.table.ensures in
    same_runs w u _ _ r _ _ (joined_from_is w c.requires.world c.args.t c.requires.table (bytes_at w.names c.args.separator.0)
    (map (meant w.names) c.args.args.now) c.one.result c.end_of-end.result c.one.ensures end)
    (found _ w u _ _ r c.in-Ok.ensures (found _ w u _ _ r c.in-Ok-number_or.ensures
    (same_runs w u _ _ r _ _ (c.in-Ok-joined.ensures ∙ ap (λ bs. core.gives (store_in w) (m.Text bs))
    (sym c.as_slice.ensures.value)) c.give_text.ensures.runs)))

pub returns-in-Err-joined-clause-runs : goal.returns-in-Err-joined-clause-runs
returns-in-Err-joined-clause-runs c =
    let w = c.args.world.now in
    let e = c.in-Err-joined.e in
    let end : c.end_of-end.result ≡ pos (rule.border (table_at w.arena c.args.t)) = c.end_of-end.ensures
    ∙ ap (λ (t : TableView). pos (rule.border t)) c.table.ensures in
    ends w _ e _ (same_fails w.names _ _ e (joined_from_is w c.requires.world c.args.t c.requires.table (bytes_at w.names c.args.separator.0)
    (map (meant w.names) c.args.args.now) c.one.result c.end_of-end.result c.one.ensures end)
    (found_fails _ w.names e c.in-Ok.ensures (found_fails _ w.names e c.in-Ok-number_or.ensures c.in-Err-joined.ensures)))
