use Rattle.std.proofs.Common.{◌≡◌, ◌∙◌, refl, sym, ap, pos, ◌+ℤ◌, rules}
use mir.Syntax.{w64}
use mir.Val.{to_z, of_z}
use Rattle.value_arena.specs.Arenas.{table_at}
use Rattle.value_arena.specs.Tables.{TableView, value_in}
use Rattle.value_model.specs.declared.value.Value.TheVariants as value
use Rattle.lib_arguments.proofs.RowsRun.{found, found_fails, ends, used_at, have_texts}
use Rattle.lib_core.proofs.WalkRows.{iterator_gives}
use Rattle.lib_core.proofs.walk.ipairs_iterator.Goals as goal

pub returns-in-Err : goal.returns-in-Err
returns-in-Err c = ends _ _ c.in-Err.e _ (c.in-Err.ensures.checks c.args.world.now.names _)

pub number_at-requires-clause-texts : goal.number_at-requires-clause-texts
number_at-requires-clause-texts c = have_texts c.args.world.now c.args.args.now c.requires.args

pub returns-in-Err-number_at : goal.returns-in-Err-number_at
returns-in-Err-number_at c =
    let texts = c.args.world.now.names in
    ends _ _ c.in-Err-number_at.e _ (found_fails _ texts _ (c.in-Ok.ensures.checks texts) (c.in-Err-number_at.ensures _))

pub table-requires : goal.table-requires
table-requires c = (used_at c.args.world.now _ 0 _ c.requires.args c.in-Ok.ensures.there).0.1

pub returns-in-Some : goal.returns-in-Some
returns-in-Some c =
    let w = c.args.world.now in
    let back : to_z w64 (of_z w64 c.after-next.result) ≡ c.in-Ok-number_at.last +ℤ pos 1 = search rules in
    let found_item = c.item-item.ensures.value ∙ ap (λ (t : TableView). value_in t.entries (value.Num (to_z w64 (of_z w64 c.after-next.result)))) c.table.ensures ∙ ap (λ z. value_in (table_at w.arena c.in-Ok.t).entries (value.Num z)) back in
    found _ w w _ _ c.give_item.result (c.in-Ok.ensures.checks w.names) (found _ w w _ _ c.give_item.result c.in-Ok-number_at.ensures
    (iterator_gives w c.requires.world _ _ c.give_item.result c.in-Ok.t (c.in-Ok-number_at.last +ℤ pos 1) c.in-Some.k c.item-item.result
    (used_at w _ 0 _ c.requires.args c.in-Ok.ensures.there) found_item (c.in-Some.ensures.1 ∙ back) c.give_item.ensures))

pub returns-in-None : goal.returns-in-None
returns-in-None c =
    let w = c.args.world.now in
    let back : to_z w64 (of_z w64 c.after-next.result) ≡ c.in-Ok-number_at.last +ℤ pos 1 = search rules in
    let found_item = c.item-item.ensures.value ∙ ap (λ (t : TableView). value_in t.entries (value.Num (to_z w64 (of_z w64 c.after-next.result)))) c.table.ensures ∙ ap (λ z. value_in (table_at w.arena c.in-Ok.t).entries (value.Num z)) back in
    found _ w w _ _ c.give.result (c.in-Ok.ensures.checks w.names) (found _ w w _ _ c.give.result c.in-Ok-number_at.ensures
    (iterator_gives w c.requires.world _ _ c.give.result c.in-Ok.t (c.in-Ok-number_at.last +ℤ pos 1) (c.in-Ok-number_at.last +ℤ pos 1) value.Nil
    (used_at w _ 0 _ c.requires.args c.in-Ok.ensures.there) (sym (c.item-item.ensures.beyond c.in-None.ensures) ∙ found_item) refl c.give.ensures))
