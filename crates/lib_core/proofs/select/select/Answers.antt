use Rattle.std.proofs.Common.{◌≡◌, true, false, map, codes, sym, ◌∙◌, ap}
use Rattle.value_model.specs.Arguments as row
use Rattle.value_model.specs.Parts.{meant}
use Rattle.value_model.specs.Tables.{same}
use Rattle.value_model.specs.Values as m
use Rattle.lib_arguments.proofs.RowsRun.{found, found_fails, ends, used_given, have_texts}
use Rattle.lib_core.proofs.SelectRows.{counts, places, place_fails, selects_from, no_place}
use Rattle.lib_core.proofs.select.select.Goals as goal

pub is_hash-requires : goal.is_hash-requires
is_hash-requires c = (used_given c.args.world.now _ 0 _ c.requires.args c.argument_or_nil.ensures.there).1

pub number_at-requires-clause-texts : goal.number_at-requires-clause-texts
number_at-requires-clause-texts c = have_texts c.args.world.now c.args.args.now c.requires.args

pub returns-then-is_hash : goal.returns-then-is_hash
returns-then-is_hash c =
    let w = c.args.world.now in
    let hash : same (row.argument_or_nil (map (meant w.names) c.args.args.now) 0) (m.Text (codes "#")) ≡ true =
    ap (λ v. same v (m.Text (codes "#"))) (sym (c.argument_or_nil.ensures.value w.names)) ∙ sym c.is_hash.ensures ∙ c.if-is_hash.true in
    counts w c.args.args.now _ _ c.give_count.result _ c.behind.result.now hash c.behind.ensures c.give_count.ensures

pub returns-in-Err : goal.returns-in-Err
returns-in-Err c =
    let w = c.args.world.now in
    let place : same (row.argument_or_nil (map (meant w.names) c.args.args.now) 0) (m.Text (codes "#")) ≡ false =
    ap (λ v. same v (m.Text (codes "#"))) (sym (c.argument_or_nil.ensures.value w.names)) ∙ sym c.is_hash.ensures ∙ c.if-is_hash.false in
    ends w _ c.in-Err.e _ (place_fails w c.args.args.now c.in-Err.e _ place (c.in-Err.ensures _))

pub returns-in-Some : goal.returns-in-Some
returns-in-Some c =
    let w = c.args.world.now in
    let place : same (row.argument_or_nil (map (meant w.names) c.args.args.now) 0) (m.Text (codes "#")) ≡ false =
    ap (λ v. same v (m.Text (codes "#"))) (sym (c.argument_or_nil.ensures.value w.names)) ∙ sym c.is_hash.ensures ∙ c.if-is_hash.false in
    places w c.args.args.now _ _ c.give_all.result _ place
    (found _ w w _ _ c.give_all.result c.in-Ok.ensures
    (selects_from w c.args.args.now c.in-Ok.place c.behind-values.result.now c.behind-values.ensures _ _ c.give_all.result c.in-Some.first c.behind-in-Some.result.now c.requires.args c.in-Some.ensures c.behind-in-Some.ensures c.give_all.ensures))

pub returns-in-None : goal.returns-in-None
returns-in-None c =
    let w = c.args.world.now in
    let place : same (row.argument_or_nil (map (meant w.names) c.args.args.now) 0) (m.Text (codes "#")) ≡ false =
    ap (λ v. same v (m.Text (codes "#"))) (sym (c.argument_or_nil.ensures.value w.names)) ∙ sym c.is_hash.ensures ∙ c.if-is_hash.false in
    ends w _ c.out_of_range.result _ (place_fails w c.args.args.now c.out_of_range.result _ place
    (found_fails _ w.names c.out_of_range.result c.in-Ok.ensures
    (no_place w c.args.args.now c.in-Ok.place c.behind-values.result.now c.behind-values.ensures c.out_of_range.result c.in-None.ensures (c.out_of_range.ensures w.names))))
