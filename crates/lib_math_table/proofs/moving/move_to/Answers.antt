use Rattle.std.proofs.Common.{◌≡◌, ◌∙◌, ◌^◌, ◌+◌, false, pos, ◌+ℤ◌, length, ap, sym, subst, refl, arith}
use Rattle.std.proofs.lemmas.Int.{ints}
use Rattle.std.specs.Prelude.{◌≤ℤ◌}
use Rattle.std.specs.List.{AllByRecursion}
use Rattle.whole_num.specs.Whole.{IsWhole}
use Rattle.value_arena.specs.Arenas.{table_at}
use Rattle.value_arena.specs.Tables.{TableView}
use Rattle.value_model.specs.StringRows.{count_between}
use Rattle.value_model.specs.declared.error.RunErr.TheVariants.{ReadonlyTable, TooManyValues}
use Rattle.whole_num.specs.declared.arithmetic.Stop.TheVariants.{OutOfRange}
use Rattle.luau_tables.specs.Worlds.{MayUseIn}
use Rattle.luau_tables.proofs.WorldsKept.{keeps_self}
use Rattle.lib_arguments.specs.declared.ending.Ending.TheVariants.{RunError, Stop}
use Rattle.lib_arguments.proofs.RowsRun.{ends}
use Rattle.table_lists.specs.Lists.{put_all, Began}
use Rattle.table_lists.proofs.Rows.{length_items}
use Rattle.lib_math_table.proofs.Inserting.{began_keeps, items_used}
use Rattle.lib_math_table.proofs.Lists.{items_at}
use Rattle.lib_math_table.proofs.Moved.{move_fails, move_frozen, move_none, move_stops, move_runs, values_keep}
use Rattle.lib_math_table.proofs.moving.move_to.Goals as goal

pub returns-then-count-gt-MOST_ELEMENTS-clause-runs : goal.returns-then-count-gt-MOST_ELEMENTS-clause-runs
returns-then-count-gt-MOST_ELEMENTS-clause-runs c =
    let w = c.args.world.now in
    ends w _ (RunError TooManyValues) _
    (move_fails w c.requires.world c.args.t c.args.to c.requires.from c.requires.to c.args.first c.args.at (count_between c.args.first c.args.last) (omega (arith, c.if-count-gt-MOST_ELEMENTS.true, c.count_between-count.ensures.count)))

pub returns-then-is_frozen-clause-runs : goal.returns-then-is_frozen-clause-runs
returns-then-is_frozen-clause-runs c =
    let w = c.args.world.now in
    ends w _ (RunError ReadonlyTable) _
    (move_frozen w c.requires.world c.args.t c.args.to c.requires.from c.requires.to c.args.first c.args.at (count_between c.args.first c.args.last) (omega (arith, c.if-count-gt-MOST_ELEMENTS.false, c.count_between-count.ensures.count))
    (ap (λ (t : TableView). t.is_frozen) (sym c.table.ensures) ∙ sym c.is_frozen.ensures ∙ c.if-is_frozen.true))

pub returns-then-count-eq0-clause-runs : goal.returns-then-count-eq0-clause-runs
returns-then-count-eq0-clause-runs c =
    let w = c.args.world.now in
    let thawed : (table_at w.arena c.args.to).is_frozen ≡ false = ap (λ (t : TableView). t.is_frozen) (sym c.table.ensures) ∙ sym c.is_frozen.ensures ∙ c.if-is_frozen.false in
    move_none w c.requires.world c.args.t c.args.to c.requires.from c.requires.to c.args.first c.args.at (count_between c.args.first c.args.last) _ _ c.give.result (omega (arith, c.if-count-gt-MOST_ELEMENTS.false, c.count_between-count.ensures.count)) thawed
    (sym c.count_between-count.ensures.count ∙ c.if-count-eq0.true) c.give.ensures

pub returns-then-get-count-gt-GREATEST-clause-runs : goal.returns-then-get-count-gt-GREATEST-clause-runs
returns-then-get-count-gt-GREATEST-clause-runs c =
    let w = c.args.world.now in
    let thawed : (table_at w.arena c.args.to).is_frozen ≡ false = ap (λ (t : TableView). t.is_frozen) (sym c.table.ensures) ∙ sym c.is_frozen.ensures ∙ c.if-is_frozen.false in
    let whole : IsWhole c.args.at = subst IsWhole c.get.ensures.value c.get.ensures.range in
    ends w _ (Stop OutOfRange) _
    (move_stops w c.requires.world c.args.t c.args.to c.requires.from c.requires.to c.args.first c.args.at (count_between c.args.first c.args.last) (omega (arith, c.if-count-gt-MOST_ELEMENTS.false, c.count_between-count.ensures.count)) thawed
    (λ e. c.if-count-eq0.false (c.count_between-count.ensures.count ∙ e)) whole (omega (arith, ints, c.count_between-count.ensures.count)))

pub returns-then-get-count-gt-GREATEST-clause-keeps : goal.returns-then-get-count-gt-GREATEST-clause-keeps
returns-then-get-count-gt-GREATEST-clause-keeps c = keeps_self c.args.world.now c.requires.world

pub items-requires : goal.items-requires
items-requires c = omega (arith, ints, c.count_between-count.ensures.within)

pub returns-in-Err-clause-keeps : goal.returns-in-Err-clause-keeps
returns-in-Err-clause-keeps c = keeps_self c.args.world.now c.requires.world

pub put_all-requires : goal.put_all-requires
put_all-requires c =
    let count = ap length (c.as_slice.ensures.value ∙ c.in-Ok.ensures) ∙ length_items c.table-2.result.now c.args.first c.count_between-count.result in
    omega (arith, ints, count, c.if-get-count-gt-GREATEST.false, c.get.ensures.value)

pub returns-in-Ok-put_all-clause-runs : goal.returns-in-Ok-put_all-clause-runs
returns-in-Ok-put_all-clause-runs c =
    let w = c.args.world.now in
    let vs = c.as_slice.result.now in
    let n = count_between c.args.first c.args.last in
    let thawed : (table_at w.arena c.args.to).is_frozen ≡ false = ap (λ (t : TableView). t.is_frozen) (sym c.table.ensures) ∙ sym c.is_frozen.ensures ∙ c.if-is_frozen.false in
    let whole : IsWhole c.args.at = subst IsWhole c.get.ensures.value c.get.ensures.range in
    let within : (c.args.at +ℤ pos n) ≤ℤ pos (2 ^ 53 + 1) = omega (arith, ints, c.count_between-count.ensures.count, c.if-get-count-gt-GREATEST.false, c.get.ensures.value) in
    move_runs w c.requires.world c.args.t c.args.to c.requires.from c.requires.to c.args.first c.args.at n c.put_all.new.table vs _ _ c.give-in-Ok-put_all.result
    (omega (arith, c.if-count-gt-MOST_ELEMENTS.false, c.count_between-count.ensures.count)) thawed (λ e. c.if-count-eq0.false (c.count_between-count.ensures.count ∙ e)) whole within
    (items_at c.table-2.result.now (table_at w.arena c.args.t) c.args.first c.args.first c.count_between-count.result n vs (c.as_slice.ensures.value ∙ c.in-Ok.ensures) c.table-2.ensures refl c.count_between-count.ensures.count)
    (c.in-Ok-put_all.ensures.ok ∙ ap (λ t. put_all t c.args.at vs) c.table_mut.ensures.value) c.give-in-Ok-put_all.ensures

pub returns-in-Ok-put_all-clause-keeps : goal.returns-in-Ok-put_all-clause-keeps
returns-in-Ok-put_all-clause-keeps c =
    let w = c.args.world.now in
    let vs = c.as_slice.result.now in
    let n = c.count_between-count.result in
    let thawed : (table_at w.arena c.args.to).is_frozen ≡ false = ap (λ (t : TableView). t.is_frozen) (sym c.table.ensures) ∙ sym c.is_frozen.ensures ∙ c.if-is_frozen.false in
    let read = items_at c.table-2.result.now (table_at w.arena c.args.t) c.args.first c.args.first n n vs (c.as_slice.ensures.value ∙ c.in-Ok.ensures) c.table-2.ensures refl refl in
    values_keep w c.requires.world c.args.to c.requires.to c.args.at vs c.put_all.new.table thawed (subst (AllByRecursion (MayUseIn w)) (sym read) (items_used w c.requires.world c.args.t c.requires.from c.args.first n))
    (c.in-Ok-put_all.ensures.ok ∙ ap (λ t. put_all t c.args.at vs) c.table_mut.ensures.value)

pub returns-clause-keeps : goal.returns-clause-keeps
returns-clause-keeps c =
    let w = c.args.world.now in
    let vs = c.as_slice.result.now in
    let n = c.count_between-count.result in
    let thawed : (table_at w.arena c.args.to).is_frozen ≡ false = ap (λ (t : TableView). t.is_frozen) (sym c.table.ensures) ∙ sym c.is_frozen.ensures ∙ c.if-is_frozen.false in
    let read = items_at c.table-2.result.now (table_at w.arena c.args.t) c.args.first c.args.first n n vs (c.as_slice.ensures.value ∙ c.in-Ok.ensures) c.table-2.ensures refl refl in
    began_keeps w c.requires.world c.args.to c.requires.to c.put_all.new.table c.args.at vs thawed (subst (AllByRecursion (MayUseIn w)) (sym read) (items_used w c.requires.world c.args.t c.requires.from c.args.first n))
    (subst (λ t. Began t c.put_all.new.table c.args.at vs) c.table_mut.ensures.value c.in-Err-put_all.ensures.err)

pub returns-then-count-gt-MOST_ELEMENTS-clause-keeps : goal.returns-then-count-gt-MOST_ELEMENTS-clause-keeps
returns-then-count-gt-MOST_ELEMENTS-clause-keeps c = keeps_self c.args.world.now c.requires.world

pub returns-then-is_frozen-clause-keeps : goal.returns-then-is_frozen-clause-keeps
returns-then-is_frozen-clause-keeps c = keeps_self c.args.world.now c.requires.world
