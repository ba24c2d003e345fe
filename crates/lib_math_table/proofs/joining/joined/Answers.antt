use Rattle.std.proofs.Common.{◌∙◌, ◌<◌, ◌≤◌, map, length, sym, subst, arith}
use Rattle.value_model.specs.Parts.{meant}
use Rattle.value_model.specs.Metamethods.{longest_string}
use Rattle.value_model.specs.StringRows.{count_between}
use Rattle.value_model.specs.declared.error.RunErr.TheVariants.{StringTooLarge}
use Rattle.value_arena.specs.Tables.{TableView}
use Rattle.luau_tables.specs.Own.{HasText}
use Rattle.luau_tables.specs.Part.{OfTable}
use Rattle.luau_tables.specs.Worlds.{store_in}
use Rattle.lib_arguments.specs.declared.ending.Ending.TheVariants.{RunError}
use Rattle.table_lists.specs.Lists.{items}
use Rattle.lib_math_table.proofs.ElementTexts.{joins_there, gives_joined, joined_fails, table_texts}
use Rattle.lib_math_table.proofs.Lists.{same_fails}
use Rattle.lib_math_table.proofs.joining.joined.Goals as goal

pub table-table-requires : goal.table-table-requires
table-table-requires c = c.requires.table.0.1

pub join-requires-clause-texts : goal.join-requires-clause-texts
join-requires-clause-texts c =
    let w = c.args.world.now in
    subst (λ (t : TableView). OfTable (HasText w.names) t) (sym c.table-table.ensures) (table_texts w c.requires.world c.args.t c.requires.table)

pub returns-in-Err : goal.returns-in-Err
returns-in-Err c =
    let w = c.args.world.now in
    let there = joins_there w c.requires.world c.args.t c.requires.table c.table-table.result.now c.args.separator.0 c.bytes.result.now c.args.first c.count_between-count.result (count_between c.args.first c.args.last) c.table-table.ensures c.bytes.ensures.text c.count_between-count.ensures.count in
    same_fails w.names _ _ c.in-Err.e there (c.in-Err.ensures (store_in w))

pub returns-then-len-gt-LONGEST_STRING : goal.returns-then-len-gt-LONGEST_STRING
returns-then-len-gt-LONGEST_STRING c =
    let w = c.args.world.now in
    let there = joins_there w c.requires.world c.args.t c.requires.table c.table-table.result.now c.args.separator.0 c.bytes.result.now c.args.first c.count_between-count.result (count_between c.args.first c.args.last) c.table-table.ensures c.bytes.ensures.text c.count_between-count.ensures.count in
    let over : longest_string < length c.join.new.text.items = omega (arith, c.len.ensures, c.join.new.text.ok.0, c.if-len-gt-LONGEST_STRING.true) in
    same_fails w.names _ _ (RunError StringTooLarge) there
    (joined_fails w.names (store_in w) c.bytes.result.now c.args.first (map (meant w.names)
    (items c.table-table.result.now c.args.first c.count_between-count.result)) c.join.new.text.items c.in-Ok.ensures over)

pub returns : goal.returns
returns c =
    let w = c.args.world.now in
    let there = joins_there w c.requires.world c.args.t c.requires.table c.table-table.result.now c.args.separator.0 c.bytes.result.now c.args.first c.count_between-count.result (count_between c.args.first c.args.last) c.table-table.ensures c.bytes.ensures.text c.count_between-count.ensures.count in
    let within : length c.join.new.text.items ≤ longest_string = omega (arith, c.len.ensures, c.join.new.text.ok.0, c.if-len-gt-LONGEST_STRING.false) in
    there
    ∙ gives_joined (store_in w) c.bytes.result.now c.args.first (map (meant w.names)
    (items c.table-table.result.now c.args.first c.count_between-count.result)) c.join.new.text.items c.in-Ok.ensures within
