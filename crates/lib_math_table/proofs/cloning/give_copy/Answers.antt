use Rattle.std.proofs.Common.{◌≡◌, ◌∙◌, None, take, ap}
use Rattle.value_arena.specs.Arenas.{table_at}
use Rattle.value_arena.specs.Tables.{TableView}
use Rattle.table_lists.specs.Lists.{filled}
use Rattle.lib_math_table.proofs.Copied.{table_with, copy_is, copy_keeps, begun_keeps}
use Rattle.lib_math_table.proofs.Made as made
use Rattle.lib_math_table.proofs.cloning.give_copy.Goals as goal

pub put_entries-requires-clause-empty : goal.put_entries-requires-clause-empty
put_entries-requires-clause-empty c =
    ap (λ (t : TableView). t.entries)
    (c.table_mut.ensures.value ∙ made.is_new c.args.world.now c.new_table.new.self c.in-Ok-new_table.copy c.in-Ok-new_table.ensures.made c.in-Ok-new_table.ensures.id c.in-Ok-new_table.ensures.there)

pub returns-in-Ok-put_entries-clause-runs : goal.returns-in-Ok-put_entries-clause-runs
returns-in-Ok-put_entries-clause-runs c =
    let w = c.args.world.now in
    let old = table_at w.arena c.args.t in
    let is_made = c.in-Ok-new_table.ensures.made in
    let is_next = c.in-Ok-new_table.ensures.id in
    let is_there = c.in-Ok-new_table.ensures.there in
    let there = made.there_is w c.new_table.new.self c.in-Ok-new_table.copy is_made is_next is_there in
    let now = made.is_new w c.new_table.new.self c.in-Ok-new_table.copy is_made is_next is_there in
    let is : c.put_entries.new.table ≡ table_with (filled old.entries) old.meta =
    c.in-Ok-put_entries.ensures.ok
    ∙ ap (λ (t : TableView). record t { entries = c.as_slice.result.now; meta = c.meta-meta.result }) (c.table_mut.ensures.value ∙ now)
    ∙ ap (λ es. table_with es c.meta-meta.result) (c.as_slice.ensures.value ∙ c.in-Ok.ensures.entries
    ∙ ap (λ (t : TableView). filled t.entries) c.table.ensures)
    ∙ ap (table_with (filled old.entries)) (c.meta-meta.ensures ∙ ap (λ (t : TableView). t.meta) c.table-2.ensures) in
    made.made_at w c.requires.world c.new_table.new.self c.in-Ok-new_table.copy c.put_entries.new.table
    (table_with (filled old.entries) old.meta) _ _ _ c.give.result is_made is_next is_there is
    (copy_keeps w c.requires.world there c.args.t c.requires.table) (copy_is w c.requires.world c.args.t c.requires.table) c.give.ensures

pub returns-in-Ok-put_entries-clause-keeps : goal.returns-in-Ok-put_entries-clause-keeps
returns-in-Ok-put_entries-clause-keeps c =
    let w = c.args.world.now in
    let old = table_at w.arena c.args.t in
    let is_made = c.in-Ok-new_table.ensures.made in
    let is_next = c.in-Ok-new_table.ensures.id in
    let is_there = c.in-Ok-new_table.ensures.there in
    let there = made.there_is w c.new_table.new.self c.in-Ok-new_table.copy is_made is_next is_there in
    let now = made.is_new w c.new_table.new.self c.in-Ok-new_table.copy is_made is_next is_there in
    let is : c.put_entries.new.table ≡ table_with (filled old.entries) old.meta =
    c.in-Ok-put_entries.ensures.ok
    ∙ ap (λ (t : TableView). record t { entries = c.as_slice.result.now; meta = c.meta-meta.result }) (c.table_mut.ensures.value ∙ now)
    ∙ ap (λ es. table_with es c.meta-meta.result) (c.as_slice.ensures.value ∙ c.in-Ok.ensures.entries
    ∙ ap (λ (t : TableView). filled t.entries) c.table.ensures)
    ∙ ap (table_with (filled old.entries)) (c.meta-meta.ensures ∙ ap (λ (t : TableView). t.meta) c.table-2.ensures) in
    made.kept_at w c.requires.world c.new_table.new.self c.in-Ok-new_table.copy c.put_entries.new.table
    (table_with (filled old.entries) old.meta) is_made is_next is (copy_keeps w c.requires.world there c.args.t c.requires.table)

pub returns-clause-keeps : goal.returns-clause-keeps
returns-clause-keeps c =
    let w = c.args.world.now in
    let old = table_at w.arena c.args.t in
    let is_made = c.in-Ok-new_table.ensures.made in
    let is_next = c.in-Ok-new_table.ensures.id in
    let is_there = c.in-Ok-new_table.ensures.there in
    let there = made.there_is w c.new_table.new.self c.in-Ok-new_table.copy is_made is_next is_there in
    let now = made.is_new w c.new_table.new.self c.in-Ok-new_table.copy is_made is_next is_there in
    let begun = c.in-Err-put_entries.ensures.err in
    let is : c.put_entries.new.table ≡ table_with (take begun.count (filled old.entries)) None =
    begun.is
    ∙ ap (λ (t : TableView). record t { entries = take begun.count c.as_slice.result.now }) (c.table_mut.ensures.value ∙ now)
    ∙ ap (λ es. table_with (take begun.count es) None) (c.as_slice.ensures.value ∙ c.in-Ok.ensures.entries
    ∙ ap (λ (t : TableView). filled t.entries) c.table.ensures) in
    made.kept_at w c.requires.world c.new_table.new.self c.in-Ok-new_table.copy c.put_entries.new.table
    (table_with (take begun.count (filled old.entries)) None) is_made is_next is
    (begun_keeps w c.requires.world there c.args.t c.requires.table begun.count)
