use Rattle.std.proofs.Common.{[], map, refl, sym, subst, ap, ◌∙◌, Err}
use Rattle.value_model.specs.CoreRows.{gives}
use Rattle.value_model.specs.Parts.{meant}
use Rattle.value_model.specs.StringRows as row
use Rattle.value_model.specs.Values as m
use Rattle.value_model.specs.Values.{Bytes}
use Rattle.luau_tables.specs.Worlds.{store_in}
use Rattle.lib_arguments.specs.Rows.{Runs}
use Rattle.lib_arguments.proofs.RowsRun.{ends_runs}
use Rattle.lib_string.specs.Codes.{bytes_then}
use Rattle.lib_string.proofs.CodeRows.{char_row, char_bytes}
use Rattle.lib_string.proofs.characters.char_of.Goals as goal

pub returns-in-Err-clause-runs : goal.returns-in-Err-clause-runs
returns-in-Err-clause-runs c =
    let a = c.args.world.now in
    let vs = map (meant a.names) c.args.args.now in
    let rs = c.args.results.now.items in
    let e = c.in-Err.ending in
    subst (λ row. Runs a a rs rs (Err e) row) (sym (char_row (store_in a) vs))
    (ends_runs a a rs e _ refl (c.in-Err.ensures (row.char_texts (store_in a) 0 [])))

pub returns-in-Ok-bytes_of-clause-runs : goal.returns-in-Ok-bytes_of-clause-runs
returns-in-Ok-bytes_of-clause-runs c =
    let a = c.args.world.now in
    let vs = map (meant a.names) c.args.args.now in
    let s = store_in a in
    let zs = c.in-Ok.numbers.items in
    let found = c.in-Ok-bytes_of.ensures a.names (λ bs. gives s (m.Text bs)) in
    subst (λ row. Runs a c.give_text.new.world c.args.results.now.items c.give_text.new.results.items c.give_text.result row)
    (ap (λ (bs : Bytes). gives s (m.Text bs)) c.as_slice-in-Ok-bytes_of.ensures.value
    ∙ sym (char_row s vs ∙ c.in-Ok.ensures (row.char_texts s 0 []) ∙ char_bytes s zs ∙ ap (λ zs. bytes_then 0 [] zs (λ bs. gives s (m.Text bs))) (sym c.as_slice.ensures.value) ∙ found))
    c.give_text.ensures.runs

pub returns-clause-runs : goal.returns-clause-runs
returns-clause-runs c =
    let a = c.args.world.now in
    let vs = map (meant a.names) c.args.args.now in
    let s = store_in a in
    let zs = c.in-Ok.numbers.items in
    let rs = c.args.results.now.items in
    let e = c.in-Err-bytes_of.ending in
    subst (λ row. Runs a a rs rs (Err e) row)
    (sym (char_row s vs ∙ c.in-Ok.ensures (row.char_texts s 0 []) ∙ char_bytes s zs ∙ ap (λ zs. bytes_then 0 [] zs (λ bs. gives s (m.Text bs))) (sym c.as_slice.ensures.value)))
    (ends_runs a a rs e _ refl (c.in-Err-bytes_of.ensures a.names (λ bs. gives s (m.Text bs))))
