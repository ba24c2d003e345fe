use Rattle.std.proofs.Common.{◌≡◌, ◌<◌, [], length, sym, subst, arith, ap, ◌∙◌}
use Rattle.std.proofs.lemmas.Bool.Decides.{nat_tests}
use Rattle.std.proofs.lemmas.Option.{get_or_from_slice_get}
use Rattle.value_model.specs.Parts.{meant_error}
use Rattle.value_model.specs.StringRows.{rep_text}
use Rattle.value_model.specs.Values.{Bytes}
use Rattle.value_model.specs.declared.error.RunErr.TheVariants.{StringTooLarge}
use Rattle.luau_tables.specs.Worlds.{store_in}
use Rattle.lib_arguments.specs.Rows.{Runs}
use Rattle.lib_string.proofs.RepeatedRows.{nothing_repeated, text_repeated, too_much_repeated}
use Rattle.lib_string.proofs.WholeRows.{error_ends, text_of}
use Rattle.lib_string.proofs.repetition.rep_text.Goals as goal

pub returns-then-is_empty-clause-runs : goal.returns-then-is_empty-clause-runs
returns-then-is_empty-clause-runs c =
    let a = c.args.world.now in
    let is = get_or_from_slice_get a.names c.args.text.0 c.bytes-bytes.result.now [] c.bytes-bytes.ensures.text in
    let none : length (text_of a c.args.text) ≡ 0 = ap length is ∙ grind (arith, nat_tests) in
    subst (λ row. Runs a c.give_text.new.world c.args.results.now.items c.give_text.new.results.items c.give_text.result row)
    (nothing_repeated (store_in a) (text_of a c.args.text) c.args.count none) c.give_text.ensures.runs

pub returns-then-count-bytes-clause-runs : goal.returns-then-count-bytes-clause-runs
unfolding meant_error
returns-then-count-bytes-clause-runs c =
    let a = c.args.world.now in
    let bs = c.bytes-bytes.result.now in
    let is = get_or_from_slice_get a.names c.args.text.0 bs [] c.bytes-bytes.ensures.text in
    let some : 0 < length bs = grind (arith, nat_tests) in
    error_ends a c.args.results.now.items StringTooLarge _ tt
    (ap (λ (bs : Bytes). rep_text (store_in a) bs c.args.count) is ∙ too_much_repeated (store_in a) bs c.args.count some c.if-count-bytes.true)

pub returns-clause-runs : goal.returns-clause-runs
returns-clause-runs c =
    let a = c.args.world.now in
    let bs = c.bytes-bytes.result.now in
    let is = get_or_from_slice_get a.names c.args.text.0 bs [] c.bytes-bytes.ensures.text in
    let some : 0 < length bs = grind (arith, nat_tests) in
    subst (λ row. Runs a c.give_made.new.world c.args.results.now.items c.give_made.new.results.items c.give_made.result row)
    (text_repeated (store_in a) bs c.args.count some c.if-count-bytes.false ∙ ap (λ (bs : Bytes). rep_text (store_in a) bs c.args.count) (sym is))
    (c.give_made.ensures.runs _ c.repeated.ensures)
