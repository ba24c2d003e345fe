use Rattle.std.proofs.Common.{[], subst, sym, ap, ◌∙◌}
use Rattle.std.proofs.lemmas.Option.{get_or_from_slice_get}
use Rattle.value_model.specs.Parts.{meant_error}
use Rattle.value_model.specs.StringRows as row
use Rattle.value_model.specs.Values.{Bytes}
use Rattle.value_model.specs.declared.error.RunErr.TheVariants.{TooManyValues}
use Rattle.luau_tables.specs.Worlds.{store_in}
use Rattle.lib_arguments.specs.Rows.{Runs}
use Rattle.lib_string.proofs.CodeValues.{bytes_given, too_many}
use Rattle.lib_string.proofs.WholeRows.{error_ends}
use Rattle.lib_string.proofs.characters.byte_values.Goals as goal

pub returns-then-bytes-gt-MOST_VALUES : goal.returns-then-bytes-gt-MOST_VALUES
unfolding meant_error
returns-then-bytes-gt-MOST_VALUES c =
    let w = c.args.world.now in
    let part = c.bytes_between-bytes.result.now in
    let is = get_or_from_slice_get w.names c.args.text.0 c.bytes.result.now [] c.bytes.ensures.text in
    error_ends w c.args.results.now.items TooManyValues _ tt
    (ap (λ (bs : Bytes). row.byte_values (store_in w) (row.bytes_between bs c.args.first c.args.last)) is
    ∙ ap (λ (bs : Bytes). row.byte_values (store_in w) bs) (sym c.bytes_between-bytes.ensures)
    ∙ too_many (store_in w) part c.if-bytes-gt-MOST_VALUES.true)

pub returns : goal.returns
returns c =
    let w = c.args.world.now in
    let part = c.bytes_between-bytes.result.now in
    let rs' = c.give_bytes.new.results.items in
    let is = get_or_from_slice_get w.names c.args.text.0 c.bytes.result.now [] c.bytes.ensures.text in
    subst (λ (bs : Bytes). Runs w w c.args.results.now.items rs' c.give_bytes.result (row.byte_values (store_in w) bs))
    (c.bytes_between-bytes.ensures ∙ ap (λ (bs : Bytes). row.bytes_between bs c.args.first c.args.last) (sym is))
    (bytes_given w c.args.results.now.items rs' part c.give_bytes.result c.if-bytes-gt-MOST_VALUES.false c.give_bytes.ensures)
