use Rattle.std.proofs.Common.{[], map, subst, sym, ◌∙◌}
use Rattle.std.proofs.lemmas.Option.{get_or_from_slice_get}
use Rattle.value_model.specs.FormatRows as row
use Rattle.value_model.specs.Parts.{meant}
use Rattle.value_model.specs.Values.{Bytes}
use Rattle.value_model.specs.declared.builtin.Builtin.TheVariants.{StringFormat}
use Rattle.luau_tables.specs.Worlds.{store_in}
use Rattle.lib_string.specs.Answering.{AnswersOrEnds}
use Rattle.lib_string.proofs.FormatAnswers.{format_rest, text_answers}
use Rattle.lib_string.proofs.WholeRows.{text_ends}
use Rattle.lib_string.proofs.format.format.Goals as goal

pub returns-in-Err-clause-answers : goal.returns-in-Err-clause-answers
returns-in-Err-clause-answers c =
    text_ends StringFormat format_rest c.args.world.now c.text_at.new.world c.args.args.now c.requires.world c.in-Err.ensures.reads c.args.results.now.items c.in-Err.ending c.in-Err.ensures.checks

pub returns-in-Ok-copied-clause-answers : goal.returns-in-Ok-copied-clause-answers
returns-in-Ok-copied-clause-answers c =
    let b = c.text_at.new.world in
    let after = c.fill_from.new.world in
    let rs = c.args.results.now.items in
    let rs' = c.fill_from.new.results.items in
    let vs = map (meant b.names) c.args.args.now in
    let result = c.fill_from.result in
    let is = c.as_slice.ensures.value ∙ c.in-Ok-copied.ensures ∙ sym (get_or_from_slice_get b.names c.in-Ok.text.0 c.bytes.result.now [] c.bytes.ensures.text) in
    let from_start = subst (λ (bs : Bytes). AnswersOrEnds b after rs rs' result (row.formats (store_in b) vs (row.pieces_of c.as_slice.result.now) 1 bs)) c.new-out.ensures.items c.fill_from.ensures.answers in
    text_answers format_rest c.args.world.now b c.args.args.now c.requires.world c.in-Ok.ensures.reads after rs rs' result c.in-Ok.text c.in-Ok.ensures.checks
    (subst (λ (bs : Bytes). AnswersOrEnds b after rs rs' result (row.formats (store_in b) vs (row.pieces_of bs) 1 [])) is from_start)
