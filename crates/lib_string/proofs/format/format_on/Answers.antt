use Rattle.std.proofs.Common.{◌≡◌, ◌+◌, ◌<◌, ◌++◌, List, [], length, map, false, Err, refl, subst, sym, ap, ◌∙◌}
use Rattle.std.proofs.lemmas.Option.{get_or_from_slice_get}
use Rattle.luau_tables.proofs.MoreTexts.{bytes_more}
use Rattle.luau_tables.specs.Answers.{meant_continue}
use Rattle.luau_tables.specs.Own.{HasText}
use Rattle.luau_tables.specs.Worlds.{store_in}
use Rattle.lib_arguments.proofs.RowsRun.{ends_runs}
use Rattle.lib_arguments.specs.Rows.{Runs}
use Rattle.lib_arguments.specs.declared.ending.Ending.TheVariants.{RunError}
use Rattle.value_model.specs.Arguments as arg
use Rattle.value_model.specs.FormatRows as row
use Rattle.value_model.specs.Parts.{bytes_at, meant, meant_error}
use Rattle.value_model.specs.Values.{Bytes}
use Rattle.value_model.specs.declared.builtin.Builtin.TheVariants.{StringFormat}
use Rattle.value_model.specs.declared.error.RunErr.TheVariants.{InvalidDirective}
use Rattle.value_model.specs.declared.value.Value.{Value}
use Rattle.lib_string.specs.Answering.{AnswersOrEnds}
use Rattle.lib_string.specs.Directives.{field_of}
use Rattle.lib_string.proofs.FormatAnswers.{goes_on_with, goes_on_without, on_rest, text_answers}
use Rattle.lib_string.proofs.WholeRows.{error_ends, text_ends, text_of, text_then}
use Rattle.lib_string.proofs.format.format_on.Goals as goal

pub returns-in-Err-clause-answers : goal.returns-in-Err-clause-answers
returns-in-Err-clause-answers c =
    let a = c.args.world.now in
    ends_runs a a c.args.results.now.items c.in-Err.ending _ refl (c.in-Err.ensures.checks a.names (row.format_goes_on (meant_continue a.names c.args.then.now) (store_in a)))

pub returns-in-Err-text_at-clause-answers : goal.returns-in-Err-text_at-clause-answers
unfolding meant_continue
returns-in-Err-text_at-clause-answers c =
    let a = c.args.world.now in
    let b = c.text_at.new.world in
    let then = c.args.then.now in
    let rs = c.args.results.now.items in
    let e = c.in-Err-text_at.ending in
    let rest = on_rest then.at then.text (bytes_at a.names c.in-Ok.given.0) in
    subst (λ r. Runs a b rs rs (Err e) r) (sym (c.in-Ok.ensures.checks a.names (row.format_goes_on (meant_continue a.names then) (store_in a))))
    (subst (λ (vs : List Value). Runs a b rs rs (Err e) (arg.text_at StringFormat 0 (map (meant a.names) vs) (rest (map (meant a.names) vs) (store_in a)))) c.as_slice-args.ensures.value
    (text_ends StringFormat rest a b c.as_slice-args.result.now c.requires.world c.in-Err-text_at.ensures.reads rs e c.in-Err-text_at.ensures.checks))

pub returns-in-Ok-filled-clause-answers : goal.returns-in-Ok-filled-clause-answers
unfolding meant_continue
returns-in-Ok-filled-clause-answers c =
    let a = c.args.world.now in
    let b = c.text_at.new.world in
    let after = c.fill_from.new.world in
    let then = c.args.then.now in
    let rs = c.args.results.now.items in
    let rs' = c.fill_from.new.results.items in
    let result = c.fill_from.result in
    let given = c.in-Ok.given in
    let text = c.in-Ok-text_at.text in
    let rest = on_rest then.at then.text (bytes_at a.names given.0) in
    let vs = map (meant b.names) c.as_slice-args.result.now in
    let has : given.0 < length a.names = subst (λ v. HasText a.names v) c.in-Ok.ensures.text c.requires.answer.1 in
    let same = bytes_more a.names b.names c.in-Ok-text_at.ensures.reads.adds.extends given.0 has in
    let format : c.as_slice.result.now ≡ text_of b text = c.as_slice.ensures.value ∙ c.in-Ok-copied.ensures ∙ sym (get_or_from_slice_get b.names text.0 c.bytes.result.now [] c.bytes.ensures.text) in
    let d = field_of c.in-Some.field in
    let behind = c.in-Some.behind.now in
    let found = c.in-Some.ensures ∙ ap (λ (bs : Bytes). row.directive_for then.at (row.pieces_of bs)) format in
    let kept = c.in-Ok-filled.ensures ∙ ap (λ (bs : Bytes). bs ++ row.fitted d false (bytes_at b.names given.0)) c.as_slice-in-Some.ensures ∙ ap (λ (bs : Bytes). then.text ++ row.fitted d false bs) same in
    let from_there = subst (λ (bs : Bytes). AnswersOrEnds b after rs rs' result (row.formats (store_in b) vs (row.pieces_of behind) (then.at + 1) bs)) kept c.fill_from.ensures.answers in
    let gone_on = subst (λ r. AnswersOrEnds b after rs rs' result r) (goes_on_with (store_in b) vs then.at then.text (bytes_at a.names given.0) (text_of b text) d behind found) from_there in
    subst (λ r. AnswersOrEnds a after rs rs' result r) (sym (c.in-Ok.ensures.checks a.names (row.format_goes_on (meant_continue a.names then) (store_in a))))
    (subst (λ (vs : List Value). AnswersOrEnds a after rs rs' result (arg.text_at StringFormat 0 (map (meant a.names) vs) (rest (map (meant a.names) vs) (store_in a)))) c.as_slice-args.ensures.value
    (text_answers rest a b c.as_slice-args.result.now c.requires.world c.in-Ok-text_at.ensures.reads after rs rs' result text c.in-Ok-text_at.ensures.checks gone_on))

pub returns-clause-answers : goal.returns-clause-answers
unfolding meant_continue meant_error
returns-clause-answers c =
    let a = c.args.world.now in
    let b = c.text_at.new.world in
    let then = c.args.then.now in
    let rs = c.args.results.now.items in
    let e = RunError InvalidDirective in
    let given = c.in-Ok.given in
    let text = c.in-Ok-text_at.text in
    let rest = on_rest then.at then.text (bytes_at a.names given.0) in
    let vs = map (meant b.names) c.as_slice-args.result.now in
    let format : c.as_slice.result.now ≡ text_of b text = c.as_slice.ensures.value ∙ c.in-Ok-copied.ensures ∙ sym (get_or_from_slice_get b.names text.0 c.bytes.result.now [] c.bytes.ensures.text) in
    let missed = c.in-None.ensures ∙ ap (λ (bs : Bytes). row.directive_for then.at (row.pieces_of bs)) format in
    let ended = error_ends b rs InvalidDirective (rest vs (store_in b) (text_of b text)) tt (goes_on_without (store_in b) vs then.at then.text (bytes_at a.names given.0) (text_of b text) missed) in
    subst (λ r. Runs a b rs rs (Err e) r) (sym (c.in-Ok.ensures.checks a.names (row.format_goes_on (meant_continue a.names then) (store_in a))))
    (subst (λ (vs : List Value). Runs a b rs rs (Err e) (arg.text_at StringFormat 0 (map (meant a.names) vs) (rest (map (meant a.names) vs) (store_in a)))) c.as_slice-args.ensures.value
    (text_then StringFormat rest a b c.as_slice-args.result.now c.requires.world c.in-Ok-text_at.ensures.reads b rs rs (Err e) text c.in-Ok-text_at.ensures.checks ended))
