use Rattle.std.proofs.Common.{[], ◌++◌, sym, ◌∙◌, ap, subst, add-one}
use Rattle.std.proofs.lemmas.Option.{get_or_from_slice_get}
use Rattle.std.proofs.lemmas.Result.{IfOk-weaker}
use Rattle.luau_tables.specs.Answers.{Answered}
use Rattle.value_model.specs.Parts.{bytes_at}
use Rattle.value_model.specs.Waits as wait
use Rattle.lib_core.proofs.GoingOn.{same_prints}
use Rattle.lib_core.proofs.going.print_on.Goals as goal

pub returns : goal.returns
returns c =
    let w = c.args.world.now in
    let then = c.args.then.now in
    let text = get_or_from_slice_get w.names c.args.text.0 c.bytes.result.now [] c.bytes.ensures.text in
    let line = c.in_ok-extend_from_slice.ensures.items ∙ ap (λ front. front ++ c.bytes.result.now) (c.in_ok-line.ensures.items ∙ c.as_slice.ensures) ∙ ap (λ bs. then.text ++ bs) (sym text) in
    IfOk-weaker c.print_from.result _ _
    (λ a h rs. subst (λ row. Answered w w rs rs a wait.Elsewise row)
    (same_prints w c.as_slice-2.result.now then.args.items _ then.at _ then.text (bytes_at w.names c.args.text.0) c.as_slice-2.ensures.value (add-one then.at) line) (h rs))
    c.print_from.ensures
