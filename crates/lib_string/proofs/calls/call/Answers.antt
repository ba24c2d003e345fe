use Rattle.std.proofs.Common.{◌≡◌, map, subst, sym}
use Rattle.std.specs.Prelude.{IfOk, OnErr}
use Rattle.luau_tables.specs.Answers.{raised_by, Answered}
use Rattle.luau_tables.specs.Worlds.{store_in}
use Rattle.luau_tables.specs.declared.answer.LibAnswer.{LibAnswer}
use Rattle.lib_arguments.proofs.AtOnce.{at_once}
use Rattle.lib_arguments.proofs.RowsRun.{runs_answered, runs_unanswered}
use Rattle.value_model.specs.FormatRows.{format_row}
use Rattle.value_model.specs.Library as library
use Rattle.value_model.specs.Parts.{meant}
use Rattle.value_model.specs.Waits.{Elsewise}
use Rattle.lib_string.proofs.AddedTexts.{adds_keeps}
use Rattle.lib_string.proofs.BuiltinRows.{closed_answers, raised_elsewise}
use Rattle.lib_string.proofs.calls.call.Goals as goal

pub returns-in-StringFormat-clause-answered : goal.returns-in-StringFormat-clause-answered
unfolding library.lib
returns-in-StringFormat-clause-answered c =
    let a = c.args.world.now in
    let d = c.format.new.world in
    let vs = map (meant a.names) c.args.args.now in
    let rs = c.args.results.now.items in
    let rs' = c.format.new.results.items in
    subst (λ f. IfOk c.closing.result (λ (x : LibAnswer). Answered a d rs rs' x (raised_by f vs) (library.lib f vs (store_in a)))) (sym c.in-StringFormat.is)
    (subst (λ r. IfOk r (λ (x : LibAnswer). Answered a d rs rs' x Elsewise (format_row vs (store_in a)))) (sym c.closing.ensures)
    (closed_answers a d rs rs' (format_row vs (store_in a)) c.format.result c.format.ensures.answers))

pub returns-in-StringFormat-clause-keeps : goal.returns-in-StringFormat-clause-keeps
returns-in-StringFormat-clause-keeps c = adds_keeps c.args.world.now c.format.new.world c.format.ensures.adds c.requires.world

pub returns-in-StringFormat-clause-at_once : goal.returns-in-StringFormat-clause-at_once
returns-in-StringFormat-clause-at_once c = λ n. absurd (n c.in-StringFormat.is)

pub returns-in_default : goal.returns-in_default
returns-in_default c =
    let a = c.args.world.now in
    let d = c.run.new.world in
    let vs = map (meant a.names) c.args.args.now in
    let rs = c.args.results.now.items in
    let rs' = c.run.new.results.items in
    let row = library.lib c.args.builtin vs (store_in a) in
    record {
      answered = subst (λ o. IfOk c.answer.result (λ (x : LibAnswer). Answered a d rs rs' x o row)) (raised_elsewise vs c.args.builtin c.requires.builtin)
          (subst (λ r. IfOk r (λ (x : LibAnswer). Answered a d rs rs' x Elsewise row)) (sym c.answer.ensures) (runs_answered Elsewise a d rs rs' c.run.result row c.run.ensures.runs));
      at_once = λ n. at_once c.answer.result c.run.result c.answer.ensures;
      err = subst (λ r. OnErr r (rs' ≡ rs)) (sym c.answer.ensures) (runs_unanswered a d rs rs' c.run.result row c.run.ensures.runs);
      keeps = c.run.ensures.keeps;
    }
