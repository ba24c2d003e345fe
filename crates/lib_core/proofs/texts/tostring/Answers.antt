use Rattle.std.proofs.Common.{Err, refl}
use Rattle.std.proofs.lemmas.Result.{IfOk-weaker}
use Rattle.value_model.specs.Parts.{meant}
use Rattle.value_model.specs.Waits as wait
use Rattle.lib_arguments.proofs.RowsRun.{found, ends, used_at, answered_by, unanswered_by}
use Rattle.lib_core.proofs.TextRows.{tostring_plain, tostring_asks}
use Rattle.lib_core.proofs.texts.tostring.Goals as goal

pub returns-in-Err-clause-answered : goal.returns-in-Err-clause-answered
returns-in-Err-clause-answered c =
    let w = c.args.world.now in
    answered_by wait.Elsewise w w _ _ (Err c.in-Err.e) _ _ c.answer.ensures (ends w _ c.in-Err.e _ (c.in-Err.ensures.checks w.names _))

pub returns-in-Nil-clause-answered : goal.returns-in-Nil-clause-answered
returns-in-Nil-clause-answered c =
    let w = c.args.world.now in
    answered_by wait.Elsewise w _ _ _ c.give_plain.result _ _ c.answer-in-Nil.ensures
    (found _ w _ _ _ c.give_plain.result (c.in-Ok.ensures.checks w.names)
    (tostring_plain w _ _ _ c.give_plain.result c.args.args.now (meant w.names c.in-Ok.v) c.tostring_of.result c.tostring_of.ensures.meant c.in-Nil.is c.give_plain.ensures.runs))

pub returns-in-Nil-clause-err : goal.returns-in-Nil-clause-err
returns-in-Nil-clause-err c = unanswered_by c.args.world.now _ _ _ c.give_plain.result _ _ c.answer-in-Nil.ensures c.give_plain.ensures.runs

pub returns-in_default-clause-answered : goal.returns-in_default-clause-answered
returns-in_default-clause-answered c =
    let w = c.args.world.now in
    IfOk-weaker c.call_back.result _ _
    (tostring_asks w _ c.args.args.now c.in-Ok.v c.tostring_of.result _ _ refl c.tostring_of.ensures.meant c.in_default.not-Nil (c.in-Ok.ensures.checks w.names _)
    c.tostring_of.ensures.usable (used_at w _ 0 _ c.requires.args c.in-Ok.ensures.there) c.requires.args)
    c.call_back.ensures
