use Rattle.std.proofs.Common.{Err, sym, ◌∙◌}
use Rattle.value_model.specs.Waits as wait
use Rattle.value_model.specs.declared.error.RunErr.TheVariants as err
use Rattle.lib_arguments.specs.declared.ending.Ending.TheVariants.{RunError}
use Rattle.lib_arguments.proofs.RowsRun.{found, found_fails, ends, used_at, answered_by, raise_answers, error_answers}
use Rattle.lib_core.proofs.RaiseRows.{assert_gives, assert_raises, assert_fails}
use Rattle.lib_core.proofs.raise.assert.Goals as goal

pub returns-in-Err-clause-answered : goal.returns-in-Err-clause-answered
returns-in-Err-clause-answered c =
    let w = c.args.world.now in
    answered_by wait.Elsewise w w _ _ (Err c.in-Err.e) _ _ c.answer.ensures (ends w _ c.in-Err.e _ (c.in-Err.ensures.checks w.names _))

pub returns-then-truthy-clause-answered : goal.returns-then-truthy-clause-answered
returns-then-truthy-clause-answered c =
    let w = c.args.world.now in
    answered_by wait.Elsewise w w _ _ c.give_all.result _ _ c.answer-then-truthy.ensures
    (found _ w w _ _ c.give_all.result (c.in-Ok.ensures.checks w.names)
    (assert_gives w c.args.args.now _ _ c.give_all.result _ (c.truthy.ensures w.names ∙ c.if-truthy.true) c.requires.args c.give_all.ensures))

pub returns-in-Some-clause-answered : goal.returns-in-Some-clause-answered
returns-in-Some-clause-answered c =
    let w = c.args.world.now in
    raise_answers w _ c.in-Some.message wait.Elsewise _ (used_at w _ 1 _ c.requires.args (sym c.in-Some.ensures))
    (c.in-Ok.ensures.checks w.names _ ∙ assert_raises w c.args.args.now _ c.in-Some.message (c.truthy.ensures w.names ∙ c.if-truthy.false) (sym c.in-Some.ensures))

pub returns-in-None-clause-answered : goal.returns-in-None-clause-answered
returns-in-None-clause-answered c =
    let w = c.args.world.now in
    error_answers w _ err.AssertionFailed wait.Elsewise _
    (found_fails _ w.names (RunError err.AssertionFailed) (c.in-Ok.ensures.checks w.names)
    (assert_fails w c.args.args.now _ (c.truthy.ensures w.names ∙ c.if-truthy.false) (sym c.in-None.ensures)))
