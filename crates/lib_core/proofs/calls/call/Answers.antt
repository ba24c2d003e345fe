use Rattle.std.proofs.Common.{map, subst, sym, IfOk}
use Rattle.std.proofs.lemmas.Result.{IfOk-weaker}
use Rattle.luau_tables.specs.Answers.{Answered, raised_by}
use Rattle.luau_tables.specs.Worlds.{store_in}
use Rattle.luau_tables.specs.declared.answer.LibAnswer.{LibAnswer}
use Rattle.value_model.specs.Library.{lib}
use Rattle.value_model.specs.Parts.{meant}
use Rattle.lib_arguments.proofs.AtOnce.{at_once, by_row}
use Rattle.lib_arguments.proofs.RowsRun.{answered_by, unanswered_by}
use Rattle.lib_arguments.specs.AtOnce.{AtOnce}
use Rattle.lib_arguments.specs.Rows.{Runs}
use Rattle.lib_core.specs.Builtins.{IsAsker}
use Rattle.lib_core.proofs.AssertAsks.{assert_asks}
use Rattle.lib_core.proofs.Builtins.{reads}
use Rattle.lib_core.proofs.calls.call.Goals as goal

pub returns-in-Rawset-clause-answered : goal.returns-in-Rawset-clause-answered
unfolding lib
returns-in-Rawset-clause-answered c =
    let w = c.args.world.now in
    answered_by _ w _ _ _ c.rawset.result _ _ c.answer.ensures
    (subst (λ f. Runs w c.rawset.new.world c.args.results.now.items c.rawset.new.results.items c.rawset.result (lib f (map (meant w.names) c.args.args.now) (store_in w))) (sym c.in-Rawset.is) c.rawset.ensures.runs)

pub returns-in-Rawset-clause-err : goal.returns-in-Rawset-clause-err
unfolding lib
returns-in-Rawset-clause-err c =
    let w = c.args.world.now in
    unanswered_by w _ _ _ c.rawset.result _ _ c.answer.ensures
    (subst (λ f. Runs w c.rawset.new.world c.args.results.now.items c.rawset.new.results.items c.rawset.result (lib f (map (meant w.names) c.args.args.now) (store_in w))) (sym c.in-Rawset.is) c.rawset.ensures.runs)

pub returns-in-Setmetatable-clause-answered : goal.returns-in-Setmetatable-clause-answered
unfolding lib
returns-in-Setmetatable-clause-answered c =
    let w = c.args.world.now in
    answered_by _ w _ _ _ c.setmetatable.result _ _ c.answer-in-Setmetatable.ensures
    (subst (λ f. Runs w c.setmetatable.new.world c.args.results.now.items c.setmetatable.new.results.items c.setmetatable.result (lib f (map (meant w.names) c.args.args.now) (store_in w))) (sym c.in-Setmetatable.is) c.setmetatable.ensures.runs)

pub returns-in-Setmetatable-clause-err : goal.returns-in-Setmetatable-clause-err
unfolding lib
returns-in-Setmetatable-clause-err c =
    let w = c.args.world.now in
    unanswered_by w _ _ _ c.setmetatable.result _ _ c.answer-in-Setmetatable.ensures
    (subst (λ f. Runs w c.setmetatable.new.world c.args.results.now.items c.setmetatable.new.results.items c.setmetatable.result (lib f (map (meant w.names) c.args.args.now) (store_in w))) (sym c.in-Setmetatable.is) c.setmetatable.ensures.runs)

pub returns-in-Type-clause-answered : goal.returns-in-Type-clause-answered
unfolding lib
returns-in-Type-clause-answered c =
    let w = c.args.world.now in
    answered_by _ w _ _ _ c.kind_name.result _ _ c.answer-in-Type.ensures
    (subst (λ f. Runs w c.kind_name.new.world c.args.results.now.items c.kind_name.new.results.items c.kind_name.result (lib f (map (meant w.names) c.args.args.now) (store_in w))) (sym c.in-Type.is) c.kind_name.ensures.runs)

pub returns-in-Type-clause-err : goal.returns-in-Type-clause-err
unfolding lib
returns-in-Type-clause-err c =
    let w = c.args.world.now in
    unanswered_by w _ _ _ c.kind_name.result _ _ c.answer-in-Type.ensures
    (subst (λ f. Runs w c.kind_name.new.world c.args.results.now.items c.kind_name.new.results.items c.kind_name.result (lib f (map (meant w.names) c.args.args.now) (store_in w))) (sym c.in-Type.is) c.kind_name.ensures.runs)

pub returns-in-Typeof-clause-answered : goal.returns-in-Typeof-clause-answered
unfolding lib
returns-in-Typeof-clause-answered c =
    let w = c.args.world.now in
    answered_by _ w _ _ _ c.kind_name-in-Typeof.result _ _ c.answer-in-Typeof.ensures
    (subst (λ f. Runs w c.kind_name-in-Typeof.new.world c.args.results.now.items c.kind_name-in-Typeof.new.results.items c.kind_name-in-Typeof.result (lib f (map (meant w.names) c.args.args.now) (store_in w))) (sym c.in-Typeof.is) c.kind_name-in-Typeof.ensures.runs)

pub returns-in-Typeof-clause-err : goal.returns-in-Typeof-clause-err
unfolding lib
returns-in-Typeof-clause-err c =
    let w = c.args.world.now in
    unanswered_by w _ _ _ c.kind_name-in-Typeof.result _ _ c.answer-in-Typeof.ensures
    (subst (λ f. Runs w c.kind_name-in-Typeof.new.world c.args.results.now.items c.kind_name-in-Typeof.new.results.items c.kind_name-in-Typeof.result (lib f (map (meant w.names) c.args.args.now) (store_in w))) (sym c.in-Typeof.is) c.kind_name-in-Typeof.ensures.runs)

pub returns-in-Print-clause-answered : goal.returns-in-Print-clause-answered
unfolding lib
returns-in-Print-clause-answered c =
    let w = c.args.world.now in
    let args = map (meant w.names) c.args.args.now in
    subst (λ f. IfOk c.print.result (λ (a : LibAnswer). Answered w w c.args.results.now.items c.args.results.now.items a (raised_by f args) (lib f args (store_in w))))
    (sym c.in-Print.is) (IfOk-weaker c.print.result _ _ (λ a h. h c.args.results.now.items) c.print.ensures)

pub returns-in-Tostring-clause-answered : goal.returns-in-Tostring-clause-answered
unfolding lib
returns-in-Tostring-clause-answered c =
    let w = c.args.world.now in
    let args = map (meant w.names) c.args.args.now in
    subst (λ f. IfOk c.tostring.result (λ (a : LibAnswer). Answered w c.tostring.new.world c.args.results.now.items c.tostring.new.results.items a (raised_by f args) (lib f args (store_in w))))
    (sym c.in-Tostring.is) c.tostring.ensures.answered

pub returns-in-Assert-clause-answered : goal.returns-in-Assert-clause-answered
unfolding lib
returns-in-Assert-clause-answered c =
    let w = c.args.world.now in
    let args = map (meant w.names) c.args.args.now in
    subst (λ f. IfOk c.assert.result (λ (a : LibAnswer). Answered w w c.args.results.now.items c.assert.new.results.items a (raised_by f args) (lib f args (store_in w))))
    (sym c.in-Assert.is) c.assert.ensures.answered

pub returns-in-Error-clause-answered : goal.returns-in-Error-clause-answered
unfolding lib
returns-in-Error-clause-answered c =
    let w = c.args.world.now in
    let args = map (meant w.names) c.args.args.now in
    subst (λ f. Answered w w c.args.results.now.items c.error.new.results.items c.error.result (raised_by f args) (lib f args (store_in w)))
    (sym c.in-Error.is) c.error.ensures.answered

pub read-requires-clause-builtin : goal.read-requires-clause-builtin
read-requires-clause-builtin c =
    reads c.args.builtin c.requires.builtin c.in_default.not-Print c.in_default.not-Tostring c.in_default.not-Assert c.in_default.not-Error
    c.in_default.not-Rawset c.in_default.not-Setmetatable c.in_default.not-Type c.in_default.not-Typeof

pub returns-in_default-clause-answered : goal.returns-in_default-clause-answered
returns-in_default-clause-answered c =
    let w = c.args.world.now in
    answered_by _ w w _ _ c.read.result _ _ c.answer-in_default.ensures c.read.ensures

pub returns-in_default-clause-err : goal.returns-in_default-clause-err
returns-in_default-clause-err c =
    let w = c.args.world.now in
    unanswered_by w w _ _ c.read.result _ _ c.answer-in_default.ensures c.read.ensures

-- ---- which ask for no call

pub returns-in-Print-clause-at_once : goal.returns-in-Print-clause-at_once
returns-in-Print-clause-at_once c = λ n. absurd (n (subst IsAsker (sym c.in-Print.is) tt))

pub returns-in-Tostring-clause-at_once : goal.returns-in-Tostring-clause-at_once
returns-in-Tostring-clause-at_once c = λ n. absurd (n (subst IsAsker (sym c.in-Tostring.is) tt))

pub returns-in-Assert-clause-at_once : goal.returns-in-Assert-clause-at_once
returns-in-Assert-clause-at_once c = λ n.
    let w = c.args.world.now in
    IfOk-weaker c.assert.result _ AtOnce
    (λ a h. by_row w.names _ a h.given (store_in w) _ h.meant (assert_asks (map (meant w.names) c.args.args.now) (store_in w))) c.assert.ensures.answered

pub returns-in-Error-clause-at_once : goal.returns-in-Error-clause-at_once
returns-in-Error-clause-at_once c = λ n.
    let w = c.args.world.now in
    let h = c.error.ensures.answered in
    by_row w.names _ c.error.result h.given (store_in w) _ h.meant tt

pub returns-in-Rawset-clause-at_once : goal.returns-in-Rawset-clause-at_once
returns-in-Rawset-clause-at_once c = λ n. at_once _ c.rawset.result c.answer.ensures

pub returns-in-Setmetatable-clause-at_once : goal.returns-in-Setmetatable-clause-at_once
returns-in-Setmetatable-clause-at_once c = λ n. at_once _ c.setmetatable.result c.answer-in-Setmetatable.ensures

pub returns-in-Type-clause-at_once : goal.returns-in-Type-clause-at_once
returns-in-Type-clause-at_once c = λ n. at_once _ c.kind_name.result c.answer-in-Type.ensures

pub returns-in-Typeof-clause-at_once : goal.returns-in-Typeof-clause-at_once
returns-in-Typeof-clause-at_once c = λ n. at_once _ c.kind_name-in-Typeof.result c.answer-in-Typeof.ensures

pub returns-in_default-clause-at_once : goal.returns-in_default-clause-at_once
returns-in_default-clause-at_once c = λ n. at_once _ c.read.result c.answer-in_default.ensures
