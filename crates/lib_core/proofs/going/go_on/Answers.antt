use Rattle.std.proofs.Common.{sym, subst}
use Rattle.std.proofs.lemmas.Result.{IfOk-weaker}
use Rattle.luau_tables.specs.Answers.{Answered}
use Rattle.value_model.specs.Waits as wait
use Rattle.value_model.specs.declared.error.RunErr.TheVariants as err
use Rattle.luau_tables.specs.Worlds.{MayUseIn}
use Rattle.lib_arguments.proofs.RowsRun.{answered_by, unanswered_by, error_answers}
use Rattle.lib_core.proofs.GoingOn.{prints_on, tostring_on, no_text_on}
use Rattle.lib_core.proofs.going.go_on.Goals as goal

pub print_on-requires-clause-text : goal.print_on-requires-clause-text
print_on-requires-clause-text c = (subst (MayUseIn c.args.world.now) c.in-Str.is c.requires.given).1

pub returns-in-Print-clause-answered : goal.returns-in-Print-clause-answered
returns-in-Print-clause-answered c =
    let w = c.args.world.now in
    IfOk-weaker c.print_on.result _ _
    (λ a h. subst (λ row. Answered w w c.args.results.now.items c.args.results.now.items a wait.Elsewise row) (sym (prints_on w c.args.then c.args.given c.in-Str.text c.in-Str.is c.in-Print.is)) (h c.args.results.now.items))
    c.print_on.ensures

pub returns-in-Str-clause-answered : goal.returns-in-Str-clause-answered
returns-in-Str-clause-answered c =
    let w = c.args.world.now in
    answered_by wait.Elsewise w w _ _ c.give.result _ _ c.answer.ensures
    (tostring_on w c.args.then c.args.given _ _ c.give.result c.in-Str.text c.in-Str.is c.requires.builtin c.in_default-builtin.not-Print (subst (MayUseIn w) c.in-Str.is c.requires.given) c.give.ensures)

pub returns-in-Str-clause-err : goal.returns-in-Str-clause-err
returns-in-Str-clause-err c =
    let w = c.args.world.now in
    unanswered_by w w _ _ c.give.result _ _ c.answer.ensures
    (tostring_on w c.args.then c.args.given _ _ c.give.result c.in-Str.text c.in-Str.is c.requires.builtin c.in_default-builtin.not-Print (subst (MayUseIn w) c.in-Str.is c.requires.given) c.give.ensures)

pub returns-clause-answered : goal.returns-clause-answered
returns-clause-answered c =
    let w = c.args.world.now in
    error_answers w _ err.NotStringByTostring wait.Elsewise _ (no_text_on w c.args.then c.args.given c.in_default.not-Str)
