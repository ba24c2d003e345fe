use Rattle.luau_cli.specs.Answer.{Prints}
use Rattle.luau_cli.specs.Refusals.{not_run}
use Rattle.luau_cli.proofs.Outcomes.{answers_unbuilt, answers_run, run_found, reported}
use Rattle.luau_cli.proofs.outcome.run_script.Goals as goal

pub returns-in-Some-clause-answers : goal.returns-in-Some-clause-answers
returns-in-Some-clause-answers c =
    let s = c.args.script.now in
    answers_unbuilt not_run (Prints c.args.turns) s.tree s.names c.in-Some.at c.refused.result
    (run_found s _ _ c.requires c.first_unbuilt.ensures.place c.in-Some.is) c.refused.ensures

pub reply_to_ran-requires : goal.reply_to_ran-requires
reply_to_ran-requires c =
    let code = c.in_ok-code-in-None.code in
    reported _ code c.args.turns c.in_ok-ran-in-None.ran c.in_ok-code-in-None.ensures c.in_ok-ran-in-None.ensures

pub returns-in_ok-ran-in-None-clause-answers : goal.returns-in_ok-ran-in-None-clause-answers
returns-in_ok-ran-in-None-clause-answers c =
    let s = c.args.script.now in
    let code = c.in_ok-code-in-None.code in
    answers_run s.tree s.names code c.args.turns c.in_ok-ran-in-None.ran c.reply_to_ran.result
    (run_found s _ _ c.requires c.first_unbuilt.ensures.place c.in-None.is)
    c.in_ok-code-in-None.ensures c.in_ok-ran-in-None.ensures c.reply_to_ran.ensures.answers
