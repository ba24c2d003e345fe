use Rattle.std.proofs.Common.{subst}
use Rattle.luau_cli.specs.Answer.{Prints}
use Rattle.luau_cli.specs.Refusals.{not_run}
use Rattle.luau_cli.specs.Readings.{IsReadingOf}
use Rattle.luau_cli.proofs.Bindings.{sound}
use Rattle.luau_cli.proofs.Outcomes.{answers_refused, answers_accepted}
use Rattle.luau_cli.proofs.outcome.reply_to_run.Goals as goal

pub returns-in-Refused-clause-answers : goal.returns-in-Refused-clause-answers
returns-in-Refused-clause-answers c =
    let is = subst (λ r. IsReadingOf c.args.source.now r) c.in-Refused.is c.in_ok-why.ensures in
    answers_refused not_run (Prints c.args.turns) c.args.source.now c.in-Refused.why c.refused.result is c.refused.ensures

pub run_script-requires : goal.run_script-requires
run_script-requires c =
    let read = subst (λ r. IsReadingOf c.args.source.now r) c.in-Accepted.is c.in_ok-why.ensures in
    sound c.args.source.now c.in-Accepted.script read

pub returns-in-Accepted-clause-answers : goal.returns-in-Accepted-clause-answers
returns-in-Accepted-clause-answers c =
    let read = subst (λ r. IsReadingOf c.args.source.now r) c.in-Accepted.is c.in_ok-why.ensures in
    answers_accepted not_run (Prints c.args.turns) c.args.source.now c.in-Accepted.script c.run_script.result read c.run_script.ensures.answers
