use Rattle.lib_string.proofs.FormatAnswers.{given_text, no_given_text}
use Rattle.lib_string.proofs.format.text_given.Goals as goal

pub returns-in-Str-clause-checks : goal.returns-in-Str-clause-checks
returns-in-Str-clause-checks c = λ texts. given_text texts c.args.answer c.in-Str.id c.in-Str.is

pub returns-in_default : goal.returns-in_default
returns-in_default c = record { checks = λ texts. no_given_text texts c.args.answer c.in_default.not-Str; text = tt }
