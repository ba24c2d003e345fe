use Rattle.std.proofs.Common.{refl, inl}
use Rattle.luau_cli.specs.Making.{answer_of}
use Rattle.luau_cli.proofs.Replying.{usage_written, answers_words, answers_other}
use Rattle.luau_cli.proofs.Working.{does_work}
use Rattle.luau_cli.proofs.Deliveries.{done_quiet, not_unread, refused_untouched, file_status, file_not_words, file_unread, file_write_fault}
use Rattle.luau_cli.proofs.top.top.Goals as goal

pub returns-in_default-clause-answer : goal.returns-in_default-clause-answer
returns-in_default-clause-answer g c =
    let w = c.put_all.ensures in
    answers_other (g.F.Files.contents c.args.files.now) _ _ _ _ 2 c.in_default.ensures
    (usage_written _ _ _ c.put_all.result refl (refl, refl) w.ok w.err w.no_fault w.fault)

pub returns-in-Ok-clause-answer : goal.returns-in-Ok-clause-answer
returns-in-Ok-clause-answer g c =
    answers_words (g.F.Files.contents c.args.files.now) _ c.in-Some.command.mode c.in-Some.command.file.now c.in-Some.command.turns _ _
    (answer_of c.in-Ok.reply) _ _ c.deliver.result c.in-Some.ensures c.in-Ok.ensures.answers c.deliver.ensures

pub returns-in-Ok-clause-statuses : goal.returns-in-Ok-clause-statuses
returns-in-Ok-clause-statuses g c =
    file_status (answer_of c.in-Ok.reply) _ _ c.deliver.result c.in-Ok.ensures.proper c.deliver.ensures

pub returns-in-Ok-clause-other_words : goal.returns-in-Ok-clause-other_words
returns-in-Ok-clause-other_words g c = (
  λ two. absurd (file_not_words (answer_of c.in-Ok.reply) _ _ c.deliver.result c.in-Ok.ensures.proper c.deliver.ensures two),
  λ other. absurd (other c.in-Some.command.mode c.in-Some.command.turns c.in-Some.command.file.now c.in-Some.ensures),
)

pub returns-in-Ok-clause-read_fault : goal.returns-in-Ok-clause-read_fault
returns-in-Ok-clause-read_fault g c = λ rose.
    inl (file_unread (answer_of c.in-Ok.reply) _ _ c.deliver.result c.in-Ok.ensures.proper c.deliver.ensures (c.in-Ok.ensures.fault rose))

pub returns-in-Ok-clause-write_fault : goal.returns-in-Ok-clause-write_fault
returns-in-Ok-clause-write_fault g c = λ five.
    file_write_fault (answer_of c.in-Ok.reply) _ _ c.deliver.result c.in-Ok.ensures.proper c.deliver.ensures five

pub returns-in-Ok-clause-runs : goal.returns-in-Ok-clause-runs
returns-in-Ok-clause-runs g c =
    does_work (g.F.Files.contents c.args.files.now) _ c.in-Some.command.mode c.in-Some.command.file.now c.in-Some.command.turns _ _
    (answer_of c.in-Ok.reply) _ _ c.deliver.result c.in-Some.ensures c.in-Ok.ensures.answers c.deliver.ensures

pub returns-in-Ok-clause-ended : goal.returns-in-Ok-clause-ended
returns-in-Ok-clause-ended g c = λ ran.
    let quiet = done_quiet (answer_of c.in-Ok.reply) _ _ c.deliver.result c.deliver.ensures ran in
    (c.in-Ok.ensures.quiet (not_unread c.in-Ok.reply.status quiet.0), quiet.1, quiet.2)

pub returns-in-Ok-clause-refused : goal.returns-in-Ok-clause-refused
returns-in-Ok-clause-refused g c = λ refused.
    refused_untouched (answer_of c.in-Ok.reply) _ _ c.deliver.result c.in-Ok.ensures.proper c.deliver.ensures refused
