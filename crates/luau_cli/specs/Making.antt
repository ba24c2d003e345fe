-- What a reply holds.
use Rattle.luau_cli.specs.declared.reply.Reply.{Reply}
use Rattle.luau_cli.specs.Answer.{Answer}

-- the answer that a reply holds
abbrev pub answer_of : Reply → Answer
answer_of r = record { status = r.status; output = r.output.items; report = r.report.items }
