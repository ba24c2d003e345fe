use Rattle.luau_cli.proofs.CommandWords.{plain_is, or_bounded}
use Rattle.luau_cli.proofs.words.read_command.Goals as goal

pub returns-in-Some : goal.returns-in-Some
returns-in-Some c =
    plain_is _ c.in-Some.command.mode c.in-Some.command.turns c.in-Some.command.file.now c.in-Some.ensures.0 c.in-Some.ensures.1

pub returns-in-None : goal.returns-in-None
returns-in-None c = or_bounded _ c.bounded_command.result c.in-None.ensures c.bounded_command.ensures
