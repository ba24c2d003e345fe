use Rattle.std.proofs.Common.{sym, ◌∙◌}
use Rattle.meta_ops.proofs.JoiningKept.{joins, not_joined_is}
use Rattle.meta_ops.proofs.joining.concat.Goals as goal

pub returns-then-are_texts-clause-joins : goal.returns-then-are_texts-clause-joins
returns-then-are_texts-clause-joins c =
    joins c.args.names.now c.joined.new.names c.args.globals.now c.args.arena.now c.joined.ensures.extends c.joined.ensures.texts c.args.a c.args.b (sym c.are_texts.ensures ∙ c.if-are_texts.true) c.joined.result c.joined.ensures.joined

pub returns-clause-joins : goal.returns-clause-joins
returns-clause-joins c =
    λ w own may also.
    not_joined_is c.args.names.now c.args.globals.now c.args.arena.now w own c.args.a c.args.b (sym c.are_texts.ensures ∙ c.if-are_texts.false) may also c.not_joined.result c.not_joined.ensures
