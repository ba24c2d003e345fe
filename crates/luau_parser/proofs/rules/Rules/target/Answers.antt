use Rattle.std.proofs.lemmas.Result.{err_from_is_err_and}
use Rattle.luau_parser.proofs.TargetBeginnings.{faulty_suffixes, whole_target, no_whole_target}
use Rattle.luau_parser.proofs.rules.Rules.target.Goals as goal

pub returns-in_err-first : goal.returns-in_err-first
returns-in_err-first g c =
    let p = err_from_is_err_and c.from_residual.result c.from_residual.ensures.1 in
    rw (p.1, p.2) c.in_err-first.ensures

pub returns-in_err-part : goal.returns-in_err-part
returns-in_err-part g c =
    let p = err_from_is_err_and c.from_residual-in_err-part.result c.from_residual-in_err-part.ensures.1 in
    rw (p.1, p.2) (faulty_suffixes c.args.self.now.grammar.tokens.now c.args.self.now.grammar.room c.args.at c.in_ok-first.first c.in_err-part.field-0.0 c.in_ok-first.ensures c.in_err-part.ensures)

pub returns-in-Target : goal.returns-in-Target
returns-in-Target g c = whole_target c.args.self.now.grammar.tokens.now c.args.self.now.grammar.room c.args.at c.in_ok-first.first c.in_ok-part.field-0 c.in_ok-first.ensures c.in_ok-part.ensures c.in-Target.is

pub returns-in-Call : goal.returns-in-Call
returns-in-Call g c = no_whole_target c.args.self.now.grammar.tokens.now c.args.self.now.grammar.room c.args.at c.in_ok-first.first c.in_ok-part.field-0 c.in_ok-first.ensures c.in_ok-part.ensures c.in-Call.is
