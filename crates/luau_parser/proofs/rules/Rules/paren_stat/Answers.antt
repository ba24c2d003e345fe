use Rattle.std.proofs.lemmas.Result.{err_from_is_err_and}
use Rattle.luau_parser.proofs.AssignmentTurns.{deep_paren_stat}
use Rattle.luau_parser.proofs.PrefixStats.{paren_fails, suffixes_fail, prefix_read, stat_found}
use Rattle.luau_parser.proofs.rules.Rules.paren_stat.Goals as goal

pub returns-in_err-within : goal.returns-in_err-within
returns-in_err-within g c =
    let p = err_from_is_err_and c.from_residual.result c.from_residual.ensures.1 in
    let e = c.in_err-within.ensures in
    rw (p.1, p.2, e.1) (λ v k deep. deep_paren_stat c.args.self.now.grammar.tokens.now c.args.at v c.args.self.now.grammar.room k c.requires.opens e.0 deep)

pub returns-in_err-part : goal.returns-in_err-part
returns-in_err-part g c =
    let p = err_from_is_err_and c.from_residual-in_err-part.result c.from_residual-in_err-part.ensures.1 in
    rw (p.1, p.2) (paren_fails c.args.self.now.grammar.tokens.now c.args.self.now.grammar.room c.args.at c.in_err-part.field-0.0 c.requires.opens c.in_ok-within.ensures.0 c.in_err-part.ensures)

pub returns-in_err-part-2 : goal.returns-in_err-part-2
returns-in_err-part-2 g c =
    let p = err_from_is_err_and c.from_residual-in_err-part-2.result c.from_residual-in_err-part-2.ensures.1 in
    rw (p.1, p.2) (suffixes_fail c.args.self.now.grammar.tokens.now c.args.self.now.grammar.room c.args.at c.in_ok-part.part c.in_err-part-2.field-0.0 c.requires.opens c.in_ok-within.ensures.0 c.in_ok-part.ensures c.in_err-part-2.ensures)

pub prefix_stat-requires-clause-prefix : goal.prefix_stat-requires-clause-prefix
prefix_stat-requires-clause-prefix g c = prefix_read c.args.self.now.grammar.tokens.now c.args.self.now.grammar.room c.args.at c.in_ok-part.part c.in_ok-part-2.field-0 c.requires.opens c.in_ok-part.ensures c.in_ok-part-2.ensures

pub returns : goal.returns
returns g c =
    stat_found c.args.self.now.grammar.tokens.now c.args.self.now.grammar.room c.args.at c.in_ok-part.part c.in_ok-part-2.field-0 c.prefix_stat.result c.requires.opens c.in_ok-within.ensures.0 c.in_ok-part.ensures c.in_ok-part-2.ensures c.prefix_stat.ensures
