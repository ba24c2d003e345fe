use Rattle.std.proofs.lemmas.Result.{err_from_is_err_and}
use Rattle.luau_parser.proofs.BlockSteps.{no_stats_yet, one_type, one_stat, less_behind_type, less_behind_stat, no_more_stats, one_last, step_fails}
use Rattle.luau_parser.proofs.rules.Rules.block.Goals as goal

pub loop-stats-init : goal.loop-stats-init
loop-stats-init g c = no_stats_yet c.args.self.now.grammar.tokens.now c.args.self.now.grammar.room c.args.at c.new-stats.result c.new-stats.ensures

pub returns-in_err-step : goal.returns-in_err-step
returns-in_err-step g c =
    let p = err_from_is_err_and c.from_residual.result c.from_residual.ensures.1 in
    rw (p.1, p.2) (step_fails c.args.self.now.grammar.tokens.now c.args.self.now.grammar.room c.args.at c.loop-stats.stats c.loop-stats.nest
    c.loop-stats.end c.in_err-step.field-0.0 c.loop-stats.invariant c.in_err-step.ensures)

pub returns-in-Ends : goal.returns-in-Ends
returns-in-Ends g c =
    let found = rw c.in-Ends.is at c.in_ok-step.ensures in
    no_more_stats c.args.self.now.grammar.tokens.now c.args.self.now.grammar.room c.args.at c.loop-stats.stats c.loop-stats.nest c.loop-stats.end
    c.loop-stats.invariant found

pub loop-stats-smaller-in-Types : goal.loop-stats-smaller-in-Types
loop-stats-smaller-in-Types g c =
    let found = rw c.in-Types.is at c.in_ok-step.ensures in
    less_behind_type c.args.self.now.grammar.tokens.now c.args.self.now.grammar.room c.loop-stats.end c.in-Types.behind found

pub loop-stats-preserved-in-Types : goal.loop-stats-preserved-in-Types
loop-stats-preserved-in-Types g c =
    let found = rw c.in-Types.is at c.in_ok-step.ensures in
    one_type c.args.self.now.grammar.tokens.now c.args.self.now.grammar.room c.args.at c.loop-stats.stats c.loop-stats.nest c.loop-stats.end
    c.in-Types.behind c.loop-stats.invariant found

pub loop-stats-smaller : goal.loop-stats-smaller
loop-stats-smaller g c =
    let found = rw c.in-Stat.is at c.in_ok-step.ensures in
    less_behind_stat c.args.self.now.grammar.tokens.now c.args.self.now.grammar.room c.loop-stats.end c.in-Stat.next found

pub loop-stats-preserved : goal.loop-stats-preserved
loop-stats-preserved g c =
    let found = rw c.in-Stat.is at c.in_ok-step.ensures in
    one_stat c.args.self.now.grammar.tokens.now c.args.self.now.grammar.room c.args.at c.loop-stats.stats c.push_stat.new.list c.loop-stats.nest c.loop-stats.end
    c.max-nest.result c.in-Stat.next c.loop-stats.invariant found c.in_ok-push_stat-in-Stat.ensures c.max-nest.ensures

pub returns-in-Last : goal.returns-in-Last
returns-in-Last g c =
    let found = rw c.in-Last.is at c.in_ok-step.ensures in
    one_last c.args.self.now.grammar.tokens.now c.args.self.now.grammar.room c.args.at c.loop-stats.stats c.push_stat-in-Last.new.list c.loop-stats.nest
    c.loop-stats.end c.max.result c.in-Last.last c.loop-stats.invariant found c.in_ok-push_stat-in-Last.ensures c.max.ensures
