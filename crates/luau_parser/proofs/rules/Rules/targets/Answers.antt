use Rattle.std.proofs.Common.{refl}
use Rattle.std.proofs.lemmas.Result.{err_from_is_err_and}
use Rattle.luau_parser.proofs.TargetRuns.{only_first, faulty_target, one_target, all_targets}
use Rattle.luau_parser.proofs.rules.Rules.targets.Goals as goal

pub loop-list-init : goal.loop-list-init
loop-list-init g c = only_first c.args.self.now.grammar.tokens.now c.args.self.now.grammar.room c.args.begin c.args.first c.new-list.result c.push.new.list c.requires.target c.requires.plain c.new-list.ensures c.in_ok-push.ensures

pub returns-in_err-part : goal.returns-in_err-part
returns-in_err-part g c =
    let p = err_from_is_err_and c.from_residual-in_err-part.result c.from_residual-in_err-part.ensures.1 in
    rw (p.1, p.2) (faulty_target c.args.self.now.grammar.tokens.now c.args.self.now.grammar.room c.args.begin c.args.first c.loop-list.list c.loop-list.nest c.loop-list.end c.in_err-part.field-0.0 c.loop-list.invariant (c.loop-list-test.ensures.there refl) c.in_err-part.ensures)

pub loop-list-preserved : goal.loop-list-preserved
loop-list-preserved g c =
    rw (c.max-nest.ensures) (one_target c.args.self.now.grammar.tokens.now c.args.self.now.grammar.room c.args.begin c.args.first c.loop-list.list c.push-in-loop-list.new.list c.loop-list.nest c.loop-list.end c.in_ok-part.part c.loop-list.invariant (c.loop-list-test.ensures.there refl) c.in_ok-part.ensures c.in_ok-push-2.ensures)

pub returns : goal.returns
returns g c = all_targets c.args.self.now.grammar.tokens.now c.args.self.now.grammar.room c.args.begin c.args.first c.loop-list.list c.loop-list.nest c.loop-list.end c.loop-list.invariant (c.loop-list-test.ensures.absent refl)
