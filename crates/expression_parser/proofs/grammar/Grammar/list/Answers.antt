use Rattle.std.proofs.Common.{◌∷◌, max, refl}
use Rattle.std.proofs.lemmas.Result.{err_from_is_err_and}
use Rattle.parse_steps.specs.Items as item
use Rattle.expression_parser.proofs.Leading.{then_leads, then_fails}
use Rattle.expression_parser.proofs.WordTurns.{one_more}
use Rattle.expression_parser.proofs.SeparatedParts.{one_of_list, next_of_list, list_read}
use Rattle.expression_parser.proofs.grammar.Grammar.list.Goals as goal

pub returns-in_err-first : goal.returns-in_err-first
returns-in_err-first g c =
    let p = err_from_is_err_and c.from_residual.result c.from_residual.ensures.1 in
    rw (p.1, p.2) (λ v k deep. c.in_err-first.ensures v (item.list_more ∷ k) deep)

pub loop-list-init : goal.loop-list-init
loop-list-init g c = rw (c.in_ok-push.ensures, c.new-list.ensures) (one_of_list c.args.self.now.tokens.now c.args.self.now.room c.args.at c.in_ok-first.first c.in_ok-first.ensures)

pub returns-in_err-part : goal.returns-in_err-part
returns-in_err-part g c =
    let so_far = c.loop-list.invariant in
    let p = err_from_is_err_and c.from_residual-in_err-part.result c.from_residual-in_err-part.ensures.1 in
    rw (p.1, p.2) (λ v k deep. then_fails (then_leads (so_far.runs v k deep) (one_more c.args.self.now.tokens.now c.loop-list.end (max v c.loop-list.nest) k (c.loop-list-test.ensures.there refl))) c.in_err-part.field-0.0 (c.in_err-part.ensures (max v c.loop-list.nest) (item.list_more ∷ k) deep))

pub loop-list-preserved : goal.loop-list-preserved
loop-list-preserved g c = rw (c.max-nest.ensures, c.in_ok-push-2.ensures) (next_of_list c.args.self.now.tokens.now c.args.self.now.room c.args.at c.loop-list.list c.loop-list.nest c.loop-list.end c.in_ok-part.part c.loop-list.invariant (c.loop-list-test.ensures.there refl) c.in_ok-part.ensures)

pub returns : goal.returns
returns g c = list_read c.args.self.now.tokens.now c.args.self.now.room c.args.at c.loop-list.list c.loop-list.nest c.loop-list.end c.loop-list.invariant (c.loop-list-test.ensures.absent refl)
