use Rattle.std.proofs.Common.{sym, ◌+◌, subst}
use Rattle.chunk_check.proofs.Decoding.{AreSoFar, none_yet, one_more, all_found, all_counted}
use Rattle.chunk_check.proofs.lines.decode_all.Goals as goal

pub returns-in_default-clause-lines : goal.returns-in_default-clause-lines
returns-in_default-clause-lines c =
    all_found c.args.code.now c.loop.counter c.loop.found.items c.loop.place c.loop.invariant (c.in_default.ensures.value)

pub loop-preserved : goal.loop-preserved
loop-preserved c =
    let so =
    one_more c.args.code.now c.loop.counter c.loop.found.items c.loop.place c.in-Some.insn c.in-Some.next
    c.loop.invariant c.loop-test.true c.in-Some.ensures.value c.in-Some.ensures.found in
    subst (λ ls. AreSoFar c.args.code.now (c.loop.counter + 1) ls c.in-Some.next) (sym c.in_ok-push.ensures.items) so

pub loop-init : goal.loop-init
loop-init c = subst (λ ls. AreSoFar c.args.code.now 0 ls 0) (sym c.new-found.ensures.items) (none_yet c.args.code.now)

pub returns-in_default-clause-within : goal.returns-in_default-clause-within
returns-in_default-clause-within c = c.loop.invariant.within

pub returns-clause-lines : goal.returns-clause-lines
returns-clause-lines c = all_counted c.args.code.now c.loop.counter c.loop.found.items c.loop.place c.loop.invariant c.loop-test.false

pub returns-clause-within : goal.returns-clause-within
returns-clause-within c = c.loop.invariant.within
