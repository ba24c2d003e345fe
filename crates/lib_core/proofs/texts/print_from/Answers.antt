use Rattle.std.proofs.Common.{◌∙◌}
use Rattle.lib_core.proofs.TextRows.{printed_on, print_calls, print_ends}
use Rattle.lib_core.proofs.texts.print_from.Goals as goal

pub returns-in-Some : goal.returns-in-Some
returns-in-Some c =
    print_calls c.args.world.now c.args.args.now c.loop-at.at c.index-args-at.result c.loop-at.text.items c.print_one.new.text.items c.loop-at-test.true c.index-args-at.is
    _ c.in_ok-call.field-0 c.in-Some.call c.in-Some.is c.in_ok-call.ensures c.loop-at.invariant

pub loop-at-preserved : goal.loop-at-preserved
loop-at-preserved c =
    printed_on c.args.world.now c.args.args.now c.loop-at.at c.index-args-at.result c.loop-at.text.items c.print_one.new.text.items c.loop-at-test.true c.index-args-at.is
    _ c.in_ok-call.field-0 c.in_default.not-Some c.in_ok-call.ensures c.loop-at.invariant

pub returns : goal.returns
returns c =
    print_ends c.args.world.now c.args.args.now c.loop-at.at c.loop-at.text.items c.in_ok-line.line _ c.loop-at-test.false (c.in_ok-line.ensures ∙ c.as_slice.ensures.value) c.loop-at.invariant
