use Rattle.std.proofs.Common.{refl, map}
use Rattle.value_model.specs.Parts.{meant}
use Rattle.op_words.specs.Chunks.{ChunkOf}
use Rattle.machine_world.specs.Rows.{takes}
use Rattle.machine_world.proofs.Results.{if_ok}
use Rattle.machine_rows.specs.Leading.{Does}
use Rattle.machine_values.proofs.Taking.{receives_made, receives_done}
use Rattle.machine_values.proofs.giving.take.Goals as goal

pub returns-in_ok-take_results-in-Call-clause-receives : goal.returns-in_ok-take_results-in-Call-clause-receives
returns-in_ok-take_results-in-Call-clause-receives g c = λ chunk.
    let w = c.args.world.now in
    let k = c.args.machine.now in
    let vs = c.args.values.now.items in
    receives_made chunk w w k.code k.stack c.take_results.new.machine.stack c.args.kind vs vs c.requires.waits refl c.in_ok-take_results-in-Call.ensures.makes

pub returns-in-Answer-clause-receives : goal.returns-in-Answer-clause-receives
returns-in-Answer-clause-receives g c = λ chunk.
    let w = c.args.world.now in
    let k = c.args.machine.now in
    receives_made chunk w w k.code k.stack c.take_answer.new.machine.stack c.args.kind c.args.values.now.items c.as_slice.result.now c.requires.waits c.as_slice.ensures.value c.take_answer.ensures.makes

pub returns-in-Store-clause-receives : goal.returns-in-Store-clause-receives
returns-in-Store-clause-receives g c = λ chunk.
    let w = c.args.world.now in
    let k = c.args.machine.now in
    receives_made chunk w w k.code k.stack c.take_nothing.new.machine.stack c.args.kind c.args.values.now.items c.as_slice-in-Store.result.now c.requires.waits c.as_slice-in-Store.ensures.value c.take_nothing.ensures.makes

pub returns-in-Jump-clause-receives : goal.returns-in-Jump-clause-receives
returns-in-Jump-clause-receives g c = λ chunk.
    let w = c.args.world.now in
    let k = c.args.machine.now in
    receives_made chunk w w k.code k.stack c.take_test.new.machine.stack c.args.kind c.args.values.now.items c.as_slice-in-Jump.result.now c.requires.waits c.as_slice-in-Jump.ensures.value c.take_test.ensures.makes

pub returns-in_ok-done-in-Join-clause-receives : goal.returns-in_ok-done-in-Join-clause-receives
returns-in_ok-done-in-Join-clause-receives g c = λ chunk.
    let w = c.args.world.now in
    let k = c.args.machine.now in
    receives_done chunk w c.take_joined.new.world k.code k.stack c.take_joined.new.machine.stack c.args.kind c.args.values.now.items c.as_slice-in-Join.result.now 0 c.in_ok-done-in-Join.done c.requires.waits c.as_slice-in-Join.ensures.value (c.in_ok-done-in-Join.ensures.makes chunk)

pub returns-in-Import-clause-receives : goal.returns-in-Import-clause-receives
returns-in-Import-clause-receives g c =
    let w = c.args.world.now in
    let k = c.args.machine.now in
    let s' = c.take_followed.new.machine.stack in
    let us = c.as_slice-values.result.now in
    if_ok (λ done. (chunk : ChunkOf) → Does chunk (takes (map (meant w.names) us)) w k.code k.stack done.1 done.0 w s') _ c.take_followed.result
    (λ done does. λ chunk. receives_done chunk w w k.code k.stack s' c.args.kind c.args.values.now.items us done.1 done.0 c.requires.waits c.as_slice-values.ensures.value (does chunk))
    c.take_followed.ensures.makes

pub returns-in-Iterate-clause-receives : goal.returns-in-Iterate-clause-receives
returns-in-Iterate-clause-receives g c = λ chunk.
    let w = c.args.world.now in
    let k = c.args.machine.now in
    receives_made chunk w w k.code k.stack c.take_begin.new.machine.stack c.args.kind c.args.values.now.items c.as_slice-in-Iterate.result.now c.requires.waits c.as_slice-in-Iterate.ensures.value c.take_begin.ensures.makes

pub returns-in_ok-take_turn-in-Turn-clause-receives : goal.returns-in_ok-take_turn-in-Turn-clause-receives
returns-in_ok-take_turn-in-Turn-clause-receives g c = λ chunk.
    let w = c.args.world.now in
    let k = c.args.machine.now in
    let vs = c.args.values.now.items in
    receives_made chunk w w k.code k.stack c.take_turn.new.machine.stack c.args.kind vs vs c.requires.waits refl c.in_ok-take_turn-in-Turn.ensures.makes
