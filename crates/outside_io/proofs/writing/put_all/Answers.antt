use Rattle.std.proofs.Common.{◌<◌, length, length-drop, drop, rules, arith, ◌∙◌}
use Rattle.std.proofs.lemmas.List.{take_rest}
use Rattle.outside_io.proofs.Appends.{appended-take}
use Rattle.outside_io.proofs.writing.put_all.Goals as goal

pub loop-done-preserved : goal.loop-done-preserved
loop-done-preserved g c =
    let rest = take_rest c.args.bytes.now c.loop-done.done in
    let appends = rw rest at c.in-Ok.ensures.appends in
    let took = rw rest at c.in-Ok.ensures.took in
    let more : 0 < length (drop c.loop-done.done c.args.bytes.now) = simp length-drop (omega arith) in
    let grows = took more in (
      search rules,
      appended-take _ _ _ c.args.bytes.now c.loop-done.done c.in-Ok.count c.loop-done.invariant.1 appends,
      c.in-Ok.ensures.no_fault ∙ c.loop-done.invariant.2,
      λ none. absurd (omega arith),
    )
