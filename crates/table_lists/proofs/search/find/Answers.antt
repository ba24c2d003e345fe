use Rattle.std.proofs.Common.{◌≡◌, ◌∙◌, ◌<◌, length, arith, sym, ap, rules, pos, ◌+ℤ◌}
use Rattle.std.proofs.lemmas.Int.{ints}
use Rattle.value_arena.specs.Tables.{is_nil, same}
use Rattle.table_lists.specs.Lists.{item}
use Rattle.table_lists.proofs.Seeking.{found_here, found_later}
use Rattle.table_lists.proofs.search.find.Goals as goal

pub returns-then-eq : goal.returns-then-eq
returns-then-eq c =
    let t = c.args.table.now in
    let n = length t.entries in
    let l : c.loop-step.step < n = omega (arith, c.loop-step-test.true, c.len-step-end.ensures.len) in
    let z = c.in_ok-number.number in
    let at : c.item-value.result ≡ item t z = search rules in
    let e : z ≡ c.args.first +ℤ pos c.loop-step.step = omega (arith, ints, c.in_ok-number.ensures, c.get.ensures.value) in
    sym (c.loop-step.invariant ∙ found_here t c.args.v c.args.first z n c.loop-step.step l e (ap is_nil (sym at) ∙ sym c.is_nil.ensures ∙ c.if-is_nil.false) (ap (λ v. same v c.args.v) (sym at) ∙ sym c.eq.ensures ∙ c.if-eq.true))

pub loop-step-preserved : goal.loop-step-preserved
loop-step-preserved c =
    let t = c.args.table.now in
    let n = length t.entries in
    let l : c.loop-step.step < n = omega (arith, c.loop-step-test.true, c.len-step-end.ensures.len) in
    let z = c.in_ok-number.number in
    let at : c.item-value.result ≡ item t z = search rules in
    let e : z ≡ c.args.first +ℤ pos c.loop-step.step = omega (arith, ints, c.in_ok-number.ensures, c.get.ensures.value) in
    c.loop-step.invariant
    ∙ found_later t c.args.v c.args.first z n c.loop-step.step l e (ap is_nil (sym at) ∙ sym c.is_nil.ensures ∙ c.if-is_nil.false) (ap (λ v. same v c.args.v) (sym at) ∙ sym c.eq.ensures ∙ c.if-eq.false)
