use Rattle.std.proofs.Common.{◌≡◌, rules}
use Rattle.value_arena.proofs.InOrder.{stands}
use Rattle.value_arena.proofs.Sameness.{is_value}
use Rattle.value_arena.proofs.entries.in_order.Goals as goal

pub returns-then-get-clause-place : goal.returns-then-get-clause-place
returns-then-get-clause-place c =
    let es = c.args.entries.now.entries in
    let k = c.in_ok-found.found.now in
    let is : c.args.key.now ≡ k = search rules in
    stands c.args.key.now k es c.in_ok-place.place c.in_ok-found.value.now c.len.ensures.unique (search rules) (is_value c.args.key.now k is)
