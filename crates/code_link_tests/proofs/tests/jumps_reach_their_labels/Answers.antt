use Rattle.std.proofs.Common.{arith, rules}
use Rattle.std.specs.List.{IsDistinct}
use Rattle.code_link_tests.proofs.tests.jumps_reach_their_labels.Goals as goal

pub link-requires : goal.link-requires
unfolding IsDistinct
link-requires g c = rw c.in_ok-items.ensures.items (record { once = search rules; jumps = search rules; short = omega arith })
