use Rattle.std.proofs.Common.{arith}
use Rattle.std.specs.List.{IsDistinct}
use Rattle.code_link_tests.proofs.tests.nothing.Goals as goal

pub link-requires : goal.link-requires
unfolding IsDistinct
link-requires g c = rw c.new.ensures.items (record { once = tt; jumps = tt; short = omega arith })
