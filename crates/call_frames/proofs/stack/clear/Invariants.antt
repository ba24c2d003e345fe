use Rattle.std.proofs.Common.{◌≡◌, ◌≤◌, max, ◌-◌, ◌++◌, take, drop, replicate}
use Rattle.value_model.specs.declared.value.Value.TheVariants.{Nil}
use Rattle.call_frames.proofs.stack.clear.Given as goal

abbrev pub invariant-loop-at : goal.invariant-loop-at
invariant-loop-at l = (l.at ≤ max l.fn.from l.fn.to) × (l.registers ≡ take l.fn.from l.fn.registers ++ replicate (l.at - l.fn.from) Nil ++ drop l.at l.fn.registers)
