use Rattle.std.proofs.Common.{◌+◌, ◌-◌, ◌*◌, suc, length}
use Rattle.built_vm.proofs.Turns.{IsOn}
use Rattle.built_vm.proofs.running.run.Given as goal

abbrev pub invariant-loop-insn : goal.invariant-loop-insn
invariant-loop-insn l = IsOn l.code.words.items l.code.constants.items l.turns l.left l.place l.machine

abbrev pub decreases-loop-insn : goal.decreases-loop-insn
decreases-loop-insn l = l.left * suc (length l.code.words.items) + (length l.code.words.items - l.place)
