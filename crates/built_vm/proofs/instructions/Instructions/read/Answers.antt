use Rattle.std.proofs.Common.{◌≡◌, length, subst, arith}
use Rattle.built_vm.specs.Instructions.{AreReadTo}
use Rattle.built_vm.proofs.Reading.{all_read}
use Rattle.built_vm.proofs.instructions.Instructions.read.Goals as goal

pub returns : goal.returns
returns c =
    let at_end : c.loop-at.at ≡ length c.args.words.now = omega (arith, c.loop-at.auto.at-end) in
    all_read c.args.words.now c.loop-at.entries.items (subst (λ n. AreReadTo c.args.words.now c.loop-at.entries.items n) at_end c.loop-at.invariant)
