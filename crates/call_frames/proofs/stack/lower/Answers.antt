use Rattle.std.proofs.Common.{◌-◌, ◌<◌, sym, get_or, arith}
use Rattle.value_model.specs.declared.ids.ShortOwner.TheVariants.{Frozen}
use Rattle.call_frames.specs.declared.frame.OpenCell.{OpenCell}
use Rattle.call_frames.proofs.Searching.{lower_is}
use Rattle.call_frames.proofs.stack.lower.Goals as goal

abbrev blank : OpenCell
blank = record { register = 0; cell = record { owner = Frozen; place = 0 } }

pub returns-else-register-cells-clause-value : goal.returns-else-register-cells-clause-value
returns-else-register-cells-clause-value c =
    let low : (get_or c.args.cells.now (c.loop-at.at - 1) blank).register < c.args.register = omega (arith, c.if-register-cells.false) in
    sym (lower_is c.args.register 0 c.requires.0 c.args.cells.now c.loop-at.at blank c.requires.1 c.loop-at.invariant.0 (c.loop-at.invariant.1 blank) (λ h. low))

pub returns-after-loop-at-clause-value : goal.returns-after-loop-at-clause-value
returns-after-loop-at-clause-value c =
    sym (lower_is c.args.register 0 c.requires.0 c.args.cells.now c.loop-at.at blank c.requires.1 c.loop-at.invariant.0 (c.loop-at.invariant.1 blank) (λ h. absurd (omega arith)))
