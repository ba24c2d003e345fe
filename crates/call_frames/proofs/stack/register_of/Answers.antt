use Rattle.std.proofs.Common.{◌≡◌, ◌+◌, ◌-◌, ◌<◌, ap, sym, ◌∙◌, take, get_or, cond, Some, length, true, false, rules, arith}
use Rattle.std.proofs.lemmas.List.{take_more}
use Rattle.value_model.specs.declared.ids.ShortOwner.TheVariants.{Frozen}
use Rattle.call_frames.specs.declared.frame.OpenCell.{OpenCell}
use Rattle.call_frames.specs.Cells as opens
use Rattle.call_frames.proofs.Searching.{register_push}
use Rattle.call_frames.proofs.stack.register_of.Goals as goal

abbrev blank : OpenCell
blank = record { register = 0; cell = record { owner = Frozen; place = 0 } }

-- one cell more is looked at
step : (c : _) (os : _) (at : _) → 0 < at → at - 1 < length os → opens.register_of c (take at os) ≡ cond (opens.same (get_or os (at - 1) blank).cell c) (Some (get_or os (at - 1) blank).register) (opens.register_of c (take (at - 1) os))
step c os at h within =
    let one : at ≡ at - 1 + 1 = omega arith in
    ap (λ n. opens.register_of c (take n os)) one ∙ ap (opens.register_of c) (take_more os (at - 1) blank within) ∙ register_push c (take (at - 1) os) (get_or os (at - 1) blank)

pub returns-then-eq : goal.returns-then-eq
returns-then-eq c =
    let os = c.args.cells.now in
    let same : opens.same (get_or os (c.loop-at.at - 1) blank).cell c.args.cell ≡ true = search rules in
    sym (c.loop-at.invariant ∙ step c.args.cell os c.loop-at.at c.loop-at-test.true (omega arith)
    ∙ ap (λ b. cond b (Some (get_or os (c.loop-at.at - 1) blank).register) (opens.register_of c.args.cell (take (c.loop-at.at - 1) os))) same)

pub loop-at-preserved : goal.loop-at-preserved
loop-at-preserved c =
    let os = c.args.cells.now in
    let other : opens.same (get_or os (c.loop-at.at - 1) blank).cell c.args.cell ≡ false = search rules in
    c.loop-at.invariant ∙ step c.args.cell os c.loop-at.at c.loop-at-test.true (omega arith)
    ∙ ap (λ b. cond b (Some (get_or os (c.loop-at.at - 1) blank).register) (opens.register_of c.args.cell (take (c.loop-at.at - 1) os))) other
