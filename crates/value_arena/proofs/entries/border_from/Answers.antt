use Rattle.std.proofs.Common.{◌≡◌, ◌≤◌, length, true, ap, sym, ◌∙◌, arith}
use Rattle.value_arena.specs.Tables.{is_nil}
use Rattle.value_arena.specs.Borders.{item_behind}
use Rattle.value_arena.proofs.Borders.{is_border, full}
use Rattle.value_arena.proofs.entries.border_from.Goals as goal

pub returns-else-not-is_nil : goal.returns-else-not-is_nil
returns-else-not-is_nil c =
    let es = c.args.entries.now.entries in
    let nil : is_nil (item_behind es c.loop-border.border) ≡ true = ap is_nil (sym c.item_behind.ensures) ∙ sym c.is_nil.ensures ∙ c.if-not-is_nil.false in
    sym (is_border es c.loop-border.border c.loop-border.invariant nil)

pub returns-after-loop-border : goal.returns-after-loop-border
returns-after-loop-border c =
    let es = c.args.entries.now.entries in
    let end : length es ≤ c.loop-border.border = omega (arith, c.loop-border-test.false, c.len.ensures.len) in
    sym (full es c.loop-border.border c.loop-border.invariant end)
