use Rattle.std.proofs.Common.{◌≡◌, ◌+◌, ap, sym, ◌∙◌, drop, cond, Some, true, false}
use Rattle.value_arena.specs.Tables.{is_nil}
use Rattle.luau_tables.specs.Rules as rule
use Rattle.value_arena.proofs.Places.{entry_of_drop}
use Rattle.luau_tables.proofs.reading.first_from.Goals as goal

pub returns-then-not-is_nil : goal.returns-then-not-is_nil
returns-then-not-is_nil c =
    let es = c.args.table.now.entries in
    let e = c.at-entry.result in
    let not_nil : is_nil e.1 ≡ false = sym c.is_nil.ensures ∙ c.if-not-is_nil.true in
    sym (c.loop-at.invariant ∙ ap rule.first (entry_of_drop es c.loop-at.at e c.at-entry.ensures) ∙ ap (λ b. cond b (rule.first (drop (c.loop-at.at + 1) es)) (Some e)) not_nil)

pub loop-at-preserved : goal.loop-at-preserved
loop-at-preserved c =
    let es = c.args.table.now.entries in
    let e = c.at-entry.result in
    let nil : is_nil e.1 ≡ true = sym c.is_nil.ensures ∙ c.if-not-is_nil.false in
    c.loop-at.invariant ∙ ap rule.first (entry_of_drop es c.loop-at.at e c.at-entry.ensures) ∙ ap (λ b. cond b (rule.first (drop (c.loop-at.at + 1) es)) (Some e)) nil
