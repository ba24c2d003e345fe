use Rattle.std.proofs.Common.{◌≡◌, ◌≤◌, suc, pos, true, false, ap, sym, ◌∙◌, arith}
use Rattle.value_model.specs.declared.value.Value.TheVariants.{Num}
use Rattle.value_arena.specs.Tables as spec
use Rattle.value_arena.proofs.Borders.{stays, falls, same_number, same_content}
use Rattle.value_arena.proofs.entries.border_after.Goals as goal

pub returns-in_default : goal.returns-in_default
returns-in_default c =
    sym (stays c.args.entries.now.entries c.args.key.now c.args.border c.requires.before
    (λ k l is. absurd (c.in_default.not-Num (pos (suc k)) (sym is)))
    (λ is. absurd (c.in_default.not-Num (pos (suc c.args.border)) (sym is))))

pub returns-in_default-list_place : goal.returns-in_default-list_place
returns-in_default-list_place c =
    sym (stays c.args.entries.now.entries c.args.key.now c.args.border c.requires.before
    (λ k l is. absurd (c.in_default-list_place.ensures.place k (same_content (pos (suc k)) c.in-Num.number (is ∙ c.in-Num.is))))
    (λ is. absurd (c.in_default-list_place.ensures.place c.args.border (same_content (pos (suc c.args.border)) c.in-Num.number (is ∙ c.in-Num.is)))))

pub returns-then-place-border : goal.returns-then-place-border
returns-then-place-border c =
    let nil : spec.is_nil c.args.value.now ≡ true = sym c.is_nil.ensures ∙ c.if-is_nil.true in
    sym (falls c.args.entries.now.entries c.args.key.now c.args.border c.in-Some.place c.requires.before
    (ap Num c.in-Some.ensures.place ∙ sym c.in-Num.is) (omega (arith, c.if-place-border.true)) (ap spec.is_nil c.requires.written ∙ nil))

pub returns-else-place-border : goal.returns-else-place-border
returns-else-place-border c =
    let nil : spec.is_nil c.args.value.now ≡ true = sym c.is_nil.ensures ∙ c.if-is_nil.true in
    let past : c.args.border ≤ c.in-Some.place = omega (arith, c.if-place-border.false) in
    sym (stays c.args.entries.now.entries c.args.key.now c.args.border c.requires.before
    (λ k l is. absurd (omega (arith, l, past, same_number k c.in-Some.place c.args.key.now is (ap Num c.in-Some.ensures.place ∙ sym c.in-Num.is))))
    (λ is. ap spec.is_nil c.requires.written ∙ nil))

pub returns-else-place-border-2 : goal.returns-else-place-border-2
returns-else-place-border-2 c =
    let full : spec.is_nil c.args.value.now ≡ false = sym c.is_nil.ensures ∙ c.if-is_nil.false in
    sym (stays c.args.entries.now.entries c.args.key.now c.args.border c.requires.before
    (λ k l is. ap spec.is_nil c.requires.written ∙ full)
    (λ is. absurd (c.if-place-border-2.false (same_number c.in-Some.place c.args.border c.args.key.now (ap Num c.in-Some.ensures.place ∙ sym c.in-Num.is) is))))
