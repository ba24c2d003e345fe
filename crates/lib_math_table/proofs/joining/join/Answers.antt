use Rattle.std.proofs.Common.{true, sym, subst, refl, arith}
use Rattle.std.proofs.lemmas.Int.{ints}
use Rattle.value_model.specs.Metamethods.{as_text}
use Rattle.value_model.specs.Parts.{meant}
use Rattle.luau_tables.specs.Own.{HasText}
use Rattle.table_lists.proofs.Kept as kept
use Rattle.lib_math_table.specs.Joined.{AddsText}
use Rattle.lib_math_table.proofs.ElementTexts.{joining_none, joining_fails, joining_more}
use Rattle.lib_math_table.proofs.joining.join.Goals as goal

pub loop-step-init : goal.loop-step-init
loop-step-init c = joining_none c.args.names.now c.args.separator.now c.args.table.now c.args.first c.args.count c.args.text.now.items c.requires.empty

pub add_value-requires : goal.add_value-requires
add_value-requires c =
    subst (HasText c.args.names.now) (sym c.item-v.ensures.value) (kept.item_holds (HasText c.args.names.now) tt
    (λ z. tt) c.args.table.now _ c.requires.texts)

pub returns-in-Ok-false : goal.returns-in-Ok-false
returns-in-Ok-false c =
    let names = c.args.names.now in
    let adds = subst (AddsText (as_text
    (meant names c.item-v.result)) c.part.new.text.items c.add_value.new.text.items) c.in-Ok-false.field-0-test c.in-Ok-false.ensures in
    joining_fails names c.args.separator.now c.args.table.now c.args.first c.args.count c.loop-step.step c.loop-step.text.items c.part.new.text.items c.add_value.new.text.items true c.item-v.result _
    c.loop-step-test.true (omega (arith, ints, c.get.ensures.value)) c.item-v.ensures.value c.loop-step.invariant c.invalid_element.result adds
    (c.invalid_element.ensures names)

pub loop-step-preserved : goal.loop-step-preserved
loop-step-preserved c =
    let names = c.args.names.now in
    let adds = subst (AddsText (as_text
    (meant names c.item-v.result)) c.part.new.text.items c.add_value.new.text.items) c.in-Ok-true.field-0-test c.in-Ok-true.ensures in
    joining_more names c.args.separator.now c.args.table.now c.args.first c.args.count c.loop-step.step c.loop-step.text.items c.part.new.text.items c.add_value.new.text.items _ c.item-v.result _
    c.loop-step-test.true (omega (arith, ints, c.get.ensures.value)) c.item-v.ensures.value c.loop-step.invariant refl c.in-Ok.ensures adds
