use Rattle.std.proofs.Common.{rules, ◌-◌, ◌+◌, ◌∙◌, sym, ap, subst, arith}
use Rattle.syntax_tree.specs.declared.tree.ExprKind.TheViews as views
use Rattle.syntax_tree.specs.Limits.{most_registers}
use Rattle.built_emitter.specs.Form.{IsValue}
use Rattle.built_emitter.specs.Size.{expr_words}
use Rattle.built_emitter.specs.Standing.{names_of}
use Rattle.built_emitter.proofs.EmittedValues.{second_register, emits_of_name}
use Rattle.built_emitter.proofs.TreeForms.{operands, words_of_result, more_registers}
use Rattle.built_emitter.proofs.ItemLists.{length_extended}
use Rattle.built_emitter.proofs.StandingParts.{left_operand, right_operand}
use Rattle.built_emitter.proofs.values.+emit_value.Goals as goal

pub emit_value-requires : goal.emit_value-requires
emit_value-requires t c =
    let b = c.args.bindings.now in
    let vs = c.args.scope.now in
    let e = c.args.e.now in
    let i = c.in-Binary in
    let p = operands b (most_registers - c.args.to) e i.a i.b i.op c.requires.form i.is in
    let words = words_of_result e i.a i.b i.op i.is in
    let left = ap expr_words c.get.ensures in (
      search (rules, views.the_lemmas),
      (
        subst (λ x. IsValue b (most_registers - c.args.to) x) (sym c.get.ensures) p.left,
        (
          left_operand b vs e i.a i.b c.get.result.now i.op i.is c.get.ensures c.requires.stands,
          (c.requires.above, omega (arith, c.requires.room, words, left)),
        ),
      ),
    )

pub emit_value-requires-in-Binary : goal.emit_value-requires-in-Binary
emit_value-requires-in-Binary t c =
    let b = c.args.bindings.now in
    let vs = c.args.scope.now in
    let e = c.args.e.now in
    let i = c.in-Binary in
    let right = c.get-in-Binary.result.now in
    let p = operands b (most_registers - c.args.to) e i.a i.b i.op c.requires.form i.is in
    let words = words_of_result e i.a i.b i.op i.is in
    let left_words = ap expr_words c.get.ensures in
    let right_words = ap expr_words c.get-in-Binary.ensures in
    let grown = length_extended _ _ _ c.in_ok-emit_value-in-Binary.ensures.items.constants in (
      search (rules, views.the_lemmas),
      (
        more_registers b (most_registers - c.args.to - 1) (most_registers - (c.args.to + 1)) right (omega arith)
            (subst (λ x. IsValue b (most_registers - c.args.to - 1) x) (sym c.get-in-Binary.ensures) p.right),
        (
          right_operand b vs e i.a i.b right i.op i.is c.get-in-Binary.ensures c.requires.stands,
          (
            omega (arith, c.requires.above),
            omega (arith, c.requires.room, words, left_words, right_words, grown),
          ),
        ),
      ),
    )

pub overflow_add-to : goal.overflow_add-to
overflow_add-to t c =
    let i = c.in-Binary in
    let few = second_register c.args.bindings.now c.args.to c.args.e.now i.a i.b i.op c.requires.form i.is in omega (arith, few)

pub operation-requires-clause-room : goal.operation-requires-clause-room
operation-requires-clause-room t c =
    let i = c.in-Binary in
    second_register c.args.bindings.now c.args.to c.args.e.now i.a i.b i.op c.requires.form i.is

pub returns-in-Name : goal.returns-in-Name
returns-in-Name t c =
    let x = c.in-Name.field-0 in
    emits_of_name c.put.result c.args.code.now c.put.new.code (names_of c.args.scope.now) c.args.to c.unwrap-from.result c.args.e.now x c.in-Name.is
    (sym (c.register_of.ensures.register x c.in-Name.is) ∙ c.unwrap-from.ensures) c.put.ensures.labels c.put.ensures.item
