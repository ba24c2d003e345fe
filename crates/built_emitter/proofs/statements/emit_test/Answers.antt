use Rattle.std.proofs.Common.{◌-◌, ◌+◌, sym, ap, subst, arith}
use Rattle.syntax_tree.specs.Limits.{most_registers}
use Rattle.built_emitter.specs.Standing.{names_of}
use Rattle.built_emitter.specs.Form.{room, IsValue}
use Rattle.built_emitter.specs.Size.{expr_words}
use Rattle.built_emitter.proofs.TreeForms.{comparison, words_of_result, more_registers}
use Rattle.built_emitter.proofs.StandingParts.{left_operand, right_operand}
use Rattle.built_emitter.proofs.ItemLists.{length_extended}
use Rattle.built_emitter.proofs.statements.emit_test.Goals as goal

pub emit_value-requires-clause-form : goal.emit_value-requires-clause-form
emit_value-requires-clause-form c =
    let b = c.args.bindings.now in
    let names = names_of c.args.scope.now in
    let p = comparison b names c.args.cond.now c.in-Binary.a c.in-Binary.b c.in-Binary.op c.requires.form c.in-Binary.is in
    more_registers b (room names 0) (most_registers - c.free_register-left.result) c.get.result.now (omega arith)
    (subst (λ x. IsValue b (room names 0) x) (sym c.get.ensures) p.left)

pub emit_value-requires-2-clause-form : goal.emit_value-requires-2-clause-form
emit_value-requires-2-clause-form c =
    let b = c.args.bindings.now in
    let names = names_of c.args.scope.now in
    let p = comparison b names c.args.cond.now c.in-Binary.a c.in-Binary.b c.in-Binary.op c.requires.form c.in-Binary.is in
    more_registers b (room names 1) (most_registers - (c.free_register-left.result + 1)) c.get-2.result.now (omega arith)
    (subst (λ x. IsValue b (room names 1) x) (sym c.get-2.ensures) p.right)

pub emit_value-requires-2-clause-room : goal.emit_value-requires-2-clause-room
emit_value-requires-2-clause-room c =
    let words = words_of_result c.args.cond.now c.in-Binary.a c.in-Binary.b c.in-Binary.op c.in-Binary.is in
    let left = ap expr_words c.get.ensures in
    let right = ap expr_words c.get-2.ensures in
    omega (arith, c.requires.room, length_extended _ _ _ c.in_ok-emit_value.ensures.items.constants)

pub emit_value-requires-clause-stands : goal.emit_value-requires-clause-stands
emit_value-requires-clause-stands c =
    left_operand c.args.bindings.now c.args.scope.now c.args.cond.now c.in-Binary.a c.in-Binary.b c.get.result.now c.in-Binary.op c.in-Binary.is
    c.get.ensures c.requires.stands

pub emit_value-requires-2-clause-stands : goal.emit_value-requires-2-clause-stands
emit_value-requires-2-clause-stands c =
    right_operand c.args.bindings.now c.args.scope.now c.args.cond.now c.in-Binary.a c.in-Binary.b c.get-2.result.now c.in-Binary.op c.in-Binary.is
    c.get-2.ensures c.requires.stands
