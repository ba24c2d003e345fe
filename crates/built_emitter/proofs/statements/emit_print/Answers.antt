use Rattle.std.proofs.Common.{◌-◌, ◌+◌, length, ap, arith}
use Rattle.syntax_tree.specs.Limits.{most_registers}
use Rattle.built_emitter.specs.Standing.{names_of}
use Rattle.built_emitter.specs.Form.{room}
use Rattle.built_emitter.proofs.Prints.{one_print, emits_of_print}
use Rattle.built_emitter.proofs.Prints.{call_argument}
use Rattle.built_emitter.proofs.TreeForms.{more_registers}
use Rattle.built_emitter.proofs.statements.emit_print.Goals as goal

pub emit_value-requires-clause-form : goal.emit_value-requires-clause-form
emit_value-requires-clause-form c =
    let b = c.args.bindings.now in
    let vs = c.args.scope.now in
    let e = c.index-as_slice-0.result in
    let p = one_print b vs c.args.call.now c.in-Call.callee e c.in-Call.args c.requires.form c.in-Call.is (cc) c.requires.stands in
    more_registers b (room (names_of vs) 1) (most_registers - (c.free_register-base.result + 1)) e (omega arith) p.value

pub emit_value-requires-clause-stands : goal.emit_value-requires-clause-stands
emit_value-requires-clause-stands c =
    let b = c.args.bindings.now in
    let vs = c.args.scope.now in
    let e = c.index-as_slice-0.result in
    let p = one_print b vs c.args.call.now c.in-Call.callee e c.in-Call.args c.requires.form c.in-Call.is (cc) c.requires.stands in
    call_argument b vs c.args.call.now p.callee e p.kind c.requires.stands

pub emit_value-requires-clause-room : goal.emit_value-requires-clause-room
emit_value-requires-clause-room c =
    let b = c.args.bindings.now in
    let vs = c.args.scope.now in
    let e = c.index-as_slice-0.result in
    let p = one_print b vs c.args.call.now c.in-Call.callee e c.in-Call.args c.requires.form c.in-Call.is (cc) c.requires.stands in
    omega (arith, c.requires.room, p.words, ap (λ x. length x.items) c.in_ok-put.ensures.constants)

pub returns : goal.returns
returns c =
    let b = c.args.bindings.now in
    let vs = c.args.scope.now in
    let e = c.index-as_slice-0.result in
    let p = one_print b vs c.args.call.now c.in-Call.callee e c.in-Call.args c.requires.form c.in-Call.is (cc) c.requires.stands in
    emits_of_print b c.put-2.result c.args.code.now c.put.new.code c.emit_value.new.code c.put-2.new.code (names_of vs)
    c.free_register-base.result c.args.call.now e p c.free_register-base.ensures c.requires.print c.in_ok-put.ensures.item
    c.in_ok-put.ensures.labels c.in_ok-emit_value.ensures c.put-2.ensures.constants c.put-2.ensures.labels c.put-2.ensures.item
