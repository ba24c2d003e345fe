use Rattle.std.proofs.Common.{rules, ◌≡◌, ◌+◌, ◌-◌, List, ◌∷◌, [], map, length, drop, Some, None, sym, ap, ◌∙◌, subst, arith}
use Rattle.syntax_tree.specs.declared.notes.Visible.{Visible}
use Rattle.syntax_tree.specs.declared.tree.ExprKind.TheViews as views
use Rattle.syntax_tree.specs.declared.tree.StatKind as stat
use Rattle.scope_laws.specs.Sight as sight
use Rattle.syntax_tree.specs.Limits.{most_registers}
use Rattle.built_emitter.specs.Standing.{names_of, Stand}
use Rattle.built_emitter.specs.Form.{room, IsCondition, IsBlock}
use Rattle.built_emitter.specs.Emitted.{EmitsBlock}
use Rattle.built_emitter.specs.Size.{block_words}
use Rattle.built_emitter.proofs.BuiltBlocks.{next_is}
use Rattle.built_emitter.proofs.Branches.{OtherForm, words_of_branch, words_of_branches, branch_parts}
use Rattle.built_emitter.proofs.TreeForms.{more_registers, first_statement, few_names}
use Rattle.built_emitter.proofs.Prints.{call_parts}
use Rattle.built_emitter.proofs.Loops.{loop_parts}
use Rattle.built_emitter.proofs.Declarations.{one_local, emits_of_local}
use Rattle.built_emitter.proofs.Assignments.{is_target, one_assignment, emits_of_assigns}
use Rattle.built_emitter.proofs.Prints.{emits_of_call}
use Rattle.built_emitter.proofs.Branches.{one_branch, emits_of_branch, emits_of_branches, branch_ready, branches_ready, others_ready}
use Rattle.built_emitter.proofs.EmittedStatements.{two_labels}
use Rattle.built_emitter.proofs.Loops.{emits_of_loop, loop_ready}
use Rattle.built_emitter.proofs.EmittedBlocks.{first_none, first_more, first_all}
use Rattle.built_emitter.proofs.Declarations.{local_stands}
use Rattle.built_emitter.proofs.Assignments.{assignment_stands}
use Rattle.built_emitter.proofs.Prints.{call_stands}
use Rattle.built_emitter.proofs.Branches.{condition_stands, arm_stands, else_stands}
use Rattle.built_emitter.proofs.Loops.{test_stands, body_stands}
use Rattle.built_emitter.proofs.EmittedStands.{scope_none, scope_more, names_more}
use Rattle.built_emitter.proofs.statements.+statements.Goals as goal

-- ---- blocks
pub emit_block-loop-stat-init : goal.emit_block-loop-stat-init
emit_block-loop-stat-init t c = (
  first_none c.args.bindings.now c.args.block.now (names_of c.args.scope.now) c.args.code.now c.requires.form c.requires.room
      c.requires.labels c.requires.print,
  scope_none c.args.bindings.now c.args.block.now c.args.scope.now c.requires.stand,
)

pub emit_block-loop-stat-preserved : goal.emit_block-loop-stat-preserved
emit_block-loop-stat-preserved t c = (
  first_more c.args.bindings.now c.args.block.now c.loop-stat.stat-index (names_of c.args.scope.now) (names_of c.loop-stat.scope)
      (names_of c.emit_statement.new.scope)
      c.args.code.now c.loop-stat.code c.emit_statement.new.code c.stat-item.result c.loop-stat.invariant.0 c.loop-stat-test.true c.stat-item.is
      c.in_ok-emit_statement.ensures.code (names_more c.args.bindings.now c.loop-stat.scope c.emit_statement.new.scope c.stat-item.result
      c.in_ok-emit_statement.ensures.scope),
  scope_more c.args.bindings.now c.args.block.now c.loop-stat.stat-index c.args.scope.now c.loop-stat.scope c.emit_statement.new.scope
      c.stat-item.result c.loop-stat.invariant.1 c.loop-stat-test.true c.stat-item.is c.in_ok-emit_statement.ensures.scope,
)

pub emit_block-emit_statement-requires : goal.emit_block-emit_statement-requires
emit_block-emit_statement-requires t c =
    let b = c.args.bindings.now in
    let vs = c.loop-stat.scope in
    let s = c.stat-item.result in
    let ss = drop (c.loop-stat.stat-index + 1) c.args.block.now in
    let p = c.loop-stat.invariant.0 in
    let rest = next_is c.args.block.now c.loop-stat.stat-index s c.loop-stat-test.true c.stat-item.is in
    let words = ap block_words rest in
    let form = subst (λ l. IsBlock b (names_of vs) l) rest p.form in (
      search (rules, views.the_lemmas),
      (
        (map sight.stat ss, subst (λ l. Stand b vs (map sight.stat l)) rest c.loop-stat.invariant.1.stands),
        (
          first_statement b (names_of vs) s ss form,
          (few_names b (names_of vs) (s ∷ ss) form, (omega (arith, p.room, words), (omega (arith, p.label_room, words), p.print))),
        ),
      ),
    )

pub emit_block-returns-clause-code : goal.emit_block-returns-clause-code
emit_block-returns-clause-code t c =
    first_all c.args.bindings.now c.args.block.now c.loop-stat.stat-index (names_of c.args.scope.now) (names_of c.loop-stat.scope)
    c.args.code.now c.loop-stat.code
    c.loop-stat.invariant.0 c.loop-stat-test.false

-- ---- statements of instructions alone
pub emit_statement-emit_value-requires-clause-form : goal.emit_statement-emit_value-requires-clause-form
emit_statement-emit_value-requires-clause-form t c =
    let b = c.args.bindings.now in
    let names = names_of c.args.scope.now in
    let e = c.index-as_slice-0.result in
    let p = one_local b names c.args.stat.now c.in-Local.names c.in-Local.values e c.requires.form c.in-Local.is (cc) in
    more_registers b (room names 0) (most_registers - c.free_register-free.result) e (omega (arith, p.2.few, c.free_register-free.ensures)) p.2.form

pub emit_statement-returns-in_ok-emit_value-in-Local-clause-code : goal.emit_statement-returns-in_ok-emit_value-in-Local-clause-code
emit_statement-returns-in_ok-emit_value-in-Local-clause-code t c =
    let b = c.args.bindings.now in
    let names = names_of c.args.scope.now in
    let e = c.index-as_slice-0.result in
    let p = one_local b names c.args.stat.now c.in-Local.names c.in-Local.values e c.requires.form c.in-Local.is (cc) in
    emits_of_local b _ _ _ names c.args.stat.now p.0 e c.free_register-free.result p.2 c.free_register-free.ensures
    c.in_ok-emit_value-in-Local.ensures

pub emit_statement-emit_print-requires-clause-form : goal.emit_statement-emit_print-requires-clause-form
emit_statement-emit_print-requires-clause-form t c =
    call_parts c.args.bindings.now (names_of c.args.scope.now) c.args.stat.now c.in-Call.call c.requires.form c.in-Call.is

pub emit_statement-returns-in-Call-clause-code : goal.emit_statement-returns-in-Call-clause-code
emit_statement-returns-in-Call-clause-code t c =
    emits_of_call _ _ _ (names_of c.args.scope.now) c.args.stat.now c.in-Call.call c.in-Call.is c.emit_print.ensures

pub emit_statement-returns-in-Assign-clause-code : goal.emit_statement-returns-in-Assign-clause-code
emit_statement-returns-in-Assign-clause-code t c =
    let names = names_of c.args.scope.now in
    let target = c.index-as_slice-0-in-Assign.result in
    let e = c.index-as_slice-0-in-Assign-2.result in
    let p = one_assignment c.args.bindings.now names c.args.stat.now c.in-Assign.targets c.in-Assign.values target e c.requires.form c.in-Assign.is (cc) (cc) in
    emits_of_assigns c.args.bindings.now _ _ _ names c.args.stat.now target e p c.emit_assignment.ensures

pub emit_statement-emit_assignment-requires-clause-value : goal.emit_statement-emit_assignment-requires-clause-value
emit_statement-emit_assignment-requires-clause-value t c =
    let target = c.index-as_slice-0-in-Assign.result in
    let e = c.index-as_slice-0-in-Assign-2.result in
    (one_assignment c.args.bindings.now (names_of c.args.scope.now) c.args.stat.now c.in-Assign.targets c.in-Assign.values target e c.requires.form
    c.in-Assign.is (cc) (cc)).form

pub emit_statement-emit_assignment-requires-clause-room : goal.emit_statement-emit_assignment-requires-clause-room
emit_statement-emit_assignment-requires-clause-room t c =
    let target = c.index-as_slice-0-in-Assign.result in
    let e = c.index-as_slice-0-in-Assign-2.result in
    let p = one_assignment c.args.bindings.now (names_of c.args.scope.now) c.args.stat.now c.in-Assign.targets c.in-Assign.values target e c.requires.form
    c.in-Assign.is (cc) (cc) in
    omega (arith, c.requires.room, p.words)

pub emit_statement-emit_value-requires-clause-stands : goal.emit_statement-emit_value-requires-clause-stands
emit_statement-emit_value-requires-clause-stands t c =
    let b = c.args.bindings.now in
    let vs = c.args.scope.now in
    let e = c.index-as_slice-0.result in
    let p = one_local b (names_of vs) c.args.stat.now c.in-Local.names c.in-Local.values e c.requires.form c.in-Local.is (cc) in
    local_stands b vs c.args.stat.now c.requires.stands p.0 e p.2.kind

pub emit_statement-emit_assignment-requires-clause-stand : goal.emit_statement-emit_assignment-requires-clause-stand
emit_statement-emit_assignment-requires-clause-stand t c =
    let b = c.args.bindings.now in
    let vs = c.args.scope.now in
    let target = c.index-as_slice-0-in-Assign.result in
    let e = c.index-as_slice-0-in-Assign-2.result in
    let p = one_assignment b (names_of vs) c.args.stat.now c.in-Assign.targets c.in-Assign.values target e c.requires.form c.in-Assign.is (cc) (cc) in
    assignment_stands b vs c.args.stat.now c.requires.stands target e p.kind

pub emit_statement-emit_assignment-requires-clause-target : goal.emit_statement-emit_assignment-requires-clause-target
emit_statement-emit_assignment-requires-clause-target t c =
    let b = c.args.bindings.now in
    let vs = c.args.scope.now in
    let target = c.index-as_slice-0-in-Assign.result in
    let e = c.index-as_slice-0-in-Assign-2.result in
    let p = one_assignment b (names_of vs) c.args.stat.now c.in-Assign.targets c.in-Assign.values target e c.requires.form c.in-Assign.is (cc) (cc) in
    is_target b vs target (sight.expr e ∷ []) p.local (assignment_stands b vs c.args.stat.now c.requires.stands target e p.kind)

pub emit_statement-emit_print-requires-clause-stands : goal.emit_statement-emit_print-requires-clause-stands
emit_statement-emit_print-requires-clause-stands t c =
    call_stands c.args.bindings.now c.args.scope.now c.args.stat.now c.requires.stands c.in-Call.call c.in-Call.is

-- ---- branches
pub emit_statement-bounds-as_slice-0-in-None : goal.emit_statement-bounds-as_slice-0-in-None
emit_statement-bounds-as_slice-0-in-None t c =
    let p = branch_parts c.args.bindings.now (names_of c.args.scope.now) c.args.stat.now c.in-If.arms c.in-If.other c.requires.form c.in-If.is in
    omega (arith, ap length (c.as_slice-in-None.ensures ∙ p.one_arm))

pub emit_statement-bounds-as_slice-0-in-Some : goal.emit_statement-bounds-as_slice-0-in-Some
emit_statement-bounds-as_slice-0-in-Some t c =
    let p = branch_parts c.args.bindings.now (names_of c.args.scope.now) c.args.stat.now c.in-If.arms c.in-If.other c.requires.form c.in-If.is in
    omega (arith, ap length (c.as_slice-in-Some.ensures ∙ p.one_arm))

pub emit_statement-new_label-over-requires : goal.emit_statement-new_label-over-requires
emit_statement-new_label-over-requires t c =
    let arm = c.index-as_slice-0-in-None.result in
    let p = one_branch c.args.bindings.now (names_of c.args.scope.now) c.args.stat.now c.in-If.arms arm c.in-If.other c.requires.form c.in-If.is (cc) in
    let words = words_of_branch c.args.stat.now arm (p.kind ∙ ap (λ o. stat.If (arm ∷ []) o) c.in-None.is) in
    omega (arith, c.requires.labels, words)

pub emit_statement-new_label-to_other-requires : goal.emit_statement-new_label-to_other-requires
emit_statement-new_label-to_other-requires t c =
    let arm = c.index-as_slice-0-in-Some.result in
    let p = one_branch c.args.bindings.now (names_of c.args.scope.now) c.args.stat.now c.in-If.arms arm c.in-If.other c.requires.form c.in-If.is (cc) in
    let words = words_of_branches c.args.stat.now arm c.in-Some.others (p.kind ∙ ap (λ o. stat.If (arm ∷ []) o) c.in-Some.is) in
    omega (arith, c.requires.labels, words)

pub emit_statement-new_label-over-requires-in-Some : goal.emit_statement-new_label-over-requires-in-Some
emit_statement-new_label-over-requires-in-Some t c =
    let arm = c.index-as_slice-0-in-Some.result in
    let p = one_branch c.args.bindings.now (names_of c.args.scope.now) c.args.stat.now c.in-If.arms arm c.in-If.other c.requires.form c.in-If.is (cc) in
    let words = words_of_branches c.args.stat.now arm c.in-Some.others (p.kind ∙ ap (λ o. stat.If (arm ∷ []) o) c.in-Some.is) in
    omega (arith, c.requires.labels, words, ap (λ d. d.labels) c.new_label-to_other.ensures.draft)

pub emit_statement-emit_test-requires-clause-form : goal.emit_statement-emit_test-requires-clause-form
emit_statement-emit_test-requires-clause-form t c =
    let arm = c.index-as_slice-0-in-None.result in
    (one_branch c.args.bindings.now (names_of c.args.scope.now) c.args.stat.now c.in-If.arms arm c.in-If.other c.requires.form c.in-If.is (cc)).form.cond

pub emit_statement-emit_test-requires-in-Some-clause-form : goal.emit_statement-emit_test-requires-in-Some-clause-form
emit_statement-emit_test-requires-in-Some-clause-form t c =
    let arm = c.index-as_slice-0-in-Some.result in
    (one_branch c.args.bindings.now (names_of c.args.scope.now) c.args.stat.now c.in-If.arms arm c.in-If.other c.requires.form c.in-If.is (cc)).form.cond

pub emit_statement-emit_test-requires-clause-room : goal.emit_statement-emit_test-requires-clause-room
emit_statement-emit_test-requires-clause-room t c =
    let arm = c.index-as_slice-0-in-None.result in
    let p = one_branch c.args.bindings.now (names_of c.args.scope.now) c.args.stat.now c.in-If.arms arm c.in-If.other c.requires.form c.in-If.is (cc) in
    let words = words_of_branch c.args.stat.now arm (p.kind ∙ ap (λ o. stat.If (arm ∷ []) o) c.in-None.is) in
    omega (arith, c.requires.room, words, ap (λ d. length d.constants.items) c.new_label-over.ensures.draft)

pub emit_statement-emit_test-requires-in-Some-clause-room : goal.emit_statement-emit_test-requires-in-Some-clause-room
emit_statement-emit_test-requires-in-Some-clause-room t c =
    let arm = c.index-as_slice-0-in-Some.result in
    let p = one_branch c.args.bindings.now (names_of c.args.scope.now) c.args.stat.now c.in-If.arms arm c.in-If.other c.requires.form c.in-If.is (cc) in
    let words = words_of_branches c.args.stat.now arm c.in-Some.others (p.kind ∙ ap (λ o. stat.If (arm ∷ []) o) c.in-Some.is) in
    let two = two_labels c.args.code.now c.new_label-to_other.new.code c.new_label-over-in-Some.new.code c.new_label-to_other.ensures.draft
    c.new_label-over-in-Some.ensures.draft in
    omega (arith, c.requires.room, words, ap (λ d. length d.constants.items) two)

pub emit_statement-emit_test-requires-clause-stands : goal.emit_statement-emit_test-requires-clause-stands
emit_statement-emit_test-requires-clause-stands t c =
    let arm = c.index-as_slice-0-in-None.result in
    let p = one_branch c.args.bindings.now (names_of c.args.scope.now) c.args.stat.now c.in-If.arms arm c.in-If.other c.requires.form c.in-If.is (cc) in
    condition_stands c.args.bindings.now c.args.scope.now c.args.stat.now c.requires.stands arm c.in-If.other p.kind

pub emit_statement-emit_test-requires-in-Some-clause-stands : goal.emit_statement-emit_test-requires-in-Some-clause-stands
emit_statement-emit_test-requires-in-Some-clause-stands t c =
    let arm = c.index-as_slice-0-in-Some.result in
    let p = one_branch c.args.bindings.now (names_of c.args.scope.now) c.args.stat.now c.in-If.arms arm c.in-If.other c.requires.form c.in-If.is (cc) in
    condition_stands c.args.bindings.now c.args.scope.now c.args.stat.now c.requires.stands arm c.in-If.other p.kind

pub emit_statement-emit_block-requires : goal.emit_statement-emit_block-requires
emit_statement-emit_block-requires t c =
    let arm = c.index-as_slice-0-in-None.result in
    let p = one_branch c.args.bindings.now (names_of c.args.scope.now) c.args.stat.now c.in-If.arms arm c.in-If.other c.requires.form c.in-If.is (cc) in
    let r = branch_ready c.args.code.now c.new_label-over.new.code c.emit_test.new.code (names_of c.args.scope.now) c.args.stat.now arm
    c.as_slice-in-None-2.result.now c.new_label-over.result (p.kind ∙ ap (λ o. stat.If (arm ∷ []) o) c.in-None.is)
    c.as_slice-in-None-2.ensures c.new_label-over.ensures.draft c.in_ok-emit_test-in-None.ensures
    (record { room = c.requires.room; labels = c.requires.labels; print = c.requires.print }) in (
      search (rules, views.the_lemmas),
      (
        arm_stands c.args.bindings.now c.args.scope.now c.args.stat.now c.requires.stands arm None c.as_slice-in-None-2.result.now
            (p.kind ∙ ap (λ o. stat.If (arm ∷ []) o) c.in-None.is)
            c.as_slice-in-None-2.ensures,
        (subst (λ l. IsBlock c.args.bindings.now (names_of c.args.scope.now) l) (sym c.as_slice-in-None-2.ensures) p.form.body, (r.room, (r.labels, r.print))),
      ),
    )

pub emit_statement-returns-in_ok-emit_block-in-None-clause-code : goal.emit_statement-returns-in_ok-emit_block-in-None-clause-code
emit_statement-returns-in_ok-emit_block-in-None-clause-code t c =
    let arm = c.index-as_slice-0-in-None.result in
    let p = one_branch c.args.bindings.now (names_of c.args.scope.now) c.args.stat.now c.in-If.arms arm c.in-If.other c.requires.form c.in-If.is (cc) in
    emits_of_branch _ c.args.code.now c.new_label-over.new.code c.emit_test.new.code c.emit_block.new.code _ (names_of c.args.scope.now)
    c.args.stat.now arm c.as_slice-in-None-2.result.now c.new_label-over.result (p.kind ∙ ap (λ o. stat.If (arm ∷ []) o) c.in-None.is)
    c.as_slice-in-None-2.ensures c.new_label-over.ensures.label c.new_label-over.ensures.draft c.in_ok-emit_test-in-None.ensures
    c.in_ok-emit_block-in-None.ensures.code c.put.ensures.constants c.put.ensures.labels c.put.ensures.item

pub emit_statement-emit_block-requires-in-Some : goal.emit_statement-emit_block-requires-in-Some
emit_statement-emit_block-requires-in-Some t c =
    let arm = c.index-as_slice-0-in-Some.result in
    let p = one_branch c.args.bindings.now (names_of c.args.scope.now) c.args.stat.now c.in-If.arms arm c.in-If.other c.requires.form c.in-If.is (cc) in
    let two = two_labels c.args.code.now c.new_label-to_other.new.code c.new_label-over-in-Some.new.code
    c.new_label-to_other.ensures.draft c.new_label-over-in-Some.ensures.draft in
    let r = branches_ready c.args.code.now c.new_label-over-in-Some.new.code c.emit_test-in-Some.new.code (names_of c.args.scope.now)
    c.args.stat.now arm c.as_slice-in-Some-2.result.now c.in-Some.others c.new_label-to_other.result
    (p.kind ∙ ap (λ o. stat.If (arm ∷ []) o) c.in-Some.is) c.as_slice-in-Some-2.ensures two c.in_ok-emit_test-in-Some.ensures
    (record { room = c.requires.room; labels = c.requires.labels; print = c.requires.print }) in (
      search (rules, views.the_lemmas),
      (
        arm_stands c.args.bindings.now c.args.scope.now c.args.stat.now c.requires.stands arm (Some c.in-Some.others)
            c.as_slice-in-Some-2.result.now (p.kind ∙ ap (λ o. stat.If (arm ∷ []) o) c.in-Some.is)
            c.as_slice-in-Some-2.ensures,
        (subst (λ l. IsBlock c.args.bindings.now (names_of c.args.scope.now) l) (sym c.as_slice-in-Some-2.ensures) p.form.body, (r.room, (r.labels, r.print))),
      ),
    )

pub emit_statement-emit_block-requires-in-Some-2 : goal.emit_statement-emit_block-requires-in-Some-2
emit_statement-emit_block-requires-in-Some-2 t c =
    let arm = c.index-as_slice-0-in-Some.result in
    let p = one_branch c.args.bindings.now (names_of c.args.scope.now) c.args.stat.now c.in-If.arms arm c.in-If.other c.requires.form c.in-If.is (cc) in
    let two = two_labels c.args.code.now c.new_label-to_other.new.code c.new_label-over-in-Some.new.code
    c.new_label-to_other.ensures.draft c.new_label-over-in-Some.ensures.draft in
    let r = others_ready c.args.code.now c.new_label-over-in-Some.new.code c.emit_test-in-Some.new.code c.emit_block-in-Some.new.code
    c.put-in-Some.new.code c.put-in-Some-2.new.code (names_of c.args.scope.now) c.args.stat.now arm c.as_slice-in-Some-2.result.now
    c.in-Some.others c.as_slice-in-Some-3.result.now c.new_label-to_other.result c.new_label-over-in-Some.result
    (p.kind ∙ ap (λ o. stat.If (arm ∷ []) o) c.in-Some.is) c.as_slice-in-Some-2.ensures c.as_slice-in-Some-3.ensures two
    c.in_ok-emit_test-in-Some.ensures c.in_ok-emit_block-in-Some.ensures.code c.in_ok-put-in-Some.ensures.labels
    c.in_ok-put-in-Some-2.ensures.labels c.in_ok-put-in-Some.ensures.item c.in_ok-put-in-Some-2.ensures.item
    (record { room = c.requires.room; labels = c.requires.labels; print = c.requires.print }) in
    let form = subst (λ o. OtherForm c.args.bindings.now (names_of c.args.scope.now) o) c.in-Some.is p.other_form in
    let same = sym c.in_ok-emit_block-in-Some.ensures.scope in
    let seen = c.as_slice-in-Some-3.result.now in
    let stands =
    else_stands c.args.bindings.now c.args.scope.now c.args.stat.now c.requires.stands arm c.in-Some.others seen
    (p.kind ∙ ap (λ o. stat.If (arm ∷ []) o) c.in-Some.is) c.as_slice-in-Some-3.ensures in (
      search (rules, views.the_lemmas),
      (
        subst (λ (vs : List Visible). Stand c.args.bindings.now vs (map sight.stat seen)) same stands,
        (
          subst (λ (vs : List Visible). IsBlock c.args.bindings.now (names_of vs) seen) same
              (subst (λ l. IsBlock c.args.bindings.now (names_of c.args.scope.now) l) (sym c.as_slice-in-Some-3.ensures) form),
          (r.room, (r.labels, r.print)),
        ),
      ),
    )

pub emit_statement-returns-in_ok-emit_block-in-Some-2-clause-code : goal.emit_statement-returns-in_ok-emit_block-in-Some-2-clause-code
emit_statement-returns-in_ok-emit_block-in-Some-2-clause-code t c =
    let arm = c.index-as_slice-0-in-Some.result in
    let p = one_branch c.args.bindings.now (names_of c.args.scope.now) c.args.stat.now c.in-If.arms arm c.in-If.other c.requires.form c.in-If.is (cc) in
    let two = two_labels c.args.code.now c.new_label-to_other.new.code c.new_label-over-in-Some.new.code
    c.new_label-to_other.ensures.draft c.new_label-over-in-Some.ensures.draft in
    let over : c.new_label-over-in-Some.result ≡ c.args.code.now.labels + 1 = c.new_label-over-in-Some.ensures.label ∙ ap (λ d. d.labels)
    c.new_label-to_other.ensures.draft in
    emits_of_branches _ c.args.code.now c.new_label-over-in-Some.new.code c.emit_test-in-Some.new.code c.emit_block-in-Some.new.code
    c.put-in-Some.new.code c.put-in-Some-2.new.code c.emit_block-in-Some-2.new.code _ (names_of c.args.scope.now) c.args.stat.now arm
    c.as_slice-in-Some-2.result.now c.in-Some.others c.as_slice-in-Some-3.result.now c.new_label-to_other.result
    c.new_label-over-in-Some.result (p.kind ∙ ap (λ o. stat.If (arm ∷ []) o) c.in-Some.is) c.as_slice-in-Some-2.ensures
    c.as_slice-in-Some-3.ensures c.new_label-to_other.ensures.label over two c.in_ok-emit_test-in-Some.ensures
    c.in_ok-emit_block-in-Some.ensures.code c.in_ok-put-in-Some.ensures.labels c.in_ok-put-in-Some-2.ensures.labels
    c.in_ok-put-in-Some.ensures.item c.in_ok-put-in-Some-2.ensures.item
    (subst (λ (vs : List Visible). EmitsBlock (names_of vs) c.as_slice-in-Some-3.result.now c.put-in-Some-2.new.code
    c.emit_block-in-Some-2.new.code) c.in_ok-emit_block-in-Some.ensures.scope c.in_ok-emit_block-in-Some-2.ensures.code)
    c.put-in-Some-3.ensures.labels c.put-in-Some-3.ensures.item

-- ---- loops
pub emit_statement-emit_test-requires-in-While-clause-stands : goal.emit_statement-emit_test-requires-in-While-clause-stands
emit_statement-emit_test-requires-in-While-clause-stands t c =
    test_stands c.args.bindings.now c.args.scope.now c.args.stat.now c.requires.stands c.in-While.cond c.get.result.now c.in-While.body
    c.in-While.is c.get.ensures

pub emit_statement-emit_test-requires-in-While-clause-form : goal.emit_statement-emit_test-requires-in-While-clause-form
emit_statement-emit_test-requires-in-While-clause-form t c =
    let p = loop_parts c.args.bindings.now (names_of c.args.scope.now) c.args.stat.now c.in-While.cond c.in-While.body c.requires.form c.in-While.is in
    subst (λ e. IsCondition c.args.bindings.now (names_of c.args.scope.now) e) (sym c.get.ensures) p.test

pub emit_statement-emit_block-requires-in-While : goal.emit_statement-emit_block-requires-in-While
emit_statement-emit_block-requires-in-While t c =
    let p = loop_parts c.args.bindings.now (names_of c.args.scope.now) c.args.stat.now c.in-While.cond c.in-While.body c.requires.form c.in-While.is in
    let two = two_labels c.args.code.now c.new_label-start.new.code c.new_label-over-in-While.new.code c.new_label-start.ensures.draft
    c.new_label-over-in-While.ensures.draft in
    let r = loop_ready c.args.code.now c.new_label-over-in-While.new.code c.put-in-While.new.code c.emit_test-in-While.new.code
    (names_of c.args.scope.now) c.args.stat.now c.in-While.cond c.get.result.now c.in-While.body c.as_slice-in-While.result.now
    c.new_label-start.result c.new_label-over-in-While.result c.in-While.is c.get.ensures c.as_slice-in-While.ensures two
    c.in_ok-put-in-While.ensures.labels c.in_ok-put-in-While.ensures.item c.in_ok-emit_test-in-While.ensures
    (record { room = c.requires.room; labels = c.requires.labels; print = c.requires.print }) in (
      search (rules, views.the_lemmas),
      (
        body_stands c.args.bindings.now c.args.scope.now c.args.stat.now c.requires.stands c.in-While.cond c.in-While.body
            c.as_slice-in-While.result.now c.in-While.is c.as_slice-in-While.ensures,
        (subst (λ l. IsBlock c.args.bindings.now (names_of c.args.scope.now) l) (sym c.as_slice-in-While.ensures) p.block, (r.room, (r.labels, r.print))),
      ),
    )

pub emit_statement-returns-in_ok-put-in-While-2-clause-code : goal.emit_statement-returns-in_ok-put-in-While-2-clause-code
emit_statement-returns-in_ok-put-in-While-2-clause-code t c =
    let two = two_labels c.args.code.now c.new_label-start.new.code c.new_label-over-in-While.new.code c.new_label-start.ensures.draft
    c.new_label-over-in-While.ensures.draft in
    let over : c.new_label-over-in-While.result ≡ c.args.code.now.labels + 1 = c.new_label-over-in-While.ensures.label ∙ ap
    (λ d. d.labels) c.new_label-start.ensures.draft in
    emits_of_loop _ c.args.code.now c.new_label-over-in-While.new.code c.put-in-While.new.code c.emit_test-in-While.new.code
    c.emit_block-in-While.new.code c.put-in-While-2.new.code _ (names_of c.args.scope.now) c.args.stat.now c.in-While.cond
    c.get.result.now c.in-While.body c.as_slice-in-While.result.now c.new_label-start.result c.new_label-over-in-While.result
    c.in-While.is c.get.ensures c.as_slice-in-While.ensures c.new_label-start.ensures.label over two
    c.in_ok-put-in-While.ensures.labels c.in_ok-put-in-While.ensures.item c.in_ok-emit_test-in-While.ensures
    c.in_ok-emit_block-in-While.ensures.code c.in_ok-put-in-While-2.ensures.labels c.put-in-While-3.ensures.labels
    c.in_ok-put-in-While-2.ensures.item c.put-in-While-3.ensures.item
