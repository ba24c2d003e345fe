use Rattle.std.proofs.Common.{rules, ◌≡◌, ◌∙◌, None, Some, sym}
use Rattle.built_emitter.proofs.Built.{only}
use Rattle.built_emitter.proofs.Branches.{as_branch, arm_built, unbuilt_of_branch, branches_built}
use Rattle.built_emitter.proofs.Loops.{loop_built}
use Rattle.built_emitter.proofs.BuiltBlocks.{built_more}
use Rattle.built_emitter.proofs.unbuilt.+unbuilt.Goals as goal

-- ---- blocks
pub in_block-loop-stat-preserved : goal.in_block-loop-stat-preserved
in_block-loop-stat-preserved t c =
    let none : c.in_statement.result ≡ None = search rules in
    built_more c.args.bindings.now c.args.block.now c.loop-stat.stat-index c.stat-item.result c.loop-stat.invariant c.loop-stat-test.true
    c.stat-item.is (sym none ∙ c.in_statement.ensures)

-- ---- conditions with their blocks
pub in_arm-returns-in-None : goal.in_arm-returns-in-None
in_arm-returns-in-None t c =
    arm_built c.args.bindings.now c.args.arm.now c.as_slice.result.now c.in_block.result c.as_slice.ensures c.in-None.ensures c.in_block.ensures

-- ---- branches
pub in_statement-returns-in-None : goal.in_statement-returns-in-None
in_statement-returns-in-None t c =
    let arm = c.arm-item.result in
    let alone = only c.as_slice-in-If.result.now arm c.in-len1.len_at_least c.in-len1.len_below c.arm-item.is in
    let kind = as_branch c.args.stat.now c.in-If.arms c.as_slice-in-If.result.now arm c.in-If.other None c.in-If.is
    c.as_slice-in-If.ensures alone c.in-None.is in
    let none : c.in_arm.result ≡ None = search rules in
    sym none ∙ c.in_arm.ensures ∙ sym (unbuilt_of_branch c.args.bindings.now c.args.stat.now arm kind)

pub in_statement-returns-in-Some-other : goal.in_statement-returns-in-Some-other
in_statement-returns-in-Some-other t c =
    let arm = c.arm-item.result in
    let alone = only c.as_slice-in-If.result.now arm c.in-len1.len_at_least c.in-len1.len_below c.arm-item.is in
    let kind = as_branch c.args.stat.now c.in-If.arms c.as_slice-in-If.result.now arm c.in-If.other (Some c.in-Some-other.body) c.in-If.is
    c.as_slice-in-If.ensures alone c.in-Some-other.is in
    let none : c.in_arm.result ≡ None = search rules in
    branches_built c.args.bindings.now c.args.stat.now arm c.in-Some-other.body c.as_slice-in-Some-other.result.now c.in_block.result kind
    c.as_slice-in-Some-other.ensures (sym none ∙ c.in_arm.ensures) c.in_block.ensures

-- ---- loops
pub in_statement-returns-in-None-in_condition : goal.in_statement-returns-in-None-in_condition
in_statement-returns-in-None-in_condition t c =
    loop_built c.args.bindings.now c.args.stat.now c.in-While.cond c.get.result.now c.in-While.body c.as_slice-in-None-in_condition.result.now
    c.in_block-in-None-in_condition.result c.in-While.is c.get.ensures c.as_slice-in-None-in_condition.ensures
    c.in-None-in_condition.ensures c.in_block-in-None-in_condition.ensures
