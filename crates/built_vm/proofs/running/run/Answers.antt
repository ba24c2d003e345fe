use Rattle.std.proofs.Common.{◌≡◌, ◌<◌, ◌≤◌, ◌-◌, length, Some, None, rules, arith, sym, subst}
use Rattle.op_words.specs.Decoding.{insn_at, StandsAt}
use Rattle.built_machine.specs.Steps.{row}
use Rattle.built_vm.specs.declared.machine.Moved.TheVariants as moved
use Rattle.built_vm.specs.Moves.{registers_of, Makes}
use Rattle.built_vm.proofs.Turns.{Gives, starts, goes_on, charges, spends, ends, sticks, leads_on}
use Rattle.built_vm.proofs.running.run.Goals as goal

pub loop-insn-init : goal.loop-insn-init
loop-insn-init c = starts c.args.code.now.words.items c.args.code.now.constants.items c.args.turns c.new-machine.result c.new-machine.ensures.output c.new-machine.ensures.registers

pub loop-insn-smaller-in-Goes : goal.loop-insn-smaller-in-Goes
loop-insn-smaller-in-Goes c =
    let code = c.args.code.now in
    let l = c.loop-insn in
    let stands : StandsAt code.words.items l.place c.in-Some.insn c.in-Some.next = search rules in
    let further : l.place < c.in-Some.next = omega arith in
    let within : c.in-Some.next ≤ length code.words.items = stands.within in
    let makes : Makes (row code.constants.items c.in-Some.insn l.place c.in-Some.next (registers_of l.machine.registers)) (moved.Goes c.in-Goes.to) l.machine c.step.new.self = search rules in
    let on : l.place < c.in-Goes.to = leads_on code.constants.items c.in-Some.insn l.place c.in-Some.next c.in-Goes.to l.machine c.step.new.self further makes in
    omega (arith, on, further, within)

pub loop-insn-preserved-in-Goes : goal.loop-insn-preserved-in-Goes
loop-insn-preserved-in-Goes c =
    let code = c.args.code.now in
    let l = c.loop-insn in
    let read : Some (c.in-Some.insn, c.in-Some.next) ≡ insn_at code.words.items l.place = search rules in
    let makes : Makes (row code.constants.items c.in-Some.insn l.place c.in-Some.next (registers_of l.machine.registers)) (moved.Goes c.in-Goes.to) l.machine c.step.new.self = search rules in
    goes_on code.words.items code.constants.items c.args.turns l.left l.place l.machine l.invariant c.in-Some.insn c.in-Some.next read c.in-Goes.to c.step.new.self makes

pub returns-then-left-eq0 : goal.returns-then-left-eq0
returns-then-left-eq0 c =
    let code = c.args.code.now in
    let l = c.loop-insn in
    let read : Some (c.in-Some.insn, c.in-Some.next) ≡ insn_at code.words.items l.place = search rules in
    let makes : Makes (row code.constants.items c.in-Some.insn l.place c.in-Some.next (registers_of l.machine.registers)) (moved.Charges c.in-Charges.to) l.machine c.step.new.self = search rules in
    subst (Gives code.words.items code.constants.items c.args.turns) (sym c.end.ensures)
    (spends code.words.items code.constants.items c.args.turns l.left l.place l.machine l.invariant c.in-Some.insn c.in-Some.next read c.in-Charges.to c.step.new.self (omega arith) makes)

pub loop-insn-preserved : goal.loop-insn-preserved
loop-insn-preserved c =
    let code = c.args.code.now in
    let l = c.loop-insn in
    let read : Some (c.in-Some.insn, c.in-Some.next) ≡ insn_at code.words.items l.place = search rules in
    let makes : Makes (row code.constants.items c.in-Some.insn l.place c.in-Some.next (registers_of l.machine.registers)) (moved.Charges c.in-Charges.to) l.machine c.step.new.self = search rules in
    charges code.words.items code.constants.items c.args.turns l.left l.place l.machine l.invariant c.in-Some.insn c.in-Some.next read (l.left - 1) c.in-Charges.to c.step.new.self (omega arith) makes

pub returns-in-Ends : goal.returns-in-Ends
returns-in-Ends c =
    let code = c.args.code.now in
    let l = c.loop-insn in
    let read : Some (c.in-Some.insn, c.in-Some.next) ≡ insn_at code.words.items l.place = search rules in
    let makes : Makes (row code.constants.items c.in-Some.insn l.place c.in-Some.next (registers_of l.machine.registers)) (moved.Ends c.in-Ends.end) l.machine c.step.new.self = search rules in
    subst (Gives code.words.items code.constants.items c.args.turns) (sym c.end-in-Ends.ensures)
    (ends code.words.items code.constants.items c.args.turns l.left l.place l.machine l.invariant c.in-Some.insn c.in-Some.next read c.in-Ends.end c.step.new.self makes)

pub returns : goal.returns
returns c =
    let code = c.args.code.now in
    let l = c.loop-insn in
    let read : None ≡ insn_at code.words.items l.place = search rules in
    subst (Gives code.words.items code.constants.items c.args.turns) (sym c.end-2.ensures)
    (sticks code.words.items code.constants.items c.args.turns l.left l.place l.machine l.invariant read)
