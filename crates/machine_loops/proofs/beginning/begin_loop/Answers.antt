use Rattle.std.proofs.Common.{true, to_z, of_z, w16, sym, subst}
use Rattle.std.proofs.lemmas.Int.{to_z-of_z}
use Rattle.op_words.specs.declared.insn.Insn.TheVariants.{ForGPrep}
use Rattle.value_model.specs.Parts.{meant}
use Rattle.machine_meaning.specs.Instructions.{row}
use Rattle.machine_meaning.specs.Moves.{branch}
use Rattle.machine_meaning.specs.States.{Run, Begins}
use Rattle.machine_world.specs.Parts.{Becomes, changed, waits}
use Rattle.machine_world.specs.Rows.{Makes}
use Rattle.machine_world.proofs.Going.{runs_on}
use Rattle.machine_rows.specs.Leading.{Does}
use Rattle.machine_loops.proofs.Begun.{generator_begins, iter_begins, loop_fails}
use Rattle.machine_loops.proofs.beginning.begin_loop.Goals as goal

pub returns-in-Generates-clause-makes : goal.returns-in-Generates-clause-makes
returns-in-Generates-clause-makes c = λ chunk words.
    let w = c.args.world.now in
    let k = c.args.machine.now in
    let x = c.in-Generates in
    let way = to_z w16 (of_z w16 c.args.by) in
    generator_begins chunk words w k.code k.stack (runs_on k.stack c.requires.goes) c.args.base c.args.by c.args.next c.set_three.new.machine.stack
    c.jump_where.new.self.stack (meant w.names x.generator) (meant w.names x.state) (meant w.names x.control) way (to_z-of_z w16 c.args.by c.ranges.by)
    (record {
      state_at = c.behind-state_at.result;
      control_at = c.behind-control_at.result;
      second = c.behind-state_at.ensures;
      third = c.behind-control_at.ensures;
      generator = meant w.names c.read-asked.result;
      state = meant w.names c.read-state.result;
      control = meant w.names c.read-control.result;
      reads = c.read-asked.ensures.value Run;
      reads_state = c.read-state.ensures.value Run;
      reads_control = c.read-control.ensures.value Run;
      is = x.ensures.meant;
    })
    c.set_three.ensures.written
    (subst (λ code. Makes (branch true way c.args.next) w code c.set_three.new.machine.stack w c.jump_where.new.self.stack) c.set_three.ensures.code
    c.jump_where.ensures.makes)

pub returns-in-Calls-clause-makes : goal.returns-in-Calls-clause-makes
returns-in-Calls-clause-makes c = λ chunk words.
    let w = c.args.world.now in
    let k = c.args.machine.now in
    let x = c.in-Calls in
    subst (λ n. Does chunk (row chunk words (ForGPrep c.args.base c.args.by) c.args.next) w k.code k.stack 0 n w c.wait.new.self.stack) (sym c.call_one.ensures)
    (iter_begins chunk words w k.code k.stack (runs_on k.stack c.requires.goes) c.args.base c.args.by c.args.next c.wait.new.self.stack x.callee c.read-asked.result
    (record {
      state_at = c.behind-state_at.result;
      control_at = c.behind-control_at.result;
      second = c.behind-state_at.ensures;
      third = c.behind-control_at.ensures;
      generator = meant w.names c.read-asked.result;
      state = meant w.names c.read-state.result;
      control = meant w.names c.read-control.result;
      reads = c.read-asked.ensures.value Run;
      reads_state = c.read-state.ensures.value Run;
      reads_control = c.read-control.ensures.value Run;
      is = x.ensures.meant;
    })
    (subst (λ z. Becomes (changed (waits (Begins c.args.base z))) w k.code k.stack w c.wait.new.self.stack) (to_z-of_z w16 c.args.by c.ranges.by) c.wait.ensures.waits))

pub returns-in-Fails-clause-makes : goal.returns-in-Fails-clause-makes
returns-in-Fails-clause-makes c = λ chunk words.
    let w = c.args.world.now in
    let k = c.args.machine.now in
    let x = c.in-Fails in
    loop_fails chunk words w k.code k.stack (runs_on k.stack c.requires.goes) c.args.base c.args.by c.args.next x.e
    (record {
      state_at = c.behind-state_at.result;
      control_at = c.behind-control_at.result;
      second = c.behind-state_at.ensures;
      third = c.behind-control_at.ensures;
      generator = meant w.names c.read-asked.result;
      state = meant w.names c.read-state.result;
      control = meant w.names c.read-control.result;
      reads = c.read-asked.ensures.value Run;
      reads_state = c.read-state.ensures.value Run;
      reads_control = c.read-control.ensures.value Run;
      is = x.ensures.meant;
    })
