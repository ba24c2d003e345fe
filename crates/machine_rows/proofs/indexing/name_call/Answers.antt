use Rattle.std.proofs.Common.{◌+◌, sym, ◌∙◌, subst}
use Rattle.value_model.specs.Parts.{meant}
use Rattle.value_model.specs.Values as m
use Rattle.op_words.specs.declared.insn.Insn.TheVariants.{NameCall}
use Rattle.machine_meaning.specs.Effects as effects
use Rattle.machine_meaning.specs.Instructions.{row}
use Rattle.machine_meaning.specs.Moves.{inside, on}
use Rattle.machine_meaning.specs.States.{Run, value_in, set}
use Rattle.machine_world.specs.Parts.{register_value, changed, Becomes}
use Rattle.machine_world.specs.Sound.{HasRegister}
use Rattle.machine_world.proofs.Going.{runs_on, goes_same}
use Rattle.machine_world.proofs.Here.{read_here}
use Rattle.machine_rows.specs.Leading.{Does}
use Rattle.machine_rows.proofs.Environments.{with_named, has_same}
use Rattle.machine_rows.proofs.Operating.{method_read}
use Rattle.machine_rows.proofs.Steps.{does_behind}
use Rattle.machine_rows.proofs.indexing.name_call.Goals as goal

pub write-requires-clause-has : goal.write-requires-clause-has
write-requires-clause-has g c = subst (HasRegister c.args.machine.now.stack) (sym c.behind-above.ensures) c.requires.behind

pub index_into-requires-clause-goes : goal.index_into-requires-clause-goes
index_into-requires-clause-goes g c = goes_same c.args.machine.now.stack c.write.new.self.stack c.write.ensures.frames c.requires.goes

pub index_into-requires-clause-has : goal.index_into-requires-clause-has
index_into-requires-clause-has g c = has_same c.args.machine.now.stack c.write.new.self.stack c.args.base c.write.ensures.frames c.requires.has

pub returns-clause-makes : goal.returns-clause-makes
returns-clause-makes g c = λ chunk words n bytes is text.
    let w = c.args.world.now in
    let k = c.args.machine.now in
    let v = meant w.names c.read-v.result in
    let x = meant w.names c.read-argument.result in
    let key = meant w.names c.args.name in
    let s1 = c.write.new.self.stack in
    let s2 = c.index_into.new.machine.stack in
    let q = effects.index v key c.args.base c.args.next in
    does_behind chunk w w w k.code k.stack s1 s2 (row chunk words (NameCall c.args.base c.args.object n) c.args.next) q (set (c.args.base + 1) x) c.index_into.result.1 c.index_into.result.0 (runs_on k.stack c.requires.goes) (subst (λ r. Becomes (changed (set r x)) w k.code k.stack w s1) c.behind-above.ensures c.write.ensures.written)
    (λ replies h. with_named chunk h n bytes (λ x f fs u. on (effects.index (value_in f u c.args.object) (m.Text x) c.args.base c.args.next) (set (c.args.base + 1) (value_in f u c.args.object) (inside f u)) fs) is
    ∙ method_read v x key (value_in h.frame h.world c.args.object) (m.Text bytes) c.args.base c.args.next h.frame h.others h.world
    (read_here h m.Nil (register_value c.args.object) Run v (c.read-v.ensures.value Run replies))
    (read_here h m.Nil (register_value c.args.object) Run x (c.read-argument.ensures.value Run replies)) text)
    (subst (λ code. Does chunk q w code s1 c.index_into.result.1 c.index_into.result.0 w s2) c.write.ensures.code (c.index_into.ensures.makes chunk))
