use Rattle.std.proofs.Common.{◌≡◌, map, get_or, ◌∙◌, subst}
use Rattle.std.proofs.lemmas.List.{take_all, get_or_default}
use Rattle.value_model.specs.Parts.{meant}
use Rattle.value_model.specs.declared.value.Value.TheVariants.{Nil}
use Rattle.machine_meaning.specs.States.{set, set_all}
use Rattle.machine_world.specs.Parts.{Becomes, changed}
use Rattle.machine_flow.proofs.Writing.{more_wrote}
use Rattle.machine_flow.proofs.registers.set_all.Goals as goal

pub loop-v-preserved : goal.loop-v-preserved
loop-v-preserved c =
    let w = c.args.world.now in
    let k = c.args.machine.now in
    let vs = c.args.values.now in
    let n = c.loop-v.v-index in
    let item : c.v-item.result ≡ get_or vs n Nil = c.v-item.is ∙ get_or_default vs n c.v-item.result Nil c.loop-v-test.true in
    more_wrote w k.code c.loop-v.machine.code c.write.new.self.code k.stack c.loop-v.machine.stack c.write.new.self.stack c.args.from n c.loop-v.to vs c.loop-v-test.true c.loop-v.invariant
    (subst (λ v. Becomes (changed (set c.loop-v.to (meant w.names v))) w c.loop-v.machine.code c.loop-v.machine.stack w c.write.new.self.stack) item c.write.ensures.written)
    c.write.ensures.sound c.write.ensures.frames c.write.ensures.code c.behind-to.result c.behind-to.ensures

pub returns-clause-written : goal.returns-clause-written
returns-clause-written c =
    let w = c.args.world.now in
    let k = c.args.machine.now in
    let vs = c.args.values.now in
    subst (λ l. Becomes (changed (set_all c.args.from (map (meant w.names) l))) w k.code k.stack w c.loop-v.machine.stack) (take_all c.loop-v.v-index vs c.loop-v-test.false) c.loop-v.invariant.written
