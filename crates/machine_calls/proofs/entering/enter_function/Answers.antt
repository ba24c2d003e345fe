use Rattle.std.proofs.Common.{◌≡◌, ◌-◌, List, map, take, drop, length, subst, Some, slice_get}
use Rattle.value_model.specs.Parts.{meant}
use Rattle.value_model.specs.Values as m
use Rattle.value_model.specs.Waits as wait
use Rattle.value_model.specs.declared.value.Value.{Value}
use Rattle.op_words.specs.Chunks.{ChunkOf}
use Rattle.machine_meaning.specs.States as states
use Rattle.machine_code.specs.Code.{IsCodeOf}
use Rattle.machine_world.specs.Parts.{Becomes, entered}
use Rattle.machine_world.proofs.Results.{on_ok}
use Rattle.machine_calls.specs.Moving.{ChargesTo}
use Rattle.machine_calls.proofs.Entered.{entry, rest_all, split_is, enters}
use Rattle.machine_calls.proofs.entering.enter_function.Goals as goal

pub returns-clause-moves : goal.returns-clause-moves
returns-clause-moves c =
    let w = c.args.world.now in
    let k = c.args.machine.now in
    let closure = c.args.closure in
    let vs = c.args.values.now in
    let f = c.function-function.result.now in
    let given = c.given_count-given.result in
    let behind = c.extra_from-behind.result in
    on_ok (Becomes (entered closure.place f.registers (map (meant w.names) (take given vs)) (map (meant w.names) (take (length vs - behind) (drop behind vs)))) w k.code k.stack w c.enter.new.self.stack)
    ((chunk : ChunkOf) (by : wait.Caller) → IsCodeOf chunk w.names k.code → ChargesTo chunk w k.code k.stack (states.Invoke by (m.Closure closure.place) (map (meant w.names) vs)) w c.enter.new.self.stack states.Run) c.enter.result
    (λ becomes chunk by of. enters chunk by w k.code k.stack c.enter.new.self.stack closure f vs given behind c.requires.sound c.requires.closure of (subst (λ x. slice_get k.code.functions x.proto ≡ Some f) c.closure.ensures c.function-function.ensures) (entry w.arena k.code closure c.requires.code).low (split_is f.params (length vs) given c.given_count-given.ensures.value) c.extra_from-behind.ensures.value (subst (λ (l : List Value). Becomes (entered closure.place f.registers (map (meant w.names) (take given vs)) (map (meant w.names) l)) w k.code k.stack w c.enter.new.self.stack) (rest_all behind vs) becomes))
    c.enter.ensures.entered
