use Rattle.std.proofs.Common.{◌+◌, nat_eq, sym, ◌∙◌, ap}
use Rattle.value_model.specs.Parts.{meant}
use Rattle.value_model.specs.Values.{Boolean}
use Rattle.value_model.specs.declared.value.Value.TheVariants.{Bool}
use Rattle.op_words.specs.declared.insn.Insn.TheVariants.{LoadB}
use Rattle.machine_meaning.specs.Instructions.{row}
use Rattle.machine_meaning.specs.Moves.{give}
use Rattle.machine_meaning.specs.States.{Run}
use Rattle.machine_world.proofs.Going.{runs_on, bool_is}
use Rattle.machine_world.proofs.Here.{row_like}
use Rattle.machine_world.proofs.machine.Machine.load_bool.Goals as goal

pub returns-clause-makes : goal.returns-clause-makes
returns-clause-makes c = λ chunk words next.
    let w = c.args.world.now in
    let k = c.args.self.now in
    let b = nat_eq c.args.value 1 in
    row_like w w k.code k.stack c.give.new.self.stack (row chunk words (LoadB c.args.to c.args.value c.args.skip) next) (give c.args.to (meant w.names (Bool b)) (c.place.result + 1 + c.from.result)) Run (runs_on k.stack c.requires.goes) c.give.ensures.makes
    (λ replies h. ap (λ p. give c.args.to (Boolean b) (p + 1 + c.args.skip) h.frame h.others h.world) (h.place ∙ sym c.place.ensures)
    ∙ ap (λ n. give c.args.to (Boolean b) (c.place.result + 1 + n) h.frame h.others h.world) (sym c.from.ensures)
    ∙ ap (λ v. give c.args.to v (c.place.result + 1 + c.from.result) h.frame h.others h.world) (sym (bool_is w.names b)))
