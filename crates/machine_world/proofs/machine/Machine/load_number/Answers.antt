use Rattle.std.proofs.Common.{w16}
use Rattle.std.proofs.lemmas.Int.{to_z-of_z}
use Rattle.std.proofs.Common.{sym, ◌∙◌, ap}
use Rattle.value_model.specs.Parts.{meant}
use Rattle.value_model.specs.Values.{Number}
use Rattle.value_model.specs.declared.value.Value.TheVariants.{Num}
use Rattle.op_words.specs.declared.insn.Insn.TheVariants.{LoadN}
use Rattle.machine_meaning.specs.Instructions.{row}
use Rattle.machine_meaning.specs.Moves.{give}
use Rattle.machine_meaning.specs.States.{Run}
use Rattle.machine_world.proofs.Going.{runs_on}
use Rattle.machine_world.proofs.Here.{row_like, number_is}
use Rattle.machine_world.proofs.machine.Machine.load_number.Goals as goal

pub returns-clause-makes : goal.returns-clause-makes
returns-clause-makes c = λ chunk words.
    let w = c.args.world.now in
    let k = c.args.self.now in
    row_like w w k.code k.stack c.give.new.self.stack (row chunk words (LoadN c.args.to c.args.value) c.args.next) (give c.args.to (meant w.names (Num c.small-number.result)) c.args.next) Run (runs_on k.stack c.requires.goes) c.give.ensures.makes
    (λ replies h. ap (λ z. give c.args.to (Number z) c.args.next h.frame h.others h.world) (sym (c.small-number.ensures ∙ to_z-of_z w16 c.args.value c.ranges.value))
    ∙ ap (λ v. give c.args.to v c.args.next h.frame h.others h.world) (sym (number_is w.names c.small-number.result)))
