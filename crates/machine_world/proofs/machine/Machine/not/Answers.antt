use Rattle.std.proofs.Common.{not, refl, sym, ◌∙◌, ap}
use Rattle.value_model.specs.Parts.{meant}
use Rattle.value_model.specs.Values.{Boolean, is_true}
use Rattle.value_model.specs.declared.value.Value.TheVariants.{Bool}
use Rattle.op_words.specs.declared.insn.Insn.TheVariants.{Not}
use Rattle.machine_meaning.specs.Instructions.{row}
use Rattle.machine_world.specs.Parts.{register_value}
use Rattle.machine_world.proofs.Going.{read_makes, bool_is, read_through}
use Rattle.machine_world.proofs.machine.Machine.not.Goals as goal

pub returns-clause-makes : goal.returns-clause-makes
returns-clause-makes c = λ chunk words.
    let w = c.args.world.now in
    let k = c.args.self.now in
    read_makes w w k.code k.stack c.give.new.self.stack (row chunk words (Not c.args.to c.args.from) c.args.next) c.args.to c.args.next (meant w.names (Bool (not c.truthy-holds.result))) (λ i. Boolean (not (is_true (register_value c.args.from i)))) c.give.ensures.makes (λ f fs x. refl)
    (λ x replies. bool_is w.names (not c.truthy-holds.result) ∙ ap (λ b. Boolean (not b)) (sym (c.truthy-holds.ensures w.names)) ∙ read_through w k.code k.stack x replies (λ v. Boolean (not (is_true v))) (register_value c.args.from) (meant w.names c.read-v.result) (c.read-v.ensures.value x replies) c.requires.goes) c.requires.goes
