use Rattle.std.proofs.Common.{sym, ◌∙◌, ap}
use Rattle.value_model.specs.Choices as choice
use Rattle.value_model.specs.Metamethods.{choose}
use Rattle.value_model.specs.Parts.{meant}
use Rattle.value_model.specs.Values as m
use Rattle.op_words.specs.declared.insn.Insn.TheVariants.{Length}
use Rattle.meta_ops.specs.Outcomes.{meant_outcome}
use Rattle.machine_meaning.specs.Instructions.{row}
use Rattle.machine_meaning.specs.Moves.{store_of, comes, settle}
use Rattle.machine_meaning.specs.States.{Run, Into}
use Rattle.machine_world.specs.Parts.{register_value}
use Rattle.machine_world.proofs.Going.{runs_on}
use Rattle.machine_world.proofs.Here.{read_here}
use Rattle.machine_rows.specs.Leading.{looks}
use Rattle.machine_rows.proofs.Operating.{usable_there}
use Rattle.machine_rows.proofs.Steps.{does_like, settled_here}
use Rattle.machine_rows.proofs.measuring.length.Goals as goal

pub length-outcome-requires : goal.length-outcome-requires
length-outcome-requires c =
    let w = c.args.world.now in
    let own = c.requires.sound.world.own in
    record {
      owned = own.owned;
      there = usable_there w c.read-a.result c.read-a.ensures.usable;
      text = c.read-a.ensures.usable.1;
      texts = own.interned;
    }

pub into_register-requires-clause-usable : goal.into_register-requires-clause-usable
into_register-requires-clause-usable c =
    (c.length-outcome.ensures c.args.world.now.owner c.requires.sound.world.own c.read-a.ensures.usable).usable

pub returns-clause-makes : goal.returns-clause-makes
returns-clause-makes c = λ chunk words.
    let w = c.args.world.now in
    let k = c.args.machine.now in
    let a = meant w.names c.read-a.result in
    let o = meant_outcome w.names c.length-outcome.result in
    let p = Into c.args.to c.args.next in
    does_like chunk w w k.code k.stack c.into_register.new.machine.stack (row chunk words (Length c.args.to c.args.from) c.args.next) (comes o (looks 0) p) 0 c.into_register.result (runs_on k.stack c.requires.goes)
    (λ replies h. ap (λ v. settle (choose (choice.Length v) (store_of h.world)) p h.frame h.others h.world) (sym (read_here h m.Nil (register_value c.args.from) Run a (c.read-a.ensures.value Run replies)))
    ∙ settled_here h (choice.Length a) o 0 p (c.length-outcome.ensures w.owner c.requires.sound.world.own c.read-a.ensures.usable).meant)
    (c.into_register.ensures.makes chunk 0)
