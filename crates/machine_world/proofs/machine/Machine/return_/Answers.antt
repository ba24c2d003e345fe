use Rattle.std.proofs.Common.{◌++◌, List, map, refl, sym, ◌∙◌, ap, subst}
use Rattle.std.specs.List.{AllByRecursion}
use Rattle.luau_tables.specs.Worlds.{MayUseIn}
use Rattle.value_model.specs.Parts.{meant}
use Rattle.value_model.specs.declared.value.Value.{Value}
use Rattle.op_words.specs.declared.insn.Insn.TheVariants.{Return}
use Rattle.machine_meaning.specs.Instructions.{row}
use Rattle.machine_world.proofs.FrameKinds.{all_on}
use Rattle.machine_world.proofs.Going.{return_makes}
use Rattle.machine_world.proofs.machine.Machine.return_.Goals as goal

pub returns-clause-makes : goal.returns-clause-makes
returns-clause-makes c = λ chunk words next.
    let w = c.args.world.now in
    let k = c.args.self.now in
    let all = c.in_ok-extend_from_slice.ensures.items ∙ ap (λ (l : List Value). l ++ c.list.result.now) c.requires.empty in
    return_makes w c.leave.new.world k.code k.stack c.leave.new.self.stack (row chunk words (Return c.args.base c.args.count) next) c.args.base c.args.count (map (meant w.names) c.extend_from_slice.new.self.items) (λ f fs u. refl)
    (λ x replies. ap (map (meant w.names)) all ∙ c.list.ensures.values x replies) c.leave.ensures.left c.requires.goes

pub returns-clause-usable : goal.returns-clause-usable
returns-clause-usable c =
    let w = c.args.world.now in
    let all = c.in_ok-extend_from_slice.ensures.items ∙ ap (λ (l : List Value). l ++ c.list.result.now) c.requires.empty in
    subst (AllByRecursion (MayUseIn c.leave.new.world)) (sym all) (all_on (MayUseIn w) (MayUseIn c.leave.new.world) c.leave.ensures.uses c.list.result.now c.list.ensures.usable)
