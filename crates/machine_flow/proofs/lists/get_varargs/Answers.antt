use Rattle.std.proofs.Common.{◌≡◌, ◌++◌, List, [], map, sym, ◌∙◌, ap, subst}
use Rattle.std.specs.List.{AllByRecursion}
use Rattle.value_model.specs.Parts.{meant}
use Rattle.value_model.specs.declared.value.Value.{Value}
use Rattle.luau_tables.specs.Worlds.{MayUseIn}
use Rattle.op_words.specs.declared.insn.Insn.TheVariants.{GetVarargs}
use Rattle.machine_meaning.specs.Effects as row
use Rattle.machine_meaning.specs.Instructions as instruction
use Rattle.machine_meaning.specs.States.{Run}
use Rattle.machine_world.proofs.Going.{runs_on}
use Rattle.machine_world.proofs.Here.{row_like, read_here}
use Rattle.machine_world.proofs.Results.{on_ok}
use Rattle.machine_flow.specs.Flow.{varargs}
use Rattle.machine_flow.proofs.lists.get_varargs.Goals as goal

pub varargs-requires-clause-runs : goal.varargs-requires-clause-runs
varargs-requires-clause-runs c = runs_on c.args.machine.now.stack c.requires.goes

pub give_list-requires-clause-usable : goal.give_list-requires-clause-usable
give_list-requires-clause-usable c =
    let all = c.in_ok-extend_from_slice.ensures.items ∙ ap (λ (l : List Value). l ++ c.varargs.result.now) c.requires.empty in
    subst (AllByRecursion (MayUseIn c.args.world.now)) (sym all) c.varargs.ensures.usable

pub returns-clause-makes : goal.returns-clause-makes
returns-clause-makes c =
    let w = c.args.world.now in
    let k = c.args.machine.now in
    let us = c.extend_from_slice.new.self.items in
    let all : us ≡ c.varargs.result.now = c.in_ok-extend_from_slice.ensures.items ∙ ap (λ (l : List Value). l ++ c.varargs.result.now) c.requires.empty in
    on_ok _ _ c.give_list.result (λ makes chunk words. row_like w w k.code k.stack c.give_list.new.machine.stack (instruction.row chunk words (GetVarargs c.args.to c.args.count) c.args.next) (row.results c.args.to c.args.count c.args.next (map (meant w.names) us)) Run (runs_on k.stack c.requires.goes) makes
    (λ replies h. ap (λ vs. row.results c.args.to c.args.count c.args.next vs h.frame h.others h.world) (sym (ap (map (meant w.names)) all ∙ read_here h [] varargs Run (map (meant w.names) c.varargs.result.now) (c.varargs.ensures.values Run replies)))))
    c.give_list.ensures.makes
