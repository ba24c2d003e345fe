use Rattle.std.proofs.Common.{◌≡◌, ℕ, ◌<◌, nat_lt, true, List, refl, sym, ap, ◌∙◌, arith}
use Rattle.std.proofs.lemmas.Bool.Decides.{nat_tests}
use Rattle.op_words.specs.Chunks.{ChunkOf}
use Rattle.op_words.specs.declared.insn.Insn.TheVariants.{Concat}
use Rattle.machine_meaning.specs.Instructions.{row}
use Rattle.machine_meaning.specs.Needs.{is_own}
use Rattle.machine_rows.specs.Leading.{Does}
use Rattle.machine_world.proofs.Going.{runs_on}
use Rattle.machine_world.proofs.Results.{if_ok}
use Rattle.machine_steps.proofs.Steps.{executes_done}
use Rattle.machine_steps.proofs.joins.join.Goals as goal

pub concat_run-requires-clause-run : goal.concat_run-requires-clause-run
concat_run-requires-clause-run c =
    let i = c.in-Concat in
    let e : nat_lt i.first i.last ≡ true = sym (ap is_own i.is) ∙ c.requires.ready.own in
    let lt : i.first < i.last = grind (arith, nat_tests) in
    omega (arith, lt)

pub returns-clause-does : goal.returns-clause-does
returns-clause-does c =
    let w = c.args.world.now in
    let k = c.args.machine.now in
    let i = c.in-Concat in
    let w' = c.concat_run.new.world in
    let s' = c.concat_run.new.machine.stack in
    if_ok (λ done. (chunk : ChunkOf) (words : List ℕ) → Does chunk (row chunk words (Concat i.to i.first i.last) c.args.line.next) w k.code k.stack 0 done w' s') _ c.concat_run.result
    (λ done does. λ chunk p stands.
    executes_done chunk p w w' k.code k.stack s' c.args.line.insn (Concat i.to i.first i.last) c.args.line.next 0 done i.is refl (runs_on k.stack c.requires.goes) stands (does chunk p.code))
    c.concat_run.ensures.makes
