use Rattle.std.proofs.Common.{map, sym, ◌∙◌, subst}
use Rattle.value_model.specs.Library.{lib}
use Rattle.value_model.specs.Parts.{meant}
use Rattle.luau_tables.specs.Answers.{Answered, raised_by}
use Rattle.luau_tables.specs.Worlds.{store_in}
use Rattle.machine_meaning.specs.Effects.{under, numbered}
use Rattle.machine_library.specs.Fast.{Tried}
use Rattle.machine_library.proofs.InPlace.{tried}
use Rattle.machine_library.proofs.fast.try_answer.Goals as goal

pub returns-clause-tried : goal.returns-clause-tried
returns-clause-tried c =
    let w = c.args.world.now in
    let w' = c.answer.new.world in
    let vs = map (meant w.names) c.args.args.now in
    let rs' = c.answer.new.results.items in
    let b = c.in-Some.builtin in
    let q = under numbered c.args.number in
    let a = c.in_ok-given.given in
    subst (Tried w w' q vs rs') (sym c.has_values.ensures)
    (tried w w' rs' (raised_by b vs) vs b q a (sym c.numbered.ensures.is ∙ c.in-Some.is)
    (subst (λ l. Answered w w' l rs' a (raised_by b vs) (lib b vs (store_in w))) c.requires.empty c.in_ok-given.ensures.answered))
