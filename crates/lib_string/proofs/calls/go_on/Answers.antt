use Rattle.std.proofs.Common.{subst, sym}
use Rattle.std.specs.Prelude.{IfOk}
use Rattle.luau_tables.specs.Answers.{meant_continue, Answered}
use Rattle.luau_tables.specs.Worlds.{store_in}
use Rattle.luau_tables.specs.declared.answer.LibAnswer.{LibAnswer}
use Rattle.value_model.specs.CoreRows as core
use Rattle.value_model.specs.FormatRows.{format_goes_on}
use Rattle.value_model.specs.Library as library
use Rattle.value_model.specs.Parts.{meant}
use Rattle.value_model.specs.Waits.{Elsewise}
use Rattle.lib_string.proofs.AddedTexts.{adds_keeps}
use Rattle.lib_string.proofs.BuiltinRows.{closed_answers}
use Rattle.lib_string.proofs.calls.go_on.Goals as goal

pub returns-clause-answered : goal.returns-clause-answered
unfolding library.go_on meant_continue
returns-clause-answered c =
    let a = c.args.world.now in
    let d = c.format_on.new.world in
    let rs = c.args.results.now.items in
    let rs' = c.format_on.new.results.items in
    let then = meant_continue a.names c.args.then in
    let given = meant a.names c.args.answer in
    let row = core.text_given given (format_goes_on then (store_in a)) in
    subst (λ f. IfOk c.closing.result (λ (x : LibAnswer). Answered a d rs rs' x Elsewise (core.text_given given (library.goes_on f then (store_in a))))) (sym c.requires.builtin)
    (subst (λ r. IfOk r (λ (x : LibAnswer). Answered a d rs rs' x Elsewise row)) (sym c.closing.ensures)
    (closed_answers a d rs rs' row c.format_on.result c.format_on.ensures.answers))

pub returns-clause-keeps : goal.returns-clause-keeps
returns-clause-keeps c = adds_keeps c.args.world.now c.format_on.new.world c.format_on.ensures.adds c.requires.world
