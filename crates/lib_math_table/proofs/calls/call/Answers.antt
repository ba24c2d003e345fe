use Rattle.std.proofs.Common.{map, subst}
use Rattle.std.specs.Prelude.{IfOk}
use Rattle.luau_tables.specs.Answers.{Answered}
use Rattle.luau_tables.specs.Worlds.{store_in}
use Rattle.luau_tables.specs.declared.answer.LibAnswer.{LibAnswer}
use Rattle.lib_arguments.proofs.AtOnce.{at_once}
use Rattle.lib_arguments.proofs.RowsRun.{answered_by}
use Rattle.value_model.specs.Library.{lib}
use Rattle.value_model.specs.Parts.{meant}
use Rattle.value_model.specs.Waits.{Elsewise}
use Rattle.lib_math_table.proofs.Functions.{raised_elsewise}
use Rattle.lib_math_table.proofs.calls.call.Goals as goal

pub returns-then-is_math-clause-answered : goal.returns-then-is_math-clause-answered
returns-then-is_math-clause-answered c =
    let a = c.args.world.now in
    let vs = map (meant a.names) c.args.args.now in
    let rs = c.args.results.now.items in
    let rs' = c.math.new.results.items in
    let row = lib c.args.builtin vs (store_in a) in
    subst (λ o. IfOk c.answer.result (λ (x : LibAnswer). Answered a a rs rs' x o row)) (raised_elsewise vs c.args.builtin c.requires.builtin)
    (answered_by Elsewise a a rs rs' c.math.result row c.answer.result c.answer.ensures c.math.ensures)

pub returns-clause-answered : goal.returns-clause-answered
returns-clause-answered c =
    let a = c.args.world.now in
    let d = c.table.new.world in
    let vs = map (meant a.names) c.args.args.now in
    let rs = c.args.results.now.items in
    let rs' = c.table.new.results.items in
    let row = lib c.args.builtin vs (store_in a) in
    subst (λ o. IfOk c.answer-2.result (λ (x : LibAnswer). Answered a d rs rs' x o row)) (raised_elsewise vs c.args.builtin c.requires.builtin)
    (answered_by Elsewise a d rs rs' c.table.result row c.answer-2.result c.answer-2.ensures c.table.ensures.runs)

pub returns-then-is_math-clause-at_once : goal.returns-then-is_math-clause-at_once
returns-then-is_math-clause-at_once c = at_once c.answer.result c.math.result c.answer.ensures

pub returns-clause-at_once : goal.returns-clause-at_once
returns-clause-at_once c = at_once c.answer-2.result c.table.result c.answer-2.ensures
