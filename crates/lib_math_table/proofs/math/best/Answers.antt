use Rattle.std.proofs.Common.{◌+◌, ◌∙◌, drop, map, sym, ap, subst, refl, arith}
use Rattle.std.proofs.lemmas.List.{length-map}
use Rattle.value_model.specs.MathRows as math
use Rattle.value_model.specs.Parts.{meant}
use Rattle.luau_tables.specs.Worlds.{store_in}
use Rattle.lib_arguments.specs.Checks.{Fails}
use Rattle.lib_arguments.specs.Rows.{Runs}
use Rattle.lib_arguments.proofs.RowsRun.{ends}
use Rattle.lib_math_table.specs.Best.{better}
use Rattle.lib_math_table.proofs.Giving.{number_gives, best_end, best_next}
use Rattle.lib_math_table.proofs.math.best.Goals as goal

pub returns-in-Err : goal.returns-in-Err
returns-in-Err c = ends _ _ c.in-Err.e _ (c.in-Err.ensures _)

pub returns-in-Err-number_from : goal.returns-in-Err-number_from
returns-in-Err-number_from c =
    let w = c.args.world.now in
    let e = c.in-Err-number_from.e in
    let next = best_next c.args.builtin (better c.args.greatest) (store_in w) c.loop-i.i w.names c.args.args.now c.index-args-i.result c.loop-i.best c.loop-i-test.true c.index-args-i.is in
    ends w _ e _ (subst (λ row. Fails w.names row e) (sym (c.loop-i.invariant ∙ next)) (c.in-Err-number_from.ensures _))

pub loop-i-preserved : goal.loop-i-preserved
loop-i-preserved c =
    let w = c.args.world.now in
    let i = c.loop-i.i in
    let best = math.best_from c.args.builtin (better c.args.greatest) (store_in w) (i + 1) (drop (i + 1) (map (meant w.names) c.args.args.now)) in
    c.loop-i.invariant
    ∙ best_next c.args.builtin (better c.args.greatest) (store_in w) i w.names c.args.args.now c.index-args-i.result c.loop-i.best c.loop-i-test.true c.index-args-i.is
    ∙ c.in-Ok-number_from.ensures (λ y. best (better c.args.greatest c.loop-i.best y))
    ∙ ap best (sym c.better-best.ensures)

pub returns : goal.returns
returns c =
    let w = c.args.world.now in
    let args = map (meant w.names) c.args.args.now in
    let end = best_end c.args.builtin (better c.args.greatest) (store_in w) c.loop-i.i args c.loop-i.best (omega (arith, length-map c.args.args.now (meant w.names), c.loop-i-test.false)) in
    subst (λ row. Runs w w c.args.results.now.items c.give.new.results.items c.give.result row) (sym (c.loop-i.invariant ∙ end)) (number_gives w c.args.results.now.items c.give.new.results.items c.give.result c.loop-i.best _ refl c.give.ensures)
