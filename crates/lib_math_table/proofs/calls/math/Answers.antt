use Rattle.std.proofs.Common.{map, sym, subst}
use Rattle.luau_tables.specs.Worlds.{store_in}
use Rattle.value_model.specs.Library.{lib}
use Rattle.value_model.specs.Parts.{meant}
use Rattle.lib_arguments.specs.Rows.{Runs}
use Rattle.lib_math_table.proofs.Functions.{no_math}
use Rattle.lib_math_table.proofs.calls.math.Goals as goal

pub returns-in-MathAbs : goal.returns-in-MathAbs
unfolding lib
returns-in-MathAbs c =
    let w = c.args.world.now in
    subst (λ f. Runs w w c.args.results.now.items c.absolute.new.results.items c.absolute.result (lib f (map (meant w.names) c.args.args.now) (store_in w))) (sym c.in-MathAbs.is) c.absolute.ensures

pub returns-in-MathCeil : goal.returns-in-MathCeil
unfolding lib
returns-in-MathCeil c =
    let w = c.args.world.now in
    subst (λ f. Runs w w c.args.results.now.items c.whole.new.results.items c.whole.result (lib f (map (meant w.names) c.args.args.now) (store_in w))) (sym c.in-MathCeil.is) c.whole.ensures

pub returns-in-MathFloor : goal.returns-in-MathFloor
unfolding lib
returns-in-MathFloor c =
    let w = c.args.world.now in
    subst (λ f. Runs w w c.args.results.now.items c.whole-in-MathFloor.new.results.items c.whole-in-MathFloor.result (lib f (map (meant w.names) c.args.args.now) (store_in w))) (sym c.in-MathFloor.is) c.whole-in-MathFloor.ensures

pub returns-in-MathRound : goal.returns-in-MathRound
unfolding lib
returns-in-MathRound c =
    let w = c.args.world.now in
    subst (λ f. Runs w w c.args.results.now.items c.whole-in-MathRound.new.results.items c.whole-in-MathRound.result (lib f (map (meant w.names) c.args.args.now) (store_in w))) (sym c.in-MathRound.is) c.whole-in-MathRound.ensures

pub returns-in-MathSign : goal.returns-in-MathSign
unfolding lib
returns-in-MathSign c =
    let w = c.args.world.now in
    subst (λ f. Runs w w c.args.results.now.items c.sign.new.results.items c.sign.result (lib f (map (meant w.names) c.args.args.now) (store_in w))) (sym c.in-MathSign.is) c.sign.ensures

pub returns-in-MathMax : goal.returns-in-MathMax
unfolding lib
returns-in-MathMax c =
    let w = c.args.world.now in
    subst (λ f. Runs w w c.args.results.now.items c.best.new.results.items c.best.result (lib f (map (meant w.names) c.args.args.now) (store_in w))) (sym c.in-MathMax.is) c.best.ensures

pub returns-in-MathMin : goal.returns-in-MathMin
unfolding lib
returns-in-MathMin c =
    let w = c.args.world.now in
    subst (λ f. Runs w w c.args.results.now.items c.best-in-MathMin.new.results.items c.best-in-MathMin.result (lib f (map (meant w.names) c.args.args.now) (store_in w))) (sym c.in-MathMin.is) c.best-in-MathMin.ensures

pub returns-in-MathClamp : goal.returns-in-MathClamp
unfolding lib
returns-in-MathClamp c =
    let w = c.args.world.now in
    subst (λ f. Runs w w c.args.results.now.items c.clamp.new.results.items c.clamp.result (lib f (map (meant w.names) c.args.args.now) (store_in w))) (sym c.in-MathClamp.is) c.clamp.ensures

pub unreachable-requires : goal.unreachable-requires
unreachable-requires c = no_math c.args.builtin c.requires.builtin c.in_default.not-MathAbs c.in_default.not-MathCeil c.in_default.not-MathFloor c.in_default.not-MathRound c.in_default.not-MathSign c.in_default.not-MathMax c.in_default.not-MathMin c.in_default.not-MathClamp
