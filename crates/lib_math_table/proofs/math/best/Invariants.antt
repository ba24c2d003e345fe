use Rattle.std.proofs.Common.{◌≡◌, drop, map}
use Rattle.value_model.specs.MathRows as math
use Rattle.value_model.specs.Parts.{meant}
use Rattle.luau_tables.specs.Worlds.{store_in}
use Rattle.luau_tables.specs.declared.globals.LibWorld.{LibWorld}
use Rattle.lib_math_table.specs.Best.{better}
use Rattle.lib_math_table.proofs.math.best.Given as goal

abbrev pub invariant-loop-i : goal.invariant-loop-i
invariant-loop-i l =
    let w : LibWorld = l.fn.world in
    let args = map (meant w.names) l.fn.args in
    math.best_row l.fn.builtin (better l.fn.greatest) args (store_in w) ≡ math.best_from l.fn.builtin (better l.fn.greatest) (store_in w) l.i (drop l.i args) l.best
