use Rattle.std.proofs.Common.{map, sym, subst}
use Rattle.luau_tables.proofs.WorldsKept.{keeps_self}
use Rattle.luau_tables.specs.Worlds.{store_in}
use Rattle.value_model.specs.Library.{lib}
use Rattle.value_model.specs.Parts.{meant}
use Rattle.lib_arguments.specs.Rows.{Runs}
use Rattle.lib_math_table.proofs.Functions.{no_table}
use Rattle.lib_math_table.proofs.calls.table.Goals as goal

pub returns-in-TableInsert-clause-runs : goal.returns-in-TableInsert-clause-runs
unfolding lib
returns-in-TableInsert-clause-runs c =
    let w = c.args.world.now in
    subst (λ f. Runs w c.insert.new.world c.args.results.now.items c.args.results.now.items c.insert.result (lib f (map (meant w.names) c.args.args.now) (store_in w))) (sym c.in-TableInsert.is) (c.insert.ensures.runs c.args.results.now.items)

pub returns-in-TableRemove-clause-runs : goal.returns-in-TableRemove-clause-runs
unfolding lib
returns-in-TableRemove-clause-runs c =
    let w = c.args.world.now in
    subst (λ f. Runs w c.remove.new.world c.args.results.now.items c.remove.new.results.items c.remove.result (lib f (map (meant w.names) c.args.args.now) (store_in w))) (sym c.in-TableRemove.is) c.remove.ensures.runs

pub returns-in-TableConcat-clause-runs : goal.returns-in-TableConcat-clause-runs
unfolding lib
returns-in-TableConcat-clause-runs c =
    let w = c.args.world.now in
    subst (λ f. Runs w c.concat.new.world c.args.results.now.items c.concat.new.results.items c.concat.result (lib f (map (meant w.names) c.args.args.now) (store_in w))) (sym c.in-TableConcat.is) c.concat.ensures.runs

pub returns-in-TableUnpack-clause-runs : goal.returns-in-TableUnpack-clause-runs
unfolding lib
returns-in-TableUnpack-clause-runs c =
    let w = c.args.world.now in
    subst (λ f. Runs w w c.args.results.now.items c.unpack.new.results.items c.unpack.result (lib f (map (meant w.names) c.args.args.now) (store_in w))) (sym c.in-TableUnpack.is) c.unpack.ensures

pub returns-in-TableUnpack-clause-keeps : goal.returns-in-TableUnpack-clause-keeps
returns-in-TableUnpack-clause-keeps c = keeps_self c.args.world.now c.requires.world

pub returns-in-TablePack-clause-runs : goal.returns-in-TablePack-clause-runs
unfolding lib
returns-in-TablePack-clause-runs c =
    let w = c.args.world.now in
    subst (λ f. Runs w c.pack.new.world c.args.results.now.items c.pack.new.results.items c.pack.result (lib f (map (meant w.names) c.args.args.now) (store_in w))) (sym c.in-TablePack.is) c.pack.ensures.runs

pub returns-in-TableCreate-clause-runs : goal.returns-in-TableCreate-clause-runs
unfolding lib
returns-in-TableCreate-clause-runs c =
    let w = c.args.world.now in
    subst (λ f. Runs w c.create.new.world c.args.results.now.items c.create.new.results.items c.create.result (lib f (map (meant w.names) c.args.args.now) (store_in w))) (sym c.in-TableCreate.is) c.create.ensures.runs

pub returns-in-TableFind-clause-runs : goal.returns-in-TableFind-clause-runs
unfolding lib
returns-in-TableFind-clause-runs c =
    let w = c.args.world.now in
    subst (λ f. Runs w w c.args.results.now.items c.find.new.results.items c.find.result (lib f (map (meant w.names) c.args.args.now) (store_in w))) (sym c.in-TableFind.is) c.find.ensures

pub returns-in-TableFind-clause-keeps : goal.returns-in-TableFind-clause-keeps
returns-in-TableFind-clause-keeps c = keeps_self c.args.world.now c.requires.world

pub returns-in-TableClear-clause-runs : goal.returns-in-TableClear-clause-runs
unfolding lib
returns-in-TableClear-clause-runs c =
    let w = c.args.world.now in
    subst (λ f. Runs w c.clear.new.world c.args.results.now.items c.args.results.now.items c.clear.result (lib f (map (meant w.names) c.args.args.now) (store_in w))) (sym c.in-TableClear.is) (c.clear.ensures.runs c.args.results.now.items)

pub returns-in-TableClone-clause-runs : goal.returns-in-TableClone-clause-runs
unfolding lib
returns-in-TableClone-clause-runs c =
    let w = c.args.world.now in
    subst (λ f. Runs w c.clone_table.new.world c.args.results.now.items c.clone_table.new.results.items c.clone_table.result (lib f (map (meant w.names) c.args.args.now) (store_in w))) (sym c.in-TableClone.is) c.clone_table.ensures.runs

pub returns-in-TableFreeze-clause-runs : goal.returns-in-TableFreeze-clause-runs
unfolding lib
returns-in-TableFreeze-clause-runs c =
    let w = c.args.world.now in
    subst (λ f. Runs w c.freeze.new.world c.args.results.now.items c.freeze.new.results.items c.freeze.result (lib f (map (meant w.names) c.args.args.now) (store_in w))) (sym c.in-TableFreeze.is) c.freeze.ensures.runs

pub returns-in-TableIsfrozen-clause-runs : goal.returns-in-TableIsfrozen-clause-runs
unfolding lib
returns-in-TableIsfrozen-clause-runs c =
    let w = c.args.world.now in
    subst (λ f. Runs w w c.args.results.now.items c.isfrozen.new.results.items c.isfrozen.result (lib f (map (meant w.names) c.args.args.now) (store_in w))) (sym c.in-TableIsfrozen.is) c.isfrozen.ensures

pub returns-in-TableIsfrozen-clause-keeps : goal.returns-in-TableIsfrozen-clause-keeps
returns-in-TableIsfrozen-clause-keeps c = keeps_self c.args.world.now c.requires.world

pub returns-in-TableMove-clause-runs : goal.returns-in-TableMove-clause-runs
unfolding lib
returns-in-TableMove-clause-runs c =
    let w = c.args.world.now in
    subst (λ f. Runs w c.move_items.new.world c.args.results.now.items c.move_items.new.results.items c.move_items.result (lib f (map (meant w.names) c.args.args.now) (store_in w))) (sym c.in-TableMove.is) c.move_items.ensures.runs

pub returns-in-TableSort-clause-runs : goal.returns-in-TableSort-clause-runs
unfolding lib
returns-in-TableSort-clause-runs c =
    let w = c.args.world.now in
    subst (λ f. Runs w c.sort.new.world c.args.results.now.items c.args.results.now.items c.sort.result (lib f (map (meant w.names) c.args.args.now) (store_in w))) (sym c.in-TableSort.is) (c.sort.ensures.runs c.args.results.now.items)

pub unreachable-requires : goal.unreachable-requires
unreachable-requires c = no_table c.args.builtin c.requires.builtin c.in_default.not-TableInsert c.in_default.not-TableRemove c.in_default.not-TableConcat c.in_default.not-TableUnpack c.in_default.not-TablePack c.in_default.not-TableCreate c.in_default.not-TableFind c.in_default.not-TableClear c.in_default.not-TableClone c.in_default.not-TableFreeze c.in_default.not-TableIsfrozen c.in_default.not-TableMove c.in_default.not-TableSort
