use Rattle.std.proofs.Common.{map, sym, subst}
use Rattle.luau_tables.specs.Worlds.{store_in}
use Rattle.value_model.specs.Library.{lib}
use Rattle.value_model.specs.Parts.{meant}
use Rattle.lib_arguments.specs.Rows.{Runs}
use Rattle.lib_core.proofs.Builtins.{no_reader}
use Rattle.lib_core.proofs.calls.read.Goals as goal

pub returns-in-Tonumber : goal.returns-in-Tonumber
unfolding lib
returns-in-Tonumber c =
    let w = c.args.world.now in
    subst (λ f. Runs w w c.args.results.now.items c.tonumber.new.results.items c.tonumber.result (lib f (map (meant w.names) c.args.args.now) (store_in w))) (sym c.in-Tonumber.is) c.tonumber.ensures

pub returns-in-Select : goal.returns-in-Select
unfolding lib
returns-in-Select c =
    let w = c.args.world.now in
    subst (λ f. Runs w w c.args.results.now.items c.select.new.results.items c.select.result (lib f (map (meant w.names) c.args.args.now) (store_in w))) (sym c.in-Select.is) c.select.ensures

pub returns-in-Next : goal.returns-in-Next
unfolding lib
returns-in-Next c =
    let w = c.args.world.now in
    subst (λ f. Runs w w c.args.results.now.items c.next_entry.new.results.items c.next_entry.result (lib f (map (meant w.names) c.args.args.now) (store_in w))) (sym c.in-Next.is) c.next_entry.ensures

pub returns-in-Pairs : goal.returns-in-Pairs
unfolding lib
returns-in-Pairs c =
    let w = c.args.world.now in
    subst (λ f. Runs w w c.args.results.now.items c.pairs.new.results.items c.pairs.result (lib f (map (meant w.names) c.args.args.now) (store_in w))) (sym c.in-Pairs.is) c.pairs.ensures

pub returns-in-Ipairs : goal.returns-in-Ipairs
unfolding lib
returns-in-Ipairs c =
    let w = c.args.world.now in
    subst (λ f. Runs w w c.args.results.now.items c.ipairs.new.results.items c.ipairs.result (lib f (map (meant w.names) c.args.args.now) (store_in w))) (sym c.in-Ipairs.is) c.ipairs.ensures

pub returns-in-IpairsIterator : goal.returns-in-IpairsIterator
unfolding lib
returns-in-IpairsIterator c =
    let w = c.args.world.now in
    subst (λ f. Runs w w c.args.results.now.items c.ipairs_iterator.new.results.items c.ipairs_iterator.result (lib f (map (meant w.names) c.args.args.now) (store_in w))) (sym c.in-IpairsIterator.is) c.ipairs_iterator.ensures

pub returns-in-Rawget : goal.returns-in-Rawget
unfolding lib
returns-in-Rawget c =
    let w = c.args.world.now in
    subst (λ f. Runs w w c.args.results.now.items c.rawget.new.results.items c.rawget.result (lib f (map (meant w.names) c.args.args.now) (store_in w))) (sym c.in-Rawget.is) c.rawget.ensures

pub returns-in-Rawequal : goal.returns-in-Rawequal
unfolding lib
returns-in-Rawequal c =
    let w = c.args.world.now in
    subst (λ f. Runs w w c.args.results.now.items c.rawequal.new.results.items c.rawequal.result (lib f (map (meant w.names) c.args.args.now) (store_in w))) (sym c.in-Rawequal.is) c.rawequal.ensures

pub returns-in-Rawlen : goal.returns-in-Rawlen
unfolding lib
returns-in-Rawlen c =
    let w = c.args.world.now in
    subst (λ f. Runs w w c.args.results.now.items c.rawlen.new.results.items c.rawlen.result (lib f (map (meant w.names) c.args.args.now) (store_in w))) (sym c.in-Rawlen.is) c.rawlen.ensures

pub returns-in-Getmetatable : goal.returns-in-Getmetatable
unfolding lib
returns-in-Getmetatable c =
    let w = c.args.world.now in
    subst (λ f. Runs w w c.args.results.now.items c.getmetatable.new.results.items c.getmetatable.result (lib f (map (meant w.names) c.args.args.now) (store_in w))) (sym c.in-Getmetatable.is) c.getmetatable.ensures

pub unreachable-requires : goal.unreachable-requires
unreachable-requires c = no_reader c.args.builtin c.requires.builtin c.in_default.not-Tonumber c.in_default.not-Select c.in_default.not-Next c.in_default.not-Pairs c.in_default.not-Ipairs c.in_default.not-IpairsIterator c.in_default.not-Rawget c.in_default.not-Rawequal c.in_default.not-Rawlen c.in_default.not-Getmetatable
