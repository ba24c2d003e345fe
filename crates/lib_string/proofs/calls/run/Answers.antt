use Rattle.std.proofs.Common.{map, subst, sym}
use Rattle.luau_tables.specs.Worlds.{store_in}
use Rattle.lib_arguments.specs.Rows.{Runs}
use Rattle.value_model.specs.Library as library
use Rattle.value_model.specs.Parts.{meant}
use Rattle.lib_string.proofs.AddedTexts.{adds_keeps}
use Rattle.lib_string.proofs.BuiltinRows.{change_row}
use Rattle.lib_string.proofs.calls.run.Goals as goal

pub returns-in-StringByte-clause-runs : goal.returns-in-StringByte-clause-runs
unfolding library.lib
returns-in-StringByte-clause-runs c =
    let a = c.args.world.now in
    subst (λ f. Runs a c.byte.new.world c.args.results.now.items c.byte.new.results.items c.byte.result (library.lib f (map (meant a.names) c.args.args.now) (store_in a))) (sym c.in-StringByte.is) c.byte.ensures.runs

pub returns-in-StringByte-clause-keeps : goal.returns-in-StringByte-clause-keeps
returns-in-StringByte-clause-keeps c = adds_keeps c.args.world.now c.byte.new.world c.byte.ensures.adds c.requires.world

pub returns-in-StringChar-clause-runs : goal.returns-in-StringChar-clause-runs
unfolding library.lib
returns-in-StringChar-clause-runs c =
    let a = c.args.world.now in
    subst (λ f. Runs a c.char_of.new.world c.args.results.now.items c.char_of.new.results.items c.char_of.result (library.lib f (map (meant a.names) c.args.args.now) (store_in a))) (sym c.in-StringChar.is) c.char_of.ensures.runs

pub returns-in-StringChar-clause-keeps : goal.returns-in-StringChar-clause-keeps
returns-in-StringChar-clause-keeps c = adds_keeps c.args.world.now c.char_of.new.world c.char_of.ensures.adds c.requires.world

pub returns-in-StringLen-clause-runs : goal.returns-in-StringLen-clause-runs
unfolding library.lib
returns-in-StringLen-clause-runs c =
    let a = c.args.world.now in
    subst (λ f. Runs a c.len.new.world c.args.results.now.items c.len.new.results.items c.len.result (library.lib f (map (meant a.names) c.args.args.now) (store_in a))) (sym c.in-StringLen.is) c.len.ensures.runs

pub returns-in-StringLen-clause-keeps : goal.returns-in-StringLen-clause-keeps
returns-in-StringLen-clause-keeps c = adds_keeps c.args.world.now c.len.new.world c.len.ensures.adds c.requires.world

pub returns-in-StringSub-clause-runs : goal.returns-in-StringSub-clause-runs
unfolding library.lib
returns-in-StringSub-clause-runs c =
    let a = c.args.world.now in
    subst (λ f. Runs a c.sub.new.world c.args.results.now.items c.sub.new.results.items c.sub.result (library.lib f (map (meant a.names) c.args.args.now) (store_in a))) (sym c.in-StringSub.is) c.sub.ensures.runs

pub returns-in-StringSub-clause-keeps : goal.returns-in-StringSub-clause-keeps
returns-in-StringSub-clause-keeps c = adds_keeps c.args.world.now c.sub.new.world c.sub.ensures.adds c.requires.world

pub returns-in-StringRep-clause-runs : goal.returns-in-StringRep-clause-runs
unfolding library.lib
returns-in-StringRep-clause-runs c =
    let a = c.args.world.now in
    subst (λ f. Runs a c.rep.new.world c.args.results.now.items c.rep.new.results.items c.rep.result (library.lib f (map (meant a.names) c.args.args.now) (store_in a))) (sym c.in-StringRep.is) c.rep.ensures.runs

pub returns-in-StringRep-clause-keeps : goal.returns-in-StringRep-clause-keeps
returns-in-StringRep-clause-keeps c = adds_keeps c.args.world.now c.rep.new.world c.rep.ensures.adds c.requires.world

pub returns-in-StringSplit-clause-runs : goal.returns-in-StringSplit-clause-runs
unfolding library.lib
returns-in-StringSplit-clause-runs c =
    let a = c.args.world.now in
    subst (λ f. Runs a c.split.new.world c.args.results.now.items c.split.new.results.items c.split.result (library.lib f (map (meant a.names) c.args.args.now) (store_in a))) (sym c.in-StringSplit.is) c.split.ensures.runs

pub returns-in_default : goal.returns-in_default
returns-in_default c =
    let a = c.args.world.now in
    let vs = map (meant a.names) c.args.args.now in
    record {
      runs = subst (λ row. Runs a c.change.new.world c.args.results.now.items c.change.new.results.items c.change.result row)
          (change_row vs (store_in a) c.args.builtin c.requires.builtin c.in_default.not-StringByte c.in_default.not-StringChar c.in_default.not-StringLen c.in_default.not-StringSub c.in_default.not-StringRep c.in_default.not-StringSplit c.requires.plain)
          c.change.ensures.runs;
      keeps = adds_keeps a c.change.new.world c.change.ensures.adds c.requires.world;
    }
