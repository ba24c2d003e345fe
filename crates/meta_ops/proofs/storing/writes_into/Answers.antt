use Rattle.std.proofs.Common.{sym, ◌∙◌, ap, arith}
use Rattle.meta_ops.specs.declared.outcome.Outcome.TheVariants.{RunError}
use Rattle.meta_ops.specs.declared.storing.Target.TheVariants.{NoTable}
use Rattle.meta_ops.proofs.Chains.{newindex_none, newindex_here, newindex_calls, newindex_onward, newindex_end}
use Rattle.meta_ops.proofs.There.{place_of_some, next_of_store}
use Rattle.meta_ops.proofs.storing.writes_into.Goals as goal

pub returns-in_default-clause-value : goal.returns-in_default-clause-value
returns-in_default-clause-value g c =
    ap (λ e. (NoTable (RunError e), c.loop-asked.asked)) c.index_error.ensures
    ∙ newindex_none c.args.arena.now c.args.globals.now c.args.key.now c.args.v.now c.loop-asked.asked c.loop-asked.base c.as_table.result c.loop-asked-test.true c.as_table.ensures c.in_default.is
    ∙ sym c.loop-asked.invariant.value

pub newindex_asked-requires-clause-there : goal.newindex_asked-requires-clause-there
newindex_asked-requires-clause-there g c =
    place_of_some c.args.arena.now c.requires.owned c.loop-asked.base c.as_table.result c.in-Some.t c.loop-asked.invariant.there c.as_table.ensures c.in-Some.is

pub returns-in-Here-clause-value : goal.returns-in-Here-clause-value
returns-in-Here-clause-value g c =
    newindex_here c.args.arena.now c.args.globals.now c.args.key.now c.args.v.now c.loop-asked.asked c.loop-asked.base c.as_table.result c.in-Some.t c.newindex_asked.result c.loop-asked-test.true c.as_table.ensures c.in-Some.is c.newindex_asked.ensures c.in-Here.is
    ∙ sym c.loop-asked.invariant.value

pub returns-in-Here-clause-there : goal.returns-in-Here-clause-there
returns-in-Here-clause-there g c =
    place_of_some c.args.arena.now c.requires.owned c.loop-asked.base c.as_table.result c.in-Some.t c.loop-asked.invariant.there c.as_table.ensures c.in-Some.is

pub returns-in-Calls-clause-value : goal.returns-in-Calls-clause-value
returns-in-Calls-clause-value g c =
    newindex_calls c.args.arena.now c.args.globals.now c.args.key.now c.args.v.now c.loop-asked.asked c.loop-asked.base c.as_table.result c.in-Some.t c.newindex_asked.result c.in-Calls.outcome c.loop-asked-test.true c.as_table.ensures c.in-Some.is c.newindex_asked.ensures c.in-Calls.is
    ∙ sym c.loop-asked.invariant.value

pub loop-asked-preserved : goal.loop-asked-preserved
loop-asked-preserved g c =
    record {
      value =
          c.loop-asked.invariant.value
          ∙ newindex_onward c.args.arena.now c.args.globals.now c.args.key.now c.args.v.now c.loop-asked.asked c.loop-asked.base c.as_table.result c.in-Some.t c.newindex_asked.result c.in-Onward.next c.loop-asked-test.true c.as_table.ensures c.in-Some.is c.newindex_asked.ensures c.in-Onward.is;
      ticks = omega arith;
      there = next_of_store c.args.arena.now c.requires.owned c.args.globals.now c.in-Some.t c.args.key.now c.args.v.now c.newindex_asked.result c.in-Onward.next c.newindex_asked.ensures c.in-Onward.is;
    }

pub returns-clause-value : goal.returns-clause-value
returns-clause-value g c =
    newindex_end c.args.arena.now c.args.globals.now c.args.key.now c.args.v.now c.loop-asked.asked c.loop-asked.base _ c.loop-asked.invariant.value (omega arith)
