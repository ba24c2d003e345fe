use Rattle.std.proofs.Common.{sym, ◌∙◌, ap, arith}
use Rattle.meta_ops.specs.declared.outcome.Outcome.TheVariants.{RunError}
use Rattle.meta_ops.proofs.Chains.{index_none, index_ends, index_to, index_end}
use Rattle.meta_ops.proofs.There.{table_of_some, next_of_link}
use Rattle.meta_ops.proofs.indexing.along.Goals as goal

pub returns-in_default-clause-value : goal.returns-in_default-clause-value
returns-in_default-clause-value g c =
    ap (λ e. (RunError e, c.loop-asked.asked)) c.index_error.ensures
    ∙ index_none c.args.arena.now c.args.globals.now c.args.key.now c.loop-asked.asked c.loop-asked.base c.indexed_table.result c.loop-asked-test.true c.indexed_table.ensures c.in_default.is
    ∙ sym c.loop-asked.invariant.value

pub index_asked-requires-clause-there : goal.index_asked-requires-clause-there
index_asked-requires-clause-there g c =
    table_of_some c.args.arena.now c.requires.owned c.args.globals.now c.loop-asked.base c.indexed_table.result c.in-Some.t c.loop-asked.invariant.there c.indexed_table.ensures c.in-Some.is

pub returns-in-Ends-clause-value : goal.returns-in-Ends-clause-value
returns-in-Ends-clause-value g c =
    index_ends c.args.arena.now c.args.globals.now c.args.key.now c.loop-asked.asked c.loop-asked.base c.indexed_table.result c.in-Some.t c.index_asked.result c.in-Ends.outcome c.loop-asked-test.true c.indexed_table.ensures c.in-Some.is c.index_asked.ensures.link c.in-Ends.is
    ∙ sym c.loop-asked.invariant.value

pub loop-asked-preserved : goal.loop-asked-preserved
loop-asked-preserved g c =
    record {
      value =
          c.loop-asked.invariant.value
          ∙ index_to c.args.arena.now c.args.globals.now c.args.key.now c.loop-asked.asked c.loop-asked.base c.indexed_table.result c.in-Some.t c.index_asked.result c.in-To.next c.loop-asked-test.true c.indexed_table.ensures c.in-Some.is c.index_asked.ensures.link c.in-To.is;
      ticks = omega (arith, c.loop-asked.invariant.ticks, c.index_asked.ensures.ticks);
      there = next_of_link c.args.arena.now c.requires.owned c.args.globals.now c.in-Some.t c.args.key.now c.index_asked.result c.in-To.next c.index_asked.ensures.link c.in-To.is;
    }

pub returns-clause-value : goal.returns-clause-value
returns-clause-value g c =
    index_end c.args.arena.now c.args.globals.now c.args.key.now c.loop-asked.asked c.loop-asked.base _ c.loop-asked.invariant.value (omega arith)
