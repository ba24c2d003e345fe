use Rattle.std.proofs.Common.{ap, ◌∙◌, OnErr, Result, Ok, Err}
use Rattle.value_arena.specs.Arenas.{with_table}
use Rattle.value_arena.proofs.Growing.{with_table_grows}
use Rattle.value_arena.proofs.Laws.{table_kept}
use Rattle.luau_tables.proofs.writing.write.Goals as goal

weaker : {A E : Type 0} {P Q : Type 0} (r : Result A E) → (P → Q) → OnErr r P → OnErr r Q
weaker (Ok a) f h = h
weaker (Err e) f h = f h

pub returns-clause-err : goal.returns-clause-err
returns-clause-err c =
    weaker c.put.result
    (λ e. ap (with_table c.args.arena.now c.args.t) (e ∙ c.table_mut.ensures.value) ∙ table_kept c.args.arena.now c.args.t)
    c.put.ensures.err

pub returns-clause-grows : goal.returns-clause-grows
returns-clause-grows c = with_table_grows c.args.arena.now c.args.t c.put.new.table
