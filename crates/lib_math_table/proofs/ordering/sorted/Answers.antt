use Rattle.std.proofs.Common.{◌≡◌, slice_get, Some, rules}
use Rattle.lib_math_table.proofs.Ordered.{first_fails}
use Rattle.lib_math_table.proofs.ordering.sorted.Goals as goal

pub returns-in-Num-clause-sorts : goal.returns-in-Num-clause-sorts
returns-in-Num-clause-sorts c = c.sorted_numbers.ensures.sorts c.args.names.now

pub returns-in_default-first : goal.returns-in_default-first
returns-in_default-first c =
    let at : slice_get c.args.values.now 0 ≡ Some c.in-Some.first.now = search rules in
    record {
      sorts = λ s t.
          first_fails c.args.names.now c.args.values.now c.in-Some.first.now c.unlike.result at c.in_default-first.not-Num c.in_default-first.not-Str
          (c.unlike.ensures c.args.names.now) s t;
      moves = tt;
    }
