use Rattle.std.proofs.Common.{List, map, take, get_or, set}
use Rattle.value_model.specs.Store.{TableOf, empty_table}
use Rattle.luau_tables.specs.Own.{AreTexts}
use Rattle.luau_tables.specs.Worlds.{Extends}
use Rattle.frozen_libs.specs.Functions.{with_functions}
use Rattle.frozen_libs.specs.Made.{Holds, IsOpen}
use Rattle.frozen_libs.proofs.making.put_functions.Given as goal

abbrev pub invariant-loop-function : goal.invariant-loop-function
invariant-loop-function l = record {
  writable : IsOpen l.arena l.t;
  texts : AreTexts l.names;
  extends : Extends l.fn.names l.names;
  made : (ts : List TableOf) → Holds l.fn.names l.fn.arena ts →
      Holds l.names l.arena (set ts l.t.place (with_functions (get_or ts l.t.place empty_table) (map (λ f. (f.0.now, f.1))
      (take l.function-index l.fn.functions))));
}
