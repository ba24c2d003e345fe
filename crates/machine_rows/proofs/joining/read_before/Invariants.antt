use Rattle.std.proofs.Common.{◌≡◌, ◌-◌, ◌≤◌, List, [], map}
use Rattle.std.specs.List.{AllByRecursion}
use Rattle.value_model.specs.Parts.{meant}
use Rattle.value_model.specs.declared.event.Reply.{Reply}
use Rattle.luau_tables.specs.Worlds.{MayUseIn}
use Rattle.machine_meaning.specs.States.{Focus}
use Rattle.machine_world.specs.Parts.{part, read_of}
use Rattle.machine_rows.specs.Operations.{operands}
use Rattle.machine_rows.proofs.joining.read_before.Given as goal

abbrev pub invariant-loop-i : goal.invariant-loop-i
invariant-loop-i l =
    record {
      within : l.i ≤ l.fn.last - l.fn.from;
      values : (x : Focus) (replies : List Reply) → map (meant l.fn.world.names) l.values.items ≡ read_of [] (operands (l.fn.last - l.i) l.i) (part l.fn.world l.fn.machine.code l.fn.machine.stack x replies);
      usable : AllByRecursion (MayUseIn l.fn.world) l.values.items;
    }
