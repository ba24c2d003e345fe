use Rattle.std.proofs.Common.{◌≡◌, ℕ, ◌+◌, ◌*◌, ◌≤◌, map, drop}
use Rattle.value_model.specs.Parts.{meant}
use Rattle.luau_tables.specs.Worlds.{MayUseIn}
use Rattle.call_frames.specs.Stacks.{StackView}
use Rattle.op_words.specs.Chunks.{ChunkOf}
use Rattle.machine_meaning.specs.Effects.{follow_names}
use Rattle.machine_world.specs.Functions.{text_of}
use Rattle.machine_rows.specs.Leading.{Does}
use Rattle.machine_rows.specs.declared.next.Next.{Next}
use Rattle.machine_rows.proofs.importing.follow.Given as goal

abbrev pub invariant-loop-i : goal.invariant-loop-i
invariant-loop-i g l =
    record {
      same : l.machine ≡ l.fn.machine;
      usable : MayUseIn l.fn.world l.found;
      few : l.asked ≤ 255 * l.i;
      ticks : l.steps ≡ l.fn.steps + l.asked;
      leads : (chunk : ChunkOf) (n : ℕ) (x : Next) (s : StackView) → Does chunk (follow_names (meant l.fn.world.names l.found) (map (text_of l.fn.world.names) (drop l.i l.fn.path)) l.fn.to l.fn.next) l.fn.world l.fn.machine.code l.fn.machine.stack n x l.fn.world s → Does chunk (follow_names (meant l.fn.world.names l.fn.base) (map (text_of l.fn.world.names) l.fn.path) l.fn.to l.fn.next) l.fn.world l.fn.machine.code l.fn.machine.stack (l.asked + n) x l.fn.world s;
    }
