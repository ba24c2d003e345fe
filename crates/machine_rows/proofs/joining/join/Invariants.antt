use Rattle.std.proofs.Common.{◌≡◌, ◌∷◌, map, drop}
use Rattle.value_model.specs.Parts.{meant}
use Rattle.luau_tables.specs.Worlds.{MayUseIn}
use Rattle.luau_tables.specs.declared.globals.LibWorld.{LibWorld}
use Rattle.call_frames.specs.Stacks.{StackView}
use Rattle.op_words.specs.Chunks.{ChunkOf}
use Rattle.machine_meaning.specs.Effects.{join}
use Rattle.machine_rows.specs.Leading.{Does}
use Rattle.machine_rows.specs.declared.next.Next.{Next}
use Rattle.machine_rows.proofs.Growing.{Growth}
use Rattle.machine_rows.proofs.joining.join.Given as goal

abbrev pub invariant-loop-i : goal.invariant-loop-i
invariant-loop-i l =
    record {
      same : l.machine ≡ l.fn.machine;
      grown : Growth l.fn.world l.world;
      usable : MayUseIn l.world l.joined;
      leads : (chunk : ChunkOf) (x : Next) (w : LibWorld) (s : StackView) → Does chunk (join (meant l.world.names l.joined ∷ map (meant l.fn.world.names) (drop l.i l.fn.left)) l.fn.to l.fn.next) l.world l.fn.machine.code l.fn.machine.stack 0 x w s → Does chunk (join (meant l.fn.world.names l.fn.last ∷ map (meant l.fn.world.names) l.fn.left) l.fn.to l.fn.next) l.fn.world l.fn.machine.code l.fn.machine.stack 0 x w s;
    }
