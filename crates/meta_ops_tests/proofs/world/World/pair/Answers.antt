use Rattle.std.proofs.Common.{subst}
use Rattle.value_arena.specs.Arenas.{ArenaView}
use Rattle.meta_ops_tests.specs.Ready.{MayStore}
use Rattle.meta_ops_tests.proofs.world.World.pair.Goals as goal

pub returns-clause-first : goal.returns-clause-first
returns-clause-first c = c.known.ensures.there c.args.self.now.arena c.value-first.ensures.there

pub returns-clause-second : goal.returns-clause-second
returns-clause-second c =
    c.known-2.ensures.there c.args.self.now.arena (subst (λ (a : ArenaView). MayStore a c.value-second.result) c.value-first.ensures.arena c.value-second.ensures.there)
