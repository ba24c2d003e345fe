use Rattle.std.proofs.Common.{sym, subst}
use Rattle.value_arena.specs.Arenas.{HasThread}
use Rattle.value_arena.proofs.Growing.{thread_stays, with_thread_grows}
use Rattle.value_arena_tests.proofs.tests.end.Goals as goal

pub thread-requires : goal.thread-requires
thread-requires g c =
    subst (λ a. HasThread a c.args.id) (sym c.set_thread.ensures)
    (thread_stays c.args.arena.now _ c.args.id (with_thread_grows c.args.arena.now c.args.id _) c.requires)
