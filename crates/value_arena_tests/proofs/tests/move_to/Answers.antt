use Rattle.std.proofs.Common.{sym, subst}
use Rattle.value_arena.specs.Arenas.{HasClosure}
use Rattle.value_arena.proofs.Growing.{closure_stays, with_closure_grows}
use Rattle.value_arena_tests.proofs.tests.move_to.Goals as goal

pub closure-requires : goal.closure-requires
closure-requires g c =
    subst (λ a. HasClosure a c.args.id) (sym c.set_env.ensures)
    (closure_stays c.args.arena.now _ c.args.id (with_closure_grows c.args.arena.now c.args.id _) c.requires)
