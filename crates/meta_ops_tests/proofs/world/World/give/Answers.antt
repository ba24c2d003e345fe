use Rattle.meta_ops_tests.proofs.Readied.{meta_ready}
use Rattle.meta_ops_tests.proofs.world.World.give.Goals as goal

pub returns : goal.returns
returns c =
    meta_ready c.args.self.now c.id-t.result c.id-m.result c.set_meta.new.arena c.set_meta.result c.requires c.id-t.ensures.whose c.id-m.ensures.value c.set_meta.ensures.ok c.set_meta.ensures.err c.set_meta.ensures.grows
