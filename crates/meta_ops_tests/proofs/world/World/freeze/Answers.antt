use Rattle.meta_ops_tests.proofs.Readied.{freeze_ready}
use Rattle.meta_ops_tests.proofs.world.World.freeze.Goals as goal

pub returns : goal.returns
returns c = freeze_ready c.args.self.now c.id-t.result c.freeze.new.self c.requires c.id-t.ensures.whose c.freeze.ensures
