use Rattle.meta_ops_tests.proofs.Readied.{put_ready}
use Rattle.meta_ops_tests.proofs.world.World.put.Goals as goal

pub returns : goal.returns
returns c =
    put_ready c.args.self.now c.args.t c.args.key c.args.v c.write.new.arena c.write.result c.requires.ready c.requires.whose c.requires.key c.requires.value c.write.ensures.ok c.write.ensures.err c.write.ensures.grows
