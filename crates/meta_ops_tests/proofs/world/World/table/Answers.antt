use Rattle.meta_ops_tests.proofs.Readied.{table_more, table_ready}
use Rattle.meta_ops_tests.proofs.world.World.table.Goals as goal

pub returns-then-id-lt4294967295 : goal.returns-then-id-lt4294967295
returns-then-id-lt4294967295 c =
    table_ready c.args.self.now c.new_table.new.self c.in_ok-id.id c.requires c.in_ok-id.ensures.made c.in_ok-id.ensures.id c.in_ok-id.ensures.there

pub returns-else-id-lt4294967295 : goal.returns-else-id-lt4294967295
returns-else-id-lt4294967295 c = table_more c.args.self.now c.new_table.new.self c.requires c.in_ok-id.ensures.made
