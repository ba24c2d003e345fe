use Rattle.frozen_libs.proofs.Filling.{new_open, new_made}
use Rattle.frozen_libs.proofs.making.new_table.Goals as goal

pub returns-clause-writable : goal.returns-clause-writable
returns-clause-writable c =
    new_open c.args.arena.now c.new_table.new.self c.new_table.result c.new_table.ensures.made c.new_table.ensures.id c.new_table.ensures.there

pub returns-clause-made : goal.returns-clause-made
returns-clause-made c = new_made c.args.arena.now c.new_table.new.self c.new_table.result c.new_table.ensures.made c.new_table.ensures.id
