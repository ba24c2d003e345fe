use Rattle.first_world.proofs.Worlds.{table_keeps, table_usable}
use Rattle.first_world.proofs.world.add_table.Goals as goal

pub returns-clause-usable : goal.returns-clause-usable
returns-clause-usable c =
    table_usable c.args.world.now c.new_table.new.self c.new_table.result c.requires c.new_table.ensures.made c.new_table.ensures.id c.new_table.ensures.there

pub returns-clause-keeps : goal.returns-clause-keeps
returns-clause-keeps c = table_keeps c.args.world.now c.new_table.new.self c.new_table.result c.requires c.new_table.ensures.made c.new_table.ensures.err
