use Rattle.machine_closures.proofs.Copied.{copy_done}
use Rattle.machine_closures.proofs.capturing.copy.Goals as goal

pub returns : goal.returns
returns c =
    let w = c.args.world.now in
    let k = c.args.machine.now in
    record {
      captured = copy_done w k.code k.stack c.args.from c.read-v.result c.new_cell.new.self c.in_ok-cell.cell c.requires.has c.requires.sound
          c.read-v.ensures.value c.read-v.ensures.usable c.in_ok-cell.ensures.made c.in_ok-cell.ensures.id c.in_ok-cell.ensures.there;
    }
