use Rattle.std.proofs.Common.{◌≡◌, ◌∙◌, sym, ap, subst, map}
use Rattle.value_model.specs.Parts.{meant}
use Rattle.call_frames.specs.Stacks.{StackView}
use Rattle.call_frames.specs.Cells.{delivered}
use Rattle.machine_world.specs.Parts as parts
use Rattle.machine_world.specs.Sound.{IsMachine}
use Rattle.machine_world.proofs.Delivering.{part_delivered, keeps_delivered, has_place}
use Rattle.machine_world.proofs.Results.{on_ok}
use Rattle.machine_world.proofs.machine.Machine.deliver.Goals as goal

pub deliver-requires : goal.deliver-requires
deliver-requires c = has_place c.args.self.now.stack c.args.to c.requires.has

pub returns-clause-delivered : goal.returns-clause-delivered
returns-clause-delivered c =
    let w = c.args.world.now in
    let m = c.args.self.now in
    let vs = c.args.vs.now in
    on_ok (c.deliver.new.self ≡ delivered c.args.to vs m.stack) (parts.Becomes (parts.changed (parts.delivered c.args.to (map (meant w.names) vs))) w m.code m.stack w c.deliver.new.self) c.deliver.result
    (λ e x replies. ap (λ (t : StackView). parts.part w m.code t x replies) e ∙ part_delivered w m.code m.stack c.args.to vs x replies c.requires.has c.lies.ensures c.requires.sound c.requires.usable) c.deliver.ensures

pub returns-clause-sound : goal.returns-clause-sound
returns-clause-sound c =
    let w = c.args.world.now in
    let m = c.args.self.now in
    let vs = c.args.vs.now in
    on_ok (c.deliver.new.self ≡ delivered c.args.to vs m.stack) (IsMachine w c.deliver.new.self) c.deliver.result
    (λ e. subst (IsMachine w) (sym e) (keeps_delivered w m.stack c.args.to vs c.requires.usable c.requires.sound)) c.deliver.ensures

pub returns-clause-frames : goal.returns-clause-frames
unfolding delivered
returns-clause-frames c =
    on_ok (c.deliver.new.self ≡ delivered c.args.to c.args.vs.now c.args.self.now.stack) (c.deliver.new.self.frames ≡ c.args.self.now.stack.frames) c.deliver.result
    (λ e. ap (λ (t : StackView). t.frames) e) c.deliver.ensures
