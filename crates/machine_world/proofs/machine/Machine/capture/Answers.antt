use Rattle.std.proofs.Common.{◌≡◌, ℕ, List, ◌∙◌, ap}
use Rattle.value_model.specs.declared.event.Reply.{Reply}
use Rattle.value_model.specs.declared.ids.CellId.{CellId}
use Rattle.machine_meaning.specs.States.{Focus}
use Rattle.machine_world.specs.Parts as parts
use Rattle.machine_world.specs.Sound.{IsCell, IsMachine}
use Rattle.machine_world.proofs.Upvalues.{are_in}
use Rattle.call_frames.specs.Cells as opens
use Rattle.machine_world.proofs.Captured.{Three}
use Rattle.machine_world.proofs.Results.{if_ok, ok_then, Captures, captures, captured_frames}
use Rattle.machine_world.proofs.machine.Machine.capture.Goals as goal

pub capture-requires-clause-there : goal.capture-requires-clause-there
capture-requires-clause-there c = are_in c.args.world.now.owner c.args.world.now.arena c.args.self.now.stack.cells c.requires.sound.cells

pub returns-clause-captured : goal.returns-clause-captured
returns-clause-captured c =
    let w = c.args.world.now in
    let m = c.args.self.now in
    let r = c.args.register in
    let s' = c.capture.new.self in
    let a' = c.capture.new.arena in
    ok_then (λ k. Captures w m.code m.stack s' a' r k) (parts.Becomes (parts.changed (λ i. (parts.captured r i).inside)) w m.code m.stack (record w { arena = a' }) s') c.capture.result (λ k h. h.becomes)
    (captures w m.code m.stack s' a' r c.place-place.result c.capture.result c.capture.ensures.ok c.capture.ensures.there c.place-place.ensures.value c.requires.has c.place-place.ensures.layout c.requires.sound)

pub returns-clause-cell : goal.returns-clause-cell
returns-clause-cell c =
    let w = c.args.world.now in
    let m = c.args.self.now in
    let r = c.args.register in
    let s' = c.capture.new.self in
    let a' = c.capture.new.arena in
    if_ok (λ k. Captures w m.code m.stack s' a' r k) (λ (k : CellId). (x : Focus) (replies : List Reply) → k.place ≡ parts.read_of {A = ℕ} 0 (parts.captured_cell r) (parts.part w m.code m.stack x replies)) c.capture.result (λ k h. h.place)
    (captures w m.code m.stack s' a' r c.place-place.result c.capture.result c.capture.ensures.ok c.capture.ensures.there c.place-place.ensures.value c.requires.has c.place-place.ensures.layout c.requires.sound)

pub returns-clause-own : goal.returns-clause-own
returns-clause-own c =
    let w = c.args.world.now in
    let m = c.args.self.now in
    let r = c.args.register in
    let s' = c.capture.new.self in
    let a' = c.capture.new.arena in
    if_ok (λ k. Captures w m.code m.stack s' a' r k) (IsCell w.owner a') c.capture.result (λ k h. h.own)
    (captures w m.code m.stack s' a' r c.place-place.result c.capture.result c.capture.ensures.ok c.capture.ensures.there c.place-place.ensures.value c.requires.has c.place-place.ensures.layout c.requires.sound)

pub returns-clause-sound : goal.returns-clause-sound
returns-clause-sound c =
    let w = c.args.world.now in
    let m = c.args.self.now in
    let r = c.args.register in
    let s' = c.capture.new.self in
    let a' = c.capture.new.arena in
    ok_then (λ k. Captures w m.code m.stack s' a' r k) (IsMachine (record w { arena = a' }) s') c.capture.result (λ k h. h.sound)
    (captures w m.code m.stack s' a' r c.place-place.result c.capture.result c.capture.ensures.ok c.capture.ensures.there c.place-place.ensures.value c.requires.has c.place-place.ensures.layout c.requires.sound)

pub returns-clause-frames : goal.returns-clause-frames
returns-clause-frames c =
    let w = c.args.world.now in
    let s = c.args.self.now.stack in
    let s' = c.capture.new.self in
    ok_then (λ (k : CellId). (k, s', c.capture.new.arena) ≡ opens.captured s w.arena w.owner c.place-place.result) (s'.frames ≡ s.frames) c.capture.result
    (λ k e. ap (λ (p : Three). p.1.frames) e ∙ captured_frames s w.arena w.owner c.place-place.result) c.capture.ensures.ok
