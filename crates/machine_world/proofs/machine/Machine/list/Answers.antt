use Rattle.std.proofs.Common.{◌≡◌, ◌+◌, map, take, drop, Some, sym, ◌∙◌, ap, arith}
use Rattle.value_model.specs.Parts.{meant}
use Rattle.call_frames.specs.Cells.{innermost}
use Rattle.machine_world.specs.Parts.{span}
use Rattle.machine_world.proofs.Listing.{Reached, reached, part_list, list_place}
use Rattle.machine_world.proofs.machine.Machine.list.Goals as goal

pub overflow_add-at : goal.overflow_add-at
overflow_add-at c =
    let s = c.args.self.now.stack in
    let f = c.in-Some.frame.now in
    let e : innermost s ≡ Some f = sym c.in-Some.ensures in
    let end = c.end-end.type_inv in
    let le = list_place s f c.args.count c.args.from e c.requires.has in
    omega (arith, le, c.from.ensures, c.end-end.ensures.value, end)

pub values-requires : goal.values-requires
values-requires c =
    let s = c.args.self.now.stack in
    let f = c.in-Some.frame.now in
    let e : innermost s ≡ Some f = sym c.in-Some.ensures in
    let r : Reached s f c.args.count c.args.from = reached s f c.args.count c.args.from e c.requires.has c.lies.ensures in
    let at : c.span-values.result ≡ span c.args.count s.top (f.base + c.args.from) = c.span-values.ensures ∙ ap (λ t. span c.args.count t (f.base + c.from.result)) c.top-top.ensures ∙ ap (λ n. span c.args.count s.top (f.base + n)) c.from.ensures in
    omega (arith, r.within, at, c.from.ensures)

pub returns-clause-values : goal.returns-clause-values
returns-clause-values c = λ x replies.
    let w = c.args.world.now in
    let m = c.args.self.now in
    let s = m.stack in
    let f = c.in-Some.frame.now in
    let e : innermost s ≡ Some f = sym c.in-Some.ensures in
    let at : c.span-values.result ≡ span c.args.count s.top (f.base + c.args.from) = c.span-values.ensures ∙ ap (λ t. span c.args.count t (f.base + c.from.result)) c.top-top.ensures ∙ ap (λ n. span c.args.count s.top (f.base + n)) c.from.ensures in
    ap (map (meant w.names)) (c.values.ensures ∙ ap (λ n. take n (drop (f.base + c.from.result) s.registers)) at ∙ ap (λ n. take (span c.args.count s.top (f.base + c.args.from)) (drop (f.base + n) s.registers)) c.from.ensures)
    ∙ part_list w m.code s f c.args.count c.args.from x replies e c.requires.has c.lies.ensures c.requires.sound
