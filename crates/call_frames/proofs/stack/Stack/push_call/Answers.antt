use Rattle.std.proofs.Common.{◌≡◌, ◌≤◌, ◌-◌, ◌++◌, ◌∷◌, [], sym, ◌∙◌, ap, subst, length, Some, arith}
use Rattle.call_frames.specs.Stacks as spec
use Rattle.call_frames.specs.declared.frame.Frame.{Frame}
use Rattle.call_frames.proofs.Closing.{rises_further, below_further, below_push, apart_push}
use Rattle.call_frames.proofs.Live.{are_live_push}
use Rattle.call_frames.proofs.stack.Stack.push_call.Goals as goal

pub invariant_of-self-2 : goal.invariant_of-self-2
invariant_of-self-2 c =
    let old = length c.self.inside.registers.items in
    let new = length c.enter.new.registers.items in
    let more : old ≤ new = c.in_ok-enter.ensures.size.1 in
    let f : Frame = record { closure = Some c.args.closure; base = c.args.base; registers = c.args.registers; extra = 0; place = 0; kind = c.args.kind } in
    let zero_off : c.args.base ≡ c.args.base - 0 = omega arith in
    let frames : c.push.new.self.items ≡ c.self.inside.frames.items ++ f ∷ [] = c.in-Ok.ensures.items ∙ ap (λ fs. fs ++ f ∷ []) c.in_ok-reserve.ensures.items in
    let below : spec.AreBelow (c.args.base - 0) c.self.inside.frames.items = subst (λ n. spec.AreBelow n c.self.inside.frames.items) zero_off (subst (λ (s : spec.StackView). spec.AreBelow c.args.base s.frames) (sym c.self.view_is) c.requires.apart) in (
      rises_further 0 old new c.self.inside.cells.items more c.self.invariant.0,
      omega (arith, c.self.invariant.1, more),
      subst (spec.AreBelow new) (sym frames) (below_push new c.self.inside.frames.items f (below_further old new c.self.inside.frames.items more c.self.invariant.2) (omega (arith, c.in_ok-enter.ensures.size, c.from.ensures))),
      subst spec.AreApart (sym frames) (apart_push c.self.inside.frames.items f c.self.invariant.3 below),
      subst (λ fs. spec.AreLive fs c.self.inside.cells.items) (sym frames) (are_live_push c.self.inside.frames.items f c.self.inside.cells.items c.self.invariant.4),
      c.self.invariant.5,
    )
