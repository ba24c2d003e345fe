use Rattle.std.proofs.Common.{◌≡◌, ◌-◌, suc, min, sym, ◌∙◌, ap, subst, length, arith}
use Rattle.std.proofs.lemmas.List.{length-take}
use Rattle.value_arena.proofs.Growing.{grows_on}
use Rattle.call_frames.specs.Cells as opens
use Rattle.call_frames.proofs.Closing.{popped_in, popped_frames}
use Rattle.call_frames.proofs.stack.Stack.unwind.Goals as goal

pub loop-self-smaller : goal.loop-self-smaller
loop-self-smaller c =
    let b : opens.Both = (c.loop-self.self, c.loop-self.arena) in
    let fs = c.loop-self.self.frames in
    let left : length c.pop.new.self.frames ≡ min (length fs - 1) (length fs) = ap (λ (p : opens.Both). length p.0.frames) c.pop.ensures.popped ∙ ap length (popped_frames b c.pop.result c.pop.ensures.frame) ∙ length-take (length fs - 1) fs in
    omega (arith, left, c.loop-self-test.true, c.depth.ensures)

pub loop-self-preserved : goal.loop-self-preserved
loop-self-preserved c =
    let b : opens.Both = (c.loop-self.self, c.loop-self.arena) in
    let fs = c.loop-self.self.frames in
    let gs = c.pop.new.self.frames in
    let left : length gs ≡ min (length fs - 1) (length fs) = ap (λ (p : opens.Both). length p.0.frames) c.pop.ensures.popped ∙ ap length (popped_frames b c.pop.result c.pop.ensures.frame) ∙ length-take (length fs - 1) fs in
    let one : length fs - c.args.depth ≡ suc (length gs - c.args.depth) = omega (arith, left, c.loop-self-test.true, c.depth.ensures) in (
      omega (arith, left, c.loop-self-test.true, c.depth.ensures),
      c.loop-self.invariant.1 ∙ ap (λ n. opens.unwound n b) one ∙ ap (opens.unwound (length gs - c.args.depth)) (sym c.pop.ensures.popped),
      subst (λ (p : opens.Both). opens.AreIn p.1 p.0.cells) (sym c.pop.ensures.popped) (popped_in b c.pop.result c.pop.ensures.frame c.loop-self.invariant.2),
      grows_on c.args.arena.now c.loop-self.arena c.pop.new.arena c.loop-self.invariant.3 c.pop.ensures.grows,
    )

pub returns-clause-unwound : goal.returns-clause-unwound
returns-clause-unwound c =
    let b : opens.Both = (c.loop-self.self, c.loop-self.arena) in
    let none : length c.loop-self.self.frames - c.args.depth ≡ 0 = omega (arith, c.loop-self-test.false, c.depth.ensures) in
    sym (c.loop-self.invariant.1 ∙ ap (λ n. opens.unwound n b) none)

pub returns-clause-there : goal.returns-clause-there
returns-clause-there c = c.loop-self.invariant.2

pub returns-clause-grows : goal.returns-clause-grows
returns-clause-grows c = c.loop-self.invariant.3
