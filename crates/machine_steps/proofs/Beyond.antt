-- Closing from a register beyond a function's own closes nothing.
use Rattle.std.proofs.Common.{◌≡◌, ℕ, ◌+◌, ◌-◌, ◌≤◌, max, nat_lt, Bool, true, false, cond, List, ◌∷◌, reverse, Some, None, get_or, refl, sym, ◌∙◌, ap, subst, arith}
use Rattle.std.specs.Option.{option_map_or}
use Rattle.std.proofs.lemmas.Bool.Decides.{nat_tests}
use mathlib.Core.Path.{fun_ext}
use Rattle.value_model.specs.Parts.{meant}
use Rattle.value_model.specs.Values as m
use Rattle.value_model.specs.declared.event.Reply.{Reply}
use Rattle.value_model.specs.declared.ids.CellId.{CellId}
use Rattle.value_model.specs.declared.ids.ClosureId.{ClosureId}
use Rattle.value_model.specs.declared.value.Value.TheVariants as value
use Rattle.value_arena.specs.declared.closure.Closure.{Closure}
use Rattle.value_arena.specs.Arenas.{objects_of}
use Rattle.luau_tables.specs.declared.globals.LibWorld.{LibWorld}
use Rattle.call_frames.specs.declared.frame.Frame.{Frame}
use Rattle.call_frames.specs.Stacks.{StackView, Layout}
use Rattle.call_frames.specs.Cells.{cell_on, innermost, outer, end_in, end_of}
use Rattle.op_words.specs.declared.insn.Insn.TheVariants.{CloseUpvalues}
use Rattle.op_words.specs.Chunks.{ChunkOf}
use Rattle.machine_meaning.specs.States as machine
use Rattle.machine_meaning.specs.States.{Val, Open, Run, State, held}
use Rattle.machine_meaning.specs.Instructions.{row}
use Rattle.machine_meaning.specs.Moves.{go}
use Rattle.machine_code.specs.declared.code.Code.{Code}
use Rattle.machine_world.specs.Functions.{register, running, waiting, functions_of}
use Rattle.machine_world.specs.Parts.{part, placed, changed, Becomes}
use Rattle.machine_world.specs.Rows.{Makes}
use Rattle.machine_world.specs.Sound.{IsMachine, GoesOn}
use Rattle.machine_world.proofs.Calling.{below_end, none_above}
use Rattle.machine_world.proofs.Frames.{functions_split}
use Rattle.machine_world.proofs.Here.{Here, row_passes}

module _ (w : LibWorld) (s : StackView) (f : Frame) (c : ClosureId) (e : innermost s ≡ Some f) (of : f.closure ≡ Some c) (layout : Layout s) (is : IsMachine w s) where
  cs : List Closure
  cs = (objects_of w.arena w.owner).closures

  run : machine.Frame
  run = running w.names cs s c f

  none_beyond : (q : ℕ) → f.registers ≤ q → cell_on (f.base + q) s.cells ≡ None
  none_beyond q le =
      let end : end_of s ≡ f.base + f.registers = ap end_in e in
      none_above (end_of s) (f.base + q) s.frames s.cells (below_end s layout) is.own (omega (arith, end, le))

  plain : (cells : List m.Value) (q : ℕ) → f.registers ≤ q → (b : Bool) →
      Val (held cells (cond b (register w.names s.registers s.cells (f.base + q)) (Val m.Nil))) ≡ cond b (register w.names s.registers s.cells (f.base + q)) (Val m.Nil)
  plain cells q le false = refl
  plain cells q le true =
      let v : machine.Register = Val (meant w.names (get_or s.registers (f.base + q) value.Nil)) in
      ap (λ o. Val (held cells (option_map_or (λ (c : CellId). Open c.place) o v))) (none_beyond q le)
      ∙ sym (ap (λ o. option_map_or (λ (c : CellId). Open c.place) o v) (none_beyond q le))

  closes_nothing : (cells : List m.Value) (from : ℕ) → f.registers ≤ from → machine.closed cells run.registers from ≡ run.registers
  unfolding run
  closes_nothing cells from le = fun_ext (λ q. by q (nat_lt q from) refl)
    where
      by : (q : ℕ) (b : Bool) → nat_lt q from ≡ b → cond b (run.registers q) (Val (held cells (run.registers q))) ≡ run.registers q
      by q true t = refl
      by q false t =
          let high : from ≤ q = grind (arith, nat_tests) in
          plain cells q (omega (arith, high, le)) (nat_lt q (max f.registers (s.top - f.base)))

  frame_is : (code : Code) (replies : List Reply) (h : Here w code s replies) → run ≡ h.frame
  unfolding part cs run
  frame_is code replies h =
      let fs : functions_of w.names cs s ≡ h.frame ∷ h.others = ap (λ (t : State). t.functions) (h.is Run) in
      let split = functions_split w.names cs s f c e of in
      let both : run ∷ waiting w.names cs s.registers s.cells (reverse (outer s)) ≡ h.frame ∷ h.others = sym split ∙ fs in
      cc

  pub closes_beyond : (chunk : ChunkOf) (words : List ℕ) (code : Code) (s' : StackView) (from next : ℕ) → f.registers ≤ from → GoesOn s →
      Becomes (changed (placed next)) w code s w s' → Makes (row chunk words (CloseUpvalues from) next) w code s w s'
  closes_beyond chunk words code s' from next le goes becomes =
      row_passes w code code s s' (row chunk words (CloseUpvalues from) next) next goes refl becomes
      (λ replies h. ap (λ rs. go next (record h.frame { registers = rs }) h.others h.world)
      (subst (λ (g : machine.Frame). machine.closed h.world.objects.cells g.registers from ≡ g.registers) (frame_is code replies h) (closes_nothing h.world.objects.cells from le)))

pub frame_one : (s : StackView) (f g : Frame) → innermost s ≡ Some f → innermost s ≡ Some g → f ≡ g
frame_one s f g e k = some_one f g (sym e ∙ k)
  where
    some_one : (f g : Frame) → Some f ≡ Some g → f ≡ g
    some_one f g e = cc

-- the function that runs is what the state shows
pub running_is : (w : LibWorld) (s : StackView) (f : Frame) (c : ClosureId) → innermost s ≡ Some f → f.closure ≡ Some c → (code : Code) (replies : List Reply) →
    (h : Here w code s replies) → running w.names (objects_of w.arena w.owner).closures s c f ≡ h.frame
unfolding part
running_is w s f c e of code replies h =
    let cs : List Closure = (objects_of w.arena w.owner).closures in
    let fs : functions_of w.names cs s ≡ h.frame ∷ h.others = ap (λ (t : State). t.functions) (h.is Run) in
    let split = functions_split w.names cs s f c e of in
    let both : running w.names cs s c f ∷ waiting w.names cs s.registers s.cells (reverse (outer s)) ≡ h.frame ∷ h.others = sym split ∙ fs in
    cc
