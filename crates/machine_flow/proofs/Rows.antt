-- Registers in a row, and turns of loops.
use Rattle.std.proofs.Common.{◌≡◌, ℕ, ◌+◌, ◌<◌, ◌≤◌, ℤ, pos, ◌+ℤ◌, List, Option, Some, None, IsSomeAnd, sym, ◌∙◌, ap, subst, arith}
use Rattle.value_model.specs.Values as m
use Rattle.bounded_runs.specs.Runs.{Charges}
use Rattle.luau_tables.specs.declared.globals.LibWorld.{LibWorld}
use Rattle.call_frames.specs.declared.frame.Frame.{Frame}
use Rattle.call_frames.specs.Stacks.{StackView}
use Rattle.call_frames.specs.Cells.{innermost}
use Rattle.op_words.specs.Chunks.{ChunkOf}
use Rattle.op_words.specs.declared.insn.Insn.TheVariants.{ForGLoop}
use Rattle.machine_meaning.specs.States as machine
use Rattle.machine_meaning.specs.States.{set}
use Rattle.machine_meaning.specs.Moves.{go, return_to}
use Rattle.machine_meaning.specs.Effects.{with_generator, back}
use Rattle.machine_meaning.specs.Instructions.{row}
use Rattle.machine_code.specs.declared.code.Code.{Code}
use Rattle.machine_world.specs.Parts.{Becomes, changed, part}
use Rattle.machine_world.specs.Rows.{MakesCharged, place_here}
use Rattle.machine_world.specs.Sound.{IsLuau, Runs, HasRegister}
use Rattle.machine_world.proofs.Here.{here, row_here}

-- ---- registers and places

pub lower : (s : StackView) (r q : ℕ) → q ≤ r → HasRegister s r → HasRegister s q
lower s r q le h = by (innermost s) h
  where
    by : (o : Option Frame) → IsSomeAnd o (λ f. IsLuau f × (r < f.registers)) → IsSomeAnd o (λ f. IsLuau f × (q < f.registers))
    by None h = h
    by (Some f) h = (h.0, omega (arith, le, h.1))

pub has_same : (s s' : StackView) (r : ℕ) → s'.frames ≡ s.frames → HasRegister s r → HasRegister s' r
has_same s s' r e h = subst (λ fs. HasRegister (record s' { frames = fs }) r) (sym e) h

pub place_same : (s s' : StackView) → s'.frames ≡ s.frames → place_here s' ≡ place_here s
place_same s s' e = ap (λ fs. place_here (record s' { frames = fs })) e

-- ---- three registers are written

pub three_written : (w : LibWorld) (code : Code) (s s' : StackView) (base second_at third_at : ℕ) (first second third : m.Value) → second_at ≡ base + 1 → third_at ≡ second_at + 1 →
    Becomes (changed (λ x. set third_at third (set second_at second (set base first x)))) w code s w s' →
    Becomes (changed (with_generator base first second third)) w code s w s'
three_written w code s s' base second_at third_at first second third e k becomes = λ x replies.
    let at : third_at ≡ base + 2 = omega (arith, e, k) in
    let t = part w code s x replies in
    becomes x replies
    ∙ ap (λ n. changed (λ x. set n third (set second_at second (set base first x))) t) at
    ∙ ap (λ n. changed (λ x. set (base + 2) third (set n second (set base first x))) t) e

-- ---- turns

pub turn_charges : (w : LibWorld) (code : Code) (s : StackView) (chunk : ChunkOf) (words : List ℕ) (base : ℕ) (by : ℤ) (variables next : ℕ) → Runs s →
    MakesCharged (row chunk words (ForGLoop base by variables) next) w code s machine.Charged w s
turn_charges w code s chunk words base by variables next runs = λ replies.
    let h = here w code s replies runs in
    row_here h (row chunk words (ForGLoop base by variables) next) ∙ sym (ap (λ t. Charges t) (h.is machine.Charged))

pub goes_back : (t : ℕ) (by : ℤ) (f : machine.Frame) (fs : List machine.Frame) (v : machine.World) → pos t ≡ pos (f.place + 1) +ℤ by → back by f fs v ≡ go t f fs v
goes_back t by f fs v e = sym (ap (λ z. return_to z f fs v) e)
