-- What follows an operation.
use Rattle.std.proofs.Common.{◌≡◌, ℕ, ℤ, pos, negsuc, Bool, true, false, List, [], ◌∷◌, map, take, refl, sym, ◌∙◌, ap, arith}
use Rattle.value_model.specs.Parts.{meant, meant_error}
use Rattle.value_model.specs.Values as m
use Rattle.value_model.specs.Waits.{ByLibrary}
use Rattle.value_model.specs.declared.error.RunErr.{RunErr}
use Rattle.value_model.specs.declared.value.Value.{Value}
use Rattle.whole_num.specs.declared.arithmetic.Stop.{Stop as StopCause}
use Rattle.luau_tables.specs.declared.globals.LibWorld.{LibWorld}
use Rattle.call_frames.specs.Stacks.{StackView}
use Rattle.op_words.specs.Chunks.{ChunkOf}
use Rattle.meta_ops.specs.Outcomes.{meant_outcome}
use Rattle.meta_ops.specs.declared.outcome.Outcome.{Outcome}
use Rattle.meta_ops.specs.declared.outcome.Outcome.TheVariants.{Done, CallThis, RunError, Stop}
use Rattle.machine_meaning.specs.States as machine
use Rattle.machine_meaning.specs.States.{Register, Val, Open, Purpose, Run, GiveAll, Invoke, Fault, Inside}
use Rattle.machine_meaning.specs.Moves.{Row, inside, on, go, give, branch, waits_for, comes}
use Rattle.machine_meaning.specs.Effects.{receive}
use Rattle.machine_code.specs.declared.code.Code.{Code}
use Rattle.machine_world.specs.Parts.{changed, waits, Becomes}
use Rattle.machine_world.specs.Rows.{Makes}
use Rattle.machine_world.specs.Sound.{Runs}
use Rattle.machine_world.proofs.Here.{here, row_here}
use Rattle.machine_rows.specs.Leading.{looks, goes, goes_on, ends, Does, expects}
use Rattle.machine_rows.specs.declared.next.Next.TheVariants.{Continues, Gives, Calls, Fails, Stops}
use Rattle.machine_rows.proofs.Steps.{leads_changed}

module _ (chunk : ChunkOf) (w : LibWorld) (code : Code) (s s' : StackView) (o : Outcome) (n : ℕ) (p : Purpose) (runs : Runs s) where
  pub settled_value : (v : Value) → o ≡ Done v → Becomes (changed (expects p)) w code s w s' →
      Does chunk (comes (meant_outcome w.names o) (looks n) p) w code s n (Gives v) w s'
  unfolding Does meant_outcome
  settled_value v e becomes = λ replies.
      let h = here w code s replies runs in
      leads_changed chunk w w code s s' replies (comes (meant_outcome w.names o) (looks n) p) (GiveAll (meant w.names v ∷ [])) n (changed (expects p)) h becomes
      (ap (λ o. comes (meant_outcome w.names o) (looks n) p h.frame h.others h.world) e)

  pub settled_call : (f : Value) (args : List Value) (count : ℕ) → o ≡ CallThis f args count → Becomes (changed (waits p)) w code s w s' →
      Does chunk (comes (meant_outcome w.names o) (looks n) p) w code s n (Calls f args count) w s'
  unfolding Does meant_outcome
  settled_call f args count e becomes = λ replies.
      let h = here w code s replies runs in
      leads_changed chunk w w code s s' replies (comes (meant_outcome w.names o) (looks n) p) (Invoke ByLibrary (meant w.names f) (map (meant w.names) (take count args))) n (changed (waits p)) h becomes
      (ap (λ o. comes (meant_outcome w.names o) (looks n) p h.frame h.others h.world) e)

  pub settled_error : (r : RunErr) → o ≡ RunError r → Becomes (changed (expects p)) w code s w s' →
      Does chunk (comes (meant_outcome w.names o) (looks n) p) w code s n (Fails r) w s'
  unfolding Does meant_outcome
  settled_error r e becomes = λ replies.
      let h = here w code s replies runs in
      leads_changed chunk w w code s s' replies (comes (meant_outcome w.names o) (looks n) p) (Fault (meant_error w.names r)) n (changed (expects p)) h becomes
      (ap (λ o. comes (meant_outcome w.names o) (looks n) p h.frame h.others h.world) e)

  pub settled_stop : (stop : StopCause) → o ≡ Stop stop → Does chunk (comes (meant_outcome w.names o) (looks n) p) w code s n (Stops stop) w s'
  unfolding Does meant_outcome
  settled_stop stop e = λ replies.
      let h = here w code s replies runs in
      ends n (row_here h (comes (meant_outcome w.names o) (looks n) p) ∙ ap (λ o. comes (meant_outcome w.names o) (looks n) p h.frame h.others h.world) e)

  -- the value is taken at once
  pub taken_at_once : (v : Value) (q : Row) → o ≡ Done v →
      ((f : machine.Frame) (fs : List machine.Frame) (u : machine.World) → receive p (meant w.names v ∷ []) (waits_for p f) fs u ≡ q f fs u) →
      Makes q w code s w s' → Does chunk (comes (meant_outcome w.names o) (looks n) p) w code s n Continues w s'
  unfolding Does meant_outcome
  taken_at_once v q e same makes = λ replies.
      let h = here w code s replies runs in
      goes_on n 0 n (row_here h (comes (meant_outcome w.names o) (looks n) p) ∙ ap (λ o. comes (meant_outcome w.names o) (looks n) p h.frame h.others h.world) e)
      (goes 0 (same h.frame h.others h.world ∙ sym (row_here h q) ∙ makes replies)) (omega arith)

-- ---- what is waited for is done alike where nothing was

pub given_waiting : (to next : ℕ) (v : m.Value) (p : Purpose) (f : machine.Frame) (fs : List machine.Frame) (u : machine.World) →
    give to v next (waits_for p f) fs u ≡ give to v next f fs u
given_waiting to next v p f fs u = by (f.registers to)
  where
    by : (r : Register) → on (go next) (machine.write r to v (inside (waits_for p f) u)) fs ≡ on (go next) (machine.write r to v (inside f u)) fs
    by (Val x) = refl
    by (Open c) = refl

pub branch_waiting : (b : Bool) (by : ℤ) (next : ℕ) (p : Purpose) (f : machine.Frame) (fs : List machine.Frame) (u : machine.World) →
    branch b by next (waits_for p f) fs u ≡ branch b by next f fs u
branch_waiting true (pos k) next p f fs u = refl
branch_waiting true (negsuc k) next p f fs u = refl
branch_waiting false by next p f fs u = refl
