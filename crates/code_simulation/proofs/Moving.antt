-- The moves of both sides, for one setting.
use Rattle.std.proofs.Common.{◌≡◌, ℕ, zero, suc, [], refl, sym, ◌∙◌, arith}
use Rattle.std.specs.Prelude.{replicate}
use Rattle.value_model.specs.declared.event.EventKind.{EventKind}
use Rattle.value_model.specs.Waits.{End}
use Rattle.bounded_runs.specs.Runs.{Goes, Shows, Charges, Ends, total}
use Rattle.bounded_runs.proofs.Together as together
use Rattle.source_meaning.specs.States as source
use Rattle.source_meaning.specs.Moves as source_moves
use Rattle.source_meaning.specs.Steps as source_steps
use Rattle.machine_meaning.specs.States as machine
use Rattle.machine_meaning.specs.Moves as machine_moves
use Rattle.machine_meaning.specs.Steps as machine_steps
use Rattle.code_simulation.specs.Relation.{Setting}
use Rattle.code_simulation.proofs.Along.{Alike}

-- so many tables count for so much
pub count : {N : Type 0} (n : ℕ) (x : N) → total (λ (y : N). 1) (replicate n x) ≡ n
count zero x = refl
count (suc n) x = let e = count n x in omega (arith, e)

module _ (p : Setting) where
  -- the script moves alone
  pub source_goes : {left : ℕ} {s s' : source.State} {m : machine.State} → source_steps.step p.texts s ≡ Goes [] s' → Alike p left s' m → Alike p left s m
  source_goes e a = together.source_goes _ _ _ _ _ _ _ _ _ e a

  -- the code does
  pub target_goes : {left : ℕ} {s : source.State} {m m' : machine.State} → machine_steps.step p.chunk m ≡ Goes [] m' → Alike p left s m' → Alike p left s m
  target_goes e a = together.target_goes _ _ _ _ _ _ _ _ _ e a

  -- both move, and ask as many tables
  pub both_ask : {left : ℕ} {s s' : source.State} {m m' : machine.State} (n : ℕ) (x : source_moves.Look)
      → source_steps.step p.texts s ≡ Goes (replicate n x) s' → machine_steps.step p.chunk m ≡ Goes (replicate n machine_moves.asked) m'
      → Alike p left s' m' → Alike p left s m
  both_ask n x e d a = together.both_go _ _ _ _ _ _ _ _ _ e d (count n x ∙ sym (count n machine_moves.asked)) a

  -- both charge a turn
  pub both_charge : (left : ℕ) {s s' : source.State} {m m' : machine.State} → source_steps.step p.texts s ≡ Charges s'
      → machine_steps.step p.chunk m ≡ Charges m' → ((fewer : ℕ) → left ≡ suc fewer → Alike p fewer s' m') → Alike p left s m
  both_charge left e d a = together.both_charge _ _ _ _ _ _ _ _ _ left e d a

  -- both show the same
  pub both_show : {left : ℕ} {event : EventKind} {s s' : source.State} {m m' : machine.State} → source_steps.step p.texts s ≡ Shows [] event s'
      → machine_steps.step p.chunk m ≡ Shows [] event m' → Alike p left s' m' → Alike p left s m
  both_show e d a = together.both_show _ _ _ _ _ _ _ _ _ e d refl a

  -- both end, and have asked as many tables
  pub both_end : {left : ℕ} {end : End} {s : source.State} {m : machine.State} (n : ℕ) (x : source_moves.Look)
      → source_steps.step p.texts s ≡ Ends (replicate n x) end → machine_steps.step p.chunk m ≡ Ends (replicate n machine_moves.asked) end
      → Alike p left s m
  both_end n x e d = together.both_end _ _ _ _ _ _ _ _ _ e d (count n x ∙ sym (count n machine_moves.asked))

  -- both end, and have asked nothing
  pub both_stop : {left : ℕ} {end : End} {s : source.State} {m : machine.State} → source_steps.step p.texts s ≡ Ends [] end
      → machine_steps.step p.chunk m ≡ Ends [] end → Alike p left s m
  both_stop e d = together.both_end _ _ _ _ _ _ _ _ _ e d refl
