-- What each move keeps holds behind a path of them.
use Rattle.std.proofs.Common.{◌≡◌, ℕ, ◌+◌, List, [], ◌∷◌, ◌++◌, subst}
use Rattle.bounded_runs.specs.Runs.{Move, Goes, Shows, Charges, Stamped}
use Rattle.run_paths.specs.Paths.{HoldsBehind, IsKept, Keeps}
use Rattle.run_paths.proofs.Paths.{no_move, goes_on, shows_one, charges_one, one_behind}

module _ {E N S : Type 0} (step : S → Move E N S) (P : S → Type 0) where
  pub no_move_keeps : (spent : ℕ) (s : S) → Keeps step P spent s 0 [] [] s
  no_move_keeps spent s = record { passes = no_move step spent s; keeps = λ h. h }

  pub goes_on_keeps : IsKept step P → (spent : ℕ) (ns : List N) (s t : S) → step s ≡ Goes ns t → Keeps step P spent s 0 [] ns t
  goes_on_keeps kept spent ns s t e = record { passes = goes_on step spent ns s t e; keeps = λ h. subst (HoldsBehind P) e (kept s h) }

  pub shows_one_keeps : IsKept step P → (spent : ℕ) (ns : List N) (event : E) (s t : S) → step s ≡ Shows ns event t
      → Keeps step P spent s 0 (record { turns = spent; event = event } ∷ []) ns t
  shows_one_keeps kept spent ns event s t e = record {
    passes = shows_one step spent ns event s t e;
    keeps = λ h. subst (HoldsBehind P) e (kept s h);
  }

  pub charges_one_keeps : IsKept step P → (spent : ℕ) (s t : S) → step s ≡ Charges t → Keeps step P spent s 1 [] [] t
  charges_one_keeps kept spent s t e = record { passes = charges_one step spent s t e; keeps = λ h. subst (HoldsBehind P) e (kept s h) }

  pub one_behind_keeps : (spent a b : ℕ) (es fs : List (Stamped E)) (ns ms : List N) (s t u : S) → Keeps step P spent s a es ns t
      → Keeps step P (spent + a) t b fs ms u → Keeps step P spent s (a + b) (es ++ fs) (ns ++ ms) u
  one_behind_keeps spent a b es fs ns ms s t u p q = record {
    passes = one_behind step spent a b es fs ns ms s t u p.passes q.passes;
    keeps = λ h. q.keeps (p.keeps h);
  }
