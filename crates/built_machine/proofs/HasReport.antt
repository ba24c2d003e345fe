-- A run of code has a report: it charges a turn after as many moves as there are words behind its place, or is over.
use Rattle.std.proofs.Common.{◌≡◌, refl, ap, ◌∙◌, ℕ, zero, suc, ◌+◌, ◌<◌, ◌≤◌, List, [], ◌∷◌, ◌++◌, length, Some, subst, arith}
use Rattle.built_values.specs.declared.end.End.TheVariants.{Stuck, Unfinished}
use Rattle.built_values.specs.Runs.{Stamped, Report, Goes, Shows, Charges, Ends, after, run}
use Rattle.built_values.proofs.Together.{Comes, comes_by}
use Rattle.built_machine.specs.declared.code.Constant.{Constant}
use Rattle.built_machine.specs.States.{State, start}
use Rattle.built_machine.specs.Steps.{Look, Step, step}
use Rattle.built_machine.specs.Laws.{RunsHaveReports}
use Rattle.built_machine.proofs.Onward.{LeadsOn, step_on, sticks_behind}

module _ (words : List ℕ) (ks : List Constant) where
  -- with so many turns left the rest of the run has a report, whatever was spent and shown before
  record Finishes (left : ℕ) (s : State) : Type 0 where
    pub by : (spent : ℕ) (out : List (Stamped (List ℕ))) (notes : List Look) → (r : Report (List ℕ) Look) × Comes (step words ks) left spent out notes s r

  record FinishesAfter (left : ℕ) (move : Step) : Type 0 where
    pub by : (spent : ℕ) (out : List (Stamped (List ℕ))) (notes : List Look) → (r : Report (List ℕ) Look) × ((k : ℕ) × (after move (run (step words ks) k) left spent out notes ≡ Some r))

  -- with fewer turns left each state has a report
  abbrev FewerFinish : ℕ → Type 0
  FewerFinish left = (fewer : ℕ) → left ≡ suc fewer → (s : State) → Finishes fewer s

  charged : (left : ℕ) → FewerFinish left → (s : State) → FinishesAfter left (Charges s)
  charged zero few s = record { by = λ spent out notes. (record { end = Unfinished; events = out; notes = notes }, (0, refl)) }
  charged (suc left) few s = record { by = λ spent out notes. (few left refl s).by (suc spent) out notes }

  -- a move that charges nothing goes to a place behind, from which there is a report
  moved : (left place : ℕ) → FewerFinish left → ((s : State) → place < s.place → Finishes left s) → (move : Step) → LeadsOn place move → FinishesAfter left move
  moved left place few behind (Goes ns s) lt = record { by = λ spent out notes. (behind s lt).by spent out (notes ++ ns) }
  moved left place few behind (Shows ns text s) lt = record {
    by = λ spent out notes. (behind s lt).by spent (out ++ record { turns = spent; event = text } ∷ []) (notes ++ ns);
  }
  moved left place few behind (Charges s) lt = charged left few s
  moved left place few behind (Ends ns end) lt = record { by = λ spent out notes. (record { end = end; events = out; notes = notes ++ ns }, (0, refl)) }

  by_step : (left : ℕ) (s : State) (move : Step) → step words ks s ≡ move → FinishesAfter left move → Finishes left s
  by_step left s move e f = record {
    by = λ spent out notes. let g = f.by spent out notes in (g.0, comes_by (step words ks) left spent out notes s g.0 move e g.1);
  }

  -- so many words at most are behind the place
  by_words : (left : ℕ) → FewerFinish left → (rest : ℕ) (s : State) → length words ≤ s.place + rest → Finishes left s
  by_words left few zero s le =
      by_step left s (Ends [] Stuck) (sticks_behind words ks s (omega (arith, le)))
      (record { by = λ spent out notes. (record { end = Stuck; events = out; notes = notes ++ [] }, (0, refl)) })
  by_words left few (suc rest) s le =
      by_step left s (step words ks s) refl
      (moved left s.place few (λ t lt. by_words left few rest t (omega (arith, le, lt))) (step words ks s) (step_on words ks s))

  by_turns : (left : ℕ) (s : State) → Finishes left s
  by_turns zero s = by_words zero (λ fewer e. cc) (length words) s (omega arith)
  by_turns (suc left) s = by_words (suc left) (λ fewer e t. let same : left ≡ fewer = cc in subst (λ n. Finishes n t) same (by_turns left t)) (length words) s (omega arith)

pub has_report : RunsHaveReports
has_report words ks n = (by_turns words ks n start).by 0 [] []
