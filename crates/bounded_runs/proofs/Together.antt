-- Two machines that come to reports which differ in nothing but their notes. From a pair of states they do so if they do from a pair
-- of states that some moves lead to: so a proof goes along the moves of both, with what is to be shown of the rest in its hand.
use Rattle.std.proofs.Common.{◌≡◌, ℕ, zero, suc, ◌+◌, ◌++◌, ◌∷◌, [], List, Some, refl, ap, ◌∙◌, subst, arith}
use Rattle.value_model.specs.Waits.{End}
use Rattle.value_model.specs.Waits.{Unfinished}
use Rattle.bounded_runs.specs.Runs.{Stamped, Report, Move, Goes, Shows, Charges, Ends, after, run, Reports, total, Agree}
use Rattle.bounded_runs.proofs.OneReport.{one_report}

total-append : {N : Type 0} (worth : N → ℕ) (xs ys : List N) → total worth (xs ++ ys) ≡ total worth xs + total worth ys
total-append worth [] ys = omega arith
total-append worth (x ∷ xs) ys = let e = total-append worth xs ys in omega arith

-- what is noted besides counts for as much on both sides
still_same : {N N' : Type 0} (worth : N → ℕ) (worth' : N' → ℕ) (xs ns : List N) (ys ms : List N') → total worth xs ≡ total worth' ys → total worth ns ≡ total worth' ms → total worth (xs ++ ns) ≡ total worth' (ys ++ ms)
still_same worth worth' xs ns ys ms e d = omega (arith, total-append worth xs ns, total-append worth' ys ms, e, d)

-- ---- one machine
module _ {E N S : Type 0} (step : S → Move E N S) where
  -- the rest of a run gives this report after some moves
  abbrev pub Comes : (left spent : ℕ) → List (Stamped E) → List N → S → Report E N → Type 0
  Comes left spent out notes s r = (k : ℕ) × (run step k left spent out notes s ≡ Some r)

  -- a first move, and the rest
  pub comes_by : (left spent : ℕ) (out : List (Stamped E)) (notes : List N) (s : S) (r : Report E N) (move : Move E N S) → step s ≡ move → (k : ℕ) × (after move (run step k) left spent out notes ≡ Some r) → Comes left spent out notes s r
  comes_by left spent out notes s r move e rest = (suc rest.0, ap (λ m. after m (run step rest.0) left spent out notes) e ∙ rest.1)

-- ---- two machines
module _ (E N N' S M : Type 0) (worth : N → ℕ) (worth' : N' → ℕ) (sstep : S → Move E N S) (mstep : M → Move E N' M) where
  pub record TwoReports (left spent : ℕ) (out : List (Stamped E)) (notes : List N) (notes' : List N') (s : S) (m : M) : Type 0 where
    pub one : Report E N
    pub other : Report E N'
    pub agree : Agree worth worth' one other
    pub by_one : Comes sstep left spent out notes s one
    pub by_other : Comes mstep left spent out notes' m other

  -- with so many turns left both come to such reports, whatever was spent and shown before
  pub record Alike (left : ℕ) (s : S) (m : M) : Type 0 where
    pub by : (spent : ℕ) (out : List (Stamped E)) (notes : List N) (notes' : List N') → total worth notes ≡ total worth' notes' → TwoReports left spent out notes notes' s m

  -- the first machine moves alone
  pub source_goes : {left : ℕ} {s s' : S} {m : M} → sstep s ≡ Goes [] s' → Alike left s' m → Alike left s m
  source_goes {left} {s} {s'} {m} e a = record {
    by = λ spent out notes notes' same.
        let o = a.by spent out (notes ++ []) notes' (omega (arith, total-append worth notes [], same)) in record {
          one = o.one;
          other = o.other;
          agree = o.agree;
          by_one = comes_by sstep left spent out notes s o.one (Goes [] s') e o.by_one;
          by_other = o.by_other;
        };
  }

  -- the second one does
  pub target_goes : {left : ℕ} {s : S} {m m' : M} → mstep m ≡ Goes [] m' → Alike left s m' → Alike left s m
  target_goes {left} {s} {m} {m'} e a = record {
    by = λ spent out notes notes' same.
        let o = a.by spent out notes (notes' ++ []) (omega (arith, total-append worth' notes' [], same)) in record {
          one = o.one;
          other = o.other;
          agree = o.agree;
          by_one = o.by_one;
          by_other = comes_by mstep left spent out notes' m o.other (Goes [] m') e o.by_other;
        };
  }

  -- both move at once, and note what counts for as much
  pub both_go : {left : ℕ} {ns : List N} {ms : List N'} {s s' : S} {m m' : M} → sstep s ≡ Goes ns s' → mstep m ≡ Goes ms m' → total worth ns ≡ total worth' ms → Alike left s' m' → Alike left s m
  both_go {left} {ns} {ms} {s} {s'} {m} {m'} e d z a = record {
    by = λ spent out notes notes' same.
        let o = a.by spent out (notes ++ ns) (notes' ++ ms) (still_same worth worth' notes ns notes' ms same z) in record {
          one = o.one;
          other = o.other;
          agree = o.agree;
          by_one = comes_by sstep left spent out notes s o.one (Goes ns s') e o.by_one;
          by_other = comes_by mstep left spent out notes' m o.other (Goes ms m') d o.by_other;
        };
  }

  -- both show the same
  pub both_show : {left : ℕ} {event : E} {ns : List N} {ms : List N'} {s s' : S} {m m' : M} → sstep s ≡ Shows ns event s' → mstep m ≡ Shows ms event m' → total worth ns ≡ total worth' ms → Alike left s' m' → Alike left s m
  both_show {left} {event} {ns} {ms} {s} {s'} {m} {m'} e d z a = record {
    by = λ spent out notes notes' same.
        let stamped = out ++ record { turns = spent; event = event } ∷ [] in
        let o = a.by spent stamped (notes ++ ns) (notes' ++ ms) (still_same worth worth' notes ns notes' ms same z) in record {
          one = o.one;
          other = o.other;
          agree = o.agree;
          by_one = comes_by sstep left spent out notes s o.one (Shows ns event s') e o.by_one;
          by_other = comes_by mstep left spent out notes' m o.other (Shows ms event m') d o.by_other;
        };
  }

  -- Both charge a turn. Where none is left both are over; else it remains to be shown for one turn fewer
  pub both_charge : (left : ℕ) {s s' : S} {m m' : M} → sstep s ≡ Charges s' → mstep m ≡ Charges m' → ((fewer : ℕ) → left ≡ suc fewer → Alike fewer s' m') → Alike left s m
  both_charge zero {s} {s'} {m} {m'} e d a = record {
    by = λ spent out notes notes' same.
        let one : Report E N = record { end = Unfinished; events = out; notes = notes } in
        let other : Report E N' = record { end = Unfinished; events = out; notes = notes' } in record {
          one = one;
          other = other;
          agree = record { end = refl; events = refl; notes = same };
          by_one = comes_by sstep 0 spent out notes s one (Charges s') e (0, refl);
          by_other = comes_by mstep 0 spent out notes' m other (Charges m') d (0, refl);
        };
  }
  both_charge (suc left) {s} {s'} {m} {m'} e d a = record {
    by = λ spent out notes notes' same.
        let o = (a left refl).by (suc spent) out notes notes' same in record {
          one = o.one;
          other = o.other;
          agree = o.agree;
          by_one = comes_by sstep (suc left) spent out notes s o.one (Charges s') e o.by_one;
          by_other = comes_by mstep (suc left) spent out notes' m o.other (Charges m') d o.by_other;
        };
  }

  -- both end so
  pub both_end : {left : ℕ} {end : End} {ns : List N} {ms : List N'} {s : S} {m : M} → sstep s ≡ Ends ns end → mstep m ≡ Ends ms end → total worth ns ≡ total worth' ms → Alike left s m
  both_end {left} {end} {ns} {ms} {s} {m} e d z = record {
    by = λ spent out notes notes' same.
        let one : Report E N = record { end = end; events = out; notes = notes ++ ns } in
        let other : Report E N' = record { end = end; events = out; notes = notes' ++ ms } in record {
          one = one;
          other = other;
          agree = record { end = refl; events = refl; notes = still_same worth worth' notes ns notes' ms same z };
          by_one = comes_by sstep left spent out notes s one (Ends ns end) e (0, refl);
          by_other = comes_by mstep left spent out notes' m other (Ends ms end) d (0, refl);
        };
  }

  -- ---- so each report of the one agrees with a report of the other, and there is one

  pub to_other : (n : ℕ) (s : S) (m : M) → Alike n s m → (r : Report E N) → Reports sstep s n r → (q : Report E N') × Reports mstep m n q × Agree worth worth' r q
  to_other n s m a r h =
      let o = a.by 0 [] [] [] refl in
      let same = one_report E N S sstep s n o.one r o.by_one h in
      (o.other, o.by_other, subst (λ x. Agree worth worth' x o.other) same o.agree)

  pub to_one : (n : ℕ) (s : S) (m : M) → Alike n s m → (q : Report E N') → Reports mstep m n q → (r : Report E N) × Reports sstep s n r × Agree worth worth' r q
  to_one n s m a q h =
      let o = a.by 0 [] [] [] refl in
      let same = one_report E N' M mstep m n o.other q o.by_other h in
      (o.one, o.by_one, subst (λ x. Agree worth worth' o.one x) same o.agree)

  pub has_report : (n : ℕ) (s : S) (m : M) → Alike n s m → (r : Report E N) × Reports sstep s n r
  has_report n s m a = let o = a.by 0 [] [] [] refl in (o.one, o.by_one)
