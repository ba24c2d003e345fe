-- Paths: single moves, one behind another, and where a run ends.
use Rattle.std.proofs.Common.{◌≡◌, ℕ, suc, ◌+◌, ◌-◌, ◌≤◌, List, [], ◌∷◌, ◌++◌, refl, sym, ◌∙◌, ap, arith, append-nil, append_assoc}
use Rattle.bounded_runs.specs.Runs.{Move, Goes, Shows, Charges, Ends, Stamped, run, after, Reports}
use Rattle.value_model.specs.Waits.{End, Unfinished}
use Rattle.run_paths.specs.Paths.{Passes}

one_more : (k : ℕ) → 1 + k ≡ suc k
one_more k = omega arith

one_more_left : (k : ℕ) → k + 1 ≡ suc k
one_more_left k = omega arith

none_more : (k : ℕ) → 0 + k ≡ k
none_more k = omega arith

module _ {E N S : Type 0} (step : S → Move E N S) where
  -- the rest of a run, by all that it depends on
  same_rest : (k : ℕ) (left left' spent spent' : ℕ) (out out' : List (Stamped E)) (notes notes' : List N) (s : S) → left ≡ left' → spent ≡ spent'
      → out ≡ out' → notes ≡ notes' → run step k left spent out notes s ≡ run step k left' spent' out' notes' s
  same_rest k left left' spent spent' out out' notes notes' s a b c d =
      ap (λ n. run step k n spent out notes s) a ∙ ap (λ n. run step k left' n out notes s) b
      ∙ ap (λ es. run step k left' spent' es notes s) c ∙ ap (λ ns. run step k left' spent' out' ns s) d

  pub no_move : (spent : ℕ) (s : S) → Passes step spent s 0 [] [] s
  no_move spent s = record {
    moves = 0;
    leads = λ more left out before.
        ap (λ n. run step n (left + 0) spent out before s) (none_more more)
        ∙ same_rest more (left + 0) left spent (spent + 0) out (out ++ []) before (before ++ []) s (omega arith) (omega arith) (sym (append-nil out))
        (sym (append-nil before));
  }

  pub goes_on : (spent : ℕ) (ns : List N) (s t : S) → step s ≡ Goes ns t → Passes step spent s 0 [] ns t
  goes_on spent ns s t e = record {
    moves = 1;
    leads = λ more left out before.
        ap (λ n. run step n (left + 0) spent out before s) (one_more more)
        ∙ ap (λ m. after m (run step more) (left + 0) spent out before) e
        ∙ same_rest more (left + 0) left spent (spent + 0) out (out ++ []) (before ++ ns) (before ++ ns) t (omega arith) (omega arith)
        (sym (append-nil out)) refl;
  }

  pub shows_one : (spent : ℕ) (ns : List N) (event : E) (s t : S) → step s ≡ Shows ns event t
      → Passes step spent s 0 (record { turns = spent; event = event } ∷ []) ns t
  shows_one spent ns event s t e = record {
    moves = 1;
    leads = λ more left out before.
        ap (λ n. run step n (left + 0) spent out before s) (one_more more)
        ∙ ap (λ m. after m (run step more) (left + 0) spent out before) e
        ∙ same_rest more (left + 0) left spent (spent + 0) (out ++ record { turns = spent; event = event } ∷ [])
        (out ++ record { turns = spent; event = event } ∷ []) (before ++ ns) (before ++ ns) t (omega arith) (omega arith) refl refl;
  }

  pub charges_one : (spent : ℕ) (s t : S) → step s ≡ Charges t → Passes step spent s 1 [] [] t
  charges_one spent s t e = record {
    moves = 1;
    leads = λ more left out before.
        ap (λ n. run step n (left + 1) spent out before s) (one_more more)
        ∙ ap (λ n. run step (suc more) n spent out before s) (one_more_left left)
        ∙ ap (λ m. after m (run step more) (suc left) spent out before) e
        ∙ same_rest more left left (suc spent) (spent + 1) out (out ++ []) before (before ++ []) t refl (omega arith) (sym (append-nil out))
        (sym (append-nil before));
  }

  pub one_behind : (spent a b : ℕ) (es fs : List (Stamped E)) (ns ms : List N) (s t u : S) → Passes step spent s a es ns t
      → Passes step (spent + a) t b fs ms u → Passes step spent s (a + b) (es ++ fs) (ns ++ ms) u
  one_behind spent a b es fs ns ms s t u p q = record {
    moves = p.moves + q.moves;
    leads = λ more left out before.
        ap (λ n. run step n (left + (a + b)) spent out before s) (moves_are more)
        ∙ ap (λ n. run step (p.moves + (q.moves + more)) n spent out before s) (left_are left)
        ∙ p.leads (q.moves + more) (left + b) out before
        ∙ q.leads more left (out ++ es) (before ++ ns)
        ∙ same_rest more left left (spent + a + b) (spent + (a + b)) (out ++ es ++ fs) (out ++ (es ++ fs)) (before ++ ns ++ ms) (before ++ (ns ++ ms)) u refl
        (omega arith) (append_assoc out es fs) (append_assoc before ns ms);
  }
    where
      moves_are : (more : ℕ) → p.moves + q.moves + more ≡ p.moves + (q.moves + more)
      moves_are more = omega arith

      left_are : (left : ℕ) → left + (a + b) ≡ left + b + a
      left_are left = omega arith

  -- ---- ends

  pub ends_so : (turns bound : ℕ) (es : List (Stamped E)) (ns ms : List N) (s t : S) (end : End) → Passes step 0 s turns es ns t → step t ≡ Ends ms end
      → turns ≤ bound → Reports step s bound (record { end = end; events = es; notes = ns ++ ms })
  ends_so turns bound es ns ms s t end p e enough =
      let left : ℕ = bound - turns in
      let all : bound ≡ left + turns = omega (arith, enough) in (
        p.moves + 1,
        ap (λ n. run step (p.moves + 1) n 0 [] [] s) all
            ∙ p.leads 1 left [] []
            ∙ same_rest 1 left left (0 + turns) turns es es ns ns t refl (omega arith) refl refl
            ∙ ap (λ n. run step n left turns es ns t) (one_more 0)
            ∙ ap (λ m. after m (run step 0) left turns es ns) e,
      )

  pub pauses_so : (turns : ℕ) (es : List (Stamped E)) (ns : List N) (s t u : S) → Passes step 0 s turns es ns t → step t ≡ Charges u
      → Reports step s turns (record { end = Unfinished; events = es; notes = ns })
  pauses_so turns es ns s t u p e = (
    p.moves + 1,
    ap (λ n. run step (p.moves + 1) n 0 [] [] s) (sym (none_more turns))
        ∙ p.leads 1 0 [] []
        ∙ same_rest 1 0 0 (0 + turns) turns es es ns ns t refl (omega arith) refl refl
        ∙ ap (λ n. run step n 0 turns es ns t) (one_more 0)
        ∙ ap (λ m. after m (run step 0) 0 turns es ns) e,
  )
