-- What single moves and rows lead to, as parts of a slice.
use Rattle.std.proofs.Common.{◌≡◌, ℕ, ◌+◌, ◌≤◌, List, [], ◌++◌, refl, ◌∙◌, ap, subst, arith}
use Rattle.std.proofs.lemmas.List.{replicate-append-replicate}
use Rattle.value_model.specs.Waits.{End, Unfinished}
use Rattle.value_model.specs.declared.event.EventKind.{EventKind}
use Rattle.bounded_runs.specs.Runs.{Goes, Shows, Charges, Ends, Stamped, Reports}
use Rattle.op_words.specs.Chunks.{ChunkOf}
use Rattle.machine_meaning.specs.WellFormed.{IsWellFormed}
use Rattle.machine_meaning.specs.States.{State}
use Rattle.machine_meaning.specs.Moves.{Step, asked}
use Rattle.machine_meaning.specs.Steps.{step}
use Rattle.checked_runs.specs.Laws.{StepsStaySafe}
use Rattle.checked_runs.specs.Safe.{IsSafe, IsSafeMove}
use Rattle.run_paths.specs.Paths.{HoldsBehind, IsKept, Keeps}
use Rattle.run_paths.proofs.Paths.{ends_so, pauses_so}
use Rattle.run_paths.proofs.Keeping.{no_move_keeps, goes_on_keeps, one_behind_keeps}
use Rattle.machine_rows.specs.Leading.{looks, LeadsTo, goes, goes_on, EndsSo, ends, ends_on}
use Rattle.luau_vm.specs.Slices.{Advances, AdvancesToEnd, IsAtCharge}

behind : (chunk : ChunkOf) (m : Step) → IsSafeMove chunk m → HoldsBehind (IsSafe chunk) m
behind chunk (Goes ns s) h = h
behind chunk (Shows ns e s) h = h
behind chunk (Charges s) h = h
behind chunk (Ends ns e) h = tt

pub safe_is_kept : StepsStaySafe → (chunk : ChunkOf) → IsWellFormed chunk → IsKept (step chunk) (IsSafe chunk)
safe_is_kept stay chunk well s h = behind chunk (step chunk s) (stay chunk well s h)

looks_more : (n k all : ℕ) → n + k ≡ all → looks n ++ looks k ≡ looks all
looks_more n k all sum = replicate-append-replicate n k asked ∙ ap looks sum

module _ (chunk : ChunkOf) (kept : IsKept (step chunk) (IsSafe chunk)) where
  -- one part of a slice behind another
  pub advances_on : (spent a b : ℕ) (es fs : List (Stamped EventKind)) (n k all : ℕ) (s t u : State) → Advances chunk spent s a es n t
      → Advances chunk (spent + a) t b fs k u → n + k ≡ all → Advances chunk spent s (a + b) (es ++ fs) all u
  advances_on spent a b es fs n k all s t u p q sum =
      subst (λ ns. Keeps (step chunk) (IsSafe chunk) spent s (a + b) (es ++ fs) ns u) (looks_more n k all sum)
      (one_behind_keeps (step chunk) (IsSafe chunk) spent a b es fs (looks n) (looks k) s t u p q)

  at_same : (spent spent' : ℕ) (n : ℕ) (s t : State) → spent ≡ spent' → Advances chunk spent s 0 [] n t → Advances chunk spent' s 0 [] n t
  at_same spent spent' n s t e p = subst (λ i. Advances chunk i s 0 [] n t) e p

  moves_on : (spent n : ℕ) (s t : State) (m : Step) → step chunk s ≡ m → LeadsTo chunk m n t → Advances chunk spent s 0 [] n t
  moves_on spent n s t m is (goes _ e) = goes_on_keeps (step chunk) (IsSafe chunk) kept spent (looks n) s t (is ∙ e)
  moves_on spent n s t m is (goes_on a k _ {s = u} e rest sum) =
      advances_on spent 0 0 [] [] a k n s u t (goes_on_keeps (step chunk) (IsSafe chunk) kept spent (looks a) s u (is ∙ e))
      (at_same spent (spent + 0) k u t (omega arith) (moves_on spent k u t (step chunk u) refl rest)) sum

  -- what a row comes to is a part of a slice
  pub row_advances : (spent n : ℕ) (s t : State) → LeadsTo chunk (step chunk s) n t → Advances chunk spent s 0 [] n t
  row_advances spent n s t h = moves_on spent n s t (step chunk s) refl h

  moves_to_end : (spent n : ℕ) (s : State) (e : End) (m : Step) → step chunk s ≡ m → EndsSo chunk m n e → AdvancesToEnd chunk spent s 0 [] n e
  moves_to_end spent n s e m is (ends _ at) = record {
    last = s;
    before = 0;
    then = n;
    all = omega arith;
    advances = no_move_keeps (step chunk) (IsSafe chunk) spent s;
    ends = is ∙ at;
  }
  moves_to_end spent n s e m is (ends_on a k _ {s = u} at rest sum) =
      let r = moves_to_end spent k u e (step chunk u) refl rest in record {
        last = r.last;
        before = a + r.before;
        then = r.then;
        all = summed a k n r.before r.then sum r.all;
        advances = advances_on spent 0 0 [] [] a r.before (a + r.before) s u r.last
            (goes_on_keeps (step chunk) (IsSafe chunk) kept spent (looks a) s u (is ∙ at))
            (at_same spent (spent + 0) r.before u r.last (omega arith) r.advances) refl;
        ends = r.ends;
      }
    where
      summed : (a k n b c : ℕ) → a + k ≡ n → b + c ≡ k → a + b + c ≡ n
      summed a k n b c h g = omega (arith, h, g)

  -- and so is its end
  pub row_ends : (spent n : ℕ) (s : State) (e : End) → EndsSo chunk (step chunk s) n e → AdvancesToEnd chunk spent s 0 [] n e
  row_ends spent n s e h = moves_to_end spent n s e (step chunk s) refl h

  -- a part of a slice before an end
  pub advances_to_end : (spent a b : ℕ) (es fs : List (Stamped EventKind)) (n k all : ℕ) (s t : State) (e : End) → Advances chunk spent s a es n t
      → AdvancesToEnd chunk (spent + a) t b fs k e → n + k ≡ all → AdvancesToEnd chunk spent s (a + b) (es ++ fs) all e
  advances_to_end spent a b es fs n k all s t e p q sum = record {
    last = q.last;
    before = n + q.before;
    then = q.then;
    all = summed n k all q.before q.then sum q.all;
    advances = advances_on spent a b es fs n q.before (n + q.before) s t q.last p q.advances refl;
    ends = q.ends;
  }
    where
      summed : (a k n b c : ℕ) → a + k ≡ n → b + c ≡ k → a + b + c ≡ n
      summed a k n b c h g = omega (arith, h, g)

  -- ---- where a run ends that came so far

  pub reports_end : (turns bound : ℕ) (es : List (Stamped EventKind)) (n : ℕ) (s : State) (e : End) → AdvancesToEnd chunk 0 s turns es n e → turns ≤ bound
      → Reports (step chunk) s bound (record { end = e; events = es; notes = looks n })
  reports_end turns bound es n s e a enough =
      subst (λ ns. Reports (step chunk) s bound (record { end = e; events = es; notes = ns })) (looks_more a.before a.then n a.all)
      (ends_so (step chunk) turns bound es (looks a.before) (looks a.then) s a.last e a.advances.passes a.ends enough)

  pub reports_pause : (turns : ℕ) (es : List (Stamped EventKind)) (n : ℕ) (s t : State) → Advances chunk 0 s turns es n t → IsAtCharge chunk t
      → Reports (step chunk) s turns (record { end = Unfinished; events = es; notes = looks n })
  reports_pause turns es n s t a c = pauses_so (step chunk) turns es (looks n) s t c.next a.passes c.charges
