-- What a row leads to is where the run of its code comes.
use Rattle.std.proofs.Common.{◌≡◌, ℕ, suc, ◌+◌, List, ◌++◌, Some, ◌∙◌, ap, arith, append_assoc}
use Rattle.std.proofs.lemmas.List.{replicate-append-replicate}
use Rattle.value_model.specs.Waits.{End}
use Rattle.value_model.specs.declared.event.EventKind.{EventKind}
use Rattle.bounded_runs.specs.Runs.{Stamped, after, run}
use Rattle.op_words.specs.Chunks.{ChunkOf}
use Rattle.machine_meaning.specs.States.{State}
use Rattle.machine_meaning.specs.Moves.{Look, asked, Step}
use Rattle.machine_meaning.specs.Steps.{step}
use Rattle.machine_rows.specs.Leading.{looks, LeadsTo, goes, goes_on, EndsSo, ends, ends_on}

-- so many moves on the run is in that state, with so many look-ups more
abbrev pub RunsOn : ChunkOf → Step → (tables : ℕ) → State → Type 0
RunsOn chunk m n t =
    (k : ℕ) × ((more left spent : ℕ) (out : List (Stamped EventKind)) (notes : List Look) → after m (run (step chunk) (k + more)) left spent out notes ≡ run (step chunk) more left spent out (notes ++ looks n) t)

-- or it is over
abbrev pub RunsOut : ChunkOf → Step → (tables : ℕ) → End → Type 0
RunsOut chunk m n e =
    (k : ℕ) × ((more left spent : ℕ) (out : List (Stamped EventKind)) (notes : List Look) → after m (run (step chunk) (k + more)) left spent out notes ≡ Some (record { end = e; events = out; notes = notes ++ looks n }))

noted : (n k all : ℕ) (notes : List Look) → n + k ≡ all → (notes ++ looks n) ++ looks k ≡ notes ++ looks all
noted n k all notes sum = append_assoc notes (looks n) (looks k) ∙ ap (λ l. notes ++ l) (replicate-append-replicate n k asked ∙ ap looks sum)

pub leads_on : (chunk : ChunkOf) (m : Step) (n : ℕ) (t : State) → LeadsTo chunk m n t → RunsOn chunk m n t
leads_on chunk m n t (goes _ e) =
    (0, λ more left spent out notes. ap (λ m. after m (run (step chunk) (0 + more)) left spent out notes) e ∙ ap (λ i. run (step chunk) i left spent out (notes ++ looks n) t) (omega arith))
leads_on chunk m n t (goes_on a k _ {s = s} e rest sum) =
    let r = leads_on chunk (step chunk s) k t rest in (
      suc r.0,
      λ more left spent out notes.
          let count : suc r.0 + more ≡ suc (r.0 + more) = omega arith in
          ap (λ m. after m (run (step chunk) (suc r.0 + more)) left spent out notes) e
          ∙ ap (λ i. run (step chunk) i left spent out (notes ++ looks a) s) count
          ∙ r.1 more left spent out (notes ++ looks a)
          ∙ ap (λ l. run (step chunk) more left spent out l t) (noted a k n notes sum),
    )

pub ends_out : (chunk : ChunkOf) (m : Step) (n : ℕ) (e : End) → EndsSo chunk m n e → RunsOut chunk m n e
ends_out chunk m n e (ends _ is) = (0, λ more left spent out notes. ap (λ m. after m (run (step chunk) (0 + more)) left spent out notes) is)
ends_out chunk m n e (ends_on a k _ {s = s} is rest sum) =
    let r = ends_out chunk (step chunk s) k e rest in (
      suc r.0,
      λ more left spent out notes.
          let count : suc r.0 + more ≡ suc (r.0 + more) = omega arith in
          ap (λ m. after m (run (step chunk) (suc r.0 + more)) left spent out notes) is
          ∙ ap (λ i. run (step chunk) i left spent out (notes ++ looks a) s) count
          ∙ r.1 more left spent out (notes ++ looks a)
          ∙ ap (λ l. Some (record { end = e; events = out; notes = l })) (noted a k n notes sum),
    )
