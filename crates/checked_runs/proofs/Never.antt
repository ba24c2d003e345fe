-- A run of well-formed code is never stuck.
use Rattle.std.proofs.Common.{◌≡◌, ◌≢◌, refl, ap, ◌∙◌, ℕ, zero, suc, List, [], ◌++◌, Option, Some, None, subst}
use Rattle.value_model.specs.declared.event.EventKind.{EventKind}
use Rattle.value_model.specs.Waits.{Unfinished, Stuck}
use Rattle.bounded_runs.specs.Runs.{Stamped, Report, Goes, Shows, Charges, Ends, Rest, after, run}
use Rattle.op_words.specs.Chunks.{ChunkOf}
use Rattle.machine_meaning.specs.WellFormed.{IsWellFormed}
use Rattle.machine_meaning.specs.States.{State}
use Rattle.machine_meaning.specs.Moves.{Look, Step}
use Rattle.machine_meaning.specs.Steps.{step}
use Rattle.machine_meaning.specs.Runs.{loaded}
use Rattle.checked_runs.specs.Safe.{IsSafe, IsSafeMove}
use Rattle.checked_runs.specs.Operands.{state_after, reached}
use Rattle.checked_runs.specs.Laws.{CodeIsNeverStuck, ReachedIsSafe}
use Rattle.std.specs.Option.{option_and_then}
use Rattle.checked_runs.proofs.Steps.{steps_stay_safe}
use Rattle.checked_runs.proofs.Loaded.{loaded_is_safe}

-- the rest of a run from a safe state is not stuck
NeverStuck : ChunkOf → Rest EventKind Look State → Type 0
NeverStuck chunk rest =
    (left spent : ℕ) (out : List (Stamped EventKind)) (notes : List Look) (s : State) (r : Report EventKind Look) → IsSafe chunk s → rest left spent
    out notes s ≡ Some r → r.end ≢ Stuck

after_move : (chunk : ChunkOf) (rest : Rest EventKind Look State) → NeverStuck chunk rest
    → (m : Step) (left spent : ℕ) (out : List (Stamped EventKind)) (notes : List Look) (r : Report EventKind Look)
    → IsSafeMove chunk m → after m rest left spent out notes ≡ Some r → r.end ≢ Stuck
unfolding NeverStuck
after_move chunk rest h (Goes ns s) left spent out notes r i e = h left spent out (notes ++ ns) s r i e
after_move chunk rest h (Shows ns v s) left spent out notes r i e = h left spent _ (notes ++ ns) s r i e
after_move chunk rest h (Charges s) zero spent out notes r i e =
    let same : record { end = Unfinished; events = out; notes = notes } ≡ r = cc in
    λ g. let no : Unfinished ≡ Stuck = ap (λ (r : Report EventKind Look). r.end) same ∙ g in absurd cc
after_move chunk rest h (Charges s) (suc left) spent out notes r i e = h left (suc spent) out notes s r i e
after_move chunk rest h (Ends ns end) left spent out notes r i e =
    let same : record { end = end; events = out; notes = notes ++ ns } ≡ r = cc in
    λ g. i (ap (λ (r : Report EventKind Look). r.end) same ∙ g)

never_stuck : (chunk : ChunkOf) → IsWellFormed chunk → (moves : ℕ) → NeverStuck chunk (run (step chunk) moves)
unfolding NeverStuck
never_stuck chunk well zero left spent out notes s r i e = absurd cc
never_stuck chunk well (suc k) left spent out notes s r i e =
    after_move chunk (run (step chunk) k) (never_stuck chunk well k) (step chunk s) left spent out notes r (steps_stay_safe chunk well s i) e

pub code_is_never_stuck : CodeIsNeverStuck
unfolding NeverStuck
code_is_never_stuck chunk well host replies n r run =
    never_stuck chunk well run.0 n 0 [] [] (loaded chunk host replies) r (loaded_is_safe chunk well host replies) run.1

-- ---- the states that a run comes to

next_safe : (chunk : ChunkOf) (m : Step) → IsSafeMove chunk m → (t : State) → state_after m ≡ Some t → IsSafe chunk t
next_safe chunk (Goes ns s) i t e = let same : s ≡ t = cc in subst (IsSafe chunk) same i
next_safe chunk (Shows ns v s) i t e = let same : s ≡ t = cc in subst (IsSafe chunk) same i
next_safe chunk (Charges s) i t e = let same : s ≡ t = cc in subst (IsSafe chunk) same i
next_safe chunk (Ends ns end) i t e = absurd cc

stepped : (chunk : ChunkOf) → IsWellFormed chunk → (o : Option State) → ((s : State) → o ≡ Some s → IsSafe chunk s) → (t : State)
    → option_and_then (λ s. state_after (step chunk s)) o ≡ Some t → IsSafe chunk t
stepped chunk well None h t e = absurd cc
stepped chunk well (Some s) h t e = next_safe chunk (step chunk s) (steps_stay_safe chunk well s (h s refl)) t e

pub reached_is_safe : ReachedIsSafe
reached_is_safe chunk well host replies zero s e =
    let same : loaded chunk host replies ≡ s = cc in subst (IsSafe chunk) same (loaded_is_safe chunk well host replies)
reached_is_safe chunk well host replies (suc k) s e =
    stepped chunk well (reached chunk host replies k) (λ s e. reached_is_safe chunk well host replies k s e) s e
