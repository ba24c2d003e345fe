-- What comes of an operation on values, where an instruction waits for it.
use Rattle.std.proofs.Common.{◌≡◌, refl, sym, ap, ◌∙◌, ℕ, ◌≤◌, List, [], ◌∷◌, length, replicate, subst, nat_eq, append-nil}
use Rattle.value_model.specs.Store.{Store, here, place_of_running}
use Rattle.value_model.specs.CoroutineRows.{coroutine_of, dead}
use Rattle.value_model.specs.Waits.{waiting}
use Rattle.value_model.specs.Choices.{Outcome, Done, CallThis, Errs, Halts, Choice}
use Rattle.std.specs.Prelude.{slice_index_or}
use Rattle.op_words.specs.Chunks.{ChunkOf, ProtoOf}
use Rattle.machine_meaning.specs.States.{Purpose, Frame, World}
use Rattle.machine_meaning.specs.Moves.{Look, asked, store_of, with_store, waits_for, saved, comes, settle}
use Rattle.machine_meaning.specs.Calls.{is_dead}
use Rattle.checked_runs.specs.Safe.{Sizes, Awaits, AreStacked, IsWorld, IsSafeMove}
use Rattle.checked_runs.specs.Keeps.{Keeps, OutcomeIsMade, ChoiceIsMade}
use Rattle.checked_runs.proofs.Settings.{Setting, frame_at, frame_ended, with_frame, active, faults}

pub same_coroutine : (s t : Store) → t.coroutines ≡ s.coroutines → (i : ℕ) → coroutine_of t i ≡ coroutine_of s i
unfolding coroutine_of
same_coroutine s t e i = ap (λ cs. slice_index_or cs i dead) e

module _ {chunk : ChunkOf} {z : Sizes} where
  -- a store that keeps functions and coroutines
  pub store_kept : {w : World} → (t : Store) → IsWorld chunk z w → Keeps z.functions (store_of w) t [] → IsWorld chunk z (with_store t w)
  store_kept {w} t i k =
      let s = store_of w in
      let here_same : here t ≡ here s = ap place_of_running k.running in
      let all : t.coroutines ≡ s.coroutines = k.coroutines ∙ append-nil s.coroutines in
      record {
        functions = i.functions;
        environments = k.environments ∙ i.environments;
        cells = i.cells;
        bodies = i.bodies;
        values = i.values;
        store = k.store;
        waits = record {
          enough = subst (λ cs. length cs ≤ length w.waits) (sym all) i.waits.enough;
          each = i.waits.each;
          stacked = λ j e. i.waits.stacked j (sym (ap (nat_eq j) here_same) ∙ e);
          dead = λ j e d. i.waits.dead j (sym (ap (nat_eq j) here_same) ∙ e) (sym (ap (λ c. is_dead c.status) (same_coroutine s t all j)) ∙ d);
        };
        imports = i.imports;
      }

  pub setting_kept : {p : ProtoOf} {f : Frame} {fs : List Frame} {w : World} → (t : Store) → Setting chunk z p f fs w
      → Keeps z.functions (store_of w) t [] → Setting chunk z p f fs (with_store t w)
  setting_kept {p} {f} {fs} {w} t s k = record {
    world = store_kept t s.world k;
    frame = s.frame;
    below = s.below;
    waits = ap (λ o. waiting w.waits (place_of_running o)) k.running ∙ s.waits;
    stacked = s.stacked;
  }

  pub waiting_frame : {p : ProtoOf} {f : Frame} {fs : List Frame} {w : World} → Setting chunk z p f fs w → (q : Purpose)
      → Awaits p z.functions f.place q
      → AreStacked chunk z (waiting w.waits (here (store_of w))) (saved q f ∷ fs)
  waiting_frame {p} {f} {fs} {w} s q h =
      subst (λ ws. AreStacked chunk z ws (saved q f ∷ fs)) (sym s.waits)
      (refl, record { code = p; frame = frame_at f.place q (frame_ended 0 s.frame) s.frame.stands; awaits = h }, s.stacked)

  came : {p : ProtoOf} {f : Frame} {fs : List Frame} {w : World} → (o : Outcome) (ns : List Look) (q : Purpose) → Setting chunk z p f fs w
      → OutcomeIsMade z.functions o → Awaits p z.functions f.place q
      → IsSafeMove chunk (comes o ns q f fs w)
  came {p} {f} {fs} {w} (Done v) ns q s m h = record {
    sizes = z;
    world = s.world;
    doing = ((m, tt), active (λ p f. Awaits p z.functions f.place f.purpose) (with_frame (waits_for q f) s (frame_at f.place q s.frame s.frame.stands) refl) h);
  }
  came {p} {f} {fs} {w} (CallThis g vs) ns q s m h = record { sizes = z; world = s.world; doing = (m.0, m.1, waiting_frame s q h) }
  came {p} {f} {fs} {w} (Errs e) ns q s m h =
      faults (with_frame (waits_for q f) s (frame_at f.place q s.frame s.frame.stands) refl) e
  came {p} {f} {fs} {w} (Halts stop) ns q s m h = λ e. absurd cc

  pub settled : {p : ProtoOf} {f : Frame} {fs : List Frame} {w : World} → (c : Choice) (q : Purpose) → Setting chunk z p f fs w
      → ChoiceIsMade z.functions (store_of w) c → Awaits p z.functions f.place q
      → IsSafeMove chunk (settle c q f fs w)
  settled c q s m h = came c.outcome (replicate c.asked asked) q (setting_kept c.store s m.kept) m.outcome h
