-- A step of well-formed code leads from a safe state to a safe state.
use Rattle.std.proofs.Common.{◌≡◌, refl, sym, ap, ℕ, Bool, true, false, List, [], ◌∷◌, subst}
use Rattle.value_model.specs.Values.{Value}
use Rattle.value_model.specs.Store.{here}
use Rattle.value_model.specs.Waits.{Wait, Runs, Protects, Guards, Handles, Resumes, Asks, waiting, first_of, rest_of, innermost}
use Rattle.op_words.specs.declared.insn.Insn.{Insn}
use Rattle.op_words.specs.declared.insn.Insn.TheVariants.{ForNLoop, ForGLoop}
use Rattle.op_words.specs.Chunks.{ChunkOf, ProtoOf}
use Rattle.machine_meaning.specs.Chunks.{proto_at}
use Rattle.machine_meaning.specs.WellFormed.{IsWellFormed}
use Rattle.machine_meaning.specs.States.{Frame, Focus, Run, Charged, GiveAll, Join, Follow, Invoke, Hand, Fault, Raise, World}
use Rattle.machine_meaning.specs.Moves.{store_of}
use Rattle.machine_meaning.specs.Effects.{bounds_in, charged}
use Rattle.machine_meaning.specs.Calls.{is_function, hand, raise, without_first}
use Rattle.machine_meaning.specs.Steps.{code_of, act, act_charged, rows, inside, moves}
use Rattle.checked_runs.specs.Places.{IsPlace}
use Rattle.checked_runs.specs.Safe.{Sizes, IsMade, AreMade, IsFrame, Awaits, AreStacked, AreLeft, IsWorld, IsActive, IsLoop, AreDoing, IsSafeMove, is_loop}
use Rattle.checked_runs.specs.Keeps.{LibraryKeeps}
use Rattle.checked_runs.specs.Laws.{StepsStaySafe}
use Rattle.checked_runs.proofs.Library.{library_keeps}
use Rattle.checked_runs.proofs.Rules.{IsSound, proto_sound}
use Rattle.checked_runs.proofs.Places.{Stands, own_loop, stands_at, goes_on, leads, leads_back}
use Rattle.checked_runs.proofs.Settings.{Setting}
use Rattle.checked_runs.proofs.Effects.{joins, follows_names, receives, adds, asks_generator}
use Rattle.checked_runs.proofs.Rows.{row_safe}
use Rattle.checked_runs.proofs.Waits.{rest_each, with_waits, waits_here, those_here}
use Rattle.checked_runs.proofs.Settled.{stacked_left}
use Rattle.checked_runs.proofs.Asking.{calls_value, gives_values, passes_error}

-- ---- the innermost function

innermost_active : (chunk : ChunkOf) (z : Sizes) (l : List Wait) (fs : List Frame) → is_function (first_of l) ≡ true → AreStacked chunk z l fs
    → IsActive chunk z (λ p f. Awaits p z.functions f.place f.purpose) l fs
innermost_active chunk z (Runs c ∷ l) (f ∷ fs) e st = record {
  code = st.1.code;
  frame = f;
  below = fs;
  functions = refl;
  rest = l;
  waits = ap (λ c. Runs c ∷ l) (sym st.0);
  is = st.1.frame;
  stacked = st.2;
  holds = st.1.awaits;
}
innermost_active chunk z (Runs c ∷ l) [] e st = absurd st
innermost_active chunk z [] fs e st = absurd cc
innermost_active chunk z (w ∷ l) fs e st = absurd cc

left_stacked : (chunk : ChunkOf) (z : Sizes) (l : List Wait) (fs : List Frame) → is_function (first_of l) ≡ false → AreLeft chunk z l fs
    → AreStacked chunk z l fs
left_stacked chunk z [] fs e i = i
left_stacked chunk z (Runs c ∷ l) fs e i = absurd cc
left_stacked chunk z (Protects ∷ l) fs e i = i
left_stacked chunk z (Guards h ∷ l) fs e i = i
left_stacked chunk z (Handles ∷ l) fs e i = i
left_stacked chunk z (Resumes b ∷ l) fs e i = i
left_stacked chunk z (Asks c ∷ l) fs e i = i

without_first_stacked : (chunk : ChunkOf) (z : Sizes) (l : List Wait) (fs : List Frame) → is_function (first_of l) ≡ true → AreLeft chunk z l fs
    → AreStacked chunk z (rest_of l) (without_first fs)
without_first_stacked chunk z (Runs c ∷ l) (f ∷ fs) e i = i
without_first_stacked chunk z (Runs c ∷ l) [] e i = absurd i
without_first_stacked chunk z [] fs e i = absurd cc
without_first_stacked chunk z (w ∷ l) fs e i = absurd cc

module _ {chunk : ChunkOf} (well : IsWellFormed chunk) (library : LibraryKeeps) {z : Sizes} {w : World} (world : IsWorld chunk z w) where
  hands : (b : Bool) (vs : List Value) (fs : List Frame) → is_function (innermost w.waits (store_of w)) ≡ b → AreMade z.functions vs
      → AreStacked chunk z (waiting w.waits (here (store_of w))) fs
      → IsSafeMove chunk (hand chunk b vs fs w)
  hands true vs fs e m st =
      record { sizes = z; world = world; doing = (m, innermost_active chunk z (waiting w.waits (here (store_of w))) fs e st) }
  hands false vs fs e m st = gives_values well library fs vs m world st

  raises : (b : Bool) (v : Value) (fs : List Frame) → is_function (innermost w.waits (store_of w)) ≡ b → IsMade z.functions v
      → AreLeft chunk z (waiting w.waits (here (store_of w))) fs
      → IsSafeMove chunk (raise chunk b v fs w)
  raises true v fs e m st =
      let l = waiting w.waits (here (store_of w)) in
      let below = without_first_stacked chunk z l fs e st in
      record {
        sizes = z;
        world = with_waits (rest_of l) world (rest_each z.functions l (those_here world));
        doing =
            (m, subst (λ l. AreLeft chunk z l (without_first fs)) (sym (waits_here (rest_of l) world.store world.waits)) (stacked_left chunk z (rest_of l) (without_first fs) below));
      }
  raises false v fs e m st =
      passes_error well library fs v m e world (left_stacked chunk z (waiting w.waits (here (store_of w))) fs e st)

  -- ---- the function that runs

  setting_of : {P : ProtoOf → Frame → Type 0} {fs : List Frame} → (a : IsActive chunk z P (waiting w.waits (here (store_of w))) fs)
      → Setting chunk z a.code a.frame a.below w
  setting_of a = record { world = world; frame = a.is; below = a.rest; waits = a.waits; stacked = a.stacked }

  code_same : {p : ProtoOf} {f : Frame} → IsFrame chunk z p f → code_of (proto_at chunk f.proto) ≡ p.code
  code_same i = ap code_of i.code

  runs : (p : ProtoOf) (f : Frame) (fs : List Frame) → Setting chunk z p f fs w → IsPlace p f.place → IsSafeMove chunk (rows chunk Run p.code f fs w)
  runs p f fs s i =
      let sound = proto_sound chunk f.proto p well s.frame.code in
      let at = stands_at chunk f.proto p f.place sound i in
      subst (λ o. IsSafeMove chunk (act chunk p.code o f fs w)) (sym at.read.read) (row_safe s sound library i.line.insn i.line.next at)

  charged_safe : (p : ProtoOf) (f : Frame) (fs : List Frame) → Setting chunk z p f fs w → IsSound chunk f.proto p → (insn : Insn) (next : ℕ)
      → is_loop insn ≡ true → Stands chunk f.proto p f.place insn next
      → IsSafeMove chunk (charged insn next f fs w)
  charged_safe p f fs s sound (ForNLoop a by) next e at =
      adds s (bounds_in f w a) a by next (leads chunk f.proto p f.place (ForNLoop a by) next sound at by refl)
      (goes_on chunk f.proto p f.place (ForNLoop a by) next sound at refl refl)
  charged_safe p f fs s sound (ForGLoop a by x) next e at =
      asks_generator s a x by next (own_loop at a x _ refl) (leads chunk f.proto p f.place (ForGLoop a by x) next sound at by refl)
      (leads_back chunk f.proto p f.place (ForGLoop a by x) next sound at by refl refl)
      (goes_on chunk f.proto p f.place (ForGLoop a by x) next sound at refl refl)
  charged_safe p f fs s sound insn next e at = absurd cc

  goes_round : (p : ProtoOf) (f : Frame) (fs : List Frame) → Setting chunk z p f fs w → IsLoop p f.place
      → IsSafeMove chunk (rows chunk Charged p.code f fs w)
  goes_round p f fs s i =
      let sound = proto_sound chunk f.proto p well s.frame.code in
      let at = stands_at chunk f.proto p f.place sound i.stands in
      subst (λ o. IsSafeMove chunk (act_charged o f fs w)) (sym at.read.read)
      (charged_safe p f fs s sound i.stands.line.insn i.stands.line.next i.loop at)

  within : {P : ProtoOf → Frame → Type 0} → (x : Focus) (fs : List Frame) → (a : IsActive chunk z P (waiting w.waits (here (store_of w))) fs)
      → IsSafeMove chunk (rows chunk x a.code.code a.frame a.below w) → IsSafeMove chunk (inside chunk x fs w)
  within x fs a i =
      subst (λ fs. IsSafeMove chunk (inside chunk x fs w)) (sym a.functions)
      (subst (λ c. IsSafeMove chunk (rows chunk x c a.frame a.below w)) (sym (code_same a.is)) i)

  moves_safe : (x : Focus) (fs : List Frame) → AreDoing chunk z x (waiting w.waits (here (store_of w))) fs → IsSafeMove chunk (moves chunk x fs w)
  moves_safe Run fs d = within Run fs d (runs d.code d.frame d.below (setting_of d) d.holds)
  moves_safe Charged fs d = within Charged fs d (goes_round d.code d.frame d.below (setting_of d) d.holds)
  moves_safe (GiveAll vs) fs d = let a = d.1 in within (GiveAll vs) fs a (receives (setting_of a) a.frame.purpose vs d.0 a.holds)
  moves_safe (Join vs to next) fs d = let a = d.2 in within (Join vs to next) fs a (joins (setting_of a) vs to next d.0 d.1 a.holds.0 a.holds.1)
  moves_safe (Follow base names to next) fs d =
      let a = d.1 in within (Follow base names to next) fs a (follows_names (setting_of a) base names to next d.0 a.holds.0 a.holds.1 a.holds.2)
  moves_safe (Invoke by g vs) fs d = calls_value well library fs by g vs d.0 d.1 world d.2
  moves_safe (Hand vs) fs d = hands (is_function (innermost w.waits (store_of w))) vs fs refl d.0 d.1
  moves_safe (Fault e) fs d = record { sizes = z; world = world; doing = (tt, d) }
  moves_safe (Raise v) fs d = raises (is_function (innermost w.waits (store_of w))) v fs refl d.0 d.1

pub steps_stay_safe : StepsStaySafe
steps_stay_safe chunk well s i = moves_safe well library_keeps i.world s.focus s.functions i.doing
