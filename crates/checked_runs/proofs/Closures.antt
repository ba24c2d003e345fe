-- A closure captures what the instructions behind its own say.
use Rattle.std.proofs.Common.{◌≡◌, refl, sym, ap, ◌∙◌, ℕ, zero, suc, ◌+◌, ◌<◌, Bool, true, false, List, [], ◌∷◌, ◌++◌, length, Option, Some, arith, subst, append_assoc, length-append}
use Rattle.std.specs.Prelude.{if◌then◌else◌}
use Rattle.std.proofs.lemmas.Bool.Decides.{nat_tests}
use Rattle.value_model.specs.Values.{Value, Closure, TableRef}
use Rattle.value_model.specs.Store.{with_new_closure}
use Rattle.value_model.specs.CoroutineRows.{coroutine_of}
use Rattle.op_words.specs.declared.insn.Insn.{Insn}
use Rattle.op_words.specs.declared.insn.Insn.TheVariants.{Capture}
use Rattle.op_words.specs.Decoding.{insn_at}
use Rattle.op_words.specs.Chunks.{ChunkOf, ProtoOf}
use Rattle.machine_meaning.specs.Chunks.{proto_at}
use Rattle.machine_meaning.specs.Needs.{Line, lines, is_capture, is_known, upvalue_of, all_below}
use Rattle.machine_meaning.specs.WellFormed.{leading, is_end, fall_faults}
use Rattle.machine_meaning.specs.States as states
use Rattle.machine_meaning.specs.States.{Register, Val, Open, Frame, World, Inside, Body, Taken, with_cells, value_in, also, opened, copied, cell_up, capture}
use Rattle.machine_meaning.specs.Moves.{store_of, environment_here}
use Rattle.machine_meaning.specs.Effects.{captured, captures, closure}
use Rattle.checked_runs.specs.Places.{IsPlace}
use Rattle.checked_runs.specs.Safe.{Each, Sizes, IsMade, IsRegister, IsBody, IsSafeMove}
use Rattle.checked_runs.proofs.Elements.{each_append, each_map, each_within, option_more}
use Rattle.checked_runs.proofs.Lines.{line_read, first_line}
use Rattle.checked_runs.proofs.Rules.{IsSound, rules_kept}
use Rattle.checked_runs.proofs.Places.{not_last, falls}
use Rattle.checked_runs.proofs.Settings.{Setting, with_frame, put_register, value_made, gives}
use Rattle.checked_runs.proofs.Growing.{AreMore, value_more, values_more, frame_more, stacked_more, body_more, waits_more, store_more}

abbrev pub one_cell_more : Sizes → Sizes
one_cell_more z = record { functions = z.functions; cells = z.cells + 1 }

pub cell_more : (z : Sizes) → AreMore z (one_cell_more z)
cell_more z = record { functions = omega arith; cells = omega arith }

-- a new cell
pub with_cell : {chunk : ChunkOf} {z : Sizes} {p : ProtoOf} {f : Frame} {fs : List Frame} {w : World} → (v : Value) → Setting chunk z p f fs w
    → IsMade z.functions v
    → Setting chunk (one_cell_more z) p f fs (with_cells (w.objects.cells ++ v ∷ []) w)
with_cell {chunk} {z} {p} {f} {fs} {w} v s m =
    let y = one_cell_more z in
    let more = cell_more z in
    let i = s.world in
    record {
      world = record {
        functions = i.functions;
        environments = i.environments;
        cells = omega (arith, length-append w.objects.cells (v ∷ []), i.cells);
        bodies = each_map (IsBody chunk z) (IsBody chunk y) (body_more z y more) w.objects.bodies i.bodies;
        values = each_append (IsMade z.functions) w.objects.cells (v ∷ []) i.values (m, tt);
        store = i.store;
        waits = waits_more z y more i.waits;
        imports = i.imports;
      };
      frame = frame_more z y more s.frame;
      below = s.below;
      waits = s.waits;
      stacked = stacked_more z y more chunk s.below fs s.stacked;
    }

-- what was taken so far
pub record IsTaken (chunk : ChunkOf) (z : Sizes) (p : ProtoOf) (fs : List Frame) (count : ℕ) (t : Taken) : Type 0 where
  pub sizes : Sizes
  pub functions : sizes.functions ≡ z.functions
  pub setting : Setting chunk sizes p t.inside.frame fs t.inside.world
  pub many : length t.taken ≡ count
  pub taken : Each (λ c. c < sizes.cells) t.taken

module _ {chunk : ChunkOf} {z : Sizes} {p : ProtoOf} {fs : List Frame} {count : ℕ} (t : Taken) (is : IsTaken chunk z p fs count t) where
  takes : (c : ℕ) → c < is.sizes.cells → IsTaken chunk z p fs (count + 1) (also c t)
  takes c l = record {
    sizes = is.sizes;
    functions = is.functions;
    setting = is.setting;
    many = omega (arith, length-append t.taken (c ∷ []), is.many);
    taken = each_append (λ c. c < is.sizes.cells) t.taken (c ∷ []) is.taken (l, tt);
  }

  old_taken : Each (λ c. c < is.sizes.cells + 1) t.taken
  old_taken = each_map (λ c. c < is.sizes.cells) (λ c. c < is.sizes.cells + 1) (λ c l. omega arith) t.taken is.taken

  takes_copy : (r : ℕ) → IsTaken chunk z p fs (count + 1) (copied r t)
  takes_copy r =
      let cells = t.inside.world.objects.cells in
      let v = value_in t.inside.frame t.inside.world r in
      let size = is.setting.world.cells in
      record {
        sizes = one_cell_more is.sizes;
        functions = is.functions;
        setting = with_cell v is.setting (value_made is.setting r);
        many = omega (arith, length-append t.taken (length cells ∷ []), is.many);
        taken = each_append (λ c. c < is.sizes.cells + 1) t.taken (length cells ∷ []) old_taken (omega arith, tt);
      }

  takes_register : (g : Register) (r : ℕ) → IsRegister is.sizes g → IsTaken chunk z p fs (count + 1) (opened g r t)
  takes_register (Open c) r i = takes c i
  takes_register (Val v) r i =
      let cells = t.inside.world.objects.cells in
      let size = is.setting.world.cells in
      let s = with_cell v is.setting i in
      let fits : length cells < is.sizes.cells + 1 = omega arith in
      record {
        sizes = one_cell_more is.sizes;
        functions = is.functions;
        setting =
            with_frame (record t.inside.frame { registers = states.put t.inside.frame.registers r (Open (length cells)) }) s
            (put_register r (Open (length cells)) s.frame fits) refl;
        many = omega (arith, length-append t.taken (length cells ∷ []), is.many);
        taken = each_append (λ c. c < is.sizes.cells + 1) t.taken (length cells ∷ []) old_taken (fits, tt);
      }

  -- an instruction that captures, as the rules have it
  pub takes_one : (kind from : ℕ) → is_known (Capture kind from) ≡ true → all_below p.upvalues (upvalue_of (Capture kind from)) ≡ true
      → IsTaken chunk z p fs (count + 1) (capture kind from t)
  takes_one zero from k u = takes_copy from
  takes_one (suc zero) from k u = takes_register (t.inside.frame.registers from) from (is.setting.frame.registers from)
  takes_one (suc (suc zero)) from k u =
      let few = is.setting.frame.upvalues in
      let below : from < length t.inside.frame.upvalues = grind (arith, nat_tests) in
      takes (cell_up t.inside.frame from) (each_within (λ c. c < is.sizes.cells) t.inside.frame.upvalues from 0 below is.setting.frame.cells)
  takes_one (suc (suc (suc kind))) from k u = absurd (grind (arith, nat_tests))

-- ---- the captures behind an instruction

pub record IsCaptured (chunk : ChunkOf) (z : Sizes) (p : ProtoOf) (fs : List Frame) (count : ℕ) (o : Option (Taken × ℕ)) : Type 0 where
  pub found : Taken
  pub behind : ℕ
  pub is : o ≡ Some (found, behind)
  pub made : IsTaken chunk z p fs count found
  pub goes : IsPlace p behind

capture_goes : (insn : Insn) → is_capture insn ≡ true → is_end insn ≡ false
capture_goes (Capture kind from) c = refl
capture_goes insn c = absurd cc

one_captured : {chunk : ChunkOf} {z : Sizes} {p : ProtoOf} {fs : List Frame} (count total : ℕ) (t : Taken) (insn : Insn) (next : ℕ) (more : ℕ → Taken → Option (Taken × ℕ))
    → is_capture insn ≡ true → is_known insn ≡ true → all_below p.upvalues (upvalue_of insn) ≡ true → IsTaken chunk z p fs count t
    → ((u : Taken) → IsTaken chunk z p fs (count + 1) u → IsCaptured chunk z p fs total (more next u))
    → IsCaptured chunk z p fs total (captured (Some (insn, next)) t more)
one_captured count total t (Capture kind from) next more c k u is go = go (capture kind from t) (takes_one t is kind from k u)
one_captured count total t insn next more c k u is go = absurd cc

none_leads : (b : Bool) (k : ℕ) → (if b then suc k else 0) ≡ 0 → b ≡ false
none_leads true k e = absurd (omega arith)
none_leads false k e = refl

one_leads : (b : Bool) (k m : ℕ) → (if b then suc k else 0) ≡ suc m → (b ≡ true) × (k ≡ m)
one_leads true k m e = (refl, omega arith)
one_leads false k m e = absurd (omega arith)

behind_captures : (chunk : ChunkOf) (n : ℕ) (p : ProtoOf) → IsSound chunk n p → (before : List Line) (l : Line) (after : List Line)
    → lines p.code ≡ before ++ l ∷ after → is_end l.insn ≡ false → leading after ≡ 0 → IsPlace p l.next
behind_captures chunk n p s before l [] split goes none =
    let last : is_end l.insn ≡ true = not_last n before l (sym (ap (fall_faults n) split) ∙ falls _ n (lines p.code) s.end) in absurd cc
behind_captures chunk n p s before l (m ∷ after) split goes none =
    let is = line_read p.code before l (m ∷ after) split in
    record {
      before = before ++ l ∷ [];
      line = m;
      after = after;
      split = split ∙ sym (append_assoc before (l ∷ []) (m ∷ after));
      there = first_line is.more p.code l.next m after is.rest;
      runs = none_leads (is_capture m.insn) (leading after) none;
    }

pub all_captured : {chunk : ChunkOf} {z : Sizes} {p : ProtoOf} {fs : List Frame} (n : ℕ) → IsSound chunk n p → (more count total : ℕ)
    → count + more ≡ total
    → (before : List Line) (l : Line) (after : List Line) → lines p.code ≡ before ++ l ∷ after → is_end l.insn ≡ false → leading after ≡ more
    → (t : Taken) → IsTaken chunk z p fs count t → IsCaptured chunk z p fs total (captures p.code more l.next t)
all_captured {chunk} {z} {p} {fs} n s zero count total sum before l after split goes lead t is = record {
  found = t;
  behind = l.next;
  is = refl;
  made = let same : count ≡ total = omega arith in subst (λ k. IsTaken chunk z p fs k t) same is;
  goes = behind_captures chunk n p s before l after split goes lead;
}
all_captured {chunk} {z} {p} {fs} n s (suc more) count total sum before l [] split goes lead t is = absurd (omega arith)
all_captured {chunk} {z} {p} {fs} n s (suc more) count total sum before l (m ∷ after) split goes lead t is =
    let read = line_read p.code before l (m ∷ after) split in
    let there : m.place ≡ l.next = first_line read.more p.code l.next m after read.rest in
    let next_split : lines p.code ≡ (before ++ l ∷ []) ++ m ∷ after = split ∙ sym (append_assoc before (l ∷ []) (m ∷ after)) in
    let at : insn_at p.code l.next ≡ Some (m.insn, m.next) =
    sym (ap (insn_at p.code) there) ∙ (line_read p.code (before ++ l ∷ []) m after next_split).read in
    let rules = rules_kept chunk n p s (before ++ l ∷ []) m after next_split in
    let leads = one_leads (is_capture m.insn) (leading after) more lead in
    subst (λ o. IsCaptured chunk z p fs total (captured o t (λ next u. captures p.code more next u))) (sym at)
    (one_captured count total t m.insn m.next (λ next u. captures p.code more next u) leads.0 rules.known rules.upvalue is
    (λ u is. all_captured n s more (count + 1) total (omega arith) (before ++ l ∷ []) m after next_split (capture_goes m.insn leads.0) leads.1 u is))

-- ---- the closure

abbrev pub one_function_more : Sizes → Sizes
one_function_more z = record { functions = z.functions + 1; cells = z.cells }

pub function_more : (z : Sizes) → AreMore z (one_function_more z)
function_more z = record { functions = omega arith; cells = omega arith }

pub with_function : {chunk : ChunkOf} {z : Sizes} {p : ProtoOf} {f : Frame} {fs : List Frame} {w : World} → (env : TableRef) (b : Body)
    → Setting chunk z p f fs w → IsBody chunk z b
    → Setting chunk (one_function_more z) p f fs (record w { objects = with_new_closure w.objects env b })
unfolding coroutine_of
with_function {chunk} {z} {p} {f} {fs} {w} env b s m =
    let y = one_function_more z in
    let more = function_more z in
    let i = s.world in
    let store = store_more z y more (store_of w) i.store in
    let waits = waits_more z y more i.waits in
    record {
      world = record {
        functions = omega (arith, length-append w.objects.bodies (b ∷ []), i.functions);
        environments = omega (arith, length-append (store_of w).closures (env ∷ []), i.environments);
        cells = i.cells;
        bodies =
            each_append (IsBody chunk y) w.objects.bodies (b ∷ [])
            (each_map (IsBody chunk z) (IsBody chunk y) (body_more z y more) w.objects.bodies i.bodies) (body_more z y more b m, tt);
        values = values_more z y more w.objects.cells i.values;
        store =
            record { shared = store.shared; tables = store.tables; coroutines = store.coroutines; some = store.some; running = store.running; main = store.main };
        waits = record { enough = waits.enough; each = waits.each; stacked = waits.stacked; dead = waits.dead };
        imports = λ p k. option_more (IsMade z.functions) (IsMade y.functions) (value_more z y more) (w.imports p k) (i.imports p k);
      };
      frame = frame_more z y more s.frame;
      below = s.below;
      waits = s.waits;
      stacked = stacked_more z y more chunk s.below fs s.stacked;
    }

pub makes_closure : {chunk : ChunkOf} {z : Sizes} {p : ProtoOf} {f : Frame} {fs : List Frame} {w : World} → Setting chunk z p f fs w
    → (c : ℕ) (q : ProtoOf) (o : Option (Taken × ℕ)) (to : ℕ)
    → proto_at chunk c ≡ Some q → IsCaptured chunk z p fs q.upvalues o → IsSafeMove chunk (closure c o to f fs w)
makes_closure {chunk} {z} {p} {f} {fs} {w} s c q o to at i =
    let t = i.found in
    let y = i.made.sizes in
    let env = environment_here f w in
    let b : Body = record { proto = c; cells = t.taken } in
    let count : length (store_of w).closures ≡ z.functions = s.world.environments in
    let made : length (store_of w).closures < y.functions + 1 = omega (arith, count, i.made.functions) in
    subst (λ o. IsSafeMove chunk (closure c o to f fs w)) (sym i.is)
    (gives (with_function env b i.made.setting (record { code = q; is = at; upvalues = i.made.many; cells = i.made.taken })) to (Closure (length (store_of w).closures)) i.behind made i.goes)
