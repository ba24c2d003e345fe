-- What instructions are made of leads from safe states to safe states.
use Rattle.std.proofs.Common.{◌≡◌, refl, sym, ◌∙◌, ℕ, zero, suc, ◌+◌, ◌-◌, ◌<◌, ◌≤◌, ℤ, pos, ◌+ℤ◌, Bool, true, false, List, [], ◌∷◌, length, Option, Some, None, subst, arith}
use Rattle.std.specs.Prelude.{MatchOption}
use Rattle.value_model.specs.declared.builtin.Builtin.{Builtin}
use Rattle.value_model.specs.declared.operator.ArithOp.{ArithOp}
use Rattle.value_model.specs.declared.operator.CompareOp.{CompareOp}
use Rattle.value_model.specs.Values.{Value, Nil, Number, Text, Table, Bytes, is_true}
use Rattle.value_model.specs.Choices.{Index, Newindex, Arith, Compare, Concat, Length}
use Rattle.value_model.specs.Answers.{LibAnswer, Answers, PrintsLine, ErrsWith, RaisesValue, HaltsWith, CallsBack, Moves, OnEnvironment}
use Rattle.value_model.specs.Metamethods.{choose}
use Rattle.value_model.specs.Loops as loops
use Rattle.value_model.specs.Loops.{Bounds, Range, Refused, Halted, Iteration, Generates, CallsIter, NotIterable}
use Rattle.value_model.specs.Library.{lib}
use Rattle.op_words.specs.declared.insn.Insn.{Insn}
use Rattle.op_words.specs.declared.insn.Insn.TheVariants.{Call}
use Rattle.op_words.specs.Chunks.{ChunkOf, ProtoOf}
use Rattle.machine_meaning.specs.States.{Purpose, Idle, Results, Into, Compares, Joins, Follows, Stores, Begins, Turns, Frame, World, Inside, ended, set, set_all, adjusted}
use Rattle.machine_meaning.specs.Moves.{inside, store_of, environment_here, first, rest, settle, jump, jump_back, return_to, branch}
use Rattle.machine_meaning.specs.Effects.{index, newindex, calculate, compare, decided, follow, import_of, list_from, call, deliver, results, numbered, under, finished, answered, fast, with_bounds, begun, prepared, back, again, added, with_generator, iterated, ask, turned, join, follow_names, agrees, receive}
use Rattle.checked_runs.specs.Places.{IsPlace, LeadsTo, LeadsOn, LeadsBack}
use Rattle.checked_runs.specs.Safe.{Sizes, IsMade, AreMade, Awaits, IsSafeMove, is_some_value}
use Rattle.checked_runs.specs.Keeps.{Keeps, LibraryKeeps, AnswerStays}
use Rattle.checked_runs.proofs.Settings.{Setting, frame_ended, with_frame, active, goes, faults, value_made, values_made, adjusted_made, first_made, rest_made, set_keeps, set_all_keeps, set_place, set_all_place, gives}
use Rattle.checked_runs.proofs.Outcomes.{setting_kept, waiting_frame, settled}
use Rattle.checked_runs.proofs.Operations.{choose_made, keeps_itself}

module _ {chunk : ChunkOf} {z : Sizes} {p : ProtoOf} {f : Frame} {fs : List Frame} {w : World} (s : Setting chunk z p f fs w) where
  -- ---- jumps

  pub jumps : (place : ℕ) (by : ℤ) → LeadsOn p place by → IsSafeMove chunk (jump by place f fs w)
  jumps place by l = subst (λ b. IsSafeMove chunk (jump b place f fs w)) (sym l.is) (goes s (place + 1 + l.words) l.stands)

  pub branches : (b : Bool) (by : ℤ) (next : ℕ) → LeadsOn p f.place by → IsPlace p next → IsSafeMove chunk (branch b by next f fs w)
  branches true by next l i = jumps f.place by l
  branches false by next l i = goes s next i

  pub jumps_back : (by : ℤ) → LeadsTo p f.place by → IsSafeMove chunk (jump_back (pos (f.place + 1) +ℤ by) f fs w)
  jumps_back by l = subst (λ b. IsSafeMove chunk (jump_back b f fs w)) (sym l.is) (goes s l.target l.stands)

  pub goes_back : (by : ℤ) → LeadsTo p f.place by → IsSafeMove chunk (back by f fs w)
  goes_back by l = subst (λ b. IsSafeMove chunk (return_to b f fs w)) (sym l.is) (goes s l.target l.stands)

  -- ---- operations

  pub indexes : (base key : Value) (to next : ℕ) → IsMade z.functions base → IsMade z.functions key → to < p.registers → IsPlace p next
      → IsSafeMove chunk (index base key to next f fs w)
  indexes base key to next i j r h = settled _ (Into to next) s (choose_made z.functions (store_of w) (Index base key) s.world.store (i, j)) (r, h)

  pub newindexes : (base key v : Value) (next : ℕ) → IsMade z.functions base → IsMade z.functions key → IsMade z.functions v → IsPlace p next
      → IsSafeMove chunk (newindex base key v next f fs w)
  newindexes base key v next i j k h =
      settled _ (Stores next) s (choose_made z.functions (store_of w) (Newindex base key v) s.world.store (i, j, k)) h

  pub calculates : (o : ArithOp) (v u : Value) (to next : ℕ) → IsMade z.functions v → IsMade z.functions u → to < p.registers → IsPlace p next
      → IsSafeMove chunk (calculate o v u to next f fs w)
  calculates o v u to next i j r h = settled _ (Into to next) s (choose_made z.functions (store_of w) (Arith o v u) s.world.store (i, j)) (r, h)

  pub compares : (o : CompareOp) (v u : Value) (b : Bool) (by : ℤ) (next : ℕ) → IsMade z.functions v → IsMade z.functions u → LeadsOn p f.place by
      → IsPlace p next
      → IsSafeMove chunk (compare o v u b by next f fs w)
  compares o v u b by next i j l h =
      settled _ (Compares b by next) s (choose_made z.functions (store_of w) (Compare o v u) s.world.store (i, j)) (l, h)

  pub measures : (v : Value) (to next : ℕ) → IsMade z.functions v → to < p.registers → IsPlace p next
      → IsSafeMove chunk (settle (choose (Length v) (store_of w)) (Into to next) f fs w)
  measures v to next i r h = settled _ (Into to next) s (choose_made z.functions (store_of w) (Length v) s.world.store i) (r, h)

  pub decides : (b : Bool) (v u : Value) (to next : ℕ) → IsMade z.functions v → IsMade z.functions u → IsPlace p next
      → IsSafeMove chunk (decided b v u to next f fs w)
  decides true v u to next i j h = gives s to v next i h
  decides false v u to next i j h = gives s to u next j h

  pub joins : (vs : List Value) (to next : ℕ) → AreMade z.functions vs → is_some_value vs ≡ true → to < p.registers → IsPlace p next
      → IsSafeMove chunk (join vs to next f fs w)
  joins [] to next i e r h = absurd cc
  joins (v ∷ []) to next i e r h = gives s to v next i.0 h
  joins (v ∷ u ∷ vs) to next i e r h =
      settled _ (Joins vs to next) s (choose_made z.functions (store_of w) (Concat u v) s.world.store (i.1.0, i.0)) (i.1.1, r, h)

  pub follows_names : (base : Value) (names : List Bytes) (to next : ℕ) → IsMade z.functions base → length names ≤ 3 → to < p.registers → IsPlace p next
      → IsSafeMove chunk (follow_names base names to next f fs w)
  follows_names base [] to next i few r h = gives s to base next i h
  follows_names base (x ∷ xs) to next i few r h =
      settled _ (Follows xs to next) s (choose_made z.functions (store_of w) (Index base (Text x)) s.world.store (i, tt)) (omega (arith, few), r, h)

  pub follows : (base : Value) (names : Option (List Bytes)) (xs : List Bytes) (to next : ℕ) → names ≡ Some xs → IsMade z.functions base
      → length xs ≤ 3 → to < p.registers → IsPlace p next → IsSafeMove chunk (follow base names to next f fs w)
  follows base None xs to next e i few r h = absurd cc
  follows base (Some names) xs to next e i few r h =
      let same : names ≡ xs = cc in
      record {
        sizes = z;
        world = s.world;
        doing = (i, active (λ p f. (length names ≤ 3) × (to < p.registers) × IsPlace p next) s (subst (λ ns. length ns ≤ 3) (sym same) few, r, h));
      }

  pub imports : (b : Bool) (v : Option Value) (names : Option (List Bytes)) (xs : List Bytes) (to next : ℕ)
      → MatchOption v (Unit {0}) (IsMade z.functions) → names ≡ Some xs → length xs ≤ 3 → to < p.registers → IsPlace p next
      → IsSafeMove chunk (import_of b v names to next f fs w)
  imports true (Some v) names xs to next i e few r h = gives s to v next i h
  imports true None names xs to next i e few r h = follows (Table (environment_here f w)) names xs to next e tt few r h
  imports false v names xs to next i e few r h = follows (Table (environment_here f w)) names xs to next e tt few r h

  -- ---- lists and calls

  pub list_made : (count from : ℕ) → AreMade z.functions (list_from count from f w)
  list_made zero from = values_made s from (f.top - from)
  list_made (suc n) from = values_made s from n

  pub calls : (base arguments count next : ℕ) → base < p.registers → IsPlace p next → IsSafeMove chunk (call base arguments count next f fs w)
  calls base arguments count next r h = record {
    sizes = z;
    world = s.world;
    doing = (value_made s base, list_made arguments (base + 1), waiting_frame s (Results base count next) (r, h));
  }

  pub delivers : (to next : ℕ) (vs : List Value) → AreMade z.functions vs → IsPlace p next → IsSafeMove chunk (deliver to next vs f fs w)
  delivers to next vs i h =
      let t = set_all_keeps to vs (inside f w) fs s i in
      let g = (set_all to vs (inside f w)).frame in
      goes (with_frame (ended (to + length vs) g) t (frame_ended (to + length vs) t.frame) refl) next h

  pub gives_results : (to count next : ℕ) (vs : List Value) → AreMade z.functions vs → IsPlace p next
      → IsSafeMove chunk (results to count next vs f fs w)
  gives_results to zero next vs i h = delivers to next vs i h
  gives_results to (suc n) next vs i h = delivers to next (adjusted n vs) (adjusted_made z.functions n vs i) h

  -- ---- loops

  bounds_kept : (a : ℕ) (i l st : ℤ) → Setting chunk z p (with_bounds a i l st (inside f w)).frame fs (with_bounds a i l st (inside f w)).world
  bounds_kept a i l st =
      let one = set a (Number l) (inside f w) in
      let two = set (a + 1) (Number st) one in
      set_keeps (a + 2) (Number i) two fs (set_keeps (a + 1) (Number st) one fs (set_keeps a (Number l) (inside f w) fs s tt) tt) tt

  bounds_place : (a : ℕ) (i l st : ℤ) → (with_bounds a i l st (inside f w)).frame.place ≡ f.place
  bounds_place a i l st =
      let one = set a (Number l) (inside f w) in
      let two = set (a + 1) (Number st) one in
      set_place (a + 2) (Number i) two ∙ set_place (a + 1) (Number st) one ∙ set_place a (Number l) (inside f w)

  generator_kept : (a : ℕ) (g u c : Value) → IsMade z.functions g → IsMade z.functions u → IsMade z.functions c
      → Setting chunk z p (with_generator a g u c (inside f w)).frame fs (with_generator a g u c (inside f w)).world
  generator_kept a g u c i j k =
      let one = set a g (inside f w) in
      let two = set (a + 1) u one in
      set_keeps (a + 2) c two fs (set_keeps (a + 1) u one fs (set_keeps a g (inside f w) fs s i) j) k

-- ---- what holds of the code that goes on behind writes

module _ {chunk : ChunkOf} {z : Sizes} {p : ProtoOf} {f : Frame} {fs : List Frame} {w : World} (s : Setting chunk z p f fs w) where
  begins : (b : Bool) (i : Inside) (by : ℤ) (next : ℕ) → Setting chunk z p i.frame fs i.world → LeadsOn p i.frame.place by → IsPlace p next
      → IsSafeMove chunk (begun b by next i.frame fs i.world)
  begins true i by next t l h = goes t next h
  begins false i by next t l h = jumps t i.frame.place by l

  pub prepares : (b : Bounds) (a : ℕ) (by : ℤ) (next : ℕ) → LeadsOn p f.place by → IsPlace p next → IsSafeMove chunk (prepared b a by next f fs w)
  prepares (Range i l st) a by next j h =
      begins (loops.goes_on i l st) (with_bounds a i l st (inside f w)) by next (bounds_kept s a i l st)
      (subst (λ q. LeadsOn p q by) (sym (bounds_place s a i l st)) j) h
  prepares (Refused e) a by next j h = faults s e
  prepares (Halted stop) a by next j h = λ e. absurd cc

  repeats : (b : Bool) (a : ℕ) (i l st : ℤ) (by : ℤ) (next : ℕ) → LeadsTo p f.place by → IsPlace p next
      → IsSafeMove chunk (again b a i l st by next f fs w)
  repeats true a i l st by next j h =
      goes_back (bounds_kept s a i l st) by (subst (λ q. LeadsTo p q by) (sym (bounds_place s a i l st)) j)
  repeats false a i l st by next j h = goes s next h

  pub adds : (b : Bounds) (a : ℕ) (by : ℤ) (next : ℕ) → LeadsTo p f.place by → IsPlace p next → IsSafeMove chunk (added b a by next f fs w)
  adds (Range i l st) a by next j h = repeats (loops.goes_on (i +ℤ st) l st) a (i +ℤ st) l st by next j h
  adds (Refused e) a by next j h = faults s e
  adds (Halted stop) a by next j h = λ e. absurd cc

  pub generates : (a : ℕ) (by : ℤ) (g u c : Value) → IsMade z.functions g → IsMade z.functions u → IsMade z.functions c → LeadsOn p f.place by
      → IsSafeMove chunk (iterated (Generates g u c) a by f fs w)
  generates a by g u c i j k l = jumps (generator_kept s a g u c i j k) f.place by l

  abbrev pub IterationIsMade : Iteration → Type 0
  IterationIsMade (Generates g u c) = IsMade z.functions g × IsMade z.functions u × IsMade z.functions c
  IterationIsMade (CallsIter g vs) = IsMade z.functions g × AreMade z.functions vs
  IterationIsMade (NotIterable e) = Unit {0}

  pub iterates : (i : Iteration) (a : ℕ) (by : ℤ) → IterationIsMade i → a + 2 < p.registers → LeadsOn p f.place by → IsSafeMove chunk (iterated i a by f fs w)
  iterates (Generates g u c) a by m r l = generates a by g u c m.0 m.1 m.2 l
  iterates (CallsIter g vs) a by m r l = record { sizes = z; world = s.world; doing = (m.0, m.1, waiting_frame s (Begins a by) (r, l)) }
  iterates (NotIterable e) a by m r l = faults s e

  pub asks_generator : (a x : ℕ) (by : ℤ) (next : ℕ) → a + (3 + x) ≤ p.registers → LeadsTo p f.place by → LeadsBack f.place by → IsPlace p next
      → IsSafeMove chunk (ask a x by next f fs w)
  asks_generator a x by next r l b h = record {
    sizes = z;
    world = s.world;
    doing = (value_made s a, (value_made s (a + 1), (value_made s (a + 2), tt)), waiting_frame s (Turns a x by next) (r, l, b, h));
  }

  turns_with : (v : Value) (vs : List Value) (a x : ℕ) (by : ℤ) → IsMade z.functions v → AreMade z.functions vs → LeadsTo p f.place by
      → IsSafeMove chunk (back by (set_all (a + 3) (adjusted x (v ∷ vs)) (set (a + 2) v (inside f w))).frame fs (set_all (a + 3) (adjusted x (v ∷ vs)) (set (a + 2) v (inside f w))).world)
  turns_with v vs a x by i j l =
      let one = set (a + 2) v (inside f w) in
      let place = set_all_place (a + 3) (adjusted x (v ∷ vs)) one ∙ set_place (a + 2) v (inside f w) in
      goes_back
      (set_all_keeps (a + 3) (adjusted x (v ∷ vs)) one fs (set_keeps (a + 2) v (inside f w) fs s i) (adjusted_made z.functions x (v ∷ vs) (i, j))) by
      (subst (λ q. LeadsTo p q by) (sym place) l)

  pub turns : (vs : List Value) (a x : ℕ) (by : ℤ) (next : ℕ) → AreMade z.functions vs → LeadsTo p f.place by → IsPlace p next
      → IsSafeMove chunk (turned vs a x by next f fs w)
  turns [] a x by next i l h = goes s next h
  turns (Nil ∷ vs) a x by next i l h = goes s next h
  turns (v ∷ vs) a x by next i l h = turns_with v vs a x by i.0 i.1 l

  -- ---- what an instruction waited for

  pub receives : (q : Purpose) (vs : List Value) → AreMade z.functions vs → Awaits p z.functions f.place q → IsSafeMove chunk (receive q vs f fs w)
  receives Idle vs i h = absurd h
  receives (Results to count next) vs i h = gives_results s to count next vs i h.1
  receives (Into to next) vs i h = gives s to (first vs) next (first_made z.functions vs i) h.1
  receives (Compares b by next) vs i h = branches s (agrees b (is_true (first vs))) by next h.0 h.1
  receives (Joins us to next) vs i h = record {
    sizes = z;
    world = s.world;
    doing = ((first_made z.functions vs i, h.0), refl, active (λ p f. (to < p.registers) × IsPlace p next) s (h.1, h.2));
  }
  receives (Follows xs to next) vs i h = record {
    sizes = z;
    world = s.world;
    doing = (first_made z.functions vs i, active (λ p f. (length xs ≤ 3) × (to < p.registers) × IsPlace p next) s h);
  }
  receives (Stores next) vs i h = goes s next h
  receives (Begins a by) vs i h =
      generates a by (first vs) (first (rest vs)) (first (rest (rest vs))) (first_made z.functions vs i)
      (first_made z.functions (rest vs) (rest_made z.functions vs i))
      (first_made z.functions (rest (rest vs)) (rest_made z.functions (rest vs) (rest_made z.functions vs i))) h.1
  receives (Turns a x by next) vs i h = turns vs a x by next i h.1 h.3

  -- ---- fast calls

  pub finishes : (c : Option (Insn × ℕ)) (base arguments count behind : ℕ) (vs : List Value) (next : ℕ) → c ≡ Some (Call base arguments count, behind)
      → AreMade z.functions vs → IsPlace p behind
      → IsSafeMove chunk (finished c vs next f fs w)
  finishes c base arguments count behind vs next e i h =
      subst (λ c. IsSafeMove chunk (finished c vs next f fs w)) (sym e) (gives_results s base count behind vs i h)

module _ {chunk : ChunkOf} {z : Sizes} {p : ProtoOf} {f : Frame} {fs : List Frame} {w : World} (s : Setting chunk z p f fs w) (c : Option (Insn × ℕ))
    (base arguments count behind next : ℕ) (e : c ≡ Some (Call base arguments count, behind)) (i : IsPlace p behind) (h : IsPlace p next) where
  answers : (a : LibAnswer) → AnswerStays z.functions (store_of w) a → IsSafeMove chunk (answered a c next f fs w)
  answers (Answers vs t) m =
      finishes (setting_kept t s (subst (λ t. Keeps z.functions (store_of w) t []) (sym m.1) (keeps_itself z.functions (store_of w) s.world.store))) c
      base arguments count behind vs next e m.0 i
  answers (PrintsLine line) m = goes s next h
  answers (ErrsWith x) m = goes s next h
  answers (RaisesValue v origin) m = goes s next h
  answers (HaltsWith stop) m = goes s next h
  answers (CallsBack g vs u) m = goes s next h
  answers (Moves m) n = goes s next h
  answers (OnEnvironment u) m = goes s next h

  pub calls_fast : LibraryKeeps → (b : Bool) (k : ℕ) (o : Option Builtin) (vs : List Value) → under numbered k ≡ o → AreMade z.functions vs
      → IsSafeMove chunk (fast b o vs c next f fs w)
  calls_fast library true k (Some b) vs n m = answers (lib b vs (store_of w)) (library.fast z.functions (store_of w) k b vs n s.world.store m)
  calls_fast library true k None vs n m = goes s next h
  calls_fast library false k o vs n m = goes s next h
