-- A call, values or an error lead from a safe state to a safe state.
use Rattle.std.proofs.Common.{◌≡◌, refl, sym, ap, ◌∙◌, ℕ, zero, suc, ◌<◌, Bool, true, false, List, [], ◌∷◌, length, take, Option, Some, None, arith, subst, nat_eq}
use Rattle.std.specs.Prelude.{MatchOption, slice_get, if◌then◌else◌}
use Rattle.std.proofs.lemmas.Bool.Decides.{nat_tests}
use Rattle.value_model.specs.declared.builtin.Builtin.TheVariants as builtin
use Rattle.value_model.specs.declared.event.EventKind.{EventKind}
use Rattle.value_model.specs.declared.event.Reply.{Reply}
use Rattle.value_model.specs.declared.kind.CoStatus.{CoStatus}
use Rattle.value_model.specs.declared.kind.CoStatus.TheVariants.{Running, Suspended, Normal, Dead}
use Rattle.value_model.specs.Values.{Value, Closure, Native, Thread}
use Rattle.value_model.specs.Store.{Store, here}
use Rattle.value_model.specs.CoroutineRows.{coroutine_of, with_coroutine}
use Rattle.value_model.specs.Waits.{Wait, Runs, Waits, waiting, await, Caller, ByScript, ByLibrary, Called, Given, Passed, Fails, Raises, Answer, Gives, Enters, Calls, Throws, Stops, Finishes, Dies, Waited, innermost}
use Rattle.value_model.specs.Waiting as deciding
use Rattle.value_model.specs.Waiting.{wait}
use Rattle.value_model.specs.Library.{lib}
use Rattle.op_words.specs.Chunks.{ChunkOf, ProtoOf}
use Rattle.machine_meaning.specs.Chunks.{proto_at}
use Rattle.machine_meaning.specs.WellFormed.{IsWellFormed}
use Rattle.machine_meaning.specs.States.{Register, Frame, Run, Invoke, Hand, Fault, Raise, Idle, Body, World, State, Val, filled}
use Rattle.machine_meaning.specs.Moves.{Step, store_of}
use Rattle.machine_meaning.specs.Calls.{state_with, varargs_of, begun, enter, is_dead, put, switched, to, entered, follows, world_after, decided, without_closed, asks, is_function}
use Rattle.checked_runs.specs.Safe.{Each, Sizes, IsMade, AreMade, IsRegister, IsBody, AreStacked, IsWorld, IsSafe, IsSafeMove}
use Rattle.checked_runs.specs.Keeps.{LibraryKeeps}
use Rattle.checked_runs.proofs.Elements.{each_at, each_take, each_drop}
use Rattle.checked_runs.proofs.Rules.{proto_sound}
use Rattle.checked_runs.proofs.Places.{start_place}
use Rattle.checked_runs.proofs.Waits.{with_waits, waits_here, those_here}
use Rattle.checked_runs.proofs.Settled.{IsSettled, stacked_left}
use Rattle.checked_runs.proofs.Deciding.{IsAnswer, IsWaited, is_closure, called_settled, given_settled, passed_settled}

pub same_place : (i : ℕ) → nat_eq i i ≡ true
same_place i = grind (arith, nat_tests)

pub safe_to : (chunk : ChunkOf) (b : Bool) (e : Option EventKind) (s : State) → IsSafe chunk s → IsSafeMove chunk (to b e s)
safe_to chunk true e s i = i
safe_to chunk false (Some e) s i = i
safe_to chunk false None s i = i

-- ---- a function is entered

filled_by : (z : Sizes) (v : Value) (b : Bool) (g : Register) → IsMade z.functions v → IsRegister z g → IsRegister z (if b then Val v else g)
filled_by z v true g i j = i
filled_by z v false g i j = j

filled_made : (z : Sizes) (vs : List Value) (r q : ℕ) → AreMade z.functions vs → IsRegister z (filled r vs q)
filled_made z [] r q m = tt
filled_made z (v ∷ vs) r q m = filled_by z v (nat_eq q r) (filled (suc r) vs q) m.0 (filled_made z vs (suc r) q m.1)

varargs_made : (n : ℕ) (b : Bool) (k : ℕ) (vs : List Value) → AreMade n vs → AreMade n (varargs_of b k vs)
varargs_made n false k vs m = tt
varargs_made n true k vs m = each_drop (IsMade n) k vs m

module _ {chunk : ChunkOf} (well : IsWellFormed chunk) {z : Sizes} where
  begins : {w : World} (fs : List Frame) → (o : Option ProtoOf) (b : Body) (f : ℕ) (vs : List Value) (rest : List Wait) (go : State → Step)
      → ((s : State) → IsSafe chunk s → IsSafeMove chunk (go s))
      → (is : IsBody chunk z b) → o ≡ Some is.code → f < z.functions → AreMade z.functions vs → IsWorld chunk z w
      → waiting w.waits (here (store_of w)) ≡ Runs f ∷ rest → AreStacked chunk z rest fs
      → IsSafeMove chunk (entered (begun o b f vs fs w) go)
  begins fs None b f vs rest go safe is e l m world waits stacked = absurd cc
  begins {w} fs (Some p) b f vs rest go safe is e l m world waits stacked =
      let same : is.code ≡ p = cc in
      let at : proto_at chunk b.proto ≡ Some p = is.is ∙ ap (λ p. Some p) same in
      let start = take p.params vs in
      let place = start_place chunk b.proto p (proto_sound chunk b.proto p well at) in
      let frame : Frame =
      record { closure = f; proto = b.proto; size = p.registers; upvalues = b.cells; varargs = varargs_of p.vararg p.params vs; place = 0; registers = filled 0 start; top = length start; purpose = Idle } in
      safe (state_with Run (frame ∷ fs) w) (record {
        sizes = z;
        world = world;
        doing = record {
          code = p;
          frame = frame;
          below = fs;
          functions = refl;
          rest = rest;
          waits = waits;
          is = record {
            code = at;
            size = refl;
            upvalues = is.upvalues ∙ ap (λ (p : ProtoOf). p.upvalues) same;
            cells = is.cells;
            closure = l;
            varargs = varargs_made z.functions p.vararg p.params vs m;
            registers = λ r. filled_made z start 0 r (each_take (IsMade z.functions) p.params vs m);
            stands = place;
          };
          stacked = stacked;
          holds = place;
        };
      })

  enters : {w : World} (fs : List Frame) → (f : ℕ) (vs : List Value) (rest : List Wait) (go : State → Step)
      → ((s : State) → IsSafe chunk s → IsSafeMove chunk (go s)) → f < z.functions → AreMade z.functions vs
      → IsWorld chunk z w → waiting w.waits (here (store_of w)) ≡ Runs f ∷ rest → AreStacked chunk z rest fs
      → (o : Option Body) → slice_get w.objects.bodies f ≡ o → IsSafeMove chunk (entered (enter chunk o f vs fs w) go)
  enters {w} fs f vs rest go safe l m world waits stacked None e =
      absurd (there w.objects.bodies f (let n = world.functions in omega arith) e)
    where
      there : (bs : List Body) (f : ℕ) → f < length bs → slice_get bs f ≡ None → ⊥
      there [] f l e = absurd (omega arith)
      there (b ∷ bs) zero l e = absurd cc
      there (b ∷ bs) (suc f) l e = there bs f (omega arith) e
  enters {w} fs f vs rest go safe l m world waits stacked (Some b) e =
      let is = each_at (IsBody chunk z) w.objects.bodies f b world.bodies e in
      begins fs (proto_at chunk b.proto) b f vs rest go safe is is.is l m world waits stacked

  calls_closure : {w : World} (fs : List Frame) → (by : Caller) (f : ℕ) (args : List Value) → f < z.functions → AreMade z.functions args
      → IsWorld chunk z w
      → AreStacked chunk z (waiting w.waits (here (store_of w))) fs → IsSafeMove chunk (asks chunk (Called by (Closure f) args) fs w)
  unfolding wait
  calls_closure {w} fs by f args l m world stacked =
      let s = store_of w in
      let rest = waiting w.waits (here s) in
      let a = deciding.charged (Enters f args) (await (Runs f) w.waits s) s in
      let next : World = world_after a w in
      let set = with_waits (Runs f ∷ rest) world (l, those_here world) in
      let in_next : IsWorld chunk z next = record {
        functions = set.functions;
        environments = set.environments;
        cells = set.cells;
        bodies = set.bodies;
        values = set.values;
        store = set.store;
        waits = set.waits;
        imports = set.imports;
      } in
      subst
      (λ (b : Bool). IsSafeMove chunk (follows chunk (Enters f args) (to true None) (switched b (here s) (here s) fs next).0 (switched b (here s) (here s) fs next).1))
      (sym (same_place (here s)))
      (enters fs f args rest (to true None) (safe_to chunk true None) l m in_next (waits_here (Runs f ∷ rest) world.store world.waits) stacked (slice_get w.objects.bodies f) refl)

-- ---- a decision

-- what a decision leaves as it is
pub record IsRest (chunk : ChunkOf) (z : Sizes) (w : World) : Type 0 where
  pub functions : length w.objects.bodies ≡ z.functions
  pub cells : length w.objects.cells ≡ z.cells
  pub bodies : Each (IsBody chunk z) w.objects.bodies
  pub values : AreMade z.functions w.objects.cells
  pub imports : (p k : ℕ) → MatchOption (w.imports p k) (Unit {0}) (IsMade z.functions)

pub rest_of_world : {chunk : ChunkOf} {z : Sizes} {w : World} → IsWorld chunk z w → IsRest chunk z w
rest_of_world i = record { functions = i.functions; cells = i.cells; bodies = i.bodies; values = i.values; imports = i.imports }

module _ {chunk : ChunkOf} {z : Sizes} where
  pub settled_world : {w : World} → (fs : List Frame) → IsWorld chunk z w → AreStacked chunk z (waiting w.waits (here (store_of w))) fs
      → IsSettled chunk z (store_of w) w.waits (put w.elsewhere (here (store_of w)) fs)
  settled_world {w} fs i st = record {
    store = i.store;
    environments = i.environments;
    enough = i.waits.enough;
    each = i.waits.each;
    stacked = λ j. by j (nat_eq j (here (store_of w))) refl;
    dead = i.waits.dead;
  }
    where
      by : (j : ℕ) (b : Bool) → nat_eq j (here (store_of w)) ≡ b → AreStacked chunk z (waiting w.waits j) (if b then fs else w.elsewhere j)
      by j true e = let same : here (store_of w) ≡ j = grind (arith, nat_tests) in subst (λ j. AreStacked chunk z (waiting w.waits j) fs) same st
      by j false e = i.waits.stacked j e

  safe_answer : (a : Answer) (b : Bool) (e : Option EventKind) (fs : List Frame) (w : World) → IsAnswer z.functions a → IsWorld chunk z w
      → AreStacked chunk z (waiting w.waits (here (store_of w))) fs
      → IsSafeMove chunk (follows chunk a (to b e) fs w)
  safe_answer (Gives vs) b e fs w m i st = safe_to chunk b e (state_with (Hand vs) fs w) (record { sizes = z; world = i; doing = (m, st) })
  safe_answer (Enters f vs) b e fs w m i st = absurd m
  safe_answer (Calls by f vs) b e fs w m i st =
      safe_to chunk b e (state_with (Invoke by f vs) fs w) (record { sizes = z; world = i; doing = (m.0, m.1, st) })
  safe_answer (Throws (Fails x)) b e fs w m i st =
      safe_to chunk b e (state_with (Fault x) fs w)
      (record { sizes = z; world = i; doing = stacked_left chunk z (waiting w.waits (here (store_of w))) fs st })
  safe_answer (Throws (Raises v origin)) b e fs w m i st =
      safe_to chunk b e (state_with (Raise v) fs w)
      (record { sizes = z; world = i; doing = (m, stacked_left chunk z (waiting w.waits (here (store_of w))) fs st) })
  safe_answer (Stops stop) b e fs w m i st = λ e. absurd cc
  safe_answer (Finishes vs) b e fs w m i st = λ e. absurd cc
  safe_answer (Dies v) b e fs w m i st = λ e. absurd cc

  world_of : (a : Waited) (w : World) (elsewhere : ℕ → List Frame) → IsRest chunk z w → (frames : ℕ → List Frame)
      → IsSettled chunk z a.store a.waits frames
      → ((j : ℕ) → nat_eq j (here a.store) ≡ false → AreStacked chunk z (waiting a.waits j) (elsewhere j))
      → IsWorld chunk z (record (world_after a w) { elsewhere = elsewhere })
  world_of a w elsewhere r frames i st = record {
    functions = r.functions;
    environments = i.environments;
    cells = r.cells;
    bodies = r.bodies;
    values = r.values;
    store = i.store;
    waits = record { enough = i.enough; each = i.each; stacked = st; dead = i.dead };
    imports = r.imports;
  }

  switches : (a : Waited) (fs : List Frame) (w : World) (from : ℕ) (b : Bool) → nat_eq from (here a.store) ≡ b → IsRest chunk z w
      → IsWaited chunk z (put w.elsewhere from fs) a
      → IsSafeMove chunk (follows chunk a.answer (to a.charged a.event) (switched b from (here a.store) fs (world_after a w)).0 (switched b from (here a.store) fs (world_after a w)).1)
  switches a fs w from true e r i =
      let same : here a.store ≡ from = grind (arith, nat_tests) in
      let mine : AreStacked chunk z (waiting a.waits from) fs =
      subst (λ (b : Bool). AreStacked chunk z (waiting a.waits from) (if b then fs else w.elsewhere from)) (same_place from) (i.settled.stacked from)
      in
      safe_answer a.answer a.charged a.event fs (world_after a w) i.answer
      (world_of a w w.elsewhere r (put w.elsewhere from fs) i.settled (λ j e. let other : nat_eq j from ≡ false = sym (ap (nat_eq j) same) ∙ e in subst (λ (b : Bool). AreStacked chunk z (waiting a.waits j) (if b then fs else w.elsewhere j)) other (i.settled.stacked j)))
      (subst (λ k. AreStacked chunk z (waiting a.waits k) fs) (sym same) mine)
  switches a fs w from false e r i =
      let next = here a.store in
      let other : nat_eq next from ≡ false = grind (arith, nat_tests) in
      let theirs : AreStacked chunk z (waiting a.waits next) (w.elsewhere next) =
      subst (λ (b : Bool). AreStacked chunk z (waiting a.waits next) (if b then fs else w.elsewhere next)) other (i.settled.stacked next) in
      safe_answer a.answer a.charged a.event (w.elsewhere next) (record (world_after a w) { elsewhere = put (put w.elsewhere from fs) next [] })
      i.answer
      (world_of a w (put (put w.elsewhere from fs) next []) r (put w.elsewhere from fs) i.settled (λ j e. subst (λ (b : Bool). AreStacked chunk z (waiting a.waits j) (if b then [] else put w.elsewhere from fs j)) (sym e) (i.settled.stacked j)))
      theirs

  pub decides : (a : Waited) (fs : List Frame) (w : World) → IsRest chunk z w → IsWaited chunk z (put w.elsewhere (here (store_of w)) fs) a
      → IsSafeMove chunk (decided chunk a fs w)
  decides a fs w r i = switches a fs w (here (store_of w)) (nat_eq (here (store_of w)) (here a.store)) refl r i

-- ---- a coroutine that a call closes

dead_stays : (o : Option Value) (k : ℕ) (ws : Waits) (s : Store) → here (deciding.close_dead o k ws s).store ≡ here s
unfolding with_coroutine
dead_stays (Some v) k ws s = refl
dead_stays None k ws s = refl

close_stays : (status : CoStatus) (k : ℕ) (ws : Waits) (s : Store) → here (deciding.close_by status k ws s).store ≡ here s
close_stays Running k ws s = refl
close_stays Normal k ws s = refl
close_stays Suspended k ws s = dead_stays (coroutine_of s k).failure k ws s
close_stays Dead k ws s = dead_stays (coroutine_of s k).failure k ws s

closing_stays : (by : Caller) (k : ℕ) (vs : List Value) (r : Option Reply) (ws : Waits) (s : Store)
    → here (deciding.called by (Native builtin.CoroutineClose) (Thread k ∷ vs) r ws s).store ≡ here s
unfolding lib
closing_stays ByLibrary k vs r ws s = refl
closing_stays ByScript k vs r ws s = close_stays (coroutine_of s k).status k ws s

module _ {chunk : ChunkOf} {z : Sizes} where
  refit : (a : Waited) (fs : List Frame) (elsewhere : ℕ → List Frame) (from k : ℕ) → here a.store ≡ from
      → is_dead (coroutine_of a.store k).status ≡ true → IsSettled chunk z a.store a.waits (put elsewhere from fs)
      → IsSettled chunk z a.store a.waits (put (put elsewhere k []) from fs)
  refit a fs elsewhere from k same dead i = record {
    store = i.store;
    environments = i.environments;
    enough = i.enough;
    each = i.each;
    stacked = λ j. by j (nat_eq j from) refl (i.stacked j) (nat_eq j k) refl;
    dead = i.dead;
  }
    where
      by : (j : ℕ) (b : Bool) → nat_eq j from ≡ b → AreStacked chunk z (waiting a.waits j) (if b then fs else elsewhere j) → (c : Bool)
          → nat_eq j k ≡ c
          → AreStacked chunk z (waiting a.waits j) (if b then fs else (if c then [] else elsewhere j))
      by j true e st c g = st
      by j false e st true g =
          let is : k ≡ j = grind (arith, nat_tests) in
          i.dead j (ap (nat_eq j) same ∙ e) (sym (ap (λ k. is_dead (coroutine_of a.store k).status) is) ∙ dead)
      by j false e st false g = st

  closes_by : (a : Waited) (fs : List Frame) (w : World) (k : ℕ) (b : Bool) → is_dead (coroutine_of a.store k).status ≡ b
      → here a.store ≡ here (store_of w) → IsRest chunk z w
      → IsWaited chunk z (put w.elsewhere (here (store_of w)) fs) a
      → IsSafeMove chunk (decided chunk a fs (if b then record w { elsewhere = put w.elsewhere k [] } else w))
  closes_by a fs w k true dead same r i =
      decides a fs (record w { elsewhere = put w.elsewhere k [] })
      (record { functions = r.functions; cells = r.cells; bodies = r.bodies; values = r.values; imports = r.imports })
      (record { answer = i.answer; settled = refit a fs w.elsewhere (here (store_of w)) k same dead i.settled })
  closes_by a fs w k false dead same r i = decides a fs w r i

  closes_or : (by : Caller) (f : Value) (args : List Value) (r : Option Reply) (a : Waited) (fs : List Frame) (w : World)
      → ((k : ℕ) (vs : List Value) → f ≡ Native builtin.CoroutineClose → args ≡ Thread k ∷ vs → here a.store ≡ here (store_of w)) → IsRest chunk z w
      → IsWaited chunk z (put w.elsewhere (here (store_of w)) fs) a
      → IsSafeMove chunk (decided chunk a fs (without_closed (Called by f args) a.store w))
  closes_or by (Native builtin.CoroutineClose) (Thread k ∷ vs) r a fs w stays rest i =
      closes_by a fs w k (is_dead (coroutine_of a.store k).status) refl (stays k vs refl refl) rest i
  closes_or by f args r a fs w stays rest i = decides a fs w rest i

module _ {chunk : ChunkOf} (well : IsWellFormed chunk) (library : LibraryKeeps) {z : Sizes} where
  calls_other : {w : World} (fs : List Frame) → (by : Caller) (f : Value) (args : List Value) → is_closure f ≡ false → IsMade z.functions f
      → AreMade z.functions args → IsWorld chunk z w
      → AreStacked chunk z (waiting w.waits (here (store_of w))) fs → IsSafeMove chunk (asks chunk (Called by f args) fs w)
  unfolding wait
  calls_other {w} fs by f args e m n i st =
      let r = slice_get w.replies 0 in
      let s = store_of w in
      closes_or by f args r (deciding.called by f args r w.waits s) fs w
      (λ k vs g h. ap (λ f. here (deciding.called by f args r w.waits s).store) g ∙ ap (λ args. here (deciding.called by (Native builtin.CoroutineClose) args r w.waits s).store) h ∙ closing_stays by k vs r w.waits s)
      (rest_of_world i) (called_settled library (settled_world fs i st) by f args r e m n)

  pub calls_value : {w : World} (fs : List Frame) → (by : Caller) (f : Value) (args : List Value) → IsMade z.functions f → AreMade z.functions args
      → IsWorld chunk z w
      → AreStacked chunk z (waiting w.waits (here (store_of w))) fs → IsSafeMove chunk (asks chunk (Called by f args) fs w)
  calls_value fs by (Closure f) args m n i st = calls_closure well fs by f args m n i st
  calls_value fs by f args m n i st = calls_other fs by f args refl m n i st

  pub gives_values : {w : World} (fs : List Frame) → (vs : List Value) → AreMade z.functions vs → IsWorld chunk z w
      → AreStacked chunk z (waiting w.waits (here (store_of w))) fs
      → IsSafeMove chunk (asks chunk (Given vs) fs w)
  unfolding wait
  gives_values {w} fs vs m i st =
      let l = waiting w.waits (here (store_of w)) in
      decides (deciding.given l vs w.waits (store_of w)) fs w (rest_of_world i) (given_settled library (settled_world fs i st) l vs refl m)

  pub passes_error : {w : World} (fs : List Frame) → (v : Value) → IsMade z.functions v → is_function (innermost w.waits (store_of w)) ≡ false
      → IsWorld chunk z w
      → AreStacked chunk z (waiting w.waits (here (store_of w))) fs → IsSafeMove chunk (asks chunk (Passed v) fs w)
  unfolding wait
  passes_error {w} fs v m e i st =
      let l = waiting w.waits (here (store_of w)) in
      decides (deciding.passed l v w.waits (store_of w)) fs w (rest_of_world i) (passed_settled library (settled_world fs i st) l v refl e m)
