-- What waits in the coroutines that do not run, and what its functions promise: to go on alike where they are given values, with fewer
-- turns left, or with as many where fewer coroutines have resumed each other. So what is promised is said by the numbers of both.
use Rattle.std.proofs.Common.{false, ◌≡◌, ◌≢◌, ℕ, zero, suc, ◌<◌, ◌≤◌, List, [], ◌∷◌, length, Option, Some, None, refl, sym, ap, ◌∙◌, subst, arith, ◌⊎◌, ⊎_elim, inl, inr}
use Rattle.std.specs.Prelude.{slice_index_or}
use Rattle.std.proofs.lemmas.Bool.{cases_eq}
use Rattle.byte_text.specs.declared.fixed.StrId.{StrId}
use Rattle.syntax_tree.specs.declared.tree.FuncBody.{FuncBody}
use Rattle.value_model.specs.declared.kind.CoStatus.{CoStatus}
use Rattle.value_model.specs.declared.kind.CoStatus.TheVariants.{Running, Normal, Dead}
use Rattle.value_model.specs.Values.{Value}
use Rattle.value_model.specs.Store.{CoroutineOf, here}
use Rattle.value_model.specs.CoroutineRows.{dead}
use Rattle.value_model.specs.Waits.{Wait, Runs, waiting}
use Rattle.source_meaning.specs.States as source
use Rattle.source_meaning.specs.Calls as source_calls
use Rattle.op_words.specs.Chunks.{ProtoOf}
use Rattle.machine_meaning.specs.States as machine
use Rattle.machine_meaning.specs.Calls as machine_calls
use Rattle.code_simulation.specs.Slots.{Tags}
use Rattle.code_simulation.specs.Relation.{Dyn, store_s, Keeps, Around, Setting, Code, FuncAlike, Base, Desc, AllRest, Ok}
use Rattle.code_simulation.proofs.Along.{Alike, Stands, bottom, function, other}
use Rattle.code_simulation.proofs.World.{fits_keep, ups_keep}

-- ---- those that have resumed each other

abbrev pub coroutine_at : List CoroutineOf → ℕ → CoroutineOf
coroutine_at cs i = slice_index_or cs i dead

abbrev pub Apart : ℕ → List ℕ → Type 0
Apart i [] = Unit {0}
Apart i (j ∷ js) = (j ≢ i) × Apart i js

-- From one coroutine on, each with the one that has resumed it behind it, up to the main function's own run, for which none stands. The
-- first one has this status, and the others are normal
abbrev pub Chain : List CoroutineOf → CoStatus → Option ℕ → List ℕ → Type 0
Chain cs status None [] = Unit {0}
Chain cs status None (j ∷ js) = ⊥
Chain cs status (Some i) [] = ⊥
Chain cs status (Some i) (j ∷ js) =
    (i ≡ j) × (i < length cs) × ((coroutine_at cs i).status ≡ status) × Apart i js × Chain cs Normal (coroutine_at cs i).resumer js

-- ---- what waits in a coroutine that does not run

-- what is promised of a function that waits there
abbrev pub Promise : Type 1
Promise = (co : ℕ) → List Wait → source.Activation → List source.Activation → machine.Frame → List machine.Frame → List Desc → Type 0

-- what waits, with its functions on both sides, for each of which the promise holds
pub data Stood (R : Promise) (co : ℕ) : List Wait → List source.Activation → List machine.Frame → List Desc → Type 0 where
  at_bottom : Stood R co [] [] [] []
  on_function : {c : ℕ} {ws : List Wait} {a : source.Activation} {fs : List source.Activation} {f : machine.Frame} {ms : List machine.Frame} {s : Desc}
      {ds : List Desc} → R co (Runs c ∷ ws) a fs f ms (s ∷ ds) → Stood R co ws fs ms ds → Stood R co (Runs c ∷ ws) (a ∷ fs) (f ∷ ms) (s ∷ ds)
  on_other : {w : Wait} {ws : List Wait} {fs : List source.Activation} {ms : List machine.Frame} {ds : List Desc}
      → source_calls.is_function (Some w) ≡ false → Stood R co ws fs ms ds → Stood R co (w ∷ ws) fs ms ds

pub record Waiter (R : Promise) (j : ℕ) (d : Dyn) : Type 0 where
  pub roots : List Desc
  pub rest : AllRest j d.tag roots
  pub stands : Stood R j (waiting d.script.waits j) (d.script.elsewhere j) (d.code.elsewhere j) roots

-- all coroutines, while one of them runs that these have resumed
pub record OtherCoroutines (R : Promise) (line : List ℕ) (co : ℕ) (d : Dyn) : Type 0 where
  pub enough : length (store_s d).coroutines ≤ length d.script.waits
  pub chain : Chain (store_s d).coroutines Running (store_s d).running line
  pub alive : (coroutine_at (store_s d).coroutines co).status ≢ Dead
  pub waiters : (j : ℕ) → j ≢ co → Waiter R j d
  pub empty : (j : ℕ) → j ≢ co → (coroutine_at (store_s d).coroutines j).status ≡ Dead → waiting d.script.waits j ≡ []

abbrev pub Depth : Promise → (depth co : ℕ) → Dyn → Type 0
Depth R depth co d = (line : List ℕ) × (length line ≡ depth) × OtherCoroutines R line co d

pub stood_map : {R S : Promise} {co : ℕ} {ws : List Wait} {fs : List source.Activation} {ms : List machine.Frame} {ds : List Desc}
    → ((ws : List Wait) (a : source.Activation) (fs : List source.Activation) (f : machine.Frame) (ms : List machine.Frame) (ds : List Desc)
    → R co ws a fs f ms ds → S co ws a fs f ms ds) → Stood R co ws fs ms ds → Stood S co ws fs ms ds
stood_map h at_bottom = at_bottom
stood_map h (on_function r s) = on_function (h _ _ _ _ _ _ r) (stood_map h s)
stood_map h (on_other e s) = on_other e (stood_map h s)

-- a change of the one that runs, and of its own cells
pub waiter_keep : {R : Promise} {co depth j : ℕ} {d d' : Dyn} → j ≢ co → Keeps co depth d.tag d'.tag
    → waiting d'.script.waits j ≡ waiting d.script.waits j → d'.script.elsewhere j ≡ d.script.elsewhere j
    → d'.code.elsewhere j ≡ d.code.elsewhere j → Waiter R j d → Waiter R j d'
waiter_keep {R} {co} {depth} {j} {d} {d'} ne k waits script code w = record {
  roots = w.roots;
  rest = all_rest w.roots w.rest;
  stands =
      subst (λ ws. Stood R j ws (d'.script.elsewhere j) (d'.code.elsewhere j) w.roots) (sym waits)
      (subst (λ fs. Stood R j (waiting d.script.waits j) fs (d'.code.elsewhere j) w.roots) (sym script)
      (subst (λ ms. Stood R j (waiting d.script.waits j) (d.script.elsewhere j) ms w.roots) (sym code) w.stands));
}
  where
    all_rest : (ss : List Desc) → AllRest j d.tag ss → AllRest j d'.tag ss
    all_rest [] r = tt
    all_rest (s ∷ ss) r = (
      record {
        fits = fits_keep co depth d'.tag k (λ e e'. ne e) r.0.fits;
        clear = r.0.clear;
        alike = ups_keep d.tag d'.tag s.act.outer k.taken s.act.ups s.act.cells r.0.alike;
      },
      all_rest ss r.1,
    )

pub waiter_map : {R S : Promise} {j : ℕ} {d : Dyn}
    → ((ws : List Wait) (a : source.Activation) (fs : List source.Activation) (f : machine.Frame) (ms : List machine.Frame) (ds : List Desc)
    → R j ws a fs f ms ds → S j ws a fs f ms ds) → Waiter R j d → Waiter S j d
waiter_map h w = record { roots = w.roots; rest = w.rest; stands = stood_map h w.stands }

-- ---- the promises

-- (i, k) comes before (n, depth)
abbrev pub Before : (i k n depth : ℕ) → Type 0
Before i k n depth = (i < n) ⊎ ((i ≡ n) × (k < depth))

-- at most so many turns, and with that many at most so many coroutines that have resumed each other
abbrev pub Within : (most deep turns depth : ℕ) → Type 0
Within most deep turns depth = (turns ≤ most) × (turns ≡ most → depth ≤ deep)

-- the stores fit, whatever the other coroutines promise
pub record Placed (q : Setting) (co : ℕ) (ws : List Wait) (roots : List Desc) (d : Dyn) : Type 0 where
  pub base : Base q d
  pub running : here (store_s d) ≡ co
  pub room : co < length d.script.waits
  pub waits : waiting d.script.waits co ≡ ws
  pub rest : AllRest co d.tag roots

module _ (q : Setting) where
  -- a function goes on where it is given values, with just so many turns left, where this holds of the other coroutines
  abbrev pub Going : ℕ → ((co : ℕ) → Dyn → Type 0) → Promise
  Going n O co ws a fs f ms ds =
      (vs : List Value) (d : Dyn) → Placed q co ws ds d → O co d
      → Alike q n (source_calls.state_with (source.GiveAll vs) (a ∷ fs) d.script) (machine_calls.state_with (machine.GiveAll vs) (f ∷ ms) d.code)

  -- with so many turns left, where fewer have resumed each other, and as it was promised with fewer turns
  abbrev pub promised_with : (n : ℕ) → Promise → (depth : ℕ) → Promise
  promised_with n P zero = P
  promised_with n P (suc k) =
      λ co ws a fs f ms ds. promised_with n P k co ws a fs f ms ds × Going n (Depth (promised_with n P k) k) co ws a fs f ms ds

  abbrev pub promised_below : ℕ → Promise
  promised_below zero = λ co ws a fs f ms ds. Unit {0}
  promised_below (suc n) = λ co ws a fs f ms ds. (k : ℕ) → promised_with n (promised_below n) k co ws a fs f ms ds

  abbrev pub promised : (n depth : ℕ) → Promise
  promised n depth = promised_with n (promised_below n) depth

  module _ (co : ℕ) (ws : List Wait) (a : source.Activation) (fs : List source.Activation) (f : machine.Frame) (ms : List machine.Frame) (ds : List Desc) where
    abbrev Goes : (i k : ℕ) → Type 0
    Goes i k = Going i (Depth (promised i k) k) co ws a fs f ms ds

    with_base : (n depth : ℕ) (P : Promise) → promised_with n P depth co ws a fs f ms ds → P co ws a fs f ms ds
    with_base n zero P r = r
    with_base n (suc depth) P r = with_base n depth P r.0

    with_at : (n depth k : ℕ) (P : Promise) → k < depth → promised_with n P depth co ws a fs f ms ds
        → Going n (Depth (promised_with n P k) k) co ws a fs f ms ds
    with_at n zero k P lt r = absurd (omega (arith, lt))
    with_at n (suc depth) k P lt r =
        ⊎_elim
        (λ e. subst (λ k. Going n (Depth (promised_with n P k) k) co ws a fs f ms ds) (sym e) r.1)
        (λ ne. with_at n depth k P (omega (arith, lt, ne)) r.0)
        (cases_eq k depth)

    below_at : (n i k : ℕ) → i < n → promised_below n co ws a fs f ms ds → Goes i k
    below_at zero i k lt r = absurd (omega (arith, lt))
    below_at (suc n) i k lt r =
        ⊎_elim
        (λ e. subst (λ i. Goes i k) (sym e) (with_at n (suc k) k (promised_below n) (omega arith) (r (suc k))))
        (λ ne. below_at n i k (omega (arith, lt, ne)) (r zero))
        (cases_eq i n)

    -- what was promised holds with fewer turns, and with as many where fewer have resumed each other
    pub promise_at : (n depth i k : ℕ) → Before i k n depth → promised n depth co ws a fs f ms ds → Goes i k
    promise_at n depth i k (inl lt) r = below_at n i k lt (with_base n depth (promised_below n) r)
    promise_at n depth i k (inr b) r = subst (λ i. Goes i k) (sym b.0) (with_at n depth k (promised_below n) b.1 r)

    with_all : (n depth : ℕ) → promised_below n co ws a fs f ms ds → ((k : ℕ) → k < depth → Goes n k) → promised n depth co ws a fs f ms ds
    with_all n zero r go = r
    with_all n (suc depth) r go = (with_all n depth r (λ k lt. go k (omega (arith, lt))), go depth (omega arith))

    below_all : (n : ℕ) → ((i k : ℕ) → i < n → Goes i k) → promised_below n co ws a fs f ms ds
    below_all zero go = tt
    below_all (suc n) go =
        λ k. with_all n k (below_all n (λ i k lt. go i k (omega (arith, lt)))) (λ k lt. go n k (omega arith))

    -- and is that
    pub promise_all : (n depth : ℕ) → ((i k : ℕ) → Before i k n depth → Goes i k) → promised n depth co ws a fs f ms ds
    promise_all n depth go =
        with_all n depth (below_all n (λ i k lt. go i k (inl lt))) (λ k lt. go n k (inr (refl, lt)))

    pub promise_later : (n depth m k : ℕ) → ((i j : ℕ) → Before i j m k → Before i j n depth) → promised n depth co ws a fs f ms ds
        → promised m k co ws a fs f ms ds
    promise_later n depth m k le r = promise_all m k (λ i j b. promise_at n depth i j (le i j b) r)

  -- ---- the setting that is so bounded

  abbrev pub Others : (most deep turns co : ℕ) → Dyn → Type 0
  Others most deep turns co d = (depth : ℕ) × Within most deep turns depth × Depth (promised turns depth) depth co d

  pub coroutines_keep : {R : Promise} {line : List ℕ} {co depth : ℕ} {d d' : Dyn} → Keeps co depth d.tag d'.tag → Around co d d' → OtherCoroutines R line co d
      → OtherCoroutines R line co d'
  coroutines_keep {R} {line} {co} {depth} {d} {d'} k a c = record {
    enough = let e = ap length a.coroutines in omega (arith, e, c.enough, a.room);
    chain =
        subst (λ cs. Chain cs Running (store_s d').running line) (sym a.coroutines)
        (subst (λ r. Chain (store_s d).coroutines Running r line) (sym a.running) c.chain);
    alive = subst (λ cs. (coroutine_at cs co).status ≢ Dead) (sym a.coroutines) c.alive;
    waiters = λ j ne. waiter_keep {d = d} {d' = d'} ne k (a.waits j ne) (ap (λ m. m j) a.script) (ap (λ m. m j) a.code) (c.waiters j ne);
    empty = λ j ne e. a.waits j ne ∙ c.empty j ne (ap (λ cs. (coroutine_at cs j).status) (sym a.coroutines) ∙ e);
  }

  pub coroutines_map : {R S : Promise} {line : List ℕ} {co : ℕ} {d : Dyn}
      → ((j : ℕ) (ws : List Wait) (a : source.Activation) (fs : List source.Activation) (f : machine.Frame) (ms : List machine.Frame) (ds : List Desc)
      → R j ws a fs f ms ds → S j ws a fs f ms ds) → OtherCoroutines R line co d → OtherCoroutines S line co d
  coroutines_map h c =
      record { enough = c.enough; chain = c.chain; alive = c.alive; waiters = λ j ne. waiter_map (h j) (c.waiters j ne); empty = c.empty }

  pub others_later : (most deep fewer turns co : ℕ) (d : Dyn) → fewer ≤ turns → Others most deep turns co d → Others most deep fewer co d
  others_later most deep fewer turns co d le o = (
    o.0,
    (omega (arith, le, o.1.0), λ e. o.1.1 (omega (arith, le, e, o.1.0))),
    (
      o.2.0,
      o.2.1,
      coroutines_map (λ j ws a fs f ms ds r. promise_later j ws a fs f ms ds turns o.0 fewer o.0 (λ i k b. earlier i k b) r) o.2.2,
    ),
  )
    where
      earlier : (i k : ℕ) → Before i k fewer o.0 → Before i k turns o.0
      earlier i k (inl lt) = inl (omega (arith, lt, le))
      earlier i k (inr b) =
          ⊎_elim
          (λ e. inr (b.0 ∙ e, b.1))
          (λ ne. inl (omega (arith, b.0, le, ne)))
          (cases_eq fewer turns)

  abbrev pub setting : (most deep : ℕ) → Setting
  setting most deep = record {
    texts = q.texts;
    chunk = q.chunk;
    IsCode = q.IsCode;
    Others = Others most deep;
    others_keep = λ turns co depth d d' k a o. (o.0, o.1, (o.2.0, o.2.1, coroutines_keep k a o.2.2));
    others_later = others_later most deep;
  }

  -- ---- where the stores fit in the one they do in the other

  pub code_there : {most deep number : ℕ} {func : FuncBody} {outer : source.Environment} {ups : List StrId} {proto : ProtoOf}
      → Code q func number outer ups proto → Code (setting most deep) func number outer ups proto
  code_there c = record { found = c.found; params = c.params; vararg = c.vararg; upvalues = c.upvalues; code = c.code }

  code_here : {most deep number : ℕ} {func : FuncBody} {outer : source.Environment} {ups : List StrId} {proto : ProtoOf}
      → Code (setting most deep) func number outer ups proto → Code q func number outer ups proto
  code_here c = record { found = c.found; params = c.params; vararg = c.vararg; upvalues = c.upvalues; code = c.code }

  func_there : {most deep : ℕ} {tag : Tags} {f : source.Body} {m : machine.Body} → FuncAlike q tag f m → FuncAlike (setting most deep) tag f m
  func_there a = record { ups = a.ups; proto = a.proto; coded = code_there a.coded; alike = a.alike }

  func_here : {most deep : ℕ} {tag : Tags} {f : source.Body} {m : machine.Body} → FuncAlike (setting most deep) tag f m → FuncAlike q tag f m
  func_here a = record { ups = a.ups; proto = a.proto; coded = code_here a.coded; alike = a.alike }

  pub base_there : {most deep : ℕ} {d : Dyn} → Base q d → Base (setting most deep) d
  base_there b = record {
    store = b.store;
    waits = b.waits;
    replies = b.replies;
    safe = b.safe;
    cells = b.cells;
    taken = b.taken;
    once = b.once;
    made = b.made;
    alike = λ i f e. let r = b.alike i f e in (r.0, r.1, func_there r.2);
  }

  pub base_here : {most deep : ℕ} {d : Dyn} → Base (setting most deep) d → Base q d
  base_here b = record {
    store = b.store;
    waits = b.waits;
    replies = b.replies;
    safe = b.safe;
    cells = b.cells;
    taken = b.taken;
    once = b.once;
    made = b.made;
    alike = λ i f e. let r = b.alike i f e in (r.0, r.1, func_here r.2);
  }

  pub placed : {most deep turns co : ℕ} {ws : List Wait} {roots : List Desc} {d : Dyn} → Ok (setting most deep) turns co ws roots d
      → Placed q co ws roots d
  placed o = record { base = base_here o.base; running = o.running; room = o.room; waits = o.waits; rest = o.rest }

  pub ok_placed : {most deep turns co : ℕ} {ws : List Wait} {roots : List Desc} {d : Dyn} → Placed q co ws roots d → Others most deep turns co d
      → Ok (setting most deep) turns co ws roots d
  ok_placed o others =
      record { base = base_there o.base; running = o.running; room = o.room; waits = o.waits; rest = o.rest; others = others }

  -- ---- functions that wait go on alike, so they promise it

  pub stood_of : {most deep left co : ℕ} {ws : List Wait} {fs : List source.Activation} {ms : List machine.Frame} {ds : List Desc} → (n depth : ℕ)
      → ((i k : ℕ) → Before i k n depth → (i ≤ left) × Within most deep i k) → Stands (setting most deep) left co ws fs ms ds
      → Stood (promised n depth) co ws fs ms ds
  stood_of n depth le bottom = at_bottom
  stood_of {most} {deep} {left} {co} n depth le (function {c = c} {ws = ws} {a = a} {fs = fs} {f = f} {ms = ms} {s = s} {ds = ds} go rest) =
      on_function
      (promise_all co (Runs c ∷ ws) a fs f ms (s ∷ ds) n depth
      (λ i k b vs d o depths. go i (le i k b).0 vs d (ok_placed o (k, (le i k b).1, depths))))
      (stood_of n depth le rest)
  stood_of n depth le (other e rest) = other_of e (stood_of n depth le rest)
    where
      other_of : {co : ℕ} {w : Wait} {ws : List Wait} {fs : List source.Activation} {ms : List machine.Frame} {ds : List Desc}
          → source_calls.is_function (Some w) ≡ false → Stood (promised n depth) co ws fs ms ds → Stood (promised n depth) co (w ∷ ws) fs ms ds
      other_of e s = on_other e s

  pub stands_of : {co n depth : ℕ} {ws : List Wait} {fs : List source.Activation} {ms : List machine.Frame} {ds : List Desc} → (most deep left : ℕ)
      → ((i k : ℕ) → i ≤ left → Within most deep i k → Before i k n depth) → Stood (promised n depth) co ws fs ms ds
      → Stands (setting most deep) left co ws fs ms ds
  stands_of most deep left le at_bottom = bottom
  stands_of {co} {n} {depth} most deep left le (on_function {c = c} {ws = ws} {a = a} {fs = fs} {f = f} {ms = ms} {s = s} {ds = ds} r rest) =
      function
      (λ i lt vs d o. promise_at co (Runs c ∷ ws) a fs f ms (s ∷ ds) n depth i o.others.0 (le i o.others.0 lt o.others.1) r vs d (placed o) o.others.2)
      (stands_of most deep left le rest)
  stands_of most deep left le (on_other e rest) = other e (stands_of most deep left le rest)
