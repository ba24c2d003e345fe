-- What holds with so many functions and cells holds with more.
use Rattle.std.proofs.Common.{ℕ, ◌<◌, ◌≤◌, List, [], ◌∷◌, length, arith}
use Rattle.value_model.specs.Values.{Value}
use Rattle.value_model.specs.Store.{TableOf, CoroutineOf, Store}
use Rattle.value_model.specs.Waits.{Wait, Runs, Protects, Guards, Handles, Resumes, Asks, Waits, waiting}
use Rattle.op_words.specs.Chunks.{ChunkOf, ProtoOf}
use Rattle.machine_meaning.specs.States.{Register, Val, Open, Purpose, Idle, Results, Into, Compares, Joins, Follows, Stores, Begins, Turns, Frame, Body}
use Rattle.checked_runs.specs.Safe.{Each, Sizes, IsMade, AreMade, IsEntry, IsTable, IsCoroutine, IsStore, IsRegister, IsFrame, Awaits, IsWaiting, AreStacked, IsWait, IsBody, AreWaits}
use Rattle.checked_runs.proofs.Elements.{each_map, made_more, are_made_more, option_more}

pub record AreMore (z y : Sizes) : Type 0 where
  pub functions : z.functions ≤ y.functions
  pub cells : z.cells ≤ y.cells

module _ (z y : Sizes) (more : AreMore z y) where
  pub value_more : (v : Value) → IsMade z.functions v → IsMade y.functions v
  value_more v i = made_more z.functions y.functions more.functions v i

  pub values_more : (vs : List Value) → AreMade z.functions vs → AreMade y.functions vs
  values_more vs i = are_made_more z.functions y.functions more.functions vs i

  pub cells_more : (cs : List ℕ) → Each (λ c. c < z.cells) cs → Each (λ c. c < y.cells) cs
  cells_more cs i = each_map (λ c. c < z.cells) (λ c. c < y.cells) (λ c l. let m = more.cells in omega arith) cs i

  register_more : (g : Register) → IsRegister z g → IsRegister y g
  register_more (Val v) i = value_more v i
  register_more (Open c) i = let m = more.cells in omega arith

  pub frame_more : {chunk : ChunkOf} {p : ProtoOf} {f : Frame} → IsFrame chunk z p f → IsFrame chunk y p f
  frame_more {chunk} {p} {f} i = record {
    code = i.code;
    size = i.size;
    upvalues = i.upvalues;
    cells = cells_more f.upvalues i.cells;
    closure = let m = more.functions in let c = i.closure in omega arith;
    varargs = values_more f.varargs i.varargs;
    registers = λ r. register_more (f.registers r) (i.registers r);
    stands = i.stands;
  }

  awaits_more : (p : ProtoOf) (place : ℕ) (q : Purpose) → Awaits p z.functions place q → Awaits p y.functions place q
  awaits_more p place Idle h = h
  awaits_more p place (Results to count next) h = h
  awaits_more p place (Into to next) h = h
  awaits_more p place (Compares b by next) h = h
  awaits_more p place (Joins us to next) h = (values_more us h.0, h.1, h.2)
  awaits_more p place (Follows xs to next) h = h
  awaits_more p place (Stores next) h = h
  awaits_more p place (Begins a by) h = h
  awaits_more p place (Turns a x by next) h = h

  pub waiting_more : {chunk : ChunkOf} (f : Frame) → IsWaiting chunk z f → IsWaiting chunk y f
  waiting_more f i = record { code = i.code; frame = frame_more i.frame; awaits = awaits_more i.code f.place f.purpose i.awaits }

  pub stacked_more : (chunk : ChunkOf) (ws : List Wait) (fs : List Frame) → AreStacked chunk z ws fs → AreStacked chunk y ws fs
  stacked_more chunk [] fs i = tt
  stacked_more chunk (Runs c ∷ ws) [] i = i
  stacked_more chunk (Runs c ∷ ws) (f ∷ fs) i = (i.0, waiting_more f i.1, stacked_more chunk ws fs i.2)
  stacked_more chunk (Protects ∷ ws) fs i = stacked_more chunk ws fs i
  stacked_more chunk (Guards h ∷ ws) fs i = stacked_more chunk ws fs i
  stacked_more chunk (Handles ∷ ws) fs i = stacked_more chunk ws fs i
  stacked_more chunk (Resumes b ∷ ws) fs i = stacked_more chunk ws fs i
  stacked_more chunk (Asks c ∷ ws) fs i = stacked_more chunk ws fs i

  pub body_more : {chunk : ChunkOf} (b : Body) → IsBody chunk z b → IsBody chunk y b
  body_more b i = record { code = i.code; is = i.is; upvalues = i.upvalues; cells = cells_more b.cells i.cells }

  wait_more : (w : Wait) → IsWait z.functions w → IsWait y.functions w
  wait_more (Runs c) i = let m = more.functions in omega arith
  wait_more (Guards h) i = value_more h i
  wait_more (Asks c) i = values_more c.arguments i
  wait_more w i = tt

  pub waits_more : {chunk : ChunkOf} {s : Store} {ws : Waits} {elsewhere : ℕ → List Frame} → AreWaits chunk z s ws elsewhere
      → AreWaits chunk y s ws elsewhere
  waits_more {chunk} {s} {ws} {elsewhere} i = record {
    enough = i.enough;
    each =
        each_map (Each (IsWait z.functions)) (Each (IsWait y.functions)) (λ l. each_map (IsWait z.functions) (IsWait y.functions) wait_more l) ws
        i.each;
    stacked = λ j e. stacked_more chunk (waiting ws j) (elsewhere j) (i.stacked j e);
    dead = λ j e d. stacked_more chunk (waiting ws j) [] (i.dead j e d);
  }

  table_more : (t : TableOf) → IsTable z.functions t → IsTable y.functions t
  table_more t i =
      each_map (IsEntry z.functions) (IsEntry y.functions) (λ e m. (value_more e.0 m.0, value_more e.1 m.1)) t.entries i

  coroutine_more : (count : ℕ) (c : CoroutineOf) → IsCoroutine z.functions count c → IsCoroutine y.functions count c
  coroutine_more count c i = record {
    body = value_more c.body i.body;
    resumer = i.resumer;
    failure = option_more (IsMade z.functions) (IsMade y.functions) value_more c.failure i.failure;
  }

  pub store_more : (s : Store) → IsStore z.functions s → IsStore y.functions s
  store_more s i = record {
    shared = each_map (IsTable z.functions) (IsTable y.functions) table_more s.shared i.shared;
    tables = each_map (IsTable z.functions) (IsTable y.functions) table_more s.tables i.tables;
    coroutines =
        each_map (IsCoroutine z.functions (length s.coroutines)) (IsCoroutine y.functions (length s.coroutines))
        (coroutine_more (length s.coroutines)) s.coroutines i.coroutines;
    some = i.some;
    running = i.running;
    main = i.main;
  }
