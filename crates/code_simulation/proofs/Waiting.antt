-- Where the function that runs operates, calls, raises or returns: what comes of it, whatever that is.
use Rattle.std.proofs.Common.{◌≡◌, ◌≢◌, ℕ, ◌<◌, ◌≤◌, List, [], ◌∷◌, length, Some, refl, sym, ap, ◌∙◌, arith, inl}
use Rattle.std.specs.Prelude.{replicate}
use Rattle.std.proofs.lemmas.List.{get_or-set_same, get_or-set_other, length-set}
use Rattle.value_model.specs.Values.{Value, Text}
use Rattle.value_model.specs.Errors.{RunError, error_text}
use Rattle.value_model.specs.Store.{Store, here}
use Rattle.value_model.specs.Waits.{Wait, Runs, Waits, waiting, with_waiting, first_of, rest_of, leave, innermost, Caller, ByLibrary}
use Rattle.value_model.specs.Choices.{Choice, Outcome, Done, CallThis, Errs, Halts}
use Rattle.source_meaning.specs.States as source
use Rattle.source_meaning.specs.Moves as source_moves
use Rattle.source_meaning.specs.Calls as source_calls
use Rattle.source_meaning.specs.Steps as source_steps
use Rattle.machine_meaning.specs.States as machine
use Rattle.machine_meaning.specs.Moves as machine_moves
use Rattle.machine_meaning.specs.Calls as machine_calls
use Rattle.machine_meaning.specs.Steps as machine_steps
use Rattle.code_simulation.specs.Slots.{Slot, Steady}
use Rattle.code_simulation.specs.Relation.{Dyn, store_s, store_m, stored, Setting, Desc, AllRest, Ok}
use Rattle.code_simulation.proofs.Along.{Alike, GivesOn, Stands, bottom, function, other, Invokes, Hands, Faults, Raises, CallsGo, File, Here, inside, frame, env_of, waits_here, source_at, Has, Receives}
use Rattle.code_simulation.proofs.Names.{steady_below, steady_on}
use Rattle.code_simulation.proofs.World.{keeps_all, go_down, come_back, trim, trimmed_own}
use Rattle.code_simulation.proofs.Changes.{store_changed}
use Rattle.code_simulation.proofs.Moving.{source_goes, target_goes, both_ask, both_end}

-- with fewer turns left the same functions go on
pub stands_later : {p : Setting} {left co : ℕ} {ws : List Wait} {fs : List source.Activation} {ms : List machine.Frame} {ds : List Desc} → (i : ℕ)
    → i ≤ left → Stands p left co ws fs ms ds → Stands p i co ws fs ms ds
stands_later i le bottom = bottom
stands_later i le (function go s) = function (λ j lt vs d o. go j (omega (arith, le, lt)) vs d o) (stands_later i le s)
stands_later i le (other e s) = other e (stands_later i le s)

-- ---- a function is left, and no longer waits

abbrev pub leaves : Dyn → Dyn
leaves d =
    record {
      tag = d.tag;
      script = record d.script { waits = leave d.script.waits (store_s d) };
      code = record d.code
          { waits = leave d.code.waits (store_m d) };
    }

-- what waits in a coroutine, where one less does
pub waiting_left : (ws : Waits) (s : Store) (co : ℕ) → here s ≡ co → co < length ws → waiting (leave ws s) co ≡ rest_of (waiting ws co)
waiting_left ws s co e lt =
    ap (λ n. waiting (with_waiting ws n (rest_of (waiting ws n))) co) e ∙ get_or-set_same ws co (rest_of (waiting ws co)) [] lt

pub waiting_others : (ws : Waits) (s : Store) (co j : ℕ) → here s ≡ co → j ≢ co → waiting (leave ws s) j ≡ waiting ws j
waiting_others ws s co j e ne =
    ap (λ n. waiting (with_waiting ws n (rest_of (waiting ws n))) j) e ∙ get_or-set_other ws co j (rest_of (waiting ws co)) [] ne

-- both leave the innermost that waits, and the function that it is
pub ok_leaves : {p : Setting} {turns co : ℕ} {w : Wait} {ws : List Wait} {ds ds' : List Desc} {d : Dyn} → AllRest co d.tag ds'
    → Ok p turns co (w ∷ ws) ds d → Ok p turns co ws ds' (leaves d)
ok_leaves {p} {turns} {co} {w} {ws} {ds} {ds'} {d} rest o = record {
  base = record {
    store = o.base.store;
    waits = ap (λ s. leave d.script.waits s) o.base.store ∙ ap (λ v. leave v (store_m d)) o.base.waits;
    replies = o.base.replies;
    safe = o.base.safe;
    cells = o.base.cells;
    taken = o.base.taken;
    once = o.base.once;
    made = o.base.made;
    alike = o.base.alike;
  };
  running = o.running;
  room = omega (arith, o.room, length-set d.script.waits (here (store_s d)) (rest_of (waiting d.script.waits (here (store_s d)))));
  waits = waiting_left d.script.waits (store_s d) co o.running o.room ∙ ap rest_of o.waits;
  rest = rest;
  others = p.others_keep turns co 0 d (leaves d) keeps_all (record {
    running = refl;
    coroutines = refl;
    waits = λ j ne. waiting_others d.script.waits
        (store_s d) co j o.running ne;
    room = omega (arith, length-set d.script.waits (here (store_s d)) (rest_of (waiting d.script.waits (here (store_s d)))));
    script = refl;
    code = refl;
  }) o.others;
}

-- what waits innermost, on the script's side and on the code's
pub innermost_s : {p : Setting} {turns co : ℕ} {w : Wait} {ws : List Wait} {ds : List Desc} {d : Dyn} → Ok p turns co (w ∷ ws) ds d
    → innermost d.script.waits (store_s d) ≡ Some w
innermost_s {d = d} o = ap (λ n. first_of (waiting d.script.waits n)) o.running ∙ ap first_of o.waits

pub innermost_m : {p : Setting} {turns co : ℕ} {w : Wait} {ws : List Wait} {ds : List Desc} {d : Dyn} → Ok p turns co (w ∷ ws) ds d
    → innermost d.code.waits (store_m d) ≡ Some w
innermost_m {d = d} o =
    ap (λ v. innermost v (store_m d)) (sym o.base.waits) ∙ ap (λ s. innermost d.script.waits s) (sym o.base.store) ∙ innermost_s o

module _ (p : Setting) (most : ℕ) (calls : (i : ℕ) → i ≤ most → CallsGo p i) where
  -- values are given to the function that waits innermost
  pub give_innermost : {left co c : ℕ} {ws : List Wait} {a : source.Activation} {fs : List source.Activation} {f : machine.Frame}
      {ms : List machine.Frame} {ds : List Desc} → (vs : List Value) (d : Dyn) → Ok p left co (Runs c ∷ ws) ds d
      → GivesOn p left co (Runs c ∷ ws) a fs f ms ds → Alike p left (source_calls.state_with (source.Hand vs) (a ∷ fs) d.script)
      (machine_calls.state_with (machine.Hand vs) (f ∷ ms) d.code)
  give_innermost {left} {co} {c} {ws} {a} {fs} {f} {ms} {ds} vs d o go =
      source_goes p (ap (λ x. source_calls.hand (source_calls.is_function x) vs (a ∷ fs) d.script) (innermost_s o))
      (target_goes p (ap (λ x. machine_calls.hand p.chunk (machine_calls.is_function x) vs (f ∷ ms) d.code) (innermost_m o))
      (go left (omega arith) vs d o))

  -- a raised value passes the function that waits innermost
  pub raise_past : {left co c : ℕ} {ws : List Wait} {fs : List source.Activation} {ms : List machine.Frame} {s : Desc} {ds : List Desc} → left ≤ most
      → (v : Value) (a : source.Activation) (f : machine.Frame) (d : Dyn) → Ok p left co (Runs c ∷ ws) (s ∷ ds) d → Stands p left co ws fs ms ds
      → Alike p left (source_calls.state_with (source.Raise v) (a ∷ fs) d.script) (machine_calls.state_with (machine.Raise v) (f ∷ ms) d.code)
  raise_past {left} {co} {c} {ws} {fs} {ms} {s} {ds} le v a f d o stands =
      source_goes p (ap (λ x. source_calls.raise (source_calls.is_function x) v (a ∷ fs) d.script) (innermost_s o))
      (target_goes p (ap (λ x. machine_calls.raise p.chunk (machine_calls.is_function x) v (f ∷ ms) d.code) (innermost_m o))
      (calls left le (Raises v) co ws fs ms ds (leaves d) (ok_leaves o.rest.1 o) stands))

  -- so does a run error of its own
  pub fault_past : {left co c : ℕ} {ws : List Wait} {fs : List source.Activation} {ms : List machine.Frame} {s : Desc} {ds : List Desc} → left ≤ most
      → (e : RunError) (a : source.Activation) (f : machine.Frame) (d : Dyn) → Ok p left co (Runs c ∷ ws) (s ∷ ds) d → Stands p left co ws fs ms ds
      → Alike p left (source_calls.state_with (source.Fault e) (a ∷ fs) d.script) (machine_calls.state_with (machine.Fault e) (f ∷ ms) d.code)
  fault_past le e a f d o stands =
      source_goes p refl (target_goes p refl (raise_past le (Text (error_text e)) a f d o stands))

  -- ---- the function that runs
  abbrev pub desc : Here p most → List Slot → File → Desc
  desc h l file = record { act = h.act; slots = l; registers = file.registers }

  abbrev pub activation : Here p most → List source.Frame → List Slot → source.Activation
  activation h k l = record { frames = k; env = env_of p most h l; closure = h.closure; varargs = h.varargs }

  -- its registers while it waits for a call
  abbrev pub saved_file : Here p most → File → File
  saved_file h file = record { registers = machine.trimmed h.proto.registers 0 file.registers; top = 0 }

  pub saved_holds : {n : ℕ} (h : Here p most) (l : List Slot) (d : Dyn) (file : File) → length l ≤ h.proto.registers → Has p most h n l d file
      → Has p most h n l d (saved_file h file)
  saved_holds h l d file room w = trim h.proto.registers 0 (λ r lt. inl (omega (arith, room, lt))) w

  pub saved_steady : (h : Here p most) (l : List Slot) (file : File) → length l ≤ h.proto.registers → Steady l file.registers (saved_file h file).registers
  saved_steady h l file room =
      steady_below l file.registers (saved_file h file).registers (λ r lt. trimmed_own h.proto.registers 0 file.registers r (omega (arith, room, lt)))

  -- where it goes on with what it is given, it stands among those that wait
  pub stands_here : (h : Here p most) (l : List Slot) (left i : ℕ) → left ≤ most → i ≤ left
      → (node : source.Node) (purpose : source.Purpose) (k : List source.Frame) (q : machine.Purpose) (place : ℕ) (file0 file : File)
      → Steady l file0.registers file.registers → Receives p most h left l file0.registers node purpose k q place
      → Stands p i h.co (waits_here p most h) (activation h (source.Awaits node purpose ∷ k) l ∷ h.below_s)
      (machine_moves.waits_for q (frame p most h place file) ∷ h.below_m) (desc h l file ∷ h.roots)
  stands_here h l left i le lt node purpose k q place file0 file steady go =
      function (λ j lt2 vs d o. go j (omega (arith, lt, lt2)) vs d file (come_back o) steady) (stands_later i (omega (arith, le, lt)) h.stands)

  -- a call, on both sides
  pub call_here : (by : Caller) (callee : Value) (vs : List Value) (h : Here p most) (l : List Slot) (left : ℕ) → left ≤ most
      → (node : source.Node) (purpose : source.Purpose) (k : List source.Frame) (q : machine.Purpose) (place : ℕ) (file0 file : File) (d : Dyn)
      → length l ≤ h.proto.registers → Has p most h left l d file → Steady l file0.registers file.registers
      → Receives p most h left l file0.registers node purpose k q place
      → Alike p left (source_at p most h (source.Invoke by callee vs) (source.Awaits node purpose ∷ k) (env_of p most h l) d)
      (machine_moves.state (machine.Invoke by callee vs) (machine_moves.saved q (frame p most h place file)) h.below_m d.code)
  call_here by callee vs h l left le node purpose k q place file0 file d room w steady go =
      calls left le (Invokes by callee vs) h.co (waits_here p most h) _ _ _ d (go_down (saved_holds h l d file room w))
      (stands_here h l left left le (omega arith) node purpose k q place file0 (saved_file h file) (steady_on l _ _ _ steady (saved_steady h l file room)) go)

  -- an operation whose outcome is chosen alike
  outcome_here : (o : Outcome) (n : ℕ) (look : source_moves.Look) (h : Here p most) (l : List Slot) (left : ℕ) → left ≤ most
      → (node : source.Node) (purpose : source.Purpose) (k : List source.Frame) (q : machine.Purpose) (place : ℕ) (file0 file : File) (d : Dyn)
      → length l ≤ h.proto.registers → Has p most h left l d file → Steady l file0.registers file.registers
      → Receives p most h left l file0.registers node purpose k q place → (s : source.State) (m : machine.State)
      → source_steps.step p.texts s ≡ source_moves.comes o (replicate n look) node purpose (inside p most h) k (env_of p most h l) d.script
      → machine_steps.step p.chunk m ≡ machine_moves.comes o (replicate n machine_moves.asked) q (frame p most h place file) h.below_m d.code
      → Alike p left s m
  outcome_here (Done v) n look h l left le node purpose k q place file0 file d room w steady go s m e f =
      both_ask p n look e f (go left (omega arith) (v ∷ []) d file w steady)
  outcome_here (CallThis g vs) n look h l left le node purpose k q place file0 file d room w steady go s m e f =
      both_ask p n look e f (call_here ByLibrary g vs h l left le node purpose k q place file0 file d room w steady go)
  outcome_here (Errs x) n look h l left le node purpose k q place file0 file d room w steady go s m e f =
      both_ask p n look e f
      (calls left le (Faults x) h.co (waits_here p most h) _ _ _ d (go_down w)
      (stands_here h l left left le (omega arith) node purpose k q place file0 file steady go))
  outcome_here (Halts x) n look h l left le node purpose k q place file0 file d room w steady go s m e f =
      both_end p n look e f

  -- A node and an instruction operate on the same values: whatever comes of it, a value, a metamethod's call, a run error or a stop
  pub settle_here : (c : Choice) (h : Here p most) (l : List Slot) (left : ℕ) → left ≤ most
      → (node : source.Node) (purpose : source.Purpose) (k : List source.Frame) (q : machine.Purpose) (place : ℕ) (file0 file : File) (d : Dyn)
      → c.store.running ≡ (store_s d).running → c.store.coroutines ≡ (store_s d).coroutines → length l ≤ h.proto.registers
      → Has p most h left l d file → Steady l file0.registers file.registers → Receives p most h left l file0.registers node purpose k q place
      → (s : source.State) (m : machine.State) → source_steps.step p.texts s ≡ source_moves.settle c node purpose (inside p most h) k
      (env_of p most h l) d.script → machine_steps.step p.chunk m ≡ machine_moves.settle c q (frame p most h place file) h.below_m d.code
      → Alike p left s m
  settle_here c h l left le node purpose k q place file0 file d running coroutines room w steady go s m e f =
      outcome_here c.outcome c.asked _ h l left le node purpose k q place file0 file (stored d c.store) room
      (store_changed c.store running coroutines w) steady go s m e f

  -- a run error of the node itself
  pub fault_here : (e : RunError) (h : Here p most) (l : List Slot) (left : ℕ) → left ≤ most
      → (k : List source.Frame) (q : machine.Purpose) (place : ℕ) (file : File) (d : Dyn) → Has p most h left l d file
      → Alike p left (source_at p most h (source.Fault e) k (env_of p most h l) d)
      (machine_moves.state (machine.Fault e) (machine_moves.waits_for q (frame p most h place file)) h.below_m d.code)
  fault_here e h l left le k q place file d w =
      fault_past le e (activation h k l) (machine_moves.waits_for q (frame p most h place file)) d (go_down w) (stands_later left le h.stands)

  -- the function is left with values
  pub return_here : (vs : List Value) (h : Here p most) (l : List Slot) (left : ℕ) → left ≤ most → (file : File) (d : Dyn)
      → Has p most h left l d file → (s : source.State) (m : machine.State)
      → source_steps.step p.texts s ≡ source_calls.hand_back vs h.below_s d.script
      → machine_steps.step p.chunk m ≡ machine_calls.hand_back vs h.below_m d.code → Alike p left s m
  return_here vs h l left le file d w s m e f =
      source_goes p e
      (target_goes p f
      (calls left le (Hands vs) h.co h.waits h.below_s h.below_m h.roots (leaves d) (ok_leaves w.ok.rest w.ok) (stands_later left le h.stands)))
