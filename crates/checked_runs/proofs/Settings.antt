-- The function that runs in a safe state, and what an instruction does to it.
use Rattle.std.proofs.Common.{◌≡◌, refl, sym, ap, ◌∙◌, ℕ, zero, suc, Bool, true, false, List, [], ◌∷◌, length, set, subst, nat_eq, nat_lt, length-set}
use Rattle.std.specs.Prelude.{if◌then◌else◌}
use Rattle.value_model.specs.Values.{Value, Nil}
use Rattle.value_model.specs.Errors.{RunError}
use Rattle.value_model.specs.Store.{here}
use Rattle.value_model.specs.Waits.{Wait, Runs, waiting}
use Rattle.op_words.specs.Chunks.{ChunkOf, ProtoOf}
use Rattle.machine_meaning.specs.States as states
use Rattle.machine_meaning.specs.States.{Register, Registers, Val, Open, Purpose, Idle, Frame, Focus, Run, GiveAll, Invoke, Fault, World, Inside, put, trimmed, ended, held, value_in, values_in, with_cells, write, adjusted, closed}
use Rattle.machine_meaning.specs.Moves.{state, at, inside, give, store_of, first, rest}
use Rattle.checked_runs.specs.Places.{IsPlace}
use Rattle.checked_runs.specs.Safe.{Sizes, IsMade, AreMade, IsRegister, IsFrame, AreStacked, AreLeft, IsWorld, IsActive, IsSafe, IsSafeMove}
use Rattle.checked_runs.proofs.Elements.{each_or, each_set}

-- the function that runs, those that wait below it, and what all share
pub record Setting (chunk : ChunkOf) (z : Sizes) (p : ProtoOf) (f : Frame) (fs : List Frame) (w : World) : Type 0 where
  pub world : IsWorld chunk z w
  pub frame : IsFrame chunk z p f
  pub below : List Wait
  pub waits : waiting w.waits (here (store_of w)) ≡ Runs f.closure ∷ below
  pub stacked : AreStacked chunk z below fs

-- ---- frames

pub frame_at : {chunk : ChunkOf} {z : Sizes} {p : ProtoOf} {f : Frame} → (place : ℕ) (q : Purpose) → IsFrame chunk z p f
    → IsPlace p place → IsFrame chunk z p (record f { place = place; purpose = q })
frame_at place q i here =
    record { code = i.code; size = i.size; upvalues = i.upvalues; cells = i.cells; closure = i.closure; varargs = i.varargs; registers = i.registers; stands = here }

pub with_registers : {chunk : ChunkOf} {z : Sizes} {p : ProtoOf} {f : Frame} → (regs : Registers) (top : ℕ) → ((r : ℕ) → IsRegister z (regs r))
    → IsFrame chunk z p f
    → IsFrame chunk z p (record f { registers = regs; top = top })
with_registers regs top are i =
    record { code = i.code; size = i.size; upvalues = i.upvalues; cells = i.cells; closure = i.closure; varargs = i.varargs; registers = are; stands = i.stands }

chosen : (z : Sizes) (b : Bool) (g h : Register) → IsRegister z g → IsRegister z h → IsRegister z (if b then g else h)
chosen z true g h i j = i
chosen z false g h i j = j

trimmed_are : (z : Sizes) (size top : ℕ) (regs : Registers) → ((r : ℕ) → IsRegister z (regs r)) → (r : ℕ) → IsRegister z (trimmed size top regs r)
trimmed_are z size top regs are r =
    chosen z (nat_lt r size) (regs r) _ (are r) (chosen z (nat_lt r top) (regs r) (Val Nil) (are r) tt)

pub frame_ended : {chunk : ChunkOf} {z : Sizes} {p : ProtoOf} {f : Frame} → (top : ℕ) → IsFrame chunk z p f → IsFrame chunk z p (ended top f)
frame_ended {chunk} {z} {p} {f} top i = with_registers (trimmed f.size top f.registers) top (trimmed_are z f.size top f.registers i.registers) i

-- ---- values, and writes to registers

pub held_made : {chunk : ChunkOf} {z : Sizes} {w : World} → IsWorld chunk z w → (g : Register) → IsRegister z g
    → IsMade z.functions (held w.objects.cells g)
held_made is (Val v) i = i
held_made {chunk} {z} {w} is (Open c) i = each_or (IsMade z.functions) w.objects.cells c Nil is.values tt

pub adjusted_made : (n count : ℕ) (vs : List Value) → AreMade n vs → AreMade n (adjusted count vs)
adjusted_made n zero vs e = tt
adjusted_made n (suc count) [] e = (tt, adjusted_made n count [] tt)
adjusted_made n (suc count) (v ∷ vs) e = (e.0, adjusted_made n count vs e.1)

pub first_made : (n : ℕ) (vs : List Value) → AreMade n vs → IsMade n (first vs)
first_made n [] e = tt
first_made n (v ∷ vs) e = e.0

pub rest_made : (n : ℕ) (vs : List Value) → AreMade n vs → AreMade n (rest vs)
rest_made n [] e = tt
rest_made n (v ∷ vs) e = e.1

pub with_values : {chunk : ChunkOf} {z : Sizes} {w : World} → (cells : List Value) → IsWorld chunk z w → length cells ≡ z.cells
    → AreMade z.functions cells → IsWorld chunk z (with_cells cells w)
with_values cells i count are =
    record { functions = i.functions; environments = i.environments; cells = count; bodies = i.bodies; values = are; store = i.store; waits = i.waits; imports = i.imports }

put_are : (z : Sizes) (regs : Registers) (r : ℕ) (g : Register) → ((q : ℕ) → IsRegister z (regs q)) → IsRegister z g → (q : ℕ)
    → IsRegister z (states.put regs r g q)
put_are z regs r g are i q = chosen z (nat_eq q r) g (regs q) i (are q)

written_place : (g : Register) (r : ℕ) (v : Value) (i : Inside) → (write g r v i).frame.place ≡ i.frame.place
written_place (Val u) r v i = refl
written_place (Open c) r v i = refl

pub set_place : (r : ℕ) (v : Value) (i : Inside) → (states.set r v i).frame.place ≡ i.frame.place
set_place r v i = written_place (i.frame.registers r) r v i

pub set_all_place : (r : ℕ) (vs : List Value) (i : Inside) → (states.set_all r vs i).frame.place ≡ i.frame.place
set_all_place r [] i = refl
set_all_place r (v ∷ vs) i = set_all_place (suc r) vs (states.set r v i) ∙ set_place r v i

module _ {chunk : ChunkOf} {z : Sizes} {p : ProtoOf} where
  pub with_frame : {f : Frame} {fs : List Frame} {w : World} → (g : Frame) → Setting chunk z p f fs w → IsFrame chunk z p g → g.closure ≡ f.closure
      → Setting chunk z p g fs w
  with_frame g s i same =
      record { world = s.world; frame = i; below = s.below; waits = s.waits ∙ ap (λ c. Runs c ∷ s.below) (sym same); stacked = s.stacked }

  pub active : {f : Frame} {fs : List Frame} {w : World} → (P : ProtoOf → Frame → Type 0) → Setting chunk z p f fs w → P p f
      → IsActive chunk z P (waiting w.waits (here (store_of w))) (f ∷ fs)
  active {f} {fs} P s h =
      record { code = p; frame = f; below = fs; functions = refl; rest = s.below; waits = s.waits; is = s.frame; stacked = s.stacked; holds = h }

  -- ---- the code goes on

  pub goes : {f : Frame} {fs : List Frame} {w : World} → Setting chunk z p f fs w → (place : ℕ) → IsPlace p place
      → IsSafe chunk (state Run (at place f) fs w)
  goes {f} s place i = record {
    sizes = z;
    world = s.world;
    doing = active (λ p f. IsPlace p f.place) (with_frame (at place f) s (frame_at place Idle s.frame i) refl) i;
  }

  pub faults : {f : Frame} {fs : List Frame} {w : World} → Setting chunk z p f fs w → (e : RunError) → IsSafe chunk (state (Fault e) f fs w)
  faults {f} {fs} s e = record { sizes = z; world = s.world; doing = subst (λ ws. AreLeft chunk z ws (f ∷ fs)) (sym s.waits) s.stacked }

  -- ---- values

  pub value_made : {f : Frame} {fs : List Frame} {w : World} → Setting chunk z p f fs w → (r : ℕ) → IsMade z.functions (value_in f w r)
  value_made {f} s r = held_made s.world (f.registers r) (s.frame.registers r)

  pub values_made : {f : Frame} {fs : List Frame} {w : World} → Setting chunk z p f fs w → (from count : ℕ)
      → AreMade z.functions (values_in f w from count)
  values_made s from zero = tt
  values_made s from (suc n) = (value_made s from, values_made s (suc from) n)

  -- ---- writes

  pub put_register : {f : Frame} → (r : ℕ) (g : Register) → IsFrame chunk z p f → IsRegister z g
      → IsFrame chunk z p (record f { registers = states.put f.registers r g })
  put_register {f} r g i is = with_registers (states.put f.registers r g) f.top (put_are z f.registers r g i.registers is) i

  written : (g : Register) (r : ℕ) (v : Value) (i : Inside) (fs : List Frame) → Setting chunk z p i.frame fs i.world → IsRegister z g
      → IsMade z.functions v
      → Setting chunk z p (write g r v i).frame fs (write g r v i).world
  written (Val u) r v i fs s g m =
      with_frame (record i.frame { registers = states.put i.frame.registers r (Val v) }) s (put_register r (Val v) s.frame m) refl
  written (Open c) r v i fs s g m =
      record {
        world =
            with_values (set i.world.objects.cells c v) s.world (length-set i.world.objects.cells c v ∙ s.world.cells)
            (each_set (IsMade z.functions) i.world.objects.cells c v s.world.values m);
        frame = s.frame;
        below = s.below;
        waits = s.waits;
        stacked = s.stacked;
      }

  pub set_keeps : (r : ℕ) (v : Value) (i : Inside) (fs : List Frame) → Setting chunk z p i.frame fs i.world → IsMade z.functions v
      → Setting chunk z p (states.set r v i).frame fs (states.set r v i).world
  set_keeps r v i fs s m = written (i.frame.registers r) r v i fs s (s.frame.registers r) m

  pub set_all_keeps : (r : ℕ) (vs : List Value) (i : Inside) (fs : List Frame) → Setting chunk z p i.frame fs i.world → AreMade z.functions vs
      → Setting chunk z p (states.set_all r vs i).frame fs (states.set_all r vs i).world
  set_all_keeps r [] i fs s m = s
  set_all_keeps r (v ∷ vs) i fs s m = set_all_keeps (suc r) vs (states.set r v i) fs (set_keeps r v i fs s m.0) m.1

  -- a value into a register, and on
  pub gives : {f : Frame} {fs : List Frame} {w : World} → Setting chunk z p f fs w → (to : ℕ) (v : Value) (next : ℕ) → IsMade z.functions v
      → IsPlace p next
      → IsSafeMove chunk (give to v next f fs w)
  gives {f} {fs} {w} s to v next m i = goes (set_keeps to v (inside f w) fs s m) next i
