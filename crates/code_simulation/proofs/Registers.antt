-- What instructions read and write: the registers of the slots, lists of values in registers, and those above.
use Rattle.std.proofs.Common.{◌≡◌, ℕ, zero, suc, ◌+◌, ◌<◌, List, [], ◌∷◌, ◌++◌, length, refl, ap, ◌∙◌, arith, inr}
use Rattle.value_model.specs.Values.{Value}
use Rattle.value_model.specs.Waits.{Wait}
use Rattle.bounded_runs.specs.Runs.{Goes}
use Rattle.source_meaning.specs.States as source
use Rattle.op_words.specs.declared.insn.Insn.{Insn}
use Rattle.op_words.specs.Decoding.{insn_at}
use Rattle.machine_meaning.specs.States.{Register, Val, Open, Registers, put, held, trimmed, value_in, values_in}
use Rattle.machine_meaning.specs.States as machine
use Rattle.machine_meaning.specs.Moves as machine_moves
use Rattle.machine_meaning.specs.Effects.{list_from, deliver, results}
use Rattle.machine_meaning.specs.Instructions.{row}
use Rattle.machine_meaning.specs.Steps as machine_steps
use Rattle.code_simulation.specs.Slots.{Slot, Temp, temps, Tags, Fits, Clear, Steady}
use Rattle.code_simulation.specs.Relation.{Dyn, Setting, Act, Desc, Holds}
use Rattle.code_simulation.proofs.Along.{Alike, Counts, File, Here, env_of, frame, Reads, source_at, machine_at, Has, WithValue}
use Rattle.code_simulation.proofs.Names.{length_temps, put_other, steady_below, steady_put, steady_on}
use Rattle.code_simulation.proofs.World.{fits_temps, temp_reg, push, trim, trimmed_below}
use Rattle.code_simulation.proofs.Moving.{target_goes}

-- ---- lists of values

-- values above values are values
pub temps_append : (us vs : List Value) (l : List Slot) → temps (us ++ vs) l ≡ temps vs (temps us l)
temps_append [] vs l = refl
temps_append (u ∷ us) vs l = temps_append us vs (Temp u ∷ l)

-- the registers of values hold them
pub read_temps : {co depth : ℕ} {tag : Tags} (f : machine.Frame) (w : machine.World) (vs : List Value) (l : List Slot)
    → Fits co depth tag f.registers (temps vs l) → values_in f w (length l) (length vs) ≡ vs
read_temps f w [] l fits = refl
read_temps f w (v ∷ vs) l fits =
    ap (λ r. held w.objects.cells r ∷ values_in f w (suc (length l)) (length vs)) (temp_reg (fits_temps vs (Temp v ∷ l) fits))
    ∙ ap (λ ws. v ∷ ws) (read_temps f w vs (Temp v ∷ l) fits)

-- as an instruction counts them
pub listed : {co depth : ℕ} {tag : Tags} (f : machine.Frame) (w : machine.World) (count : ℕ) (vs : List Value) (l : List Slot)
    → Fits co depth tag f.registers (temps vs l) → Counts count (length vs) (length l) f.top → list_from count (length l) f w ≡ vs
listed f w zero vs l fits c = ap (values_in f w (length l)) (omega (arith, c)) ∙ read_temps f w vs l fits
listed f w (suc n) vs l fits c = ap (values_in f w (length l)) c ∙ read_temps f w vs l fits

-- values in the registers from one on
abbrev pub puts : Registers → ℕ → List Value → Registers
puts regs to [] = regs
puts regs to (v ∷ vs) = puts (put regs to (Val v)) (suc to) vs

pub puts_below : (regs : Registers) (to : ℕ) (vs : List Value) (r : ℕ) → r < to → puts regs to vs r ≡ regs r
puts_below regs to [] r lt = refl
puts_below regs to (v ∷ vs) r lt =
    puts_below (put regs to (Val v)) (suc to) vs r (omega (arith, lt)) ∙ put_other regs to (Val v) r (omega (arith, lt))

-- registers that are not open are written
pub set_all_clear : (to : ℕ) (vs : List Value) (f : machine.Frame) (w : machine.World) → Clear f.registers to
    → machine.set_all to vs (machine_moves.inside f w) ≡ machine_moves.inside (record f { registers = puts f.registers to vs }) w
set_all_clear to [] f w clear = refl
set_all_clear to (v ∷ vs) f w clear =
    ap (λ r. machine.set_all (suc to) vs (machine.write r to v (machine_moves.inside f w))) (clear to (omega arith)).1
    ∙ set_all_clear (suc to) vs (record f { registers = put f.registers to (Val v) }) w
    (λ r le. let z = clear r (omega (arith, le)) in (z.0, put_other f.registers to (Val v) r (omega (arith, le)) ∙ z.1))

pub push_all : {p : Setting} {turns co : ℕ} {ws : List Wait} {roots : List Desc} {a : Act} {d : Dyn}
    → (vs : List Value) (l : List Slot) (regs : Registers) → Holds p turns co ws roots a l d regs
    → Holds p turns co ws roots a (temps vs l) d (puts regs (length l) vs)
push_all [] l regs w = w
push_all (v ∷ vs) l regs w = push_all vs (Temp v ∷ l) (put regs (length l) (Val v)) (push v w)

-- so many values, as an instruction wants them
abbrev pub wanted : (count : ℕ) → List Value → List Value
wanted zero vs = vs
wanted (suc n) vs = machine.adjusted n vs

module _ (p : Setting) (most : ℕ) where
  -- the row of the instruction here
  pub row_here : (h : Here p most) (place next : ℕ) (file : File) (d : Dyn) (i : Insn) → Reads p most h place i next
      → machine_steps.step p.chunk (machine_at p most h place file d) ≡ row p.chunk h.proto.code i next (frame p most h place file) h.below_m d.code
  row_here h place next file d i e =
      ap (λ o. machine_steps.act p.chunk (machine_steps.code_of o) (insn_at (machine_steps.code_of o) place)
      (frame p most h place file) h.below_m d.code) h.found
      ∙ ap (λ o. machine_steps.act p.chunk h.proto.code o (frame p most h place file) h.below_m d.code) e

  abbrev pub with_register : File → ℕ → Value → File
  with_register file r v = record { registers = put file.registers r (Val v); top = file.top }

  -- a write to a register that is not open
  pub give_is : (h : Here p most) (q : machine.Purpose) (to next place : ℕ) (v u : Value) (file : File) (w : machine.World)
      → file.registers to ≡ Val u → machine_moves.give to v next (machine_moves.waits_for q (frame p most h place file)) h.below_m w ≡ Goes []
      (machine_moves.state machine.Run (frame p most h next (with_register file to v)) h.below_m w)
  give_is h q to next place v u file w e =
      ap (λ r. machine_moves.on (machine_moves.go next) (machine.write r to v
      (machine_moves.inside (machine_moves.waits_for q (frame p most h place file)) w)) h.below_m) e

  -- the code gives a value to the first free register and goes on
  pub given : (h : Here p most) (q : machine.Purpose) (l : List Slot) (next place left : ℕ) (k : List source.Frame) (v : Value) (d : Dyn)
      (file0 file : File) (m : machine.State) → Has p most h left l d file → Steady l file0.registers file.registers
      → machine_steps.step p.chunk m ≡ machine_moves.give (length l) v next (machine_moves.waits_for q (frame p most h place file)) h.below_m d.code
      → WithValue p most h left l file0.registers k next → Alike p left (source_at p most h (source.Give v) k (env_of p most h l) d) m
  given h q l next place left k v d file0 file m w steady row go =
      let c = w.clear (length l) (omega arith) in
      target_goes p (row ∙ give_is h q (length l) next place v c.0 file d.code c.1)
      (go left (omega arith) v d (with_register file (length l) v) (push v w)
      (steady_on l _ _ _ steady (steady_put l file.registers (length l) (Val v) (omega arith))))

  -- the file behind a list that was delivered
  abbrev pub delivered_file : Here p most → List Slot → List Value → File → File
  delivered_file h l vs file =
      record { registers = trimmed h.proto.registers (length l + length vs) (puts file.registers (length l) vs); top = length l + length vs }

  -- values are delivered from the first free register on
  pub deliver_is : {n : ℕ} (h : Here p most) (q : machine.Purpose) (l : List Slot) (next place : ℕ) (vs : List Value) (file : File) (d : Dyn)
      → Has p most h n l d file → deliver (length l) next vs (machine_moves.waits_for q (frame p most h place file)) h.below_m d.code ≡ Goes []
      (machine_at p most h next (delivered_file h l vs file) d)
  deliver_is h q l next place vs file d w =
      ap (λ i. machine_moves.on (λ g. machine_moves.go next (machine.ended (length l + length vs) g)) i h.below_m)
      (set_all_clear (length l) vs (machine_moves.waits_for q (frame p most h place file)) d.code w.clear)

  pub delivered : {n : ℕ} (h : Here p most) (l : List Slot) (vs : List Value) (file : File) (d : Dyn) → Has p most h n l d file
      → Has p most h n (temps vs l) d (delivered_file h l vs file)
  delivered h l vs file d w =
      let e = length_temps vs l in
      trim h.proto.registers (length l + length vs) (λ r lt. inr (omega (arith, e, lt))) (push_all vs l file.registers w)

  pub delivered_steady : (h : Here p most) (l : List Slot) (vs : List Value) (file : File) → Steady l file.registers (delivered_file h l vs file).registers
  delivered_steady h l vs file =
      steady_below l file.registers (delivered_file h l vs file).registers
      (λ r lt. trimmed_below h.proto.registers (length l + length vs) (puts file.registers (length l) vs) r (omega (arith, lt))
      ∙ puts_below file.registers (length l) vs r lt)

  -- so many results, or all
  pub results_is : (h : Here p most) (q : machine.Purpose) (to count next place : ℕ) (vs : List Value) (file : File) (d : Dyn)
      → results to count next vs (machine_moves.waits_for q (frame p most h place file)) h.below_m d.code ≡ deliver to next (wanted count vs)
      (machine_moves.waits_for q (frame p most h place file)) h.below_m d.code
  results_is h q to zero next place vs file d = refl
  results_is h q to (suc n) next place vs file d = refl
