-- What an operation gives, in a register; jumps.
use Rattle.std.proofs.Common.{◌≡◌, ℕ, ◌≤◌, ℤ, List, [], ◌∷◌, length, refl, sym, ap, ◌∙◌, subst, arith}
use Rattle.value_model.specs.Values.{Value}
use Rattle.value_model.specs.Choices.{Operation}
use Rattle.value_model.specs.Metamethods.{choose}
use Rattle.source_meaning.specs.States as source
use Rattle.source_meaning.specs.Moves as source_moves
use Rattle.source_meaning.specs.Steps as source_steps
use Rattle.machine_meaning.specs.States as machine
use Rattle.machine_meaning.specs.Moves as machine_moves
use Rattle.machine_meaning.specs.Steps as machine_steps
use Rattle.code_simulation.specs.Slots.{Slot, Steady}
use Rattle.code_simulation.specs.Relation.{Dyn, store_s, store_m, Setting}
use Rattle.code_simulation.proofs.Along.{Alike, CallsGo, File, Here, inside, frame, env_of, Has, SameIn, WithValue, Receives}
use Rattle.code_simulation.proofs.Parts.{Forward}
use Rattle.code_simulation.proofs.Stores.{choose_keeps}
use Rattle.code_simulation.proofs.Moving.{source_goes}
use Rattle.code_simulation.proofs.Waiting.{settle_here}
use Rattle.code_simulation.proofs.Registers.{given}

-- both take the same first value
pub first_is : (vs : List Value) → source_moves.first vs ≡ machine_moves.first vs
first_is [] = refl
first_is (v ∷ vs) = refl

-- a jump that leads on
pub jump_is : {place to : ℕ} {by : ℤ} → Forward place by to → (f : machine.Frame) (fs : List machine.Frame) (w : machine.World)
    → machine_moves.jump by place f fs w ≡ machine_moves.go to f fs w
jump_is {place} {to} {by} j f fs w =
    ap (λ b. machine_moves.jump b place f fs w) j.by_words ∙ ap (λ n. machine_moves.go n f fs w) j.reaches

module _ (p : Setting) (most : ℕ) where
  -- the machine stands at a place, by another name of it
  pub at_place : (h : Here p most) (left : ℕ) (x : source.Focus) (k : List source.Frame) (env : source.Environment) (d : Dyn) (place place' : ℕ)
      (file : File) → place ≡ place' → SameIn p most h left x k env d place' file → SameIn p most h left x k env d place file
  at_place h left x k env d place place' file e a = subst (λ n. SameIn p most h left x k env d n file) (sym e) a

  -- the first of the values that come is put into the first free register
  pub receives_first : (h : Here p most) (l : List Slot) (left : ℕ) (node : source.Node) (k : List source.Frame) (next place : ℕ) (file0 : File)
      → WithValue p most h left l file0.registers k next → Receives p most h left l file0.registers node (source.Wants source.One) k
      (machine.Into (length l) next) place
  receives_first h l left node k next place file0 go i lt vs d file w steady =
      source_goes p refl
      (given p most h (machine.Into (length l) next) l next place i k (source_moves.first vs) d file0 file _ w steady
      (ap (λ v. machine_moves.give (length l) v next (machine_moves.waits_for (machine.Into (length l) next) (frame p most h place file)) h.below_m
      d.code) (sym (first_is vs)))
      (λ j lt2 v d2 file2 w2 steady2. go j (omega (arith, lt, lt2)) v d2 file2 w2 steady2))

module _ (p : Setting) (most : ℕ) (calls : (i : ℕ) → i ≤ most → CallsGo p i) where
  -- both operate on the same values, whatever they do with what comes of it
  pub operation_here : (o : Operation) (h : Here p most) (l : List Slot) (left : ℕ) → left ≤ most
      → (node : source.Node) (purpose : source.Purpose) (k : List source.Frame) (q : machine.Purpose) (place : ℕ) (file0 file : File) (d : Dyn)
      → length l ≤ h.proto.registers → Has p most h left l d file → Steady l file0.registers file.registers
      → Receives p most h left l file0.registers node purpose k q place → (s : source.State) (m : machine.State)
      → source_steps.step p.texts s ≡ source_moves.settle (choose o (store_s d)) node purpose (inside p most h) k (env_of p most h l) d.script
      → machine_steps.step p.chunk m ≡ machine_moves.settle (choose o (store_m d)) q (frame p most h place file) h.below_m d.code → Alike p left s m
  operation_here o h l left le node purpose k q place file0 file d room w steady go s m e f =
      let u = choose_keeps o (store_s d) in
      settle_here p most calls (choose o (store_s d)) h l left le node purpose k q place file0 file d u.running u.coroutines room w steady go s m e
      (f ∙ ap (λ x. machine_moves.settle (choose o x) q (frame p most h place file) h.below_m d.code) (sym w.ok.base.store))

  -- an operation whose value is put into the first free register
  pub value_here : (o : Operation) (h : Here p most) (l : List Slot) (left : ℕ) → left ≤ most
      → (node : source.Node) (k : List source.Frame) (place next : ℕ) (file0 file : File) (d : Dyn) → length l ≤ h.proto.registers
      → Has p most h left l d file → Steady l file0.registers file.registers → WithValue p most h left l file0.registers k next
      → (s : source.State) (m : machine.State) → source_steps.step p.texts s ≡ source_moves.settle (choose o (store_s d)) node
      (source.Wants source.One) (inside p most h) k (env_of p most h l) d.script
      → machine_steps.step p.chunk m ≡ machine_moves.settle (choose o (store_m d)) (machine.Into (length l) next)
      (frame p most h place file) h.below_m d.code → Alike p left s m
  value_here o h l left le node k place next file0 file d room w steady go s m e f =
      operation_here o h l left le node (source.Wants source.One) k (machine.Into (length l) next) place file0 file d room w steady
      (receives_first p most h l left node k next place file0 go) s m e f
