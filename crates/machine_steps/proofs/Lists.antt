-- Lists of values that instructions name.
use Rattle.std.proofs.Common.{◌≡◌, ℕ, zero, suc, ◌+◌, ◌<◌, ◌≤◌, nat_le, Bool, true, false, cond, List, refl, sym, ◌∙◌, ap, subst, arith}
use Rattle.std.specs.Option.{option_map_or}
use Rattle.std.proofs.lemmas.Bool.Decides.{nat_tests}
use Rattle.call_frames.specs.declared.frame.Frame.{Frame}
use Rattle.call_frames.specs.Stacks.{StackView}
use Rattle.call_frames.specs.Cells.{innermost}
use Rattle.op_words.specs.declared.insn.Insn.TheVariants.{Return, SetList}
use Rattle.op_words.specs.Chunks.{ChunkOf}
use Rattle.machine_meaning.specs.Instructions.{row}
use Rattle.machine_meaning.specs.Needs.{listed}
use Rattle.machine_meaning.specs.States as machine
use Rattle.machine_world.specs.Sound.{IsLuau, Runs, HasRegister, HasPlaceOf, HasList, ReachesTo}
use Rattle.machine_world.proofs.Frames.{Inner, inner, of_frame}
use Rattle.machine_steps.proofs.Constants.{some_is}
use Rattle.machine_steps.specs.Ready.{AreOwn, reaches}

module _ (s : StackView) (runs : Runs s) where
  abbrev i : Inner s
  i = inner s runs

  luau : IsLuau i.frame
  luau = of_frame s IsLuau i.frame i.is runs

  low : (r : ℕ) → HasRegister s r → r < i.frame.registers
  low r h = (of_frame s (λ f. IsLuau f × (r < f.registers)) i.frame i.is h).1

  list_at : (count from : ℕ) → AreOwn s (listed from count) → from ≤ i.frame.registers → HasList s count from
  list_at zero from own le = some_is (innermost s) i.frame (λ f. IsLuau f × ReachesTo zero from f.registers) i.is (luau, le)
  list_at (suc zero) from own le = some_is (innermost s) i.frame (λ f. IsLuau f × ReachesTo (suc zero) from f.registers) i.is (luau, omega (arith, le))
  list_at (suc (suc k)) from own le =
      let l = low (from + k) (own k (omega arith)) in
      some_is (innermost s) i.frame (λ f. IsLuau f × ReachesTo (suc (suc k)) from f.registers) i.is (luau, omega (arith, l))

  reaches_is : (r : ℕ) → reaches s r ≡ nat_le r i.frame.registers
  reaches_is r = ap (λ q. option_map_or (λ (f : Frame). nat_le r f.registers) q false) i.is

  pub place_there : (r : ℕ) → reaches s r ≡ true → HasPlaceOf s r
  place_there r e =
      let t : nat_le r i.frame.registers ≡ true = sym (reaches_is r) ∙ e in
      let le : r ≤ i.frame.registers = grind (arith, nat_tests) in
      some_is (innermost s) i.frame (λ f. IsLuau f × (r ≤ f.registers)) i.is (luau, le)

  -- a list that begins beyond the registers is empty
  empty_beyond : (count base : ℕ) → AreOwn s (listed base count) → reaches s base ≡ false → count ≡ 1
  empty_beyond count base own e =
      let t : nat_le base i.frame.registers ≡ false = sym (reaches_is base) ∙ e in
      let high : i.frame.registers < base = grind (arith, nat_tests) in
      by count own high
    where
      by : (count : ℕ) → AreOwn s (listed base count) → i.frame.registers < base → count ≡ 1
      by zero own high = let l = low (base + 0) (own 0 (omega arith)) in absurd (omega (arith, l, high))
      by (suc zero) own high = refl
      by (suc (suc k)) own high = let l = low (base + 0) (own 0 (omega arith)) in absurd (omega (arith, l, high))

  begins_by : (count base : ℕ) → AreOwn s (listed base count) → (b : Bool) → reaches s base ≡ b → HasList s count (cond b base 0)
  begins_by count base own true e =
      let t : nat_le base i.frame.registers ≡ true = sym (reaches_is base) ∙ e in
      list_at count base own (grind (arith, nat_tests))
  begins_by count base own false e =
      subst (λ n. HasList s n 0) (sym (empty_beyond count base own e))
      (some_is (innermost s) i.frame (λ f. IsLuau f × ReachesTo (suc zero) 0 f.registers) i.is (luau, omega arith))

  pub list_begins : (count base from : ℕ) → AreOwn s (listed base count) → from ≡ cond (reaches s base) base 0 → HasList s count from
  list_begins count base from own e = subst (HasList s count) (sym e) (begins_by count base own (reaches s base) refl)

  -- that of a call begins behind its base
  pub list_behind : (count base : ℕ) → HasRegister s base → AreOwn s (listed (base + 1) count) → HasList s count (base + 1)
  list_behind count base has own = let l = low base has in list_at count (base + 1) own (omega (arith, l))

  -- so the rows are one
  returns_by : (chunk : ChunkOf) (words : List ℕ) (next count base : ℕ) → AreOwn s (listed base count) → (b : Bool) → reaches s base ≡ b →
      (f : machine.Frame) (fs : List machine.Frame) (v : machine.World) →
      row chunk words (Return base count) next f fs v ≡ row chunk words (Return (cond b base 0) count) next f fs v
  returns_by chunk words next count base own true e f fs v = refl
  returns_by chunk words next count base own false e f fs v =
      subst (λ n. row chunk words (Return base n) next f fs v ≡ row chunk words (Return 0 n) next f fs v) (sym (empty_beyond count base own e)) refl

  pub returns_like : (chunk : ChunkOf) (words : List ℕ) (next count base from : ℕ) → AreOwn s (listed base count) → from ≡ cond (reaches s base) base 0 →
      (f : machine.Frame) (fs : List machine.Frame) (v : machine.World) →
      row chunk words (Return base count) next f fs v ≡ row chunk words (Return from count) next f fs v
  returns_like chunk words next count base from own e f fs v =
      returns_by chunk words next count base own (reaches s base) refl f fs v
      ∙ ap (λ n. row chunk words (Return n count) next f fs v) (sym e)

  sets_by : (chunk : ChunkOf) (words : List ℕ) (next to count base key : ℕ) → AreOwn s (listed base count) → (b : Bool) → reaches s base ≡ b →
      (f : machine.Frame) (fs : List machine.Frame) (v : machine.World) →
      row chunk words (SetList to base count key) next f fs v ≡ row chunk words (SetList to (cond b base 0) count key) next f fs v
  sets_by chunk words next to count base key own true e f fs v = refl
  sets_by chunk words next to count base key own false e f fs v =
      subst (λ n. row chunk words (SetList to base n key) next f fs v ≡ row chunk words (SetList to 0 n key) next f fs v) (sym (empty_beyond count base own e)) refl

  pub sets_like : (chunk : ChunkOf) (words : List ℕ) (next to count base from key : ℕ) → AreOwn s (listed base count) → from ≡ cond (reaches s base) base 0 →
      (f : machine.Frame) (fs : List machine.Frame) (v : machine.World) →
      row chunk words (SetList to base count key) next f fs v ≡ row chunk words (SetList to from count key) next f fs v
  sets_like chunk words next to count base from key own e f fs v =
      sets_by chunk words next to count base key own (reaches s base) refl f fs v
      ∙ ap (λ n. row chunk words (SetList to n count key) next f fs v) (sym e)
