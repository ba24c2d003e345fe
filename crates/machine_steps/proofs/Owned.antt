-- What an instruction finds, one by one.
use Rattle.std.proofs.Common.{◌≡◌, ℕ, ◌+◌, ℤ, pos, negsuc, Bool, List, ◌∷◌, Some, refl, ◌∙◌, ap, subst, arith}
use Rattle.std.specs.Prelude.{MatchOption}
use Rattle.op_words.specs.declared.insn.Insn.{Insn}
use Rattle.luau_tables.specs.declared.globals.LibWorld.{LibWorld}
use Rattle.call_frames.specs.Stacks.{StackView}
use Rattle.machine_meaning.specs.Needs.{Range, one, registers_of, constants_of, upvalue_of, jump_of, goes_back, Want}
use Rattle.op_words.specs.Chunks.{ChunkOf, ProtoOf}
use Rattle.checked_runs.specs.Safe.{Each}
use Rattle.checked_runs.specs.Operands.{IsConstant}
use Rattle.machine_code.specs.declared.code.Code.{Code}
use Rattle.machine_world.specs.Rows.{place_here, proto_here}
use Rattle.machine_world.specs.Sound.{HasRegister, HasUpvalue}
use Rattle.machine_steps.specs.Ready.{AreOwn, Jumps, IsReady, HasConstant, IsIndex, function_here, StandsAt}

own_one : (s : StackView) (r : ℕ) → AreOwn s (one r) → HasRegister s r
own_one s r h = let e : r + 0 ≡ r = omega arith in subst (HasRegister s) e (h 0 (omega arith))

pub own_first : (w : LibWorld) (code : Code) (s : StackView) (insn i : Insn) (r : ℕ) (rs : List Range) → insn ≡ i → registers_of i ≡ one r ∷ rs →
    IsReady w code s insn → HasRegister s r
own_first w code s insn i r rs same e ready = own_one s r (subst (Each (AreOwn s)) (ap registers_of same ∙ e) ready.registers).0

pub own_second : (w : LibWorld) (code : Code) (s : StackView) (insn i : Insn) (r : ℕ) (a : Range) (rs : List Range) → insn ≡ i →
    registers_of i ≡ a ∷ one r ∷ rs → IsReady w code s insn → HasRegister s r
own_second w code s insn i r a rs same e ready = own_one s r (subst (Each (AreOwn s)) (ap registers_of same ∙ e) ready.registers).1.0

pub own_third : (w : LibWorld) (code : Code) (s : StackView) (insn i : Insn) (r : ℕ) (a b : Range) (rs : List Range) → insn ≡ i →
    registers_of i ≡ a ∷ b ∷ one r ∷ rs → IsReady w code s insn → HasRegister s r
own_third w code s insn i r a b rs same e ready = own_one s r (subst (Each (AreOwn s)) (ap registers_of same ∙ e) ready.registers).1.1.0

-- the registers of a range
pub own_range : (w : LibWorld) (code : Code) (s : StackView) (insn i : Insn) (a : Range) (rs : List Range) → insn ≡ i →
    registers_of i ≡ a ∷ rs → IsReady w code s insn → AreOwn s a
own_range w code s insn i a rs same e ready = (subst (Each (AreOwn s)) (ap registers_of same ∙ e) ready.registers).0

pub constant_there : (w : LibWorld) (code : Code) (s : StackView) (insn i : Insn) (k : ℤ) (want : Want) (ks : List (ℤ × Want)) → insn ≡ i →
    constants_of i ≡ (k, want) ∷ ks → IsReady w code s insn → HasConstant w.names (function_here w code s) k
constant_there w code s insn i k want ks same e ready =
    (subst (Each (λ (k : ℤ × Want). HasConstant w.names (function_here w code s) k.0)) (ap constants_of same ∙ e) ready.constants).0

pub upvalue_there : (w : LibWorld) (code : Code) (s : StackView) (insn i : Insn) (u : ℕ) → insn ≡ i → upvalue_of i ≡ Some u → IsReady w code s insn →
    HasUpvalue w.arena s u
upvalue_there w code s insn i u same e ready = subst (λ o. MatchOption o (Unit {0}) (HasUpvalue w.arena s)) (ap upvalue_of same ∙ e) ready.upvalue

pub jump_there : (w : LibWorld) (code : Code) (s : StackView) (insn i : Insn) (by : ℤ) (b : Bool) → insn ≡ i → jump_of i ≡ Some by → goes_back i ≡ b →
    IsReady w code s insn → Jumps b (place_here s) by
jump_there w code s insn i by b same e back ready =
    subst (λ b. Jumps b (place_here s) by) (ap goes_back same ∙ back)
    (subst (λ o. MatchOption o (Unit {0}) (Jumps (goes_back insn) (place_here s))) (ap jump_of same ∙ e) ready.jump)

-- ---- constants of the chunk

pub named_first : (chunk : ChunkOf) (p : ProtoOf) (w : LibWorld) (code : Code) (s : StackView) (insn i : Insn) (next : ℕ) (k : ℤ) (want : Want) (ks : List (ℤ × Want)) →
    insn ≡ i → constants_of i ≡ (k, want) ∷ ks → StandsAt chunk p w code s insn next → IsConstant chunk (proto_here w code s) k want
named_first chunk p w code s insn i next k want ks same e stands =
    (subst (Each (λ (k : ℤ × Want). IsConstant chunk (proto_here w code s) k.0 k.1)) (ap constants_of same ∙ e) stands.constants).0

index_is : (w : LibWorld) (code : Code) (s : StackView) (k : ℤ) → HasConstant w.names (function_here w code s) k → IsIndex k
index_is w code s (pos k) h = (k, refl)
index_is w code s (negsuc k) h = absurd h

pub index_there : (w : LibWorld) (code : Code) (s : StackView) (insn i : Insn) (k : ℤ) (want : Want) (ks : List (ℤ × Want)) → insn ≡ i →
    constants_of i ≡ (k, want) ∷ ks → IsReady w code s insn → IsIndex k
index_there w code s insn i k want ks same e ready = index_is w code s k (constant_there w code s insn i k want ks same e ready)

pub own_range_second : (w : LibWorld) (code : Code) (s : StackView) (insn i : Insn) (a b : Range) (rs : List Range) → insn ≡ i →
    registers_of i ≡ a ∷ b ∷ rs → IsReady w code s insn → AreOwn s b
own_range_second w code s insn i a b rs same e ready = (subst (Each (AreOwn s)) (ap registers_of same ∙ e) ready.registers).1.0
