-- Where a function stands there is an instruction, and all that it names is there.
use Rattle.std.proofs.Common.{◌≡◌, refl, sym, ℕ, ◌+◌, ◌<◌, ℤ, pos, negsuc, Bool, true, false, ◌||◌, List, [], ◌∷◌, Option, Some, None, arith, subst, nat_eq, nat_le}
use Rattle.std.specs.Prelude.{MatchOption, is_some}
use Rattle.std.specs.List.{list_all}
use Rattle.std.proofs.lemmas.Bool.Decides.{nat_tests}
use Rattle.op_words.specs.declared.insn.Insn.{Insn}
use Rattle.op_words.specs.declared.insn.Insn.TheVariants.{NewClosure}
use Rattle.op_words.specs.Chunks.{ChunkOf, ProtoOf}
use Rattle.machine_meaning.specs.Chunks.{proto_at}
use Rattle.machine_meaning.specs.Needs.{Range, registers_of, fits_range, is_own, Want, finds, constants_of, upvalue_of, all_below, child_of, has_child, jump_of, goes_back}
use Rattle.machine_meaning.specs.WellFormed.{IsWellFormed}
use Rattle.machine_meaning.specs.States.{Frame, Focus, Run, Charged, GiveAll, Join, Follow, Invoke, Hand, Fault, Raise}
use Rattle.machine_meaning.specs.Moves.{store_of}
use Rattle.value_model.specs.Store.{here}
use Rattle.value_model.specs.Waits.{Wait, waiting}
use Rattle.checked_runs.specs.Places.{LeadsTo, LeadsOn, LeadsBack}
use Rattle.checked_runs.specs.Safe.{Each, Sizes, IsFrame, IsWaiting, IsActive, AreDoing}
use Rattle.checked_runs.specs.Operands.{is_within, AreOwn, IsConstant, IsChild, HasChild, HasOperands}
use Rattle.checked_runs.specs.Laws.{OperandsAreThere}
use Rattle.checked_runs.proofs.Rules.{both, IsSound, proto_sound}
use Rattle.checked_runs.proofs.Places.{Stands, stands_at, goes_on, leads, leads_on, leads_back}
use Rattle.checked_runs.proofs.Constants.{constant_found}
use Rattle.checked_runs.proofs.Children.{child_there}

-- ---- registers and constants

range_own : (size : ℕ) (r : Range) → fits_range size r ≡ true → AreOwn size r
range_own size r e k l = by (nat_eq r.1 0) refl e
  where
    by : (b : Bool) → nat_eq r.1 0 ≡ b → (b || nat_le (r.0 + r.1) size) ≡ true → r.0 + k < size
    by true f e = absurd (grind (arith, nat_tests))
    by false f e = grind (arith, nat_tests)

pub ranges_own : (size : ℕ) (rs : List Range) → list_all (fits_range size) rs ≡ true → Each (AreOwn size) rs
ranges_own size [] e = tt
ranges_own size (r ∷ rs) e =
    let parts = both (fits_range size r) (list_all (fits_range size) rs) e in
    (range_own size r parts.0, ranges_own size rs parts.1)

constants_there : (chunk : ChunkOf) (n : ℕ) (p : ProtoOf) → proto_at chunk n ≡ Some p → IsSound chunk n p → (ks : List (ℤ × Want))
    → list_all (finds chunk n) ks ≡ true
    → Each (λ (k : ℤ × Want). IsConstant chunk n k.0 k.1) ks
constants_there chunk n p at s [] e = tt
constants_there chunk n p at s (k ∷ ks) e =
    let parts = both (finds chunk n k) (list_all (finds chunk n) ks) e in
    (constant_found chunk n p at s k.0 k.1 parts.0, constants_there chunk n p at s ks parts.1)

below_some : (n : ℕ) (o : Option ℕ) → all_below n o ≡ true → MatchOption o (Unit {0}) (λ u. u < n)
below_some n None e = tt
below_some n (Some u) e = grind (arith, nat_tests)

-- ---- children

some_child : (chunk : ChunkOf) (n : ℕ) (p : ProtoOf) → IsSound chunk n p → proto_at chunk n ≡ Some p → (d : ℤ) (o : Option ℕ) → child_of p d ≡ o
    → is_some o ≡ true → IsChild chunk p d
some_child chunk n p s at d None e i = absurd cc
some_child chunk n p s at (pos d) (Some c) e i =
    let q = child_there chunk n p s at d c e in record { number = c; is = e; code = q.0; there = q.1 }
some_child chunk n p s at (negsuc d) (Some c) e i = absurd cc

child_of_insn : (chunk : ChunkOf) (n : ℕ) (p : ProtoOf) → IsSound chunk n p → proto_at chunk n ≡ Some p → (insn : Insn) → has_child p insn ≡ true
    → HasChild chunk p insn
child_of_insn chunk n p s at (NewClosure a d) e = some_child chunk n p s at d (child_of p d) refl e
child_of_insn chunk n p s at insn e = tt

-- ---- all that an instruction names

module _ (chunk : ChunkOf) (n : ℕ) (p : ProtoOf) (place : ℕ) (insn : Insn) (next : ℕ) (s : IsSound chunk n p) (at : Stands chunk n p place insn next)
  where
    jump_there : (o : Option ℤ) → jump_of insn ≡ o → MatchOption o (Unit {0}) (λ by. LeadsTo p place by)
    jump_there None e = tt
    jump_there (Some by) e = leads chunk n p place insn next s at by e

    jump_ahead : (o : Option ℤ) → jump_of insn ≡ o → goes_back insn ≡ false → MatchOption o (Unit {0}) (λ by. LeadsOn p place by)
    jump_ahead None e f = tt
    jump_ahead (Some by) e f = leads_on chunk n p place insn next s at by e f

    jump_behind : (o : Option ℤ) → jump_of insn ≡ o → goes_back insn ≡ true → MatchOption o (Unit {0}) (λ by. LeadsBack place by)
    jump_behind None e f = tt
    jump_behind (Some by) e f = leads_back chunk n p place insn next s at by e f

pub operands_at : (chunk : ChunkOf) → IsWellFormed chunk → (z : Sizes) (p : ProtoOf) (f : Frame) → IsFrame chunk z p f → HasOperands chunk f
operands_at chunk well z p f i =
    let place = i.stands in
    let n = f.proto in
    let s = proto_sound chunk n p well i.code in
    let at = stands_at chunk n p f.place s place in
    let insn = place.line.insn in
    let registers = both (list_all (fits_range p.registers) (registers_of insn)) (is_own insn) at.rules.registers in
    record {
      code = p;
      is = i.code;
      insn = insn;
      next = place.line.next;
      read = at.read.read;
      runs = at.runs;
      known = at.rules.known;
      own = registers.1;
      registers = subst (λ size. Each (AreOwn size) (registers_of insn)) (sym i.size) (ranges_own p.registers (registers_of insn) registers.0);
      constants = constants_there chunk n p i.code s (constants_of insn) at.rules.constants;
      upvalue =
          subst (λ k. MatchOption (upvalue_of insn) (Unit {0}) (λ u. u < k)) (sym i.upvalues)
          (below_some p.upvalues (upvalue_of insn) at.rules.upvalue);
      child = child_of_insn chunk n p s i.code insn at.rules.child;
      jump = jump_there chunk n p f.place insn place.line.next s at (jump_of insn) refl;
      jump_on = jump_ahead chunk n p f.place insn place.line.next s at (jump_of insn) refl;
      jump_back = jump_behind chunk n p f.place insn place.line.next s at (jump_of insn) refl;
      behind = goes_on chunk n p f.place insn place.line.next s at;
    }

-- a function that waits
pub waiting_operands : (chunk : ChunkOf) → IsWellFormed chunk → (z : Sizes) (f : Frame) → IsWaiting chunk z f → HasOperands chunk f
waiting_operands chunk well z f i = operands_at chunk well z i.code f i.frame

-- the innermost function
active_operands : (chunk : ChunkOf) → IsWellFormed chunk → (z : Sizes) (P : ProtoOf → Frame → Type 0) (ws : List Wait) (f : Frame) (fs all : List Frame)
    → all ≡ f ∷ fs → IsActive chunk z P ws all → HasOperands chunk f
active_operands chunk well z P ws f fs all e a =
    let same : a.frame ≡ f = let d = a.functions in cc in subst (HasOperands chunk) same (operands_at chunk well z a.code a.frame a.is)

doing_operands : (chunk : ChunkOf) → IsWellFormed chunk → (z : Sizes) (x : Focus) (ws : List Wait) (f : Frame) (fs all : List Frame)
    → all ≡ f ∷ fs → is_within x ≡ true → AreDoing chunk z x ws all → HasOperands chunk f
doing_operands chunk well z Run ws f fs all e w d = active_operands chunk well z _ ws f fs all e d
doing_operands chunk well z Charged ws f fs all e w d = active_operands chunk well z _ ws f fs all e d
doing_operands chunk well z (GiveAll vs) ws f fs all e w d = active_operands chunk well z _ ws f fs all e d.1
doing_operands chunk well z (Join vs to next) ws f fs all e w d = active_operands chunk well z _ ws f fs all e d.2
doing_operands chunk well z (Follow base names to next) ws f fs all e w d = active_operands chunk well z _ ws f fs all e d.1
doing_operands chunk well z (Invoke by g vs) ws f fs all e w d = absurd cc
doing_operands chunk well z (Hand vs) ws f fs all e w d = absurd cc
doing_operands chunk well z (Fault x) ws f fs all e w d = absurd cc
doing_operands chunk well z (Raise v) ws f fs all e w d = absurd cc

pub operands_are_there : OperandsAreThere
operands_are_there chunk well s i within f fs functions =
    doing_operands chunk well i.sizes s.focus (waiting s.world.waits (here (store_of s.world))) f fs s.functions functions within i.doing
