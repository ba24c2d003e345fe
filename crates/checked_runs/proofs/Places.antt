-- Places of well-formed code: where it starts, what follows an instruction, and where jumps lead.
use Rattle.std.proofs.Common.{◌≡◌, ◌⊎◌, inl, inr, refl, sym, ap, ◌∙◌, ℕ, ◌+◌, ◌<◌, ◌≤◌, ◌+ℤ◌, ℤ, pos, negsuc, Bool, true, false, ◌&&◌, ◌||◌, not, List, [], ◌∷◌, ◌++◌, length, Some, arith, nat_eq, append_assoc, subst}
use Rattle.std.specs.Prelude.{if◌then◌else◌, is_some, int_le}
use Rattle.std.specs.List.{list_any, list_all}
use Rattle.std.proofs.lemmas.Bool.Decides.{nat_tests}
use Rattle.std.proofs.lemmas.Int.{ints}
use Rattle.op_words.specs.declared.insn.Insn.{Insn}
use Rattle.op_words.specs.Chunks.{ChunkOf, ProtoOf}
use Rattle.machine_meaning.specs.Needs.{Line, lines, Range, registers_of, fits_range, is_own, is_capture, is_fast, reads_top, bound_by, target, jump_of, goes_back}
use Rattle.machine_meaning.specs.WellFormed.{Before, unless, passing, fall_faults, end_faults, at_place, landings, lands, may_land, turns_well, same_truth, is_end, is_closure_or_capture, at_start}
use Rattle.checked_runs.specs.Places.{IsPlace, LeadsTo, LeadsOn, LeadsBack}
use Rattle.checked_runs.proofs.Lines.{IsRead, line_read, first_line}
use Rattle.checked_runs.proofs.Rules.{both, KeepsRules, IsSound, rules_kept, passed}

pub three : (a b c : Bool) → (a && b && c) ≡ true → (a ≡ true) × (b ≡ true) × (c ≡ true)
three true true c e = (refl, refl, e)
three true false c e = absurd cc
three false b c e = absurd cc

-- ---- what follows

pub not_last : (n : ℕ) (before : List Line) (l : Line) → fall_faults n (before ++ l ∷ []) ≡ [] → is_end l.insn ≡ true
not_last n [] l e = by (is_end l.insn) e
  where
    by : (b : Bool) → at_place n l.place (unless b 10) ≡ [] → b ≡ true
    by true e = refl
    by false e = absurd cc
not_last n (m ∷ []) l e = not_last n [] l e
not_last n (m ∷ k ∷ before) l e = not_last n (k ∷ before) l e

pub falls : (b : Bool) (n : ℕ) (ls : List Line) → end_faults b n ls ≡ [] → fall_faults n ls ≡ []
falls true n ls e = e
falls false n ls e = absurd cc

closes_last : (b : Before) (before : List Line) (l : Line) → (passed b (before ++ l ∷ [])).closes ≡ is_closure_or_capture l.insn
closes_last b [] l = refl
closes_last b (m ∷ before) l = closes_last (passing b m.insn) before l

no_capture : (x c : Bool) → (not x || c) ≡ true → c ≡ false → x ≡ false
no_capture false c e f = refl
no_capture true true e f = absurd cc
no_capture true false e f = absurd cc

pub after_line : (chunk : ChunkOf) (n : ℕ) (p : ProtoOf) → IsSound chunk n p → (before : List Line) (l m : Line) (after : List Line)
    → lines p.code ≡ before ++ l ∷ m ∷ after → is_closure_or_capture l.insn ≡ false → IsPlace p l.next
after_line chunk n p s before l m after split plain =
    let split_next : lines p.code ≡ (before ++ l ∷ []) ++ m ∷ after = split ∙ sym (append_assoc before (l ∷ []) (m ∷ after)) in
    let is = line_read p.code before l (m ∷ after) split in
    let rules = rules_kept chunk n p s (before ++ l ∷ []) m after split_next in
    let pairs = three _ (not (is_capture m.insn) || (passed at_start (before ++ l ∷ [])).closes) _ rules.pairs in
    record {
      before = before ++ l ∷ [];
      line = m;
      after = after;
      split = split_next;
      there = first_line is.more p.code l.next m after is.rest;
      runs = no_capture (is_capture m.insn) _ pairs.1 (closes_last at_start before l ∙ plain);
    }

-- an instruction that neither ends the code nor makes a closure is followed by another
pub next_place : (chunk : ChunkOf) (n : ℕ) (p : ProtoOf) → IsSound chunk n p → (before : List Line) (l : Line) (after : List Line)
    → lines p.code ≡ before ++ l ∷ after → is_end l.insn ≡ false → is_closure_or_capture l.insn ≡ false → IsPlace p l.next
next_place chunk n p s before l [] split goes plain =
    let last : is_end l.insn ≡ true = not_last n before l (sym (ap (fall_faults n) split) ∙ falls _ n (lines p.code) s.end) in absurd cc
next_place chunk n p s before l (m ∷ after) split goes plain = after_line chunk n p s before l m after split plain

-- ---- where code starts

starts : (chunk : ChunkOf) (n : ℕ) (p : ProtoOf) → IsSound chunk n p → (ls : List Line) → lines p.code ≡ ls → IsPlace p 0
starts chunk n p s [] e =
    let none : fall_faults n [] ≡ [] = sym (ap (fall_faults n) e) ∙ falls _ n (lines p.code) s.end in absurd cc
starts chunk n p s (l ∷ ls) e =
    let rules = rules_kept chunk n p s [] l ls e in
    let pairs = three _ (not (is_capture l.insn) || false) _ rules.pairs in
    record {
      before = [];
      line = l;
      after = ls;
      split = e;
      there = first_line (length p.code) p.code 0 l ls (sym e);
      runs = no_capture (is_capture l.insn) false pairs.1 refl;
    }

pub start_place : (chunk : ChunkOf) (n : ℕ) (p : ProtoOf) → IsSound chunk n p → IsPlace p 0
start_place chunk n p s = starts chunk n p s (lines p.code) refl

-- ---- landings

bound_open : (a b c d : Bool) → (a || b || c || d) ≡ false → c ≡ false
bound_open true b c d e = absurd cc
bound_open false true c d e = absurd cc
bound_open false false true d e = absurd cc
bound_open false false false d e = refl

either : (a b : Bool) → (a || b) ≡ true → (a ≡ true) ⊎ (b ≡ true)
either true b e = inl refl
either false b e = inr e

IsFound : ProtoOf → (t : ℕ) → List Line → Type 0
IsFound p t ls = (before : List Line) (a b : Bool) → lines p.code ≡ before ++ ls → list_any (nat_eq t) (landings a b ls) ≡ true → IsPlace p t

found_here : (p : ProtoOf) (t : ℕ) (l : Line) (ls before : List Line) (places : List ℕ) → lines p.code ≡ before ++ l ∷ ls → is_capture l.insn ≡ false
    → (list_any (nat_eq t) places ≡ true → IsPlace p t) → (nat_eq t l.place ≡ true) ⊎ (list_any (nat_eq t) places ≡ true) → IsPlace p t
found_here p t l ls before places split plain rest (inl e) =
    let there : l.place ≡ t = grind (arith, nat_tests) in record { before = before; line = l; after = ls; split = split; there = there; runs = plain }
found_here p t l ls before places split plain rest (inr e) = rest e

found_by : (p : ProtoOf) (t : ℕ) (l : Line) (ls : List Line) → IsFound p t ls → (before : List Line) (a b : Bool) (c : Bool) → bound_by a b l.insn ≡ c
    → lines p.code ≡ before ++ l ∷ ls
    → list_any (nat_eq t) (if c then landings (is_fast l.insn) a ls else l.place ∷ landings (is_fast l.insn) a ls) ≡ true → IsPlace p t
unfolding IsFound
found_by p t l ls ih before a b true bound split e =
    ih (before ++ l ∷ []) (is_fast l.insn) a (split ∙ sym (append_assoc before (l ∷ []) ls)) e
found_by p t l ls ih before a b false bound split e =
    found_here p t l ls before (landings (is_fast l.insn) a ls) split (bound_open a b (is_capture l.insn) (is_some (reads_top l.insn)) bound)
    (λ e. ih (before ++ l ∷ []) (is_fast l.insn) a (split ∙ sym (append_assoc before (l ∷ []) ls)) e) (either (nat_eq t l.place) _ e)

found : (p : ProtoOf) (t : ℕ) (ls : List Line) → IsFound p t ls
unfolding IsFound
found p t [] before a b split e = absurd cc
found p t (l ∷ ls) before a b split e = found_by p t l ls (found p t ls) before a b (bound_by a b l.insn) refl split e

pub landing : (p : ProtoOf) (t : ℕ) → list_any (nat_eq t) (landings false false (lines p.code)) ≡ true → IsPlace p t
unfolding IsFound
landing p t e = found p t (lines p.code) [] false false refl e

-- ---- jumps

pub leads_to : (p : ProtoOf) (place : ℕ) (by : ℤ) → lands p.vararg (landings false false (lines p.code)) (target place by) ≡ true → LeadsTo p place by
leads_to p place by e = to (target place by) refl e
  where
    to : (z : ℤ) → target place by ≡ z → lands p.vararg (landings false false (lines p.code)) z ≡ true → LeadsTo p place by
    to (pos t) is e = record { target = t; is = is; stands = landing p t (both (list_any (nat_eq t) (landings false false (lines p.code))) _ e).0 }
    to (negsuc t) is e = absurd cc

-- a jump that does not go back leads on
on_words : (p : ProtoOf) (place : ℕ) (by : ℤ) → LeadsTo p place by → int_le (target place by) (pos place) ≡ false → LeadsOn p place by
on_words p place (pos k) to e =
    let same : to.target ≡ place + 1 + k = cc in record { words = k; is = refl; stands = subst (λ t. IsPlace p t) same to.stands }
on_words p place (negsuc k) to e = absurd (grind (arith, ints))

-- and one that goes back does not
back_words : (p : ProtoOf) (place : ℕ) (by : ℤ) → LeadsTo p place by → int_le (target place by) (pos place) ≡ true → LeadsBack place by
back_words p place (pos k) to e = absurd (grind (arith, ints))
back_words p place (negsuc k) to e =
    let is : pos (place + 1) +ℤ negsuc k ≡ pos to.target = to.is in
    record { words = k; is = refl; within = omega (arith, ints, is) }

-- ---- an instruction with what it keeps

pub record Stands (chunk : ChunkOf) (n : ℕ) (p : ProtoOf) (place : ℕ) (insn : Insn) (next : ℕ) : Type 0 where
  pub before : List Line
  pub after : List Line
  pub split : lines p.code ≡ before ++ record { place = place; insn = insn; next = next } ∷ after
  pub read : IsRead p.code (record { place = place; insn = insn; next = next }) after
  pub rules : KeepsRules chunk n p (passed at_start before) (record { place = place; insn = insn; next = next }) after
  pub runs : is_capture insn ≡ false

-- its first registers are the function's own
first_range : {chunk : ChunkOf} {n : ℕ} {p : ProtoOf} {place : ℕ} {insn : Insn} {next : ℕ} → Stands chunk n p place insn next → (r : Range) (rs : List Range)
    → registers_of insn ≡ r ∷ rs → fits_range p.registers r ≡ true
first_range {chunk} {n} {p} {place} {insn} {next} at r rs e =
    (both (fits_range p.registers r) (list_all (fits_range p.registers) rs)
    (sym (ap (list_all (fits_range p.registers)) e) ∙ (both (list_all (fits_range p.registers) (registers_of insn)) (is_own insn) at.rules.registers).0)).0

pub own_register : {chunk : ChunkOf} {n : ℕ} {p : ProtoOf} {place : ℕ} {insn : Insn} {next : ℕ} → Stands chunk n p place insn next → (to : ℕ) (rs : List Range)
    → registers_of insn ≡ (to, 1) ∷ rs → to < p.registers
own_register at to rs e = let k = first_range at (to, 1) rs e in grind (arith, nat_tests)

pub own_three : {chunk : ChunkOf} {n : ℕ} {p : ProtoOf} {place : ℕ} {insn : Insn} {next : ℕ} → Stands chunk n p place insn next → (a : ℕ) (rs : List Range)
    → registers_of insn ≡ (a, 3) ∷ rs → a + 2 < p.registers
own_three at a rs e = let k = first_range at (a, 3) rs e in grind (arith, nat_tests)

pub own_loop : {chunk : ChunkOf} {n : ℕ} {p : ProtoOf} {place : ℕ} {insn : Insn} {next : ℕ} → Stands chunk n p place insn next → (a x : ℕ) (rs : List Range)
    → registers_of insn ≡ (a, 3 + x) ∷ rs → a + (3 + x) ≤ p.registers
own_loop at a x rs e = let k = first_range at (a, 3 + x) rs e in grind (arith, nat_tests)

pub stands_line : (chunk : ChunkOf) (n : ℕ) (p : ProtoOf) → IsSound chunk n p → (before : List Line) (l : Line) (after : List Line)
    → lines p.code ≡ before ++ l ∷ after → is_capture l.insn ≡ false → Stands chunk n p l.place l.insn l.next
stands_line chunk n p s before l after split runs = record {
  before = before;
  after = after;
  split = split;
  read = line_read p.code before l after split;
  rules = rules_kept chunk n p s before l after split;
  runs = runs;
}

pub stands_at : (chunk : ChunkOf) (n : ℕ) (p : ProtoOf) (place : ℕ) → IsSound chunk n p → (i : IsPlace p place)
    → Stands chunk n p place i.line.insn i.line.next
stands_at chunk n p place s i =
    subst (λ at. Stands chunk n p at i.line.insn i.line.next) i.there (stands_line chunk n p s i.before i.line i.after i.split i.runs)

module _ (chunk : ChunkOf) (n : ℕ) (p : ProtoOf) (place : ℕ) (insn : Insn) (next : ℕ) (s : IsSound chunk n p) (at : Stands chunk n p place insn next)
  where
    -- the code goes on behind it
    pub goes_on : is_end insn ≡ false → is_closure_or_capture insn ≡ false → IsPlace p next
    goes_on goes plain = next_place chunk n p s at.before (record { place = place; insn = insn; next = next }) at.after at.split goes plain

    pub leads : (by : ℤ) → jump_of insn ≡ Some by → LeadsTo p place by
    leads by is = leads_to p place by (sym (ap (may_land p.vararg (landings false false (lines p.code)) place) is) ∙ at.rules.lands)

    pub leads_on : (by : ℤ) → jump_of insn ≡ Some by → goes_back insn ≡ false → LeadsOn p place by
    leads_on by is ahead =
        let turns = (both (turns_well place insn (jump_of insn)) _ at.rules.turns).0 in
        let same : same_truth (goes_back insn) (int_le (target place by) (pos place)) ≡ true = sym (ap (turns_well place insn) is) ∙ turns in
        on_words p place by (leads by is)
        (negated (int_le (target place by) (pos place)) (sym (ap (λ b. same_truth b (int_le (target place by) (pos place))) ahead) ∙ same))
      where
        negated : (b : Bool) → not b ≡ true → b ≡ false
        negated true e = absurd cc
        negated false e = refl

    pub leads_back : (by : ℤ) → jump_of insn ≡ Some by → goes_back insn ≡ true → LeadsBack place by
    leads_back by is back =
        let turns = (both (turns_well place insn (jump_of insn)) _ at.rules.turns).0 in
        let same : same_truth (goes_back insn) (int_le (target place by) (pos place)) ≡ true = sym (ap (turns_well place insn) is) ∙ turns in
        back_words p place by (leads by is) (sym (ap (λ b. same_truth b (int_le (target place by) (pos place))) back) ∙ same)
