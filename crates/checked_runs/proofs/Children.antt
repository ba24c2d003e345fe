-- The functions that closures are made of, and the calls over which fast calls go.
use Rattle.std.proofs.Common.{◌≡◌, refl, sym, ap, ◌∙◌, ℕ, ◌+◌, ◌<◌, ℤ, pos, negsuc, Bool, true, false, ◌&&◌, List, [], ◌∷◌, ◌++◌, length, Option, Some, None, arith, subst, nat_eq, nat_lt, nat_le, get_or, append_assoc}
use Rattle.std.specs.Prelude.{slice_get, is_some}
use Rattle.std.specs.Option.{option_and_then}
use Rattle.std.specs.List.{list_all}
use Rattle.std.proofs.lemmas.Bool.Decides.{nat_tests}
use Rattle.std.proofs.lemmas.Option.{slice_get-get_or, slice_get_within}
use Rattle.op_words.specs.declared.insn.Insn.{Insn}
use Rattle.op_words.specs.declared.insn.Insn.TheVariants.{Move, Call, NewClosure}
use Rattle.op_words.specs.Decoding.{insn_at}
use Rattle.op_words.specs.Chunks.{ChunkOf, ProtoOf}
use Rattle.machine_meaning.specs.Chunks.{proto_at}
use Rattle.machine_meaning.specs.Needs.{Line, lines, child_of}
use Rattle.machine_meaning.specs.WellFormed.{is_prepared, upvalues_at, upvalues_of, captures_well, leading, is_move_and_call, is_move_before, is_end, is_closure_or_capture}
use Rattle.machine_meaning.specs.States.{Frame, World, Taken}
use Rattle.machine_meaning.specs.Moves.{inside}
use Rattle.machine_meaning.specs.Effects as effects
use Rattle.machine_meaning.specs.Effects.{child_at, new_closure, captures, call_over}
use Rattle.checked_runs.specs.Places.{IsPlace}
use Rattle.checked_runs.specs.Safe.{Sizes, IsSafeMove}
use Rattle.checked_runs.proofs.Lines.{line_read}
use Rattle.checked_runs.proofs.Rules.{both, IsSound}
use Rattle.checked_runs.proofs.Places.{three, Stands, next_place}
use Rattle.checked_runs.proofs.Settings.{Setting}
use Rattle.checked_runs.proofs.Constants.{all_at}
use Rattle.checked_runs.proofs.Closures.{IsTaken, all_captured, makes_closure}

five : (a b c d e : Bool) → (a && b && c && d && e) ≡ true → d ≡ true
five true true true true e i = refl
five true true true false e i = absurd cc
five true true false d e i = absurd cc
five true false c d e i = absurd cc
five false b c d e i = absurd cc

-- a child is a function of the chunk, with a lower number
pub child_there : (chunk : ChunkOf) (n : ℕ) (p : ProtoOf) → IsSound chunk n p → proto_at chunk n ≡ Some p → (k c : ℕ)
    → slice_get p.children k ≡ Some c → (q : ProtoOf) × (proto_at chunk c ≡ Some q)
child_there chunk n p s at k c is =
    let all =
    five (nat_le 1 p.registers) (nat_le p.registers 250) (nat_le p.params p.registers) (list_all (λ c. nat_lt c n) p.children)
    (is_prepared p.params p.vararg (lines p.code)) s.proto in
    let lower = all_at (λ c. nat_lt c n) p.children k c all is in
    let few = slice_get_within chunk.protos n p at in
    let below : c < length chunk.protos = grind (arith, nat_tests) in
    (get_or chunk.protos c p, slice_get-get_or chunk.protos c p below)

child_is : (chunk : ChunkOf) (p : ProtoOf) (f : Frame) (d : ℤ) → proto_at chunk f.proto ≡ Some p → child_at chunk f d ≡ child_of p d
child_is chunk p f (pos d) at = ap (λ o. option_and_then (λ (p : ProtoOf). slice_get p.children d) o) at
child_is chunk p f (negsuc d) at = refl

module _ {chunk : ChunkOf} {z : Sizes} {p : ProtoOf} {f : Frame} {fs : List Frame} {w : World} (s : Setting chunk z p f fs w)
    (sound : IsSound chunk f.proto p) where
  made_of : (to : ℕ) (d : ℤ) (next : ℕ) → (at : Stands chunk f.proto p f.place (NewClosure to d) next) → (c : ℕ) (q : ProtoOf)
      → proto_at chunk c ≡ Some q
      → nat_eq (leading at.after) (upvalues_at chunk (Some c)) ≡ true → IsSafeMove chunk (new_closure chunk p.code (Some c) to next f fs w)
  made_of to d next at c q is e =
      let count : upvalues_at chunk (Some c) ≡ q.upvalues = ap upvalues_of is in
      let same : effects.upvalues_of (proto_at chunk c) ≡ q.upvalues = ap effects.upvalues_of is in
      let lead : leading at.after ≡ q.upvalues = grind (arith, nat_tests) in
      let start : Taken = record { taken = []; inside = inside f w } in
      let taken : IsTaken chunk z p fs 0 start = record { sizes = z; functions = refl; setting = s; many = refl; taken = tt } in
      let sum : 0 + q.upvalues ≡ q.upvalues = omega arith in
      let all =
      all_captured f.proto sound q.upvalues 0 q.upvalues sum at.before (record { place = f.place; insn = NewClosure to d; next = next }) at.after
      at.split refl lead start taken in
      subst (λ k. IsSafeMove chunk (effects.closure c (captures p.code k next start) to f fs w)) (sym same) (makes_closure s c q _ to is all)

  made_by : (to : ℕ) (d : ℤ) (next : ℕ) → (at : Stands chunk f.proto p f.place (NewClosure to d) next) → (o : Option ℕ) → child_of p d ≡ o
      → is_some o ≡ true
      → nat_eq (leading at.after) (upvalues_at chunk o) ≡ true → ((c : ℕ) → o ≡ Some c → (q : ProtoOf) × (proto_at chunk c ≡ Some q))
      → IsSafeMove chunk (new_closure chunk p.code o to next f fs w)
  made_by to d next at None e i c there = absurd cc
  made_by to d next at (Some c) e i k there = let q = there c refl in made_of to d next at c q.0 q.1 k

  there_is : (d : ℤ) (c : ℕ) → child_of p d ≡ Some c → (q : ProtoOf) × (proto_at chunk c ≡ Some q)
  there_is (pos d) c e = child_there chunk f.proto p sound s.frame.code d c e
  there_is (negsuc d) c e = absurd cc

  pub closes_over : (to : ℕ) (d : ℤ) (next : ℕ) → Stands chunk f.proto p f.place (NewClosure to d) next
      → IsSafeMove chunk (new_closure chunk p.code (child_at chunk f d) to next f fs w)
  closes_over to d next at =
      let pairs = three (captures_well chunk p at.after (NewClosure to d)) _ _ at.rules.pairs in
      subst (λ o. IsSafeMove chunk (new_closure chunk p.code o to next f fs w)) (sym (child_is chunk p f d s.frame.code))
      (made_by to d next at (child_of p d) refl at.rules.child pairs.0 (there_is d))

-- ---- fast calls

-- the call over which a fast call goes
pub record IsCallOver (p : ProtoOf) (code : List ℕ) (place : ℕ) : Type 0 where
  pub base : ℕ
  pub arguments : ℕ
  pub count : ℕ
  pub behind : ℕ
  pub is : insn_at code place ≡ Some (Call base arguments count, behind)
  pub goes : IsPlace p behind

record IsCall (insn : Insn) : Type 0 where
  base : ℕ
  arguments : ℕ
  count : ℕ
  is : insn ≡ Call base arguments count

called : (m c : Insn) → is_move_before m c ≡ true → IsCall c
called (Move a b) (Call x y k) e = record { base = x; arguments = y; count = k; is = refl }
called (Move a b) c e = let no : (nat_eq a b && false) ≡ true = e in absurd (ended (nat_eq a b) no)
  where
    ended : (b : Bool) → (b && false) ≡ true → ⊥
    ended true e = absurd cc
    ended false e = absurd cc
called m c e = absurd cc

pub call_found : (chunk : ChunkOf) (n : ℕ) (p : ProtoOf) → IsSound chunk n p → (before : List Line) (l : Line) (after : List Line)
    → lines p.code ≡ before ++ l ∷ after
    → (over : ℕ) → is_move_and_call over l.place after ≡ true → IsCallOver p p.code (l.place + 1 + over)
call_found chunk n p s before l [] split over e = absurd cc
call_found chunk n p s before l (m ∷ []) split over e = absurd cc
call_found chunk n p s before l (m ∷ c ∷ after) split over e =
    let parts = both (is_move_before m.insn c.insn) _ e in
    let there : c.place ≡ l.place + 1 + over = grind (arith, nat_tests) in
    let is = called m.insn c.insn parts.0 in
    let front : lines p.code ≡ (before ++ l ∷ m ∷ []) ++ c ∷ after = split ∙ sym (append_assoc before (l ∷ m ∷ []) (c ∷ after)) in
    let read = line_read p.code (before ++ l ∷ m ∷ []) c after front in
    record {
      base = is.base;
      arguments = is.arguments;
      count = is.count;
      behind = c.next;
      is = sym (ap (insn_at p.code) there) ∙ read.read ∙ ap (λ i. Some (i, c.next)) is.is;
      goes = next_place chunk n p s (before ++ l ∷ m ∷ []) c after front (ap is_end is.is) (ap is_closure_or_capture is.is);
    }
