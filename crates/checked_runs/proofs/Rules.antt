-- What well-formed code keeps at each line.
use Rattle.std.proofs.Common.{◌≡◌, refl, sym, ap, ◌∙◌, ℕ, zero, suc, ◌+◌, Bool, true, false, ◌&&◌, ◌||◌, not, List, [], ◌∷◌, ◌++◌, length, Some, arith, nat_eq, subst}
use Rattle.std.specs.Prelude.{slice_get}
use Rattle.std.specs.List.{list_all}
use Rattle.op_words.specs.Chunks.{ChunkOf, ProtoOf}
use Rattle.machine_meaning.specs.Chunks.{proto_at}
use Rattle.machine_meaning.specs.Needs.{Line, lines, behind, registers_of, fits_range, is_own, is_known, constants_of, finds, is_sound, upvalue_of, all_below, has_child, jump_of, is_capture, sets_top, reads_top}
use Rattle.machine_meaning.specs.WellFormed.{Before, unless, at_place, broken, passing, line_faults, end_faults, proto_faults, all_faults, code_faults, IsWellFormed, landings, at_start, is_proto, is_main, may_land, turns_well, pairs_well, captures_well, calls_well, is_read, is_set}

pub both : (a b : Bool) → (a && b) ≡ true → (a ≡ true) × (b ≡ true)
both true b e = (refl, e)
both false b e = absurd cc

pub front_empty : {X : Type 0} (xs ys : List X) → xs ++ ys ≡ [] → xs ≡ []
front_empty [] ys e = refl
front_empty (x ∷ xs) ys e = absurd cc

pub rest_empty : {X : Type 0} (xs ys : List X) → xs ++ ys ≡ [] → ys ≡ []
rest_empty [] ys e = e
rest_empty (x ∷ xs) ys e = absurd cc

none_placed : (n place : ℕ) (rules : List ℕ) → at_place n place rules ≡ [] → rules ≡ []
none_placed n place [] e = refl
none_placed n place (r ∷ rs) e = absurd cc

kept : (b : Bool) (rule : ℕ) → unless b rule ≡ [] → b ≡ true
kept true rule e = refl
kept false rule e = absurd cc

-- the rules of an instruction, one by one
pub record KeepsRules (chunk : ChunkOf) (n : ℕ) (p : ProtoOf) (b : Before) (l : Line) (after : List Line) : Type 0 where
  pub known : is_known l.insn ≡ true
  pub registers : (list_all (fits_range p.registers) (registers_of l.insn) && is_own l.insn) ≡ true
  pub constants : list_all (finds chunk n) (constants_of l.insn) ≡ true
  pub upvalue : all_below p.upvalues (upvalue_of l.insn) ≡ true
  pub child : has_child p l.insn ≡ true
  pub lands : may_land p.vararg (landings false false (lines p.code)) l.place (jump_of l.insn) ≡ true
  pub turns : (turns_well l.place l.insn (jump_of l.insn) && pairs_well (lines p.code) l.place l.insn) ≡ true
  pub pairs : (captures_well chunk p after l.insn && (not (is_capture l.insn) || b.closes) && calls_well l.place after l.insn) ≡ true
  pub tops : (is_read (sets_top l.insn) after && is_set b.sets b.fast_two b.sets_three (reads_top l.insn)) ≡ true

nine : (a b c d e f g h i : Bool)
    → unless a 1 ++ unless b 2 ++ unless c 3 ++ unless d 4 ++ unless e 5 ++ unless f 6 ++ unless g 7 ++ unless h 8 ++ unless i 9 ≡ []
    → (a ≡ true) × (b ≡ true) × (c ≡ true) × (d ≡ true) × (e ≡ true) × (f ≡ true) × (g ≡ true) × (h ≡ true) × (i ≡ true)
nine false b c d e f g h i k = absurd cc
nine true false c d e f g h i k = absurd cc
nine true true false d e f g h i k = absurd cc
nine true true true false e f g h i k = absurd cc
nine true true true true false f g h i k = absurd cc
nine true true true true true false g h i k = absurd cc
nine true true true true true true false h i k = absurd cc
nine true true true true true true true false i k = absurd cc
nine true true true true true true true true false k = absurd cc
nine true true true true true true true true true k = (refl, refl, refl, refl, refl, refl, refl, refl, refl)

keeps_rules : (chunk : ChunkOf) (n : ℕ) (p : ProtoOf) (b : Before) (l : Line) (after : List Line)
    → broken chunk n p (lines p.code) (landings false false (lines p.code)) b l after ≡ [] → KeepsRules chunk n p b l after
keeps_rules chunk n p b l after e =
    let k = nine (is_known l.insn) (list_all (fits_range p.registers) (registers_of l.insn) && is_own l.insn)
    (list_all (finds chunk n) (constants_of l.insn)) (all_below p.upvalues (upvalue_of l.insn)) (has_child p l.insn)
    (may_land p.vararg (landings false false (lines p.code)) l.place (jump_of l.insn))
    (turns_well l.place l.insn (jump_of l.insn) && pairs_well (lines p.code) l.place l.insn)
    (captures_well chunk p after l.insn && (not (is_capture l.insn) || b.closes) && calls_well l.place after l.insn)
    (is_read (sets_top l.insn) after && is_set b.sets b.fast_two b.sets_three (reads_top l.insn)) e in
    record { known = k.0; registers = k.1; constants = k.2; upvalue = k.3; child = k.4; lands = k.5; turns = k.6; pairs = k.7; tops = k.8 }

-- ---- a line among the others

-- what stands before a line that follows these
abbrev pub passed : Before → List Line → Before
passed b [] = b
passed b (l ∷ ls) = passed (passing b l.insn) ls

line_keeps : (chunk : ChunkOf) (n : ℕ) (p : ProtoOf) (b : Before) (before : List Line) (l : Line) (after : List Line)
    → line_faults chunk n p (lines p.code) (landings false false (lines p.code)) b (before ++ l ∷ after) ≡ []
    → KeepsRules chunk n p (passed b before) l after
line_keeps chunk n p b [] l after e =
    keeps_rules chunk n p b l after
    (none_placed n l.place _ (front_empty _ (line_faults chunk n p (lines p.code) (landings false false (lines p.code)) (passing b l.insn) after) e))
line_keeps chunk n p b (m ∷ before) l after e =
    line_keeps chunk n p (passing b m.insn) before l after
    (rest_empty (at_place n m.place (broken chunk n p (lines p.code) (landings false false (lines p.code)) b m (before ++ l ∷ after))) _ e)

-- ---- functions

-- what a function of a well-formed chunk keeps
pub record IsSound (chunk : ChunkOf) (n : ℕ) (p : ProtoOf) : Type 0 where
  pub each : line_faults chunk n p (lines p.code) (landings false false (lines p.code)) at_start (lines p.code) ≡ []
  pub end : end_faults (nat_eq (behind (lines p.code) 0) (length p.code)) n (lines p.code) ≡ []
  pub constants : list_all (is_sound chunk n) p.consts ≡ true
  pub proto : is_proto n p (lines p.code) ≡ true

sound : (chunk : ChunkOf) (n : ℕ) (p : ProtoOf) → proto_faults chunk n p ≡ [] → IsSound chunk n p
sound chunk n p e =
    let ls = lines p.code in
    let each = line_faults chunk n p ls (landings false false ls) at_start ls in
    let ends = end_faults (nat_eq (behind ls 0) (length p.code)) n ls in
    let own = unless (list_all (is_sound chunk n) p.consts) 3 ++ unless (is_proto n p ls) 11 in
    let early : each ++ ends ≡ [] = front_empty (each ++ ends) (at_place n 0 own) e in
    let last : own ≡ [] = none_placed n 0 own (rest_empty (each ++ ends) (at_place n 0 own) e) in
    record {
      each = front_empty each ends early;
      end = rest_empty each ends early;
      constants = kept _ 3 (front_empty (unless (list_all (is_sound chunk n) p.consts) 3) (unless (is_proto n p ls) 11) last);
      proto = kept _ 11 (rest_empty (unless (list_all (is_sound chunk n) p.consts) 3) (unless (is_proto n p ls) 11) last);
    }

each_sound : (chunk : ChunkOf) (n m k : ℕ) (ps : List ProtoOf) (p : ProtoOf) → all_faults chunk n ps ≡ [] → slice_get ps k ≡ Some p → m ≡ n + k
    → IsSound chunk m p
each_sound chunk n m k [] p e g s = absurd cc
each_sound chunk n m zero (q ∷ ps) p e g s =
    let same : q ≡ p = cc in
    let place : n ≡ m = omega arith in
    subst (λ q. IsSound chunk m q) same
    (subst (λ m. IsSound chunk m q) place (sound chunk n q (front_empty (proto_faults chunk n q) (all_faults chunk (suc n) ps) e)))
each_sound chunk n m (suc k) (q ∷ ps) p e g s =
    each_sound chunk (suc n) m k ps p (rest_empty (proto_faults chunk n q) (all_faults chunk (suc n) ps) e) g (omega arith)

pub proto_sound : (chunk : ChunkOf) (n : ℕ) (p : ProtoOf) → IsWellFormed chunk → proto_at chunk n ≡ Some p → IsSound chunk n p
unfolding code_faults
proto_sound chunk n p e g =
    each_sound chunk 0 n n chunk.protos p
    (rest_empty (at_place 0 0 (unless (is_main (proto_at chunk chunk.main)) 11)) (all_faults chunk 0 chunk.protos) e) g (omega arith)

pub main_kept : (chunk : ChunkOf) → IsWellFormed chunk → is_main (proto_at chunk chunk.main) ≡ true
unfolding code_faults
main_kept chunk e =
    kept _ 11 (none_placed 0 0 (unless (is_main (proto_at chunk chunk.main)) 11)
    (front_empty (at_place 0 0 (unless (is_main (proto_at chunk chunk.main)) 11)) (all_faults chunk 0 chunk.protos) e))

-- each line keeps the rules
pub rules_kept : (chunk : ChunkOf) (n : ℕ) (p : ProtoOf) → IsSound chunk n p → (before : List Line) (l : Line) (after : List Line)
    → lines p.code ≡ before ++ l ∷ after → KeepsRules chunk n p (passed at_start before) l after
rules_kept chunk n p s before l after split =
    line_keeps chunk n p at_start before l after
    (sym (ap (λ ls. line_faults chunk n p (lines p.code) (landings false false (lines p.code)) at_start ls) split) ∙ s.each)
