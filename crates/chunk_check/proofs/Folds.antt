-- The first fault of a function's instructions, and of a chunk's functions.
use Rattle.std.proofs.Common.{◌≡◌, refl, sym, ap, ◌∙◌, ℕ, ◌+◌, ◌-◌, ◌<◌, false, ◌&&◌, ◌||◌, not, List, [], ◌∷◌, ◌++◌, length, drop, take, map, Option, Some, None, nat_eq, get_or, add-one, arith}
use Rattle.std.specs.Prelude.{slice_get}
use Rattle.std.specs.List.{list_all}
use Rattle.std.proofs.Math.Seq.{drop-cons}
use Rattle.std.proofs.lemmas.List.{length-drop, take_all}
use Rattle.op_words.specs.declared.chunk.Proto.{Proto}
use Rattle.op_words.specs.Chunks.{ChunkOf, ProtoOf, proto_of}
use Rattle.machine_meaning.specs.Chunks.{proto_at}
use Rattle.machine_meaning.specs.Needs as needs
use Rattle.machine_meaning.specs.WellFormed as rules
use Rattle.machine_meaning.specs.WellFormed.{CodeFault, first_of, line_faults, broken, passing, at_place, at_start, landings}
use Rattle.chunk_check.specs.declared.lines.Line.{Line}
use Rattle.chunk_check.specs.Lines.{line_of, lines_of}
use Rattle.chunk_check.specs.Faults.{sooner, located}
use Rattle.chunk_check.proofs.First.{first_append, first_of_nine, sooner_sooner}

-- ---- instructions

-- the first fault of an instruction has its first rule
broken_first : (chunk : ChunkOf) (n : ℕ) (p : ProtoOf) (all : List needs.Line) (places : List ℕ) (b : rules.Before) (l : needs.Line) (ls : List needs.Line)
    → first_of (at_place n l.place (broken chunk n p all places b l ls)) ≡ located n l.place (slice_get (broken chunk n p all places b l ls) 0)
broken_first chunk n p all places b l ls =
    first_of_nine n l.place
    (needs.is_known l.insn)
    (list_all (needs.fits_range p.registers) (needs.registers_of l.insn) && needs.is_own l.insn)
    (list_all (needs.finds chunk n) (needs.constants_of l.insn))
    (needs.all_below p.upvalues (needs.upvalue_of l.insn))
    (needs.has_child p l.insn)
    (rules.may_land p.vararg places l.place (needs.jump_of l.insn))
    (rules.turns_well l.place l.insn (needs.jump_of l.insn) && rules.pairs_well all l.place l.insn)
    (rules.captures_well chunk p ls l.insn && (not (needs.is_capture l.insn) || b.closes) && rules.calls_well l.place ls l.insn)
    (rules.is_read (needs.sets_top l.insn) ls && rules.is_set b.sets b.fast_two b.sets_three (needs.reads_top l.insn))

-- the fault so far, and the first one of the rest of the lines, give the first of all
pub record LinesSoFar (chunk : ChunkOf) (n : ℕ) (p : ProtoOf) (all : List needs.Line) (before : rules.Before) (found : Option CodeFault) (k : ℕ) (ls : List Line) : Type 0 where
  pub first :
      sooner found (first_of (line_faults chunk n p all (landings false false all) before (lines_of (drop k ls))))
      ≡ first_of (line_faults chunk n p all (landings false false all) at_start all)

one_line : (chunk : ChunkOf) (n : ℕ) (p : ProtoOf) (all : List needs.Line) (places : List ℕ) (b : rules.Before) (l : needs.Line) (ls : List needs.Line) (found : Option CodeFault) →
    sooner (sooner found (located n l.place (slice_get (broken chunk n p all places b l ls) 0))) (first_of (line_faults chunk n p all places (passing b l.insn) ls))
    ≡ sooner found (first_of (line_faults chunk n p all places b (l ∷ ls)))
one_line chunk n p all places b l ls found =
    let here = at_place n l.place (broken chunk n p all places b l ls) in
    let more = line_faults chunk n p all places (passing b l.insn) ls in
    sym (sooner_sooner found (located n l.place (slice_get (broken chunk n p all places b l ls) 0)) (first_of more))
    ∙ ap (λ o. sooner found (sooner o (first_of more))) (sym (broken_first chunk n p all places b l ls))
    ∙ ap (sooner found) (sym (first_append here more))

pub rest_of : (ls : List Line) (k : ℕ) → lines_of (take (length ls - k) (drop k ls)) ≡ lines_of (drop k ls)
rest_of ls k = ap lines_of (take_all (length ls - k) (drop k ls) (omega (arith, length-drop k ls)))

pub line_more : (chunk : ChunkOf) (n : ℕ) (p : ProtoOf) (all : List needs.Line) (before after : rules.Before) (found here new : Option CodeFault) (rule : Option ℕ) (k : ℕ) (ls : List Line) (d : Line)
    → k < length ls → LinesSoFar chunk n p all before found k ls
    → after ≡ passing before (get_or ls k d).insn
    → rule ≡ slice_get (broken chunk n p all (landings false false all) before (line_of (get_or ls k d)) (lines_of (take (length ls - (k + 1)) (drop (k + 1) ls)))) 0
    → here ≡ located n (get_or ls k d).place rule
    → new ≡ sooner found here
    → LinesSoFar chunk n p all after new (k + 1) ls
line_more chunk n p all before after found here new rule k ls d l so e f g h =
    let places = landings false false all in
    let line = line_of (get_or ls k d) in
    let rest = lines_of (drop (k + 1) ls) in
    let lines : lines_of (drop k ls) ≡ line ∷ rest = ap lines_of (drop-cons ls k d l) ∙ ap (λ m. line ∷ lines_of (drop m ls)) (sym (add-one k)) in
    let first : new ≡ sooner found (located n line.place (slice_get (broken chunk n p all places before line rest) 0)) =
    h ∙ ap (sooner found) (g ∙ ap (located n line.place) (f ∙ ap (λ ls. slice_get (broken chunk n p all places before line ls) 0) (rest_of ls (k + 1)))) in
    record {
      first =
          ap (λ b. sooner new (first_of (line_faults chunk n p all places b rest))) e
          ∙ ap (λ o. sooner o (first_of (line_faults chunk n p all places (passing before line.insn) rest))) first
          ∙ one_line chunk n p all places before line rest found
          ∙ sym (ap (λ lines. sooner found (first_of (line_faults chunk n p all places before lines))) lines)
          ∙ so.first;
    }

-- ---- functions

pub whole_function : (chunk : ChunkOf) (n size : ℕ) (p : ProtoOf) (ls ms ns : List needs.Line) (line end start : Option CodeFault)
    → ls ≡ needs.lines p.code → ms ≡ ls → ns ≡ ls → size ≡ length p.code
    → line ≡ first_of (line_faults chunk n p ls (landings false false ls) at_start ls)
    → end ≡ first_of (rules.end_faults (nat_eq (needs.behind ms 0) size) n ms)
    → start ≡ first_of (at_place n 0 (rules.unless (list_all (needs.is_sound chunk n) p.consts) 3 ++ rules.unless (rules.is_proto n p ns) 11))
    → sooner (sooner line end) start ≡ first_of (rules.proto_faults chunk n p)
whole_function chunk n size p ls ms ns line end start e m o s f g h =
    let lines = needs.lines p.code in
    let first = λ (ls : List needs.Line). line_faults chunk n p ls (landings false false ls) at_start ls in
    let end_by = λ (size : ℕ) (ls : List needs.Line). rules.end_faults (nat_eq (needs.behind ls 0) size) n ls in
    let last = end_by (length p.code) in
    let whole = λ (ls : List needs.Line). at_place n 0 (rules.unless (list_all (needs.is_sound chunk n) p.consts) 3 ++ rules.unless (rules.is_proto n p ls) 11) in
    ap (λ o. sooner (sooner o end) start) f
    ∙ ap (λ o. sooner (sooner (first_of (first ls)) o) start) (g ∙ ap (λ size. first_of (end_by size ms)) s ∙ ap (λ ls. first_of (last ls)) m)
    ∙ ap (λ o. sooner (sooner (first_of (first ls)) (first_of (last ls))) o) (h ∙ ap (λ ls. first_of (whole ls)) o)
    ∙ ap (λ (ls : List needs.Line). sooner (sooner (first_of (first ls)) (first_of (last ls))) (first_of (whole ls))) e
    ∙ ap (λ o. sooner o (first_of (whole lines))) (sym (first_append (first lines) (last lines)))
    ∙ sym (first_append (first lines ++ last lines) (whole lines))

-- ---- a chunk

pub main_and_all : (chunk : ChunkOf) (main : Option CodeFault)
    → main ≡ first_of (at_place 0 0 (rules.unless (rules.is_main (proto_at chunk chunk.main)) 11))
    → sooner main (first_of (rules.all_faults chunk 0 chunk.protos)) ≡ rules.code_fault chunk
unfolding rules.code_fault rules.code_faults
main_and_all chunk main e =
    ap (λ o. sooner o (first_of (rules.all_faults chunk 0 chunk.protos))) e
    ∙ sym (first_append (at_place 0 0 (rules.unless (rules.is_main (proto_at chunk chunk.main)) 11)) (rules.all_faults chunk 0 chunk.protos))

-- one more function
pub one_function : (chunk : ChunkOf) (n : ℕ) (ps : List Proto) (d : Proto) (found here new : Option CodeFault) → n < length ps
    → here ≡ first_of (rules.proto_faults chunk n (proto_of (get_or ps n d)))
    → new ≡ sooner found here
    → sooner new (first_of (rules.all_faults chunk (n + 1) (map proto_of (drop (n + 1) ps))))
    ≡ sooner found (first_of (rules.all_faults chunk n (map proto_of (drop n ps))))
one_function chunk n ps d found here new l e f =
    let p = proto_of (get_or ps n d) in
    let rest = map proto_of (drop (n + 1) ps) in
    let more = rules.all_faults chunk (n + 1) rest in
    let functions : map proto_of (drop n ps) ≡ p ∷ rest = ap (map proto_of) (drop-cons ps n d l) ∙ ap (λ m. p ∷ map proto_of (drop m ps)) (sym (add-one n)) in
    ap (λ o. sooner o (first_of more)) (f ∙ ap (sooner found) e)
    ∙ sym (sooner_sooner found (first_of (rules.proto_faults chunk n p)) (first_of more))
    ∙ ap (sooner found) (sym (first_append (rules.proto_faults chunk n p) more))
    ∙ ap (λ m. sooner found (first_of (rules.proto_faults chunk n p ++ rules.all_faults chunk m rest))) (add-one n)
    ∙ sym (ap (λ fs. sooner found (first_of (rules.all_faults chunk n fs))) functions)

no_fault : (fs : List CodeFault) → None ≡ first_of fs → fs ≡ []
no_fault [] e = refl
no_fault (f ∷ fs) e = cc

differ : (f : CodeFault) → Some f ≡ None → ⊥
differ f e = cc

-- without a fault it is well formed, and with one it is not
pub is_well_formed : (chunk : ChunkOf) → None ≡ rules.code_fault chunk → rules.IsWellFormed chunk
unfolding rules.code_fault
is_well_formed chunk e = no_fault (rules.code_faults chunk) e

pub is_not_well_formed : (chunk : ChunkOf) (f : CodeFault) → Some f ≡ rules.code_fault chunk → ¬ rules.IsWellFormed chunk
unfolding rules.code_fault
is_not_well_formed chunk f e w = let none : rules.code_fault chunk ≡ None = ap first_of w in differ f (e ∙ none)
