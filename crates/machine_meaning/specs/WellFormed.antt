-- Well-formed chunks: code that never lacks an operand, whatever it computes. One rule a number, and the first broken one.
use Rattle.std.specs.Prelude.{◌≡◌, ℕ, suc, ◌+◌, ℤ, pos, negsuc, int_le, Bool, true, false, not, ◌&&◌, ◌||◌, nat_eq, nat_lt, nat_le, List, [], ◌∷◌, ◌++◌, length, drop, map, Option, Some, None, is_some, if◌then◌else◌}
use Rattle.std.specs.List.{list_any, list_all}
use Rattle.op_words.specs.declared.insn.Insn.{Insn}
use Rattle.op_words.specs.declared.insn.Insn.TheVariants.{Move, NewClosure, Call, Return, JumpBack, ForNPrep, ForNLoop, ForGPrep, ForGLoop, PrepVarargs, FastCall, FastCall1, FastCall2, FastCall2K}
use Rattle.op_words.specs.Chunks.{ChunkOf, ProtoOf}
use Rattle.machine_meaning.specs.Chunks.{proto_at}
use Rattle.machine_meaning.specs.Needs.{lines, behind, registers_of, fits_range, is_own, is_known, constants_of, finds, is_sound, upvalue_of, all_below, child_of, has_child, jump_of, target, goes_back, is_fast, is_capture, sets_top, reads_top, bound_by, Line}

-- a broken rule, with its function and place
pub record CodeFault : Type 0 where
  pub proto : ℕ
  pub place : ℕ
  pub rule : ℕ

-- the places where a jump may lead
abbrev pub landings : (fast_before fast_two_before : Bool) → List Line → List ℕ
landings a b [] = []
landings a b (l ∷ ls) =
    if bound_by a b l.insn then landings (is_fast l.insn) a ls else l.place ∷ landings (is_fast l.insn) a ls

abbrev pub lands : Bool → List ℕ → ℤ → Bool
lands vararg places (pos t) = list_any (nat_eq t) places && not (vararg && nat_eq t 0)
lands vararg places (negsuc t) = false

abbrev pub may_land : Bool → List ℕ → ℕ → Option ℤ → Bool
may_land vararg places place None = true
may_land vararg places place (Some by) = lands vararg places (target place by)

-- the instruction at a place, and the one that ends there
abbrev pub line_at : List Line → ℤ → Option Insn
line_at [] t = None
line_at (l ∷ ls) t = if int_le (pos l.place) t && int_le t (pos l.place) then Some l.insn else line_at ls t

abbrev pub line_before : List Line → ℤ → Option Insn
line_before [] t = None
line_before (l ∷ ls) t = if int_le (pos l.next) t && int_le t (pos l.next) then Some l.insn else line_before ls t

abbrev pub is_generic_loop : ℕ → Option Insn → Bool
is_generic_loop a (Some (ForGLoop b d x)) = nat_eq a b
is_generic_loop a _ = false

abbrev pub is_numeric_loop : ℕ → Option Insn → Bool
is_numeric_loop a (Some (ForNLoop b d)) = nat_eq a b
is_numeric_loop a _ = false

abbrev pub same_truth : Bool → Bool → Bool
same_truth true b = b
same_truth false b = not b

abbrev pub turns_well : ℕ → Insn → Option ℤ → Bool
turns_well place insn None = true
turns_well place insn (Some by) = same_truth (goes_back insn) (int_le (target place by) (pos place))

abbrev pub pairs_well : List Line → ℕ → Insn → Bool
pairs_well ls place (ForGPrep a d) = is_generic_loop a (line_at ls (target place d))
pairs_well ls place (ForNPrep a d) = is_numeric_loop a (line_before ls (target place d))
pairs_well ls place _ = true

-- ---- pairs

abbrev pub first_insn : List Line → Option Insn
first_insn [] = None
first_insn (l ∷ ls) = Some l.insn

abbrev pub is_call_at : ℕ → Option Insn → Bool
is_call_at r (Some (Call a b c)) = nat_eq a r
is_call_at r _ = false

abbrev pub is_move_before : Insn → Insn → Bool
is_move_before (Move a b) call = nat_eq a b && is_call_at a (Some call)
is_move_before _ call = false

abbrev pub is_move_and_call : (over : ℕ) → (place : ℕ) → List Line → Bool
is_move_and_call over place (m ∷ c ∷ ls) = is_move_before m.insn c.insn && nat_eq c.place (place + 1 + over)
is_move_and_call over place _ = false

abbrev pub is_builtin : ℕ → Bool
is_builtin n = nat_le 1 n && nat_le n 17

-- the lines that follow are what a fast call needs
abbrev pub calls_well : ℕ → List Line → Insn → Bool
calls_well place ls (FastCall a c) = is_builtin a && is_move_and_call c place ls
calls_well place ls (FastCall1 a b c) = is_builtin a && is_move_and_call c place ls
calls_well place ls (FastCall2 a b c x) = is_builtin a && is_move_and_call c place ls
calls_well place ls (FastCall2K a b c x) = is_builtin a && is_move_and_call c place ls
calls_well place ls _ = true

-- how many captures stand first
abbrev pub leading : List Line → ℕ
leading [] = 0
leading (l ∷ ls) = if is_capture l.insn then suc (leading ls) else 0

abbrev pub upvalues_of : Option ProtoOf → ℕ
upvalues_of None = 0
upvalues_of (Some p) = p.upvalues

abbrev pub upvalues_at : ChunkOf → Option ℕ → ℕ
upvalues_at chunk None = 0
upvalues_at chunk (Some c) = upvalues_of (proto_at chunk c)

abbrev pub captures_well : ChunkOf → ProtoOf → List Line → Insn → Bool
captures_well chunk p ls (NewClosure a d) = nat_eq (leading ls) (upvalues_at chunk (child_of p d))
captures_well chunk p ls _ = true

-- ---- lists without an end

-- behind a fast call and its move
abbrev pub past_fast : List Line → List Line
past_fast [] = []
past_fast (l ∷ ls) = if is_fast l.insn then drop 1 ls else l ∷ ls

abbrev pub at_least : Option ℕ → ℕ → Bool
at_least None a = false
at_least (Some f) a = nat_le f a

abbrev pub reader_of : Option Insn → Option ℕ
reader_of None = None
reader_of (Some insn) = reads_top insn

-- what sets the end of a list is followed by what reads it
abbrev pub is_read : Option ℕ → List Line → Bool
is_read None ls = true
is_read (Some a) ls = at_least (reader_of (first_insn (past_fast ls))) a

-- what reads it follows what sets it, behind a fast call and its move
abbrev pub is_set : (sets_before fast_two_before sets_three_before : Bool) → Option ℕ → Bool
is_set a b c None = true
is_set a b c (Some f) = a || b && c

-- ---- the rules

abbrev pub unless : Bool → ℕ → List ℕ
unless true rule = []
unless false rule = rule ∷ []

-- what stands before a line: whether the last one is fast, and the one before it; whether the last one is a NEWCLOSURE or a
-- capture; and whether the last one, the one before it and the one before both set the end of a list
pub record Before : Type 0 where
  pub fast : Bool
  pub fast_two : Bool
  pub closes : Bool
  pub sets : Bool
  pub sets_two : Bool
  pub sets_three : Bool

abbrev pub is_closure_or_capture : Insn → Bool
is_closure_or_capture (NewClosure a d) = true
is_closure_or_capture insn = is_capture insn

abbrev pub passing : Before → Insn → Before
passing b insn = record { fast = is_fast insn; fast_two = b.fast; closes = is_closure_or_capture insn; sets = is_some (sets_top insn); sets_two = b.sets; sets_three = b.sets_two }

-- the rules that an instruction breaks, where these lines stand behind it
abbrev pub broken : ChunkOf → (proto : ℕ) → ProtoOf → (all : List Line) → (landings : List ℕ) → Before → Line → List Line → List ℕ
broken chunk n p all places b l ls =
    unless (is_known l.insn) 1
    ++ unless (list_all (fits_range p.registers) (registers_of l.insn) && is_own l.insn) 2
    ++ unless (list_all (finds chunk n) (constants_of l.insn)) 3
    ++ unless (all_below p.upvalues (upvalue_of l.insn)) 4
    ++ unless (has_child p l.insn) 5
    ++ unless (may_land p.vararg places l.place (jump_of l.insn)) 6
    ++ unless (turns_well l.place l.insn (jump_of l.insn) && pairs_well all l.place l.insn) 7
    ++ unless (captures_well chunk p ls l.insn && (not (is_capture l.insn) || b.closes) && calls_well l.place ls l.insn) 8
    ++ unless (is_read (sets_top l.insn) ls && is_set b.sets b.fast_two b.sets_three (reads_top l.insn)) 9

abbrev pub at_place : (proto place : ℕ) → List ℕ → List CodeFault
at_place n place rules = map (λ r. record { proto = n; place = place; rule = r }) rules

abbrev pub line_faults : ChunkOf → (proto : ℕ) → ProtoOf → (all : List Line) → (landings : List ℕ) → Before → List Line → List CodeFault
line_faults chunk n p all places b [] = []
line_faults chunk n p all places b (l ∷ ls) =
    at_place n l.place (broken chunk n p all places b l ls) ++ line_faults chunk n p all places (passing b l.insn) ls

-- code ends with a return or a jump back
abbrev pub is_end : Insn → Bool
is_end (Return a b) = true
is_end (JumpBack d) = true
is_end _ = false

abbrev pub fall_faults : (proto : ℕ) → List Line → List CodeFault
fall_faults n [] = at_place n 0 (10 ∷ [])
fall_faults n (l ∷ []) = at_place n l.place (unless (is_end l.insn) 10)
fall_faults n (l ∷ m ∷ ls) = fall_faults n (m ∷ ls)

-- the instructions take all words, of which the last ones are the last instruction's
abbrev pub end_faults : Bool → (proto : ℕ) → List Line → List CodeFault
end_faults true n ls = fall_faults n ls
end_faults false n ls = at_place n (behind ls 0) (1 ∷ [])

-- PREPVARARGS with the number of parameters
abbrev pub is_prep : ℕ → Insn → Bool
is_prep params (PrepVarargs a) = nat_eq a params
is_prep params _ = false

abbrev pub is_any_prep : Insn → Bool
is_any_prep (PrepVarargs a) = true
is_any_prep _ = false

abbrev pub has_no_prep : List Line → Bool
has_no_prep ls = not (list_any (λ (l : Line). is_any_prep l.insn) ls)

-- it is first exactly in a function of any number of arguments, and nowhere else
abbrev pub is_prepared : (params : ℕ) → (vararg : Bool) → List Line → Bool
is_prepared params false ls = has_no_prep ls
is_prepared params true [] = false
is_prepared params true (l ∷ ls) = is_prep params l.insn && has_no_prep ls

abbrev pub is_proto : (proto : ℕ) → ProtoOf → List Line → Bool
is_proto n p ls =
    nat_le 1 p.registers && nat_le p.registers 250 && nat_le p.params p.registers
    && list_all (λ c. nat_lt c n) p.children && is_prepared p.params p.vararg ls

abbrev pub at_start : Before
at_start = record { fast = false; fast_two = false; closes = false; sets = false; sets_two = false; sets_three = false }

abbrev pub proto_faults : ChunkOf → (proto : ℕ) → ProtoOf → List CodeFault
proto_faults chunk n p =
    let ls = lines p.code in
    line_faults chunk n p ls (landings false false ls) at_start ls
    ++ end_faults (nat_eq (behind ls 0) (length p.code)) n ls
    ++ at_place n 0 (unless (list_all (is_sound chunk n) p.consts) 3 ++ unless (is_proto n p ls) 11)

abbrev pub all_faults : ChunkOf → (proto : ℕ) → List ProtoOf → List CodeFault
all_faults chunk n [] = []
all_faults chunk n (p ∷ ps) = proto_faults chunk n p ++ all_faults chunk (suc n) ps

abbrev pub is_main : Option ProtoOf → Bool
is_main None = false
is_main (Some p) = p.vararg && nat_eq p.params 0 && nat_eq p.upvalues 0

unfoldable pub code_faults : ChunkOf → List CodeFault
code_faults chunk = at_place 0 0 (unless (is_main (proto_at chunk chunk.main)) 11) ++ all_faults chunk 0 chunk.protos

-- ---- which fault is named

-- by function, then by place, then by the number of the rule
abbrev pub precedes : CodeFault → CodeFault → Bool
precedes a b =
    nat_lt a.proto b.proto
    || nat_eq a.proto b.proto && (nat_lt a.place b.place || nat_eq a.place b.place && nat_lt a.rule b.rule)

abbrev pub earlier : CodeFault → Option CodeFault → CodeFault
earlier a None = a
earlier a (Some b) = if precedes b a then b else a

abbrev pub first_of : List CodeFault → Option CodeFault
first_of [] = None
first_of (a ∷ more) = Some (earlier a (first_of more))

-- the first broken rule
unfoldable pub code_fault : ChunkOf → Option CodeFault
code_fault chunk = first_of (code_faults chunk)

-- no rule is broken
abbrev pub IsWellFormed : ChunkOf → Type 0
IsWellFormed chunk = code_faults chunk ≡ []
