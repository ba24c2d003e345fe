-- What instructions need: registers, constants, upvalues, children, places to jump to, and neighbours.
use Rattle.std.specs.Prelude.{ℕ, zero, suc, ◌+◌, ◌^◌, ◌/◌, ◌%◌, ℤ, pos, negsuc, ◌+ℤ◌, Bool, true, false, ◌&&◌, ◌||◌, nat_eq, nat_lt, nat_le, List, [], ◌∷◌, length, Option, Some, None, is_some, slice_get}
use Rattle.std.specs.List.{list_all}
use Rattle.op_words.specs.declared.insn.Insn.{Insn}
use Rattle.op_words.specs.declared.insn.Insn.TheVariants.{Nop, LoadNil, LoadB, LoadN, LoadK, Move, GetGlobal, SetGlobal, GetUpvalue, SetUpvalue, GetImport, GetTable, SetTable, GetTableKS, SetTableKS, GetTableN, SetTableN, NewClosure, NameCall, Call, Return, Jump, JumpBack, JumpIf, JumpIfNot, JumpIfEq, JumpIfLe, JumpIfLt, JumpIfNotEq, JumpIfNotLe, JumpIfNotLt, Add, Sub, Mul, Div, Mod, Pow, Idiv, AddK, SubK, MulK, DivK, ModK, PowK, IdivK, SubRK, DivRK, And, Or, AndK, OrK, Concat, Not, Minus, Length, NewTable, SetList, ForNPrep, ForNLoop, ForGPrep, ForGLoop, GetVarargs, Capture, FastCall, FastCall1, FastCall2, FastCall2K, JumpX, LoadKX, JumpXEqKNil, JumpXEqKB, JumpXEqKN, JumpXEqKS}
use Rattle.op_words.specs.Decoding.{insn_at}
use Rattle.op_words.specs.declared.chunk.Const.TheVariants as constant
use Rattle.op_words.specs.Chunks.{ChunkOf, ProtoOf}
use Rattle.op_words.specs.declared.chunk.Const.{Const}
use Rattle.machine_meaning.specs.Constants.{constant_at, indices_of, name_at}

-- an instruction with its place and the place behind its words
pub record Line : Type 0 where
  pub place : ℕ
  pub insn : Insn
  pub next : ℕ

-- ---- the instructions of a function, in order, up to the first place where none stands

abbrev pub then_line : ℕ → Option (Insn × ℕ) → (ℕ → List Line) → List Line
then_line place None rest = []
then_line place (Some (insn, next)) rest = record { place = place; insn = insn; next = next } ∷ rest next

abbrev pub lines_from : (most : ℕ) → List ℕ → ℕ → List Line
lines_from zero code place = []
lines_from (suc n) code place = then_line place (insn_at code place) (λ next. lines_from n code next)

abbrev pub lines : List ℕ → List Line
lines code = lines_from (length code) code 0

-- the place behind them
abbrev pub behind : List Line → ℕ → ℕ
behind [] place = place
behind (l ∷ ls) place = behind ls l.next

-- ---- what an instruction needs

-- registers from one on
abbrev pub Range : Type 0
Range = ℕ × ℕ

abbrev pub one : ℕ → Range
one r = (r, 1)

-- so many less one, or the first of a list without an end
abbrev pub listed : (from count : ℕ) → Range
listed from zero = (from, 1)
listed from (suc n) = (from, n)

abbrev pub three : ℕ → ℕ → ℕ → List Range
three a b c = one a ∷ one b ∷ one c ∷ []

abbrev pub two : ℕ → ℕ → List Range
two a b = one a ∷ one b ∷ []

-- the registers that are read or written
abbrev pub registers_of : Insn → List Range
registers_of (LoadNil a) = one a ∷ []
registers_of (LoadB a b c) = one a ∷ []
registers_of (LoadN a d) = one a ∷ []
registers_of (LoadK a d) = one a ∷ []
registers_of (Move a b) = two a b
registers_of (GetGlobal a x) = one a ∷ []
registers_of (SetGlobal a x) = one a ∷ []
registers_of (GetUpvalue a b) = one a ∷ []
registers_of (SetUpvalue a b) = one a ∷ []
registers_of (GetImport a d x) = one a ∷ []
registers_of (GetTable a b c) = three a b c
registers_of (SetTable a b c) = three a b c
registers_of (GetTableKS a b x) = two a b
registers_of (SetTableKS a b x) = two a b
registers_of (GetTableN a b c) = two a b
registers_of (SetTableN a b c) = two a b
registers_of (NewClosure a d) = one a ∷ []
registers_of (NameCall a b x) = three a (a + 1) b
registers_of (Call a b c) = one a ∷ listed (a + 1) b ∷ listed a c ∷ []
registers_of (Return a b) = listed a b ∷ []
registers_of (JumpIf a d) = one a ∷ []
registers_of (JumpIfNot a d) = one a ∷ []
registers_of (JumpIfEq a d x) = two a x
registers_of (JumpIfLe a d x) = two a x
registers_of (JumpIfLt a d x) = two a x
registers_of (JumpIfNotEq a d x) = two a x
registers_of (JumpIfNotLe a d x) = two a x
registers_of (JumpIfNotLt a d x) = two a x
registers_of (Add a b c) = three a b c
registers_of (Sub a b c) = three a b c
registers_of (Mul a b c) = three a b c
registers_of (Div a b c) = three a b c
registers_of (Mod a b c) = three a b c
registers_of (Pow a b c) = three a b c
registers_of (Idiv a b c) = three a b c
registers_of (AddK a b c) = two a b
registers_of (SubK a b c) = two a b
registers_of (MulK a b c) = two a b
registers_of (DivK a b c) = two a b
registers_of (ModK a b c) = two a b
registers_of (PowK a b c) = two a b
registers_of (IdivK a b c) = two a b
registers_of (SubRK a b c) = two a c
registers_of (DivRK a b c) = two a c
registers_of (And a b c) = three a b c
registers_of (Or a b c) = three a b c
registers_of (AndK a b c) = two a b
registers_of (OrK a b c) = two a b
registers_of (Concat a b c) = three a b c
registers_of (Not a b) = two a b
registers_of (Minus a b) = two a b
registers_of (Length a b) = two a b
registers_of (NewTable a) = one a ∷ []
registers_of (SetList a b c x) = one a ∷ listed b c ∷ []
registers_of (ForNPrep a d) = (a, 3) ∷ []
registers_of (ForNLoop a d) = (a, 3) ∷ []
registers_of (ForGPrep a d) = (a, 3) ∷ []
registers_of (ForGLoop a d x) = (a, 3 + x) ∷ []
registers_of (GetVarargs a b) = listed a b ∷ []
registers_of (Capture zero b) = one b ∷ []
registers_of (Capture (suc zero) b) = one b ∷ []
registers_of (FastCall1 a b c) = one b ∷ []
registers_of (FastCall2 a b c x) = two b x
registers_of (FastCall2K a b c x) = one b ∷ []
registers_of (JumpXEqKNil a d x) = one a ∷ []
registers_of (JumpXEqKB a d x) = one a ∷ []
registers_of (JumpXEqKN a d x) = one a ∷ []
registers_of (JumpXEqKS a d x) = one a ∷ []
registers_of (LoadKX a x) = one a ∷ []
registers_of _ = []

abbrev pub fits_range : ℕ → Range → Bool
fits_range count r = nat_eq r.1 0 || nat_le (r.0 + r.1) count

abbrev pub is_own : Insn → Bool
is_own (Concat a b c) = nat_lt b c
is_own (ForGLoop a d x) = nat_le 1 x
is_own _ = true

-- fields that hold only some numbers
abbrev pub is_known : Insn → Bool
is_known (Nop (pos n)) = nat_le n 1
is_known (Nop (negsuc n)) = false
is_known (Capture a b) = nat_le a 2
is_known _ = true

-- ---- constants

pub data Want : Type 0 where
  -- any but an import
  AValue : Want
  AName : Want
  ANumber : Want
  -- an import of this word
  AnImport : (word : ℕ) → Want

-- the constants that are read
abbrev pub constants_of : Insn → List (ℤ × Want)
constants_of (LoadK a d) = (d, AValue) ∷ []
constants_of (LoadKX a x) = (pos x, AValue) ∷ []
constants_of (GetGlobal a x) = (pos x, AName) ∷ []
constants_of (SetGlobal a x) = (pos x, AName) ∷ []
constants_of (GetImport a d x) = (d, AnImport x) ∷ []
constants_of (GetTableKS a b x) = (pos x, AName) ∷ []
constants_of (SetTableKS a b x) = (pos x, AName) ∷ []
constants_of (NameCall a b x) = (pos x, AName) ∷ []
constants_of (AddK a b c) = (pos c, AValue) ∷ []
constants_of (SubK a b c) = (pos c, AValue) ∷ []
constants_of (MulK a b c) = (pos c, AValue) ∷ []
constants_of (DivK a b c) = (pos c, AValue) ∷ []
constants_of (ModK a b c) = (pos c, AValue) ∷ []
constants_of (PowK a b c) = (pos c, AValue) ∷ []
constants_of (IdivK a b c) = (pos c, AValue) ∷ []
constants_of (SubRK a b c) = (pos b, AValue) ∷ []
constants_of (DivRK a b c) = (pos b, AValue) ∷ []
constants_of (AndK a b c) = (pos c, AValue) ∷ []
constants_of (OrK a b c) = (pos c, AValue) ∷ []
constants_of (FastCall2K a b c x) = (pos x, AValue) ∷ []
constants_of (JumpXEqKN a d x) = (pos (x % 2 ^ 24), ANumber) ∷ []
constants_of (JumpXEqKS a d x) = (pos (x % 2 ^ 24), AName) ∷ []
constants_of _ = []

abbrev pub is_wanted : Want → Option Const → Bool
is_wanted (AnImport word) (Some (constant.Import w)) = nat_eq w word
is_wanted w (Some (constant.Import word)) = false
is_wanted AValue (Some c) = true
is_wanted AName (Some (constant.Str s)) = true
is_wanted ANumber (Some (constant.Num z)) = true
is_wanted _ _ = false

abbrev pub finds : ChunkOf → (proto : ℕ) → ℤ × Want → Bool
finds chunk p k = is_wanted k.1 (constant_at chunk p k.0)

-- the indices of an import that it does not use are 0
abbrev pub is_spare : (count index place : ℕ) → Bool
is_spare count index place = nat_lt place count || nat_eq index 0

abbrev pub is_import : ChunkOf → (proto word : ℕ) → Bool
is_import chunk p word =
    let n = word / 2 ^ 30 in
    nat_le 1 n && list_all (λ k. is_some (name_at chunk p k)) (indices_of word)
    && is_spare n (word / 2 ^ 10 % 2 ^ 10) 1 && is_spare n (word % 2 ^ 10) 2

-- a constant by itself
abbrev pub is_sound : ChunkOf → (proto : ℕ) → Const → Bool
is_sound chunk p (constant.Str s) = nat_lt s (length chunk.strings)
is_sound chunk p (constant.Import word) = is_import chunk p word
is_sound chunk p _ = true

-- ---- upvalues and children

abbrev pub upvalue_of : Insn → Option ℕ
upvalue_of (GetUpvalue a b) = Some b
upvalue_of (SetUpvalue a b) = Some b
upvalue_of (Capture (suc (suc zero)) b) = Some b
upvalue_of _ = None

abbrev pub all_below : ℕ → Option ℕ → Bool
all_below n None = true
all_below n (Some k) = nat_lt k n

abbrev pub child_of : ProtoOf → ℤ → Option ℕ
child_of p (pos d) = slice_get p.children d
child_of p (negsuc d) = None

abbrev pub has_child : ProtoOf → Insn → Bool
has_child p (NewClosure a d) = is_some (child_of p d)
has_child p _ = true

-- ---- jumps

-- by how many words from behind its first word an instruction may jump
abbrev pub jump_of : Insn → Option ℤ
jump_of (LoadB a b c) = Some (pos c)
jump_of (Jump d) = Some d
jump_of (JumpBack d) = Some d
jump_of (JumpX e) = Some e
jump_of (JumpIf a d) = Some d
jump_of (JumpIfNot a d) = Some d
jump_of (JumpIfEq a d x) = Some d
jump_of (JumpIfLe a d x) = Some d
jump_of (JumpIfLt a d x) = Some d
jump_of (JumpIfNotEq a d x) = Some d
jump_of (JumpIfNotLe a d x) = Some d
jump_of (JumpIfNotLt a d x) = Some d
jump_of (ForNPrep a d) = Some d
jump_of (ForNLoop a d) = Some d
jump_of (ForGPrep a d) = Some d
jump_of (ForGLoop a d x) = Some d
jump_of (JumpXEqKNil a d x) = Some d
jump_of (JumpXEqKB a d x) = Some d
jump_of (JumpXEqKN a d x) = Some d
jump_of (JumpXEqKS a d x) = Some d
jump_of _ = None

abbrev pub target : ℕ → ℤ → ℤ
target place by = pos (place + 1) +ℤ by

-- these go back, and no others do
abbrev pub goes_back : Insn → Bool
goes_back (JumpBack d) = true
goes_back (ForNLoop a d) = true
goes_back (ForGLoop a d x) = true
goes_back _ = false

abbrev pub is_fast : Insn → Bool
is_fast (FastCall a c) = true
is_fast (FastCall1 a b c) = true
is_fast (FastCall2 a b c x) = true
is_fast (FastCall2K a b c x) = true
is_fast _ = false

abbrev pub is_capture : Insn → Bool
is_capture (Capture a b) = true
is_capture _ = false

-- the first register of a list of values without an end that an instruction sets, or reads
abbrev pub sets_top : Insn → Option ℕ
sets_top (Call a b zero) = Some a
sets_top (GetVarargs a zero) = Some a
sets_top _ = None

abbrev pub reads_top : Insn → Option ℕ
reads_top (Call a zero c) = Some (a + 1)
reads_top (Return a zero) = Some a
reads_top (SetList a b zero x) = Some b
reads_top _ = None

-- instructions that belong to the one before: captures, the two behind a fast call, and those that read a list without an end
abbrev pub bound_by : (fast_before fast_two_before : Bool) → Insn → Bool
bound_by a b insn = a || b || is_capture insn || is_some (reads_top insn)
