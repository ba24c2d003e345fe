-- The instruction that a word stands for, and the instruction at a place.
use Rattle.std.specs.Prelude.{◌≡◌, ◌==◌, Bool, true, false, ℕ, ◌+◌, ◌^◌, ◌<◌, ◌≤◌, ℤ, ◌&&◌, List, [], ◌∷◌, ◌++◌, length, drop, Option, Some, None, option_map, unwrap_or, slice_get, ◌/◌, ◌%◌, ◌*◌, pos, negsuc, suc, ◌-◌, nat_lt, if◌then◌else◌}
use Rattle.std.specs.Option.{option_and_then}
use Rattle.std.specs.Int.{w16, cast_signed, from_le_bytes}
use Rattle.std.specs.Ordering.{int_eq}
use Rattle.op_words.specs.declared.insn.Insn.{Insn}
use Rattle.op_words.specs.declared.insn.Insn.TheVariants.{Nop, LoadNil, LoadB, LoadN, LoadK, Move, GetGlobal, SetGlobal, GetUpvalue, SetUpvalue, CloseUpvalues, GetImport, GetTable, SetTable, GetTableKS, SetTableKS, GetTableN, SetTableN, NewClosure, NameCall, Call, Return, Jump, JumpBack, JumpIf, JumpIfNot, JumpIfEq, JumpIfLe, JumpIfLt, JumpIfNotEq, JumpIfNotLe, JumpIfNotLt, Add, Sub, Mul, Div, Mod, Pow, Idiv, AddK, SubK, MulK, DivK, ModK, PowK, IdivK, SubRK, DivRK, And, Or, AndK, OrK, Concat, Not, Minus, Length, NewTable, SetList, ForNPrep, ForNLoop, ForGPrep, ForGLoop, GetVarargs, PrepVarargs, Capture, FastCall, FastCall1, FastCall2, FastCall2K, JumpX, LoadKX, JumpXEqKNil, JumpXEqKB, JumpXEqKN, JumpXEqKS}
use Rattle.op_words.specs.declared.encoding.Fields.{Fields}
use Rattle.op_words.specs.declared.encoding.Fields.TheVariants.{Abc, Ad, E}
use Rattle.op_words.specs.declared.encoding.Row.{Row}
use Rattle.op_words.specs.declared.decoding.Parts.{Parts}
use Rattle.op_words.specs.Encoding.{row, narrow, encoded, IsFit}

-- the signed number of two bytes, the lower first
abbrev pub signed : (b c : ℕ) → ℤ
signed b c = cast_signed w16 (from_le_bytes w16 (b ∷ c ∷ []))

-- the signed number of three bytes, the lowest first
abbrev pub far_signed : (a b c : ℕ) → ℤ
far_signed a b c = let n = a + 2 ^ 8 * b + 2 ^ 16 * c in if nat_lt n (2 ^ 23) then pos n else negsuc (2 ^ 24 - suc n)

-- the parts are the word's bytes, with B and C as one number too, and all three, and the word that follows
pub record ArePartsOf (word : ℕ) (following : Option ℕ) (p : Parts) : Type 0 where
  pub bytes : narrow p.opcode p.a p.b p.c ≡ word
  pub opcode : p.opcode < 2 ^ 8
  pub a : p.a < 2 ^ 8
  pub b : p.b < 2 ^ 8
  pub c : p.c < 2 ^ 8
  pub d : p.d ≡ signed p.b p.c
  pub e : p.e ≡ far_signed p.a p.b p.c
  pub aux : p.aux ≡ following

-- ---- the instruction that an opcode names

-- what the second word holds, and 0 where none follows
abbrev pub second : Parts → ℕ
second p = unwrap_or p.aux 0

-- the forms of instructions: which parts of a word an instruction is made of
abbrev pub with_a : (ℕ → Insn) → Parts → Insn
with_a f p = f p.a

abbrev pub with_ab : (ℕ → ℕ → Insn) → Parts → Insn
with_ab f p = f p.a p.b

abbrev pub with_abc : (ℕ → ℕ → ℕ → Insn) → Parts → Insn
with_abc f p = f p.a p.b p.c

abbrev pub with_ac : (ℕ → ℕ → Insn) → Parts → Insn
with_ac f p = f p.a p.c

abbrev pub with_e : (ℤ → Insn) → Parts → Insn
with_e f p = f p.e

abbrev pub with_d : (ℤ → Insn) → Parts → Insn
with_d f p = f p.d

abbrev pub with_ad : (ℕ → ℤ → Insn) → Parts → Insn
with_ad f p = f p.a p.d

abbrev pub with_a_aux : (ℕ → ℕ → Insn) → Parts → Insn
with_a_aux f p = f p.a (second p)

abbrev pub with_ab_aux : (ℕ → ℕ → ℕ → Insn) → Parts → Insn
with_ab_aux f p = f p.a p.b (second p)

abbrev pub with_abc_aux : (ℕ → ℕ → ℕ → ℕ → Insn) → Parts → Insn
with_abc_aux f p = f p.a p.b p.c (second p)

abbrev pub with_ad_aux : (ℕ → ℤ → ℕ → Insn) → Parts → Insn
with_ad_aux f p = f p.a p.d (second p)

-- the table: each opcode, and the instruction that it names
abbrev pub table : List (ℕ × (Parts → Insn))
table =
    (0, with_e Nop) ∷ (1, with_a LoadNil) ∷ (2, with_abc LoadB)
    ∷ (3, with_ad LoadN) ∷ (4, with_ad LoadK) ∷ (5, with_ab Move)
    ∷ (6, with_a_aux GetGlobal) ∷ (7, with_a_aux SetGlobal) ∷ (8, with_ab GetUpvalue)
    ∷ (9, with_ab SetUpvalue) ∷ (10, with_a CloseUpvalues) ∷ (11, with_ad_aux GetImport)
    ∷ (12, with_abc GetTable) ∷ (13, with_abc SetTable) ∷ (14, with_ab_aux GetTableKS)
    ∷ (15, with_ab_aux SetTableKS) ∷ (16, with_abc GetTableN) ∷ (17, with_abc SetTableN)
    ∷ (18, with_ad NewClosure) ∷ (19, with_ab_aux NameCall) ∷ (20, with_abc Call)
    ∷ (21, with_ab Return) ∷ (22, with_d Jump) ∷ (23, with_d JumpBack)
    ∷ (24, with_ad JumpIf) ∷ (25, with_ad JumpIfNot) ∷ (26, with_ad_aux JumpIfEq)
    ∷ (27, with_ad_aux JumpIfLe) ∷ (28, with_ad_aux JumpIfLt) ∷ (29, with_ad_aux JumpIfNotEq)
    ∷ (30, with_ad_aux JumpIfNotLe) ∷ (31, with_ad_aux JumpIfNotLt) ∷ (32, with_abc Add)
    ∷ (33, with_abc Sub) ∷ (34, with_abc Mul) ∷ (35, with_abc Div)
    ∷ (36, with_abc Mod) ∷ (37, with_abc Pow) ∷ (38, with_abc Idiv)
    ∷ (39, with_abc AddK) ∷ (40, with_abc SubK) ∷ (41, with_abc MulK)
    ∷ (42, with_abc DivK) ∷ (43, with_abc ModK) ∷ (44, with_abc PowK)
    ∷ (45, with_abc IdivK) ∷ (46, with_abc SubRK) ∷ (47, with_abc DivRK)
    ∷ (48, with_abc And) ∷ (49, with_abc Or) ∷ (50, with_abc AndK)
    ∷ (51, with_abc OrK) ∷ (52, with_abc Concat) ∷ (53, with_ab Not)
    ∷ (54, with_ab Minus) ∷ (55, with_ab Length) ∷ (56, with_a NewTable)
    ∷ (57, with_abc_aux SetList) ∷ (58, with_ad ForNPrep) ∷ (59, with_ad ForNLoop)
    ∷ (60, with_ad ForGPrep) ∷ (61, with_ad_aux ForGLoop) ∷ (62, with_ab GetVarargs)
    ∷ (63, with_a PrepVarargs) ∷ (64, with_ab Capture) ∷ (65, with_ac FastCall)
    ∷ (66, with_abc FastCall1) ∷ (67, with_abc_aux FastCall2) ∷ (68, with_abc_aux FastCall2K)
    ∷ (69, with_e JumpX) ∷ (70, with_a_aux LoadKX) ∷ (71, with_ad_aux JumpXEqKNil)
    ∷ (72, with_ad_aux JumpXEqKB) ∷ (73, with_ad_aux JumpXEqKN) ∷ (74, with_ad_aux JumpXEqKS)
    ∷ []

-- what the row with the opcode makes of the parts
abbrev pub looked_up : List (ℕ × (Parts → Insn)) → Parts → Option Insn
looked_up [] p = None
looked_up (r ∷ rs) p = if p.opcode == r.0 then Some (r.1 p) else looked_up rs p

unfoldable pub named : Parts → Option Insn
named p = looked_up table p

-- ---- the instruction that a word stands for

-- the fields are those of the parts
abbrev pub has_fields : Fields → Parts → Bool
has_fields (Abc a b c) p = a == p.a && (b == p.b && c == p.c)
has_fields (Ad a d) p = a == p.a && int_eq d p.d
has_fields (E e) p = int_eq e p.e

-- the second word follows where there is one
abbrev pub is_followed : (aux following : Option ℕ) → Bool
is_followed None following = true
is_followed (Some x) None = false
is_followed (Some x) (Some y) = x == y

-- the parts are those of the row
abbrev pub has_parts : Row → Parts → Bool
has_parts r p = r.opcode == p.opcode && (has_fields r.fields p && is_followed r.aux p.aux)

-- the instruction that the opcode names, if the parts are those of its row: so each field that it does not name is 0, and
-- its second word follows
unfoldable pub insn_of : Parts → Option Insn
insn_of p = option_and_then (λ insn. if has_parts (row insn) p then Some insn else None) (named p)

-- a word's bytes, from the low one
abbrev pub parts_of : (word : ℕ) → (following : Option ℕ) → Parts
parts_of word following =
    let a = word / 2 ^ 8 % 2 ^ 8 in
    let b = word / 2 ^ 16 % 2 ^ 8 in
    let c = word / 2 ^ 24 % 2 ^ 8 in
    record { opcode = word % 2 ^ 8; a = a; b = b; c = c; d = signed b c; e = far_signed a b c; aux = following }

-- an instruction with the place behind its words, which begin at a place
abbrev pub with_next : (at : ℕ) → Insn → Insn × ℕ
with_next at insn = (insn, at + length (encoded insn))

-- the instruction at a place of the code, and the place behind its words; none where none stands there
abbrev pub insn_at : (code : List ℕ) → (at : ℕ) → Option (Insn × ℕ)
insn_at code at =
    option_and_then (λ word. option_map (with_next at) (insn_of (parts_of word (slice_get code (at + 1))))) (slice_get code at)

-- the instruction's words stand at the place, up to the next place
pub record StandsAt (code : List ℕ) (at : ℕ) (insn : Insn) (next : ℕ) : Type 0 where
  pub fit : IsFit insn
  pub spelled : drop at code ≡ encoded insn ++ drop next code
  pub there : next ≡ at + length (encoded insn)
  pub within : next ≤ length code
