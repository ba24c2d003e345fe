-- How instructions are packed into words of 32 bits. The low byte is the opcode, and behind it stand three fields of 8 bits,
-- A, B and C; or A and a signed field D of 16 bits; or a signed field E of 24 bits. Some instructions have a second word, AUX.
use Rattle.std.specs.Prelude.{ℕ, ◌+◌, ◌*◌, ◌^◌, ◌<◌, ℤ, List, ◌∷◌, Some, None, IfSome, option_to_list, FitsSigned, ◌%◌, pos, negsuc}
use Rattle.std.specs.Int.{w16, w32, cast_unsigned}
use Rattle.op_words.specs.declared.insn.Insn.{Insn}
use Rattle.op_words.specs.declared.insn.Insn.TheVariants.{Nop, LoadNil, LoadB, LoadN, LoadK, Move, GetGlobal, SetGlobal, GetUpvalue, SetUpvalue, CloseUpvalues, GetImport, GetTable, SetTable, GetTableKS, SetTableKS, GetTableN, SetTableN, NewClosure, NameCall, Call, Return, Jump, JumpBack, JumpIf, JumpIfNot, JumpIfEq, JumpIfLe, JumpIfLt, JumpIfNotEq, JumpIfNotLe, JumpIfNotLt, Add, Sub, Mul, Div, Mod, Pow, Idiv, AddK, SubK, MulK, DivK, ModK, PowK, IdivK, SubRK, DivRK, And, Or, AndK, OrK, Concat, Not, Minus, Length, NewTable, SetList, ForNPrep, ForNLoop, ForGPrep, ForGLoop, GetVarargs, PrepVarargs, Capture, FastCall, FastCall1, FastCall2, FastCall2K, JumpX, LoadKX, JumpXEqKNil, JumpXEqKB, JumpXEqKN, JumpXEqKS}
use Rattle.op_words.specs.declared.encoding.Fields.{Fields}
use Rattle.op_words.specs.declared.encoding.Fields.TheVariants.{Abc, Ad, E}
use Rattle.op_words.specs.declared.encoding.Row.{Row}
use Rattle.op_words.specs.declared.encoding.Words.{Words}

-- a row with three fields, one with two, one with a single field, and one with a second word
abbrev pub abc : (opcode a b c : ℕ) → Row
abc opcode a b c = record { opcode = opcode; fields = Abc a b c; aux = None }

abbrev pub ad : (opcode a : ℕ) → (d : ℤ) → Row
ad opcode a d = record { opcode = opcode; fields = Ad a d; aux = None }

abbrev pub far : (opcode : ℕ) → (e : ℤ) → Row
far opcode e = record { opcode = opcode; fields = E e; aux = None }

abbrev pub with_aux : Row → ℕ → Row
with_aux r aux = record r { aux = Some aux }

-- the table: each instruction's opcode, fields and second word. A field that is not named is 0
abbrev pub row : Insn → Row
row (Nop turns) = far 0 turns
row (LoadNil to) = abc 1 to 0 0
row (LoadB to value skip) = abc 2 to value skip
row (LoadN to value) = ad 3 to value
row (LoadK to constant) = ad 4 to constant
row (Move to from) = abc 5 to from 0
row (GetGlobal to constant) = with_aux (abc 6 to 0 0) constant
row (SetGlobal from constant) = with_aux (abc 7 from 0 0) constant
row (GetUpvalue to upvalue) = abc 8 to upvalue 0
row (SetUpvalue from upvalue) = abc 9 from upvalue 0
row (CloseUpvalues from) = abc 10 from 0 0
row (GetImport to constant path) = with_aux (ad 11 to constant) path
row (GetTable to table key) = abc 12 to table key
row (SetTable from table key) = abc 13 from table key
row (GetTableKS to table constant) = with_aux (abc 14 to table 0) constant
row (SetTableKS from table constant) = with_aux (abc 15 from table 0) constant
row (GetTableN to table index) = abc 16 to table index
row (SetTableN from table index) = abc 17 from table index
row (NewClosure to child) = ad 18 to child
row (NameCall base object constant) = with_aux (abc 19 base object 0) constant
row (Call base arguments results) = abc 20 base arguments results
row (Return base values) = abc 21 base values 0
row (Jump by) = ad 22 0 by
row (JumpBack by) = ad 23 0 by
row (JumpIf value by) = ad 24 value by
row (JumpIfNot value by) = ad 25 value by
row (JumpIfEq left by right) = with_aux (ad 26 left by) right
row (JumpIfLe left by right) = with_aux (ad 27 left by) right
row (JumpIfLt left by right) = with_aux (ad 28 left by) right
row (JumpIfNotEq left by right) = with_aux (ad 29 left by) right
row (JumpIfNotLe left by right) = with_aux (ad 30 left by) right
row (JumpIfNotLt left by right) = with_aux (ad 31 left by) right
row (Add to left right) = abc 32 to left right
row (Sub to left right) = abc 33 to left right
row (Mul to left right) = abc 34 to left right
row (Div to left right) = abc 35 to left right
row (Mod to left right) = abc 36 to left right
row (Pow to left right) = abc 37 to left right
row (Idiv to left right) = abc 38 to left right
row (AddK to left constant) = abc 39 to left constant
row (SubK to left constant) = abc 40 to left constant
row (MulK to left constant) = abc 41 to left constant
row (DivK to left constant) = abc 42 to left constant
row (ModK to left constant) = abc 43 to left constant
row (PowK to left constant) = abc 44 to left constant
row (IdivK to left constant) = abc 45 to left constant
row (SubRK to constant right) = abc 46 to constant right
row (DivRK to constant right) = abc 47 to constant right
row (And to left right) = abc 48 to left right
row (Or to left right) = abc 49 to left right
row (AndK to left constant) = abc 50 to left constant
row (OrK to left constant) = abc 51 to left constant
row (Concat to first last) = abc 52 to first last
row (Not to operand) = abc 53 to operand 0
row (Minus to operand) = abc 54 to operand 0
row (Length to operand) = abc 55 to operand 0
row (NewTable to) = with_aux (abc 56 to 0 0) 0
row (SetList table from count key) = with_aux (abc 57 table from count) key
row (ForNPrep base by) = ad 58 base by
row (ForNLoop base by) = ad 59 base by
row (ForGPrep base by) = ad 60 base by
row (ForGLoop base by variables) = with_aux (ad 61 base by) variables
row (GetVarargs base values) = abc 62 base values 0
row (PrepVarargs parameters) = abc 63 parameters 0 0
row (Capture kind from) = abc 64 kind from 0
row (FastCall builtin skip) = abc 65 builtin 0 skip
row (FastCall1 builtin argument skip) = abc 66 builtin argument skip
row (FastCall2 builtin first skip second) = with_aux (abc 67 builtin first skip) second
row (FastCall2K builtin first skip constant) = with_aux (abc 68 builtin first skip) constant
row (JumpX by) = far 69 by
row (LoadKX to constant) = with_aux (abc 70 to 0 0) constant
row (JumpXEqKNil value by test) = with_aux (ad 71 value by) test
row (JumpXEqKB value by test) = with_aux (ad 72 value by) test
row (JumpXEqKN value by test) = with_aux (ad 73 value by) test
row (JumpXEqKS value by test) = with_aux (ad 74 value by) test

-- an opcode and the fields A, B and C in one word
abbrev pub narrow : (opcode a b c : ℕ) → ℕ
narrow opcode a b c = opcode + 2 ^ 8 * a + 2 ^ 16 * b + 2 ^ 24 * c

-- an opcode and the fields A and D in one word, D modulo 2 ^ 16
abbrev pub wide : (opcode a : ℕ) → (d : ℤ) → ℕ
wide opcode a d = opcode + 2 ^ 8 * a + 2 ^ 16 * cast_unsigned w16 d

-- a signed number in 24 bits
abbrev pub low_bits : ℤ → ℕ
low_bits e = cast_unsigned w32 e % 2 ^ 24

-- an opcode and the field E in one word, E modulo 2 ^ 24
abbrev pub whole : (opcode : ℕ) → (e : ℤ) → ℕ
whole opcode e = opcode + 2 ^ 8 * low_bits e

abbrev pub packed : (opcode : ℕ) → Fields → ℕ
packed opcode (Abc a b c) = narrow opcode a b c
packed opcode (Ad a d) = wide opcode a d
packed opcode (E e) = whole opcode e

-- a row's first word
abbrev pub word_of : Row → ℕ
word_of r = packed r.opcode r.fields

-- the one or two words of an instruction
abbrev pub encoded : Insn → List ℕ
encoded insn = word_of (row insn) ∷ option_to_list (row insn).aux

-- the same of the words that the code holds
abbrev pub words_of : Words → List ℕ
words_of words = words.first ∷ option_to_list words.aux

-- a signed number that has 24 bits: from -2 ^ 23 on and below 2 ^ 23
abbrev pub IsFar : ℤ → Type 0
IsFar (pos n) = n < 2 ^ 23
IsFar (negsuc n) = n < 2 ^ 23

abbrev pub FieldsFit : Fields → Type 0
FieldsFit (Abc a b c) = (a < 2 ^ 8) × (b < 2 ^ 8) × (c < 2 ^ 8)
FieldsFit (Ad a d) = (a < 2 ^ 8) × FitsSigned w16 d
FieldsFit (E e) = IsFar e

-- each field of the instruction fits its bits
pub record IsFit (insn : Insn) : Type 0 where
  pub fields : FieldsFit (row insn).fields
  pub aux : IfSome (row insn).aux (λ x. x < 2 ^ 32)
