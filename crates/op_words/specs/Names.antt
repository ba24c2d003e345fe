-- How an instruction is written as text: its name, and the fields that it names, in their order.
use Rattle.std.specs.Prelude.{ℕ, ℤ, pos, List, [], ◌∷◌, Option, codes, unwrap_or}
use Rattle.op_words.specs.declared.insn.Insn.{Insn}
use Rattle.op_words.specs.declared.insn.Insn.TheVariants.{Nop, LoadNil, LoadB, LoadN, LoadK, Move, GetGlobal, SetGlobal, GetUpvalue, SetUpvalue, CloseUpvalues, GetImport, GetTable, SetTable, GetTableKS, SetTableKS, GetTableN, SetTableN, NewClosure, NameCall, Call, Return, Jump, JumpBack, JumpIf, JumpIfNot, JumpIfEq, JumpIfLe, JumpIfLt, JumpIfNotEq, JumpIfNotLe, JumpIfNotLt, Add, Sub, Mul, Div, Mod, Pow, Idiv, AddK, SubK, MulK, DivK, ModK, PowK, IdivK, SubRK, DivRK, And, Or, AndK, OrK, Concat, Not, Minus, Length, NewTable, SetList, ForNPrep, ForNLoop, ForGPrep, ForGLoop, GetVarargs, PrepVarargs, Capture, FastCall, FastCall1, FastCall2, FastCall2K, JumpX, LoadKX, JumpXEqKNil, JumpXEqKB, JumpXEqKN, JumpXEqKS}
use Rattle.op_words.specs.declared.encoding.Fields.{Fields}
use Rattle.op_words.specs.declared.encoding.Fields.TheVariants as words
use Rattle.op_words.specs.declared.names.FieldName.{FieldName}
use Rattle.op_words.specs.declared.names.FieldName.TheVariants.{A, B, C, D, E, X}
use Rattle.op_words.specs.Encoding.{row}

-- ---- names

-- which fields are named
abbrev pub a : List FieldName
a = A ∷ []

abbrev pub ab : List FieldName
ab = A ∷ B ∷ []

abbrev pub abc : List FieldName
abc = A ∷ B ∷ C ∷ []

abbrev pub abcx : List FieldName
abcx = A ∷ B ∷ C ∷ X ∷ []

abbrev pub abx : List FieldName
abx = A ∷ B ∷ X ∷ []

abbrev pub ac : List FieldName
ac = A ∷ C ∷ []

abbrev pub ad : List FieldName
ad = A ∷ D ∷ []

abbrev pub adx : List FieldName
adx = A ∷ D ∷ X ∷ []

abbrev pub ax : List FieldName
ax = A ∷ X ∷ []

abbrev pub d : List FieldName
d = D ∷ []

abbrev pub e : List FieldName
e = E ∷ []

-- the table: each instruction's name, and the fields that it names. The 0 in the second word of NEWTABLE has no name
abbrev pub written : Insn → List ℕ × List FieldName
written (Nop turns) = (codes "NOP", e)
written (LoadNil to) = (codes "LOADNIL", a)
written (LoadB to value skip) = (codes "LOADB", abc)
written (LoadN to value) = (codes "LOADN", ad)
written (LoadK to constant) = (codes "LOADK", ad)
written (Move to from) = (codes "MOVE", ab)
written (GetGlobal to constant) = (codes "GETGLOBAL", ax)
written (SetGlobal from constant) = (codes "SETGLOBAL", ax)
written (GetUpvalue to upvalue) = (codes "GETUPVAL", ab)
written (SetUpvalue from upvalue) = (codes "SETUPVAL", ab)
written (CloseUpvalues from) = (codes "CLOSEUPVALS", a)
written (GetImport to constant path) = (codes "GETIMPORT", adx)
written (GetTable to table key) = (codes "GETTABLE", abc)
written (SetTable from table key) = (codes "SETTABLE", abc)
written (GetTableKS to table constant) = (codes "GETTABLEKS", abx)
written (SetTableKS from table constant) = (codes "SETTABLEKS", abx)
written (GetTableN to table index) = (codes "GETTABLEN", abc)
written (SetTableN from table index) = (codes "SETTABLEN", abc)
written (NewClosure to child) = (codes "NEWCLOSURE", ad)
written (NameCall base object constant) = (codes "NAMECALL", abx)
written (Call base arguments results) = (codes "CALL", abc)
written (Return base values) = (codes "RETURN", ab)
written (Jump by) = (codes "JUMP", d)
written (JumpBack by) = (codes "JUMPBACK", d)
written (JumpIf value by) = (codes "JUMPIF", ad)
written (JumpIfNot value by) = (codes "JUMPIFNOT", ad)
written (JumpIfEq left by right) = (codes "JUMPIFEQ", adx)
written (JumpIfLe left by right) = (codes "JUMPIFLE", adx)
written (JumpIfLt left by right) = (codes "JUMPIFLT", adx)
written (JumpIfNotEq left by right) = (codes "JUMPIFNOTEQ", adx)
written (JumpIfNotLe left by right) = (codes "JUMPIFNOTLE", adx)
written (JumpIfNotLt left by right) = (codes "JUMPIFNOTLT", adx)
written (Add to left right) = (codes "ADD", abc)
written (Sub to left right) = (codes "SUB", abc)
written (Mul to left right) = (codes "MUL", abc)
written (Div to left right) = (codes "DIV", abc)
written (Mod to left right) = (codes "MOD", abc)
written (Pow to left right) = (codes "POW", abc)
written (Idiv to left right) = (codes "IDIV", abc)
written (AddK to left constant) = (codes "ADDK", abc)
written (SubK to left constant) = (codes "SUBK", abc)
written (MulK to left constant) = (codes "MULK", abc)
written (DivK to left constant) = (codes "DIVK", abc)
written (ModK to left constant) = (codes "MODK", abc)
written (PowK to left constant) = (codes "POWK", abc)
written (IdivK to left constant) = (codes "IDIVK", abc)
written (SubRK to constant right) = (codes "SUBRK", abc)
written (DivRK to constant right) = (codes "DIVRK", abc)
written (And to left right) = (codes "AND", abc)
written (Or to left right) = (codes "OR", abc)
written (AndK to left constant) = (codes "ANDK", abc)
written (OrK to left constant) = (codes "ORK", abc)
written (Concat to first last) = (codes "CONCAT", abc)
written (Not to operand) = (codes "NOT", ab)
written (Minus to operand) = (codes "MINUS", ab)
written (Length to operand) = (codes "LENGTH", ab)
written (NewTable to) = (codes "NEWTABLE", a)
written (SetList table from count key) = (codes "SETLIST", abcx)
written (ForNPrep base by) = (codes "FORNPREP", ad)
written (ForNLoop base by) = (codes "FORNLOOP", ad)
written (ForGPrep base by) = (codes "FORGPREP", ad)
written (ForGLoop base by variables) = (codes "FORGLOOP", adx)
written (GetVarargs base values) = (codes "GETVARARGS", ab)
written (PrepVarargs parameters) = (codes "PREPVARARGS", a)
written (Capture kind from) = (codes "CAPTURE", ab)
written (FastCall builtin skip) = (codes "FASTCALL", ac)
written (FastCall1 builtin argument skip) = (codes "FASTCALL1", abc)
written (FastCall2 builtin first skip second) = (codes "FASTCALL2", abcx)
written (FastCall2K builtin first skip constant) = (codes "FASTCALL2K", abcx)
written (JumpX by) = (codes "JUMPX", e)
written (LoadKX to constant) = (codes "LOADKX", ax)
written (JumpXEqKNil value by test) = (codes "JUMPXEQKNIL", adx)
written (JumpXEqKB value by test) = (codes "JUMPXEQKB", adx)
written (JumpXEqKN value by test) = (codes "JUMPXEQKN", adx)
written (JumpXEqKS value by test) = (codes "JUMPXEQKS", adx)

unfoldable pub name_of : Insn → List ℕ
name_of insn = (written insn).0

unfoldable pub fields_of : Insn → List FieldName
fields_of insn = (written insn).1

-- ---- numbers

-- what a field holds. A field that the words do not have holds 0
abbrev pub held : Fields → (aux : Option ℕ) → FieldName → ℤ
held (words.Abc m n o) aux A = pos m
held (words.Abc m n o) aux B = pos n
held (words.Abc m n o) aux C = pos o
held (words.Ad m z) aux A = pos m
held (words.Ad m z) aux D = z
held (words.E z) aux E = z
held fields aux X = pos (unwrap_or aux 0)
held fields aux field = pos 0

unfoldable pub operand : Insn → FieldName → ℤ
operand insn field = held (row insn).fields (row insn).aux field
