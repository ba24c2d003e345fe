-- The instructions, by what they do.
use Rattle.std.specs.Prelude.{Bool, true, false, ◌||◌}
use Rattle.op_words.specs.declared.insn.Insn.{Insn}
use Rattle.op_words.specs.declared.insn.Insn.TheVariants.{Nop, LoadNil, LoadB, LoadN, LoadK, Move, GetGlobal, SetGlobal, GetUpvalue, SetUpvalue, CloseUpvalues, GetImport, GetTable, SetTable, GetTableKS, SetTableKS, GetTableN, SetTableN, NameCall, Call, Return, Jump, JumpBack, JumpIf, JumpIfNot, JumpIfEq, JumpIfLe, JumpIfLt, JumpIfNotEq, JumpIfNotLe, JumpIfNotLt, Add, Sub, Mul, Div, Mod, Pow, Idiv, AddK, SubK, MulK, DivK, ModK, PowK, IdivK, SubRK, DivRK, And, Or, AndK, OrK, Concat, Not, Minus, Length, NewTable, SetList, ForNPrep, ForNLoop, ForGPrep, ForGLoop, GetVarargs, PrepVarargs, JumpX, LoadKX, JumpXEqKNil, JumpXEqKB, JumpXEqKN, JumpXEqKS}

-- a register is given a value that is there
abbrev pub is_load : Insn → Bool
is_load (LoadNil to) = true
is_load (LoadB to value skip) = true
is_load (LoadN to value) = true
is_load (LoadK to constant) = true
is_load (LoadKX to constant) = true
is_load (Move to from) = true
is_load (GetUpvalue to upvalue) = true
is_load (Not to operand) = true
is_load (And to left right) = true
is_load (Or to left right) = true
is_load (AndK to left constant) = true
is_load (OrK to left constant) = true
is_load insn = false

-- a cell is written, or closed
abbrev pub is_cell : Insn → Bool
is_cell (SetUpvalue from upvalue) = true
is_cell (CloseUpvalues from) = true
is_cell insn = false

-- the code goes on elsewhere, and calls nothing
abbrev pub is_jump : Insn → Bool
is_jump (Nop turns) = true
is_jump (PrepVarargs parameters) = true
is_jump (Jump by) = true
is_jump (JumpX by) = true
is_jump (JumpBack by) = true
is_jump (JumpIf value by) = true
is_jump (JumpIfNot value by) = true
is_jump (JumpXEqKNil value by test) = true
is_jump (JumpXEqKB value by test) = true
is_jump (JumpXEqKN value by test) = true
is_jump (JumpXEqKS value by test) = true
is_jump insn = false

-- an operator on registers
abbrev pub is_operator : Insn → Bool
is_operator (Add to left right) = true
is_operator (Sub to left right) = true
is_operator (Mul to left right) = true
is_operator (Div to left right) = true
is_operator (Mod to left right) = true
is_operator (Pow to left right) = true
is_operator (Idiv to left right) = true
is_operator (Minus to operand) = true
is_operator (Length to operand) = true
is_operator insn = false

-- an operator on a register and a constant
abbrev pub is_constant_operator : Insn → Bool
is_constant_operator (AddK to left constant) = true
is_constant_operator (SubK to left constant) = true
is_constant_operator (MulK to left constant) = true
is_constant_operator (DivK to left constant) = true
is_constant_operator (ModK to left constant) = true
is_constant_operator (PowK to left constant) = true
is_constant_operator (IdivK to left constant) = true
is_constant_operator (SubRK to constant right) = true
is_constant_operator (DivRK to constant right) = true
is_constant_operator insn = false

-- a jump on a comparison of registers
abbrev pub is_comparison : Insn → Bool
is_comparison (JumpIfEq left by right) = true
is_comparison (JumpIfLe left by right) = true
is_comparison (JumpIfLt left by right) = true
is_comparison (JumpIfNotEq left by right) = true
is_comparison (JumpIfNotLe left by right) = true
is_comparison (JumpIfNotLt left by right) = true
is_comparison insn = false

-- a value is read under a key
abbrev pub is_read : Insn → Bool
is_read (GetTable to table key) = true
is_read (GetTableKS to table constant) = true
is_read (GetTableN to table index) = true
is_read (GetGlobal to constant) = true
is_read (NameCall base object constant) = true
is_read insn = false

-- or stored
abbrev pub is_write : Insn → Bool
is_write (SetTable from table key) = true
is_write (SetTableKS from table constant) = true
is_write (SetTableN from table index) = true
is_write (SetGlobal from constant) = true
is_write insn = false

-- a loop over numbers
abbrev pub is_count : Insn → Bool
is_count (ForNPrep base by) = true
is_count (ForNLoop base by) = true
is_count insn = false

-- a generic loop begins
abbrev pub is_iteration : Insn → Bool
is_iteration (ForGPrep base by) = true
is_iteration insn = false

-- a table is made, or a list of values stored in one
abbrev pub is_table : Insn → Bool
is_table (NewTable to) = true
is_table (SetList table from count key) = true
is_table insn = false

-- a run of values is joined
abbrev pub is_join : Insn → Bool
is_join (Concat to first last) = true
is_join insn = false

-- values are taken in hand
abbrev pub is_call : Insn → Bool
is_call (Call base arguments results) = true
is_call (Return base values) = true
is_call (GetVarargs base values) = true
is_call (ForGLoop base by variables) = true
is_call insn = false

abbrev pub is_import : Insn → Bool
is_import (GetImport to constant path) = true
is_import insn = false

-- those that leave the script's objects as they are
abbrev pub is_still : Insn → Bool
is_still insn = is_load insn || is_jump insn || is_operator insn || is_comparison insn || is_constant_operator insn || is_count insn || is_iteration insn

-- those that are built
abbrev pub is_built : Insn → Bool
is_built insn = is_still insn || is_read insn || is_call insn || is_write insn || is_cell insn || is_table insn || is_join insn
