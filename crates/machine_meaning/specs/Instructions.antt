-- The row of each instruction, at a place, with the place behind its words.
use Rattle.std.specs.Prelude.{ℕ, zero, suc, ◌+◌, ◌-◌, ◌^◌, ◌/◌, ◌%◌, pos, ◌+ℤ◌, true, false, not, List, [], ◌∷◌, reverse, slice_index_or, slice_set, nat_eq}
use Rattle.value_model.specs.declared.operator.ArithOp.TheVariants as arith
use Rattle.value_model.specs.declared.operator.CompareOp.TheVariants as order
use Rattle.value_model.specs.Values.{Nil, Boolean, Number, Text, Table, is_true}
use Rattle.value_model.specs.Choices.{Length}
use Rattle.value_model.specs.Metamethods.{choose}
use Rattle.value_model.specs.Loops.{iteration}
use Rattle.bounded_runs.specs.Runs.{Charges}
use Rattle.op_words.specs.declared.insn.Insn.{Insn}
use Rattle.op_words.specs.declared.insn.Insn.TheVariants.{Nop, LoadNil, LoadB, LoadN, LoadK, Move, GetGlobal, SetGlobal, GetUpvalue, SetUpvalue, CloseUpvalues, GetImport, GetTable, SetTable, GetTableKS, SetTableKS, GetTableN, SetTableN, NewClosure, NameCall, Call, Return, Jump, JumpBack, JumpIf, JumpIfNot, JumpIfEq, JumpIfLe, JumpIfLt, JumpIfNotEq, JumpIfNotLe, JumpIfNotLt, Add, Sub, Mul, Div, Mod, Pow, Idiv, AddK, SubK, MulK, DivK, ModK, PowK, IdivK, SubRK, DivRK, And, Or, AndK, OrK, Concat as ConcatInsn, Not, Minus, Length as LengthInsn, NewTable, SetList, ForNPrep, ForNLoop, ForGPrep, ForGLoop, GetVarargs, PrepVarargs, FastCall, FastCall1, FastCall2, FastCall2K, JumpX, LoadKX, JumpXEqKNil, JumpXEqKB, JumpXEqKN, JumpXEqKS}
use Rattle.op_words.specs.Chunks.{ChunkOf}
use Rattle.machine_meaning.specs.Constants.{known, name_at, path_of}
use Rattle.machine_meaning.specs.States.{Into, Charged, Join, value_in, values_in, set, closed, with_cells, cell_up}
use Rattle.machine_meaning.specs.Moves.{Row, now, stuck, state, go, on, charge, inside, give, store_of, environment_here, is_safe, settle, jump, jump_back, branch}
use Rattle.machine_meaning.specs.Calls.{hand_back}
use Rattle.machine_meaning.specs.Effects.{with_constant, with_name, index, newindex, calculate, compare, decided, import_of, import_at, list_from, call, results, numbered, under, fast, call_over, arguments_of, store_list, new_table, child_at, new_closure, bounds_in, prepared, iterated, jumps_with}

abbrev pub row : ChunkOf → List ℕ → Insn → (next : ℕ) → Row
row chunk code (Nop (pos zero)) next f fs w = go next f fs w
row chunk code (Nop (pos (suc zero))) next f fs w = charge next f fs w
row chunk code (LoadNil to) next f fs w = give to Nil next f fs w
row chunk code (LoadB to b by) next f fs w = give to (Boolean (nat_eq b 1)) (f.place + 1 + by) f fs w
row chunk code (LoadN to n) next f fs w = give to (Number n) next f fs w
row chunk code (LoadK to k) next f fs w = with_constant (known chunk f.proto k) (λ v. give to v next) f fs w
row chunk code (Move to from) next f fs w = give to (value_in f w from) next f fs w
row chunk code (GetGlobal to k) next f fs w =
    with_name (name_at chunk f.proto k) (λ x. index (Table (environment_here f w)) (Text x) to next) f fs w
row chunk code (SetGlobal from k) next f fs w =
    with_name (name_at chunk f.proto k) (λ x. newindex (Table (environment_here f w)) (Text x) (value_in f w from) next) f fs w
row chunk code (GetUpvalue to u) next f fs w = give to (slice_index_or w.objects.cells (cell_up f u) Nil) next f fs w
row chunk code (SetUpvalue from u) next f fs w =
    go next f fs (with_cells (slice_set w.objects.cells (cell_up f u) (value_in f w from)) w)
row chunk code (CloseUpvalues from) next f fs w =
    go next (record f { registers = closed w.objects.cells f.registers from }) fs w
row chunk code (GetImport to k word) next f fs w =
    import_of (is_safe f w) (import_at f w k) (path_of chunk f.proto word) to next f fs w
row chunk code (GetTable to t key) next f fs w = index (value_in f w t) (value_in f w key) to next f fs w
row chunk code (SetTable from t key) next f fs w =
    newindex (value_in f w t) (value_in f w key) (value_in f w from) next f fs w
row chunk code (GetTableKS to t k) next f fs w =
    with_name (name_at chunk f.proto k) (λ x. index (value_in f w t) (Text x) to next) f fs w
row chunk code (SetTableKS from t k) next f fs w =
    with_name (name_at chunk f.proto k) (λ x. newindex (value_in f w t) (Text x) (value_in f w from) next) f fs w
row chunk code (GetTableN to t n) next f fs w = index (value_in f w t) (Number (pos (n + 1))) to next f fs w
row chunk code (SetTableN from t n) next f fs w =
    newindex (value_in f w t) (Number (pos (n + 1))) (value_in f w from) next f fs w
row chunk code (NewClosure to d) next f fs w = new_closure chunk code (child_at chunk f d) to next f fs w
row chunk code (NameCall to object k) next f fs w =
    with_name (name_at chunk f.proto k) (λ x f fs w. on (index (value_in f w object) (Text x) to next) (set (to + 1) (value_in f w object) (inside f w)) fs) f fs w
row chunk code (Call base arguments count) next f fs w = call base arguments count next f fs w
row chunk code (Return base count) next f fs w = hand_back (list_from count base f w) fs w
row chunk code (Jump by) next f fs w = jump by f.place f fs w
row chunk code (JumpBack by) next f fs w = jump_back (pos (f.place + 1) +ℤ by) f fs w
row chunk code (JumpIf from by) next f fs w = branch (is_true (value_in f w from)) by next f fs w
row chunk code (JumpIfNot from by) next f fs w = branch (not (is_true (value_in f w from))) by next f fs w
row chunk code (JumpIfEq a by b) next f fs w = compare order.Eq (value_in f w a) (value_in f w b) true by next f fs w
row chunk code (JumpIfLe a by b) next f fs w = compare order.Le (value_in f w a) (value_in f w b) true by next f fs w
row chunk code (JumpIfLt a by b) next f fs w = compare order.Lt (value_in f w a) (value_in f w b) true by next f fs w
row chunk code (JumpIfNotEq a by b) next f fs w =
    compare order.Eq (value_in f w a) (value_in f w b) false by next f fs w
row chunk code (JumpIfNotLe a by b) next f fs w =
    compare order.Le (value_in f w a) (value_in f w b) false by next f fs w
row chunk code (JumpIfNotLt a by b) next f fs w =
    compare order.Lt (value_in f w a) (value_in f w b) false by next f fs w
row chunk code (Add to a b) next f fs w = calculate arith.Add (value_in f w a) (value_in f w b) to next f fs w
row chunk code (Sub to a b) next f fs w = calculate arith.Sub (value_in f w a) (value_in f w b) to next f fs w
row chunk code (Mul to a b) next f fs w = calculate arith.Mul (value_in f w a) (value_in f w b) to next f fs w
row chunk code (Div to a b) next f fs w = calculate arith.Div (value_in f w a) (value_in f w b) to next f fs w
row chunk code (Mod to a b) next f fs w = calculate arith.Mod (value_in f w a) (value_in f w b) to next f fs w
row chunk code (Pow to a b) next f fs w = calculate arith.Pow (value_in f w a) (value_in f w b) to next f fs w
row chunk code (Idiv to a b) next f fs w = calculate arith.Idiv (value_in f w a) (value_in f w b) to next f fs w
row chunk code (AddK to a k) next f fs w =
    with_constant (known chunk f.proto (pos k)) (λ v. calculate arith.Add (value_in f w a) v to next) f fs w
row chunk code (SubK to a k) next f fs w =
    with_constant (known chunk f.proto (pos k)) (λ v. calculate arith.Sub (value_in f w a) v to next) f fs w
row chunk code (MulK to a k) next f fs w =
    with_constant (known chunk f.proto (pos k)) (λ v. calculate arith.Mul (value_in f w a) v to next) f fs w
row chunk code (DivK to a k) next f fs w =
    with_constant (known chunk f.proto (pos k)) (λ v. calculate arith.Div (value_in f w a) v to next) f fs w
row chunk code (ModK to a k) next f fs w =
    with_constant (known chunk f.proto (pos k)) (λ v. calculate arith.Mod (value_in f w a) v to next) f fs w
row chunk code (PowK to a k) next f fs w =
    with_constant (known chunk f.proto (pos k)) (λ v. calculate arith.Pow (value_in f w a) v to next) f fs w
row chunk code (IdivK to a k) next f fs w =
    with_constant (known chunk f.proto (pos k)) (λ v. calculate arith.Idiv (value_in f w a) v to next) f fs w
row chunk code (SubRK to k b) next f fs w =
    with_constant (known chunk f.proto (pos k)) (λ v. calculate arith.Sub v (value_in f w b) to next) f fs w
row chunk code (DivRK to k b) next f fs w =
    with_constant (known chunk f.proto (pos k)) (λ v. calculate arith.Div v (value_in f w b) to next) f fs w
row chunk code (And to a b) next f fs w =
    decided (is_true (value_in f w a)) (value_in f w b) (value_in f w a) to next f fs w
row chunk code (Or to a b) next f fs w =
    decided (is_true (value_in f w a)) (value_in f w a) (value_in f w b) to next f fs w
row chunk code (AndK to a k) next f fs w =
    with_constant (known chunk f.proto (pos k)) (λ v. decided (is_true (value_in f w a)) v (value_in f w a) to next) f fs w
row chunk code (OrK to a k) next f fs w =
    with_constant (known chunk f.proto (pos k)) (λ v. decided (is_true (value_in f w a)) (value_in f w a) v to next) f fs w
row chunk code (ConcatInsn to a b) next f fs w = now (Join (reverse (values_in f w a (b + 1 - a))) to next) f fs w
row chunk code (Not to from) next f fs w = give to (Boolean (not (is_true (value_in f w from)))) next f fs w
row chunk code (Minus to from) next f fs w =
    calculate arith.Unm (value_in f w from) (value_in f w from) to next f fs w
row chunk code (LengthInsn to from) next f fs w =
    settle (choose (Length (value_in f w from)) (store_of w)) (Into to next) f fs w
row chunk code (NewTable to) next f fs w = new_table to next f fs w
row chunk code (SetList t from count key) next f fs w =
    store_list (value_in f w t) key (list_from count from f w) next f fs w
row chunk code (ForNPrep a by) next f fs w = prepared (bounds_in f w a) a by next f fs w
row chunk code (ForNLoop a by) next f fs w = Charges (state Charged f fs w)
row chunk code (ForGPrep a by) next f fs w =
    iterated (iteration (store_of w) (value_in f w a) (value_in f w (a + 1)) (value_in f w (a + 2))) a by f fs w
row chunk code (ForGLoop a by x) next f fs w = Charges (state Charged f fs w)
row chunk code (GetVarargs to count) next f fs w = results to count next f.varargs f fs w
row chunk code (PrepVarargs parameters) next f fs w = go next f fs w
row chunk code (FastCall b over) next f fs w =
    fast (is_safe f w) (under numbered b) (arguments_of (call_over code f over) f w) (call_over code f over) next f fs w
row chunk code (FastCall1 b a over) next f fs w =
    fast (is_safe f w) (under numbered b) (value_in f w a ∷ []) (call_over code f over) next f fs w
row chunk code (FastCall2 b a over c) next f fs w =
    fast (is_safe f w) (under numbered b) (value_in f w a ∷ value_in f w c ∷ []) (call_over code f over) next f fs w
row chunk code (FastCall2K b a over k) next f fs w =
    with_constant (known chunk f.proto (pos k)) (λ v. fast (is_safe f w) (under numbered b) (value_in f w a ∷ v ∷ []) (call_over code f over) next) f fs w
row chunk code (JumpX by) next f fs w = jump by f.place f fs w
row chunk code (LoadKX to k) next f fs w = with_constant (known chunk f.proto (pos k)) (λ v. give to v next) f fs w
row chunk code (JumpXEqKNil from by x) next f fs w = jumps_with (x / 2 ^ 31) (value_in f w from) Nil by next f fs w
row chunk code (JumpXEqKB from by x) next f fs w =
    jumps_with (x / 2 ^ 31) (value_in f w from) (Boolean (nat_eq (x % 2) 1)) by next f fs w
row chunk code (JumpXEqKN from by x) next f fs w =
    with_constant (known chunk f.proto (pos (x % 2 ^ 24))) (λ v. jumps_with (x / 2 ^ 31) (value_in f w from) v by next) f fs w
row chunk code (JumpXEqKS from by x) next f fs w =
    with_constant (known chunk f.proto (pos (x % 2 ^ 24))) (λ v. jumps_with (x / 2 ^ 31) (value_in f w from) v by next) f fs w
row chunk code _ next f fs w = stuck f fs w
