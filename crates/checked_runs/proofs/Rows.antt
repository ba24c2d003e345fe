-- Each instruction of well-formed code leads from a safe state to a safe state.
use Rattle.std.proofs.Common.{◌≡◌, refl, sym, ap, ◌∙◌, ℕ, zero, suc, ◌+◌, ◌-◌, ◌<◌, ◌/◌, ◌%◌, ◌^◌, ℤ, pos, negsuc, Bool, true, false, ◌&&◌, not, List, [], ◌∷◌, reverse, set, Option, Some, None, arith, subst, nat_eq, nat_lt, length-set}
use mathlib.Core.List.{reverse_aux}
use Rattle.std.specs.Prelude.{MatchOption, slice_index_or, slice_set, if◌then◌else◌}
use Rattle.std.specs.List.{list_all}
use Rattle.std.proofs.lemmas.Bool.Decides.{nat_tests}
use Rattle.value_model.specs.declared.operator.ArithOp.{ArithOp}
use Rattle.value_model.specs.declared.operator.ArithOp.TheVariants as arithmetic
use Rattle.value_model.specs.declared.operator.CompareOp.{CompareOp}
use Rattle.value_model.specs.declared.operator.CompareOp.TheVariants as order
use Rattle.value_model.specs.Values.{Value, Nil, Boolean, Number, Text, Table, Bytes, is_true}
use Rattle.value_model.specs.Loops.{iteration}
use Rattle.op_words.specs.declared.insn.Insn.{Insn}
use Rattle.op_words.specs.declared.insn.Insn.TheVariants.{Nop, LoadNil, LoadB, LoadN, LoadK, Move, GetGlobal, SetGlobal, GetUpvalue, SetUpvalue, CloseUpvalues, GetImport, GetTable, SetTable, GetTableKS, SetTableKS, GetTableN, SetTableN, NewClosure, NameCall, Call, Return, Jump, JumpBack, JumpIf, JumpIfNot, JumpIfEq, JumpIfLe, JumpIfLt, JumpIfNotEq, JumpIfNotLe, JumpIfNotLt, Add, Sub, Mul, Div, Mod, Pow, Idiv, AddK, SubK, MulK, DivK, ModK, PowK, IdivK, SubRK, DivRK, And, Or, AndK, OrK, Concat, Not, Minus, Length, NewTable, SetList, ForNPrep, ForNLoop, ForGPrep, ForGLoop, GetVarargs, PrepVarargs, Capture, FastCall, FastCall1, FastCall2, FastCall2K, JumpX, LoadKX, JumpXEqKNil, JumpXEqKB, JumpXEqKN, JumpXEqKS}
use Rattle.op_words.specs.Chunks.{ChunkOf, ProtoOf}
use Rattle.machine_meaning.specs.Constants.{known, name_at, path_of}
use Rattle.machine_meaning.specs.Needs.{Want, finds, AValue, AName, ANumber, AnImport, jump_of, goes_back, constants_of}
use Rattle.machine_meaning.specs.WellFormed.{is_end, is_closure_or_capture, captures_well, calls_well, is_move_and_call, is_builtin}
use Rattle.machine_meaning.specs.States.{Frame, World, Register, Val, Into, Charged, Join, held, value_in, values_in, closed, with_cells, cell_up}
use Rattle.machine_meaning.specs.States as states
use Rattle.machine_meaning.specs.Moves.{Row, state, go, on, inside, store_of, environment_here, is_safe, branch}
use Rattle.machine_meaning.specs.Effects.{with_constant, with_name, index, calculate, compare, import_at, numbered, under, call_over, arguments_of, list_from, bounds_in, jumps_with, fast}
use Rattle.machine_meaning.specs.Instructions.{row}
use Rattle.checked_runs.specs.Places.{IsPlace, LeadsTo, LeadsOn}
use Rattle.checked_runs.specs.Safe.{Sizes, IsMade, AreMade, IsRegister, IsLoop, IsSafe, IsSafeMove, is_loop, is_some_value}
use Rattle.checked_runs.specs.Keeps.{LibraryKeeps}
use Rattle.checked_runs.proofs.Elements.{each_or, each_set, each_reverse}
use Rattle.checked_runs.proofs.Rules.{both, IsSound}
use Rattle.checked_runs.proofs.Places.{three, Stands, own_register, own_three, goes_on, leads, leads_on}
use Rattle.checked_runs.proofs.Settings.{Setting, with_registers, with_values, with_frame, active, goes, held_made, value_made, values_made, set_keeps, gives}
use Rattle.checked_runs.proofs.Effects.{jumps, branches, jumps_back, indexes, newindexes, calculates, compares, measures, decides, imports, list_made, calls, gives_results, prepares, iterates, calls_fast}
use Rattle.checked_runs.proofs.Tables.{makes_table, stores_list, iteration_made}
use Rattle.checked_runs.proofs.Waits.{hands_back}
use Rattle.checked_runs.proofs.Constants.{constant_found, IsKnown, value_known, number_known, name_known, path_known}
use Rattle.checked_runs.proofs.Children.{closes_over, call_found}

closed_made : (z : Sizes) (cells : List Value) (g : Register) (b : Bool) → IsRegister z g → IsMade z.functions (held cells g)
    → IsRegister z (if b then g else Val (held cells g))
closed_made z cells g true i j = i
closed_made z cells g false i j = j

some_values : (vs us : List Value) → is_some_value us ≡ true → is_some_value (reverse_aux vs us) ≡ true
some_values [] us e = e
some_values (v ∷ vs) us e = some_values vs (v ∷ us) refl

module _ {chunk : ChunkOf} {z : Sizes} {p : ProtoOf} {f : Frame} {fs : List Frame} {w : World} (s : Setting chunk z p f fs w)
    (sound : IsSound chunk f.proto p) (library : LibraryKeeps) where
  abbrev At : Insn → ℕ → Type 0
  At insn next = Stands chunk f.proto p f.place insn next

  abbrev Safe : Insn → ℕ → Type 0
  Safe insn next = IsSafeMove chunk (row chunk p.code insn next f fs w)

  here_made : (r : ℕ) → IsMade z.functions (value_in f w r)
  here_made r = value_made s r

  -- ---- constants

  valued : (k : ℤ) (row : Value → Row) → finds chunk f.proto (k, AValue) ≡ true
      → ((v : Value) → IsMade z.functions v → IsSafeMove chunk (row v f fs w))
      → IsSafeMove chunk (with_constant (known chunk f.proto k) row f fs w)
  valued k row e go =
      let i = value_known chunk f.proto k (constant_found chunk f.proto p s.frame.code sound k AValue e) in
      subst (λ o. IsSafeMove chunk (with_constant o row f fs w)) (sym i.is) (go i.value (i.made z.functions))

  named : (k : ℕ) (row : Bytes → Row) → finds chunk f.proto (pos k, AName) ≡ true → ((x : Bytes) → IsSafeMove chunk (row x f fs w))
      → IsSafeMove chunk (with_name (name_at chunk f.proto k) row f fs w)
  named k row e go =
      let i = name_known chunk f.proto k (constant_found chunk f.proto p s.frame.code sound (pos k) AName e) in
      subst (λ o. IsSafeMove chunk (with_name o row f fs w)) (sym i.is) (go i.name)

  only : {insn : Insn} {next : ℕ} → (k : ℤ × Want) → At insn next → constants_of insn ≡ k ∷ [] → finds chunk f.proto k ≡ true
  only k at e = (both (finds chunk f.proto k) true (sym (ap (list_all (finds chunk f.proto)) e) ∙ at.rules.constants)).0

  -- ---- arithmetic with constants

  by_constant : {insn : Insn} {next : ℕ} → (o : ArithOp) (to a k : ℕ) → At insn next → constants_of insn ≡ (pos k, AValue) ∷ [] → to < p.registers → IsPlace p next
      → IsSafeMove chunk (with_constant (known chunk f.proto (pos k)) (λ v. calculate o (value_in f w a) v to next) f fs w)
  by_constant {insn} {next} o to a k at e r h =
      valued (pos k) _ (only (pos k, AValue) at e) (λ v m. calculates s o (value_in f w a) v to next (here_made a) m r h)

  of_constant : {insn : Insn} {next : ℕ} → (o : ArithOp) (to k b : ℕ) → At insn next → constants_of insn ≡ (pos k, AValue) ∷ [] → to < p.registers → IsPlace p next
      → IsSafeMove chunk (with_constant (known chunk f.proto (pos k)) (λ v. calculate o v (value_in f w b) to next) f fs w)
  of_constant {insn} {next} o to k b at e r h =
      valued (pos k) _ (only (pos k, AValue) at e) (λ v m. calculates s o v (value_in f w b) to next m (here_made b) r h)

  -- ---- fast calls

  fast_one : (insn : Insn) (next b over : ℕ) (vs : List Value) → IsPlace p next → (at : At insn next)
      → calls_well f.place at.after insn ≡ (is_builtin b && is_move_and_call over f.place at.after) → AreMade z.functions vs
      → IsSafeMove chunk (fast (is_safe f w) (under numbered b) vs (call_over p.code f over) next f fs w)
  fast_one insn next b over vs h at e m =
      let pairs = three (captures_well chunk p at.after insn) _ (calls_well f.place at.after insn) at.rules.pairs in
      let c =
      call_found chunk f.proto p sound at.before (record { place = f.place; insn = insn; next = next }) at.after at.split over
      (both (is_builtin b) _ (sym e ∙ pairs.2)).1 in
      calls_fast s (call_over p.code f over) c.base c.arguments c.count c.behind next c.is c.goes h library (is_safe f w) b (under numbered b) vs refl
      m

  arguments_made : (c : Option (Insn × ℕ)) → AreMade z.functions (arguments_of c f w)
  arguments_made None = tt
  arguments_made (Some (Call base arguments count, behind)) = list_made s arguments (base + 1)
  arguments_made (Some (insn, behind)) = tt

  -- ---- registers and cells

  closes : (from next : ℕ) → IsPlace p next → IsSafeMove chunk (go next (record f { registers = closed w.objects.cells f.registers from }) fs w)
  closes from next h =
      let regs = closed w.objects.cells f.registers from in
      let are =
      λ (r : ℕ). closed_made z w.objects.cells (f.registers r) (nat_lt r from) (s.frame.registers r) (held_made s.world (f.registers r) (s.frame.registers r)) in
      goes (with_frame (record f { registers = regs }) s (with_registers regs f.top are s.frame) refl) next h

  sets_upvalue : (from u next : ℕ) → IsPlace p next
      → IsSafeMove chunk (go next f fs (with_cells (slice_set w.objects.cells (cell_up f u) (value_in f w from)) w))
  sets_upvalue from u next h =
      let cells = set w.objects.cells (cell_up f u) (value_in f w from) in
      let world =
      with_values cells s.world (length-set w.objects.cells (cell_up f u) (value_in f w from) ∙ s.world.cells)
      (each_set (IsMade z.functions) w.objects.cells (cell_up f u) (value_in f w from) s.world.values (here_made from)) in
      goes (record { world = world; frame = s.frame; below = s.below; waits = s.waits; stacked = s.stacked }) next h

  calls_name : (to object next : ℕ) (x : Bytes) → to < p.registers → IsPlace p next
      → IsSafeMove chunk (on (index (value_in f w object) (Text x) to next) (states.set (to + 1) (value_in f w object) (inside f w)) fs)
  calls_name to object next x r h =
      indexes (set_keeps (to + 1) (value_in f w object) (inside f w) fs s (here_made object)) (value_in f w object) (Text x) to next
      (here_made object) tt r h

  charges : (insn : Insn) (next : ℕ) → At insn next → is_loop insn ≡ true → IsSafe chunk (state Charged f fs w)
  charges insn next at l = record {
    sizes = z;
    world = s.world;
    doing =
        active (λ p f. IsLoop p f.place) s (record
        { stands = record { before = at.before; line = record { place = f.place; insn = insn; next = next }; after = at.after; split = at.split; there = refl; runs = at.runs }; loop = l });
  }

  -- ---- the rows

  behind : {insn : Insn} {next : ℕ} → At insn next → is_end insn ≡ false → is_closure_or_capture insn ≡ false → IsPlace p next
  behind {insn} {next} at a b = goes_on chunk f.proto p f.place insn next sound at a b

  ahead : {insn : Insn} {next : ℕ} → At insn next → (by : ℤ) → jump_of insn ≡ Some by → goes_back insn ≡ false → LeadsOn p f.place by
  ahead {insn} {next} at by a b = leads_on chunk f.proto p f.place insn next sound at by a b

  leading_to : {insn : Insn} {next : ℕ} → At insn next → (by : ℤ) → jump_of insn ≡ Some by → LeadsTo p f.place by
  leading_to {insn} {next} at by a = leads chunk f.proto p f.place insn next sound at by a

  operands_made : (a b next : ℕ) → nat_lt a b ≡ true → IsPlace p next → (to : ℕ) → to < p.registers
      → IsSafe chunk (state (Join (reverse (values_in f w a (b + 1 - a))) to next) f fs w)
  operands_made a b next l h to r =
      let below : a < b = grind (arith, nat_tests) in
      let count : b + 1 - a ≡ suc (b - a) = omega arith in
      let some : is_some_value (reverse (values_in f w a (b + 1 - a))) ≡ true =
      subst (λ k. is_some_value (reverse (values_in f w a k)) ≡ true) (sym count)
      (some_values (values_in f w (suc a) (b - a)) (value_in f w a ∷ []) refl) in
      record {
        sizes = z;
        world = s.world;
        doing =
            (each_reverse (IsMade z.functions) (values_in f w a (b + 1 - a)) (values_made s a (b + 1 - a)), some, active (λ p f. (to < p.registers) × IsPlace p next) s (r, h));
      }

  no_operation : (n : ℤ) (next : ℕ) → At (Nop n) next → Safe (Nop n) next
  no_operation (pos zero) next at = goes s next (behind at refl refl)
  no_operation (pos (suc zero)) next at = goes s next (behind at refl refl)
  no_operation (pos (suc (suc n))) next at = let k = at.rules.known in absurd (grind (arith, nat_tests))
  no_operation (negsuc n) next at = let k = at.rules.known in absurd cc

  loads_boolean : (to b by next : ℕ) → At (LoadB to b by) next → Safe (LoadB to b by) next
  loads_boolean to b by next at =
      let l = ahead at (pos by) refl refl in
      let same : by ≡ l.words = let e = l.is in cc in
      gives s to (Boolean (nat_eq b 1)) (f.place + 1 + by) tt (subst (λ k. IsPlace p (f.place + 1 + k)) (sym same) l.stands)

  import_made : (k : ℤ) → MatchOption (import_at f w k) (Unit {0}) (IsMade z.functions)
  import_made (pos k) = s.world.imports f.proto k
  import_made (negsuc k) = tt

  loads_import : (to : ℕ) (k : ℤ) (word next : ℕ) → At (GetImport to k word) next → Safe (GetImport to k word) next
  loads_import to k word next at =
      let i =
      path_known chunk f.proto word k (constant_found chunk f.proto p s.frame.code sound k (AnImport word) (only (k, AnImport word) at refl)) in
      imports s (is_safe f w) (import_at f w k) (path_of chunk f.proto word) i.names to next (import_made k) i.is i.few (own_register at to _ refl)
      (behind at refl refl)

  jumps_by : (b : Bool) (by : ℤ) (next : ℕ) (insn : Insn) → At insn next → jump_of insn ≡ Some by → goes_back insn ≡ false → is_end insn ≡ false
      → is_closure_or_capture insn ≡ false
      → IsSafeMove chunk (branch b by next f fs w)
  jumps_by b by next insn at a d e g = branches s b by next (ahead at by a d) (behind at e g)

  compares_by : (o : CompareOp) (a b : ℕ) (taken : Bool) (by : ℤ) (next : ℕ) (insn : Insn) → At insn next → jump_of insn ≡ Some by
      → goes_back insn ≡ false → is_end insn ≡ false
      → is_closure_or_capture insn ≡ false → IsSafeMove chunk (compare o (value_in f w a) (value_in f w b) taken by next f fs w)
  compares_by o a b taken by next insn at c d e g =
      compares s o (value_in f w a) (value_in f w b) taken by next (here_made a) (here_made b) (ahead at by c d) (behind at e g)

  calculates_by : (o : ArithOp) (to a b next : ℕ) (insn : Insn) → At insn next → is_end insn ≡ false → is_closure_or_capture insn ≡ false → to < p.registers
      → IsSafeMove chunk (calculate o (value_in f w a) (value_in f w b) to next f fs w)
  calculates_by o to a b next insn at e g r = calculates s o (value_in f w a) (value_in f w b) to next (here_made a) (here_made b) r (behind at e g)

  jumps_equal : (k : ℕ) (x from : ℕ) (by : ℤ) (next : ℕ) (insn : Insn) → At insn next → IsKnown chunk f.proto (pos k) → jump_of insn ≡ Some by
      → goes_back insn ≡ false
      → is_end insn ≡ false → is_closure_or_capture insn ≡ false
      → IsSafeMove chunk (with_constant (known chunk f.proto (pos k)) (λ v. jumps_with x (value_in f w from) v by next) f fs w)
  jumps_equal k x from by next insn at i c d e g =
      subst (λ o. IsSafeMove chunk (with_constant o (λ v. jumps_with x (value_in f w from) v by next) f fs w)) (sym i.is)
      (jumps_by _ by next insn at c d e g)

  pub row_safe : (insn : Insn) (next : ℕ) → At insn next → Safe insn next
  row_safe (Nop n) next at = no_operation n next at
  row_safe (LoadNil to) next at = gives s to Nil next tt (behind at refl refl)
  row_safe (LoadB to b by) next at = loads_boolean to b by next at
  row_safe (LoadN to n) next at = gives s to (Number n) next tt (behind at refl refl)
  row_safe (LoadK to k) next at = valued k _ (only (k, AValue) at refl) (λ v m. gives s to v next m (behind at refl refl))
  row_safe (Move to from) next at = gives s to (value_in f w from) next (here_made from) (behind at refl refl)
  row_safe (GetGlobal to k) next at =
      named k _ (only (pos k, AName) at refl) (λ x. indexes s (Table (environment_here f w)) (Text x) to next tt tt (own_register at to _ refl) (behind at refl refl))
  row_safe (SetGlobal from k) next at =
      named k _ (only (pos k, AName) at refl)
      (λ x. newindexes s (Table (environment_here f w)) (Text x) (value_in f w from) next tt tt (here_made from) (behind at refl refl))
  row_safe (GetUpvalue to u) next at =
      gives s to (slice_index_or w.objects.cells (cell_up f u) Nil) next
      (each_or (IsMade z.functions) w.objects.cells (cell_up f u) Nil s.world.values tt) (behind at refl refl)
  row_safe (SetUpvalue from u) next at = sets_upvalue from u next (behind at refl refl)
  row_safe (CloseUpvalues from) next at = closes from next (behind at refl refl)
  row_safe (GetImport to k word) next at = loads_import to k word next at
  row_safe (GetTable to t key) next at = indexes s (value_in f w t) (value_in f w key) to next (here_made t) (here_made key) (own_register at to _ refl) (behind at refl refl)
  row_safe (SetTable from t key) next at =
      newindexes s (value_in f w t) (value_in f w key) (value_in f w from) next (here_made t) (here_made key) (here_made from) (behind at refl refl)
  row_safe (GetTableKS to t k) next at =
      named k _ (only (pos k, AName) at refl) (λ x. indexes s (value_in f w t) (Text x) to next (here_made t) tt (own_register at to _ refl) (behind at refl refl))
  row_safe (SetTableKS from t k) next at =
      named k _ (only (pos k, AName) at refl)
      (λ x. newindexes s (value_in f w t) (Text x) (value_in f w from) next (here_made t) tt (here_made from) (behind at refl refl))
  row_safe (GetTableN to t n) next at = indexes s (value_in f w t) (Number (pos (n + 1))) to next (here_made t) tt (own_register at to _ refl) (behind at refl refl)
  row_safe (SetTableN from t n) next at =
      newindexes s (value_in f w t) (Number (pos (n + 1))) (value_in f w from) next (here_made t) tt (here_made from) (behind at refl refl)
  row_safe (NewClosure to d) next at = closes_over s sound to d next at
  row_safe (NameCall to object k) next at = named k _ (only (pos k, AName) at refl) (λ x. calls_name to object next x (own_register at to _ refl) (behind at refl refl))
  row_safe (Call base arguments count) next at = calls s base arguments count next (own_register at base _ refl) (behind at refl refl)
  row_safe (Return base count) next at = hands_back s (list_from count base f w) (list_made s count base)
  row_safe (Jump by) next at = jumps s f.place by (ahead at by refl refl)
  row_safe (JumpBack by) next at = jumps_back s by (leading_to at by refl)
  row_safe (JumpIf from by) next at = jumps_by (is_true (value_in f w from)) by next (JumpIf from by) at refl refl refl refl
  row_safe (JumpIfNot from by) next at = jumps_by (not (is_true (value_in f w from))) by next (JumpIfNot from by) at refl refl refl refl
  row_safe (JumpIfEq a by b) next at = compares_by order.Eq a b true by next (JumpIfEq a by b) at refl refl refl refl
  row_safe (JumpIfLe a by b) next at = compares_by order.Le a b true by next (JumpIfLe a by b) at refl refl refl refl
  row_safe (JumpIfLt a by b) next at = compares_by order.Lt a b true by next (JumpIfLt a by b) at refl refl refl refl
  row_safe (JumpIfNotEq a by b) next at = compares_by order.Eq a b false by next (JumpIfNotEq a by b) at refl refl refl refl
  row_safe (JumpIfNotLe a by b) next at = compares_by order.Le a b false by next (JumpIfNotLe a by b) at refl refl refl refl
  row_safe (JumpIfNotLt a by b) next at = compares_by order.Lt a b false by next (JumpIfNotLt a by b) at refl refl refl refl
  row_safe (Add to a b) next at = calculates_by arithmetic.Add to a b next (Add to a b) at refl refl (own_register at to _ refl)
  row_safe (Sub to a b) next at = calculates_by arithmetic.Sub to a b next (Sub to a b) at refl refl (own_register at to _ refl)
  row_safe (Mul to a b) next at = calculates_by arithmetic.Mul to a b next (Mul to a b) at refl refl (own_register at to _ refl)
  row_safe (Div to a b) next at = calculates_by arithmetic.Div to a b next (Div to a b) at refl refl (own_register at to _ refl)
  row_safe (Mod to a b) next at = calculates_by arithmetic.Mod to a b next (Mod to a b) at refl refl (own_register at to _ refl)
  row_safe (Pow to a b) next at = calculates_by arithmetic.Pow to a b next (Pow to a b) at refl refl (own_register at to _ refl)
  row_safe (Idiv to a b) next at = calculates_by arithmetic.Idiv to a b next (Idiv to a b) at refl refl (own_register at to _ refl)
  row_safe (AddK to a k) next at = by_constant arithmetic.Add to a k at refl (own_register at to _ refl) (behind at refl refl)
  row_safe (SubK to a k) next at = by_constant arithmetic.Sub to a k at refl (own_register at to _ refl) (behind at refl refl)
  row_safe (MulK to a k) next at = by_constant arithmetic.Mul to a k at refl (own_register at to _ refl) (behind at refl refl)
  row_safe (DivK to a k) next at = by_constant arithmetic.Div to a k at refl (own_register at to _ refl) (behind at refl refl)
  row_safe (ModK to a k) next at = by_constant arithmetic.Mod to a k at refl (own_register at to _ refl) (behind at refl refl)
  row_safe (PowK to a k) next at = by_constant arithmetic.Pow to a k at refl (own_register at to _ refl) (behind at refl refl)
  row_safe (IdivK to a k) next at = by_constant arithmetic.Idiv to a k at refl (own_register at to _ refl) (behind at refl refl)
  row_safe (SubRK to k b) next at = of_constant arithmetic.Sub to k b at refl (own_register at to _ refl) (behind at refl refl)
  row_safe (DivRK to k b) next at = of_constant arithmetic.Div to k b at refl (own_register at to _ refl) (behind at refl refl)
  row_safe (And to a b) next at =
      decides s (is_true (value_in f w a)) (value_in f w b) (value_in f w a) to next (here_made b) (here_made a) (behind at refl refl)
  row_safe (Or to a b) next at =
      decides s (is_true (value_in f w a)) (value_in f w a) (value_in f w b) to next (here_made a) (here_made b) (behind at refl refl)
  row_safe (AndK to a k) next at =
      valued (pos k) _ (only (pos k, AValue) at refl)
      (λ v m. decides s (is_true (value_in f w a)) v (value_in f w a) to next m (here_made a) (behind at refl refl))
  row_safe (OrK to a k) next at =
      valued (pos k) _ (only (pos k, AValue) at refl)
      (λ v m. decides s (is_true (value_in f w a)) (value_in f w a) v to next (here_made a) m (behind at refl refl))
  row_safe (Concat to a b) next at = operands_made a b next (both _ (nat_lt a b) at.rules.registers).1 (behind at refl refl) to (own_register at to _ refl)
  row_safe (Not to from) next at = gives s to (Boolean (not (is_true (value_in f w from)))) next tt (behind at refl refl)
  row_safe (Minus to from) next at =
      calculates s arithmetic.Unm (value_in f w from) (value_in f w from) to next (here_made from) (here_made from) (own_register at to _ refl) (behind at refl refl)
  row_safe (Length to from) next at = measures s (value_in f w from) to next (here_made from) (own_register at to _ refl) (behind at refl refl)
  row_safe (NewTable to) next at = makes_table s to next (behind at refl refl)
  row_safe (SetList t from count key) next at =
      stores_list s (value_in f w t) key (list_from count from f w) next (list_made s count from) (behind at refl refl)
  row_safe (ForNPrep a by) next at = prepares s (bounds_in f w a) a by next (ahead at by refl refl) (behind at refl refl)
  row_safe (ForNLoop a by) next at = charges (ForNLoop a by) next at refl
  row_safe (ForGPrep a by) next at =
      iterates s (iteration (store_of w) (value_in f w a) (value_in f w (a + 1)) (value_in f w (a + 2))) a by
      (iteration_made s (value_in f w a) (value_in f w (a + 1)) (value_in f w (a + 2)) (here_made a) (here_made (a + 1)) (here_made (a + 2)))
      (own_three at a _ refl) (ahead at by refl refl)
  row_safe (ForGLoop a by x) next at = charges (ForGLoop a by x) next at refl
  row_safe (GetVarargs to count) next at = gives_results s to count next f.varargs s.frame.varargs (behind at refl refl)
  row_safe (PrepVarargs parameters) next at = goes s next (behind at refl refl)
  row_safe (Capture kind from) next at = let r = at.runs in absurd cc
  row_safe (FastCall b over) next at =
      fast_one (FastCall b over) next b over _ (behind at refl refl) at refl (arguments_made (call_over p.code f over))
  row_safe (FastCall1 b a over) next at = fast_one (FastCall1 b a over) next b over _ (behind at refl refl) at refl (here_made a, tt)
  row_safe (FastCall2 b a over c) next at =
      fast_one (FastCall2 b a over c) next b over _ (behind at refl refl) at refl (here_made a, (here_made c, tt))
  row_safe (FastCall2K b a over k) next at =
      valued (pos k) _ (only (pos k, AValue) at refl)
      (λ v m. fast_one (FastCall2K b a over k) next b over _ (behind at refl refl) at refl (here_made a, (m, tt)))
  row_safe (JumpX by) next at = jumps s f.place by (ahead at by refl refl)
  row_safe (LoadKX to k) next at = valued (pos k) _ (only (pos k, AValue) at refl) (λ v m. gives s to v next m (behind at refl refl))
  row_safe (JumpXEqKNil from by x) next at = jumps_by _ by next (JumpXEqKNil from by x) at refl refl refl refl
  row_safe (JumpXEqKB from by x) next at = jumps_by _ by next (JumpXEqKB from by x) at refl refl refl refl
  row_safe (JumpXEqKN from by x) next at =
      jumps_equal (x % 2 ^ 24) (x / 2 ^ 31) from by next (JumpXEqKN from by x) at
      (number_known chunk f.proto (pos (x % 2 ^ 24))
      (constant_found chunk f.proto p s.frame.code sound (pos (x % 2 ^ 24)) ANumber (only (pos (x % 2 ^ 24), ANumber) at refl))) refl refl refl refl
  row_safe (JumpXEqKS from by x) next at =
      jumps_equal (x % 2 ^ 24) (x / 2 ^ 31) from by next (JumpXEqKS from by x) at
      (name_known chunk f.proto (x % 2 ^ 24)
      (constant_found chunk f.proto p s.frame.code sound (pos (x % 2 ^ 24)) AName (only (pos (x % 2 ^ 24), AName) at refl))).known refl refl refl refl
