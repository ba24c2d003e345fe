-- Constants, names and what stands in parentheses.
use Rattle.std.proofs.Common.{true, false, ◌≡◌, ℕ, ◌+◌, ◌≤◌, ℤ, pos, List, length, Option, Some, None, refl, sym, ap, ◌∙◌, arith}
use Rattle.std.specs.Prelude.{slice_get, slice_index_or, nat_eq}
use Rattle.byte_text.specs.declared.fixed.StrId.{StrId}
use Rattle.syntax_tree.specs.declared.tree.Expr.{Expr}
use Rattle.syntax_tree.specs.declared.tree.ExprKind.{out-ExprKind}
use Rattle.syntax_tree.specs.declared.tree.ExprKind.TheOpen as level
use Rattle.value_model.specs.Values.{Value, Nil, Boolean, Number, Text, Table, Bytes}
use Rattle.value_model.specs.Store.{environment_of}
use Rattle.value_model.specs.Choices.{Index}
use Rattle.value_model.specs.Metamethods.{choose}
use Rattle.source_meaning.specs.Levels.{ExprLevel}
use Rattle.source_meaning.specs.States.{cell_of, of_expr}
use Rattle.source_meaning.specs.States as source
use Rattle.source_meaning.specs.Moves as source_moves
use Rattle.source_meaning.specs.Expressions as expressions
use Rattle.source_meaning.specs.Expressions.{text_of}
use Rattle.source_meaning.specs.Steps as source_steps
use Rattle.op_words.specs.declared.insn.Insn.TheVariants as insn
use Rattle.machine_meaning.specs.Constants.{known, name_at}
use Rattle.machine_meaning.specs.States.{held}
use Rattle.machine_meaning.specs.States as machine
use Rattle.machine_meaning.specs.Moves as machine_moves
use Rattle.machine_meaning.specs.Effects as effects
use Rattle.machine_meaning.specs.Steps as machine_steps
use Rattle.code_simulation.specs.Slots.{Slot, Local, local_at}
use Rattle.code_simulation.specs.Relation.{at, Dyn, cells_s, cells_m, store_s, store_m, Setting}
use Rattle.code_simulation.proofs.Along.{CallsGo, File, Here, inside, frame, env_of, Reads, source_at, machine_at, Has, Same, WithValue}
use Rattle.code_simulation.proofs.Parts.{ExprRuns, OperandRuns, in_register, constant, Stays}
use Rattle.code_simulation.proofs.Names.{look_in, look_out, steady_all, steady_at}
use Rattle.code_simulation.proofs.World.{read, read_plain, read_up, top_is}
use Rattle.code_simulation.proofs.Moving.{source_goes}
use Rattle.code_simulation.proofs.Registers.{row_here, given}
use Rattle.code_simulation.proofs.Operations.{value_here}

-- an expression that gives a value at once
abbrev pub IsConstant : List Bytes → Expr → Value → Type 0
IsConstant texts e v =
    (h : source_moves.Here) (k : List source.Frame) (env : source.Environment) (w : source.World)
    → expressions.begin texts (out-ExprKind e.kind) (of_expr e) h k env w ≡ source_moves.now (source.Give v) h k env w

module _ (texts : List Bytes) (e : Expr) where
  pub nil_constant : out-ExprKind e.kind ≡ level.Nil → IsConstant texts e Nil
  nil_constant is h k env w = ap (λ (x : ExprLevel). expressions.begin texts x (of_expr e) h k env w) is

  pub true_constant : out-ExprKind e.kind ≡ level.True → IsConstant texts e (Boolean true)
  true_constant is h k env w = ap (λ (x : ExprLevel). expressions.begin texts x (of_expr e) h k env w) is

  pub false_constant : out-ExprKind e.kind ≡ level.False → IsConstant texts e (Boolean false)
  false_constant is h k env w = ap (λ (x : ExprLevel). expressions.begin texts x (of_expr e) h k env w) is

  pub number_constant : (n : ℤ) → out-ExprKind e.kind ≡ level.Num n → IsConstant texts e (Number n)
  number_constant n is h k env w = ap (λ (x : ExprLevel). expressions.begin texts x (of_expr e) h k env w) is

  pub text_constant : (x : StrId) → out-ExprKind e.kind ≡ level.Str x → IsConstant texts e (Text (text_of texts x))
  text_constant x is h k env w = ap (λ (x : ExprLevel). expressions.begin texts x (of_expr e) h k env w) is

module _ (p : Setting) (most : ℕ) where
  -- an instruction puts a constant into a register
  pub data Loads (h : Here p most) (place to : ℕ) : Value → (next : ℕ) → Type 0 where
    loads_nil : {next : ℕ} → Reads p most h place (insn.LoadNil to) next → Loads h place to Nil next
    loads_boolean : {next b by : ℕ} → Reads p most h place (insn.LoadB to b by) next → Loads h place to (Boolean (nat_eq b 1)) (place + 1 + by)
    loads_number : {next : ℕ} {n : ℤ} → Reads p most h place (insn.LoadN to n) next → Loads h place to (Number n) next
    loads_constant : {next : ℕ} {c : ℤ} {v : Value} → Reads p most h place (insn.LoadK to c) next → known p.chunk h.number c ≡ Some v → Loads h place to v next
    loads_far : {next c : ℕ} {v : Value} → Reads p most h place (insn.LoadKX to c) next → known p.chunk h.number (pos c) ≡ Some v → Loads h place to v next

  pub loads_row : (h : Here p most) (place to next : ℕ) (v : Value) (file : File) (d : Dyn) → Loads h place to v next
      → machine_steps.step p.chunk (machine_at p most h place file d) ≡ machine_moves.give to v next (frame p most h place file) h.below_m d.code
  loads_row h place to next _ file d (loads_nil r) = row_here p most h place next file d (insn.LoadNil to) r
  loads_row h place to _ _ file d (loads_boolean {next} {b} {by} r) = row_here p most h place next file d (insn.LoadB to b by) r
  loads_row h place to next _ file d (loads_number {n = n} r) = row_here p most h place next file d (insn.LoadN to n) r
  loads_row h place to next v file d (loads_constant {c = c} r e) =
      row_here p most h place next file d (insn.LoadK to c) r
      ∙ ap (λ o. effects.with_constant o (λ v. machine_moves.give to v next) (frame p most h place file) h.below_m d.code) e
  loads_row h place to next v file d (loads_far {c = c} r e) =
      row_here p most h place next file d (insn.LoadKX to c) r
      ∙ ap (λ o. effects.with_constant o (λ v. machine_moves.give to v next) (frame p most h place file) h.below_m d.code) e

  -- a constant is loaded
  pub load_same : (h : Here p most) (l : List Slot) (place next left : ℕ) (k : List source.Frame) (v : Value) (d : Dyn) (file : File)
      → Loads h place (length l) v next → Has p most h left l d file → WithValue p most h left l file.registers k next
      → Same p most h left (source.Give v) k l d place file
  load_same h l place next left k v d file loads w go =
      given p most h machine.Idle l next place left k v d file file _ w (steady_all l file.registers) (loads_row h place (length l) next v file d loads) go

  pub constant_same : (e : Expr) (v : Value) (h : Here p most) (l : List Slot) (from to : ℕ) → IsConstant p.texts e v → Loads h from (length l) v to
      → ExprRuns p most e h l from to
  constant_same e v h l from to is loads left le k d file w go =
      source_goes p (is (inside p most h) k (env_of p most h l) d.script) (load_same h l from to left k v d file loads w go)

  -- the script's row of a name
  name_row : (e : Expr) (x : StrId) (o : Option ℕ) (h : Here p most) (l : List Slot) (k : List source.Frame) (d : Dyn)
      → out-ExprKind e.kind ≡ level.Name x → cell_of (env_of p most h l) x ≡ o
      → source_steps.step p.texts (source_at p most h (source.Evaluate e) k (env_of p most h l) d) ≡ expressions.named p.texts o (of_expr e) x
      (inside p most h) k (env_of p most h l) d.script
  name_row e x o h l k d is found =
      ap (λ (y : ExprLevel). expressions.begin p.texts y (of_expr e) (inside p most h) k (env_of p most h l) d.script) is
      ∙ ap (λ c. expressions.named p.texts c (of_expr e) x (inside p most h) k (env_of p most h l) d.script) found

  -- a local's register is copied
  pub local_same : (e : Expr) (x : StrId) (o : Local) (h : Here p most) (l : List Slot) (from to : ℕ) → out-ExprKind e.kind ≡ level.Name x
      → local_at l x ≡ Some o → Reads p most h from (insn.Move (length l) o.register) to → ExprRuns p most e h l from to
  local_same e x o h l from to is found r left le k d file w go =
      let v = held (cells_m d) (file.registers o.register) in
      source_goes p (name_row e x (Some o.cell) h l k d is (look_in l h.act.outer x o found)
      ∙ ap (λ v. source_moves.now (source.Give v) (inside p most h) k (env_of p most h l) d.script) (read x o found w))
      (given p most h machine.Idle l to from left k v d file file _ w (steady_all l file.registers)
      (row_here p most h from to file d (insn.Move (length l) o.register) r) go)

  -- an upvalue is read
  pub upvalue_same : (e : Expr) (x : StrId) (u : ℕ) (h : Here p most) (l : List Slot) (from to : ℕ) → out-ExprKind e.kind ≡ level.Name x
      → local_at l x ≡ None → slice_get h.act.ups u ≡ Some x → Reads p most h from (insn.GetUpvalue (length l) u) to → ExprRuns p most e h l from to
  upvalue_same e x u h l from to is out up r left le k d file w go =
      let c = read_up x u up w in
      let v = at (cells_m d) (slice_index_or h.act.cells u 0) in
      source_goes p (name_row e x (Some c.0) h l k d is (look_out l h.act.outer x out ∙ c.1)
      ∙ ap (λ v. source_moves.now (source.Give v) (inside p most h) k (env_of p most h l) d.script) c.2)
      (given p most h machine.Idle l to from left k v d file file _ w (steady_all l file.registers)
      (row_here p most h from to file d (insn.GetUpvalue (length l) u) r) go)

  -- what stands in parentheses gives one value
  pub paren_same : (e inner : Expr) (h : Here p most) (l : List Slot) (from to : ℕ) → out-ExprKind e.kind ≡ level.Paren inner
      → ExprRuns p most inner h l from to → ExprRuns p most e h l from to
  paren_same e inner h l from to is runs left le k d file w go =
      source_goes p (ap (λ (y : ExprLevel). expressions.begin p.texts y (of_expr e) (inside p most h) k (env_of p most h l) d.script) is)
      (runs left le k d file w go)

  -- ---- operands

  -- one that has a register of its own
  pub own_operand : (e : Expr) (h : Here p most) (l : List Slot) (from to : ℕ) → ExprRuns p most e h l from to
      → OperandRuns p most e h l from to true (in_register (length l))
  own_operand e h l from to runs left le k d file w go =
      runs left le k d file w (λ i lt v d2 file2 w2 steady. go i lt v d2 file2 w2 (top_is w2) steady)

  pub own_stays : (h : Here p most) (l : List Slot) → Stays p most h l true (in_register (length l))
  own_stays h l i v d regs file sees w steady = top_is w

  -- a local that no closure may capture is read where it stands
  pub local_operand : (e : Expr) (x : StrId) (o : Local) (h : Here p most) (l : List Slot) (from : ℕ) → out-ExprKind e.kind ≡ level.Name x
      → local_at l x ≡ Some o → o.captured ≡ false → OperandRuns p most e h l from from false (in_register o.register)
  local_operand e x o h l from is found plain left le k d file w go =
      source_goes p (name_row e x (Some o.cell) h l k d is (look_in l h.act.outer x o found))
      (go left (omega arith) (at (cells_s d) o.cell) d file w (read_plain x o found plain w) (steady_all l file.registers))

  pub local_stays : (x : StrId) (o : Local) (h : Here p most) (l : List Slot) → local_at l x ≡ Some o → o.captured ≡ false
      → Stays p most h l false (in_register o.register)
  local_stays x o h l found plain i v d regs file sees w steady =
      steady_at l regs file.registers x o found plain steady ∙ sees

  -- a constant stands in the instruction
  pub constant_operand : (e : Expr) (v : Value) (h : Here p most) (l : List Slot) (from : ℕ) → IsConstant p.texts e v
      → OperandRuns p most e h l from from false (constant v)
  constant_operand e v h l from is left le k d file w go =
      source_goes p (is (inside p most h) k (env_of p most h l) d.script) (go left (omega arith) v d file w refl (steady_all l file.registers))

  pub constant_stays : (v : Value) (h : Here p most) (l : List Slot) → Stays p most h l false (constant v)
  constant_stays v h l i u d regs file sees w steady = sees

module _ (p : Setting) (most : ℕ) (calls : (i : ℕ) → i ≤ most → CallsGo p i) where
  -- a global is looked up in the function's environment
  pub global_same : (e : Expr) (x : StrId) (c : ℕ) (h : Here p most) (l : List Slot) (from to : ℕ) → out-ExprKind e.kind ≡ level.Name x
      → local_at l x ≡ None → cell_of h.act.outer x ≡ None → name_at p.chunk h.number c ≡ Some (text_of p.texts x)
      → Reads p most h from (insn.GetGlobal (length l) c) to → length l ≤ h.proto.registers → ExprRuns p most e h l from to
  global_same e x c h l from to is out none name r room left le k d file w go =
      let env = environment_of (store_s d) h.closure in
      value_here p most calls (Index (Table env) (Text (text_of p.texts x))) h l left le (of_expr e) k from to file file d room w
      (steady_all l file.registers) go _ _
      (name_row p most e x None h l k d is (look_out l h.act.outer x out ∙ none))
      (row_here p most h from to file d (insn.GetGlobal (length l) c) r
      ∙ ap (λ o. effects.with_name o (λ y. effects.index (Table (environment_of (store_m d) h.closure)) (Text y) (length l) to)
      (frame p most h from file) h.below_m d.code) name
      ∙ ap (λ s. machine_moves.settle (choose (Index (Table (environment_of s h.closure)) (Text (text_of p.texts x))) (store_m d))
      (machine.Into (length l) to) (frame p most h from file) h.below_m d.code) (sym w.ok.base.store))
