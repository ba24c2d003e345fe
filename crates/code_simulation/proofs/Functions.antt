-- Function expressions: what a closure captures, and the closure; a write to a variable, wherever it is.
use Rattle.std.proofs.Common.{true, ◌≡◌, ℕ, suc, pos, List, [], ◌∷◌, ◌++◌, length, Some, None, refl, sym, ap, ◌∙◌, ⊎_elim}
use Rattle.std.specs.Prelude.{slice_get, slice_index_or}
use Rattle.std.specs.Option.{option_and_then}
use Rattle.byte_text.specs.declared.fixed.StrId.{StrId}
use Rattle.syntax_tree.specs.declared.tree.Expr.{Expr}
use Rattle.syntax_tree.specs.declared.tree.ExprKind.{out-ExprKind}
use Rattle.syntax_tree.specs.declared.tree.ExprKind.TheOpen as level
use Rattle.syntax_tree.specs.declared.tree.FuncBody.{FuncBody}
use Rattle.value_model.specs.Values.{Value, Closure}
use Rattle.value_model.specs.Store.{Store, environment_of, with_new_closure}
use Rattle.source_meaning.specs.Levels.{ExprLevel}
use Rattle.source_meaning.specs.States.{cell_of, of_expr}
use Rattle.source_meaning.specs.Moves as source_moves
use Rattle.source_meaning.specs.Expressions as expressions
use Rattle.op_words.specs.declared.insn.Insn.TheVariants as insn
use Rattle.op_words.specs.Chunks.{ProtoOf}
use Rattle.machine_meaning.specs.States.{Register, Val, Open, Registers, put}
use Rattle.machine_meaning.specs.States as machine
use Rattle.machine_meaning.specs.Moves as machine_moves
use Rattle.machine_meaning.specs.Effects as effects
use Rattle.machine_meaning.specs.Steps as machine_steps
use Rattle.code_simulation.specs.Slots.{Slot, Local, local_at, Of, Taken, Tags, Steady}
use Rattle.code_simulation.specs.Relation.{Dyn, cells_s, cells_m, store_s, store_m, changed, Setting, UpsAlike, Code}
use Rattle.code_simulation.proofs.Along.{File, Here, inside, frame, env_of, Reads, machine_at, Has}
use Rattle.code_simulation.proofs.Parts.{ExprRuns}
use Rattle.code_simulation.proofs.Names.{look_in, look_out, steady_all, steady_on, steady_captured, mark_same}
use Rattle.code_simulation.proofs.World.{find, ups_at}
use Rattle.code_simulation.proofs.Changes.{append_nil, append_one, opens, makes, source_set, both_set, open_cell, make_closure, assign_private, assign_shared, opened_keeps}
use Rattle.code_simulation.proofs.Moving.{source_goes}
use Rattle.code_simulation.proofs.Registers.{row_here, given, with_register}

module _ (p : Setting) (most : ℕ) where
  -- how an instruction captures a variable: from its register, or as an upvalue of the function that runs
  pub data Captured (h : Here p most) (l : List Slot) (y : StrId) (place next : ℕ) : Type 0 where
    from_register : (o : Local) → local_at l y ≡ Some o → o.captured ≡ true → Reads p most h place (insn.Capture 1 o.register) next → Captured h l y place next
    from_upvalue : (u : ℕ) → local_at l y ≡ None → slice_get h.act.ups u ≡ Some y → Reads p most h place (insn.Capture 2 u) next → Captured h l y place next

  -- the captures of a closure, one after the other
  abbrev pub Captures : Here p most → List Slot → List StrId → (place to : ℕ) → Type 0
  Captures h l [] place to = place ≡ to
  Captures h l (y ∷ ys) place to = (next : ℕ) × Captured h l y place next × Captures h l ys next to

  abbrev pub with_registers : File → Registers → File
  with_registers file regs = record { registers = regs; top = file.top }

  -- the code has taken the cells of these variables, behind those taken before
  pub record Took (turns : ℕ) (h : Here p most) (l : List Slot) (d : Dyn) (at : ℕ) (file : File) (ys : List StrId) (place to : ℕ)
      (before : List ℕ) : Type 0 where
    pub tag : Tags
    pub cells : List Value
    pub registers : Registers
    pub taken : List ℕ
    pub is : effects.captures h.proto.code (length ys) place (record
        { taken = before; inside = machine_moves.inside (frame p most h at file) d.code }) ≡ Some (
          record {
            taken = before ++ taken;
            inside = machine_moves.inside (frame p most h at (with_registers file registers))
                (machine.with_cells cells d.code);
          },
          to,
        )
    pub keeps : (c k : ℕ) → d.tag c ≡ Taken k → tag c ≡ Taken k
    pub holds : Has p most h turns l (changed d tag (cells_s d) cells) (with_registers file registers)
    pub alike : UpsAlike tag (env_of p most h l) ys taken
    pub steady : Steady l file.registers registers

  -- one cell more, which was taken before
  one_more : (turns : ℕ) (h : Here p most) (l : List Slot) (d : Dyn) (at : ℕ) (file : File) (y : StrId) (ys : List StrId) (place next to : ℕ)
      (before : List ℕ) (c k : ℕ) → cell_of (env_of p most h l) y ≡ Some c → d.tag c ≡ Taken k
      → effects.captures h.proto.code (suc (length ys)) place (record
      { taken = before; inside = machine_moves.inside (frame p most h at file) d.code }) ≡ effects.captures h.proto.code (length ys) next
      (record { taken = before ++ k ∷ []; inside = machine_moves.inside (frame p most h at file) d.code })
      → Took turns h l d at file ys next to (before ++ k ∷ []) → Took turns h l d at file (y ∷ ys) place to before
  one_more turns h l d at file y ys place next to before c k found own row t = record {
    tag = t.tag;
    cells = t.cells;
    registers = t.registers;
    taken = k ∷ t.taken;
    is = row ∙ t.is ∙ ap (λ ts. Some (
      record {
        taken = ts;
        inside = machine_moves.inside (frame p most h at (with_registers file t.registers))
            (machine.with_cells t.cells d.code);
      },
      to,
    )) (append_one before k t.taken);
    keeps = t.keeps;
    holds = t.holds;
    alike = ((c, found, t.keeps c k own), t.alike);
    steady = t.steady;
  }

  -- one cell more, which is new
  after_open : (turns : ℕ) (h : Here p most) (l : List Slot) (d : Dyn) (at : ℕ) (file : File) (y : StrId) (ys : List StrId) (place next to : ℕ)
      (before : List ℕ) (o : Local) (v : Value) → local_at l y ≡ Some o → o.captured ≡ true → d.tag o.cell ≡ Of h.co (length h.roots) v
      → effects.captures h.proto.code (suc (length ys)) place (record
      { taken = before; inside = machine_moves.inside (frame p most h at file) d.code }) ≡ effects.captures h.proto.code (length ys) next
      (record {
        taken = before ++ length (cells_m d) ∷ [];
        inside = machine_moves.inside
            (frame p most h at (with_registers file (put file.registers o.register (Open (length (cells_m d))))))
            (machine.with_cells (cells_m d ++ v ∷ []) d.code);
      }) → Took turns h l (opens d o.cell v) at
      (with_registers file (put file.registers o.register (Open (length (cells_m d))))) ys next to (before ++ length (cells_m d) ∷ [])
      → Took turns h l d at file (y ∷ ys) place to before
  after_open turns h l d at file y ys place next to before o v found cap own row t = record {
    tag = t.tag;
    cells = t.cells;
    registers = t.registers;
    taken = length (cells_m d) ∷ t.taken;
    is = row ∙ t.is ∙ ap (λ ts. Some (
      record {
        taken = ts;
        inside = machine_moves.inside (frame p most h at (with_registers file t.registers))
            (machine.with_cells t.cells d.code);
      },
      to,
    )) (append_one before (length (cells_m d)) t.taken);
    keeps = λ c k e. t.keeps c k (opened_keeps d o.cell h.co (length h.roots) v own c k e);
    holds = t.holds;
    alike = ((o.cell, look_in l h.act.outer y o found, t.keeps o.cell (length (cells_m d)) (mark_same d.tag o.cell (Taken (length (cells_m d))))), t.alike);
    steady = steady_on l _ _ _ (steady_captured l file.registers y o (Open (length (cells_m d))) found cap) t.steady;
  }

  -- the row of a capture
  capture_row : (h : Here p most) (n place next kind from : ℕ) (t : machine.Taken) → Reads p most h place (insn.Capture kind from) next
      → effects.captures h.proto.code (suc n) place t ≡ effects.captures h.proto.code n next (machine.capture kind from t)
  capture_row h n place next kind from t reads = ap (λ o. effects.captured o t (λ next u. effects.captures h.proto.code n next u)) reads

  -- the captures of a closure take the cells of its variables
  pub take_same : (ys : List StrId) (turns : ℕ) (h : Here p most) (l : List Slot) (at place to : ℕ) (before : List ℕ) (d : Dyn) (file : File)
      → Captures h l ys place to → Has p most h turns l d file → Took turns h l d at file ys place to before
  take_same [] turns h l at place to before d file c w = record {
    tag = d.tag;
    cells = cells_m d;
    registers = file.registers;
    taken = [];
    is = ap (λ n. Some (record { taken = before; inside = machine_moves.inside (frame p most h at file) d.code }, n)) c
        ∙ ap (λ ts. Some (record { taken = ts; inside = machine_moves.inside (frame p most h at file) d.code }, to)) (sym (append_nil before));
    keeps = λ c k e. e;
    holds = w;
    alike = tt;
    steady = steady_all l file.registers;
  }
  take_same (y ∷ ys) turns h l at place to before d file (next, from_register o found cap reads, more) w =
      ⊎_elim
      (λ m.
      after_open turns h l d at file y ys place next to before o m.0 found cap m.1
      (capture_row h (length ys) place next 1 o.register (record { taken = before; inside = machine_moves.inside (frame p most h at file) d.code }) reads
      ∙ ap (λ r. effects.captures h.proto.code (length ys) next (machine.opened r o.register
      (record { taken = before; inside = machine_moves.inside (frame p most h at file) d.code }))) m.2)
      (take_same ys turns h l at next to (before ++ length (cells_m d) ∷ []) (opens d o.cell m.0)
      (with_registers file (put file.registers o.register (Open (length (cells_m d))))) more (open_cell y o m.0 found cap m.1 w)))
      (λ m.
      one_more turns h l d at file y ys place next to before o.cell m.0 (look_in l h.act.outer y o found) m.1
      (capture_row h (length ys) place next 1 o.register (record { taken = before; inside = machine_moves.inside (frame p most h at file) d.code }) reads
      ∙ ap (λ r. effects.captures h.proto.code (length ys) next (machine.opened r o.register
      (record { taken = before; inside = machine_moves.inside (frame p most h at file) d.code }))) m.2)
      (take_same ys turns h l at next to (before ++ m.0 ∷ []) d file more w))
      (find y o found w.fits)
  take_same (y ∷ ys) turns h l at place to before d file (next, from_upvalue u out up reads, more) w =
      let k = slice_index_or h.act.cells u 0 in
      let found = ups_at d.tag h.act.outer h.act.ups h.act.cells u y w.alike up in
      one_more turns h l d at file y ys place next to before found.0 k (look_out l h.act.outer y out ∙ found.1) found.2
      (capture_row h (length ys) place next 2 u (record { taken = before; inside = machine_moves.inside (frame p most h at file) d.code }) reads)
      (take_same ys turns h l at next to (before ++ k ∷ []) d file more w)

  -- the closure's function among those of the function that runs
  pub record Child (h : Here p most) (l : List Slot) (func : FuncBody) (c number : ℕ) (ups : List StrId) (proto : ProtoOf) : Type 0 where
    pub child : slice_get h.proto.children c ≡ Some number
    pub code : Code p func number (env_of p most h l) ups proto

  -- both states behind a new closure
  abbrev pub made : Here p most → List Slot → Dyn → FuncBody → (number : ℕ) → Tags → List Value → List ℕ → Dyn
  made h l d func number tag cells taken =
      makes (changed d tag (cells_s d) cells) (environment_of (store_s d) h.closure) (record { func = func; env = env_of p most h l })
      (record { proto = number; cells = taken })

  pub made_holds : (turns : ℕ) (h : Here p most) (l : List Slot) (d : Dyn) (at : ℕ) (file : File) (place to : ℕ) (func : FuncBody) (number : ℕ)
      (ups : List StrId) (proto : ProtoOf) → Code p func number (env_of p most h l) ups proto → (t : Took turns h l d at file ups place to [])
      → Has p most h turns l (made h l d func number t.tag t.cells t.taken) (with_registers file t.registers)
  made_holds turns h l d at file place to func number ups proto code t =
      make_closure (environment_of (store_s d) h.closure) _ _ (record { ups = ups; proto = proto; coded = code; alike = t.alike }) t.holds

  -- the row of the instruction that makes a closure
  pub closure_row : (turns : ℕ) (h : Here p most) (l : List Slot) (d : Dyn) (file : File) (from mid to r c : ℕ) (func : FuncBody) (number : ℕ)
      (ups : List StrId) (proto : ProtoOf) → Reads p most h from (insn.NewClosure r (pos c)) mid → Child h l func c number ups proto
      → store_s d ≡ store_m d → (t : Took turns h l d from file ups mid to [])
      → machine_steps.step p.chunk (machine_at p most h from file d) ≡ machine_moves.give r (Closure (length (store_s d).closures)) to
      (frame p most h from (with_registers file t.registers)) h.below_m (made h l d func number t.tag t.cells t.taken).code
  closure_row turns h l d file from mid to r c func number ups proto reads child store t =
      let fr = frame p most h from file in
      row_here p most h from mid file d (insn.NewClosure r (pos c)) reads
      ∙ ap (λ o. effects.new_closure p.chunk h.proto.code (option_and_then (λ (q : ProtoOf). slice_get q.children c) o) r mid fr h.below_m d.code) h.found
      ∙ ap (λ o. effects.new_closure p.chunk h.proto.code o r mid fr h.below_m d.code) child.child
      ∙ ap (λ o. effects.closure number (effects.captures h.proto.code (effects.upvalues_of o) mid
      (record { taken = []; inside = machine_moves.inside fr d.code })) r fr h.below_m d.code) child.code.found
      ∙ ap (λ n. effects.closure number (effects.captures h.proto.code n mid (record { taken = []; inside = machine_moves.inside fr d.code })) r fr
      h.below_m d.code) child.code.upvalues
      ∙ ap (λ o. effects.closure number o r fr h.below_m d.code) t.is
      ∙ ap (λ (s : Store). machine_moves.give r (Closure (length s.closures)) to (frame p most h from (with_registers file t.registers)) h.below_m
      (record (machine.with_cells t.cells d.code) {
        objects = with_new_closure (machine.with_cells t.cells d.code).objects
            (environment_of s h.closure) (record { proto = number; cells = t.taken });
      })) (sym store)

  -- a function expression
  pub function_same : (e : Expr) (func : FuncBody) (c number : ℕ) (ups : List StrId) (proto : ProtoOf) (h : Here p most) (l : List Slot)
      (from mid to : ℕ) → out-ExprKind e.kind ≡ level.Function func → Reads p most h from (insn.NewClosure (length l) (pos c)) mid
      → Captures h l ups mid to → Child h l func c number ups proto → ExprRuns p most e h l from to
  function_same e func c number ups proto h l from mid to kind reads captures child left le k d file w go =
      let t = take_same ups left h l from mid to [] d file captures w in
      source_goes p (ap (λ (y : ExprLevel). expressions.begin p.texts y (of_expr e) (inside p most h) k (env_of p most h l) d.script) kind)
      (given p most h machine.Idle l to from left k (Closure (length (store_s d).closures)) (made h l d func number t.tag t.cells t.taken) file
      (with_registers file t.registers) _
      (made_holds left h l d from file mid to func number ups proto child.code t) t.steady
      (closure_row left h l d file from mid to (length l) c func number ups proto reads child w.ok.base.store t) go)

  -- ---- a variable is written: in its register, or in the cell that closures have taken

  pub written : {i : ℕ} (h : Here p most) (l : List Slot) (d : Dyn) (file : File) (x : StrId) (o : Local) (v : Value) → local_at l x ≡ Some o
      → Has p most h i l d file → (P : Type 0) → ((d' : Dyn) (file' : File) → source_moves.with_cell o.cell v d.script ≡ d'.script
      → ((q : machine.Purpose) (place : ℕ) → machine.set o.register v
      (machine_moves.inside (machine_moves.waits_for q (frame p most h place file)) d.code) ≡ machine_moves.inside
      (machine_moves.waits_for q (frame p most h place file')) d'.code) → file'.top ≡ file.top → Has p most h i l d' file' → P) → P
  written {i} h l d file x o v found w P go =
      ⊎_elim
      (λ m. go (source_set d o.cell h.co (length h.roots) v) (with_register p most file o.register v) refl
      (λ q place. ap (λ r. machine.write r o.register v (machine_moves.inside (machine_moves.waits_for q (frame p most h place file)) d.code)) m.2)
      refl
      (assign_private x o m.0 v found m.1 w))
      (λ m. go (both_set d o.cell m.0 v) file refl
      (λ q place. ap (λ r. machine.write r o.register v (machine_moves.inside (machine_moves.waits_for q (frame p most h place file)) d.code)) m.2)
      refl
      (assign_shared o.cell m.0 v m.1 w))
      (find x o found w.fits)
