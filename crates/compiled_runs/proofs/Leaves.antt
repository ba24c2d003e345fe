-- Constants, names, `...`, and what stands in parentheses.
use Rattle.std.proofs.Common.{◌≡◌, ℕ, ◌+◌, ◌≤◌, ℤ, Bool, true, false, List, length, Option, Some, None, refl, sym, ap, ◌∙◌, arith, subst, if◌then◌else◌}
use Rattle.std.specs.Prelude.{unwrap_or, nat_eq}
use Rattle.byte_text.specs.declared.fixed.StrId.{StrId}
use Rattle.syntax_tree.specs.declared.bindings.Bindings.{Bindings}
use Rattle.syntax_tree.specs.declared.bindings.Bound.{Bound}
use Rattle.syntax_tree.specs.declared.bindings.Bound.TheVariants as bound
use Rattle.syntax_tree.specs.declared.tree.Expr.{Expr}
use Rattle.syntax_tree.specs.declared.tree.ExprKind.{out-ExprKind}
use Rattle.syntax_tree.specs.declared.tree.ExprKind.TheOpen as level
use Rattle.syntax_tree.specs.Need.{need_expr}
use Rattle.value_model.specs.Values.{Nil, Boolean, Number, Text}
use Rattle.source_meaning.specs.Levels.{ExprLevel}
use Rattle.source_meaning.specs.Expressions.{text_of}
use Rattle.op_words.specs.declared.chunk.Const.TheVariants as constants
use Rattle.op_words.specs.declared.insn.Insn.TheVariants as i
use Rattle.emit_expr.specs.declared.draft.Emitter.{Emitter}
use Rattle.emit_expr.specs.Puts.{Step, insn, constant_place, with_constant, text_place, with_text, short, long}
use Rattle.emit_expr.specs.Names.{bound_at, register_of, upvalue_of, name_run, own_of, is_captured}
use Rattle.emit_expr.specs.Operators.{is_small, number_run, text_run}
use Rattle.node_code.specs.Nodes.{NoTarget, operand_register, operand_code, operand_at, operand_run}
use Rattle.node_code.specs.Code as code
use Rattle.node_code.specs.Code.{expr_code}
use Rattle.code_simulation.specs.Slots.{Slot}
use Rattle.code_simulation.specs.Relation.{Setting}
use Rattle.code_simulation.proofs.Along.{CallsGo, Here, Reads}
use Rattle.code_simulation.proofs.Parts.{in_register, constant, ExprRuns, OperandRuns, Stays}
use Rattle.code_simulation.proofs.Values as values
use Rattle.code_simulation.proofs.Values.{Loads, constant_same, own_operand, own_stays, local_operand, local_stays, constant_operand}
use Rattle.code_simulation.proofs.Singles.{gives_one, single_by}
use Rattle.compiled_runs.proofs.Places.{here, before_put, here_insn, here_constant, here_text}
use Rattle.compiled_runs.proofs.Scopes.{some_none, same_some}
use Rattle.compiled_runs.proofs.Standing.{Script, Stands, local, upvalue, global, name_stands}
use Rattle.compiled_runs.proofs.Constants.{number_known, text_known, name_known}
use Rattle.compiled_runs.proofs.NodeLevels.{code_of}
use Rattle.compiled_runs.proofs.Nodes.{has_temp, Runs, In, reads, As, truth_cond, made, ValueRuns, made_as}

false_true : false ≡ true → ⊥
false_true m = cc

module _ (p : Setting) (most : ℕ) (calls : (i : ℕ) → i ≤ most → CallsGo p i) (b : Bindings) (whole : Emitter) (script : Script p b whole) where
  abbrev pub Holds : Expr → Type 0
  Holds e = As p most b whole script e (expr_code b e)

  abbrev AsMade : Expr → Bool → Option ℤ → (ℕ → ℕ → Step) → Type 0
  AsMade e many number run = As p most b whole script e (made p most b whole script e.id many number NoTarget run)

  -- one value, which is written nowhere else
  pub single_as : (e : Expr) (x : ExprLevel) (run : ℕ → Step) → out-ExprKind e.kind ≡ x → gives_one x ≡ true
      → ValueRuns p most b whole script e (λ to results. run to) → AsMade e false None (λ to results. run to)
  single_as e x run is one value =
      made_as p most b whole script e e.id false None NoTarget (λ to results. run to) value
      (λ m. absurd (false_true m)) (λ m. single_by e x is one) (λ m to results d. refl) (λ n m. some_none m)

  -- ---- constants

  pub nil_holds : (e : Expr) → out-ExprKind e.kind ≡ level.Nil → Holds e
  nil_holds e is = subst (As p most b whole script e) (sym (code_of b e level.Nil is))
      (single_as e level.Nil (λ to. insn (i.LoadNil to)) is refl
      (λ h r ps l d s. constant_same p most e Nil h l (here d) _ (values.nil_constant p.texts e is)
      (values.loads_nil (reads p most b whole script h r (i.LoadNil (length l)) d s.inside))))

  truth_loads : (n : ℕ) (h : Here p most) (r : Runs p most b whole script h) (l : List Slot) (d : Emitter)
      → In p most b whole script h r (insn (i.LoadB (length l) n 0) d) → Loads p most h (here d) (length l) (Boolean (nat_eq n 1)) (here (insn (i.LoadB (length l) n 0) d))
  truth_loads n h r l d s =
      let e : here d + 1 + 0 ≡ here (insn (i.LoadB (length l) n 0) d) = omega (arith, here_insn (i.LoadB (length l) n 0) d) in
      subst (λ m. Loads p most h (here d) (length l) (Boolean (nat_eq n 1)) m) e
      (values.loads_boolean (reads p most b whole script h r (i.LoadB (length l) n 0) d s))

  pub true_holds : (e : Expr) → out-ExprKind e.kind ≡ level.True → Holds e
  true_holds e is = subst (As p most b whole script e) (sym (code_of b e level.True is))
      (single_as e level.True (λ to. insn (i.LoadB to 1 0)) is refl
      (λ h r ps l d s. constant_same p most e (Boolean true) h l (here d) _ (values.true_constant p.texts e is)
      (truth_loads 1 h r l d s.inside)))

  pub false_holds : (e : Expr) → out-ExprKind e.kind ≡ level.False → Holds e
  false_holds e is = subst (As p most b whole script e) (sym (code_of b e level.False is))
      (single_as e level.False (λ to. insn (i.LoadB to 0 0)) is refl
      (λ h r ps l d s. constant_same p most e (Boolean false) h l (here d) _ (values.false_constant p.texts e is)
      (truth_loads 0 h r l d s.inside)))

  number_value : (e : Expr) (n : ℤ) → out-ExprKind e.kind ≡ level.Num n → (h : Here p most) (r : Runs p most b whole script h) (l : List Slot) (d : Emitter)
      → In p most b whole script h r (number_run n (length l) d) → ExprRuns p most e h l (here d) (here (number_run n (length l) d))
  number_value e n is h r l d s = by (is_small n) s
    where
      long_way : Emitter
      long_way = insn (i.LoadK (length l) (short (constant_place (constants.Num n) d))) (with_constant (constants.Num n) d)

      by : (t : Bool) → In p most b whole script h r (if t then insn (i.LoadN (length l) n) d else long_way)
          → ExprRuns p most e h l (here d) (here (if t then insn (i.LoadN (length l) n) d else long_way))
      by true s =
          constant_same p most e (Number n) h l (here d) _ (values.number_constant p.texts e n is)
          (values.loads_number (reads p most b whole script h r (i.LoadN (length l) n) d s))
      by false s =
          let k = with_constant (constants.Num n) d in
          let at = reads p most b whole script h r (i.LoadK (length l) (short (constant_place (constants.Num n) d))) k s in
          constant_same p most e (Number n) h l (here d) _ (values.number_constant p.texts e n is)
          (values.loads_constant (subst (λ m. Reads p most h m (i.LoadK (length l) (short (constant_place (constants.Num n) d))) (here long_way)) (here_constant (constants.Num n) d) at)
          (number_known p most b whole script h r n d (before_put r.final whole _ k s)))

  pub number_holds : (e : Expr) (n : ℤ) → out-ExprKind e.kind ≡ level.Num n → Holds e
  number_holds e n is = subst (As p most b whole script e) (sym (code_of b e (level.Num n) is))
      (made_as p most b whole script e e.id false (Some n) NoTarget (λ to results. number_run n to)
      (λ h r ps l d s. number_value e n is h r l d s.inside)
      (λ m. absurd (false_true m)) (λ m. single_by e (level.Num n) is refl) (λ m to results d. refl)
      (λ k m h l from. subst (λ (z : ℤ). OperandRuns p most e h l from from false (constant (Number z))) (same_some m)
      (constant_operand p most e (Number n) h l from (values.number_constant p.texts e n is))))

  text_value : (e : Expr) (t : StrId) → out-ExprKind e.kind ≡ level.Str t → (h : Here p most) (r : Runs p most b whole script h) (l : List Slot) (d : Emitter)
      → In p most b whole script h r (text_run t (length l) d) → ExprRuns p most e h l (here d) (here (text_run t (length l) d))
  text_value e t is h r l d s =
      let k = with_text t d in
      let at = reads p most b whole script h r (i.LoadK (length l) (short (text_place t d))) k s in
      constant_same p most e (Text (text_of p.texts t)) h l (here d) _ (values.text_constant p.texts e t is)
      (values.loads_constant (subst (λ m. Reads p most h m (i.LoadK (length l) (short (text_place t d))) (here (text_run t (length l) d))) (here_text t d) at)
      (text_known p most b whole script h r t d (before_put r.final whole _ k s)))

  pub text_holds : (e : Expr) (t : StrId) → out-ExprKind e.kind ≡ level.Str t → Holds e
  text_holds e t is = subst (As p most b whole script e) (sym (code_of b e (level.Str t) is))
      (single_as e (level.Str t) (text_run t) is refl (λ h r ps l d s. text_value e t is h r l d s.inside))

  -- ---- names

  name_value : (e : Expr) (x : StrId) → out-ExprKind e.kind ≡ level.Name x → (h : Here p most) (r : Runs p most b whole script h) (l : List Slot)
      (d : Emitter) (o : Bound) → Stands p most b whole script h r x l d o → In p most b whole script h r (name_run b o x (length l) d)
      → length l ≤ h.proto.registers → ExprRuns p most e h l (here d) (here (name_run b o x (length l) d))
  name_value e x is h r l d _ (local k f) s room =
      let register : register_of k d ≡ f.local.register = ap (λ o. unwrap_or o 0) f.register in
      let to = here (name_run b (bound.Local k) x (length l) d) in
      values.local_same p most e x f.local h l (here d) to is f.at
      (subst (λ n. Reads p most h (here d) (i.Move (length l) n) to) register
      (reads p most b whole script h r (i.Move (length l) (register_of k d)) d s))
  name_value e x is h r l d _ (upvalue k out up) s room =
      values.upvalue_same p most e x (upvalue_of b k d) h l (here d) _ is out up
      (reads p most b whole script h r (i.GetUpvalue (length l) (upvalue_of b k d)) d s)
  name_value e x is h r l d _ (global out none) s room =
      let named = with_text x d in
      let c = long (text_place x d) in
      let to = here (name_run b bound.Global x (length l) d) in
      values.global_same p most calls e x c h l (here d) to is out none
      (name_known p most b whole script h r x d (before_put r.final whole _ named s))
      (subst (λ m. Reads p most h m (i.GetGlobal (length l) c) to) (here_text x d)
      (reads p most b whole script h r (i.GetGlobal (length l) c) named s)) room

  -- a name as an operand: a local that no closure may capture is read in its own register
  name_operand : (e : Expr) (x : StrId) → out-ExprKind e.kind ≡ level.Name x → (h : Here p most) (r : Runs p most b whole script h) (l : List Slot)
      (d : Emitter) (o : Bound) → Stands p most b whole script h r x l d o
      → In p most b whole script h r (operand_run (code.named b o x e.id) (length l) d) → length l ≤ h.proto.registers
      → OperandRuns p most e h l (here d) (here (operand_run (code.named b o x e.id) (length l) d)) (has_temp (own_of b o))
      (in_register (operand_at (code.named b o x e.id) (length l) d))
      × Stays p most h l (has_temp (own_of b o)) (in_register (operand_at (code.named b o x e.id) (length l) d))
  name_operand e x is h r l d _ (local k f) s room = by (is_captured b k) refl s
    where
      at : Option ℕ → ℕ
      at o = operand_register o (length l) d

      after : Option ℕ → Emitter
      after o = operand_code o (name_run b (bound.Local k) x (length l)) d

      by : (t : Bool) → is_captured b k ≡ t → In p most b whole script h r (after (if t then None else Some k))
          → OperandRuns p most e h l (here d) (here (after (if t then None else Some k))) (has_temp (if t then None else Some k))
          (in_register (at (if t then None else Some k)))
          × Stays p most h l (has_temp (if t then None else Some k)) (in_register (at (if t then None else Some k)))
      by true c s =
          (own_operand p most e h l (here d) _ (name_value e x is h r l d (bound.Local k) (local k f) s room), own_stays p most h l)
      by false c s =
          let register : register_of k d ≡ f.local.register = ap (λ o. unwrap_or o 0) f.register in
          subst (λ n. OperandRuns p most e h l (here d) (here d) false (in_register n) × Stays p most h l false (in_register n)) (sym register)
          (local_operand p most e x f.local h l (here d) is f.at (f.flag ∙ c), local_stays p most x f.local h l f.at (f.flag ∙ c))
  name_operand e x is h r l d _ (upvalue k out up) s room =
      (own_operand p most e h l (here d) _ (name_value e x is h r l d (bound.Up k) (upvalue k out up) s room), own_stays p most h l)
  name_operand e x is h r l d _ (global out none) s room =
      (own_operand p most e h l (here d) _ (name_value e x is h r l d bound.Global (global out none) s room), own_stays p most h l)

  room_one : (e : Expr) (x : ExprLevel) (l : List Slot) (n : ℕ) → length l + (need_expr e).need ≤ n → length l ≤ n
  room_one e x l n le = omega (arith, le)

  pub name_holds : (e : Expr) (x : StrId) → out-ExprKind e.kind ≡ level.Name x → Holds e
  name_holds e x is = subst (As p most b whole script e) (sym (code_of b e (level.Name x) is)) (record {
    value = λ h r ps l d s. name_value e x is h r l d (bound_at b e.id)
        (name_stands p most b whole script h r e x ps l d is s.func s.at) s.inside (room_one e (level.Name x) l _ s.room);
    all = λ m. absurd (false_true m);
    single = λ m. single_by e (level.Name x) is refl;
    same = λ m to results d. refl;
    operand = λ h r ps l d s. name_operand e x is h r l d (bound_at b e.id)
        (name_stands p most b whole script h r e x ps l d is s.func s.at) s.inside (room_one e (level.Name x) l _ s.room);
    number = λ n m. some_none m;
    cond = λ so h r ps l d label target s e2 le.
        truth_cond p most b whole script e so (has_temp (own_of b (bound_at b e.id)))
        (operand_at (code.named b (bound_at b e.id) x e.id) (length l) d) h r l d (operand_run (code.named b (bound_at b e.id) x e.id) (length l) d) label target
        (name_operand e x is h r l d (bound_at b e.id) (name_stands p most b whole script h r e x ps l d is s.func s.at)
        (before_put r.final whole _ _ s.inside) (room_one e (level.Name x) l _ s.room)).0
        s.inside e2 le;
  })
