-- Conditions, as jumps by their truth; `and`, `or`, `not` and `if` expressions.
use Rattle.std.proofs.Common.{Bool, true, false, not, ◌≡◌, ℕ, ℤ, List, [], ◌∷◌, length, refl, sym, ap, ◌∙◌, subst, arith}
use Rattle.syntax_tree.specs.declared.tree.BinOp.TheVariants as op
use Rattle.syntax_tree.specs.declared.tree.Expr.{Expr}
use Rattle.syntax_tree.specs.declared.tree.ExprArm.{ExprArm}
use Rattle.syntax_tree.specs.declared.tree.ExprKind.{out-ExprKind}
use Rattle.syntax_tree.specs.declared.tree.ExprKind.TheOpen as level
use Rattle.syntax_tree.specs.declared.tree.UnOp.TheVariants as unary
use Rattle.value_model.specs.Values.{Value, Nil, Boolean, is_true}
use Rattle.source_meaning.specs.Levels.{ExprLevel}
use Rattle.source_meaning.specs.States.{of_expr}
use Rattle.source_meaning.specs.States as source
use Rattle.source_meaning.specs.Moves as source_moves
use Rattle.source_meaning.specs.Expressions as expressions
use Rattle.source_meaning.specs.Steps as source_steps
use Rattle.op_words.specs.declared.insn.Insn.TheVariants as insn
use Rattle.machine_meaning.specs.States.{Val, held}
use Rattle.machine_meaning.specs.States as machine
use Rattle.machine_meaning.specs.Moves as machine_moves
use Rattle.machine_meaning.specs.Steps as machine_steps
use Rattle.code_simulation.specs.Slots.{Slot}
use Rattle.code_simulation.specs.Relation.{Dyn, cells_m, Setting}
use Rattle.code_simulation.proofs.Along.{File, Here, inside, frame, env_of, Reads, source_at, machine_at, Same}
use Rattle.code_simulation.proofs.Parts.{Forward, chosen, in_register, ExprRuns, OperandRuns, CondRuns, AnswerRuns, PickRuns}
use Rattle.code_simulation.proofs.Names.{steady_all, steady_on}
use Rattle.code_simulation.proofs.World.{pop, top_is}
use Rattle.code_simulation.proofs.Moving.{source_goes, target_goes}
use Rattle.code_simulation.proofs.Registers.{row_here}
use Rattle.code_simulation.proofs.Operations.{jump_is}
use Rattle.code_simulation.proofs.Values.{IsConstant, Loads, load_same}
use Rattle.code_simulation.proofs.Operators.{under, branch_is}

-- a truth value is its own truth
pub boolean_is : (b : Bool) → is_true (Boolean b) ≡ b
unfolding is_true
boolean_is b = refl

pub nil_is : is_true Nil ≡ false
unfolding is_true
nil_is = refl

-- the opposite goes on at the other place
pub chosen_not : (b : Bool) (x y : ℕ) → chosen b x y ≡ chosen (not b) y x
chosen_not true x y = refl
chosen_not false x y = refl

module _ (p : Setting) (most : ℕ) where
  -- the script's row of an expression of this kind
  pub begin_row : (e : Expr) (x : ExprLevel) (h : Here p most) (l : List Slot) (k : List source.Frame) (d : Dyn) → out-ExprKind e.kind ≡ x
      → source_steps.step p.texts (source_at p most h (source.Evaluate e) k (env_of p most h l) d) ≡ expressions.begin p.texts x (of_expr e)
      (inside p most h) k (env_of p most h l) d.script
  begin_row e x h l k d is =
      ap (λ (y : ExprLevel). expressions.begin p.texts y (of_expr e) (inside p most h) k (env_of p most h l) d.script) is

  -- the code goes on by the truth of a value in a register
  pub test_row : (h : Here p most) (place r target next : ℕ) (by : ℤ) (v : Value) (b : Bool) (file : File) (d : Dyn)
      → Reads p most h place (insn.JumpIf r by) next → Forward place by target → file.registers r ≡ Val v → is_true v ≡ b
      → machine_steps.step p.chunk (machine_at p most h place file d) ≡ machine_moves.now machine.Run
      (frame p most h (chosen b target next) file) h.below_m d.code
  test_row h place r target next by v b file d reads j see t =
      row_here p most h place next file d (insn.JumpIf r by) reads
      ∙ ap (λ x. machine_moves.branch (is_true (held (cells_m d) x)) by next (frame p most h place file) h.below_m d.code) see
      ∙ ap (λ x. machine_moves.branch x by next (frame p most h place file) h.below_m d.code) t
      ∙ branch_is p most h machine.Idle b place target next by file d.code j

  pub test_not_row : (h : Here p most) (place r target next : ℕ) (by : ℤ) (v : Value) (b : Bool) (file : File) (d : Dyn)
      → Reads p most h place (insn.JumpIfNot r by) next → Forward place by target → file.registers r ≡ Val v → is_true v ≡ b
      → machine_steps.step p.chunk (machine_at p most h place file d) ≡ machine_moves.now machine.Run
      (frame p most h (chosen b next target) file) h.below_m d.code
  test_not_row h place r target next by v b file d reads j see t =
      row_here p most h place next file d (insn.JumpIfNot r by) reads
      ∙ ap (λ x. machine_moves.branch (not (is_true (held (cells_m d) x))) by next (frame p most h place file) h.below_m d.code) see
      ∙ ap (λ x. machine_moves.branch (not x) by next (frame p most h place file) h.below_m d.code) t
      ∙ branch_is p most h machine.Idle (not b) place target next by file d.code j
      ∙ ap (λ n. machine_moves.now machine.Run (frame p most h n file) h.below_m d.code) (sym (chosen_not b next target))

  -- ---- conditions

  -- a value in a register, by a jump where it is true
  pub cond_if : (e : Expr) (own : Bool) (r : ℕ) (by : ℤ) (h : Here p most) (l : List Slot) (from last target next : ℕ)
      → OperandRuns p most e h l from last own (in_register r) → Reads p most h last (insn.JumpIf r by) next → Forward last by target
      → CondRuns p most e h l from target next
  cond_if e own r by h l from last target next runs reads j left le k d file w go =
      runs left le k d file w
      (λ i lt v d2 file2 w2 see steady.
      target_goes p (test_row h last r target next by v (is_true v) file2 d2 reads j see refl)
      (go i lt v d2 file2 (under p most own v h l d2 file2 w2) steady (is_true v) refl))

  -- and by a jump where it is false
  pub cond_unless : (e : Expr) (own : Bool) (r : ℕ) (by : ℤ) (h : Here p most) (l : List Slot) (from last target next : ℕ)
      → OperandRuns p most e h l from last own (in_register r) → Reads p most h last (insn.JumpIfNot r by) next → Forward last by target
      → CondRuns p most e h l from next target
  cond_unless e own r by h l from last target next runs reads j left le k d file w go =
      runs left le k d file w
      (λ i lt v d2 file2 w2 see steady.
      target_goes p (test_not_row h last r target next by v (is_true v) file2 d2 reads j see refl)
      (go i lt v d2 file2 (under p most own v h l d2 file2 w2) steady (is_true v) refl))

  -- a comparison
  pub cond_answer : (e : Expr) (h : Here p most) (l : List Slot) (from on_true on_false : ℕ) → AnswerRuns p most e h l from on_true on_false
      → CondRuns p most e h l from on_true on_false
  cond_answer e h l from on_true on_false runs left le k d file w go =
      runs left le k d file w
      (λ i lt b d2 file2 w2 steady. go i lt (Boolean b) d2 file2 w2 steady b (boolean_is b))

  -- a constant needs no code
  pub cond_constant : (e : Expr) (v : Value) (b : Bool) (h : Here p most) (l : List Slot) (from on_true on_false : ℕ) → IsConstant p.texts e v
      → is_true v ≡ b → from ≡ chosen b on_true on_false → CondRuns p most e h l from on_true on_false
  cond_constant e v b h l from on_true on_false is t stands left le k d file w go =
      source_goes p (is (inside p most h) k (env_of p most h l) d.script)
      (subst (λ n. Same p most h left (source.Give v) k l d n file) (sym stands) (go left (omega arith) v d file w (steady_all l file.registers) b t))

  pub cond_paren : (e inner : Expr) (h : Here p most) (l : List Slot) (from on_true on_false : ℕ) → out-ExprKind e.kind ≡ level.Paren inner
      → CondRuns p most inner h l from on_true on_false → CondRuns p most e h l from on_true on_false
  cond_paren e inner h l from on_true on_false kind runs left le k d file w go =
      source_goes p (begin_row e _ h l k d kind) (runs left le k d file w go)

  -- what is not true goes on at the other place
  pub cond_not : (e inner : Expr) (h : Here p most) (l : List Slot) (from on_true on_false : ℕ) → out-ExprKind e.kind ≡ level.Unary unary.Not inner
      → CondRuns p most inner h l from on_false on_true → CondRuns p most e h l from on_true on_false
  cond_not e inner h l from on_true on_false kind runs left le k d file w go =
      source_goes p (begin_row e _ h l k d kind)
      (runs left le (source.Operand (of_expr e) unary.Not ∷ k) d file w
      (λ i lt v d2 file2 w2 steady b t. source_goes p refl
      (subst (λ n. Same p most h i (source.Give (Boolean (not (is_true v)))) k l d2 n file2) (sym (chosen_not b on_false on_true))
      (go i lt (Boolean (not (is_true v))) d2 file2 w2 steady (not b) (boolean_is (not (is_true v)) ∙ ap not t)))))

  -- the left operand decides, or the right one does
  decides_and : (e b : Expr) (h : Here p most) (l : List Slot) (left : ℕ) (k : List source.Frame) (v : Value) (d : Dyn) (file : File) (mid off : ℕ)
      (t : Bool) → is_true v ≡ t → (t ≡ true → Same p most h left (source.Evaluate b) k l d mid file)
      → (t ≡ false → Same p most h left (source.Give v) k l d off file)
      → Same p most h left (source.Give v) (source.Decides op.And b ∷ k) l d (chosen t mid off) file
  decides_and e b h l left k v d file mid off true t on stop =
      source_goes p (ap (λ x. expressions.decide op.And x v b (inside p most h) k (env_of p most h l) d.script) t) (on refl)
  decides_and e b h l left k v d file mid off false t on stop =
      source_goes p (ap (λ x. expressions.decide op.And x v b (inside p most h) k (env_of p most h l) d.script) t) (stop refl)

  decides_or : (e b : Expr) (h : Here p most) (l : List Slot) (left : ℕ) (k : List source.Frame) (v : Value) (d : Dyn) (file : File) (mid off : ℕ)
      (t : Bool) → is_true v ≡ t → (t ≡ false → Same p most h left (source.Evaluate b) k l d mid file)
      → (t ≡ true → Same p most h left (source.Give v) k l d off file)
      → Same p most h left (source.Give v) (source.Decides op.Or b ∷ k) l d (chosen t off mid) file
  decides_or e b h l left k v d file mid off true t on stop =
      source_goes p (ap (λ x. expressions.decide op.Or x v b (inside p most h) k (env_of p most h l) d.script) t) (stop refl)
  decides_or e b h l left k v d file mid off false t on stop =
      source_goes p (ap (λ x. expressions.decide op.Or x v b (inside p most h) k (env_of p most h l) d.script) t) (on refl)

  -- `and` as a condition
  pub cond_and : (e a b : Expr) (h : Here p most) (l : List Slot) (from mid on_true on_false : ℕ) → out-ExprKind e.kind ≡ level.Binary op.And a b
      → CondRuns p most a h l from mid on_false → CondRuns p most b h l mid on_true on_false → CondRuns p most e h l from on_true on_false
  cond_and e a b h l from mid on_true on_false kind a_runs b_runs left le k d file w go =
      source_goes p (begin_row e _ h l k d kind)
      (a_runs left le (source.Decides op.And b ∷ k) d file w
      (λ i lt v d2 file2 w2 steady t is.
      decides_and e b h l i k v d2 file2 mid on_false t is
      (λ on. b_runs i (omega (arith, le, lt)) k d2 file2 w2 (λ j lt2 u d3 file3 w3 steady2. go j (omega (arith, lt, lt2)) u d3 file3 w3
      (steady_on l _ _ _ steady steady2)))
      (λ off. go i lt v d2 file2 w2 steady false (is ∙ off))))

  -- `or` as a condition
  pub cond_or : (e a b : Expr) (h : Here p most) (l : List Slot) (from mid on_true on_false : ℕ) → out-ExprKind e.kind ≡ level.Binary op.Or a b
      → CondRuns p most a h l from on_true mid → CondRuns p most b h l mid on_true on_false → CondRuns p most e h l from on_true on_false
  cond_or e a b h l from mid on_true on_false kind a_runs b_runs left le k d file w go =
      source_goes p (begin_row e _ h l k d kind)
      (a_runs left le (source.Decides op.Or b ∷ k) d file w
      (λ i lt v d2 file2 w2 steady t is.
      decides_or e b h l i k v d2 file2 mid on_true t is
      (λ on. b_runs i (omega (arith, le, lt)) k d2 file2 w2 (λ j lt2 u d3 file3 w3 steady2. go j (omega (arith, lt, lt2)) u d3 file3 w3
      (steady_on l _ _ _ steady steady2)))
      (λ off. go i lt v d2 file2 w2 steady true (is ∙ off))))

  -- ---- answers

  pub answer_not : (e inner : Expr) (h : Here p most) (l : List Slot) (from on_true on_false : ℕ) → out-ExprKind e.kind ≡ level.Unary unary.Not inner
      → AnswerRuns p most inner h l from on_false on_true → AnswerRuns p most e h l from on_true on_false
  answer_not e inner h l from on_true on_false kind runs left le k d file w go =
      source_goes p (begin_row e _ h l k d kind)
      (runs left le (source.Operand (of_expr e) unary.Not ∷ k) d file w
      (λ i lt b d2 file2 w2 steady. source_goes p (ap (λ x. source_moves.now (source.Give (Boolean (not x))) (inside p most h) k
      (env_of p most h l) d2.script) (boolean_is b))
      (subst (λ n. Same p most h i (source.Give (Boolean (not b))) k l d2 n file2) (sym (chosen_not b on_false on_true))
      (go i lt (not b) d2 file2 w2 steady))))

  -- `not` of a condition is an answer
  pub answer_not_cond : (e inner : Expr) (h : Here p most) (l : List Slot) (from on_true on_false : ℕ)
      → out-ExprKind e.kind ≡ level.Unary unary.Not inner → CondRuns p most inner h l from on_false on_true
      → AnswerRuns p most e h l from on_true on_false
  answer_not_cond e inner h l from on_true on_false kind runs left le k d file w go =
      source_goes p (begin_row e _ h l k d kind)
      (runs left le (source.Operand (of_expr e) unary.Not ∷ k) d file w
      (λ i lt v d2 file2 w2 steady b t. source_goes p (ap (λ x. source_moves.now (source.Give (Boolean (not x))) (inside p most h) k
      (env_of p most h l) d2.script) t)
      (subst (λ n. Same p most h i (source.Give (Boolean (not b))) k l d2 n file2) (sym (chosen_not b on_false on_true))
      (go i lt (not b) d2 file2 w2 steady))))

  loaded : (b : Bool) (h : Here p most) (l : List Slot) (on_true on_false to : ℕ) → Loads p most h on_true (length l) (Boolean true) to
      → Loads p most h on_false (length l) (Boolean false) to → Loads p most h (chosen b on_true on_false) (length l) (Boolean b) to
  loaded true h l on_true on_false to x y = x
  loaded false h l on_true on_false to x y = y

  -- an answer is put into a register, at each of two places
  pub answer_value : (e : Expr) (h : Here p most) (l : List Slot) (from on_true on_false to : ℕ) → AnswerRuns p most e h l from on_true on_false
      → Loads p most h on_true (length l) (Boolean true) to → Loads p most h on_false (length l) (Boolean false) to → ExprRuns p most e h l from to
  answer_value e h l from on_true on_false to runs x y left le k d file w go =
      runs left le k d file w
      (λ i lt b d2 file2 w2 steady.
      load_same p most h l (chosen b on_true on_false) to i k (Boolean b) d2 file2 (loaded b h l on_true on_false to x y) w2
      (λ j lt2 v d3 file3 w3 steady2. go j (omega (arith, lt, lt2)) v d3 file3 w3 (steady_on l _ _ _ steady steady2)))

  -- ---- `and` and `or` as values: the left one's value stays where it is, or the right one's takes its place

  pub and_same : (e a b : Expr) (by : ℤ) (h : Here p most) (l : List Slot) (from mid next to : ℕ) → out-ExprKind e.kind ≡ level.Binary op.And a b
      → ExprRuns p most a h l from mid → Reads p most h mid (insn.JumpIfNot (length l) by) next → Forward mid by to → ExprRuns p most b h l next to
      → ExprRuns p most e h l from to
  and_same e a b by h l from mid next to kind a_runs reads j b_runs left le k d file w go =
      source_goes p (begin_row e _ h l k d kind)
      (a_runs left le (source.Decides op.And b ∷ k) d file w
      (λ i lt v d2 file2 w2 steady.
      target_goes p (test_not_row h mid (length l) to next by v (is_true v) file2 d2 reads j (top_is w2) refl)
      (decides_and e b h l i k v d2 file2 next to (is_true v) refl
      (λ on. b_runs i (omega (arith, le, lt)) k d2 file2 (pop w2) (λ n lt2 u d3 file3 w3 steady2. go n (omega (arith, lt, lt2)) u d3 file3 w3
      (steady_on l _ _ _ steady steady2)))
      (λ off. go i lt v d2 file2 w2 steady))))

  pub or_same : (e a b : Expr) (by : ℤ) (h : Here p most) (l : List Slot) (from mid next to : ℕ) → out-ExprKind e.kind ≡ level.Binary op.Or a b
      → ExprRuns p most a h l from mid → Reads p most h mid (insn.JumpIf (length l) by) next → Forward mid by to → ExprRuns p most b h l next to
      → ExprRuns p most e h l from to
  or_same e a b by h l from mid next to kind a_runs reads j b_runs left le k d file w go =
      source_goes p (begin_row e _ h l k d kind)
      (a_runs left le (source.Decides op.Or b ∷ k) d file w
      (λ i lt v d2 file2 w2 steady.
      target_goes p (test_row h mid (length l) to next by v (is_true v) file2 d2 reads j (top_is w2) refl)
      (decides_or e b h l i k v d2 file2 next to (is_true v) refl
      (λ on. b_runs i (omega (arith, le, lt)) k d2 file2 (pop w2) (λ n lt2 u d3 file3 w3 steady2. go n (omega (arith, lt, lt2)) u d3 file3 w3
      (steady_on l _ _ _ steady steady2)))
      (λ off. go i lt v d2 file2 w2 steady))))

  -- ---- `if` expressions

  -- without an arm it is the value of `else`
  pub pick_other : (other : Expr) (h : Here p most) (l : List Slot) (from to : ℕ) → ExprRuns p most other h l from to → PickRuns p most [] other h l from to
  pick_other other h l from to runs left le k d file w go = source_goes p refl (runs left le k d file w go)

  picked : (arm : ExprArm) (arms : List ExprArm) (other : Expr) (h : Here p most) (l : List Slot) (left : ℕ) (k : List source.Frame) (v : Value)
      (d : Dyn) (file : File) (on_true on_false : ℕ) (t : Bool) → is_true v ≡ t
      → (t ≡ true → Same p most h left (source.Evaluate arm.value) k l d on_true file)
      → (t ≡ false → Same p most h left (source.Pick arms other) k l d on_false file)
      → Same p most h left (source.Give v) (source.Picks arm.value arms other ∷ k) l d (chosen t on_true on_false) file
  picked arm arms other h l left k v d file on_true on_false true t on off =
      source_goes p (ap (λ x. expressions.picked x arm.value arms other (inside p most h) k (env_of p most h l) d.script) t) (on refl)
  picked arm arms other h l left k v d file on_true on_false false t on off =
      source_goes p (ap (λ x. expressions.picked x arm.value arms other (inside p most h) k (env_of p most h l) d.script) t) (off refl)

  -- an arm's value, behind which the code jumps over what follows; or what follows
  pub pick_arm : (arm : ExprArm) (arms : List ExprArm) (other : Expr) (by : ℤ) (h : Here p most) (l : List Slot)
      (from on_true last behind on_false to : ℕ) → CondRuns p most arm.cond h l from on_true on_false → ExprRuns p most arm.value h l on_true last
      → Reads p most h last (insn.Jump by) behind → Forward last by to → PickRuns p most arms other h l on_false to
      → PickRuns p most (arm ∷ arms) other h l from to
  pick_arm arm arms other by h l from on_true last behind on_false to cond_runs value_runs reads j rest_runs left le k d file w go =
      source_goes p refl
      (cond_runs left le (source.Picks arm.value arms other ∷ k) d file w
      (λ i lt v d2 file2 w2 steady t is.
      picked arm arms other h l i k v d2 file2 on_true on_false t is
      (λ on. value_runs i (omega (arith, le, lt)) k d2 file2 w2
      (λ n lt2 u d3 file3 w3 steady2.
      target_goes p (row_here p most h last behind file3 d3 (insn.Jump by) reads ∙ jump_is j (frame p most h last file3) h.below_m d3.code)
      (go n (omega (arith, lt, lt2)) u d3 file3 w3 (steady_on l _ _ _ steady steady2))))
      (λ off. rest_runs i (omega (arith, le, lt)) k d2 file2 w2
      (λ n lt2 u d3 file3 w3 steady2. go n (omega (arith, lt, lt2)) u d3 file3 w3 (steady_on l _ _ _ steady steady2)))))

  pub if_same : (e : Expr) (arms : List ExprArm) (other : Expr) (h : Here p most) (l : List Slot) (from to : ℕ)
      → out-ExprKind e.kind ≡ level.ExprKind::If arms other → PickRuns p most arms other h l from to → ExprRuns p most e h l from to
  if_same e arms other h l from to kind runs left le k d file w go =
      source_goes p (begin_row e _ h l k d kind) (runs left le k d file w go)
