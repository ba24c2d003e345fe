-- Comparisons, as jumps and as values.
use Rattle.std.proofs.Common.{◌≡◌, ℕ, ◌+◌, ◌≤◌, ℤ, Bool, true, false, not, List, [], ◌∷◌, length, Some, refl, sym, ap, ◌∙◌, arith, subst}
use Rattle.syntax_tree.specs.declared.bindings.Bindings.{Bindings}
use Rattle.syntax_tree.specs.declared.tree.BinOp.{BinOp}
use Rattle.syntax_tree.specs.declared.tree.BinOp.TheVariants as op
use Rattle.syntax_tree.specs.declared.tree.Expr.{Expr}
use Rattle.syntax_tree.specs.declared.tree.ExprKind.{out-ExprKind}
use Rattle.syntax_tree.specs.declared.tree.ExprKind.TheOpen as level
use Rattle.syntax_tree.specs.Need.{need_expr}
use Rattle.value_model.specs.declared.operator.CompareOp.TheVariants as compare_op
use Rattle.value_model.specs.Values.{Value, Boolean}
use Rattle.value_model.specs.Choices.{Operation, Compare}
use Rattle.value_model.specs.Metamethods.{choose}
use Rattle.source_meaning.specs.States as source
use Rattle.op_words.specs.declared.insn.Insn.TheVariants as i
use Rattle.machine_meaning.specs.States as machine
use Rattle.machine_meaning.specs.Moves as machine_moves
use Rattle.machine_meaning.specs.Steps as machine_steps
use Rattle.code_link.specs.Labels.{place_in}
use Rattle.code_link.specs.Linking.{jumping}
use Rattle.emit_expr.specs.declared.draft.Emitter.{Emitter}
use Rattle.emit_expr.specs.Puts.{insn, label, branch, place}
use Rattle.emit_expr.specs.Operators.{comparison, equality, less, at_most}
use Rattle.emit_laws.proofs.Grows as grows
use Rattle.node_code.specs.Nodes.{ExprCode, decided, operand_at, operand_run}
use Rattle.node_code.specs.Conditions.{compare_jump, compare_run, binary_code}
use Rattle.node_code.specs.Code.{expr_code}
use Rattle.scope_laws.specs.Sight.{Part, expr}
use Rattle.code_simulation.specs.Slots.{Slot}
use Rattle.code_simulation.specs.Relation.{Dyn, store_m, Setting}
use Rattle.code_simulation.proofs.Along.{CallsGo, File, Here, frame, Reads, machine_at}
use Rattle.code_simulation.proofs.Parts.{chosen, in_register, AnswerRuns}
use Rattle.code_simulation.proofs.Values.{Loads, loads_boolean}
use Rattle.code_simulation.proofs.Conditions.{cond_answer, answer_value}
use Rattle.code_simulation.proofs.Comparisons.{registers_compare, registers_compare_turned}
use Rattle.code_simulation.proofs.Operators as operators
use Rattle.code_simulation.proofs.Operators.{IsOperation, jumps_on}
use Rattle.compiled_runs.proofs.Places.{here, before_put, here_insn, here_place, label_read}
use Rattle.compiled_runs.proofs.Standing.{Script}
use Rattle.compiled_runs.proofs.NodeLevels.{code_of}
use Rattle.compiled_runs.proofs.Nodes.{has_temp, Runs, Stand, reads, As, ValueRuns, jump_at}
use Rattle.compiled_runs.proofs.Following.{front, above, parts, operand_grows, operand_keeps}
use Rattle.compiled_runs.proofs.Leaves.{Holds}
use Rattle.compiled_runs.proofs.Parentheses.{JumpRuns, decided_as}
use Rattle.compiled_runs.proofs.Operators.{both, right_operand}

module _ (p : Setting) (most : ℕ) where
  -- the instruction at a place compares two registers, and jumps by the answer
  abbrev pub Compares : Here p most → (place a b next : ℕ) → ℤ → (Value → Value → Operation) → (jumps : Bool) → Type 0
  Compares h place a b next by operation jumps =
      (v u : Value) (d : Dyn) (file : File) → in_register a file.registers v → in_register b file.registers u
      → machine_steps.step p.chunk (machine_at p most h place file d) ≡ machine_moves.settle (choose (operation v u) (store_m d))
      (machine.Compares jumps by next) (frame p most h place file) h.below_m d.code

  -- a comparison, with its operation, and whether it is true where that is false
  pub record IsComparison (o : BinOp) (operation : Value → Value → Operation) (opposite : Bool) : Type 0 where
    pub is : IsOperation o operation (source.Compares opposite)
    pub code : (x y : ExprCode) (id : ℕ) → binary_code o x y id ≡ decided id (compare_run o x y id) (compare_jump o x y)
    pub jumps : Bool → Bool
    pub right : (so : Bool) → jumps_on p most opposite (jumps so) ≡ so
    pub compares : (so : Bool) (h : Here p most) (place a b next : ℕ) (by : ℤ) → Reads p most h place (jumping (comparison o so a b) by) next
        → Compares h place a b next by operation (jumps so)

  equal : (so : Bool) (h : Here p most) (place a b next : ℕ) (by : ℤ) → Reads p most h place (jumping (equality so a b) by) next
      → Compares h place a b next by (Compare compare_op.Eq) so
  equal true h place a b next by reads =
      registers_compare p most compare_op.Eq true h (i.JumpIfEq a by b) place a b next by reads (λ f fs w. refl)
  equal false h place a b next by reads =
      registers_compare p most compare_op.Eq false h (i.JumpIfNotEq a by b) place a b next by reads (λ f fs w. refl)

  below : (so : Bool) (h : Here p most) (place a b next : ℕ) (by : ℤ) → Reads p most h place (jumping (less so a b) by) next
      → Compares h place a b next by (Compare compare_op.Lt) so
  below true h place a b next by reads =
      registers_compare p most compare_op.Lt true h (i.JumpIfLt a by b) place a b next by reads (λ f fs w. refl)
  below false h place a b next by reads =
      registers_compare p most compare_op.Lt false h (i.JumpIfNotLt a by b) place a b next by reads (λ f fs w. refl)

  not_above : (so : Bool) (h : Here p most) (place a b next : ℕ) (by : ℤ) → Reads p most h place (jumping (at_most so a b) by) next
      → Compares h place a b next by (Compare compare_op.Le) so
  not_above true h place a b next by reads =
      registers_compare p most compare_op.Le true h (i.JumpIfLe a by b) place a b next by reads (λ f fs w. refl)
  not_above false h place a b next by reads =
      registers_compare p most compare_op.Le false h (i.JumpIfNotLe a by b) place a b next by reads (λ f fs w. refl)

  -- the operands exchanged
  beyond : (so : Bool) (h : Here p most) (place a b next : ℕ) (by : ℤ) → Reads p most h place (jumping (less so b a) by) next
      → Compares h place a b next by (λ v u. Compare compare_op.Lt u v) so
  beyond true h place a b next by reads =
      registers_compare_turned p most compare_op.Lt true h (i.JumpIfLt b by a) place a b next by reads (λ f fs w. refl)
  beyond false h place a b next by reads =
      registers_compare_turned p most compare_op.Lt false h (i.JumpIfNotLt b by a) place a b next by reads (λ f fs w. refl)

  not_below : (so : Bool) (h : Here p most) (place a b next : ℕ) (by : ℤ) → Reads p most h place (jumping (at_most so b a) by) next
      → Compares h place a b next by (λ v u. Compare compare_op.Le u v) so
  not_below true h place a b next by reads =
      registers_compare_turned p most compare_op.Le true h (i.JumpIfLe b by a) place a b next by reads (λ f fs w. refl)
  not_below false h place a b next by reads =
      registers_compare_turned p most compare_op.Le false h (i.JumpIfNotLe b by a) place a b next by reads (λ f fs w. refl)

  other_way : (so : Bool) → jumps_on p most true (not so) ≡ so
  other_way true = refl
  other_way false = refl

  pub eq_is : IsComparison op.Eq (Compare compare_op.Eq) false
  eq_is = record { is = operators.eq_is; code = λ x y id. refl; jumps = λ so. so; right = λ so. refl; compares = equal }

  pub ne_is : IsComparison op.Ne (Compare compare_op.Eq) true
  ne_is = record {
    is = operators.ne_is;
    code = λ x y id. refl;
    jumps = λ so. not so;
    right = other_way;
    compares = λ so h place a b next by reads. equal (not so) h place a b next by reads;
  }

  pub lt_is : IsComparison op.Lt (Compare compare_op.Lt) false
  lt_is = record { is = operators.lt_is; code = λ x y id. refl; jumps = λ so. so; right = λ so. refl; compares = below }

  pub le_is : IsComparison op.Le (Compare compare_op.Le) false
  le_is = record { is = operators.le_is; code = λ x y id. refl; jumps = λ so. so; right = λ so. refl; compares = not_above }

  pub gt_is : IsComparison op.Gt (λ v u. Compare compare_op.Lt u v) false
  gt_is = record { is = operators.gt_is; code = λ x y id. refl; jumps = λ so. so; right = λ so. refl; compares = beyond }

  pub ge_is : IsComparison op.Ge (λ v u. Compare compare_op.Le u v) false
  ge_is = record { is = operators.ge_is; code = λ x y id. refl; jumps = λ so. so; right = λ so. refl; compares = not_below }

module _ (p : Setting) (most : ℕ) (calls : (i : ℕ) → i ≤ most → CallsGo p i) (b : Bindings) (whole : Emitter) (script : Script p b whole) where
  module _ (o : BinOp) (operation : Value → Value → Operation) (opposite : Bool) (c : IsComparison p most o operation opposite) (e x y : Expr)
      (is : out-ExprKind e.kind ≡ level.Binary o x y) (hx : Holds p most calls b whole script x) (hy : Holds p most calls b whole script y) where
    abbrev cx : ExprCode
    cx = expr_code b x

    abbrev cy : ExprCode
    cy = expr_code b y

    -- the jump goes by the answer
    answers : (so : Bool) (h : Here p most) (r : Runs p most b whole script h) (ps : List Part) (l : List Slot) (d : Emitter) (to target : ℕ)
        → Stand p most b whole script h r (expr e ∷ ps) l d (compare_jump o cx cy so (length l) to d) (need_expr e).need
        → place_in r.final.items 0 to ≡ Some target → here (compare_jump o cx cy so (length l) to d) ≤ target
        → AnswerRuns p most e h l (here d) (chosen so target (here (compare_jump o cx cy so (length l) to d)))
        (chosen so (here (compare_jump o cx cy so (length l) to d)) target)
    answers so h r ps l d to target s placed le =
        let d1 = operand_run cx (length l) d in
        let left = operand_at cx (length l) d in
        let right = operand_at cy (length l + 1) d1 in
        let d2 = operand_run cy (length l + 1) d1 in
        let test = comparison o so left right in
        let d3 = branch test to d2 in
        let s1 = parts p most b whole script h r e (level.Binary o x y) ps l d d3 is s in
        let g = grows.put _ d2 d2 (grows.none d2) in
        let ox = hx.operand h r (expr y ∷ []) l d
        (front p most b whole script h r (expr x ∷ expr y ∷ []) l d d1 d3 _ (need_expr x).need s1
        (grows.after d1 d2 d3 (operand_grows b y (length l + 1) d1) g) (omega arith)) in
        let j = jump_at p most b whole script h r test to d2 s.inside in
        subst (λ (t : Bool). AnswerRuns p most e h l (here d) (chosen t target (here d3)) (chosen t (here d3) target)) (c.right so)
        (operators.compare_same p most calls o operation opposite (c.jumps so) j.by e x y (has_temp cx.own) (in_register left)
        (both (has_temp cx.own) (has_temp cy.own)) (in_register right) h l (here d) (here d1) (here d2) target (here d3) c.is is ox.0 ox.1
        (right_operand p most calls b whole script y hy (has_temp cx.own) h r l d1
        (above p most b whole script h r x (expr y ∷ []) l d d1 d2 d3 _ (need_expr y).need s1 (operand_grows b x (length l) d)
        (operand_keeps b x (length l) d) g (omega arith)))
        (c.compares so h (here d2) left right (here d3) j.by j.reads)
        (j.on target placed le) (omega (arith, s.room)))

    cond_runs : JumpRuns p most b whole script e (compare_jump o cx cy)
    cond_runs so h r ps l d to target s placed le = cond_answer p most e h l (here d) _ _ (answers so h r ps l d to target s placed le)

    -- as a value: it jumps to where true is loaded, over the load of false
    value_runs : ValueRuns p most b whole script e (λ to results. compare_run o cx cy e.id to)
    value_runs h r ps l d s =
        let own = label e.id 0 in
        let d1 = compare_jump o cx cy true (length l) own d in
        let d2 = insn (i.LoadB (length l) 0 1) d1 in
        let d3 = place own d2 in
        let d4 = insn (i.LoadB (length l) 1 0) d3 in
        let in3 = before_put r.final whole _ d3 s.inside in
        let in2 = before_put r.final whole _ d2 in3 in
        let e2 = here_insn (i.LoadB (length l) 0 1) d1 in
        let e3 = here_place own d2 in
        let e4 = here_insn (i.LoadB (length l) 1 0) d3 in
        let skipped : here d1 + 1 + 1 ≡ here d4 = omega (arith, e2, e3, e4) in
        let loaded : here d3 + 1 + 0 ≡ here d4 = omega (arith, e4) in
        answer_value p most e h l (here d) (here d2) (here d1) (here d4)
        (answers true h r ps l d own (here d2)
        (front p most b whole script h r (expr e ∷ ps) l d d1 d4 _ (need_expr e).need s
        (grows.put _ d1 d3 (grows.put _ d1 d2 (grows.put _ d1 d1 (grows.none d1)))) (omega arith))
        (label_read r.final whole h.proto.code r.read own d2 in3) (omega (arith, e2)))
        (subst (λ m. Loads p most h m (length l) (Boolean true) (here d4)) e3
        (subst (λ m. Loads p most h (here d3) (length l) (Boolean true) m) loaded
        (loads_boolean (reads p most b whole script h r (i.LoadB (length l) 1 0) d3 s.inside))))
        (subst (λ m. Loads p most h (here d1) (length l) (Boolean false) m) skipped
        (loads_boolean (reads p most b whole script h r (i.LoadB (length l) 0 1) d1 in2)))

    pub comparison_holds : Holds p most calls b whole script e
    comparison_holds =
        let code = c.code cx cy e.id in
        subst (As p most b whole script e)
        (sym (code_of b e (level.Binary o x y) is ∙ ap (λ (c : ExprCode). record c { id = e.id }) code))
        (decided_as p most b whole script e (level.Binary o x y) (compare_run o cx cy e.id) (compare_jump o cx cy) is refl value_runs cond_runs)
