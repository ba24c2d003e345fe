-- `...`, what stands in parentheses, and expressions with a jump of their own.
use Rattle.std.proofs.Common.{◌≡◌, ℕ, ◌≤◌, Bool, true, false, List, [], ◌∷◌, length, Some, None, refl, sym, subst}
use Rattle.syntax_tree.specs.declared.bindings.Bindings.{Bindings}
use Rattle.syntax_tree.specs.declared.tree.Expr.{Expr}
use Rattle.syntax_tree.specs.declared.tree.ExprKind.{out-ExprKind}
use Rattle.syntax_tree.specs.declared.tree.ExprKind.TheOpen as level
use Rattle.syntax_tree.specs.Need.{need_expr}
use Rattle.value_model.specs.Values.{Number}
use Rattle.op_words.specs.declared.insn.Insn.TheVariants as i
use Rattle.source_meaning.specs.Levels.{ExprLevel}
use Rattle.code_link.specs.Labels.{place_in}
use Rattle.emit_expr.specs.declared.draft.Emitter.{Emitter}
use Rattle.emit_expr.specs.Puts.{Step, insn}
use Rattle.node_code.specs.Nodes.{NoTarget, decided}
use Rattle.scope_laws.specs.Sight.{Part, expr}
use Rattle.code_simulation.specs.Slots.{Slot}
use Rattle.code_simulation.specs.Relation.{Setting}
use Rattle.code_simulation.proofs.Along.{CallsGo, Here}
use Rattle.code_simulation.proofs.Parts.{chosen, constant, Sight, OperandRuns, CondRuns}
use Rattle.code_simulation.proofs.Moving.{source_goes}
use Rattle.code_simulation.proofs.Values.{own_operand, own_stays, paren_same}
use Rattle.code_simulation.proofs.Lists.{vararg_same, vararg_all}
use Rattle.code_simulation.proofs.Singles.{gives_one, single_by}
use Rattle.code_simulation.proofs.Conditions.{begin_row, cond_paren}
use Rattle.compiled_runs.proofs.Places.{here}
use Rattle.compiled_runs.proofs.Scopes.{some_none}
use Rattle.compiled_runs.proofs.Standing.{Script}
use Rattle.compiled_runs.proofs.NodeLevels.{code_of}
use Rattle.compiled_runs.proofs.Nodes.{Runs, Stand, reads, As, ValueRuns, made_as}
use Rattle.compiled_runs.proofs.Following.{parts}
use Rattle.compiled_runs.proofs.Leaves.{Holds}

pub false_true : false ≡ true → ⊥
false_true m = cc

pub true_false : true ≡ false → ⊥
true_false m = cc

module _ (p : Setting) (most : ℕ) (b : Bindings) (whole : Emitter) (script : Script p b whole) where
  -- ---- one value, with a jump of its own

  abbrev pub JumpRuns : Expr → (Bool → ℕ → ℕ → Step) → Type 0
  JumpRuns e jump =
      (so : Bool) (h : Here p most) (r : Runs p most b whole script h) (ps : List Part) (l : List Slot) (d : Emitter) (label target : ℕ)
      → Stand p most b whole script h r (expr e ∷ ps) l d (jump so (length l) label d) (need_expr e).need → place_in r.final.items 0 label ≡ Some target
      → here (jump so (length l) label d) ≤ target → CondRuns p most e h l (here d) (chosen so target (here (jump so (length l) label d)))
      (chosen so (here (jump so (length l) label d)) target)

  pub decided_as : (e : Expr) (x : ExprLevel) (run : ℕ → Step) (jump : Bool → ℕ → ℕ → Step) → out-ExprKind e.kind ≡ x → gives_one x ≡ true
      → ValueRuns p most b whole script e (λ to results. run to) → JumpRuns e jump → As p most b whole script e (decided e.id run jump)
  decided_as e x run jump is one value jumps = record {
    value = value;
    all = λ m. absurd (false_true m);
    single = λ m. single_by e x is one;
    same = λ m to results d. refl;
    operand = λ h r ps l d s. (own_operand p most e h l (here d) (here (run (length l) d)) (value h r ps l d s), own_stays p most h l);
    number = λ n m. some_none m;
    cond = jumps;
  }

module _ (p : Setting) (most : ℕ) (calls : (i : ℕ) → i ≤ most → CallsGo p i) (b : Bindings) (whole : Emitter) (script : Script p b whole) where
  -- ---- `...`

  pub vararg_holds : (e : Expr) → out-ExprKind e.kind ≡ level.Vararg → Holds p most calls b whole script e
  vararg_holds e is = subst (As p most b whole script e) (sym (code_of b e level.Vararg is))
      (made_as p most b whole script e e.id true None NoTarget (λ to results. insn (i.GetVarargs to results))
      (λ h r ps l d s. vararg_same p most e h l (here d) _ is (reads p most b whole script h r (i.GetVarargs (length l) 2) d s.inside))
      (λ m results h r ps l d s. vararg_all p most e results h l (here d) _ is
      (reads p most b whole script h r (i.GetVarargs (length l) results) d s.inside))
      (λ m. absurd (true_false m)) (λ m. absurd (true_false m)) (λ n m. some_none m))

  -- ---- parentheses

  paren_operand : (e inner : Expr) (own : Bool) (sees : Sight) (h : Here p most) (l : List Slot) (from to : ℕ) → out-ExprKind e.kind ≡ level.Paren inner
      → OperandRuns p most inner h l from to own sees → OperandRuns p most e h l from to own sees
  paren_operand e inner own sees h l from to is runs left le k d file w go =
      source_goes p (begin_row p most e _ h l k d is) (runs left le k d file w go)

  pub paren_holds : (e inner : Expr) → out-ExprKind e.kind ≡ level.Paren inner → Holds p most calls b whole script inner
      → Holds p most calls b whole script e
  paren_holds e inner is a = subst (As p most b whole script e) (sym (code_of b e (level.Paren inner) is)) (record {
    value = λ h r ps l d s. paren_same p most e inner h l (here d) _ is
        (a.value h r [] l d (parts p most b whole script h r e (level.Paren inner) ps l d _ is s));
    all = λ m. absurd (false_true m);
    single = λ m. single_by e (level.Paren inner) is refl;
    same = λ m to results d. refl;
    operand = λ h r ps l d s.
        let o = a.operand h r [] l d (parts p most b whole script h r e (level.Paren inner) ps l d _ is s) in
        (paren_operand e inner _ _ h l (here d) _ is o.0, o.1);
    number = λ n m h l from. paren_operand e inner false (constant (Number n)) h l from from is (a.number n m h l from);
    cond = λ so h r ps l d label target s placed le.
        cond_paren p most e inner h l (here d) _ _ is
        (a.cond so h r [] l d label target (parts p most b whole script h r e (level.Paren inner) ps l d _ is s) placed le);
  })
