-- What is shown of the code of an expression: where it stands, the expression's run goes along with it.
use Rattle.std.proofs.Common.{◌≡◌, ℕ, ◌+◌, ◌≤◌, ℤ, pos, Bool, true, false, List, ◌∷◌, length, Option, Some, None, sym, ap, ◌∙◌, arith}
use Rattle.syntax_tree.specs.declared.bindings.Bindings.{Bindings}
use Rattle.syntax_tree.specs.declared.tree.Expr.{Expr}
use Rattle.syntax_tree.specs.Need.{need_expr}
use Rattle.value_model.specs.Values.{Number}
use Rattle.op_words.specs.declared.insn.Insn.{Insn as Instruction}
use Rattle.op_words.specs.declared.insn.Insn.TheVariants as insn
use Rattle.code_link.specs.Labels.{place_in}
use Rattle.code_link.specs.Linking.{jumping}
use Rattle.emit_expr.specs.declared.draft.Emitter.{Emitter}
use Rattle.emit_expr.specs.Puts.{Step, branch}
use Rattle.emit_expr.specs.Puts as puts
use Rattle.emit_expr.specs.Operators.{truth}
use Rattle.node_code.specs.Nodes.{ExprCode, Target, operand_at, operand_run, jump_on}
use Rattle.scope_laws.specs.Sight.{Part, expr}
use Rattle.code_simulation.specs.Slots.{Slot}
use Rattle.code_simulation.specs.Relation.{Setting}
use Rattle.code_simulation.proofs.Along.{Here, Reads}
use Rattle.code_simulation.proofs.Parts.{Forward, chosen, in_register, constant, ExprRuns, OperandRuns, Stays, CondRuns, AllRuns}
use Rattle.code_simulation.proofs.Blocks.{Backward}
use Rattle.code_simulation.proofs.Registers.{wanted}
use Rattle.code_simulation.proofs.Values.{own_operand, own_stays}
use Rattle.code_simulation.proofs.Lists.{IsSingle}
use Rattle.code_simulation.proofs.Conditions.{cond_if, cond_unless}
use Rattle.compiled_runs.proofs.Reading.{leads_on, leads_to}
use Rattle.compiled_runs.proofs.Places.{here, Inside, before_put, here_branch, insn_read, branch_read}
use Rattle.compiled_runs.proofs.Standing.{Script, Running, AtSome}

-- whether an operand's value has a register of its own
abbrev pub has_temp : Option ℕ → Bool
has_temp None = true
has_temp (Some k) = false

module _ (p : Setting) (most : ℕ) (b : Bindings) (whole : Emitter) (script : Script p b whole) where
  abbrev pub Runs : Here p most → Type 0
  Runs h = Running p most b whole script h

  abbrev pub In : (h : Here p most) → Runs h → Emitter → Type 0
  In h r d = Inside r.final whole d

  -- a part stands at a place, where its code is what the second state has beyond the first, and there are registers for it
  pub record Stand (h : Here p most) (r : Runs h) (ps : List Part) (l : List Slot) (d d' : Emitter) (need : ℕ) : Type 0 where
    pub at : AtSome p most b whole script h r ps l d
    pub inside : In h r d'
    pub func : d.draft.func ≡ r.final.func
    pub room : length l + need ≤ h.proto.registers

  -- an instruction is read where it was put
  pub reads : (h : Here p most) (r : Runs h) (i : Instruction) (d : Emitter) → In h r (puts.insn i d)
      → Reads p most h (here d) i (here (puts.insn i d))
  reads h r i d s = insn_read r.final whole h.proto.code r.read i d s

  -- a jump, by the place of its label
  pub record JumpAt (h : Here p most) (place next : ℕ) (i : Instruction) (to : Option ℕ) : Type 0 where
    pub by : ℤ
    pub reads : Reads p most h place (jumping i by) next
    pub on : (target : ℕ) → to ≡ Some target → next ≤ target → Forward place by target
    pub back : (target : ℕ) → to ≡ Some target → Backward place by target

  pub jump_at : (h : Here p most) (r : Runs h) (i : Instruction) (l : ℕ) (d : Emitter) → In h r (branch i l d)
      → JumpAt h (here d) (here (branch i l d)) i (place_in r.final.items 0 l)
  jump_at h r i l d s =
      let j = branch_read r.final whole h.proto.code r.read i l d s in
      let next = here_branch i l d in
      record {
        by = j.by;
        reads = j.read ∙ ap (λ n. Some (jumping i j.by, n)) (sym next);
        on = λ target e le. leads_on h.proto.code (here d) i (place_in r.final.items 0 l) target j e (omega (arith, next, le));
        back = λ target e. leads_to h.proto.code (here d) i (place_in r.final.items 0 l) target j e;
      }

  -- what is shown of an expression with this code
  pub record As (e : Expr) (c : ExprCode) : Type 0 where
    pub value : (h : Here p most) (r : Runs h) (ps : List Part) (l : List Slot) (d : Emitter)
        → Stand h r (expr e ∷ ps) l d (c.run (length l) 2 d) (need_expr e).need → ExprRuns p most e h l (here d) (here (c.run (length l) 2 d))
    pub all : c.many ≡ true → (results : ℕ) (h : Here p most) (r : Runs h) (ps : List Part) (l : List Slot) (d : Emitter)
        → Stand h r (expr e ∷ ps) l d (c.run (length l) results d) (need_expr e).need
        → AllRuns p most e h l (here d) (here (c.run (length l) results d)) 0 (wanted results)
    pub single : c.many ≡ false → IsSingle e
    pub same : c.many ≡ false → (to results : ℕ) (d : Emitter) → c.run to results d ≡ c.run to 2 d
    pub operand : (h : Here p most) (r : Runs h) (ps : List Part) (l : List Slot) (d : Emitter)
        → Stand h r (expr e ∷ ps) l d (operand_run c (length l) d) (need_expr e).need
        → OperandRuns p most e h l (here d) (here (operand_run c (length l) d)) (has_temp c.own) (in_register (operand_at c (length l) d))
        × Stays p most h l (has_temp c.own) (in_register (operand_at c (length l) d))
    pub number : (n : ℤ) → c.number ≡ Some n → (h : Here p most) (l : List Slot) (from : ℕ)
        → OperandRuns p most e h l from from false (constant (Number n))
    pub cond : (so : Bool) (h : Here p most) (r : Runs h) (ps : List Part) (l : List Slot) (d : Emitter) (label target : ℕ)
        → Stand h r (expr e ∷ ps) l d (c.jump so (length l) label d) (need_expr e).need → place_in r.final.items 0 label ≡ Some target
        → here (c.jump so (length l) label d) ≤ target
        → CondRuns p most e h l (here d) (chosen so target (here (c.jump so (length l) label d)))
        (chosen so (here (c.jump so (length l) label d)) target)

  -- ---- a condition by the truth of a register

  pub truth_cond : (e : Expr) (so own : Bool) (register : ℕ) (h : Here p most) (r : Runs h) (l : List Slot) (d d' : Emitter) (label target : ℕ)
      → OperandRuns p most e h l (here d) (here d') own (in_register register) → In h r (branch (truth so register) label d')
      → place_in r.final.items 0 label ≡ Some target → here (branch (truth so register) label d') ≤ target
      → CondRuns p most e h l (here d) (chosen so target (here (branch (truth so register) label d')))
      (chosen so (here (branch (truth so register) label d')) target)
  truth_cond e true own register h r l d d' label target runs s e2 le =
      let j = jump_at h r (insn.JumpIf register (pos 0)) label d' s in
      cond_if p most e own register j.by h l (here d) (here d') target _ runs j.reads (j.on target e2 le)
  truth_cond e false own register h r l d d' label target runs s e2 le =
      let j = jump_at h r (insn.JumpIfNot register (pos 0)) label d' s in
      cond_unless p most e own register j.by h l (here d) (here d') target _ runs j.reads (j.on target e2 le)

  -- ---- an expression whose value has a register of its own

  -- its code, where a jump on it is one on that register
  abbrev pub made : (id : ℕ) → (many : Bool) → Option ℤ → Target → (ℕ → ℕ → Step) → ExprCode
  made id many number target run =
      record { id = id; many = many; own = None; number = number; run = run; jump = jump_on None run; target = target }

  abbrev pub ValueRuns : Expr → (ℕ → ℕ → Step) → Type 0
  ValueRuns e run =
      (h : Here p most) (r : Runs h) (ps : List Part) (l : List Slot) (d : Emitter)
      → Stand h r (expr e ∷ ps) l d (run (length l) 2 d) (need_expr e).need → ExprRuns p most e h l (here d) (here (run (length l) 2 d))

  abbrev pub AllRun : Expr → (ℕ → ℕ → Step) → Type 0
  AllRun e run =
      (results : ℕ) (h : Here p most) (r : Runs h) (ps : List Part) (l : List Slot) (d : Emitter)
      → Stand h r (expr e ∷ ps) l d (run (length l) results d) (need_expr e).need
      → AllRuns p most e h l (here d) (here (run (length l) results d)) 0 (wanted results)

  -- before a jump that was put
  stand_before : (h : Here p most) (r : Runs h) (ps : List Part) (l : List Slot) (d d' : Emitter) (i : Instruction) (label need : ℕ)
      → Stand h r ps l d (branch i label d') need → Stand h r ps l d d' need
  stand_before h r ps l d d' i label need s =
      record { at = s.at; inside = before_put r.final whole _ d' s.inside; func = s.func; room = s.room }

  pub made_as : (e : Expr) (id : ℕ) (many : Bool) (number : Option ℤ) (target : Target) (run : ℕ → ℕ → Step) → ValueRuns e run
      → (many ≡ true → AllRun e run) → (many ≡ false → IsSingle e)
      → (many ≡ false → (to results : ℕ) (d : Emitter) → run to results d ≡ run to 2 d)
      → ((n : ℤ) → number ≡ Some n → (h : Here p most) (l : List Slot) (from : ℕ) → OperandRuns p most e h l from from false (constant (Number n)))
      → As e (made id many number target run)
  made_as e id many number target run value all single same known = record {
    value = value;
    all = all;
    single = single;
    same = same;
    operand = λ h r ps l d s. (own_operand p most e h l (here d) (here (run (length l) 2 d)) (value h r ps l d s), own_stays p most h l);
    number = known;
    cond = λ so h r ps l d label target s e2 le.
        truth_cond e so true (length l) h r l d (run (length l) 2 d) label target
        (own_operand p most e h l (here d) (here (run (length l) 2 d))
        (value h r ps l d (stand_before h r (expr e ∷ ps) l d (run (length l) 2 d) (truth so (length l)) label (need_expr e).need s)))
        s.inside e2 le;
  }
