-- The code of lists of expressions.
use Rattle.std.specs.Prelude.{ℕ, zero, suc, ◌+◌, ◌-◌, nat_eq, if◌then◌else◌, Bool, false, List, [], ◌∷◌, length}
use Rattle.op_words.specs.declared.insn.Insn.TheVariants as i
use Rattle.emit_expr.specs.Puts.{Step, insn}
use Rattle.emit_expr.specs.Names.{assign_run}
use Rattle.syntax_tree.specs.declared.bindings.Bindings.{Bindings}
use Rattle.node_code.specs.Nodes.{ExprCode, Target, NoTarget, Named}

-- the results that are wanted of an expression of a list, by how many stand behind it: of the last one all
abbrev pub results_for : ℕ → ℕ
results_for rest = if nat_eq rest 0 then 0 else 2

-- all values of a list, from a register on
abbrev pub list_run : List ExprCode → (at : ℕ) → Step
list_run [] at d = d
list_run (e ∷ es) at d = list_run es (at + 1) (e.run at (results_for (length es)) d)

abbrev pub last_from : Bool → List ExprCode → Bool
last_from many [] = many
last_from many (e ∷ es) = last_from e.many es

-- one more than the number of values, or 0 where the last expression gives all its values
abbrev pub count_of : List ExprCode → ℕ
count_of es = if last_from false es then 0 else length es + 1

-- one value of each expression, from a register on
abbrev pub each_run : List ExprCode → (at : ℕ) → Step
each_run [] at d = d
each_run (e ∷ es) at d = each_run es (at + 1) (e.run at 2 d)

abbrev pub nils : (at count : ℕ) → Step
nils at zero d = d
nils at (suc n) d = nils (at + 1) n (insn (i.LoadNil at) d)

-- so many values of the last expression of a list
abbrev pub last_run : ExprCode → (at count : ℕ) → Step
last_run e at n d = if e.many then e.run at (n + 1) d else nils (at + 1) (n - 1) (e.run at 2 d)

-- the register behind a value, if one is wanted
abbrev pub behind : (at count : ℕ) → ℕ
behind at n = if nat_eq n 0 then at else at + 1

-- so many values of a list: nil where one is missing; what is too many is evaluated too
abbrev pub exact_run : List ExprCode → (at count : ℕ) → Step
exact_run [] at n d = nils at n d
exact_run (e ∷ []) at n d = last_run e at n d
exact_run (e ∷ e' ∷ es) at n d = exact_run (e' ∷ es) (behind at n) (n - 1) (e.run at 2 d)

abbrev pub assign_to : Bindings → Target → (from : ℕ) → Step
assign_to b NoTarget from d = d
assign_to b (Named x name) from d = assign_run b x name from d

-- values that stand in registers from one on are assigned from left to right
abbrev pub assign_all : Bindings → List ExprCode → (from : ℕ) → Step
assign_all b [] from d = d
assign_all b (t ∷ ts) from d = assign_all b ts (from + 1) (assign_to b t.target from d)
