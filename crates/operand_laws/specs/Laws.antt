-- The registers that the code of each function names are the function's own.
use Rattle.std.specs.Prelude.{◌≡◌, max, ◌≤◌, List, [], ◌∷◌}
use Rattle.syntax_tree.specs.declared.tree.FuncBody.{FuncBody, out-FuncBody}
use Rattle.syntax_tree.specs.Bound.{bound, faults}
use Rattle.syntax_tree.specs.Need.{need}
use Rattle.syntax_tree.specs.Numbers.{numbered}
use Rattle.syntax_tree.specs.Proper.{IsProper}
use Rattle.emit_expr.specs.declared.draft.Prototype.{Prototype}
use Rattle.node_code.specs.Code.{script_code}
use Rattle.operand_laws.specs.Fitting.{AllFit}

-- The code was emitted for a function of few parameters, and its instructions fit as many registers as that function needs, or one
pub record IsFitting (p : Prototype) : Type 0 where
  pub func : FuncBody
  pub number : (out-FuncBody func).id ≡ p.func
  pub few : need func ≤ 250
  pub few_params : p.params ≤ 250
  pub fits : AllFit (max (need func) 1) p.items

abbrev pub AreFitting : List Prototype → Type 0
AreFitting [] = Unit {0}
AreFitting (p ∷ ps) = IsFitting p × AreFitting ps

-- so it is with a script that breaks no rule of scopes and sizes
abbrev pub OperandsFit : Type 0
OperandsFit = (main : FuncBody) → IsProper (numbered main) → faults (numbered main) ≡ [] →
    AreFitting (script_code (bound (numbered main)) (numbered main).main).protos
