-- The code of each function of a script has the shape that a chunk's code must have.
use Rattle.std.specs.Prelude.{◌≡◌, [], length}
use Rattle.syntax_tree.specs.declared.tree.FuncBody.{FuncBody}
use Rattle.syntax_tree.specs.Bound.{bound, faults}
use Rattle.syntax_tree.specs.Numbers.{numbered}
use Rattle.syntax_tree.specs.Proper.{IsProper}
use Rattle.node_code.specs.Code.{script_code}
use Rattle.shape_laws.specs.Shaped.{AreShaped}

-- so it is with a script that breaks no rule of scopes and sizes
abbrev pub CodeShapes : Type 0
CodeShapes = (main : FuncBody) → IsProper (numbered main) → faults (numbered main) ≡ [] →
    AreShaped (bound (numbered main)) (length (script_code (bound (numbered main)) (numbered main).main).strings) []
    (script_code (bound (numbered main)) (numbered main).main).protos
