-- The code of each function of a script can be linked.
use Rattle.std.specs.Prelude.{◌≡◌, ◌^◌, ◌≤◌, List, [], ◌∷◌}
use Rattle.syntax_tree.specs.declared.tree.FuncBody.{FuncBody}
use Rattle.syntax_tree.specs.Bound.{bound, faults}
use Rattle.syntax_tree.specs.Numbers.{numbered}
use Rattle.code_link.specs.Labels.{IsLinkable}
use Rattle.emit_expr.specs.declared.draft.Prototype.{Prototype}
use Rattle.node_code.specs.Code.{script_code}

-- In each function's code, each label is placed once, each branch jumps to a label that is placed, and each distance fits
abbrev pub AreLinkable : List Prototype → Type 0
AreLinkable [] = Unit {0}
AreLinkable (p ∷ ps) = IsLinkable p.items × AreLinkable ps

-- so it is with a script that breaks no rule of scopes and sizes, whose nodes are numbered in source order and are not too many
abbrev pub CodeLinks : Type 0
CodeLinks = (main : FuncBody) → faults (numbered main) ≡ [] → (numbered main).nodes ≤ 2 ^ 62 →
    AreLinkable (script_code (bound (numbered main)) (numbered main).main).protos
