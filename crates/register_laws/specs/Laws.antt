-- The list of registers says of each function of a script how many it has.
use Rattle.std.specs.Prelude.{◌≡◌, List, ◌∷◌}
use Rattle.syntax_tree.specs.declared.tree.FuncBody.{FuncBody, out-FuncBody}
use Rattle.syntax_tree.specs.declared.tree.Tree.{Tree}
use Rattle.syntax_tree.specs.Numbers.{numbered}
use Rattle.scope_laws.specs.Sight.{Sight, Part, function, Sees}
use Rattle.function_registers.specs.Registers.{registers_for, registers_of}

-- of each function that stands in a script whose nodes are numbered in source order
abbrev pub RegistersFound : Type 0
RegistersFound = (main : FuncBody) (tree : Tree) (s : Sight) (f : FuncBody) (after : List Part) → tree ≡ numbered main →
    Sees tree.main s (function f ∷ after) → registers_of tree.main (out-FuncBody f).id ≡ registers_for f
