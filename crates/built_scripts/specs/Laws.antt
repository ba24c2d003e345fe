-- Which scripts are built.
use Rattle.std.specs.Prelude.{◌≡◌, ℕ, List, true, None}
use Rattle.syntax_tree.specs.declared.bindings.Bindings.{Bindings}
use Rattle.syntax_tree.specs.declared.tree.FuncBody.{FuncBody}
use Rattle.syntax_tree.specs.Proper.{proper_func}
use Rattle.unbuilt_nodes.specs.Unbuilt.{unbuilt_in_func}
use Rattle.compiled_runs.specs.Built.{built_func}

-- a proper function none of whose nodes is unbuilt
abbrev pub BuiltScripts : Type 0
BuiltScripts =
    (texts : List (List ℕ)) (b : Bindings) (f : FuncBody) → proper_func f ≡ true → unbuilt_in_func texts b f ≡ None → built_func f ≡ true
