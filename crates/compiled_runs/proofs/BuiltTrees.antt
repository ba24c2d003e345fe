-- Whole scripts all of whose nodes are built: each run is one of the chunk of the linked functions, and the other way round.
use Rattle.std.proofs.Common.{◌≡◌, ℕ, ◌≤◌, true, List, [], ◌∷◌}
use Rattle.byte_text.specs.declared.fixed.StrId.{StrId}
use Rattle.syntax_tree.specs.declared.bindings.Bindings.{Bindings}
use Rattle.syntax_tree.specs.declared.tree.FuncBody.{FuncBody, out-FuncBody}
use Rattle.syntax_tree.specs.declared.tree.Tree.{Tree}
use Rattle.syntax_tree.specs.Bound.{known}
use Rattle.syntax_tree.specs.Numbers.{numbered}
use Rattle.syntax_tree.specs.Proper.{proper_func}
use Rattle.value_model.specs.declared.event.EventKind.{EventKind}
use Rattle.value_model.specs.declared.event.Reply.{Reply}
use Rattle.value_model.specs.Fresh.{HostFields}
use Rattle.bounded_runs.specs.Runs.{Report, Agree}
use Rattle.source_meaning.specs.States.{Environment}
use Rattle.source_meaning.specs.Moves as source_moves
use Rattle.source_meaning.specs.Runs.{SourceRun}
use Rattle.op_words.specs.Chunks.{ProtoOf}
use Rattle.machine_meaning.specs.Moves as machine_moves
use Rattle.machine_meaning.specs.Runs.{MachineRun}
use Rattle.emit_expr.specs.declared.draft.Emitter.{Emitter}
use Rattle.node_code.specs.Code.{script_code}
use Rattle.scope_laws.specs.Sight.{Sight, Part, function, Sees}
use Rattle.code_simulation.specs.Relation.{Setting}
use Rattle.code_simulation.proofs.Along.{CallsGo}
use Rattle.code_simulation.proofs.Blocks.{outside}
use Rattle.code_simulation.proofs.Promises.{setting}
use Rattle.compiled_runs.specs.Built.{built_func}
use Rattle.compiled_runs.proofs.Standing.{Script}
use Rattle.compiled_runs.proofs.Statements.{AllPerform}
use Rattle.compiled_runs.proofs.Blocks.{AllAllowed}
use Rattle.compiled_runs.proofs.Chunks.{Chunk, CodeOf}
use Rattle.compiled_runs.proofs.Bodies.{functions_coded, in_function}
use Rattle.compiled_runs.proofs.BuiltStatements.{all_perform}
use Rattle.compiled_runs.proofs.BuiltParts.{inner_fine}
use Rattle.compiled_runs.proofs.Trees as trees
use Rattle.compiled_runs.proofs.Trees.{script_in}

module _ (p : Setting) (b : Bindings) (whole : Emitter) (script : Script p b whole) (chunk : Chunk p.chunk b whole (numbered script.main).main)
    (code_is : (f : FuncBody) (n : ℕ) (around : Environment) (ups : List StrId) (proto : ProtoOf)
    → CodeOf b whole (numbered script.main).main f around ups proto → p.IsCode f n around ups proto)
    (is_code : (f : FuncBody) (n : ℕ) (around : Environment) (ups : List StrId) (proto : ProtoOf) → p.IsCode f n around ups proto
    → CodeOf b whole (numbered script.main).main f around ups proto)
    (emitted : whole ≡ script_code b (numbered script.main).main)
    (built : built_func (numbered script.main).main ≡ true) (proper : proper_func (numbered script.main).main ≡ true)
    (clean : (known (numbered script.main)).faults ≡ [])
    (allowed : (most deep left : ℕ) (f : FuncBody) (s : Sight) (after : List Part) → Sees (numbered script.main).main s (function f ∷ after)
    → AllAllowed (setting p most deep) left b whole (script_in most deep script) (out-FuncBody f).body outside
    (in_function (setting p most deep) b whole (script_in most deep script) chunk code_is is_code f)) where
  -- each function's statements do what they do
  bodies_perform : (most deep left : ℕ) → ((i : ℕ) → i ≤ left → CallsGo (setting p most deep) i) → (f : FuncBody) (s : Sight) (after : List Part)
      → Sees (numbered script.main).main s (function f ∷ after)
      → AllPerform (setting p most deep) left b whole (script_in most deep script) (out-FuncBody f).body
  bodies_perform most deep left calls f s after sees =
      let fine = inner_fine (numbered script.main).main built proper f s after sees in
      all_perform (setting p most deep) left calls b whole (script_in most deep script)
      (functions_coded (setting p most deep) b whole (script_in most deep script) chunk code_is is_code left)
      clean (out-FuncBody f).body fine.built fine.proper

  abbrev tree : Tree
  tree = numbered script.main

  module _ (host : HostFields) (replies : List Reply) (no_parameter : (out-FuncBody tree.main).params ≡ []) where
    -- each report of the script is one of its chunk
    pub to_code : (n : ℕ) (r : Report EventKind source_moves.Look) → SourceRun p.texts tree host replies n r
        → (q : Report EventKind machine_moves.Look) × MachineRun p.chunk host replies n q × Agree (λ look. 1) (λ look. 1) r q
    to_code = trees.to_code p b whole script chunk code_is is_code emitted bodies_perform allowed host replies no_parameter

    -- each report of the chunk is one of the script
    pub to_source : (n : ℕ) (q : Report EventKind machine_moves.Look) → MachineRun p.chunk host replies n q
        → (r : Report EventKind source_moves.Look) × SourceRun p.texts tree host replies n r × Agree (λ look. 1) (λ look. 1) r q
    to_source = trees.to_source p b whole script chunk code_is is_code emitted bodies_perform allowed host replies no_parameter

    -- and there is one
    pub ends : (n : ℕ) → (r : Report EventKind source_moves.Look) × SourceRun p.texts tree host replies n r
    ends = trees.ends p b whole script chunk code_is is_code emitted bodies_perform allowed host replies no_parameter
