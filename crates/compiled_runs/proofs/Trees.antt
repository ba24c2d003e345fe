-- Whole scripts: each run of a script is one of the chunk of its linked functions, and the other way round.
use Rattle.std.proofs.Common.{◌≡◌, ℕ, ◌+◌, ◌≤◌, List, [], ◌∷◌, length, refl, sym, ap, ◌∙◌, arith, subst, append-nil, length-append}
use Rattle.std.specs.Prelude.{unwrap_or}
use Rattle.std.specs.List.{Contains}
use Rattle.byte_text.specs.declared.fixed.StrId.{StrId}
use Rattle.syntax_tree.specs.declared.bindings.Bindings.{Bindings}
use Rattle.syntax_tree.specs.declared.tree.FuncBody.{FuncBody, out-FuncBody}
use Rattle.syntax_tree.specs.declared.tree.Tree.{Tree}
use Rattle.syntax_tree.specs.Numbers.{numbered}
use Rattle.value_model.specs.declared.event.EventKind.{EventKind}
use Rattle.value_model.specs.declared.event.Reply.{Reply}
use Rattle.value_model.specs.Fresh.{HostFields}
use Rattle.bounded_runs.specs.Runs.{Report, Agree}
use Rattle.source_meaning.specs.States.{Environment}
use Rattle.source_meaning.specs.Moves as source_moves
use Rattle.source_meaning.specs.Runs.{SourceRun}
use Rattle.op_words.specs.Chunks.{ProtoOf}
use Rattle.machine_meaning.specs.Moves as machine_moves
use Rattle.machine_meaning.specs.Runs.{MachineRun}
use Rattle.emit_expr.specs.declared.draft.Emitter.{Emitter}
use Rattle.emit_expr.specs.Puts.{start}
use Rattle.emit_expr.specs.Names.{upvalues_at}
use Rattle.node_code.specs.Code.{func_code, script_code}
use Rattle.scope_laws.specs.Sight.{Sight, Part, function, itself, Sees, nothing}
use Rattle.scope_laws.proofs.Capturing.{functions_capture}
use Rattle.code_simulation.specs.Relation.{Setting, Code}
use Rattle.code_simulation.proofs.Along.{CallsGo}
use Rattle.code_simulation.proofs.Blocks.{outside}
use Rattle.code_simulation.proofs.Entering.{FuncsGo}
use Rattle.code_simulation.proofs.Promises.{setting}
use Rattle.code_simulation.proofs.Whole as simulated
use Rattle.compiled_runs.proofs.Standing.{Script}
use Rattle.compiled_runs.proofs.Captures.{Named}
use Rattle.compiled_runs.proofs.Functions.{finished, child_number, its_prototype}
use Rattle.compiled_runs.proofs.Statements.{AllPerform}
use Rattle.compiled_runs.proofs.Blocks.{AllAllowed}
use Rattle.compiled_runs.proofs.Chunks.{Chunk, CodeOf}
use Rattle.compiled_runs.proofs.Bodies.{func_protos, coded_at, in_function, bodies_go}

pub none_listed : (ks : List ℕ) → ((k : ℕ) → Contains ks k → ⊥) → ks ≡ []
none_listed [] none = refl
none_listed (k ∷ ks) none = absurd (none k (0, omega arith, refl))

-- the script stands in each setting in which its runs are shown
abbrev pub script_in : {q : Setting} {b : Bindings} {whole : Emitter} → (most deep : ℕ) → Script q b whole → Script (setting q most deep) b whole
script_in most deep script = record {
  main = script.main;
  is = script.is;
  few_locals = script.few_locals;
  strings = script.strings;
  few_strings = script.few_strings;
}

module _ (p : Setting) (b : Bindings) (whole : Emitter) (script : Script p b whole) (chunk : Chunk p.chunk b whole (numbered script.main).main)
    (code_is : (f : FuncBody) (n : ℕ) (around : Environment) (ups : List StrId) (proto : ProtoOf)
    → CodeOf b whole (numbered script.main).main f around ups proto → p.IsCode f n around ups proto)
    (is_code : (f : FuncBody) (n : ℕ) (around : Environment) (ups : List StrId) (proto : ProtoOf) → p.IsCode f n around ups proto
    → CodeOf b whole (numbered script.main).main f around ups proto)
    (emitted : whole ≡ script_code b (numbered script.main).main)
    (performs : (most deep left : ℕ) → ((i : ℕ) → i ≤ left → CallsGo (setting p most deep) i) → (f : FuncBody) (s : Sight) (after : List Part)
    → Sees (numbered script.main).main s (function f ∷ after)
    → AllPerform (setting p most deep) left b whole (script_in most deep script) (out-FuncBody f).body)
    (allowed : (most deep left : ℕ) (f : FuncBody) (s : Sight) (after : List Part) → Sees (numbered script.main).main s (function f ∷ after)
    → AllAllowed (setting p most deep) left b whole (script_in most deep script) (out-FuncBody f).body outside
    (in_function (setting p most deep) b whole (script_in most deep script) chunk code_is is_code f)) where
  abbrev tree : Tree
  tree = numbered script.main

  bodies : (most deep i : ℕ) → ((j : ℕ) → j ≤ i → CallsGo (setting p most deep) j) → FuncsGo (setting p most deep) i
  bodies most deep i calls =
      bodies_go (setting p most deep) b whole (script_in most deep script) chunk code_is is_code i calls (performs most deep i calls)
      (allowed most deep i)

  -- the main function captures nothing
  nothing_captured : upvalues_at b (out-FuncBody tree.main).id ≡ []
  nothing_captured =
      let c = functions_capture script.main tree nothing tree.main [] refl itself in
      ap (λ (b : Bindings). upvalues_at b (out-FuncBody tree.main).id) script.is ∙ ap (λ o. unwrap_or o []) c.1
      ∙ none_listed c.0.locals (λ k has. let lt = ((c.0.each k).0 has).outside in omega (arith, lt))

  -- and it is the last
  main_is : child_number b tree.main start ≡ p.chunk.main
  main_is =
      let q = its_prototype b tree.main start in
      let last = chunk.main_last in
      let few = chunk.few in
      let count : length whole.protos ≡ length (finished b tree.main start).protos + 1 =
      ap (λ (d : Emitter). length d.protos) emitted
      ∙ ap length (func_protos b tree.main 0 start) ∙ length-append (finished b tree.main start).protos (q ∷ []) in
      omega (arith, last, few, count)

  main_coded : (proto : ProtoOf) × Code p tree.main p.chunk.main [] [] proto
  main_coded =
      let c = coded_at p b whole script chunk code_is is_code tree.main 0 start nothing [] [] [] itself
      (record { more = []; is = ap (λ (d : Emitter). d.protos) emitted ∙ sym (append-nil (func_code b tree.main 0 start).protos) })
      (record { more = []; is = ap (λ (d : Emitter). d.strings) emitted ∙ sym (append-nil (func_code b tree.main 0 start).strings) })
      (λ x e. refl) (subst (λ ks. Named [] ks []) (sym nothing_captured) tt) in
      (c.0, subst (λ n. Code p tree.main n [] [] c.0) main_is c.1)

  module _ (host : HostFields) (replies : List Reply) (no_parameter : (out-FuncBody tree.main).params ≡ []) where
    -- each report of the script is one of its chunk
    pub to_code : (n : ℕ) (r : Report EventKind source_moves.Look) → SourceRun p.texts tree host replies n r
        → (q : Report EventKind machine_moves.Look) × MachineRun p.chunk host replies n q × Agree (λ look. 1) (λ look. 1) r q
    to_code n r run = simulated.to_code p bodies tree host replies main_coded.0 main_coded.1 no_parameter n r run

    -- each report of the chunk is one of the script
    pub to_source : (n : ℕ) (q : Report EventKind machine_moves.Look) → MachineRun p.chunk host replies n q
        → (r : Report EventKind source_moves.Look) × SourceRun p.texts tree host replies n r × Agree (λ look. 1) (λ look. 1) r q
    to_source n q run = simulated.to_source p bodies tree host replies main_coded.0 main_coded.1 no_parameter n q run

    -- and there is one
    pub ends : (n : ℕ) → (r : Report EventKind source_moves.Look) × SourceRun p.texts tree host replies n r
    ends n = simulated.ends p bodies tree host replies main_coded.0 main_coded.1 no_parameter n
