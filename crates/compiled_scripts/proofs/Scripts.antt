-- Each run of an accepted script all of whose nodes are built is one of its chunk, and the other way round.
use Rattle.std.proofs.Common.{◌≡◌, ℕ, ◌≤◌, true, false, List, [], ◌∷◌, length, refl, sym, subst}
use Rattle.byte_text.specs.declared.fixed.StrId.{StrId}
use Rattle.syntax_tree.specs.declared.bindings.Bindings.{Bindings}
use Rattle.syntax_tree.specs.declared.tree.FuncBody.{FuncBody, out-FuncBody}
use Rattle.syntax_tree.specs.declared.tree.Tree.{Tree}
use Rattle.syntax_tree.specs.Bound.{bound, known, faults}
use Rattle.syntax_tree.specs.Need.{need}
use Rattle.syntax_tree.specs.Numbers.{numbered}
use Rattle.syntax_tree.specs.Proper.{proper_func}
use Rattle.syntax_tree.specs.Rules.{rules_func}
use Rattle.syntax_tree.specs.Sizes.{all_sizes}
use Rattle.value_model.specs.declared.event.Reply.{Reply}
use Rattle.value_model.specs.Fresh.{HostFields}
use Rattle.source_meaning.specs.States.{Environment}
use Rattle.op_words.specs.Chunks.{ChunkOf, ProtoOf}
use Rattle.emit_expr.specs.declared.draft.Emitter.{Emitter}
use Rattle.node_code.specs.Code.{script_code}
use Rattle.scope_laws.specs.Sight.{Sight, Part, function, Sees}
use Rattle.link_laws.proofs.Walks.{left, right}
use Rattle.link_laws.proofs.Whole.{code_links}
use Rattle.shape_laws.proofs.Whole.{code_shapes}
use Rattle.upvalue_laws.proofs.Few.{upvalues_are_few}
use Rattle.operand_laws.specs.Laws.{AreFitting}
use Rattle.operand_laws.proofs.Whole.{operands_fit}
use Rattle.script_compiler.specs.Compiled.{IsCompiled}
use Rattle.code_simulation.specs.Relation.{Setting}
use Rattle.code_simulation.proofs.Blocks.{outside}
use Rattle.code_simulation.proofs.Promises.{setting}
use Rattle.compiled_runs.specs.Built.{built_func}
use Rattle.compiled_runs.proofs.Standing.{Script}
use Rattle.compiled_runs.proofs.Blocks.{AllAllowed}
use Rattle.compiled_runs.proofs.Chunks.{Chunk, CodeOf}
use Rattle.compiled_runs.proofs.Bodies.{in_function}
use Rattle.compiled_runs.proofs.BuiltTrees as trees
use Rattle.compiled_runs.proofs.Trees.{script_in}
use Rattle.compiled_scripts.specs.Laws.{RunAlike}
use Rattle.compiled_scripts.proofs.Clear.{IsClear, inner_clear, func_rules, few_registers}
use Rattle.compiled_scripts.proofs.LoopWords.{ends_in_loop}
use Rattle.compiled_scripts.proofs.Counts.{HaveFew, have_few}
use Rattle.compiled_scripts.proofs.Linked as linked

false_true : {A : Type 0} → false ≡ true → A
false_true e = cc

module _ (main : FuncBody) (b : Bindings) (texts : List (List ℕ)) (chunk : ChunkOf) (is : b ≡ bound (numbered main))
    (sound : faults (numbered main) ≡ []) (proper : proper_func (numbered main).main ≡ true) (built : built_func (numbered main).main ≡ true)
    (none : (out-FuncBody (numbered main).main).params ≡ []) (c : IsCompiled (numbered main) b texts chunk) where
  abbrev pub tree : Tree
  tree = numbered main

  abbrev pub whole : Emitter
  whole = script_code b tree.main

  -- a function's code is that of one of the tree's functions
  abbrev pub p : Setting
  p = record {
    texts = texts;
    chunk = chunk;
    IsCode = λ f n around ups proto. CodeOf b whole tree.main f around ups proto;
    Others = λ turns co d. Unit {0};
    others_keep = λ turns co depth d d' k a o. tt;
    others_later = λ fewer turns co d le o. tt;
  }

  clear : IsClear b (function tree.main)
  clear =
      let rest = right (known tree).faults _ sound in
      let sizes = right (rules_func tree.main) _ rest in
      (left _ _ rest, subst (λ x. all_sizes x tree.main ≡ []) (sym is) sizes)

  each_clear : (f : FuncBody) (s : Sight) (after : List Part) → Sees tree.main s (function f ∷ after) → IsClear b (function f)
  each_clear f s after sees = inner_clear b tree.main clear f s after sees

  pub fitting : AreFitting whole.protos
  fitting = subst (λ x. AreFitting (script_code x tree.main).protos) (sym is) (operands_fit main proper sound)

  pub counts : HaveFew b whole.protos
  counts =
      subst (λ x. HaveFew x (script_code x tree.main).protos) (sym is)
      (have_few (bound tree) (length (script_code (bound tree) tree.main).strings) [] (script_code (bound tree) tree.main).protos
      (code_links main sound c.few_nodes) (code_shapes main proper sound) (upvalues_are_few main sound))

  pub few : (f : FuncBody) (s : Sight) (after : List Part) → Sees tree.main s (function f ∷ after) → need f ≤ 250
  few f s after sees = few_registers b f (each_clear f s after sees).1

  abbrev pub script : Script p b whole
  script = record {
    main = main;
    is = is;
    few_locals = c.few_locals;
    strings = linked.strings main b texts chunk fitting counts few c;
    few_strings = c.few_strings;
  }

  abbrev pub is_chunk : Chunk p.chunk b whole tree.main
  is_chunk = linked.is_chunk main b texts chunk fitting counts few c

  abbrev pub code_is : (f : FuncBody) (n : ℕ) (around : Environment) (ups : List StrId) (proto : ProtoOf) → CodeOf b whole tree.main f around ups proto
      → p.IsCode f n around ups proto
  code_is f n around ups proto x = x

  abbrev pub is_code : (f : FuncBody) (n : ℕ) (around : Environment) (ups : List StrId) (proto : ProtoOf) → p.IsCode f n around ups proto
      → CodeOf b whole tree.main f around ups proto
  is_code f n around ups proto x = x

  -- each `break` and each `continue` stands in a loop of its function
  allowed : (most deep left : ℕ) (f : FuncBody) (s : Sight) (after : List Part) → Sees tree.main s (function f ∷ after)
      → AllAllowed (setting p most deep) left b whole (script_in most deep script) (out-FuncBody f).body outside
      (in_function (setting p most deep) b whole (script_in most deep script) is_chunk code_is is_code f)
  allowed most deep left f s after sees =
      let rule = func_rules b f (each_clear f s after sees).0 in
      record {
        rules = rule;
        breaks = λ e. false_true e;
        continues = λ e. false_true (ends_in_loop (out-FuncBody f).body _ rule e);
      }

  -- no condition of a `repeat` names a local that the early end of a turn skips
  clean : (known tree).faults ≡ []
  clean = left _ _ sound

  -- each run of the script is one of its chunk, and the other way round
  pub runs_alike : (host : HostFields) (replies : List Reply) (n : ℕ) → RunAlike texts tree chunk host replies n
  runs_alike host replies n = record {
    to_chunk = trees.to_code p b whole script is_chunk code_is is_code refl built proper clean allowed host replies none n;
    to_script = trees.to_source p b whole script is_chunk code_is is_code refl built proper clean allowed host replies none n;
    ends = trees.ends p b whole script is_chunk code_is is_code refl built proper clean allowed host replies none n;
  }
