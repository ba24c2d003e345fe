-- The chunk of an accepted script is well formed, where each of its functions has the registers that its code names.
use Rattle.std.proofs.Common.{◌≡◌, ℕ, ◌≤◌, ◌<◌, ◌^◌, true, List, [], length, refl, sym, ap, ◌∙◌, subst}
use Rattle.std.proofs.lemmas.List.{length-map}
use Rattle.syntax_tree.specs.declared.bindings.Bindings.{Bindings}
use Rattle.syntax_tree.specs.declared.tree.FuncBody.{FuncBody, out-FuncBody}
use Rattle.syntax_tree.specs.declared.tree.Tree.{Tree}
use Rattle.syntax_tree.specs.Bound.{bound, faults}
use Rattle.syntax_tree.specs.Numbers.{numbered}
use Rattle.syntax_tree.specs.Proper.{IsProper}
use Rattle.op_words.specs.Chunks.{ChunkOf}
use Rattle.machine_meaning.specs.WellFormed.{IsWellFormed}
use Rattle.emit_expr.specs.declared.draft.Emitter.{Emitter}
use Rattle.emit_expr.specs.Names.{upvalues_at}
use Rattle.node_code.specs.Code.{script_code}
use Rattle.function_registers.specs.Registers.{all_entries}
use Rattle.link_laws.specs.Laws.{AreLinkable}
use Rattle.link_laws.proofs.Whole.{code_links}
use Rattle.shape_laws.specs.Shaped.{AreShaped}
use Rattle.shape_laws.proofs.Whole.{code_shapes}
use Rattle.upvalue_laws.specs.Laws.{AllUpvalues}
use Rattle.upvalue_laws.proofs.Few.{upvalues_are_few}
use Rattle.upvalue_laws.proofs.Whole.{upvalues_fit}
use Rattle.chunk_laws.proofs.Whole.{chunk_none}
use Rattle.script_compiler.specs.Compiled.{text_of, IsCompiled}
use Rattle.compiled_scripts.proofs.Main.{main_is}
use Rattle.compiled_scripts.proofs.Ready.{HaveRoom, are_ready}

module _ (main : FuncBody) (b : Bindings) (texts : List (List ℕ)) (chunk : ChunkOf) (is : b ≡ bound (numbered main)) (sound : faults (numbered main) ≡ [])
    (proper : IsProper (numbered main)) (vararg : (out-FuncBody (numbered main).main).vararg ≡ true)
    (none : (out-FuncBody (numbered main).main).params ≡ []) (c : IsCompiled (numbered main) b texts chunk) where
  abbrev tree : Tree
  tree = numbered main

  abbrev pub whole : Emitter
  whole = script_code b tree.main

  links : AreLinkable whole.protos
  links = subst (λ x. AreLinkable (script_code x tree.main).protos) (sym is) (code_links main sound c.few_nodes)

  shapes : AreShaped b (length chunk.strings) [] whole.protos
  shapes =
      subst (λ n. AreShaped b n [] whole.protos) (sym (ap length c.strings ∙ length-map whole.strings (text_of texts)))
      (subst (λ x. AreShaped x (length (script_code x tree.main).strings) [] (script_code x tree.main).protos) (sym is) (code_shapes main proper sound))

  upvalues : AllUpvalues b whole.protos
  upvalues =
      subst (λ x. AllUpvalues x (script_code x tree.main).protos) (sym is)
      (upvalues_fit main (subst (λ (x : Bindings). length x.locals < 2 ^ 64) is c.few_locals))

  captured : (func : ℕ) → length (upvalues_at b func) ≤ 200
  captured func = subst (λ x. length (upvalues_at x func) ≤ 200) (sym is) (upvalues_are_few main sound func)

  pub well_formed : HaveRoom whole.protos chunk.protos → IsWellFormed chunk
  well_formed room =
      chunk_none chunk b whole.protos (main_is main b texts chunk is vararg none c)
      (are_ready (all_entries tree.main) b whole.protos chunk c.few_protos c.protos captured 0 [] whole.protos [] chunk.protos refl refl refl refl
      c.protos links shapes upvalues room)
