-- The main function of a compiled script's chunk takes any number of arguments, names none and captures nothing.
use Rattle.std.proofs.Common.{◌≡◌, ℕ, true, List, [], ◌∷◌, length, Some, refl, ap, ◌∙◌, subst, arith, length-append}
use Rattle.std.specs.Prelude.{slice_get, unwrap_or}
use Rattle.syntax_tree.specs.declared.bindings.Bindings.{Bindings}
use Rattle.syntax_tree.specs.declared.tree.FuncBody.{FuncBody, out-FuncBody}
use Rattle.syntax_tree.specs.declared.tree.Tree.{Tree}
use Rattle.syntax_tree.specs.Bound.{bound}
use Rattle.syntax_tree.specs.Numbers.{numbered}
use Rattle.op_words.specs.Chunks.{ChunkOf}
use Rattle.emit_expr.specs.Names.{upvalues_at}
use Rattle.emit_expr.specs.Puts.{start}
use Rattle.scope_laws.specs.Sight.{itself, nothing}
use Rattle.scope_laws.proofs.Capturing.{functions_capture}
use Rattle.scope_laws.proofs.Places.{get_last}
use Rattle.function_registers.specs.Registers.{all_entries}
use Rattle.chunk_laws.proofs.Whole.{IsMain}
use Rattle.script_compiler.specs.Compiled.{IsCompiled}
use Rattle.compiled_runs.proofs.Bodies.{func_protos}
use Rattle.compiled_runs.proofs.Functions.{finished, finished_func, its_prototype}
use Rattle.compiled_runs.proofs.Trees.{none_listed}
use Rattle.compiled_scripts.proofs.Linked.{linked_there}

module _ (main : FuncBody) (b : Bindings) (texts : List (List ℕ)) (chunk : ChunkOf) (is : b ≡ bound (numbered main))
    (vararg : (out-FuncBody (numbered main).main).vararg ≡ true) (none : (out-FuncBody (numbered main).main).params ≡ [])
    (c : IsCompiled (numbered main) b texts chunk) where
  abbrev tree : Tree
  tree = numbered main

  nothing_captured : upvalues_at b (out-FuncBody tree.main).id ≡ []
  nothing_captured =
      let c = functions_capture main tree nothing tree.main [] refl itself in
      ap (λ (b : Bindings). upvalues_at b (out-FuncBody tree.main).id) is ∙ ap (λ o. unwrap_or o []) c.1
      ∙ none_listed c.0.locals (λ k has. let lt = ((c.0.each k).0 has).outside in omega (arith, lt))

  pub main_is : IsMain chunk
  main_is =
      let q = its_prototype b tree.main start in
      let before = (finished b tree.main start).protos in
      let all = func_protos b tree.main 0 start in
      let count = ap length all ∙ length-append before (q ∷ []) in
      let few = c.few_protos in
      let at = c.main in
      let last : length before ≡ chunk.main = omega (arith, count, few, at) in
      let found = ap (λ qs. slice_get qs (length before)) all ∙ get_last before q in
      let t = linked_there (all_entries tree.main) b _ chunk.protos c.protos (length before) q found in
      let params = t.linked.params in
      let upvalues = t.linked.upvalues in
      let named : q.params ≡ 0 = ap length none in
      let captured : length (upvalues_at b q.func) ≡ 0 = ap (λ n. length (upvalues_at b n)) (finished_func b tree.main start)
      ∙ ap length nothing_captured in
      record {
        proto = t.proto;
        there = subst (λ n. slice_get chunk.protos n ≡ Some t.proto) last t.found;
        vararg = t.linked.vararg ∙ vararg;
        params = omega (arith, params, named);
        upvalues = omega (arith, upvalues, captured);
      }
