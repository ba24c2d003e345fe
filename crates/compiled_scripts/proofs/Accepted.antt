-- Accepted scripts, and what their runs have to do with those of their chunks.
use Rattle.std.proofs.Common.{rules, ◌≡◌, ℕ, true, List, [], sym, ap, ◌∙◌, subst}
use Rattle.syntax_tree.specs.declared.bindings.Bindings.{Bindings}
use Rattle.syntax_tree.specs.declared.tree.ExprKind.TheFolds as folds
use Rattle.syntax_tree.specs.declared.tree.ExprKind.TheViews as views
use Rattle.syntax_tree.specs.declared.tree.FuncBody.{FuncBody, out-FuncBody}
use Rattle.syntax_tree.specs.declared.tree.Stat.{Stat}
use Rattle.syntax_tree.specs.declared.tree.Tree.{Tree}
use Rattle.syntax_tree.specs.Bound.{bound, faults}
use Rattle.syntax_tree.specs.Derivations.{main_function}
use Rattle.syntax_tree.specs.Numbers.{numbered}
use Rattle.syntax_tree.specs.Proper.{IsProper}
use Rattle.value_model.specs.declared.event.Reply.{Reply}
use Rattle.value_model.specs.Fresh.{HostFields}
use Rattle.op_words.specs.Chunks.{ChunkOf}
use Rattle.checked_runs.proofs.Never.{code_is_never_stuck}
use Rattle.script_compiler.specs.Compiled.{IsCompiled}
use Rattle.compiled_runs.specs.Built.{built_func}
use Rattle.built_scripts.proofs.Trees as built_scripts
use Rattle.compiled_scripts.specs.Laws.{IsAccepted, RunAlike, BuiltRunAlike, ScriptsRunAlike, NeverStuck, ParsedAccepted}
use Rattle.compiled_scripts.proofs.Scripts.{runs_alike}

-- numbers change neither parameters nor whether there are more arguments
no_parameters : (block : List Stat) → (out-FuncBody (numbered (main_function block)).main).params ≡ []
no_parameters block = search (rules, folds.the_lemmas, views.the_lemmas)

vararg : (block : List Stat) → (out-FuncBody (numbered (main_function block)).main).vararg ≡ true
vararg block = search (rules, folds.the_lemmas, views.the_lemmas)

pub parsed_accepted : ParsedAccepted
parsed_accepted tokens tree b p is sound proper = record {
  numbered = record { main = main_function p.0.block; is = p.0.numbers };
  no_parameters = ap (λ (t : Tree). (out-FuncBody t.main).params) p.0.numbers ∙ no_parameters p.0.block;
  vararg = ap (λ (t : Tree). (out-FuncBody t.main).vararg) p.0.numbers ∙ vararg p.0.block;
  bound = is;
  sound = sound;
  proper = proper;
}

numbered_run_alike : (main : FuncBody) (tree : Tree) → tree ≡ numbered main → (texts : List (List ℕ)) (b : Bindings) (chunk : ChunkOf) → IsAccepted tree b
    → built_func tree.main ≡ true → IsCompiled tree b texts chunk → (host : HostFields) (replies : List Reply) (turns : ℕ)
    → RunAlike texts tree chunk host replies turns
numbered_run_alike main tree e texts b chunk a built c host replies turns =
    subst (λ t. RunAlike texts t chunk host replies turns) (sym e)
    (runs_alike main b texts chunk (subst (λ t. b ≡ bound t) e a.bound) (subst (λ t. faults t ≡ []) e a.sound) (subst IsProper e a.proper)
    (subst (λ (t : Tree). built_func t.main ≡ true) e built) (subst (λ (t : Tree). (out-FuncBody t.main).params ≡ []) e a.no_parameters)
    (subst (λ t. IsCompiled t b texts chunk) e c) host replies turns)

pub built_run_alike : BuiltRunAlike
built_run_alike texts tree b chunk a built c host replies turns =
    numbered_run_alike a.numbered.main tree a.numbered.is texts b chunk a built c host replies turns

pub scripts_run_alike : ScriptsRunAlike
scripts_run_alike texts tree b chunk a none c host replies turns =
    built_run_alike texts tree b chunk a (built_scripts.built_scripts texts b tree.main a.proper none) c host replies turns

pub never_stuck : NeverStuck
never_stuck texts tree b chunk a built c well host replies turns r run =
    let q = (built_run_alike texts tree b chunk a built c host replies turns).to_chunk r run in
    λ stuck. code_is_never_stuck chunk well host replies turns q.0 q.1 (sym q.2.end ∙ stuck)
