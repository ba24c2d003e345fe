-- What the runs of a script have to do with those of its chunk.
use Rattle.std.specs.Prelude.{◌≡◌, ◌≢◌, ℕ, List, [], true, None}
use Rattle.syntax_tree.specs.declared.bindings.Bindings.{Bindings}
use Rattle.syntax_tree.specs.declared.token.Token.{Token}
use Rattle.syntax_tree.specs.declared.tree.FuncBody.{out-FuncBody}
use Rattle.syntax_tree.specs.declared.tree.Tree.{Tree}
use Rattle.syntax_tree.specs.Bound.{bound, faults}
use Rattle.syntax_tree.specs.Parsed.{IsParsed}
use Rattle.syntax_tree.specs.Proper.{IsProper}
use Rattle.unbuilt_nodes.specs.Unbuilt.{unbuilt_in_func}
use Rattle.value_model.specs.declared.event.EventKind.{EventKind}
use Rattle.value_model.specs.declared.event.Reply.{Reply}
use Rattle.value_model.specs.Fresh.{HostFields}
use Rattle.value_model.specs.Waits.{Stuck}
use Rattle.bounded_runs.specs.Runs.{Report, Agree}
use Rattle.source_meaning.specs.Moves as source
use Rattle.source_meaning.specs.Runs.{SourceRun}
use Rattle.op_words.specs.Chunks.{ChunkOf}
use Rattle.machine_meaning.specs.Moves as machine
use Rattle.machine_meaning.specs.Runs.{MachineRun}
use Rattle.machine_meaning.specs.WellFormed.{IsWellFormed}
use Rattle.script_compiler.specs.Compiled.{IsNumbered, IsCompiled}
use Rattle.compiled_runs.specs.Built.{built_func}

-- A script that is accepted, with its bindings: its nodes are numbered in source order, its main function takes any number of arguments and
-- names none, it breaks no rule of scopes and sizes, and it is of the form that the grammar makes
pub record IsAccepted (tree : Tree) (b : Bindings) : Type 0 where
  pub numbered : IsNumbered tree
  pub no_parameters : (out-FuncBody tree.main).params ≡ []
  pub vararg : (out-FuncBody tree.main).vararg ≡ true
  pub bound : b ≡ bound tree
  pub sound : faults tree ≡ []
  pub proper : IsProper tree

-- a tree that the parser makes is, if it breaks no rule
abbrev pub ParsedAccepted : Type 0
ParsedAccepted = (tokens : List Token) (tree : Tree) (b : Bindings) → IsParsed tokens tree → b ≡ bound tree → faults tree ≡ [] → IsProper tree →
    IsAccepted tree b

-- With this host, these replies and at most so many turns: each report of the script's run is one of the chunk's, and the other way round.
-- The two tell the same end and the same events at the same turns, and note as many look-ups, each its own. And there is such a report
pub record RunAlike (texts : List (List ℕ)) (tree : Tree) (chunk : ChunkOf) (host : HostFields) (replies : List Reply) (turns : ℕ) : Type 0 where
  pub to_chunk : (r : Report EventKind source.Look) → SourceRun texts tree host replies turns r
      → (q : Report EventKind machine.Look) × MachineRun chunk host replies turns q × Agree (λ look. 1) (λ look. 1) r q
  pub to_script : (q : Report EventKind machine.Look) → MachineRun chunk host replies turns q
      → (r : Report EventKind source.Look) × SourceRun texts tree host replies turns r × Agree (λ look. 1) (λ look. 1) r q
  pub ends : (r : Report EventKind source.Look) × SourceRun texts tree host replies turns r

-- so it is of an accepted script and its chunk, where all nodes are of the kinds that are built
abbrev pub BuiltRunAlike : Type 0
BuiltRunAlike = (texts : List (List ℕ)) (tree : Tree) (b : Bindings) (chunk : ChunkOf) → IsAccepted tree b → built_func tree.main ≡ true →
    IsCompiled tree b texts chunk → (host : HostFields) (replies : List Reply) (turns : ℕ) → RunAlike texts tree chunk host replies turns

-- and where no node is unbuilt
abbrev pub ScriptsRunAlike : Type 0
ScriptsRunAlike = (texts : List (List ℕ)) (tree : Tree) (b : Bindings) (chunk : ChunkOf) → IsAccepted tree b →
    unbuilt_in_func texts b tree.main ≡ None → IsCompiled tree b texts chunk → (host : HostFields) (replies : List Reply) (turns : ℕ) →
    RunAlike texts tree chunk host replies turns

-- Where that chunk is well formed besides, no report of the script's run ends for lack of a rule
abbrev pub NeverStuck : Type 0
NeverStuck = (texts : List (List ℕ)) (tree : Tree) (b : Bindings) (chunk : ChunkOf) → IsAccepted tree b → built_func tree.main ≡ true →
    IsCompiled tree b texts chunk → IsWellFormed chunk → (host : HostFields) (replies : List Reply) (turns : ℕ) (r : Report EventKind source.Look) →
    SourceRun texts tree host replies turns r → r.end ≢ Stuck
