-- From the tree of a script, and the run of its code, to the answer.
use Rattle.std.proofs.Common.{◌≡◌, ◌≢◌, ◌∙◌, ℕ, List, Option, Some, None, Result, Ok, Err, IfOk, refl, sym, ap, subst, codes}
use Rattle.resource.specs.declared.memory.OutOfMemory.{OutOfMemory}
use Rattle.op_words.specs.Chunks.{ChunkOf}
use Rattle.syntax_tree.specs.declared.fault.Refusal.{Refusal}
use Rattle.syntax_tree.specs.declared.tree.Stat.{Stat}
use Rattle.syntax_tree.specs.declared.tree.Tree.{Tree}
use Rattle.syntax_tree.specs.Accepts.{Refuses}
use Rattle.built_values.specs.declared.end.End.{End}
use Rattle.built_values.specs.declared.end.End.TheVariants.{Ended, Stopped, Unfinished, Stuck}
use Rattle.built_values.specs.Runs.{Report}
use Rattle.built_machine.specs.declared.code.Code.{Code}
use Rattle.built_machine.specs.Steps.{Look}
use Rattle.built_machine.specs.Runs.{MachineRun}
use Rattle.built_emitter.specs.Correct.{Behaves}
use Rattle.built_emitter.specs.Unbuilt.{first_unbuilt}
use Rattle.built_vm.specs.declared.running.Ran.{Ran}
use Rattle.built_vm.specs.Shown.{Shows, line_of, lines_of}
use Rattle.chunk_file.specs.Reading.{read_file, IsChunk}
use Rattle.chunk_file.specs.Spelling.{spelling, HasCounts}
use Rattle.chunk_listing.specs.Listing.{listing}
use Rattle.machine_meaning.specs.WellFormed.{IsWellFormed}
use Rattle.script_compiler.specs.Compiled.{IsCompiled}
use Rattle.unbuilt_nodes.specs.Unbuilt.{unbuilt_in_func}
use Rattle.luau_cli.specs.declared.reply.Reply.{Reply}
use Rattle.luau_cli.specs.declared.refusal.ChunkRefusal.{ChunkRefusal}
use Rattle.luau_cli.specs.declared.refusal.ScriptErr.TheVariants as script
use Rattle.luau_cli.specs.declared.script.Script.{Script}
use Rattle.luau_cli.specs.Answer.{Answer, refusal, refused_text, chunk_refused_text, written, IsReported, Prints, prints, WritesChunk, writes}
use Rattle.luau_cli.specs.Answer.{AnswersTree, not_built, done, AnswersScript, AnswersList}
use Rattle.luau_cli.specs.Refusals.{Unbuilt, IsChunkRefused, statements, not_run, not_compiled}
use Rattle.luau_cli.specs.Readings.{IsRead, IsSound}
use Rattle.luau_cli.specs.Making.{answer_of}

module _ (unbuilt : Unbuilt) (Work : Tree → List (List ℕ) → Answer → Type 0) where
  -- a text that is refused
  pub answers_refused : (bytes : List ℕ) (why : Refusal) (r : Result Reply OutOfMemory) → Refuses bytes why
      → IfOk r (λ m. answer_of m ≡ refusal 3 (refused_text (script.Refused why)))
      → IfOk r (λ m. AnswersScript unbuilt Work bytes (answer_of m))
  answers_refused bytes why (Ok m) is made = subst (λ a. AnswersScript unbuilt Work bytes a) (sym made) (AnswersScript.refused why is)
  answers_refused bytes why (Err e) is made = tt

  -- an accepted script
  pub answers_accepted : (bytes : List ℕ) (s : Script) (r : Result Reply OutOfMemory) → IsRead bytes s
      → IfOk r (λ m. AnswersTree unbuilt Work s.tree s.names (answer_of m)) → IfOk r (λ m. AnswersScript unbuilt Work bytes (answer_of m))
  answers_accepted bytes s (Ok m) read made =
      AnswersScript.accepted s.tree (answer_of m) read.accepted (subst (λ texts. AnswersTree unbuilt Work s.tree texts (answer_of m)) read.names made)
  answers_accepted bytes s (Err e) read made = tt

  -- the first node that is not built
  pub answers_unbuilt : (tree : Tree) (texts : List (List ℕ)) (at : ℕ) (r : Result Reply OutOfMemory) → unbuilt tree texts ≡ Some at
      → IfOk r (λ m. answer_of m ≡ refusal 3 (refused_text (script.NotBuilt at)))
      → IfOk r (λ m. AnswersTree unbuilt Work tree texts (answer_of m))
  answers_unbuilt tree texts at (Ok m) is made = subst (λ a. AnswersTree unbuilt Work tree texts a) (sym made) (not_built at is)
  answers_unbuilt tree texts at (Err e) is made = tt

-- what is found with the bindings of a tree is what is not built of it
pub run_found : (s : Script) (found o : Option ℕ) → IsSound s → found ≡ first_unbuilt s.bindings (statements s.tree) → found ≡ o
    → not_run s.tree s.names ≡ o
run_found s found o sound is e = ap (λ b. first_unbuilt b (statements s.tree)) (sym sound.bindings) ∙ sym is ∙ e

pub compile_found : (s : Script) (found o : Option ℕ) → IsSound s → found ≡ unbuilt_in_func s.names s.bindings s.tree.main → found ≡ o
    → not_compiled s.tree s.names ≡ o
compile_found s found o sound is e = ap (λ b. unbuilt_in_func s.names b s.tree.main) (sym sound.bindings) ∙ sym is ∙ e

-- ---- runs

-- what the machine made of a script's code
abbrev pub HasRunTo : Code → (turns : ℕ) → Ran → Type 0
HasRunTo code turns ran =
    (q : Report (List ℕ) Look) × MachineRun code.words.items code.constants.items turns q × Shows ran q

-- every end but being stuck is reported
reported_end : (e : End) → e ≢ Stuck → (status : ℕ) × (text : List ℕ) × IsReported e status text
reported_end Ended ne = (0, codes "1 ended", IsReported.ended)
reported_end (Stopped stop) ne = (1, _, IsReported.stopped stop)
reported_end Unfinished ne = (7, codes "1 turns spent", IsReported.spent)
reported_end Stuck ne = absurd (ne refl)

-- the run of a script's code is over as its source is, which is never stuck
pub reported : (stats : List Stat) (code : Code) (turns : ℕ) (ran : Ran) → Behaves stats code.words.items code.constants.items
    → HasRunTo code turns ran → (status : ℕ) × (text : List ℕ) × IsReported ran.end status text
reported stats code turns ran b run =
    let source = b.to_source turns run.0 run.1 in
    let same : ran.end ≡ source.0.end = run.2.end ∙ sym source.2.end in
    reported_end ran.end (λ stuck. b.sound turns source.0 source.1 (sym same ∙ stuck))

pub answers_run : (tree : Tree) (texts : List (List ℕ)) (code : Code) (turns : ℕ) (ran : Ran) (m : Result Reply OutOfMemory)
    → not_run tree texts ≡ None → Behaves (statements tree) code.words.items code.constants.items → HasRunTo code turns ran
    → IfOk m (λ reply. (status : ℕ) × (text : List ℕ) × IsReported ran.end status text
    × (answer_of reply ≡ record { status = status; output = ran.output.items; report = line_of text }))
    → IfOk m (λ reply. AnswersTree not_run (Prints turns) tree texts (answer_of reply))
answers_run tree texts code turns ran (Ok reply) none b run made =
    let source = b.to_source turns run.0 run.1 in
    let end : ran.end ≡ source.0.end = run.2.end ∙ sym source.2.end in
    let output : ran.output.items ≡ lines_of source.0.events = run.2.output ∙ ap lines_of (sym source.2.events) in
    let is : answer_of reply ≡ record { status = made.0; output = lines_of source.0.events; report = line_of made.1 } =
    made.3 ∙ ap (λ (o : List ℕ). record { status = made.0; output = o; report = line_of made.1 }) output in
    done (answer_of reply) none
    (subst (λ a. Prints turns tree texts a) (sym is) (prints source.0 made.0 made.1 source.1 (subst (λ e. IsReported e made.0 made.1) end made.2)))
answers_run tree texts code turns ran (Err e) none b run made = tt

-- ---- chunks

pub answers_chunk : (s : Script) (chunk : ChunkOf) (m : Result Reply OutOfMemory) → IsSound s → not_compiled s.tree s.names ≡ None
    → IsCompiled s.tree s.bindings s.names chunk → IfOk m (λ reply. HasCounts chunk × (answer_of reply ≡ written (spelling chunk)))
    → IfOk m (λ reply. AnswersTree not_compiled WritesChunk s.tree s.names (answer_of reply))
answers_chunk s chunk (Ok reply) sound none is made =
    let compiled = subst (λ b. IsCompiled s.tree b s.names chunk) sound.bindings is in
    done (answer_of reply) none (subst (λ a. WritesChunk s.tree s.names a) (sym made.1) (writes chunk compiled made.0))
answers_chunk s chunk (Err e) sound none is made = tt

-- a chunk that is refused
pub answers_wrong : (bytes : List ℕ) (why : ChunkRefusal) (r : Result Reply OutOfMemory) → IsChunkRefused bytes why
    → IfOk r (λ m. answer_of m ≡ refusal 8 (chunk_refused_text why)) → IfOk r (λ m. AnswersList bytes (answer_of m))
answers_wrong bytes why (Ok m) is made = subst (λ a. AnswersList bytes a) (sym made) (AnswersList.refused why is)
answers_wrong bytes why (Err e) is made = tt

-- a chunk that is listed
pub answers_listing : (bytes : List ℕ) (c kept : ChunkOf) (out : List ℕ) (a : Answer) → (read_file bytes ≡ IsChunk c) × IsWellFormed c → kept ≡ c
    → out ≡ listing kept → a ≡ written out → AnswersList bytes a
answers_listing bytes c kept out a is same listed made =
    subst (λ a. AnswersList bytes a) (sym (made ∙ ap written (listed ∙ ap listing same))) (AnswersList.lists c is.0 is.1)
