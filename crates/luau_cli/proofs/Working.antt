-- What a mode takes is run, compiled or listed.
use Rattle.std.proofs.Common.{◌≡◌, ◌∙◌, ℕ, ◌≤◌, ◌⊎◌, inl, inr, List, length, Option, Some, None, refl, sym, ap, subst, arith}
use Rattle.std.proofs.lemmas.Option.{none-some, same_Some}
use Rattle.std.specs.Prelude.{IfSome}
use Rattle.resource.specs.Faults.{Rose}
use Rattle.outside_io.specs.Files.{Contents}
use Rattle.syntax_tree.specs.declared.tree.Tree.{Tree}
use Rattle.syntax_tree.specs.Accepts.{Accepts}
use Rattle.built_values.specs.declared.end.End.{End}
use Rattle.luau_cli.specs.declared.words.Mode.{Mode}
use Rattle.luau_cli.specs.declared.words.Mode.TheVariants as modes
use Rattle.luau_cli.specs.Command.{IsCommand}
use Rattle.luau_cli.specs.Answer.{Answer, size_limit, told_of, IsTooLarge, IsDone, IsDoneBy, IsFit, IsReported, HasWork}
use Rattle.luau_cli.specs.Answer.{Prints, WritesChunk, AnswersTree, AnswersScript, AnswersList, AnswersBytes, AnswersFile}
use Rattle.luau_cli.specs.Answer as answer
use Rattle.luau_cli.specs.Delivery.{Change, Delivers, whole, no_output, no_report}
use Rattle.luau_cli.specs.Delivery as delivery
use Rattle.luau_cli.specs.Refusals.{Unbuilt, texts_of, not_run, not_compiled, IsScript}
use Rattle.luau_cli.proofs.CommandWords.{same_command}
use Rattle.luau_cli.proofs.Refused.{refused_or_accepted, built_or_not, listed_or_not}

-- where no read and no write failed, the status is that of the answer
quiet_status : (a : Answer) (out report : Change) (status : ℕ) → (Rose out.before out.now → ⊥) → (Rose report.before report.now → ⊥)
    → Delivers a out report status → status ≡ a.status
quiet_status a out report status q r (whole x y) = refl
quiet_status a out report status q r (no_output few x y) = absurd (q x.0)
quiet_status a out report status q r (no_report few x y) = absurd (r y.0)
quiet_status a out report status q r (delivery.refused more x y) = absurd (r y.0)

-- an end that is reported has the status of work that was done
reported_done : (e : End) (status : ℕ) (text : List ℕ) → IsReported e status text → IsDone status
reported_done _ _ _ IsReported.ended = inl (omega arith)
reported_done _ _ _ (IsReported.stopped stop) = inl (omega arith)
reported_done _ _ _ IsReported.spent = inr refl

printed_done : (turns : ℕ) (tree : Tree) (texts : List (List ℕ)) (a : Answer) → Prints turns tree texts a → IsDone a.status
printed_done turns tree texts _ (answer.prints r status text run reported) = reported_done r.end status text reported

chunk_done : (tree : Tree) (texts : List (List ℕ)) (a : Answer) → WritesChunk tree texts a → a.status ≡ 0
chunk_done tree texts _ (answer.writes chunk is counts) = refl

module _
    (unbuilt : Unbuilt)
    (Work : Tree → List (List ℕ) → Answer → Type 0)
    (Done : ℕ → Type 0)
    (worked : (tree : Tree) (texts : List (List ℕ)) (a : Answer) → Work tree texts a → Done a.status) where
  tree_done : (bytes : List ℕ) (a : Answer) (tree other : Tree) (is : Accepts bytes other) → IsScript unbuilt bytes tree
      → AnswersTree unbuilt Work other (texts_of is) a → Done a.status
  tree_done bytes _ tree other is script (answer.not_built at first) = absurd (built_or_not unbuilt bytes tree other at is script first)
  tree_done bytes _ tree other is script (answer.done a none work) = worked other (texts_of is) a work

  -- a script all of which is built is worked on
  script_done : (bytes : List ℕ) (a : Answer) (tree : Tree) → IsScript unbuilt bytes tree → AnswersScript unbuilt Work bytes a → Done a.status
  script_done bytes _ tree script (AnswersScript.refused why refuses) = absurd (refused_or_accepted bytes why refuses tree script.accepted)
  script_done bytes _ tree script (AnswersScript.accepted other a is answers) = tree_done bytes a tree other is script answers

list_done : (bytes : List ℕ) (a : Answer) → IsFit modes.List bytes → AnswersList bytes a → a.status ≡ 0
list_done bytes _ fit (AnswersList.refused why is) = absurd (listed_or_not bytes why fit.0 fit.1 fit.2 is)
list_done bytes _ fit (AnswersList.lists chunk is sound) = refl

bytes_done : (mode : Mode) (turns : ℕ) (bytes : List ℕ) (a : Answer) → IsFit mode bytes → AnswersBytes mode turns bytes a → IsDoneBy mode a.status
bytes_done modes.Run turns bytes a fit answers = script_done not_run (Prints turns) IsDone (printed_done turns) bytes a fit.0 fit.1 answers
bytes_done modes.Compile turns bytes a fit answers = script_done not_compiled WritesChunk (λ s. s ≡ 0) chunk_done bytes a fit.0 fit.1 answers
bytes_done modes.List turns bytes a fit answers = list_done bytes a fit answers

file_done : (mode : Mode) (file : List ℕ) (turns before now : ℕ) (bytes : List ℕ) (content : Option (List ℕ)) (a : Answer)
    → content ≡ Some bytes → length bytes ≤ size_limit → IsFit mode bytes → (Rose before now → ⊥)
    → AnswersFile mode file turns before now (Some content) a → IsDoneBy mode a.status
file_done mode file turns before now bytes content a e few fit quiet (answer.missing q none) = absurd (none-some bytes (sym none ∙ e))
file_done mode file turns before now bytes content a e few fit quiet (answer.too_large q large) =
    absurd (not_large bytes few (subst IsTooLarge e large))
  where
    not_large : (bs : List ℕ) → length bs ≤ size_limit → IsTooLarge (Some bs) → ⊥
    not_large bs le less = omega (arith, le, less)
file_done mode file turns before now bytes content a e few fit quiet (answer.read_fault rose there) = absurd (quiet rose)
file_done mode file turns before now bytes content a e few fit quiet (answer.read bs b q small is answers) =
    let same : bs ≡ bytes = same_Some bs bytes (sym is ∙ e) in bytes_done mode turns bytes b fit (subst (λ z. AnswersBytes mode turns z b) same answers)

pub does_work : (told : Contents) (words : List (List ℕ)) (mode : Mode) (file : List ℕ) (turns before now : ℕ) (a : Answer) (out report : Change) (status : ℕ)
    → IsCommand words mode turns file → AnswersFile mode file turns before now (told_of told file) a → Delivers a out report status
    → IfSome told (λ files. (other : Mode) → HasWork files words other
    → (Rose before now → ⊥) → (Rose out.before out.now → ⊥) → (Rose report.before report.now → ⊥) → IsDoneBy other status ⊎ (status ≡ 6))
does_work None words mode file turns before now a out report status says for made = tt
does_work (Some files) words mode file turns before now a out report status says for made = λ other w quiet out_quiet report_quiet.
    let same = same_command words other mode w.turns turns w.file file w.words_are says in
    let fit = subst (λ m. IsFit m w.bytes) same.0 w.fit in
    let done = file_done mode file turns before now w.bytes (files file) a (ap files (sym same.2) ∙ w.there) w.few fit quiet for in
    let is = quiet_status a out report status out_quiet report_quiet made in
    inl (subst (λ m. IsDoneBy m status) (sym same.0) (subst (λ s. IsDoneBy mode s) (sym is) done))
