-- From what was read and written to what the program answers.
use Rattle.std.proofs.Common.{◌≡◌, ◌∙◌, ℕ, ◌≤◌, inl, List, [], ◌++◌, length, Option, Some, None, Result, Ok, Err, refl, sym, ap, subst, arith, IfOk, codes}
use Rattle.std.specs.Prelude.{IfSome, OnOk, OnErr, take, Vec, vec_len}
use Rattle.std.specs.declared.alloc.Global.{Global}
use Rattle.resource.specs.Faults.{Rose}
use Rattle.resource.specs.declared.memory.OutOfMemory.{OutOfMemory}
use Rattle.outside_io.specs.Sinks.{appended}
use Rattle.outside_io.specs.Files.{Contents, ReadsAll, ReadFaults}
use Rattle.outside_io.specs.declared.reading.ReadErr.{ReadErr}
use Rattle.outside_io.specs.declared.reading.ReadErr.TheVariants.{Missing, ReadFault, TooLarge}
use Rattle.outside_io.specs.declared.writing.WriteErr.{WriteErr}
use Rattle.built_vm.specs.Shown.{line_of}
use Rattle.luau_cli.specs.Command.{IsCommand}
use Rattle.luau_cli.specs.declared.words.Mode.{Mode}
use Rattle.luau_cli.specs.Answer.{Answer, refusal, usage, size_limit, told_of, IsThere, IsTooLarge, AnswersBytes, AnswersFile, Answers}
use Rattle.luau_cli.specs.Answer as answer
use Rattle.luau_cli.specs.Delivery.{Change, IsUntouched, Delivers, whole}
use Rattle.luau_cli.specs.Delivery as delivery
use Rattle.luau_cli.specs.Making.{answer_of}
use Rattle.luau_cli.specs.declared.reply.Reply.{Reply}
use Rattle.luau_cli.proofs.Deliveries.{gains, gains_front, appended_nothing}

-- what is told of all files says what is told of one
pub told_reads : (P Q : Option (List ℕ) → Type 0) → ((content : Option (List ℕ)) → P content → Q content)
    → (told : Contents) (file : List ℕ) → IfSome told (λ files. P (files file)) → IfSome (told_of told file) Q
told_reads P Q step None file read = tt
told_reads P Q step (Some files) file read = step (files file) read

-- an error of the reading, by its cause
pub by_cause : (told : Contents) (file : List ℕ) (before now : ℕ) (e cause : ReadErr) → e ≡ cause
    → ReadFaults {A = Vec ℕ Global} (Err e) before now → IfSome told (λ files. ReadsAll (files file) size_limit (Err e))
    → ReadFaults {A = Vec ℕ Global} (Err cause) before now × IfSome told (λ files. ReadsAll (files file) size_limit (Err cause))
by_cause told file before now e cause is faults read = (
  subst (λ x. ReadFaults {A = Vec ℕ Global} (Err x) before now) is faults,
  subst (λ x. IfSome told (λ files. ReadsAll (files file) size_limit (Err x))) is read,
)

module _ (told : Contents) (mode : Mode) (file : List ℕ) (turns before now : ℕ) where
  -- a reply that refuses is what is answered
  pub answered : (r : Result Reply OutOfMemory) (status : ℕ) (about shown : List ℕ) → shown ≡ file
      → IfOk r (λ m. answer_of m ≡ refusal status (about ++ shown))
      → AnswersFile mode file turns before now (told_of told file) (refusal status (about ++ file))
      → IfOk r (λ m. AnswersFile mode file turns before now (told_of told file) (answer_of m))
  answered (Ok m) status about shown is made answers =
      subst (λ b. AnswersFile mode file turns before now (told_of told file) b) (sym (made ∙ ap (λ f. refusal status (about ++ f)) is)) answers
  answered (Err e) status about shown is made answers = tt

  pub answers_missing : now ≡ before → IfSome told (λ files. ReadsAll (files file) size_limit (Err Missing))
      → AnswersFile mode file turns before now (told_of told file) (refusal 4 (codes "missing: " ++ file))
  answers_missing quiet read =
      answer.missing quiet (told_reads (λ content. ReadsAll content size_limit (Err Missing)) (λ content. content ≡ None) no_file told file read)
    where
      no_file : (content : Option (List ℕ)) → ReadsAll content size_limit (Err Missing) → content ≡ None
      no_file None h = refl
      no_file (Some bytes) h = absurd h

  pub answers_fault : Rose before now → IfSome told (λ files. ReadsAll (files file) size_limit (Err ReadFault))
      → AnswersFile mode file turns before now (told_of told file) (refusal 4 (codes "read fault: " ++ file))
  answers_fault rose read =
      answer.read_fault rose (told_reads (λ content. ReadsAll content size_limit (Err ReadFault)) IsThere there told file read)
    where
      there : (content : Option (List ℕ)) → ReadsAll content size_limit (Err ReadFault) → IsThere content
      there None h = absurd h
      there (Some bytes) h = tt

  pub answers_large : now ≡ before → IfSome told (λ files. ReadsAll (files file) size_limit (Err TooLarge))
      → AnswersFile mode file turns before now (told_of told file) (refusal 10 (codes "too large: " ++ file))
  answers_large quiet read =
      answer.too_large quiet (told_reads (λ content. ReadsAll content size_limit (Err TooLarge)) IsTooLarge large told file read)
    where
      large : (content : Option (List ℕ)) → ReadsAll content size_limit (Err TooLarge) → IsTooLarge content
      large None h = absurd h
      large (Some bytes) h = h

  pub answers_read : (v : Vec ℕ Global) (a : Answer) → now ≡ before → length v.items ≤ size_limit
      → IfSome told (λ files. ReadsAll (files file) size_limit (Ok v)) → AnswersBytes mode turns v.items a
      → AnswersFile mode file turns before now (told_of told file) a
  answers_read v a quiet few read script =
      answer.read v.items a quiet few
      (told_reads (λ content. ReadsAll content size_limit (Ok v)) (λ content. content ≡ Some v.items) whole_file told file read) script
    where
      whole_file : (content : Option (List ℕ)) → ReadsAll content size_limit (Ok v) → content ≡ Some v.items
      whole_file None h = absurd h
      whole_file (Some bytes) h = ap Some (sym h.0)

  pub all_read : (v : Vec ℕ Global) (bytes : List ℕ) (r : Result Reply OutOfMemory) → bytes ≡ v.items → now ≡ before
      → vec_len v ≤ size_limit → IfSome told (λ files. ReadsAll (files file) size_limit (Ok v))
      → IfOk r (λ m. AnswersBytes mode turns bytes (answer_of m))
      → IfOk r (λ m. AnswersFile mode file turns before now (told_of told file) (answer_of m))
  all_read v bytes (Ok m) same quiet few read made =
      answers_read v (answer_of m) quiet (omega (arith, few, v.ok.0)) read (subst (λ b. AnswersBytes mode turns b (answer_of m)) same made)
  all_read v bytes (Err e) same quiet few read made = tt

-- the usage line is written for words that are no command
pub usage_written : (out report : Change) (put : List ℕ) (r : Result (Unit {0}) WriteErr) → put ≡ line_of usage → IsUntouched out
    → OnOk r (report.new ≡ appended report.old put)
    → OnErr r ((count : ℕ) × (count ≤ length put) × (report.new ≡ appended report.old (take count put)))
    → OnOk r (report.now ≡ report.before) → OnErr r (Rose report.before report.now) → Delivers (refusal 2 usage) out report 2
usage_written out report put (Ok u) e same ok err quiet fault =
    whole (gains out [] [] refl (same.0 ∙ sym (appended_nothing out.old)) same.1) (gains report put _ e ok quiet)
usage_written out report put (Err w) e same ok err quiet fault =
    delivery.refused (inl refl) same (gains_front report put _ e err fault)

-- what is answered for the file is the answer to the words
pub answers_words :
    (told : Contents) (words : List (List ℕ)) (mode : Mode) (file : List ℕ) (turns before now : ℕ) (a : Answer) (out report : Change) (status : ℕ)
    → IsCommand words mode turns file → AnswersFile mode file turns before now (told_of told file) a → Delivers a out report status
    → (status ≡ 6 → ⊥) → (b : Answer) × Answers told words before now b × Delivers b out report status
answers_words told words mode file turns before now a out report status says for made = λ _. (a, answer.to_command mode turns file a says for, made)

pub answers_other : (told : Contents) (words : List (List ℕ)) (n : ℕ) (out report : Change) (status : ℕ)
    → ((mode : Mode) (turns : ℕ) (file : List ℕ) → IsCommand words mode turns file → ⊥) → Delivers (refusal 2 usage) out report status
    → (status ≡ 6 → ⊥) → (b : Answer) × Answers told words n n b × Delivers b out report status
answers_other told words n out report status other made = λ _. (refusal 2 usage, answer.to_other_words other refl, made)
