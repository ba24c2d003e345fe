use Rattle.std.proofs.Common.{◌≡◌, refl, sym, ap, ◌∙◌, option_map, ◌+◌, ◌^◌, ◌<◌, ℕ, drop, Some, None, rules}
use Rattle.std.specs.Prelude.{slice_get, slice_index}
use Rattle.op_words.specs.Decoding.{insn_of, with_next, ArePartsOf}
use Rattle.op_words.proofs.InsnAt.{insn_at-parts}
use Rattle.op_words.proofs.Places.{none_encoded, insn_of-encoded, stands-insn_of}
use Rattle.op_words.proofs.decoding.decode.Goals as goal

pub returns-in_err-word-clause-read : goal.returns-in_err-word-clause-read
returns-in_err-word-clause-read c = λ insn rest fit spelled.
    let none : slice_get c.args.code.now c.args.at ≡ None = search rules in
    absurd (none_encoded c.args.code.now c.args.at insn rest none spelled)

pub returns-in_err-word-clause-none : goal.returns-in_err-word-clause-none
returns-in_err-word-clause-none c =
    let none : slice_get c.args.code.now c.args.at ≡ None = search rules in
    let answer : c.from_residual.result ≡ None = search rules in
    (λ _ insn next stands. none_encoded c.args.code.now c.args.at insn (drop next c.args.code.now) none stands.spelled, λ _. rw answer refl)

pub returns-in_err-insn-clause-read : goal.returns-in_err-insn-clause-read
returns-in_err-insn-clause-read c = λ insn rest fit spelled.
    let word = c.in_ok-word.word in
    let there : slice_get c.args.code.now c.args.at ≡ Some word = search rules in
    let parts : ArePartsOf word (slice_get c.args.code.now (c.args.at + 1)) c.new-parts.result = search rules in
    let none : insn_of c.new-parts.result ≡ None = search rules in
    let some = insn_of-encoded c.args.code.now c.args.at word c.new-parts.result insn rest there parts fit spelled in
    cc

pub returns-in_err-insn-clause-none : goal.returns-in_err-insn-clause-none
returns-in_err-insn-clause-none c =
    let answer : c.from_residual-in_err-insn.result ≡ None = search rules in
    (λ _ insn next stands. let some = returns-in_err-insn-clause-read c insn (drop next c.args.code.now) stands.fit stands.spelled in cc, λ _. rw answer refl)

pub returns-clause-read : goal.returns-clause-read
returns-clause-read c = λ insn rest fit spelled.
    let word = c.in_ok-word.word in
    let there : slice_get c.args.code.now c.args.at ≡ Some word = search rules in
    let parts : ArePartsOf word (slice_get c.args.code.now (c.args.at + 1)) c.new-parts.result = search rules in
    let read : insn_of c.new-parts.result ≡ Some c.in_ok-insn.insn = search rules in
    let some = insn_of-encoded c.args.code.now c.args.at word c.new-parts.result insn rest there parts fit spelled in
    cc

pub returns-clause-value : goal.returns-clause-value
returns-clause-value c =
    let code = c.args.code.now in
    let at = c.args.at in
    let word = c.in_ok-word.word in
    let there : slice_get code at ≡ Some word = search rules in
    let parts : ArePartsOf word (slice_get code (at + 1)) c.new-parts.result = search rules in
    let read : insn_of c.new-parts.result ≡ Some c.in_ok-insn.insn = search rules in
    rw c.word_count.ensures (sym (insn_at-parts code at word c.new-parts.result there parts ∙ ap (option_map (with_next at)) read))

pub returns-clause-found : goal.returns-clause-found
returns-clause-found c =
    let word = c.in_ok-word.word in
    let there : slice_get c.args.code.now c.args.at ≡ Some word = search rules in
    let parts : ArePartsOf word (slice_get c.args.code.now (c.args.at + 1)) c.new-parts.result = search rules in
    let read : insn_of c.new-parts.result ≡ Some c.in_ok-insn.insn = search rules in
    let fits : (i : ℕ) → slice_index c.args.code.now i < 2 ^ 32 = λ i. search rules in
    rw c.word_count.ensures (stands-insn_of c.args.code.now c.args.at word c.new-parts.result c.in_ok-insn.insn fits there parts read)

pub returns-clause-none : goal.returns-clause-none
returns-clause-none c =
    (λ none. cc, λ never. absurd (never c.in_ok-insn.insn (c.args.at + c.word_count.result) (returns-clause-found c)))
