-- What `format` answers.
use Rattle.std.proofs.Common.{◌≡◌, ℕ, ◌+◌, ◌<◌, false, List, [], ◌∷◌, ◌++◌, map, length, Some, None, Result, Ok, Err, refl, sym, ◌∙◌, ap, subst, cond, arith, add-one, append-nil, Global, Vec}
use Rattle.std.proofs.lemmas.Bool.Decides.{nat_tests}
use Rattle.std.specs.Prelude.{nat_le}
use Rattle.byte_text.specs.declared.fixed.StrId.{StrId}
use Rattle.value_model.specs.Answers as model
use Rattle.value_model.specs.Arguments as arg
use Rattle.value_model.specs.CoreRows as core
use Rattle.value_model.specs.Errors.{InvalidDirective, StringTooLarge}
use Rattle.value_model.specs.FormatRows as row
use Rattle.value_model.specs.Metamethods.{longest_string}
use Rattle.value_model.specs.Parts.{bytes_at, meant, meant_error}
use Rattle.value_model.specs.Store.{Store}
use Rattle.value_model.specs.Values as m
use Rattle.value_model.specs.Values.{Bytes}
use Rattle.value_model.specs.Waits as wait
use Rattle.value_model.specs.Waits.{Elsewise}
use Rattle.value_model.specs.declared.builtin.Builtin.TheVariants.{StringFormat}
use Rattle.value_model.specs.declared.error.RunErr.TheVariants.{NotStringByTostring}
use Rattle.value_model.specs.declared.value.Value.{Value}
use Rattle.value_model.specs.declared.value.Value.TheVariants as value
use Rattle.luau_tables.specs.Answers.{meant_answer, meant_continue, Answered, Stays}
use Rattle.luau_tables.specs.Worlds.{IsWorld, store_in}
use Rattle.luau_tables.specs.declared.answer.LibAnswer.{LibAnswer}
use Rattle.luau_tables.specs.declared.answer.LibAnswer.TheVariants.{CallBack}
use Rattle.luau_tables.specs.declared.globals.LibWorld.{LibWorld}
use Rattle.lib_arguments.specs.Checks.{Checks}
use Rattle.lib_arguments.specs.Rows.{LeavesStore}
use Rattle.lib_arguments.specs.declared.ending.Ending.{Ending}
use Rattle.lib_arguments.specs.declared.ending.Ending.TheVariants.{RunError}
use Rattle.lib_string.specs.Formats.{asks, MayAsk}
use Rattle.lib_string.specs.Answering.{AnswersOrEnds}
use Rattle.lib_string.specs.Reading.{MayUseAll, Reads}
use Rattle.lib_string.specs.declared.asking.Asking.{Asking}
use Rattle.lib_string.proofs.AddedTexts.{adds_store}
use Rattle.lib_string.proofs.WholeRows.{Rest, text_of}

-- ---- what `__tostring` gave

pub given_text : (texts : List Bytes) (v : Value) (x : StrId) → v ≡ value.Str x → Checks {A = StrId} texts (λ id. bytes_at texts id.0) (core.text_given (meant texts v)) (Ok x)
unfolding meant
given_text texts v x h = subst (λ v. Checks {A = StrId} texts (λ id. bytes_at texts id.0) (core.text_given (meant texts v)) (Ok x)) (sym h) (λ go. refl)

pub no_given_text : (texts : List Bytes) (v : Value) → ((x : StrId) → v ≡ value.Str x → ⊥) → Checks {A = StrId} texts (λ id. bytes_at texts id.0) (core.text_given (meant texts v)) (Err (RunError NotStringByTostring))
unfolding meant meant_error
no_given_text texts (value.Str x) other = absurd (other x refl)
no_given_text texts v other = λ go. (refl, tt)

-- ---- the text

pub too_long : (s : Store) (bs : Bytes) → longest_string < length bs → row.format_done s bs ≡ model.ErrsWith StringTooLarge
too_long s bs h =
    let fits : nat_le (length bs) longest_string ≡ false = grind (arith, nat_tests) in
    ap (λ t. cond t (core.gives s (m.Text bs)) (model.ErrsWith StringTooLarge)) fits

-- ---- the call of `__tostring`

pub asking_answered : (w : LibWorld) (rs : List Value) (a : Asking) (at : ℕ) (args : List Value) (text : Bytes) (given : Vec Value Global) (kept : Vec Value Global) (kept_text : Bytes) → MayAsk w a → MayUseAll w args → given.items ≡ a.value ∷ [] → kept.items ≡ args → kept_text ≡ text →
    Answered w w rs rs (CallBack a.handler given (record { builtin = StringFormat; args = kept; at = at; text = kept_text })) Elsewise (asks w args at text a)
unfolding meant_answer meant_continue
asking_answered w rs a at args text given kept kept_text may used g k t =
    record {
      given = [];
      appended = sym (append-nil rs);
      meant =
          ap (λ vs. model.CallsBack (meant w.names a.handler) (map (meant w.names) vs) (wait.Asks (record { builtin = StringFormat; arguments = map (meant w.names) kept.items; at = at; text = kept_text }))) g
          ∙ ap (λ vs. model.CallsBack (meant w.names a.handler) (meant w.names a.value ∷ []) (wait.Asks (record { builtin = StringFormat; arguments = map (meant w.names) vs; at = at; text = kept_text }))) k
          ∙ ap (λ bs. model.CallsBack (meant w.names a.handler) (meant w.names a.value ∷ []) (wait.Asks (record { builtin = StringFormat; arguments = map (meant w.names) args; at = at; text = bs }))) t;
      stays = (refl, refl);
      usable = (may.0, subst (λ vs. MayUseAll w vs) (sym g) (may.1, tt), subst (λ vs. MayUseAll w vs) (sym k) used);
      values = tt;
    }

-- ---- rows

answers_after : (a b c : LibWorld) (rs rs' : List Value) (result : Result LibAnswer Ending) (row : model.LibAnswer) → store_in b ≡ store_in a → AnswersOrEnds b c rs rs' result row → AnswersOrEnds a c rs rs' result row
answers_after a b c rs rs' (Ok answer) row same h =
    record { given = h.given; appended = h.appended; meant = h.meant; stays = subst (λ s. Stays answer h.given s (store_in c)) same h.stays; usable = h.usable; values = h.values }
answers_after a b c rs rs' (Err e) row same h =
    record { results = h.results; store = subst (λ s. LeavesStore e s (store_in c)) same h.store; fails = h.fails }

-- the first argument is a text, and the row that goes on with it answers
pub text_answers : (rest : Rest) (a b : LibWorld) (args : List Value) → IsWorld a → Reads a b args → (c : LibWorld) (rs rs' : List Value) (result : Result LibAnswer Ending) (x : StrId) → Checks b.names (text_of b) (arg.text_at StringFormat 0 (map (meant a.names) args)) (Ok x) →
    AnswersOrEnds b c rs rs' result (rest (map (meant b.names) args) (store_in b) (text_of b x)) → AnswersOrEnds a c rs rs' result (arg.text_at StringFormat 0 (map (meant a.names) args) (rest (map (meant a.names) args) (store_in a)))
text_answers rest a b args world reads c rs rs' result x h k =
    let same = adds_store a b reads.adds world in
    let here = subst (λ s. AnswersOrEnds b c rs rs' result (rest (map (meant b.names) args) s (text_of b x))) same k in
    let meant_so = subst (λ vs. AnswersOrEnds b c rs rs' result (rest vs (store_in a) (text_of b x))) reads.same here in
    subst (λ row. AnswersOrEnds a c rs rs' result row) (sym (h (rest (map (meant a.names) args) (store_in a))))
    (answers_after a b c rs rs' result (rest (map (meant a.names) args) (store_in a) (text_of b x)) same meant_so)

-- what `format` does with its format, and goes on with
abbrev pub format_rest : Rest
format_rest args s bs = row.formats s args (row.pieces_of bs) 1 []

abbrev pub on_rest : (at : ℕ) → (text given : Bytes) → Rest
on_rest at text given args s format =
    row.formats_on s (record { builtin = StringFormat; arguments = args; at = at; text = text }) given (row.directive_for at (row.pieces_of format))

pub goes_on_with : (s : Store) (vs : List m.Value) (at : ℕ) (text given format : Bytes) (d : row.Field) (behind : Bytes) → Some (d, row.pieces_of behind) ≡ row.directive_for at (row.pieces_of format) →
    row.formats s vs (row.pieces_of behind) (at + 1) (text ++ row.fitted d false given) ≡ on_rest at text given vs s format
goes_on_with s vs at text given format d behind found =
    ap (λ n. row.formats s vs (row.pieces_of behind) n (text ++ row.fitted d false given)) (add-one at)
    ∙ ap (λ o. row.formats_on s (record { builtin = StringFormat; arguments = vs; at = at; text = text }) given o) found

pub goes_on_without : (s : Store) (vs : List m.Value) (at : ℕ) (text given format : Bytes) → None ≡ row.directive_for at (row.pieces_of format) → on_rest at text given vs s format ≡ model.ErrsWith InvalidDirective
goes_on_without s vs at text given format found = ap (λ o. row.formats_on s (record { builtin = StringFormat; arguments = vs; at = at; text = text }) given o) (sym found)
