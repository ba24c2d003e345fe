-- What a look at an argument says of the row that goes on with it.
use Rattle.std.proofs.Common.{◌≡◌, ℕ, ◌+◌, List, map, slice_get, Some, None, Result, Err, sym, ◌∙◌, ap, subst}
use Rattle.std.proofs.Math.Numerals.{add-one}
use Rattle.std.proofs.lemmas.Option.{slice_get-map}
use Rattle.std.specs.Prelude.{option_map}
use Rattle.value_model.specs.Answers as model
use Rattle.value_model.specs.Arguments as row
use Rattle.value_model.specs.Errors as error
use Rattle.value_model.specs.Parts.{meant, meant_error}
use Rattle.value_model.specs.Paths.{name_in_errors}
use Rattle.value_model.specs.Values as m
use Rattle.value_model.specs.Values.{Bytes, kind_of}
use Rattle.value_model.specs.declared.builtin.Builtin.{Builtin}
use Rattle.value_model.specs.declared.error.RunErr.TheVariants as err
use Rattle.value_model.specs.declared.error.Wanted.{Wanted}
use Rattle.value_model.specs.declared.kind.Kind.{Kind}
use Rattle.value_model.specs.declared.value.Value.{Value}
use Rattle.value_model.specs.declared.value.Value.TheVariants.{Nil}
use Rattle.lib_arguments.specs.Checks.{Checks, Fails}
use Rattle.lib_arguments.specs.declared.ending.Ending.{Ending}
use Rattle.lib_arguments.specs.declared.ending.Ending.TheVariants.{RunError}

-- ---- the argument that is meant

pub meant_at : (texts : List Bytes) (args : List Value) (i : ℕ) (v : Value) → slice_get args i ≡ Some v → slice_get (map (meant texts) args) i ≡ Some (meant texts v)
meant_at texts args i v h = slice_get-map (meant texts) args i ∙ ap (λ o. option_map (meant texts) o) h

pub absent_at : (texts : List Bytes) (args : List Value) (i : ℕ) → slice_get args i ≡ None → slice_get (map (meant texts) args) i ≡ None
absent_at texts args i h = slice_get-map (meant texts) args i ∙ ap (λ o. option_map (meant texts) o) h

pub nil_for_absent : (texts : List Bytes) (args : List Value) (i : ℕ) → slice_get args i ≡ None → meant texts Nil ≡ row.argument_or_nil (map (meant texts) args) i
unfolding meant
nil_for_absent texts args i h = ap row.or_nil (sym (absent_at texts args i h))

-- ---- the errors

pub missing_fails : (texts : List Bytes) (f : Builtin) (i : ℕ) (w : Wanted) → Fails texts (row.missing f i w) (RunError (err.MissingArgument (i + 1) f w))
unfolding meant_error
missing_fails texts f i w = (ap (λ n. model.ErrsWith (error.MissingArgument n (name_in_errors f) w)) (sym (add-one i)), tt)

pub invalid_fails : (texts : List Bytes) (f : Builtin) (i : ℕ) (w : Wanted) (v : m.Value) (k : Kind) → kind_of v ≡ k →
    Fails texts (row.invalid f i w v) (RunError (err.InvalidArgument (i + 1) f w k))
unfolding meant_error
invalid_fails texts f i w v k h = (
  ap (λ n. model.ErrsWith (error.InvalidArgument n (name_in_errors f) w (kind_of v))) (sym (add-one i))
      ∙ ap (λ k. model.ErrsWith (error.InvalidArgument (i + 1) (name_in_errors f) w k)) h,
  tt,
)

pub range_fails : (texts : List Bytes) (f : Builtin) (i : ℕ) → Fails texts (row.out_of_range f i) (RunError (err.ArgumentOutOfRange (i + 1) f))
unfolding meant_error
range_fails texts f i = (ap (λ n. model.ErrsWith (error.ArgumentOutOfRange n (name_in_errors f))) (sym (add-one i)), tt)

pub absent_fails : (texts : List Bytes) (f : Builtin) (i : ℕ) (w : Wanted) (args : List Value) → slice_get args i ≡ None →
    Checks {A = Value} texts (meant texts) (row.wanted_argument f i w (slice_get (map (meant texts) args) i)) (Err (RunError (err.MissingArgument (i + 1) f w)))
absent_fails texts f i w args h go =
    subst (λ o. Fails texts (row.wanted_argument f i w o go) (RunError (err.MissingArgument (i + 1) f w))) (sym (absent_at texts args i h)) (missing_fails texts f i w)

-- ---- a row that goes on with what an argument is

-- the argument is there, and what is made of it is what the row makes of it
pub look_on : {A B : Type 0} (texts more : List Bytes) (mean : A → B) (rest : m.Value → (B → model.LibAnswer) → model.LibAnswer) (f : Builtin) (i : ℕ) (w : Wanted) (args : List Value) (v : Value) (result : Result A Ending) → slice_get args i ≡ Some v → Checks more mean (rest (meant texts v)) result → Checks more mean (λ go. row.wanted_argument f i w (slice_get (map (meant texts) args) i) (λ v. rest v go)) result
look_on texts more mean rest f i w args v result h k =
    subst (λ o. Checks more mean (λ go. row.wanted_argument f i w o (λ v. rest v go)) result) (sym (meant_at texts args i v h)) k

-- the argument is not there
pub look_ends : {A B : Type 0} (texts : List Bytes) (mean : A → B) (rest : m.Value → (B → model.LibAnswer) → model.LibAnswer) (look : (m.Value → model.LibAnswer) → model.LibAnswer) (e : Ending) → Checks {A = Value} texts (meant texts) look (Err e) → Checks texts mean (λ go. look (λ v. rest v go)) (Err e)
look_ends texts mean rest look e h go = h (λ v. rest v go)
