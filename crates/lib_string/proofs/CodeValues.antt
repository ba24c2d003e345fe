-- The values of bytes.
use Rattle.std.proofs.Common.{◌≡◌, ◌<◌, ◌≤◌, true, false, List, [], ◌∷◌, map, length, Result, refl, ◌∙◌, ap, cond, pos, arith}
use Rattle.std.proofs.lemmas.Bool.Decides.{nat_tests}
use Rattle.std.specs.Prelude.{nat_le}
use Rattle.value_model.specs.Answers as model
use Rattle.value_model.specs.Errors.{TooManyValues}
use Rattle.value_model.specs.Parts.{meant}
use Rattle.value_model.specs.StringRows as row
use Rattle.value_model.specs.Store.{Store}
use Rattle.value_model.specs.Values as m
use Rattle.value_model.specs.Values.{Bytes}
use Rattle.value_model.specs.declared.value.Value.{Value}
use Rattle.value_model.specs.declared.value.Value.TheVariants.{Num}
use Rattle.luau_tables.specs.Worlds.{store_in}
use Rattle.luau_tables.specs.declared.globals.LibWorld.{LibWorld}
use Rattle.lib_arguments.specs.Rows.{Runs, Gives}
use Rattle.lib_arguments.specs.declared.ending.Ending.{Ending}
use Rattle.lib_arguments.proofs.RowsRun.{gives_runs}
use Rattle.lib_string.specs.Reading.{MayUseAll}

numbers_of : Bytes → List Value
numbers_of bs = map (λ b. Num (pos b)) bs

numbers_usable : (w : LibWorld) (bs : Bytes) → MayUseAll w (numbers_of bs)
unfolding numbers_of
numbers_usable w [] = tt
numbers_usable w (b ∷ bs) = ((tt, tt), numbers_usable w bs)

numbers_meant : (texts : List Bytes) (bs : Bytes) → map (λ b. m.Number (pos b)) bs ≡ map (meant texts) (numbers_of bs)
unfolding numbers_of meant
numbers_meant texts [] = refl
numbers_meant texts (b ∷ bs) = ap (λ vs. m.Number (pos b) ∷ vs) (numbers_meant texts bs)

pub bytes_given : (w : LibWorld) (rs rs' : List Value) (bs : Bytes) (result : Result (Unit {0}) Ending) → length bs ≤ row.most_values → Gives rs rs' (map (λ b. Num (pos b)) bs) result → Runs w w rs rs' result (row.byte_values (store_in w) bs)
unfolding numbers_of
bytes_given w rs rs' bs result few h =
    let fits : nat_le (length bs) row.most_values ≡ true = grind (arith, nat_tests) in
    gives_runs w w rs rs' (numbers_of bs) result (row.byte_values (store_in w) bs) h (numbers_usable w bs)
    (ap (λ t. cond t (model.Answers (map (λ b. m.Number (pos b)) bs) (store_in w)) (model.ErrsWith TooManyValues)) fits
    ∙ ap (λ vs. model.Answers vs (store_in w)) (numbers_meant w.names bs))

pub too_many : (s : Store) (bs : Bytes) → row.most_values < length bs → row.byte_values s bs ≡ model.ErrsWith TooManyValues
too_many s bs h =
    let fits : nat_le (length bs) row.most_values ≡ false = grind (arith, nat_tests) in
    ap (λ t. cond t (model.Answers (map (λ b. m.Number (pos b)) bs) s) (model.ErrsWith TooManyValues)) fits
