-- `char`, as what goes on with its numbers and then with their bytes.
use Rattle.std.specs.Prelude.{ℕ, suc, ℤ, List, [], ◌∷◌, ◌++◌, drop, if◌then◌else◌}
use Rattle.value_model.specs.Answers.{LibAnswer}
use Rattle.value_model.specs.Arguments.{number_at, number_from, out_of_range}
use Rattle.value_model.specs.StringRows.{is_byte, natural}
use Rattle.value_model.specs.Values.{Bytes, Value}
use Rattle.value_model.specs.declared.builtin.Builtin.TheVariants.{StringChar}

-- the numbers so far, with those of the arguments from a place on
abbrev pub numbers_then : ℕ → List ℤ → List Value → (List ℤ → LibAnswer) → LibAnswer
numbers_then i zs [] go = go zs
numbers_then i zs (v ∷ vs) go = number_from StringChar i v (λ z. numbers_then (suc i) (zs ++ z ∷ []) vs go)

-- there is at least one
abbrev pub char_numbers : List Value → (List ℤ → LibAnswer) → LibAnswer
char_numbers args go = number_at StringChar 0 args (λ z. numbers_then 1 (z ∷ []) (drop 1 args) go)

-- the bytes so far, with those of the numbers from a place on
abbrev pub bytes_then : ℕ → Bytes → List ℤ → (Bytes → LibAnswer) → LibAnswer
bytes_then i bs [] go = go bs
bytes_then i bs (z ∷ zs) go = if is_byte z then bytes_then (suc i) (bs ++ natural z ∷ []) zs go else out_of_range StringChar i
