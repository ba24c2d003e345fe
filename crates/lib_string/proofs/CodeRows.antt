-- The row of `char`, by its numbers and their bytes.
use Rattle.std.proofs.Common.{◌≡◌, ℕ, suc, ◌+◌, ◌<◌, ◌≤◌, Bool, true, false, List, [], ◌∷◌, ◌++◌, drop, length, map, get_or, Option, Some, None, Result, Ok, Err, slice_get, refl, sym, ◌∙◌, ap, subst, cond, add-one, drop-cons, ℤ}
use Rattle.std.proofs.Math.ListN.{drop_of_length-le}
use Rattle.std.proofs.lemmas.List.{drop-map}
use Rattle.value_model.specs.Answers.{LibAnswer}
use Rattle.value_model.specs.Arguments.{number_at, number_from, number_read, out_of_range, wanted_argument}
use Rattle.value_model.specs.CoreRows.{gives}
use Rattle.value_model.specs.Metamethods.{as_number}
use Rattle.value_model.specs.Store.{Store}
use Rattle.value_model.specs.StringRows as row
use Rattle.value_model.specs.Parts.{meant}
use Rattle.value_model.specs.Values.{Bytes, Value, Text}
use Rattle.value_model.specs.declared.builtin.Builtin.{Builtin}
use Rattle.value_model.specs.declared.builtin.Builtin.TheVariants.{StringChar}
use Rattle.value_model.specs.declared.error.Wanted.{Wanted}
use Rattle.value_model.specs.declared.value.Value.{Value as Kept}
use Rattle.whole_num.specs.NumberTexts.{ReadNumber}
use Rattle.lib_arguments.specs.Checks.{Checks, Fails}
use Rattle.lib_arguments.specs.declared.ending.Ending.{Ending}
use Rattle.lib_string.specs.Codes.{numbers_then, char_numbers, bytes_then}

-- a number that is read goes on alike where all numbers do
module _ (f : Builtin) (go go' : ℤ → LibAnswer) (same : (z : ℤ) → go z ≡ go' z) where
  read_same : (i : ℕ) (v : Value) (r : ReadNumber) → number_read f i v r go ≡ number_read f i v r go'
  read_same i v None = refl
  read_same i v (Some (Err s)) = refl
  read_same i v (Some (Ok z)) = same z

  pub from_same : (i : ℕ) (v : Value) → number_from f i v go ≡ number_from f i v go'
  from_same i v = read_same i v (as_number v)

  pub wanted_same : (i : ℕ) (w : Wanted) (v : Option Value) → wanted_argument f i w v (λ v. number_from f i v go) ≡ wanted_argument f i w v (λ v. number_from f i v go')
  wanted_same i w None = refl
  wanted_same i w (Some v) = from_same i v

texts_row : (s : Store) (i : ℕ) (bs : Bytes) (zs : List ℤ) → row.char_texts s i bs zs ≡ bytes_then i bs zs (λ bs. gives s (Text bs))
texts_row s i bs [] = refl
texts_row s i bs (z ∷ zs) = by (row.is_byte z) (texts_row s (suc i) (bs ++ row.natural z ∷ []) zs)
  where
    by : (b : Bool) → row.char_texts s (suc i) (bs ++ row.natural z ∷ []) zs ≡ bytes_then (suc i) (bs ++ row.natural z ∷ []) zs (λ bs. gives s (Text bs)) →
        cond b (row.char_texts s (suc i) (bs ++ row.natural z ∷ []) zs) (out_of_range StringChar i)
        ≡ cond b (bytes_then (suc i) (bs ++ row.natural z ∷ []) zs (λ bs. gives s (Text bs))) (out_of_range StringChar i)
    by true h = h
    by false h = refl

numbers_row : (s : Store) (i : ℕ) (zs : List ℤ) (vs : List Value) → row.char_numbers s i zs vs ≡ numbers_then i zs vs (row.char_texts s 0 [])
numbers_row s i zs [] = refl
numbers_row s i zs (v ∷ vs) =
    from_same StringChar (λ z. row.char_numbers s (suc i) (zs ++ z ∷ []) vs) (λ z. numbers_then (suc i) (zs ++ z ∷ []) vs (row.char_texts s 0 []))
    (λ z. numbers_row s (suc i) (zs ++ z ∷ []) vs) i v

pub char_row : (s : Store) (args : List Value) → row.char_row args s ≡ char_numbers args (row.char_texts s 0 [])
char_row s args =
    wanted_same StringChar (λ z. row.char_numbers s 1 (z ∷ []) (drop 1 args)) (λ z. numbers_then 1 (z ∷ []) (drop 1 args) (row.char_texts s 0 []))
    (λ z. numbers_row s 1 (z ∷ []) (drop 1 args)) 0 _ (slice_get args 0)

pub char_bytes : (s : Store) (zs : List ℤ) → row.char_texts s 0 [] zs ≡ bytes_then 0 [] zs (λ bs. gives s (Text bs))
char_bytes s zs = texts_row s 0 [] zs

-- ---- place by place

drop_at : {A : Type 0} (xs : List A) (i : ℕ) (x : A) → i < length xs → x ≡ get_or xs i x → drop i xs ≡ x ∷ drop (i + 1) xs
drop_at xs i x h e = rw (add-one) (drop-cons xs i x h ∙ ap (λ y. y ∷ drop (suc i) xs) (sym e))

pub no_byte : (zs : List ℤ) (i : ℕ) (z : ℤ) (bs : Bytes) (go : Bytes → LibAnswer) → i < length zs → z ≡ get_or zs i z → row.is_byte z ≡ false → bytes_then i bs (drop i zs) go ≡ out_of_range StringChar i
no_byte zs i z bs go h e is =
    ap (λ l. bytes_then i bs l go) (drop_at zs i z h e)
    ∙ ap (λ t. cond t (bytes_then (suc i) (bs ++ row.natural z ∷ []) (drop (i + 1) zs) go) (out_of_range StringChar i)) is

module _ (texts : List Bytes) (args : List Kept) (i : ℕ) (zs : List ℤ) (go : List ℤ → LibAnswer) where
  module _ (v : Kept) (within : i < length args) (is : v ≡ get_or args i v) where
    argument_at : drop i (map (meant texts) args) ≡ meant texts v ∷ drop (i + 1) (map (meant texts) args)
    argument_at =
        drop-map (meant texts) i args ∙ ap (λ l. map (meant texts) l) (drop_at args i v within is)
        ∙ ap (λ l. meant texts v ∷ l) (sym (drop-map (meant texts) (i + 1) args))

    pub number_step : (z : ℤ) → Checks {A = ℤ} texts (λ z. z) (number_from StringChar i (meant texts v)) (Ok z) → numbers_then i zs (drop i (map (meant texts) args)) go ≡ numbers_then (i + 1) (zs ++ z ∷ []) (drop (i + 1) (map (meant texts) args)) go
    number_step z h =
        ap (λ vs. numbers_then i zs vs go) argument_at
        ∙ h (λ z. numbers_then (suc i) (zs ++ z ∷ []) (drop (i + 1) (map (meant texts) args)) go)
        ∙ ap (λ n. numbers_then n (zs ++ z ∷ []) (drop (i + 1) (map (meant texts) args)) go) (sym (add-one i))

    pub no_number : (e : Ending) → Checks {A = ℤ} texts (λ z. z) (number_from StringChar i (meant texts v)) (Err e) → Fails texts (numbers_then i zs (drop i (map (meant texts) args)) go) e
    no_number e h =
        subst (λ vs. Fails texts (numbers_then i zs vs go) e) (sym argument_at)
        (h (λ z. numbers_then (suc i) (zs ++ z ∷ []) (drop (i + 1) (map (meant texts) args)) go))

  pub numbers_end : length args ≤ i → numbers_then i zs (drop i (map (meant texts) args)) go ≡ go zs
  numbers_end h = ap (λ vs. numbers_then i zs vs go) (drop-map (meant texts) i args ∙ ap (λ l. map (meant texts) l) (drop_of_length-le args h))

-- the first number, and then those behind it
pub numbers_found : {A : Type 0} (texts : List Bytes) (mean : A → List ℤ) (vs : List Value) (z : ℤ) (result : Result A Ending) → Checks {A = ℤ} texts (λ z. z) (number_at StringChar 0 vs) (Ok z) → Checks texts mean (numbers_then 1 (z ∷ []) (drop 1 vs)) result → Checks texts mean (char_numbers vs) result
numbers_found texts mean vs z (Ok a) h k = λ go. h (λ z. numbers_then 1 (z ∷ []) (drop 1 vs) go) ∙ k go
numbers_found texts mean vs z (Err e) h k = λ go. subst (λ row. Fails texts row e) (sym (h (λ z. numbers_then 1 (z ∷ []) (drop 1 vs) go))) (k go)
