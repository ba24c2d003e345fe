-- The functions of `string`, but `format`.
use Rattle.std.specs.Prelude.{ℕ, zero, suc, ◌-◌, ◌*◌, ℤ, pos, negsuc, ◌+ℤ◌, ◌-ℤ◌, int_le, Bool, true, false, ◌&&◌, nat_eq, nat_le, List, [], ◌∷◌, ◌++◌, length, map, take, drop, if◌then◌else◌}
use Rattle.std.specs.Int.{int_min, int_max}
use Rattle.std.specs.List.{repeat, starts_with}
use Rattle.value_model.specs.declared.builtin.Builtin.{Builtin}
use Rattle.value_model.specs.declared.builtin.Builtin.TheVariants as builtin
use Rattle.value_model.specs.Values.{Bytes, Value, Number, Text, Table}
use Rattle.value_model.specs.Errors.{TooManyValues, StringTooLarge}
use Rattle.value_model.specs.Store.{Store, TableOf, empty_table, next_table, with_new_table}
use Rattle.value_model.specs.Tables.{put_all}
use Rattle.value_model.specs.Metamethods.{longest_string}
use Rattle.value_model.specs.Answers.{LibAnswer, Answers, ErrsWith}
use Rattle.value_model.specs.Arguments.{number_at, number_or, number_from, text_at, text_or, out_of_range}
use Rattle.value_model.specs.CoreRows.{gives}

-- a number that is not below 0, and 0 for those that are
abbrev pub natural : ℤ → ℕ
natural (pos n) = n
natural (negsuc n) = 0

-- ---- positions, from 1

-- a position below 0 counts from the end
abbrev pub position_in : ℕ → ℤ → ℤ
position_in n (pos i) = pos i
position_in n (negsuc i) = negsuc i +ℤ pos (suc n)

abbrev pub first_position : ℕ → ℤ → ℤ
first_position n i = int_max (position_in n i) (pos 1)

abbrev pub last_position : ℕ → ℤ → ℤ
last_position n j = int_min (position_in n j) (pos n)

-- how many whole numbers stand from one to another
abbrev pub count_between : ℤ → ℤ → ℕ
count_between i j = natural (j -ℤ i +ℤ pos 1)

-- the bytes between two positions; none where the first is after the last
abbrev pub bytes_between : Bytes → ℤ → ℤ → Bytes
bytes_between bs i j =
    take (count_between (first_position (length bs) i) (last_position (length bs) j)) (drop (natural (first_position (length bs) i -ℤ pos 1)) bs)

-- ---- bytes

-- a call gives at most so many values
abbrev pub most_values : ℕ
most_values = 8000

abbrev pub byte_values : Store → Bytes → LibAnswer
byte_values s bs = if nat_le (length bs) most_values then Answers (map (λ b. Number (pos b)) bs) s else ErrsWith TooManyValues

abbrev pub byte_row : List Value → Store → LibAnswer
byte_row args s =
    text_at builtin.StringByte 0 args (λ bs. number_or builtin.StringByte 1 args (pos 1) (λ i. number_or builtin.StringByte 2 args i (λ j. byte_values s (bytes_between bs i j))))

abbrev pub is_byte : ℤ → Bool
is_byte z = int_le (pos 0) z && int_le z (pos 255)

-- ranges come after all kinds
abbrev pub char_texts : Store → ℕ → Bytes → List ℤ → LibAnswer
char_texts s i bs [] = gives s (Text bs)
char_texts s i bs (z ∷ zs) =
    if is_byte z then char_texts s (suc i) (bs ++ natural z ∷ []) zs else out_of_range builtin.StringChar i

abbrev pub char_numbers : Store → ℕ → List ℤ → List Value → LibAnswer
char_numbers s i zs [] = char_texts s 0 [] zs
char_numbers s i zs (v ∷ vs) = number_from builtin.StringChar i v (λ z. char_numbers s (suc i) (zs ++ z ∷ []) vs)

-- there is at least one
abbrev pub char_row : List Value → Store → LibAnswer
char_row args s = number_at builtin.StringChar 0 args (λ z. char_numbers s 1 (z ∷ []) (drop 1 args))

-- ---- whole texts

abbrev pub len_row : List Value → Store → LibAnswer
len_row args s = text_at builtin.StringLen 0 args (λ bs. gives s (Number (pos (length bs))))

abbrev pub sub_row : List Value → Store → LibAnswer
sub_row args s =
    text_at builtin.StringSub 0 args (λ bs. number_at builtin.StringSub 1 args (λ i. number_or builtin.StringSub 2 args (negsuc 0) (λ j. gives s (Text (bytes_between bs i j)))))

abbrev pub of_text : Builtin → (Bytes → Bytes) → List Value → Store → LibAnswer
of_text f g args s = text_at f 0 args (λ bs. gives s (Text (g bs)))

abbrev pub repeated : Store → Bytes → ℕ → (fits : Bool) → LibAnswer
repeated s bs n true = gives s (Text (repeat n bs))
repeated s bs n false = ErrsWith StringTooLarge

-- nothing repeated is nothing, however often
abbrev pub rep_text : Store → Bytes → ℕ → LibAnswer
rep_text s [] n = gives s (Text [])
rep_text s bs n = repeated s bs n (nat_le (length bs * n) longest_string)

abbrev pub rep_row : List Value → Store → LibAnswer
rep_row args s = text_at builtin.StringRep 0 args (λ bs. number_at builtin.StringRep 1 args (λ n. rep_text s bs (natural n)))

-- ---- `split`

-- The pieces between separators, each the first behind the one before. The piece so far, and how many bytes of a separator are
-- still to be passed over
abbrev pub pieces : (separator : Bytes) → (skip : ℕ) → (piece : Bytes) → Bytes → List Bytes
pieces sep skip piece [] = piece ∷ []
pieces sep (suc skip) piece (b ∷ bs) = pieces sep skip piece bs
pieces sep zero piece (b ∷ bs) =
    elim (starts_with nat_eq (b ∷ bs) sep) [ true ↦ piece ∷ pieces sep (length sep - 1) [] bs | false ↦ pieces sep 0 (piece ++ b ∷ []) bs ]

-- an empty separator parts all bytes
abbrev pub split_at : (separator : Bytes) → Bytes → List Bytes
split_at [] bs = map (λ b. b ∷ []) bs
split_at sep bs = pieces sep 0 [] bs

-- a new table, and its value
abbrev pub new_table : Store → TableOf → LibAnswer
new_table s t = Answers (Table (next_table s) ∷ []) (with_new_table s t)

abbrev pub split_row : List Value → Store → LibAnswer
split_row args s =
    text_at builtin.StringSplit 0 args (λ bs. text_or builtin.StringSplit 1 args (44 ∷ []) (λ sep. new_table s (put_all empty_table (pos 1) (map (λ piece. Text piece) (split_at sep bs)))))
