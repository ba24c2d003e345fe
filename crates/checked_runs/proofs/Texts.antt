-- Library functions of numbers, texts and coroutines that leave the store as it is.
use Rattle.std.proofs.Common.{ℕ, zero, suc, ℤ, pos, negsuc, ◌+ℤ◌, Bool, true, false, List, [], ◌∷◌, ◌++◌, length, map, drop, Option, Some, None}
use Rattle.std.specs.Prelude.{if◌then◌else◌, nat_le, int_lt}
use Rattle.std.specs.Int.{int_min, int_max}
use Rattle.value_model.specs.declared.builtin.Builtin.{Builtin}
use Rattle.value_model.specs.declared.builtin.Builtin.TheVariants as builtin
use Rattle.value_model.specs.Values.{Bytes, Value, Nil, Number, Text}
use Rattle.value_model.specs.Store.{Store, TableOf}
use Rattle.value_model.specs.Waits.{Continue}
use Rattle.value_model.specs.Tables as tables
use Rattle.value_model.specs.Metamethods.{as_text, longest_string}
use Rattle.value_model.specs.Answers.{LibAnswer, Answers, ErrsWith}
use Rattle.value_model.specs.Errors.{InvalidElement, TooManyValues, StringTooLarge}
use Rattle.value_model.specs.Arguments as arguments
use Rattle.value_model.specs.Values.{kind_of}
use Rattle.value_model.specs.CoreRows as core
use Rattle.value_model.specs.MathRows as math
use Rattle.value_model.specs.StringRows as string
use Rattle.value_model.specs.FormatRows as format
use Rattle.value_model.specs.TableRows as table
use Rattle.value_model.specs.CoroutineRows as co
use Rattle.checked_runs.specs.Safe.{IsMade, AreMade, IsTable, IsStore, IsResumer}
use Rattle.checked_runs.proofs.Elements.{each_drop}
use Rattle.checked_runs.proofs.Operations.{table_made}
use Rattle.checked_runs.proofs.Arguments as given
use Rattle.checked_runs.proofs.Arguments.{Holds}
use Rattle.checked_runs.proofs.Reading as reading

numbers_made : (n : ℕ) (bs : Bytes) → AreMade n (map (λ b. Number (pos b)) bs)
numbers_made n [] = tt
numbers_made n (b ∷ bs) = (tt, numbers_made n bs)

running_made : (n count : ℕ) (o : Option ℕ) → IsResumer count o → IsMade n (co.running_value o)
running_made n count None i = tt
running_made n count (Some k) i = i.0

module _ (n : ℕ) (s : Store) (is : IsStore n s) (P : List Value → Store → Type 0) (stays : (vs : List Value) → AreMade n vs → P vs s) where
  gives : (v : Value) → IsMade n v → Holds P n (core.gives s v)
  gives v m = reading.gives n s is P stays v m

  bounded : (text : Bytes) → Holds P n (if nat_le (length text) longest_string then core.gives s (Text text) else ErrsWith StringTooLarge)
  bounded text =
      reading.one_of n s is P stays (nat_le (length text) longest_string) (core.gives s (Text text)) (ErrsWith StringTooLarge) (gives (Text text) tt)
      (record { holds = tt })

  -- ---- `math`

  pub of_number : (f : Builtin) (g : ℤ → ℤ) (args : List Value) → AreMade n args → Holds P n (math.of_number f g args s)
  of_number f g args m = given.number n P f 0 args _ m (λ z. gives _ tt)

  best_from : (f : Builtin) (best : ℤ → ℤ → ℤ) (i : ℕ) (vs : List Value) (z : ℤ) → Holds P n (math.best_from f best s i vs z)
  best_from f best i [] z = gives _ tt
  best_from f best i (v ∷ vs) z = given.number_from n P f i v _ (λ w. best_from f best (suc i) vs (best z w))

  pub best_row : (f : Builtin) (best : ℤ → ℤ → ℤ) (args : List Value) → AreMade n args → Holds P n (math.best_row f best args s)
  best_row f best args m = given.number n P f 0 args _ m (best_from f best 1 (drop 1 args))

  clamped : (k low high : ℤ) → Holds P n (math.clamped s k low high)
  clamped k low high =
      let z = int_min (int_max k low) high in
      reading.one_of n s is P stays (int_lt high low) (arguments.out_of_range builtin.MathClamp 2) (core.gives s (Number z)) (record { holds = tt })
      (gives (Number z) tt)

  pub clamp_row : (args : List Value) → AreMade n args → Holds P n (math.clamp_row args s)
  clamp_row args m =
      given.number n P builtin.MathClamp 0 args _ m
      (λ k. given.number n P builtin.MathClamp 1 args _ m (λ low. given.number n P builtin.MathClamp 2 args _ m (clamped k low)))

  -- ---- `string`

  byte_values : (bs : Bytes) → Holds P n (string.byte_values s bs)
  byte_values bs =
      let vs = map (λ b. Number (pos b)) bs in
      reading.one_of n s is P stays (nat_le (length bs) string.most_values) (Answers vs s) (ErrsWith TooManyValues)
      (reading.gives_all n s is P stays vs (numbers_made n bs)) (record { holds = tt })

  pub byte_row : (args : List Value) → AreMade n args → Holds P n (string.byte_row args s)
  byte_row args m =
      given.text n P builtin.StringByte 0 args _ m
      (λ bs. given.number_or n P builtin.StringByte 1 args (pos 1) _ (λ i. given.number_or n P builtin.StringByte 2 args i _ (λ j. byte_values _)))

  char_texts : (i : ℕ) (bs : Bytes) (zs : List ℤ) → Holds P n (string.char_texts s i bs zs)
  char_texts i bs [] = gives _ tt
  char_texts i bs (z ∷ zs) =
      reading.one_of n s is P stays (string.is_byte z) (string.char_texts s (suc i) (bs ++ string.natural z ∷ []) zs)
      (arguments.out_of_range builtin.StringChar i) (char_texts (suc i) (bs ++ string.natural z ∷ []) zs) (record { holds = tt })

  char_numbers : (i : ℕ) (zs : List ℤ) (vs : List Value) → Holds P n (string.char_numbers s i zs vs)
  char_numbers i zs [] = char_texts 0 [] zs
  char_numbers i zs (v ∷ vs) = given.number_from n P builtin.StringChar i v _ (λ z. char_numbers (suc i) (zs ++ z ∷ []) vs)

  pub char_row : (args : List Value) → AreMade n args → Holds P n (string.char_row args s)
  char_row args m = given.number n P builtin.StringChar 0 args _ m (λ z. char_numbers 1 (z ∷ []) (drop 1 args))

  pub len_row : (args : List Value) → AreMade n args → Holds P n (string.len_row args s)
  len_row args m = given.text n P builtin.StringLen 0 args _ m (λ bs. gives _ tt)

  pub sub_row : (args : List Value) → AreMade n args → Holds P n (string.sub_row args s)
  sub_row args m =
      given.text n P builtin.StringSub 0 args _ m
      (λ bs. given.number n P builtin.StringSub 1 args _ m (λ i. given.number_or n P builtin.StringSub 2 args (negsuc 0) _ (λ j. gives _ tt)))

  pub of_text : (f : Builtin) (g : Bytes → Bytes) (args : List Value) → AreMade n args → Holds P n (string.of_text f g args s)
  of_text f g args m = given.text n P f 0 args _ m (λ bs. gives _ tt)

  repeated : (bs : Bytes) (k : ℕ) (b : Bool) → Holds P n (string.repeated s bs k b)
  repeated bs k true = gives _ tt
  repeated bs k false = record { holds = tt }

  rep_text : (bs : Bytes) (k : ℕ) → Holds P n (string.rep_text s bs k)
  rep_text [] k = gives _ tt
  rep_text (b ∷ bs) k = repeated (b ∷ bs) k _

  pub rep_row : (args : List Value) → AreMade n args → Holds P n (string.rep_row args s)
  rep_row args m = given.text n P builtin.StringRep 0 args _ m (λ bs. given.number n P builtin.StringRep 1 args _ m (λ k. rep_text bs _))

  -- ---- `string.format`

  format_done : (text : Bytes) → Holds P n (format.format_done s text)
  format_done text = bounded text

  hex_text : (d : format.Field) (capital : Bool) (i : ℕ) (go : format.Onward) (z : ℤ) → ((bs : Bytes) → Holds P n (go bs))
      → Holds P n (format.hex_text d capital i go z)
  hex_text d capital i go (pos k) h = h _
  hex_text d capital i go (negsuc k) h = record { holds = tt }

  byte_text : (d : format.Field) (i : ℕ) (go : format.Onward) (z : ℤ) → ((bs : Bytes) → Holds P n (go bs)) → Holds P n (format.byte_text d i go z)
  byte_text d i go z h =
      let text = format.fitted d false (string.natural z ∷ []) in
      reading.one_of n s is P stays (string.is_byte z) (go text) (arguments.out_of_range builtin.StringFormat i) (h text) (record { holds = tt })

  directive_text : (args : List Value) (i : ℕ) (text : Bytes) (d : format.Field) (form : format.Form) (go : format.Onward) → AreMade n args
      → ((bs : Bytes) → Holds P n (go bs))
      → Holds P n (format.directive_text s args i text d form go)
  directive_text args i text d format.AsText go m h =
      given.any n P builtin.StringFormat i args _ m
      (λ v k. reading.asks_text n s is P stays v (record { builtin = builtin.StringFormat; arguments = args; at = i; text = text }) (λ bs. go (format.fitted d false bs)) k m (λ bs. h (format.fitted d false bs)))
  directive_text args i text d format.AsDecimal go m h = given.number n P builtin.StringFormat i args _ m (λ z. h _)
  directive_text args i text d (format.AsHex capital) go m h = given.number n P builtin.StringFormat i args _ m (λ z. hex_text d capital i go z h)
  directive_text args i text d format.AsByte go m h = given.number n P builtin.StringFormat i args _ m (λ z. byte_text d i go z h)

  pub formats : (args : List Value) (ps : List format.Piece) (i : ℕ) (text : Bytes) → AreMade n args → Holds P n (format.formats s args ps i text)
  formats args [] i text m = format_done text
  formats args (format.Plainly b ∷ ps) i text m = formats args ps i (text ++ b ∷ []) m
  formats args (format.Malformed ∷ ps) i text m = record { holds = tt }
  formats args (format.Directive d ∷ ps) i text m = directive_text args i text d d.form _ m (λ bs. formats args ps (suc i) (text ++ bs) m)

  pub format_row : (args : List Value) → AreMade n args → Holds P n (format.format_row args s)
  format_row args m = given.text n P builtin.StringFormat 0 args _ m (λ bs. formats args (format.pieces_of bs) 1 [] m)

  formats_on : (c : Continue) (bs : Bytes) (d : Option (format.Field × List format.Piece)) → AreMade n c.arguments
      → Holds P n (format.formats_on s c bs d)
  formats_on c bs None m = record { holds = tt }
  formats_on c bs (Some d) m = formats c.arguments d.1 (suc c.at) _ m

  pub format_goes_on : (c : Continue) (bs : Bytes) → AreMade n c.arguments → Holds P n (format.format_goes_on c s bs)
  format_goes_on c bs m =
      given.text n P builtin.StringFormat 0 c.arguments _ m (λ f. formats_on c bs (format.directive_for c.at (format.pieces_of f)) m)

  -- ---- tables that are read

  joins : (t : TableOf) (sep : Bytes) (k : ℤ) (count : ℕ) (front : Option Bytes) → Holds P n (table.joins s t sep k count front)
  joins t sep k zero front = bounded (table.whole_text front)
  joins t sep k (suc count) front = by (as_text (tables.item t k)) (λ bs. joins t sep (k +ℤ pos 1) count (Some (table.joined_with sep front bs)))
    where
      by : (o : Option Bytes) → ((bs : Bytes) → Holds P n (table.joins s t sep (k +ℤ pos 1) count (Some (table.joined_with sep front bs))))
          → Holds P n (elim o [ None ↦ ErrsWith (InvalidElement (kind_of (tables.item t k)) k) | Some bs ↦ table.joins s t sep (k +ℤ pos 1) count (Some (table.joined_with sep front bs)) ])
      by None h = record { holds = tt }
      by (Some bs) h = h bs

  pub concat_row : (args : List Value) → AreMade n args → Holds P n (table.concat_row args s)
  concat_row args m =
      given.table n P builtin.TableConcat 0 args _ m
      (λ t. given.text_or n P builtin.TableConcat 1 args [] _ (λ sep. given.number_or n P builtin.TableConcat 2 args (pos 1) _ (λ i. given.number_or n P builtin.TableConcat 3 args _ _ (λ j. joins _ sep i _ None))))

  unpacks : (t : TableOf) (i : ℤ) (count : ℕ) (b : Bool) → IsTable n t → Holds P n (table.unpacks s t i count b)
  unpacks t i count true m = reading.gives_all n s is P stays _ (reading.items_made n t i count m)
  unpacks t i count false m = record { holds = tt }

  pub unpack_row : (args : List Value) → AreMade n args → Holds P n (table.unpack_row args s)
  unpack_row args m =
      given.table n P builtin.TableUnpack 0 args _ m
      (λ t. given.number_or n P builtin.TableUnpack 1 args (pos 1) _ (λ i. given.number_or n P builtin.TableUnpack 2 args _ _ (λ j. unpacks _ i _ _ (table_made n s t is))))

  finds_by : (b c : Bool) (k : ℤ) (a : LibAnswer) → Holds P n a
      → Holds P n (elim b [ true ↦ core.gives s Nil | false ↦ elim c [ true ↦ core.gives s (Number k) | false ↦ a ] ])
  finds_by true c k a h = gives Nil tt
  finds_by false true k a h = gives (Number k) tt
  finds_by false false k a h = h

  finds : (most : ℕ) (t : TableOf) (v : Value) (k : ℤ) → Holds P n (table.finds most s t v k)
  finds zero t v k = gives Nil tt
  finds (suc most) t v k = finds_by (tables.is_nil (tables.item t k)) (tables.same (tables.item t k) v) k _ (finds most t v (k +ℤ pos 1))

  pub find_row : (args : List Value) → AreMade n args → Holds P n (table.find_row args s)
  find_row args m =
      given.table n P builtin.TableFind 0 args _ m
      (λ t. given.any n P builtin.TableFind 1 args _ m (λ v i. given.number_or n P builtin.TableFind 2 args (pos 1) _ (finds _ _ v)))

  pub isfrozen_row : (args : List Value) → AreMade n args → Holds P n (table.isfrozen_row args s)
  isfrozen_row args m = given.table n P builtin.TableIsfrozen 0 args _ m (λ t. gives _ tt)

  -- ---- `coroutine`

  pub resume_row : (args : List Value) → AreMade n args → Holds P n (co.resume_row args s)
  resume_row args m = given.coroutine n P builtin.CoroutineResume 0 args _ m (λ k l. record { holds = (l, each_drop (IsMade n) 1 args m) })

  pub yield_row : (args : List Value) → AreMade n args → Holds P n (co.yield_row args s)
  yield_row args m = record { holds = m }

  pub status_row : (args : List Value) → AreMade n args → Holds P n (co.status_row args s)
  status_row args m = given.coroutine n P builtin.CoroutineStatus 0 args _ m (λ k l. gives _ tt)

  pub isyieldable_row : (args : List Value) → AreMade n args → Holds P n (co.isyieldable_row args s)
  isyieldable_row args m = gives _ tt

  pub running_row : (args : List Value) → AreMade n args → Holds P n (co.running_row args s)
  running_row args m = gives _ (running_made n (length s.coroutines) s.running is.running)

  pub close_row : (args : List Value) → AreMade n args → Holds P n (co.close_row args s)
  close_row args m = given.coroutine n P builtin.CoroutineClose 0 args _ m (λ k l. record { holds = l })
