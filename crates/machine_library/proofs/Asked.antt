-- The library functions that ask for texts ask for that of one of their arguments.
use Rattle.std.proofs.Common.{◌≡◌, ℕ, zero, suc, ◌+◌, ◌<◌, ℤ, pos, negsuc, Bool, true, false, List, [], ◌∷◌, ◌++◌, length, drop, Option, Some, None, Ok, Err, slice_get, codes, nat_le, if◌then◌else◌, refl, arith}
use Rattle.std.proofs.lemmas.List.{length-drop}
use Rattle.value_model.specs.Answers.{LibAnswer, ErrsWith, CallsBack}
use Rattle.value_model.specs.Arguments as arguments
use Rattle.value_model.specs.CoreRows as core
use Rattle.value_model.specs.FormatRows as format
use Rattle.value_model.specs.StringRows as string
use Rattle.value_model.specs.Library.{lib, go_on, goes_on}
use Rattle.value_model.specs.Errors.{StringTooLarge}
use Rattle.value_model.specs.Metamethods.{metamethod, as_number, as_text, longest_string}
use Rattle.value_model.specs.Store.{Store}
use Rattle.value_model.specs.Values.{Bytes, Value, Nil, Text}
use Rattle.value_model.specs.Waits.{Continue, Asks}
use Rattle.value_model.specs.declared.builtin.Builtin.{Builtin}
use Rattle.value_model.specs.declared.builtin.Builtin.TheVariants as builtin
use Rattle.value_model.specs.declared.error.Wanted.{Wanted}
use Rattle.whole_num.specs.NumberTexts.{ReadNumber}
use Rattle.machine_world.specs.Sound.{AsksForTexts}

-- what it goes on with
abbrev pub IsAsked : Continue → Type 0
IsAsked c = AsksForTexts c.builtin × (c.at < length c.arguments)

abbrev pub OfAnswer : LibAnswer → Type 0
OfAnswer (CallsBack f vs (Asks c)) = IsAsked c
OfAnswer (CallsBack f vs w) = ⊥
OfAnswer _ = Unit {0}

pub record Holds (a : LibAnswer) : Type 0 where
  pub holds : OfAnswer a

-- ---- arguments

some_below : {A : Type 0} (xs : List A) (i : ℕ) (x : A) → slice_get xs i ≡ Some x → i < length xs
some_below [] i x e = absurd (cc)
some_below (y ∷ xs) zero x e = omega arith
some_below (y ∷ xs) (suc i) x e = omega (arith, some_below xs i x e)

wanted : (f : Builtin) (i : ℕ) (w : Wanted) (o : Option Value) (go : Value → LibAnswer) → ((v : Value) → o ≡ Some v → Holds (go v)) → Holds (arguments.wanted_argument f i w o go)
wanted f i w None go is = record { holds = tt }
wanted f i w (Some v) go is = is v refl

number_read : (f : Builtin) (i : ℕ) (v : Value) (r : ReadNumber) (go : ℤ → LibAnswer) → ((z : ℤ) → Holds (go z)) → Holds (arguments.number_read f i v r go)
number_read f i v None go is = record { holds = tt }
number_read f i v (Some (Err stop)) go is = record { holds = tt }
number_read f i v (Some (Ok z)) go is = is z

number : (f : Builtin) (i : ℕ) (args : List Value) (go : ℤ → LibAnswer) → ((z : ℤ) → Holds (go z)) → Holds (arguments.number_at f i args go)
number f i args go is = wanted f i _ (slice_get args i) _ (λ v e. number_read f i v (as_number v) go is)

text_read : (f : Builtin) (i : ℕ) (v : Value) (o : Option Bytes) (go : Bytes → LibAnswer) → ((bs : Bytes) → Holds (go bs)) → Holds (arguments.text_read f i v o go)
text_read f i v None go is = record { holds = tt }
text_read f i v (Some bs) go is = is bs

text : (f : Builtin) (i : ℕ) (args : List Value) (go : Bytes → LibAnswer) → ((bs : Bytes) → Holds (go bs)) → Holds (arguments.text_at f i args go)
text f i args go is = wanted f i _ (slice_get args i) _ (λ v e. text_read f i v (as_text v) go is)

-- ---- texts

one_of : (b : Bool) (a c : LibAnswer) → Holds a → Holds c → Holds (if b then a else c)
one_of true a c i j = i
one_of false a c i j = j

asks_by : (s : Store) (v : Value) (c : Continue) (go : Bytes → LibAnswer) (h : Value) → IsAsked c → ((bs : Bytes) → Holds (go bs)) → Holds (core.text_of_value s v c go h)
asks_by s v c go Nil is k = k _
asks_by s v c go h is k = record { holds = is }

asks : (s : Store) (v : Value) (c : Continue) (go : Bytes → LibAnswer) → IsAsked c → ((bs : Bytes) → Holds (go bs)) → Holds (core.asks_text s v c go)
asks s v c go is k = asks_by s v c go (metamethod s v (codes "__tostring")) is k

prints : (s : Store) (args : List Value) (i : ℕ) (bs : Bytes) (vs : List Value) → i + length vs ≡ length args → Holds (core.prints s args i bs vs)
prints s args i bs [] e = record { holds = tt }
prints s args i bs (v ∷ vs) e =
    asks s v _ _ (tt, omega (arith, e)) (λ cs. prints s args (suc i) (core.with_tab i bs ++ cs) vs (omega (arith, e)))

text_given : (v : Value) (go : Bytes → LibAnswer) → ((bs : Bytes) → Holds (go bs)) → Holds (core.text_given v go)
text_given (Text bs) go k = k bs
text_given v go k = record { holds = tt }

-- ---- `format`

hex_text : (d : format.Field) (capital : Bool) (i : ℕ) (go : format.Onward) (z : ℤ) → ((bs : Bytes) → Holds (go bs)) → Holds (format.hex_text d capital i go z)
hex_text d capital i go (pos k) h = h _
hex_text d capital i go (negsuc k) h = record { holds = tt }

byte_text : (d : format.Field) (i : ℕ) (go : format.Onward) (z : ℤ) → ((bs : Bytes) → Holds (go bs)) → Holds (format.byte_text d i go z)
byte_text d i go z h =
    let bs = format.fitted d false (string.natural z ∷ []) in
    one_of (string.is_byte z) (go bs) (arguments.out_of_range builtin.StringFormat i) (h bs) (record { holds = tt })

directive : (s : Store) (args : List Value) (i : ℕ) (bs : Bytes) (d : format.Field) (form : format.Form) (go : format.Onward) → ((bs : Bytes) → Holds (go bs)) → Holds (format.directive_text s args i bs d form go)
directive s args i bs d format.AsText go h =
    wanted builtin.StringFormat i _ (slice_get args i) _
    (λ v e. asks s v (record { builtin = builtin.StringFormat; arguments = args; at = i; text = bs }) (λ cs. go (format.fitted d false cs)) (tt, some_below args i v e) (λ cs. h (format.fitted d false cs)))
directive s args i bs d format.AsDecimal go h = number builtin.StringFormat i args _ (λ z. h _)
directive s args i bs d (format.AsHex capital) go h = number builtin.StringFormat i args _ (λ z. hex_text d capital i go z h)
directive s args i bs d format.AsByte go h = number builtin.StringFormat i args _ (λ z. byte_text d i go z h)

formats : (s : Store) (args : List Value) (ps : List format.Piece) (i : ℕ) (bs : Bytes) → Holds (format.formats s args ps i bs)
formats s args [] i bs =
    one_of (nat_le (length bs) longest_string) (core.gives s (Text bs)) (ErrsWith StringTooLarge) (record { holds = tt }) (record { holds = tt })
formats s args (format.Plainly b ∷ ps) i bs = formats s args ps i (bs ++ b ∷ [])
formats s args (format.Malformed ∷ ps) i bs = record { holds = tt }
formats s args (format.Directive d ∷ ps) i bs = directive s args i bs d d.form _ (λ cs. formats s args ps (suc i) (bs ++ cs))

formats_on : (s : Store) (c : Continue) (bs : Bytes) (d : Option (format.Field × List format.Piece)) → Holds (format.formats_on s c bs d)
formats_on s c bs None = record { holds = tt }
formats_on s c bs (Some d) = formats s c.arguments d.1 (suc c.at) _

-- ---- the calls

pub row_asks : (f : Builtin) (vs : List Value) (s : Store) → AsksForTexts f → Holds (lib f vs s)
unfolding lib
row_asks builtin.Print vs s h = prints s vs 0 [] vs (omega arith)
row_asks builtin.Tostring vs s h =
    wanted builtin.Tostring 0 _ (slice_get vs 0) _
    (λ v e. asks s v (record { builtin = builtin.Tostring; arguments = vs; at = 0; text = [] }) (λ bs. core.gives s (Text bs)) (tt, some_below vs 0 v e) (λ bs. record { holds = tt }))
row_asks builtin.StringFormat vs s h = text builtin.StringFormat 0 vs _ (λ bs. formats s vs (format.pieces_of bs) 1 [])
row_asks _ vs s h = absurd h

-- and what follows them
goes_asks : (c : Continue) (s : Store) (f : Builtin) → AsksForTexts f → c.at < length c.arguments → (bs : Bytes) → Holds (goes_on f c s bs)
goes_asks c s builtin.Print h low bs =
    prints s c.arguments (suc c.at) (c.text ++ bs) (drop (suc c.at) c.arguments) (omega (arith, low, length-drop (suc c.at) c.arguments))
goes_asks c s builtin.Tostring h low bs = record { holds = tt }
goes_asks c s builtin.StringFormat h low bs =
    text builtin.StringFormat 0 c.arguments _ (λ f. formats_on s c bs (format.directive_for c.at (format.pieces_of f)))
goes_asks c s _ h low bs = absurd h

pub on_asks : (c : Continue) (v : Value) (s : Store) → IsAsked c → Holds (go_on c v s)
unfolding go_on
on_asks c v s is = text_given v _ (λ bs. goes_asks c s c.builtin is.0 is.1 bs)
