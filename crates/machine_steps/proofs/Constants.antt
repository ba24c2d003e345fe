-- Constants that instructions name.
use Rattle.std.proofs.Common.{◌≡◌, ℕ, ◌<◌, ℤ, pos, true, false, List, Option, Some, None, option_map, IsSomeAnd, refl, sym, ◌∙◌, ap, subst, length, arith}
use Rattle.std.specs.Prelude.{slice_get}
use Rattle.std.specs.Option.{option_and_then}
use Rattle.std.proofs.lemmas.Bool.Decides.{nat_tests}
use Rattle.std.proofs.lemmas.Option.{slice_get_within}
use Rattle.op_words.specs.Chunks.{ChunkOf}
use Rattle.op_words.specs.declared.chunk.Const.{Const}
use Rattle.op_words.specs.declared.chunk.Const.TheVariants as constant
use Rattle.value_model.specs.Values as m
use Rattle.machine_meaning.specs.Constants.{known, value_of, name_at, text_in}
use Rattle.machine_meaning.specs.Needs.{Want, AValue, AName, ANumber, AnImport, is_wanted, is_sound}
use Rattle.machine_code.proofs.Lists.{some_at}
use Rattle.checked_runs.specs.Operands.{IsConstant}
use Rattle.machine_steps.specs.Ready.{is_value}

-- the text of a string
text_there : (chunk : ChunkOf) (p s : ℕ) → is_sound chunk p (constant.Str s) ≡ true → (bs : m.Bytes) × (value_of chunk (constant.Str s) ≡ Some (m.Text bs))
text_there chunk p s sound =
    let below : s < length chunk.strings = grind (arith, nat_tests) in
    let at = some_at chunk.strings s below in
    (at.0, ap (option_map (λ bs. m.Text bs)) at.1)

value_by : (chunk : ChunkOf) (p : ℕ) (w : Want) (c : Const) → is_value w ≡ true → is_wanted w (Some c) ≡ true → is_sound chunk p c ≡ true →
    (v : m.Value) × (value_of chunk c ≡ Some v)
value_by chunk p w constant.Nil e wanted sound = (m.Nil, refl)
value_by chunk p w constant.False e wanted sound = (m.Boolean false, refl)
value_by chunk p w constant.True e wanted sound = (m.Boolean true, refl)
value_by chunk p w (constant.Num z) e wanted sound = (m.Number z, refl)
value_by chunk p w (constant.Str s) e wanted sound = let t = text_there chunk p s sound in (m.Text t.0, t.1)
value_by chunk p AValue (constant.Import word) e wanted sound = absurd cc
value_by chunk p AName (constant.Import word) e wanted sound = absurd cc
value_by chunk p ANumber (constant.Import word) e wanted sound = absurd cc
value_by chunk p (AnImport w) (constant.Import word) e wanted sound = absurd cc

-- one that is no import has a value
pub constant_value : (chunk : ChunkOf) (n : ℕ) (k : ℤ) (w : Want) → is_value w ≡ true → IsConstant chunk n k w → (v : m.Value) × (known chunk n k ≡ Some v)
constant_value chunk n k w e i =
    let v = value_by chunk n w i.constant e i.wanted i.sound in (v.0, ap (option_and_then (value_of chunk)) i.is ∙ v.1)

name_by : (chunk : ChunkOf) (p : ℕ) (c : Const) → is_wanted AName (Some c) ≡ true → is_sound chunk p c ≡ true →
    (bs : m.Bytes) × (value_of chunk c ≡ Some (m.Text bs))
name_by chunk p constant.Nil wanted sound = absurd cc
name_by chunk p constant.False wanted sound = absurd cc
name_by chunk p constant.True wanted sound = absurd cc
name_by chunk p (constant.Num z) wanted sound = absurd cc
name_by chunk p (constant.Str s) wanted sound = text_there chunk p s sound
name_by chunk p (constant.Import word) wanted sound = absurd cc

-- one that is a name has a text
pub constant_name : (chunk : ChunkOf) (n : ℕ) (k : ℤ) → IsConstant chunk n k AName → (bs : m.Bytes) × (known chunk n k ≡ Some (m.Text bs))
constant_name chunk n k i = let v = name_by chunk n i.constant i.wanted i.sound in (v.0, ap (option_and_then (value_of chunk)) i.is ∙ v.1)

-- ---- elements that are there

pub some_within : {X : Type 0} (xs : List X) (i : ℕ) (P : X → Type 0) → IsSomeAnd (slice_get xs i) P → i < length xs
some_within {X = X} xs i P h = by (slice_get xs i) refl h
  where
    by : (o : Option X) → slice_get xs i ≡ o → IsSomeAnd o P → i < length xs
    by None e h = absurd h
    by (Some x) e h = slice_get_within xs i x e

pub some_on : {X : Type 0} (o : Option X) (x : X) (P : X → Type 0) → o ≡ Some x → IsSomeAnd o P → P x
some_on o x P e h = subst (λ o. IsSomeAnd o P) e h

pub some_is : {X : Type 0} (o : Option X) (x : X) (P : X → Type 0) → o ≡ Some x → P x → IsSomeAnd o P
some_is o x P e h = subst (λ o. IsSomeAnd o P) (sym e) h

-- whatever holds of it, there is one
pub some_there : {X : Type 0} (o : Option X) (P : X → Type 0) → IsSomeAnd o P → IsSomeAnd o (λ x. Unit {0})
some_there None P h = h
some_there (Some x) P h = tt

-- ---- names

-- the name that a constant is, whose value is known
pub name_known : (chunk : ChunkOf) (n k : ℕ) (v : m.Value) → IsConstant chunk n (pos k) AName → known chunk n (pos k) ≡ Some v →
    (bs : m.Bytes) × (name_at chunk n k ≡ Some bs) × (v ≡ m.Text bs)
name_known chunk n k v i is =
    let b = constant_name chunk n (pos k) i in
    let same : v ≡ m.Text b.0 = let e = b.1 in cc in
    (b.0, ap text_in b.1, same)
