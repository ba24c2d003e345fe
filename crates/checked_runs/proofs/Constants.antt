-- The constants that well-formed code reads are there.
use Rattle.std.proofs.Common.{◌≡◌, refl, sym, ap, ◌∙◌, ℕ, zero, suc, ◌<◌, ◌≤◌, ◌^◌, ◌/◌, ◌%◌, ℤ, pos, negsuc, Bool, true, false, List, [], ◌∷◌, length, map, take, Option, Some, None, arith, nat_lt, option_map}
use Rattle.std.specs.Prelude.{slice_get, slice_index_or, is_some}
use Rattle.std.specs.Option.{option_and_then}
use Rattle.std.specs.List.{list_all}
use Rattle.std.proofs.lemmas.Bool.Decides.{nat_tests}
use Rattle.std.proofs.lemmas.List.{length-map}
use Rattle.std.proofs.lemmas.Option.{slice_get-get_or}
use Rattle.value_model.specs.Values.{Value, Nil, Boolean, Number, Text, Bytes}
use Rattle.op_words.specs.declared.chunk.Const.TheVariants as constant
use Rattle.op_words.specs.declared.chunk.Const.{Const}
use Rattle.op_words.specs.Chunks.{ChunkOf, ProtoOf}
use Rattle.machine_meaning.specs.Chunks.{proto_at}
use Rattle.machine_meaning.specs.Constants.{constant_at, value_of, known, text_in, name_at, all_some, indices_of, path_of}
use Rattle.machine_meaning.specs.Needs.{Want, AValue, AName, ANumber, AnImport, is_wanted, finds, is_spare, is_import, is_sound}
use Rattle.checked_runs.specs.Safe.{IsMade}
use Rattle.checked_runs.specs.Operands.{IsConstant}
use Rattle.checked_runs.proofs.Rules.{both, IsSound}

pub all_at : {X : Type 0} (f : X → Bool) (xs : List X) (i : ℕ) (x : X) → list_all f xs ≡ true → slice_get xs i ≡ Some x → f x ≡ true
all_at f [] i x e g = absurd cc
all_at f (y ∷ xs) zero x e g = let same : y ≡ x = cc in ap f (sym same) ∙ (both (f y) _ e).0
all_at f (y ∷ xs) (suc i) x e g = all_at f xs i x (both (f y) _ e).1 g

none_wanted : (w : Want) → is_wanted w None ≡ false
none_wanted AValue = refl
none_wanted AName = refl
none_wanted ANumber = refl
none_wanted (AnImport word) = refl

module _ (chunk : ChunkOf) (n : ℕ) (p : ProtoOf) (at : proto_at chunk n ≡ Some p) (s : IsSound chunk n p) where
  at_place : (k : ℕ) → constant_at chunk n (pos k) ≡ slice_get p.consts k
  at_place k = ap (λ o. option_and_then (λ (f : ProtoOf). slice_get f.consts k) o) at

  found : (k : ℕ) (w : Want) (o : Option Const) → slice_get p.consts k ≡ o → is_wanted w o ≡ true → IsConstant chunk n (pos k) w
  found k w None e i = let no = none_wanted w in absurd cc
  found k w (Some c) e i = record { constant = c; is = at_place k ∙ e; wanted = i; sound = all_at (is_sound chunk n) p.consts k c s.constants e }

  pub constant_found : (k : ℤ) (w : Want) → finds chunk n (k, w) ≡ true → IsConstant chunk n k w
  constant_found (pos k) w i = found k w (slice_get p.consts k) refl (sym (ap (is_wanted w) (at_place k)) ∙ i)
  constant_found (negsuc k) w i = let no = none_wanted w in absurd cc

-- ---- values

pub record IsKnown (chunk : ChunkOf) (n : ℕ) (k : ℤ) : Type 0 where
  pub value : Value
  pub is : known chunk n k ≡ Some value
  pub made : (m : ℕ) → IsMade m value

text_known : (chunk : ChunkOf) (i : ℕ) → nat_lt i (length chunk.strings) ≡ true
    → value_of chunk (constant.Str i) ≡ Some (Text (slice_index_or chunk.strings i []))
text_known chunk i l =
    let below : i < length chunk.strings = grind (arith, nat_tests) in ap (option_map (λ bs. Text bs)) (slice_get-get_or chunk.strings i [] below)

of_constant : (chunk : ChunkOf) (n : ℕ) (k : ℤ) (v : Value) (c : Const) → constant_at chunk n k ≡ Some c → value_of chunk c ≡ Some v
    → ((m : ℕ) → IsMade m v) → IsKnown chunk n k
of_constant chunk n k v c is value made = record { value = v; is = ap (option_and_then (value_of chunk)) is ∙ value; made = made }

value_found : (chunk : ChunkOf) (n : ℕ) (k : ℤ) (c : Const) → constant_at chunk n k ≡ Some c → is_wanted AValue (Some c) ≡ true
    → is_sound chunk n c ≡ true → IsKnown chunk n k
value_found chunk n k constant.Nil is w s = of_constant chunk n k Nil constant.Nil is refl (λ m. tt)
value_found chunk n k constant.False is w s = of_constant chunk n k (Boolean false) constant.False is refl (λ m. tt)
value_found chunk n k constant.True is w s = of_constant chunk n k (Boolean true) constant.True is refl (λ m. tt)
value_found chunk n k (constant.Num z) is w s = of_constant chunk n k (Number z) (constant.Num z) is refl (λ m. tt)
value_found chunk n k (constant.Str i) is w s =
    of_constant chunk n k (Text (slice_index_or chunk.strings i [])) (constant.Str i) is (text_known chunk i s) (λ m. tt)
value_found chunk n k (constant.Import word) is w s = absurd cc

pub value_known : (chunk : ChunkOf) (n : ℕ) (k : ℤ) → IsConstant chunk n k AValue → IsKnown chunk n k
value_known chunk n k i = value_found chunk n k i.constant i.is i.wanted i.sound

number_found : (chunk : ChunkOf) (n : ℕ) (k : ℤ) (c : Const) → constant_at chunk n k ≡ Some c → is_wanted ANumber (Some c) ≡ true → IsKnown chunk n k
number_found chunk n k (constant.Num z) is w = of_constant chunk n k (Number z) (constant.Num z) is refl (λ m. tt)
number_found chunk n k c is w = absurd cc

pub number_known : (chunk : ChunkOf) (n : ℕ) (k : ℤ) → IsConstant chunk n k ANumber → IsKnown chunk n k
number_known chunk n k i = number_found chunk n k i.constant i.is i.wanted

-- ---- names

pub record IsNamed (chunk : ChunkOf) (n k : ℕ) : Type 0 where
  pub name : Bytes
  pub is : name_at chunk n k ≡ Some name
  pub known : IsKnown chunk n (pos k)

name_found : (chunk : ChunkOf) (n k : ℕ) (c : Const) → constant_at chunk n (pos k) ≡ Some c → is_wanted AName (Some c) ≡ true
    → is_sound chunk n c ≡ true → IsNamed chunk n k
name_found chunk n k (constant.Str i) is w s =
    let text = slice_index_or chunk.strings i [] in
    let value : known chunk n (pos k) ≡ Some (Text text) = ap (option_and_then (value_of chunk)) is ∙ text_known chunk i s in
    record { name = text; is = ap text_in value; known = record { value = Text text; is = value; made = λ m. tt } }
name_found chunk n k c is w s = absurd cc

pub name_known : (chunk : ChunkOf) (n k : ℕ) → IsConstant chunk n (pos k) AName → IsNamed chunk n k
name_known chunk n k i = name_found chunk n k i.constant i.is i.wanted i.sound

-- ---- imports

pub record IsPath (chunk : ChunkOf) (n word : ℕ) : Type 0 where
  pub names : List Bytes
  pub is : path_of chunk n word ≡ Some names
  pub few : length names ≤ 3

pub record AreSome (os : List (Option Bytes)) : Type 0 where
  pub names : List Bytes
  pub is : all_some os ≡ Some names
  pub count : length names ≡ length os

some_more : (o : Option Bytes) (os : List (Option Bytes)) → is_some o ≡ true → AreSome os → AreSome (o ∷ os)
some_more None os e i = absurd cc
some_more (Some x) os e i = record { names = x ∷ i.names; is = ap (option_map (λ ys. x ∷ ys)) i.is; count = ap suc i.count }

are_some : (f : ℕ → Option Bytes) (ks : List ℕ) → list_all (λ k. is_some (f k)) ks ≡ true → AreSome (map f ks)
are_some f [] e = record { names = []; is = refl; count = refl }
are_some f (k ∷ ks) e = some_more (f k) (map f ks) (both (is_some (f k)) _ e).0 (are_some f ks (both (is_some (f k)) _ e).1)

-- an import has three names at most
few_taken : {X : Type 0} (n : ℕ) (a b c : X) → length (take n (a ∷ b ∷ c ∷ [])) ≤ 3
few_taken zero a b c = omega arith
few_taken (suc zero) a b c = omega arith
few_taken (suc (suc zero)) a b c = omega arith
few_taken {X} (suc (suc (suc n))) a b c = none n
  where
    none : (n : ℕ) → suc (suc (suc (length (take {A = X} n [])))) ≤ 3
    none zero = omega arith
    none (suc n) = omega arith

path_found : (chunk : ChunkOf) (n word : ℕ) → is_import chunk n word ≡ true → IsPath chunk n word
path_found chunk n word e =
    let k = word / 2 ^ 30 in
    let front = (both _ (is_spare k (word % 2 ^ 10) 2) e).0 in
    let names = (both _ (list_all (λ j. is_some (name_at chunk n j)) (indices_of word)) (both _ (is_spare k (word / 2 ^ 10 % 2 ^ 10) 1) front).0).1 in
    let i = are_some (name_at chunk n) (indices_of word) names in
    let few = few_taken k (word / 2 ^ 20 % 2 ^ 10) (word / 2 ^ 10 % 2 ^ 10) (word % 2 ^ 10) in
    record { names = i.names; is = i.is; few = omega (arith, i.count, length-map (indices_of word) (name_at chunk n), few) }

import_found : (chunk : ChunkOf) (n word : ℕ) (c : Const) → is_wanted (AnImport word) (Some c) ≡ true → is_sound chunk n c ≡ true
    → IsPath chunk n word
import_found chunk n word (constant.Import w) i s =
    let same : w ≡ word = grind (arith, nat_tests) in path_found chunk n word (ap (is_import chunk n) (sym same) ∙ s)
import_found chunk n word c i s = absurd cc

pub path_known : (chunk : ChunkOf) (n word : ℕ) (k : ℤ) → IsConstant chunk n k (AnImport word) → IsPath chunk n word
path_known chunk n word k i = import_found chunk n word i.constant i.wanted i.sound
