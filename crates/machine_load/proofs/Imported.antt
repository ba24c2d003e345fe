-- What import constants hold by the definition is what was found for them.
use Rattle.std.proofs.Common.{◌≡◌, ℕ, zero, suc, ◌<◌, ◌/◌, ◌%◌, ◌^◌, inr, Bool, true, false, List, [], ◌∷◌, length, map, take, Option, Some, None, IfSome, refl, sym, ◌∙◌, ap}
use Rattle.std.specs.List.{AllByRecursion}
use Rattle.std.specs.Option.{option_map, option_and_then}
use Rattle.std.specs.Prelude.{slice_get, unwrap_or}
use Rattle.std.proofs.lemmas.Option.{slice_get-map}
use Rattle.byte_text.specs.declared.fixed.StrId.{StrId}
use Rattle.op_words.specs.Chunks.{ChunkOf, ProtoOf}
use Rattle.op_words.specs.declared.chunk.Const.{Const}
use Rattle.op_words.specs.declared.chunk.Const.TheVariants as constant
use Rattle.value_model.specs.Fresh.{HostFields, fresh}
use Rattle.value_model.specs.Owners.{wide}
use Rattle.value_model.specs.Parts.{meant, table_ref}
use Rattle.value_model.specs.Store as store
use Rattle.value_model.specs.Store.{Store}
use Rattle.value_model.specs.Tables as tables
use Rattle.value_model.specs.Values as m
use Rattle.value_model.specs.Values.{Bytes}
use Rattle.value_model.specs.declared.ids.TableId.{TableId}
use Rattle.value_model.specs.declared.value.Value.{Value}
use Rattle.value_model.specs.declared.value.Value.TheVariants as value
use Rattle.value_arena.specs.Arenas.{table_at}
use Rattle.luau_tables.specs.Part.{store_of}
use Rattle.luau_tables.specs.Rules as rule
use Rattle.luau_tables.specs.Worlds.{IsWorld, MayUseIn, store_in}
use Rattle.luau_tables.specs.declared.globals.LibWorld.{LibWorld}
use Rattle.luau_tables.proofs.WorldsKept.{get_use, get_store, frozen_store}
use Rattle.machine_meaning.specs.Chunks.{proto_at}
use Rattle.machine_meaning.specs.Constants as constants
use Rattle.machine_meaning.specs.Runs as runs
use Rattle.machine_code.specs.Code.{IsConstant, IsFunctionOf, value_or_nil}
use Rattle.machine_code.specs.declared.code.Function.{Function}
use Rattle.machine_code.proofs.Lists.{all_at}
use Rattle.machine_world.specs.Functions.{text_of}
use Rattle.machine_load.specs.Imports as spec

-- ---- those that are found

pub record AreImportsTo (w : LibWorld) (vs : List Value) (number : ℕ) (cs : List Const) (found : List (Option Value)) : Type 0 where
  pub is : found ≡ map (spec.import_of w vs) (take number cs)
  pub usable : AllByRecursion (λ (o : Option Value). IfSome o (MayUseIn w)) found

-- ---- names

is_nil_text : (b : Bytes) {A : Type 0} → m.Text b ≡ m.Nil → A
is_nil_text b e = cc

-- the text of a constant
text_is : (texts : List Bytes) (v : Value) (o : Option m.Value) → meant texts v ≡ unwrap_or o m.Nil
    → option_map (text_of texts) (spec.text_in (Some v)) ≡ constants.text_in o
unfolding meant
text_is texts value.Nil None e = refl
text_is texts (value.Bool b) None e = refl
text_is texts (value.Num z) None e = refl
text_is texts (value.Str x) None e = is_nil_text (text_of texts x) e
text_is texts (value.Table t) None e = refl
text_is texts (value.Closure f) None e = refl
text_is texts (value.Native f) None e = refl
text_is texts (value.Host h) None e = refl
text_is texts (value.Wrap t) None e = refl
text_is texts (value.Thread t) None e = refl
text_is texts value.Nil (Some u) e = ap (λ x. constants.text_in (Some x)) e
text_is texts (value.Bool b) (Some u) e = ap (λ x. constants.text_in (Some x)) e
text_is texts (value.Num z) (Some u) e = ap (λ x. constants.text_in (Some x)) e
text_is texts (value.Str y) (Some u) e = ap (λ x. constants.text_in (Some x)) e
text_is texts (value.Table t) (Some u) e = ap (λ x. constants.text_in (Some x)) e
text_is texts (value.Closure f) (Some u) e = ap (λ x. constants.text_in (Some x)) e
text_is texts (value.Native f) (Some u) e = ap (λ x. constants.text_in (Some x)) e
text_is texts (value.Host h) (Some u) e = ap (λ x. constants.text_in (Some x)) e
text_is texts (value.Wrap t) (Some u) e = ap (λ x. constants.text_in (Some x)) e
text_is texts (value.Thread t) (Some u) e = ap (λ x. constants.text_in (Some x)) e

name_by : (chunk : ChunkOf) (texts : List Bytes) (o : Option Value) (q : Option Const)
    → option_map (meant texts) o ≡ option_map (value_or_nil chunk) q
    → option_map (text_of texts) (spec.text_in o) ≡ constants.text_in (option_and_then (constants.value_of chunk) q)
name_by chunk texts None None e = refl
name_by chunk texts None (Some c) e = absurd cc
name_by chunk texts (Some v) None e = absurd cc
name_by chunk texts (Some v) (Some c) e = text_is texts v (constants.value_of chunk c) cc

known_by : (texts : List Bytes) (o : Option Value) → ((v : Value) → o ≡ Some v → IsConstant texts v) → IfSome (spec.text_in o) (λ x. x.0 < length texts)
known_by texts None h = tt
known_by texts (Some value.Nil) h = tt
known_by texts (Some (value.Bool b)) h = tt
known_by texts (Some (value.Num z)) h = tt
known_by texts (Some (value.Str x)) h = h (value.Str x) refl
known_by texts (Some (value.Table t)) h = tt
known_by texts (Some (value.Closure f)) h = tt
known_by texts (Some (value.Native f)) h = tt
known_by texts (Some (value.Host i)) h = tt
known_by texts (Some (value.Wrap t)) h = tt
known_by texts (Some (value.Thread t)) h = tt

module _ (chunk : ChunkOf) (texts : List Bytes) (n : ℕ) (p : ProtoOf) (f : Function) (at : proto_at chunk n ≡ Some p) (is : IsFunctionOf chunk texts p f) where
  name_is : (k : ℕ) → option_map (text_of texts) (spec.name_at f.consts k) ≡ constants.name_at chunk n k
  name_is k =
      name_by chunk texts (slice_get f.consts k) (slice_get p.consts k)
      (sym (slice_get-map (meant texts) f.consts k) ∙ ap (λ vs. slice_get vs k) is.consts.values ∙ slice_get-map (value_or_nil chunk) p.consts k)
      ∙ sym (ap (λ o. constants.text_in (option_and_then (constants.value_of chunk) (option_and_then (λ (q : ProtoOf). slice_get q.consts k) o))) at)

  name_known : (k : ℕ) → IfSome (spec.name_at f.consts k) (λ x. x.0 < length texts)
  name_known k = known_by texts (slice_get f.consts k) (λ v e. all_at (IsConstant texts) f.consts k v is.consts.plain e)

-- ---- where names lead

module _ (w : LibWorld) (is : IsWorld w) where
  abbrev texts : List Bytes
  texts = w.names

  abbrev s : Store
  s = store_in w

  led_by : (t : TableId) (x : StrId) (xs : List StrId) (b : Bool)
      → option_map (meant texts) (spec.led w (rule.get (table_at w.arena t) (value.Str x)) xs)
      ≡ runs.led s (runs.raw s (table_ref t) (text_of texts x)) (map (text_of texts) xs)
      → option_map (meant texts) (elim b [ true ↦ spec.led w (rule.get (table_at w.arena t) (value.Str x)) xs | false ↦ None ])
      ≡ elim b [ true ↦ runs.led s (runs.raw s (table_ref t) (text_of texts x)) (map (text_of texts) xs) | false ↦ None ]
  led_by t x xs true rest = rest
  led_by t x xs false rest = refl

  led_is : (xs : List StrId) (v : Value) → MayUseIn w v → AllByRecursion (λ (x : StrId). x.0 < length texts) xs
      → option_map (meant texts) (spec.led w v xs) ≡ runs.led s (meant texts v) (map (text_of texts) xs)
  unfolding meant
  led_is xs value.Nil h k = refl
  led_is [] (value.Bool b) h k = refl
  led_is [] (value.Num z) h k = refl
  led_is [] (value.Str x) h k = refl
  led_is [] (value.Table t) h k = refl
  led_is [] (value.Closure f) h k = refl
  led_is [] (value.Native f) h k = refl
  led_is [] (value.Host i) h k = refl
  led_is [] (value.Wrap t) h k = refl
  led_is [] (value.Thread t) h k = refl
  led_is (x ∷ xs) (value.Bool b) h k = refl
  led_is (x ∷ xs) (value.Num z) h k = refl
  led_is (x ∷ xs) (value.Str y) h k = refl
  led_is (x ∷ xs) (value.Closure f) h k = refl
  led_is (x ∷ xs) (value.Native f) h k = refl
  led_is (x ∷ xs) (value.Host i) h k = refl
  led_is (x ∷ xs) (value.Wrap t) h k = refl
  led_is (x ∷ xs) (value.Thread t) h k = refl
  led_is (x ∷ xs) (value.Table t) h k =
      led_by t x xs (table_at w.arena t).is_frozen
      (led_is xs (rule.get (table_at w.arena t) (value.Str x)) (get_use w is t h (value.Str x)) k.1
      ∙ ap (λ u. runs.led s u (map (text_of texts) xs)) (sym (get_store w is t h (value.Str x) (tt, k.0))))
      ∙ ap (λ b. elim b [ true ↦ runs.led s (runs.raw s (table_ref t) (text_of texts x)) (map (text_of texts) xs) | false ↦ None ]) (sym (frozen_store w is t h))

  -- ---- from the global table on

  module _ (host : HostFields) (starts : s ≡ fresh host) where
    nothing_there : (x : Bytes) → runs.raw s store.script_environment x ≡ m.Nil
    unfolding fresh tables.get store.table_at
    nothing_there x = ap (λ t. runs.raw t store.script_environment x) starts

    resolved_is : (x : Bytes) (xs : List Bytes) → runs.led s (runs.raw s s.globals.table x) xs ≡ runs.resolved s (x ∷ xs)
    resolved_is x xs = ap (λ v. runs.led s (runs.global_value s v x) xs) (sym (nothing_there x))

    from_is : (x : StrId) (xs : List StrId) → x.0 < length texts → AllByRecursion (λ (y : StrId). y.0 < length texts) xs
        → option_map (meant texts) (spec.from_globals w x xs) ≡ runs.resolved s (text_of texts x ∷ map (text_of texts) xs)
    unfolding meant store_of
    from_is x xs h k =
        let g = w.globals.table in
        let may : MayUseIn w (value.Table g) = ((inr (ap wide is.own.globals.table_owner), is.own.globals.table), tt) in
        led_is xs (rule.get (table_at w.arena g) (value.Str x)) (get_use w is g may (value.Str x)) k
        ∙ ap (λ u. runs.led s u (map (text_of texts) xs)) (sym (get_store w is g may (value.Str x) (tt, h)))
        ∙ resolved_is (text_of texts x) (map (text_of texts) xs)

    abbrev known : Option StrId → Type 0
    known o = IfSome o (λ x. x.0 < length texts)

    abbrev text : Option StrId → Option Bytes
    text o = option_map (text_of texts) o

    abbrev found : List (Option Bytes) → Option m.Value
    found xs = option_and_then (runs.resolved s) (constants.all_some xs)

    one_is : (x : Option StrId) → known x → option_map (meant texts) (spec.one_name w x) ≡ found (text x ∷ [])
    one_is None h = refl
    one_is (Some x) h = from_is x [] h tt

    two_is : (x y : Option StrId) → known x → known y → option_map (meant texts) (spec.two_names w x y) ≡ found (text x ∷ text y ∷ [])
    two_is None y h k = refl
    two_is (Some x) None h k = refl
    two_is (Some x) (Some y) h k = from_is x (y ∷ []) h (k, tt)

    three_is : (x y z : Option StrId) → known x → known y → known z
        → option_map (meant texts) (spec.three_names w x y z) ≡ found (text x ∷ text y ∷ text z ∷ [])
    three_is None y z h k l = refl
    three_is (Some x) None z h k l = refl
    three_is (Some x) (Some y) None h k l = refl
    three_is (Some x) (Some y) (Some z) h k l = from_is x (y ∷ z ∷ []) h (k, (l, tt))

    module _ (chunk : ChunkOf) (n : ℕ) (p : ProtoOf) (f : Function) (at : proto_at chunk n ≡ Some p) (decoded : IsFunctionOf chunk texts p f) where
      abbrev name : ℕ → Option StrId
      name k = spec.name_at f.consts k

      abbrev named : ℕ → Option Bytes
      named k = constants.name_at chunk n k

      abbrev is_named : (k : ℕ) → text (name k) ≡ named k
      is_named k = name_is chunk texts n p f at decoded k

      abbrev is_known : (k : ℕ) → known (name k)
      is_known k = name_known chunk texts n p f at decoded k

      by_count_is : (count i j k : ℕ) → option_map (meant texts) (spec.by_count w count (name i) (name j) (name k))
          ≡ found (map named (take count (i ∷ j ∷ k ∷ [])))
      by_count_is zero i j k = refl
      by_count_is (suc zero) i j k = one_is (name i) (is_known i) ∙ ap (λ x. found (x ∷ [])) (is_named i)
      by_count_is (suc (suc zero)) i j k =
          two_is (name i) (name j) (is_known i) (is_known j)
          ∙ ap (λ x. found (x ∷ text (name j) ∷ [])) (is_named i)
          ∙ ap (λ x. found (named i ∷ x ∷ [])) (is_named j)
      by_count_is (suc (suc (suc c))) i j k =
          three_is (name i) (name j) (name k) (is_known i) (is_known j) (is_known k)
          ∙ ap (λ x. found (x ∷ text (name j) ∷ text (name k) ∷ [])) (is_named i)
          ∙ ap (λ x. found (named i ∷ x ∷ text (name k) ∷ [])) (is_named j)
          ∙ ap (λ x. found (named i ∷ named j ∷ x ∷ [])) (is_named k)
          ∙ ap (λ xs. found (named i ∷ named j ∷ named k ∷ map named xs)) (sym (take_none c))
        where
          take_none : (c : ℕ) → take {A = ℕ} c [] ≡ []
          take_none zero = refl
          take_none (suc c) = refl

      held_is : (word : ℕ) → option_map (meant texts) (spec.held w f.consts word) ≡ option_and_then (runs.resolved s) (constants.path_of chunk n word)
      held_is word = by_count_is (word / 2 ^ 30) (word / 2 ^ 20 % 2 ^ 10) (word / 2 ^ 10 % 2 ^ 10) (word % 2 ^ 10)

      pub import_is : (c : Option Const) → option_map (meant texts) (option_and_then (spec.import_of w f.consts) c)
          ≡ option_and_then (runs.resolved s) (runs.path_in chunk n c)
      import_is None = refl
      import_is (Some constant.Nil) = refl
      import_is (Some constant.False) = refl
      import_is (Some constant.True) = refl
      import_is (Some (constant.Num z)) = refl
      import_is (Some (constant.Str x)) = refl
      import_is (Some (constant.Import word)) = held_is word
