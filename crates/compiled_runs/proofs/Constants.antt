-- What the machine finds at the places of constants and of texts.
use Rattle.std.proofs.Common.{◌≡◌, ℕ, zero, suc, ◌+◌, ◌<◌, ◌≤◌, ℤ, pos, Bool, true, false, List, [], ◌∷◌, ◌++◌, length, Some, refl, sym, ap, ◌∙◌, arith, subst, min, nat_eq, if◌then◌else◌, ◌⊎◌, inl, inr, ⊎_elim}
use Rattle.std.specs.Prelude.{slice_get}
use Rattle.std.specs.Option.{option_and_then, option_map}
use Rattle.std.specs.Ordering.{int_eq}
use Rattle.std.proofs.lemmas.Bool.{eq-eqb, eqb-true}
use Rattle.std.proofs.lemmas.Int.{ints}
use Rattle.std.proofs.lemmas.Bool.Decides.{nat_tests}
use Rattle.byte_text.specs.declared.fixed.StrId.{StrId}
use Rattle.syntax_tree.specs.declared.bindings.Bindings.{Bindings}
use Rattle.value_model.specs.Values.{Number, Text}
use Rattle.source_meaning.specs.Expressions.{text_of}
use Rattle.op_words.specs.declared.chunk.Const.{Const}
use Rattle.op_words.specs.declared.chunk.Const.TheVariants as constant
use Rattle.op_words.specs.contracts.chunk.ConstPartialEq.TheImpl.{ghosts}
use Rattle.op_words.specs.Chunks.{ProtoOf}
use Rattle.machine_meaning.specs.Constants.{known, name_at, text_in, value_of}
use Rattle.emit_expr.specs.declared.draft.Emitter.{Emitter}
use Rattle.emit_expr.specs.Puts.{place_of, place_of_text, added, short, long, constant_place, with_constant, text_constant, with_string, text_place, with_text}
use Rattle.emit_laws.specs.Growing.{Prefix}
use Rattle.emit_laws.proofs.Grows as grows
use Rattle.code_simulation.specs.Relation.{Setting}
use Rattle.code_simulation.proofs.Along.{Here}
use Rattle.compiled_runs.proofs.Places.{Inside, before}
use Rattle.compiled_runs.proofs.Scopes.{some_none}
use Rattle.compiled_runs.proofs.Standing.{Script, Running}

-- ---- lists

pub get_front : {A : Type 0} (xs more : List A) (i : ℕ) (x : A) → slice_get xs i ≡ Some x → slice_get (xs ++ more) i ≡ Some x
get_front [] more i x e = some_none e
get_front (y ∷ xs) more zero x e = e
get_front (y ∷ xs) more (suc i) x e = get_front xs more i x e

pub get_last : {A : Type 0} (xs more : List A) (x : A) → slice_get (xs ++ x ∷ more) (length xs) ≡ Some x
get_last [] more x = refl
get_last (y ∷ xs) more x = get_last xs more x

pub get_within : {A : Type 0} (xs : List A) (i : ℕ) (x : A) → slice_get xs i ≡ Some x → i < length xs
get_within [] i x e = some_none e
get_within (y ∷ xs) zero x e = omega arith
get_within (y ∷ xs) (suc i) x e = let h = get_within xs i x e in omega (arith, h)

pub get_prefix : {A : Type 0} (xs ys : List A) (i : ℕ) (x : A) → Prefix xs ys → slice_get xs i ≡ Some x → slice_get ys i ≡ Some x
get_prefix xs ys i x p e = ap (λ l. slice_get l i) p.is ∙ get_front xs p.more i x e

-- ---- what is found first, or added

int_same : (a b : ℤ) → int_eq a b ≡ true → a ≡ b
int_same a b e = grind (arith, ints, nat_tests)

pub same_constant : (x k : Const) → ghosts.eq x k ≡ true → x ≡ k
same_constant constant.Nil constant.Nil e = refl
same_constant constant.False constant.False e = refl
same_constant constant.True constant.True e = refl
same_constant (constant.Num a) (constant.Num b) e = ap (λ (n : ℤ). constant.Num n) (int_same a b e)
same_constant (constant.Str a) (constant.Str b) e = ap (λ (n : ℕ). constant.Str n) (eqb-true a b e)
same_constant (constant.Import a) (constant.Import b) e = ap (λ (n : ℕ). constant.Import n) (eqb-true a b e)
same_constant x k e = cc

next_place : {A : Type 0} (x k : A) (xs : List A) (n : ℕ) → (n ≡ length xs) ⊎ (slice_get xs n ≡ Some k)
    → (1 + n ≡ length (x ∷ xs)) ⊎ (slice_get (x ∷ xs) (1 + n) ≡ Some k)
next_place x k xs n h =
    let one : suc n ≡ 1 + n = omega arith in
    ⊎_elim (λ e. inl (omega (arith, e))) (λ e. inr (subst (λ m. slice_get (x ∷ xs) m ≡ Some k) one e)) h

found_first : (k : Const) (xs : List Const) → (place_of k xs ≡ length xs) ⊎ (slice_get xs (place_of k xs) ≡ Some k)
found_first k [] = inl refl
found_first k (x ∷ xs) = by (ghosts.eq x k) refl (found_first k xs)
  where
    by : (t : Bool) → ghosts.eq x k ≡ t → (place_of k xs ≡ length xs) ⊎ (slice_get xs (place_of k xs) ≡ Some k)
        → ((if t then 0 else 1 + place_of k xs) ≡ length (x ∷ xs)) ⊎ (slice_get (x ∷ xs) (if t then 0 else 1 + place_of k xs) ≡ Some k)
    by true e h = inr (ap Some (same_constant x k e))
    by false e h = next_place x k xs (place_of k xs) h

found_text : (k : StrId) (xs : List StrId) → (place_of_text k xs ≡ length xs) ⊎ (slice_get xs (place_of_text k xs) ≡ Some k)
found_text k [] = inl refl
found_text k (x ∷ xs) = by (nat_eq x.0 k.0) refl (found_text k xs)
  where
    by : (t : Bool) → nat_eq x.0 k.0 ≡ t → (place_of_text k xs ≡ length xs) ⊎ (slice_get xs (place_of_text k xs) ≡ Some k)
        → ((if t then 0 else 1 + place_of_text k xs) ≡ length (x ∷ xs)) ⊎ (slice_get (x ∷ xs) (if t then 0 else 1 + place_of_text k xs) ≡ Some k)
    by true e h = inr (ap (λ (n : ℕ). Some (record { 0 = n })) (eqb-true x.0 k.0 e))
    by false e h = next_place x k xs (place_of_text k xs) h

is_added : {A : Type 0} (k : A) (n : ℕ) (xs : List A) → (n ≡ length xs) ⊎ (slice_get xs n ≡ Some k) → slice_get (added k n xs) n ≡ Some k
is_added k n xs h =
    ⊎_elim
    (λ e. ap (λ t. slice_get (if t then xs ++ k ∷ [] else xs) n) (eq-eqb n (length xs) e) ∙ ap (slice_get (xs ++ k ∷ [])) e ∙ get_last xs [] k)
    (λ e. get_prefix xs (added k n xs) n k (grows.added k n xs) e) h

-- ---- in the function that runs

module _ (p : Setting) (most : ℕ) (b : Bindings) (whole : Emitter) (script : Script p b whole) (h : Here p most)
    (r : Running p most b whole script h) where
  constants_with : (k : Const) (d : Emitter) → (with_constant k d).draft.constants ≡ added k (constant_place k d) d.draft.constants
  unfolding with_constant
  constants_with k d = refl

  constant_there : (k : Const) (d : Emitter) → Inside r.final whole (with_constant k d) → slice_get r.final.constants (constant_place k d) ≡ Some k
  constant_there k d i =
      get_prefix (with_constant k d).draft.constants r.final.constants (constant_place k d) k i.constants
      (ap (λ l. slice_get l (constant_place k d)) (constants_with k d)
      ∙ is_added k (constant_place k d) d.draft.constants (found_first k d.draft.constants))

  pub constant_near : (k : Const) (d : Emitter) → Inside r.final whole (with_constant k d) → constant_place k d ≤ 32767
  constant_near k d i =
      let lt = get_within r.final.constants (constant_place k d) k (constant_there k d i) in omega (arith, lt, r.few_constants)

  pub constant_known : (k : Const) (d : Emitter) → Inside r.final whole (with_constant k d)
      → known p.chunk h.number (pos (constant_place k d)) ≡ value_of p.chunk k
  constant_known k d i =
      ap (λ o. option_and_then (value_of p.chunk) (option_and_then (λ (f : ProtoOf). slice_get f.consts (constant_place k d)) o)) h.found
      ∙ ap (λ l. option_and_then (value_of p.chunk) (slice_get l (constant_place k d))) r.constants
      ∙ ap (λ o. option_and_then (value_of p.chunk) o) (constant_there k d i)

  pub short_is : (k : Const) (d : Emitter) → Inside r.final whole (with_constant k d) → short (constant_place k d) ≡ pos (constant_place k d)
  short_is k d i = let le = constant_near k d i in let e : min (constant_place k d) 32767 ≡ constant_place k d = omega (arith, le) in ap pos e

  -- a number, from a place as an instruction writes it
  pub number_known : (n : ℤ) (d : Emitter) → Inside r.final whole (with_constant (constant.Num n) d)
      → known p.chunk h.number (short (constant_place (constant.Num n) d)) ≡ Some (Number n)
  number_known n d i = ap (known p.chunk h.number) (short_is (constant.Num n) d i) ∙ constant_known (constant.Num n) d i

  strings_with : (t : StrId) (d : Emitter) → (with_string t d).strings ≡ added t (place_of_text t d.strings) d.strings
  unfolding with_string
  strings_with t d = refl

  same_constants : (t : StrId) (d : Emitter) → (with_string t d).draft ≡ d.draft
  unfolding with_string
  same_constants t d = refl

  string_there : (t : StrId) (d : Emitter) → Inside r.final whole (with_string t d) → slice_get whole.strings (place_of_text t d.strings) ≡ Some t
  string_there t d i =
      get_prefix (with_string t d).strings whole.strings (place_of_text t d.strings) t i.strings
      (ap (λ l. slice_get l (place_of_text t d.strings)) (strings_with t d)
      ∙ is_added t (place_of_text t d.strings) d.strings (found_text t d.strings))

  text_value : (t : StrId) (d : Emitter) → Inside r.final whole (with_string t d)
      → value_of p.chunk (text_constant t d) ≡ Some (Text (text_of p.texts t))
  text_value t d i =
      let there = string_there t d i in
      let lt = get_within whole.strings (place_of_text t d.strings) t there in
      let few = script.few_strings in
      let near : long (place_of_text t d.strings) ≡ place_of_text t d.strings = omega (arith, lt, few) in
      ap (λ n. option_map (λ bs. Text bs) (slice_get p.chunk.strings n)) near
      ∙ ap (option_map (λ bs. Text bs)) (script.strings (place_of_text t d.strings) t there)

  inside_string : (t : StrId) (d : Emitter) → Inside r.final whole (with_text t d) → Inside r.final whole (with_string t d)
  inside_string t d i =
      before r.final whole (with_string t d) (with_text t d)
      (grows.constant_in (text_constant t d) (with_string t d) (with_string t d) (grows.none (with_string t d))) i

  same_text_place : (t : StrId) (d : Emitter) → constant_place (text_constant t d) (with_string t d) ≡ text_place t d
  same_text_place t d = ap (λ f. place_of (text_constant t d) f.constants) (same_constants t d)

  -- a text, from the place of its constant
  text_known_at : (t : StrId) (d : Emitter) → Inside r.final whole (with_text t d)
      → known p.chunk h.number (pos (text_place t d)) ≡ Some (Text (text_of p.texts t))
  text_known_at t d i =
      ap (λ n. known p.chunk h.number (pos n)) (sym (same_text_place t d))
      ∙ constant_known (text_constant t d) (with_string t d) i ∙ text_value t d (inside_string t d i)

  text_near : (t : StrId) (d : Emitter) → Inside r.final whole (with_text t d) → text_place t d ≤ 32767
  text_near t d i = let le = constant_near (text_constant t d) (with_string t d) i in let e = same_text_place t d in omega (arith, le, e)

  pub text_known : (t : StrId) (d : Emitter) → Inside r.final whole (with_text t d)
      → known p.chunk h.number (short (text_place t d)) ≡ Some (Text (text_of p.texts t))
  text_known t d i =
      let le = text_near t d i in
      let e : min (text_place t d) 32767 ≡ text_place t d = omega (arith, le) in
      ap (λ n. known p.chunk h.number (pos n)) e ∙ text_known_at t d i

  pub name_known : (t : StrId) (d : Emitter) → Inside r.final whole (with_text t d)
      → name_at p.chunk h.number (long (text_place t d)) ≡ Some (text_of p.texts t)
  name_known t d i =
      let le = text_near t d i in
      let e : long (text_place t d) ≡ text_place t d = omega (arith, le) in
      ap (λ n. text_in (known p.chunk h.number (pos n))) e ∙ ap text_in (text_known_at t d i)
