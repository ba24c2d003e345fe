-- What an argument is found to be: a table, a number or a text.
use Rattle.std.proofs.Common.{◌≡◌, ℕ, List, [], slice_get, Some, None, Result, Ok, Err, refl, sym, ◌∙◌, ap, subst, ℤ}
use Rattle.std.proofs.lemmas.Option.{get_or_from_slice_get}
use Rattle.std.specs.Fmt.{signed_decimal}
use Rattle.byte_text.specs.declared.fixed.StrId.{StrId}
use Rattle.value_model.specs.Arguments as row
use Rattle.value_model.specs.Metamethods.{as_number}
use Rattle.value_model.specs.Parts.{meant, bytes_at, table_ref}
use Rattle.value_model.specs.Values as m
use Rattle.value_model.specs.Values.{Bytes}
use Rattle.value_model.specs.declared.builtin.Builtin.{Builtin}
use Rattle.value_model.specs.declared.error.Wanted.TheVariants.{OfKind}
use Rattle.value_model.specs.declared.ids.TableId.{TableId}
use Rattle.value_model.specs.declared.kind.Kind.TheVariants as kind
use Rattle.value_model.specs.declared.value.Value.{Value}
use Rattle.value_model.specs.declared.value.Value.TheVariants as value
use Rattle.whole_num.specs.NumberTexts.{read_number, number_of}
use Rattle.whole_num.specs.declared.literal.Read.{Read}
use Rattle.lib_arguments.specs.Checks.{Checks, Fails}
use Rattle.lib_arguments.specs.declared.ending.Ending.{Ending}

-- ---- tables

pub table_found : (texts : List Bytes) (f : Builtin) (i : ℕ) (v : Value) (t : TableId) → v ≡ value.Table t → Checks {A = TableId} texts table_ref (row.table_from f i (meant texts v)) (Ok t)
unfolding meant
table_found texts f i v t h = subst (λ v. Checks {A = TableId} texts table_ref (row.table_from f i (meant texts v)) (Ok t)) (sym h) (λ go. refl)

pub no_table : (texts : List Bytes) (f : Builtin) (i : ℕ) (v : Value) (e : Ending) → ((t : TableId) → v ≡ value.Table t → ⊥) → Fails texts (row.invalid f i (OfKind kind.Table) (meant texts v)) e → Checks {A = TableId} texts table_ref (row.table_from f i (meant texts v)) (Err e)
unfolding meant
no_table texts f i (value.Table t) e other h = absurd (other t refl)
no_table texts f i v e other h = λ go. h

-- ---- numbers

pub number_kept : (texts : List Bytes) (v : Value) (z : ℤ) → v ≡ value.Num z → Some (Ok z) ≡ as_number (meant texts v)
unfolding meant as_number
number_kept texts v z h = subst (λ v. Some (Ok z) ≡ as_number (meant texts v)) (sym h) refl

pub text_read : (texts : List Bytes) (v : Value) (x : StrId) (bs : Bytes) (r : Read) → v ≡ value.Str x → slice_get texts x.0 ≡ Some bs → number_of r ≡ read_number bs → number_of r ≡ as_number (meant texts v)
unfolding meant as_number
text_read texts v x bs r h at k =
    subst (λ v. number_of r ≡ as_number (meant texts v)) (sym h) (k ∙ ap read_number (sym (get_or_from_slice_get texts x.0 bs [] at)))

pub no_number : (texts : List Bytes) (v : Value) → ((z : ℤ) → v ≡ value.Num z → ⊥) → ((x : StrId) → v ≡ value.Str x → ⊥) → None ≡ as_number (meant texts v)
unfolding meant as_number
no_number texts (value.Num z) n s = absurd (n z refl)
no_number texts (value.Str x) n s = absurd (s x refl)
no_number texts v n s = refl

pub number_ends : (texts : List Bytes) (f : Builtin) (i : ℕ) (v : m.Value) (e : Ending) → None ≡ as_number v → Fails texts (row.invalid f i (OfKind kind.Number) v) e → Checks {A = ℤ} texts (λ z. z) (row.number_from f i v) (Err e)
number_ends texts f i v e h k go = subst (λ o. Fails texts (row.number_read f i v o go) e) h k

pub number_default : (texts : List Bytes) (f : Builtin) (i : ℕ) (given : m.Value) (z : ℤ) → meant texts value.Nil ≡ given → Checks texts (λ z. z) (row.number_unless_nil f i given z) (Ok z)
unfolding meant
number_default texts f i given z h = subst (λ v. Checks texts (λ z. z) (row.number_unless_nil f i v z) (Ok z)) h (λ go. refl)

pub number_given : (texts : List Bytes) (f : Builtin) (i : ℕ) (v : Value) (given : m.Value) (z : ℤ) (r : Result ℤ Ending) → meant texts v ≡ given → (v ≡ value.Nil → ⊥) → Checks texts (λ z. z) (row.number_from f i (meant texts v)) r → Checks texts (λ z. z) (row.number_unless_nil f i given z) r
unfolding meant
number_given texts f i v given z r h other k = subst (λ m. Checks texts (λ z. z) (row.number_unless_nil f i m z) r) h (by v other k)
  where
    by : (v : Value) → (v ≡ value.Nil → ⊥) → Checks texts (λ z. z) (row.number_from f i (meant texts v)) r → Checks texts (λ z. z) (row.number_unless_nil f i (meant texts v) z) r
    by value.Nil other k = absurd (other refl)
    by v other k = k

-- ---- texts

pub text_found : (texts : List Bytes) (f : Builtin) (i : ℕ) (v : Value) (x : StrId) → v ≡ value.Str x → Checks {A = StrId} texts (λ x. bytes_at texts x.0) (row.text_from f i (meant texts v)) (Ok x)
unfolding meant
text_found texts f i v x h = subst (λ v. Checks {A = StrId} texts (λ x. bytes_at texts x.0) (row.text_from f i (meant texts v)) (Ok x)) (sym h) (λ go. refl)

pub digits_found : (texts more : List Bytes) (f : Builtin) (i : ℕ) (v : Value) (z : ℤ) (x : StrId) → v ≡ value.Num z → slice_get more x.0 ≡ Some (signed_decimal z) → Checks {A = StrId} more (λ x. bytes_at more x.0) (row.text_from f i (meant texts v)) (Ok x)
unfolding meant
digits_found texts more f i v z x h at =
    subst (λ v. Checks {A = StrId} more (λ x. bytes_at more x.0) (row.text_from f i (meant texts v)) (Ok x)) (sym h)
    (λ go. ap go (sym (get_or_from_slice_get more x.0 (signed_decimal z) [] at)))

pub no_text : (texts : List Bytes) (f : Builtin) (i : ℕ) (v : Value) (e : Ending) → ((x : StrId) → v ≡ value.Str x → ⊥) → ((z : ℤ) → v ≡ value.Num z → ⊥) → Fails texts (row.invalid f i (OfKind kind.String) (meant texts v)) e → Checks {A = StrId} texts (λ x. bytes_at texts x.0) (row.text_from f i (meant texts v)) (Err e)
unfolding meant
no_text texts f i (value.Num z) e s n h = absurd (n z refl)
no_text texts f i (value.Str x) e s n h = absurd (s x refl)
no_text texts f i v e s n h = λ go. h

pub text_default : (texts more : List Bytes) (f : Builtin) (i : ℕ) (given : m.Value) (bs : Bytes) (x : StrId) → meant texts value.Nil ≡ given → slice_get more x.0 ≡ Some bs → Checks {A = StrId} more (λ x. bytes_at more x.0) (row.text_unless_nil f i given bs) (Ok x)
unfolding meant
text_default texts more f i given bs x h at =
    subst (λ v. Checks {A = StrId} more (λ x. bytes_at more x.0) (row.text_unless_nil f i v bs) (Ok x)) h
    (λ go. ap go (sym (get_or_from_slice_get more x.0 bs [] at)))

pub text_given : (texts more : List Bytes) (f : Builtin) (i : ℕ) (v : Value) (given : m.Value) (bs : Bytes) (r : Result StrId Ending) → meant texts v ≡ given → (v ≡ value.Nil → ⊥) → Checks more (λ x. bytes_at more x.0) (row.text_from f i (meant texts v)) r → Checks more (λ x. bytes_at more x.0) (row.text_unless_nil f i given bs) r
unfolding meant
text_given texts more f i v given bs r h other k = subst (λ m. Checks more (λ x. bytes_at more x.0) (row.text_unless_nil f i m bs) r) h (by v other k)
  where
    by : (v : Value) → (v ≡ value.Nil → ⊥) → Checks more (λ x. bytes_at more x.0) (row.text_from f i (meant texts v)) r → Checks more (λ x. bytes_at more x.0) (row.text_unless_nil f i (meant texts v) bs) r
    by value.Nil other k = absurd (other refl)
    by v other k = k
