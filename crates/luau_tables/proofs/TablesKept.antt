-- A table of values that a script may hold, and the table that it means, are read, written and walked alike.
use Rattle.std.proofs.Common.{◌≡◌, ℕ, zero, suc, pos, ℤ, Bool, true, false, cond, List, [], ◌∷◌, map, length, Some, refl, ◌∙◌, ap}
use Rattle.std.proofs.lemmas.List.{length-map}
use Rattle.std.specs.Prelude.{option_map}
use Rattle.byte_text.specs.Texts.{AreDistinct}
use Rattle.value_model.specs.Pairs as pairs
use Rattle.value_model.specs.Parts.{meant}
use Rattle.value_model.specs.Tables as model
use Rattle.value_model.specs.Values as m
use Rattle.value_model.specs.Values.{Bytes}
use Rattle.value_model.proofs.Carried as carried
use Rattle.value_model.specs.declared.ids.Owner.{Owner}
use Rattle.value_model.specs.declared.value.Value.{Value}
use Rattle.value_model.specs.declared.value.Value.TheVariants as value
use Rattle.value_arena.specs.Tables.{Entries, TableView, same, is_nil, number, value_in, border_of}
use Rattle.luau_tables.specs.Part.{pair_of, table_of, OfPairs, OfSome, OfTable, IsOfScript}
use Rattle.luau_tables.specs.Rules as rule
use Rattle.luau_tables.proofs.Sameness.{same_kept, nil_kept, nil_is}

fit : (P : Value → Type 0) (es : Entries) → OfPairs P es → carried.AllFit P es
fit P [] h = tt
fit P (e ∷ es) h = (h.0, h.1, fit P es h.2)

-- ---- what is read of what fits fits

pub under_holds : (P : Value → Type 0) (es : Entries) (key : Value) → OfPairs P es → P value.Nil → P (pairs.value_under same is_nil value.Nil es key)
under_holds P [] key h nil = nil
under_holds P (e ∷ es) key h nil = by (same key e.0) (pairs.value_under same is_nil value.Nil es key) h.1 (under_holds P es key h.2 nil)
  where
    by : (b : Bool) (v : Value) → P e.1 → P v → P (cond b e.1 v)
    by true v h k = h
    by false v h k = k

pub get_holds : (P : Value → Type 0) (t : TableView) (key : Value) → OfTable P t → P value.Nil → P (rule.get t key)
unfolding value_in
get_holds P t key h nil = under_holds P t.entries key h.entries nil

written_holds : (P : Value → Type 0) (es : Entries) (key v : Value) → OfPairs P es → P key → P v → OfPairs P (pairs.written same is_nil value.Nil es key v)
written_holds P [] key v h k f = by (is_nil v)
  where
    by : (b : Bool) → OfPairs P (cond b [] ((key, v) ∷ []))
    by true = tt
    by false = (k, f, tt)
written_holds P (e ∷ es) key v h k f = by (same key e.0) (written_holds P es key v h.2 k f)
  where
    by : (b : Bool) → OfPairs P (pairs.written same is_nil value.Nil es key v) → OfPairs P (cond b ((e.0, v) ∷ es) (e ∷ pairs.written same is_nil value.Nil es key v))
    by true rest = (h.0, f, h.2)
    by false rest = (h.0, h.1, rest)

pub put_holds : (P : Value → Type 0) (t : TableView) (key v : Value) → OfTable P t → P key → P v → OfTable P (rule.put t key v)
unfolding rule.put
put_holds P t key v h k f = record { entries = written_holds P t.entries key v h.entries k f; meta = h.meta }

first_holds : (P : Value → Type 0) (es : Entries) → OfPairs P es → OfSome (λ e. P e.0 × P e.1) (pairs.first_entry same is_nil value.Nil es)
first_holds P [] h = tt
first_holds P (e ∷ es) h = by (is_nil e.1) (first_holds P es h.2)
  where
    by : (b : Bool) → OfSome (λ e. P e.0 × P e.1) (pairs.first_entry same is_nil value.Nil es) → OfSome (λ e. P e.0 × P e.1) (cond b (pairs.first_entry same is_nil value.Nil es) (Some e))
    by true rest = rest
    by false rest = (h.0, h.1)

after_holds : (P : Value → Type 0) (es : Entries) (key : Value) → OfPairs P es → OfSome (OfSome (λ e. P e.0 × P e.1)) (pairs.entry_after same is_nil value.Nil es key)
after_holds P [] key h = tt
after_holds P (e ∷ es) key h = by (same key e.0) (after_holds P es key h.2)
  where
    by : (b : Bool) → OfSome (OfSome (λ e. P e.0 × P e.1)) (pairs.entry_after same is_nil value.Nil es key) → OfSome (OfSome (λ e. P e.0 × P e.1)) (cond b (Some (pairs.first_entry same is_nil value.Nil es)) (pairs.entry_after same is_nil value.Nil es key))
    by true rest = first_holds P es h.2
    by false rest = rest

-- the next entry's key and value
pub next_holds : (P : Value → Type 0) (t : TableView) (key : Value) → OfTable P t → OfSome (OfSome (λ e. P e.0 × P e.1)) (rule.next t key)
unfolding rule.next
next_holds P t key h = by (is_nil key)
  where
    by : (b : Bool) → OfSome (OfSome (λ e. P e.0 × P e.1)) (cond b (Some (pairs.first_entry same is_nil value.Nil t.entries)) (pairs.entry_after same is_nil value.Nil t.entries key))
    by true = first_holds P t.entries h.entries
    by false = after_holds P t.entries key h.entries

-- ---- the table that is meant

module _ (texts : List Bytes) (w : Owner) (d : AreDistinct texts) where
  pub get_kept : (t : TableView) (key : Value) → OfTable (IsOfScript texts w) t → IsOfScript texts w key → model.get (table_of texts t) (meant texts key) ≡ meant texts (rule.get t key)
  unfolding model.get value_in
  get_kept t key h k =
      carried.under_kept same is_nil value.Nil model.same model.is_nil m.Nil (meant texts) (IsOfScript texts w) (same_kept texts w d) (nil_kept texts) (nil_is texts) t.entries key (fit (IsOfScript texts w) t.entries h.entries) k

  pub put_kept : (t : TableView) (key v : Value) → OfTable (IsOfScript texts w) t → IsOfScript texts w key → model.put (table_of texts t) (meant texts key) (meant texts v) ≡ table_of texts (rule.put t key v)
  unfolding model.put rule.put
  put_kept t key v h k =
      ap (λ es. record (table_of texts t) { entries = es })
      (carried.written_kept same is_nil value.Nil model.same model.is_nil m.Nil (meant texts) (IsOfScript texts w) (same_kept texts w d) (nil_kept texts) (nil_is texts) t.entries key v (fit (IsOfScript texts w) t.entries h.entries) k)

  pub next_kept : (t : TableView) (key : Value) → OfTable (IsOfScript texts w) t → IsOfScript texts w key → model.next_entry (table_of texts t) (meant texts key) ≡ option_map (option_map (pair_of texts)) (rule.next t key)
  unfolding model.next_entry rule.next
  next_kept t key h k =
      carried.next_kept same is_nil value.Nil model.same model.is_nil m.Nil (meant texts) (IsOfScript texts w) (same_kept texts w d) (nil_kept texts) (nil_is texts) t.entries key (fit (IsOfScript texts w) t.entries h.entries) k

  item_kept : (t : TableView) (z : ℤ) → OfTable (IsOfScript texts w) t → pairs.item model.same model.is_nil m.Nil (λ z. m.Number z) (map (pair_of texts) t.entries) z ≡ meant texts (pairs.item same is_nil value.Nil number t.entries z)
  unfolding meant
  item_kept t z h =
      carried.under_kept same is_nil value.Nil model.same model.is_nil m.Nil (meant texts) (IsOfScript texts w) (same_kept texts w d) (nil_kept texts) (nil_is texts) t.entries (value.Num z) (fit (IsOfScript texts w) t.entries h.entries) tt

  border_from_kept : (more : ℕ) (t : TableView) (k : ℕ) → OfTable (IsOfScript texts w) t → pairs.border_from model.same model.is_nil m.Nil (λ z. m.Number z) more (map (pair_of texts) t.entries) k ≡ pairs.border_from same is_nil value.Nil number more t.entries k
  border_from_kept zero t k h = refl
  border_from_kept (suc more) t k h =
      ap (λ v. cond (model.is_nil v) k (pairs.border_from model.same model.is_nil m.Nil (λ z. m.Number z) more (map (pair_of texts) t.entries) (suc k))) (item_kept t (pos (suc k)) h)
      ∙ ap (λ b. cond b k (pairs.border_from model.same model.is_nil m.Nil (λ z. m.Number z) more (map (pair_of texts) t.entries) (suc k))) (nil_kept texts (pairs.item same is_nil value.Nil number t.entries (pos (suc k))))
      ∙ ap (λ n. cond (is_nil (pairs.item same is_nil value.Nil number t.entries (pos (suc k)))) k n) (border_from_kept more t (suc k) h)

  pub border_kept : (t : TableView) → OfTable (IsOfScript texts w) t → model.border (table_of texts t) ≡ rule.border t
  unfolding model.border border_of
  border_kept t h =
      ap (λ n. pairs.border_from model.same model.is_nil m.Nil (λ z. m.Number z) n (map (pair_of texts) t.entries) 0) (length-map t.entries (pair_of texts))
      ∙ border_from_kept (length t.entries) t 0 h
