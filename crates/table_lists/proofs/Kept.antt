-- What is done to a table that a script may use is done to the table that it means.
use Rattle.std.proofs.Common.{◌≡◌, ℕ, zero, suc, ℤ, pos, ◌+ℤ◌, List, [], ◌∷◌, map, take, refl, ◌∙◌, ap}
use Rattle.std.specs.List.{AllByRecursion}
use Rattle.std.proofs.Math.ListN.{replicate}
use Rattle.byte_text.specs.Texts.{AreDistinct}
use Rattle.value_model.specs.Parts.{meant}
use Rattle.value_model.specs.TableRows as rows
use Rattle.value_model.specs.Tables as model
use Rattle.value_model.specs.Values as m
use Rattle.value_model.specs.Values.{Bytes}
use Rattle.value_model.specs.declared.ids.Owner.{Owner}
use Rattle.value_model.specs.declared.value.Value.{Value}
use Rattle.value_model.specs.declared.value.Value.TheVariants as value
use Rattle.value_arena.specs.Tables.{Entries, TableView}
use Rattle.luau_tables.specs.Part.{pair_of, table_of, OfPairs, OfTable, IsOfScript}
use Rattle.luau_tables.specs.Rules as rule
use Rattle.luau_tables.proofs.TablesKept.{get_holds, put_holds, get_kept, put_kept, border_kept}
use Rattle.table_lists.specs.Lists.{item, items, put_all, cleared}

-- ---- what is read and written holds

module _ (P : Value → Type 0) (nil : P value.Nil) (number : (z : ℤ) → P (value.Num z)) where
  pub item_holds : (t : TableView) (k : ℤ) → OfTable P t → P (item t k)
  item_holds t k h = get_holds P t (value.Num k) h nil

  pub items_hold : (t : TableView) (k : ℤ) (n : ℕ) → OfTable P t → AllByRecursion P (items t k n)
  items_hold t k zero h = tt
  items_hold t k (suc n) h = (item_holds t k h, items_hold t (k +ℤ pos 1) n h)

  pub put_all_holds : (t : TableView) (k : ℤ) (vs : List Value) → OfTable P t → AllByRecursion P vs → OfTable P (put_all t k vs)
  unfolding put_all rule.put
  put_all_holds t k [] h l = h
  put_all_holds t k (v ∷ vs) h l = put_all_holds (rule.put t (value.Num k) v) (k +ℤ pos 1) vs (put_holds P t (value.Num k) v h (number k) l.0) l.1

  pub take_holds : (n : ℕ) (vs : List Value) → AllByRecursion P vs → AllByRecursion P (take n vs)
  take_holds zero vs h = tt
  take_holds (suc n) [] h = tt
  take_holds (suc n) (v ∷ vs) h = (h.0, take_holds n vs h.1)

  pub replicate_holds : (n : ℕ) (v : Value) → P v → AllByRecursion P (replicate n v)
  replicate_holds zero v h = tt
  replicate_holds (suc n) v h = (h, replicate_holds n v h)

  cleared_pairs : (es : Entries) → OfPairs P es → OfPairs P (map (λ e. (e.0, value.Nil)) es)
  cleared_pairs [] h = tt
  cleared_pairs (e ∷ es) h = (h.0, nil, cleared_pairs es h.2)

  pub cleared_holds : (t : TableView) → OfTable P t → OfTable P (cleared t)
  cleared_holds t h = record { entries = cleared_pairs t.entries h.entries; meta = h.meta }

-- the mark of a table stays, and whether it is frozen
pub put_all_mark : (t : TableView) (k : ℤ) (vs : List Value) → (put_all t k vs).is_marked ≡ t.is_marked
unfolding put_all
put_all_mark t k vs = refl

-- ---- the table that is meant

module _ (texts : List Bytes) (w : Owner) (d : AreDistinct texts) where
  pub item_kept : (t : TableView) (k : ℤ) → OfTable (IsOfScript texts w) t → model.item (table_of texts t) k ≡ meant texts (item t k)
  unfolding meant
  item_kept t k h = get_kept texts w d t (value.Num k) h tt

  pub items_kept : (t : TableView) (k : ℤ) (n : ℕ) → OfTable (IsOfScript texts w) t → rows.items (table_of texts t) k n ≡ map (meant texts) (items t k n)
  items_kept t k zero h = refl
  items_kept t k (suc n) h =
      ap (λ v. v ∷ rows.items (table_of texts t) (k +ℤ pos 1) n) (item_kept t k h)
      ∙ ap (λ vs. meant texts (item t k) ∷ vs) (items_kept t (k +ℤ pos 1) n h)

  put_number_kept : (t : TableView) (k : ℤ) (v : Value) → OfTable (IsOfScript texts w) t → model.put (table_of texts t) (m.Number k) (meant texts v) ≡ table_of texts (rule.put t (value.Num k) v)
  unfolding meant
  put_number_kept t k v h = put_kept texts w d t (value.Num k) v h tt

  pub put_all_kept : (t : TableView) (k : ℤ) (vs : List Value) → OfTable (IsOfScript texts w) t → AllByRecursion (IsOfScript texts w) vs → model.put_all (table_of texts t) k (map (meant texts) vs) ≡ table_of texts (put_all t k vs)
  unfolding put_all rule.put model.put
  put_all_kept t k [] h l = refl
  put_all_kept t k (v ∷ vs) h l =
      ap (λ t. model.put_all t (k +ℤ pos 1) (map (meant texts) vs)) (put_number_kept t k v h)
      ∙ put_all_kept (rule.put t (value.Num k) v) (k +ℤ pos 1) vs (put_holds (IsOfScript texts w) t (value.Num k) v h tt l.0) l.1

  pub end_kept : (t : TableView) → OfTable (IsOfScript texts w) t → rows.end_of (table_of texts t) ≡ pos (rule.border t)
  end_kept t h = ap pos (border_kept texts w d t h)

pub cleared_kept : (texts : List Bytes) (t : TableView) → rows.cleared (table_of texts t) ≡ table_of texts (cleared t)
unfolding meant
cleared_kept texts t = ap (λ es. record (table_of texts t) { entries = es }) (by t.entries)
  where
    by : (es : Entries) → map (λ e. (e.0, m.Nil)) (map (pair_of texts) es) ≡ map (pair_of texts) (map (λ e. (e.0, value.Nil)) es)
    by [] = refl
    by (e ∷ es) = ap (λ es. (meant texts e.0, m.Nil) ∷ es) (by es)
