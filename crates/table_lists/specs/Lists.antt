-- Tables as lists: the elements under numbers, on values as a program keeps them.
use Rattle.std.specs.List.{AllByRecursion, IsDistinct}
use Rattle.std.specs.Map.{keys_of}
use Rattle.std.specs.Prelude.{◌≡◌, ℕ, zero, suc, ℤ, pos, ◌+ℤ◌, false, not, List, [], ◌∷◌, map, filter, take, cond, Option, Some, None}
use Rattle.value_model.specs.Pairs as pairs
use Rattle.value_model.specs.declared.value.Value.{Value}
use Rattle.value_model.specs.declared.value.Value.TheVariants.{Nil, Num}
use Rattle.value_arena.specs.Tables.{Entries, TableView, same, is_nil, number}
use Rattle.luau_tables.specs.Rules as rule

-- ---- elements

-- the value under a number
abbrev pub item : TableView → ℤ → Value
item t k = rule.get t (Num k)

-- the values under so many numbers from one on
abbrev pub items : TableView → ℤ → (count : ℕ) → List Value
items t k zero = []
items t k (suc n) = item t k ∷ items t (k +ℤ pos 1) n

-- values under the numbers from one on
unfoldable pub put_all : TableView → (from : ℤ) → List Value → TableView
put_all t k vs = record t { entries = pairs.all_written same is_nil Nil number t.entries k vs }

-- a value put under a number, with so many elements from there on one place up
abbrev pub inserted : TableView → ℤ → (count : ℕ) → Value → TableView
inserted t k n v = rule.put (put_all t (k +ℤ pos 1) (items t k n)) (Num k) v

-- an element taken out, with so many behind it one place down
abbrev pub removed : TableView → ℤ → (count : ℕ) → TableView
removed t k n = rule.put (put_all t k (items t (k +ℤ pos 1) n)) (Num (k +ℤ pos n)) Nil

-- some first ones of the values are written
pub record Began (before after : TableView) (from : ℤ) (vs : List Value) : Type 0 where
  pub count : ℕ
  pub is : after ≡ put_all before from (take count vs)

-- ---- whole tables

abbrev pub cleared : TableView → TableView
cleared t = record t { entries = map (λ e. (e.0, Nil)) t.entries }

-- the entries that are not nil
abbrev pub filled : Entries → Entries
filled es = filter (λ e. not (is_nil e.1)) es

-- no key is nil or stands twice, and no value is nil
abbrev pub AreFilled : Entries → Type 0
AreFilled es = AllByRecursion (λ e. (is_nil e.0 ≡ false) × (is_nil e.1 ≡ false)) es × IsDistinct same (keys_of es)

-- the first ones of the entries are there
pub record BeganEntries (before after : TableView) (es : Entries) : Type 0 where
  pub count : ℕ
  pub is : after ≡ record before { entries = take count es }

-- ---- search

-- the first number from one on, among so many, under which the value stands, before the first nil
abbrev pub found : (most : ℕ) → TableView → Value → ℤ → Option ℤ
found zero t v k = None
found (suc most) t v k = cond (is_nil (item t k)) None (cond (same (item t k) v) (Some k) (found most t v (k +ℤ pos 1)))
