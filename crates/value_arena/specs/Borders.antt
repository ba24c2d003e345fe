-- Where the border of a table lies.
use Rattle.std.specs.Prelude.{◌≡◌, ℕ, suc, ◌<◌, pos, true, false}
use Rattle.value_model.specs.declared.value.Value.{Value}
use Rattle.value_arena.specs.Tables.{Entries, same, is_nil, number, value_in}

-- the value behind so many: that under the next whole number
abbrev pub item_behind : Entries → ℕ → Value
item_behind es n = value_in es (number (pos (suc n)))

-- each whole number from one to this one has a value
abbrev pub IsFilled : Entries → ℕ → Type 0
IsFilled es n = (k : ℕ) → k < n → is_nil (item_behind es k) ≡ false

-- it is the border, but for what was written under the key
pub record IsBorderBut (es : Entries) (key : Value) (n : ℕ) : Type 0 where
  pub below : (k : ℕ) → k < n → same (number (pos (suc k))) key ≡ false → is_nil (item_behind es k) ≡ false
  pub behind : same (number (pos (suc n))) key ≡ false → is_nil (item_behind es n) ≡ true
