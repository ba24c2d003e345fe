-- Tables as lists of pairs: what is read, written and walked. The values may be those that a program keeps, with numbers for texts
-- and for objects, or those that the meanings know. The rules are the same for both: they ask only whether two values are one,
-- which value is nil, and which stands for a whole number.
use Rattle.std.specs.Prelude.{ℕ, zero, suc, ℤ, pos, ◌+ℤ◌, Bool, cond, List, [], ◌∷◌, length, Option, Some, None}

module _ {V : Type 0} (same : V → V → Bool) (is_nil : V → Bool) (nil : V) where
  -- the value of the pair with that key, else nil
  abbrev pub value_under : List (V × V) → V → V
  value_under [] key = nil
  value_under (e ∷ es) key = cond (same key e.0) e.1 (value_under es key)

  -- The pairs after a write: a value is replaced in its place, and a new key comes at the end. Nil under a key that is not there
  -- appends nothing.
  abbrev pub written : List (V × V) → V → V → List (V × V)
  written [] key v = cond (is_nil v) [] ((key, v) ∷ [])
  written (e ∷ es) key v = cond (same key e.0) ((e.0, v) ∷ es) (e ∷ written es key v)

  -- the first pair whose value is not nil
  abbrev pub first_entry : List (V × V) → Option (V × V)
  first_entry [] = None
  first_entry (e ∷ es) = cond (is_nil e.1) (first_entry es) (Some e)

  -- the first pair behind the key whose value is not nil, where there is one; a key that was never inserted has no answer
  abbrev pub entry_after : List (V × V) → V → Option (Option (V × V))
  entry_after [] key = None
  entry_after (e ∷ es) key = cond (same key e.0) (Some (first_entry es)) (entry_after es key)

  -- the same, and from the front for nil
  abbrev pub next_entry : List (V × V) → V → Option (Option (V × V))
  next_entry es key = cond (is_nil key) (Some (first_entry es)) (entry_after es key)

module _ {V : Type 0} (same : V → V → Bool) (is_nil : V → Bool) (nil : V) (number : ℤ → V) where
  -- the value under a whole number
  abbrev pub item : List (V × V) → ℤ → V
  item es k = value_under same is_nil nil es (number k)

  -- values written under the numbers from one on
  abbrev pub all_written : List (V × V) → (from : ℤ) → List V → List (V × V)
  all_written es k [] = es
  all_written es k (v ∷ vs) = all_written (written same is_nil nil es (number k) v) (k +ℤ pos 1) vs

  -- the least number from this one on behind which there is nil, sought among so many
  abbrev pub border_from : (more : ℕ) → List (V × V) → ℕ → ℕ
  border_from zero es k = k
  border_from (suc more) es k = cond (is_nil (item es (pos (suc k)))) k (border_from more es (suc k))

  -- The least number from 0 on behind which there is nil. It is at most the number of pairs.
  abbrev pub border : List (V × V) → ℕ
  border es = border_from (length es) es 0
