-- The texts that an interner holds, by number.
use Rattle.std.specs.Prelude.{◌≡◌, ℕ, List, [], ◌∷◌, ◌++◌, map, Some, slice_get, codes, if◌then◌else◌}
use Rattle.std.specs.List.{list_any}
use Rattle.std.specs.Str.{bytes_eq}
use Rattle.std.specs.declared.alloc.Global.{Global}
use Rattle.std.specs.declared.vec.Vec.{Vec}

-- the texts that every interner holds first, in this order
abbrev pub fixed_texts : List (List ℕ)
fixed_texts =
    codes "typeof" ∷ codes "self" ∷ codes "continue" ∷ codes "type" ∷ codes "export" ∷ codes "getfenv" ∷ codes "setfenv" ∷ codes "require" ∷ codes "print" ∷ []

-- the texts after one was noted: as they were where it is among them, and else with it at the end
abbrev pub noted : List (List ℕ) → List ℕ → List (List ℕ)
noted texts t = if list_any (bytes_eq t) texts then texts else texts ++ t ∷ []

-- no text has two numbers
pub record AreDistinct (texts : List (List ℕ)) : Type 0 where
  pub same : (i j : ℕ) (t : List ℕ) → slice_get texts i ≡ Some t → slice_get texts j ≡ Some t → i ≡ j

-- each fixed text has its number
pub record HoldsFixed (texts : List (List ℕ)) : Type 0 where
  pub at : (i : ℕ) (t : List ℕ) → slice_get fixed_texts i ≡ Some t → slice_get texts i ≡ Some t

-- the fixed texts, and then those of the vectors that an interner stores
abbrev pub with_stored : List (Vec ℕ Global) → List (List ℕ)
with_stored stored = fixed_texts ++ map (λ v. v.items) stored
