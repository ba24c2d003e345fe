-- Where the latest visible name of each name stands.
use Rattle.std.specs.Prelude.{◌≡◌, ℕ, zero, suc, ◌==◌, Bool, true, false, List, [], ◌∷◌, ◌++◌, map, slice_index, Option, Some, None}
use Rattle.syntax_tree.specs.declared.notes.Visible.{Visible}
use Rattle.scopes.specs.declared.scope.Entry.{Entry}

-- the place in a list with one more element before it, which has that name or not
abbrev pub one_later : ℕ → Bool → ℕ
one_later (suc place) same = suc (suc place)
one_later zero true = 1
one_later zero false = 0

-- one more than the place of the latest visible name that is this one, or 0
abbrev pub latest : ℕ → List Visible → ℕ
latest name [] = 0
latest name (v ∷ vs) = one_later (latest name vs) (v.name.0 == name)

-- the visible names of entries
abbrev pub visible_of : List Entry → List Visible
visible_of entries = map (λ (e : Entry). e.visible) entries

-- the local of an entry
abbrev pub local_in : Option Entry → Option ℕ
local_in None = None
local_in (Some e) = Some e.visible.local

-- each entry, after the visible names `seen`, says where the latest of its name stands before it
abbrev pub SayBefore : List Visible → List Entry → Type 0
SayBefore seen [] = Unit {0}
SayBefore seen (e ∷ es) = (e.before ≡ latest e.visible.name.0 seen) × SayBefore (seen ++ e.visible ∷ []) es

-- each head says where the latest entry of its name stands
pub record IsLinked (entries : List Entry) (heads : List ℕ) : Type 0 where
  pub before : SayBefore [] entries
  pub head : (name : ℕ) → slice_index heads name ≡ latest name (visible_of entries)
