-- The entries of locals that are declared together.
use Rattle.std.proofs.Common.{◌≡◌, ◌∙◌, ℕ, zero, suc, ◌+◌, false, List, [], ◌∷◌, ◌++◌, length, Some, refl, sym, ap, slice_get}
use Rattle.std.proofs.lemmas.Option.{slice_get_within}
use Rattle.byte_text.specs.declared.fixed.StrId.{StrId}
use Rattle.syntax_tree.specs.declared.bindings.LocalInfo.{LocalInfo}
use Rattle.scope_laws.specs.Declared.{HasEntry}
use Rattle.scope_laws.proofs.Effects.{infos}
use Rattle.scope_laws.proofs.Places.{none_some, same_some, get_behind, Front, front_get}

-- an entry of which nothing is said yet but where it is declared
abbrev pub unused : ℕ → StrId → LocalInfo
unused func name = record { name = name; func = func; captured = false; assigned = false }

entry_of : (func : ℕ) (xs : List StrId) (j : ℕ) (x : StrId) → slice_get xs j ≡ Some x → slice_get (infos func xs) j ≡ Some (unused func x)
entry_of func [] j x h = absurd (none_some h)
entry_of func (y ∷ xs) zero x h = ap (λ z. Some (unused func z)) (same_some h)
entry_of func (y ∷ xs) (suc j) x h = entry_of func xs j x h

-- where an entry stands, a name stands
pub record Named (func : ℕ) (xs : List StrId) (j : ℕ) (info : LocalInfo) : Type 0 where
  pub name : StrId
  pub at : slice_get xs j ≡ Some name
  pub is : info ≡ unused func name

named_more : (func : ℕ) (y : StrId) (xs : List StrId) (j : ℕ) (info : LocalInfo) → Named func xs j info → Named func (y ∷ xs) (suc j) info
named_more func y xs j info n = record { name = n.name; at = n.at; is = n.is }

pub entry_named : (func : ℕ) (xs : List StrId) (j : ℕ) (info : LocalInfo) → slice_get (infos func xs) j ≡ Some info → Named func xs j info
entry_named func [] j info h = absurd (none_some h)
entry_named func (y ∷ xs) zero info h = record { name = y; at = refl; is = sym (same_some h) }
entry_named func (y ∷ xs) (suc j) info h = named_more func y xs j info (entry_named func xs j info h)

-- names that were declared have entries in every later list
pub declared_entry : (old new final : List LocalInfo) (func : ℕ) (xs : List StrId) (j : ℕ) (x : StrId) → new ≡ old ++ infos func xs →
    Front new final → slice_get xs j ≡ Some x → HasEntry final (length old + j) x func
declared_entry old new final func xs j x is front at =
    let there : slice_get new (length old + j) ≡ Some (unused func x) = ap (λ l. slice_get l (length old + j)) is
    ∙ get_behind old (infos func xs) j ∙ entry_of func xs j x at in
    record {
      info = unused func x;
      at = front_get (length old + j) front (slice_get_within new (length old + j) (unused func x) there) ∙ there;
      is_name = refl;
      is_func = refl;
    }
