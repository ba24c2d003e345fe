-- What an id names stands among the objects that are kept, and a change of it is a change of the arena.
use Rattle.std.proofs.Common.{◌≡◌, ℕ, ◌<◌, List, length, get_or, set, sym, ◌∙◌, ap, subst, Option, ◌-◌, replicate, arith, length-append}
use Rattle.std.proofs.lemmas.List.{get_or_read}
use Rattle.value_model.specs.declared.ids.Owner.{Owner}
use Rattle.value_model.specs.declared.ids.ThreadId.{ThreadId}
use Rattle.value_arena.specs.Objects.{ObjectsView, no_objects}
use Rattle.value_arena.specs.Arenas.{ArenaView, objects_of, with_objects, padded, slot, owner_count}
use Rattle.value_arena.proofs.Padding.{at_padded, is_there, set_padded}

-- the arena of these owners
abbrev pub arena_of : List ObjectsView → Option ThreadId → ArenaView
arena_of os r = record { owners = padded os; running = r }

-- an owner with an object is there, whatever its kind
pub owner_there : (size : ObjectsView → ℕ) → size no_objects ≡ 0 → (os : List ObjectsView) (r : Option ThreadId) (a : ArenaView) (w : Owner) (n : ℕ) → arena_of os r ≡ a → n < size (objects_of a w) → slot w < length os
owner_there size none os r a w n e h = is_there size none os (slot w) n (subst (λ b. n < size (objects_of b w)) (sym e) h)

-- room for more owners leaves the arena as it was
pub reached : (os os' : List ObjectsView) (r : Option ThreadId) (a : ArenaView) → padded os' ≡ padded os → arena_of os r ≡ a → arena_of os' r ≡ a
reached os os' r a same e = ap (λ os. record { owners = os; running = r }) same ∙ e

-- a slot that is there is one of the arena
pub has_slot : (os : List ObjectsView) (r : Option ThreadId) (a : ArenaView) (w : Owner) → arena_of os r ≡ a → slot w < length os → slot w < length a.owners
has_slot os r a w e h = subst (λ (a : ArenaView). slot w < length a.owners) e (omega (arith, h, length-append os (replicate (owner_count - length os) no_objects)))

-- what was read there are that owner's objects
pub objects_read : (os : List ObjectsView) (r : Option ThreadId) (a : ArenaView) (w : Owner) (k : ℕ) (o : ObjectsView) → arena_of os r ≡ a → k ≡ slot w → slot w < length os → o ≡ get_or os k o → o ≡ objects_of a w
objects_read os r a w k o e i h read =
    get_or_read os (slot w) o h (subst (λ k. o ≡ get_or os k o) i read) no_objects ∙ sym (at_padded os (slot w))
    ∙ ap (λ b. objects_of b w) e

-- a change of what was read there
pub changed : (os os' : List ObjectsView) (r : Option ThreadId) (a : ArenaView) (w : Owner) (k : ℕ) (o o' : ObjectsView) (f : ObjectsView → ObjectsView) → arena_of os r ≡ a → padded os' ≡ padded os → k ≡ slot w → slot w < length os' → o ≡ get_or os' k o → o' ≡ f o → arena_of (set os' k o') r ≡ with_objects a w (f (objects_of a w))
changed os os' r a w k o o' f e same i h read new =
    let there : arena_of os' r ≡ a = ap (λ os. record { owners = os; running = r }) same ∙ e in
    let was : o ≡ objects_of a w = objects_read os' r a w k o there i h read in
    ap (λ k. arena_of (set os' k o') r) i
    ∙ ap (λ os. record { owners = os; running = r }) (sym (set_padded os' (slot w) o' h))
    ∙ ap (λ b. with_objects b w o') there
    ∙ ap (λ o. with_objects a w o) (new ∙ ap f was)
