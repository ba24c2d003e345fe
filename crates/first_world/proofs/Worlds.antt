-- The first world, and a world with one table more.
use Rattle.std.proofs.Common.{◌≡◌, true, List, [], ◌∷◌, Result, Ok, Err, IfOk, OnOk, OnErr, refl, sym, ◌∙◌, ap, subst}
use Rattle.value_model.specs.declared.ids.Owner.TheVariants as owner
use Rattle.value_model.specs.declared.ids.ShortOwner.TheVariants.{Frozen}
use Rattle.value_model.specs.declared.ids.TableId.{TableId}
use Rattle.value_model.specs.declared.value.Value.TheVariants.{Table}
use Rattle.value_arena.specs.Arenas.{ArenaView, HasTable, new_table, next_table, no_arena, table_at, with_table}
use Rattle.luau_tables.specs.Laws as law
use Rattle.luau_tables.specs.Worlds.{IsWorld, Keeps, MayUseIn}
use Rattle.luau_tables.specs.declared.globals.LibWorld.{LibWorld}
use Rattle.luau_tables.proofs.NewTables.{new_table_own, new_table_changes, new_table_usable}
use Rattle.lib_arguments.proofs.ArenaKept.{with_arena, arena_kept}
use Rattle.lib_arguments.proofs.NamesKept.{keeps_self}

-- ---- the first arena

abbrev frozen : ArenaView → TableId → ArenaView
frozen a t = with_table a t (record (table_at a t) { is_frozen = true })

abbrev one_made : ArenaView
one_made = frozen (new_table no_arena owner.Frozen) (next_table no_arena owner.Frozen)

pub record IsFirst (a : ArenaView) (t s : TableId) : Type 0 where
  pub arena : a ≡ law.first_arena
  pub table : t ≡ record { owner = Frozen; place = 0 }
  pub string_meta : s ≡ record { owner = Frozen; place = 1 }

first_made : IsFirst (frozen (new_table one_made owner.Frozen) (next_table one_made owner.Frozen)) (next_table no_arena owner.Frozen) (next_table one_made owner.Frozen)
unfolding table_at with_table new_table next_table
first_made = record { arena = refl; table = refl; string_meta = refl }

pub is_first : (a b c d : ArenaView) (t s : TableId) → a ≡ new_table no_arena owner.Frozen → t ≡ next_table no_arena owner.Frozen → b ≡ frozen a t → c ≡ new_table b owner.Frozen → s ≡ next_table b owner.Frozen → d ≡ frozen c s → IsFirst d t s
is_first a b c d t s ea et eb ec es ed =
    let b_is = eb ∙ ap (λ a. frozen a t) ea ∙ ap (λ t. frozen (new_table no_arena owner.Frozen) t) et in
    let c_is = ec ∙ ap (λ b. new_table b owner.Frozen) b_is in
    let s_is = es ∙ ap (λ b. next_table b owner.Frozen) b_is in
    let d_is = ed ∙ ap (λ c. frozen c s) c_is ∙ ap (λ s. frozen (new_table one_made owner.Frozen) s) s_is in
    record { arena = d_is ∙ first_made.arena; table = et ∙ first_made.table; string_meta = s_is ∙ first_made.string_meta }

-- ---- a table is added

pub table_keeps : {E : Type 0} (w : LibWorld) (a : ArenaView) (r : Result TableId E) → IsWorld w → OnOk r (a ≡ new_table w.arena w.owner) → OnErr r (a ≡ w.arena) → Keeps w (with_arena w a)
table_keeps w a (Ok t) world made err =
    subst (λ a. Keeps w (with_arena w a)) (sym made) (arena_kept w _ world (new_table_own w.names w.globals w.arena w.owner world.own) (new_table_changes w.arena w.owner))
table_keeps w a (Err e) world made err = subst (λ a. Keeps w (with_arena w a)) (sym err) (keeps_self w world)

pub table_usable : {E : Type 0} (w : LibWorld) (a : ArenaView) (r : Result TableId E) → IsWorld w → OnOk r (a ≡ new_table w.arena w.owner) → IfOk r (λ t. t ≡ next_table w.arena w.owner) → IfOk r (λ t. HasTable a t) → IfOk r (λ t. MayUseIn (with_arena w a) (Table t))
table_usable w a (Ok t) world made id there =
    subst (λ a. MayUseIn (with_arena w a) (Table t)) (sym made)
    (subst (λ t. MayUseIn (with_arena w (new_table w.arena w.owner)) (Table t)) (sym id)
    (new_table_usable w.names w.globals w.arena w.owner world.own (subst (λ t. HasTable (new_table w.arena w.owner) t) id (subst (λ a. HasTable a t) made there))))
table_usable w a (Err e) world made id there = tt
