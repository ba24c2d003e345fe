-- The first arena that a script may run in: two empty tables that nobody owns and nobody can write.
use Rattle.std.proofs.Common.{◌≡◌, ℕ, zero, suc, ◌<◌, true, List, length, get_or, IfSome, refl, sym, ◌∙◌, ap, subst, arith}
use Rattle.value_model.specs.Owners.{wide}
use Rattle.value_model.specs.Values.{Bytes}
use Rattle.value_model.specs.declared.ids.Owner.{Owner}
use Rattle.value_model.specs.declared.ids.Owner.TheVariants as owner
use Rattle.value_model.specs.declared.ids.ShortOwner.TheVariants.{Frozen}
use Rattle.value_model.specs.declared.ids.TableId.{TableId}
use Rattle.value_model.specs.declared.value.Value.TheVariants.{Nil}
use Rattle.value_arena.specs.Tables.{TableView, no_table}
use Rattle.value_arena.specs.Objects.{ObjectsView, no_objects, no_coroutine}
use Rattle.value_arena.specs.Arenas.{HasTable, HasClosure, no_arena, objects_of, table_at, closure_at, cell_at, thread_at}
use Rattle.value_arena.specs.Owning.{MayHold, MayBeTable, MayBeThread, IsOwned}
use Rattle.value_arena.proofs.Keeping.{none_of}
use Rattle.value_arena.proofs.Laws.{objects_now, objects_other}
use Rattle.luau_tables.specs.Laws as law
use Rattle.luau_tables.specs.Own.{AreTexts, HasText, HasTextsInTable, HasTexts, HasGlobals, SharesTables, IsOwn}
use Rattle.luau_tables.specs.Part.{IsScript}
use Rattle.luau_tables.specs.declared.globals.Globals.{Globals}

objects_first : (w : Owner) → objects_of law.first_arena w ≡ law.first_objects w
objects_first owner.Frozen = objects_now no_arena owner.Frozen law.shared_objects (omega arith)
objects_first (owner.Script n) = objects_other no_arena owner.Frozen (owner.Script n) law.shared_objects (λ e. absurd (cc)) ∙ none_of (owner.Script n)

-- each owner has no objects but tables
bare : (P : ObjectsView → Type 0) → P law.shared_objects → P no_objects → (w : Owner) → P (objects_of law.first_arena w)
bare P h k w = subst P (sym (objects_first w)) (by w)
  where
    by : (w : Owner) → P (law.first_objects w)
    by owner.Frozen = h
    by (owner.Script n) = k

each_table : (P : TableView → Type 0) → P no_table → P law.empty_frozen → (t : TableId) → P (table_at law.first_arena t)
unfolding table_at
each_table P h k t = bare (λ o. P (get_or o.tables t.place no_table)) (two t.place) h (wide t.owner)
  where
    two : (i : ℕ) → P (get_or law.shared_objects.tables i no_table)
    two zero = k
    two (suc zero) = k
    two (suc (suc i)) = h

first_owned : IsOwned law.first_arena
unfolding closure_at cell_at thread_at HasClosure
first_owned =
    record {
      tables = λ t. each_table (λ x. MayBeTable law.first_arena (wide t.owner) x) (tt, tt) (tt, tt) t;
      closures = λ f h. absurd
          (omega (
            arith,
            bare (λ o. f.place < length o.closures → ⊥) (λ l. absurd (omega (arith, l))) (λ l. absurd (omega (arith, l)))
                (wide f.owner) h,
          ));
      cells = λ c. bare (λ o. MayHold law.first_arena (wide c.owner) (get_or o.cells c.place Nil)) tt tt (wide c.owner);
      threads = λ t. bare (λ o. MayBeThread law.first_arena (wide t.owner) (get_or o.threads t.place no_coroutine)) (tt, tt, tt) (tt, tt, tt)
          (wide t.owner);
    }

first_texts : (texts : List Bytes) → HasTexts texts law.first_arena
unfolding cell_at thread_at
first_texts texts =
    record {
      tables = each_table (λ x. HasTextsInTable texts x) tt tt;
      cells = λ c. bare (λ o. HasText texts (get_or o.cells c.place Nil)) tt tt (wide c.owner);
      bodies = λ t. bare (λ o. HasText texts (get_or o.threads t.place no_coroutine).body) tt tt (wide t.owner);
      failures = λ t. bare (λ o. IfSome (get_or o.threads t.place no_coroutine).failure (λ v. HasText texts v)) tt tt (wide t.owner);
    }

first_shared : SharesTables law.first_arena
unfolding table_at HasTable
first_shared =
    record {
      frozen = λ t e h. there t (ap wide e) h;
      closures = ap (λ o. o.closures) (objects_first owner.Frozen);
      threads = ap (λ o. o.threads) (objects_first owner.Frozen);
    }
  where
    two : (i : ℕ) → i < 2 → (get_or law.shared_objects.tables i no_table).is_frozen ≡ true
    two zero l = refl
    two (suc zero) l = refl
    two (suc (suc i)) l = absurd (omega (arith, l))

    there : (t : TableId) → wide t.owner ≡ owner.Frozen → t.place < length (objects_of law.first_arena (wide t.owner)).tables →
        (get_or (objects_of law.first_arena (wide t.owner)).tables t.place no_table).is_frozen ≡ true
    there t e h =
        let is = ap (λ w. (objects_of law.first_arena w).tables) e ∙ ap (λ o. o.tables) (objects_first owner.Frozen) in
        ap (λ ts. (get_or ts t.place no_table).is_frozen) is ∙ two t.place (subst (λ ts. t.place < length ts) is h)

-- the first two tables of nobody are there
has_first : (t : TableId) → t.owner ≡ Frozen → t.place < 2 → HasTable law.first_arena t
unfolding HasTable
has_first t e l = subst (λ ts. t.place < length ts)
    (sym (ap (λ s. (objects_of law.first_arena (wide s)).tables) e ∙ ap (λ o. o.tables) (objects_first owner.Frozen))) l

first_globals : (texts : List Bytes) (g : Globals) → law.StartsWith texts g → HasGlobals texts g law.first_arena
first_globals texts g h =
    record {
      table = has_first g.table (ap (λ (t : TableId). t.owner) h.table) (subst (λ (t : TableId). t.place < 2) (sym h.table) (omega arith));
      table_owner = ap (λ (t : TableId). t.owner) h.table;
      string_meta = has_first g.string_meta (ap (λ (t : TableId). t.owner) h.string_meta)
          (subst (λ (t : TableId). t.place < 2) (sym h.string_meta) (omega arith));
      string_meta_owner = ap (λ (t : TableId). t.owner) h.string_meta;
      names = h.names;
      paths = h.paths;
      hosts = h.hosts;
    }

pub first_part : (texts : List Bytes) (g : Globals) (w : Owner) → IsScript w → AreTexts texts → law.StartsWith texts g → IsOwn texts g law.first_arena w
first_part texts g w script interned h =
    record {
      script = script;
      interned = interned;
      owned = first_owned;
      numbered = first_texts texts;
      globals = first_globals texts g h;
      shared = first_shared;
      running = tt;
    }
